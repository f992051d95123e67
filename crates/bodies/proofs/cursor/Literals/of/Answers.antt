-- `Literals::of` meets its contract: at the start of a body all its literals are left.
use Rattle.std.proofs.Common.{refl}
use Rattle.bodies.proofs.CursorLaws.{all_remain}
use Rattle.bodies.proofs.cursor.Literals.of.Goals as goal

pub returns : goal.returns
returns c =
    let some = c.requires in (
      record {
        literals = _;
        left = record { here = refl; ends = refl; remaining = all_remain some.rule some.body };
        few = some.few;
      },
      λ n a b. record { here = refl; ends = refl; remaining = all_remain a b },
    )
