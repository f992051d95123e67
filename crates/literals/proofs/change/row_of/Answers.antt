-- `change::row_of` meets its contract: the factor of x says what becomes of each word.
-- Assumes nothing.
use borrow.Author.Rules.{sfits_of}
use mir.Syntax.{w64}
use Rattle.literals.proofs.Sizes.{again}
use Rattle.literals.proofs.ChangeLaws.{scaled_fair, far_fair, full_fair, far_small, full_small, row_same, row_scaled, row_far, row_full}
use Rattle.literals.proofs.change.row_of.Goals as goal

pub factor-f-requires : goal.factor-f-requires
factor-f-requires c =
    (c.requires.0, (scaled_fair c.in-Scaled.is c.requires.1.fair).0)

pub multiplier-requires : goal.multiplier-requires
multiplier-requires c =
    let f = c.factor-f in (
      again w64 (sfits_of {z = f.result} f.type_inv) f.ensures.1,
      (scaled_fair c.in-Scaled.is c.requires.1.fair).1,
    )

pub factor-requires : goal.factor-requires
factor-requires c =
    (c.requires.0, (far_fair c.in-Far.is c.requires.1.fair).1)

pub factor-requires-in-Full : goal.factor-requires-in-Full
factor-requires-in-Full c =
    (c.requires.0, (full_fair c.in-Full.is c.requires.1.fair).1)

pub returns-in-Same : goal.returns-in-Same
returns-in-Same c = (λ n t s l. (row_same c.in-Same.is).0 s, (row_same c.in-Same.is).1)

pub returns-in-Scaled : goal.returns-in-Scaled
returns-in-Scaled c =
    let f = c.factor-f in
    let g = c.signum in (
      λ n t s l. row_scaled c.in-Scaled.is (sfits_of {z = f.result} f.type_inv)
          (sfits_of {z = g.result} g.type_inv)
          g.ensures.value c.multiplier.ensures.0 s (f.ensures.0 n t s l),
      c.multiplier.ensures.1,
    )

pub returns-in-Far : goal.returns-in-Far
returns-in-Far c =
    let f = c.factor in
    let fits = sfits_of {z = f.result} f.type_inv in (
      λ n t s l. row_far c.in-Far.is fits s (f.ensures.0 n t s l),
      (again w64 fits f.ensures.1, far_small c.in-Far.is c.requires.1),
    )

pub returns-in-Full : goal.returns-in-Full
returns-in-Full c =
    let f = c.factor-in-Full in
    let fits = sfits_of {z = f.result} f.type_inv in (
      λ n t s l. row_full c.in-Full.is fits s (f.ensures.0 n t s l),
      (again w64 fits f.ensures.1, full_small c.in-Full.is c.requires.1),
    )
