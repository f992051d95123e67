-- Refusals by their numbers.
-- Assumes nothing.
use Rattle.std.proofs.Common.{◌≡◌, ℕ, ◌-◌, [], ◌∷◌, get_or, refl, sym, ap, ◌∙◌}
use Rattle.tables.specs.declared.refusal.Refusal.{Refusal}
use Rattle.tables.specs.declared.refusal.Refusal.TheVariants.{Length, Contents, Node, Tree, Number, Room, Multiple}
use Rattle.tables.specs.declared.refusal.Refusal.TheVariants.{Setting, Value, Quantifier}
use Rattle.tables.specs.Refusals.{number_of}

-- the refusal of a number
unfoldable of_number : ℕ → Refusal
of_number n =
    get_or (Length ∷ Contents ∷ Node ∷ Tree ∷ Number ∷ Room ∷ Multiple ∷ Setting ∷ Value ∷ []) (n - 1) Quantifier

back : (r : Refusal) → of_number (number_of r) ≡ r
unfolding number_of of_number
back Length = refl
back Contents = refl
back Node = refl
back Tree = refl
back Number = refl
back Room = refl
back Multiple = refl
back Setting = refl
back Value = refl
back Quantifier = refl

-- no two have the same
pub refusal_unique : (r s : Refusal) → number_of r ≡ number_of s → r ≡ s
refusal_unique r s e = sym (back r) ∙ ap of_number e ∙ back s
