-- `chain::over` meets its contract: the kind says whether it is a not or a quantifier, whose setting is behind it.
-- Assumes nothing.
use mathlib.Core.Path.{refl}
use mathlib.Core.Bool.{true, false}
use Rattle.walks.proofs.LinkLaws.{over_kinded, not_asks, not_over, setting_there, bind_asks, bind_over}
use Rattle.walks.proofs.LinkLaws.{some_kind, for_some_kind, other_kind}
use Rattle.walks.proofs.chain.over.Goals as goal

pub at-requires : goal.at-requires
at-requires c = over_kinded c.requires

pub negated-requires : goal.negated-requires
negated-requires c = not_asks (record { some = c.requires; first = c.in-Not.ensures }) refl

pub returns-in-Not : goal.returns-in-Not
returns-in-Not c = not_over (record { some = c.requires; first = c.in-Not.ensures }) refl _ _ c.negated.ensures

pub natural-requires : goal.natural-requires
natural-requires c = setting_there (record { some = c.requires; first = c.in-ForSome.ensures }) some_kind

pub bound-requires : goal.bound-requires
bound-requires c =
    bind_asks (record { some = c.requires; first = c.in-ForSome.ensures }) some_kind _ c.natural.ensures.1

pub returns-in-ForSome : goal.returns-in-ForSome
returns-in-ForSome c =
    bind_over (record { some = c.requires; first = c.in-ForSome.ensures }) some_kind _ c.natural.ensures.1
    true for_some_kind _ _ c.bound.ensures

pub natural-requires-in_default : goal.natural-requires-in_default
natural-requires-in_default c =
    setting_there (record { some = c.requires; first = c.at.ensures }) c.in_default.not-Not

pub bound-requires-in_default : goal.bound-requires-in_default
bound-requires-in_default c =
    bind_asks (record { some = c.requires; first = c.at.ensures }) c.in_default.not-Not _
    c.natural-in_default.ensures.1

pub returns-in_default : goal.returns-in_default
returns-in_default c =
    bind_over (record { some = c.requires; first = c.at.ensures }) c.in_default.not-Not _ c.natural-in_default.ensures.1
    false (other_kind c.in_default.not-ForSome) _ _ c.bound-in_default.ensures
