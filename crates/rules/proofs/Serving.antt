-- What each step puts in for the chosen quantifier may stand there, whatever the limits: it has the shape and the
-- meaning, and frees no setting.
-- Assumes nothing.
use mathlib.Core.Bool.{true}
use Prim.Native.Nat.{ℕ, ◌≤◌, ◌<◌}
use native.Mathlib.Omega.{arith}
use lib.Dec.{T}
use lib.IntN.{pos}
use Rattle.rules.specs.Rule.{Quantifier, for_some, for_all, Rule, Bind, Some, All}
use Rattle.rules.specs.Table.{is_setting}
use Rattle.rules.specs.Chosen.{quantifiers}
use Rattle.rules.specs.Steps.{by_some, normal, common_factor, scaled, period, disjunction}
use Rattle.rules.specs.Laws.{Same, QuantifierFree, PositiveDivisor, Each, Normal, NoZero, UnitFactor}
use Rattle.rules.proofs.Encoding.{setting_range}
use Rattle.rules.proofs.Meaning.{bind_same, for_all_keeps}
use Rattle.rules.proofs.NormalForm.{normal_keeps, normal_normal}
use Rattle.rules.proofs.OverLiterals.{normal_free, each_imp}
use Rattle.rules.proofs.CommonFactor.{common_factor_keeps}
use Rattle.rules.proofs.Disjuncts.{disjunction_free}
use Rattle.rules.proofs.Disjunction.{disjunction_keeps}
use Rattle.rules.proofs.Shapes.{Shape, normal_shape, Seven, shape_substitutes, disjunction_each, scaled_unit}
use Rattle.rules.proofs.Shapes.{scaled_each}
use Rattle.rules.proofs.Freedom.{NotFree, some_normal_frees, some_scaled_frees, disjunction_frees}

-- what may stand in the place of the chosen quantifier q x over a
pub record Serves (q : Quantifier) (x : ℕ) (a new : Rule) : Type 0 where
  pub shape : Each Shape new
  pub means : Same new (Bind q x a)
  pub frees : (v : ℕ) → 1 ≤ v → NotFree v (Bind q x a) → NotFree v new
  pub few : quantifiers new ≤ 1

-- another body under for some x
pub record Rebodies (x : ℕ) (a b : Rule) : Type 0 where
  pub shape : Each Shape b
  pub free : QuantifierFree b
  pub means : Same (Some x b) (Some x a)
  pub frees : (v : ℕ) → 1 ≤ v → NotFree v (Some x a) → NotFree v (Some x b)

-- ---- the steps

pub by_some_serves : (x : ℕ) (a : Rule) → QuantifierFree a → Each Shape (All x a) → Serves for_all x a (by_some x a)
unfolding Each quantifiers NotFree
by_some_serves x a e h = record { shape = h; means = for_all_keeps x a e; frees = λ v g n. n; few = omega arith }

pub normal_rebodies : (x : ℕ) (a : Rule) → QuantifierFree a → Each Shape a → Rebodies x a (normal true x a)
normal_rebodies x a e h = record {
  shape = normal_shape true x a h;
  free = normal_free NoZero (normal true x a) (normal_normal true x a e);
  means = bind_same for_some x (normal true x a) a (λ ρ. normal_keeps true x a e ρ);
  frees = λ v g. some_normal_frees v g x a;
}

pub scaled_rebodies : (x : ℕ) (a : Rule) → T (is_setting (pos x)) → Normal NoZero a → Each Shape a
    → Rebodies x a (scaled (common_factor x a) x a)
scaled_rebodies x a t n h =
    let D : ℕ = common_factor x a in
    record {
      shape = scaled_each x a (setting_range x t).1 h;
      free = normal_free (UnitFactor x) (scaled D x a) (scaled_unit D x a n);
      means = common_factor_keeps x a (setting_range x t).0 n;
      frees = λ v g. some_scaled_frees v g D x a n;
    }

pub disjunction_serves : (x : ℕ) (a : Rule) → T (is_setting (pos x)) → Normal (UnitFactor x) a → Each Shape a
    → Serves for_some x a (disjunction (period a) x a) × QuantifierFree (disjunction (period a) x a)
disjunction_serves x a t u h = (
  record {
    shape = disjunction_each x Shape Seven Shape (shape_substitutes x range.1) (period a) a h;
    means = disjunction_keeps x a range.0 u (each_imp Shape PositiveDivisor (λ t s k. k.1) a h);
    frees = λ v i. disjunction_frees v i (UnitFactor x) (period a) x a u;
    few = omega (arith, free);
  },
  free,
)
  where
    range : (1 ≤ x) × (x < 7)
    range = setting_range x t

    free : QuantifierFree (disjunction (period a) x a)
    free = disjunction_free (period a) x a (normal_free (UnitFactor x) a u)
