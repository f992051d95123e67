-- The settings that occur: those of one literal, by its factors, and those of a rule.
-- Assumes nothing.
use mathlib.Core.Path.{◌≡◌, refl, sym, ◌∙◌, ap, ap₂}
use mathlib.Core.Bool.{Bool, true, false, not, ◌&&◌, ◌||◌, or-false, and-true, and-false}
use mathlib.Core.List.{List, [], ◌∷◌, ◌++◌}
use Prim.Native.Nat.{ℕ, ◌+◌, ◌≤◌}
use native.Mathlib.Omega.{arith}
use borrow.Author.Tests.{lt-ltb, le-ltb, ltb-true, ltb-false, eqb-true, eqb-false, eq-eqb, ne_eqb}
use lib.Dec.{eqb, ltb}
use lib.IntN.{ℤ, pos}
use Rattle.whole.specs.Integers.{eq_ℤ}
use Rattle.rules.specs.Sum.{Sum, has, factor}
use Rattle.rules.specs.Rule.{Test, Rule}
use Rattle.rules.specs.Answer.{occurs, settings_of}
use Rattle.rules.specs.Calls.{signed}
use Rattle.tables.specs.Settings.{IsSet}
use Rattle.tables.proofs.SettingLaws.{no_settings, same_settings, settings_are}
use Rattle.tables.proofs.WordLaws.{signed_low, signed_high}
use Rattle.bodies.specs.Cursor.{literals_of}
use Rattle.bodies.proofs.LiteralsLaws.{Passed}
use Rattle.bodies.proofs.LiteralsLaws.{some_of, some_append, some_gathered}

-- ---- the settings of one literal

module _ (s v u : ℕ) (p : ℕ → Bool) where
  pub without_factor : u ≡ 0 → IsSet s p → IsSet s (λ w. p w || (eqb w v && not (eqb u 0)))
  without_factor z i =
      same_settings s p (λ w. p w || (eqb w v && not (eqb u 0))) i
      (λ w h k.
      sym
      (ap (λ (t : Bool). p w || (eqb w v && not t)) (eq-eqb u 0 z)
      ∙ ap (λ (t : Bool). p w || t) (and-false (eqb w v)) ∙ or-false (p w)))

  pub with_one : ¬ (u ≡ 0) → IsSet s (λ w. p w || eqb w v) → IsSet s (λ w. p w || (eqb w v && not (eqb u 0)))
  with_one z i =
      same_settings s (λ w. p w || eqb w v) (λ w. p w || (eqb w v && not (eqb u 0))) i
      (λ w h k.
      sym
      (ap (λ (t : Bool). p w || (eqb w v && not t)) (ne_eqb u 0 z)
      ∙ ap (λ (t : Bool). p w || t) (and-true (eqb w v))))

-- the settings below v with a nonzero factor in the sum s
abbrev pub factors_below : ℕ → Sum → ℕ → Bool
factors_below v s w = ltb w v && has w s

zero_bits : (u : ℕ) → eqb u 0 ≡ eq_ℤ (signed u) (pos 0)
zero_bits u = by (ltb u 2147483648) refl
  where
    by : (b : Bool) → ltb u 2147483648 ≡ b → eqb u 0 ≡ eq_ℤ (signed u) (pos 0)
    by true t = sym (ap (λ (z : ℤ). eq_ℤ z (pos 0)) (signed_low u (ltb-true _ _ t)))
    by false t =
        let high = ltb-false _ _ t in
        ne_eqb u 0 (λ e. absurd (omega (arith, high, e)))
        ∙ sym (ap (λ (z : ℤ). eq_ℤ z (pos 0)) (signed_high u high))

grown : (w v : ℕ) (h g : Bool) → (w ≡ v → g ≡ h) → ((ltb w v && h) || (eqb w v && g)) ≡ (ltb w (v + 1) && h)
grown w v h g same = by (ltb w v) refl (eqb w v) refl
  where
    by : (a : Bool) → ltb w v ≡ a → (b : Bool) → eqb w v ≡ b
        → ((ltb w v && h) || (eqb w v && g)) ≡ (ltb w (v + 1) && h)
    by true below b e =
        let less = ltb-true w v below in
        ap₂ (λ (x y : Bool). (x && h) || (y && g)) below (ne_eqb w v (λ same. absurd (omega (arith, less, same))))
        ∙ or-false h
        ∙ sym (ap (λ (x : Bool). x && h) (lt-ltb w (v + 1) (omega (arith, less))))
    by false below true e =
        let same_one = eqb-true w v e in
        ap₂ (λ (x y : Bool). (x && h) || (y && g)) below e ∙ same same_one
        ∙ sym (ap (λ (x : Bool). x && h) (lt-ltb w (v + 1) (omega (arith, same_one))))
    by false below false e =
        let more = ltb-false w v below in
        ap₂ (λ (x y : Bool). (x && h) || (y && g)) below e
        ∙ sym (ap (λ (x : Bool). x && h) (le-ltb w (v + 1) (omega (arith, more, eqb-false w v e))))

pub none_below : (s : Sum) → IsSet 0 (factors_below 1 s)
none_below s =
    same_settings 0 (λ w. false) (factors_below 1 s) no_settings
    (λ w h k. sym (ap (λ (t : Bool). t && has w s) (le-ltb w 1 h)))

pub one_more : (r v u : ℕ) (s : Sum) → factor v s ≡ signed u
    → IsSet r (λ w. factors_below v s w || (eqb w v && not (eqb u 0))) → IsSet r (factors_below (v + 1) s)
one_more r v u s e i =
    same_settings r (λ w. factors_below v s w || (eqb w v && not (eqb u 0))) (factors_below (v + 1) s) i
    (λ w h k.
    grown w v (has w s) (not (eqb u 0))
    (λ same. ap not (zero_bits u ∙ ap (λ (z : ℤ). eq_ℤ z (pos 0)) (sym e ∙ ap (λ (v : ℕ). factor v s) (sym same)))))

pub all_below : (r v : ℕ) (s : Sum) → 7 ≤ v → IsSet r (factors_below v s) → IsSet r (λ w. has w s)
all_below r v s g i =
    same_settings r (factors_below v s) (λ w. has w s) i
    (λ w h k. ap (λ (t : Bool). t && has w s) (lt-ltb w v (omega arith)))

-- ---- the settings of a rule

-- those that occur in some of these literals
abbrev pub Occurring : ℕ → Passed
Occurring r ls = IsSet r (λ v. some_of (λ t s. has v s) ls)

pub none_occur : Occurring 0 []
unfolding some_of
none_occur = no_settings

pub more_occur : (r : ℕ) (t : Test) (s : Sum) (ks : List (Test × Sum))
    → IsSet r (λ v. some_of (λ t s. has v s) ks || has v s) → Occurring r (ks ++ ((t, s) ∷ []))
unfolding some_of
more_occur r t s ks i =
    same_settings r (λ v. some_of (λ t s. has v s) ks || has v s)
    (λ v. some_of (λ t s. has v s) (ks ++ ((t, s) ∷ []))) i
    (λ v h k.
    sym
    (some_append (λ t s. has v s) ks ((t, s) ∷ [])
    ∙ ap (λ (b : Bool). some_of (λ t s. has v s) ks || b) (or-false (has v s))))

pub settings_found : (r : ℕ) (a : Rule) → Occurring r (literals_of a) → r ≡ settings_of a
unfolding occurs
settings_found r a i =
    settings_are r a
    (same_settings r (λ v. some_of (λ t s. has v s) (literals_of a)) (λ v. occurs v a) i
    (λ v h k. sym (some_gathered (λ t s. has v s) a)))
