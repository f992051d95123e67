-- Linear facts over ℤ in the middle of a proof: each integer x is U x − D x, and `omega` reasons about these naturals.
-- Assumes nothing.
-- To use it: `omega (zarith, sum b p, dif x d)` proves a goal `≤ℤ`, `<ℤ` or `≡` from the hypotheses of this kind
-- in reach. Each compound term of the goal and of these hypotheses is listed once, from the outside in:
-- `sum a b` for a +ℤ b, `dif a b` for a -ℤ b, `neg a` for neg_ℤ a, `mul c a` for pos c *ℤ a.
use mathlib.Core.Path.{◌≡◌, sym, ◌∙◌, ap, ap₂, subst₂}
use Prim.Native.Nat.{ℕ, suc, ◌+◌, ◌*◌, ◌≤◌, ◌<◌}
use native.Mathlib.Omega.{arith}
use lib.IntN.{ℤ, pos, negsuc, neg_ℤ, ◌+ℤ◌, ◌-ℤ◌, ◌*ℤ◌}
use lib.Signed.{◌≤ℤ◌, ◌<ℤ◌}
use Rattle.whole.proofs.Difference.{◌⊖◌, pos_is, negsuc_is, ⊖-add, ⊖-neg, ⊖-mul, ⊖-le, ⊖-lt, ⊖-eq}

-- the part above 0, and the part below
abbrev pub U : ℤ → ℕ
U (pos n) = n
U (negsuc n) = 0

abbrev pub D : ℤ → ℕ
D (pos n) = 0
D (negsuc n) = suc n

pub split : (x : ℤ) → x ≡ U x ⊖ D x
split (pos n) = pos_is n
split (negsuc n) = negsuc_is n

-- ---- the rules: ↓ reads a hypothesis, ↑ turns the goal

pub le↓ : (a b : ℤ) → a ≤ℤ b → U a + D b ≤ U b + D a
le↓ a b h = (⊖-le (U a) (D a) (U b) (D b)).0 (subst₂ ◌≤ℤ◌ (split a) (split b) h)

pub lt↓ : (a b : ℤ) → a <ℤ b → U a + D b < U b + D a
lt↓ a b h = (⊖-lt (U a) (D a) (U b) (D b)).0 (subst₂ ◌<ℤ◌ (split a) (split b) h)

pub eq↓ : (a b : ℤ) → a ≡ b → U a + D b ≡ U b + D a
eq↓ a b h = (⊖-eq (U a) (D a) (U b) (D b)).0 (sym (split a) ∙ h ∙ split b)

pub le↑ : (a b : ℤ) → U a + D b ≤ U b + D a → a ≤ℤ b
le↑ a b h = subst₂ ◌≤ℤ◌ (sym (split a)) (sym (split b)) ((⊖-le (U a) (D a) (U b) (D b)).1 h)

pub lt↑ : (a b : ℤ) → U a + D b < U b + D a → a <ℤ b
lt↑ a b h = subst₂ ◌<ℤ◌ (sym (split a)) (sym (split b)) ((⊖-lt (U a) (D a) (U b) (D b)).1 h)

pub eq↑ : (a b : ℤ) → U a + D b ≡ U b + D a → a ≡ b
eq↑ a b h = split a ∙ (⊖-eq (U a) (D a) (U b) (D b)).1 h ∙ sym (split b)

pub ruleset zarith = (arith, le↓, lt↓, eq↓, le↑, lt↑, eq↑)

-- ---- the parts of a compound term

parts : (x : ℤ) (p q : ℕ) → x ≡ p ⊖ q → U x + q ≡ p + D x
parts x p q e = (⊖-eq (U x) (D x) p q).0 (sym (split x) ∙ e)

pub sum : (a b : ℤ) → U (a +ℤ b) + (D a + D b) ≡ U a + U b + D (a +ℤ b)
sum a b = parts (a +ℤ b) _ _ (ap₂ ◌+ℤ◌ (split a) (split b) ∙ ⊖-add (U a) (D a) (U b) (D b))

pub neg : (a : ℤ) → U (neg_ℤ a) + U a ≡ D a + D (neg_ℤ a)
neg a = parts (neg_ℤ a) _ _ (ap neg_ℤ (split a) ∙ ⊖-neg (U a) (D a))

pub dif : (a b : ℤ) → U (a -ℤ b) + (D a + U b) ≡ U a + D b + D (a -ℤ b)
dif a b = parts (a -ℤ b) _ _ (ap₂ ◌-ℤ◌ (split a) (split b) ∙ turned ∙ ⊖-add (U a) (D a) (D b) (U b))
  where
    turned : (U a ⊖ D a) -ℤ (U b ⊖ D b) ≡ (U a ⊖ D a) +ℤ (D b ⊖ U b)
    turned = ap (λ x. (U a ⊖ D a) +ℤ x) (⊖-neg (U b) (D b))

pub mul : (c : ℕ) (a : ℤ) → U (pos c *ℤ a) + c * D a ≡ c * U a + D (pos c *ℤ a)
mul c a =
    omega (arith, parts (pos c *ℤ a) _ _ (ap₂ ◌*ℤ◌ (pos_is c) (split a) ∙ ⊖-mul c 0 (U a) (D a)))
