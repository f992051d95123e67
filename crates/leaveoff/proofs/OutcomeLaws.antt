-- What matching's outcome says: it is one, it tells whether the rule holds, and it packs into 64 bits.
-- Assumes nothing.
use mathlib.Core.Path.{◌≡◌, refl, sym, ◌∙◌, ap, subst}
use mathlib.Core.Bool.{Bool, true, false, cond}
use mathlib.Core.List.{List, [], ◌∷◌}
use mathlib.Core.Logic.{◌↔◌}
use Prim.Native.Nat.{ℕ, ◌+◌, ◌*◌, ◌/◌, ◌%◌, ◌<◌}
use native.Mathlib.Omega.{arith}
use lib.Dec.{T}
use lib.IntN.{ℤ}
use mir.Syntax.{w32}
use mir.Val.{SFits, to_z, of_z}
use mir.Facts.{to_z-of_z}
use Rattle.rules.specs.Result.{Result, refused, given, ◌>>=◌}
use Rattle.rules.specs.Match.{matching}
use Rattle.rules.specs.Answer.{Answer, match_answer}
use Rattle.rules.specs.Calls.{rule_of, matched}
use Rattle.rules.proofs.Refusals.{parts}
use Rattle.rules.proofs.Numbers.{By, matching_by}
use Rattle.rules.proofs.Meaning.{matching_right}
use Rattle.matcher.specs.Outcome.{matching_of}
use Rattle.leaveoff.specs.Outcome.{answer_of, SaysWhether, packed, unpacked, Fits}
use Rattle.leaveoff.specs.declared.answer.Answer as declared

-- ---- packing

abbrev answer : ℕ → ℕ → ℕ → ℕ → Answer
answer n v w s = record { number = n; verdict = v; words = w; settings = s }

low_four : (v s w : ℕ) → v < 4 → (v + s * 4 + w * 16777216) % 4 ≡ v
low_four v s w h = omega arith

low_six : (s w : ℕ) → s < 64 → (s + w * 4194304) % 64 ≡ s
low_six s w h = omega arith

-- an answer whose fields lie within their bits comes back from its 64
pub packed_back : (a : Answer) → Fits a → unpacked (packed a) ≡ a
packed_back a f =
    let n = f.number_fits in
    let v = f.verdict_fits in
    let s = f.settings_fits in
    let number_back : packed a % 256 ≡ a.number = omega arith in
    let past_number : packed a / 256 ≡ a.verdict + a.settings * 4 + a.words * 16777216 = omega arith in
    let verdict_back : packed a / 256 % 4 ≡ a.verdict =
    ap (λ (x : ℕ). x % 4) past_number ∙ low_four a.verdict a.settings a.words v in
    let words_back : packed a / 4294967296 ≡ a.words = omega arith in
    let past_verdict : packed a / 1024 ≡ a.settings + a.words * 4194304 = omega arith in
    let settings_back : packed a / 1024 % 64 ≡ a.settings =
    ap (λ (x : ℕ). x % 64) past_verdict ∙ low_six a.settings a.words s in
    ap (λ (x : ℕ). answer x (packed a / 256 % 4) (packed a / 4294967296) (packed a / 1024 % 64)) number_back
    ∙ ap (λ (x : ℕ). answer a.number x (packed a / 4294967296) (packed a / 1024 % 64)) verdict_back
    ∙ ap (λ (x : ℕ). answer a.number a.verdict x (packed a / 1024 % 64)) words_back
    ∙ ap (answer a.number a.verdict a.words) settings_back

-- ---- matching

-- a value as it is handed on
abbrev again : ℤ → ℤ
again v = to_z w32 (of_z w32 v)

-- any two answers that the promise admits are equal
pub matched_once : (l : List ℕ) (s1 s2 s3 s4 s5 s6 : ℤ) (a b : declared.Answer)
    → answer_of a ≡ matched l s1 s2 s3 s4 s5 s6 → answer_of b ≡ matched l s1 s2 s3 s4 s5 s6 → a ≡ b
matched_once l s1 s2 s3 s4 s5 s6 a b e f = ap back (e ∙ sym f)
  where
    back : Answer → declared.Answer
    back a = record { number = a.number; verdict = a.verdict; words = a.words; settings = a.settings }

verdict_one : (b : Bool) → (let v : ℕ = cond b 1 2 in v ≡ 1) ↔ T b
verdict_one true = (λ e. tt, λ t. refl)
verdict_one false = (λ e. absurd (omega (arith, e)), λ t. absurd t)

module _ (l : List ℕ) (s1 s2 s3 s4 s5 s6 : ℤ) where
  abbrev values : List ℤ
  values = s1 ∷ s2 ∷ s3 ∷ s4 ∷ s5 ∷ s6 ∷ []

  pub says_whether : SaysWhether l values (matched l s1 s2 s3 s4 s5 s6)
  unfolding SaysWhether matched match_answer By
  says_whether = go (rule_of l >>= matching values) refl (matching_by l values)
    where
      go : (x : Result Bool) → (rule_of l >>= matching values) ≡ x → By 10 x → SaysWhether l values (match_answer x)
      go (refused n) e b z = absurd (omega (arith, b.0, z))
      go (given b) e f z =
          let (r, d, m) = parts (rule_of l) (matching values) e in
          let (there, back) = matching_right values r b m in
          (r, d, (λ i. there ((verdict_one b).0 i), λ h. (verdict_one b).1 (back h)))

  pub matched_fits : Fits (matched l s1 s2 s3 s4 s5 s6)
  unfolding matched match_answer By
  matched_fits = go (rule_of l >>= matching values) (matching_by l values)
    where
      fits : (n v : ℕ) → n < 256 → v < 4 → Fits (answer n v 0 0)
      fits n v h g = record { number_fits = h; verdict_fits = g; words_fits = omega arith; settings_fits = omega arith }

      go : (x : Result Bool) → By 10 x → Fits (match_answer x)
      go (refused n) b = fits n 0 (omega (arith, b.1)) (omega arith)
      go (given true) b = fits 0 1 (omega arith) (omega arith)
      go (given false) b = fits 0 2 (omega arith) (omega arith)

-- six values as they are handed on are those that were given
values_again : {s1 s2 s3 s4 s5 s6 : ℤ}
    → SFits w32 s1 → SFits w32 s2 → SFits w32 s3 → SFits w32 s4 → SFits w32 s5 → SFits w32 s6
    → (again s1 ∷ again s2 ∷ again s3 ∷ again s4 ∷ again s5 ∷ again s6 ∷ []) ≡ (s1 ∷ s2 ∷ s3 ∷ s4 ∷ s5 ∷ s6 ∷ [])
values_again f1 f2 f3 f4 f5 f6 =
    rw (to_z-of_z f1, to_z-of_z f2, to_z-of_z f3, to_z-of_z f4, to_z-of_z f5, to_z-of_z f6) refl

-- so an answer to the one is an answer to the other
pub matched_again : (l : List ℕ) {s1 s2 s3 s4 s5 s6 : ℤ} {a : Answer}
    → SFits w32 s1 → SFits w32 s2 → SFits w32 s3 → SFits w32 s4 → SFits w32 s5 → SFits w32 s6
    → a ≡ matched l (again s1) (again s2) (again s3) (again s4) (again s5) (again s6)
    → a ≡ matched l s1 s2 s3 s4 s5 s6
unfolding matched
matched_again l f1 f2 f3 f4 f5 f6 e =
    e ∙ ap (λ (vs : List ℤ). match_answer (rule_of l >>= matching vs)) (values_again f1 f2 f3 f4 f5 f6)

-- an answer that says what matching gave: the definition's, and it tells whether the rule holds
pub matched_answer : (l : List ℕ) {s1 s2 s3 s4 s5 s6 : ℤ} {a : Answer} (x : Result Bool)
    → SFits w32 s1 → SFits w32 s2 → SFits w32 s3 → SFits w32 s4 → SFits w32 s5 → SFits w32 s6 → a ≡ match_answer x
    → x ≡ matching_of l (again s1 ∷ again s2 ∷ again s3 ∷ again s4 ∷ again s5 ∷ again s6 ∷ [])
    → (a ≡ matched l s1 s2 s3 s4 s5 s6) × SaysWhether l (s1 ∷ s2 ∷ s3 ∷ s4 ∷ s5 ∷ s6 ∷ []) a
unfolding matched matching_of
matched_answer l {s1} {s2} {s3} {s4} {s5} {s6} x f1 f2 f3 f4 f5 f6 e g =
    let is = matched_again l f1 f2 f3 f4 f5 f6 (e ∙ ap match_answer g) in
    (is, subst (SaysWhether l (s1 ∷ s2 ∷ s3 ∷ s4 ∷ s5 ∷ s6 ∷ [])) (sym is) (says_whether l s1 s2 s3 s4 s5 s6))
