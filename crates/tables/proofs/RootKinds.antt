-- The kind of a rule's root: its number stands first in the rule's bodies, and no two kinds have one number.
-- Assumes nothing.
use Rattle.std.proofs.Common.{◌≡◌, true, false, List, [], ◌∷◌, ◌++◌, Bool, ℕ, zero, suc, ◌+◌, ◌<◌, ◌≤◌, pos, get_or, refl, sym, ap, ◌∙◌, arith}
use native.Mathlib.Omega.{arith}
use borrow.Author.Tests.{ltb-true, ltb-false}
use lib.Dec.{ltb}
use mathlib.Core.List.{append_assoc}
use lib.IntN.{ℤ}
use Rattle.rules.specs.Rule.{and, or, for_some, for_all, positive, divisible, is_zero}
use Rattle.rules.specs.Rule.{Rule, Constant, Join, Not, Literal, Bind}
use Rattle.rules.specs.Table.{Node, constant_node, join_node, not_node, literal_node, bind_node}
use Rattle.rules.specs.Table.{nodes, bodies, body}
use Rattle.tables.specs.Reads as reads
use Rattle.tables.specs.Kinds.{number_of, Kinded, kind_of}
use Rattle.tables.specs.Standing.{Nodes, Stands}
use Rattle.tables.specs.declared.kind.Kind.{Kind}
use Rattle.tables.specs.declared.kind.Kind.TheVariants as kind
use Rattle.tables.proofs.KindLaws.{first_word}
use Rattle.tables.proofs.Standings.{root_there}

-- ---- no two kinds have one number

all : List Kind
all = kind.False ∷ kind.True ∷ kind.And ∷ kind.Or ∷ kind.Not ∷ kind.Positive ∷ kind.Divisible ∷ kind.Indivisible
    ∷ kind.ForSome ∷ kind.ForAll ∷ kind.Zero ∷ []

listed : (k : Kind) → get_or all (number_of k) kind.Zero ≡ k
unfolding number_of all
listed kind.False = refl
listed kind.True = refl
listed kind.And = refl
listed kind.Or = refl
listed kind.Not = refl
listed kind.Positive = refl
listed kind.Divisible = refl
listed kind.Indivisible = refl
listed kind.ForSome = refl
listed kind.ForAll = refl
listed kind.Zero = refl

pub same_kind : (k l : Kind) → number_of k ≡ number_of l → k ≡ l
same_kind k l e = sym (listed k) ∙ ap (λ (n : ℕ). get_or all n kind.Zero) e ∙ listed l

-- a number below 11 is a kind's
pub of_number : (n : ℕ) → n < 11 → (k : Kind) × (n ≡ number_of k)
unfolding number_of
of_number zero h = (kind.False, refl)
of_number (suc zero) h = (kind.True, refl)
of_number (suc (suc zero)) h = (kind.And, refl)
of_number (suc (suc (suc zero))) h = (kind.Or, refl)
of_number (suc (suc (suc (suc zero)))) h = (kind.Not, refl)
of_number (suc (suc (suc (suc (suc zero))))) h = (kind.Positive, refl)
of_number (suc (suc (suc (suc (suc (suc zero)))))) h = (kind.Divisible, refl)
of_number (suc (suc (suc (suc (suc (suc (suc zero))))))) h = (kind.Indivisible, refl)
of_number (suc (suc (suc (suc (suc (suc (suc (suc zero)))))))) h = (kind.ForSome, refl)
of_number (suc (suc (suc (suc (suc (suc (suc (suc (suc zero))))))))) h = (kind.ForAll, refl)
of_number (suc (suc (suc (suc (suc (suc (suc (suc (suc (suc zero)))))))))) h = (kind.Zero, refl)
of_number (suc (suc (suc (suc (suc (suc (suc (suc (suc (suc (suc n))))))))))) h = absurd (omega arith)

pub beyond : (n : ℕ) → ((k : Kind) → ¬ (n ≡ number_of k)) → 11 ≤ n
beyond n none = by (ltb n 11) refl
  where
    by : (b : Bool) → ltb n 11 ≡ b → 11 ≤ n
    by true t = let (k, e) = of_number n (ltb-true _ _ t) in absurd (none k e)
    by false t = ltb-false _ _ t

pub small : (k : Kind) → number_of k < 2147483648
unfolding number_of
small kind.False = omega arith
small kind.True = omega arith
small kind.And = omega arith
small kind.Or = omega arith
small kind.Not = omega arith
small kind.Positive = omega arith
small kind.Divisible = omega arith
small kind.Indivisible = omega arith
small kind.ForSome = omega arith
small kind.ForAll = omega arith
small kind.Zero = omega arith

-- the kind of a node
pub node_kind : (d : Node) → (k : Kind) × (reads.kind_of d ≡ number_of k)
unfolding number_of reads.kind_of
node_kind (constant_node false) = (kind.False, refl)
node_kind (constant_node true) = (kind.True, refl)
node_kind (join_node and right) = (kind.And, refl)
node_kind (join_node or right) = (kind.Or, refl)
node_kind not_node = (kind.Not, refl)
node_kind (literal_node positive s) = (kind.Positive, refl)
node_kind (literal_node (divisible true n) s) = (kind.Divisible, refl)
node_kind (literal_node (divisible false n) s) = (kind.Indivisible, refl)
node_kind (literal_node is_zero s) = (kind.Zero, refl)
node_kind (bind_node for_some v) = (kind.ForSome, refl)
node_kind (bind_node for_all v) = (kind.ForAll, refl)

-- ---- the number of the root's kind is the first word

root_word : {es bs : List ℤ} {n p : ℕ} (d : Node) (ds : List Node) → Nodes es bs n p (d ∷ ds)
    → get_or bs 0 (pos 0) ≡ pos (reads.kind_of d)
unfolding bodies
root_word {n = n} d ds s =
    let here = s.bodies ∙ append_assoc (body n d) (bodies (n + 1) ds) s.bodies_after in
    ap (λ (l : List ℤ). get_or l 0 (pos 0)) here ∙ first_word n d (bodies (n + 1) ds ++ s.bodies_after)

pub root_first : {es bs : List ℤ} {n p : ℕ} (a : Rule) → Stands es bs n p a
    → get_or bs 0 (pos 0) ≡ pos (number_of (kind_of a))
unfolding nodes number_of kind_of reads.kind_of
root_first (Constant false) s = root_word (constant_node false) [] s
root_first (Constant true) s = root_word (constant_node true) [] s
root_first (Join and a b) s = root_word (join_node and _) _ s
root_first (Join or a b) s = root_word (join_node or _) _ s
root_first (Not a) s = root_word not_node (nodes a) s
root_first (Literal positive t) s = root_word (literal_node positive t) [] s
root_first (Literal (divisible true k) t) s = root_word (literal_node (divisible true k) t) [] s
root_first (Literal (divisible false k) t) s = root_word (literal_node (divisible false k) t) [] s
root_first (Literal is_zero t) s = root_word (literal_node is_zero t) [] s
root_first (Bind for_some v a) s = root_word (bind_node for_some v) (nodes a) s
root_first (Bind for_all v a) s = root_word (bind_node for_all v) (nodes a) s

pub root_kinded : {es bs : List ℤ} {n p : ℕ} (a : Rule) → Stands es bs n p a → Kinded bs 0
root_kinded a s = record { there = omega (arith, (root_there a s).1); kind = kind_of a; numbered = root_first a s }

-- so a kind whose number is read there is the root's
pub root_read : {es bs : List ℤ} {n p : ℕ} (k : Kind) (a : Rule) → Stands es bs n p a
    → get_or bs 0 (pos 0) ≡ pos (number_of k) → k ≡ kind_of a
root_read k a s e = same_kind k (kind_of a) (let same : pos (number_of k) ≡ pos (number_of (kind_of a)) = sym e ∙ root_first a s in cc)
