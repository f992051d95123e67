-- What checking a table answers, against the definitions of Decode.
-- Assumes nothing.
use Rattle.std.specs.Prelude.{◌≡◌, List, ◌++◌, ℕ, ◌+◌, ◌-◌, ℤ, length, take, drop, Option, Some, None, Ok, Err}
use Rattle.std.specs.Prelude.{Result as Answer}
use Rattle.rules.specs.Rule.{Rule}
use Rattle.rules.specs.Result.{Result, refused, given}
use Rattle.rules.specs.Table.{Node, count, nodes, bodies}
use Rattle.rules.specs.Decode.{read}
use Rattle.rules.proofs.Sizes.{weight}
use Rattle.rules.proofs.Encoding.{AllGood}
use Rattle.tables.specs.declared.extent.Extent.{Extent}
use Rattle.tables.specs.declared.refusal.Refusal.{Refusal}
use Rattle.tables.specs.Refusals.{number_of}

-- ---- the tree

-- nodes begin with those of a rule, of so many nodes and words; or with those of none
unfoldable pub TreeOf : List Node → Option Extent → Type 0
TreeOf ds (Some e) = (r : Rule) × (f : List Node) × (ds ≡ nodes r ++ f) × (e.nodes ≡ count r) × (e.words ≡ weight r)
TreeOf ds None = (r : Rule) (f : List Node) → ¬ (ds ≡ nodes r ++ f)

-- the words bs are the bodies of the nodes ds, so many of them, from node n on
pub record ListedAs (bs : List ℤ) (n left : ℕ) (ds : List Node) : Type 0 where
  pub bodies_are : bs ≡ bodies n ds
  pub long : length ds ≡ left
  pub good : AllGood ds

-- those of some nodes
pub record Listed (bs : List ℤ) (n left : ℕ) : Type 0 where
  pub nodes : List Node
  pub listed : ListedAs bs n left nodes

-- the tree that starts these bodies, whatever nodes they are
unfoldable pub TreeAt : List ℤ → ℕ → ℕ → Option Extent → Type 0
TreeAt bs n left v = (ds : List Node) → ListedAs bs n left ds → TreeOf ds v

-- ---- the verdict

-- something of n nodes is given, or it is refused by this number
unfoldable pub Judged : {A : Type 0} → (A → ℕ) → Result A → Answer ℕ Refusal → Type 0
Judged {A} size x (Ok n) = (a : A) × (x ≡ given a) × (n ≡ size a)
Judged size x (Err k) = x ≡ refused (number_of k)

-- the nodes of the table W from node i and place p on: their entries, and the words from p
abbrev pub rest : List ℤ → ℕ → ℕ → ℕ → Result (List Node)
rest W n i p = read i (take (n - i) (drop (i + 1) W)) p (drop p W)

-- a rule of n nodes is given, or the bytes are refused by this number
unfoldable pub Verdict : Result Rule → Answer ℕ Refusal → Type 0
unfolding Judged
Verdict x v = Judged count x v
