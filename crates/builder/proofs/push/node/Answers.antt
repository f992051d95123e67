-- `push::node` meets its contract: the kind is put, and the node counted.
-- Assumes nothing.
use mathlib.Core.Path.{◌≡◌, refl}
use denote.Enum.Declared.{tag_of}
use lib.IntN.{pos}
use mir.Syntax.{w32}
use mir.Val.{to_z}
use Rattle.tables.specs.contracts.kind.Kind.{the_type}
use Rattle.tables.specs.Kinds.{number_of}
use Rattle.tables.specs.declared.kind.Kind.{Kind}
use Rattle.tables.specs.declared.kind.Kind.TheVariants.{False, True, And, Or, Not, Positive, Divisible, Indivisible}
use Rattle.tables.specs.declared.kind.Kind.TheVariants.{ForSome, ForAll, Zero}
use Rattle.builder.proofs.EndLaws.{word_is}
use Rattle.builder.proofs.BuiltLaws.{built_more}
use Rattle.builder.proofs.push.node.Goals as goal

-- a kind as a word is its number
as_word : (k : Kind) → to_z w32 (tag_of the_type k) ≡ pos (number_of k)
unfolding number_of
as_word False = refl
as_word True = refl
as_word And = refl
as_word Or = refl
as_word Not = refl
as_word Positive = refl
as_word Divisible = refl
as_word Indivisible = refl
as_word ForSome = refl
as_word ForAll = refl
as_word Zero = refl

pub returns : goal.returns
returns c =
    λ d fields ds is counted ends. built_more _ _ _ _ d ds is counted
    (word_is _ _ _ _ _ (as_word c.args.kind) (c.word.ensures.0 _ ends))
