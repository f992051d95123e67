-- `Kind::at` meets its contract: the word is the number of a kind, so it is the number of the one that is found.
-- Assumes nothing.
use Rattle.std.proofs.Common.{rules, ◌≡◌, ◌<◌, pos, Ok, Err, Result, IsOk, ap, sym, subst, ◌∙◌}
use Rattle.rules.specs.Calls.{signed}
use Rattle.tables.specs.Kinds.{number_of, KindFrom}
use Rattle.tables.specs.declared.kind.Kind.{Kind}
use Rattle.tables.specs.declared.refusal.Refusal.{Refusal}
use Rattle.tables.proofs.WordLaws as words
use Rattle.tables.proofs.kind.Kind.at.Goals as goal
use Rattle.tables.proofs.kind.Kind.at.Goals.{After-try_from}

-- the number that is read is a kind's
read : (c : After-try_from) → signed c.natural.result ≡ pos (number_of c.requires.kind)
read c = sym c.natural.ensures.1 ∙ c.requires.numbered

found : {n : _} (r : Result Kind Refusal) (k : Kind) → KindFrom n r → n ≡ number_of k → IsOk r
unfolding KindFrom
found (Ok l) k h e = search rules
found (Err r) k h e = absurd (h.0 k e)

pub unwrap-requires : goal.unwrap-requires
unwrap-requires c = found _ _ c.try_from.ensures (words.number_of _ _ (read (goal.at.unwrap-requires c).After-try_from))

pub returns : goal.returns
unfolding KindFrom
returns c =
    let low : c.natural.result < 2147483648 =
    words.number_low _ _ (read (goal.at.returns c).After-try_from) in
    let same : c.natural.result ≡ number_of c.unwrap.result =
    subst (KindFrom c.natural.result) c.unwrap.ensures c.try_from.ensures in
    c.natural.ensures.1 ∙ words.signed_low _ low ∙ ap pos same
