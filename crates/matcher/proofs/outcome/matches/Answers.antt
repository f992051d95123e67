-- `matches` meets its contract: the check's refusal, then 10, then 9, then whether the rule holds.
use Rattle.std.proofs.Common.{◌≡◌, refl, sym, ap, ◌∙◌, arith}
use Rattle.std.proofs.lemmas.Result.{err_from_is_err_and}
use Rattle.std.specs.Option.{is_some}
use Rattle.rules.specs.Rule.{Rule}
use Rattle.rules.specs.Result.{given}
use Rattle.rules.specs.Chosen.{quantified}
use Rattle.tables.specs.Refusals.{number_of}
use Rattle.tables.proofs.Passed.{TableOf, passed, table_at, table_most, table_inside}
use Rattle.matcher.proofs.MatchedLaws.{table_refused, quantified_by, matchable, not_matched, not_ranged, matched}
use Rattle.matcher.proofs.outcome.matches.Goals as goal
use Rattle.matcher.proofs.outcome.matches.Goals.{In_ok-n, After-last}

-- the table that the check passed
table : (c : In_ok-n) → (r : Rule) × TableOf c.args.t.now c.in_ok-n.n r
table c = passed c.args.t.now c.in_ok-n.n refl c.in_ok-n.ensures

-- whether its rule has a quantifier
told : (c : After-last) {r : Rule} → TableOf c.args.t.now c.in_ok-n.n r → is_some c.last.result ≡ quantified r
told c {r} t = quantified_by r c.last.result (c.last.ensures r (table_at t) t.counted)

pub returns-in_err-n : goal.returns-in_err-n
returns-in_err-n c =
    let p = err_from_is_err_and c.from_residual.result c.from_residual.ensures.1 in
    rw (p.1, p.2) (table_refused c.args.t.now c.args.values.now _ c.in_err-n.ensures)

pub last-requires : goal.last-requires
last-requires c = let (r, t) = table c in (r, table_at t, t.counted)

pub returns-then-is_some : goal.returns-then-is_some
unfolding number_of
returns-then-is_some c =
    let at = goal.at.returns-then-is_some c in
    let (r, t) = table at.In_ok-n in
    not_matched t c.args.values.now (sym (c.if-is_some.ensures ∙ told at.After-last t))

pub returns-then-not-all_within : goal.returns-then-not-all_within
unfolding number_of
returns-then-not-all_within c =
    let at = goal.at.returns-then-not-all_within c in
    let (r, t) = table at.In_ok-n in
    not_ranged t c.args.values.now (sym (c.if-is_some.ensures ∙ told at.After-last t)) (sym c.if-not-all_within.ensures)

pub overflow_add-n : goal.overflow_add-n
overflow_add-n c =
    let (r, t) = table (goal.at.overflow_add-n c).In_ok-n in omega (arith, table_most t, table_inside t)

pub verdict-requires-clause-some_matchable : goal.verdict-requires-clause-some_matchable
verdict-requires-clause-some_matchable c =
    let at = goal.at.verdict-requires-clause-some_matchable c in
    let (r, t) = table at.In_ok-n in
    let free = sym (c.if-is_some.ensures ∙ told at.After-last t) in
    record { rule = r; matchable = matchable t free }

pub returns : goal.returns
returns c =
    let at = goal.at.returns c in
    let (r, t) = table at.In_ok-n in
    let free = sym (c.if-is_some.ensures ∙ told at.After-last t) in
    ap given (c.verdict.ensures r (matchable t free))
    ∙ matched t c.args.values.now free (sym c.if-not-all_within.ensures)
