-- `leaveoff_match` meets its contract: the answer of matching lies within its bits, and packs.
use Rattle.std.proofs.Common.{◌≡◌, sym, ◌∙◌, ap, subst}
use Rattle.rules.specs.Calls.{matched}
use Rattle.leaveoff.specs.Outcome.{answer_of, SaysWhether, packed, unpacked, Fits}
use Rattle.leaveoff.proofs.OutcomeLaws.{packed_back, says_whether, matched_fits, matched_again}
use Rattle.leaveoff.proofs.exports.leaveoff_match.Goals as goal
use Rattle.leaveoff.proofs.exports.leaveoff_match.Goals.{After-matches}

-- the answer is the outcome of the values as they were given
outcome : (c : After-matches)
    → answer_of c.matches.result
    ≡ matched c.args.table.now c.args.s1 c.args.s2 c.args.s3 c.args.s4 c.args.s5 c.args.s6
outcome c =
    let f = c.ranges in
    matched_again c.args.table.now f.s1 f.s2 f.s3 f.s4 f.s5 f.s6 c.matches.ensures.result_value

pub pack-requires : goal.pack-requires
pack-requires c = subst Fits (sym (outcome (goal.at.pack-requires c).After-matches)) (matched_fits _ _ _ _ _ _ _)

pub returns : goal.returns
returns c =
    let packed_is = c.pack.ensures ∙ ap packed (outcome (goal.at.returns c).After-matches) in
    let back = ap unpacked packed_is ∙ packed_back _ (matched_fits _ _ _ _ _ _ _) in
    record { value = packed_is; says_whether = subst (SaysWhether _ _) (sym back) (says_whether _ _ _ _ _ _ _) }
