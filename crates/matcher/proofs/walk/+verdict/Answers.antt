-- `verdict` meets its contract: the kind tells what the rule is, and what is walked next.
use Rattle.std.proofs.Common.{◌≡◌, Bool, true, false, not, ℕ, refl, sym, ap, subst, ◌∙◌, arith}
use mathlib.Core.Logic.{◌⊎◌, inl, inr}
use Rattle.rules.specs.Rule.{and, or}
use Rattle.tables.specs.Kinds.{join_kind}
use Rattle.tables.specs.declared.kind.Kind.TheVariants.{False, True, And, Or}
use Rattle.matcher.proofs.WalkLaws.{opposite, part_there, whole, in_part, of_part, some_in, some_of, within_behind}
use Rattle.matcher.proofs.WalkLaws.{walk_begins, come_to, walk_ends, falls, Says, false_says, true_says}
use Rattle.matcher.proofs.WalkLaws.{not_there, shorter, onto_not, LiteralKind, some_literal, literal_says}
use Rattle.matcher.proofs.WalkLaws.{JoinKind, join_in, some_left, left_within, left_shorter, left_says}
use Rattle.matcher.proofs.WalkLaws.{right_within, right_shorter, onto_right}
use Rattle.matcher.proofs.walk.+verdict.Goals as goal
use Rattle.matcher.proofs.walk.+verdict.Goals.{In-And, After-is_true, After-is_and, In_default}

-- behind the match the kind is that of an and or an or
joint : (t : ℕ) (c : In-And t) → (s : Bool) × JoinKind c.loop-odd.rule s
unfolding join_kind
joint t c = by c.in-And.is
  where
    by : c.kind-kind.result ≡ And ⊎ c.kind-kind.result ≡ Or → (s : Bool) × JoinKind c.loop-odd.rule s
    by (inl e) = (false, record { joint = and; kinded = λ a at. sym e ∙ c.kind-kind.ensures a at; settles = refl })
    by (inr e) = (true, record { joint = or; kinded = λ a at. sym e ∙ c.kind-kind.ensures a at; settles = refl })

-- and the value that settles it is the opposite of what is told
settled : (t : ℕ) (c : After-is_and t) → JoinKind c.loop-odd.rule (not c.is_and.result)
unfolding join_kind
settled t c = by c.in-And.is
  where
    by : c.kind-kind.result ≡ And ⊎ c.kind-kind.result ≡ Or → JoinKind c.loop-odd.rule (not c.is_and.result)
    by (inl e) = record {
      joint = and;
      kinded = λ a at. sym e ∙ c.kind-kind.ensures a at;
      settles = ap not (c.is_and.ensures.yes e);
    }
    by (inr e) = record {
      joint = or;
      kinded = λ a at. sym e ∙ c.kind-kind.ensures a at;
      settles = ap not (c.is_and.ensures.no e);
    }

-- a constant says what its kind does
constant : (t : ℕ) (c : After-is_true t) → Says c.loop-odd.rule c.args.values.now c.is_true.result
constant t c = by c.in-False.is
  where
    told : {x : Bool} → c.is_true.result ≡ x → Says c.loop-odd.rule c.args.values.now x
        → Says c.loop-odd.rule c.args.values.now c.is_true.result
    told e says = subst (λ (x : Bool). Says c.loop-odd.rule c.args.values.now x) (sym e) says

    by : c.kind-kind.result ≡ False ⊎ c.kind-kind.result ≡ True
        → Says c.loop-odd.rule c.args.values.now c.is_true.result
    by (inl e) = told (c.is_true.ensures.no e) (false_says c.kind-kind.ensures c.args.values.now e)
    by (inr e) = told (c.is_true.ensures.yes e) (true_says c.kind-kind.ensures c.args.values.now e)

pub at-rule-requires : goal.at-rule-requires
at-rule-requires t c = part_there c.requires.some_matchable

pub loop-odd-init : goal.loop-odd-init
loop-odd-init t c = (walk_begins _ _, whole c.at-rule.ensures)

pub returns-in-False : goal.returns-in-False
returns-in-False t c a m = walk_ends c.loop-odd.invariant.0 (constant t c) a (in_part c.at-rule.ensures m)

pub behind-rule-requires : goal.behind-rule-requires
behind-rule-requires t c = not_there (come_to c.loop-odd.invariant.0 (some_in c.at-rule.ensures c.requires.some_matchable))

pub loop-odd-smaller-in-Not : goal.loop-odd-smaller-in-Not
loop-odd-smaller-in-Not t c = shorter (come_to c.loop-odd.invariant.0 (some_in c.at-rule.ensures c.requires.some_matchable)) c.behind-rule.ensures

pub loop-odd-preserved-in-Not : goal.loop-odd-preserved-in-Not
loop-odd-preserved-in-Not t c =
    let here = come_to c.loop-odd.invariant.0 (some_in c.at-rule.ensures c.requires.some_matchable) in (
      onto_not c.loop-odd.invariant.0 c.kind-kind.ensures c.in-Not.is here c.behind-rule.ensures,
      within_behind c.loop-odd.invariant.1 c.behind-rule.ensures,
    )

pub left-side-requires : goal.left-side-requires
left-side-requires t c = join_in (joint t c).1 (come_to c.loop-odd.invariant.0 (some_in c.at-rule.ensures c.requires.some_matchable))

pub verdict-left-requires : goal.verdict-left-requires
verdict-left-requires t c =
    let here = come_to c.loop-odd.invariant.0 (some_in c.at-rule.ensures c.requires.some_matchable) in
    let (s, join) = joint t (goal.at.verdict-left-requires t c).In-And in
    let within = left_within join c.left-side.ensures c.loop-odd.invariant.1 here in
    let falls = falls c.loop-odd.invariant.0 c.at-rule.ensures within (left_shorter join c.left-side.ensures here) in
    (omega (arith, c.decreases, falls), (some_of within (some_left join c.left-side.ensures here), c.requires.in_range))

-- what the left side says
left_told : (t : ℕ) (c : After-is_and t) → Says c.left-side.result c.args.values.now c.verdict-left.result
left_told t c a m =
    let here = come_to c.loop-odd.invariant.0 (some_in c.at-rule.ensures c.requires.some_matchable) in
    let within = left_within (settled t c) c.left-side.ensures c.loop-odd.invariant.1 here in
    c.verdict-left.ensures a (of_part within m)

pub returns-then-left-is_and : goal.returns-then-left-is_and
returns-then-left-is_and t c a m =
    let after = (goal.at.returns-then-left-is_and t c).After-is_and in
    walk_ends c.loop-odd.invariant.0
    (left_says (settled t after) c.left-side.ensures _ (left_told t after)
    (sym (opposite _ _) ∙ c.if-left-is_and.true)) a
    (in_part c.at-rule.ensures m)

pub right-rule-requires : goal.right-rule-requires
right-rule-requires t c =
    let here = come_to c.loop-odd.invariant.0 (some_in c.at-rule.ensures c.requires.some_matchable) in
    join_in (joint t (goal.at.right-rule-requires t c).In-And).1 here

pub loop-odd-smaller : goal.loop-odd-smaller
loop-odd-smaller t c =
    let here = come_to c.loop-odd.invariant.0 (some_in c.at-rule.ensures c.requires.some_matchable) in
    right_shorter (joint t (goal.at.loop-odd-smaller t c).In-And).1 c.right-rule.ensures here

pub loop-odd-preserved : goal.loop-odd-preserved
loop-odd-preserved t c =
    let here = come_to c.loop-odd.invariant.0 (some_in c.at-rule.ensures c.requires.some_matchable) in
    let after = (goal.at.loop-odd-preserved t c).After-is_and in
    let join = settled t after in (
      onto_right c.loop-odd.invariant.0 join c.left-side.ensures c.right-rule.ensures (left_told t after)
          (sym (opposite _ _) ∙ c.if-left-is_and.false) here,
      right_within join c.right-rule.ensures c.loop-odd.invariant.1 here,
    )

-- a kind that is none of the others
other : (t : ℕ) (c : In_default t) → LiteralKind c.kind-kind.result
other t c = record {
  not_false = c.in_default.not-False;
  not_true = c.in_default.not-True;
  not_and = c.in_default.not-And;
  not_or = c.in_default.not-Or;
  not_not = c.in_default.not-Not;
}

pub holds-requires : goal.holds-requires
holds-requires t c =
    let here = come_to c.loop-odd.invariant.0 (some_in c.at-rule.ensures c.requires.some_matchable) in
    (some_literal c.kind-kind.ensures (other t (goal.at.holds-requires t c).In_default) here, c.requires.in_range)

pub returns-in_default : goal.returns-in_default
returns-in_default t c a m =
    walk_ends c.loop-odd.invariant.0
    (literal_says c.kind-kind.ensures (other t (goal.at.returns-in_default t c).In_default) _ c.holds.ensures) a
    (in_part c.at-rule.ensures m)
