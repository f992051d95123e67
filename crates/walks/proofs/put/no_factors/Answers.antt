-- `put::no_factors` meets its contract: each of the a's is looked at.
-- Assumes nothing.
use Rattle.std.proofs.Common.{rules, tests, ℤ, pos, ◌∙◌, take, drop}
use Rattle.std.proofs.lemmas.Iterator.{YieldsList-from_slice}
use Rattle.std.proofs.lemmas.Iterator.Search.{all_from_yields_List}
use Rattle.whole.specs.Integers.{eq_ℤ}
use Rattle.walks.proofs.PutLaws.{zero_factors}
use Rattle.walks.proofs.put.no_factors.Goals as goal

pub returns : goal.returns
returns c =
    let sum = c.args.sum.now in
    all_from_yields_List {all = take 6 (drop 1 sum)} (λ (a : ℤ). eq_ℤ a (pos 0)) _ _ _ c.all.ensures.ran
    (YieldsList-from_slice _ cc) (λ x b q k. search (rules, tests)) ∙ zero_factors sum c.told-sum
