-- `chain::wrapped` meets its contract: the nodes of the chain from node i on are over what was answered.
-- Assumes nothing.
use native.Mathlib.Omega.{arith}
use Prim.Native.Nat.{◌-◌}
use Rattle.rules.specs.Calls.{words}
use Rattle.walks.proofs.UpLaws.{Step, EntryRead, raised_none, raised_all, raised_more}
use Rattle.walks.proofs.UpLaws.{entry_there, at_behind, over_asks}
use Rattle.walks.proofs.chain.wrapped.Goals as goal
use Rattle.walks.proofs.chain.wrapped.Goals.{After-natural}

pub loop-i-init : goal.loop-i-init
loop-i-init c = raised_none _ _ _ _ _ _ _ _

pub natural-requires : goal.natural-requires
natural-requires c =
    let step : Step (words c.args.part.entries.now) (words c.args.part.bodies.now) c.args.part.node c.args.part.place
    c.args.k (words c.args.out.now) c.args.b c.args.inner c.loop-i.i (c.loop-i.i - 1) (words c.loop-i.out) c.loop-i.f
    = record { some = c.requires; raised = c.loop-i.invariant; follows = omega arith; more = omega arith } in
    entry_there step

-- the entry is read
entry_read : (c : After-natural)
    → EntryRead (words c.args.part.entries.now) (words c.args.part.bodies.now) c.args.part.node c.args.part.place
    c.args.k (words c.args.out.now) c.args.b c.args.inner c.loop-i.i (c.loop-i.i - 1) (words c.loop-i.out) c.loop-i.f
    c.natural.result
entry_read c = record {
  step = record { some = c.requires; raised = c.loop-i.invariant; follows = omega arith; more = omega arith };
  entry = c.natural.ensures.1;
}

pub overflow_sub-at : goal.overflow_sub-at
overflow_sub-at c = at_behind (entry_read c)

pub over-f-requires : goal.over-f-requires
over-f-requires c = over_asks (entry_read (goal.at.over-f-requires c).After-natural)

pub loop-i-preserved : goal.loop-i-preserved
loop-i-preserved c = raised_more (entry_read (goal.at.loop-i-preserved c).After-natural) _ _ c.over-f.ensures

pub returns : goal.returns
returns c = raised_all _ _ _ _ _ _ _ _ _ _ _ c.loop-i.invariant (omega arith)
