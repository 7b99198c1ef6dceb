use Rattle.routine_rules.proofs.Turns.{one_more}
use Rattle.routine_rules.proofs.globals.distinct.Goals as goal

pub loop-found-preserved : goal.loop-found-preserved
loop-found-preserved c =
    let i = c.loop-found.invariant in
    (_, c.in_default.ensures i.0 i.1, one_more i.0 _ _ _ _ c.args.listed.now c.loop-found.found-index _ c.loop-found-test.true i.2 (c.fresh.ensures i.0 i.1) c.in_ok-items.ensures)
