use Rattle.logic_terms.specs.View.{term}
use Rattle.linear_prover.specs.Elimination.{is_negative}
use Rattle.linear_prover.proofs.Splitting.{count_next, count_bound, count_end}
use Rattle.linear_prover.proofs.elimination.count_negative.Goals as goal

pub loop-x-preserved : goal.loop-x-preserved
loop-x-preserved c = (
  count_next (is_negative (term c.args.v.now)) c.is_negative.result c.args.standing.now c.loop-x.x-index c.x-item.result c.loop-x.count c.counted-count.result _ c.loop-x-test.true c.x-item.is c.is_negative.ensures c.counted-count.ensures c.loop-x.invariant.0,
  count_bound c.is_negative.result _ _ _ c.counted-count.ensures c.loop-x.invariant.1,
)

pub returns : goal.returns
returns c = count_end (is_negative (term c.args.v.now)) c.args.standing.now c.loop-x.x-index _ _ c.loop-x-test.false c.loop-x.invariant.0
