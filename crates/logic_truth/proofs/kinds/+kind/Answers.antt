use Rattle.logic_truth.proofs.KindViews.{kinds_more}
use Rattle.logic_truth.proofs.kinds.+kind.Goals as goal

pub kinds_of-loop-v-preserved : goal.kinds_of-loop-v-preserved
kinds_of-loop-v-preserved t c =
    kinds_more c.as_slice-v-items.result.now c.loop-v.sorts c.push.new.self c.loop-v.v-index c.v-item.result c.in_ok-kind_of.field-0
    c.loop-v-test.true c.v-item.is c.loop-v.invariant c.in_ok-kind_of.ensures c.in_ok-push.ensures.ok
