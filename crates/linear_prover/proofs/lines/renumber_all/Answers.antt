use Rattle.std.proofs.Common.{map}
use Rattle.linear_prover.specs.LineView.{numbered_step}
use Rattle.linear_prover.proofs.Steps.{item_is}
use Rattle.linear_prover.proofs.Lining.{lines_next, lines_end}
use Rattle.linear_prover.proofs.lines.renumber_all.Goals as goal

pub loop-x-preserved : goal.loop-x-preserved
loop-x-preserved c =
    lines_next c.args.inputs (map numbered_step c.args.steps.now) c.args.steps.now c.loop-x.x-index _ _ _ _ c.loop-x-test.true (item_is _ _ _ c.loop-x-test.true) c.in_ok-line.ensures c.in_ok-push.ensures.ok c.loop-x.invariant

pub returns : goal.returns
returns c = lines_end c.args.inputs c.args.steps.now c.loop-x.x-index _ c.loop-x-test.false c.loop-x.invariant
