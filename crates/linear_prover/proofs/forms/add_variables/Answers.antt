use Rattle.linear_prover.proofs.Reading.{variables_next, variables_end}
use Rattle.linear_prover.proofs.forms.add_variables.Goals as goal

pub loop-part-preserved : goal.loop-part-preserved
loop-part-preserved c =
    variables_next c.args.parts.now c.loop-part.part-index c.part-item.result _ _ _ c.loop-part-test.true c.part-item.is c.in_ok-add_variable.ensures c.loop-part.invariant

pub returns : goal.returns
returns c = variables_end c.args.parts.now c.loop-part.part-index _ _ c.loop-part-test.false c.loop-part.invariant
