use Rattle.std.proofs.Common.{sym, ◌∙◌}
use Rattle.linear_prover.proofs.Reading.{repeats_next, repeats_here, repeats_none}
use Rattle.linear_prover.proofs.machine.repeats.Goals as goal

pub loop-x-preserved : goal.loop-x-preserved
loop-x-preserved c =
    repeats_next _ c.args.standing.now c.loop-x.x-index c.x-item.result _ c.loop-x-test.true c.x-item.is (sym c.same_form.ensures ∙ c.if-same_form.false) c.loop-x.invariant

pub returns-then-same_form : goal.returns-then-same_form
returns-then-same_form c =
    repeats_here _ c.args.standing.now c.loop-x.x-index c.x-item.result _ c.loop-x-test.true c.x-item.is (sym c.same_form.ensures ∙ c.if-same_form.true) c.loop-x.invariant

pub returns : goal.returns
returns c = repeats_none _ c.args.standing.now c.loop-x.x-index _ c.loop-x-test.false c.loop-x.invariant
