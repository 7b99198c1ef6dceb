use Rattle.std.proofs.Common.{sym, ◌∙◌}
use Rattle.linear_prover.proofs.Reading.{stands_next, stands_here, stands_none}
use Rattle.linear_prover.proofs.forms.stands.Goals as goal

pub loop-u-preserved : goal.loop-u-preserved
loop-u-preserved c =
    stands_next _ c.args.variables.now c.loop-u.u-index c.u-item.result _ c.loop-u-test.true c.u-item.is (sym c.same_term.ensures.alike ∙ c.if-same_term.false) c.loop-u.invariant

pub returns-then-same_term : goal.returns-then-same_term
returns-then-same_term c =
    stands_here _ c.args.variables.now c.loop-u.u-index c.u-item.result _ c.loop-u-test.true c.u-item.is (sym c.same_term.ensures.alike ∙ c.if-same_term.true) c.loop-u.invariant

pub returns : goal.returns
returns c = stands_none _ c.args.variables.now c.loop-u.u-index _ c.loop-u-test.false c.loop-u.invariant
