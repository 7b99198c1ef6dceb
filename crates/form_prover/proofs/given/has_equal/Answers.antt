use Rattle.form_prover.proofs.Equal.{stop_here, go_on}
use Rattle.form_prover.proofs.given.has_equal.Goals as goal

pub returns-then-same_formula : goal.returns-then-same_formula
returns-then-same_formula c =
    stop_here c.args.hypotheses.now c.as_slice-hypothesis-items.result.now c.args.conclusion.now c.loop-hypothesis.hypothesis-index
    c.hypothesis-item.result c.same_formula.result c.as_slice-hypothesis-items.ensures c.loop-hypothesis-test.true c.hypothesis-item.is
    c.same_formula.ensures.alike c.loop-hypothesis.invariant c.if-same_formula.true

pub loop-hypothesis-preserved : goal.loop-hypothesis-preserved
loop-hypothesis-preserved c =
    go_on c.args.hypotheses.now c.as_slice-hypothesis-items.result.now c.args.conclusion.now c.loop-hypothesis.hypothesis-index
    c.hypothesis-item.result c.same_formula.result c.as_slice-hypothesis-items.ensures c.loop-hypothesis-test.true c.hypothesis-item.is
    c.same_formula.ensures.alike c.loop-hypothesis.invariant c.if-same_formula.false
