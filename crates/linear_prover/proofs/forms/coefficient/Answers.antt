use Rattle.std.proofs.Common.{rules, sym, ◌∙◌}
use Rattle.std.specs.Prelude.{FitsSigned}
use Rattle.std.specs.Int.{w128}
use Rattle.std.proofs.lemmas.Int.{to_z-of_z}
use Rattle.linear_prover.proofs.Reading.{coefficient_next, coefficient_here, coefficient_none}
use Rattle.linear_prover.proofs.forms.coefficient.Goals as goal

pub loop-part-preserved : goal.loop-part-preserved
loop-part-preserved c =
    coefficient_next _ c.args.parts.now c.loop-part.part-index c.part-item.result _ c.loop-part-test.true c.part-item.is (sym c.same_term.ensures.alike ∙ c.if-same_term.false) c.loop-part.invariant

pub returns-then-same_term : goal.returns-then-same_term
returns-then-same_term c =
    let f : FitsSigned w128 c.part-item.result.coefficient = search rules in
    to_z-of_z w128 c.part-item.result.coefficient f
    ∙ coefficient_here _ c.args.parts.now c.loop-part.part-index c.part-item.result _ c.loop-part-test.true c.part-item.is (sym c.same_term.ensures.alike ∙ c.if-same_term.true) c.loop-part.invariant

pub returns : goal.returns
returns c = coefficient_none _ c.args.parts.now c.loop-part.part-index _ c.loop-part-test.false c.loop-part.invariant
