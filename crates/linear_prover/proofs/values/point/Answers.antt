use Rattle.std.proofs.Common.{rules, ◌∙◌}
use Rattle.std.specs.Prelude.{FitsSigned}
use Rattle.std.specs.Int.{w128}
use Rattle.std.proofs.lemmas.Int.{to_z-of_z}
use Rattle.linear_prover.proofs.Steps.{mapped_next, mapped_end}
use Rattle.linear_prover.proofs.values.point.Goals as goal

pub loop-v-preserved : goal.loop-v-preserved
loop-v-preserved c =
    let f : FitsSigned w128 c.value_of.result = search rules in
    mapped_next _ c.args.variables.now c.loop-v.v-index c.v-item.result _ _ _ c.loop-v-test.true c.v-item.is (to_z-of_z w128 c.value_of.result f ∙ c.value_of.ensures) c.in_ok-push.ensures.ok c.loop-v.invariant

pub returns : goal.returns
returns c = mapped_end _ c.args.variables.now c.loop-v.v-index _ c.loop-v-test.false c.loop-v.invariant
