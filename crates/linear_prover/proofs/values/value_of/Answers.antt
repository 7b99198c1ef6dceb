use Rattle.std.proofs.Common.{rules, sym, ◌∙◌}
use Rattle.std.specs.Prelude.{FitsSigned}
use Rattle.std.specs.Int.{w128}
use Rattle.std.proofs.lemmas.Int.{to_z-of_z}
use Rattle.linear_prover.proofs.Choosing.{value_next, value_here, value_none}
use Rattle.linear_prover.proofs.values.value_of.Goals as goal

pub loop-k-preserved : goal.loop-k-preserved
loop-k-preserved c =
    value_next _ c.args.known.now c.loop-k.k-index c.k-item.result _ c.loop-k-test.true c.k-item.is (sym c.same_term.ensures.alike ∙ c.if-same_term.false) c.loop-k.invariant

pub returns-then-same_term : goal.returns-then-same_term
returns-then-same_term c =
    let f : FitsSigned w128 c.k-item.result.value = search rules in
    to_z-of_z w128 c.k-item.result.value f
    ∙ value_here _ c.args.known.now c.loop-k.k-index c.k-item.result _ c.loop-k-test.true c.k-item.is (sym c.same_term.ensures.alike ∙ c.if-same_term.true) c.loop-k.invariant

pub returns : goal.returns
returns c = value_none _ c.args.known.now c.loop-k.k-index _ c.loop-k-test.false c.loop-k.invariant
