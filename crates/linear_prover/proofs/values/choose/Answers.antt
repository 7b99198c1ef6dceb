use Rattle.std.proofs.Common.{◌∙◌, ap, List, map}
use Rattle.logic_terms.specs.View.{term}
use Rattle.linear_prover.specs.Values.{value_in}
use Rattle.linear_prover.specs.ValueView.{known_values}
use Rattle.linear_prover.specs.declared.values.KnownValue.{KnownValue}
use Rattle.linear_prover.proofs.Choosing.{chosen_end}
use Rattle.linear_prover.proofs.values.choose.Goals as goal

pub returns : goal.returns
returns c =
    chosen_end c.args.variables.now c.args.eliminated.now c.loop-aside.aside-index c.loop-aside.known.items _ _ c.loop-aside-test.false
    (c.in_ok-point.ensures ∙ ap (λ (ks : List KnownValue). map (λ v. value_in (known_values ks) (term v)) c.args.variables.now) c.as_slice-2.ensures.value)
    c.loop-aside.invariant
