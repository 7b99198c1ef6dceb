use Rattle.std.proofs.Common.{◌≡◌, take, map}
use Rattle.logic_terms.specs.View.{term}
use Rattle.linear_prover.specs.Values.{value_in}
use Rattle.linear_prover.specs.ValueView.{known_values}
use Rattle.linear_prover.proofs.values.point.Given as goal

abbrev pub invariant-loop-v : goal.invariant-loop-v
invariant-loop-v l = l.numbers ≡ map (λ v. value_in (known_values l.known) (term v)) (take l.v-index l.variables)
