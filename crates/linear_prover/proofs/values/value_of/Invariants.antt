use Rattle.std.proofs.Common.{◌≡◌, drop}
use Rattle.logic_terms.specs.View.{term}
use Rattle.linear_prover.specs.Values.{value_in}
use Rattle.linear_prover.specs.ValueView.{known_values}
use Rattle.linear_prover.proofs.values.value_of.Given as goal

abbrev pub invariant-loop-k : goal.invariant-loop-k
invariant-loop-k l = value_in (known_values (drop l.k-index l.known)) (term l.v) ≡ value_in (known_values l.known) (term l.v)
