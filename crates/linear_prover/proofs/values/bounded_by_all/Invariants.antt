use Rattle.std.proofs.Common.{◌≡◌, drop}
use Rattle.std.specs.Prelude.{None}
use Rattle.logic_terms.specs.View.{term}
use Rattle.linear_prover.specs.Values.{bounded_by_all, range}
use Rattle.linear_prover.specs.ValueView.{known_values, value_range}
use Rattle.linear_prover.proofs.Choosing.{forms_of}
use Rattle.linear_prover.proofs.values.bounded_by_all.Given as goal

abbrev pub invariant-loop-x : goal.invariant-loop-x
invariant-loop-x l = bounded_by_all (term l.v) (known_values l.known) (forms_of (drop l.x-index l.forms)) (value_range l.found) ≡ bounded_by_all (term l.v) (known_values l.known) (forms_of l.forms) (range None None)
