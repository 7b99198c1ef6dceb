use Rattle.std.proofs.Common.{◌≡◌, drop}
use Rattle.logic_terms.specs.View.{term}
use Rattle.linear_forms.specs.View.{parts}
use Rattle.linear_prover.specs.Values.{sum_without}
use Rattle.linear_prover.specs.ValueView.{known_values}
use Rattle.linear_prover.proofs.values.sum_without.Given as goal

abbrev pub invariant-loop-part : goal.invariant-loop-part
invariant-loop-part l = sum_without (term l.v) (known_values l.known) l.sum (parts (drop l.part-index l.parts)) ≡ sum_without (term l.v) (known_values l.known) l.start (parts l.parts)
