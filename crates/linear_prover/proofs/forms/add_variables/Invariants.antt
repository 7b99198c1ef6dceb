use Rattle.std.proofs.Common.{◌≡◌, drop, map}
use Rattle.logic_terms.specs.View.{term}
use Rattle.linear_forms.specs.View.{parts}
use Rattle.linear_prover.specs.Forms.{with_variables}
use Rattle.linear_prover.proofs.forms.add_variables.Given as goal

abbrev pub invariant-loop-part : goal.invariant-loop-part
invariant-loop-part l = with_variables (parts (drop l.part-index l.parts)) (map term l.variables.items) ≡ with_variables (parts l.parts) (map term l.initial.variables.items)
