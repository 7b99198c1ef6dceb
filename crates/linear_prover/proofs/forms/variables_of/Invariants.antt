use Rattle.std.proofs.Common.{◌≡◌, drop, map, []}
use Rattle.logic_terms.specs.View.{term}
use Rattle.linear_forms.specs.View.{linear}
use Rattle.linear_prover.specs.Forms.{with_all_variables}
use Rattle.linear_prover.proofs.forms.variables_of.Given as goal

abbrev pub invariant-loop-form : goal.invariant-loop-form
invariant-loop-form l = with_all_variables (map linear (drop l.form-index l.forms)) (map term l.variables.items) ≡ with_all_variables (map linear l.forms) []
