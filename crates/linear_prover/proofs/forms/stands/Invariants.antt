use Rattle.std.proofs.Common.{◌≡◌, drop, map}
use Rattle.logic_terms.specs.View.{term}
use Rattle.linear_prover.specs.Forms.{stands}
use Rattle.linear_prover.proofs.forms.stands.Given as goal

abbrev pub invariant-loop-u : goal.invariant-loop-u
invariant-loop-u l = stands (term l.v) (map term (drop l.u-index l.variables)) ≡ stands (term l.v) (map term l.variables)
