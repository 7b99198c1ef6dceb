use Rattle.std.proofs.Common.{◌≡◌, drop}
use Rattle.logic_terms.specs.View.{term}
use Rattle.linear_forms.specs.View.{parts}
use Rattle.linear_prover.specs.Forms.{coefficient}
use Rattle.linear_prover.proofs.forms.coefficient.Given as goal

abbrev pub invariant-loop-part : goal.invariant-loop-part
invariant-loop-part l = coefficient (term l.v) (parts (drop l.part-index l.parts)) ≡ coefficient (term l.v) (parts l.parts)
