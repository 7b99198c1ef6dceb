use Rattle.std.proofs.Common.{◌≡◌, drop}
use Rattle.linear_forms.specs.View.{parts}
use Rattle.linear_prover.specs.Forms.{same_monomials}
use Rattle.linear_prover.proofs.forms.same_parts.Given as goal

abbrev pub invariant-loop-i : goal.invariant-loop-i
invariant-loop-i l = same_monomials (parts (drop l.i l.a)) (parts (drop l.i l.b)) ≡ same_monomials (parts l.a) (parts l.b)
