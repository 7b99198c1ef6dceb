use Rattle.std.proofs.Common.{◌≡◌, drop}
use Rattle.first_form.specs.Names.{same_name}
use Rattle.std.specs.List.{position_from}
use Rattle.first_form.proofs.places.position_of.Given as goal

abbrev pub invariant-loop-i : goal.invariant-loop-i
invariant-loop-i l = position_from (λ p. same_name p l.name) l.i (drop l.i l.params) ≡ position_from (λ p. same_name p l.name) 0 l.params
