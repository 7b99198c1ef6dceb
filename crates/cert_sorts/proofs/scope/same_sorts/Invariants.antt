use Rattle.std.proofs.Common.{◌≡◌, length, drop}
use Rattle.logic_terms.specs.Value.{same_kinds}
use Rattle.cert_sorts.specs.Found.{kinds}
use Rattle.cert_sorts.proofs.scope.same_sorts.Given as goal

abbrev pub invariant-loop-i : goal.invariant-loop-i
invariant-loop-i l =
    (length l.a ≡ length l.b) × (same_kinds (kinds l.a) (kinds l.b) ≡ same_kinds (kinds (drop l.i l.a)) (kinds (drop l.i l.b)))
