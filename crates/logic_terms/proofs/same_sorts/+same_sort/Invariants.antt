use Rattle.std.proofs.Common.{◌≡◌, length, drop, map}
use Rattle.logic_terms.specs.Sorts.{kinds_in, sort}
use Rattle.logic_terms.specs.Value.{same_kinds}
use Rattle.logic_terms.proofs.same_sorts.+same_sort.Given as goal

abbrev pub invariant-same_sorts-loop-i : goal.invariant-same_sorts-loop-i
invariant-same_sorts-loop-i l =
    (length l.a ≡ length l.b) × (same_kinds (kinds_in (map sort l.a)) (kinds_in (map sort l.b)) ≡ same_kinds (kinds_in (map sort (drop l.i l.a))) (kinds_in (map sort (drop l.i l.b))))
