use Rattle.std.proofs.Common.{◌≡◌, ℕ, List, ◌++◌, length, map, take}
use Rattle.name_numbers.specs.Places.{Knows}
use Rattle.name_numbers.proofs.numbering.add_names.Given as goal

abbrev pub invariant-loop-at : goal.invariant-loop-at
invariant-loop-at l = (before : List (List ℕ)) → Knows l.initial.places before → length before ≡ l.count → Knows l.places (before ++ map (λ n. n.now) (take l.at l.names))
