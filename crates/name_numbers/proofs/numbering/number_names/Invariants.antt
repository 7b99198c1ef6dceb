use Rattle.std.proofs.Common.{map, take}
use Rattle.name_numbers.specs.Places.{SoFar}
use Rattle.name_numbers.proofs.numbering.number_names.Given as goal

abbrev pub invariant-loop-at : goal.invariant-loop-at
invariant-loop-at l = SoFar l.places (map (λ t. t.now) (take l.at l.texts)) l.count l.tables
