use Rattle.std.proofs.Common.{◌≡◌, map, take}
use Rattle.name_numbers.specs.Places.{lower_cased}
use Rattle.name_numbers.proofs.numbering.all_in_lower_case.Given as goal

abbrev pub invariant-loop-text : goal.invariant-loop-text
invariant-loop-text l = l.all ≡ lower_cased (map (λ t. t.now) (take l.text-index l.texts))
