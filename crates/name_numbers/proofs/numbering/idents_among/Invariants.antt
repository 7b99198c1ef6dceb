use Rattle.std.proofs.Common.{◌≡◌, ℕ, ◌≤◌, List, length, map, take}
use Rattle.name_numbers.specs.Numbers.{identifiers_among}
use Rattle.name_numbers.specs.Places.{Knows, Reads}
use Rattle.name_numbers.proofs.numbering.idents_among.Given as goal

abbrev pub invariant-loop-token : goal.invariant-loop-token
invariant-loop-token l = record {
  few : length l.idents ≤ l.token-index;
  starts : map (λ i. i.at) l.idents ≡ map (λ s. s.from) (identifiers_among (take l.token-index l.tokens));
  names : (names : List (List ℕ)) → Knows l.initial.places names → length names ≡ l.count → Reads names l.folded (identifiers_among (take l.token-index l.tokens)) l.places l.idents;
}
