use Rattle.std.proofs.Common.{◌≡◌, drop}
use Rattle.name_numbers.specs.Numbers.{number_at}
use Rattle.name_uses.specs.Told.{listed_onto}
use Rattle.name_uses.proofs.told.push_listed.Given as goal

abbrev pub invariant-loop-span : goal.invariant-loop-span
invariant-loop-span l = listed_onto (number_at l.names) l.listed l.found (drop l.span-index l.span-items) ≡ listed_onto (number_at l.names) l.listed l.initial.found l.span-items
