use Rattle.std.proofs.Common.{◌≡◌, ◌++◌, drop}
use Rattle.statement_typing.specs.Numbers.{numbered_from}
use Rattle.text_numbers.proofs.lists.push_numbered.Given as goal

abbrev pub invariant-loop-at : goal.invariant-loop-at
invariant-loop-at l = l.found ++ numbered_from l.number (drop l.at-index l.places) ≡ l.initial.found ++ numbered_from l.initial.number l.places
