use Rattle.std.proofs.Common.{◌≡◌, drop}
use Rattle.statement_typing.specs.Tellings.{each_told}
use Rattle.first_told.proofs.each_told.Given as goal

abbrev pub invariant-loop-aspect : goal.invariant-loop-aspect
invariant-loop-aspect l = each_told l.told (drop l.aspect-index l.found) ≡ each_told l.initial.told l.found
