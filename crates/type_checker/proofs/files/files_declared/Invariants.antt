use Rattle.std.proofs.Common.{◌≡◌, length, map, None}
use Rattle.program_scope.specs.Homes.{file_of}
use Rattle.statement_typing.specs.Tellings.{files_told}
use Rattle.statement_typing.specs.Units as units
use Rattle.type_checker.proofs.files.files_declared.Given as goal

abbrev pub invariant-loop-order : goal.invariant-loop-order
invariant-loop-order l =
    (units.files_declared (map file_of l.files) l.order l.draft ≡ units.files_declared (map file_of l.files) l.initial.order l.initial.draft)
    × (files_told (map file_of l.files) l.order l.draft l.told ≡ files_told (map file_of l.files) l.initial.order l.initial.draft None)

abbrev pub decreases-loop-order : goal.decreases-loop-order
decreases-loop-order l = length l.order
