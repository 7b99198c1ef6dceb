use Rattle.std.proofs.Common.{◌≡◌, ◌++◌, ◌-◌, drop, length, map}
use Rattle.program_scope.specs.Homes.{file_of}
use Rattle.type_checker.specs.Sources.{files_from}
use Rattle.type_checker.proofs.files.files_of.Given as goal

abbrev pub invariant-loop-file : goal.invariant-loop-file
invariant-loop-file l =
    map file_of l.files ++ files_from l.number (drop l.number l.sources) (drop l.number l.named.tables) (drop l.number l.named.lines) l.named.links
    ≡ files_from 0 l.sources l.named.tables l.named.lines l.named.links

abbrev pub decreases-loop-file : goal.decreases-loop-file
decreases-loop-file l = length l.sources - l.number
