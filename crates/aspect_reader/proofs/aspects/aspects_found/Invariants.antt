use Rattle.std.proofs.Common.{◌≡◌, ◌++◌, ℕ, List, [], drop, map}
use Rattle.program_scope.specs.Homes.{home_of}
use Rattle.routine_rules.specs.Standing.{HasAspects}
use Rattle.statement_typing.specs.Aspects.{aspects_found}
use Rattle.syntax_view.specs.View.{aspect_of}
use Rattle.aspect_reader.proofs.aspects.aspects_found.Given as goal

abbrev pub invariant-loop-aspect : goal.invariant-loop-aspect
invariant-loop-aspect l =
    (numbers : List ℕ) × HasAspects l.standing numbers
    × (l.found ++ aspects_found (home_of l.home) l.world l.first numbers (map aspect_of (drop l.aspect-index l.aspects)) ≡ aspects_found (home_of l.home) l.world l.first [] (map aspect_of l.aspects))
