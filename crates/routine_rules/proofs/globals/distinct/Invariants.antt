use Rattle.std.proofs.Common.{◌≡◌, ℕ, List, [], drop}
use Rattle.routine_rules.specs.Standing.{HasGlobals}
use Rattle.statement_typing.specs.Aspects.{distinct}
use Rattle.statement_typing.specs.Checks.{all_of, all_onto}
use Rattle.routine_rules.proofs.globals.distinct.Given as goal

abbrev pub invariant-loop-found : goal.invariant-loop-found
invariant-loop-found l =
    (globals : List ℕ) × HasGlobals l.seen globals
    × (all_onto l.items (distinct globals (drop l.found-index l.listed)) ≡ all_of (distinct [] l.listed))
