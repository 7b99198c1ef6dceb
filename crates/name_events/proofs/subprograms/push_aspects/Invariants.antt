use Rattle.std.proofs.Common.{◌≡◌, drop, map}
use Rattle.name_numbers.specs.Numbers.{number_at}
use Rattle.syntax_view.specs.View.{aspect_of}
use Rattle.name_events.specs.Declarations.{aspects_onto}
use Rattle.name_events.proofs.subprograms.push_aspects.Given as goal

abbrev pub invariant-loop-aspect : goal.invariant-loop-aspect
invariant-loop-aspect l = aspects_onto (number_at l.names) l.found (map aspect_of (drop l.aspect-index l.aspect-items)) ≡ aspects_onto (number_at l.names) l.initial.found (map aspect_of l.aspect-items)
