use Rattle.std.proofs.Common.{◌≡◌, drop}
use Rattle.name_numbers.specs.Numbers.{number_at}
use Rattle.syntax_view.specs.View.{expr, suffixes_of}
use Rattle.name_events.specs.Declarations.{selectors_onto}
use Rattle.name_events.proofs.subprograms.push_selectors.Given as goal

abbrev pub invariant-loop-suffix : goal.invariant-loop-suffix
invariant-loop-suffix l = selectors_onto (number_at l.names) l.found (suffixes_of expr (drop l.suffix-index l.suffix-items)) ≡ selectors_onto (number_at l.names) l.initial.found (suffixes_of expr l.suffix-items)
