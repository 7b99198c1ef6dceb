use Rattle.std.proofs.Common.{◌≡◌, drop, map}
use Rattle.name_numbers.specs.Numbers.{number_at}
use Rattle.syntax_view.specs.View.{component_of}
use Rattle.name_events.specs.Declarations.{components_onto}
use Rattle.name_events.proofs.declarations.push_components.Given as goal

abbrev pub invariant-loop-component : goal.invariant-loop-component
invariant-loop-component l = components_onto (number_at l.names) l.found (map component_of (drop l.component-index l.component-items)) ≡ components_onto (number_at l.names) l.initial.found (map component_of l.component-items)
