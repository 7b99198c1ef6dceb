use Rattle.std.proofs.Common.{◌≡◌, drop, map}
use Rattle.name_numbers.specs.Numbers.{number_at}
use Rattle.syntax_view.specs.View.{context_item_of}
use Rattle.name_events.specs.Events.{context_onto}
use Rattle.name_events.proofs.units.push_context.Given as goal

abbrev pub invariant-loop-item : goal.invariant-loop-item
invariant-loop-item l = context_onto (number_at l.names) l.first l.found (map context_item_of (drop l.item-index l.item-items)) ≡ context_onto (number_at l.names) l.initial.first l.initial.found (map context_item_of l.item-items)
