use Rattle.std.proofs.Common.{◌≡◌, drop, map}
use Rattle.name_numbers.specs.Numbers.{number_at}
use Rattle.syntax_view.specs.View.{case_choice_of}
use Rattle.name_events.specs.Statements.{case_choices_onto}
use Rattle.name_events.proofs.statements.push_case_choices.Given as goal

abbrev pub invariant-loop-choice : goal.invariant-loop-choice
invariant-loop-choice l = case_choices_onto (number_at l.names) l.found (map case_choice_of (drop l.choice-index l.choice-items)) ≡ case_choices_onto (number_at l.names) l.initial.found (map case_choice_of l.choice-items)
