use Rattle.std.proofs.Common.{◌≡◌, ◌++◌, drop, map}
use Rattle.syntax_view.specs.View.{case_choice_of}
use Rattle.statement_typing.specs.Numbers.{in_case_choices}
use Rattle.text_numbers.proofs.statements.push_case_choices.Given as goal

abbrev pub invariant-loop-choice : goal.invariant-loop-choice
invariant-loop-choice l = l.found ++ in_case_choices (map case_choice_of (drop l.choice-index l.choices)) ≡ l.initial.found ++ in_case_choices (map case_choice_of l.choices)
