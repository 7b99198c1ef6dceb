use Rattle.std.proofs.Common.{◌≡◌, length, map}
use Rattle.syntax_view.specs.View.{case_choice_of}
use Rattle.statement_typing.specs.Choices.{has_others}
use Rattle.statement_rules.proofs.choices.has_others.Given as goal

abbrev pub invariant-loop-choices : goal.invariant-loop-choices
invariant-loop-choices l = has_others (map case_choice_of l.choices) ≡ has_others (map case_choice_of l.initial.choices)

abbrev pub decreases-loop-choices : goal.decreases-loop-choices
decreases-loop-choices l = length l.choices
