use Rattle.std.proofs.Common.{◌≡◌, [], length}
use Rattle.typing_rules.specs.declared.prefix.Found.TheVariants.{Is}
use Rattle.choice_rules.specs.Steps.{choices_after}
use Rattle.choice_rules.proofs.sums.all_chosen.Given as goal

abbrev pub invariant-loop-spreads : goal.invariant-loop-spreads
invariant-loop-spreads l = choices_after l.done l.spreads ≡ choices_after (Is []) l.initial.spreads

abbrev pub decreases-loop-spreads : goal.decreases-loop-spreads
decreases-loop-spreads l = length l.spreads
