use Rattle.std.proofs.Common.{◌≡◌, [], length}
use Rattle.typing_rules.specs.declared.prefix.Found.TheVariants.{Is}
use Rattle.choice_rules.specs.Steps.{judged_after}
use Rattle.choice_rules.proofs.news.judged.Given as goal

abbrev pub invariant-loop-spreads : goal.invariant-loop-spreads
invariant-loop-spreads l = judged_after l.selected l.earlier l.state l.spreads ≡ judged_after l.selected [] (Is tt) l.initial.spreads

abbrev pub decreases-loop-spreads : goal.decreases-loop-spreads
decreases-loop-spreads l = length l.spreads
