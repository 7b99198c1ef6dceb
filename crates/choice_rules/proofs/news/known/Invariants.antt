use Rattle.std.proofs.Common.{◌≡◌, [], length}
use Rattle.choice_rules.specs.Steps.{known_after}
use Rattle.choice_rules.proofs.news.known.Given as goal

abbrev pub invariant-loop-spreads : goal.invariant-loop-spreads
invariant-loop-spreads l = known_after l.values l.spreads ≡ known_after [] l.initial.spreads

abbrev pub decreases-loop-spreads : goal.decreases-loop-spreads
decreases-loop-spreads l = length l.spreads
