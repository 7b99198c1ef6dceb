use Rattle.std.proofs.Common.{◌≡◌, length}
use Rattle.statement_typing.specs.Choices.{meets_one}
use Rattle.choice_rules.proofs.news.meets_one.Given as goal

abbrev pub invariant-loop-earlier : goal.invariant-loop-earlier
invariant-loop-earlier l = meets_one l.values l.earlier ≡ meets_one l.values l.initial.earlier

abbrev pub decreases-loop-earlier : goal.decreases-loop-earlier
decreases-loop-earlier l = length l.earlier
