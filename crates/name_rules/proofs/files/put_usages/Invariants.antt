use Rattle.std.proofs.Common.{◌≡◌, ◌++◌, length}
use Rattle.name_rules.proofs.files.put_usages.Given as goal

abbrev pub invariant-loop-more : goal.invariant-loop-more
invariant-loop-more l = l.all ++ l.more ≡ l.initial.all ++ l.initial.more

abbrev pub decreases-loop-more : goal.decreases-loop-more
decreases-loop-more l = length l.more
