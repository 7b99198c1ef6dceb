use Rattle.std.proofs.Common.{arith}
use Rattle.std.proofs.lemmas.Grind.{common_steps}
use Rattle.reading_scope.proofs.Sought.{one_more}
use Rattle.reading_scope.proofs.numbers.first_of_each.Goals as goal

pub loop-left-preserved : goal.loop-left-preserved
loop-left-preserved c = (omega arith, λ n. let u = c.in_ok-insert.ensures.updates.0 n in let i = c.loop-left.invariant.1 n in grind (arith, common_steps, one_more, u, i))
