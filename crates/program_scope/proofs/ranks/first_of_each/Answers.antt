use Rattle.std.proofs.Common.{arith}
use Rattle.std.proofs.lemmas.Grind.{common_steps}
use Rattle.program_scope.proofs.Ranked.{one_more, same_place}
use Rattle.program_scope.proofs.ranks.first_of_each.Goals as goal

pub loop-left-preserved : goal.loop-left-preserved
loop-left-preserved c = (omega arith, λ file at. let u = c.in_ok-insert.ensures.updates.0 (file, at) in let i = c.loop-left.invariant.1 file at in grind (arith, common_steps, one_more, same_place, u, i))
