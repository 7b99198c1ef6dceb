use Rattle.std.proofs.Common.{arith}
use Rattle.std.proofs.lemmas.Int.{to_z-of_z}
use Rattle.std.proofs.lemmas.Grind.{common_steps}
use Rattle.choice_cover.proofs.sweeps.fills.Goals as goal

pub loop-range-preserved : goal.loop-range-preserved
loop-range-preserved c = grind (arith, common_steps, to_z-of_z, c.max-next.ensures)
