use Rattle.std.proofs.lemmas.Int.{to_z-of_z}
use Rattle.aggregate_rules.proofs.Covering.{agree_where}
use Rattle.aggregate_rules.proofs.covers.cover_between.Goals as goal

pub returns : goal.returns
returns c = agree_where (record { first = c.args.first; last = c.args.last }) c.args.ranges.now c.cover_of.result (simp (to_z-of_z, c.ranges.first, c.ranges.last) at c.cover_of.ensures.value)
