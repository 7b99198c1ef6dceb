use Rattle.std.proofs.Common.{rules}
use Rattle.choice_cover.proofs.Apart.{once_decided}
use Rattle.choice_cover.proofs.sweeps.is_once.Goals as goal

pub returns : goal.returns
returns c = once_decided c.args.ranges.now c.in_ok-sorted.sorted.items c.is_apart.result c.in_ok-sorted.ensures.same c.in_ok-sorted.ensures.rises (search rules)
