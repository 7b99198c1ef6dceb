use Rattle.std.proofs.Common.{rules}
use Rattle.check_sites.proofs.Stable.{once_in_order}
use Rattle.check_sites.proofs.order.in_order.Goals as goal

pub returns : goal.returns
returns c = search (rules, once_in_order c.args.found.items c.in_ok-sorted.sorted.items c.in_ok-sorted.ensures.rises c.in_ok-sorted.ensures.stable)
