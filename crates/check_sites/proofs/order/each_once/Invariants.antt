use Rattle.std.proofs.Common.{◌≡◌, ◌++◌, drop}
use Rattle.std.specs.Prelude.{None}
use Rattle.check_sites.specs.Listed.{each_once}
use Rattle.check_sites.proofs.order.each_once.Given as goal

abbrev pub invariant-loop-site : goal.invariant-loop-site
invariant-loop-site l = l.found ++ each_once l.last (drop l.site-index l.sorted) ≡ each_once None l.sorted
