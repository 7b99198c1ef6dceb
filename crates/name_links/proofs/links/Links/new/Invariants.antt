use Rattle.std.proofs.Common.{take}
use Rattle.name_links.specs.Links.{HasLinks}
use Rattle.name_links.proofs.links.Links.new.Given as goal

abbrev pub invariant-loop-usage : goal.invariant-loop-usage
invariant-loop-usage l = HasLinks l.by_spot (take l.usage-index l.usage-items)
