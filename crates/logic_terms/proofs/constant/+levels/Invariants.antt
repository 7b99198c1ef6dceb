use Rattle.std.proofs.Common.{◌≡◌, drop, max}
use Rattle.logic_terms.specs.NodeParts.{node_of}
use Rattle.logic_terms.specs.View.{terms}
use Rattle.logic_terms.specs.Levels.{levels_of}
use Rattle.logic_terms.specs.Weight.{weight, weights}
use Rattle.logic_terms.proofs.constant.+levels.Given as goal

abbrev pub invariant-terms_levels-loop-t : goal.invariant-terms_levels-loop-t
invariant-terms_levels-loop-t l = levels_of (terms l.ts) ≡ max l.most (levels_of (terms (drop l.t-index l.t-items)))

abbrev pub decreases-terms_levels : goal.decreases-terms_levels
decreases-terms_levels l = weights (terms l.ts.now)

abbrev pub decreases-node_levels : goal.decreases-node_levels
decreases-node_levels l = weight (node_of l.n)
