use Rattle.std.proofs.Common.{◌≡◌, drop}
use Rattle.logic_terms.specs.NodeParts.{node_of}
use Rattle.logic_terms.specs.View.{terms}
use Rattle.logic_terms.specs.Names.{name_nothing}
use Rattle.logic_terms.specs.Weight.{weight, weights}
use Rattle.logic_terms.proofs.names.+names.Given as goal

abbrev pub invariant-terms_name_nothing-loop-t : goal.invariant-terms_name_nothing-loop-t
invariant-terms_name_nothing-loop-t l = name_nothing (terms l.ts) ≡ name_nothing (terms (drop l.t-index l.t-items))

abbrev pub decreases-terms_name_nothing : goal.decreases-terms_name_nothing
decreases-terms_name_nothing l = weights (terms l.ts.now)

abbrev pub decreases-node_names_nothing : goal.decreases-node_names_nothing
decreases-node_names_nothing l = weight (node_of l.n)
