use Rattle.std.proofs.Common.{◌≡◌, ◌*◌, ◌+◌, ◌++◌, drop}
use Rattle.logic_terms.specs.NodeParts.{node_of}
use Rattle.logic_terms.specs.View.{terms}
use Rattle.logic_terms.specs.Text.{spaced_text}
use Rattle.logic_terms.specs.Weight.{weight, weights}
use Rattle.logic_terms.proofs.text.+text.Given as goal

abbrev pub invariant-push_last_terms-loop-t : goal.invariant-push_last_terms-loop-t
invariant-push_last_terms-loop-t l = l.fn.text.items ++ spaced_text (terms l.ts) ≡ l.text.items ++ spaced_text (terms (drop l.t-index l.t-items))

abbrev pub decreases-push_spaced : goal.decreases-push_spaced
decreases-push_spaced l = 5 * weight (node_of l.n) + 1

abbrev pub decreases-push_last_terms : goal.decreases-push_last_terms
decreases-push_last_terms l = 5 * weights (terms l.ts.now) + 1

abbrev pub decreases-push_last : goal.decreases-push_last
decreases-push_last l = 5 * weight (node_of l.a) + 2

abbrev pub decreases-push_last_two : goal.decreases-push_last_two
decreases-push_last_two l = 5 * (weight (node_of l.a) + weight (node_of l.b)) + 3

abbrev pub decreases-push_last_three : goal.decreases-push_last_three
decreases-push_last_three l = 5 * (weight (node_of l.a) + weight (node_of l.b) + weight (node_of l.c)) + 4

abbrev pub decreases-push_node : goal.decreases-push_node
decreases-push_node l = 5 * weight (node_of l.n)
