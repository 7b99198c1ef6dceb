use Rattle.std.proofs.Common.{◌≡◌, ◌*◌, ◌+◌, take, Some}
use Rattle.logic_terms.specs.Sorting.{node_kinds}
use Rattle.logic_terms.specs.View.{term, formula, terms}
use Rattle.logic_terms.specs.Weight.{weight, weights}
use Rattle.cert_lines.specs.Symbols.{new_kinds}
use Rattle.cert_sorts.specs.Found.{kinds, signature}
use Rattle.cert_sorts.proofs.sorting.+sorting.Given as goal

abbrev pub invariant-sort_over-loop-t : goal.invariant-sort_over-loop-t
invariant-sort_over-loop-t l = Some (kinds l.sorts) ≡ node_kinds (signature l.scope) (new_kinds l.depth) (terms (take l.t-index l.t-items))

abbrev pub decreases-sort_over : goal.decreases-sort_over
decreases-sort_over l = 2 * weights (terms l.ts.now) + 1

abbrev pub decreases-sort_of_term : goal.decreases-sort_of_term
decreases-sort_of_term l = 2 * weight (term l.t.now)

abbrev pub decreases-is_sorted_below : goal.decreases-is_sorted_below
decreases-is_sorted_below l = 2 * weight (formula l.p.now) + 1

abbrev pub decreases-is_sorted : goal.decreases-is_sorted
decreases-is_sorted l = 2 * weight (formula l.p.now)
