use Rattle.logic_terms.proofs.SortViews.{same_sorts_law}
use Rattle.logic_terms.proofs.equality.same_sort.Goals as goal

pub returns-clause-same : goal.returns-clause-same
returns-clause-same c = same_sorts_law c.same_sort.result c.args.a.now c.args.b.now c.same_sort.ensures
