use Rattle.std.proofs.Common.{sym, ◌∙◌}
use Rattle.logic_terms.proofs.SortViews.{sorts_lengths}
use Rattle.logic_terms.proofs.same_sorts.+same_sort.Goals as goal

pub same_sorts-returns-then-len : goal.same_sorts-returns-then-len
same_sorts-returns-then-len t c =
    sym (sorts_lengths c.args.a.now c.args.b.now (λ e. c.if-len.true (c.len.ensures ∙ e ∙ sym c.len-2.ensures)))
