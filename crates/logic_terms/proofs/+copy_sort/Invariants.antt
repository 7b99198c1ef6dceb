use Rattle.std.proofs.Common.{◌≡◌, take}
use Rattle.logic_terms.proofs.+copy_sort.Given as goal

abbrev pub invariant-copy_goal::copy_sorts-loop-sort :
    goal.invariant-copy_goal::copy_sorts-loop-sort
invariant-copy_goal::copy_sorts-loop-sort l = l.copy ≡ take l.sort-index l.sort-items
