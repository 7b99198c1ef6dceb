use Rattle.std.proofs.Common.{◌≡◌, ◌++◌, drop, map}
use Rattle.logic_terms.specs.Sorts.{sort as kind_of, kinds_in}
use Rattle.term_reader.specs.Sorts.{spaced_kinds}
use Rattle.term_reader.proofs.sort_text.+sort_text.Given as goal

abbrev pub invariant-push_sorts-loop-sort : goal.invariant-push_sorts-loop-sort
invariant-push_sorts-loop-sort l = l.fn.text.items ++ spaced_kinds (kinds_in (map kind_of l.sorts)) ≡ l.text.items ++ spaced_kinds (kinds_in (map kind_of (drop l.sort-index l.sort-items)))
