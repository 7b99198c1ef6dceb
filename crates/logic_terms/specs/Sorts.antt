-- The kind that a sort is.
use Rattle.std.specs.Prelude.{List, [], ◌∷◌}
use Rattle.logic_terms.specs.Value.{Kind, numbers, truths, arrays, records, Kinds, no_kinds, kind}
use Rattle.logic_terms.specs.declared.sort.Sort.{Sort, fold-Sort}
use Rattle.logic_terms.specs.declared.sort.Sort.TheOpen.{Sort-F}

abbrev pub kinds_in : List Kind → Kinds
kinds_in [] = no_kinds
kinds_in (k ∷ ks) = kind k (kinds_in ks)

abbrev pub sort_step : Sort-F Kind → Kind
sort_step Sort-F.Num = numbers
sort_step Sort-F.Truth = truths
sort_step (Sort-F.Array k) = arrays k
sort_step (Sort-F.Record ks) = records (kinds_in ks)

abbrev pub sort : Sort → Kind
sort = fold-Sort Kind sort_step
