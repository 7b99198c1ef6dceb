-- The kinds of sorts that were found.
use Rattle.std.specs.Prelude.{Bool, List, map, Option, Some, None}
use Rattle.logic_terms.specs.Value.{Kind, numbers, truths, Kinds}
use Rattle.logic_terms.specs.Sorts.{sort, kinds_in}
use Rattle.logic_terms.specs.Sorting.{Signature, given}
use Rattle.logic_terms.specs.Goal.{problem}
use Rattle.logic_terms.specs.declared.sort.Sort.{Sort}
use Rattle.cert_lines.specs.Symbols.{with_new}
use Rattle.cert_sorts.specs.declared.scope.Scope.{Scope}

abbrev pub found : Option Sort → Option Kind
found (Some s) = Some (sort s)
found None = None

abbrev pub kinds : List Sort → Kinds
kinds ss = kinds_in (map sort ss)

abbrev pub found_all : Option (List Sort) → Option Kinds
found_all (Some ss) = Some (kinds ss)
found_all None = None

abbrev pub numbers_if : Bool → Option Kind
numbers_if b = given b numbers

abbrev pub truths_if : Bool → Option Kind
truths_if b = given b truths

-- the goal's symbols, then the new ones; the goal's calls
abbrev pub signature : Scope → Signature
signature s = with_new (problem s.goal.now).signature s.fresh
