-- The values and ranges that the code's are.
use Rattle.std.specs.Prelude.{List, map, Option, Some, None}
use Rattle.logic_terms.specs.View.{term}
use Rattle.linear_prover.specs.Values.{Known, known, Range, range}
use Rattle.linear_prover.specs.declared.values.KnownValue.{KnownValue}
use Rattle.linear_prover.specs.declared.values.ValueRange.{ValueRange}

abbrev pub known_value : KnownValue → Known
known_value k = known (term k.variable) k.value

abbrev pub known_values : List KnownValue → List Known
known_values ks = map known_value ks

abbrev pub value_range : ValueRange → Range
value_range r = range r.lower r.upper

abbrev pub ranged : Option ValueRange → Option Range
ranged (Some r) = Some (value_range r)
ranged None = None
