-- What the reader's operators build.
use Rattle.std.specs.Prelude.{ℕ}
use Rattle.logic_terms.specs.Node.{fld, upd, call}
use Rattle.logic_terms.specs.Operators.{list_of, quantifier_of}
use Rattle.logic_terms.specs.NodeParts.{op1_of, op2_of, op3_of}
use Rattle.term_reader.specs.Trees.{Build, one, two, three, many, over, an_array, a_record}
use Rattle.term_reader.specs.declared.operator.Operator.{Operator}

abbrev pub build : Operator → Build
build (Operator.One o) = one (op1_of o)
build (Operator.Two o) = two (op2_of o)
build (Operator.Three o) = three (op3_of o)
build (Operator.List o) = many (list_of o)
build (Operator.Quantified q) = over (quantifier_of q)
build Operator.Array = an_array
build Operator.Record = a_record

abbrev pub with_index : Build → ℕ → Build
with_index (one (fld j)) k = one (fld k)
with_index (two (upd j)) k = two (upd k)
with_index (many (call j)) k = many (call k)
with_index o k = o
