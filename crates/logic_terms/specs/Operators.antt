-- The operators that the code names, as operators of nodes.
use Rattle.logic_terms.specs.Node.{Arith, add, sub, mul, quo, rem, mod_by, pow, Op1, fst, lst, fld, Op2, arith, le, eq, conj, disj, iff, sel, upd, Op3, sto, fill, OpN, fields, call, Quant, all, any}
use Rattle.logic_terms.specs.declared.operators.Arithmetic.{Arithmetic}
use Rattle.logic_terms.specs.declared.operators.UnaryOperator.{UnaryOperator}
use Rattle.logic_terms.specs.declared.operators.BinaryOperator.{BinaryOperator}
use Rattle.logic_terms.specs.declared.operators.TernaryOperator.{TernaryOperator}
use Rattle.logic_terms.specs.declared.operators.ListOperator.{ListOperator}
use Rattle.logic_terms.specs.declared.operators.Comparison.{Comparison}
use Rattle.logic_terms.specs.declared.operators.Connective.{Connective}
use Rattle.logic_terms.specs.declared.operators.Quantifier.{Quantifier}

abbrev pub arith_of : Arithmetic → Arith
arith_of Arithmetic.Add = add
arith_of Arithmetic.Sub = sub
arith_of Arithmetic.Mul = mul
arith_of Arithmetic.Quo = quo
arith_of Arithmetic.Rem = rem
arith_of Arithmetic.Mod = mod_by
arith_of Arithmetic.Pow = pow

abbrev pub unary_of : UnaryOperator → Op1
unary_of UnaryOperator.First = fst
unary_of UnaryOperator.Last = lst
unary_of (UnaryOperator.Field k) = fld k

abbrev pub binary_of : BinaryOperator → Op2
binary_of (BinaryOperator.Compute o) = arith (arith_of o)
binary_of BinaryOperator.Select = sel
binary_of (BinaryOperator.Update k) = upd k

abbrev pub ternary_of : TernaryOperator → Op3
ternary_of TernaryOperator.Store = sto
ternary_of TernaryOperator.Fill = fill

abbrev pub list_of : ListOperator → OpN
list_of ListOperator.Record = fields
list_of (ListOperator.Call k) = call k

abbrev pub comparison_of : Comparison → Op2
comparison_of Comparison.AtMost = le
comparison_of Comparison.Equal = eq

abbrev pub connective_of : Connective → Op2
connective_of Connective.And = conj
connective_of Connective.Or = disj
connective_of Connective.Iff = iff

abbrev pub quantifier_of : Quantifier → Quant
quantifier_of Quantifier.All = all
quantifier_of Quantifier.Any = any
