-- The text of a term or a formula, and the order of texts.
use Rattle.std.specs.Prelude.{ℕ, suc, Bool, true, false, ◌+◌, ◌==◌, ℤ, pos, negsuc, List, [], ◌++◌, map, codes, if◌then◌else◌}
use Rattle.std.specs.Int.Digits.{digits_of}
use Rattle.std.specs.Ordering.{nat_cmp}
use Rattle.std.specs.Cmp.Lexicographic.{slice_cmp}
use Rattle.std.specs.declared.cmp.Ordering.{Ordering}
use Rattle.std.specs.declared.cmp.Ordering.TheVariants.{Less, Equal, Greater}
use Rattle.logic_terms.specs.Node.{Arith, add, sub, mul, quo, rem, mod_by, pow, Op1, bit, tru, neg, fst, lst, fld, Op2, arith, le, eq, conj, disj, iff, sel, upd, Op3, ite, sto, fill, OpN, fields, call, Quant, all, any, Node, num, flag, sym, bound, op1, op2, op3, opn, quant, Nodes, no_nodes, node}

-- decimal digits with no leading zero
abbrev pub number_text : ℕ → List ℕ
number_text n = if n == 0 then codes "0" else map (λ d. 48 + d) (digits_of 10 n)

abbrev pub whole_text : ℤ → List ℕ
whole_text (pos n) = number_text n
whole_text (negsuc n) = codes "-" ++ number_text (suc n)

abbrev pub arith_text : Arith → List ℕ
arith_text add = codes "+"
arith_text sub = codes "-"
arith_text mul = codes "*"
arith_text quo = codes "quo"
arith_text rem = codes "rem"
arith_text mod_by = codes "mod"
arith_text pow = codes "pow"

abbrev pub op1_text : Op1 → List ℕ
op1_text bit = codes "bit"
op1_text tru = codes "tru"
op1_text neg = codes "not"
op1_text fst = codes "fst"
op1_text lst = codes "lst"
op1_text (fld k) = codes "fld " ++ number_text k

abbrev pub op2_text : Op2 → List ℕ
op2_text (arith o) = arith_text o
op2_text le = codes "<="
op2_text eq = codes "="
op2_text conj = codes "and"
op2_text disj = codes "or"
op2_text iff = codes "iff"
op2_text sel = codes "sel"
op2_text (upd k) = codes "upd " ++ number_text k

abbrev pub op3_text : Op3 → List ℕ
op3_text ite = codes "ite"
op3_text sto = codes "sto"
op3_text fill = codes "fill"

abbrev pub opn_text : OpN → List ℕ
opn_text fields = codes "rec"
opn_text (call k) = codes "call " ++ number_text k

abbrev pub quant_text : Quant → List ℕ
quant_text all = codes "all"
quant_text any = codes "any"

abbrev pub flag_text : Bool → List ℕ
flag_text true = codes "T"
flag_text false = codes "F"

-- an operator and its operands in brackets, one space between two parts
abbrev mutual
  pub node_text : Node → List ℕ
  node_text (num z) = whole_text z
  node_text (flag b) = flag_text b
  node_text (sym k) = codes "s" ++ number_text k
  node_text (bound k) = codes "b" ++ number_text k
  node_text (op1 o a) = codes "(" ++ op1_text o ++ (codes " " ++ node_text a) ++ codes ")"
  node_text (op2 o a b) = codes "(" ++ op2_text o ++ (codes " " ++ node_text a) ++ (codes " " ++ node_text b) ++ codes ")"
  node_text (op3 o a b c) = codes "(" ++ op3_text o ++ (codes " " ++ node_text a) ++ (codes " " ++ node_text b) ++ (codes " " ++ node_text c) ++ codes ")"
  node_text (opn o ns) = codes "(" ++ opn_text o ++ spaced_text ns ++ codes ")"
  node_text (quant q l h p) = codes "(" ++ quant_text q ++ (codes " " ++ node_text l) ++ (codes " " ++ node_text h) ++ (codes " " ++ node_text p) ++ codes ")"

  -- each with a space before it
  pub spaced_text : Nodes → List ℕ
  spaced_text no_nodes = []
  spaced_text (node a ns) = (codes " " ++ node_text a) ++ spaced_text ns

-- byte by byte; a text comes before a longer one that it begins
abbrev pub text_order : List ℕ → List ℕ → Ordering
text_order a b = slice_cmp nat_cmp a b

abbrev pub is_less : Ordering → Bool
is_less Less = true
is_less Equal = false
is_less Greater = false

-- whether the text of the first is the lesser one
abbrev pub precedes : Node → Node → Bool
precedes a b = is_less (text_order (node_text a) (node_text b))
