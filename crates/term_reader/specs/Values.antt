-- Which nodes are terms and which are formulas, with numbers that fit: whole numbers in 128 bits, the numbers of
-- symbols, variables, fields and calls in 32.
use Rattle.std.specs.Prelude.{◌≡◌, ◌<◌, ℕ, ◌^◌, nat_lt, Bool, true, false, ◌&&◌, ℤ, pos, negsuc}
use Rattle.logic_terms.specs.Node.{Op1, bit, tru, neg, fst, lst, fld, Op2, arith, le, eq, conj, disj, iff, sel, upd, Op3, ite, sto, fill, OpN, fields, call, Node, num, flag, sym, bound, op1, op2, op3, opn, quant, Nodes, no_nodes, node}
use Rattle.term_reader.specs.declared.part.Side.{Side}
use Rattle.term_reader.specs.declared.part.Side.TheVariants.{Term, Formula, Sort}

abbrev pub is_index : ℕ → Bool
is_index k = nat_lt k (2 ^ 32)

abbrev pub is_whole : ℤ → Bool
is_whole (pos n) = nat_lt n (2 ^ 127)
is_whole (negsuc n) = nat_lt n (2 ^ 127)

abbrev pub same_side : Side → Side → Bool
same_side Term Term = true
same_side Formula Formula = true
same_side Sort Sort = true
same_side _ _ = false

-- what an operator gives and what it takes, and whether its number fits
abbrev pub gives1 : Op1 → Side
gives1 bit = Term
gives1 tru = Formula
gives1 neg = Formula
gives1 fst = Term
gives1 lst = Term
gives1 (fld k) = Term

abbrev pub takes1 : Op1 → Side
takes1 bit = Formula
takes1 tru = Term
takes1 neg = Formula
takes1 fst = Term
takes1 lst = Term
takes1 (fld k) = Term

abbrev pub fits1 : Op1 → Bool
fits1 bit = true
fits1 tru = true
fits1 neg = true
fits1 fst = true
fits1 lst = true
fits1 (fld k) = is_index k

abbrev pub gives2 : Op2 → Side
gives2 (arith o) = Term
gives2 le = Formula
gives2 eq = Formula
gives2 conj = Formula
gives2 disj = Formula
gives2 iff = Formula
gives2 sel = Term
gives2 (upd k) = Term

abbrev pub takes2 : Op2 → Side
takes2 (arith o) = Term
takes2 le = Term
takes2 eq = Term
takes2 conj = Formula
takes2 disj = Formula
takes2 iff = Formula
takes2 sel = Term
takes2 (upd k) = Term

abbrev pub fits2 : Op2 → Bool
fits2 (arith o) = true
fits2 le = true
fits2 eq = true
fits2 conj = true
fits2 disj = true
fits2 iff = true
fits2 sel = true
fits2 (upd k) = is_index k

-- the first operand of three; the others are terms
abbrev pub takes3 : Op3 → Side
takes3 ite = Formula
takes3 sto = Term
takes3 fill = Term

abbrev pub fitsn : OpN → Bool
fitsn fields = true
fitsn (call k) = is_index k

abbrev mutual
  pub is_node : Side → Node → Bool
  is_node s (num z) = same_side s Term && is_whole z
  is_node s (flag b) = same_side s Formula
  is_node s (sym k) = same_side s Term && is_index k
  is_node s (bound k) = same_side s Term && is_index k
  is_node s (op1 o a) = same_side s (gives1 o) && (fits1 o && is_node (takes1 o) a)
  is_node s (op2 o a b) = same_side s (gives2 o) && (fits2 o && (is_node (takes2 o) a && is_node (takes2 o) b))
  is_node s (op3 o a b c) = same_side s Term && (is_node (takes3 o) a && (is_node Term b && is_node Term c))
  is_node s (opn o ns) = same_side s Term && (fitsn o && are_terms ns)
  is_node s (quant q l h p) = same_side s Formula && (is_node Term l && (is_node Term h && is_node Formula p))

  pub are_terms : Nodes → Bool
  are_terms no_nodes = true
  are_terms (node a ns) = is_node Term a && are_terms ns

-- numbers of 32 and 64 bits, whole numbers of 128, and terms and formulas whose numbers fit
abbrev pub IsIndex : ℕ → Type 0
IsIndex k = k < 2 ^ 32

abbrev pub IsCount : ℕ → Type 0
IsCount k = k < 2 ^ 64

abbrev pub IsNumber : ℤ → Type 0
IsNumber z = is_whole z ≡ true

abbrev pub IsTerm : Node → Type 0
IsTerm n = is_node Term n ≡ true

abbrev pub IsFormula : Node → Type 0
IsFormula n = is_node Formula n ≡ true
