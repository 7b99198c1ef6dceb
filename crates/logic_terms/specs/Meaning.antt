-- The value of a term and the truth of a formula.
use Rattle.std.specs.Prelude.{ℕ, zero, suc, Bool, true, false, not, ◌&&◌, ◌||◌, ℤ, pos, negsuc, ◌+ℤ◌, ◌-ℤ◌, ◌*ℤ◌, int_lt, int_le, int_div, int_rem, List, [], ◌∷◌, if◌then◌else◌}
use Rattle.logic_terms.specs.Node.{Arith, add, sub, mul, quo, rem, mod_by, pow, Op1, bit, tru, neg, fst, lst, fld, Op2, arith, le, eq, conj, disj, iff, sel, upd, Op3, ite, sto, fill, OpN, fields, call, Quant, all, any, Node, num, flag, sym, bound, op1, op2, op3, opn, quant, Nodes, no_nodes, node}
use Rattle.logic_terms.specs.Value.{Value, number, truth, array, record_of, Values, no_values, value, as_number, as_truth, kind_of, default, value_at, with_value, copies, count, steps, same_int, same_value}

-- ---- whole numbers

-- toward zero, and 0 by 0 (Ada RM 4.5.5)
abbrev pub quotient : ℤ → ℤ → ℤ
quotient a b = if same_int b (pos 0) then pos 0 else int_div a b

-- with the sign of a, and 0 by 0 (Ada RM 4.5.5)
abbrev pub remainder : ℤ → ℤ → ℤ
remainder a b = if same_int b (pos 0) then pos 0 else int_rem a b

abbrev pub opposite : ℤ → ℤ → Bool
opposite a b = (int_lt a (pos 0) && int_lt (pos 0) b) || (int_lt (pos 0) a && int_lt b (pos 0))

-- the remainder, moved by b where it is not of b's sign (Ada RM 4.5.5)
abbrev pub modulus : ℤ → ℤ → ℤ
modulus a b = let r = remainder a b in if opposite r b then r +ℤ b else r

-- a multiplied n times (Ada RM 4.5.6)
abbrev pub times : ℤ → ℕ → ℤ
times a zero = pos 1
times a (suc n) = times a n *ℤ a

-- 0 at a negative exponent
abbrev pub power : ℤ → ℤ → ℤ
power a (pos n) = times a n
power a (negsuc n) = pos 0

abbrev pub compute : Arith → ℤ → ℤ → ℤ
compute add a b = a +ℤ b
compute sub a b = a -ℤ b
compute mul a b = a *ℤ b
compute quo a b = quotient a b
compute rem a b = remainder a b
compute mod_by a b = modulus a b
compute pow a b = power a b

-- ---- arrays and records

-- the item at an index, the default of the items' kind outside the bounds; a change outside the bounds changes nothing

abbrev pub within : ℤ → ℤ → ℤ → Bool
within l h i = int_le l i && int_le i h

abbrev pub item : Value → ℤ → Value
item (array k f l vs) i = if within f l i then value_at vs (steps (i -ℤ f)) (default k) else default k
item _ i = number (pos 0)

abbrev pub stored : Value → ℤ → Value → Value
stored (array k f l vs) i v = array k f l (if within f l i then with_value vs (steps (i -ℤ f)) v else vs)
stored a i v = a

abbrev pub first : Value → ℤ
first (array k f l vs) = f
first _ = pos 0

abbrev pub last : Value → ℤ
last (array k f l vs) = l
last _ = pos 0

abbrev pub filled : ℤ → ℤ → Value → Value
filled f l v = array (kind_of v) f l (copies (count f l) v)

abbrev pub field : ℕ → Value → Value
field n (record_of vs) = value_at vs n (number (pos 0))
field n _ = number (pos 0)

abbrev pub with_field : ℕ → Value → Value → Value
with_field n (record_of vs) v = record_of (with_value vs n v)
with_field n r v = r

-- ---- worlds

-- What the symbols are, and what the calls answer, by the number of the call and its arguments. A call answers by any
-- function. A finite table, with a default where it has no entry, is one of these, so what holds in all worlds holds for
-- all such tables.
pub record World : Type 0 where
  pub symbol : ℕ → Value
  pub call : ℕ → Values → Value

-- ---- operators

abbrev pub apply1 : Op1 → Value → Value
apply1 bit a = truth (as_truth a)
apply1 tru a = truth (as_truth a)
apply1 neg a = truth (not (as_truth a))
apply1 fst a = number (first a)
apply1 lst a = number (last a)
apply1 (fld n) a = field n a

abbrev pub apply2 : Op2 → Value → Value → Value
apply2 (arith o) a b = number (compute o (as_number a) (as_number b))
apply2 le a b = truth (int_le (as_number a) (as_number b))
apply2 eq a b = truth (same_value a b)
apply2 conj a b = truth (as_truth a && as_truth b)
apply2 disj a b = truth (as_truth a || as_truth b)
apply2 iff a b = truth (if as_truth a then as_truth b else not (as_truth b))
apply2 sel a b = item a (as_number b)
apply2 (upd n) a b = with_field n a b

abbrev pub apply3 : Op3 → Value → Value → Value → Value
apply3 ite a b c = if as_truth a then b else c
apply3 sto a b c = stored a (as_number b) c
apply3 fill a b c = filled (as_number a) (as_number b) c

abbrev pub applyn : World → OpN → Values → Value
applyn w fields vs = record_of vs
applyn w (call k) vs = w.call k vs

-- for all, or for some, of the n numbers from l on
abbrev pub ranged : Quant → ℤ → ℕ → (ℤ → Bool) → Bool
ranged all l zero p = true
ranged all l (suc n) p = p l && ranged all (l +ℤ pos 1) n p
ranged any l zero p = false
ranged any l (suc n) p = p l || ranged any (l +ℤ pos 1) n p

abbrev pub bound_at : List Value → ℕ → Value
bound_at [] n = number (pos 0)
bound_at (v ∷ vs) zero = v
bound_at (v ∷ vs) (suc n) = bound_at vs n

-- the value of a node, where `vs` are the values of the variables, the nearest quantifier's first
abbrev mutual
  pub meaning : World → List Value → Node → Value
  meaning w vs (num n) = number n
  meaning w vs (flag b) = truth b
  meaning w vs (sym k) = w.symbol k
  meaning w vs (bound k) = bound_at vs k
  meaning w vs (op1 o a) = apply1 o (meaning w vs a)
  meaning w vs (op2 o a b) = apply2 o (meaning w vs a) (meaning w vs b)
  meaning w vs (op3 o a b c) = apply3 o (meaning w vs a) (meaning w vs b) (meaning w vs c)
  meaning w vs (opn o as') = applyn w o (meanings w vs as')
  meaning w vs (quant q l h p) =
      let f = as_number (meaning w vs l) in
      truth (ranged q f (count f (as_number (meaning w vs h))) (λ i. as_truth (meaning w (number i ∷ vs) p)))

  pub meanings : World → List Value → Nodes → Values
  meanings w vs no_nodes = no_values
  meanings w vs (node a as') = value (meaning w vs a) (meanings w vs as')

abbrev pub holds : World → List Value → Node → Bool
holds w vs p = as_truth (meaning w vs p)
