-- A goal with arrays and a record, for lines that are judged by hand.
use Rattle.std.specs.Prelude.{ℕ, ℤ, negsuc, [], ◌∷◌}
use Rattle.logic_terms.specs.Node.{tru, fst, lst, fld, arith, quo, rem, mod_by, iff, sel, upd, sto, fill, fields, Node, num, sym, op1, op2, op3, opn, no_nodes, node}
use Rattle.logic_terms.specs.Value.{numbers, truths, arrays, records, no_kinds, kind}
use Rattle.cert_rules.specs.Context.{Context}
use Rattle.cert_rules.specs.Worked.{x, equal}

-- beside the numbers x and y and a truth value: two arrays of numbers, an array of truth values, a record of a number and a
-- truth value, and another truth value

abbrev pub switch : Node
switch = sym 2

abbrev pub items : Node
items = sym 3

abbrev pub others : Node
others = sym 4

abbrev pub flags : Node
flags = sym 5

abbrev pub pair : Node
pair = sym 6

abbrev pub lamp : Node
lamp = sym 7

abbrev pub compound : Context
compound = record {
  goal = record {
    signature = record {
      symbols = numbers ∷ numbers ∷ truths ∷ arrays numbers ∷ arrays numbers ∷ arrays truths ∷ records (kind numbers (kind truths no_kinds)) ∷ truths ∷ [];
      calls = [];
    };
    hypotheses = [];
    conclusion = equal x x;
  };
  fresh = 0;
  earlier = [];
}

-- the number -1 - n
abbrev pub below_0 : ℕ → Node
below_0 n = num (negsuc n)

abbrev pub same_truth : Node → Node → Node
same_truth p q = op2 iff (op1 tru p) (op1 tru q)

abbrev pub first_of : Node → Node
first_of a = op1 fst a

abbrev pub last_of : Node → Node
last_of a = op1 lst a

abbrev pub item_of : Node → Node → Node
item_of a i = op2 sel a i

abbrev pub with_item : Node → Node → Node → Node
with_item a i v = op3 sto a i v

abbrev pub all_of_one : Node → Node → Node → Node
all_of_one f l v = op3 fill f l v

abbrev pub field_of_record : ℕ → Node → Node
field_of_record n r = op1 (fld n) r

abbrev pub with_field_of : ℕ → Node → Node → Node
with_field_of n r v = op2 (upd n) r v

abbrev pub record_of_two : Node → Node → Node
record_of_two a b = opn fields (node a (node b no_nodes))

abbrev pub quotient_by : ℤ → Node → Node
quotient_by d a = op2 (arith quo) a (num d)

abbrev pub remainder_by : ℤ → Node → Node
remainder_by d a = op2 (arith rem) a (num d)

abbrev pub modulus_by : ℤ → Node → Node
modulus_by d a = op2 (arith mod_by) a (num d)
