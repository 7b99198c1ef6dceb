-- One occurrence of a node replaced, part after part.
use Rattle.std.specs.Prelude.{◌≡◌, ℕ, zero, suc, Bool, true, false, Option, Some, None}
use Rattle.logic_terms.specs.Node.{Node, num, flag, sym, bound, op1, op2, op3, opn, quant, Nodes, no_nodes, node}
use Rattle.logic_terms.specs.Same.{same_node}
use Rattle.logic_terms.specs.View.{formula}
use Rattle.logic_terms.specs.declared.syntax.Formula.{Formula}
use Rattle.cert_rules.specs.Replacing.{Replaced, done, passed}

-- A node, and how many more occurrences are to be passed after it; none where one was replaced.
abbrev pub Swapped : Type 0
Swapped = Node × Option ℕ

-- at an occurrence
abbrev pub met : Node → Node → ℕ → Swapped
met y p zero = (y, None)
met y p (suc k) = (p, Some k)

-- at an occurrence, or on in the parts
abbrev pub entered : Bool → Node → Node → ℕ → Swapped → Swapped
entered true y p k parts = met y p k
entered false y p k parts = parts

abbrev pub reached : Option ℕ → Bool → Node → Node → Swapped → Swapped
reached None b y p parts = (p, None)
reached (Some k) b y p parts = entered b y p k parts

abbrev pub on1 : (Node → Node) → Swapped → Swapped
on1 f u = (f u.0, u.1)

abbrev pub on2 : (Node → Node → Node) → Swapped → (Option ℕ → Swapped) → Swapped
on2 f u g = on1 (f u.0) (g u.1)

abbrev pub on3 : (Node → Node → Node → Node) → Swapped → (Option ℕ → Swapped) → (Option ℕ → Swapped) → Swapped
on3 f u g h = on2 (f u.0) (g u.1) h

module _ (x y : Node) where
  abbrev mutual
    pub swap : Node → Option ℕ → Swapped
    swap (num n) l = reached l (same_node x (num n)) y (num n) (num n, l)
    swap (flag b) l = reached l (same_node x (flag b)) y (flag b) (flag b, l)
    swap (sym n) l = reached l (same_node x (sym n)) y (sym n) (sym n, l)
    swap (bound n) l = reached l (same_node x (bound n)) y (bound n) (bound n, l)
    swap (op1 o a) l = reached l (same_node x (op1 o a)) y (op1 o a) (on1 (op1 o) (swap a l))
    swap (op2 o a b) l = reached l (same_node x (op2 o a b)) y (op2 o a b) (on2 (op2 o) (swap a l) (swap b))
    swap (op3 o a b c) l = reached l (same_node x (op3 o a b c)) y (op3 o a b c) (on3 (op3 o) (swap a l) (swap b) (swap c))
    swap (opn o ns) l = reached l (same_node x (opn o ns)) y (opn o ns) (let u = swap_among ns l in (opn o u.0, u.1))
    swap (quant q a b p) l = reached l (same_node x (quant q a b p)) y (quant q a b p) (on3 (quant q) (swap a l) (swap b) (swap p))

    pub swap_among : Nodes → Option ℕ → Nodes × Option ℕ
    swap_among no_nodes l = (no_nodes, l)
    swap_among (node a ns) l = let u = swap a l in let v = swap_among ns u.1 in (node u.0 v.0, v.1)

  -- in the parts of a node alone
  abbrev pub swap_parts : Node → Option ℕ → Swapped
  swap_parts (op1 o a) l = on1 (op1 o) (swap a l)
  swap_parts (op2 o a b) l = on2 (op2 o) (swap a l) (swap b)
  swap_parts (op3 o a b c) l = on3 (op3 o) (swap a l) (swap b) (swap c)
  swap_parts (opn o ns) l = let u = swap_among ns l in (opn o u.0, u.1)
  swap_parts (quant q a b p) l = on3 (quant q) (swap a l) (swap b) (swap p)
  swap_parts p l = (p, l)

-- the formula with the occurrence replaced, or none where there are not so many
abbrev pub Replaces : Option Formula → Replaced Node → Type 0
Replaces (Some q) r = r ≡ done (formula q)
Replaces None r = (k : ℕ) × (r ≡ passed k)
