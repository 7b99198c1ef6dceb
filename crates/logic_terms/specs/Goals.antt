-- The symbols and the calls of a goal's formulas, and their numbers in the order of first appearance.
use Rattle.std.specs.Prelude.{ℕ, suc, not, ◌==◌, if◌then◌else◌, List, [], ◌∷◌, ◌++◌, filter}
use Rattle.logic_terms.specs.Node.{OpN, fields, call, Node, num, flag, sym, bound, op1, op2, op3, opn, quant, Nodes, no_nodes, node}

-- the numbers of the symbols, in the order of the text, with repeats
abbrev mutual
  pub symbols_in : Node → List ℕ
  symbols_in (num n) = []
  symbols_in (flag b) = []
  symbols_in (sym k) = k ∷ []
  symbols_in (bound k) = []
  symbols_in (op1 o a) = symbols_in a
  symbols_in (op2 o a b) = symbols_in a ++ symbols_in b
  symbols_in (op3 o a b c) = symbols_in a ++ (symbols_in b ++ symbols_in c)
  symbols_in (opn o ns) = symbols_of ns
  symbols_in (quant q l h p) = symbols_in l ++ (symbols_in h ++ symbols_in p)

  pub symbols_of : Nodes → List ℕ
  symbols_of no_nodes = []
  symbols_of (node a ns) = symbols_in a ++ symbols_of ns

abbrev pub own_call : OpN → List ℕ
own_call fields = []
own_call (call k) = k ∷ []

-- the numbers of the calls, likewise; a call comes before its arguments
abbrev mutual
  pub calls_in : Node → List ℕ
  calls_in (num n) = []
  calls_in (flag b) = []
  calls_in (sym k) = []
  calls_in (bound k) = []
  calls_in (op1 o a) = calls_in a
  calls_in (op2 o a b) = calls_in a ++ calls_in b
  calls_in (op3 o a b c) = calls_in a ++ (calls_in b ++ calls_in c)
  calls_in (opn o ns) = own_call o ++ calls_of ns
  calls_in (quant q l h p) = calls_in l ++ (calls_in h ++ calls_in p)

  pub calls_of : Nodes → List ℕ
  calls_of no_nodes = []
  calls_of (node a ns) = calls_in a ++ calls_of ns

-- each number once, where it first appears
abbrev pub each_once : List ℕ → List ℕ
each_once [] = []
each_once (k ∷ ks) = k ∷ filter (λ j. not (j == k)) (each_once ks)

abbrev pub all_symbols : List Node → List ℕ
all_symbols [] = []
all_symbols (p ∷ ps) = symbols_in p ++ all_symbols ps

abbrev pub all_calls : List Node → List ℕ
all_calls [] = []
all_calls (p ∷ ps) = calls_in p ++ all_calls ps

-- the symbols of some formulas, in the order of first appearance
abbrev pub symbols_of_goal : List Node → List ℕ
symbols_of_goal ps = each_once (all_symbols ps)

-- the calls, likewise
abbrev pub calls_of_goal : List Node → List ℕ
calls_of_goal ps = each_once (all_calls ps)

-- how many stand before k
abbrev pub place_in : List ℕ → ℕ → ℕ
place_in [] k = 0
place_in (j ∷ js) k = if j == k then 0 else suc (place_in js k)

abbrev pub renamed_op : (ℕ → ℕ) → OpN → OpN
renamed_op g fields = fields
renamed_op g (call k) = call (g k)

-- with the symbol f k for the symbol k, and the call g k for the call k
abbrev mutual
  pub renamed : (ℕ → ℕ) → (ℕ → ℕ) → Node → Node
  renamed f g (num n) = num n
  renamed f g (flag b) = flag b
  renamed f g (sym k) = sym (f k)
  renamed f g (bound k) = bound k
  renamed f g (op1 o a) = op1 o (renamed f g a)
  renamed f g (op2 o a b) = op2 o (renamed f g a) (renamed f g b)
  renamed f g (op3 o a b c) = op3 o (renamed f g a) (renamed f g b) (renamed f g c)
  renamed f g (opn o ns) = opn (renamed_op g o) (renamed_all f g ns)
  renamed f g (quant q l h p) = quant q (renamed f g l) (renamed f g h) (renamed f g p)

  pub renamed_all : (ℕ → ℕ) → (ℕ → ℕ) → Nodes → Nodes
  renamed_all f g no_nodes = no_nodes
  renamed_all f g (node a ns) = node (renamed f g a) (renamed_all f g ns)

-- a formula of some, with the symbols and the calls of them all numbered from 0 in the order of first appearance
abbrev pub numbered : List Node → Node → Node
numbered ps p = renamed (place_in (symbols_of_goal ps)) (place_in (calls_of_goal ps)) p
