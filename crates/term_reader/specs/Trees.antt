-- Terms, formulas and sorts as one kind of tree, and the parts of a tree that is being read.
use Rattle.std.specs.Prelude.{◌≡◌, ℕ, suc, ◌==◌, nat_lt, Bool, true, false, ◌&&◌, if◌then◌else◌, List, [], ◌∷◌, ◌++◌, length, Option, Some, None, codes}
use Rattle.logic_terms.specs.Node.{Op1, fld, Op2, upd, Op3, OpN, call, Quant, Node, op1, op2, op3, opn, quant, Nodes, no_nodes, node}
use Rattle.logic_terms.specs.Value.{Kind, numbers, arrays, records, Kinds, no_kinds, kind}
use Rattle.logic_terms.specs.Text.{op1_text, op2_text, op3_text, opn_text, quant_text, node_text}
use Rattle.term_reader.specs.Bytes.{is_digit, first, IsWhole}
use Rattle.term_reader.specs.Sorts.{kind_text}
use Rattle.term_reader.specs.Values.{same_side, gives1, takes1, fits1, gives2, takes2, fits2, takes3, fitsn, is_node}
use Rattle.term_reader.specs.declared.part.Side.{Side}
use Rattle.term_reader.specs.declared.part.Side.TheVariants.{Term, Formula, Sort}

pub data Tree : Type 0 where
  of_node : Node → Tree
  of_kind : Kind → Tree

abbrev pub tree_text : Tree → List ℕ
tree_text (of_node n) = node_text n
tree_text (of_kind k) = kind_text k

abbrev pub is_of : Side → Tree → Bool
is_of s (of_node n) = is_node s n
is_of s (of_kind k) = same_side s Sort

abbrev pub IsOf : Side → Tree → Type 0
IsOf s t = is_of s t ≡ true

-- what stands after a bracket
pub data Build : Type 0 where
  one : Op1 → Build
  two : Op2 → Build
  three : Op3 → Build
  many : OpN → Build
  over : Quant → Build
  an_array : Build
  a_record : Build

abbrev pub build_text : Build → List ℕ
build_text (one o) = op1_text o
build_text (two o) = op2_text o
build_text (three o) = op3_text o
build_text (many o) = opn_text o
build_text (over q) = quant_text q
build_text an_array = codes "A"
build_text a_record = codes "R"

abbrev pub gives : Build → Side
gives (one o) = gives1 o
gives (two o) = gives2 o
gives (three o) = Term
gives (many o) = Term
gives (over q) = Formula
gives an_array = Sort
gives a_record = Sort

abbrev pub fits : Build → Bool
fits (one o) = fits1 o
fits (two o) = fits2 o
fits (three o) = true
fits (many o) = fitsn o
fits (over q) = true
fits an_array = true
fits a_record = true

-- what part `i` is, from 0; none where there is no such part
abbrev pub wants : Build → ℕ → Option Side
wants (one o) i = if i == 0 then Some (takes1 o) else None
wants (two o) i = if nat_lt i 2 then Some (takes2 o) else None
wants (three o) i = if i == 0 then Some (takes3 o) else (if nat_lt i 3 then Some Term else None)
wants (many o) i = Some Term
wants (over q) i = if nat_lt i 2 then Some Term else (if i == 2 then Some Formula else None)
wants an_array i = if i == 0 then Some Sort else None
wants a_record i = Some Sort

-- whether so many parts are enough
abbrev pub is_full : Build → ℕ → Bool
is_full (one o) i = i == 1
is_full (two o) i = i == 2
is_full (three o) i = i == 3
is_full (many o) i = true
is_full (over q) i = i == 3
is_full an_array i = i == 1
is_full a_record i = true

abbrev pub nodes_in : List Tree → Nodes
nodes_in [] = no_nodes
nodes_in (of_node n ∷ ts) = node n (nodes_in ts)
nodes_in (of_kind k ∷ ts) = nodes_in ts

abbrev pub kinds_in : List Tree → Kinds
kinds_in [] = no_kinds
kinds_in (of_node n ∷ ts) = kinds_in ts
kinds_in (of_kind k ∷ ts) = kind k (kinds_in ts)

abbrev pub made1 : Op1 → List Tree → Tree
made1 o (of_node a ∷ []) = of_node (op1 o a)
made1 o _ = of_kind numbers

abbrev pub made2 : Op2 → List Tree → Tree
made2 o (of_node a ∷ of_node b ∷ []) = of_node (op2 o a b)
made2 o _ = of_kind numbers

abbrev pub made3 : Op3 → List Tree → Tree
made3 o (of_node a ∷ of_node b ∷ of_node c ∷ []) = of_node (op3 o a b c)
made3 o _ = of_kind numbers

abbrev pub made_over : Quant → List Tree → Tree
made_over q (of_node a ∷ of_node b ∷ of_node c ∷ []) = of_node (quant q a b c)
made_over q _ = of_kind numbers

abbrev pub made_array : List Tree → Tree
made_array (of_kind k ∷ []) = of_kind (arrays k)
made_array _ = of_kind numbers

-- the tree of these parts
abbrev pub made : Build → List Tree → Tree
made (one o) ts = made1 o ts
made (two o) ts = made2 o ts
made (three o) ts = made3 o ts
made (many o) ts = of_node (opn o (nodes_in ts))
made (over q) ts = made_over q ts
made an_array ts = made_array ts
made a_record ts = of_kind (records (kinds_in ts))

-- trees, each with a space before it
abbrev pub spaced : List Tree → List ℕ
spaced [] = []
spaced (t ∷ ts) = 32 ∷ (tree_text t ++ spaced ts)

-- a bracket that is open: what stands after it, and the parts that are read
pub data Level : Type 0 where
  level : Build → List Tree → Level

-- the text of a level up to its next part
abbrev pub level_text : Level → List ℕ
level_text (level o ts) = 40 ∷ (build_text o ++ spaced ts)

-- the text up to the next part, the innermost level first
abbrev pub path : List Level → List ℕ
path [] = []
path (l ∷ ls) = path ls ++ (level_text l ++ (32 ∷ []))

abbrev pub is_wanted : Option Side → Tree → Bool
is_wanted None t = false
is_wanted (Some s) t = is_of s t

-- trees from part `i` on are what is wanted there
abbrev pub all_wanted : Build → ℕ → List Tree → Bool
all_wanted o i [] = true
all_wanted o i (t ∷ ts) = is_wanted (wants o i) t && all_wanted o (suc i) ts

abbrev pub IsRight : Build → List Tree → Type 0
IsRight o ts = (fits o ≡ true) × (all_wanted o 0 ts ≡ true)

-- in these levels, of which the outermost gives what `whole` wants, the next part is wanted to be of `s`
abbrev pub Wanted : List Level → Side → Side → Type 0
Wanted [] whole s = s ≡ whole
Wanted (level o ts ∷ ls) whole s = IsRight o ts × (wants o (length ts) ≡ Some s) × Wanted ls whole (gives o)

-- whether a number stands at the end of what stands after a bracket
abbrev pub ends_in_number : Build → Bool
ends_in_number (one (fld k)) = true
ends_in_number (two (upd k)) = true
ends_in_number (many (call k)) = true
ends_in_number _ = false

-- what was read last is whole before byte `c`
abbrev pub IsCut : Build → List Tree → ℕ → Type 0
IsCut o [] c = ends_in_number o ≡ true → is_digit c ≡ false
IsCut o (t ∷ []) c = IsWhole tree_text t c
IsCut o (t ∷ u ∷ ts) c = IsCut o (u ∷ ts) c

-- what stands between the whole text and the rest: a part is to follow, or a space or a bracket
abbrev pub IsAt : List ℕ → Side → Option Side → List Level → List ℕ → Type 0
IsAt text whole (Some s) ls r = Wanted ls whole s × (text ≡ path ls ++ r)
IsAt text whole None [] r = ⊥
IsAt text whole None (level o ts ∷ ls) r = IsRight o ts × Wanted ls whole (gives o) × IsCut o ts (first r) × (text ≡ path ls ++ (level_text (level o ts) ++ r))

-- the same after a part that is read, which is the whole or one part more
abbrev pub IsAfter : List ℕ → Side → Tree → List Level → List ℕ → Type 0
IsAfter text whole t ls r = (s : Side) × Wanted ls whole s × IsOf s t × IsWhole tree_text t (first r) × (text ≡ path ls ++ (tree_text t ++ r))
