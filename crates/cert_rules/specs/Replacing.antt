-- Equals for equals at one occurrence of a term (rule C8).
use Rattle.std.specs.Prelude.{ℕ, zero, suc, Bool, true, false, List, [], ◌∷◌}
use Rattle.logic_terms.specs.Node.{tru, eq, iff, Node, num, flag, sym, bound, op1, op2, op3, opn, quant, Nodes, no_nodes, node}
use Rattle.logic_terms.specs.Same.{same_node}
use Rattle.logic_terms.specs.Binding.{negated}
use Rattle.cert_rules.specs.Judged.{Judged, yields, refused, and_then}

-- a node with the occurrence replaced, or how many more occurrences are to be passed
pub data Replaced (A : Type 0) : Type 0 where
  done : A → Replaced A
  passed : ℕ → Replaced A

-- done in a part, or on in the next part
abbrev pub on_in : {A B : Type 0} → (A → B) → Replaced A → (ℕ → Replaced B) → Replaced B
on_in f (done a) g = done (f a)
on_in f (passed k) g = g k

-- x itself is an occurrence, and nothing inside it is another
abbrev pub here : Bool → Node → ℕ → (ℕ → Replaced Node) → Replaced Node
here true y zero g = done y
here true y (suc k) g = passed k
here false y k g = g k

-- occurrence k of x replaced by y; occurrences are numbered from 0 in the order of the text
module _ (x y : Node) where
  abbrev mutual
    pub replaced : Node → ℕ → Replaced Node
    replaced (num n) k = here (same_node x (num n)) y k passed
    replaced (flag b) k = here (same_node x (flag b)) y k passed
    replaced (sym n) k = here (same_node x (sym n)) y k passed
    replaced (bound n) k = here (same_node x (bound n)) y k passed
    replaced (op1 o a) k = here (same_node x (op1 o a)) y k (λ j. on_in (op1 o) (replaced a j) passed)
    replaced (op2 o a b) k = here (same_node x (op2 o a b)) y k (λ j. on_in (λ c. op2 o c b) (replaced a j) (λ i. on_in (op2 o a) (replaced b i) passed))
    replaced (op3 o a b c) k = here (same_node x (op3 o a b c)) y k (λ j.
        on_in (λ d. op3 o d b c) (replaced a j) (λ i. on_in (λ d. op3 o a d c) (replaced b i) (λ h. on_in (op3 o a b) (replaced c h) passed)))
    replaced (opn o ns) k = here (same_node x (opn o ns)) y k (λ j. on_in (opn o) (replaced_among ns j) passed)
    replaced (quant q l u p) k = here (same_node x (quant q l u p)) y k (λ j.
        on_in (λ d. quant q d u p) (replaced l j) (λ i. on_in (λ d. quant q l d p) (replaced u i) (λ h. on_in (quant q l u) (replaced p h) passed)))

    pub replaced_among : Nodes → ℕ → Replaced Nodes
    replaced_among no_nodes k = passed k
    replaced_among (node a ns) k = on_in (λ d. node d ns) (replaced a k) (λ j. on_in (node a) (replaced_among ns j) passed)

-- the two sides of an equation
abbrev pub sides_of : Node → Judged (Node × Node)
sides_of (op2 eq x y) = yields (x, y)
sides_of (op2 iff (op1 tru x) (op1 tru y)) = yields (x, y)
sides_of _ = refused

-- from the left side to the right at 0, the other way at 1
abbrev pub directed : ℕ → Node × Node → Judged (Node × Node)
directed zero s = yields s
directed (suc zero) s = yields (s.1, s.0)
directed (suc (suc d)) s = refused

abbrev pub replacing_clause : Node → Node → Replaced Node → Judged (List Node)
replacing_clause e p (done q) = yields (negated e ∷ negated p ∷ q ∷ [])
replacing_clause e p (passed k) = refused

abbrev pub replacement : ℕ → ℕ → Node → Node → Judged (List Node)
replacement d k e p = and_then (sides_of e) (λ s. and_then (directed d s) (λ t. replacing_clause e p (replaced t.0 t.1 p k)))
