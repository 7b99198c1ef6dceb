-- Which formulas a set of texts assumes.
use Rattle.std.specs.Prelude.{◌≡◌, ℕ, Bool, not, ◌||◌, List, filter}
use Rattle.std.specs.Global.{Vec}
use Rattle.std.specs.BTreeSet.{BTreeSet, contains_by}
use Rattle.std.specs.Ordering.{nat_cmp}
use Rattle.std.specs.Cmp.Lexicographic.{slice_cmp}
use Rattle.logic_terms.specs.Node.{bit, Node, op1}
use Rattle.logic_terms.specs.Same.{same_node}
use Rattle.logic_terms.specs.Binding.{negated}
use Rattle.logic_terms.specs.Text.{node_text}
use Rattle.cert_rules.specs.Propagation.{among}

-- a formula's text, that of its truth value as a term
abbrev pub key_of : Node → List ℕ
key_of p = node_text (op1 bit p)

-- whether the text of the formula is in the set
abbrev pub assumes : BTreeSet (Vec ℕ) → Node → Bool
assumes s p = contains_by (λ k. slice_cmp nat_cmp (key_of p) k.items) s

-- g holds of q, and where f holds
abbrev pub Adds : Node → (Node → Bool) → (Node → Bool) → Type 0
Adds q f g = (p : Node) → g p ≡ (same_node p q || f p)

-- f holds of these formulas and no other
abbrev pub Agrees : (Node → Bool) → List Node → Type 0
Agrees f ps = (p : Node) → f p ≡ among p ps

-- the formulas whose negations f doesn't hold of
abbrev pub unassumed : (Node → Bool) → List Node → List Node
unassumed f ps = filter (λ p. not (f (negated p))) ps
