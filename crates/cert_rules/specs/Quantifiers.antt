-- Instances of quantifiers, and new symbols for what a quantifier says is there (rules C6 and C7).
use Rattle.std.specs.Prelude.{ℕ, List, [], ◌∷◌}
use Rattle.logic_terms.specs.Node.{le, conj, all, any, Node, sym, op2, quant}
use Rattle.logic_terms.specs.Binding.{negated, put}
use Rattle.cert_rules.specs.Judged.{Judged, yields, refused}

-- the body at t, within the bounds
abbrev pub instance_of : Node → Node → Judged (List Node)
instance_of t (quant all l h p) = yields (negated (quant all l h p) ∷ negated (op2 le l t) ∷ negated (op2 le t h) ∷ put t 0 p ∷ [])
instance_of t (quant any l h p) = yields (quant any l h p ∷ negated (op2 le l t) ∷ negated (op2 le t h) ∷ negated (put t 0 p) ∷ [])
instance_of t _ = refused

abbrev pub bounded : Node → Node → Node → Node → Node
bounded l s h p = op2 conj (op2 le l s) (op2 conj (op2 le s h) p)

-- the symbol k is a number within the bounds, of which the body, or its negation, is true
abbrev pub witness_of : ℕ → Node → Judged (List Node)
witness_of k (quant any l h p) = yields (negated (quant any l h p) ∷ bounded l (sym k) h (put (sym k) 0 p) ∷ [])
witness_of k (quant all l h p) = yields (quant all l h p ∷ bounded l (sym k) h (negated (put (sym k) 0 p)) ∷ [])
witness_of k _ = refused
