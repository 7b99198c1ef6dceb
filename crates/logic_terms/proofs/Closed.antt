-- A node is closed where no quantifier is wanted around it.
use Rattle.std.proofs.Common.{◌≡◌, ◌∙◌, ap, ap₂, ℕ, suc, ◌+◌, ◌-◌, ◌<◌, max, ◌&&◌, List, length, get_or, drop, arith}
use Rattle.std.specs.Prelude.{nat_le, ◌==◌}
use Rattle.logic_terms.specs.Node.{Node, num, flag, sym as symbol, bound, op1, op2, op3, opn, quant, Nodes, no_nodes, node}
use Rattle.logic_terms.specs.Binding.{is_bound_below, are_bound_below, is_closed}
use Rattle.logic_terms.specs.Levels.{levels, levels_of}
use Rattle.logic_terms.specs.View.{term, terms}
use Rattle.logic_terms.specs.declared.syntax.Term.{Term}
use Rattle.logic_terms.proofs.Lists.{terms_drop}

le_max : (a b d : ℕ) → (nat_le a d && nat_le b d) ≡ nat_le (max a b) d
le_max a b d = grind arith

le_less : (a d : ℕ) → nat_le a (suc d) ≡ nat_le (a - 1) d
le_less a d = grind arith

mutual
  pub bound_below : (d : ℕ) (p : Node) → is_bound_below d p ≡ nat_le (levels p) d
  bound_below d (num n) = grind arith
  bound_below d (flag n) = grind arith
  bound_below d (symbol n) = grind arith
  bound_below d (bound k) = grind arith
  bound_below d (op1 o a) = bound_below d a
  bound_below d (op2 o a b) = ap₂ (λ x y. x && y) (bound_below d a) (bound_below d b) ∙ le_max (levels a) (levels b) d
  bound_below d (op3 o a b c) =
      ap₂ (λ x y. x && y) (bound_below d a) (ap₂ (λ x y. x && y) (bound_below d b) (bound_below d c) ∙ le_max (levels b) (levels c) d) ∙ le_max (levels a) (max (levels b) (levels c)) d
  bound_below d (opn o ns) = all_bound_below d ns
  bound_below d (quant q l h p) =
      ap₂ (λ x y. x && y) (bound_below d l) (ap₂ (λ x y. x && y) (bound_below d h) (bound_below (suc d) p ∙ le_less (levels p) d) ∙ le_max (levels h) (levels p - 1) d) ∙ le_max (levels l) (max (levels h) (levels p - 1)) d

  pub all_bound_below : (d : ℕ) (ns : Nodes) → are_bound_below d ns ≡ nat_le (levels_of ns) d
  all_bound_below d no_nodes = grind arith
  all_bound_below d (node a ns) = ap₂ (λ x y. x && y) (bound_below d a) (all_bound_below d ns) ∙ le_max (levels a) (levels_of ns) d

le_zero : (a : ℕ) → nat_le a 0 ≡ (a == 0)
le_zero a = grind arith

pub closed_levels : (p : Node) → is_closed p ≡ (levels p == 0)
closed_levels p = bound_below 0 p ∙ le_zero (levels p)

max_more : (a b c : ℕ) → max a (max b c) ≡ max (max b a) c
max_more a b c = omega arith

-- one turn of a loop over terms
pub levels_more : (ts : List Term) (i most : ℕ) (t : Term) → i < length ts → t ≡ get_or ts i t → max most (levels_of (terms (drop i ts))) ≡ max (max (levels (term t)) most) (levels_of (terms (drop (i + 1) ts)))
levels_more ts i most t h is = ap (λ ns. max most (levels_of ns)) (terms_drop ts i t h is) ∙ max_more most (levels (term t)) (levels_of (terms (drop (i + 1) ts)))
