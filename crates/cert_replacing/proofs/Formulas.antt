-- A formula is no occurrence of a term, so it is replaced in its parts alone.
use Rattle.std.proofs.Common.{◌≡◌, sym, ◌∙◌, ap, ℕ, Option, Some}
use Rattle.logic_terms.specs.Node.{Node}
use Rattle.logic_terms.specs.View.{term, formula}
use Rattle.logic_terms.specs.declared.syntax.Term.{Term}
use Rattle.logic_terms.specs.declared.syntax.Formula.{Formula}
use Rattle.cert_replacing.specs.Swapping.{swap, swap_parts}
use Rattle.cert_rules.proofs.Heads.{no_formula}
use Rattle.cert_replacing.proofs.Swaps.{swap_apart}

pub swap_formula_apart : (x : Term) (y : Node) (p : Formula) (l : Option ℕ) (k : ℕ) → l ≡ Some k → swap_parts (term x) y (formula p) l ≡ swap (term x) y (formula p) l
swap_formula_apart x y p l k is =
    ap (swap_parts (term x) y (formula p)) is ∙ sym (swap_apart (term x) y (formula p) k (no_formula x p)) ∙ sym (ap (swap (term x) y (formula p)) is)
