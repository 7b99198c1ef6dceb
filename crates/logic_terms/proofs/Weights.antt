-- A term in a list has fewer nodes than the list.
use Rattle.std.proofs.Common.{◌≡◌, ap, ℕ, zero, suc, ◌+◌, ◌<◌, List, [], ◌∷◌, length, get_or, arith}
use Rattle.logic_terms.specs.View.{term, terms}
use Rattle.logic_terms.specs.Weight.{weight, weights}
use Rattle.logic_terms.specs.declared.syntax.Term.{Term}

pub weight_at : (ts : List Term) (i : ℕ) (t : Term) → i < length ts → t ≡ get_or ts i t → weight (term t) < weights (terms ts)
weight_at [] i t h is = absurd (omega arith)
weight_at (x ∷ ts) zero t h is = let e = ap (λ y. weight (term y)) is in omega (arith, e)
weight_at (x ∷ ts) (suc i) t h is = let e : weight (term t) < weights (terms ts) = weight_at ts i t (omega arith) is in omega (arith, e)
