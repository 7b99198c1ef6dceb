-- Lists of terms that are of different lengths differ.
use Rattle.std.proofs.Common.{◌≡◌, ◌≢◌, refl, ap, suc, Bool, true, false, ◌&&◌, List, [], ◌∷◌, length}
use Rattle.logic_terms.specs.View.{term, terms}
use Rattle.logic_terms.specs.Same.{same_node, same_nodes}
use Rattle.logic_terms.specs.declared.syntax.Term.{Term}

and_false : (a b : Bool) → b ≡ false → (a && b) ≡ false
and_false true b h = h
and_false false b h = refl

pub terms_lengths : (ts us : List Term) → length ts ≢ length us → same_nodes (terms ts) (terms us) ≡ false
terms_lengths [] [] h = absurd (h refl)
terms_lengths [] (u ∷ us) h = refl
terms_lengths (x ∷ ts) [] h = refl
terms_lengths (x ∷ ts) (u ∷ us) h = and_false (same_node (term x) (term u)) _ (terms_lengths ts us (λ e. h (ap (λ n. suc n) e)))
