-- The clauses that hints name, and the last clause.
use Rattle.std.proofs.Common.{◌≡◌, refl, sym, ◌∙◌, ap, ℕ, zero, suc, Bool, true, false, List, [], ◌∷◌, ◌++◌, map, length, get_or, ◌≤◌, ◌+◌, ◌-◌, arith}
use Rattle.std.specs.Prelude.{◌↔◌, IsTrue, slice_get, option_map}
use Rattle.std.proofs.lemmas.Bool.{false≢true}
use Rattle.logic_terms.specs.Node.{Node}
use Rattle.logic_terms.specs.View.{formula}
use Rattle.logic_terms.specs.Sorting.{nth}
use Rattle.logic_terms.specs.declared.syntax.Formula.{Formula}
use Rattle.cert_rules.specs.Propagation.{clause_at}
use Rattle.cert_rules.specs.Checking.{ends_empty}
use Rattle.cert_store.specs.Assumed.{unassumed}
use Rattle.cert_store.specs.Store.{nodes}

found : (cs : List (List Formula)) (k : ℕ) → option_map (λ ps. map formula ps) (slice_get cs k) ≡ nth (nodes cs) k
found [] k = refl
found (c ∷ cs) zero = refl
found (c ∷ cs) (suc k) = found cs k

-- the clause at a number, which is one more than its index
pub clause_found : (cs : List (List Formula)) (n i : ℕ) → 1 ≤ n → i ≡ n - 1 → option_map (λ ps. map formula ps) (slice_get cs i) ≡ clause_at (nodes cs) n
clause_found cs zero i h e = absurd (omega arith)
clause_found cs (suc k) i h e = let s : i ≡ k = omega arith in ap (λ (j : ℕ). option_map (λ ps. map formula ps) (slice_get cs j)) s ∙ found cs k

told : (b : Bool) (ps : List Formula) → (IsTrue b ↔ (ps ≡ [])) → b ≡ ends_empty (map formula ps ∷ [])
told true [] h = refl
told false [] h = absurd (false≢true (h.1 refl))
told true (p ∷ ps) h = let e = h.0 refl in cc
told false (p ∷ ps) h = refl

-- whether the last clause is empty
pub ends : (cs : List (List Formula)) (k : ℕ) (last : List Formula) (b : Bool) → k + 1 ≡ length cs → last ≡ get_or cs k last → (IsTrue b ↔ (last ≡ [])) → b ≡ ends_empty (nodes cs)
ends [] k last b l e h = absurd (omega arith)
ends (c ∷ []) zero last b l e h = told b last h ∙ ap (λ (ps : List Formula). ends_empty (map formula ps ∷ [])) e
ends (c ∷ []) (suc k) last b l e h = absurd (omega arith)
ends (c ∷ d ∷ cs) zero last b l e h = absurd (omega arith)
ends (c ∷ d ∷ cs) (suc k) last b l e h = ends (d ∷ cs) k last b (omega arith) e h

-- two literals at least, where one is left beside the last
pub two_left : (f : Node → Bool) (c : List Node) (all rest : List Formula) (p : Formula) → map formula all ≡ unassumed f c → all ≡ rest ++ p ∷ [] → (rest ≡ [] → false ≡ true) → (q : Node) × (r : Node) × (qs : List Node) × (unassumed f c ≡ q ∷ r ∷ qs)
two_left f c all [] p e s n = absurd (false≢true (n refl))
two_left f c all (a ∷ []) p e s n = (formula a, formula p, [], sym e ∙ ap (λ (ps : List Formula). map formula ps) s)
two_left f c all (a ∷ b ∷ rest) p e s n = (formula a, formula b, map formula (rest ++ p ∷ []), sym e ∙ ap (λ (ps : List Formula). map formula ps) s)
