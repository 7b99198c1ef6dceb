-- The literals of a clause that are not false.
use Rattle.std.proofs.Common.{◌≡◌, refl, sym, ◌∙◌, ap, ℕ, Bool, true, false, cond, List, [], ◌∷◌, ◌++◌, map, length, take, get_or, ◌<◌, ◌+◌}
use Rattle.std.specs.Prelude.{not, if◌then◌else◌}
use Rattle.std.proofs.lemmas.List.{append-nil}
use Rattle.std.proofs.lemmas.List.Elements.{filter-append}
use Rattle.logic_terms.specs.Node.{Node}
use Rattle.logic_terms.specs.View.{formula}
use Rattle.logic_terms.specs.Binding.{negated}
use Rattle.logic_terms.specs.declared.syntax.Formula.{Formula}
use Rattle.cert_rules.specs.Propagation.{is_false, not_false}
use Rattle.cert_store.specs.Assumed.{Agrees, unassumed}
use Rattle.cert_store.proofs.Keys.{taken_more}

chosen : (b : Bool) (p : Node) (xs ys : List Node) → xs ≡ ys → cond (not b) (p ∷ xs) xs ≡ (if b then ys else p ∷ ys)
chosen true p xs ys e = e
chosen false p xs ys e = ap (λ (zs : List Node). p ∷ zs) e

-- what is left by the set and by the list
pub same_left : (f : Node → Bool) (known ps : List Node) → Agrees f known → unassumed f ps ≡ not_false known ps
same_left f known [] h = refl
same_left f known (p ∷ ps) h =
    ap (λ (b : Bool). cond (not b) (p ∷ unassumed f ps) (unassumed f ps)) (h (negated p))
    ∙ chosen (is_false known p) p (unassumed f ps) (not_false known ps) (same_left f known ps h)

module _ (f : Node → Bool) (ps : List Formula) (i : ℕ) (p : Formula) (h : i < length ps) (e : p ≡ get_or ps i p) where
  one_more : unassumed f (map formula (take (i + 1) ps)) ≡ unassumed f (map formula (take i ps)) ++ unassumed f (formula p ∷ [])
  one_more = ap (unassumed f) (taken_more ps i p h e) ∙ filter-append (λ q. not (f (negated q))) (map formula (take i ps)) (formula p ∷ [])

  pub false_more : f (negated (formula p)) ≡ true → (xs : List Node) → xs ≡ unassumed f (map formula (take i ps)) → xs ≡ unassumed f (map formula (take (i + 1) ps))
  false_more t xs is =
      is ∙ sym (append-nil (unassumed f (map formula (take i ps))))
      ∙ ap (λ (b : Bool). unassumed f (map formula (take i ps)) ++ cond (not b) (formula p ∷ []) []) (sym t) ∙ sym one_more

  pub left_more : f (negated (formula p)) ≡ false → (xs : List Node) → xs ≡ unassumed f (map formula (take i ps)) → xs ++ formula p ∷ [] ≡ unassumed f (map formula (take (i + 1) ps))
  left_more t xs is =
      ap (λ (ys : List Node). ys ++ formula p ∷ []) is
      ∙ ap (λ (b : Bool). unassumed f (map formula (take i ps)) ++ cond (not b) (formula p ∷ []) []) (sym t) ∙ sym one_more
