-- Propagation along hints, hint by hint.
use Rattle.std.proofs.Common.{◌≡◌, ◌≢◌, refl, sym, ◌∙◌, ap, ℕ, Bool, true, false, List, [], ◌∷◌, length, drop, get_or, ◌<◌, ◌≤◌, ◌+◌, Option, Some, None, arith, add-one, drop-cons}
use Rattle.std.specs.Prelude.{◌||◌}
use Rattle.std.proofs.Math.ListN.{drop_of_length-le}
use Rattle.logic_terms.specs.Node.{Node}
use Rattle.logic_terms.specs.Same.{same_node}
use Rattle.cert_rules.specs.Propagation.{clause_at, is_last, after_hint, left_of, propagates}
use Rattle.cert_store.specs.Assumed.{Adds, Agrees, unassumed}
use Rattle.cert_store.proofs.Left.{same_left}

-- at hint i, where f holds of what is assumed, propagation from the start is propagation from here
pub record Going (cs : List (List Node)) (start f : Node → Bool) (hints : List ℕ) (i : ℕ) : Type 0 where
  pub goes : (known : List Node) → Agrees start known → (more : List Node) × (Agrees f more × (propagates cs known hints ≡ propagates cs more (drop i hints)))

pub going_start : (cs : List (List Node)) (f : Node → Bool) (hints : List ℕ) → Going cs f f hints 0
going_start cs f hints = record { goes = λ known h. (known, (h, refl)) }

-- ---- one hint

module _ (cs : List (List Node)) (f : Node → Bool) (more : List Node) (h : Agrees f more) (k : ℕ) (ks : List ℕ) where
  at_none : clause_at cs k ≡ None → propagates cs more (k ∷ ks) ≡ false
  at_none e = ap (λ (o : Option (List Node)). after_hint more (left_of more o) ks (λ m. propagates cs m ks)) e

  at_some : (c : List Node) → clause_at cs k ≡ Some c → (left : List Node) → unassumed f c ≡ left → propagates cs more (k ∷ ks) ≡ after_hint more (Some left) ks (λ m. propagates cs m ks)
  at_some c e left is =
      ap (λ (o : Option (List Node)). after_hint more (left_of more o) ks (λ m. propagates cs m ks)) e
      ∙ ap (λ (l : List Node). after_hint more (Some l) ks (λ m. propagates cs m ks)) (sym (same_left f more c h) ∙ is)

-- ---- the hints after it

rest_of : (hints : List ℕ) (i : ℕ) → i < length hints → drop i hints ≡ get_or hints i 0 ∷ drop (i + 1) hints
rest_of hints i h = rw (add-one, drop-cons hints i 0)

last_rest : (hints : List ℕ) (i : ℕ) → i + 1 ≡ length hints → is_last (drop (i + 1) hints) ≡ true
last_rest hints i e = let h : length hints ≤ i + 1 = omega arith in ap is_last (drop_of_length-le hints h)

more_rest : (hints : List ℕ) (i : ℕ) → i < length hints → i + 1 ≢ length hints → is_last (drop (i + 1) hints) ≡ false
more_rest hints i h n = let m : i + 1 < length hints = omega arith in ap is_last (rest_of hints (i + 1) m)

-- ---- a turn of the loop

module _ (cs : List (List Node)) (start f : Node → Bool) (hints : List ℕ) (i : ℕ) (g : Going cs start f hints i) where
  -- what propagation finds, from what the hint's turn does
  turns : i < length hints → (b : Bool) → ((more : List Node) → Agrees f more → propagates cs more (get_or hints i 0 ∷ drop (i + 1) hints) ≡ b) → (known : List Node) → Agrees start known → b ≡ propagates cs known hints
  turns h b t known a =
      let s = g.goes known a in
      sym (s.1.1 ∙ ap (propagates cs s.0) (rest_of hints i h) ∙ t s.0 s.1.0)

  pub stops_none : i < length hints → clause_at cs (get_or hints i 0) ≡ None → (known : List Node) → Agrees start known → false ≡ propagates cs known hints
  stops_none h e = turns h false (λ more a. at_none cs f more a _ _ e)

  module _ (c : List Node) where
    pub stops_stuck : i < length hints → clause_at cs (get_or hints i 0) ≡ Some c → (q r : Node) (qs : List Node) → unassumed f c ≡ q ∷ r ∷ qs → (known : List Node) → Agrees start known → false ≡ propagates cs known hints
    stops_stuck h e q r qs is = turns h false (λ more a. at_some cs f more a _ _ c e (q ∷ r ∷ qs) is)

    pub stops_false : i < length hints → clause_at cs (get_or hints i 0) ≡ Some c → unassumed f c ≡ [] → i + 1 ≡ length hints → (known : List Node) → Agrees start known → true ≡ propagates cs known hints
    stops_false h e is l =
        turns h true (λ more a. at_some cs f more a _ _ c e [] is ∙ ap (λ (b : Bool). b || propagates cs more (drop (i + 1) hints)) (last_rest hints i l))

    pub goes_on_false : i < length hints → clause_at cs (get_or hints i 0) ≡ Some c → unassumed f c ≡ [] → i + 1 ≢ length hints → (f' : Node → Bool) → ((p : Node) → f' p ≡ f p) → Going cs start f' hints (i + 1)
    goes_on_false h e is l f' same = record {
      goes = λ known a.
          let s = g.goes known a in (
            s.0,
            (
              (λ p. same p ∙ s.1.0 p),
              s.1.1 ∙ ap (propagates cs s.0) (rest_of hints i h) ∙ at_some cs f s.0 s.1.0 _ _ c e [] is
                  ∙ ap (λ (b : Bool). b || propagates cs s.0 (drop (i + 1) hints)) (more_rest hints i h l),
            ),
          );
    }

    pub goes_on_one : i < length hints → clause_at cs (get_or hints i 0) ≡ Some c → (q : Node) → unassumed f c ≡ q ∷ [] → (f' : Node → Bool) → Adds q f f' → Going cs start f' hints (i + 1)
    goes_on_one h e q is f' adds = record {
      goes = λ known a.
          let s = g.goes known a in
          (q ∷ s.0, ((λ p. adds p ∙ ap (λ (b : Bool). same_node p q || b) (s.1.0 p)), s.1.1 ∙ ap (propagates cs s.0) (rest_of hints i h) ∙ at_some cs f s.0 s.1.0 _ _ c e (q ∷ []) is));
    }

  pub ends : length hints ≤ i → (known : List Node) → Agrees start known → false ≡ propagates cs known hints
  ends h known a =
      let s = g.goes known a in
      sym (s.1.1 ∙ ap (propagates cs s.0) (drop_of_length-le hints h))
