-- What a term or a formula means after a substitution.
use Rattle.std.proofs.Common.{◌≡◌, refl, ◌∙◌, ap, ℕ, zero, suc, Bool, true, false, arith, List, [], ◌∷◌, ◌++◌, length}
use Rattle.std.proofs.Math.Path.{fun_ext}
use Rattle.std.proofs.lemmas.Bool.{and_parts}
use Rattle.std.specs.Prelude.{nat_lt, ◌==◌, if◌then◌else◌, ℤ}
use Rattle.logic_terms.specs.Node.{Node, num, flag, sym as symbol, bound, op1, op2, op3, opn, quant, Nodes, no_nodes, node, Quant}
use Rattle.logic_terms.specs.Value.{Value, number, truth, count, as_number, as_truth}
use Rattle.logic_terms.specs.Meaning.{World, meaning, meanings, bound_at, ranged, apply1, applyn}
use Rattle.logic_terms.specs.Binding.{put, puts, is_bound_below, are_bound_below, is_closed}

-- what a quantifier says, from the values of its bounds and from its body's truth at each number
abbrev pub over : Quant → Value → Value → (ℤ → Bool) → Value
over q l h p = truth (ranged q (as_number l) (count (as_number l) (as_number h)) p)

pub over-same : (q : Quant) (l l' h h' : Value) (p p' : ℤ → Value) → l ≡ l' → h ≡ h' → ((i : ℤ) → p i ≡ p' i) → over q l h (λ i. as_truth (p i)) ≡ over q l' h' (λ i. as_truth (p' i))
over-same q l l' h h' p p' e f g = rw (e, f) (ap (λ (r : ℤ → Bool). over q l' h' r) (fun_ext (λ i. ap as_truth (g i))))

pub bound_at-more : (vs us : List Value) (k : ℕ) → nat_lt k (length vs) ≡ true → bound_at (vs ++ us) k ≡ bound_at vs k
bound_at-more [] us k h = absurd (grind arith)
bound_at-more (v ∷ vs) us zero h = refl
bound_at-more (v ∷ vs) us (suc k) h = bound_at-more vs us k (grind arith)

mutual
  -- variables from d on are not read, so more values at the end change nothing
  pub meaning-more : (w : World) (vs us : List Value) (p : Node) → is_bound_below (length vs) p ≡ true → meaning w (vs ++ us) p ≡ meaning w vs p
  meaning-more w vs us (num n) h = refl
  meaning-more w vs us (flag b) h = refl
  meaning-more w vs us (symbol k) h = refl
  meaning-more w vs us (bound k) h = bound_at-more vs us k h
  meaning-more w vs us (op1 o a) h = ap (apply1 o) (meaning-more w vs us a h)
  meaning-more w vs us (op2 o a b) h =
      let e = and_parts _ _ h in
      rw (meaning-more w vs us a e.0, meaning-more w vs us b e.1)
  meaning-more w vs us (op3 o a b c) h =
      let e = and_parts _ _ h in
      let f = and_parts _ _ e.1 in
      rw (meaning-more w vs us a e.0, meaning-more w vs us b f.0, meaning-more w vs us c f.1)
  meaning-more w vs us (opn o ns) h = ap (applyn w o) (meanings-more w vs us ns h)
  meaning-more w vs us (quant q l u p) h =
      let e = and_parts _ _ h in
      let f = and_parts _ _ e.1 in
      over-same q _ _ _ _ (λ i. meaning w (number i ∷ (vs ++ us)) p) (λ i. meaning w (number i ∷ vs) p)
      (meaning-more w vs us l e.0) (meaning-more w vs us u f.0) (λ i. meaning-more w (number i ∷ vs) us p f.1)

  pub meanings-more : (w : World) (vs us : List Value) (ns : Nodes) → are_bound_below (length vs) ns ≡ true → meanings w (vs ++ us) ns ≡ meanings w vs ns
  meanings-more w vs us no_nodes h = refl
  meanings-more w vs us (node a ns) h =
      let e = and_parts _ _ h in
      rw (meaning-more w vs us a e.0, meanings-more w vs us ns e.1)

bound_at-last : (vs : List Value) (v : Value) (k : ℕ) → (if k == length vs then v else bound_at vs k) ≡ bound_at (vs ++ v ∷ []) k
bound_at-last [] v zero = refl
bound_at-last [] v (suc k) = grind arith
bound_at-last (u ∷ vs) v zero = grind arith
bound_at-last (u ∷ vs) v (suc k) =
    let e : (suc k == suc (length vs)) ≡ (k == length vs) = grind arith in rw e (bound_at-last vs v k)

module _ (w : World) (t : Node) (closed : is_closed t ≡ true) where
  meaning-chosen : (vs : List Value) (b : Bool) (k : ℕ) → meaning w vs (if b then t else bound k) ≡ (if b then meaning w [] t else bound_at vs k)
  meaning-chosen vs true k = meaning-more w [] vs t closed
  meaning-chosen vs false k = refl

  mutual
    -- with the closed t for the outermost variable it means what it means with the value of t for it
    pub meaning-put : (vs : List Value) (p : Node) → meaning w vs (put t (length vs) p) ≡ meaning w (vs ++ meaning w [] t ∷ []) p
    meaning-put vs (num n) = refl
    meaning-put vs (flag b) = refl
    meaning-put vs (symbol k) = refl
    meaning-put vs (bound k) = meaning-chosen vs (k == length vs) k ∙ bound_at-last vs (meaning w [] t) k
    meaning-put vs (op1 o a) = ap (apply1 o) (meaning-put vs a)
    meaning-put vs (op2 o a b) = rw (meaning-put vs a, meaning-put vs b)
    meaning-put vs (op3 o a b c) = rw (meaning-put vs a, meaning-put vs b, meaning-put vs c)
    meaning-put vs (opn o ns) = ap (applyn w o) (meanings-put vs ns)
    meaning-put vs (quant q l u p) =
        over-same q _ _ _ _ (λ i. meaning w (number i ∷ vs) (put t (suc (length vs)) p)) (λ i. meaning w (number i ∷ (vs ++ meaning w [] t ∷ [])) p)
        (meaning-put vs l) (meaning-put vs u) (λ i. meaning-put (number i ∷ vs) p)

    pub meanings-put : (vs : List Value) (ns : Nodes) → meanings w vs (puts t (length vs) ns) ≡ meanings w (vs ++ meaning w [] t ∷ []) ns
    meanings-put vs no_nodes = refl
    meanings-put vs (node a ns) = rw (meaning-put vs a, meanings-put vs ns)
