-- Rules C6 and C7: instances of quantifiers, and new symbols for what a quantifier says is there.
use Rattle.std.proofs.Common.{◌≡◌, refl, sym, ◌∙◌, ap, subst, ℕ, zero, suc, ◌<◌, inl, inr, Bool, true, false, not, ◌&&◌, ◌||◌, List, [], ◌∷◌, arith}
use Rattle.std.proofs.lemmas.Bool.{and_parts, and_from, or_left, or_right, not-true, not-false, cases_Bool, eqb-true, false≢true}
use Rattle.std.proofs.lemmas.Int.{ints}
use Rattle.std.specs.Prelude.{ℤ, pos, negsuc, ◌+ℤ◌, ◌-ℤ◌, ◌≤ℤ◌, int_le, ◌==◌, nat_lt}
use Rattle.logic_terms.specs.Node.{le, all, any, Node, num, flag, sym as symbol, bound, op1, op2, op3, opn, quant}
use Rattle.logic_terms.specs.Value.{Value, number, as_truth, as_number, count, up_to}
use Rattle.logic_terms.specs.Sorting.{IsWorldOf}
use Rattle.logic_terms.specs.Meaning.{World, meaning, holds, ranged}
use Rattle.logic_terms.specs.Binding.{negated, put, is_closed}
use Rattle.logic_terms.proofs.Substitution.{meaning-put}
use Rattle.logic_terms.proofs.Ranged.{ranged-all_at, ranged-dual}
use Rattle.logic_terms.proofs.Sorted.{meaning-number}
use Rattle.cert_lines.specs.Line.{instance, witness}
use Rattle.cert_rules.specs.Judged.{Judged, yields, refused, too_wide, when}
use Rattle.cert_rules.specs.Context.{Context, signature, next_symbol, is_number, is_formula}
use Rattle.cert_rules.specs.Clause.{clause_holds}
use Rattle.cert_rules.specs.Quantifiers.{instance_of, bounded, witness_of}
use Rattle.cert_rules.specs.Rules.{judge}
use Rattle.cert_rules.proofs.Names.{names_below, clause_below, with_symbol}
use Rattle.cert_rules.proofs.NumberedClauses.{IsSound, when_sound}
use Rattle.cert_rules.proofs.Opposite.{holds-negated, negated_below}
use Rattle.cert_rules.proofs.Premises.{unless_negated, or_else, last_holds}
use Rattle.cert_rules.proofs.Opening.{three_below}
use Rattle.cert_rules.proofs.Fresh.{meaning-fresh, holds-fresh, below-more, put-below}
use Rattle.cert_rules.proofs.Values.{le_is}
use Rattle.cert_rules.proofs.Sorting.{formula_below, number_below, number_kind, kind_closed}

-- ---- C6

four_below : (d : ℕ) (p q r s : Node) → names_below d p ≡ true → names_below d q ≡ true → names_below d r ≡ true → names_below d s ≡ true → clause_below d (p ∷ q ∷ r ∷ s ∷ []) ≡ true
four_below d p q r s e f g h = and_from _ _ e (three_below d q r s f g h)

-- where none is so, one that is there is not
ranged-any_at : (p : ℤ → Bool) (l h i : ℤ) → ranged any l (count l h) p ≡ false → l ≤ℤ i → i ≤ℤ h → p i ≡ false
ranged-any_at p l h i e a b =
    not-true (p i) (ranged-all_at (λ j. not (p j)) l h i (not-false _ (sym (ranged-dual p (count l h) l) ∙ e)) a b)

module _ (w : World) (t l h p : Node) (closed : is_closed t ≡ true) (is_num : meaning w [] t ≡ number (as_number (meaning w [] t))) where
  body-at : holds w [] (put t 0 p) ≡ holds w (number (as_number (meaning w [] t)) ∷ []) p
  body-at = ap as_truth (meaning-put w t closed [] p) ∙ ap (λ v. holds w (v ∷ []) p) is_num

  instance_all-holds : clause_holds w (negated (quant all l h p) ∷ negated (op2 le l t) ∷ negated (op2 le t h) ∷ put t 0 p ∷ []) ≡ true
  instance_all-holds =
      unless_negated w (quant all l h p) _ (λ a. unless_negated w (op2 le l t) _ (λ b. unless_negated w (op2 le t h) _ (λ c.
      last_holds _ (body-at ∙ ranged-all_at (λ i. holds w (number i ∷ []) p) (as_number (meaning w [] l)) (as_number (meaning w [] h)) (as_number (meaning w [] t)) a (le_is _ _ b) (le_is _ _ c)))))

  instance_any-holds : clause_holds w (quant any l h p ∷ negated (op2 le l t) ∷ negated (op2 le t h) ∷ negated (put t 0 p) ∷ []) ≡ true
  instance_any-holds =
      or_else (holds w [] (quant any l h p)) _ (λ a. unless_negated w (op2 le l t) _ (λ b. unless_negated w (op2 le t h) _ (λ c.
      last_holds _ (holds-negated w [] (put t 0 p) ∙ ap not (body-at ∙ ranged-any_at (λ i. holds w (number i ∷ []) p) (as_number (meaning w [] l)) (as_number (meaning w [] h)) (as_number (meaning w [] t)) a (le_is _ _ b) (le_is _ _ c))))))

instance_of-sound : (w : World) (d : ℕ) (t q : Node) → is_closed t ≡ true → meaning w [] t ≡ number (as_number (meaning w [] t)) → names_below d t ≡ true → names_below d q ≡ true → IsSound w d (instance_of t q)
instance_of-sound w d t (quant all l h p) closed n b f =
    let e = and_parts _ _ f in
    let g = and_parts _ _ e.1 in (
      instance_all-holds w t l h p closed n,
      four_below d (negated (quant all l h p)) (negated (op2 le l t)) (negated (op2 le t h)) (put t 0 p) f (and_from _ _ e.0 b) (and_from _ _ b g.0) (put-below d t b 0 p g.1),
    )
instance_of-sound w d t (quant any l h p) closed n b f =
    let e = and_parts _ _ f in
    let g = and_parts _ _ e.1 in (
      instance_any-holds w t l h p closed n,
      four_below d (quant any l h p) (negated (op2 le l t)) (negated (op2 le t h)) (negated (put t 0 p)) f (and_from _ _ e.0 b) (and_from _ _ b g.0) (negated_below d (put t 0 p) (put-below d t b 0 p g.1)),
    )
instance_of-sound w d t (num n) closed m b f = tt
instance_of-sound w d t (flag n) closed m b f = tt
instance_of-sound w d t (symbol n) closed m b f = tt
instance_of-sound w d t (bound n) closed m b f = tt
instance_of-sound w d t (op1 o x) closed m b f = tt
instance_of-sound w d t (op2 o x y) closed m b f = tt
instance_of-sound w d t (op3 o x y z) closed m b f = tt
instance_of-sound w d t (opn o ns) closed m b f = tt

pub instance-sound : (c : Context) (w : World) → IsWorldOf (signature c) w → (t q : Node) → IsSound w (next_symbol c) (judge c (instance t q))
instance-sound c w fits t q =
    when_sound w (next_symbol c) (is_number c t && is_formula c q) (instance_of t q) (λ a.
    let e = and_parts _ _ a in
    instance_of-sound w (next_symbol c) t q (kind_closed c t _ (number_kind c t e.0)) (meaning-number (signature c) w fits t (number_kind c t e.0)) (number_below c t e.0) (formula_below c q e.1))

-- ---- C7

-- one of n numbers from l on is so
abbrev IsThere : (ℤ → Bool) → ℕ → ℤ → Bool → Type 0
IsThere p n l b = (k : ℕ) × (k < n) × (p (l +ℤ pos k) ≡ b)

there_first : (p : ℤ → Bool) (n : ℕ) (l : ℤ) (b : Bool) → p l ≡ b → IsThere p (suc n) l b
there_first p n l b e = let z : l +ℤ pos 0 ≡ l = omega (arith, ints) in (0, omega arith, rw z e)

there_later : (p : ℤ → Bool) (n : ℕ) (l : ℤ) (b : Bool) → IsThere p n (l +ℤ pos 1) b → IsThere p (suc n) l b
there_later p n l b r =
    let z : l +ℤ pos (suc r.0) ≡ l +ℤ pos 1 +ℤ pos r.0 = omega (arith, ints) in (suc r.0, omega (arith, r.1), rw z r.2)

some_by : (p : ℤ → Bool) (n : ℕ) (l : ℤ) (b rest : Bool) → p l ≡ b → (rest ≡ true → IsThere p n (l +ℤ pos 1) true) → (b || rest) ≡ true → IsThere p (suc n) l true
some_by p n l true rest e later h = there_first p n l true e
some_by p n l false rest e later h = there_later p n l true (later h)

some_there : (p : ℤ → Bool) (n : ℕ) (l : ℤ) → ranged any l n p ≡ true → IsThere p n l true
some_there p zero l h = absurd (false≢true h)
some_there p (suc n) l h = some_by p n l (p l) (ranged any (l +ℤ pos 1) n p) refl (some_there p n (l +ℤ pos 1)) h

some_not_by : (p : ℤ → Bool) (n : ℕ) (l : ℤ) (b rest : Bool) → p l ≡ b → (rest ≡ false → IsThere p n (l +ℤ pos 1) false) → (b && rest) ≡ false → IsThere p (suc n) l false
some_not_by p n l false rest e later h = there_first p n l false e
some_not_by p n l true rest e later h = there_later p n l false (later h)

some_not_there : (p : ℤ → Bool) (n : ℕ) (l : ℤ) → ranged all l n p ≡ false → IsThere p n l false
some_not_there p zero l h = absurd (false≢true (sym h))
some_not_there p (suc n) l h = some_not_by p n l (p l) (ranged all (l +ℤ pos 1) n p) refl (some_not_there p n (l +ℤ pos 1)) h

at_least-by : (l h e : ℤ) (k : ℕ) → h -ℤ l ≡ e → k < up_to e → int_le l (l +ℤ pos k) ≡ true
at_least-by l h e k f b = grind (arith, ints)

at_most-by : (l h e : ℤ) (k : ℕ) → h -ℤ l ≡ e → k < up_to e → int_le (l +ℤ pos k) h ≡ true
at_most-by l h (pos n) k f b = let g : (l +ℤ pos k) ≤ℤ h = omega (arith, ints) in grind (arith, ints, g)
at_most-by l h (negsuc n) k f b = absurd (omega arith)

new_symbol : (w : World) (d : ℕ) (v : Value) → (with_symbol w d v).symbol d ≡ v
new_symbol w d v = let e : (d == d) ≡ true = grind arith in rw e refl

module _ (w : World) (d : ℕ) (l h p : Node) (below_l : names_below d l ≡ true) (below_h : names_below d h ≡ true) (below_p : names_below d p ≡ true) where
  abbrev lower : ℤ
  lower = as_number (meaning w [] l)

  abbrev upper : ℤ
  upper = as_number (meaning w [] h)

  abbrev body : ℤ → Bool
  body i = holds w (number i ∷ []) p

  body-new : (i : ℤ) → holds (with_symbol w d (number i)) [] (put (symbol d) 0 p) ≡ body i
  body-new i =
      ap as_truth (meaning-put (with_symbol w d (number i)) (symbol d) refl [] p)
      ∙ ap (λ v. holds (with_symbol w d (number i)) (v ∷ []) p) (new_symbol w d (number i))
      ∙ holds-fresh w d (number i) (number i ∷ []) p below_p

  bounded-holds : (i : ℤ) (r : Node) → int_le lower i ≡ true → int_le i upper ≡ true → holds (with_symbol w d (number i)) [] r ≡ true → holds (with_symbol w d (number i)) [] (bounded l (symbol d) h r) ≡ true
  bounded-holds i r a b e =
      rw (new_symbol w d (number i), meaning-fresh w d (number i) [] l below_l, meaning-fresh w d (number i) [] h below_h) (and_from _ _ a (and_from _ _ b e))

  -- for the number that is there
  there-holds : (b : Bool) (r : Node) → ((i : ℤ) → body i ≡ b → holds (with_symbol w d (number i)) [] r ≡ true) → IsThere body (count lower upper) lower b → (i : ℤ) × (holds (with_symbol w d (number i)) [] (bounded l (symbol d) h r) ≡ true)
  there-holds b r f t =
      let i = lower +ℤ pos t.0 in
      (i, bounded-holds i r (at_least-by lower upper _ t.0 refl t.1) (at_most-by lower upper _ t.0 refl t.1) (f i t.2))

-- the symbol d has a number, with which the clause holds
abbrev pub IsSoundAt : World → ℕ → Judged (List Node) → Type 0
IsSoundAt w d (yields c) = (i : ℤ) × (clause_holds (with_symbol w d (number i)) c ≡ true) × (clause_below (suc d) c ≡ true)
IsSoundAt w d refused = Unit {0}
IsSoundAt w d too_wide = Unit {0}

new_below : (d : ℕ) → nat_lt d (suc d) ≡ true
new_below d = grind arith

bounded_below : (d : ℕ) (l h r : Node) → names_below (suc d) l ≡ true → names_below (suc d) h ≡ true → names_below (suc d) r ≡ true → names_below (suc d) (bounded l (symbol d) h r) ≡ true
bounded_below d l h r a b e =
    and_from _ _ (and_from _ _ a (new_below d)) (and_from _ _ (and_from _ _ (new_below d) b) e)

with_second : (a b : Bool) → b ≡ true → (a || (b || false)) ≡ true
with_second a b e = or_right a _ (last_holds b e)

witness_of-sound : (w : World) (d : ℕ) (q : Node) → names_below d q ≡ true → IsSoundAt w d (witness_of d q)
witness_of-sound w d (quant any l h p) known =
    let e = and_parts _ _ known in
    let f = and_parts _ _ e.1 in
    let at = put (symbol d) 0 p in
    let below : clause_below (suc d) (negated (quant any l h p) ∷ bounded l (symbol d) h at ∷ []) ≡ true =
    and_from _ _ (below-more d (quant any l h p) known) (and_from _ _ (bounded_below d l h at (below-more d l e.0) (below-more d h f.0) (put-below (suc d) (symbol d) (new_below d) 0 p (below-more d p f.1))) refl) in
    elim (cases_Bool (holds w [] (quant any l h p))) [
      | inl is_so ↦ (let t = there-holds w d l h p e.0 f.0 f.1 true at (λ i g. body-new w d l h p e.0 f.0 f.1 i ∙ g) (some_there (body w d l h p e.0 f.0 f.1) _ _ is_so) in
          (t.0, with_second _ _ t.1, below))
      | inr is_not ↦ (pos 0, or_left _ _ (ap not (holds-fresh w d (number (pos 0)) [] (quant any l h p) known ∙ is_not)), below)
    ]
witness_of-sound w d (quant all l h p) known =
    let e = and_parts _ _ known in
    let f = and_parts _ _ e.1 in
    let at = put (symbol d) 0 p in
    let below : clause_below (suc d) (quant all l h p ∷ bounded l (symbol d) h (negated at) ∷ []) ≡ true =
    and_from _ _ (below-more d (quant all l h p) known) (and_from _ _ (bounded_below d l h (negated at) (below-more d l e.0) (below-more d h f.0) (negated_below (suc d) at (put-below (suc d) (symbol d) (new_below d) 0 p (below-more d p f.1)))) refl) in
    elim (cases_Bool (holds w [] (quant all l h p))) [
      | inl is_so ↦ (pos 0, or_left _ _ (holds-fresh w d (number (pos 0)) [] (quant all l h p) known ∙ is_so), below)
      | inr is_not ↦ (let t = there-holds w d l h p e.0 f.0 f.1 false (negated at) (λ i g. holds-negated (with_symbol w d (number i)) [] at ∙ ap not (body-new w d l h p e.0 f.0 f.1 i ∙ g)) (some_not_there (body w d l h p e.0 f.0 f.1) _ _ is_not) in
          (t.0, with_second _ _ t.1, below))
    ]
witness_of-sound w d (num n) known = tt
witness_of-sound w d (flag n) known = tt
witness_of-sound w d (symbol n) known = tt
witness_of-sound w d (bound n) known = tt
witness_of-sound w d (op1 o x) known = tt
witness_of-sound w d (op2 o x y) known = tt
witness_of-sound w d (op3 o x y z) known = tt
witness_of-sound w d (opn o ns) known = tt

when_sound_at : (w : World) (d : ℕ) (b : Bool) (x : Judged (List Node)) → (b ≡ true → IsSoundAt w d x) → IsSoundAt w d (when b x)
when_sound_at w d true x f = f refl
when_sound_at w d false x f = tt

pub witness-sound : (c : Context) (w : World) → (k : ℕ) (q : Node) → IsSoundAt w (next_symbol c) (judge c (witness k q))
witness-sound c w k q =
    when_sound_at w (next_symbol c) (k == next_symbol c && is_formula c q) (witness_of k q) (λ a.
    let e = and_parts _ _ a in
    subst (λ n. IsSoundAt w (next_symbol c) (witness_of n q)) (sym (eqb-true _ _ e.0)) (witness_of-sound w (next_symbol c) q (formula_below c q e.1)))
