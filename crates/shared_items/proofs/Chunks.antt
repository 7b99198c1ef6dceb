-- Lists in chunks: their items, and what a write makes of them.
use Rattle.std.proofs.Common.{◌≡◌, ℕ, zero, suc, refl, sym, ap, subst, ◌∙◌, arith, ◌+◌, ◌-◌, ◌*◌, ◌/◌, ◌%◌, ◌<◌, ◌≤◌, ◌==◌, length, get_or, List, [], ◌∷◌, ◌++◌, true}
use Rattle.std.proofs.lemmas.Bool.{and_parts, and_from}
use Rattle.std.proofs.lemmas.Option.{slice_get_within}
use Rattle.std.specs.Prelude.{slice_get, slice_set, Option, Some, None, Result, Ok, Err, OnOk, OnErr}
use lib.ListN.{length-append, length-set}
use mathlib.Core.List.{append_assoc, append-nil}
use Rattle.shared_items.specs.Chunks.{chained, are_full, list_at}

module _ {A : Type 0} where
  -- ---- lists one after the other
  pub get_left : (xs ys : List A) (i : ℕ) → i < length xs → slice_get (xs ++ ys) i ≡ slice_get xs i
  get_left [] ys i h = absurd (omega arith)
  get_left (x ∷ xs) ys zero h = refl
  get_left (x ∷ xs) ys (suc i) h = get_left xs ys i (omega arith)

  pub get_right : (xs ys : List A) (i j : ℕ) → j ≡ i + length xs → slice_get (xs ++ ys) j ≡ slice_get ys i
  get_right [] ys i j e = let s : j ≡ i = omega (arith, e) in ap (slice_get ys) s
  get_right (x ∷ xs) ys i zero e = absurd (omega (arith, e))
  get_right (x ∷ xs) ys i (suc j) e = get_right xs ys i j (omega (arith, e))

  pub set_left : (xs ys : List A) (i : ℕ) (v : A) → i < length xs → slice_set (xs ++ ys) i v ≡ slice_set xs i v ++ ys
  set_left [] ys i v h = absurd (omega arith)
  set_left (x ∷ xs) ys zero v h = refl
  set_left (x ∷ xs) ys (suc i) v h = ap (λ zs. x ∷ zs) (set_left xs ys i v (omega arith))

  pub set_right : (xs ys : List A) (i j : ℕ) (v : A) → j ≡ i + length xs → slice_set (xs ++ ys) j v ≡ xs ++ slice_set ys i v
  set_right [] ys i j v e = let s : j ≡ i = omega (arith, e) in ap (λ k. slice_set ys k v) s
  set_right (x ∷ xs) ys i zero v e = absurd (omega (arith, e))
  set_right (x ∷ xs) ys i (suc j) v e = ap (λ zs. x ∷ zs) (set_right xs ys i j v (omega (arith, e)))

  -- ---- a list at a number
  pub list_within : (ls : List (List A)) (k n : ℕ) → n < length (list_at ls k) → k < length ls
  list_within [] k n h = absurd (omega arith)
  list_within (l ∷ ls) zero n h = omega arith
  list_within (l ∷ ls) (suc k) n h = let i = list_within ls k n h in omega arith

  pub list_from : (ls : List (List A)) (k : ℕ) (d : List A) → k < length ls → get_or ls k d ≡ list_at ls k
  list_from [] k d h = absurd (omega arith)
  list_from (l ∷ ls) zero d h = refl
  list_from (l ∷ ls) (suc k) d h = list_from ls k d (omega arith)

  abbrev or_none : Option (List A) → List A
  or_none None = []
  or_none (Some l) = l

  pub list_got : (ls : List (List A)) (k : ℕ) (l : List A) → slice_get ls k ≡ Some l → list_at ls k ≡ l
  list_got [] k l h = ap or_none h
  list_got (m ∷ ls) zero l h = ap or_none h
  list_got (m ∷ ls) (suc k) l h = list_got ls k l h

  -- ---- chunks
  pub full_parts : (c : List A) (cs : List (List A)) → are_full (c ∷ cs) ≡ true → (length c ≡ 32) × (are_full cs ≡ true)
  full_parts c cs h = let p = and_parts (length c == 32) (are_full cs) h in (grind (arith, p.0), p.1)

  pub full_from : (c : List A) (cs : List (List A)) → length c ≡ 32 → are_full cs ≡ true → are_full (c ∷ cs) ≡ true
  full_from c cs e h = let t : (length c == 32) ≡ true = grind arith in and_from (length c == 32) (are_full cs) t h

  pub length-chained : (cs : List (List A)) (rest : List A) → are_full cs ≡ true → length (chained cs rest) ≡ 32 * length cs + length rest
  length-chained [] rest h = omega arith
  length-chained (c ∷ cs) rest h =
      let p = full_parts c cs h in let e = length-append c (chained cs rest) in let i = length-chained cs rest p.1 in omega (arith, e, i, p.0)

  pub length-list_at : (cs : List (List A)) (q : ℕ) → are_full cs ≡ true → q < length cs → length (list_at cs q) ≡ 32
  length-list_at [] q h w = absurd (omega arith)
  length-list_at (c ∷ cs) zero h w = (full_parts c cs h).0
  length-list_at (c ∷ cs) (suc q) h w = length-list_at cs q (full_parts c cs h).1 (omega arith)

  pub get_chunk : (cs : List (List A)) (rest : List A) (q r j : ℕ) → are_full cs ≡ true → q < length cs → r < 32 → j ≡ 32 * q + r → slice_get (chained cs rest) j ≡ slice_get (list_at cs q) r
  get_chunk [] rest q r j h w b e = absurd (omega arith)
  get_chunk (c ∷ cs) rest zero r j h w b e =
      let p = full_parts c cs h in let s : j ≡ r = omega (arith, e) in ap (slice_get (c ++ chained cs rest)) s ∙ get_left c (chained cs rest) r (omega (arith, p.0))
  get_chunk (c ∷ cs) rest (suc q) r j h w b e =
      let p = full_parts c cs h in let s : j ≡ (32 * q + r) + length c = omega (arith, p.0, e) in
      get_right c (chained cs rest) (32 * q + r) j s ∙ get_chunk cs rest q r (32 * q + r) p.1 (omega arith) b refl

  pub get_rest : (cs : List (List A)) (rest : List A) (i j : ℕ) → are_full cs ≡ true → j ≡ i + 32 * length cs → slice_get (chained cs rest) j ≡ slice_get rest i
  get_rest [] rest i j h e = let s : j ≡ i = omega (arith, e) in ap (slice_get rest) s
  get_rest (c ∷ cs) rest i j h e =
      let p = full_parts c cs h in let s : j ≡ (i + 32 * length cs) + length c = omega (arith, p.0, e) in
      get_right c (chained cs rest) (i + 32 * length cs) j s ∙ get_rest cs rest i (i + 32 * length cs) p.1 refl

  pub set_chunk : (cs : List (List A)) (rest : List A) (q r j : ℕ) (v : A) → are_full cs ≡ true → q < length cs → r < 32 → j ≡ 32 * q + r
      → chained (slice_set cs q (slice_set (list_at cs q) r v)) rest ≡ slice_set (chained cs rest) j v
  set_chunk [] rest q r j v h w b e = absurd (omega arith)
  set_chunk (c ∷ cs) rest zero r j v h w b e =
      let p = full_parts c cs h in let s : r ≡ j = omega (arith, e) in
      sym (set_left c (chained cs rest) r v (omega (arith, p.0))) ∙ ap (λ k. slice_set (c ++ chained cs rest) k v) s
  set_chunk (c ∷ cs) rest (suc q) r j v h w b e =
      let p = full_parts c cs h in let s : j ≡ (32 * q + r) + length c = omega (arith, p.0, e) in
      ap (λ ys. c ++ ys) (set_chunk cs rest q r (32 * q + r) v p.1 (omega arith) b refl) ∙ sym (set_right c (chained cs rest) (32 * q + r) j v s)

  pub set_rest : (cs : List (List A)) (rest : List A) (i j : ℕ) (v : A) → are_full cs ≡ true → j ≡ i + 32 * length cs → chained cs (slice_set rest i v) ≡ slice_set (chained cs rest) j v
  set_rest [] rest i j v h e = let s : i ≡ j = omega (arith, e) in ap (λ k. slice_set rest k v) s
  set_rest (c ∷ cs) rest i j v h e =
      let p = full_parts c cs h in let s : j ≡ (i + 32 * length cs) + length c = omega (arith, p.0, e) in
      ap (λ ys. c ++ ys) (set_rest cs rest i (i + 32 * length cs) v p.1 refl) ∙ sym (set_right c (chained cs rest) (i + 32 * length cs) j v s)

  pub full_with : (cs : List (List A)) (q : ℕ) (d : List A) → are_full cs ≡ true → length d ≡ length (list_at cs q) → are_full (slice_set cs q d) ≡ true
  full_with [] q d h e = refl
  full_with (c ∷ cs) zero d h e = let p = full_parts c cs h in full_from d cs (omega (arith, e, p.0)) p.1
  full_with (c ∷ cs) (suc q) d h e = let p = full_parts c cs h in full_from c (slice_set cs q d) p.0 (full_with cs q d p.1 e)

  pub full_more : (cs : List (List A)) (d : List A) → are_full cs ≡ true → length d ≡ 32 → are_full (cs ++ d ∷ []) ≡ true
  full_more [] d h e = full_from d [] e refl
  full_more (c ∷ cs) d h e = let p = full_parts c cs h in full_from c (cs ++ d ∷ []) p.0 (full_more cs d p.1 e)

  pub chained_more : (cs : List (List A)) (d : List A) → chained (cs ++ d ∷ []) [] ≡ chained cs d
  chained_more [] d = append-nil d
  chained_more (c ∷ cs) d = ap (λ ys. c ++ ys) (chained_more cs d)

  pub chained_push : (cs : List (List A)) (rest : List A) (x : A) → chained cs (rest ++ x ∷ []) ≡ chained cs rest ++ x ∷ []
  chained_push [] rest x = refl
  chained_push (c ∷ cs) rest x = ap (λ ys. c ++ ys) (chained_push cs rest x) ∙ sym (append_assoc c (chained cs rest) (x ∷ []))

  -- ---- at a number from 0
  abbrev IsLess : Option A → Type 0
  IsLess None = Unit {0}
  IsLess (Some x) = ⊥

  pub past : (xs : List A) (k : ℕ) → slice_get xs k ≡ None → length xs ≤ k
  past [] k h = omega arith
  past (x ∷ xs) zero h = absurd (subst IsLess (sym h) tt)
  past (x ∷ xs) (suc k) h = let i = past xs k h in omega (arith, i)

module _ {A : Type 0} where
  pub get_at_chunk : (cs : List (List A)) (rest c : List A) (at : ℕ) → are_full cs ≡ true → slice_get cs (at / 32) ≡ Some c → slice_get c (at % 32) ≡ slice_get (chained cs rest) at
  get_at_chunk cs rest c at h f =
      let w = slice_get_within cs (at / 32) c f in let e = list_got cs (at / 32) c f in let b : at % 32 < 32 = omega arith in
      sym (get_chunk cs rest (at / 32) (at % 32) at h w b (omega arith) ∙ ap (λ l. slice_get l (at % 32)) e)

  pub get_at_rest : (cs : List (List A)) (rest : List A) (at n : ℕ) → are_full cs ≡ true → slice_get cs (at / 32) ≡ None → n ≡ length cs → slice_get rest (at - 32 * n) ≡ slice_get (chained cs rest) at
  get_at_rest cs rest at n h f e = let w = past cs (at / 32) f in sym (get_rest cs rest (at - 32 * n) at h (omega (arith, w, e)))

  pub set_at_chunk : (cs : List (List A)) (rest : List A) (at : ℕ) (v : A) → are_full cs ≡ true → at / 32 < length cs
      → chained (slice_set cs (at / 32) (slice_set (list_at cs (at / 32)) (at % 32) v)) rest ≡ slice_set (chained cs rest) at v
  set_at_chunk cs rest at v h w = let b : at % 32 < 32 = omega arith in set_chunk cs rest (at / 32) (at % 32) at v h w b (omega arith)

  pub set_at_rest : (cs : List (List A)) (rest : List A) (at n : ℕ) (v : A) → are_full cs ≡ true → length cs ≤ at / 32 → n ≡ length cs
      → chained cs (slice_set rest (at - 32 * n) v) ≡ slice_set (chained cs rest) at v
  set_at_rest cs rest at n v h w e = set_rest cs rest (at - 32 * n) at v h (omega (arith, w, e))

  abbrev pub IsKept : List (List A) → List A → ℕ → Type 0
  IsKept cs rest len = (are_full cs ≡ true) × (len ≡ 32 * length cs + length rest)

  -- what a write leaves of the invariant, whether it succeeded or not
  pub kept_set : (cs new : List (List A)) (rest : List A) (len q r : ℕ) (v : A) → IsKept cs rest len → (new ≡ slice_set cs q (slice_set (list_at cs q) r v)) → IsKept new rest len
  kept_set cs new rest len q r v k e =
      let d = slice_set (list_at cs q) r v in let f = full_with cs q d k.0 (length-set (list_at cs q) r v) in let n = length-set cs q d in
      rw e (f, omega (arith, k.1, n))

  pub kept_same : (cs new : List (List A)) (rest : List A) (len : ℕ) → IsKept cs rest len → new ≡ cs → IsKept new rest len
  kept_same cs new rest len k e = rw e k

  -- the rest becomes a chunk
  pub kept_more : (cs new : List (List A)) (rest rest' : List A) (len : ℕ) → IsKept cs rest len → length rest ≡ 32 → new ≡ cs ++ rest ∷ [] → rest' ≡ [] → IsKept new rest' len
  kept_more cs new rest rest' len k w e z = let f = full_more cs rest k.0 w in let n = length-append cs (rest ∷ []) in rw (e, z) (f, omega (arith, k.1, n, w))

  pub same_more : (cs new : List (List A)) (rest rest' : List A) → new ≡ cs ++ rest ∷ [] → rest' ≡ [] → chained new rest' ≡ chained cs rest
  same_more cs new rest rest' e z = rw (e, z) (chained_more cs rest)

module _ {T E : Type 0} where
  pub map_ok : {P Q : Type 0} (r : Result T E) → (P → Q) → OnOk r P → OnOk r Q
  map_ok (Ok x) f p = f p
  map_ok (Err x) f p = tt

  pub either_way : {P Q S : Type 0} (r : Result T E) → (P → S) → (Q → S) → OnOk r P → OnErr r Q → S
  either_way (Ok x) f g p q = f p
  either_way (Err x) f g p q = g q
