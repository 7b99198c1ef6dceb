-- Where a meaning is put among those of a file.
use Rattle.std.proofs.Common.{◌≡◌, ℕ, zero, suc, ◌<◌, ◌≤◌, Bool, true, false, true≢false, nat_lt, eqb, List, [], ◌∷◌, ◌++◌, length, take, drop, get_or, refl, sym, ap, subst, arith}
use Rattle.std.specs.Prelude.{if◌then◌else◌, insert, slice_set}
use Rattle.std.proofs.lemmas.Bool.Decides.{nat_tests}
use Rattle.type_base.specs.declared.entities.Entity.{Entity}
use Rattle.type_base.specs.declared.entities.Meaning.{Meaning}
use Rattle.type_base.specs.Lookups.{AreRising, is_there, place_in, with_in_file, with_meaning}
use Rattle.type_base.proofs.Meanings.{at_least, lower}

-- ---- tests

under : {A : Type 0} (x y : ℕ) (a b : A) → x < y → (if nat_lt x y then a else b) ≡ a
under x y a b h = grind (arith, nat_tests)

over : {A : Type 0} (x y : ℕ) (a b : A) → y ≤ x → (if nat_lt x y then a else b) ≡ b
over x y a b h = grind (arith, nat_tests)

one : {A : Type 0} (x y : ℕ) (a b : A) → x ≡ y → (if eqb x y then a else b) ≡ a
one x y a b h = grind (arith, nat_tests)

-- ---- how many stand before a byte

pub most : (ms : List Meaning) (at : ℕ) → place_in ms at ≤ length ms
most [] at = omega arith
most (m ∷ ms) at = let h = most ms at in grind (arith, nat_tests)

pub before : (from at k : ℕ) (ms : List Meaning) (d : Meaning) → AreRising from ms → k < length ms → (get_or ms k d).at < at → k < place_in ms at
before from at k [] d r h l = absurd (omega arith)
before from at zero (m ∷ ms) d r h l = let e : place_in (m ∷ ms) at ≡ suc (place_in ms at) = under m.at at (suc (place_in ms at)) 0 l in omega arith
before from at (suc k) (m ∷ ms) d r h l =
    let more : suc m.at ≤ (get_or ms k d).at = at_least (suc m.at) k ms d r.1 (omega arith) in
    let e : place_in (m ∷ ms) at ≡ suc (place_in ms at) = under m.at at (suc (place_in ms at)) 0 (omega arith) in
    let rest = before (suc m.at) at k ms d r.1 (omega arith) l in
    omega arith

pub after : (at k : ℕ) (ms : List Meaning) (d : Meaning) → k < length ms → at ≤ (get_or ms k d).at → place_in ms at ≤ k
after at k [] d h l = absurd (omega arith)
after at zero (m ∷ ms) d h l = let e : place_in (m ∷ ms) at ≡ 0 = over m.at at (suc (place_in ms at)) 0 l in omega arith
after at (suc k) (m ∷ ms) d h l = let rest = after at k ms d (omega arith) l in grind (arith, nat_tests)

-- ---- the meanings of a file with one more

inserted_by : (b : Bool) (p at : ℕ) (w ms : List Meaning) (m n : Meaning)
    → (is_there ms p at ≡ false → w ≡ take p ms ++ n ∷ drop p ms)
    → is_there (m ∷ ms) (if b then suc p else 0) at ≡ false
    → (if b then m ∷ w else n ∷ (if eqb m.at at then ms else m ∷ ms)) ≡ take (if b then suc p else 0) (m ∷ ms) ++ n ∷ drop (if b then suc p else 0) (m ∷ ms)
inserted_by true p at w ms m n h k = ap (λ (xs : List Meaning). m ∷ xs) (h k)
inserted_by false p at w ms m n h k = ap (λ (c : Bool). n ∷ (if c then ms else m ∷ ms)) k

-- where none stands at the byte, the new one comes between
pub inserted : (ms : List Meaning) (at : ℕ) (e : Entity) → is_there ms (place_in ms at) at ≡ false → with_meaning ms at e ≡ insert ms (place_in ms at) (record { at = at; entity = e })
inserted [] at e h = refl
inserted (m ∷ ms) at e h = inserted_by (nat_lt m.at at) (place_in ms at) at (with_meaning ms at e) ms m (record { at = at; entity = e }) (inserted ms at e) h

replaced_by : (b : Bool) (p at : ℕ) (w ms : List Meaning) (m n : Meaning)
    → (is_there ms p at ≡ true → w ≡ slice_set ms p n)
    → is_there (m ∷ ms) (if b then suc p else 0) at ≡ true
    → (if b then m ∷ w else n ∷ (if eqb m.at at then ms else m ∷ ms)) ≡ slice_set (m ∷ ms) (if b then suc p else 0) n
replaced_by true p at w ms m n h k = ap (λ (xs : List Meaning). m ∷ xs) (h k)
replaced_by false p at w ms m n h k = ap (λ (c : Bool). n ∷ (if c then ms else m ∷ ms)) k

pub replaced : (ms : List Meaning) (at : ℕ) (e : Entity) → is_there ms (place_in ms at) at ≡ true → with_meaning ms at e ≡ slice_set ms (place_in ms at) (record { at = at; entity = e })
replaced [] at e h = absurd (true≢false (sym h))
replaced (m ∷ ms) at e h = replaced_by (nat_lt m.at at) (place_in ms at) at (with_meaning ms at e) ms m (record { at = at; entity = e }) (replaced ms at e) h

pub there : (ms : List Meaning) (p at : ℕ) → is_there ms p at ≡ true → p < length ms
there [] p at h = absurd (true≢false (sym h))
there (m ∷ ms) zero at h = omega arith
there (m ∷ ms) (suc p) at h = let l = there ms p at h in omega arith

-- they stay in order

less : (x y : ℕ) → nat_lt x y ≡ true → x < y
less x y h = grind (arith, nat_tests)

not_less : (x y : ℕ) → nat_lt x y ≡ false → y ≤ x
not_less x y h = grind (arith, nat_tests)

are_one : (x y : ℕ) → eqb x y ≡ true → x ≡ y
are_one x y h = grind (arith, nat_tests)

are_two : (x y : ℕ) → eqb x y ≡ false → x ≡ y → ⊥
are_two x y h e = grind (arith, nat_tests)

above : (x y : ℕ) → x ≤ y → (y ≡ x → ⊥) → suc x ≤ y
above x y h g = grind arith

rising_by : (b c : Bool) (from at : ℕ) (e : Entity) (m : Meaning) (ms w : List Meaning) → (b ≡ true → AreRising (suc m.at) w) → (b ≡ false → at ≤ m.at)
    → (c ≡ true → m.at ≡ at) → (c ≡ false → m.at ≡ at → ⊥) → from ≤ at → AreRising from (m ∷ ms)
    → AreRising from (if b then m ∷ w else record { at = at; entity = e } ∷ (if c then ms else m ∷ ms))
rising_by true c from at e m ms w h g i j l r = (r.0, h refl)
rising_by false true from at e m ms w h g i j l r = let x = i refl in (l, lower (suc m.at) (suc at) ms (omega arith) r.1)
rising_by false false from at e m ms w h g i j l r = let x = g refl in (l, (above at m.at x (j refl), r.1))

pub rising_with : (from at : ℕ) (e : Entity) (ms : List Meaning) → from ≤ at → AreRising from ms → AreRising from (with_meaning ms at e)
rising_with from at e [] l r = (l, tt)
rising_with from at e (m ∷ ms) l r =
    rising_by (nat_lt m.at at) (eqb m.at at) from at e m ms (with_meaning ms at e) (λ h. rising_with (suc m.at) at e ms (less m.at at h) r.1) (not_less m.at at)
    (are_one m.at at) (are_two m.at at) l r

pub rising_inserted : (ms : List Meaning) (at : ℕ) (e : Entity) → is_there ms (place_in ms at) at ≡ false → AreRising 0 ms → AreRising 0 (insert ms (place_in ms at) (record { at = at; entity = e }))
rising_inserted ms at e h r = subst (AreRising 0) (inserted ms at e h) (rising_with 0 at e ms (omega arith) r)

pub rising_replaced : (ms : List Meaning) (at : ℕ) (e : Entity) → is_there ms (place_in ms at) at ≡ true → AreRising 0 ms → AreRising 0 (slice_set ms (place_in ms at) (record { at = at; entity = e }))
rising_replaced ms at e h r = subst (AreRising 0) (replaced ms at e h) (rising_with 0 at e ms (omega arith) r)

-- ---- the meanings of all files with one more

pub padded : (files : List (List Meaning)) (f at : ℕ) (e : Entity) → length files ≤ f → with_in_file (files ++ [] ∷ []) f at e ≡ with_in_file files f at e
padded [] zero at e l = refl
padded [] (suc f) at e l = refl
padded (ms ∷ files) zero at e l = absurd (omega arith)
padded (ms ∷ files) (suc f) at e l = ap (λ (xs : List (List Meaning)). ms ∷ xs) (padded files f at e (omega arith))

pub within : (files : List (List Meaning)) (f at : ℕ) (e : Entity) (d : List Meaning) → f < length files
    → with_in_file files f at e ≡ slice_set files f (with_meaning (get_or files f d) at e)
within [] f at e d l = absurd (omega arith)
within (ms ∷ files) zero at e d l = refl
within (ms ∷ files) (suc f) at e d l = ap (λ (xs : List (List Meaning)). ms ∷ xs) (within files f at e d (omega arith))
