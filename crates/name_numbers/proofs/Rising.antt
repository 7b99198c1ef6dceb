-- Looking a number up by halves.
use Rattle.std.proofs.Common.{◌≡◌, ℕ, zero, suc, ◌+◌, ◌-◌, ◌<◌, ◌≤◌, eqb, List, [], ◌∷◌, length, take, drop, get_or, refl, sym, ap, ◌∙◌, subst, length-drop, arith}
use Rattle.std.specs.Prelude.{if◌then◌else◌}
use Rattle.std.proofs.lemmas.Bool.Decides.{nat_tests}
use Rattle.std.proofs.lemmas.List.{take_rest, length-take-le}
use Rattle.name_library.specs.declared.events.Ident.{Ident}
use Rattle.name_numbers.specs.Numbers.{AreRising, number_at}

other : (i : Ident) (n at : ℕ) → (i.at ≡ at → ⊥) → (if eqb i.at at then i.name else n) ≡ n
other i n at h = grind (arith, nat_tests)

same : (i : Ident) (n at : ℕ) → i.at ≡ at → (if eqb i.at at then i.name else n) ≡ i.name
same i n at h = grind (arith, nat_tests)

pub lower : (from to : ℕ) (is : List Ident) → to ≤ from → AreRising from is → AreRising to is
lower from to [] h r = tt
lower from to (i ∷ is) h r = (omega arith, r.1)

pub rising_drop : (from k : ℕ) (is : List Ident) → AreRising from is → AreRising from (drop k is)
rising_drop from zero is r = r
rising_drop from (suc k) [] r = tt
rising_drop from (suc k) (i ∷ is) r = lower (suc i.at) from (drop k is) (omega arith) (rising_drop (suc i.at) k is r.1)

pub rising_take : (from k : ℕ) (is : List Ident) → AreRising from is → AreRising from (take k is)
rising_take from zero is r = tt
rising_take from (suc k) [] r = tt
rising_take from (suc k) (i ∷ is) r = (r.0, rising_take (suc i.at) k is r.1)

-- where all begin after a byte, none is found
none_before : (from at : ℕ) (is : List Ident) → AreRising from is → at < from → number_at is at ≡ 0
none_before from at [] r h = refl
none_before from at (i ∷ is) r h = other i (number_at is at) at (λ e. omega arith) ∙ none_before (suc i.at) at is r.1 (omega arith)

-- an identifier after the byte: the one that is looked for stands before it
pub found_before : (from at k : ℕ) (is : List Ident) (d : Ident) → AreRising from is → k < length is → at < (get_or is k d).at → number_at (take k is) at ≡ number_at is at
found_before from at k [] d r h l = absurd (omega arith)
found_before from at zero (i ∷ is) d r h l = sym (none_before i.at at (i ∷ is) (omega arith, r.1) l)
found_before from at (suc k) (i ∷ is) d r h l = ap (λ n. if eqb i.at at then i.name else n) (found_before (suc i.at) at k is d r.1 (omega arith) l)

at_least : (from k : ℕ) (is : List Ident) (d : Ident) → AreRising from is → k < length is → from ≤ (get_or is k d).at
at_least from k [] d r h = absurd (omega arith)
at_least from zero (i ∷ is) d r h = r.0
at_least from (suc k) (i ∷ is) d r h = let more : suc i.at ≤ (get_or is k d).at = at_least (suc i.at) k is d r.1 (omega arith) in omega arith

-- an identifier before the byte: the one that is looked for stands after it
pub found_after : (from at k : ℕ) (is : List Ident) (d : Ident) → AreRising from is → k < length is → (get_or is k d).at < at → number_at (drop (suc k) is) at ≡ number_at is at
found_after from at k [] d r h l = absurd (omega arith)
found_after from at zero (i ∷ is) d r h l = sym (other i (number_at is at) at (λ e. omega arith))
found_after from at (suc k) (i ∷ is) d r h l =
    let more : suc i.at ≤ (get_or is k d).at = at_least (suc i.at) k is d r.1 (omega arith) in
    found_after (suc i.at) at k is d r.1 (omega arith) l ∙ sym (other i (number_at is at) at (λ e. omega arith))

-- the identifier at the byte
pub found_at : (from at k : ℕ) (is : List Ident) (d : Ident) → AreRising from is → k < length is → (get_or is k d).at ≡ at → number_at is at ≡ (get_or is k d).name
found_at from at k [] d r h e = absurd (omega arith)
found_at from at zero (i ∷ is) d r h e = same i (number_at is at) at e
found_at from at (suc k) (i ∷ is) d r h e =
    let more : suc i.at ≤ (get_or is k d).at = at_least (suc i.at) k is d r.1 (omega arith) in
    other i (number_at is at) at (λ f. omega arith) ∙ found_at (suc i.at) at k is d r.1 (omega arith) e

more : (k : ℕ) → k + 1 ≡ suc k
more k = omega arith

-- ---- a turn of the search: what it keeps of the identifiers that are left

abbrev pub Kept : List Ident → ℕ → ℕ → ℕ → Type 0
Kept rest at n most = AreRising 0 rest × (number_at rest at ≡ n) × (length rest ≤ most)

pub turn_after : (rest : List Ident) (at n most k : ℕ) (d : Ident) → Kept rest at n most → k < length rest → (get_or rest k d).at < at → Kept (take (length rest - (k + 1)) (drop (k + 1) rest)) at n most
turn_after rest at n most k d kept h l =
    let e : take (length rest - (k + 1)) (drop (k + 1) rest) ≡ drop (suc k) rest = take_rest rest (k + 1) ∙ ap (λ m. drop m rest) (more k) in
    subst (λ (r : List Ident). Kept r at n most) (sym e) (
      rising_drop 0 (suc k) rest kept.0,
      found_after 0 at k rest d kept.0 h l ∙ kept.1,
      omega (arith, length-drop (suc k) rest),
    )

pub turn_before : (rest : List Ident) (at n most k : ℕ) (d : Ident) → Kept rest at n most → k < length rest → at < (get_or rest k d).at → Kept (take k rest) at n most
turn_before rest at n most k d kept h l = (rising_take 0 k rest kept.0, found_before 0 at k rest d kept.0 h l ∙ kept.1, omega (arith, length-take-le k rest))
