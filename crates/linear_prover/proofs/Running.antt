-- What the machine does from where a loop stands is what it does as a whole.
use Rattle.std.proofs.Common.{◌≡◌, refl, sym, ◌∙◌, ap, ap₂, ℕ, suc, ◌+◌, ◌-◌, ◌<◌, ◌≤◌, Bool, true, false, List, [], ◌∷◌, map, length, get_or, drop, arith, add-one}
use Rattle.std.specs.Prelude.{if◌then◌else◌, ◌&&◌, ℤ, Some, None}
use Rattle.linear_forms.specs.Form.{combined}
use Rattle.linear_forms.specs.Fits.{fits, combining_fits}
use Rattle.linear_forms.specs.View.{linear}
use Rattle.linear_forms.specs.declared.form.LinearForm.{LinearForm}
use Rattle.cert_lines.specs.Line.{sum_of}
use Rattle.linear_prover.specs.Machine.{Made, State, Answer, Running, goes_on, ends, and_then, each, next, with_line, appended}
use Rattle.linear_prover.specs.Elimination.{summed, eliminate_next, rounds}
use Rattle.linear_prover.specs.Decided.{numbered_from, entered}
use Rattle.linear_prover.proofs.Steps.{at_next, at_end, if_true}

pub then_on : (r : Running) (f : State → Running) (t : State) → r ≡ goes_on t → and_then r f ≡ f t
then_on r f t e = ap (λ (x : Running). and_then x f) e

pub then_ends : (r : Running) (f : State → Running) (a : Answer) (b : ℕ) → r ≡ ends a b → and_then r f ≡ ends a b
then_ends r f a b e = ap (λ (x : Running). and_then x f) e

-- ---- a loop over a list

pub each_next : {A : Type 0} (f : A → State → Running) (xs : List A) (i : ℕ) (x : A) (s t : State) (w : Running) → i < length xs → x ≡ get_or xs i x → f x s ≡ goes_on t → each f (drop i xs) s ≡ w → each f (drop (i + 1) xs) t ≡ w
each_next f xs i x s t w h e g k = sym (then_on (f x s) (each f (drop (i + 1) xs)) t g) ∙ at_next (λ ys. each f ys s) xs i x w h e k

pub each_ends : {A : Type 0} (f : A → State → Running) (xs : List A) (i : ℕ) (x : A) (s : State) (a : Answer) (b : ℕ) (w : Running) → i < length xs → x ≡ get_or xs i x → f x s ≡ ends a b → each f (drop i xs) s ≡ w → w ≡ ends a b
each_ends f xs i x s a b w h e g k = sym (at_next (λ ys. each f ys s) xs i x w h e k) ∙ then_ends (f x s) (each f (drop (i + 1) xs)) a b g

pub each_done : {A : Type 0} (f : A → State → Running) (xs : List A) (i : ℕ) (s : State) (w : Running) → length xs ≤ i → each f (drop i xs) s ≡ w → w ≡ goes_on s
each_done f xs i s w h k = sym (at_end (λ ys. each f ys s) xs i w h k)

pub then_same : (r : Running) (f g : State → Running) → ((t : State) → f t ≡ g t) → and_then r f ≡ and_then r g
then_same (goes_on t) f g h = h t
then_same (ends a b) f g h = refl

pub each_map : {A B : Type 0} (g : A → B) (f : B → State → Running) (xs : List A) (s : State) → each f (map g xs) s ≡ each (λ x. f (g x)) xs s
each_map g f [] s = refl
each_map g f (x ∷ xs) s = then_same (f (g x) s) (each f (map g xs)) (each (λ y. f (g y)) xs) (λ t. each_map g f xs t)

-- ---- the inputs

pub entered_next : (fs : List LinearForm) (i n : ℕ) (f : LinearForm) (s t : State) (w : Running) → i < length fs → f ≡ get_or fs i f → n ≡ i + 0 → appended (linear f) n s ≡ goes_on t → entered (numbered_from i (map linear (drop i fs))) s ≡ w → entered (numbered_from (i + 1) (map linear (drop (i + 1) fs))) t ≡ w
entered_next fs i n f s t w h e m g k =
    let same : n ≡ i = omega arith in
    ap (λ (j : ℕ). entered (numbered_from j (map linear (drop (i + 1) fs))) t) (add-one i)
    ∙ sym (then_on (appended (linear f) i s) (entered (numbered_from (suc i) (map linear (drop (i + 1) fs)))) t (ap (λ (j : ℕ). appended (linear f) j s) (sym same) ∙ g))
    ∙ at_next (λ (gs : List LinearForm). entered (numbered_from i (map linear gs)) s) fs i f w h e k

pub entered_ends : (fs : List LinearForm) (i n : ℕ) (f : LinearForm) (s : State) (a : Answer) (b : ℕ) (w : Running) → i < length fs → f ≡ get_or fs i f → n ≡ i + 0 → appended (linear f) n s ≡ ends a b → entered (numbered_from i (map linear (drop i fs))) s ≡ w → w ≡ ends a b
entered_ends fs i n f s a b w h e m g k =
    let same : n ≡ i = omega arith in
    sym (at_next (λ (gs : List LinearForm). entered (numbered_from i (map linear gs)) s) fs i f w h e k)
    ∙ then_ends (appended (linear f) i s) (entered (numbered_from (suc i) (map linear (drop (i + 1) fs)))) a b (ap (λ (j : ℕ). appended (linear f) j s) (sym same) ∙ g)

pub entered_done : (fs : List LinearForm) (i : ℕ) (s : State) (w : Running) → length fs ≤ i → entered (numbered_from i (map linear (drop i fs))) s ≡ w → w ≡ goes_on s
entered_done fs i s w h k = sym (at_end (λ (gs : List LinearForm). entered (numbered_from i (map linear gs)) s) fs i w h k)

-- ---- rounds

one_less : (n i : ℕ) → i < n → n - i ≡ suc (n - (i + 1))
one_less n i h = omega arith

pub rounds_next : (n i : ℕ) (s t : State) (w : Running) → i < n → eliminate_next s ≡ goes_on t → rounds (n - i) s ≡ w → rounds (n - (i + 1)) t ≡ w
rounds_next n i s t w h g k =
    sym (then_on (eliminate_next s) (rounds (n - (i + 1))) t g) ∙ ap (λ (m : ℕ). rounds m s) (sym (one_less n i h)) ∙ k

pub rounds_ends : (n i : ℕ) (s : State) (a : Answer) (b : ℕ) (w : Running) → i < n → eliminate_next s ≡ ends a b → rounds (n - i) s ≡ w → w ≡ ends a b
rounds_ends n i s a b w h g k =
    sym k ∙ ap (λ (m : ℕ). rounds m s) (one_less n i h) ∙ then_ends (eliminate_next s) (rounds (n - (i + 1))) a b g

pub rounds_done : (n i : ℕ) (s : State) (w : Running) → n ≤ i → rounds (n - i) s ≡ w → w ≡ goes_on s
rounds_done n i s w h k = let none : n - i ≡ 0 = omega arith in sym k ∙ ap (λ (m : ℕ). rounds m s) none

-- ---- a pair

all_fit : (a b c : Bool) → a ≡ true → b ≡ true → (a && (b && c)) ≡ c
all_fit a b c e f = ap₂ (λ (x y : Bool). x && (y && c)) e f

pub summed_fits : (m : ℤ) (x : Made) (n : ℤ) (y : Made) (s : State) → fits m ≡ true → fits n ≡ true → combining_fits m x.body n y.body ≡ true → summed m x n y s ≡ appended (combined m x.body n y.body) (next s) (with_line (sum_of x.number m y.number n) s)
summed_fits m x n y s e f g = if_true _ _ _ (all_fit _ _ _ e f ∙ g)

narrow_by : (b : Bool) (z : ℤ) → None ≡ (if b then Some z else None) → b ≡ false
narrow_by true z e = cc
narrow_by false z e = refl
