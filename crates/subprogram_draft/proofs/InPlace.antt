-- An item that is taken out, changed and put back is changed in its place.
use Rattle.std.proofs.Common.{◌≡◌, ℕ, zero, suc, ◌<◌, ◌≤◌, arith, sym, ap, List, [], ◌∷◌, length, slice_get, Some, None, refl}
use Rattle.std.specs.Prelude.{slice_set}
use Rattle.std.proofs.lemmas.Option.{none-some, same_Some}
use Rattle.statement_typing.specs.Objects.{changed_at}

pub set_changed : {A : Type 0} (f : A → A) (xs : List A) (q : ℕ) (x : A) → slice_get xs q ≡ Some x → slice_set xs q (f x) ≡ changed_at q f xs
set_changed f [] q x h = absurd (none-some x h)
set_changed f (y ∷ ys) zero x h = ap (λ z. f z ∷ ys) (sym (same_Some y x h))
set_changed f (y ∷ ys) (suc q) x h = ap (λ zs. y ∷ zs) (set_changed f ys q x h)

pub put_back : {A : Type 0} (f : A → A) (xs : List A) (q : ℕ) (x b : A) → slice_get xs q ≡ Some x → slice_set (slice_set xs q b) q (f x) ≡ changed_at q f xs
put_back f [] q x b h = absurd (none-some x h)
put_back f (y ∷ ys) zero x b h = ap (λ z. f z ∷ ys) (sym (same_Some y x h))
put_back f (y ∷ ys) (suc q) x b h = ap (λ zs. y ∷ zs) (put_back f ys q x b h)

pub set_within : {A : Type 0} (f : A → A) (xs : List A) (q : ℕ) (y : A) → ((x : A) → f x ≡ y) → q < length xs → slice_set xs q y ≡ changed_at q f xs
set_within f [] q y e h = absurd (omega arith)
set_within f (x ∷ xs) zero y e h = ap (λ z. z ∷ xs) (sym (e x))
set_within f (x ∷ xs) (suc q) y e h = ap (λ zs. x ∷ zs) (set_within f xs q y e (omega arith))

pub past_unchanged : {A : Type 0} (f : A → A) (xs : List A) (q : ℕ) → length xs ≤ q → changed_at q f xs ≡ xs
past_unchanged f [] q h = refl
past_unchanged f (x ∷ xs) zero h = absurd (omega arith)
past_unchanged f (x ∷ xs) (suc q) h = ap (λ zs. x ∷ zs) (past_unchanged f xs q (omega arith))

pub none_unchanged : {A : Type 0} (f : A → A) (xs : List A) (q : ℕ) → slice_get xs q ≡ None → changed_at q f xs ≡ xs
none_unchanged f [] q h = refl
none_unchanged f (x ∷ xs) zero h = absurd (none-some x (sym h))
none_unchanged f (x ∷ xs) (suc q) h = ap (λ zs. x ∷ zs) (none_unchanged f xs q h)
