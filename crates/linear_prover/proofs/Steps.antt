-- What a loop over a list has still to do, where it stands at an index.
use Rattle.std.proofs.Common.{◌≡◌, refl, sym, ◌∙◌, ap, ap₂, ℕ, zero, suc, ◌+◌, ◌<◌, ◌≤◌, Bool, true, false, List, [], ◌∷◌, ◌++◌, map, length, get_or, drop, take, arith, add-one}
use Rattle.std.specs.Prelude.{if◌then◌else◌}
use Rattle.std.proofs.Math.Seq.{drop-cons}
use Rattle.std.proofs.lemmas.List.{drop_all, take_all, take_more, map-append}

pub dropped : {A : Type 0} (xs : List A) (i : ℕ) (x : A) → i < length xs → x ≡ get_or xs i x → drop i xs ≡ x ∷ drop (i + 1) xs
dropped xs i x h e = rw add-one (drop-cons xs i x h ∙ ap (λ y. y ∷ drop (suc i) xs) (sym e))

-- f of the rest is f of the next element and what follows it
pub at_next : {A B : Type 0} (f : List A → B) (xs : List A) (i : ℕ) (x : A) (w : B) → i < length xs → x ≡ get_or xs i x → f (drop i xs) ≡ w → f (x ∷ drop (i + 1) xs) ≡ w
at_next f xs i x w h e k = ap f (sym (dropped xs i x h e)) ∙ k

pub at_end : {A B : Type 0} (f : List A → B) (xs : List A) (i : ℕ) (w : B) → length xs ≤ i → f (drop i xs) ≡ w → f [] ≡ w
at_end f xs i w h k = ap f (sym (drop_all i xs h)) ∙ k

pub if_true : {A : Type 0} (b : Bool) (x y : A) → b ≡ true → (if b then x else y) ≡ x
if_true b x y e = ap (λ (c : Bool). if c then x else y) e

pub if_false : {A : Type 0} (b : Bool) (x y : A) → b ≡ false → (if b then x else y) ≡ y
if_false b x y e = ap (λ (c : Bool). if c then x else y) e

pub taken : {A : Type 0} (xs : List A) (i : ℕ) (x : A) → i < length xs → x ≡ get_or xs i x → take (i + 1) xs ≡ take i xs ++ x ∷ []
taken xs i x h e = take_more xs i x h ∙ ap (λ z. take i xs ++ z ∷ []) (sym e)

-- a list that is made element by element
pub mapped_next : {A B : Type 0} (f : A → B) (xs : List A) (i : ℕ) (x : A) (olds news : List B) (y : B) → i < length xs → x ≡ get_or xs i x → y ≡ f x → news ≡ olds ++ y ∷ [] → olds ≡ map f (take i xs) → news ≡ map f (take (i + 1) xs)
mapped_next f xs i x olds news y h e g n o =
    n ∙ ap₂ (λ us z. us ++ z ∷ []) o g ∙ sym (ap (map f) (taken xs i x h e) ∙ map-append f (take i xs) (x ∷ []))

pub mapped_end : {A B : Type 0} (f : A → B) (xs : List A) (i : ℕ) (ys : List B) → length xs ≤ i → ys ≡ map f (take i xs) → ys ≡ map f xs
mapped_end f xs i ys h e = e ∙ ap (map f) (take_all i xs h)

-- an item does not depend on what stands in for one past the end
pub item_is : {A : Type 0} (xs : List A) (i : ℕ) (d : A) → i < length xs → get_or xs i d ≡ get_or xs i (get_or xs i d)
item_is xs i d h = either xs i d (get_or xs i d) h
  where
    either : {A : Type 0} (ys : List A) (j : ℕ) (a b : A) → j < length ys → get_or ys j a ≡ get_or ys j b
    either [] j a b k = absurd (omega arith)
    either (y ∷ ys) zero a b k = refl
    either (y ∷ ys) (suc j) a b k = either ys j a b (omega arith)
