-- What each element of a list gives, one after another.
use Rattle.std.proofs.Common.{◌≡◌, ℕ, ◌+◌, ◌<◌, ◌≤◌, Option, Some, None, List, [], ◌∷◌, ◌++◌, length, get_or, drop, refl, sym, ap, ◌∙◌, append_assoc}
use Rattle.std.specs.Option.{option_map}
use Rattle.std.proofs.lemmas.List.{append-nil, at_drop_more, at_drop_all}
use Rattle.first_form.specs.Tree.{each, with_first}

-- what is still to come, after what is there
abbrev pub after : {B : Type 0} → List B → Option (List B) → Option (List B)
after ys o = option_map (λ zs. ys ++ zs) o

pub after_none : {B : Type 0} (o : Option (List B)) → after [] o ≡ o
after_none None = refl
after_none (Some ys) = refl

after_first : {B : Type 0} (ys : List B) (y : B) (o : Option (List B)) → after ys (with_first (Some y) o) ≡ after (ys ++ y ∷ []) o
after_first ys y None = refl
after_first ys y (Some zs) = ap Some (sym (append_assoc ys (y ∷ []) zs))

none_after : {B : Type 0} (ys : List B) (o : Option (List B)) → after ys (with_first None o) ≡ None
none_after ys None = refl
none_after ys (Some zs) = refl

each_at : {A B : Type 0} (f : A → Option B) (xs : List A) (i : ℕ) (x : A) (o : Option B) → i < length xs → x ≡ get_or xs i x → f x ≡ o
    → each f (drop i xs) ≡ with_first o (each f (drop (i + 1) xs))
each_at f xs i x o within is gives =
    at_drop_more (each f) xs i x within
    ∙ ap (λ z. with_first (f z) (each f (drop (i + 1) xs))) (sym is)
    ∙ ap (λ z. with_first z (each f (drop (i + 1) xs))) gives

pub each_more : {A B : Type 0} (f : A → Option B) (xs : List A) (i : ℕ) (x : A) (ys : List B) (y : B) → i < length xs → x ≡ get_or xs i x → f x ≡ Some y
    → after ys (each f (drop i xs)) ≡ each f xs → after (ys ++ y ∷ []) (each f (drop (i + 1) xs)) ≡ each f xs
each_more f xs i x ys y within is gives h =
    sym (after_first ys y (each f (drop (i + 1) xs))) ∙ sym (ap (after ys) (each_at f xs i x (Some y) within is gives)) ∙ h

pub each_fails : {A B : Type 0} (f : A → Option B) (xs : List A) (i : ℕ) (x : A) (ys : List B) → i < length xs → x ≡ get_or xs i x → f x ≡ None
    → after ys (each f (drop i xs)) ≡ each f xs → each f xs ≡ None
each_fails f xs i x ys within is gives h =
    sym h ∙ ap (after ys) (each_at f xs i x None within is gives) ∙ none_after ys (each f (drop (i + 1) xs))

pub each_all : {A B : Type 0} (f : A → Option B) (xs : List A) (i : ℕ) (ys : List B) → length xs ≤ i
    → after ys (each f (drop i xs)) ≡ each f xs → each f xs ≡ Some ys
each_all f xs i ys past h = sym h ∙ ap (after ys) (at_drop_all (each f) xs i past) ∙ ap Some (append-nil ys)
