-- Texts that are taken apart at spaces and closing brackets.
use Rattle.std.proofs.Common.{◌≡◌, refl, sym, ◌∙◌, ap, ℕ, Bool, true, false, List, [], ◌∷◌, ◌++◌}
use Rattle.std.specs.Prelude.{◌==◌, ◌||◌, ◌&&◌, not}
use Rattle.std.proofs.lemmas.Bool.{and_parts, false≢true}

-- a space or a closing bracket
abbrev pub is_end : ℕ → Bool
is_end c = c == 32 || c == 41

-- a text that goes on with a space or a closing bracket, or not at all
abbrev pub Ends : List ℕ → Type 0
Ends [] = Unit {0}
Ends (c ∷ cs) = is_end c ≡ true

-- no space and no closing bracket
abbrev pub is_word : List ℕ → Bool
is_word [] = true
is_word (c ∷ cs) = not (is_end c) && is_word cs

pub same_head : (c d : ℕ) (xs ys : List ℕ) → c ∷ xs ≡ d ∷ ys → c ≡ d
same_head c d xs ys h = cc

pub same_tail : (c d : ℕ) (xs ys : List ℕ) → c ∷ xs ≡ d ∷ ys → xs ≡ ys
same_tail c d xs ys h = cc

not_both : (b : Bool) (r : Bool) → (not b && r) ≡ true → b ≡ true → ⊥
not_both true r h e = false≢true h
not_both false r h e = false≢true e

stops : (c d : ℕ) (us vs : List ℕ) (r : Bool) → (not (is_end c) && r) ≡ true → c ∷ us ≡ d ∷ vs → is_end d ≡ true → ⊥
stops c d us vs r h e f = not_both (is_end c) r h (ap is_end (same_head c d us vs e) ∙ f)

nothing : (c : ℕ) (us : List ℕ) → c ∷ us ≡ [] → ⊥
nothing c us e = cc

longer : (c d : ℕ) (us vs : List ℕ) → c ≡ d → us ≡ vs → c ∷ us ≡ d ∷ vs
longer c d us vs e f = cc

-- two words, and what follows them
pub split : (u v xs ys : List ℕ) → is_word u ≡ true → is_word v ≡ true → Ends xs → Ends ys → u ++ xs ≡ v ++ ys → (u ≡ v) × (xs ≡ ys)
split [] [] xs ys f g a b e = (refl, e)
split [] (d ∷ v) [] ys f g a b e = absurd (nothing d (v ++ ys) (sym e))
split [] (d ∷ v) (x ∷ xs) ys f g a b e = absurd (stops d x (v ++ ys) xs (is_word v) g (sym e) a)
split (c ∷ u) [] xs [] f g a b e = absurd (nothing c (u ++ xs) e)
split (c ∷ u) [] xs (y ∷ ys) f g a b e = absurd (stops c y (u ++ xs) ys (is_word u) f e b)
split (c ∷ u) (d ∷ v) xs ys f g a b e =
    let k = split u v xs ys (and_parts _ _ f).1 (and_parts _ _ g).1 a b (same_tail c d _ _ e) in
    (longer c d u v (same_head c d _ _ e) k.0, k.1)
