-- Texts in a row.
use Rattle.std.proofs.Common.{◌≡◌, sym, ◌∙◌, ap, ℕ, List, [], ◌∷◌, ◌++◌, map, append_assoc}
use Rattle.std.proofs.lemmas.List.{map-append, append-nil}

-- the text of a list is that of its items, one after another
pub record IsRow {A : Type 0} (one : A → List ℕ) (many : List A → List ℕ) : Type 0 where
  pub none : many [] ≡ []
  pub next : (x : A) (xs : List A) → many (x ∷ xs) ≡ one x ++ many xs

-- the text of a list with one item more
pushed : {A : Type 0} (one : A → List ℕ) (many : List A → List ℕ) (w : IsRow one many) (xs : List A) (x : A) (r : List ℕ) → many (xs ++ x ∷ []) ++ r ≡ many xs ++ (one x ++ r)
pushed one many w [] x r =
    ap (λ (t : List ℕ). t ++ r) (w.next x [] ∙ ap (λ (t : List ℕ). one x ++ t) w.none ∙ append-nil (one x))
    ∙ ap (λ (t : List ℕ). t ++ (one x ++ r)) (sym w.none)
pushed one many w (y ∷ xs) x r =
    ap (λ (t : List ℕ). t ++ r) (w.next y (xs ++ x ∷ []))
    ∙ append_assoc (one y) (many (xs ++ x ∷ [])) r
    ∙ ap (λ (t : List ℕ). one y ++ t) (pushed one many w xs x r)
    ∙ sym (append_assoc (one y) (many xs) (one x ++ r))
    ∙ ap (λ (t : List ℕ). t ++ (one x ++ r)) (sym (w.next y xs))

-- what is read after a list, where an item more is read
pub row_more : {A : Type 0} (one : A → List ℕ) (many : List A → List ℕ) (w : IsRow one many) (old new : List A) (x : A) (s m r : List ℕ) → new ≡ old ++ x ∷ [] → m ≡ one x ++ r → s ≡ many old ++ m → s ≡ many new ++ r
row_more one many w old new x s m r e g h =
    h ∙ ap (λ (t : List ℕ). many old ++ t) g ∙ sym (pushed one many w old x r) ∙ ap (λ xs. many xs ++ r) (sym e)

-- the same of items that stand for others
pub one_more : {A B : Type 0} (f : B → A) (one : A → List ℕ) (many : List A → List ℕ) (w : IsRow one many) (old new : List B) (x : B) (s m r : List ℕ) → new ≡ old ++ x ∷ [] → m ≡ one (f x) ++ r → s ≡ many (map f old) ++ m → s ≡ many (map f new) ++ r
one_more f one many w old new x s m r e g h =
    row_more one many w (map f old) (map f new) (f x) s m r (ap (map f) e ∙ map-append f old (x ∷ [])) g h
