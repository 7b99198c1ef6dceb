-- Texts that begin with some bytes, and bytes after which no text goes on. The end counts as a byte, 256.
use Rattle.std.specs.Prelude.{◌≡◌, ℕ, Bool, false, ◌&&◌, nat_le, List, [], ◌∷◌, ◌++◌}

abbrev pub is_digit : ℕ → Bool
is_digit c = nat_le 48 c && nat_le c 57

-- the first byte, or the end
abbrev pub first : List ℕ → ℕ
first [] = 256
first (c ∷ cs) = c

-- what may follow a text: no digit
abbrev pub Ends : List ℕ → Type 0
Ends k = is_digit (first k) ≡ false

-- the text of some value begins so
abbrev pub Goes : {A : Type 0} → (A → Type 0) → (A → List ℕ) → List ℕ → Type 0
Goes {A} P text u = (a : A) × (rest : List ℕ) × P a × (text a ≡ u ++ rest)

-- no text of a value, with what may follow it, begins with `u` and then `c`
abbrev pub Stuck : {A : Type 0} → (A → Type 0) → (A → List ℕ) → List ℕ → ℕ → Type 0
Stuck {A} P text u c = (a : A) (k rest : List ℕ) → P a → Ends k → text a ++ k ≡ u ++ (c ∷ rest) → ⊥

-- no text of another value goes on past this one before byte `c`
abbrev pub IsWhole : {A : Type 0} → (A → List ℕ) → A → ℕ → Type 0
IsWhole {A} text a c = (b : A) (k rest : List ℕ) → Ends k → text b ++ k ≡ text a ++ (c ∷ rest) → k ≡ c ∷ rest

-- the first byte of `r` is the first of `s` after which no text of a value goes on so
pub record IsFault {A : Type 0} (P : A → Type 0) (text : A → List ℕ) (s r : List ℕ) : Type 0 where
  pub front : List ℕ
  pub is_front : s ≡ front ++ r
  pub goes : Goes P text front
  pub stuck : Stuck P text front (first r)
