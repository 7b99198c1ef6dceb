-- Whole texts of values, and where none goes on.
use Rattle.std.specs.Prelude.{◌≡◌, ◌≤◌, ℕ, suc, List, [], ◌∷◌, ◌++◌, length, take}

-- the end counts as a byte
abbrev pub with_end : List ℕ → List ℕ
with_end b = b ++ 256 ∷ []

-- the text of some value begins so
abbrev pub Begins : {A : Type 0} → (A → Type 0) → (A → List ℕ) → List ℕ → Type 0
Begins {A} P text front = (a : A) × (rest : List ℕ) × P a × (with_end (text a) ≡ front ++ rest)

-- byte `at` is the first after which no text of a value goes on so
abbrev pub IsBadText : {A : Type 0} → (A → Type 0) → (A → List ℕ) → List ℕ → ℕ → Type 0
IsBadText {A} P text b at = (at ≤ length b) × Begins P text (take at (with_end b)) × (¬ Begins P text (take (suc at) (with_end b)))
