-- What may follow in a text, phase by phase. The end counts as a byte, 256.
use Rattle.std.specs.Prelude.{◌≡◌, ◌≤◌, ℕ, List, [], ◌∷◌, ◌++◌, length, drop}
use Rattle.term_reader.specs.Bytes.{first}
use Rattle.term_reader.specs.Trees.{Tree, tree_text, IsOf}
use Rattle.term_reader.specs.declared.fault.ReadFault.{ReadFault}
use Rattle.term_reader.specs.declared.fault.ReadFault.TheVariants as fault
use Rattle.term_reader.specs.declared.part.Side.{Side}

-- some bytes, and then what another phase has
abbrev pub After : List ℕ → (List ℕ → Type 0) → List ℕ → Type 0
After w P x = (y : List ℕ) × P y × (x ≡ w ++ y)

-- a part, and then what another phase has
abbrev pub OfPart : Side → (List ℕ → Type 0) → List ℕ → Type 0
OfPart s P x = (t : Tree) × (y : List ℕ) × IsOf s t × P y × (x ≡ tree_text t ++ y)

-- a fault of what a phase may have: no such text goes on past the first byte of `r`
pub record IsBad (P : List ℕ → Type 0) (s r : List ℕ) : Type 0 where
  pub front : List ℕ
  pub is_front : s ≡ front ++ r
  pub goes : (rest : List ℕ) × P (front ++ rest)
  pub stuck : (rest : List ℕ) → P (front ++ (first r ∷ rest)) → ⊥

-- between `s` and `r` a text of P has been read up to where P goes on as Q
pub record IsUpTo (P : List ℕ → Type 0) (s : List ℕ) (Q : List ℕ → Type 0) (r : List ℕ) : Type 0 where
  pub front : List ℕ
  pub is_front : s ≡ front ++ r
  pub into : (x : List ℕ) → Q x → P (front ++ x)
  pub out : (x : List ℕ) → (x ≡ [] → ⊥) → first x ≡ first r → P (front ++ x) → Q x

-- a fault at a place of a text; want of memory needs no cause
abbrev pub IsBadAt : (List ℕ → Type 0) → List ℕ → ℕ → ReadFault → Type 0
IsBadAt P bytes at (fault.BadText to) = (to ≤ length bytes) × IsBad P (drop at bytes) (drop to bytes)
IsBadAt P bytes at fault.Starved = Unit {0}
