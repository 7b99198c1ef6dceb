-- What is read.
use Rattle.std.specs.Prelude.{◌≡◌, ◌<◌, ◌≤◌, ℕ, List, ◌++◌, length, drop}
use Rattle.logic_terms.specs.View.{term, formula}
use Rattle.logic_terms.specs.Sorts.{sort}
use Rattle.term_reader.specs.Bytes.{first, IsWhole, IsFault}
use Rattle.term_reader.specs.Trees.{Tree, of_node, of_kind, tree_text, IsOf}
use Rattle.term_reader.specs.declared.fault.ReadFault.{ReadFault}
use Rattle.term_reader.specs.declared.fault.ReadFault.TheVariants as fault
use Rattle.term_reader.specs.declared.part.Part.{Part}
use Rattle.term_reader.specs.declared.part.Part.TheVariants as part
use Rattle.term_reader.specs.declared.part.Side.{Side}

abbrev pub Between : ℕ → ℕ → ℕ → Type 0
Between least most n = (least ≤ n) × (n ≤ most)

-- the tree of a part
abbrev pub tree : Part → Tree
tree (part.Term t) = of_node (term t)
tree (part.Formula p) = of_node (formula p)
tree (part.Sort s) = of_kind (sort s)

-- a tree of this side stands at `at` in a text and ends at `to`
pub record IsRead (side : Side) (t : Tree) (bytes : List ℕ) (at to : ℕ) : Type 0 where
  pub before : at < to
  pub inside : to ≤ length bytes
  pub right : IsOf side t
  pub text : drop at bytes ≡ tree_text t ++ drop to bytes
  pub whole : IsWhole tree_text t (first (drop to bytes))

-- `to` is the first byte after which no tree of this side that begins at `at` goes on
pub record IsUnread (side : Side) (bytes : List ℕ) (at to : ℕ) : Type 0 where
  pub inside : to ≤ length bytes
  pub fault : IsFault (IsOf side) tree_text (drop at bytes) (drop to bytes)

-- want of memory needs no cause
abbrev pub IsReadFault : Side → List ℕ → ℕ → ReadFault → Type 0
IsReadFault side bytes at (fault.BadText to) = IsUnread side bytes at to
IsReadFault side bytes at fault.Starved = Unit {0}
