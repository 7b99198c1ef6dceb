-- The steps of the reader.
use Rattle.std.specs.Prelude.{◌≡◌, ◌≤◌, ℕ, List, ◌++◌, length, drop, Some, None}
use Rattle.term_reader.specs.Bytes.{first, IsWhole, IsFault}
use Rattle.term_reader.specs.Reads.{tree}
use Rattle.term_reader.specs.Trees.{tree_text, IsOf, Level, IsAt}
use Rattle.term_reader.specs.declared.fault.ReadFault.{ReadFault}
use Rattle.term_reader.specs.declared.fault.ReadFault.TheVariants as fault
use Rattle.term_reader.specs.declared.part.Side.{Side}
use Rattle.term_reader.specs.declared.steps.Step.{Step}
use Rattle.term_reader.specs.declared.steps.Step.TheVariants as step

-- what is read next between a whole text and the rest
abbrev pub IsStep : List ℕ → Side → Step → List Level → List ℕ → Type 0
IsStep text whole (step.Part s) ls r = IsAt text whole (Some s) ls r
IsStep text whole step.Mark ls r = IsAt text whole None ls r
IsStep text whole (step.Done p) ls r = IsOf whole (tree p) × IsWhole tree_text (tree p) (first r) × (text ≡ tree_text (tree p) ++ r)

-- why a whole text is not read; want of memory needs no cause
abbrev pub IsStopped : List ℕ → Side → List ℕ → ReadFault → Type 0
IsStopped text whole bytes (fault.BadText to) = (to ≤ length bytes) × IsFault (IsOf whole) tree_text text (drop to bytes)
IsStopped text whole bytes fault.Starved = Unit {0}
