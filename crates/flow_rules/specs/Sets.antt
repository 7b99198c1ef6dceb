-- The globals that a subprogram reads and writes: the least sets that have those that it names and those of the subprograms
-- that it calls (SPARK RM 6.1.4).
use Rattle.std.specs.Prelude.{◌≡◌, ◌<◌, ℕ, List, Some, Contains, length, slice_get}
use Rattle.typed_units.specs.Syntax.{Routine, Text}
use Rattle.flow_rules.specs.Base.{called, named_reads, named_writes}
use Rattle.flow_rules.specs.declared.faults.Effects.{Effects}

-- the subprogram q has the global g: it names it so, or calls one that has it
pub data Has (names : Routine → List ℕ) (t : Text) : ℕ → ℕ → Type 0 where
  by_name : (q : ℕ) (g : ℕ) (r : Routine) → slice_get t.routines q ≡ Some r → Contains (names r) g → Has names t q g
  by_call : (q : ℕ) (s : ℕ) (g : ℕ) (r : Routine) → slice_get t.routines q ≡ Some r → Contains (called r) s → Has names t s g → Has names t q g

abbrev pub Reads : Text → ℕ → ℕ → Type 0
Reads = Has named_reads

abbrev pub Writes : Text → ℕ → ℕ → Type 0
Writes = Has named_writes

-- the list has exactly these globals, in order of declaration, each once
pub record IsSetOf (has : ℕ → Type 0) (gs : List ℕ) : Type 0 where
  pub in_order : (i : ℕ) (j : ℕ) (g : ℕ) (h : ℕ) → slice_get gs i ≡ Some g → slice_get gs j ≡ Some h → i < j → g < h
  pub only : (g : ℕ) → Contains gs g → has g
  pub each : (g : ℕ) → has g → Contains gs g

-- a set for each subprogram
pub record AreSets (has : ℕ → ℕ → Type 0) (count : ℕ) (sets : List (List ℕ)) : Type 0 where
  pub number : length sets ≡ count
  pub set : (q : ℕ) (gs : List ℕ) → slice_get sets q ≡ Some gs → IsSetOf (has q) gs

-- the effects of the program's subprograms
pub record IsEffects (t : Text) (e : Effects) : Type 0 where
  pub reads : AreSets (Reads t) (length t.routines) e.reads
  pub writes : AreSets (Writes t) (length t.routines) e.writes
