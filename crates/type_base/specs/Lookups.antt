-- What stands in a world.
use Rattle.std.specs.Prelude.{ℕ, zero, suc, Bool, false, ◌≤◌, ◌==◌, nat_lt, List, [], ◌∷◌, Option, Some, None, slice_get, if◌then◌else◌}
use Rattle.ada_values.specs.declared.values.Value.{Value}
use Rattle.name_library.specs.declared.links.Spot.{Spot}
use Rattle.type_base.specs.declared.entities.Entity.{Entity}
use Rattle.type_base.specs.declared.entities.Entity.TheVariants as entity
use Rattle.type_base.specs.declared.entities.Meaning.{Meaning}
use Rattle.type_base.specs.declared.world.Component.{Component}
use Rattle.type_base.specs.declared.world.Form.{Form}
use Rattle.type_base.specs.declared.world.Formal.{Formal}
use Rattle.type_base.specs.declared.world.Routine.{Routine}
use Rattle.type_base.specs.declared.world.Subtype.{Subtype}
use Rattle.type_base.specs.declared.world.World.{World}

abbrev pub subtype_at : World → ℕ → Option Subtype
subtype_at w k = slice_get w.subtypes k

abbrev pub form_in : Option Subtype → Option Form
form_in (Some s) = Some s.form
form_in None = None

abbrev pub form_at : World → ℕ → Option Form
form_at w k = form_in (subtype_at w k)

abbrev pub type_in : Option Subtype → Option ℕ
type_in (Some s) = Some s.of
type_in None = None

-- the number of the type of a subtype
abbrev pub type_at : World → ℕ → Option ℕ
type_at w k = type_in (subtype_at w k)

abbrev pub component_at : World → ℕ → Option Component
component_at w k = slice_get w.components k

abbrev pub formal_at : World → ℕ → Option Formal
formal_at w k = slice_get w.formals k

abbrev pub routine_at : World → ℕ → Option Routine
routine_at w k = slice_get w.routines k

abbrev pub constant_at : World → ℕ → Option Value
constant_at w k = slice_get w.constants k

abbrev pub meaning_in : List Meaning → ℕ → Entity
meaning_in [] at = entity.Unknown
meaning_in (m ∷ ms) at = if m.at == at then m.entity else meaning_in ms at

-- each begins after the one before, and the first at the byte `from` or later
abbrev pub AreRising : ℕ → List Meaning → Type 0
AreRising from [] = Unit {0}
AreRising from (m ∷ ms) = (from ≤ m.at) × AreRising (suc m.at) ms

-- how many meanings stand before a byte
abbrev pub place_in : List Meaning → ℕ → ℕ
place_in [] at = 0
place_in (m ∷ ms) at = if nat_lt m.at at then suc (place_in ms at) else 0

abbrev pub stands_at : Option Meaning → ℕ → Bool
stands_at (Some m) at = m.at == at
stands_at None at = false

-- whether one stands at a byte, where so many stand before it
abbrev pub is_there : List Meaning → ℕ → ℕ → Bool
is_there ms place at = stands_at (slice_get ms place) at

-- the meanings of a file in the order of their places, with one more, which takes the place of another at its byte
abbrev pub with_meaning : List Meaning → ℕ → Entity → List Meaning
with_meaning [] at e = record { at = at; entity = e } ∷ []
with_meaning (m ∷ ms) at e =
    if nat_lt m.at at then m ∷ with_meaning ms at e
    else record { at = at; entity = e } ∷ (if m.at == at then ms else m ∷ ms)

abbrev pub meaning_of : Option (List Meaning) → ℕ → Entity
meaning_of (Some ms) at = meaning_in ms at
meaning_of None at = entity.Unknown

-- what the declaring identifier at a place stands for
abbrev pub entity_at : World → Spot → Entity
entity_at w s = meaning_of (slice_get w.entities s.file) s.at

-- the meanings of all files with one more, in a file of this number
abbrev pub with_in_file : List (List Meaning) → ℕ → ℕ → Entity → List (List Meaning)
with_in_file [] zero at e = with_meaning [] at e ∷ []
with_in_file [] (suc f) at e = [] ∷ with_in_file [] f at e
with_in_file (ms ∷ files) zero at e = with_meaning ms at e ∷ files
with_in_file (ms ∷ files) (suc f) at e = ms ∷ with_in_file files f at e

-- the world in which the declaring identifier at a place stands for this
abbrev pub with_entity : World → Spot → Entity → World
with_entity w s e = record {
  subtypes = w.subtypes;
  components = w.components;
  formals = w.formals;
  routines = w.routines;
  constants = w.constants;
  entities = with_in_file w.entities s.file s.at e;
}
