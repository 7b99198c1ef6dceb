-- What is entered into a program that is being typed.
use Rattle.std.specs.Prelude.{ℕ, suc, ◌-◌, pos, Option, Some, None, List, [], ◌∷◌, ◌++◌, length}
use Rattle.ada_text.specs.declared.token.Span.{Span}
use Rattle.type_base.specs.declared.entities.Entity.{Entity}
use Rattle.type_base.specs.declared.entities.Entity.TheVariants as entity
use Rattle.type_base.specs.declared.world.Form.{Form}
use Rattle.type_base.specs.declared.world.Form.TheVariants as form
use Rattle.type_base.specs.declared.world.Subtype.{Subtype}
use Rattle.type_base.specs.declared.world.World.{World}
use Rattle.type_base.specs.Lookups.{with_entity}
use Rattle.statement_typing.specs.declared.draft.Draft.{Draft}
use Rattle.statement_typing.specs.declared.parts.Definition.{Definition}
use Rattle.statement_typing.specs.declared.parts.Definition.TheVariants.{ArrayOf, Integer, RecordOf, Single}
use Rattle.statement_typing.specs.declared.parts.Group.{Group}
use Rattle.statement_typing.specs.declared.parts.Indexes.{Indexes}
use Rattle.statement_typing.specs.declared.parts.Noted.{Noted}
use Rattle.statement_typing.specs.declared.parts.Noted.TheVariants.{Known, New}

-- ---- what identifiers stand for

abbrev pub in_world : (World → World) → Draft → Draft
in_world f d = record d { world = f d.world }

abbrev pub declare : ℕ → Span → Entity → Draft → Draft
declare file s e d = in_world (λ w. with_entity w (record { file = file; at = s.from }) e) d

-- the identifiers of one declaration
abbrev pub declare_all : ℕ → List Span → Entity → Draft → Draft
declare_all file [] e d = d
declare_all file (s ∷ ss) e d = declare_all file ss e (declare file s e d)

-- ---- subtypes

abbrev pub with_subtype : Option (List ℕ) → Subtype → Draft → Draft
with_subtype name s d = record d { world = record (d.world) { subtypes = d.world.subtypes ++ s ∷ [] }; names = d.names ++ name ∷ [] }

-- a subtype's number, and the draft that has it
pub record Entered : Type 0 where
  pub number : ℕ
  pub draft : Draft

-- the number that the next subtype gets
abbrev pub next_subtype : Draft → ℕ
next_subtype d = length d.world.subtypes

abbrev pub entered : Noted → Draft → Entered
entered (Known k) d = record { number = k; draft = d }
entered (New s) d = record { number = next_subtype d; draft = with_subtype None s d }

abbrev pub with_components : (ℕ → ℕ) → List Span → ℕ → Draft → Draft
with_components name [] k d = d
with_components name (s ∷ ss) k d =
    with_components name ss k (in_world (λ w. record w { components = w.components ++ record { name = name s.from; subtype = k } ∷ [] }) d)

abbrev pub with_group : (ℕ → ℕ) → List Span → Entered → Draft
with_group name ss e = with_components name ss e.number e.draft

abbrev pub with_groups : (ℕ → ℕ) → List Group → Draft → Draft
with_groups name [] d = d
with_groups name (g ∷ gs) d = with_groups name gs (with_group name g.names (entered g.subtype d))

-- a type's first subtype, whose own entry stands for the type
abbrev pub with_first : List ℕ → Form → Draft → Entered
with_first name f d = record { number = next_subtype d; draft = with_subtype (Some name) (record { of = next_subtype d; form = f }) d }

abbrev pub with_record : List ℕ → ℕ → Draft → Entered
with_record name first d = with_first name (form.Record first (length d.world.components - first)) d

abbrev pub with_array : List ℕ → Indexes → Entered → Entered
with_array name i e = with_first name (form.Array i.subtype i.bounds e.number) e.draft

-- An integer type, and a derived enumeration, has an entry with its base range right before its first subtype; other types have their
-- parts before them.
abbrev pub with_type : (ℕ → ℕ) → List ℕ → Definition → Draft → Entered
with_type names name (Integer c x) d = record {
  number = suc (next_subtype d);
  draft = with_subtype (Some name) (record { of = next_subtype d; form = form.Number c x })
      (with_subtype None (record { of = next_subtype d; form = form.Number c (record x { lo = x.base_lo; hi = x.base_hi }) }) d);
}
with_type names name (Single f) d = with_first name f d
with_type names name (ArrayOf i n) d = with_array name i (entered n d)
with_type names name (RecordOf gs) d = with_record name (length d.world.components) (with_groups names gs d)

-- the literals of an enumeration, from a position on -- Ada RM 3.5.1(7)
abbrev pub declare_literals : ℕ → ℕ → ℕ → List Span → Draft → Draft
declare_literals file k n [] d = d
declare_literals file k n (s ∷ ss) d = declare_literals file k (suc n) ss (declare file s (entity.Literal k (pos n)) d)
