-- The subtypes and names of package Standard. -- Ada RM A.1
use Rattle.std.specs.Prelude.{ℕ, ℤ, pos, negsuc, List, [], ◌∷◌, Option, Some, None, slice_get}
use Rattle.ada_values.specs.Scalars.{integer_last}
use Rattle.name_library.specs.declared.links.Link.{Link}
use Rattle.name_library.specs.declared.links.Link.TheVariants as link
use Rattle.type_base.specs.declared.entities.Entity.{Entity}
use Rattle.type_base.specs.declared.entities.Entity.TheVariants as entity
use Rattle.type_base.specs.declared.world.Discrete.TheVariants as discrete
use Rattle.type_base.specs.declared.world.Form.TheVariants as form
use Rattle.type_base.specs.declared.world.Subtype.{Subtype}
use Rattle.type_base.specs.declared.world.World.{World}
use Rattle.type_base.specs.Lookups.{entity_at}

-- the numbers of the subtypes of Standard; of an integer type the entry with its base range stands first
abbrev pub boolean : ℕ
boolean = 0

abbrev pub integer_base : ℕ
integer_base = 1

abbrev pub integer : ℕ
integer = 2

abbrev pub natural : ℕ
natural = 3

abbrev pub positive : ℕ
positive = 4

abbrev pub long_base : ℕ
long_base = 5

abbrev pub long : ℕ
long = 6

-- the last value of Long_Long_Integer -- Ada RM 3.5.4
abbrev pub long_last : ℕ
long_last = 9223372036854775807

-- a subtype of the signed integer type of a number, from a value to the type's last one
abbrev pub signed : ℕ → ℕ → ℤ → Subtype
signed t last lo = record {
  of = t;
  form = form.Number discrete.Signed (record { lo = lo; hi = pos last; base_lo = negsuc last; base_hi = pos last; modulus = None });
}

abbrev pub standard_subtypes : List Subtype
standard_subtypes =
    record { of = boolean; form = form.Truth }
    ∷ signed integer_base integer_last (negsuc integer_last)
    ∷ signed integer_base integer_last (negsuc integer_last)
    ∷ signed integer_base integer_last (pos 0)
    ∷ signed integer_base integer_last (pos 1)
    ∷ signed long_base long_last (negsuc long_last)
    ∷ signed long_base long_last (negsuc long_last)
    ∷ []

-- a world in which Standard alone is declared
abbrev pub standard : World
standard = record { subtypes = standard_subtypes; components = []; formals = []; routines = []; constants = []; entities = [] }

-- Boolean, False, True, Integer, Natural, Positive, Long_Long_Integer: the names of Standard that the profile has, by their numbers
abbrev pub standard_entities : List Entity
standard_entities =
    entity.Subtype boolean
    ∷ entity.Literal boolean (pos 0)
    ∷ entity.Literal boolean (pos 1)
    ∷ entity.Subtype integer
    ∷ entity.Subtype natural
    ∷ entity.Subtype positive
    ∷ entity.Subtype long
    ∷ []

abbrev pub entity_in : Option Entity → Entity
entity_in (Some e) = e
entity_in None = entity.Unknown

abbrev pub predefined : ℕ → Entity
predefined n = entity_in (slice_get standard_entities n)

-- what an identifier of this link stands for
abbrev pub linked : World → Link → Entity
linked w (link.Declared s) = entity_at w s
linked w (link.Predefined n) = predefined n
