-- The subtypes of package Standard, with which each typed program begins. -- Ada RM A.1
use Rattle.std.specs.Prelude.{◌≡◌, ℕ, ℤ, pos, negsuc, List, [], ◌∷◌, take, map, None}
use Rattle.ada_values.specs.Scalars.{integer_last}
use Rattle.ada_values.specs.declared.shapes.Shape.{Shape}
use Rattle.ada_values.specs.declared.shapes.Shape.TheVariants as shape
use Rattle.typed_units.specs.Syntax.{Kind}
use Rattle.typed_units.specs.declared.programs.Class.TheVariants as class
use Rattle.typed_units.specs.declared.programs.Program.{Program}

-- their numbers; an integer type is followed by its first subtype
abbrev pub boolean : ℕ
boolean = 0

abbrev pub integer_type : ℕ
integer_type = 1

abbrev pub long_type : ℕ
long_type = 5

-- Long_Long_Integer'Last
abbrev pub long_last : ℕ
long_last = 9223372036854775807

-- the values from lo to the last one of a signed type of two's complement
abbrev pub up_to : ℕ → ℤ → Shape
up_to last lo = shape.Number (record { lo = lo; hi = pos last; base_lo = negsuc last; base_hi = pos last; modulus = None })

-- Boolean; Integer's type, Integer, Natural, Positive; Long_Long_Integer's type, Long_Long_Integer
abbrev pub standard_shapes : List Shape
standard_shapes =
    shape.Truth
    ∷ up_to integer_last (negsuc integer_last) ∷ up_to integer_last (negsuc integer_last) ∷ up_to integer_last (pos 0) ∷ up_to integer_last (pos 1)
    ∷ up_to long_last (negsuc long_last) ∷ up_to long_last (negsuc long_last) ∷ []

abbrev pub a_signed : ℕ → Kind
a_signed t = record { of = t; class = class.Signed }

abbrev pub standard_kinds : List Kind
standard_kinds =
    record { of = boolean; class = class.Boolean }
    ∷ a_signed integer_type ∷ a_signed integer_type ∷ a_signed integer_type ∷ a_signed integer_type ∷ a_signed long_type ∷ a_signed long_type ∷ []

pub record BeginsWithStandard (p : Program) : Type 0 where
  pub shapes : take 7 p.shapes ≡ standard_shapes
  pub kinds : map (λ t. record { of = t.of; class = t.class }) (take 7 p.types) ≡ standard_kinds
