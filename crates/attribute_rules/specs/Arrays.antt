-- What the code has of an array that is the prefix of an attribute.
use Rattle.std.specs.Prelude.{Bool, true, false, List, [], ◌∷◌}
use Rattle.attribute_rules.specs.declared.arrays.ArrayPrefix as code
use Rattle.attribute_rules.specs.declared.arrays.ArrayPrefix.TheVariants.{Static, Known, OfValue, NoArray, Unclear}
use Rattle.typed_units.specs.declared.expressions.Expr.{Expr}
use Rattle.typed_units.specs.declared.expressions.Step.{Step}
use Rattle.typing_rules.specs.Attributes.{Bounded, static, known_bounds, of_value, no_array, unclear}

abbrev pub bounded_as : code.ArrayPrefix → Bounded
bounded_as (Static i b) = static i b
bounded_as (Known i b x) = known_bounds i b x
bounded_as (OfValue i x) = of_value i x
bounded_as NoArray = no_array
bounded_as (Unclear s) = unclear s

-- whether a way leads to the whole object
abbrev pub is_whole : List (Step Expr) → Bool
is_whole [] = true
is_whole (s ∷ ss) = false
