-- What is known of the value of an expression before a run.
use Rattle.std.specs.Prelude.{ℕ, Bool, false, ◌&&◌, ◌||◌, ℤ, pos, Option, Some, None, List, not}
use Rattle.std.specs.Int.RustNames.{int_le, int_lt}
use Rattle.std.specs.Ordering.{int_eq}
use Rattle.ada_values.specs.declared.scalars.Scalar.{Scalar}
use Rattle.ada_values.specs.declared.shapes.Shape.{Shape}
use Rattle.ada_values.specs.Scalars.{integer_last}
use Rattle.ada_values.specs.Value.{number}
use Rattle.typed_units.specs.Syntax as text
use Rattle.typed_units.specs.Syntax.{Ex, Nd}
use Rattle.typed_units.specs.View.{scalar_at}

-- the number that a static expression is (Ada RM 4.9)
abbrev pub node_number : Nd → Option ℤ
node_number (text.static (number v)) = Some v
node_number _ = None

abbrev pub static_number : Ex → Option ℤ
static_number (text.at p s n) = node_number n

-- the expression is static, and its value another than v
abbrev pub is_other : Option ℤ → ℤ → Bool
is_other None v = false
is_other (Some x) v = not (int_eq x v)

-- the numbers of the subtype are exponents, which are those of Natural (Ada RM 3.5.4, 4.5.6)
abbrev pub are_exponents : Scalar → Bool
are_exponents s = int_lt s.hi s.lo || (int_le (pos 0) s.lo && int_le s.hi (pos integer_last))

-- the known range of an expression, its value where it is static and else that of its subtype, lies in Natural
abbrev pub is_exponent : List Shape → Option ℤ → ℕ → Bool
is_exponent shapes (Some v) s = int_le (pos 0) v && int_le v (pos integer_last)
is_exponent shapes None s = are_exponents (scalar_at shapes s)

abbrev pub is_known_exponent : List Shape → Ex → Bool
is_known_exponent shapes (text.at p s n) = is_exponent shapes (node_number n) s
