-- Which checks a typed program has of ranges and indexes: each that may fail by what is known before a run, the value of a static
-- expression or the subtype of another. -- Ada RM 3.5, 4.1.1, 4.6
use Rattle.std.specs.Prelude.{ℕ, Bool, true, false, not, ◌&&◌, Option, Some, None, if◌then◌else◌, int_le}
use Rattle.ada_values.specs.declared.values.Value.TheVariants as value
use Rattle.typed_units.specs.declared.expressions.Expr.{Expr, out-Expr}
use Rattle.typed_units.specs.declared.expressions.ExprNode.{ExprNode}
use Rattle.typed_units.specs.declared.expressions.ExprNode.TheVariants as node
use Rattle.typed_units.specs.declared.operators.Bounds.{Bounds}
use Rattle.typed_units.specs.declared.programs.Program.{Program}
use Rattle.program_typing.specs.Subtypes.{bounds_of}

abbrev pub known_in : Program → ℕ → ExprNode Expr → Option Bounds
known_in p k (node.Static (value.Int n)) = Some (record { first = n; last = n })
known_in p k _ = bounds_of p k

-- what is known of an expression's range
abbrev pub known : Program → Expr → Option Bounds
known p x = known_in p (out-Expr x).subtype (out-Expr x).node

abbrev pub includes : Bounds → Option Bounds → Bool
includes b None = false
includes b (Some k) = int_le b.first k.first && int_le k.last b.last

-- the bounds of a check, where what is known doesn't lie within them
abbrev pub unless_known : Option Bounds → Option Bounds → Option Bounds
unless_known None k = None
unless_known (Some b) k = if includes b k then None else Some b

-- the check of an expression that is to be of subtype k
abbrev pub range_check : Program → ℕ → Expr → Option Bounds
range_check p k x = unless_known (bounds_of p k) (known p x)

-- the check of a value of subtype j that is to be of subtype k
abbrev pub subtype_check : Program → ℕ → ℕ → Option Bounds
subtype_check p k j = unless_known (bounds_of p k) (bounds_of p j)

-- whether an index of an array is checked, whose subtype has these bounds, or none
abbrev pub index_check : Program → Option Bounds → Expr → Bool
index_check p None x = true
index_check p (Some b) x = not (includes b (known p x))
