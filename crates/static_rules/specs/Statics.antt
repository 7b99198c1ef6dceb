-- Static values over what has been read of them.
use Rattle.std.specs.Prelude.{ℕ, ℤ, pos, negsuc, Option, Some, None, if◌then◌else◌}
use Rattle.ada_values.specs.Scalars.{in_base}
use Rattle.ada_values.specs.declared.place.Place.{Place}
use Rattle.ada_values.specs.declared.scalars.Scalar.{Scalar}
use Rattle.front_codes.specs.declared.codes.Code.{Code}
use Rattle.front_codes.specs.declared.codes.Code.TheVariants.{L29}
use Rattle.typed_units.specs.declared.operators.Bounds.{Bounds}
use Rattle.type_base.specs.declared.seen.Seen.{Seen}
use Rattle.type_base.specs.declared.world.Discrete.{Discrete}
use Rattle.type_base.specs.declared.world.Discrete.TheVariants as discrete
use Rattle.type_base.specs.declared.world.Form.{Form}
use Rattle.type_base.specs.declared.world.Form.TheVariants as form
use Rattle.type_base.specs.declared.world.World.{World}
use Rattle.type_base.specs.Demands.{is_whole}
use Rattle.typing_rules.specs.declared.prefix.Found.{Found}
use Rattle.typing_rules.specs.declared.prefix.Found.TheVariants.{Unknown}
use Rattle.typing_rules.specs.Fits.{with_found}
use Rattle.statement_typing.specs.declared.parts.Definition.{Definition}
use Rattle.statement_typing.specs.declared.parts.Definition.TheVariants.{Integer}
use Rattle.statement_typing.specs.declared.parts.Noted.{Noted}
use Rattle.statement_typing.specs.declared.parts.Noted.TheVariants.{New}
use Rattle.statement_typing.specs.declared.parts.StaticRange.{StaticRange}
use Rattle.statement_typing.specs.Checks.{refuse, unless}
use Rattle.statement_typing.specs.Subtypes.{bounds, indexes_in}
use Rattle.statement_typing.specs.Types.{base_last, modular_scalar, modulus}

-- a number at p of a type with this form: what is found of `placed_number`
abbrev pub number_placed : Code → Place → ℤ → Option Form → Found ℤ
number_placed r p n None = Unknown
number_placed r p n (Some (form.Number d s)) = if is_whole d then unless (in_base s n) L29 p n else refuse r p
number_placed r p n (Some _) = refuse r p

-- the smallest base range that has these bounds
abbrev pub base_range : Bounds → Bounds
base_range b = bounds (negsuc (base_last b)) (pos (base_last b))

-- a modular type, by the modulus that is seen at p
abbrev pub modular_read : World → Place → Seen → Found Definition
modular_read w p s = with_found (λ n. Integer discrete.Modular (modular_scalar n)) (modulus w p s)

-- a range of a subtype with static bounds
abbrev pub static_between : ℕ → ℤ → ℤ → StaticRange
static_between k l h = record { subtype = k; bounds = bounds l h }

-- the bounds of an array at l and h, by those of its index subtype: `bounds_for`
abbrev pub bounds_placed : Place → Place → Option Bounds → Bounds → Found Bounds
bounds_placed l h None b = Unknown
bounds_placed l h (Some x) b = indexes_in l h x b

-- a subtype of numbers with other bounds
abbrev pub narrowed : ℕ → Discrete → Scalar → Bounds → Noted
narrowed t d x b = New (record { of = t; form = form.Number d (record x { lo = b.first; hi = b.last }) })

-- an array subtype with bounds
abbrev pub bounded : ℕ → ℕ → ℕ → Bounds → Noted
bounded t i k b = New (record { of = t; form = form.Array i (Some b) k })
