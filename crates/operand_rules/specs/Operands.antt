-- What rules make of operands that have been read.
use Rattle.std.specs.Prelude.{ℕ, false, List, [], ◌∷◌, Option, Some, None}
use Rattle.ada_values.specs.declared.place.Place.{Place}
use Rattle.front_codes.specs.declared.codes.Code.TheVariants as code
use Rattle.typed_units.specs.declared.expressions.Actual.{Actual}
use Rattle.typed_units.specs.declared.expressions.Actual.TheVariants as actual
use Rattle.typed_units.specs.declared.expressions.Argument.{Argument}
use Rattle.typed_units.specs.declared.expressions.Association.{Association}
use Rattle.typed_units.specs.declared.expressions.Expr.{Expr}
use Rattle.typed_units.specs.declared.expressions.Indexed.{Indexed}
use Rattle.typed_units.specs.declared.operators.Bounds.{Bounds}
use Rattle.typed_units.specs.declared.programs.Mode.{Mode}
use Rattle.typed_units.specs.declared.programs.Mode.TheVariants as mode
use Rattle.type_base.specs.Demands.{broken, refused}
use Rattle.type_base.specs.Lookups.{type_at}
use Rattle.type_base.specs.Scope.{Scope}
use Rattle.type_base.specs.declared.seen.Seen.{Seen}
use Rattle.type_base.specs.declared.seen.Seen.TheVariants as seen
use Rattle.type_base.specs.declared.seen.Want.{Want}
use Rattle.type_base.specs.declared.seen.Want.TheVariants as want
use Rattle.type_base.specs.declared.world.Component.{Component}
use Rattle.type_base.specs.declared.world.Formal.{Formal}
use Rattle.typing_rules.specs.declared.aggregates.Gathered.{Gathered}
use Rattle.typing_rules.specs.declared.aggregates.Gives.{Gives}
use Rattle.typing_rules.specs.declared.prefix.Found.{Found}
use Rattle.typing_rules.specs.declared.prefix.Found.TheVariants.{Refused, Unknown, Is}
use Rattle.typing_rules.specs.declared.prefix.Mapping.{Mapping}
use Rattle.typing_rules.specs.Calls.{passed_as, variable}
use Rattle.typing_rules.specs.Fits.{fit, found_then, with_found}
use Rattle.typing_rules.specs.Names.{beside, conversion, index_placed, of_type}
use Rattle.typing_rules.specs.Parts.{Operand}
use Rattle.typing_rules.specs.Values.{place_of, value_of}
use Rattle.aggregate_rules.specs.Steps.{value_given}
use Rattle.attribute_rules.specs.Mappings.{mapped_by}
use Rattle.operand_rules.specs.declared.operands.ReadOperand.{ReadOperand}

-- an operand that has been read for this
abbrev pub read_as : Scope → Want → Operand → ReadOperand
read_as c w o = record { place = place_of c o; prefix = o.prefix w }

abbrev pub read_maybe : Scope → Want → Option Operand → Option ReadOperand
read_maybe c w (Some o) = Some (read_as c w o)
read_maybe c w None = None

abbrev pub value_read : Scope → ReadOperand → Seen
value_read c r = value_of c r.place r.prefix

-- L18
abbrev pub conversion_read : Scope → Place → ℕ → Option ReadOperand → Seen
conversion_read c p k (Some r) = conversion c p k r.place (value_read c r)
conversion_read c p k None = refused code.L18 p

-- L10
abbrev pub mapped_read : Scope → Place → Mapping → Place → ℕ → Option ReadOperand → Seen
mapped_read c p m t k (Some r) = mapped_by c p m t k r.place (value_read c r)
mapped_read c p m t k None = refused code.L10 p

-- L14
abbrev pub index_read : Scope → ℕ → Option Bounds → Place → Option ReadOperand → Found (Indexed Expr)
index_read c k b q (Some r) = index_placed c b (of_type c code.L14 k r.place (value_read c r))
index_read c k b q None = Refused (broken code.L14 q)

abbrev pub beside_read : Scope → Option ReadOperand → Seen → Seen
beside_read c (Some r) s = beside (value_read c r) s
beside_read c None s = s

-- what an actual parameter is read for
abbrev pub actual_want : Mode → ℕ → Want
actual_want mode.In k = want.Subtype k
actual_want _ k = want.Free

abbrev pub actual_read : Scope → Mode → ℕ → ReadOperand → Found (Actual Expr)
actual_read c mode.In k r = with_found actual.In (fit c.world code.L11 false k r.place (value_read c r))
actual_read c m k r = found_then (variable c code.L11 r.place r.prefix) (passed_as c r.place m k (type_at c.world k))

abbrev pub argument_read : Scope → ℕ → Formal → Option ReadOperand → Found (Argument Expr)
argument_read c n f (Some r) = with_found (λ v. record { formal = n; value = v }) (actual_read c f.mode f.subtype r)
argument_read c n f None = Unknown

-- the value of an association of a record
abbrev pub value_for_read : Scope → List Component → Gives → ℕ → Option ReadOperand → Found (Association Expr)
value_for_read c cs g k (Some r) = value_given c cs g k r.place (value_read c r)
value_for_read c cs g k None = Unknown
