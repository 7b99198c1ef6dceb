-- What is found of a number that takes a type.
use Rattle.std.proofs.Common.{◌≡◌, refl, sym, ap, ℕ, ℤ, Bool, true, false, Option, Some, None}
use Rattle.std.specs.Prelude.{if◌then◌else◌}
use Rattle.ada_values.specs.Scalars.{in_base}
use Rattle.ada_values.specs.declared.place.Place.{Place}
use Rattle.ada_values.specs.declared.values.Value.TheVariants as value
use Rattle.front_codes.specs.declared.codes.Code.{Code}
use Rattle.front_codes.specs.declared.codes.Code.TheVariants.{L29}
use Rattle.typed_units.specs.declared.expressions.Expr.{Expr}
use Rattle.typed_units.specs.declared.expressions.ExprNode.{ExprNode}
use Rattle.typed_units.specs.declared.expressions.ExprNode.TheVariants as node
use Rattle.type_base.specs.declared.seen.Seen.TheVariants as seen
use Rattle.type_base.specs.declared.world.Form.{Form}
use Rattle.type_base.specs.declared.world.Form.TheVariants as form
use Rattle.type_base.specs.Demands.{is_whole, made, number_as, refused}
use Rattle.type_base.specs.declared.world.World.{World}
use Rattle.type_base.specs.Lookups.{form_at}
use Rattle.type_base.specs.Results.{number_of}
use Rattle.typing_rules.proofs.Opened.{node_made}
use Rattle.typing_rules.specs.declared.prefix.Found.TheVariants.{Is}
use Rattle.statement_typing.specs.Checks.{refuse, unless}
use Rattle.statement_typing.specs.Subtypes.{static_number, static_seen, value_of_type}
use Rattle.static_rules.specs.Statics.{number_placed}

-- a static expression is its number
made_is : (r : Code) (p : Place) (t : ℕ) (n : ℤ) → static_seen r p (seen.Typed t (made p t (node.Static (value.Int n)))) ≡ Is n
made_is r p t n = ap (λ (x : ExprNode Expr). static_number r p (number_of x)) (node_made (record { place = p; subtype = t; node = node.Static (value.Int n) }))

-- by whether the type is an integer type, and whether its base range has the number
by_form : (r : Code) (p : Place) (t : ℕ) (n : ℤ) (w b : Bool) → (if w then unless b L29 p n else refuse r p) ≡ static_seen r p (if w then (if b then seen.Typed t (made p t (node.Static (value.Int n))) else refused L29 p) else refused r p)
by_form r p t n true true = sym (made_is r p t n)
by_form r p t n true false = refl
by_form r p t n false b = refl

-- a number that takes a type is found as the form of the type tells
number_is : (r : Code) (p : Place) (t : ℕ) (n : ℤ) (f : Option Form) → number_placed r p n f ≡ static_seen r p (number_as r p p t n f)
number_is r p t n None = refl
number_is r p t n (Some (form.Number d s)) = by_form r p t n (is_whole d) (in_base s n)
number_is r p t n (Some form.Truth) = refl
number_is r p t n (Some (form.Array i b u)) = refl
number_is r p t n (Some (form.Record m k)) = refl

-- what is seen is a number
pub value_is : (w : World) (r : Code) (p : Place) (t : ℕ) (n : ℤ) → number_placed r p n (form_at w t) ≡ value_of_type w r t p (seen.Number n)
value_is w r p t n = number_is r p t n (form_at w t)
