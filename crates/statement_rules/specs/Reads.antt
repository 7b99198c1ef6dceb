-- What the rules of statements make of expressions that have been read.
use Rattle.std.specs.Prelude.{Option, Some, None}
use Rattle.ada_values.specs.declared.place.Place.{Place}
use Rattle.front_codes.specs.declared.codes.Code.TheVariants.{L8, L9, L13, L25}
use Rattle.typed_units.specs.declared.expressions.Expr.{Expr}
use Rattle.typed_units.specs.declared.expressions.Fitted.{Fitted}
use Rattle.typed_units.specs.declared.statements.Action.{Action}
use Rattle.typed_units.specs.declared.statements.Action.TheVariants as action
use Rattle.typed_units.specs.declared.statements.Direction.{Direction}
use Rattle.typed_units.specs.declared.statements.Stmt.{Stmt}
use Rattle.typed_units.specs.declared.statements.Way.{Way}
use Rattle.name_numbers.specs.declared.words.Word.{Word}
use Rattle.name_numbers.specs.declared.words.Word.TheVariants as word
use Rattle.type_base.specs.declared.seen.Seen.{Seen}
use Rattle.type_base.specs.declared.seen.Want.{Want}
use Rattle.type_base.specs.declared.seen.Want.TheVariants as want
use Rattle.type_base.specs.declared.world.World.{World}
use Rattle.typing_rules.specs.declared.prefix.Found.{Found}
use Rattle.typing_rules.specs.declared.prefix.Found.TheVariants.{Refused, Unknown, Is}
use Rattle.typing_rules.specs.declared.prefix.Part.{Part}
use Rattle.typing_rules.specs.Fits.{fit, with_found}
use Rattle.statement_typing.specs.Checks.{and_also, refuse}
use Rattle.statement_typing.specs.Statements.{Returns, a_value, nothing}
use Rattle.statement_typing.specs.Subtypes.{heard}
use Rattle.std.specs.Prelude.{ℕ, true, false}

-- ---- the value of an assignment, by its target

abbrev pub value_want : Found Part → Want
value_want (Is g) = want.Subtype g.subtype
value_want Unknown = want.Unknown
value_want (Refused f) = want.Unknown

abbrev pub value_for_read : World → Found Part → Place → Seen → Found (Fitted Expr)
value_for_read w (Is g) p s = fit w L8 true g.subtype p s
value_for_read w Unknown p s = and_also Unknown (heard s)
value_for_read w (Refused f) p s = and_also Unknown (heard s)

-- ---- what is returned

abbrev pub returned_want : Found ℕ → Want
returned_want (Is k) = want.Subtype k
returned_want Unknown = want.Unknown
returned_want (Refused f) = want.Unknown

abbrev pub returned_read : World → Found ℕ → Place → Seen → Found (Fitted Expr)
returned_read w (Is k) p s = fit w L13 false k p s
returned_read w Unknown p s = and_also Unknown (heard s)
returned_read w (Refused f) p s = and_also Unknown (heard s)

abbrev pub return_want : Returns → Want
return_want nothing = want.Free
return_want (a_value k) = returned_want k

-- p is the place of the expression
abbrev pub return_read : World → Returns → Place → Seen → Found (Action Stmt)
return_read w nothing p s = and_also (refuse L13 p) (heard s)
return_read w (a_value k) p s = with_found action.Give (returned_read w k p s)

-- ---- the arguments of pragmas; p is the place of the argument

abbrev pub checked_by : Place → Option Word → Found Expr → Found Expr
checked_by p (Some word.Check) x = x
checked_by p w x = and_also (refuse L9 p) x

abbrev pub way_by : Place → Option Direction → Found Expr → Found Way
way_by p (Some d) x = with_found (λ y. record { direction = d; value = y }) x
way_by p None x = and_also (refuse L25 p) x
