-- The typed program that a file of the first form is.
use Rattle.std.specs.Prelude.{ℕ, None, List, [], ◌∷◌, map, unwrap_or, pos}
use Rattle.ada_values.specs.Value as ada
use Rattle.ada_values.specs.declared.place.Place.{Place}
use Rattle.ada_values.specs.Scalars.{integer}
use Rattle.ada_values.specs.declared.shapes.Shape.{Shape}
use Rattle.ada_values.specs.declared.shapes.Shape.TheVariants as shape
use Rattle.typed_units.specs.declared.programs.Class.TheVariants as class
use Rattle.typed_units.specs.declared.programs.Mode.TheVariants as mode
use Rattle.typed_units.specs.Syntax as text
use Rattle.typed_units.specs.Syntax.{param, present, compare, Ex, at, Nd, static, read, op2, Sts, Routine, Kind, Text}
use Rattle.ada_semantics.specs.Operators.{ordered}
use Rattle.first_form.specs.declared.form.FirstForm.{FirstForm}
use Rattle.first_form.specs.declared.form.Assertion.{Assertion}
use Rattle.first_form.specs.declared.form.Operand.{Operand}
use Rattle.first_form.specs.declared.form.Operand.TheVariants.{Number, Name}
use Rattle.first_form.specs.Places.{position_of}

-- the subtypes: the base range of Integer, of which numbers are; Integer; and Boolean (Ada RM 3.5.3, 3.5.4)
abbrev pub shapes_of : List Shape
shapes_of = shape.Number integer ∷ shape.Number integer ∷ shape.Truth ∷ []

abbrev pub kinds_of : List Kind
kinds_of = record { of = 0; class = class.Signed } ∷ record { of = 0; class = class.Signed } ∷ record { of = 2; class = class.Boolean } ∷ []

-- a number, or the parameter of that name
abbrev pub operand : List (List ℕ) → Place → Operand → Ex
operand ps p (Number n) = at p 0 (static (ada.number (pos n)))
operand ps p (Name x) = at p 1 (read p present (param (unwrap_or (position_of ps x) 0)))

-- a comparison of two numbers is static, and so its value (Ada RM 4.9)
abbrev pub compared : List (List ℕ) → Assertion → Operand → Operand → Nd
compared ps a (Number m) (Number n) = static (ada.truth (ordered a.relation (pos m) (pos n)))
compared ps a x y = op2 (compare a.relation) (operand ps a.left.place x) (operand ps a.right.place y)

-- the condition of an assertion, which begins with its left operand
abbrev pub condition : List (List ℕ) → Assertion → Ex
condition ps a = at a.left.place 2 (compared ps a a.left.operand a.right.operand)

abbrev pub assertions : List (List ℕ) → List Assertion → Sts
assertions ps [] = text.done
assertions ps (a ∷ as') = text.then (text.st a.place (text.assert (condition ps a))) (assertions ps as')

abbrev pub procedure_of : FirstForm → Routine
procedure_of f = record {
  formals = map (λ p. record { mode = mode.In; subtype = 1 }) f.params;
  result = None;
  pre = None;
  post = None;
  locals = [];
  opening = text.done;
  body = assertions f.params f.assertions;
}

-- the program of the file: its one subprogram is the procedure
abbrev pub program_of : FirstForm → Text
program_of f = record { shapes = shapes_of; kinds = kinds_of; globals = []; routines = procedure_of f ∷ [] }
