-- The words of the sample programs: the places that things have in their source, headings, effects.
use Rattle.std.specs.Prelude.{ℕ, List, [], ◌∷◌, Option, Some, None}
use Rattle.ada_values.specs.declared.place.Place.{Place}
use Rattle.ada_values.specs.declared.shapes.Shape.{Shape}
use Rattle.ada_values.specs.declared.shapes.Shape.TheVariants as shape
use Rattle.ada_values.specs.Scalars.{integer}
use Rattle.ada_values.specs.declared.scalars.Scalar.{Scalar}
use Rattle.typed_units.specs.declared.programs.GlobalAspect.{GlobalAspect}
use Rattle.typed_units.specs.declared.programs.GlobalItem.{GlobalItem}
use Rattle.typed_units.specs.declared.programs.GlobalMode.{GlobalMode}
use Rattle.typed_units.specs.declared.programs.GlobalMode.TheVariants as mode
use Rattle.typed_units.specs.Syntax.{Var, Ex, Nd, at, read, present, call, Actual, pass_in, pass_out, pass_in_out, Target, St, Routine, Text}
use Rattle.ada_semantics.specs.Cases.{Step, actuals, part_of, place, whole_of}
use Rattle.flow_rules.specs.Headed.{Heading, Headed}
use Rattle.flow_rules.specs.Aliases.{fault}
use Rattle.flow_rules.specs.declared.faults.Effects.{Effects}
use Rattle.flow_rules.specs.declared.faults.FlowFault.{FlowFault}
pub mod Calls
pub mod Globals
pub mod Unset

-- the subtypes of the samples: Integer; a record P with the components A and B; an array Row, 1 .. 3, of Integer
abbrev pub integer_type : ℕ
integer_type = 0

abbrev pub pair_type : ℕ
pair_type = 1

abbrev pub row_type : ℕ
row_type = 2

abbrev pub shapes : List Shape
shapes =
    shape.Number integer
    ∷ shape.Record (0 ∷ 0 ∷ [])
    ∷ shape.Array (record { index = integer; bounds = None; item = 0 })
    ∷ []

-- a program with such globals and subprograms
abbrev pub text : List ℕ → List Routine → Text
text globals rs = record { shapes = shapes; kinds = []; globals = globals; routines = rs }

-- ---- headings, by the line and the column of the name in the body

abbrev pub head : ℕ → ℕ → Heading
head l c = record { place = place l c; stated = None }

-- with a stated `Global`, whose name stands at the second place
abbrev pub head_with : ℕ → ℕ → ℕ → ℕ → List GlobalItem → Heading
head_with l c l' c' items = record { place = place l c; stated = Some (record { place = place l' c'; items = items }) }

abbrev pub input : ℕ → GlobalItem
input g = record { mode = mode.Input; global = g }

abbrev pub output : ℕ → GlobalItem
output g = record { mode = mode.Output; global = g }

abbrev pub in_out : ℕ → GlobalItem
in_out g = record { mode = mode.InOut; global = g }

abbrev pub with_headings : List Heading → Text → Headed
with_headings hs t = record { text = t; headings = hs }

abbrev pub effects : List (List ℕ) → List (List ℕ) → Effects
effects reads writes = record { reads = reads; writes = writes }

abbrev pub at_place : ℕ → ℕ → ℕ → FlowFault
at_place rule l c = fault rule (place l c)

-- ---- names and actuals, by the line and the column of their first token

-- a name of an object of the subtype s
abbrev pub name_as : ℕ → ℕ → ℕ → Var → Ex
name_as s l c x = at (place l c) s (read (place l c) present x)

abbrev pub passing : ℕ → Ex → Actual
passing k e = pass_in k None e

abbrev pub getting : ℕ → ℕ → ℕ → Var → Actual
getting k l c x = pass_out k (whole_of l c x) None

abbrev pub getting_part : ℕ → ℕ → ℕ → Var → List Step → Actual
getting_part k l c x path = pass_out k (part_of l c x path) None

abbrev pub lending : ℕ → ℕ → ℕ → Var → Actual
lending k l c x = pass_in_out k (whole_of l c x) None None

abbrev pub lending_part : ℕ → ℕ → ℕ → Var → List Step → Actual
lending_part k l c x path = pass_in_out k (part_of l c x path) None None

-- a call of the function q, whose result is an Integer
abbrev pub result_of : ℕ → ℕ → ℕ → List Actual → Ex
result_of l c q as' = at (place l c) 0 (call (place l c) q (actuals as'))
