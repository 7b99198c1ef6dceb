-- F1 and F2: what is read before it is set, and what isn't set at an end (SPARK RM 6.1.4, 6.4.1).
use Rattle.std.specs.Prelude.{◌≡◌, ℕ, true, List, [], ◌∷◌, Some, Contains, slice_get}
use Rattle.ada_values.specs.declared.place.Place.{Place}
use Rattle.ada_values.specs.declared.scalars.Scalar.{Scalar}
use Rattle.ada_values.specs.declared.shapes.ArrayShape.{ArrayShape}
use Rattle.ada_values.specs.declared.shapes.Shape.{Shape}
use Rattle.ada_values.specs.declared.shapes.Shape.TheVariants as shape
use Rattle.typed_units.specs.declared.programs.Mode.TheVariants as mode
use Rattle.typed_units.specs.Syntax.{Var, param, local, global, present, Formal, Routine}
use Rattle.flow_rules.specs.Headed.{Headed, Heading, outputs_of, stated_at}
use Rattle.flow_rules.specs.Reads.{Part, Calls, calls_of, condition_reads}
use Rattle.flow_rules.specs.Paths.{State, unset, Outcome, goes, returns, reads_unset, Stops, Runs, ReadsUnset}
use Rattle.flow_rules.specs.Aliases.{fault}
use Rattle.flow_rules.specs.declared.faults.Effects.{Effects}
use Rattle.flow_rules.specs.declared.faults.FlowFault.{FlowFault}

-- the object, which has that subtype, must be set by the subprogram k: it is an `out` parameter or an `Output` global
pub data MustSet (p : Headed) (k : ℕ) (r : Routine) : Var → ℕ → Type 0 where
  out_parameter : (j : ℕ) (f : Formal) → slice_get r.formals j ≡ Some f → f.mode ≡ mode.Out → MustSet p k r (param j) f.subtype
  output_global : (g : ℕ) (s : ℕ) → Contains (outputs_of (stated_at p.headings k)) g → slice_get p.text.globals g ≡ Some s → MustSet p k r (global g) s

-- the object is unset on entry: it is one of these, or a local
pub data IsUnset (p : Headed) (k : ℕ) (r : Routine) : Var → ℕ → Type 0 where
  to_be_set : (v : Var) (s : ℕ) → MustSet p k r v s → IsUnset p k r v s
  of_its_own : (j : ℕ) (s : ℕ) → slice_get r.locals j ≡ Some s → IsUnset p k r (local j) s

-- the shape is that of no record
pub data NoRecord : Shape → Type 0 where
  number : (s : Scalar) → NoRecord (shape.Number s)
  truth : NoRecord shape.Truth
  array : (a : ArrayShape) → NoRecord (shape.Array a)

-- A value of the subtype has a part that is no record, with these components on the way. A record is followed component by
-- component, an array is one part.
pub data HasPart (shapes : List Shape) : ℕ → List ℕ → Type 0 where
  itself : (s : ℕ) (x : Shape) → slice_get shapes s ≡ Some x → NoRecord x → HasPart shapes s []
  inside : (s : ℕ) (ids : List ℕ) (j : ℕ) (i : ℕ) (js : List ℕ) → slice_get shapes s ≡ Some (shape.Record ids) → slice_get ids j ≡ Some i
      → HasPart shapes i js → HasPart shapes s (j ∷ js)

-- ---- paths through a subprogram

-- a path through the declarative part and the statements
pub data Passes (c : Calls) (l : Part) (r : Routine) : Outcome → Type 0 where
  in_declarations : (o : Outcome) → Runs c l r.opening unset o → Stops o → Passes c l r o
  in_statements : (s : State) (o : Outcome) → Runs c l r.opening unset (goes s) → Runs c l r.body s o → Passes c l r o

-- an end of the subprogram
pub data Ends : Outcome → State → Type 0 where
  at_last : (s : State) → Ends (goes s) s
  by_return : (s : State) → Ends (returns s) s

-- A path reads the part at a name where it is unset: in `Pre`, which is evaluated on entry, in the declarative part or the
-- statements, or in `Post`, which is evaluated at each end.
pub data ReadsAt (c : Calls) (l : Part) (r : Routine) (p : Place) : Type 0 where
  in_pre : ReadsUnset l (condition_reads c r.pre) unset p → ReadsAt c l r p
  in_body : Passes c l r (reads_unset p) → ReadsAt c l r p
  in_post : (o : Outcome) (s : State) → Passes c l r o → Ends o s → ReadsUnset l (condition_reads c r.post) s p → ReadsAt c l r p

-- on a path to an end the part is unset there
pub record EndsUnset (c : Calls) (l : Part) (r : Routine) : Type 0 where
  pub outcome : Outcome
  pub state : State
  pub path : Passes c l r outcome
  pub end : Ends outcome state
  pub is_unset : state present ≡ true

-- ---- F1: no path reads an unset local, `out` parameter or `Output` global; the place is the read name

pub record BreaksF1 (p : Headed) (e : Effects) (k : ℕ) (where' : Place) : Type 0 where
  pub routine : Routine
  pub numbered : slice_get p.text.routines k ≡ Some routine
  pub part : Part
  pub subtype : ℕ
  pub starts : IsUnset p k routine part.object subtype
  pub is_part : HasPart p.text.shapes subtype part.components
  pub path : ReadsAt (calls_of p e) part routine where'

-- ---- F2: every `out` parameter and `Output` global is set at each end; the place is the subprogram's name in its body

pub record BreaksF2 (p : Headed) (e : Effects) (k : ℕ) : Type 0 where
  pub routine : Routine
  pub numbered : slice_get p.text.routines k ≡ Some routine
  pub part : Part
  pub subtype : ℕ
  pub starts : MustSet p k routine part.object subtype
  pub is_part : HasPart p.text.shapes subtype part.components
  pub path : EndsUnset (calls_of p e) part routine

-- the faults of F1 and F2
pub data IsUnsetFault (p : Headed) (e : Effects) : FlowFault → Type 0 where
  f1 : (k : ℕ) (q : Place) → BreaksF1 p e k q → IsUnsetFault p e (fault 1 q)
  f2 : (k : ℕ) (h : Heading) → slice_get p.headings k ≡ Some h → BreaksF2 p e k → IsUnsetFault p e (fault 2 h.place)
