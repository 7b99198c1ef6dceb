-- What a well-typed program is: all numbers are in range, and each node's types are as the rules of types demand.
use Rattle.std.specs.Prelude.{◌≡◌, ℕ, ◌<◌, true, false, List, [], ◌∷◌, length, Option, Some, None}
use Rattle.ada_values.specs.Shapes.{in_shape}
use Rattle.ada_values.specs.Value.{value}
use Rattle.ada_values.specs.declared.values.Value.{Value}
use Rattle.typed_units.specs.View.{routine, stmts}
use Rattle.typed_units.specs.declared.programs.Contract.{Contract}
use Rattle.typed_units.specs.declared.programs.Global.{Global}
use Rattle.typed_units.specs.declared.programs.GlobalAspect.{GlobalAspect}
use Rattle.typed_units.specs.declared.programs.GlobalItem.{GlobalItem}
use Rattle.typed_units.specs.declared.programs.Local.{Local}
use Rattle.typed_units.specs.declared.programs.Mode.{Mode}
use Rattle.typed_units.specs.declared.programs.Mode.TheVariants as mode
use Rattle.typed_units.specs.declared.programs.Param.{Param}
use Rattle.typed_units.specs.declared.programs.Program.{Program}
use Rattle.typed_units.specs.declared.programs.Sub.{Sub}
use Rattle.program_typing.specs.Ends.{ends}
use Rattle.program_typing.specs.Expressions.{Frame, HasSubtype, Moment, elsewhere, in_post, is_among}
use Rattle.program_typing.specs.Numbers.{routine_counted}
use Rattle.program_typing.specs.Standard.{BeginsWithStandard, boolean}
use Rattle.program_typing.specs.Statements.{AllDo, Opens}
use Rattle.program_typing.specs.Subtypes.{IsConstrained, SoundSubtype}

pub data Each {A : Type 0} (P : A → Type 0) : List A → Type 0 where
  none : Each P []
  one_more : (x : A) (xs : List A) → P x → Each P xs → Each P (x ∷ xs)

-- a number of a subtype
abbrev pub IsSubtype : Program → ℕ → Type 0
IsSubtype p k = k < length p.shapes

-- an object has a constrained subtype -- L27
pub record IsObject (p : Program) (k : ℕ) : Type 0 where
  pub there : IsSubtype p k
  pub constrained : IsConstrained p k

-- an initial value lies in its subtype -- L27
pub data Begins (p : Program) (k : ℕ) : Option Value → Type 0 where
  without_value : Begins p k None
  with_value : (v : Value) → in_shape p.shapes k (value v) ≡ true → Begins p k (Some v)

pub record WellTypedGlobal (p : Program) (g : Global) : Type 0 where
  pub object : IsObject p g.subtype
  pub initial : Begins p g.subtype g.initial

-- no `out` parameter is of an unconstrained array type -- L27
pub data IsPassed (p : Program) (k : ℕ) : Mode → Type 0 where
  by_out : IsConstrained p k → IsPassed p k mode.Out
  by_in : IsPassed p k mode.In
  by_in_out : IsPassed p k mode.InOut

pub record WellTypedParam (p : Program) (x : Param) : Type 0 where
  pub there : IsSubtype p x.subtype
  pub passed : IsPassed p x.subtype x.mode

-- a function's statements end in a return -- L13
pub data Returns (p : Program) (s : Sub) : Option ℕ → Type 0 where
  no_result : Returns p s None
  a_result : (k : ℕ) → IsSubtype p k → ends (stmts p.shapes s.body) ≡ true → Returns p s (Some k)

-- each global once, by its number -- L30
pub data Lists (p : Program) : List ℕ → List GlobalItem → Type 0 where
  no_globals : (before : List ℕ) → Lists p before []
  one_global : (before : List ℕ) (x : GlobalItem) (xs : List GlobalItem) → x.global < length p.globals → is_among x.global before ≡ false → Lists p (x.global ∷ before) xs → Lists p before (x ∷ xs)

pub data ListsGlobals (p : Program) : Option GlobalAspect → Type 0 where
  not_stated : ListsGlobals p None
  stated : (a : GlobalAspect) → Lists p [] a.items → ListsGlobals p (Some a)

-- where the text of a subprogram stands that may name these locals
abbrev pub frame : Program → Sub → List Local → Moment → Frame
frame p s ls m = record { program = p; params = s.params; locals = ls; result = s.result; turns = []; indexes = []; moment = m }

-- a contract is Boolean -- L28
pub data Contracts (f : Frame) : Option Contract → Type 0 where
  no_contract : Contracts f None
  a_contract : (c : Contract) → HasSubtype f c.condition boolean → Contracts f (Some c)

pub record WellTypedSub (p : Program) (s : Sub) : Type 0 where
  pub params : Each (WellTypedParam p) s.params
  pub result : Returns p s s.result
  pub pre : Contracts (frame p s [] elsewhere) s.pre
  pub post : Contracts (frame p s [] in_post) s.post
  pub global : ListsGlobals p s.global
  pub locals : Each (λ x. IsObject p x.subtype) s.locals
  pub opening : Opens (frame p s s.locals elsewhere) 0 s.opening
  pub body : AllDo (frame p s s.locals elsewhere) None s.body
  pub counted : routine_counted s.turns s.indexes s.loops (routine p.shapes s) ≡ true

pub record WellTyped (p : Program) : Type 0 where
  pub standard : BeginsWithStandard p
  pub as_many : length p.types ≡ length p.shapes
  pub subtypes : (k : ℕ) → IsSubtype p k → SoundSubtype p k
  pub globals : Each (WellTypedGlobal p) p.globals
  pub subs : Each (WellTypedSub p) p.subs
