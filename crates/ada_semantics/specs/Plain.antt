-- Calls, and the plain run of a subprogram.
use Rattle.std.specs.Prelude.{ℕ, zero, suc, Bool, true, false, ◌&&◌, Option, Some, None, List, [], ◌∷◌, map}
use Rattle.ada_values.specs.Value.{Val}
use Rattle.ada_values.specs.Shapes.{in_shape}
use Rattle.ada_values.specs.declared.shapes.Shape.{Shape}
use Rattle.typed_units.specs.declared.checks.CheckKind.TheVariants as kind
use Rattle.typed_units.specs.declared.checks.SiteKey.{SiteKey}
use Rattle.typed_units.specs.declared.programs.Mode.{Mode}
use Rattle.typed_units.specs.declared.programs.Mode.TheVariants as mode
use Rattle.typed_units.specs.Syntax.{param, global, answer, Ex, Formal, Routine, Text}
use Rattle.ada_semantics.specs.Outcome as res
use Rattle.ada_semantics.specs.Outcome.{Res, bind, pick, check}
use Rattle.ada_semantics.specs.Store.{empty, full_if, whole, Store, Frame, begin, nth}
use Rattle.ada_semantics.specs.Values.{Calls}
use Rattle.ada_semantics.specs.Running.{Stop, goes, leaves, returns, next, run_of, holds_at, truth_at}

-- ---- calls (Ada RM 6.4, 6.1.1)

-- `Pre` where there is one, which is else True
abbrev pub condition : Calls → Option Ex → Frame → ℕ → Res Bool
condition calls None f n = res.gives true n
condition calls (Some e) f n = truth_at calls e f n

-- `Post`, with its check, and the variables that the call leaves
abbrev pub finished : Calls → Option Ex → Frame → ℕ → Res (Option Store)
finished calls None f n = res.gives (Some f.state) n
finished calls (Some e) f n = holds_at calls kind.Post e f n (λ m. res.gives (Some f.state) m)

-- where the body came to its end or to a `return`
abbrev pub ended : Calls → Option Ex → Stop → ℕ → Res (Option Store)
ended calls post (goes f) n = finished calls post f n
ended calls post (returns f) n = finished calls post f n
ended calls post (leaves f) n = res.unset

-- `Pre`, the initial values, the body, `Post`, where the calls inside are known
abbrev pub one_call : Calls → Routine → Store → ℕ → Res (Option Store)
one_call calls q s n =
    bind (condition calls q.pre (begin s) n) (λ b m.
    pick b (bind (bind (run_of calls q.opening (begin s) m) (next (run_of calls q.body))) (ended calls q.post)) (res.gives None m))

abbrev pub routine_at : List Routine → ℕ → Option Routine
routine_at [] q = None
routine_at (r ∷ rs) zero = Some r
routine_at (r ∷ rs) (suc q) = routine_at rs q

abbrev pub call_of : Calls → Option Routine → Store → ℕ → Res (Option Store)
call_of calls None s n = res.unset
call_of calls (Some r) s n = one_call calls r s n

-- calls that are at most so many deep
abbrev pub calls_within : ℕ → Text → Calls
calls_within zero p q s n = res.short
calls_within (suc depth) p q s n = call_of (calls_within depth p) (routine_at p.routines q) s n

-- ---- the plain run of a subprogram by itself

abbrev pub in_mode : Mode → Bool
in_mode mode.In = true
in_mode mode.Out = false
in_mode mode.InOut = true

-- the first of the values that are left, and the others
abbrev pub first_of : List Val → Option Val
first_of [] = None
first_of (v ∷ vs) = Some v

abbrev pub rest_of : List Val → List Val
rest_of [] = []
rest_of (v ∷ vs) = vs

-- the parameters at the start of a run, which has a value for each but the `out` parameters, in order
abbrev pub given_params : List Formal → List Val → List (Option Val)
given_params [] vs = []
given_params (p ∷ ps) vs = pick (in_mode p.mode) (first_of vs) None ∷ given_params ps (pick (in_mode p.mode) (rest_of vs) vs)

abbrev pub started : List (Option Val) → List (Option Val) → Store
started params globals (param k) = full_if (nth params k)
started params globals (global k) = full_if (nth globals k)
started params globals _ = empty

-- what a run leaves: a slot for each parameter and each global, and the result of a function
pub record End : Type 0 where
  pub params : List (Option Val)
  pub globals : List (Option Val)
  pub returned : Option Val

-- A run comes to its end, fails at a check, spends its budget, or isn't one, because `Pre` is False at its start. The
-- last comes in no accepted program: it reads what was never set.
pub data Plain : Type 0 where
  ends : End → Plain
  fails : SiteKey → Plain
  short : Plain
  not_a_start : Plain
  reads_unset : Plain

abbrev pub globals_of : List ℕ → ℕ → Store → List (Option Val)
globals_of [] k s = []
globals_of (g ∷ gs) k s = whole (s (global k)) ∷ globals_of gs (suc k) s

abbrev pub params_of : List Formal → ℕ → Store → List (Option Val)
params_of [] k s = []
params_of (p ∷ ps) k s = whole (s (param k)) ∷ params_of ps (suc k) s

abbrev pub end_of : Text → Routine → Store → End
end_of p r s = record { params = params_of r.formals 0 s; globals = globals_of p.globals 0 s; returned = whole (s answer) }

abbrev pub plain_of : Text → Routine → Res (Option Store) → Plain
plain_of p r (res.gives None n) = not_a_start
plain_of p r (res.gives (Some s) n) = ends (end_of p r s)
plain_of p r (res.fails c) = fails c
plain_of p r res.short = short
plain_of p r res.unset = reads_unset

abbrev pub plain_run : Text → Option Routine → List Val → List Val → ℕ → Plain
plain_run p None params globals n = reads_unset
plain_run p (Some r) params globals n =
    plain_of p r (one_call (calls_within n p) r (started (given_params r.formals params) (map Some globals)) n)

-- The plain run of a subprogram, from values of its `in` and `in out` parameters and of all globals. A call takes a
-- unit, so with n units no more than n calls lie within one another.
abbrev pub plain : Text → ℕ → List Val → List Val → ℕ → Plain
plain p q params globals n = plain_run p (routine_at p.routines q) params globals n

-- ---- inputs

abbrev pub param_fits : List Shape → Formal → Option Val → Bool
param_fits shapes p None = false
param_fits shapes p (Some v) = in_shape shapes p.subtype v

-- the parameters of a run: a value in its subtype for each but the `out` parameters, in order
abbrev pub params_fit : List Shape → List Formal → List Val → Bool
params_fit shapes [] [] = true
params_fit shapes [] (v ∷ vs) = false
params_fit shapes (p ∷ ps) vs =
    pick (in_mode p.mode) (param_fits shapes p (first_of vs) && params_fit shapes ps (rest_of vs)) (params_fit shapes ps vs)

abbrev pub globals_fit : List Shape → List ℕ → List Val → Bool
globals_fit shapes [] [] = true
globals_fit shapes (g ∷ gs) (v ∷ vs) = in_shape shapes g v && globals_fit shapes gs vs
globals_fit shapes _ _ = false

-- the inputs are in their shapes
abbrev pub inputs_fit : Text → Routine → List Val → List Val → Bool
inputs_fit p r params globals = params_fit p.shapes r.formals params && globals_fit p.shapes p.globals globals
