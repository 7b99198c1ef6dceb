-- What an expression, a target or a call reads and sets, for F1 and F2. Which operands are evaluated doesn't count: each is on
-- some path. An expression sets nothing, since a function writes nothing but its locals.
use Rattle.std.specs.Prelude.{ℕ, Bool, true, false, ◌&&◌, ◌==◌, cond, List, [], ◌∷◌, ◌++◌, Option, Some, None}
use Rattle.ada_values.specs.declared.place.Place.{Place}
use Rattle.typed_units.specs.Syntax.{Var, global, Moment, present, Ex, at, Nd, static, read, component, op1, op2, connect, member, call, aggregate, choose, quantified, Path, here, to_component, to_item, Target, target, Actual, pass_in, pass_out, pass_in_out, Actuals, no_actuals, actual, Arms, other, arm, Assocs, no_assocs, assoc, Way, Demand, invariant, variant, Head, forever, while, for, Ac, skip, assign, invoke, branch, case_of, loop, exit, exit_when, return, give, assert, assume}
use Rattle.flow_rules.specs.Headed.{Headed, in_outs_of, outputs_of, stated_at}
use Rattle.flow_rules.specs.Aliases.{same_object, set_at}
use Rattle.flow_rules.specs.Functions.{without}
use Rattle.flow_rules.specs.declared.faults.Effects.{Effects}

-- an object, or a part of one by the numbers of the components on the way to it
pub record Part : Type 0 where
  pub object : Var
  pub components : List ℕ

-- a name that is read: where it stands, in which state, and the part of an object that it and the components after it name
pub record Read : Type 0 where
  pub place : Place
  pub moment : Moment
  pub part : Part

-- ---- calls

-- which globals a call of a subprogram reads, and which it sets
pub record Calls : Type 0 where
  pub reads : ℕ → List ℕ
  pub sets : ℕ → List ℕ

-- a call reads the callee's `In_Out` globals and those that the callee reads and doesn't write, and sets its `Output` globals
-- (SPARK RM 6.1.4)
abbrev pub calls_of : Headed → Effects → Calls
calls_of p e = record {
  reads = λ q. in_outs_of (stated_at p.headings q) (set_at e.writes q) ++ without (set_at e.reads q) (set_at e.writes q);
  sets = λ q. outputs_of (stated_at p.headings q);
}

abbrev pub globals_read : Place → List ℕ → List Read
globals_read p [] = []
globals_read p (g ∷ gs) = record { place = p; moment = present; part = record { object = global g; components = [] } } ∷ globals_read p gs

abbrev pub globals_set : List ℕ → List Part
globals_set [] = []
globals_set (g ∷ gs) = record { object = global g; components = [] } ∷ globals_set gs

-- ---- expressions

-- the components on a path up to the first item, and whether there is one
abbrev pub components_of : Path → List ℕ
components_of here = []
components_of (to_component k n rest) = k ∷ components_of rest
components_of (to_item b c i rest) = []

abbrev pub has_item : Path → Bool
has_item here = false
has_item (to_component k n rest) = has_item rest
has_item (to_item b c i rest) = true

-- the object of a target, read up to the first array on the way
abbrev pub object_read : Target → List Read
object_read (target p v path) = record { place = p; moment = present; part = record { object = v; components = components_of path } } ∷ []

-- writing a part of an array reads the array
abbrev pub array_read : Target → List Read
array_read (target p v path) = cond (has_item path) (object_read (target p v path)) []

abbrev mutual
  pub reads : Calls → Ex → List Read
  reads c (at p s n) = form_reads c [] n

  -- the components ks of an expression
  pub part_reads : Calls → List ℕ → Ex → List Read
  part_reads c ks (at p s n) = form_reads c ks n

  pub form_reads : Calls → List ℕ → Nd → List Read
  form_reads c ks (static v) = []
  form_reads c ks (read p m v) = record { place = p; moment = m; part = record { object = v; components = ks } } ∷ []
  form_reads c ks (component k a) = part_reads c (k ∷ ks) a
  form_reads c ks (op1 o a) = reads c a
  form_reads c ks (op2 o a b) = reads c a ++ reads c b
  form_reads c ks (connect o a b) = reads c a ++ reads c b
  form_reads c ks (member is a l h) = reads c a ++ reads c l ++ reads c h
  form_reads c ks (call p q as') = actuals_reads c as' ++ globals_read p (c.reads q)
  form_reads c ks (aggregate o b es) = assocs_reads c es
  form_reads c ks (choose es) = arms_reads c es
  form_reads c ks (quantified q k l h e) = reads c l ++ reads c h ++ reads c e

  -- the indexes on a path
  pub indexes_reads : Calls → Path → List Read
  indexes_reads c here = []
  indexes_reads c (to_component k n rest) = indexes_reads c rest
  indexes_reads c (to_item b o i rest) = reads c i ++ indexes_reads c rest

  pub target_reads : Calls → Target → List Read
  target_reads c (target p v path) = indexes_reads c path ++ array_read (target p v path)

  pub actual_reads : Calls → Actual → List Read
  actual_reads c (pass_in k f e) = reads c e
  actual_reads c (pass_out k t f) = target_reads c t
  actual_reads c (pass_in_out k t f b) = target_reads c t ++ object_read t

  pub actuals_reads : Calls → Actuals → List Read
  actuals_reads c no_actuals = []
  actuals_reads c (actual a rest) = actual_reads c a ++ actuals_reads c rest

  pub arms_reads : Calls → Arms → List Read
  arms_reads c (other e) = reads c e
  arms_reads c (arm e g rest) = reads c e ++ reads c g ++ arms_reads c rest

  pub assocs_reads : Calls → Assocs → List Read
  assocs_reads c no_assocs = []
  assocs_reads c (assoc bs o cs e rest) = reads c e ++ assocs_reads c rest

abbrev pub condition_reads : Calls → Option Ex → List Read
condition_reads c None = []
condition_reads c (Some e) = reads c e

-- ---- statements

abbrev pub ways_reads : Calls → List Way → List Read
ways_reads c [] = []
ways_reads c (w ∷ ws) = reads c w.value ++ ways_reads c ws

-- the invariants and the variant of a loop
abbrev pub demands_reads : Calls → List Demand → List Read
demands_reads c [] = []
demands_reads c (invariant e ∷ ds) = reads c e ++ demands_reads c ds
demands_reads c (variant ws ∷ ds) = ways_reads c ws ++ demands_reads c ds

-- what a loop reads before its first turn, and what before each (Ada RM 5.5)
abbrev pub bounds_reads : Calls → Head → List Read
bounds_reads c forever = []
bounds_reads c (while e) = []
bounds_reads c (for r k l h) = reads c l ++ reads c h

abbrev pub test_reads : Calls → Head → List Read
test_reads c forever = []
test_reads c (while e) = reads c e
test_reads c (for r k l h) = []

-- What a statement reads at once, when it begins. The conditions of an `if` are read one after the other, and what stands in a
-- loop is read in its turns.
abbrev pub action_reads : Calls → Place → Ac → List Read
action_reads c p skip = []
action_reads c p (assign t f e) = target_reads c t ++ reads c e
action_reads c p (invoke q as') = actuals_reads c as' ++ globals_read p (c.reads q)
action_reads c p (branch bs) = []
action_reads c p (case_of e as') = reads c e
action_reads c p (loop k h before group after) = bounds_reads c h
action_reads c p exit = []
action_reads c p (exit_when e) = reads c e
action_reads c p return = []
action_reads c p (give f e) = reads c e
action_reads c p (assert e) = reads c e
action_reads c p (assume e) = reads c e

-- what is set by a target: nothing where a part of an array is written
abbrev pub target_sets : Target → List Part
target_sets (target p v path) = cond (has_item path) [] (record { object = v; components = components_of path } ∷ [])

abbrev pub actual_sets : Actual → List Part
actual_sets (pass_in k f e) = []
actual_sets (pass_out k t f) = target_sets t
actual_sets (pass_in_out k t f b) = target_sets t

abbrev pub actuals_sets : Actuals → List Part
actuals_sets no_actuals = []
actuals_sets (actual a rest) = actual_sets a ++ actuals_sets rest

-- what a procedure call sets
abbrev pub call_sets : Calls → ℕ → Actuals → List Part
call_sets c q as' = actuals_sets as' ++ globals_set (c.sets q)

-- ---- parts

abbrev pub begins : List ℕ → List ℕ → Bool
begins [] ks = true
begins (j ∷ js) (k ∷ ks) = (j == k) && begins js ks
begins (j ∷ js) [] = false

-- the one is the other or has it as a part
abbrev pub has_part : Part → Part → Bool
has_part whole l = same_object whole.object l.object && begins whole.components l.components
