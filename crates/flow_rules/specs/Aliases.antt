-- F4 and F5: what is passed in one call (SPARK RM 6.4.2).
use Rattle.std.specs.Prelude.{ℕ, Bool, true, false, ◌&&◌, ◌||◌, ◌==◌, not, cond, List, [], ◌∷◌, ◌++◌, Option, Some, None, slice_get}
use Rattle.ada_values.specs.declared.place.Place.{Place}
use Rattle.ada_values.specs.declared.shapes.Shape.{Shape}
use Rattle.ada_values.specs.declared.shapes.Shape.TheVariants as shape
use Rattle.typed_units.specs.Syntax.{Var, param, local, global, turn, index, answer, present, Ex, at, Nd, read, component, op1, op2, convert, item, call, Path, here, to_component, to_item, Target, target, Actual, pass_in, pass_out, pass_in_out, Actuals, no_actuals, actual, Ac, invoke, Text}
use Rattle.unit_nodes.specs.Inner.{action_of}
use Rattle.unit_nodes.specs.Nodes.{Node, statement, expression, nodes_of}
use Rattle.flow_rules.specs.Base.{form_of, gathered}
use Rattle.flow_rules.specs.declared.faults.Effects.{Effects}
use Rattle.flow_rules.specs.declared.faults.FlowFault.{FlowFault}

-- ---- objects and parts of them

-- a step to a part: a record's component by its number, or an array's item, whichever it is
pub data Step : Type 0 where
  to_field : ℕ → Step
  to_some_item : Step

pub record Part : Type 0 where
  pub object : Var
  pub path : List Step

abbrev pub same_object : Var → Var → Bool
same_object (param j) (param k) = j == k
same_object (local j) (local k) = j == k
same_object (global j) (global k) = j == k
same_object (turn j) (turn k) = j == k
same_object (index j) (index k) = j == k
same_object answer answer = true
same_object _ _ = false

-- two steps lead to different components of a record
abbrev pub fields_differ : Step → Step → Bool
fields_differ (to_field j) (to_field k) = not (j == k)
fields_differ _ _ = false

-- the paths part at a record's component
abbrev pub parted : List Step → List Step → Bool
parted (x ∷ xs) (y ∷ ys) = fields_differ x y || parted xs ys
parted _ _ = false

-- both are one object or parts of it, and their paths don't part at a record's component
abbrev pub overlap : Part → Part → Bool
overlap a b = same_object a.object b.object && not (parted a.path b.path)

abbrev pub overlap_named : Option Part → Option Part → Bool
overlap_named (Some a) (Some b) = overlap a b
overlap_named _ _ = false

-- ---- actuals

abbrev pub steps_of : Path → List Step
steps_of here = []
steps_of (to_component k n rest) = to_field k ∷ steps_of rest
steps_of (to_item b c i rest) = to_some_item ∷ steps_of rest

abbrev pub target_part : Target → Part
target_part (target p v path) = record { object = v; path = steps_of path }

abbrev pub further : Option Part → Step → Option Part
further None s = None
further (Some a) s = Some (record a { path = a.path ++ s ∷ [] })

abbrev pub named_object : Var → Option Part
named_object answer = None
named_object v = Some (record { object = v; path = [] })

-- The object, or the part of one, that an expression names: an object's name, a component or an item of what is so named, or
-- a conversion or qualification of it. Another expression is a value of its own, and so are `'Old`, `'Loop_Entry` and `'Result`.
abbrev mutual
  pub named_by : Ex → Option Part
  named_by (at p s n) = form_names n

  pub form_names : Nd → Option Part
  form_names (read p present v) = named_object v
  form_names (component k a) = further (named_by a) (to_field k)
  form_names (op2 (item c) a i) = further (named_by a) to_some_item
  form_names (op1 (convert f) a) = named_by a
  form_names _ = None

-- how a call may use the object of an actual: it writes it, it may read it where it lies, which is so for arrays and records,
-- or it takes a copy (Ada RM 6.2)
pub data Use : Type 0 where
  written : Use
  shared : Use
  copied : Use

abbrev pub composite : Option Shape → Use
composite (Some (shape.Array a)) = shared
composite (Some (shape.Record ids)) = shared
composite _ = copied

-- an actual: its first token, what it names, and its use
pub record Passed : Type 0 where
  pub place : Place
  pub part : Option Part
  pub use_of : Use

abbrev pub value_passed : List Shape → Ex → Passed
value_passed shapes (at p s n) = record { place = p; part = form_names n; use_of = composite (slice_get shapes s) }

abbrev pub target_passed : Target → Passed
target_passed (target p v path) = record { place = p; part = Some (record { object = v; path = steps_of path }); use_of = written }

abbrev pub passed_as : List Shape → Actual → Passed
passed_as shapes (pass_in k f e) = value_passed shapes e
passed_as shapes (pass_out k t f) = target_passed t
passed_as shapes (pass_in_out k t f b) = target_passed t

abbrev pub all_passed : List Shape → Actuals → List Passed
all_passed shapes no_actuals = []
all_passed shapes (actual a rest) = passed_as shapes a ∷ all_passed shapes rest

-- ---- F4: no written actual overlaps another one that is written or is of array or record type

abbrev pub may_differ : Use → Use → Bool
may_differ written written = true
may_differ written shared = true
may_differ shared written = true
may_differ _ _ = false

-- two actuals that may not stand in one call
abbrev pub clash : Passed → Passed → Bool
clash a b = may_differ a.use_of b.use_of && overlap_named a.part b.part

abbrev pub clashes_with : Passed → List Passed → Bool
clashes_with a [] = false
clashes_with a (b ∷ bs) = clash a b || clashes_with a bs

abbrev pub fault : ℕ → Place → FlowFault
fault n p = record { rule = n; place = p }

-- at the first actual that may not stand beside one before it
abbrev pub overlap_faults : List Passed → List Passed → List FlowFault
overlap_faults before [] = []
overlap_faults before (a ∷ rest) = cond (clashes_with a before) (fault 4 a.place ∷ []) (overlap_faults (before ++ a ∷ []) rest)

-- ---- F5: no written actual is a global that the callee reads or writes, and none of array or record type is one that it writes

abbrev pub set_in : Option (List ℕ) → List ℕ
set_in None = []
set_in (Some gs) = gs

abbrev pub set_at : List (List ℕ) → ℕ → List ℕ
set_at sets q = set_in (slice_get sets q)

abbrev pub is_in : ℕ → List ℕ → Bool
is_in g [] = false
is_in g (x ∷ xs) = x == g || is_in g xs

abbrev pub used_by_callee : Effects → ℕ → Use → ℕ → Bool
used_by_callee e q written g = is_in g (set_at e.reads q) || is_in g (set_at e.writes q)
used_by_callee e q shared g = is_in g (set_at e.writes q)
used_by_callee e q copied g = false

abbrev pub object_used : Effects → ℕ → Use → Var → Bool
object_used e q u (global g) = used_by_callee e q u g
object_used e q u _ = false

abbrev pub part_used : Effects → ℕ → Use → Option Part → Bool
part_used e q u None = false
part_used e q u (Some a) = object_used e q u a.object

abbrev pub global_faults : Effects → ℕ → List Passed → List FlowFault
global_faults e q [] = []
global_faults e q (a ∷ rest) = cond (part_used e q a.use_of a.part) (fault 5 a.place ∷ global_faults e q rest) (global_faults e q rest)

-- ---- of a program

-- of a call of the subprogram q
abbrev pub call_faults : Text → Effects → ℕ → Actuals → List FlowFault
call_faults t e q as' = overlap_faults [] (all_passed t.shapes as') ++ global_faults e q (all_passed t.shapes as')

abbrev pub action_faults : Text → Effects → Ac → List FlowFault
action_faults t e (invoke q as') = call_faults t e q as'
action_faults t e _ = []

abbrev pub form_faults : Text → Effects → Nd → List FlowFault
form_faults t e (call p q as') = call_faults t e q as'
form_faults t e _ = []

abbrev pub node_faults : Text → Effects → Node → List FlowFault
node_faults t e (statement s) = action_faults t e (action_of s)
node_faults t e (expression a x) = form_faults t e (form_of x)
node_faults t e _ = []

-- in the order of the text: calls before those that stand in their actuals, and of one call F4 before F5
abbrev pub alias_faults : Text → Effects → List FlowFault
alias_faults t e = gathered (node_faults t e) (nodes_of t)
