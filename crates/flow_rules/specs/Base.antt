-- Which globals a subprogram names as read or written, and which subprograms it calls: in its `Pre`, its `Post`, its
-- declarative part and its statements (SPARK RM 6.1.4). The typed program has static expressions by their values, so the
-- prefix of an attribute that is static, as that of a constrained array, is no name in it.
use Rattle.std.specs.Prelude.{ℕ, List, [], ◌∷◌, ◌++◌}
use Rattle.typed_units.specs.Syntax.{Var, global, Ex, at, Nd, read, call, Target, target, Actual, pass_in, pass_out, pass_in_out, Ac, assign, invoke, Routine}
use Rattle.unit_nodes.specs.declared.node.Asked.{Asked}
use Rattle.unit_nodes.specs.declared.node.Asked.TheVariants as asked
use Rattle.unit_nodes.specs.Inner.{action_of}
use Rattle.unit_nodes.specs.Nodes.{Node, statement, passed, expression, routine_onto}

-- what all nodes give, in their order
abbrev pub gathered : {A : Type 0} → (Node → List A) → List Node → List A
gathered give [] = []
gathered give (n ∷ ns) = give n ++ gathered give ns

abbrev pub global_in : Var → List ℕ
global_in (global g) = g ∷ []
global_in _ = []

abbrev pub object_of : Target → Var
object_of (target p v path) = v

abbrev pub form_of : Ex → Nd
form_of (at p s n) = n

-- ---- reads

abbrev pub form_reads : Nd → List ℕ
form_reads (read p m v) = global_in v
form_reads _ = []

-- the name of an object as the prefix of `'First`, `'Last`, `'Length` or `'Range` is no read
abbrev pub asked_reads : Asked → Nd → List ℕ
asked_reads asked.Whole n = form_reads n
asked_reads asked.Component n = form_reads n
asked_reads asked.Bounds n = []

-- the object of an actual of mode `in out` is read, that of one of mode `out` isn't; an `in` actual has nodes of its own
abbrev pub actual_reads : Actual → List ℕ
actual_reads (pass_in k f e) = []
actual_reads (pass_out k t f) = []
actual_reads (pass_in_out k t f b) = global_in (object_of t)

abbrev pub node_reads : Node → List ℕ
node_reads (passed q a) = actual_reads a
node_reads (expression a e) = asked_reads a (form_of e)
node_reads _ = []

-- ---- writes

-- what an actual may write
abbrev pub actual_writes : Actual → List Var
actual_writes (pass_in k f e) = []
actual_writes (pass_out k t f) = object_of t ∷ []
actual_writes (pass_in_out k t f b) = object_of t ∷ []

abbrev pub action_writes : Ac → List Var
action_writes (assign t f e) = object_of t ∷ []
action_writes _ = []

-- the objects of which the whole or a part is the target of an assignment or an `out` or `in out` actual
abbrev pub objects_written : Node → List Var
objects_written (statement s) = action_writes (action_of s)
objects_written (passed q a) = actual_writes a
objects_written _ = []

abbrev pub globals_among : List Var → List ℕ
globals_among [] = []
globals_among (v ∷ vs) = global_in v ++ globals_among vs

abbrev pub node_writes : Node → List ℕ
node_writes n = globals_among (objects_written n)

-- ---- calls

abbrev pub action_calls : Ac → List ℕ
action_calls (invoke q as') = q ∷ []
action_calls _ = []

abbrev pub form_calls : Nd → List ℕ
form_calls (call p q as') = q ∷ []
form_calls _ = []

abbrev pub node_calls : Node → List ℕ
node_calls (statement s) = action_calls (action_of s)
node_calls (expression a e) = form_calls (form_of e)
node_calls _ = []

-- ---- of a subprogram

abbrev pub named_reads : Routine → List ℕ
named_reads r = gathered node_reads (routine_onto [] r)

abbrev pub named_writes : Routine → List ℕ
named_writes r = gathered node_writes (routine_onto [] r)

abbrev pub called : Routine → List ℕ
called r = gathered node_calls (routine_onto [] r)
