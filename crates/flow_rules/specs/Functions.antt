-- F3, what functions write, and F6, stated `Global`s.
use Rattle.std.specs.Prelude.{ℕ, suc, Bool, true, false, ◌&&◌, ◌||◌, not, cond, List, [], ◌∷◌, ◌++◌, Option, Some, None, is_some}
use Rattle.ada_values.specs.declared.place.Place.{Place}
use Rattle.typed_units.specs.declared.programs.GlobalAspect.{GlobalAspect}
use Rattle.typed_units.specs.declared.programs.GlobalItem.{GlobalItem}
use Rattle.typed_units.specs.Syntax.{Var, local, Ex, at, St, st, Ac, assign, invoke, Actuals, no_actuals, actual, Routine}
use Rattle.unit_nodes.specs.declared.node.Asked.TheVariants as asked
use Rattle.unit_nodes.specs.Inner.{action_of, own_parts}
use Rattle.unit_nodes.specs.Nodes.{Node, pre, post, statement, onto, routine_onto}
use Rattle.flow_rules.specs.Base.{action_writes, actual_writes, gathered, objects_written}
use Rattle.flow_rules.specs.Headed.{Heading, Headed, is_input, is_output, is_in_out, listed}
use Rattle.flow_rules.specs.Aliases.{fault, is_in, set_at}
use Rattle.flow_rules.specs.declared.faults.Effects.{Effects}
use Rattle.flow_rules.specs.declared.faults.FlowFault.{FlowFault}

-- ---- F3: a function writes nothing but its locals (SPARK RM 6.1)

abbrev pub is_local : Var → Bool
is_local (local k) = true
is_local _ = false

abbrev pub any_other : List Var → Bool
any_other [] = false
any_other (v ∷ vs) = not (is_local v) || any_other vs

abbrev pub actuals_write : Actuals → List Var
actuals_write no_actuals = []
actuals_write (actual a rest) = actual_writes a ++ actuals_write rest

-- the nodes of expressions
abbrev pub each_onto : List Node → List Ex → List Node
each_onto xs [] = xs
each_onto xs (e ∷ es) = each_onto (onto asked.Whole xs e) es

-- what expressions write: what they pass to functions for an `out` or `in out` parameter
abbrev pub expressions_write : List Ex → List Var
expressions_write es = gathered objects_written (each_onto [] es)

abbrev pub any_global : List ℕ → Bool
any_global [] = false
any_global (g ∷ gs) = true

-- an assignment to another object, or a call of a procedure that is passed another or that writes a global
abbrev pub action_breaks : Effects → Ac → Bool
action_breaks e (assign t f x) = any_other (action_writes (assign t f x))
action_breaks e (invoke q as') = any_other (actuals_write as') || any_global (set_at e.writes q)
action_breaks e _ = false

-- a statement that writes anything but locals, itself or in its own expressions; those of the statements in it are theirs
abbrev pub statement_breaks : Effects → St → Bool
statement_breaks e s = action_breaks e (action_of s) || any_other (expressions_write (own_parts (action_of s)))

abbrev pub statement_place : St → Place
statement_place (st p a) = p

abbrev pub statement_fault : Effects → St → List FlowFault
statement_fault e s = cond (statement_breaks e s) (fault 3 (statement_place s) ∷ []) []

abbrev pub first_place : Ex → Place
first_place (at p s n) = p

-- a contract has no statement, so the first token of its condition is the place
abbrev pub contract_fault : Ex → List FlowFault
contract_fault x = cond (any_other (expressions_write (x ∷ []))) (fault 3 (first_place x) ∷ []) []

abbrev pub writing_faults : Effects → Node → List FlowFault
writing_faults e (pre x) = contract_fault x
writing_faults e (post x) = contract_fault x
writing_faults e (statement s) = statement_fault e s
writing_faults e _ = []

abbrev pub function_writes : Effects → Routine → List FlowFault
function_writes e r = cond (is_some r.result) (gathered (writing_faults e) (routine_onto [] r)) []

-- ---- F6: `Output` and `In_Out` together are the written globals, `Input` those that are read and not written (SPARK RM 6.1.4)

abbrev pub all_in : List ℕ → List ℕ → Bool
all_in [] ys = true
all_in (x ∷ xs) ys = is_in x ys && all_in xs ys

abbrev pub same_set : List ℕ → List ℕ → Bool
same_set xs ys = all_in xs ys && all_in ys xs

abbrev pub without : List ℕ → List ℕ → List ℕ
without [] ys = []
without (x ∷ xs) ys = cond (is_in x ys) (without xs ys) (x ∷ without xs ys)

abbrev pub fits : List GlobalItem → List ℕ → List ℕ → Bool
fits items read written =
    same_set (listed is_output items ++ listed is_in_out items) written && same_set (listed is_input items) (without read written)

abbrev pub stated_fault : Option GlobalAspect → List ℕ → List ℕ → List FlowFault
stated_fault None read written = []
stated_fault (Some a) read written = cond (fits a.items read written) [] (fault 6 a.place ∷ [])

-- ---- of a program

-- of the subprograms from the number k on, with their headings
abbrev pub faults_from : Effects → ℕ → List Heading → List Routine → List FlowFault
faults_from e k (h ∷ hs) (r ∷ rs) = stated_fault h.stated (set_at e.reads k) (set_at e.writes k) ++ function_writes e r ++ faults_from e (suc k) hs rs
faults_from e k _ _ = []

-- in the order of the subprograms, of each F6 and then F3 in the order of its text
abbrev pub function_faults : Headed → Effects → List FlowFault
function_faults p e = faults_from e 0 p.headings p.text.routines
