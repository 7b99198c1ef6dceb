-- Sample calls for F4 and F5.
use Rattle.std.specs.Prelude.{ℕ, [], ◌∷◌, List, None}
use Rattle.typed_units.specs.Syntax.{Ex, Var, op1, convert, component, Actual, at, Text}
use Rattle.ada_semantics.specs.Cases.{Step, call_of, num, place, procedure_of}
use Rattle.ada_semantics.specs.Cases.Parts.{of_row}
use Rattle.flow_rules.specs.declared.faults.FlowFault.{FlowFault}
use Rattle.flow_rules.specs.Aliases.{alias_faults}
use Rattle.flow_rules.specs.Cases.{effects, name_as, pair_type, row_type, text}

-- `Two (X, Y);` in line 9, where both are actuals of a procedure Two that reads the globals `read` and writes `written`
abbrev pub calling : List Actual → Text
calling as' = text (0 ∷ row_type ∷ []) (procedure_of [] [] ∷ procedure_of [] (call_of 9 7 0 as' ∷ []) ∷ [])

abbrev pub faults_of : List Actual → List ℕ → List ℕ → List FlowFault
faults_of as' read written = alias_faults (calling as') (effects (read ∷ [] ∷ []) (written ∷ [] ∷ []))

-- the object X at the first place, and another name at the second
abbrev pub first_at : ℕ
first_at = 12

abbrev pub second_at : ℕ
second_at = 20

-- an item of a row whose index is a number
abbrev pub item_number : ℕ → ℕ → Step
item_number c i = of_row (num 9 c i)

-- `P (X)`, a qualification or conversion of a name
abbrev pub converted : ℕ → ℕ → Ex → Ex
converted s c e = at (place 9 c) s (op1 (convert None) e)

-- the component k of a name of a record
abbrev pub component_in : ℕ → ℕ → ℕ → Var → Ex
component_in s c k x = at (place 9 c) s (component k (name_as pair_type 9 c x))
