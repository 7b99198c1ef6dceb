-- The limits that a form keeps.
use Rattle.std.specs.Prelude.{◌≡◌, ℕ, Bool, true, not, ◌&&◌, nat_le, List, length}
use Rattle.std.specs.List.{list_all}
use Rattle.ada_values.specs.Scalars.{integer_last}
use Rattle.first_form.specs.declared.form.FirstForm.{FirstForm}
use Rattle.first_form.specs.declared.form.Assertion.{Assertion}
use Rattle.first_form.specs.declared.form.Operand.{Operand}
use Rattle.first_form.specs.declared.form.Operand.TheVariants.{Number, Name}
use Rattle.first_form.specs.Names.{are_different, is_name, same_name}

-- a number of Integer (Ada RM 3.5.4), or a name that isn't the procedure's
abbrev pub is_operand : List ℕ → Operand → Bool
is_operand name (Number n) = nat_le n integer_last
is_operand name (Name x) = is_name x && not (same_name x name)

abbrev pub is_assertion : List ℕ → Assertion → Bool
is_assertion name a = is_operand name a.left.operand && is_operand name a.right.operand

-- one to eight names that differ
abbrev pub are_params : List (List ℕ) → Bool
are_params ps = nat_le 1 (length ps) && nat_le (length ps) 8 && list_all is_name ps && are_different ps

-- one to five hundred assertions
abbrev pub are_assertions : List ℕ → List Assertion → Bool
are_assertions name as' = nat_le 1 (length as') && nat_le (length as') 500 && list_all (is_assertion name) as'

abbrev pub is_form : FirstForm → Bool
is_form f = is_name f.name && are_params f.params && are_assertions f.name f.assertions

abbrev pub IsForm : FirstForm → Type 0
IsForm f = is_form f ≡ true
