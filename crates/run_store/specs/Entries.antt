-- The variables at the entries of loops.
use Rattle.std.specs.Prelude.{ℕ, zero, suc, Option, Some, None, List, [], ◌∷◌}
use Rattle.run_store.specs.declared.variables.RunVars.{RunVars}

-- by the loop's number; those at the start, where it was not entered
abbrev pub entry_of : List (Option RunVars) → RunVars → ℕ → RunVars
entry_of [] start k = start
entry_of (None ∷ es) start zero = start
entry_of (Some vars ∷ es) start zero = vars
entry_of (e ∷ es) start (suc k) = entry_of es start k
