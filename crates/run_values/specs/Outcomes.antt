-- What an operator gives, and how a run ends before its end.
use Rattle.std.specs.Prelude.{ℕ, ℤ, Result, Ok, Err}
use Rattle.ada_values.specs.Value.{Val, number}
use Rattle.ada_values.specs.declared.place.Place.{Place}
use Rattle.ada_values.specs.declared.scalars.OpFault.{OpFault}
use Rattle.typed_units.specs.declared.checks.CheckKind.TheVariants as kind
use Rattle.ada_semantics.specs.Outcome as res
use Rattle.ada_semantics.specs.Outcome.{Res}
use Rattle.run_values.specs.RunValues.{run_value}
use Rattle.run_values.specs.declared.checks.Ending.{Ending}
use Rattle.run_values.specs.declared.checks.Ending.TheVariants as ending
use Rattle.run_values.specs.declared.checks.Made.{Made}
use Rattle.run_values.specs.declared.checks.Made.TheVariants as makes

abbrev pub ended : {A : Type 0} → Ending → Res A
ended (ending.Fails c) = res.fails c
ended ending.Short = res.short
ended ending.Unset = res.unset

abbrev pub made : Made → ℕ → Res Val
made (makes.Is v) n = res.gives (run_value v) n
made (makes.Ends e) n = ended e

-- a result with the check of the base range
abbrev pub based : Result ℤ OpFault → Place → ℕ → Res Val
based (Ok x) p n = res.gives (number x) n
based (Err e) p n = res.fails (res.site p kind.Range)
