-- When a call of an outside object may answer a fault. Each object counts its own faults, up to 2 ^ 64 - 1.
use Rattle.std.specs.Prelude.{◌≡◌, ℕ, ◌+◌, ◌-◌, ◌^◌, ◌≤◌, min, Result, OnOk, OnErr, IsErrOf}
use Rattle.keeper_io.specs.declared.keeper.KeepFault.{KeepFault}
use Rattle.keeper_io.specs.declared.keeper.KeepFault.TheVariants.{Failed, Starved}

-- a count of faults has risen, or stands at its type's end
abbrev pub Rose : ℕ → ℕ → Type 0
Rose before now = min (before + 1) (2 ^ 64 - 1) ≤ now

-- The count never falls. An error comes only where it rose, and an Ok only where it stayed.
pub record HasCause {T E : Type 0} (before now : ℕ) (result : Result T E) : Type 0 where
  pub later : before ≤ now
  pub failed : OnErr result (Rose before now)
  pub kept : OnOk result (now ≡ before)

-- The same of a keeper's call: `Failed` comes only where the count rose, an Ok and `Starved` only where it stayed.
pub record HasKeepCause {T : Type 0} (before now : ℕ) (result : Result T KeepFault) : Type 0 where
  pub later : before ≤ now
  pub failed : IsErrOf result Failed → Rose before now
  pub kept : OnOk result (now ≡ before)
  pub starved : IsErrOf result Starved → now ≡ before
