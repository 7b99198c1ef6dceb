-- What the code computes on the way to a result.
use Rattle.std.specs.Prelude.{◌≡◌, Option, Result, Ok, Err, ℤ, FitsSigned}
use Rattle.std.specs.Int.{w128}
use Rattle.std.specs.Option.{SomeIff}
use Rattle.ada_values.specs.declared.scalars.OpFault.{OpFault}

-- the mathematical result where it has 128 bits
abbrev pub IsWhole : Result ℤ OpFault → Result (Option ℤ) OpFault → Type 0
IsWhole (Ok z) (Ok o) = SomeIff o (FitsSigned w128 z) z
IsWhole (Err e) (Err f) = f ≡ e
IsWhole _ _ = ⊥
