-- The tests of modes, by the mode that is wanted. It serves the proof alone.
use Rattle.std.specs.Prelude.{Bool}
use Rattle.typed_units.specs.declared.programs.GlobalMode.{GlobalMode}
use Rattle.typed_units.specs.declared.programs.GlobalMode.TheVariants as mode
use Rattle.flow_rules.specs.Headed.{is_in_out, is_input, is_output}

abbrev pub is_mode : GlobalMode → GlobalMode → Bool
is_mode mode.Input = is_input
is_mode mode.Output = is_output
is_mode mode.InOut = is_in_out
