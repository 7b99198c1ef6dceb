use Rattle.std.proofs.Common.{◌≡◌, drop, map}
use Rattle.name_numbers.specs.Numbers.{number_at}
use Rattle.syntax_view.specs.View.{param_of}
use Rattle.name_events.specs.Declarations.{params_onto}
use Rattle.name_events.proofs.subprograms.push_params.Given as goal

abbrev pub invariant-loop-param : goal.invariant-loop-param
invariant-loop-param l = params_onto (number_at l.names) l.found (map param_of (drop l.param-index l.param-items)) ≡ params_onto (number_at l.names) l.initial.found (map param_of l.param-items)
