use Rattle.std.proofs.Common.{◌≡◌, drop}
use Rattle.syntax_view.specs.View.{args_of, expr}
use Rattle.statement_rules.specs.Arounds.{around_of}
use Rattle.statement_typing.specs.Pragmas.{ways_onto}
use Rattle.statement_typing.specs.Statements.{in_pragma}
use Rattle.statement_reader.proofs.pragmas.ways_onto.Given as goal

abbrev pub invariant-loop-arg : goal.invariant-loop-arg
invariant-loop-arg l = ways_onto (around_of l.around).word (in_pragma (around_of l.around)) l.all (args_of expr (drop l.arg-index l.args)) ≡ ways_onto (around_of l.around).word (in_pragma (around_of l.around)) l.initial.all (args_of expr l.args)
