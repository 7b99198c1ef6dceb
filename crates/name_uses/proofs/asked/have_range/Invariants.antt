use Rattle.std.proofs.Common.{◌≡◌, drop}
use Rattle.syntax_view.specs.View.{expr, args_of}
use Rattle.name_uses.specs.Asked.{have_range}
use Rattle.name_uses.proofs.asked.have_range.Given as goal

abbrev pub invariant-loop-arg : goal.invariant-loop-arg
invariant-loop-arg l = have_range (args_of expr (drop l.arg-index l.arg-items)) ≡ have_range (args_of expr l.arg-items)
