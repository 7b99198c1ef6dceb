use Rattle.std.proofs.Common.{◌≡◌, take}
use Rattle.logic_terms.proofs.copy_goal.copy_symbols.Given as goal

abbrev pub invariant-loop-symbol : goal.invariant-loop-symbol
invariant-loop-symbol l = l.copy ≡ take l.symbol-index l.symbol-items
