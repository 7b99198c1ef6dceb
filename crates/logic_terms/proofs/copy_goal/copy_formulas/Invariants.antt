use Rattle.std.proofs.Common.{◌≡◌, take}
use Rattle.logic_terms.proofs.copy_goal.copy_formulas.Given as goal

abbrev pub invariant-loop-formula : goal.invariant-loop-formula
invariant-loop-formula l = l.copy ≡ take l.formula-index l.formula-items
