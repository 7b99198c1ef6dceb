-- One more variable in reach.
use Rattle.std.proofs.Common.{◌≡◌, sym, ◌∙◌, ap, List, [], ◌∷◌, Bor}
use Rattle.std.specs.Prelude.{ℤ}
use Rattle.logic_terms.specs.Value.{Value, number}
use Rattle.logic_truth.specs.Found.{variables, variables_step}
use Rattle.logic_truth.specs.declared.found.Variables.{Variables}
use Rattle.logic_truth.specs.declared.found.Variables.TheVariants as v
use Rattle.logic_truth.specs.declared.found.Variables.TheOpen as open_
use Rattle.logic_truth.specs.declared.found.Variables.TheFolds.{fold-roll-Variables}

pub variables-over : (n : ℤ) (e : Bor Variables) → variables (v.Over n e) ≡ number n ∷ variables e.now
variables-over n e = ap variables (sym (v.rolls-Over n e)) ∙ fold-roll-Variables (List Value) variables_step (open_.Over n e)

pub variables-nothing : variables v.Nothing ≡ []
variables-nothing = ap variables (sym v.rolls-Nothing) ∙ fold-roll-Variables (List Value) variables_step open_.Nothing
