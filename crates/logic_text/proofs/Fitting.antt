-- Lists whose numbers fit.
use Rattle.std.proofs.Common.{◌≡◌, refl, ap₂, List, [], ◌∷◌, true, Bool, ◌&&◌}
use Rattle.logic_terms.specs.Node.{Node}
use Rattle.logic_text.specs.Answers.{are_formulas}
use Rattle.term_reader.specs.Values.{IsFormula}
use Rattle.logic_text.specs.Fits.{Every}

pub each_formula : (ns : List Node) → Every IsFormula ns → are_formulas ns ≡ true
each_formula [] e = refl
each_formula (n ∷ ns) e = ap₂ (λ (a b : Bool). a && b) e.0 (each_formula ns e.1)
