-- No two terms, and no two formulas, are the same node.
use Rattle.std.specs.Prelude.{◌≡◌}
use Rattle.logic_terms.specs.View.{term, formula}
use Rattle.logic_terms.specs.declared.syntax.Term.{Term}
use Rattle.logic_terms.specs.declared.syntax.Formula.{Formula}

abbrev pub TermLaw : Type 0
TermLaw = (a b : Term) → term a ≡ term b → a ≡ b

abbrev pub FormulaLaw : Type 0
FormulaLaw = (a b : Formula) → formula a ≡ formula b → a ≡ b
