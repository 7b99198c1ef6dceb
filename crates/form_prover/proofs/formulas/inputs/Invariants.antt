use Rattle.std.proofs.Common.{◌≡◌, map}
use Rattle.logic_terms.specs.View.{formula}
use Rattle.form_prover.specs.Formulas.{input_nodes}
use Rattle.form_prover.proofs.formulas.inputs.Given as goal

abbrev pub invariant-loop-input : goal.invariant-loop-input
invariant-loop-input l = map formula l.assumed ≡ input_nodes l.input 0
