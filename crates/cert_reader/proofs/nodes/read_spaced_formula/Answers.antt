use Rattle.logic_terms.specs.View.{formula}
use Rattle.logic_terms.specs.Text.{node_text}
use Rattle.cert_reader.proofs.Leaves.{formula_space, formula_bad, formula_on, spaced_is}
use Rattle.cert_reader.proofs.nodes.read_spaced_formula.Goals as goal

pub returns-in-Err-clause-fault : goal.returns-in-Err-clause-fault
returns-in-Err-clause-fault c =
    λ p. formula_space p c.args.bytes.now c.args.at c.in-Err.to c.in-Err.ensures.place c.in-Err.ensures.fault

pub returns-in-Err-read_formula-clause-fault : goal.returns-in-Err-read_formula-clause-fault
returns-in-Err-read_formula-clause-fault c =
    λ p. formula_bad p c.args.bytes.now c.args.at c.in-Ok.from c.in-Err-read_formula.fault c.in-Ok.ensures.text c.in-Err-read_formula.ensures.fault

pub returns-in-Ok-read_formula-clause-text : goal.returns-in-Ok-read_formula-clause-text
returns-in-Ok-read_formula-clause-text c =
    spaced_is _ _ (node_text (formula c.in-Ok-read_formula.read.formula)) _ c.in-Ok.ensures.text c.in-Ok-read_formula.ensures.ok.text

pub returns-in-Ok-read_formula-clause-on : goal.returns-in-Ok-read_formula-clause-on
returns-in-Ok-read_formula-clause-on c =
    λ p. formula_on p (formula c.in-Ok-read_formula.read.formula) c.args.bytes.now c.args.at c.in-Ok.from c.in-Ok-read_formula.read.to c.in-Ok.ensures.text c.in-Ok-read_formula.ensures.ok
