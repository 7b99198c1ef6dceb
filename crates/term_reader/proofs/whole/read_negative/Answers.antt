use Rattle.std.proofs.Common.{◌∙◌, drop, ◌+◌, FitsSigned, rules}
use Rattle.std.proofs.lemmas.Int.{to_z-of_z}
use Rattle.std.specs.Int.{w128}
use Rattle.term_reader.proofs.WholeNumbers.{negative_fault, negative_fits, negative_text}
use Rattle.term_reader.proofs.whole.read_negative.Goals as goal

pub returns-in-Err-clause-fault : goal.returns-in-Err-clause-fault
returns-in-Err-clause-fault c =
    negative_fault (drop c.args.at c.args.bytes.now) (drop (c.args.at + 1) c.args.bytes.now) (drop c.in-Err.to c.args.bytes.now) c.requires.sign c.in-Err.ensures.fault

pub returns-in-Ok-clause-number : goal.returns-in-Ok-clause-number
returns-in-Ok-clause-number c =
    let f : FitsSigned w128 c.negated.result = search rules in
    negative_fits c.in-Ok.number.value _ (to_z-of_z w128 c.negated.result f ∙ c.negated.ensures) c.in-Ok.ensures.number

pub returns-in-Ok-clause-text : goal.returns-in-Ok-clause-text
returns-in-Ok-clause-text c =
    let f : FitsSigned w128 c.negated.result = search rules in
    negative_text c.in-Ok.number.value _ _ _ _ (to_z-of_z w128 c.negated.result f ∙ c.negated.ensures) c.in-Ok.ensures.number.0 c.requires.sign c.in-Ok.ensures.text
