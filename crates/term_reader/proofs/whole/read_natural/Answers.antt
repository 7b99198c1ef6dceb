use Rattle.std.proofs.Common.{◌∙◌, drop, FitsSigned, rules}
use Rattle.std.proofs.lemmas.Int.{to_z-of_z}
use Rattle.std.specs.Int.{w128}
use Rattle.term_reader.proofs.WholeNumbers.{natural_fault, natural_fits, natural_text}
use Rattle.term_reader.proofs.whole.read_natural.Goals as goal

pub returns-in-Err-clause-fault : goal.returns-in-Err-clause-fault
returns-in-Err-clause-fault c =
    natural_fault (drop c.args.at c.args.bytes.now) (drop c.in-Err.to c.args.bytes.now) c.requires.sign c.in-Err.ensures.fault

pub returns-in-Ok-clause-number : goal.returns-in-Ok-clause-number
returns-in-Ok-clause-number c =
    let f : FitsSigned w128 c.with_sign.result = search rules in
    natural_fits c.in-Ok.number.value _ (to_z-of_z w128 c.with_sign.result f ∙ c.with_sign.ensures) c.in-Ok.ensures.number

pub returns-in-Ok-clause-text : goal.returns-in-Ok-clause-text
returns-in-Ok-clause-text c =
    let f : FitsSigned w128 c.with_sign.result = search rules in
    natural_text c.in-Ok.number.value _ _ _ (to_z-of_z w128 c.with_sign.result f ∙ c.with_sign.ensures) c.in-Ok.ensures.text
