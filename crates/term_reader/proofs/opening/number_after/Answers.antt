use Rattle.term_reader.specs.Operators.{build}
use Rattle.term_reader.proofs.Openings.{index_fault, numbered_opening, numbered_build}
use Rattle.term_reader.proofs.opening.number_after.Goals as goal

pub returns-in-Err-clause-fault : goal.returns-in-Err-clause-fault
returns-in-Err-clause-fault c =
    λ s e. index_fault c.args.side (build c.args.chosen.operator) s _ _ c.requires.side c.requires.numbered e c.in-Err.ensures.fault

pub returns-in-Ok-clause-text : goal.returns-in-Ok-clause-text
returns-in-Ok-clause-text c =
    λ s e. numbered_opening (build c.args.chosen.operator) (build c.with_number.result) c.in-Ok.number.value s _ _ c.requires.numbered c.with_number.ensures e c.in-Ok.ensures.text

pub returns-in-Ok-clause-build : goal.returns-in-Ok-clause-build
returns-in-Ok-clause-build c =
    numbered_build c.args.side (build c.args.chosen.operator) (build c.with_number.result) c.in-Ok.number.value c.requires.side c.requires.numbered c.with_number.ensures c.in-Ok.ensures.number.1
