use Rattle.std.proofs.Common.{◌∙◌, ap, ℕ, List, ◌++◌, map}
use Rattle.logic_terms.specs.View.{formula}
use Rattle.logic_text.specs.Goals.{hypotheses_text}
use Rattle.logic_text.specs.Phases.{InLines}
use Rattle.term_reader.proofs.Places.{bad_at}
use Rattle.logic_text.proofs.goal_reader.read_formulas.Goals as goal

pub returns-in-Err-read_conclusion-clause-fault : goal.returns-in-Err-read_conclusion-clause-fault
returns-in-Err-read_conclusion-clause-fault c =
    bad_at InLines InLines c.args.bytes.now c.args.at c.in-Ok.read.to c.in-Err-read_conclusion.fault c.in-Ok.ensures.on c.in-Err-read_conclusion.ensures.fault

pub returns-in-Ok-read_conclusion-clause-text : goal.returns-in-Ok-read_conclusion-clause-text
returns-in-Ok-read_conclusion-clause-text c =
    c.in-Ok.ensures.text ∙ ap (λ (x : List ℕ). hypotheses_text (map formula c.in-Ok.read.hypotheses) ++ x) c.in-Ok-read_conclusion.ensures.text
