use Rattle.term_reader.specs.Operators.{build}
use Rattle.term_reader.specs.Reads.{tree}
use Rattle.term_reader.proofs.Levels.{closed_as}
use Rattle.term_reader.proofs.steps.close.Goals as goal

pub returns-in-Ok-place : goal.returns-in-Ok-place
returns-in-Ok-place c = λ text whole r q f e h.
    c.in-Ok-place.ensures text whole q
    (closed_as text whole (build c.args.frame.operator) c.args.frame.parts (tree c.in-Ok.part) _ r q c.in-Ok.ensures f e h)
