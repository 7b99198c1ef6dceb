use Rattle.std.proofs.Common.{List, map, subst}
use Rattle.term_reader.specs.Operators.{build}
use Rattle.term_reader.specs.Reads.{tree}
use Rattle.term_reader.specs.Trees.{Level, IsAfter}
use Rattle.term_reader.proofs.Levels.{placed_in}
use Rattle.term_reader.proofs.Paths.{part_whole}
use Rattle.term_reader.proofs.steps.place.Goals as goal

pub returns-in-None : goal.returns-in-None
returns-in-None c = λ text whole r h.
    part_whole text whole (tree c.args.part) r (subst (λ (ls : List Level). IsAfter text whole (tree c.args.part) ls r) c.in-None.ensures h)

pub returns-in-Ok : goal.returns-in-Ok
returns-in-Ok c = λ text whole r h.
    placed_in text whole (tree c.args.part) (build c.in-Some.frame.operator) (map tree c.in-Some.frame.parts) _ _ _ r c.in-Some.ensures c.in-Ok.ensures h
