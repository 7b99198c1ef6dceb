use Rattle.std.proofs.Common.{sym}
use Rattle.std.proofs.lemmas.List.{get_or-map}
use Rattle.term_reader.specs.Trees.{an_array}
use Rattle.term_reader.specs.Operators.{build}
use Rattle.term_reader.proofs.words.operator_at.Goals as goal

pub returns : goal.returns
returns c = sym (get_or-map (λ w. build w.1) c.args.table.now c.args.place _ an_array c.requires)
