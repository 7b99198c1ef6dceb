use Rattle.std.proofs.Common.{◌∙◌, List, ap}
use Rattle.grammar_table.specs.declared.productions.Head.{Head}
use Rattle.grammar_table.specs.Choices.{first_from, first_of}
use Rattle.grammar_table.proofs.grammar.spark_grammar.Goals as goal

pub invariant_of-result : goal.invariant_of-result
unfolding first_of
invariant_of-result c = λ at h. c.first_rows.ensures at h ∙ ap (λ (hs : List Head). first_from at 0 hs) c.rows.ensures.heads
