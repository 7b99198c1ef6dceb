use Rattle.grammar_table.proofs.Only.{only_answer}
use Rattle.grammar_table.proofs.reading.one_answer.Goals as goal

pub returns : goal.returns
returns c = only_answer
