use Rattle.name_numbers.proofs.Tables.{past, within}
use Rattle.name_numbers.proofs.words.word_at.Goals as goal

pub returns-then-at-table : goal.returns-then-at-table
returns-then-at-table c = within c.args.table.now c.args.at _ c.if-at-table.true

pub returns-else-at-table : goal.returns-else-at-table
returns-else-at-table c = past c.args.table.now c.args.at c.if-at-table.false
