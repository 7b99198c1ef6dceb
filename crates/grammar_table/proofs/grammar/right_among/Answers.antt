use Rattle.grammar_table.proofs.Steps.{right_some, right_none}
use Rattle.grammar_table.proofs.grammar.right_among.Goals as goal

pub returns-in-Some : goal.returns-in-Some
returns-in-Some c = right_some c.args.rows.now c.args.number c.in-Some.row.now c.in-Some.ensures

pub returns-in-None : goal.returns-in-None
returns-in-None c = right_none c.args.rows.now c.args.number c.in-None.ensures
