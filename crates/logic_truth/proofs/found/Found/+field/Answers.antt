use Rattle.std.proofs.Common.{arith}
use Rattle.logic_truth.proofs.Steps.{field_in, field_beyond}
use Rattle.logic_truth.proofs.found.Found.+field.Goals as goal

pub returns-then-k-len : goal.returns-then-k-len
returns-then-k-len t c = field_in c.args.self c.in-Record.vs c.args.k c.remove.result c.in-Record.is c.remove.ensures.item

pub returns-in-Record : goal.returns-in-Record
returns-in-Record t c = field_beyond c.args.self c.in-Record.vs c.args.k c.in-Record.is (omega arith)
