use Rattle.std.proofs.Common.{drop}
use Rattle.term_reader.proofs.opening.read_opening.Goals as goal

pub returns-in-Ok-number_after-clause-text : goal.returns-in-Ok-number_after-clause-text
returns-in-Ok-number_after-clause-text c =
    c.in-Ok-number_after.ensures.text (drop c.args.at c.args.bytes.now) c.in-Ok.ensures.text
