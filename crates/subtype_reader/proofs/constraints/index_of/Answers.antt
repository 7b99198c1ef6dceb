use Rattle.subtype_reader.proofs.Ends.{two_args}
use Rattle.subtype_reader.proofs.constraints.index_of.Goals as goal

pub returns-in-len2-up : goal.returns-in-len2-up
returns-in-len2-up c = two_args c.args.args.now c.in-len2-up.len_at_least
