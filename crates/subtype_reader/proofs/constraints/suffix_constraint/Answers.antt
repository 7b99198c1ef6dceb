use Rattle.subtype_reader.proofs.Ends.{two_suffixes}
use Rattle.subtype_reader.proofs.constraints.suffix_constraint.Goals as goal

pub returns-in-len2-up : goal.returns-in-len2-up
returns-in-len2-up c = two_suffixes c.args.suffixes.now c.in-len2-up.len_at_least
