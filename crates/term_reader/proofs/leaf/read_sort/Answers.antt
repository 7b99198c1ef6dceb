use Rattle.std.proofs.Common.{sym, ◌∙◌, lit<}
use Rattle.term_reader.proofs.Fronts.{first_is}
use Rattle.term_reader.proofs.Leaves.{numbers_read, truths_read}
use Rattle.term_reader.proofs.leaf.read_sort.Goals as goal

pub returns-then-byte-eq78-clause-ok : goal.returns-then-byte-eq78-clause-ok
returns-then-byte-eq78-clause-ok c =
    let f = first_is c.args.bytes.now c.args.at 78 (sym c.byte_at-byte.ensures ∙ c.if-byte-eq78.true) (lit< tt) in
    numbers_read c.args.bytes.now c.args.at f.0 f.1

pub returns-then-byte-eq66-clause-ok : goal.returns-then-byte-eq66-clause-ok
returns-then-byte-eq66-clause-ok c =
    let f = first_is c.args.bytes.now c.args.at 66 (sym c.byte_at-byte.ensures ∙ c.if-byte-eq66.true) (lit< tt) in
    truths_read c.args.bytes.now c.args.at f.0 f.1
