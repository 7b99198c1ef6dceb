use Rattle.std.proofs.Common.{sym, ◌∙◌, true, false, lit<}
use Rattle.term_reader.proofs.Fronts.{first_is}
use Rattle.term_reader.proofs.Leaves.{flag_read}
use Rattle.term_reader.proofs.leaf.read_formula.Goals as goal

pub returns-then-byte-eq84-clause-ok : goal.returns-then-byte-eq84-clause-ok
returns-then-byte-eq84-clause-ok c =
    let f = first_is c.args.bytes.now c.args.at 84 (sym c.byte_at-byte.ensures ∙ c.if-byte-eq84.true) (lit< tt) in
    flag_read c.args.bytes.now true c.args.at f.0 f.1

pub returns-then-byte-eq70-clause-ok : goal.returns-then-byte-eq70-clause-ok
returns-then-byte-eq70-clause-ok c =
    let f = first_is c.args.bytes.now c.args.at 70 (sym c.byte_at-byte.ensures ∙ c.if-byte-eq70.true) (lit< tt) in
    flag_read c.args.bytes.now false c.args.at f.0 f.1
