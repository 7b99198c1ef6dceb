use Rattle.std.proofs.Common.{sym, ◌∙◌, lit<}
use Rattle.term_reader.proofs.Fronts.{first_is}
use Rattle.logic_text.specs.Phases.{InSorts}
use Rattle.term_reader.proofs.Places.{bad_at}
use Rattle.logic_text.proofs.signature_reader.read_symbols.Goals as goal

pub read_symbol-requires-clause-space : goal.read_symbol-requires-clause-space
read_symbol-requires-clause-space c =
    (first_is c.args.bytes.now c.loop-alloc.to 32 (sym c.byte_at.ensures ∙ c.loop-alloc-test.true) (lit< tt)).1

pub returns-in-Err-clause-fault : goal.returns-in-Err-clause-fault
returns-in-Err-clause-fault c =
    bad_at InSorts InSorts c.args.bytes.now c.args.at c.loop-alloc.to c.in-Err.fault c.loop-alloc.invariant.on c.in-Err.ensures.fault
