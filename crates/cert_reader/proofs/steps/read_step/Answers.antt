use Rattle.std.proofs.Common.{◌+◌, sym, ◌∙◌, lit<, arith}
use Rattle.cert_reader.proofs.Lists.{mark_at, mark_bad}
use Rattle.cert_reader.proofs.steps.read_step.Goals as goal

pub read_sum-requires-clause-place : goal.read_sum-requires-clause-place
read_sum-requires-clause-place c =
    (mark_at c.args.bytes.now c.args.at 43 c.requires.space (sym c.byte_at-byte.ensures ∙ c.if-byte-eq43.true) (lit< tt)).0

pub read_sum-requires-clause-mark : goal.read_sum-requires-clause-mark
read_sum-requires-clause-mark c =
    (mark_at c.args.bytes.now c.args.at 43 c.requires.space (sym c.byte_at-byte.ensures ∙ c.if-byte-eq43.true) (lit< tt)).1

pub read_tightened-requires-clause-place : goal.read_tightened-requires-clause-place
read_tightened-requires-clause-place c =
    (mark_at c.args.bytes.now c.args.at 116 c.requires.space (sym c.byte_at-byte.ensures ∙ c.if-byte-eq116.true) (lit< tt)).0

pub read_tightened-requires-clause-mark : goal.read_tightened-requires-clause-mark
read_tightened-requires-clause-mark c =
    (mark_at c.args.bytes.now c.args.at 116 c.requires.space (sym c.byte_at-byte.ensures ∙ c.if-byte-eq116.true) (lit< tt)).1

pub returns-else-byte-eq116-clause-fault : goal.returns-else-byte-eq116-clause-fault
returns-else-byte-eq116-clause-fault c =
    let l = c.requires.place in
    mark_bad c.args.bytes.now c.args.at (c.args.at + 1) c.requires.space (omega arith)
    (λ e. c.if-byte-eq43.false (c.byte_at-byte.ensures ∙ e))
    (λ e. c.if-byte-eq116.false (c.byte_at-byte.ensures ∙ e))
