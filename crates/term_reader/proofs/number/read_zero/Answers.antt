use Rattle.std.proofs.Common.{◌≡◌, ◌+◌, drop, arith}
use Rattle.term_reader.proofs.Fronts.{digit_front}
use Rattle.term_reader.proofs.Numbers.{zero_fault, after_zero_fault}
use Rattle.term_reader.proofs.number.read_zero.Goals as goal

pub returns-then-least-eq1-clause-fault : goal.returns-then-least-eq1-clause-fault
returns-then-least-eq1-clause-fault c =
    zero_fault c.args.least c.args.most (drop c.args.at c.args.bytes.now) (drop (c.args.at + 1) c.args.bytes.now) c.if-least-eq1.true c.requires.some c.requires.zero

pub returns-in-Some-clause-fault : goal.returns-in-Some-clause-fault
returns-in-Some-clause-fault c =
    let z : c.args.least ≡ 0 = omega arith in
    let d = c.in-Some.ensures in
    after_zero_fault c.args.least c.args.most (drop c.args.at c.args.bytes.now) (drop (c.args.at + 1) c.args.bytes.now) z c.requires.zero
    (digit_front c.in-Some.field-0 (drop (c.args.at + 1) c.args.bytes.now) (drop (c.args.at + 1 + 1) c.args.bytes.now) d.0 d.2)
