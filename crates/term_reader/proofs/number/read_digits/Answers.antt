use Rattle.std.proofs.Common.{◌+◌, ◌≤◌, drop, arith}
use Rattle.term_reader.proofs.Numbers.{great_fault, one_more_digit, too_great, not_too_great}
use Rattle.term_reader.proofs.number.read_digits.Goals as goal

pub returns-then-value-most-clause-fault : goal.returns-then-value-most-clause-fault
returns-then-value-most-clause-fault c =
    let d = c.in-Some.ensures in
    let b = d.0 in
    let m : c.in-Some.next ≤ c.args.most = omega arith in
    great_fault c.args.least c.args.most c.loop-next.value c.in-Some.next
    (drop c.args.at c.args.bytes.now) (drop c.loop-next.to c.args.bytes.now) (drop (c.loop-next.to + 1) c.args.bytes.now)
    c.requires.least c.loop-next.invariant.above c.loop-next.invariant.below d.0 c.loop-next.invariant.text d.2
    (too_great c.loop-next.value c.in-Some.next c.args.most m c.if-value-most.true)

pub loop-next-preserved : goal.loop-next-preserved
loop-next-preserved c =
    let d = c.in-Some.ensures in
    let b = d.0 in
    let e = d.1 in
    let m : c.in-Some.next ≤ c.args.most = omega arith in record {
      after = omega arith;
      inside = omega arith;
      above = omega arith;
      below = not_too_great c.loop-next.value c.in-Some.next c.args.most m c.if-value-most.false;
      text = one_more_digit c.loop-next.value c.in-Some.next (drop c.args.at c.args.bytes.now) (drop c.loop-next.to c.args.bytes.now) (drop (c.loop-next.to + 1) c.args.bytes.now)
          c.loop-next.invariant.above d.0 c.loop-next.invariant.text d.2;
    }
