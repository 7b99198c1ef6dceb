use Rattle.std.proofs.Common.{◌≡◌, sym, ◌∙◌, ap, ℕ, suc, ◌+◌, ◌<◌, drop, get_or, arith}
use Rattle.term_reader.specs.Bytes.{first}
use Rattle.term_reader.specs.Words.{common_of}
use Rattle.term_reader.proofs.Choosing.{common_step}
use Rattle.term_reader.proofs.Fronts.{first_is}
use Rattle.term_reader.proofs.table.common.Goals as goal

shift : (a x : ℕ) → a + suc x ≡ a + 1 + x
shift a x = omega arith

pub loop-agreed-preserved : goal.loop-agreed-preserved
loop-agreed-preserved c =
    let i = c.loop-agreed.agreed in
    let w = c.args.word.now in
    let s = c.args.bytes.now in
    let b : get_or w i 0 < 256 = omega (arith, c.type_inv.word i) in
    let e : first (drop (c.args.at + i) s) ≡ get_or w i 0 = sym c.byte_at.ensures ∙ c.if-byte_at-word.false in
    let f = first_is s (c.args.at + i) (get_or w i 0) e b in
    let l = f.0 in
    let n : c.args.at + i + 1 ≡ c.args.at + (i + 1) = omega arith in record {
      short = omega arith;
      inside = omega arith;
      counted = c.loop-agreed.invariant.counted
          ∙ ap (λ (x : ℕ). i + x) (common_step w s i (c.args.at + i) c.loop-agreed-test.true b e)
          ∙ shift i _
          ∙ ap (λ (j : ℕ). i + 1 + common_of (drop (i + 1) w) (drop j s)) n;
    }
