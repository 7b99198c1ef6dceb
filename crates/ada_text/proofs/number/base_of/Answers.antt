use Rattle.std.proofs.Common.{◌≡◌, ℕ, ◌<◌, ◌≤◌, List, Option, None, arith}
use Rattle.std.proofs.lemmas.Grind.{common_steps}
use Rattle.ada_text.specs.Numbers.{base_of, numeral_value}
use Rattle.ada_text.proofs.Capped.{below_cap, above_cap}
use Rattle.ada_text.proofs.number.base_of.Goals as goal
use Rattle.ada_text.proofs.number.base_of.Goals.{else-value-ge2-via-then-value-ge2+else-value-le16, else-value-ge2-via-else-value-ge2}

pub returns-then-value-le16-clause-value : goal.returns-then-value-le16-clause-value
unfolding base_of
returns-then-value-le16-clause-value c =
    let e : numeral_value 10 c.args.text.now ≡ c.numeral_value-value.result = below_cap _ _ c.numeral_value-value.ensures (omega arith) in
    grind (arith, common_steps)

too_small : (text : List ℕ) → numeral_value 10 text < 2 → Path (Option ℕ) None (base_of text)
unfolding base_of
too_small text h = grind (arith, common_steps)

too_great : (text : List ℕ) → 17 ≤ numeral_value 10 text → Path (Option ℕ) None (base_of text)
unfolding base_of
too_great text h = grind (arith, common_steps)

pub returns-else-value-ge2-clause-value : goal.returns-else-value-ge2-clause-value
returns-else-value-ge2-clause-value c = elim c.else-value-ge2.branch [
  | else-value-ge2-via-then-value-ge2+else-value-le16 w ↦ too_great c.args.text.now (above_cap _ _ 17 c.numeral_value-value.ensures (omega arith))
  | else-value-ge2-via-else-value-ge2 w ↦
      let e : numeral_value 10 c.args.text.now ≡ c.numeral_value-value.result = below_cap _ _ c.numeral_value-value.ensures (omega arith) in
      too_small c.args.text.now (omega arith)
]
