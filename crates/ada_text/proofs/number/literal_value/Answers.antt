use Rattle.std.proofs.Common.{◌≡◌, ℕ, ℤ, ◌<◌, ◌≤◌, ◌-◌, ◌*◌, ◌^◌, Option, Some, None, true, false, ap, sym, ◌∙◌, subst, arith, to_z, lt-ltb}
use Rattle.std.specs.Int.{w128}
use Rattle.std.proofs.lemmas.Bool.Decides.{nat_tests}
use Rattle.std.specs.Prelude.{min, nat_lt, pos, if◌then◌else◌}
use Rattle.std.proofs.lemmas.Int.{ints}
use Rattle.ada_text.specs.Numbers.{literal_value}
use Rattle.ada_text.proofs.Capped.{parts_capped, below_cap, above_cap}
use Rattle.ada_text.proofs.number.literal_value.Goals as goal

joined : (s x y r d e : ℕ) → 2 ≤ r → x ≡ min d (2 ^ 128 - 1) → y ≡ min e (2 ^ 128 - 1) → s ≡ min (x * r ^ y) (2 ^ 128 - 1) → s ≡ min (d * r ^ e) (2 ^ 128 - 1)
joined s x y r d e h p q t =
    t ∙ ap (λ k. min (k * r ^ y) (2 ^ 128 - 1)) p ∙ ap (λ k. min (min d (2 ^ 128 - 1) * r ^ k) (2 ^ 128 - 1)) q ∙ parts_capped d r e h

fits : (s v : ℕ) → s < 2 ^ 127 → v ≡ s → Path (Option ℤ) (Some (to_z w128 s)) (if nat_lt v (2 ^ 127) then Some (pos v) else None)
fits s v h e =
    let z : to_z w128 s ≡ pos s = omega (arith, ints) in
    let t : nat_lt s (2 ^ 127) ≡ true = lt-ltb s (2 ^ 127) h in
    subst (λ (k : ℕ). Path (Option ℤ) (Some (to_z w128 s)) (if nat_lt k (2 ^ 127) then Some (pos k) else None)) (sym e) (ap Some z ∙ sym (ap (λ b. if b then Some (pos s) else None) t))

passes : (v : ℕ) → 2 ^ 127 ≤ v → Path (Option ℤ) None (if nat_lt v (2 ^ 127) then Some (pos v) else None)
passes v h = let t : nat_lt v (2 ^ 127) ≡ false = grind (arith, nat_tests) in sym (ap (λ b. if b then Some (pos v) else None) t)

pub returns-then-value : goal.returns-then-value
unfolding literal_value
returns-then-value c =
    let e = joined c.scaled-value.result _ _ c.args.literal.radix _ _ c.requires.radix c.numeral_value-digits.ensures c.numeral_value-exponent.ensures c.scaled-value.ensures in
    fits c.scaled-value.result _ c.if-value.true (below_cap c.scaled-value.result _ e (omega arith))

pub returns-else-value : goal.returns-else-value
unfolding literal_value
returns-else-value c =
    let e = joined c.scaled-value.result _ _ c.args.literal.radix _ _ c.requires.radix c.numeral_value-digits.ensures c.numeral_value-exponent.ensures c.scaled-value.ensures in
    passes _ (above_cap c.scaled-value.result _ (2 ^ 127) e c.if-value.false)
