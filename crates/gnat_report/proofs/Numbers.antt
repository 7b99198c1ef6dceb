-- Bytes that a decimal number lacks.
use Rattle.std.proofs.Common.{◌≡◌, ◌≢◌, arith, ℕ, zero, suc, ◌+◌, ◌/◌, ◌%◌, ◌<◌, ◌⊎◌, inl, inr, lit<, Bool, true, false, cond, eqb, List, [], ◌∷◌, ap}
use Rattle.std.proofs.lemmas.Bool.{lt-ltb}
use Rattle.std.specs.Fmt.{decimal, digit_glyph, digits, digits_onto}
use Rattle.gnat_report.proofs.Bytes.{Lacks}

-- a byte that is no digit
NoDigit : ℕ → Type 0
NoDigit b = (b < 48) ⊎ (57 < b)

glyph_is_digit : (d : ℕ) → d < 10 → digit_glyph false d ≡ 48 + d
glyph_is_digit d h = ap (λ (b : Bool). cond b (48 + d) (87 + d)) (lt-ltb d 10 h)

glyph_differs : (b d : ℕ) → NoDigit b → d < 10 → digit_glyph false d ≢ b
unfolding NoDigit
glyph_differs b d (inl low) h e = omega (arith, glyph_is_digit d h)
glyph_differs b d (inr high) h e = omega (arith, glyph_is_digit d h)

onto_lacks : (b : ℕ) → NoDigit b → (k n : ℕ) (acc : List ℕ) → Lacks b acc → Lacks b (digits_onto k 10 false n acc)
onto_lacks b apart zero n acc h = h
onto_lacks b apart (suc k) n acc h =
    let g : digit_glyph false (n % 10) ≢ b = glyph_differs b (n % 10) apart (omega arith) in
    elim (eqb (n / 10) 0) as (λ t. Lacks b (cond t (digit_glyph false (n % 10) ∷ acc) (digits_onto k 10 false (n / 10) (digit_glyph false (n % 10) ∷ acc))))
    [ true ↦ (g, h) | false ↦ onto_lacks b apart k (n / 10) (digit_glyph false (n % 10) ∷ acc) (g, h) ]

decimal_lacks : (b n : ℕ) → NoDigit b → Lacks b (decimal n)
unfolding digits
decimal_lacks b n apart = onto_lacks b apart 64 n [] tt

pub decimal_lacks_colon : (n : ℕ) → Lacks 58 (decimal n)
unfolding NoDigit
decimal_lacks_colon n = decimal_lacks 58 n (inr (lit< tt))

pub decimal_lacks_feed : (n : ℕ) → Lacks 10 (decimal n)
unfolding NoDigit
decimal_lacks_feed n = decimal_lacks 10 n (inl (lit< tt))

pub decimal_lacks_blank : (n : ℕ) → Lacks 32 (decimal n)
unfolding NoDigit
decimal_lacks_blank n = decimal_lacks 32 n (inl (lit< tt))
