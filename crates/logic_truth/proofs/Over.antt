-- One turn of a loop over a quantifier's numbers.
use Rattle.std.proofs.Common.{◌≡◌, refl, sym, ◌∙◌, ap, ℕ, zero, suc, Bool, true, false, not, arith, ◌<◌}
use Rattle.std.proofs.lemmas.Int.{ints}
use Rattle.std.proofs.lemmas.Bool.{false≢true}
use mathlib.Core.Bool.{beq}
use Rattle.std.specs.Prelude.{ℤ, pos, negsuc, ◌+ℤ◌, ◌-ℤ◌, ◌≤ℤ◌, ◌<ℤ◌, if◌then◌else◌}
use Rattle.logic_terms.specs.Node.{Quant}
use Rattle.logic_terms.specs.Value.{Value, truth, count, up_to}
use Rattle.logic_terms.specs.Run.{Outcome, gives, run_over, stops, at_end}
use Rattle.logic_truth.specs.Found.{quant_of}

count_by : (l h d e : ℤ) → h -ℤ l ≡ d → h -ℤ (l +ℤ pos 1) ≡ e → l ≤ℤ h → up_to d ≡ suc (up_to e)
count_by l h (pos zero) (pos k) p q b = absurd (omega (arith, ints))
count_by l h (pos (suc n)) (pos k) p q b = let s : n ≡ k = omega (arith, ints) in ap (λ x. suc (suc x)) s
count_by l h (pos zero) (negsuc k) p q b = refl
count_by l h (pos (suc n)) (negsuc k) p q b = absurd (omega (arith, ints))
count_by l h (negsuc n) e p q b = absurd (omega (arith, ints))

pub count-more : (l h : ℤ) → l ≤ℤ h → count l h ≡ suc (count (l +ℤ pos 1) h)
count-more l h b = count_by l h _ _ refl refl b

count_past : (l h d : ℤ) → h -ℤ l ≡ d → h <ℤ l → up_to d ≡ zero
count_past l h (pos n) p b = absurd (omega (arith, ints))
count_past l h (negsuc n) p b = refl

goes_on : (is_all b : Bool) → not (beq b is_all) ≡ false → stops (quant_of is_all) b ≡ false
goes_on true true h = refl
goes_on true false h = absurd (grind arith)
goes_on false true h = absurd (grind arith)
goes_on false false h = refl

step : (q : Quant) (l : ℤ) (k : ℕ) (f : ℤ → ℕ → Outcome Value) (n m : ℕ) (b : Bool) → f l n ≡ gives (truth b) m → stops q b ≡ false → run_over q l (suc k) f n ≡ run_over q (l +ℤ pos 1) k f m
step q l k f n m b e s = rw (e, s) refl

-- the loop goes on
pub over-more : (is_all b : Bool) (start : Outcome Value) (at next last : ℤ) (f : ℤ → ℕ → Outcome Value) (n m : ℕ) → start ≡ run_over (quant_of is_all) at (count at last) f n → f at n ≡ gives (truth b) m → not (beq b is_all) ≡ false → at ≤ℤ last → next ≡ at +ℤ pos 1 → start ≡ run_over (quant_of is_all) next (count next last) f m
over-more is_all b start at next last f n m e g h le is =
    e ∙ ap (λ k. run_over (quant_of is_all) at k f n) (count-more at last le) ∙ step (quant_of is_all) at _ f n m b g (goes_on is_all b h) ∙ ap (λ x. run_over (quant_of is_all) x (count x last) f m) (sym is)

-- the loop ends
pub over-end : (is_all b : Bool) (start : Outcome Value) (at last : ℤ) (f : ℤ → ℕ → Outcome Value) (n m : ℕ) → start ≡ run_over (quant_of is_all) at (count at last) f n → f at n ≡ gives (truth b) m → not (beq b is_all) ≡ false → at ≤ℤ last → last ≤ℤ at → start ≡ gives (truth (at_end (quant_of is_all))) m
over-end is_all b start at last f n m e g h le ge =
    let none : count (at +ℤ pos 1) last ≡ zero = count_past (at +ℤ pos 1) last _ refl (omega (arith, ints)) in
    e ∙ ap (λ k. run_over (quant_of is_all) at k f n) (count-more at last le) ∙ step (quant_of is_all) at _ f n m b g (goes_on is_all b h) ∙ ap (λ k. run_over (quant_of is_all) (at +ℤ pos 1) k f m) none

-- the two, as the loop states them
pub turn-end : (is_all b more next : Bool) (start : Outcome Value) (at last : ℤ) (f : ℤ → ℕ → Outcome Value) (n m : ℕ) → (more ≡ true → at ≤ℤ last) → start ≡ run_over (quant_of is_all) at (if more then count at last else zero) f n → more ≡ true → f at n ≡ gives (truth b) m → not (beq b is_all) ≡ false → last ≤ℤ at → next ≡ false → start ≡ run_over (quant_of is_all) at (if next then count at last else zero) f m
turn-end is_all b true true start at last f n m le e k g h ge off = absurd (grind arith)
turn-end is_all b true false start at last f n m le e k g h ge off = over-end is_all b start at last f n m e g h (le refl) ge ∙ refl
turn-end is_all b false next start at last f n m le e k g h ge off = absurd (false≢true k)

pub turn-more : (is_all b more next : Bool) (start : Outcome Value) (at to last : ℤ) (f : ℤ → ℕ → Outcome Value) (n m : ℕ) → (more ≡ true → at ≤ℤ last) → start ≡ run_over (quant_of is_all) at (if more then count at last else zero) f n → more ≡ true → f at n ≡ gives (truth b) m → not (beq b is_all) ≡ false → to ≡ at +ℤ pos 1 → next ≡ true → start ≡ run_over (quant_of is_all) to (if next then count to last else zero) f m
turn-more is_all b true true start at to last f n m le e k g h is on = over-more is_all b start at to last f n m e g h (le refl) is
turn-more is_all b true false start at to last f n m le e k g h is on = absurd (false≢true on)
turn-more is_all b false next start at to last f n m le e k g h is on = absurd (false≢true k)

pub turn-smaller : (more next : Bool) (at to last : ℤ) → more ≡ true → next ≡ true → (more ≡ true → at ≤ℤ last) → to ≡ at +ℤ pos 1 → (if next then count to last else zero) < (if more then count at last else zero)
turn-smaller true true at to last k on le is =
    let e : count at last ≡ suc (count to last) = count-more at last (le refl) ∙ ap (λ x. suc (count x last)) (sym is) in
    omega (arith, e)
turn-smaller true false at to last k on le is = absurd (false≢true on)
turn-smaller false next at to last k on le is = absurd (false≢true k)
