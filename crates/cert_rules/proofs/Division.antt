-- Rule C12: quotients and remainders by a number.
use Rattle.std.proofs.Common.{◌≡◌, ◌≢◌, refl, sym, ◌∙◌, ap, ℕ, zero, suc, ◌<◌, Bool, true, false, not, ◌&&◌, ◌||◌, [], ◌∷◌, arith}
use Rattle.std.proofs.lemmas.Bool.{and_parts, and_from, or_left, not-true, false≢true}
use Rattle.std.proofs.lemmas.Int.{ints}
use Rattle.std.proofs.Math.IntN.{*ℤ_comm}
use Rattle.std.specs.Prelude.{ℤ, pos, negsuc, ◌+ℤ◌, ◌-ℤ◌, ◌*ℤ◌, ◌≤ℤ◌, ◌<ℤ◌, int_le, int_lt, int_div, int_rem, unsigned_abs, if◌then◌else◌}
use Rattle.ada_values.specs.Division.{IsQuotient}
use Rattle.ada_values.proofs.Division.{quotient_law}
use Rattle.logic_terms.specs.Node.{arith as compute_by, add, mul, le, eq, Node, num, op2}
use Rattle.logic_terms.specs.Value.{number, as_number, same_int}
use Rattle.logic_terms.specs.Meaning.{World, meaning, holds, quotient, remainder, opposite}
use Rattle.logic_terms.specs.Binding.{negated}
use Rattle.logic_terms.specs.Sorting.{IsWorldOf}
use Rattle.logic_terms.proofs.SameNodes.{same_int-refl}
use Rattle.logic_terms.proofs.Sorted.{meaning-number}
use Rattle.cert_lines.specs.Line.{division}
use Rattle.cert_rules.specs.Judged.{part_of}
use Rattle.cert_rules.specs.Clause.{clause_holds, AllClausesHold}
use Rattle.cert_rules.specs.Context.{Context, signature, next_symbol, is_number}
use Rattle.cert_rules.specs.Division.{quotient_of, remainder_of, modulus_of, width, is_positive, dividend_at_least_0, division_facts}
use Rattle.cert_rules.specs.Rules.{judge}
use Rattle.cert_rules.proofs.Names.{names_below}
use Rattle.cert_rules.proofs.NumberedClauses.{IsSound, AllBelow, part_sound, when_sound}
use Rattle.cert_rules.proofs.Sorting.{number_kind, number_below}
use Rattle.cert_rules.proofs.Premises.{unless, or_else, last_holds, last_below}
use Rattle.cert_rules.proofs.Values.{same_value-from, le_is, le_holds}

-- ---- whole numbers

not_zero : (d : ℤ) → same_int d (pos 0) ≡ false → d ≢ pos 0
not_zero d h e = false≢true (sym h ∙ rw e refl)

remainder_is : (x d : ℤ) → same_int d (pos 0) ≡ false → remainder x d ≡ int_rem x d
remainder_is x d h = rw h refl

quotient_is : (x d : ℤ) → same_int d (pos 0) ≡ false → quotient x d ≡ int_div x d
quotient_is x d h = rw h refl

module _ (x d : ℤ) (h : same_int d (pos 0) ≡ false) where
  law : IsQuotient x d (int_div x d) (int_rem x d)
  law = quotient_law x d (not_zero d h)

  sum_is : x ≡ ((d *ℤ quotient x d) +ℤ remainder x d)
  sum_is = law.sum ∙ rw (quotient_is x d h, remainder_is x d h, *ℤ_comm (int_div x d) d) refl

  smaller : unsigned_abs (remainder x d) < unsigned_abs d
  smaller = rw (remainder_is x d h) law.smaller

  remainder_above : pos 0 ≤ℤ x → pos 0 ≤ℤ remainder x d
  remainder_above p = rw (remainder_is x d h) (law.above p)

  remainder_below : x ≤ℤ pos 0 → remainder x d ≤ℤ pos 0
  remainder_below p = rw (remainder_is x d h) (law.below p)

-- below the size of d
below_width : (r d : ℤ) → unsigned_abs r < unsigned_abs d → (r ≤ℤ (pos (unsigned_abs d) -ℤ pos 1)) × ((pos 1 -ℤ pos (unsigned_abs d)) ≤ℤ r)
below_width r d h = (omega (arith, ints), omega (arith, ints))

-- the modulus, from the remainder r
abbrev turned : ℤ → ℤ → ℤ
turned r d = if opposite r d then r +ℤ d else r

turned_up : (r d : ℤ) → pos 0 <ℤ d → unsigned_abs r < unsigned_abs d → (pos 0 ≤ℤ turned r d) × (turned r d ≤ℤ (d -ℤ pos 1))
turned_up r d p h = (grind (arith, ints), grind (arith, ints))

turned_down : (r d : ℤ) → d <ℤ pos 0 → unsigned_abs r < unsigned_abs d → (turned r d ≤ℤ pos 0) × ((d +ℤ pos 1) ≤ℤ turned r d)
turned_down r d p h = (grind (arith, ints), grind (arith, ints))

turned_either : (r d : ℤ) (b : Bool) → (same_int (if b then r +ℤ d else r) r || (same_int (if b then r +ℤ d else r) (r +ℤ d) || false)) ≡ true
turned_either r d true = or_else (same_int (r +ℤ d) r) _ (λ e. last_holds _ (same_int-refl (r +ℤ d)))
turned_either r d false = or_left (same_int r r) _ (same_int-refl r)

-- ---- truth values

at_most : (i j : ℤ) → int_le i j ≡ false → j ≤ℤ i
at_most i j h = grind (arith, ints)

above_zero : (d : ℤ) → int_lt (pos 0) d ≡ true → pos 0 <ℤ d
above_zero d h = grind (arith, ints)

below_zero : (d : ℤ) → same_int d (pos 0) ≡ false → int_lt (pos 0) d ≡ false → d <ℤ pos 0
below_zero (pos zero) n h = absurd (false≢true (sym n))
below_zero (pos (suc k)) n h = grind (arith, ints)
below_zero (negsuc k) n h = grind (arith, ints)

-- ---- the rule

module _ (w : World) (a : Node) (d : ℤ) (h : same_int d (pos 0) ≡ false) (is_number : meaning w [] a ≡ number (as_number (meaning w [] a))) where
  abbrev x : ℤ
  x = as_number (meaning w [] a)

  by_sign : (f g : Node) → (pos 0 <ℤ d → holds w [] f ≡ true) → (d <ℤ pos 0 → holds w [] g ≡ true) → holds w [] (if int_lt (pos 0) d then f else g) ≡ true
  by_sign f g p q = go (int_lt (pos 0) d) refl
    where
      go : (b : Bool) → int_lt (pos 0) d ≡ b → holds w [] (if b then f else g) ≡ true
      go true e = p (above_zero d e)
      go false e = q (below_zero d h e)

  from_sum : clause_holds w (op2 eq a (op2 (compute_by add) (op2 (compute_by mul) (num d) (quotient_of a d)) (remainder_of a d)) ∷ []) ≡ true
  from_sum = last_holds _ (same_value-from _ _ (is_number ∙ ap number (sum_is x d h)))

  from_above : clause_holds w (negated (dividend_at_least_0 a d) ∷ op2 le (num (pos 0)) (remainder_of a d) ∷ []) ≡ true
  from_above = unless (int_le (pos 0) x) _ (λ p. last_holds _ (le_holds _ _ (remainder_above x d h (le_is (pos 0) x p))))

  from_above_width : clause_holds w (negated (dividend_at_least_0 a d) ∷ op2 le (remainder_of a d) (num (width a d -ℤ pos 1)) ∷ []) ≡ true
  from_above_width = unless (int_le (pos 0) x) _ (λ p. last_holds _ (le_holds _ _ (below_width (remainder x d) d (smaller x d h)).0))

  from_below : clause_holds w (dividend_at_least_0 a d ∷ op2 le (remainder_of a d) (num (pos 0)) ∷ []) ≡ true
  from_below = or_else (int_le (pos 0) x) _ (λ p. last_holds _ (le_holds _ _ (remainder_below x d h (at_most (pos 0) x p))))

  from_below_width : clause_holds w (dividend_at_least_0 a d ∷ op2 le (num (pos 1 -ℤ width a d)) (remainder_of a d) ∷ []) ≡ true
  from_below_width = or_else (int_le (pos 0) x) _ (λ p. last_holds _ (le_holds _ _ (below_width (remainder x d) d (smaller x d h)).1))

  from_sign : holds w [] (if is_positive a d then op2 le (num (pos 0)) (modulus_of a d) else op2 le (modulus_of a d) (num (pos 0))) ≡ true
  from_sign = by_sign (op2 le (num (pos 0)) (modulus_of a d)) (op2 le (modulus_of a d) (num (pos 0)))
      (λ p. le_holds _ _ (turned_up (remainder x d) d p (smaller x d h)).0) (λ p. le_holds _ _ (turned_down (remainder x d) d p (smaller x d h)).0)

  from_size : holds w [] (if is_positive a d then op2 le (modulus_of a d) (num (d -ℤ pos 1)) else op2 le (num (d +ℤ pos 1)) (modulus_of a d)) ≡ true
  from_size = by_sign (op2 le (modulus_of a d) (num (d -ℤ pos 1))) (op2 le (num (d +ℤ pos 1)) (modulus_of a d))
      (λ p. le_holds _ _ (turned_up (remainder x d) d p (smaller x d h)).1) (λ p. le_holds _ _ (turned_down (remainder x d) d p (smaller x d h)).1)

  facts_hold : AllClausesHold w (division_facts a d)
  facts_hold = (
    from_sum,
    (
      from_above,
      (
        from_above_width,
        (
          from_below,
          (
            from_below_width,
            (last_holds _ from_sign, (last_holds _ from_size, (turned_either (remainder x d) d (opposite (remainder x d) d), tt))),
          ),
        ),
      ),
    ),
  )

chosen_below : (n : ℕ) (b : Bool) (f g : Node) → names_below n f ≡ true → names_below n g ≡ true → names_below n (if b then f else g) ≡ true
chosen_below n true f g p q = p
chosen_below n false f g p q = q

facts_below : (n : ℕ) (a : Node) (d : ℤ) → names_below n a ≡ true → AllBelow n (division_facts a d)
facts_below n a d b =
    let by : (names_below n a && true) ≡ true = last_below _ b in (
      last_below _ (and_from _ _ b (and_from _ _ by by)),
      (
        and_from _ _ b (last_below _ by),
        (
          and_from _ _ b (last_below _ (last_below _ by)),
          (
            and_from _ _ b (last_below _ (last_below _ by)),
            (
              and_from _ _ b (last_below _ by),
              (
                last_below _ (chosen_below n (is_positive a d) (op2 le (num (pos 0)) (modulus_of a d)) (op2 le (modulus_of a d) (num (pos 0))) by (last_below _ by)),
                (
                  last_below _ (chosen_below n (is_positive a d) (op2 le (modulus_of a d) (num (d -ℤ pos 1))) (op2 le (num (d +ℤ pos 1)) (modulus_of a d)) (last_below _ by) by),
                  (and_from _ _ (and_from _ _ by by) (last_below _ (and_from _ _ by (last_below _ by))), tt),
                ),
              ),
            ),
          ),
        ),
      ),
    )

pub division-sound : (c : Context) (w : World) → IsWorldOf (signature c) w → (n : ℕ) (a : Node) (d : ℤ) → IsSound w (next_symbol c) (judge c (division n a d))
division-sound c w fits n a d =
    when_sound w (next_symbol c) (is_number c a && not (same_int d (pos 0))) (part_of (division_facts a d) n) (λ e.
    let p = and_parts (is_number c a) (not (same_int d (pos 0))) e in
    part_sound w (next_symbol c) (division_facts a d) n
    (facts_hold w a d (not-true _ p.1) (meaning-number (signature c) w fits a (number_kind c a p.0))) (facts_below (next_symbol c) a d (number_below c a p.0)))
