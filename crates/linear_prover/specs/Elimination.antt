-- How variables are eliminated: each pair of a positive and a negative form is combined.
use Rattle.std.specs.Prelude.{ℕ, zero, suc, Bool, true, not, ◌&&◌, ◌-◌, ◌*◌, ◌==◌, pos, int_lt, ℤ, List, [], ◌∷◌, ◌++◌, map, length, nat_le, Option, Some, None, slice_get, remove, if◌then◌else◌}
use Rattle.std.specs.List.{filter}
use Rattle.logic_terms.specs.Node.{Node}
use Rattle.linear_forms.specs.Form.{combined}
use Rattle.linear_forms.specs.Fits.{fits, combining_fits}
use Rattle.cert_lines.specs.Line.{sum_of}
use Rattle.linear_prover.specs.Forms.{coefficient, factor}
use Rattle.linear_prover.specs.Machine.{Made, aside, State, wide, steps_out, Running, goes_on, ends, and_then, each, next, with_line, appended}

-- ---- a pair

-- m times one form plus n times another
abbrev pub summed : ℤ → Made → ℤ → Made → State → Running
summed m x n y s =
    if fits m && (fits n && combining_fits m x.body n y.body)
    then appended (combined m x.body n y.body) (next s) (with_line (sum_of x.number m y.number n) s)
    else ends wide s.budget

-- one step for a form with v's coefficient positive and one with it negative: their least positive combination without v
abbrev pub paired : Node → Made → Made → State → Running
paired v x y s =
    if s.budget == 0 then ends steps_out 0
    else summed (factor v x.body y.body) x (factor v y.body x.body) y (record s { budget = s.budget - 1 })

-- ---- a variable

abbrev pub is_positive : Node → Made → Bool
is_positive v x = int_lt (pos 0) (coefficient v x.body.monomials)

abbrev pub is_negative : Node → Made → Bool
is_negative v x = int_lt (coefficient v x.body.monomials) (pos 0)

abbrev pub is_free : Node → Made → Bool
is_free v x = not (is_positive v x) && not (is_negative v x)

abbrev pub positives : Node → List Made → List Made
positives v xs = filter (is_positive v) xs

abbrev pub negatives : Node → List Made → List Made
negatives v xs = filter (is_negative v) xs

-- each pair, positive forms in the outer order
abbrev pub all_paired : Node → List Made → List Made → State → Running
all_paired v xs ys s = each (λ x. each (λ y. paired v x y) ys) xs s

abbrev pub set_aside : Node → List Made → State → Running
set_aside v xs s = goes_on (record s { eliminated = aside v (map (λ x. x.body) xs) ∷ s.eliminated })

abbrev pub eliminate : Node → State → Running
eliminate v s =
    and_then (all_paired v (positives v s.standing) (negatives v s.standing) (record s { standing = filter (is_free v) s.standing }))
    (set_aside v (positives v s.standing ++ negatives v s.standing))

-- ---- all variables

abbrev pub pairs : Node → List Made → ℕ
pairs v xs = length (positives v xs) * length (negatives v xs)

abbrev pub is_least : ℕ → List ℕ → Bool
is_least n [] = true
is_least n (k ∷ ks) = nat_le n k && is_least n ks

-- the index of the first least number
abbrev pub first_least : List ℕ → ℕ
first_least [] = 0
first_least (n ∷ ns) = if is_least n ns then 0 else suc (first_least ns)

-- where the variable with the fewest pairs stands, the first on a tie
abbrev pub fewest : State → ℕ
fewest s = first_least (map (λ v. pairs v s.standing) s.left)

abbrev pub eliminate_at : ℕ → Option Node → State → Running
eliminate_at i None s = goes_on s
eliminate_at i (Some v) s = eliminate v (record s { left = remove s.left i })

abbrev pub eliminate_next : State → Running
eliminate_next s = eliminate_at (fewest s) (slice_get s.left (fewest s)) s

abbrev pub rounds : ℕ → State → Running
rounds zero s = goes_on s
rounds (suc n) s = and_then (eliminate_next s) (rounds n)
