-- The run before values are chosen does not end with a point.
use Rattle.std.proofs.Common.{ℕ, zero, suc, Bool, true, false, List, [], ◌∷◌, ◌++◌}
use Rattle.std.specs.Prelude.{if◌then◌else◌, ◌&&◌, ◌==◌, ◌-◌, ℤ, pos, int_lt, Option, Some, None, slice_get, remove}
use Rattle.std.specs.List.{filter}
use Rattle.logic_terms.specs.Node.{Node}
use Rattle.linear_forms.specs.Form.{Form, combined, tightened}
use Rattle.linear_forms.specs.Fits.{fits, combining_fits}
use Rattle.cert_lines.specs.Line.{Step, sum_of, tighten}
use Rattle.linear_prover.specs.Forms.{is_constant, same_form, factor}
use Rattle.linear_prover.specs.Machine.{Made, made, State, refuted, point, gap, wide, steps_out, Running, goes_on, ends, and_then, each, next, with_line, repeats, placed, appended}
use Rattle.linear_prover.specs.Elimination.{is_free, positives, negatives, summed, paired, all_paired, set_aside, eliminate, eliminate_at, fewest, eliminate_next, rounds}
use Rattle.linear_prover.proofs.Holding.{kept_constant, kept_form}

abbrev pub NoPoint : Running → Type 0
NoPoint (goes_on s) = Unit {0}
NoPoint (ends (refuted ls) b) = Unit {0}
NoPoint (ends (point ns) b) = ⊥
NoPoint (ends gap b) = Unit {0}
NoPoint (ends wide b) = Unit {0}
NoPoint (ends steps_out b) = Unit {0}

pub then_fair : (r : Running) (f : State → Running) → NoPoint r → ((s : State) → NoPoint (f s)) → NoPoint (and_then r f)
then_fair (goes_on s) f n k = k s
then_fair (ends a b) f n k = n

pub each_fair : {A : Type 0} (f : A → State → Running) → ((x : A) (s : State) → NoPoint (f x s)) → (xs : List A) (s : State) → NoPoint (each f xs s)
each_fair f k [] s = tt
each_fair f k (x ∷ xs) s = then_fair (f x s) (each f xs) (k x s) (each_fair f k xs)

constant_fair : (b : Bool) (x : Made) (s : State) → NoPoint (kept_constant b x s)
constant_fair true x s = tt
constant_fair false x s = tt

form_fair : (b : Bool) (x : Made) (s : State) → NoPoint (kept_form b x s)
form_fair true x s = tt
form_fair false x s = tt

placed_by : (b : Bool) (x : Made) (s : State) → NoPoint (if b then kept_constant (int_lt x.body.constant (pos 0)) x s else kept_form (repeats x.body s.standing) x s)
placed_by true x s = constant_fair (int_lt x.body.constant (pos 0)) x s
placed_by false x s = form_fair (repeats x.body s.standing) x s

placed_fair : (x : Made) (s : State) → NoPoint (placed x s)
placed_fair x s = placed_by (is_constant x.body.monomials) x s

appended_by : (b : Bool) (f : Form) (k : ℕ) (s : State) → NoPoint (if b then placed (made (tightened f) k) s else placed (made (tightened f) (next s)) (with_line (tighten k) s))
appended_by true f k s = placed_fair (made (tightened f) k) s
appended_by false f k s = placed_fair (made (tightened f) (next s)) (with_line (tighten k) s)

pub appended_fair : (f : Form) (k : ℕ) (s : State) → NoPoint (appended f k s)
appended_fair f k s = appended_by (same_form (tightened f) f) f k s

summed_by : (b : Bool) (f : Form) (l : Step) (s : State) → NoPoint (if b then appended f (next s) (with_line l s) else ends wide s.budget)
summed_by true f l s = appended_fair f (next s) (with_line l s)
summed_by false f l s = tt

summed_fair : (m : ℤ) (x : Made) (n : ℤ) (y : Made) (s : State) → NoPoint (summed m x n y s)
summed_fair m x n y s = summed_by (fits m && (fits n && combining_fits m x.body n y.body)) (combined m x.body n y.body) (sum_of x.number m y.number n) s

paired_by : (b : Bool) (m : ℤ) (x : Made) (n : ℤ) (y : Made) (s : State) → NoPoint (if b then ends steps_out 0 else summed m x n y s)
paired_by true m x n y s = tt
paired_by false m x n y s = summed_fair m x n y s

paired_fair : (v : Node) (x y : Made) (s : State) → NoPoint (paired v x y s)
paired_fair v x y s = paired_by (s.budget == 0) (factor v x.body y.body) x (factor v y.body x.body) y (record s { budget = s.budget - 1 })

eliminate_fair : (v : Node) (s : State) → NoPoint (eliminate v s)
eliminate_fair v s =
    then_fair (all_paired v (positives v s.standing) (negatives v s.standing) (record s { standing = filter (is_free v) s.standing })) (set_aside v (positives v s.standing ++ negatives v s.standing))
    (each_fair (λ x. each (λ y. paired v x y) (negatives v s.standing)) (λ x t. each_fair (λ y. paired v x y) (paired_fair v x) (negatives v s.standing) t) (positives v s.standing) _)
    (λ t. tt)

at_fair : (i : ℕ) (o : Option Node) (s : State) → NoPoint (eliminate_at i o s)
at_fair i None s = tt
at_fair i (Some v) s = eliminate_fair v (record s { left = remove s.left i })

pub rounds_fair : (n : ℕ) (s : State) → NoPoint (rounds n s)
rounds_fair zero s = tt
rounds_fair (suc n) s = then_fair (eliminate_next s) (rounds n) (at_fair (fewest s) (slice_get s.left (fewest s)) s) (rounds_fair n)
