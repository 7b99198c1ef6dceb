-- How a variable is eliminated, by what the parts of the code do.
use Rattle.std.proofs.Common.{◌≡◌, refl, sym, ◌∙◌, ap, ap₂, ℕ, zero, suc, ◌<◌, ◌≤◌, List, [], ◌∷◌, ◌++◌, map, length, get_or, take, drop, arith}
use Rattle.std.specs.Prelude.{Option, Some, slice_get, remove}
use Rattle.std.specs.List.{filter}
use Rattle.std.proofs.lemmas.List.{map-append, take-map, drop-map}
use Rattle.logic_terms.specs.Node.{Node}
use Rattle.logic_terms.specs.View.{term}
use Rattle.logic_terms.specs.declared.syntax.Term.{Term}
use Rattle.linear_prover.specs.Machine.{Made, State, Answer, Running, goes_on, ends, each}
use Rattle.linear_prover.specs.Elimination.{paired, pairs, is_free, positives, negatives, all_paired, set_aside, eliminate, first_least, fewest, eliminate_at, eliminate_next}
use Rattle.linear_prover.specs.View.{made_of, state}
use Rattle.linear_prover.specs.SplitView.{Opposes}
use Rattle.linear_prover.specs.declared.machine.MadeForm.{MadeForm}
use Rattle.linear_prover.specs.declared.machine.LinearMachine.{LinearMachine}
use Rattle.linear_prover.specs.declared.elimination.Opposed.{Opposed}
use Rattle.linear_prover.proofs.Running.{then_on, then_ends}
use Rattle.linear_prover.proofs.Stating.{two_maps, got_none}

-- ---- one variable

abbrev pub each_pair : Node → List MadeForm → List MadeForm → State → Running
each_pair v xs ys s = each (λ x. each (λ y. paired v (made_of x) (made_of y)) ys) xs s

abbrev without : Node → State → State
without v s = record s { standing = filter (is_free v) s.standing }

pairs_taken : (v : Node) (s u : State) (o : Opposed) (xs ys : List MadeForm) → Opposes v s o u → xs ≡ o.positive.items → ys ≡ o.negative.items → each_pair v xs ys u ≡ all_paired v (positives v s.standing) (negatives v s.standing) (without v s)
pairs_taken v s u o xs ys w e f =
    two_maps v xs ys u
    ∙ ap₂ (λ (ps qs : List Made). all_paired v ps qs u) (ap (map made_of) e ∙ w.positive) (ap (map made_of) f ∙ w.negative)
    ∙ ap (all_paired v (positives v s.standing) (negatives v s.standing)) w.rest

pub eliminate_ends : (v : Node) (s u : State) (o : Opposed) (xs ys : List MadeForm) (a : Answer) (b : ℕ) → Opposes v s o u → xs ≡ o.positive.items → ys ≡ o.negative.items → each_pair v xs ys u ≡ ends a b → eliminate v s ≡ ends a b
eliminate_ends v s u o xs ys a b w e f g =
    then_ends (all_paired v (positives v s.standing) (negatives v s.standing) (without v s)) (set_aside v (positives v s.standing ++ negatives v s.standing)) a b
    (sym (pairs_taken v s u o xs ys w e f) ∙ g)

pub eliminate_on : (v : Node) (s u t : State) (o : Opposed) (xs ys : List MadeForm) (r : Running) → Opposes v s o u → xs ≡ o.positive.items → ys ≡ o.negative.items → each_pair v xs ys u ≡ goes_on t → r ≡ set_aside v (map made_of o.positive.items ++ map made_of o.negative.items) t → eliminate v s ≡ r
eliminate_on v s u t o xs ys r w e f g h =
    then_on (all_paired v (positives v s.standing) (negatives v s.standing) (without v s)) (set_aside v (positives v s.standing ++ negatives v s.standing)) t
    (sym (pairs_taken v s u o xs ys w e f) ∙ g)
    ∙ sym (h ∙ ap₂ (λ (ps qs : List Made). set_aside v (ps ++ qs) t) w.positive w.negative)

-- ---- the next variable

counts : (f : Node → ℕ) (us : List Term) → map (λ u. f (term u)) us ≡ map f (map term us)
counts f [] = refl
counts f (u ∷ us) = ap (λ (ns : List ℕ). f (term u) ∷ ns) (counts f us)

pub fewest_at : (m : LinearMachine) (k : ℕ) (us : List Term) (xs : List MadeForm) → us ≡ m.left.items → xs ≡ m.standing.items → k ≡ first_least (map (λ u. pairs (term u) (map made_of xs)) us) → k ≡ fewest (state m)
fewest_at m k us xs e f g =
    g ∙ ap₂ (λ (vs : List Term) (ys : List MadeForm). first_least (map (λ u. pairs (term u) (map made_of ys)) vs)) e f
    ∙ ap first_least (counts (λ v. pairs v (map made_of m.standing.items)) m.left.items)

got_by : (us : List Term) (k : ℕ) (u : Term) → k < length us → u ≡ get_or us k u → slice_get (map term us) k ≡ Some (term u)
got_by [] k u h e = absurd (omega arith)
got_by (v ∷ us) zero u h e = ap (λ (x : Term). Some (term x)) (sym e)
got_by (v ∷ us) (suc k) u h e = got_by us k u (omega arith) e

removed_as : (us ws : List Term) (k : ℕ) → ws ≡ remove us k → map term ws ≡ remove (map term us) k
removed_as us ws k e =
    ap (map term) e ∙ map-append term (take k us) (drop (suc k) us)
    ∙ sym (ap₂ (λ (ps qs : List Node). ps ++ qs) (take-map term k us) (drop-map term (suc k) us))

at_fewest : (s : State) (k : ℕ) → k ≡ fewest s → eliminate_at k (slice_get s.left k) s ≡ eliminate_next s
at_fewest s k e = ap (λ (j : ℕ). eliminate_at j (slice_get s.left j) s) e

pub next_on : (m : LinearMachine) (k : ℕ) (u : Term) (ws : List Term) → k ≡ fewest (state m) → k < length m.left.items → u ≡ get_or m.left.items k u → ws ≡ remove m.left.items k → eliminate (term u) (record (state m) { left = map term ws }) ≡ eliminate_next (state m)
next_on m k u ws e h g r =
    ap (λ (vs : List Node). eliminate (term u) (record (state m) { left = vs })) (removed_as m.left.items ws k r)
    ∙ sym (ap (λ (o : Option Node). eliminate_at k o (state m)) (got_by m.left.items k u h g))
    ∙ at_fewest (state m) k e

pub next_none : (m : LinearMachine) (k : ℕ) → k ≡ fewest (state m) → length m.left.items ≤ k → eliminate_next (state m) ≡ goes_on (state m)
next_none m k e h =
    sym (at_fewest (state m) k e) ∙ ap (λ (o : Option Node). eliminate_at k o (state m)) (got_none m.left.items k h)
