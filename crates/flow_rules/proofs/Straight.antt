-- What paths through a single assignment come to.
use Rattle.std.proofs.Common.{◌≡◌, refl, ◌∙◌, ap, subst, ◌⊎◌, inl, inr, ◌<◌, [], ◌++◌, arith}
use Rattle.ada_values.specs.declared.place.Place.{Place}
use Rattle.typed_units.specs.Syntax.{Fit, Ex, Target, st, assign, done, then}
use Rattle.flow_rules.specs.Reads.{Part, Calls, reads, target_reads, target_sets}
use Rattle.flow_rules.specs.Paths.{State, unset, Outcome, goes, leaves, returns, reads_unset, Runs, ends, stops, goes_on, Does, reads_now, assigns, ReadsUnset, after_setting}

abbrev Goes : Outcome → Type 0
Goes (goes s) = Unit {0}
Goes (leaves s) = ⊥
Goes (returns s) = ⊥
Goes (reads_unset p) = ⊥

pub goes_no_read : {A : Type 0} (s : State) (p : Place) → goes s ≡ reads_unset p → A
goes_no_read s p e = absurd (subst Goes e tt)

abbrev state_of : Outcome → State
state_of (goes s) = s
state_of (leaves s) = s
state_of (returns s) = s
state_of (reads_unset p) = unset

pub same_state : (s : State) (t : State) → goes s ≡ goes t → s ≡ t
same_state s t e = ap state_of e

pub nothing_read : {A : Type 0} (l : Part) (s : State) (p : Place) → ReadsUnset l [] s p → A
nothing_read l s p h = let k : h.among.0 < 0 = h.among.1 in absurd (omega (arith, k))

abbrev pub Ends : Calls → Part → Target → Ex → State → Outcome → Type 0
Ends c l t e s o = (o ≡ goes (after_setting l (target_sets t) s)) ⊎ ((q : Place) × (o ≡ reads_unset q) × ReadsUnset l (target_reads c t ++ reads c e) s q)

does_assign : (c : Calls) (l : Part) (p : Place) (t : Target) (f : Fit) (e : Ex) (s : State) (o : Outcome) → Does c l (st p (assign t f e)) s o → Ends c l t e s o
does_assign c l p t f e s _ (reads_now _ _ _ q h) = inr (q, refl, h)
does_assign c l p t f e s _ (assigns _ _ _ _ _) = inl refl

nothing_more : (c : Calls) (l : Part) (s : State) (o : Outcome) → Runs c l done s o → o ≡ goes s
nothing_more c l s _ (ends _) = refl

went_on : (c : Calls) (l : Part) (t : Target) (e : Ex) (s : State) (u : State) (o : Outcome) → Ends c l t e s (goes u) → o ≡ goes u → Ends c l t e s o
went_on c l t e s u o (inl h) g = inl (g ∙ h)
went_on c l t e s u o (inr h) g = goes_no_read u h.0 h.1

pub one_assign : (c : Calls) (l : Part) (p : Place) (t : Target) (f : Fit) (e : Ex) (s : State) (o : Outcome) → Runs c l (then (st p (assign t f e)) done) s o → Ends c l t e s o
one_assign c l p t f e s o (stops _ _ _ _ x d) = does_assign c l p t f e s o d
one_assign c l p t f e s o (goes_on _ _ _ u _ d r) = went_on c l t e s u o (does_assign c l p t f e s (goes u) d) (nothing_more c l u o r)
