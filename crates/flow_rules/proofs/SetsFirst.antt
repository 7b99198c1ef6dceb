-- A local with an initial value is set where it is read.
use Rattle.std.proofs.Common.{◌≡◌, refl, sym, ◌∙◌, ap, subst, ◌⊎◌, inl, inr, ℕ, zero, suc, ◌<◌, true, List, [], ◌∷◌, arith}
use Rattle.std.proofs.lemmas.Bool.{false≢true}
use Rattle.std.specs.Prelude.{Contains, Option, Some, None, slice_get, slice_index_or}
use Rattle.ada_values.specs.declared.place.Place.{Place}
use Rattle.typed_units.specs.Syntax.{Var, param, local, present, Formal, Routine}
use Rattle.flow_rules.specs.Reads.{Part, Read, Calls, calls_of, has_part}
use Rattle.flow_rules.specs.Paths.{State, unset, now_set, Outcome, goes, leaves, returns, reads_unset, Stops, by_exit, by_return, by_read, Runs, ReadsUnset, after_setting}
use Rattle.flow_rules.specs.Unset.{IsUnset, to_be_set, of_its_own, MustSet, out_parameter, output_global, Passes, in_declarations, in_statements, Ends, at_last, by_return as returned, ReadsAt, in_pre, in_body, in_post, EndsUnset, BreaksF1, BreaksF2}
use Rattle.flow_rules.specs.Cases.Unset.{no_effects, set_first, set_first_routine}
use Rattle.ada_semantics.specs.Cases.{place}
use Rattle.flow_rules.proofs.Straight.{goes_no_read, same_state, nothing_read, one_assign}

abbrev the_calls : Calls
the_calls = calls_of set_first no_effects

abbrev routine_in : Option Routine → Routine → Routine
routine_in None r = r
routine_in (Some x) r = x

abbrev the_part : Var → List ℕ → Part
the_part v ks = record { object = v; components = ks }

abbrev Is_none : Option Formal → Type 0
Is_none None = Unit {0}
Is_none (Some f) = ⊥

abbrev Is_no_number : Option ℕ → Type 0
Is_no_number None = Unit {0}
Is_no_number (Some s) = ⊥

abbrev Returns : Outcome → Type 0
Returns (goes s) = ⊥
Returns (leaves s) = ⊥
Returns (returns s) = Unit {0}
Returns (reads_unset p) = ⊥

abbrev Leaves : Outcome → Type 0
Leaves (goes s) = ⊥
Leaves (leaves s) = Unit {0}
Leaves (returns s) = ⊥
Leaves (reads_unset p) = ⊥

-- ---- inversions

none_some : {A : Type 0} (f : Formal) → None ≡ Some f → A
none_some f e = absurd (subst Is_none e tt)

no_number : {A : Type 0} (s : ℕ) → None ≡ Some s → A
no_number s e = absurd (subst Is_no_number e tt)

no_member : {A : Type 0} (g : ℕ) → Contains [] g → A
no_member g h = let k : h.0 < 0 = h.1 in absurd (omega (arith, k))

out_at : (j : ℕ) (f : Formal) → slice_get set_first_routine.formals j ≡ Some f → param j ≡ param 0
out_at zero f e = refl
out_at (suc j) f e = none_some f e

local_at : (j : ℕ) (s : ℕ) → slice_get set_first_routine.locals j ≡ Some s → local j ≡ local 0
local_at zero s e = refl
local_at (suc j) s e = no_number s e

must_param : (v : Var) (s : ℕ) → MustSet set_first 0 set_first_routine v s → v ≡ param 0
must_param _ _ (out_parameter j f e m) = out_at j f e
must_param _ _ (output_global g s h e) = no_member g h

which : (v : Var) (s : ℕ) → IsUnset set_first 0 set_first_routine v s → (v ≡ param 0) ⊎ (v ≡ local 0)
which v s (to_be_set _ _ m) = inl (must_param v s m)
which _ _ (of_its_own j s e) = inr (local_at j s e)

only_one : (r : Read) (n : Read) (k : ℕ) → k < 1 → slice_index_or (r ∷ []) k n ≡ n → r ≡ n
only_one r n zero lt e = e
only_one r n (suc k) lt e = absurd (omega (arith, lt))

one_name : (l : Part) (s : State) (q : Place) (r : Read) → ReadsUnset l (r ∷ []) s q → (has_part r.part l ≡ true) × (s r.moment ≡ true)
one_name l s q r h =
    let e = only_one r h.name h.among.0 h.among.1 h.among.2 in
    (subst (λ (x : Read). has_part x.part l ≡ true) (sym e) h.of_part, subst (λ (x : Read). s x.moment ≡ true) (sym e) h.is_unset)

abbrev the_name : Read
the_name = record { place = place 4 9; moment = present; part = the_part (local 0) [] }

abbrev after_opening : Part → State
after_opening l = after_setting l (the_part (local 0) [] ∷ []) unset

opened : (l : Part) (o : Outcome) → Runs the_calls l set_first_routine.opening unset o → o ≡ goes (after_opening l)
opened l o r = elim (one_assign the_calls l _ _ _ _ unset o r) [ inl h ↦ h | inr h ↦ nothing_read l unset h.0 h.2 ]

-- ---- F1

local_body : (ks : List ℕ) (q : Place) (o : Outcome) → o ≡ reads_unset q → Passes the_calls (the_part (local 0) ks) set_first_routine o → ⊥
local_body ks q o e (in_declarations _ r x) = goes_no_read _ q (sym (opened _ o r) ∙ e)
local_body ks q o e (in_statements s _ r t) =
    elim (one_assign the_calls (the_part (local 0) ks) _ _ _ _ s o t) [
      | inl h ↦ goes_no_read _ q (sym h ∙ e)
      | inr h ↦
          let u = one_name (the_part (local 0) ks) s h.0 the_name h.2 in
          let v = same_state s (after_opening (the_part (local 0) ks)) (opened _ (goes s) r) in
          false≢true (sym (ap (λ (x : State). x present) v) ∙ u.1)
    ]

param_body : (ks : List ℕ) (q : Place) (o : Outcome) → o ≡ reads_unset q → Passes the_calls (the_part (param 0) ks) set_first_routine o → ⊥
param_body ks q o e (in_declarations _ r x) = goes_no_read _ q (sym (opened _ o r) ∙ e)
param_body ks q o e (in_statements s _ r t) =
    elim (one_assign the_calls (the_part (param 0) ks) _ _ _ _ s o t) [
      | inl h ↦ goes_no_read _ q (sym h ∙ e)
      | inr h ↦ let u = one_name (the_part (param 0) ks) s h.0 the_name h.2 in false≢true u.0
    ]

local_read : (ks : List ℕ) (q : Place) → ReadsAt the_calls (the_part (local 0) ks) set_first_routine q → ⊥
local_read ks q (in_pre h) = nothing_read _ _ _ h
local_read ks q (in_body h) = local_body ks q _ refl h
local_read ks q (in_post _ _ _ _ h) = nothing_read _ _ _ h

param_read : (ks : List ℕ) (q : Place) → ReadsAt the_calls (the_part (param 0) ks) set_first_routine q → ⊥
param_read ks q (in_pre h) = nothing_read _ _ _ h
param_read ks q (in_body h) = param_body ks q _ refl h
param_read ks q (in_post _ _ _ _ h) = nothing_read _ _ _ h

pub no_read : (q : Place) → BreaksF1 set_first no_effects 0 q → ⊥
no_read q w =
    let e : set_first_routine ≡ w.routine = ap (λ (x : Option Routine). routine_in x set_first_routine) w.numbered in
    let starts = subst (λ (x : Routine). IsUnset set_first 0 x w.part.object w.subtype) (sym e) w.starts in
    let path = subst (λ (x : Routine). ReadsAt the_calls w.part x q) (sym e) w.path in
    let P : Var → Type 0 = λ v. ReadsAt the_calls (the_part v w.part.components) set_first_routine q in
    elim (which w.part.object w.subtype starts) [
      | inl h ↦ param_read w.part.components q (subst P h path)
      | inr h ↦ local_read w.part.components q (subst P h path)
    ]

-- ---- F2

end_state : (o : Outcome) (s : State) (t : State) → Ends o s → o ≡ goes t → s ≡ t
end_state _ s t (at_last _) e = same_state s t e
end_state _ s t (returned _) e = absurd (subst Returns e tt)

end_no_read : (o : Outcome) (s : State) (q : Place) → Ends o s → o ≡ reads_unset q → ⊥
end_no_read _ s q (at_last _) e = goes_no_read s q e
end_no_read _ s q (returned _) e = subst Returns e tt

stops_no_go : (o : Outcome) (t : State) → Stops o → o ≡ goes t → ⊥
stops_no_go _ t (by_exit s) e = subst Leaves e tt
stops_no_go _ t (by_return s) e = subst Returns e tt
stops_no_go _ t (by_read q) e = goes_no_read t q (sym e)

param_end : (ks : List ℕ) (o : Outcome) (s : State) → Passes the_calls (the_part (param 0) ks) set_first_routine o → Ends o s → s present ≡ true → ⊥
param_end ks o s (in_declarations _ r x) e u = stops_no_go o _ x (opened _ o r)
param_end ks o s (in_statements t _ r x) e u =
    elim (one_assign the_calls (the_part (param 0) ks) _ _ _ _ t o x) [
      | inl h ↦ false≢true (sym (ap (λ (x : State). x present) (end_state o s (now_set t) e h)) ∙ u)
      | inr h ↦ end_no_read o s h.0 e h.1
    ]

pub no_end : BreaksF2 set_first no_effects 0 → ⊥
no_end w =
    let e : set_first_routine ≡ w.routine = ap (λ (x : Option Routine). routine_in x set_first_routine) w.numbered in
    let starts = subst (λ (x : Routine). MustSet set_first 0 x w.part.object w.subtype) (sym e) w.starts in
    let path = subst (λ (x : Routine). EndsUnset the_calls w.part x) (sym e) w.path in
    let P : Var → Type 0 = λ v. EndsUnset the_calls (the_part v w.part.components) set_first_routine in
    let h = subst P (must_param w.part.object w.subtype starts) path in
    param_end w.part.components h.outcome h.state h.path h.end h.is_unset
