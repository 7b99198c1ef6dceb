-- Records of which all components were set.
use Rattle.std.proofs.Common.{◌≡◌, refl, sym, ap, ◌∙◌, arith, ℕ, zero, suc, ◌+◌, ◌≤◌, List, [], ◌∷◌, ◌++◌, length, drop}
use Rattle.std.specs.Prelude.{Option, Some, None, slice_get}
use Rattle.ada_values.specs.Value.{Vals, no_vals}
use Rattle.ada_semantics.specs.Store.{whole, wholes, and_more}
use Rattle.run_values.specs.RunValues.{run_value, run_values}
use Rattle.run_values.specs.declared.values.RunValue.{RunValue}
use Rattle.run_store.specs.RunSlots.{run_slot, run_slots}
use Rattle.run_store.specs.declared.slots.RunSlot.{RunSlot}

-- values before the others, where there are any
abbrev pub before : List RunValue → Option Vals → Option Vals
before [] o = o
before (v ∷ vs) o = and_more (Some (run_value v)) (before vs o)

before_none : (vs : List RunValue) → before vs None ≡ None
before_none [] = refl
before_none (v ∷ vs) = ap (and_more (Some (run_value v))) (before_none vs)

before_all : (vs : List RunValue) → before vs (Some no_vals) ≡ Some (run_values vs)
before_all [] = refl
before_all (v ∷ vs) = ap (and_more (Some (run_value v))) (before_all vs)

before_push : (vs : List RunValue) (v : RunValue) (o : Option Vals) → before (vs ++ v ∷ []) o ≡ before vs (and_more (Some (run_value v)) o)
before_push [] v o = refl
before_push (w ∷ vs) v o = ap (and_more (Some (run_value w))) (before_push vs v o)

whole_here : (ps : List RunSlot) (i : ℕ) (p : RunSlot) → Some p ≡ slice_get ps i → wholes (run_slots (drop i ps)) ≡ and_more (whole (run_slot p)) (wholes (run_slots (drop (suc i) ps)))
whole_here [] i p h = absurd cc
whole_here (q ∷ ps) zero p h = let e : q ≡ p = cc in ap (λ s. and_more (whole (run_slot s)) (wholes (run_slots ps))) e
whole_here (q ∷ ps) (suc i) p h = whole_here ps i p h

none_more : (o : Option Vals) → and_more None o ≡ None
none_more None = refl
none_more (Some vs) = refl

past_end : (ps : List RunSlot) (i : ℕ) → length ps ≤ i → drop i ps ≡ []
past_end [] zero h = refl
past_end [] (suc i) h = refl
past_end (p ∷ ps) zero h = absurd (omega arith)
past_end (p ∷ ps) (suc i) h = past_end ps i (omega arith)

pub missing_part : (vs : List RunValue) (ps : List RunSlot) (i : ℕ) (p : RunSlot) → before vs (wholes (run_slots (drop i ps))) ≡ wholes (run_slots ps) → Some p ≡ slice_get ps i → None ≡ whole (run_slot p)
    → None ≡ wholes (run_slots ps)
missing_part vs ps i p h g e =
    let o = wholes (run_slots (drop (suc i) ps)) in
    sym (before_none vs) ∙ ap (before vs) (sym (none_more o) ∙ ap (λ u. and_more u o) e ∙ sym (whole_here ps i p g)) ∙ h

pub kept_part : (vs new : List RunValue) (ps : List RunSlot) (i : ℕ) (p : RunSlot) (v : RunValue) → before vs (wholes (run_slots (drop i ps))) ≡ wholes (run_slots ps) → Some p ≡ slice_get ps i
    → Some (run_value v) ≡ whole (run_slot p) → new ≡ vs ++ v ∷ [] → before new (wholes (run_slots (drop (i + 1) ps))) ≡ wholes (run_slots ps)
kept_part vs new ps i p v h g e n =
    let s : i + 1 ≡ suc i = omega arith in let o = wholes (run_slots (drop (suc i) ps)) in
    ap (λ k. before new (wholes (run_slots (drop k ps)))) s ∙ ap (λ ws. before ws o) n ∙ before_push vs v o
    ∙ ap (before vs) (ap (λ u. and_more u o) e ∙ sym (whole_here ps i p g)) ∙ h

pub all_parts : (vs : List RunValue) (ps : List RunSlot) (i : ℕ) → before vs (wholes (run_slots (drop i ps))) ≡ wholes (run_slots ps) → length ps ≤ i → Some (run_values vs) ≡ wholes (run_slots ps)
all_parts vs ps i h w = sym (before_all vs) ∙ ap (λ qs. before vs (wholes (run_slots qs))) (sym (past_end ps i w)) ∙ h
