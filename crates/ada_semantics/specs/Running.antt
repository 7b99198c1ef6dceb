-- The run of statements (Ada RM 5): each statement, initial value and turn of a loop takes a unit of the budget.
use Rattle.std.specs.Prelude.{ℕ, zero, suc, Bool, true, false, ◌||◌, Option, Some, None, List, [], ◌∷◌, ℤ, pos, negsuc, ◌+ℤ◌}
use Rattle.std.specs.Ordering.{int_eq}
use Rattle.std.specs.Int.RustNames.{int_lt}
use Rattle.ada_values.specs.Value.{Val, number}
use Rattle.ada_values.specs.declared.place.Place.{Place}
use Rattle.typed_units.specs.declared.checks.CheckKind.{CheckKind}
use Rattle.typed_units.specs.declared.checks.CheckKind.TheVariants as kind
use Rattle.typed_units.specs.declared.statements.Direction.TheVariants as direction
use Rattle.typed_units.specs.Syntax.{Fit, Var, param, turn, answer, Ex, Way, Demand, invariant, variant, Head, forever, while, for, St, st, Ac, skip, assign, invoke, branch, case_of, loop, exit, exit_when, return, give, assert, assume, Sts, done, then, Branches, otherwise, when, Alternatives, no_alternatives, alternative}
use Rattle.ada_semantics.specs.Outcome.{Res, gives, fails, short, unset, bind, spend, pick, wanted, site, check}
use Rattle.ada_semantics.specs.Store.{full, whole, Store, Frame, set, enter_loop, entered, with_globals}
use Rattle.ada_semantics.specs.Operators.{span, checked, truth_of, number_of, chosen_in}
use Rattle.ada_semantics.specs.Values.{Calls, value_of, place_of, located, passed}
use Rattle.ada_semantics.specs.Targets.{var_of, write, Passed, with_params}

-- how statements come to an end: they go on, leave the loop around them (Ada RM 5.7), or return from the subprogram
-- (Ada RM 6.5)
pub data Stop : Type 0 where
  goes : Frame → Stop
  leaves : Frame → Stop
  returns : Frame → Stop

-- what follows a statement that goes on
abbrev pub next : (Frame → ℕ → Res Stop) → Stop → ℕ → Res Stop
next go (goes f) n = go f n
next go (leaves f) n = gives (leaves f) n
next go (returns f) n = gives (returns f) n

-- the truth value of a condition
abbrev pub truth_at : Calls → Ex → Frame → ℕ → Res Bool
truth_at calls e f n = bind (value_of calls e f n) (λ v m. truth_of v (λ b. gives b m))

-- a condition that must be True, with its check (Ada RM 6.1.1, 11.4.2)
abbrev pub holds_at : {A : Type 0} → Calls → CheckKind → Ex → Frame → ℕ → (ℕ → Res A) → Res A
holds_at calls k e f n go = bind (value_of calls e f n) (λ v m. truth_of v (λ b. check b (place_of e) k (go m)))

-- a value with its range check (Ada RM 3.5, 4.6)
abbrev pub fitting : Calls → Fit → Ex → Frame → ℕ → Res Val
fitting calls fit e f n = bind (value_of calls e f n) (λ v m. checked fit (place_of e) v m)

-- ---- procedure calls (Ada RM 6.4.1)

-- the copies back from left to right, where the callee left the variables `s`
abbrev pub copied_back : List Passed → Store → Frame → ℕ → Res Stop
copied_back [] s f n = gives (goes f) n
copied_back (p ∷ ps) s f n = elim p.back [
  | None ↦ copied_back ps s f n
  | Some r ↦ bind (wanted (whole (s (param p.formal))) n) (λ v m. bind (checked r.fit r.place v m) (λ w j.
      copied_back ps s (write f r.var r.spots w) j))
]

-- after the subprogram came back
abbrev pub came_back : Place → List Passed → Frame → Option Store → ℕ → Res Stop
came_back p ps f None n = fails (site p kind.Pre)
came_back p ps f (Some s) n = copied_back ps s (record f { state = with_globals f.state s }) n

-- ---- the group of a loop (SPARK RM 5.5.3)

-- against the last turn, the first expression that changed moved in its direction, and one changed
abbrev pub moved : List Way → List ℤ → List ℤ → Bool
moved (w ∷ ws) (x ∷ xs) (y ∷ ys) = pick (int_eq x y) (moved ws xs ys) (elim w.direction [ direction.Increases ↦ int_lt x y | direction.Decreases ↦ int_lt y x ])
moved _ _ _ = false

-- no check in the first turn, which has no last one
abbrev pub moved_since : Option (List ℤ) → List Way → List ℤ → Bool
moved_since None ws ys = true
moved_since (Some xs) ws ys = moved ws xs ys

abbrev pub invariant_kind : Option (List ℤ) → CheckKind
invariant_kind None = kind.InvFirst
invariant_kind (Some xs) = kind.InvKept

abbrev pub numbers_of : Calls → List Way → Frame → ℕ → Res (List ℤ)
numbers_of calls [] f n = gives [] n
numbers_of calls (w ∷ ws) f n =
    bind (value_of calls w.value f n) (λ v m. number_of v (λ x. bind (numbers_of calls ws f m) (λ xs j. gives (x ∷ xs) j)))

-- the check of a variant stands at its first expression
abbrev pub variant_check : {A : Type 0} → List Way → Bool → Res A → Res A
variant_check [] holds go = go
variant_check (w ∷ ws) holds go = check holds (place_of w.value) kind.Variant go

-- the invariants and the variant in order, where the variant had the numbers `last` in the last turn; it gives the
-- numbers of this turn
abbrev pub demanded : Calls → List Demand → Option (List ℤ) → List ℤ → Frame → ℕ → Res (List ℤ)
demanded calls [] last xs f n = gives xs n
demanded calls (invariant e ∷ rest) last xs f n =
    spend n (λ m. holds_at calls (invariant_kind last) e f m (λ j. demanded calls rest last xs f j))
demanded calls (variant ws ∷ rest) last xs f n =
    spend n (λ m. bind (numbers_of calls ws f m) (λ ys j. variant_check ws (moved_since last ws ys) (demanded calls rest last ys f j)))

-- ---- loops (Ada RM 5.5)

-- a turn after which the loop goes on, with the variant's numbers, or how the loop ended
pub data Round : Type 0 where
  again : List ℤ → Frame → Round
  over : Stop → Round

-- what follows a part of a loop's body: `exit` ends the loop
abbrev pub in_loop : (Frame → ℕ → Res Round) → Stop → ℕ → Res Round
in_loop go (goes f) n = go f n
in_loop go (leaves f) n = gives (over (goes f)) n
in_loop go (returns f) n = gives (over (returns f)) n

-- a turn, after the variant's numbers of the last one
abbrev pub Turn : Type 0
Turn = Option (List ℤ) → Frame → ℕ → Res Round

abbrev pub one_turn : (Frame → ℕ → Res Stop) → (Option (List ℤ) → Frame → ℕ → Res (List ℤ)) → (Frame → ℕ → Res Stop) → Turn
one_turn before group after last f n =
    spend n (λ m. bind (before f m) (in_loop (λ g j. bind (group last g j) (λ xs k. bind (after g k) (in_loop (λ h r. gives (again xs h) r))))))

abbrev pub after_round : (Option (List ℤ) → Frame → ℕ → Res Stop) → Round → ℕ → Res Stop
after_round go (again xs f) n = go (Some xs) f n
after_round go (over s) n = gives s n

-- turns as long as the test holds; as each takes a unit there are fewer than `most`, which is above the budget
abbrev pub turns_while : ℕ → (Frame → ℕ → Res Bool) → Turn → Option (List ℤ) → Frame → ℕ → Res Stop
turns_while zero test body last f n = short
turns_while (suc most) test body last f n =
    bind (test f n) (λ b m. pick b (bind (body last f m) (after_round (turns_while most test body))) (gives (goes f) m))

-- so many turns, whose parameter begins at x and moves by a step
abbrev pub turns_over : ℕ → Var → ℤ → ℤ → Turn → Option (List ℤ) → Frame → ℕ → Res Stop
turns_over zero x i by body last f n = gives (goes f) n
turns_over (suc count) x i by body last f n =
    bind (body last (set f x (full (number i))) n) (after_round (turns_over count x (i +ℤ by) by body))

abbrev pub looped : Calls → Head → Turn → Frame → ℕ → Res Stop
looped calls forever body f n = turns_while (suc n) (λ g m. gives true m) body None f n
looped calls (while e) body f n = turns_while (suc n) (truth_at calls e) body None f n
looped calls (for reversed k l h) body f n =
    bind (value_of calls l f n) (λ u m. bind (value_of calls h f m) (λ v j. number_of u (λ lo. number_of v (λ hi.
    pick reversed (turns_over (span lo hi) (turn k) hi (negsuc 0) body None f j) (turns_over (span lo hi) (turn k) lo (pos 1) body None f j)))))

-- ---- statements

abbrev mutual
  pub step_of : Calls → St → Frame → ℕ → Res Stop
  step_of calls (st p a) f n = spend n (λ m. action_of calls p a f m)

  pub action_of : Calls → Place → Ac → Frame → ℕ → Res Stop
  -- Ada RM 5.1, 5.2
  action_of calls p skip f n = gives (goes f) n
  action_of calls p (assign t fit e) f n =
      bind (located calls t f n) (λ ss m. bind (fitting calls fit e f m) (λ v j. gives (goes (write f (var_of t) ss v)) j))
  -- Ada RM 6.4, 6.4.1
  action_of calls p (invoke q as') f n =
      bind (passed calls as' f n) (λ ps m.
      bind (calls q (with_params ps (entered f.state)) m) (λ s j. came_back p ps f s j))
  -- Ada RM 5.3, 5.4
  action_of calls p (branch bs) f n = branch_of calls bs f n
  action_of calls p (case_of e as') f n =
      bind (value_of calls e f n) (λ v m. number_of v (λ x. selected calls as' x f m))
  -- Ada RM 5.5, 5.7
  action_of calls p (loop k h before group after) f n =
      looped calls h (one_turn (run_of calls before) (λ last g j. demanded calls group last [] g j) (run_of calls after)) (enter_loop f k) n
  action_of calls p exit f n = gives (leaves f) n
  action_of calls p (exit_when e) f n =
      bind (value_of calls e f n) (λ v m. truth_of v (λ b. gives (pick b (leaves f) (goes f)) m))
  -- Ada RM 6.5
  action_of calls p return f n = gives (returns f) n
  action_of calls p (give fit e) f n = bind (fitting calls fit e f n) (λ v m. gives (returns (set f answer (full v))) m)
  -- Ada RM 11.4.2, SPARK RM 5.9
  action_of calls p (assert e) f n = holds_at calls kind.Assert e f n (λ m. gives (goes f) m)
  action_of calls p (assume e) f n = holds_at calls kind.Assume e f n (λ m. gives (goes f) m)

  pub run_of : Calls → Sts → Frame → ℕ → Res Stop
  run_of calls done f n = gives (goes f) n
  run_of calls (then a rest) f n = bind (step_of calls a f n) (next (run_of calls rest))

  -- the first branch whose condition is True (Ada RM 5.3)
  pub branch_of : Calls → Branches → Frame → ℕ → Res Stop
  branch_of calls (otherwise ss) f n = run_of calls ss f n
  branch_of calls (when e ss bs) f n =
      bind (value_of calls e f n) (λ v m. truth_of v (λ b. pick b (run_of calls ss f m) (branch_of calls bs f m)))

  -- the alternative with the selector's value (Ada RM 5.4)
  pub selected : Calls → Alternatives → ℤ → Frame → ℕ → Res Stop
  selected calls no_alternatives x f n = unset
  selected calls (alternative choices others ss as') x f n =
      pick (others || chosen_in choices x) (run_of calls ss f n) (selected calls as' x f n)
