-- The value of an expression (Ada RM 4): each node takes a unit of the budget, then its parts are evaluated from left to
-- right, then its checks are made.
use Rattle.std.specs.Prelude.{ℕ, Option, Some, None, List, [], ◌∷◌, ℤ}
use Rattle.ada_values.specs.Value.{Val, number, truth}
use Rattle.ada_values.specs.declared.place.Place.{Place}
use Rattle.typed_units.specs.declared.checks.CheckKind.TheVariants as kind
use Rattle.typed_units.specs.Syntax.{index, answer, Ex, at, Nd, static, read, component, op1, op2, connect, member, call, aggregate, choose, quantified, Path, here, to_component, to_item, Target, target, Actual, pass_in, pass_out, pass_in_out, Actuals, no_actuals, actual, Arms, other, arm, Assocs, no_assocs, assoc}
use Rattle.ada_semantics.specs.Outcome.{Res, gives, fails, unset, bind, spend, pick, wanted, site}
use Rattle.ada_semantics.specs.Store.{Slot, full, Slots, empties, whole, wholes, component_slot, item_slot, Store, Frame, set, state_in, entered}
use Rattle.ada_semantics.specs.Operators.{span, checked, checked_each, apply1, apply2, member_of, stops_at, joined, truth_of, number_of, quantify, claims_any, fill, built}
use Rattle.ada_semantics.specs.Targets.{Spot, component_spot, item_spot, target_place, var_of, bounds_of, position_in, reaches, slot_in, Passed, return_to, with_params}

-- What a call does to the variables with which its subprogram begins: it comes back with those that it leaves, or with
-- None where `Pre` is False.
abbrev pub Calls : Type 0
Calls = ℕ → Store → ℕ → Res (Option Store)

abbrev pub place_of : Ex → Place
place_of (at p t x) = p

-- what a function call gives, after its subprogram came back
abbrev pub result_of : Place → Option Store → ℕ → Res Val
result_of p None n = fails (site p kind.Pre)
result_of p (Some s) n = wanted (whole (s answer)) n

abbrev mutual
  pub value_of : Calls → Ex → Frame → ℕ → Res Val
  value_of calls (at p t x) f n = spend n (λ m. node_value calls x f m)

  pub node_value : Calls → Nd → Frame → ℕ → Res Val
  -- Ada RM 4.9, 4.1, 4.1.3
  node_value calls (static v) f n = gives v n
  node_value calls (read p w x) f n = wanted (whole (state_in f w x)) n
  node_value calls (component k a) f n = bind (slot_of calls a f n) (λ s m. wanted (whole (component_slot k s)) m)
  -- Ada RM 4.5, 4.6, 4.1.1
  node_value calls (op1 k a) f n = bind (value_of calls a f n) (λ v m. apply1 k (place_of a) v m)
  node_value calls (op2 k a b) f n =
      bind (value_of calls a f n) (λ u m. bind (value_of calls b f m) (λ v j. apply2 k (place_of b) u v j))
  -- Ada RM 4.5.1: the right operand of a short-circuit form only where the left one leaves it open
  node_value calls (connect c a b) f n =
      bind (value_of calls a f n) (λ u m. truth_of u (λ x.
      pick (stops_at c x) (gives (truth x) m)
      (bind (value_of calls b f m) (λ v j. truth_of v (λ y. gives (truth (joined c x y)) j)))))
  -- Ada RM 4.5.2
  node_value calls (member is a l h) f n =
      bind (value_of calls a f n) (λ u m. bind (value_of calls l f m) (λ v j. bind (value_of calls h f j) (λ w k. member_of is u v w k)))
  -- Ada RM 6.4; a function writes no parameter, so nothing is copied back, and the caller's variables stay
  node_value calls (call p q as') f n =
      bind (passed calls as' f n) (λ ps m. bind (calls q (with_params ps (entered f.state)) m) (λ t j. result_of p t j))
  -- Ada RM 4.3
  node_value calls (aggregate c b es) f n =
      bind (associated calls es b.first (empties (span b.first b.last)) f n) (λ ss m.
      bind (wanted (wholes ss) m) (λ vs j. gives (built c b vs) j))
  -- Ada RM 4.5.7
  node_value calls (choose es) f n = chosen calls es f n
  -- Ada RM 4.5.8
  node_value calls (quantified q k l h e) f n =
      bind (value_of calls l f n) (λ u m. bind (value_of calls h f m) (λ v j. number_of u (λ lo. number_of v (λ hi.
      quantify (span lo hi) q lo (λ i r. value_of calls e (set f (index k) (full (number i))) r) j))))

  -- what a component is taken from, of which some other components may not be set (Ada RM 4.1.3)
  pub slot_of : Calls → Ex → Frame → ℕ → Res Slot
  slot_of calls (at p t (read q w x)) f n = spend n (λ m. gives (state_in f w x) m)
  slot_of calls (at p t (component k a)) f n = spend n (λ m. bind (slot_of calls a f m) (λ s j. gives (component_slot k s) j))
  slot_of calls (at p t x) f n = spend n (λ m. bind (node_value calls x f m) (λ v j. gives (full v) j))

  -- the indexes of a path from left to right, with their checks, where `s` is what the path begins at
  pub spots_of : Calls → Path → Slot → Frame → ℕ → Res (List Spot)
  spots_of calls here s f n = gives [] n
  spots_of calls (to_component k count rest) s f n =
      bind (spots_of calls rest (component_slot k s) f n) (λ ss m. gives (component_spot k count ∷ ss) m)
  spots_of calls (to_item b c e rest) s f n =
      bind (value_of calls e f n) (λ v m. bind (position_in (bounds_of b s) c (place_of e) v m) (λ k j.
      bind (spots_of calls rest (item_slot k s) f j) (λ ss r. gives (item_spot k ∷ ss) r)))

  -- where a target lies; a part of an array reads the array, after the checks of the indexes (Ada RM 5.2)
  pub located : Calls → Target → Frame → ℕ → Res (List Spot)
  located calls (target p x path) f n =
      bind (spots_of calls path (f.state x) f n) (λ ss m. pick (reaches ss (f.state x)) (gives ss m) unset)

  -- an actual with its range check on the way in (Ada RM 6.4.1)
  pub one_passed : Calls → Actual → Frame → ℕ → Res Passed
  one_passed calls (pass_in k fit e) f n =
      bind (value_of calls e f n) (λ v m. bind (checked fit (place_of e) v m) (λ w j. gives (record { formal = k; value = Some w; back = None }) j))
  one_passed calls (pass_out k t fit) f n =
      bind (located calls t f n) (λ ss m. gives (record { formal = k; value = None; back = Some (return_to t ss fit) }) m)
  one_passed calls (pass_in_out k t inward fit) f n =
      bind (located calls t f n) (λ ss m.
      bind (wanted (whole (slot_in ss (f.state (var_of t)))) m) (λ v j.
      bind (checked inward (target_place t) v j) (λ w r. gives (record { formal = k; value = Some w; back = Some (return_to t ss fit) }) r)))

  -- the actuals, from left to right
  pub passed : Calls → Actuals → Frame → ℕ → Res (List Passed)
  passed calls no_actuals f n = gives [] n
  passed calls (actual a as') f n = bind (one_passed calls a f n) (λ p m. bind (passed calls as' f m) (λ ps j. gives (p ∷ ps) j))

  -- the first arm whose condition is True (Ada RM 4.5.7)
  pub chosen : Calls → Arms → Frame → ℕ → Res Val
  chosen calls (other e) f n = value_of calls e f n
  chosen calls (arm c e es) f n =
      bind (value_of calls c f n) (λ v m. truth_of v (λ b. pick b (value_of calls e f m) (chosen calls es f m)))

  -- what an aggregate gives its components (Ada RM 4.3.1, 4.3.3): each association is evaluated once, in order, and not at all where it gives no component
  pub associated : Calls → Assocs → ℤ → Slots → Frame → ℕ → Res Slots
  associated calls no_assocs x ss f n = gives ss n
  associated calls (assoc ranges others checks e es) x ss f n =
      pick (claims_any ranges others x ss)
      (bind (value_of calls e f n) (λ v m. bind (checked_each checks (place_of e) v m) (λ w j.
      associated calls es x (fill ranges others x w ss) f j)))
      (associated calls es x ss f n)
