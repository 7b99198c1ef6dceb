-- Paths through statements, for F1 and F2: every branch of an `if` and every alternative of a `case`, any number of turns of a
-- loop that has a head, `exit` and `return`. No truth of a condition counts, and no failing check. One part of an object is
-- followed at a time: it is unset on entry, and the path tells where it is still unset.
use Rattle.std.specs.Prelude.{◌≡◌, ℕ, Bool, true, false, ◌||◌, ◌==◌, cond, List, [], ◌∷◌, Contains}
use Rattle.ada_values.specs.declared.place.Place.{Place}
use Rattle.typed_units.specs.declared.statements.Choice.{Choice}
use Rattle.typed_units.specs.Syntax.{Fit, Ex, Moment, present, entry, loop_entry, Demand, Head, while, for, Target, Actuals, St, st, Ac, skip, assign, invoke, branch, case_of, loop, exit, exit_when, return, give, assert, assume, Sts, done, then, Branches, otherwise, when, Alternatives, alternative}
use Rattle.flow_rules.specs.Reads.{Part, Read, Calls, reads, demands_reads, test_reads, action_reads, target_sets, call_sets, has_part}

-- at which moments the part is unset: now, on entry to the subprogram, on entry to each loop
abbrev pub State : Type 0
State = Moment → Bool

-- on entry
abbrev pub unset : State
unset m = true

abbrev pub now_set : State → State
now_set s present = false
now_set s entry = s entry
now_set s (loop_entry k) = s (loop_entry k)

-- the loop of that number is entered
abbrev pub loop_entered : ℕ → State → State
loop_entered k s present = s present
loop_entered k s entry = s entry
loop_entered k s (loop_entry j) = cond (j == k) (s present) (s (loop_entry j))

abbrev pub any_has : List Part → Part → Bool
any_has [] l = false
any_has (x ∷ xs) l = has_part x l || any_has xs l

-- after these parts are set
abbrev pub after_setting : Part → List Part → State → State
after_setting l xs s = cond (any_has xs l) (now_set s) s

-- one of the reads is of the part, in a state in which it is unset; its name stands there
pub record ReadsUnset (l : Part) (rs : List Read) (s : State) (p : Place) : Type 0 where
  pub name : Read
  pub among : Contains rs name
  pub of_part : has_part name.part l ≡ true
  pub is_unset : s name.moment ≡ true
  pub there : name.place ≡ p

-- where a path comes to: the end of the statements, out of the loop around them (Ada RM 5.7), back from the subprogram (Ada RM
-- 6.5), or a name that reads the part where it is unset
pub data Outcome : Type 0 where
  goes : State → Outcome
  leaves : State → Outcome
  returns : State → Outcome
  reads_unset : Place → Outcome

-- nothing after it is reached
pub data Stops : Outcome → Type 0 where
  by_exit : (s : State) → Stops (leaves s)
  by_return : (s : State) → Stops (returns s)
  by_read : (p : Place) → Stops (reads_unset p)

-- what a part of a loop's turn comes to, when it doesn't come to its end, and what the loop comes to then
pub data EndsLoop : Outcome → Outcome → Type 0 where
  exited : (s : State) → EndsLoop (leaves s) (goes s)
  returned : (s : State) → EndsLoop (returns s) (returns s)
  read : (p : Place) → EndsLoop (reads_unset p) (reads_unset p)

-- a loop that has a head may end before each turn (Ada RM 5.5)
pub data HasHead : Head → Type 0 where
  by_while : (e : Ex) → HasHead (while e)
  by_for : (r : Bool) (k : ℕ) (l : Ex) (h : Ex) → HasHead (for r k l h)

mutual
  -- a path through statements, from a state to what it comes to
  pub data Runs (c : Calls) (l : Part) : Sts → State → Outcome → Type 0 where
    ends : (s : State) → Runs c l done s (goes s)
    stops : (a : St) (rest : Sts) (s : State) (o : Outcome) → Stops o → Does c l a s o → Runs c l (then a rest) s o
    goes_on : (a : St) (rest : Sts) (s : State) (t : State) (o : Outcome) → Does c l a s (goes t) → Runs c l rest t o → Runs c l (then a rest) s o

  -- a path through one statement; it goes on also where a name was read that is unset
  pub data Does (c : Calls) (l : Part) : St → State → Outcome → Type 0 where
    reads_now : (p : Place) (a : Ac) (s : State) (q : Place) → ReadsUnset l (action_reads c p a) s q → Does c l (st p a) s (reads_unset q)
    skips : (p : Place) (s : State) → Does c l (st p skip) s (goes s)
    assigns : (p : Place) (t : Target) (f : Fit) (e : Ex) (s : State) → Does c l (st p (assign t f e)) s (goes (after_setting l (target_sets t) s))
    calls : (p : Place) (q : ℕ) (as' : Actuals) (s : State) → Does c l (st p (invoke q as')) s (goes (after_setting l (call_sets c q as') s))
    branches : (p : Place) (bs : Branches) (s : State) (o : Outcome) → Takes c l bs s o → Does c l (st p (branch bs)) s o
    selects : (p : Place) (e : Ex) (as' : Alternatives) (s : State) (o : Outcome) → Picks c l as' s o → Does c l (st p (case_of e as')) s o
    loops : (p : Place) (k : ℕ) (h : Head) (before : Sts) (group : List Demand) (after : Sts) (s : State) (o : Outcome)
        → Turns c l h before group after (loop_entered k s) o → Does c l (st p (loop k h before group after)) s o
    exits : (p : Place) (s : State) → Does c l (st p exit) s (leaves s)
    exits_then : (p : Place) (e : Ex) (s : State) → Does c l (st p (exit_when e)) s (leaves s)
    stays : (p : Place) (e : Ex) (s : State) → Does c l (st p (exit_when e)) s (goes s)
    comes_back : (p : Place) (s : State) → Does c l (st p return) s (returns s)
    gives_back : (p : Place) (f : Fit) (e : Ex) (s : State) → Does c l (st p (give f e)) s (returns s)
    asserts : (p : Place) (e : Ex) (s : State) → Does c l (st p (assert e)) s (goes s)
    assumes : (p : Place) (e : Ex) (s : State) → Does c l (st p (assume e)) s (goes s)

  -- the branches of an `if`: a condition is read after those before it (Ada RM 5.3)
  pub data Takes (c : Calls) (l : Part) : Branches → State → Outcome → Type 0 where
    reads_condition : (e : Ex) (ss : Sts) (bs : Branches) (s : State) (q : Place) → ReadsUnset l (reads c e) s q → Takes c l (when e ss bs) s (reads_unset q)
    takes : (e : Ex) (ss : Sts) (bs : Branches) (s : State) (o : Outcome) → Runs c l ss s o → Takes c l (when e ss bs) s o
    passes : (e : Ex) (ss : Sts) (bs : Branches) (s : State) (o : Outcome) → Takes c l bs s o → Takes c l (when e ss bs) s o
    takes_else : (ss : Sts) (s : State) (o : Outcome) → Runs c l ss s o → Takes c l (otherwise ss) s o

  -- one of the alternatives of a `case` (Ada RM 5.4)
  pub data Picks (c : Calls) (l : Part) : Alternatives → State → Outcome → Type 0 where
    this : (cs : List Choice) (others : Bool) (ss : Sts) (as' : Alternatives) (s : State) (o : Outcome) → Runs c l ss s o → Picks c l (alternative cs others ss as') s o
    later : (cs : List Choice) (others : Bool) (ss : Sts) (as' : Alternatives) (s : State) (o : Outcome) → Picks c l as' s o → Picks c l (alternative cs others ss as') s o

  -- the turns that are left of a loop, before one of which it stands: with its head, and its body before, in and after its group
  -- of invariants and variant (Ada RM 5.5, SPARK RM 5.5.3)
  pub data Turns (c : Calls) (l : Part) : Head → Sts → List Demand → Sts → State → Outcome → Type 0 where
    reads_test : (h : Head) (before : Sts) (group : List Demand) (after : Sts) (s : State) (q : Place)
        → ReadsUnset l (test_reads c h) s q → Turns c l h before group after s (reads_unset q)
    no_more : (h : Head) (before : Sts) (group : List Demand) (after : Sts) (s : State) → HasHead h → Turns c l h before group after s (goes s)
    ends_before : (h : Head) (before : Sts) (group : List Demand) (after : Sts) (s : State) (o : Outcome) (u : Outcome)
        → Runs c l before s o → EndsLoop o u → Turns c l h before group after s u
    reads_group : (h : Head) (before : Sts) (group : List Demand) (after : Sts) (s : State) (t : State) (q : Place)
        → Runs c l before s (goes t) → ReadsUnset l (demands_reads c group) t q → Turns c l h before group after s (reads_unset q)
    ends_after : (h : Head) (before : Sts) (group : List Demand) (after : Sts) (s : State) (t : State) (o : Outcome) (u : Outcome)
        → Runs c l before s (goes t) → Runs c l after t o → EndsLoop o u → Turns c l h before group after s u
    turns_again : (h : Head) (before : Sts) (group : List Demand) (after : Sts) (s : State) (t : State) (r : State) (u : Outcome)
        → Runs c l before s (goes t) → Runs c l after t (goes r) → Turns c l h before group after r u → Turns c l h before group after s u
