-- What is left of a budget.
use Rattle.std.specs.Prelude.{◌≡◌, ℕ, ◌+◌, ◌≤◌, ◌<◌, List}
use Rattle.ada_values.specs.Value.{Val}
use Rattle.ada_semantics.specs.Outcome.{Res, gives, fails, short, unset}
use Rattle.ada_semantics.specs.Store.{Store, Frame}
use Rattle.typed_units.specs.Syntax.{Ex, Sts, Routine, Text}
use Rattle.ada_semantics.specs.Values.{Calls, value_of}
use Rattle.ada_semantics.specs.Running.{run_of}
use Rattle.ada_semantics.specs.Plain.{Plain, ends, fails as plain_fails, short as plain_short, not_a_start, reads_unset, one_call, calls_within, plain}

-- at most n units are left
abbrev pub Left : {A : Type 0} → ℕ → Res A → Type 0
Left n (gives a m) = m ≤ n
Left n (fails c) = Unit {0}
Left n short = Unit {0}
Left n unset = Unit {0}

-- fewer than n units are left
abbrev pub Took : {A : Type 0} → ℕ → Res A → Type 0
Took n (gives a m) = m < n
Took n (fails c) = Unit {0}
Took n short = Unit {0}
Took n unset = Unit {0}

-- no call leaves more than it was given
abbrev pub CallsTake : Calls → Type 0
CallsTake calls = (q : ℕ) (s : Store) (n : ℕ) → Left n (calls q s n)

-- an expression takes a unit at least
abbrev pub ValuesTake : Type 0
ValuesTake = (calls : Calls) → CallsTake calls → (e : Ex) (f : Frame) (n : ℕ) → Took n (value_of calls e f n)

-- statements leave no more than they were given
abbrev pub RunsTake : Type 0
RunsTake = (calls : Calls) → CallsTake calls → (ss : Sts) (f : Frame) (n : ℕ) → Left n (run_of calls ss f n)

-- so no call of a program leaves more, however deep calls may lie
abbrev pub ProgramsTake : Type 0
ProgramsTake = (depth : ℕ) (p : Text) → CallsTake (calls_within depth p)

-- A call answers the same whatever depth above its budget is allowed, so the depth of the plain run is none of its limits.
abbrev pub AnyDepth : Type 0
AnyDepth = (p : Text) (r : Routine) (s : Store) (n depth : ℕ) → n ≤ depth → one_call (calls_within depth p) r s n ≡ one_call (calls_within n p) r s n

-- what came of n units comes of n + k too, with k more left; only a budget that was spent says nothing
abbrev pub Grows : {A : Type 0} → ℕ → Res A → Res A → Type 0
Grows k (gives a m) t = t ≡ gives a (m + k)
Grows k (fails c) t = t ≡ fails c
Grows k short t = Unit {0}
Grows k unset t = t ≡ unset

-- an evaluation with more of a budget
abbrev pub CallsGrow : ℕ → Calls → Calls → Type 0
CallsGrow k calls others = (q : ℕ) (s : Store) (n : ℕ) → Grows k (calls q s n) (others q s (n + k))

-- a call of a program comes to the same with more budget, at any depth that isn't less
abbrev pub MoreForCalls : Type 0
MoreForCalls = (depth other k : ℕ) (p : Text) → depth ≤ other → CallsGrow k (calls_within depth p) (calls_within other p)

abbrev pub Settled : Plain → Plain → Type 0
Settled plain_short t = Unit {0}
Settled (ends s) t = t ≡ ends s
Settled (plain_fails c) t = t ≡ plain_fails c
Settled not_a_start t = t ≡ not_a_start
Settled reads_unset t = t ≡ reads_unset

-- a run that doesn't spend its budget comes to the same with more
abbrev pub MoreForRuns : Type 0
MoreForRuns = (p : Text) (q : ℕ) (params globals : List Val) (n k : ℕ) → Settled (plain p q params globals n) (plain p q params globals (n + k))

-- two results say the same, where neither budget was spent
abbrev pub Alike : {A : Type 0} → Res A → Res A → Type 0
Alike short t = Unit {0}
Alike r short = Unit {0}
Alike (gives a n) (gives b m) = a ≡ b
Alike (fails c) (fails d) = c ≡ d
Alike unset unset = Unit {0}
Alike _ _ = ⊥

-- a call has one answer, whatever its budget
abbrev pub OneAnswer : Type 0
OneAnswer = (depth other n m : ℕ) (p : Text) (q : ℕ) (s : Store) → Alike (calls_within depth p q s n) (calls_within other p q s m)

-- two outcomes of a run are one, where neither budget was spent
abbrev pub AlikeRuns : Plain → Plain → Type 0
AlikeRuns plain_short t = Unit {0}
AlikeRuns r plain_short = Unit {0}
AlikeRuns r t = r ≡ t

-- a run has one outcome, whatever its budget
abbrev pub OneOutcome : Type 0
OneOutcome = (p : Text) (q : ℕ) (params globals : List Val) (n m : ℕ) → AlikeRuns (plain p q params globals n) (plain p q params globals m)
