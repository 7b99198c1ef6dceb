-- Which share gives each component of a static aggregate, by the number of the share.
use Rattle.std.specs.Prelude.{ℕ, zero, suc, ℤ, pos, ◌+ℤ◌, ◌-ℤ◌, Bool, true, Option, Some, None, List, [], ◌∷◌, ◌++◌, if◌then◌else◌, slice_get}
use Rattle.ada_values.specs.declared.values.Value.{Value}
use Rattle.typed_units.specs.declared.operators.Bounds.{Bounds}
use Rattle.statement_typing.specs.declared.parts.Share.{Share}
use Rattle.statement_typing.specs.Values.{count_of, in_ranges}

-- how many components there are
abbrev pub count_in : Bounds → ℕ
count_in b = count_of ((b.last -ℤ b.first) +ℤ pos 1)

-- the share gives the component of this number, where no share before it does
abbrev pub gives : Share → ℤ → Bool
gives s n = if in_ranges n s.ranges then true else s.others

-- the first share that gives the component of a number, where the shares are numbered from k
abbrev pub owner_from : ℕ → List Share → ℤ → Option ℕ
owner_from k [] n = None
owner_from k (s ∷ ss) n = if gives s n then Some k else owner_from (suc k) ss n

-- those of so many components from the number n on
abbrev pub owners_from : ℕ → List Share → ℕ → ℤ → List (Option ℕ)
owners_from k ss zero n = []
owners_from k ss (suc c) n = owner_from k ss n ∷ owners_from k ss c (n +ℤ pos 1)

-- the components from the number n on, of which those that are asked for get an owner
abbrev pub owned : Option ℕ → (ℤ → Bool) → ℤ → List (Option ℕ) → List (Option ℕ)
owned k p n [] = []
owned k p n (o ∷ os) = (if p n then k else o) ∷ owned k p (n +ℤ pos 1) os

abbrev pub value_in : Option Share → List Value
value_in None = []
value_in (Some s) = s.value ∷ []

-- what the share of a number gives
abbrev pub value_by : List Share → Option ℕ → List Value
value_by ss None = []
value_by ss (Some k) = value_in (slice_get ss k)

abbrev pub values_by : List Share → List (Option ℕ) → List Value
values_by ss [] = []
values_by ss (o ∷ os) = value_by ss o ++ values_by ss os
