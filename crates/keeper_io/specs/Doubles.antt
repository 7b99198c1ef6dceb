-- The calls that are to fail, of the keeper and the sink in memory.
use Rattle.std.specs.Prelude.{ℕ, ◌+◌, ◌-◌, ◌^◌, min, Contains}
use Rattle.keeper_io.specs.declared.failing_calls.FailingCalls.{FailingCalls}

-- one more than a count, which stays at its type's end
abbrev pub one_more : ℕ → ℕ
one_more count = min (count + 1) (2 ^ 64 - 1)

-- the next call, counted from 1, is one of those that are to fail
abbrev pub NextFails : FailingCalls → Type 0
NextFails calls = Contains calls.failing (one_more calls.made)
