-- What a sink does after a write.
use Rattle.std.specs.Prelude.{ℕ, zero, suc, ◌⊎◌}
use Rattle.keeper_io.specs.declared.out_sink.Decision.{Decision}
use Rattle.keeper_io.specs.declared.out_sink.Decision.TheVariants.{Take, Fail}

-- after a write that took so many bytes of those given: none of some is a failure
abbrev pub decision_on_count : ℕ → ℕ → Decision
decision_on_count zero (suc given) = Fail
decision_on_count zero zero = Take 0
decision_on_count (suc taken) given = Take (suc taken)

-- the one where P holds, and the other where it doesn't
abbrev pub EitherWay : Type 0 → Type 0 → Type 0 → Type 0
EitherWay P one other = (P × one) ⊎ ((P → ⊥) × other)
