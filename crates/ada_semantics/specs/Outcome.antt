-- What an evaluation gives, with the budget that is left.
use Rattle.std.specs.Prelude.{ℕ, zero, suc, Bool, true, false, Option, Some, None}
use Rattle.ada_values.specs.declared.place.Place.{Place}
use Rattle.typed_units.specs.declared.checks.CheckKind.{CheckKind}
use Rattle.typed_units.specs.declared.checks.SiteKey.{SiteKey}

-- something, with what is left of the budget; a failing check, at its site; a budget that is spent; or the read of
-- something that was never set
pub data Res (A : Type 0) : Type 0 where
  gives : A → ℕ → Res A
  fails : SiteKey → Res A
  short : Res A
  unset : Res A

abbrev pub bind : {A B : Type 0} → Res A → (A → ℕ → Res B) → Res B
bind (gives a n) go = go a n
bind (fails c) go = fails c
bind short go = short
bind unset go = unset

-- one unit of the budget
abbrev pub spend : {A : Type 0} → ℕ → (ℕ → Res A) → Res A
spend zero go = short
spend (suc n) go = go n

abbrev pub pick : {A : Type 0} → Bool → A → A → A
pick true a b = a
pick false a b = b

-- what was set, which may be nothing
abbrev pub wanted : {A : Type 0} → Option A → ℕ → Res A
wanted None n = unset
wanted (Some a) n = gives a n

abbrev pub site : Place → CheckKind → SiteKey
site p k = record { place = p; kind = k }

-- goes on where the check holds
abbrev pub check : {A : Type 0} → Bool → Place → CheckKind → Res A → Res A
check true p k go = go
check false p k go = fails (site p k)
