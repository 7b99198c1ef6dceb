-- What a rule says of a line: it yields something, it does not allow the line, or a number leaves 128 bits before that is known.
use Rattle.std.specs.Prelude.{ℕ, zero, suc, Bool, true, false, List, [], ◌∷◌, ◌==◌, if◌then◌else◌}
use Rattle.logic_terms.specs.Node.{Node}

pub data Judged (A : Type 0) : Type 0 where
  yields : A → Judged A
  refused : Judged A
  too_wide : Judged A

abbrev pub and_then : {A B : Type 0} → Judged A → (A → Judged B) → Judged B
and_then (yields a) f = f a
and_then refused f = refused
and_then too_wide f = too_wide

-- refused unless the condition holds
abbrev pub when : {A : Type 0} → Bool → Judged A → Judged A
when true x = x
when false x = refused

-- too wide unless the numbers fit
abbrev pub fitting : {A : Type 0} → Bool → A → Judged A
fitting true a = yields a
fitting false a = too_wide

-- one of the clauses of a rule, by its number
abbrev pub part_of : List (List Node) → ℕ → Judged (List Node)
part_of [] n = refused
part_of (c ∷ cs) zero = yields c
part_of (c ∷ cs) (suc n) = part_of cs n

-- a clause that has this number alone
abbrev pub only : ℕ → List Node → ℕ → Judged (List Node)
only k c n = if n == k then yields c else refused
