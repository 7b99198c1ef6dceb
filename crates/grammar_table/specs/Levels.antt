-- The levels that are open at a token: each pair of parentheses, each if, case and loop statement, each if-expression,
-- each membership test, and each operator, `.` and `'`. The level of an operator closes at the bracket, separator or
-- word that ends its expression; `..` ends the bound before it, and no membership test around it.
use Rattle.std.specs.Prelude.{ℕ, ◌≤◌, nat_le, List, [], ◌∷◌, length, take, drop, if◌then◌else◌}
use Rattle.grammar_table.specs.declared.symbols.Construct.{Construct}
use Rattle.grammar_table.specs.declared.symbols.Construct.TheVariants.{Operator, Membership, Conditional, Enclosure}
use Rattle.grammar_table.specs.declared.symbols.Effect.{Effect}
use Rattle.grammar_table.specs.declared.symbols.Effect.TheVariants.{Plain, Opens, Ends, Begins, Closes}

abbrev pub rank : Construct → ℕ
rank Operator = 0
rank Membership = 1
rank Conditional = 2
rank Enclosure = 3

-- what is open, the last opened first, without the constructs at its front that are no greater than `c`
abbrev pub closed : Construct → List Construct → List Construct
closed c [] = []
closed c (o ∷ open') = if nat_le (rank o) (rank c) then closed c open' else o ∷ open'

-- what is open after a token
abbrev pub after : Effect → List Construct → List Construct
after Plain open' = open'
after (Opens c) open' = c ∷ open'
after (Ends c) open' = closed c open'
after Begins open' = Enclosure ∷ closed Conditional open'
after Closes open' = drop 1 (closed Conditional open')

-- what is open after further tokens
abbrev pub open_after : List Construct → List Effect → List Construct
open_after open' [] = open'
open_after open' (e ∷ es) = open_after (after e open') es

-- no token opens level 201
abbrev pub IsShallow : List Effect → Type 0
IsShallow es = (k : ℕ) → length (open_after [] (take k es)) ≤ 200
