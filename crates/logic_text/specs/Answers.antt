-- The answers for the bytes of a goal.
use Rattle.std.specs.Prelude.{◌≡◌, ◌≤◌, ◌^◌, ◌*◌, ◌<◌, ℕ, true, Bool, ◌&&◌, List, [], ◌∷◌, length, map, None, All}
use Rattle.logic_terms.specs.Sorts.{sort}
use Rattle.logic_terms.specs.Value.{Kind}
use Rattle.logic_terms.specs.declared.goal.Goal.{Goal}
use Rattle.logic_terms.specs.declared.goal.Symbol.{Symbol}
use Rattle.logic_terms.specs.declared.goal.Role.TheVariants.{Plain}
use Rattle.logic_terms.specs.Node.{Node}
use Rattle.logic_terms.specs.Sorting.{Problem}
use Rattle.term_reader.specs.Values.{is_node}
use Rattle.term_reader.specs.declared.part.Side.TheVariants.{Formula}
use Rattle.term_reader.specs.Texts.{IsBadText}
use Rattle.logic_text.specs.Goals.{goal_bytes}
use Rattle.logic_text.specs.declared.fault.TextFault.{TextFault}
use Rattle.logic_text.specs.declared.fault.TextFault.TheVariants as fault

abbrev pub are_formulas : List Node → Bool
are_formulas [] = true
are_formulas (p ∷ ps) = is_node Formula p && are_formulas ps

-- formulas, whose numbers fit
abbrev pub IsGoal : Problem → Type 0
IsGoal p = (are_formulas p.hypotheses ≡ true) × (is_node Formula p.conclusion ≡ true)

-- byte `at` is the first after which no text of a goal goes on so
abbrev pub IsBadGoal : List ℕ → ℕ → Type 0
IsBadGoal b at = IsBadText IsGoal goal_bytes b at

abbrev pub kinds_of : List Symbol → List Kind
kinds_of ss = map (λ s. sort s.sort) ss

-- 4 MiB
abbrev pub most_goal_bytes : ℕ
most_goal_bytes = 4 * 2 ^ 20

-- no roles and no numbers of subprograms
abbrev pub IsPlain : Goal → Type 0
IsPlain g = All (λ s. s.role ≡ Plain) g.symbols × All (λ c. c.sub ≡ None) g.calls

-- why a text is not read as a goal; want of memory needs no other cause
abbrev pub IsGoalFault : List ℕ → TextFault → Type 0
IsGoalFault b fault.TooLong = most_goal_bytes < length b
IsGoalFault b (fault.BadText at) = (length b ≤ most_goal_bytes) × IsBadGoal b at
IsGoalFault b fault.Starved = length b ≤ most_goal_bytes
