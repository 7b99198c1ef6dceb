-- The answer to a certificate: each line is allowed, and the last clause is empty.
use Rattle.std.specs.Prelude.{◌≡◌, ℕ, suc, ◌+◌, Bool, true, false, List, [], ◌∷◌, ◌++◌, length, if◌then◌else◌}
use Rattle.logic_terms.specs.Node.{Node}
use Rattle.logic_terms.specs.Sorting.{Problem, IsWellSorted, IsValid}
use Rattle.cert_lines.specs.Line.{Line, witness, Code, code_of}
use Rattle.cert_rules.specs.Judged.{Judged, yields, refused, too_wide}
use Rattle.cert_rules.specs.Context.{Context, start}
use Rattle.cert_rules.specs.Rules.{judge}

pub data Answer : Type 0 where
  accepted : Answer
  not_allowed : ℕ → Code → Answer
  leaves_range : ℕ → Answer
  no_end : Answer

-- a line of rule C7 makes a new symbol
abbrev pub new_symbols : Line → ℕ
new_symbols (witness k q) = 1
new_symbols _ = 0

abbrev pub with_line : Context → Line → List Node → Context
with_line c l clause = record { goal = c.goal; fresh = new_symbols l + c.fresh; earlier = c.earlier ++ clause ∷ [] }

abbrev pub ends_empty : List (List Node) → Bool
ends_empty [] = false
ends_empty ([] ∷ []) = true
ends_empty (_ ∷ []) = false
ends_empty (c ∷ d ∷ cs) = ends_empty (d ∷ cs)

-- the answer after a line, which is numbered from 1; `goes_on` is what the lines after it find
abbrev pub answer_after : Context → Line → Judged (List Node) → (Context → Answer) → Answer
answer_after c l (yields clause) goes_on = goes_on (with_line c l clause)
answer_after c l refused goes_on = not_allowed (suc (length c.earlier)) (code_of l)
answer_after c l too_wide goes_on = leaves_range (suc (length c.earlier))

abbrev pub answer_from : Context → List Line → Answer
answer_from c [] = if ends_empty c.earlier then accepted else no_end
answer_from c (l ∷ ls) = answer_after c l (judge c l) (λ d. answer_from d ls)

abbrev pub answer_to : Problem → List Line → Answer
answer_to g ls = answer_from (start g) ls

-- of a well sorted goal an accepted certificate makes it valid
abbrev pub CertificatesAreSound : Type 0
CertificatesAreSound = (g : Problem) (ls : List Line) → IsWellSorted g → answer_to g ls ≡ accepted → IsValid g
