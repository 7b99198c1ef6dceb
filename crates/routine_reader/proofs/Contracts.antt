-- A heading by the home and the indexes of its contract is the heading that the rules speak of.
use Rattle.std.proofs.Common.{◌≡◌, ◌∙◌, ap, sym, ℕ, Bool, true, List, [], length, Some}
use Rattle.reading_scope.specs.Numbers.{number_in}
use Rattle.reading_scope.specs.declared.numbers.Numbered.{Numbered}
use Rattle.routine_reader.specs.Headings.{heading_with}
use Rattle.statement_typing.specs.declared.draft.Draft.{Draft}
use Rattle.statement_typing.specs.Files.{Home}
use Rattle.statement_typing.specs.Numbers.{in_contract, numbered}
use Rattle.statement_typing.specs.Units.{with_heading}
use Rattle.syntax_view.specs.Trees as tree

-- the home of the contract of subprogram q, by the numbers of its indexes
abbrev pub home_by : Home → ℕ → List Numbered → Home
home_by h q numbers = record h { own = Some q; number = number_in numbers }

pub first_heading : (h : Home) (q : ℕ) (s : tree.Heading) (d : Draft) (first : Bool) (indexes : List ℕ) (numbers : List Numbered) (count : ℕ)
    → first ≡ true → indexes ≡ in_contract h.file.word s → numbers ≡ numbered 0 indexes [] [] → count ≡ length indexes
    → heading_with h (home_by h q numbers) q s count d ≡ with_heading first h q s d
first_heading h q s d first indexes numbers count is_first listed named counted =
    ap (λ (n : ℕ). heading_with h (home_by h q numbers) q s n d) (counted ∙ ap length listed)
    ∙ ap (λ (ns : List Numbered). heading_with h (home_by h q ns) q s (length (in_contract h.file.word s)) d) (named ∙ ap (λ (is : List ℕ). numbered 0 is [] []) listed)
    ∙ ap (λ (b : Bool). with_heading b h q s d) (sym is_first)
