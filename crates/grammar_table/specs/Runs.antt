-- What a run has reached. No public contract rests on these definitions.
use Rattle.std.specs.Prelude.{◌≡◌, ◌<◌, ◌≤◌, ℕ, suc, Bool, true, false, List, [], ◌∷◌, ◌++◌, length, map, Option, Some, None}
use Rattle.std.specs.Prelude as list
use Rattle.grammar_table.specs.declared.run.Progress.{Progress}
use Rattle.grammar_table.specs.declared.run.Progress.TheVariants as progress
use Rattle.grammar_table.specs.declared.symbols.Construct.{Construct}
use Rattle.grammar_table.specs.declared.symbols.Symbol.{Symbol}
use Rattle.grammar_table.specs.declared.symbols.Symbol.TheVariants.{Token, Phrase}
use Rattle.grammar_table.specs.declared.symbols.Terminal.{Terminal}
use Rattle.grammar_table.specs.Answers.{start, BeginsWith, GoesOn}
use Rattle.grammar_table.specs.Choices.{place, among, choices_of, follows}
use Rattle.grammar_table.specs.Levels.{open_after, IsShallow}
use Rattle.grammar_table.specs.Parses.{Step, Parses, taken, effects, used}
use Rattle.grammar_table.specs.Productions.{productions}

-- a place of a token, or of the end, that these symbols can begin with
abbrev pub Ahead : List Symbol → ℕ → Type 0
Ahead [] at = at ≡ place None
Ahead (Token t e ∷ ss) at = at ≡ place (Some t)
Ahead (Phrase n ∷ ss) at = (k : ℕ) × (among (choices_of n) at ≡ Some k)

-- what stands behind each phrase may follow it
abbrev pub IsConsistent : List Symbol → Type 0
IsConsistent [] = Unit {0}
IsConsistent (Token t e ∷ ss) = IsConsistent ss
IsConsistent (Phrase n ∷ ss) = ((at : ℕ) → at < 128 → Ahead ss at → follows n at ≡ true) × IsConsistent ss

-- the steps that are done lead to the symbols that are left, and so does every parse of tokens that begin with those seen
pub record Leads (seen : List (Option Terminal)) (done : List Step) (left : List Symbol) : Type 0 where
  pub onward : (rest : List Step) → Parses productions left rest → Parses productions start (done ++ rest)
  pub only : (steps : List Step) → BeginsWith productions seen steps → (rest : List Step) × (steps ≡ done ++ rest) × Parses productions left rest
  pub consistent : IsConsistent left

-- a run that has seen these tokens, of which it has taken some, has used these productions, and has these levels open and these symbols left
pub record Reached (seen : List (Option Terminal)) (ts : List Terminal) (numbers : List ℕ) (levels : List Construct) (left : List Symbol) : Type 0 where
  pub done : List Step
  pub leads : Leads seen done left
  pub taken_is : taken done ≡ ts
  pub used_is : used done ≡ numbers
  pub levels_are : open_after [] (effects done) ≡ levels
  pub shallow : IsShallow (effects done)

-- these tokens, and then a token or the end
abbrev pub and_then : List Terminal → Option Terminal → List (Option Terminal)
and_then ts next = map Some ts ++ next ∷ []

-- no phrase stands first
abbrev pub IsSettled : List Symbol → Type 0
IsSettled [] = Unit {0}
IsSettled (Token t e ∷ ss) = Unit {0}
IsSettled (Phrase n ∷ ss) = ⊥

-- something that can be derived begins with these tokens, of which the last is the first to open level 201
abbrev pub IsTooDeepAfter : List Terminal → Terminal → Type 0
IsTooDeepAfter ts t =
    (steps : List Step) × BeginsWith productions (and_then ts (Some t)) steps × IsShallow (list.take (length ts) (effects steps)) × (¬ IsShallow (list.take (suc (length ts)) (effects steps)))

-- phrases were replaced until a token or nothing stands first, or nothing goes on so
abbrev pub Settles : Bool → List Terminal → Option Terminal → List ℕ → List Construct → List Symbol → Type 0
Settles true ts next numbers levels left = Reached (and_then ts next) ts numbers levels left × IsSettled left
Settles false ts next numbers levels left = ¬ GoesOn productions (and_then ts next)

-- what became of a token after these
abbrev pub IsProgress : Progress → List Terminal → Terminal → List ℕ → List Construct → List Symbol → Type 0
IsProgress progress.Taken ts t numbers levels left = Reached (map Some (ts ++ t ∷ [])) (ts ++ t ∷ []) numbers levels left
IsProgress progress.Unexpected ts t numbers levels left = ¬ GoesOn productions (and_then ts (Some t))
IsProgress progress.TooDeep ts t numbers levels left = IsTooDeepAfter ts t
