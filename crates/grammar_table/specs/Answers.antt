-- The answers for a list of tokens.
use Rattle.std.specs.Prelude.{◌≡◌, ◌<◌, ◌≤◌, ℕ, suc, List, [], ◌∷◌, ◌++◌, length, map, Option, Some, None, Result, Ok, Err}
use Rattle.std.specs.Prelude as list
use Rattle.ada_text.specs.declared.token.Token.{Token}
use Rattle.ada_text.specs.declared.token.TokenKind.{TokenKind}
use Rattle.ada_text.specs.declared.token.TokenKind.TheVariants as kind
use Rattle.grammar_table.specs.declared.answers.Derivation.{Derivation}
use Rattle.grammar_table.specs.declared.answers.SyntaxFault.{SyntaxFault}
use Rattle.grammar_table.specs.declared.answers.SyntaxFault.TheVariants as fault
use Rattle.grammar_table.specs.declared.symbols.Nonterminal.TheVariants.{File}
use Rattle.grammar_table.specs.declared.symbols.Symbol.{Symbol}
use Rattle.grammar_table.specs.declared.symbols.Symbol.TheVariants.{Phrase}
use Rattle.grammar_table.specs.declared.symbols.Terminal.{Terminal}
use Rattle.grammar_table.specs.declared.symbols.Terminal.TheVariants as terminal
use Rattle.grammar_table.specs.Parses.{Production, Step, Parses, taken, effects, used}
use Rattle.grammar_table.specs.Levels.{IsShallow}

abbrev pub terminal_of : TokenKind → Terminal
terminal_of kind.Id = terminal.Identifier
terminal_of (kind.Number v) = terminal.Number
terminal_of (kind.Word w) = terminal.Word w
terminal_of (kind.Mark m) = terminal.Mark m

-- tokens without what they say
abbrev pub terminals : List Token → List Terminal
terminals ts = map (λ t. terminal_of t.kind) ts

-- a compilation unit with its context (Ada RM 10.1.1)
abbrev pub start : List Symbol
start = Phrase File ∷ []

-- a derivation of these tokens, none of which opens level 201
abbrev pub Derives : List Production → List Terminal → List ℕ → Type 0
Derives g ts d = (steps : List Step) × Parses g start steps × (taken steps ≡ ts) × (used steps ≡ d) × IsShallow (effects steps)

-- the end counts as a token
abbrev pub with_end : List Terminal → List (Option Terminal)
with_end ts = map Some ts ++ None ∷ []

-- the steps derive a list of tokens that begins so
abbrev pub BeginsWith : List Production → List (Option Terminal) → List Step → Type 0
BeginsWith g front steps = Parses g start steps × ((rest : List (Option Terminal)) × (with_end (taken steps) ≡ front ++ rest))

-- something that can be derived begins so
abbrev pub GoesOn : List Production → List (Option Terminal) → Type 0
GoesOn g front = (steps : List Step) × BeginsWith g front steps

-- k is the first token after which nothing that can be derived goes on so, and no token before it opens level 201
abbrev pub IsUnexpected : List Production → List Terminal → ℕ → Type 0
IsUnexpected g ts k =
    (k ≤ length ts)
    × ((steps : List Step) × BeginsWith g (list.take k (with_end ts)) steps × IsShallow (list.take k (effects steps)))
    × (¬ GoesOn g (list.take (suc k) (with_end ts)))

-- something that can be derived begins with the tokens up to k, of which k is the first to open level 201
abbrev pub IsTooDeep : List Production → List Terminal → ℕ → Type 0
IsTooDeep g ts k =
    (k < length ts)
    × ((steps : List Step) × BeginsWith g (list.take (suc k) (with_end ts)) steps × IsShallow (list.take k (effects steps)) × (¬ IsShallow (list.take (suc k) (effects steps))))

-- the fault is right; the refusal of memory is no answer
abbrev pub IsFault : List Production → List Terminal → SyntaxFault → Type 0
IsFault g ts (fault.Unexpected k) = IsUnexpected g ts k
IsFault g ts (fault.TooDeep k) = IsTooDeep g ts k
IsFault g ts fault.Starved = ⊥

-- an answer is right
abbrev pub IsAnswer : List Production → List Terminal → Result Derivation SyntaxFault → Type 0
IsAnswer g ts (Ok d) = Derives g ts d.productions
IsAnswer g ts (Err f) = IsFault g ts f
