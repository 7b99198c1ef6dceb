-- Parses: a derivation that replaces the leftmost phrase each time, together with the tokens that it takes on the way.
use Rattle.std.specs.Prelude.{◌≡◌, ℕ, zero, suc, List, [], ◌∷◌, ◌++◌, Option, Some, None}
use Rattle.grammar_table.specs.declared.symbols.Effect.{Effect}
use Rattle.grammar_table.specs.declared.symbols.Nonterminal.{Nonterminal}
use Rattle.grammar_table.specs.declared.symbols.Symbol.{Symbol}
use Rattle.grammar_table.specs.declared.symbols.Symbol.TheVariants.{Token, Phrase}
use Rattle.grammar_table.specs.declared.symbols.Terminal.{Terminal}

-- a production: its right side stands for its left side
pub record Production : Type 0 where
  pub left : Nonterminal
  pub right : List Symbol

pub data Step : Type 0 where
  -- the token that stands first is taken
  take : Terminal → Effect → Step
  -- the phrase that stands first is replaced by the right side of this production, from 0
  expand : ℕ → Step

-- the left side of production k, if there is one
abbrev pub left_of : List Production → ℕ → Option Nonterminal
left_of [] k = None
left_of (p ∷ ps) zero = Some p.left
left_of (p ∷ ps) (suc k) = left_of ps k

-- the right side of production k; nothing where there is none
abbrev pub right_of : List Production → ℕ → List Symbol
right_of [] k = []
right_of (p ∷ ps) zero = p.right
right_of (p ∷ ps) (suc k) = right_of ps k

-- the steps turn these symbols into tokens alone, and take them all, from left to right
abbrev pub Parses : List Production → List Symbol → List Step → Type 0
Parses g [] [] = Unit {0}
Parses g (Token t e ∷ ss) (take u f ∷ steps) = (t ≡ u) × (e ≡ f) × Parses g ss steps
Parses g (Phrase n ∷ ss) (expand k ∷ steps) = (left_of g k ≡ Some n) × Parses g (right_of g k ++ ss) steps
Parses g _ _ = ⊥

-- the tokens that are taken
abbrev pub taken : List Step → List Terminal
taken [] = []
taken (take t e ∷ steps) = t ∷ taken steps
taken (expand k ∷ steps) = taken steps

-- and what they do to the levels
abbrev pub effects : List Step → List Effect
effects [] = []
effects (take t e ∷ steps) = e ∷ effects steps
effects (expand k ∷ steps) = effects steps

-- the productions that are used
abbrev pub used : List Step → List ℕ
used [] = []
used (take t e ∷ steps) = used steps
used (expand k ∷ steps) = k ∷ used steps
