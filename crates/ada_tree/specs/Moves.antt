-- The steps of a parse without what they say of the tokens.
use Rattle.std.specs.Prelude.{ℕ, suc, List, [], ◌∷◌, ◌++◌}
use Rattle.grammar_table.specs.declared.symbols.Symbol.{Symbol}
use Rattle.grammar_table.specs.declared.symbols.Symbol.TheVariants.{Token, Phrase}
use Rattle.grammar_table.specs.Parses.{Production, Step, take, expand, right_of}
use Rattle.ada_tree.specs.declared.weave.Move.{Move}
use Rattle.ada_tree.specs.declared.weave.Move.TheVariants.{Take, Expand}

abbrev pub moves_of : List Step → List Move
moves_of [] = []
moves_of (take t e ∷ steps) = Take ∷ moves_of steps
moves_of (expand k ∷ steps) = Expand k ∷ moves_of steps

-- the tokens that are taken
abbrev pub takes : List Move → ℕ
takes [] = 0
takes (Take ∷ ms) = suc (takes ms)
takes (Expand k ∷ ms) = takes ms

-- the symbols after the first phrase
abbrev pub after_phrase : List Symbol → List Symbol
after_phrase [] = []
after_phrase (Token t e ∷ ss) = after_phrase ss
after_phrase (Phrase n ∷ ss) = ss

-- a take for each token before the first phrase
abbrev pub takes_before : List Symbol → List Move
takes_before [] = []
takes_before (Token t e ∷ ss) = Take ∷ takes_before ss
takes_before (Phrase n ∷ ss) = []

-- the moves that turn these symbols into tokens by these productions
abbrev pub woven : List Production → List ℕ → List Symbol → List Move
woven g [] ss = takes_before ss
woven g (k ∷ ks) ss = takes_before ss ++ Expand k ∷ woven g ks (right_of g k ++ after_phrase ss)
