-- The moves of a parse are those that its productions give.
use Rattle.std.proofs.Common.{◌≡◌, refl, ◌∙◌, ap, ℕ, List, [], ◌∷◌, ◌++◌}
use Rattle.grammar_table.specs.declared.symbols.Symbol.{Symbol}
use Rattle.grammar_table.specs.declared.symbols.Symbol.TheVariants.{Token, Phrase}
use Rattle.grammar_table.specs.Parses.{Production, Parses, Step, take, expand, used, right_of}
use Rattle.ada_tree.specs.declared.weave.Move.TheVariants.{Take, Expand}
use Rattle.ada_tree.specs.Moves.{moves_of, woven}

-- a token in front is taken first
woven_token : (g : List Production) (ks : List ℕ) (s : _) (e : _) (ss : List Symbol) → woven g ks (Token s e ∷ ss) ≡ Take ∷ woven g ks ss
woven_token g [] s e ss = refl
woven_token g (k ∷ ks) s e ss = refl

pub woven_parse : (g : List Production) (ss : List Symbol) (steps : List Step) → Parses g ss steps → woven g (used steps) ss ≡ moves_of steps
woven_parse g [] [] p = refl
woven_parse g [] (s ∷ steps) p = absurd p
woven_parse g (Token t e ∷ ss) [] p = absurd p
woven_parse g (Token t e ∷ ss) (take u f ∷ steps) p = woven_token g (used steps) t e ss ∙ ap (λ ms. Take ∷ ms) (woven_parse g ss steps p.2)
woven_parse g (Token t e ∷ ss) (expand k ∷ steps) p = absurd p
woven_parse g (Phrase n ∷ ss) [] p = absurd p
woven_parse g (Phrase n ∷ ss) (take u f ∷ steps) p = absurd p
woven_parse g (Phrase n ∷ ss) (expand k ∷ steps) p = ap (λ ms. Expand k ∷ ms) (woven_parse g (right_of g k ++ ss) steps p.1)
