-- Every list of symbols stands for some tokens.
use Rattle.std.proofs.Common.{◌≡◌, ℕ, zero, suc, Bool, true, false, List, [], ◌∷◌, ◌++◌, refl, subst, append_assoc}
use Rattle.std.specs.Prelude.{◌&&◌}
use Rattle.std.proofs.lemmas.Bool.{false≢true}
use denote.Enum.Declared.{tag_of}
use Rattle.grammar_table.specs.contracts.symbols.Nonterminal as nonterminal
use Rattle.grammar_table.specs.declared.symbols.Nonterminal.{Nonterminal}
use Rattle.grammar_table.specs.declared.symbols.Nonterminal.TheVariants as non
use Rattle.grammar_table.specs.declared.symbols.Symbol.{Symbol}
use Rattle.grammar_table.specs.declared.symbols.Symbol.TheVariants.{Token, Phrase}
use Rattle.grammar_table.specs.Parses.{Production, Step, take, expand, left_of, right_of, Parses}
use Rattle.grammar_table.specs.Productions.{productions}
use Rattle.grammar_table.proofs.Laws.{is_at, tag_is}
use Rattle.grammar_table.proofs.Checks.{and_left, and_right}
use Rattle.grammar_table.proofs.Weights.{shortest, first_production, alternative}

-- the steps that replace each phrase by the production of its shortest completion; the number bounds them
unfoldable steps_of : ℕ → List Symbol → List Step
steps_of zero ss = []
steps_of (suc f) [] = []
steps_of (suc f) (Token t e ∷ ss) = take t e ∷ steps_of f ss
steps_of (suc f) (Phrase n ∷ ss) = expand (shortest n) ∷ steps_of f (right_of productions (shortest n) ++ ss)

abbrev is_own : Nonterminal → Bool
is_own n = is_at (tag_of nonterminal.the_type n) (left_of productions (shortest n))

-- whether they are enough
unfoldable ends : ℕ → List Symbol → Bool
ends zero [] = true
ends zero (s ∷ ss) = false
ends (suc f) [] = true
ends (suc f) (Token t e ∷ ss) = ends f ss
ends (suc f) (Phrase n ∷ ss) = is_own n && ends f (right_of productions (shortest n) ++ ss)

ends_parses : (f : ℕ) (ss : List Symbol) → ends f ss ≡ true → Parses productions ss (steps_of f ss)
unfolding ends steps_of
ends_parses zero [] e = tt
ends_parses zero (s ∷ ss) e = absurd (false≢true e)
ends_parses (suc f) [] e = tt
ends_parses (suc f) (Token t d ∷ ss) e = (refl, refl, ends_parses f ss e)
ends_parses (suc f) (Phrase n ∷ ss) e = (
  tag_is (tag_of nonterminal.the_type n) (left_of productions (shortest n)) n refl (and_left (is_own n) (ends f (right_of productions (shortest n) ++ ss)) e),
  ends_parses f (right_of productions (shortest n) ++ ss) (and_right (is_own n) (ends f (right_of productions (shortest n) ++ ss)) e),
)

phrase_ends : (n : Nonterminal) → ends 30 (Phrase n ∷ []) ≡ true
unfolding ends productions shortest first_production alternative
phrase_ends non.File = refl
phrase_ends non.Start = refl
phrase_ends non.Ids = refl
phrase_ends non.Unit = refl
phrase_ends non.Pack = refl
phrase_ends non.Priv = refl
phrase_ends non.EndId = refl
phrase_ends non.Decls = refl
phrase_ends non.Decl = refl
phrase_ends non.TypeDef = refl
phrase_ends non.Index = refl
phrase_ends non.IdxTail = refl
phrase_ends non.Box = refl
phrase_ends non.Comp = refl
phrase_ends non.Comps = refl
phrase_ends non.SubInd = refl
phrase_ends non.SubTail = refl
phrase_ends non.Obj = refl
phrase_ends non.Const = refl
phrase_ends non.Init = refl
phrase_ends non.Sub = refl
phrase_ends non.Params = refl
phrase_ends non.ParMore = refl
phrase_ends non.Param = refl
phrase_ends non.Mode = refl
phrase_ends non.InOut = refl
phrase_ends non.Body = refl
phrase_ends non.Asp = refl
phrase_ends non.AspMore = refl
phrase_ends non.Aspect = refl
phrase_ends non.AspVal = refl
phrase_ends non.Pragma = refl
phrase_ends non.PragArg = refl
phrase_ends non.Stmts = refl
phrase_ends non.StMore = refl
phrase_ends non.Stmt = refl
phrase_ends non.Act = refl
phrase_ends non.Elsifs = refl
phrase_ends non.Else = refl
phrase_ends non.When = refl
phrase_ends non.Whens = refl
phrase_ends non.Choice = refl
phrase_ends non.Choices = refl
phrase_ends non.Head = refl
phrase_ends non.Rev = refl
phrase_ends non.ExWhen = refl
phrase_ends non.RetVal = refl
phrase_ends non.Range = refl
phrase_ends non.RgTail = refl
phrase_ends non.Item = refl
phrase_ends non.Cond = refl
phrase_ends non.AllSome = refl
phrase_ends non.IfMore = refl
phrase_ends non.IfElse = refl
phrase_ends non.Args = refl
phrase_ends non.ArgMore = refl
phrase_ends non.Arg = refl
phrase_ends non.ArgMid = refl
phrase_ends non.ArgVal = refl
phrase_ends non.Expr = refl
phrase_ends non.Logic = refl
phrase_ends non.AndRest = refl
phrase_ends non.ThenMore = refl
phrase_ends non.AndMore = refl
phrase_ends non.OrRest = refl
phrase_ends non.ElseMore = refl
phrase_ends non.OrMore = refl
phrase_ends non.XorMore = refl
phrase_ends non.Rel = refl
phrase_ends non.RelTail = refl
phrase_ends non.RelOp = refl
phrase_ends non.Simple = refl
phrase_ends non.AddMore = refl
phrase_ends non.Term = refl
phrase_ends non.MulMore = refl
phrase_ends non.Factor = refl
phrase_ends non.Pow = refl
phrase_ends non.Primary = refl
phrase_ends non.Name = refl
phrase_ends non.Suffix = refl
phrase_ends non.Tick = refl

parses_append : (g : List Production) (xs ys : List Symbol) (s r : List Step) → Parses g xs s → Parses g ys r → Parses g (xs ++ ys) (s ++ r)
parses_append g [] ys [] r p q = q
parses_append g [] ys (take u f ∷ s) r p q = absurd p
parses_append g [] ys (expand k ∷ s) r p q = absurd p
parses_append g (Token t e ∷ xs) ys [] r p q = absurd p
parses_append g (Token t e ∷ xs) ys (take u f ∷ s) r p q = (p.0, p.1, parses_append g xs ys s r p.2 q)
parses_append g (Token t e ∷ xs) ys (expand k ∷ s) r p q = absurd p
parses_append g (Phrase n ∷ xs) ys [] r p q = absurd p
parses_append g (Phrase n ∷ xs) ys (take u f ∷ s) r p q = absurd p
parses_append g (Phrase n ∷ xs) ys (expand k ∷ s) r p q = (
  p.0,
  subst (λ (l : List Symbol). Parses g l (s ++ r)) (append_assoc (right_of g k) xs ys) (parses_append g (right_of g k ++ xs) ys s r p.1 q),
)

pub completes : (ss : List Symbol) → (steps : List Step) × Parses productions ss steps
completes [] = ([], tt)
completes (Token t e ∷ ss) = (take t e ∷ (completes ss).0, (refl, refl, (completes ss).1))
completes (Phrase n ∷ ss) = (
  steps_of 30 (Phrase n ∷ []) ++ (completes ss).0,
  parses_append productions (Phrase n ∷ []) ss (steps_of 30 (Phrase n ∷ [])) (completes ss).0 (ends_parses 30 (Phrase n ∷ []) (phrase_ends n)) (completes ss).1,
)
