-- The choice of a production by the next token. No public contract rests on these definitions: that they fit the
-- productions is proved.
use Rattle.std.specs.Prelude.{◌≡◌, ◌<◌, ℕ, suc, ◌+◌, ◌/◌, ◌%◌, ◌^◌, ◌==◌, Bool, List, [], ◌∷◌, Option, Some, None, map, drop, slice_index, if◌then◌else◌}
use denote.Enum.Declared.{tag_of}
use Rattle.ada_text.specs.contracts.delimiters.Delimiter as delimiter
use Rattle.ada_text.specs.contracts.reserved.Reserved as reserved
use Rattle.ada_text.specs.declared.delimiters.Delimiter.{Delimiter}
use Rattle.ada_text.specs.declared.delimiters.Delimiter.TheVariants as mark
use Rattle.ada_text.specs.declared.reserved.Reserved.{Reserved}
use Rattle.ada_text.specs.declared.reserved.Reserved.TheVariants as word
use Rattle.grammar_table.specs.contracts.symbols.Nonterminal as nonterminal
use Rattle.grammar_table.specs.declared.productions.Head.{Head}
use Rattle.grammar_table.specs.declared.productions.TheConstants.{ROWS}
use Rattle.grammar_table.specs.declared.symbols.Nonterminal.{Nonterminal}
use Rattle.grammar_table.specs.declared.symbols.Nonterminal.TheVariants as non
use Rattle.grammar_table.specs.declared.symbols.Terminal.{Terminal}
use Rattle.grammar_table.specs.declared.symbols.Terminal.TheVariants.{Identifier, Number, Word, Mark}

-- the place of a token in sets of tokens, and of the end
abbrev pub place : Option Terminal → ℕ
place None = 0
place (Some Identifier) = 1
place (Some Number) = 2
place (Some (Word w)) = 3 + tag_of reserved.the_type w
place (Some (Mark m)) = 76 + tag_of delimiter.the_type m

-- a set has the tokens whose bits are set
unfoldable pub has : ℕ → ℕ → Bool
has set at = (set / 2 ^ at) % 2 == 1

-- ---- the rows of the table

-- the rows without their right sides
unfoldable pub heads : List Head
heads = map (λ r. r.0) ROWS

-- the number of the first row of a nonterminal, by the place of its name; the rows count from k
abbrev pub first_from : ℕ → ℕ → List Head → ℕ
first_from at k [] = k
first_from at k (h ∷ hs) = if tag_of nonterminal.the_type h.left == at then k else first_from at (suc k) hs

unfoldable pub first_of : ℕ → ℕ
first_of at = first_from at 0 heads

-- the first rows of the nonterminals, in their order
abbrev pub AreFirsts : List ℕ → Type 0
AreFirsts firsts = (at : ℕ) → at < 81 → slice_index firsts at ≡ first_of at

-- ---- the choice

-- a production, and the tokens before which it replaces its left side
pub record Choice : Type 0 where
  pub production : ℕ
  pub before : ℕ

-- the rows of a nonterminal that stand together at the front
abbrev pub choices_from : ℕ → ℕ → List Head → List Choice
choices_from at k [] = []
choices_from at k (h ∷ hs) = if tag_of nonterminal.the_type h.left == at then record { production = k; before = h.before } ∷ choices_from at (suc k) hs else []

unfoldable pub choices_of : Nonterminal → List Choice
choices_of phrase =
    choices_from (tag_of nonterminal.the_type phrase) (first_of (tag_of nonterminal.the_type phrase)) (drop (first_of (tag_of nonterminal.the_type phrase)) heads)

-- the production of the first choice whose set has the token at this place
abbrev pub among : List Choice → ℕ → Option ℕ
among [] at = None
among (c ∷ cs) at = if has c.before at then Some c.production else among cs at

-- the same from rows that count from k: the first of the nonterminal's rows at the front whose set has the token
abbrev pub pick : ℕ → ℕ → ℕ → List Head → Option ℕ
pick at p k [] = None
pick at p k (h ∷ hs) = if tag_of nonterminal.the_type h.left == at then (if has h.before p then Some k else pick at p (k + 1) hs) else None

-- the production that replaces a phrase before a token or the end
abbrev pub predict : Nonterminal → Option Terminal → Option ℕ
predict phrase next = among (choices_of phrase) (place next)

-- ---- what may follow

abbrev pub the_end : ℕ
the_end = 2 ^ place None

abbrev pub identifiers : ℕ
identifiers = 2 ^ place (Some Identifier)

abbrev pub numbers : ℕ
numbers = 2 ^ place (Some Number)

abbrev pub words : List Reserved → ℕ
words [] = 0
words (w ∷ ws) = 2 ^ place (Some (Word w)) + words ws

abbrev pub marks : List Delimiter → ℕ
marks [] = 0
marks (m ∷ ms) = 2 ^ place (Some (Mark m)) + marks ms

-- what an expression begins with
unfoldable pub expression_start : ℕ
expression_start = identifiers + numbers + words (word.Abs ∷ word.Not ∷ word.Null ∷ []) + marks (mark.Open ∷ mark.Plus ∷ mark.Minus ∷ [])

-- what a statement begins with
unfoldable pub statement_start : ℕ
statement_start = identifiers + words (word.Case ∷ word.Exit ∷ word.For ∷ word.If ∷ word.Loop ∷ word.Null ∷ word.Pragma ∷ word.Return ∷ word.While ∷ [])

-- what may follow an expression
unfoldable pub after_expression : ℕ
after_expression = words (word.Else ∷ word.Elsif ∷ word.Is ∷ word.Loop ∷ word.Then ∷ []) + marks (mark.Arrow ∷ mark.Close ∷ mark.Comma ∷ mark.Semicolon ∷ [])

-- a relation
unfoldable pub after_relation : ℕ
after_relation = after_expression + words (word.And ∷ word.Or ∷ word.Xor ∷ [])

-- a simple expression
unfoldable pub after_simple : ℕ
after_simple = after_relation + words (word.In ∷ word.Not ∷ word.Range ∷ []) + marks (mark.NotEqual ∷ mark.AtLeast ∷ mark.AtMost ∷ mark.Equal ∷ mark.Less ∷ mark.Greater ∷ mark.DoubleDot ∷ mark.Assign ∷ mark.Bar ∷ [])

-- a term
unfoldable pub after_term : ℕ
after_term = after_simple + marks (mark.Plus ∷ mark.Minus ∷ [])

-- a factor
unfoldable pub after_factor : ℕ
after_factor = after_term + words (word.Mod ∷ word.Rem ∷ []) + marks (mark.Star ∷ mark.Slash ∷ [])

-- the tokens that may follow a phrase
unfoldable pub follow_set : Nonterminal → ℕ
follow_set non.File = the_end
follow_set non.Start = words (word.Function ∷ word.Package ∷ word.Procedure ∷ [])
follow_set non.Ids = marks (mark.Close ∷ mark.Semicolon ∷ mark.Colon ∷ [])
follow_set non.Unit = the_end
follow_set non.Pack = the_end
follow_set non.Priv = words (word.End ∷ [])
follow_set non.EndId = marks (mark.Semicolon ∷ [])
follow_set non.Decls = words (word.Begin ∷ word.End ∷ word.Private ∷ [])
follow_set non.Decl = identifiers + words (word.Begin ∷ word.End ∷ word.Function ∷ word.Pragma ∷ word.Private ∷ word.Procedure ∷ word.Subtype ∷ word.Type ∷ word.Use ∷ [])
follow_set non.TypeDef = marks (mark.Semicolon ∷ [])
follow_set non.Index = marks (mark.Close ∷ [])
follow_set non.IdxTail = marks (mark.Close ∷ [])
follow_set non.Box = marks (mark.Close ∷ [])
follow_set non.Comp = identifiers + words (word.End ∷ [])
follow_set non.Comps = words (word.End ∷ [])
follow_set non.SubInd = marks (mark.Assign ∷ mark.Close ∷ mark.Semicolon ∷ [])
follow_set non.SubTail = marks (mark.Assign ∷ mark.Close ∷ mark.Semicolon ∷ [])
follow_set non.Obj = marks (mark.Semicolon ∷ [])
follow_set non.Const = marks (mark.Semicolon ∷ [])
follow_set non.Init = marks (mark.Semicolon ∷ [])
follow_set non.Sub = the_end + identifiers + words (word.Begin ∷ word.End ∷ word.Function ∷ word.Pragma ∷ word.Private ∷ word.Procedure ∷ word.Subtype ∷ word.Type ∷ word.Use ∷ [])
follow_set non.Params = words (word.Is ∷ word.Return ∷ word.With ∷ []) + marks (mark.Semicolon ∷ [])
follow_set non.ParMore = marks (mark.Close ∷ [])
follow_set non.Param = marks (mark.Close ∷ mark.Semicolon ∷ [])
follow_set non.Mode = identifiers
follow_set non.InOut = identifiers
follow_set non.Body = the_end + identifiers + words (word.Begin ∷ word.End ∷ word.Function ∷ word.Pragma ∷ word.Private ∷ word.Procedure ∷ word.Subtype ∷ word.Type ∷ word.Use ∷ [])
follow_set non.Asp = words (word.Is ∷ []) + marks (mark.Semicolon ∷ [])
follow_set non.AspMore = words (word.Is ∷ []) + marks (mark.Semicolon ∷ [])
follow_set non.Aspect = words (word.Is ∷ []) + marks (mark.Comma ∷ mark.Semicolon ∷ [])
follow_set non.AspVal = words (word.Is ∷ []) + marks (mark.Comma ∷ mark.Semicolon ∷ [])
follow_set non.Pragma = statement_start + words (word.Begin ∷ word.Else ∷ word.Elsif ∷ word.End ∷ word.Function ∷ word.Package ∷ word.Private ∷ word.Procedure ∷ word.Subtype ∷ word.Type ∷ word.Use ∷ word.When ∷ word.With ∷ [])
follow_set non.PragArg = marks (mark.Semicolon ∷ [])
follow_set non.Stmts = words (word.Else ∷ word.Elsif ∷ word.End ∷ word.When ∷ [])
follow_set non.StMore = words (word.Else ∷ word.Elsif ∷ word.End ∷ word.When ∷ [])
follow_set non.Stmt = statement_start + words (word.Else ∷ word.Elsif ∷ word.End ∷ word.When ∷ [])
follow_set non.Act = marks (mark.Semicolon ∷ [])
follow_set non.Elsifs = words (word.Else ∷ word.End ∷ [])
follow_set non.Else = words (word.End ∷ [])
follow_set non.When = words (word.End ∷ word.When ∷ [])
follow_set non.Whens = words (word.End ∷ [])
follow_set non.Choice = marks (mark.Arrow ∷ mark.Bar ∷ [])
follow_set non.Choices = marks (mark.Arrow ∷ [])
follow_set non.Head = words (word.Loop ∷ [])
follow_set non.Rev = expression_start
follow_set non.ExWhen = marks (mark.Semicolon ∷ [])
follow_set non.RetVal = marks (mark.Semicolon ∷ [])
follow_set non.Range = after_relation + marks (mark.Bar ∷ [])
follow_set non.RgTail = after_relation + marks (mark.Bar ∷ [])
follow_set non.Item = words (word.Is ∷ []) + marks (mark.Close ∷ mark.Comma ∷ mark.Semicolon ∷ [])
follow_set non.Cond = words (word.Is ∷ []) + marks (mark.Arrow ∷ mark.Close ∷ mark.Comma ∷ mark.Semicolon ∷ [])
follow_set non.AllSome = identifiers
follow_set non.IfMore = words (word.Else ∷ word.Is ∷ []) + marks (mark.Arrow ∷ mark.Close ∷ mark.Comma ∷ mark.Semicolon ∷ [])
follow_set non.IfElse = words (word.Is ∷ []) + marks (mark.Arrow ∷ mark.Close ∷ mark.Comma ∷ mark.Semicolon ∷ [])
follow_set non.Args = marks (mark.Close ∷ [])
follow_set non.ArgMore = marks (mark.Close ∷ [])
follow_set non.Arg = marks (mark.Close ∷ mark.Comma ∷ [])
follow_set non.ArgMid = marks (mark.Close ∷ mark.Comma ∷ [])
follow_set non.ArgVal = marks (mark.Close ∷ mark.Comma ∷ [])
follow_set non.Expr = after_expression
follow_set non.Logic = after_expression
follow_set non.AndRest = after_expression
follow_set non.ThenMore = after_expression
follow_set non.AndMore = after_expression
follow_set non.OrRest = after_expression
follow_set non.ElseMore = after_expression
follow_set non.OrMore = after_expression
follow_set non.XorMore = after_expression
follow_set non.Rel = after_relation
follow_set non.RelTail = after_relation
follow_set non.RelOp = expression_start
follow_set non.Simple = after_simple
follow_set non.AddMore = after_simple
follow_set non.Term = after_term
follow_set non.MulMore = after_term
follow_set non.Factor = after_factor
follow_set non.Pow = after_factor
follow_set non.Primary = after_factor + marks (mark.DoubleStar ∷ [])
follow_set non.Name = after_factor + words (word.With ∷ []) + marks (mark.DoubleStar ∷ [])
follow_set non.Suffix = after_factor + words (word.With ∷ []) + marks (mark.DoubleStar ∷ [])
follow_set non.Tick = after_factor + words (word.With ∷ []) + marks (mark.DoubleStar ∷ mark.Open ∷ mark.Dot ∷ mark.Tick ∷ [])

abbrev pub follows : Nonterminal → ℕ → Bool
follows phrase at = has (follow_set phrase) at
