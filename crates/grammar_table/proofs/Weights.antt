-- How many phrases are replaced before a token is taken.
use Rattle.std.proofs.Common.{ℕ, suc, ◌+◌, ◌==◌, Bool, true, false, List, [], ◌∷◌}
use Rattle.std.specs.Prelude.{◌&&◌, if◌then◌else◌}
use denote.Enum.Declared.{tag_of}
use Rattle.grammar_table.specs.contracts.symbols.Nonterminal as nonterminal
use Rattle.grammar_table.specs.declared.symbols.Nonterminal.{Nonterminal}
use Rattle.grammar_table.specs.declared.symbols.Nonterminal.TheVariants as non
use Rattle.grammar_table.specs.declared.symbols.Symbol.{Symbol}
use Rattle.grammar_table.specs.declared.symbols.Symbol.TheVariants.{Token, Phrase}
use Rattle.grammar_table.specs.Parses.{Production}
use Rattle.grammar_table.specs.Productions.{productions}

-- a weight of each nonterminal
unfoldable pub weight : Nonterminal → ℕ
weight non.File = 5
weight non.Start = 2
weight non.Ids = 1
weight non.Unit = 2
weight non.Pack = 1
weight non.Priv = 1
weight non.EndId = 1
weight non.Decls = 3
weight non.Decl = 2
weight non.TypeDef = 1
weight non.Index = 6
weight non.IdxTail = 1
weight non.Box = 6
weight non.Comp = 1
weight non.Comps = 2
weight non.SubInd = 2
weight non.SubTail = 1
weight non.Obj = 3
weight non.Const = 3
weight non.Init = 1
weight non.Sub = 1
weight non.Params = 1
weight non.ParMore = 1
weight non.Param = 1
weight non.Mode = 1
weight non.InOut = 1
weight non.Body = 1
weight non.Asp = 1
weight non.AspMore = 1
weight non.Aspect = 1
weight non.AspVal = 1
weight non.Pragma = 1
weight non.PragArg = 1
weight non.Stmts = 3
weight non.StMore = 3
weight non.Stmt = 2
weight non.Act = 1
weight non.Elsifs = 1
weight non.Else = 1
weight non.When = 1
weight non.Whens = 2
weight non.Choice = 7
weight non.Choices = 1
weight non.Head = 1
weight non.Rev = 1
weight non.ExWhen = 1
weight non.RetVal = 8
weight non.Range = 6
weight non.RgTail = 1
weight non.Item = 8
weight non.Cond = 1
weight non.AllSome = 1
weight non.IfMore = 1
weight non.IfElse = 1
weight non.Args = 7
weight non.ArgMore = 1
weight non.Arg = 6
weight non.ArgMid = 5
weight non.ArgVal = 1
weight non.Expr = 7
weight non.Logic = 1
weight non.AndRest = 7
weight non.ThenMore = 1
weight non.AndMore = 1
weight non.OrRest = 7
weight non.ElseMore = 1
weight non.OrMore = 1
weight non.XorMore = 1
weight non.Rel = 6
weight non.RelTail = 2
weight non.RelOp = 1
weight non.Simple = 5
weight non.AddMore = 1
weight non.Term = 4
weight non.MulMore = 1
weight non.Factor = 3
weight non.Pow = 1
weight non.Primary = 2
weight non.Name = 1
weight non.Suffix = 1
weight non.Tick = 1

-- whether a nonterminal stands for no token, too
unfoldable pub may_be_empty : Nonterminal → Bool
may_be_empty non.File = false
may_be_empty non.Start = true
may_be_empty non.Ids = true
may_be_empty non.Unit = false
may_be_empty non.Pack = false
may_be_empty non.Priv = true
may_be_empty non.EndId = true
may_be_empty non.Decls = true
may_be_empty non.Decl = false
may_be_empty non.TypeDef = false
may_be_empty non.Index = false
may_be_empty non.IdxTail = true
may_be_empty non.Box = false
may_be_empty non.Comp = false
may_be_empty non.Comps = true
may_be_empty non.SubInd = false
may_be_empty non.SubTail = true
may_be_empty non.Obj = false
may_be_empty non.Const = false
may_be_empty non.Init = true
may_be_empty non.Sub = false
may_be_empty non.Params = true
may_be_empty non.ParMore = true
may_be_empty non.Param = false
may_be_empty non.Mode = true
may_be_empty non.InOut = true
may_be_empty non.Body = false
may_be_empty non.Asp = true
may_be_empty non.AspMore = true
may_be_empty non.Aspect = false
may_be_empty non.AspVal = true
may_be_empty non.Pragma = false
may_be_empty non.PragArg = true
may_be_empty non.Stmts = false
may_be_empty non.StMore = true
may_be_empty non.Stmt = false
may_be_empty non.Act = true
may_be_empty non.Elsifs = true
may_be_empty non.Else = true
may_be_empty non.When = false
may_be_empty non.Whens = true
may_be_empty non.Choice = false
may_be_empty non.Choices = true
may_be_empty non.Head = true
may_be_empty non.Rev = true
may_be_empty non.ExWhen = true
may_be_empty non.RetVal = true
may_be_empty non.Range = false
may_be_empty non.RgTail = true
may_be_empty non.Item = false
may_be_empty non.Cond = false
may_be_empty non.AllSome = false
may_be_empty non.IfMore = true
may_be_empty non.IfElse = true
may_be_empty non.Args = false
may_be_empty non.ArgMore = true
may_be_empty non.Arg = false
may_be_empty non.ArgMid = true
may_be_empty non.ArgVal = true
may_be_empty non.Expr = false
may_be_empty non.Logic = true
may_be_empty non.AndRest = false
may_be_empty non.ThenMore = true
may_be_empty non.AndMore = true
may_be_empty non.OrRest = false
may_be_empty non.ElseMore = true
may_be_empty non.OrMore = true
may_be_empty non.XorMore = true
may_be_empty non.Rel = false
may_be_empty non.RelTail = true
may_be_empty non.RelOp = false
may_be_empty non.Simple = false
may_be_empty non.AddMore = true
may_be_empty non.Term = false
may_be_empty non.MulMore = true
may_be_empty non.Factor = false
may_be_empty non.Pow = true
may_be_empty non.Primary = false
may_be_empty non.Name = false
may_be_empty non.Suffix = true
may_be_empty non.Tick = false

-- the weights up to the first symbol that stands for a token
abbrev pub lead : List Symbol → ℕ
lead [] = 0
lead (Token t e ∷ ss) = 0
lead (Phrase n ∷ ss) = weight n + (if may_be_empty n then lead ss else 0)

abbrev pub all_empty : List Symbol → Bool
all_empty [] = true
all_empty (Token t e ∷ ss) = false
all_empty (Phrase n ∷ ss) = may_be_empty n && all_empty ss

-- which production of a nonterminal, from 0, begins its shortest completion
unfoldable pub alternative : Nonterminal → ℕ
alternative non.File = 0
alternative non.Start = 3
alternative non.Ids = 1
alternative non.Unit = 1
alternative non.Pack = 0
alternative non.Priv = 1
alternative non.EndId = 1
alternative non.Decls = 1
alternative non.Decl = 5
alternative non.TypeDef = 2
alternative non.Index = 0
alternative non.IdxTail = 2
alternative non.Box = 0
alternative non.Comp = 0
alternative non.Comps = 1
alternative non.SubInd = 0
alternative non.SubTail = 1
alternative non.Obj = 1
alternative non.Const = 1
alternative non.Init = 1
alternative non.Sub = 0
alternative non.Params = 1
alternative non.ParMore = 1
alternative non.Param = 0
alternative non.Mode = 2
alternative non.InOut = 1
alternative non.Body = 0
alternative non.Asp = 1
alternative non.AspMore = 1
alternative non.Aspect = 0
alternative non.AspVal = 1
alternative non.Pragma = 0
alternative non.PragArg = 1
alternative non.Stmts = 0
alternative non.StMore = 1
alternative non.Stmt = 0
alternative non.Act = 1
alternative non.Elsifs = 1
alternative non.Else = 1
alternative non.When = 0
alternative non.Whens = 1
alternative non.Choice = 0
alternative non.Choices = 1
alternative non.Head = 2
alternative non.Rev = 1
alternative non.ExWhen = 1
alternative non.RetVal = 1
alternative non.Range = 0
alternative non.RgTail = 1
alternative non.Item = 1
alternative non.Cond = 0
alternative non.AllSome = 0
alternative non.IfMore = 1
alternative non.IfElse = 1
alternative non.Args = 0
alternative non.ArgMore = 1
alternative non.Arg = 2
alternative non.ArgMid = 1
alternative non.ArgVal = 1
alternative non.Expr = 0
alternative non.Logic = 3
alternative non.AndRest = 1
alternative non.ThenMore = 1
alternative non.AndMore = 1
alternative non.OrRest = 1
alternative non.ElseMore = 1
alternative non.OrMore = 1
alternative non.XorMore = 1
alternative non.Rel = 0
alternative non.RelTail = 3
alternative non.RelOp = 0
alternative non.Simple = 2
alternative non.AddMore = 2
alternative non.Term = 0
alternative non.MulMore = 4
alternative non.Factor = 0
alternative non.Pow = 1
alternative non.Primary = 0
alternative non.Name = 0
alternative non.Suffix = 3
alternative non.Tick = 0

-- the number of the first production of a nonterminal; the productions count from k
unfoldable pub first_production : ℕ → ℕ → List Production → ℕ
first_production at k [] = k
first_production at k (p ∷ ps) = if tag_of nonterminal.the_type p.left == at then k else first_production at (suc k) ps

-- the production with which the shortest completion of a nonterminal begins
unfoldable pub shortest : Nonterminal → ℕ
shortest n = first_production (tag_of nonterminal.the_type n) 0 productions + alternative n
