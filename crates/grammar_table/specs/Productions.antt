-- The productions of the profile's grammar.
use Rattle.std.specs.Prelude.{List, [], ◌∷◌}
use Rattle.ada_text.specs.declared.delimiters.Delimiter.{Delimiter}
use Rattle.ada_text.specs.declared.delimiters.Delimiter.TheVariants as mark
use Rattle.ada_text.specs.declared.reserved.Reserved.{Reserved}
use Rattle.ada_text.specs.declared.reserved.Reserved.TheVariants as word
use Rattle.grammar_table.specs.declared.symbols.Construct.{Construct}
use Rattle.grammar_table.specs.declared.symbols.Construct.TheVariants as construct
use Rattle.grammar_table.specs.declared.symbols.Effect.TheVariants as effect
use Rattle.grammar_table.specs.declared.symbols.Nonterminal.{Nonterminal}
use Rattle.grammar_table.specs.declared.symbols.Nonterminal.TheVariants as non
use Rattle.grammar_table.specs.declared.symbols.Symbol.{Symbol}
use Rattle.grammar_table.specs.declared.symbols.Symbol.TheVariants.{Token, Phrase}
use Rattle.grammar_table.specs.declared.symbols.Terminal.{Terminal}
use Rattle.grammar_table.specs.declared.symbols.Terminal.TheVariants.{Identifier, Number, Word, Mark}
use Rattle.grammar_table.specs.Parses.{Production}

abbrev pub production : Nonterminal → List Symbol → Production
production left right = record { left = left; right = right }

abbrev pub phrase : Nonterminal → Symbol
phrase n = Phrase n

abbrev pub identifier : Symbol
identifier = Token Identifier effect.Plain

abbrev pub number : Symbol
number = Token Number effect.Plain

abbrev pub reserved : Reserved → Symbol
reserved w = Token (Word w) effect.Plain

abbrev pub symbol : Delimiter → Symbol
symbol m = Token (Mark m) effect.Plain

-- parentheses
abbrev pub opening : Symbol
opening = Token (Mark mark.Open) (effect.Opens construct.Enclosure)

abbrev pub closing : Symbol
closing = Token (Mark mark.Close) effect.Closes

-- `if`, `case` and `loop`, which open a level
abbrev pub opens : Construct → Terminal → Symbol
opens c t = Token t (effect.Opens c)

abbrev pub begins : Terminal → Symbol
begins t = Token t effect.Begins

abbrev pub closes : Terminal → Symbol
closes t = Token t effect.Closes

-- operators, `.` and `'`
abbrev pub operator : Terminal → Symbol
operator t = Token t (effect.Opens construct.Operator)

-- what ends an expression, and with it the levels up to this construct
abbrev pub ends : Construct → Terminal → Symbol
ends c t = Token t (effect.Ends c)

abbrev pub separator : Delimiter → Symbol
separator m = ends construct.Conditional (Mark m)

unfoldable pub productions : List Production
productions =
    -- compilation units and their context (Ada RM 10.1.1, 10.1.2)
    production non.File (phrase non.Start ∷ phrase non.Unit ∷ [])
    ∷ production non.Start (phrase non.Pragma ∷ phrase non.Start ∷ [])
    ∷ production non.Start (reserved word.With ∷ identifier ∷ phrase non.Ids ∷ separator mark.Semicolon ∷ phrase non.Start ∷ [])
    ∷ production non.Start (reserved word.Use ∷ identifier ∷ phrase non.Ids ∷ separator mark.Semicolon ∷ phrase non.Start ∷ [])
    ∷ production non.Start []
    ∷ production non.Ids (separator mark.Comma ∷ identifier ∷ phrase non.Ids ∷ [])
    ∷ production non.Ids []
    ∷ production non.Unit (reserved word.Package ∷ phrase non.Pack ∷ [])
    ∷ production non.Unit (phrase non.Sub ∷ [])
    -- packages (Ada RM 7.1, 7.2)
    ∷ production non.Pack (reserved word.Body ∷ identifier ∷ phrase non.Asp ∷ ends construct.Conditional (Word word.Is) ∷ phrase non.Decls ∷ reserved word.End ∷ phrase non.EndId ∷ separator mark.Semicolon ∷ [])
    ∷ production non.Pack (identifier ∷ phrase non.Asp ∷ ends construct.Conditional (Word word.Is) ∷ phrase non.Decls ∷ phrase non.Priv ∷ reserved word.End ∷ phrase non.EndId ∷ separator mark.Semicolon ∷ [])
    ∷ production non.Priv (reserved word.Private ∷ phrase non.Decls ∷ [])
    ∷ production non.Priv []
    ∷ production non.EndId (identifier ∷ [])
    ∷ production non.EndId []
    -- declarations (Ada RM 3.2.1, 3.2.2, 3.3.1, 3.11, 8.4)
    ∷ production non.Decls (phrase non.Decl ∷ phrase non.Decls ∷ [])
    ∷ production non.Decls []
    ∷ production non.Decl (reserved word.Type ∷ identifier ∷ reserved word.Is ∷ phrase non.TypeDef ∷ separator mark.Semicolon ∷ [])
    ∷ production non.Decl (reserved word.Subtype ∷ identifier ∷ reserved word.Is ∷ phrase non.SubInd ∷ separator mark.Semicolon ∷ [])
    ∷ production non.Decl (identifier ∷ phrase non.Ids ∷ symbol mark.Colon ∷ phrase non.Obj ∷ separator mark.Semicolon ∷ [])
    ∷ production non.Decl (phrase non.Sub ∷ [])
    ∷ production non.Decl (phrase non.Pragma ∷ [])
    ∷ production non.Decl (reserved word.Use ∷ identifier ∷ phrase non.Ids ∷ separator mark.Semicolon ∷ [])
    -- type definitions (Ada RM 3.4, 3.5.1, 3.5.4, 3.6, 3.8)
    ∷ production non.TypeDef (reserved word.Range ∷ phrase non.Simple ∷ ends construct.Operator (Mark mark.DoubleDot) ∷ phrase non.Simple ∷ [])
    ∷ production non.TypeDef (reserved word.Mod ∷ phrase non.Simple ∷ [])
    ∷ production non.TypeDef (opening ∷ identifier ∷ phrase non.Ids ∷ closing ∷ [])
    ∷ production non.TypeDef (reserved word.Array ∷ opening ∷ phrase non.Index ∷ closing ∷ reserved word.Of ∷ phrase non.SubInd ∷ [])
    ∷ production non.TypeDef (reserved word.Record ∷ phrase non.Comp ∷ phrase non.Comps ∷ reserved word.End ∷ reserved word.Record ∷ [])
    ∷ production non.TypeDef (reserved word.New ∷ phrase non.SubInd ∷ [])
    ∷ production non.Index (phrase non.Simple ∷ phrase non.IdxTail ∷ [])
    ∷ production non.IdxTail (ends construct.Conditional (Word word.Range) ∷ phrase non.Box ∷ [])
    ∷ production non.IdxTail (ends construct.Operator (Mark mark.DoubleDot) ∷ phrase non.Simple ∷ [])
    ∷ production non.IdxTail []
    ∷ production non.Box (symbol mark.Diamond ∷ [])
    ∷ production non.Box (phrase non.Simple ∷ ends construct.Operator (Mark mark.DoubleDot) ∷ phrase non.Simple ∷ [])
    ∷ production non.Comp (identifier ∷ phrase non.Ids ∷ symbol mark.Colon ∷ phrase non.SubInd ∷ separator mark.Semicolon ∷ [])
    ∷ production non.Comps (phrase non.Comp ∷ phrase non.Comps ∷ [])
    ∷ production non.Comps []
    -- subtype indications and objects (Ada RM 3.2.2, 3.3.1)
    ∷ production non.SubInd (phrase non.Name ∷ phrase non.SubTail ∷ [])
    ∷ production non.SubTail (ends construct.Conditional (Word word.Range) ∷ phrase non.Simple ∷ ends construct.Operator (Mark mark.DoubleDot) ∷ phrase non.Simple ∷ [])
    ∷ production non.SubTail []
    ∷ production non.Obj (reserved word.Constant ∷ phrase non.Const ∷ [])
    ∷ production non.Obj (phrase non.SubInd ∷ phrase non.Init ∷ [])
    ∷ production non.Const (separator mark.Assign ∷ phrase non.Expr ∷ [])
    ∷ production non.Const (phrase non.SubInd ∷ phrase non.Init ∷ [])
    ∷ production non.Init (separator mark.Assign ∷ phrase non.Expr ∷ [])
    ∷ production non.Init []
    -- subprograms (Ada RM 6.1, 6.3)
    ∷ production non.Sub (reserved word.Procedure ∷ identifier ∷ phrase non.Params ∷ phrase non.Asp ∷ phrase non.Body ∷ [])
    ∷ production non.Sub (reserved word.Function ∷ identifier ∷ phrase non.Params ∷ reserved word.Return ∷ phrase non.Name ∷ phrase non.Asp ∷ phrase non.Body ∷ [])
    ∷ production non.Params (opening ∷ phrase non.Param ∷ phrase non.ParMore ∷ closing ∷ [])
    ∷ production non.Params []
    ∷ production non.ParMore (separator mark.Semicolon ∷ phrase non.Param ∷ phrase non.ParMore ∷ [])
    ∷ production non.ParMore []
    ∷ production non.Param (identifier ∷ phrase non.Ids ∷ symbol mark.Colon ∷ phrase non.Mode ∷ phrase non.SubInd ∷ [])
    ∷ production non.Mode (reserved word.In ∷ phrase non.InOut ∷ [])
    ∷ production non.Mode (reserved word.Out ∷ [])
    ∷ production non.Mode []
    ∷ production non.InOut (reserved word.Out ∷ [])
    ∷ production non.InOut []
    ∷ production non.Body (separator mark.Semicolon ∷ [])
    ∷ production non.Body (ends construct.Conditional (Word word.Is) ∷ phrase non.Decls ∷ reserved word.Begin ∷ phrase non.Stmts ∷ reserved word.End ∷ phrase non.EndId ∷ separator mark.Semicolon ∷ [])
    -- aspects and pragmas (Ada RM 2.8, 13.1.1)
    ∷ production non.Asp (ends construct.Conditional (Word word.With) ∷ phrase non.Aspect ∷ phrase non.AspMore ∷ [])
    ∷ production non.Asp []
    ∷ production non.AspMore (separator mark.Comma ∷ phrase non.Aspect ∷ phrase non.AspMore ∷ [])
    ∷ production non.AspMore []
    ∷ production non.Aspect (identifier ∷ phrase non.AspVal ∷ [])
    ∷ production non.AspVal (separator mark.Arrow ∷ phrase non.Item ∷ [])
    ∷ production non.AspVal []
    ∷ production non.Pragma (reserved word.Pragma ∷ identifier ∷ phrase non.PragArg ∷ separator mark.Semicolon ∷ [])
    ∷ production non.PragArg (opening ∷ phrase non.Args ∷ closing ∷ [])
    ∷ production non.PragArg []
    -- statements (Ada RM 5.1, 5.2, 5.3, 5.4, 5.5, 5.7, 6.4, 6.5)
    ∷ production non.Stmts (phrase non.Stmt ∷ phrase non.StMore ∷ [])
    ∷ production non.StMore (phrase non.Stmt ∷ phrase non.StMore ∷ [])
    ∷ production non.StMore []
    ∷ production non.Stmt (reserved word.Null ∷ separator mark.Semicolon ∷ [])
    ∷ production non.Stmt (phrase non.Name ∷ phrase non.Act ∷ separator mark.Semicolon ∷ [])
    ∷ production non.Stmt (opens construct.Enclosure (Word word.If) ∷ phrase non.Expr ∷ ends construct.Membership (Word word.Then) ∷ phrase non.Stmts ∷ phrase non.Elsifs ∷ phrase non.Else ∷ reserved word.End ∷ closes (Word word.If) ∷ separator mark.Semicolon ∷ [])
    ∷ production non.Stmt (opens construct.Enclosure (Word word.Case) ∷ phrase non.Expr ∷ ends construct.Membership (Word word.Is) ∷ phrase non.When ∷ phrase non.Whens ∷ reserved word.End ∷ closes (Word word.Case) ∷ separator mark.Semicolon ∷ [])
    ∷ production non.Stmt (phrase non.Head ∷ begins (Word word.Loop) ∷ phrase non.Stmts ∷ reserved word.End ∷ closes (Word word.Loop) ∷ separator mark.Semicolon ∷ [])
    ∷ production non.Stmt (reserved word.Exit ∷ phrase non.ExWhen ∷ separator mark.Semicolon ∷ [])
    ∷ production non.Stmt (reserved word.Return ∷ phrase non.RetVal ∷ separator mark.Semicolon ∷ [])
    ∷ production non.Stmt (phrase non.Pragma ∷ [])
    ∷ production non.Act (separator mark.Assign ∷ phrase non.Expr ∷ [])
    ∷ production non.Act []
    ∷ production non.Elsifs (reserved word.Elsif ∷ phrase non.Expr ∷ ends construct.Membership (Word word.Then) ∷ phrase non.Stmts ∷ phrase non.Elsifs ∷ [])
    ∷ production non.Elsifs []
    ∷ production non.Else (reserved word.Else ∷ phrase non.Stmts ∷ [])
    ∷ production non.Else []
    -- alternatives and choices (Ada RM 3.8.1, 5.4)
    ∷ production non.When (reserved word.When ∷ phrase non.Choice ∷ phrase non.Choices ∷ separator mark.Arrow ∷ phrase non.Stmts ∷ [])
    ∷ production non.Whens (phrase non.When ∷ phrase non.Whens ∷ [])
    ∷ production non.Whens []
    ∷ production non.Choice (reserved word.Others ∷ [])
    ∷ production non.Choice (phrase non.Range ∷ [])
    ∷ production non.Choices (separator mark.Bar ∷ phrase non.Choice ∷ phrase non.Choices ∷ [])
    ∷ production non.Choices []
    -- heads of loops, exits and returns (Ada RM 5.5, 5.7, 6.5)
    ∷ production non.Head (reserved word.While ∷ phrase non.Expr ∷ [])
    ∷ production non.Head (reserved word.For ∷ identifier ∷ reserved word.In ∷ phrase non.Rev ∷ phrase non.Range ∷ [])
    ∷ production non.Head []
    ∷ production non.Rev (reserved word.Reverse ∷ [])
    ∷ production non.Rev []
    ∷ production non.ExWhen (reserved word.When ∷ phrase non.Expr ∷ [])
    ∷ production non.ExWhen []
    ∷ production non.RetVal (phrase non.Expr ∷ [])
    ∷ production non.RetVal []
    -- ranges (Ada RM 3.5, 3.6.1)
    ∷ production non.Range (phrase non.Simple ∷ phrase non.RgTail ∷ [])
    ∷ production non.RgTail (ends construct.Operator (Mark mark.DoubleDot) ∷ phrase non.Simple ∷ [])
    ∷ production non.RgTail []
    -- conditional and quantified expressions (Ada RM 4.5.7, 4.5.8)
    ∷ production non.Item (phrase non.Cond ∷ [])
    ∷ production non.Item (phrase non.Expr ∷ [])
    ∷ production non.Cond (reserved word.For ∷ phrase non.AllSome ∷ identifier ∷ reserved word.In ∷ phrase non.Range ∷ separator mark.Arrow ∷ phrase non.Expr ∷ [])
    ∷ production non.Cond (opens construct.Conditional (Word word.If) ∷ phrase non.Expr ∷ ends construct.Membership (Word word.Then) ∷ phrase non.Expr ∷ phrase non.IfMore ∷ phrase non.IfElse ∷ [])
    ∷ production non.AllSome (reserved word.All ∷ [])
    ∷ production non.AllSome (reserved word.Some ∷ [])
    ∷ production non.IfMore (ends construct.Membership (Word word.Elsif) ∷ phrase non.Expr ∷ ends construct.Membership (Word word.Then) ∷ phrase non.Expr ∷ phrase non.IfMore ∷ [])
    ∷ production non.IfMore []
    ∷ production non.IfElse (ends construct.Membership (Word word.Else) ∷ phrase non.Expr ∷ [])
    ∷ production non.IfElse []
    -- associations of calls, aggregates and pragmas (Ada RM 2.8, 4.3, 6.4)
    ∷ production non.Args (phrase non.Arg ∷ phrase non.ArgMore ∷ [])
    ∷ production non.ArgMore (separator mark.Comma ∷ phrase non.Arg ∷ phrase non.ArgMore ∷ [])
    ∷ production non.ArgMore []
    ∷ production non.Arg (reserved word.Others ∷ separator mark.Arrow ∷ phrase non.Item ∷ [])
    ∷ production non.Arg (phrase non.Cond ∷ phrase non.ArgVal ∷ [])
    ∷ production non.Arg (phrase non.Simple ∷ phrase non.ArgMid ∷ [])
    ∷ production non.ArgMid (ends construct.Operator (Mark mark.DoubleDot) ∷ phrase non.Simple ∷ phrase non.ArgVal ∷ [])
    ∷ production non.ArgMid (phrase non.RelTail ∷ phrase non.Logic ∷ phrase non.ArgVal ∷ [])
    ∷ production non.ArgVal (separator mark.Arrow ∷ phrase non.Item ∷ [])
    ∷ production non.ArgVal []
    -- expressions (Ada RM 4.4, 4.5)
    ∷ production non.Expr (phrase non.Rel ∷ phrase non.Logic ∷ [])
    ∷ production non.Logic (operator (Word word.And) ∷ phrase non.AndRest ∷ [])
    ∷ production non.Logic (operator (Word word.Or) ∷ phrase non.OrRest ∷ [])
    ∷ production non.Logic (operator (Word word.Xor) ∷ phrase non.Rel ∷ phrase non.XorMore ∷ [])
    ∷ production non.Logic []
    ∷ production non.AndRest (reserved word.Then ∷ phrase non.Rel ∷ phrase non.ThenMore ∷ [])
    ∷ production non.AndRest (phrase non.Rel ∷ phrase non.AndMore ∷ [])
    ∷ production non.ThenMore (operator (Word word.And) ∷ reserved word.Then ∷ phrase non.Rel ∷ phrase non.ThenMore ∷ [])
    ∷ production non.ThenMore []
    ∷ production non.AndMore (operator (Word word.And) ∷ phrase non.Rel ∷ phrase non.AndMore ∷ [])
    ∷ production non.AndMore []
    ∷ production non.OrRest (reserved word.Else ∷ phrase non.Rel ∷ phrase non.ElseMore ∷ [])
    ∷ production non.OrRest (phrase non.Rel ∷ phrase non.OrMore ∷ [])
    ∷ production non.ElseMore (operator (Word word.Or) ∷ reserved word.Else ∷ phrase non.Rel ∷ phrase non.ElseMore ∷ [])
    ∷ production non.ElseMore []
    ∷ production non.OrMore (operator (Word word.Or) ∷ phrase non.Rel ∷ phrase non.OrMore ∷ [])
    ∷ production non.OrMore []
    ∷ production non.XorMore (operator (Word word.Xor) ∷ phrase non.Rel ∷ phrase non.XorMore ∷ [])
    ∷ production non.XorMore []
    ∷ production non.Rel (phrase non.Simple ∷ phrase non.RelTail ∷ [])
    ∷ production non.RelTail (phrase non.RelOp ∷ phrase non.Simple ∷ [])
    ∷ production non.RelTail (opens construct.Membership (Word word.In) ∷ phrase non.Range ∷ [])
    ∷ production non.RelTail (opens construct.Membership (Word word.Not) ∷ reserved word.In ∷ phrase non.Range ∷ [])
    ∷ production non.RelTail []
    ∷ production non.RelOp (operator (Mark mark.Equal) ∷ [])
    ∷ production non.RelOp (operator (Mark mark.NotEqual) ∷ [])
    ∷ production non.RelOp (operator (Mark mark.Less) ∷ [])
    ∷ production non.RelOp (operator (Mark mark.AtMost) ∷ [])
    ∷ production non.RelOp (operator (Mark mark.Greater) ∷ [])
    ∷ production non.RelOp (operator (Mark mark.AtLeast) ∷ [])
    ∷ production non.Simple (operator (Mark mark.Plus) ∷ phrase non.Term ∷ phrase non.AddMore ∷ [])
    ∷ production non.Simple (operator (Mark mark.Minus) ∷ phrase non.Term ∷ phrase non.AddMore ∷ [])
    ∷ production non.Simple (phrase non.Term ∷ phrase non.AddMore ∷ [])
    ∷ production non.AddMore (operator (Mark mark.Plus) ∷ phrase non.Term ∷ phrase non.AddMore ∷ [])
    ∷ production non.AddMore (operator (Mark mark.Minus) ∷ phrase non.Term ∷ phrase non.AddMore ∷ [])
    ∷ production non.AddMore []
    ∷ production non.Term (phrase non.Factor ∷ phrase non.MulMore ∷ [])
    ∷ production non.MulMore (operator (Mark mark.Star) ∷ phrase non.Factor ∷ phrase non.MulMore ∷ [])
    ∷ production non.MulMore (operator (Mark mark.Slash) ∷ phrase non.Factor ∷ phrase non.MulMore ∷ [])
    ∷ production non.MulMore (operator (Word word.Mod) ∷ phrase non.Factor ∷ phrase non.MulMore ∷ [])
    ∷ production non.MulMore (operator (Word word.Rem) ∷ phrase non.Factor ∷ phrase non.MulMore ∷ [])
    ∷ production non.MulMore []
    ∷ production non.Factor (operator (Word word.Abs) ∷ phrase non.Primary ∷ [])
    ∷ production non.Factor (operator (Word word.Not) ∷ phrase non.Primary ∷ [])
    ∷ production non.Factor (phrase non.Primary ∷ phrase non.Pow ∷ [])
    ∷ production non.Pow (operator (Mark mark.DoubleStar) ∷ phrase non.Primary ∷ [])
    ∷ production non.Pow []
    -- primaries and names (Ada RM 4.1, 4.4)
    ∷ production non.Primary (number ∷ [])
    ∷ production non.Primary (reserved word.Null ∷ [])
    ∷ production non.Primary (phrase non.Name ∷ [])
    ∷ production non.Primary (opening ∷ phrase non.Args ∷ closing ∷ [])
    ∷ production non.Name (identifier ∷ phrase non.Suffix ∷ [])
    ∷ production non.Suffix (operator (Mark mark.Dot) ∷ identifier ∷ phrase non.Suffix ∷ [])
    ∷ production non.Suffix (operator (Mark mark.Tick) ∷ phrase non.Tick ∷ phrase non.Suffix ∷ [])
    ∷ production non.Suffix (opening ∷ phrase non.Args ∷ closing ∷ phrase non.Suffix ∷ [])
    ∷ production non.Suffix []
    ∷ production non.Tick (identifier ∷ [])
    ∷ production non.Tick (reserved word.Range ∷ [])
    ∷ production non.Tick (opening ∷ phrase non.Args ∷ closing ∷ [])
    ∷ []
