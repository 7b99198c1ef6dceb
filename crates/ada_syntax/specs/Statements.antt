-- What statements and pragmas read as (Ada RM 2.8, 5, 6.4, 6.5).
use Rattle.std.specs.Prelude.{Bool, true, false, List, [], ◌∷◌, ◌++◌}
use Rattle.ada_text.specs.declared.reserved.Reserved.TheVariants as res
use Rattle.ada_text.specs.declared.delimiters.Delimiter.TheVariants as del
use Rattle.ada_syntax.specs.declared.expressions.Arg.{Arg}
use Rattle.ada_syntax.specs.declared.expressions.Expr.{Expr}
use Rattle.ada_syntax.specs.declared.statements.Action.{Action}
use Rattle.ada_syntax.specs.declared.statements.Action.TheVariants as action'
use Rattle.ada_syntax.specs.declared.statements.Alternative.{Alternative}
use Rattle.ada_syntax.specs.declared.statements.Branch.{Branch}
use Rattle.ada_syntax.specs.declared.statements.Choice.{Choice}
use Rattle.ada_syntax.specs.declared.statements.Choice.TheVariants as case_choice'
use Rattle.ada_syntax.specs.declared.statements.LoopHead.{LoopHead}
use Rattle.ada_syntax.specs.declared.statements.LoopHead.TheVariants as head'
use Rattle.ada_syntax.specs.declared.statements.Pragma.{Pragma}
use Rattle.ada_syntax.specs.declared.statements.Stmt.{Stmt, fold-Stmt}
use Rattle.ada_syntax.specs.declared.statements.Stmt.TheOpen.{Stmt-F}
use Rattle.ada_syntax.specs.Words.{Words, each, id, separated, symbol, where_some, word}
use Rattle.ada_syntax.specs.Expressions.{expr, group, name, range}

abbrev pub semicolon : Words
semicolon = symbol del.Semicolon

-- in parentheses, where there are any
abbrev pub args : List (Arg Expr) → Words
args [] = []
args (a ∷ as') = group expr (a ∷ as')

abbrev pub pragma : Pragma → Words
pragma p = word res.Pragma ++ id p.name ++ args p.args ++ semicolon

-- Below, `f` is what the statements inside read as.

abbrev pub branch : {S : Type 0} → (S → Words) → Branch S → Words
branch f b = expr b.condition ++ word res.Then ++ each f b.body

-- after `else`, where there are any
abbrev pub otherwise : {S : Type 0} → (S → Words) → List S → Words
otherwise f [] = []
otherwise f (s ∷ ss) = word res.Else ++ each f (s ∷ ss)

abbrev pub case_choice : Choice → Words
case_choice case_choice'.Others = word res.Others
case_choice (case_choice'.Range r) = range expr r

abbrev pub alternative : {S : Type 0} → (S → Words) → Alternative S → Words
alternative f a = word res.When ++ separated (symbol del.Bar) case_choice a.choices ++ symbol del.Arrow ++ each f a.body

abbrev pub reversed : Bool → Words
reversed false = []
reversed true = word res.Reverse

abbrev pub loop_head : LoopHead → Words
loop_head head'.Forever = []
loop_head (head'.While e) = word res.While ++ expr e
loop_head (head'.For n b r) = word res.For ++ id n ++ word res.In ++ reversed b ++ range expr r

abbrev pub action : {S : Type 0} → (S → Words) → Action S → Words
action f action'.Null = word res.Null ++ semicolon
action f (action'.Call n) = name expr n ++ semicolon
action f (action'.Assign n e) = name expr n ++ symbol del.Assign ++ expr e ++ semicolon
action f (action'.If bs ss) = word res.If ++ separated (word res.Elsif) (branch f) bs ++ otherwise f ss ++ word res.End ++ word res.If ++ semicolon
action f (action'.Case e as') = word res.Case ++ expr e ++ word res.Is ++ each (alternative f) as' ++ word res.End ++ word res.Case ++ semicolon
action f (action'.Loop h ss) = loop_head h ++ word res.Loop ++ each f ss ++ word res.End ++ word res.Loop ++ semicolon
action f (action'.Exit e) = word res.Exit ++ where_some (λ x. word res.When ++ expr x) e ++ semicolon
action f (action'.Return e) = word res.Return ++ where_some expr e ++ semicolon
action f (action'.Pragma p) = pragma p

abbrev pub stmt_step : Stmt-F Words → Words
stmt_step s = action (λ w. w) s.action

-- a statement
abbrev pub stmt : Stmt → Words
stmt = fold-Stmt Words stmt_step
