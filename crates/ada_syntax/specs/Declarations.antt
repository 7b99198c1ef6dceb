-- What declarations read as (Ada RM 3, 6, 8.4, 13.1.1).
use Rattle.std.specs.Prelude.{Bool, true, false, List, [], ◌∷◌, ◌++◌, Option, Some, None}
use Rattle.ada_text.specs.declared.token.Span.{Span}
use Rattle.ada_text.specs.declared.reserved.Reserved.TheVariants as res
use Rattle.ada_text.specs.declared.delimiters.Delimiter.TheVariants as del
use Rattle.ada_syntax.specs.declared.expressions.Expr.{Expr}
use Rattle.ada_syntax.specs.declared.expressions.Name.{Name}
use Rattle.ada_syntax.specs.declared.declarations.Aspect.{Aspect}
use Rattle.ada_syntax.specs.declared.declarations.Body.{Body}
use Rattle.ada_syntax.specs.declared.declarations.Bounds.{Bounds}
use Rattle.ada_syntax.specs.declared.declarations.Component.{Component}
use Rattle.ada_syntax.specs.declared.declarations.Decl.{Decl, fold-Decl}
use Rattle.ada_syntax.specs.declared.declarations.Decl.TheOpen.{Decl-F}
use Rattle.ada_syntax.specs.declared.declarations.DeclForm.{DeclForm}
use Rattle.ada_syntax.specs.declared.declarations.DeclForm.TheVariants as decl'
use Rattle.ada_syntax.specs.declared.declarations.Index.{Index}
use Rattle.ada_syntax.specs.declared.declarations.IndexForm.{IndexForm}
use Rattle.ada_syntax.specs.declared.declarations.IndexForm.TheVariants as index'
use Rattle.ada_syntax.specs.declared.declarations.Mode.{Mode}
use Rattle.ada_syntax.specs.declared.declarations.Mode.TheVariants as mode'
use Rattle.ada_syntax.specs.declared.declarations.Object.{Object}
use Rattle.ada_syntax.specs.declared.declarations.Param.{Param}
use Rattle.ada_syntax.specs.declared.declarations.Sub.{Sub}
use Rattle.ada_syntax.specs.declared.declarations.SubInd.{SubInd}
use Rattle.ada_syntax.specs.declared.declarations.TypeForm.{TypeForm}
use Rattle.ada_syntax.specs.declared.declarations.TypeForm.TheVariants as type'
use Rattle.ada_syntax.specs.Words.{Words, each, id, separated, symbol, where_some, word}
use Rattle.ada_syntax.specs.Expressions.{expr, given_item, name}
use Rattle.ada_syntax.specs.Statements.{pragma, semicolon, stmt}

abbrev pub names : List Span → Words
names = separated (symbol del.Comma) id

abbrev pub bounds : Bounds → Words
bounds b = expr b.low ++ symbol del.DoubleDot ++ expr b.high

abbrev pub sub_ind : SubInd → Words
sub_ind s = name expr s.name ++ where_some (λ b. word res.Range ++ bounds b) s.bounds

abbrev pub index_form : IndexForm → Words
index_form index'.Alone = []
index_form (index'.UpTo h) = symbol del.DoubleDot ++ expr h
index_form index'.Unconstrained = word res.Range ++ symbol del.Diamond
index_form (index'.Within b) = word res.Range ++ bounds b

abbrev pub index : Index → Words
index i = expr i.first ++ index_form i.form

abbrev pub component : Component → Words
component c = names c.names ++ symbol del.Colon ++ sub_ind c.subtype ++ semicolon

abbrev pub type_form : TypeForm → Words
type_form (type'.Range b) = word res.Range ++ bounds b
type_form (type'.Modular e) = word res.Mod ++ expr e
type_form (type'.Enumeration ns) = symbol del.Open ++ names ns ++ symbol del.Close
type_form (type'.Array i s) = word res.Array ++ symbol del.Open ++ index i ++ symbol del.Close ++ word res.Of ++ sub_ind s
type_form (type'.Record cs) = word res.Record ++ each component cs ++ word res.End ++ word res.Record
type_form (type'.Derived s) = word res.New ++ sub_ind s

abbrev pub constant : Bool → Words
constant false = []
constant true = word res.Constant

abbrev pub object : Object → Words
object o = constant o.constant ++ where_some sub_ind o.subtype ++ where_some (λ e. symbol del.Assign ++ expr e) o.value

abbrev pub mode : Mode → Words
mode mode'.Unstated = []
mode mode'.In = word res.In
mode mode'.Out = word res.Out
mode mode'.InOut = word res.In ++ word res.Out

abbrev pub param : Param → Words
param p = names p.names ++ symbol del.Colon ++ mode p.mode ++ sub_ind p.subtype

-- in parentheses, where there are any
abbrev pub params : List Param → Words
params [] = []
params (p ∷ ps) = symbol del.Open ++ separated semicolon param (p ∷ ps) ++ symbol del.Close

abbrev pub aspect : Aspect → Words
aspect a = id a.name ++ given_item expr a.value

-- after `with`, where there are any
abbrev pub aspects : List Aspect → Words
aspects [] = []
aspects (a ∷ as') = word res.With ++ separated (symbol del.Comma) aspect (a ∷ as')

abbrev pub end_name : Option Span → Words
end_name = where_some id

-- Below, `f` is what the declarations inside read as.

abbrev pub body : {D : Type 0} → (D → Words) → Option (Body D) → Words
body f None = semicolon
body f (Some b) = word res.Is ++ each f b.declarations ++ word res.Begin ++ each stmt b.statements ++ word res.End ++ end_name b.end_name ++ semicolon

-- a procedure has no result
abbrev pub sub_kind : Option (Name Expr) → Words
sub_kind None = word res.Procedure
sub_kind (Some n) = word res.Function

abbrev pub sub : {D : Type 0} → (D → Words) → Sub D → Words
sub f s = sub_kind s.result ++ id s.name ++ params s.params ++ where_some (λ n. word res.Return ++ name expr n) s.result ++ aspects s.aspects ++ body f s.body

abbrev pub decl_form : {D : Type 0} → (D → Words) → DeclForm D → Words
decl_form f (decl'.Type n t) = word res.Type ++ id n ++ word res.Is ++ type_form t.form ++ semicolon
decl_form f (decl'.Subtype n s) = word res.Subtype ++ id n ++ word res.Is ++ sub_ind s ++ semicolon
decl_form f (decl'.Object ns o) = names ns ++ symbol del.Colon ++ object o ++ semicolon
decl_form f (decl'.Sub s) = sub f s
decl_form f (decl'.Pragma p) = pragma p
decl_form f (decl'.Use ns) = word res.Use ++ names ns ++ semicolon

abbrev pub decl_step : Decl-F Words → Words
decl_step d = decl_form (λ w. w) d.form

-- a declaration
abbrev pub decl : Decl → Words
decl = fold-Decl Words decl_step
