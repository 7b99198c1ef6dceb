-- How many parts each rule takes.
use Rattle.std.proofs.Common.{◌≡◌, ◌≤◌, ◌+◌, refl, ℕ, zero, suc, List, [], ◌∷◌, length, arith}
use Rattle.tree_parts.specs.declared.parts.Part.{Part}
use Rattle.ada_tree.specs.declared.rules.Rule.{Rule}
use Rattle.ada_tree.specs.declared.rules.Rule.TheVariants as rule
use Rattle.ada_tree.specs.declared.rules.ContextRule.{ContextRule}
use Rattle.ada_tree.specs.declared.rules.ContextRule.TheVariants as context'
use Rattle.ada_tree.specs.declared.rules.ClauseRule.{ClauseRule}
use Rattle.ada_tree.specs.declared.rules.ClauseRule.TheVariants as clause'
use Rattle.ada_tree.specs.declared.rules.NamesRule.{NamesRule}
use Rattle.ada_tree.specs.declared.rules.NamesRule.TheVariants as names'
use Rattle.ada_tree.specs.declared.rules.UnitRule.{UnitRule}
use Rattle.ada_tree.specs.declared.rules.UnitRule.TheVariants as unit'
use Rattle.ada_tree.specs.declared.rules.PackageRule.{PackageRule}
use Rattle.ada_tree.specs.declared.rules.PackageRule.TheVariants as package'
use Rattle.ada_tree.specs.declared.rules.DeclarationRule.{DeclarationRule}
use Rattle.ada_tree.specs.declared.rules.DeclarationRule.TheVariants as declaration'
use Rattle.ada_tree.specs.declared.rules.OtherDeclarationRule.{OtherDeclarationRule}
use Rattle.ada_tree.specs.declared.rules.OtherDeclarationRule.TheVariants as other_declaration'
use Rattle.ada_tree.specs.declared.rules.ObjectRule.{ObjectRule}
use Rattle.ada_tree.specs.declared.rules.ObjectRule.TheVariants as object'
use Rattle.ada_tree.specs.declared.rules.TypeFormRule.{TypeFormRule}
use Rattle.ada_tree.specs.declared.rules.TypeFormRule.TheVariants as type_form'
use Rattle.ada_tree.specs.declared.rules.CompositeRule.{CompositeRule}
use Rattle.ada_tree.specs.declared.rules.CompositeRule.TheVariants as composite'
use Rattle.ada_tree.specs.declared.rules.IndexRule.{IndexRule}
use Rattle.ada_tree.specs.declared.rules.IndexRule.TheVariants as index'
use Rattle.ada_tree.specs.declared.rules.SubtypeRule.{SubtypeRule}
use Rattle.ada_tree.specs.declared.rules.SubtypeRule.TheVariants as subtype'
use Rattle.ada_tree.specs.declared.rules.SubprogramRule.{SubprogramRule}
use Rattle.ada_tree.specs.declared.rules.SubprogramRule.TheVariants as subprogram'
use Rattle.ada_tree.specs.declared.rules.BodyRule.{BodyRule}
use Rattle.ada_tree.specs.declared.rules.BodyRule.TheVariants as body'
use Rattle.ada_tree.specs.declared.rules.ParamRule.{ParamRule}
use Rattle.ada_tree.specs.declared.rules.ParamRule.TheVariants as param'
use Rattle.ada_tree.specs.declared.rules.ModeRule.{ModeRule}
use Rattle.ada_tree.specs.declared.rules.ModeRule.TheVariants as mode'
use Rattle.ada_tree.specs.declared.rules.AspectRule.{AspectRule}
use Rattle.ada_tree.specs.declared.rules.AspectRule.TheVariants as aspect'
use Rattle.ada_tree.specs.declared.rules.StatementRule.{StatementRule}
use Rattle.ada_tree.specs.declared.rules.StatementRule.TheVariants as statement'
use Rattle.ada_tree.specs.declared.rules.IfRule.{IfRule}
use Rattle.ada_tree.specs.declared.rules.IfRule.TheVariants as if'
use Rattle.ada_tree.specs.declared.rules.CaseRule.{CaseRule}
use Rattle.ada_tree.specs.declared.rules.CaseRule.TheVariants as case'
use Rattle.ada_tree.specs.declared.rules.ChoiceRule.{ChoiceRule}
use Rattle.ada_tree.specs.declared.rules.ChoiceRule.TheVariants as choice'
use Rattle.ada_tree.specs.declared.rules.LoopRule.{LoopRule}
use Rattle.ada_tree.specs.declared.rules.LoopRule.TheVariants as loop'
use Rattle.ada_tree.specs.declared.rules.DirectionRule.{DirectionRule}
use Rattle.ada_tree.specs.declared.rules.DirectionRule.TheVariants as direction'
use Rattle.ada_tree.specs.declared.rules.OptionalRule.{OptionalRule}
use Rattle.ada_tree.specs.declared.rules.OptionalRule.TheVariants as optional'
use Rattle.ada_tree.specs.declared.rules.ItemRule.{ItemRule}
use Rattle.ada_tree.specs.declared.rules.ItemRule.TheVariants as item'
use Rattle.ada_tree.specs.declared.rules.ConditionalRule.{ConditionalRule}
use Rattle.ada_tree.specs.declared.rules.ConditionalRule.TheVariants as conditional'
use Rattle.ada_tree.specs.declared.rules.ArgsRule.{ArgsRule}
use Rattle.ada_tree.specs.declared.rules.ArgsRule.TheVariants as args'
use Rattle.ada_tree.specs.declared.rules.ArgRule.{ArgRule}
use Rattle.ada_tree.specs.declared.rules.ArgRule.TheVariants as arg'
use Rattle.ada_tree.specs.declared.rules.LogicRule.{LogicRule}
use Rattle.ada_tree.specs.declared.rules.LogicRule.TheVariants as logic'
use Rattle.ada_tree.specs.declared.rules.OperationRule.{OperationRule}
use Rattle.ada_tree.specs.declared.rules.OperationRule.TheVariants as operation'
use Rattle.ada_tree.specs.declared.rules.RelationRule.{RelationRule}
use Rattle.ada_tree.specs.declared.rules.RelationRule.TheVariants as relation'
use Rattle.ada_tree.specs.declared.rules.PrimaryRule.{PrimaryRule}
use Rattle.ada_tree.specs.declared.rules.PrimaryRule.TheVariants as primary'
use Rattle.ada_tree.specs.declared.rules.NameRule.{NameRule}
use Rattle.ada_tree.specs.declared.rules.NameRule.TheVariants as name'
use Rattle.ada_tree.specs.declared.rules.AttributeRule.{AttributeRule}
use Rattle.ada_tree.specs.declared.rules.AttributeRule.TheVariants as attribute'
use Rattle.ada_tree.specs.Declarations.{declaration_rule, object_rule, other_declaration_rule}
use Rattle.ada_tree.specs.Expressions.{logic_rule, operation_rule, relation_rule}
use Rattle.ada_tree.specs.Items.{arg_rule, args_rule, conditional_rule, item_rule, optional_rule}
use Rattle.ada_tree.specs.Names.{attribute_rule, name_rule, primary_rule}
use Rattle.ada_tree.specs.Statements.{case_rule, choice_rule, direction_rule, if_rule, loop_rule, statement_rule}
use Rattle.ada_tree.specs.Subprograms.{aspect_rule, body_rule, mode_rule, param_rule, subprogram_rule}
use Rattle.ada_tree.specs.Types.{composite_rule, index_rule, subtype_rule, type_form_rule}
use Rattle.ada_tree.specs.Units.{clause_rule, context_rule, names_rule, package_rule, unit_rule}
use Rattle.ada_tree.specs.Made.{made}
use Rattle.tree_parts.specs.Parts.{after, first}

abbrev pub context_arity : ContextRule → ℕ
context_arity context'.File = 2
context_arity context'.ContextPragma = 2
context_arity context'.NoContext = 0

context_made : (r : ContextRule) (s : List Part) → context_rule r s ≡ first (context_rule r s) ∷ after (context_arity r) s
context_made context'.File s = refl
context_made context'.ContextPragma s = refl
context_made context'.NoContext s = refl

abbrev pub clause_arity : ClauseRule → ℕ
clause_arity clause'.ContextWith = 5
clause_arity clause'.ContextUse = 5

clause_made : (r : ClauseRule) (s : List Part) → clause_rule r s ≡ first (clause_rule r s) ∷ after (clause_arity r) s
clause_made clause'.ContextWith s = refl
clause_made clause'.ContextUse s = refl

abbrev pub names_arity : NamesRule → ℕ
names_arity names'.Names = 3
names_arity names'.NoNames = 0
names_arity names'.SomeEndName = 1
names_arity names'.NoEndName = 0

names_made : (r : NamesRule) (s : List Part) → names_rule r s ≡ first (names_rule r s) ∷ after (names_arity r) s
names_made names'.Names s = refl
names_made names'.NoNames s = refl
names_made names'.SomeEndName s = refl
names_made names'.NoEndName s = refl

abbrev pub unit_arity : UnitRule → ℕ
unit_arity unit'.UnitPackage = 2
unit_arity unit'.UnitSub = 1
unit_arity unit'.SomePrivate = 2
unit_arity unit'.NoPrivate = 0

unit_made : (r : UnitRule) (s : List Part) → unit_rule r s ≡ first (unit_rule r s) ∷ after (unit_arity r) s
unit_made unit'.UnitPackage s = refl
unit_made unit'.UnitSub s = refl
unit_made unit'.SomePrivate s = refl
unit_made unit'.NoPrivate s = refl

abbrev pub package_arity : PackageRule → ℕ
package_arity package'.PackageBody = 8
package_arity package'.PackageSpec = 8

package_made : (r : PackageRule) (s : List Part) → package_rule r s ≡ first (package_rule r s) ∷ after (package_arity r) s
package_made package'.PackageBody s = refl
package_made package'.PackageSpec s = refl

abbrev pub declaration_arity : DeclarationRule → ℕ
declaration_arity declaration'.Decls = 2
declaration_arity declaration'.NoDecls = 0
declaration_arity declaration'.Type = 5
declaration_arity declaration'.Subtype = 5
declaration_arity declaration'.Object = 5

declaration_made : (r : DeclarationRule) (s : List Part) → declaration_rule r s ≡ first (declaration_rule r s) ∷ after (declaration_arity r) s
declaration_made declaration'.Decls s = refl
declaration_made declaration'.NoDecls s = refl
declaration_made declaration'.Type s = refl
declaration_made declaration'.Subtype s = refl
declaration_made declaration'.Object s = refl

abbrev pub other_declaration_arity : OtherDeclarationRule → ℕ
other_declaration_arity other_declaration'.DeclSub = 1
other_declaration_arity other_declaration'.DeclPragma = 1
other_declaration_arity other_declaration'.DeclUse = 4

other_declaration_made : (r : OtherDeclarationRule) (s : List Part) → other_declaration_rule r s ≡ first (other_declaration_rule r s) ∷ after (other_declaration_arity r) s
other_declaration_made other_declaration'.DeclSub s = refl
other_declaration_made other_declaration'.DeclPragma s = refl
other_declaration_made other_declaration'.DeclUse s = refl

abbrev pub object_arity : ObjectRule → ℕ
object_arity object'.Variable = 2
object_arity object'.NamedNumber = 2
object_arity object'.Constant = 2

object_made : (r : ObjectRule) (s : List Part) → object_rule r s ≡ first (object_rule r s) ∷ after (object_arity r) s
object_made object'.Variable s = refl
object_made object'.NamedNumber s = refl
object_made object'.Constant s = refl

abbrev pub type_form_arity : TypeFormRule → ℕ
type_form_arity type_form'.Range = 4
type_form_arity type_form'.Modular = 2
type_form_arity type_form'.Enumeration = 4
type_form_arity type_form'.Derived = 2

type_form_made : (r : TypeFormRule) (s : List Part) → type_form_rule r s ≡ first (type_form_rule r s) ∷ after (type_form_arity r) s
type_form_made type_form'.Range s = refl
type_form_made type_form'.Modular s = refl
type_form_made type_form'.Enumeration s = refl
type_form_made type_form'.Derived s = refl

abbrev pub composite_arity : CompositeRule → ℕ
composite_arity composite'.Array = 6
composite_arity composite'.Record = 5

composite_made : (r : CompositeRule) (s : List Part) → composite_rule r s ≡ first (composite_rule r s) ∷ after (composite_arity r) s
composite_made composite'.Array s = refl
composite_made composite'.Record s = refl

abbrev pub index_arity : IndexRule → ℕ
index_arity index'.Index = 2
index_arity index'.IndexUpTo = 2
index_arity index'.IndexAlone = 0
index_arity index'.IndexUnconstrained = 1
index_arity index'.IndexWithin = 3

index_made : (r : IndexRule) (s : List Part) → index_rule r s ≡ first (index_rule r s) ∷ after (index_arity r) s
index_made index'.Index s = refl
index_made index'.IndexUpTo s = refl
index_made index'.IndexAlone s = refl
index_made index'.IndexUnconstrained s = refl
index_made index'.IndexWithin s = refl

abbrev pub subtype_arity : SubtypeRule → ℕ
subtype_arity subtype'.Component = 5
subtype_arity subtype'.Components = 2
subtype_arity subtype'.NoComponents = 0
subtype_arity subtype'.SubInd = 2
subtype_arity subtype'.SomeBounds = 4
subtype_arity subtype'.NoBounds = 0

subtype_made : (r : SubtypeRule) (s : List Part) → subtype_rule r s ≡ first (subtype_rule r s) ∷ after (subtype_arity r) s
subtype_made subtype'.Component s = refl
subtype_made subtype'.Components s = refl
subtype_made subtype'.NoComponents s = refl
subtype_made subtype'.SubInd s = refl
subtype_made subtype'.SomeBounds s = refl
subtype_made subtype'.NoBounds s = refl

abbrev pub subprogram_arity : SubprogramRule → ℕ
subprogram_arity subprogram'.Procedure = 5
subprogram_arity subprogram'.Function = 7

subprogram_made : (r : SubprogramRule) (s : List Part) → subprogram_rule r s ≡ first (subprogram_rule r s) ∷ after (subprogram_arity r) s
subprogram_made subprogram'.Procedure s = refl
subprogram_made subprogram'.Function s = refl

abbrev pub body_arity : BodyRule → ℕ
body_arity body'.NoBody = 1
body_arity body'.SomeBody = 7

body_made : (r : BodyRule) (s : List Part) → body_rule r s ≡ first (body_rule r s) ∷ after (body_arity r) s
body_made body'.NoBody s = refl
body_made body'.SomeBody s = refl

abbrev pub param_arity : ParamRule → ℕ
param_arity param'.ParamGroup = 4
param_arity param'.NoParams = 0
param_arity param'.Params = 3
param_arity param'.Param = 5

param_made : (r : ParamRule) (s : List Part) → param_rule r s ≡ first (param_rule r s) ∷ after (param_arity r) s
param_made param'.ParamGroup s = refl
param_made param'.NoParams s = refl
param_made param'.Params s = refl
param_made param'.Param s = refl

abbrev pub mode_arity : ModeRule → ℕ
mode_arity mode'.ModeOut = 1
mode_arity mode'.ModeUnstated = 0
mode_arity mode'.ModeInOut = 1
mode_arity mode'.ModeIn = 0

mode_made : (r : ModeRule) (s : List Part) → mode_rule r s ≡ first (mode_rule r s) ∷ after (mode_arity r) s
mode_made mode'.ModeOut s = refl
mode_made mode'.ModeUnstated s = refl
mode_made mode'.ModeInOut s = refl
mode_made mode'.ModeIn s = refl

abbrev pub aspect_arity : AspectRule → ℕ
aspect_arity aspect'.Aspects = 3
aspect_arity aspect'.NoAspects = 0
aspect_arity aspect'.Aspect = 2
aspect_arity aspect'.Pragma = 4

aspect_made : (r : AspectRule) (s : List Part) → aspect_rule r s ≡ first (aspect_rule r s) ∷ after (aspect_arity r) s
aspect_made aspect'.Aspects s = refl
aspect_made aspect'.NoAspects s = refl
aspect_made aspect'.Aspect s = refl
aspect_made aspect'.Pragma s = refl

abbrev pub statement_arity : StatementRule → ℕ
statement_arity statement'.Stmts = 2
statement_arity statement'.NoStmts = 0
statement_arity statement'.Null = 2
statement_arity statement'.Name = 3
statement_arity statement'.Exit = 3
statement_arity statement'.Return = 3
statement_arity statement'.StmtPragma = 1

statement_made : (r : StatementRule) (s : List Part) → statement_rule r s ≡ first (statement_rule r s) ∷ after (statement_arity r) s
statement_made statement'.Stmts s = refl
statement_made statement'.NoStmts s = refl
statement_made statement'.Null s = refl
statement_made statement'.Name s = refl
statement_made statement'.Exit s = refl
statement_made statement'.Return s = refl
statement_made statement'.StmtPragma s = refl

abbrev pub if_arity : IfRule → ℕ
if_arity if'.If = 9
if_arity if'.Branches = 5
if_arity if'.NoBranches = 0

if_made : (r : IfRule) (s : List Part) → if_rule r s ≡ first (if_rule r s) ∷ after (if_arity r) s
if_made if'.If s = refl
if_made if'.Branches s = refl
if_made if'.NoBranches s = refl

abbrev pub case_arity : CaseRule → ℕ
case_arity case'.Case = 8
case_arity case'.Alternative = 5
case_arity case'.Alternatives = 2
case_arity case'.NoAlternatives = 0

case_made : (r : CaseRule) (s : List Part) → case_rule r s ≡ first (case_rule r s) ∷ after (case_arity r) s
case_made case'.Case s = refl
case_made case'.Alternative s = refl
case_made case'.Alternatives s = refl
case_made case'.NoAlternatives s = refl

abbrev pub choice_arity : ChoiceRule → ℕ
choice_arity choice'.ChoiceOthers = 1
choice_arity choice'.ChoiceRange = 1
choice_arity choice'.Choices = 3
choice_arity choice'.NoChoices = 0

choice_made : (r : ChoiceRule) (s : List Part) → choice_rule r s ≡ first (choice_rule r s) ∷ after (choice_arity r) s
choice_made choice'.ChoiceOthers s = refl
choice_made choice'.ChoiceRange s = refl
choice_made choice'.Choices s = refl
choice_made choice'.NoChoices s = refl

abbrev pub loop_arity : LoopRule → ℕ
loop_arity loop'.Loop = 6
loop_arity loop'.While = 2
loop_arity loop'.For = 5
loop_arity loop'.Forever = 0

loop_made : (r : LoopRule) (s : List Part) → loop_rule r s ≡ first (loop_rule r s) ∷ after (loop_arity r) s
loop_made loop'.Loop s = refl
loop_made loop'.While s = refl
loop_made loop'.For s = refl
loop_made loop'.Forever s = refl

abbrev pub direction_arity : DirectionRule → ℕ
direction_arity direction'.Reverse = 1
direction_arity direction'.Forward = 0

direction_made : (r : DirectionRule) (s : List Part) → direction_rule r s ≡ first (direction_rule r s) ∷ after (direction_arity r) s
direction_made direction'.Reverse s = refl
direction_made direction'.Forward s = refl

abbrev pub optional_arity : OptionalRule → ℕ
optional_arity optional'.SomeExprAfter = 2
optional_arity optional'.SomeExpr = 1
optional_arity optional'.NoExpr = 0
optional_arity optional'.SomeItem = 2
optional_arity optional'.NoItem = 0

optional_made : (r : OptionalRule) (s : List Part) → optional_rule r s ≡ first (optional_rule r s) ∷ after (optional_arity r) s
optional_made optional'.SomeExprAfter s = refl
optional_made optional'.SomeExpr s = refl
optional_made optional'.NoExpr s = refl
optional_made optional'.SomeItem s = refl
optional_made optional'.NoItem s = refl

abbrev pub item_arity : ItemRule → ℕ
item_arity item'.Range = 2
item_arity item'.Plain = 1
item_arity item'.Quantified = 7

item_made : (r : ItemRule) (s : List Part) → item_rule r s ≡ first (item_rule r s) ∷ after (item_arity r) s
item_made item'.Range s = refl
item_made item'.Plain s = refl
item_made item'.Quantified s = refl

abbrev pub conditional_arity : ConditionalRule → ℕ
conditional_arity conditional'.If = 6
conditional_arity conditional'.Arms = 5
conditional_arity conditional'.NoArms = 0

conditional_made : (r : ConditionalRule) (s : List Part) → conditional_rule r s ≡ first (conditional_rule r s) ∷ after (conditional_arity r) s
conditional_made conditional'.If s = refl
conditional_made conditional'.Arms s = refl
conditional_made conditional'.NoArms s = refl

abbrev pub args_arity : ArgsRule → ℕ
args_arity args'.ArgGroup = 3
args_arity args'.NoArgs = 0
args_arity args'.Args = 2
args_arity args'.ArgsAfter = 3

args_made : (r : ArgsRule) (s : List Part) → args_rule r s ≡ first (args_rule r s) ∷ after (args_arity r) s
args_made args'.ArgGroup s = refl
args_made args'.NoArgs s = refl
args_made args'.Args s = refl
args_made args'.ArgsAfter s = refl

abbrev pub arg_arity : ArgRule → ℕ
arg_arity arg'.ArgOthers = 3
arg_arity arg'.ArgItem = 2
arg_arity arg'.ArgSimple = 2
arg_arity arg'.ArgUpTo = 3
arg_arity arg'.ArgRest = 3

arg_made : (r : ArgRule) (s : List Part) → arg_rule r s ≡ first (arg_rule r s) ∷ after (arg_arity r) s
arg_made arg'.ArgOthers s = refl
arg_made arg'.ArgItem s = refl
arg_made arg'.ArgSimple s = refl
arg_made arg'.ArgUpTo s = refl
arg_made arg'.ArgRest s = refl

abbrev pub logic_arity : LogicRule → ℕ
logic_arity logic'.Logic = 2
logic_arity logic'.LogicShort = 3
logic_arity logic'.LogicPlain = 2
logic_arity logic'.ShortOperations = 4

logic_made : (r : LogicRule) (s : List Part) → logic_rule r s ≡ first (logic_rule r s) ∷ after (logic_arity r) s
logic_made logic'.Logic s = refl
logic_made logic'.LogicShort s = refl
logic_made logic'.LogicPlain s = refl
logic_made logic'.ShortOperations s = refl

abbrev pub operation_arity : OperationRule → ℕ
operation_arity operation'.Grouped = 2
operation_arity operation'.Operations = 3
operation_arity operation'.NoOperations = 0
operation_arity operation'.Power = 2
operation_arity operation'.Signed = 3
operation_arity operation'.Prefixed = 2

operation_made : (r : OperationRule) (s : List Part) → operation_rule r s ≡ first (operation_rule r s) ∷ after (operation_arity r) s
operation_made operation'.Grouped s = refl
operation_made operation'.Operations s = refl
operation_made operation'.NoOperations s = refl
operation_made operation'.Power s = refl
operation_made operation'.Signed s = refl
operation_made operation'.Prefixed s = refl

abbrev pub relation_arity : RelationRule → ℕ
relation_arity relation'.Relation = 2
relation_arity relation'.Compare = 2
relation_arity relation'.In = 2
relation_arity relation'.NotIn = 3
relation_arity relation'.NoRelation = 0

relation_made : (r : RelationRule) (s : List Part) → relation_rule r s ≡ first (relation_rule r s) ∷ after (relation_arity r) s
relation_made relation'.Relation s = refl
relation_made relation'.Compare s = refl
relation_made relation'.In s = refl
relation_made relation'.NotIn s = refl
relation_made relation'.NoRelation s = refl

abbrev pub primary_arity : PrimaryRule → ℕ
primary_arity primary'.Number = 1
primary_arity primary'.Null = 1
primary_arity primary'.Primary = 1
primary_arity primary'.Group = 3

primary_made : (r : PrimaryRule) (s : List Part) → primary_rule r s ≡ first (primary_rule r s) ∷ after (primary_arity r) s
primary_made primary'.Number s = refl
primary_made primary'.Null s = refl
primary_made primary'.Primary s = refl
primary_made primary'.Group s = refl

abbrev pub name_arity : NameRule → ℕ
name_arity name'.Name = 2
name_arity name'.Selected = 3
name_arity name'.Ticked = 3
name_arity name'.Applied = 4
name_arity name'.NoSuffixes = 0

name_made : (r : NameRule) (s : List Part) → name_rule r s ≡ first (name_rule r s) ∷ after (name_arity r) s
name_made name'.Name s = refl
name_made name'.Selected s = refl
name_made name'.Ticked s = refl
name_made name'.Applied s = refl
name_made name'.NoSuffixes s = refl

abbrev pub attribute_arity : AttributeRule → ℕ
attribute_arity attribute'.NamedAttribute = 1
attribute_arity attribute'.RangeAttribute = 1
attribute_arity attribute'.Qualified = 3

attribute_made : (r : AttributeRule) (s : List Part) → attribute_rule r s ≡ first (attribute_rule r s) ∷ after (attribute_arity r) s
attribute_made attribute'.NamedAttribute s = refl
attribute_made attribute'.RangeAttribute s = refl
attribute_made attribute'.Qualified s = refl

abbrev pub arity : Rule → ℕ
arity rule.Same = 1
arity rule.AfterWord = 2
arity (rule.Context r) = context_arity r
arity (rule.Clause r) = clause_arity r
arity (rule.Names r) = names_arity r
arity (rule.Unit r) = unit_arity r
arity (rule.Package r) = package_arity r
arity (rule.Declaration r) = declaration_arity r
arity (rule.OtherDeclaration r) = other_declaration_arity r
arity (rule.Object r) = object_arity r
arity (rule.TypeForm r) = type_form_arity r
arity (rule.Composite r) = composite_arity r
arity (rule.Index r) = index_arity r
arity (rule.Subtype r) = subtype_arity r
arity (rule.Subprogram r) = subprogram_arity r
arity (rule.Body r) = body_arity r
arity (rule.Param r) = param_arity r
arity (rule.Mode r) = mode_arity r
arity (rule.Aspect r) = aspect_arity r
arity (rule.Statement r) = statement_arity r
arity (rule.If r) = if_arity r
arity (rule.Case r) = case_arity r
arity (rule.Choice r) = choice_arity r
arity (rule.Loop r) = loop_arity r
arity (rule.Direction r) = direction_arity r
arity (rule.Optional r) = optional_arity r
arity (rule.Item r) = item_arity r
arity (rule.Conditional r) = conditional_arity r
arity (rule.Args r) = args_arity r
arity (rule.Arg r) = arg_arity r
arity (rule.Logic r) = logic_arity r
arity (rule.Operation r) = operation_arity r
arity (rule.Relation r) = relation_arity r
arity (rule.Primary r) = primary_arity r
arity (rule.Name r) = name_arity r
arity (rule.Attribute r) = attribute_arity r

-- what a rule makes is one part, in place of those that it takes
pub made_one : (r : Rule) (s : List Part) → arity r ≤ length s → made r s ≡ first (made r s) ∷ after (arity r) s
made_one rule.Same [] h = absurd (omega arith)
made_one rule.Same (p ∷ ps) h = refl
made_one rule.AfterWord [] h = absurd (omega arith)
made_one rule.AfterWord (p ∷ []) h = absurd (omega arith)
made_one rule.AfterWord (p ∷ q ∷ ps) h = refl
made_one (rule.Context r) s h = context_made r s
made_one (rule.Clause r) s h = clause_made r s
made_one (rule.Names r) s h = names_made r s
made_one (rule.Unit r) s h = unit_made r s
made_one (rule.Package r) s h = package_made r s
made_one (rule.Declaration r) s h = declaration_made r s
made_one (rule.OtherDeclaration r) s h = other_declaration_made r s
made_one (rule.Object r) s h = object_made r s
made_one (rule.TypeForm r) s h = type_form_made r s
made_one (rule.Composite r) s h = composite_made r s
made_one (rule.Index r) s h = index_made r s
made_one (rule.Subtype r) s h = subtype_made r s
made_one (rule.Subprogram r) s h = subprogram_made r s
made_one (rule.Body r) s h = body_made r s
made_one (rule.Param r) s h = param_made r s
made_one (rule.Mode r) s h = mode_made r s
made_one (rule.Aspect r) s h = aspect_made r s
made_one (rule.Statement r) s h = statement_made r s
made_one (rule.If r) s h = if_made r s
made_one (rule.Case r) s h = case_made r s
made_one (rule.Choice r) s h = choice_made r s
made_one (rule.Loop r) s h = loop_made r s
made_one (rule.Direction r) s h = direction_made r s
made_one (rule.Optional r) s h = optional_made r s
made_one (rule.Item r) s h = item_made r s
made_one (rule.Conditional r) s h = conditional_made r s
made_one (rule.Args r) s h = args_made r s
made_one (rule.Arg r) s h = arg_made r s
made_one (rule.Logic r) s h = logic_made r s
made_one (rule.Operation r) s h = operation_made r s
made_one (rule.Relation r) s h = relation_made r s
made_one (rule.Primary r) s h = primary_made r s
made_one (rule.Name r) s h = name_made r s
made_one (rule.Attribute r) s h = attribute_made r s

pub length-after : (n : ℕ) (s : List Part) → n ≤ length s → n + length (after n s) ≡ length s
length-after zero s h = omega arith
length-after (suc n) [] h = absurd (omega arith)
length-after (suc n) (p ∷ ps) h = omega (arith, length-after n ps (omega arith))
