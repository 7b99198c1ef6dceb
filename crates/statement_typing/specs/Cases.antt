-- Sample statements and declarations, in the world of the samples of expressions: a byte says where an identifier stands and what
-- it is, 100 times its place and the number of its name. Names from 90 on are declared by the samples.
use Rattle.std.specs.Prelude.{ℕ, ◌%◌, ◌==◌, Bool, true, false, Option, Some, None, List, [], ◌∷◌, if◌then◌else◌}
use Rattle.ada_syntax.specs.declared.declarations.Mode.{Mode}
use Rattle.front_codes.specs.declared.codes.Code.{Code}
use Rattle.front_codes.specs.declared.codes.Refusal.{Refusal}
use Rattle.name_numbers.specs.declared.words.Word.{Word}
use Rattle.name_numbers.specs.declared.words.Word.TheVariants as word
use Rattle.typed_units.specs.declared.statements.Stmt.{Stmt}
use Rattle.typed_units.specs.declared.operators.Object.TheVariants as object
use Rattle.type_base.specs.declared.entities.Access.TheVariants as access
use Rattle.type_base.specs.declared.entities.Entity.TheVariants as entity
use Rattle.type_base.specs.declared.seen.Moment.TheVariants as moment
use Rattle.type_base.specs.Lookups.{with_entity}
use Rattle.syntax_view.specs.Trees as tree
use Rattle.typing_rules.specs.declared.prefix.Found.{Found}
use Rattle.typing_rules.specs.declared.prefix.Found.TheVariants.{Is}
use Rattle.typing_rules.specs.Cases.{id, name_tree, place, scope, scope_of, span}
use Rattle.statement_typing.specs.declared.draft.Draft.{Draft}
use Rattle.statement_typing.specs.Files.{File, Home}
use Rattle.statement_typing.specs.Statements.{Around, Loop, Returns, nothing, a_value, stmts, stmts_faults}
use Rattle.statement_typing.specs.Units.{decls_faults, statements_faults}

-- the words that the samples have, by their numbers
abbrev pub word_numbered : ℕ → Option Word
word_numbered n =
    if n == 32 then Some word.Assert else if n == 34 then Some word.LoopInvariant else if n == 35 then Some word.LoopVariant
    else if n == 36 then Some word.Pre else if n == 38 then Some word.Global else if n == 50 then Some word.Check
    else if n == 52 then Some word.Decreases else if n == 55 then Some word.InOut else None

abbrev pub refusal : Code → ℕ → List Refusal
refusal r at = record { code = r; place = place at } ∷ []

-- ---- statements

abbrev pub stmt : ℕ → tree.Action → tree.Stmts → tree.Stmts
stmt at a ss = tree.stmts (tree.statement (span at) a) ss

abbrev pub alone : ℕ → tree.Action → tree.Stmts
alone at a = stmt at a tree.no_stmts

abbrev pub skip : ℕ → tree.Stmts
skip at = alone at tree.skip

-- an assignment begins with its target
abbrev pub assign : ℕ → tree.Expr → tree.Stmts
assign at e = alone at (tree.assign (name_tree at []) e)

abbrev pub if_then : ℕ → tree.Expr → tree.Stmts → tree.Stmts → tree.Stmts
if_then at e yes' ss = stmt at (tree.branches (tree.branch e yes' tree.no_branches) tree.no_stmts) ss

abbrev pub if_else : ℕ → tree.Expr → tree.Stmts → tree.Stmts → tree.Stmts
if_else at e yes' no' = alone at (tree.branches (tree.branch e yes' tree.no_branches) no')

abbrev pub loop : ℕ → tree.LoopHead → tree.Stmts → tree.Stmts
loop at h ss = alone at (tree.loop h ss)

-- a loop over a range, whose parameter stands at a byte
abbrev pub loop_over : ℕ → ℕ → tree.Range → tree.Stmts → tree.Stmts
loop_over at p r ss = loop at (tree.for (span p) false r) ss

abbrev pub between : tree.Expr → tree.Expr → tree.Range
between l h = tree.range l (tree.an_expr h)

-- a statement that is a pragma, with the byte of its name
abbrev pub pragma_at : ℕ → ℕ → tree.Args → tree.Stmts → tree.Stmts
pragma_at at n as' ss = stmt at (tree.pragma_stmt (record { span = span at; name = span n; args = as' })) ss

abbrev pub choice : tree.Expr → tree.Choice
choice e = tree.values (tree.range e tree.no_expr)

abbrev pub choice_range : tree.Expr → tree.Expr → tree.Choice
choice_range l h = tree.values (between l h)

abbrev pub when : tree.Choice → tree.Alternatives → tree.Alternatives
when k as' = tree.alternative (k ∷ []) (skip 900) as'

abbrev pub case_on : ℕ → tree.Expr → tree.Alternatives → tree.Stmts
case_on at e as' = alone at (tree.case_of e as')

abbrev pub return_value : ℕ → tree.Expr → tree.Stmts
return_value at e = alone at (tree.return (Some e))

abbrev pub around : Returns → Option Loop → Around
around r l = record { scope = scope_of (Some 1) moment.Elsewhere; word = λ at. word_numbered (at % 100); returns = r; loop = l }

-- what statements of a procedure outside a loop break, and what they are
abbrev pub breaks : tree.Stmts → List Refusal
breaks ss = stmts_faults (around nothing None) ss

abbrev pub typed : tree.Stmts → Found (List Stmt)
typed ss = stmts (around nothing None) ss

-- those of a function of Integer
abbrev pub of_function : Returns
of_function = a_value (Is 2)

abbrev pub function_breaks : tree.Stmts → List Refusal
function_breaks ss = stmts_faults (around of_function None) ss

-- ---- declarations

abbrev pub mark : ℕ → tree.SubInd
mark at = record { span = span at; name = name_tree at []; bounds = None }

abbrev pub ranged : ℕ → tree.Expr → tree.Expr → tree.SubInd
ranged at l h = record { span = span at; name = name_tree at []; bounds = Some (record { low = l; high = h }) }

-- a subtype of an array type by its bounds
abbrev pub indexed : ℕ → tree.Expr → tree.Expr → tree.SubInd
indexed at l h = record {
  span = span at;
  name = name_tree at (tree.applied (tree.args (tree.arg (span at) (tree.parts l h) tree.no_value) tree.no_args) ∷ []);
  bounds = None;
}

abbrev pub one : ℕ → tree.DeclForm → tree.Decls
one at f = tree.decls (tree.declaration (span at) f) tree.no_decls

-- an object's name stands where its declaration begins
abbrev pub an_object : ℕ → Bool → tree.SubInd → Option tree.Expr → tree.Decls
an_object at b s v = one at (tree.object_decl (span at ∷ []) (record { constant = b; subtype = Some s; value = v }))

abbrev pub named_number : ℕ → tree.Expr → tree.Decls
named_number at e = one at (tree.object_decl (span at ∷ []) (record { constant = true; subtype = None; value = Some e }))

abbrev pub type_of : ℕ → tree.TypeForm → tree.Decls
type_of at t = one at (tree.type_decl (span at) (record { span = span at; form = t }))

abbrev pub subtype_of : ℕ → tree.SubInd → tree.Decls
subtype_of at s = one at (tree.subtype_decl (span at) s)

abbrev pub bounds : tree.Expr → tree.Expr → tree.Bounds
bounds l h = record { low = l; high = h }

abbrev pub array_over : tree.Expr → tree.Expr → tree.SubInd → tree.TypeForm
array_over l h s = tree.array_of (record { first = l; form = tree.up_to h }) s

abbrev pub open_array : ℕ → tree.SubInd → tree.TypeForm
open_array at s = tree.array_of (record { first = id at; form = tree.unconstrained }) s

abbrev pub component : ℕ → tree.SubInd → tree.Component
component at s = record { span = span at; names = span at ∷ []; subtype = s }

abbrev pub param : ℕ → Mode → tree.SubInd → tree.Param
param at m s = record { span = span at; names = span at ∷ []; mode = m; subtype = s }

abbrev pub item : ℕ → tree.Expr → Option tree.Item
item at e = Some (tree.item (span at) (tree.plain e))

abbrev pub aspect : ℕ → Option tree.Item → tree.Aspect
aspect at v = record { span = span at; name = span at; value = v }

abbrev pub procedure : ℕ → List tree.Param → List tree.Aspect → tree.Heading
procedure at ps as' = record { span = span at; name = span at; params = ps; result = None; aspects = as' }

abbrev pub declared : tree.Heading → tree.Decls
declared h = one h.name.from (tree.sub_decl (tree.sub h tree.no_body))

abbrev pub with_body : tree.Heading → tree.Stmts → tree.Decls
with_body h ss = one h.name.from (tree.sub_decl (tree.sub h (tree.body tree.no_decls ss None)))

abbrev pub function : ℕ → ℕ → tree.Heading
function at r = record { span = span at; name = span at; params = []; result = Some (name_tree r []); aspects = [] }

abbrev pub file : File
file = record {
  unit = record { span = span 0; context = []; unit = record { span = span 0; form = tree.sub_unit (tree.sub (procedure 90 [] []) tree.no_body) } };
  number = 0;
  place = place;
  link = scope.link;
  name = scope.name;
  word = λ at. word_numbered (at % 100);
  spelled = λ at. at ∷ [];
}

abbrev pub home : Option ℕ → Home
home q = record { file = file; own = q; number = λ at. 0; globals = []; routines = [] }

-- name 83 is a package's variable of Integer
abbrev pub draft : Draft
draft = record { world = with_entity scope.world (record { file = 0; at = 83 }) (entity.Object 2 (object.Global 0) access.Variable); names = []; globals = []; subs = []; locals = []; opening = [] }

-- what a declaration of a subprogram, and one of a package, breaks
abbrev pub local_breaks : tree.Decls → List Refusal
local_breaks ds = decls_faults (home (Some 0)) ds draft

abbrev pub package_breaks : tree.Decls → List Refusal
package_breaks ds = decls_faults (home None) ds draft

-- what the statements of a function of Integer break, with their end
abbrev pub body_breaks : tree.Stmts → List Refusal
body_breaks ss = statements_faults (home (Some 0)) (function 90 103) ss draft
