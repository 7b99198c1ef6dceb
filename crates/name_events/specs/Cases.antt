-- Sample trees. An identifier stands at a byte, and that is the number of its name too.
use Rattle.std.specs.Prelude.{ℕ, false, List, [], ◌∷◌, Some, None}
use Rattle.ada_syntax.specs.declared.declarations.Mode.TheVariants as written
use Rattle.ada_syntax.specs.declared.expressions.Quantifier.TheVariants as quantifier
use Rattle.ada_text.specs.declared.token.Span.{Span}
use Rattle.name_library.specs.declared.events.Event.{Event}
use Rattle.name_library.specs.declared.events.Event.TheVariants as event
use Rattle.name_library.specs.declared.events.Ident.{Ident}
use Rattle.name_library.specs.declared.events.Manner.TheVariants as manner
use Rattle.name_uses.specs.Uses.{onto}
use Rattle.name_uses.specs.declared.places.Within.{Within}
use Rattle.name_uses.specs.declared.places.Within.TheVariants as within
use Rattle.name_events.specs.Declarations.{decl_onto}
use Rattle.name_events.specs.Statements.{stmt_onto}
use Rattle.name_events.specs.declared.words.Region.{Region}
use Rattle.syntax_view.specs.Trees.{Expr, at, null, name, group, range, no_expr, an_expr, Name, named, Suffixes, no_suffixes, suffixes, ticked, applied, range_attribute, Args, no_args, args, Arg, arg, part, parts, no_value, value, item, plain, quantified, statement, skip, loop, LoopHead, for, no_stmts, stmts, SubInd, record_of, Heading, Pragma, Decl, declaration, type_decl, object_decl, sub_decl, sub, Body, body, Decls, no_decls, decls, SourceUnit, package_unit}

abbrev pub spot : ℕ → Span
spot a = record { from = a; to = a }

abbrev pub own_number : ℕ → ℕ
own_number a = a

abbrev pub ident_at : ℕ → Ident
ident_at a = record { name = a; at = a }

abbrev pub uses : ℕ → Event
uses a = event.Name (ident_at a) manner.Plain

-- ---- names and expressions

abbrev pub begun : ℕ → Suffixes → Name
begun a ss = named (spot a) (spot a) ss

abbrev pub alone : ℕ → Name
alone a = begun a no_suffixes

abbrev pub simple : ℕ → Expr
simple a = at (spot a) (name (alone a))

-- `X (..)`, with all that stands in the parentheses
abbrev pub with_args : ℕ → Args → Name
with_args a as' = begun a (suffixes (applied as') no_suffixes)

abbrev pub one : Arg → Args
one a = args a no_args

abbrev pub positional : Expr → Arg
positional e = arg (spot 0) (part (item (spot 0) (plain e))) no_value

-- `A => e`
abbrev pub association : ℕ → Expr → Arg
association a e = arg (spot a) (part (item (spot a) (plain (simple a)))) (value (item (spot 0) (plain e)))

-- `A .. B`
abbrev pub between : ℕ → ℕ → Arg
between a b = arg (spot a) (parts (simple a) (simple b)) no_value

-- `A'Range`
abbrev pub range_of : ℕ → Expr
range_of a = at (spot a) (name (begun a (suffixes (ticked (spot a) range_attribute) no_suffixes)))

-- `for all I in A .. B => e`
abbrev pub for_all : ℕ → ℕ → ℕ → Expr → Arg
for_all i a b e = arg (spot 0) (part (item (spot 0) (quantified quantifier.All (spot i) (range (simple a) (an_expr (simple b))) e))) no_value

abbrev pub tells_in : Within → Expr → List Event
tells_in w e = onto own_number w [] e

abbrev pub name_tells : Name → List Event
name_tells m = tells_in within.Text (at (spot 0) (name m))

abbrev pub group_tells : Within → Arg → List Event
group_tells w a = tells_in w (at (spot 0) (group (one a)))

abbrev pub null_at : ℕ → Expr
null_at a = at (spot a) null

-- ---- statements and declarations

-- `for I in T loop`
abbrev pub for_in : ℕ → ℕ → LoopHead
for_in i t = for (spot i) false (range (simple t) no_expr)

abbrev pub loop_tells : LoopHead → List Event
loop_tells h = stmt_onto own_number [] (statement (spot 0) (loop h (stmts (statement (spot 0) skip) no_stmts)))

abbrev pub subtype_at : ℕ → SubInd
subtype_at a = record { span = spot a; name = alone a; bounds = None }

-- a record type with a component, and its subtype
abbrev pub record_type : ℕ → ℕ → ℕ → ℕ → Decl
record_type a t c s = declaration (spot a) (type_decl (spot t) (record { span = spot 0; form = record_of (record { span = spot c; names = spot c ∷ []; subtype = subtype_at s } ∷ []) }))

-- a variable, its subtype and its value
abbrev pub variable : ℕ → ℕ → ℕ → Decl
variable x t v = declaration (spot x) (object_decl (spot x ∷ []) (record { constant = false; subtype = Some (subtype_at t); value = Some (simple v) }))

-- a procedure with a parameter, and its subtype
abbrev pub heading : ℕ → ℕ → ℕ → Heading
heading q p t = record { span = spot 0; name = spot q; params = record { span = spot p; names = spot p ∷ []; mode = written.Unstated; subtype = subtype_at t } ∷ []; result = None; aspects = [] }

abbrev pub short_body : Decls → Body
short_body ds = body ds (stmts (statement (spot 0) skip) no_stmts) None

abbrev pub procedure : ℕ → ℕ → ℕ → ℕ → Body → Decl
procedure a q p t b = declaration (spot a) (sub_decl (sub (heading q p t) b))

abbrev pub declaration_tells : Region → Decl → List Event
declaration_tells r d = decl_onto own_number r false [] d

abbrev pub bare_pragma : ℕ → Pragma
bare_pragma a = record { span = spot a; name = spot a; args = no_args }

-- a package with a visible and a private variable, and the name after its end
abbrev pub package_file : ℕ → Decl → Decl → ℕ → SourceUnit
package_file p d e q = record {
  span = spot 0;
  context = [];
  unit = record { span = spot 0; form = package_unit (record { name = spot p; aspects = []; declarations = decls d no_decls; hidden = Some (decls e no_decls); end_name = Some (spot q) }) };
}
