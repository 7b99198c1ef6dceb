-- Samples: a world, trees and typed expressions.
--
-- A byte says where an identifier stands and what it is: 100 times its place, and the number of its name. Names from 60 to 89 are
-- declared, those below are words and names of Standard, and those from 90 on have no link, as components and formals have.
use Rattle.std.specs.Prelude.{ℕ, ℤ, pos, negsuc, Bool, true, false, ◌+◌, ◌++◌, ◌%◌, nat_lt, List, [], ◌∷◌, Option, Some, None, if◌then◌else◌}
use Rattle.ada_text.specs.declared.token.Span.{Span}
use Rattle.ada_syntax.specs.declared.expressions.BinaryOperator.{BinaryOperator}
use Rattle.ada_syntax.specs.declared.expressions.Quantifier.TheVariants as quantifier'
use Rattle.ada_syntax.specs.declared.expressions.UnaryOperator.{UnaryOperator}
use Rattle.ada_values.specs.declared.place.Place.{Place}
use Rattle.ada_values.specs.declared.values.Value.TheVariants as value
use Rattle.front_codes.specs.declared.codes.Code.{Code}
use Rattle.front_codes.specs.declared.codes.Refusal.{Refusal}
use Rattle.name_library.specs.declared.links.Link.{Link}
use Rattle.name_library.specs.declared.links.Link.TheVariants as link
use Rattle.syntax_view.specs.Trees as tree
use Rattle.typed_units.specs.declared.expressions.Association.{Association}
use Rattle.typed_units.specs.declared.expressions.Expr.{Expr, roll-Expr}
use Rattle.typed_units.specs.declared.expressions.ExprNode.{ExprNode}
use Rattle.typed_units.specs.declared.expressions.ExprNode.TheVariants as node
use Rattle.typed_units.specs.declared.operators.Bounds.{Bounds}
use Rattle.typed_units.specs.declared.operators.Counted.{Counted}
use Rattle.typed_units.specs.declared.operators.Object.TheVariants as object
use Rattle.typed_units.specs.declared.programs.Mode.TheVariants as mode
use Rattle.type_base.specs.Scope.{Scope}
use Rattle.type_base.specs.Standard.{standard_subtypes}
use Rattle.type_base.specs.declared.entities.Access.TheVariants as access
use Rattle.type_base.specs.declared.entities.Entity.{Entity}
use Rattle.type_base.specs.declared.entities.Entity.TheVariants as entity
use Rattle.type_base.specs.declared.entities.Meaning.{Meaning}
use Rattle.type_base.specs.declared.seen.Moment.{Moment}
use Rattle.type_base.specs.declared.seen.Moment.TheVariants as moment
use Rattle.type_base.specs.declared.seen.Seen.{Seen}
use Rattle.type_base.specs.declared.seen.Seen.TheVariants as seen
use Rattle.type_base.specs.declared.world.Discrete.{Discrete}
use Rattle.type_base.specs.declared.world.Discrete.TheVariants as discrete
use Rattle.type_base.specs.declared.world.Form.TheVariants as form
use Rattle.type_base.specs.declared.world.Subtype.{Subtype}
use Rattle.type_base.specs.declared.world.World.{World}
use Rattle.typing_rules.specs.declared.prefix.Call.{Call}
use Rattle.typing_rules.specs.declared.prefix.Found.{Found}
use Rattle.typing_rules.specs.declared.prefix.Found.TheVariants as found

-- ---- the world

abbrev number_type : ℕ → Discrete → ℤ → ℤ → ℤ → ℤ → Option ℤ → Subtype
number_type t d lo hi base_lo base_hi m =
    record { of = t; form = form.Number d (record { lo = lo; hi = hi; base_lo = base_lo; base_hi = base_hi; modulus = m }) }

abbrev array_type : ℕ → ℕ → Option Bounds → ℕ → Subtype
array_type t i b k = record { of = t; form = form.Array i b k }

abbrev pub from_to : ℕ → ℕ → Bounds
from_to a b = record { first = pos a; last = pos b }

-- 7, 8 type B is mod 256; 9 type Color is (Red, Green, Blue); 10 a subtype of it with two values; 11 type Arr is array (Positive range
-- <>) of Integer; 12, 13 Arr (1 .. 3), Arr (1 .. 5); 14 type Rec is record N : Integer; V : Arr (1 .. 3); 15, 16 type T is range 1 .. 10
abbrev subtypes : List Subtype
subtypes =
    standard_subtypes ++ (number_type 7 discrete.Modular (pos 0) (pos 255) (pos 0) (pos 255) (Some (pos 256))
    ∷ number_type 7 discrete.Modular (pos 0) (pos 255) (pos 0) (pos 255) (Some (pos 256))
    ∷ number_type 9 discrete.Enumeration (pos 0) (pos 2) (pos 0) (pos 2) None
    ∷ number_type 9 discrete.Enumeration (pos 0) (pos 1) (pos 0) (pos 2) None
    ∷ array_type 11 4 None 2
    ∷ array_type 11 4 (Some (from_to 1 3)) 2
    ∷ array_type 11 4 (Some (from_to 1 5)) 2
    ∷ record { of = 14; form = form.Record 0 2 }
    ∷ number_type 15 discrete.Signed (negsuc 127) (pos 127) (negsuc 127) (pos 127) None
    ∷ number_type 15 discrete.Signed (pos 1) (pos 10) (negsuc 127) (pos 127) None
    ∷ [])

abbrev means : ℕ → Entity → Meaning
means at e = record { at = at; entity = e }

abbrev local : ℕ → ℕ → ℕ → Meaning
local at k n = means at (entity.Object k (object.Local n) access.Variable)

-- 60 X : Integer; 61 N : in Natural; 62 D : Boolean; 63 A : Arr (1 .. 3); 64 U : in Arr; 65 S : Rec; 66 W : B; 67 E : Color; 68 K : constant
-- Integer := 5; 69 Ten : constant := 10; 70 Red; 71 Blue; 72 B; 73 Color; 74 Arr; 75 Arr (1 .. 3); 76 T; 77 function F (P : Natural) return
-- Integer; 78 procedure G (Q : in out Natural; P : Integer); 79 a package; 80 V : T; 81 a name whose declaration is refused; 82 L :
-- Long_Long_Integer; 84 function H return Arr (1 .. 3); 85 Rec; 86 a loop's parameter; 87 O : Natural; 88 Y : Arr (1 .. 5)
abbrev meanings : List Meaning
meanings =
    local 60 2 0
    ∷ means 61 (entity.Object 3 (object.Param 0) access.InParameter)
    ∷ local 62 0 1
    ∷ local 63 12 2
    ∷ means 64 (entity.Object 11 (object.Param 1) access.InParameter)
    ∷ local 65 14 3
    ∷ local 66 8 4
    ∷ local 67 9 5
    ∷ means 68 (entity.Static 2 (pos 5))
    ∷ means 69 (entity.Number (pos 10))
    ∷ means 70 (entity.Literal 9 (pos 0))
    ∷ means 71 (entity.Literal 9 (pos 2))
    ∷ means 72 (entity.Subtype 8)
    ∷ means 73 (entity.Subtype 9)
    ∷ means 74 (entity.Subtype 11)
    ∷ means 75 (entity.Subtype 12)
    ∷ means 76 (entity.Subtype 16)
    ∷ means 77 (entity.Routine 0)
    ∷ means 78 (entity.Routine 1)
    ∷ means 79 entity.Package
    ∷ local 80 16 6
    ∷ means 81 entity.Unknown
    ∷ local 82 6 7
    ∷ means 84 (entity.Routine 2)
    ∷ means 85 (entity.Subtype 14)
    ∷ means 86 (entity.Object 2 (object.Turn 0) access.LoopParameter)
    ∷ local 87 3 8
    ∷ local 88 13 9
    ∷ []

abbrev world : World
world = record {
  subtypes = subtypes;
  components = record { name = 90; subtype = 2 } ∷ record { name = 91; subtype = 12 } ∷ [];
  formals = record { name = 92; mode = mode.In; subtype = 3 } ∷ record { name = 93; mode = mode.InOut; subtype = 3 } ∷ record { name = 92; mode = mode.In; subtype = 2 } ∷ [];
  routines = record { first = 0; count = 1; result = Some 2 } ∷ record { first = 1; count = 2; result = None } ∷ record { first = 3; count = 0; result = Some 12 } ∷ [];
  constants = [];
  entities = meanings ∷ [];
}

abbrev pub place : ℕ → Place
place at = record { file = 0; line = 1; column = at }

abbrev link_of : ℕ → Option Link
link_of n =
    if nat_lt n 7 then Some (link.Predefined n)
    else (if nat_lt n 60 then None else (if nat_lt n 90 then Some (link.Declared (record { file = 0; at = n })) else None))

-- the scope of a text at a moment, of the subprogram of a number
abbrev pub scope_of : Option ℕ → Moment → Scope
scope_of q m = record {
  world = world;
  place = place;
  link = λ at. link_of (at % 100);
  name = λ at. at % 100;
  number = λ at. 4;
  own = q;
  moment = m;
  parameters = [];
}

abbrev pub scope : Scope
scope = scope_of None moment.Elsewhere

-- in the postcondition of F
abbrev pub post : Scope
post = scope_of (Some 0) moment.InPost

-- in a pragma of loop 2, whose parameter is that of name 86
abbrev pub in_loop : Scope
in_loop = scope_of None (moment.InLoop 2 (Some 0))

-- ---- trees

abbrev pub span : ℕ → Span
span at = record { from = at; to = at + 1 }

-- the number n at a place
abbrev pub num : ℕ → ℕ → tree.Expr
num at n = tree.at (span at) (tree.number (pos n))

abbrev suffixes : List tree.Suffix → tree.Suffixes
suffixes [] = tree.no_suffixes
suffixes (s ∷ ss) = tree.suffixes s (suffixes ss)

abbrev pub name_tree : ℕ → List tree.Suffix → tree.Name
name_tree at ss = tree.named (span at) (span at) (suffixes ss)

-- a name at a place, by its first identifier
abbrev pub name : ℕ → List tree.Suffix → tree.Expr
name at ss = tree.at (span at) (tree.name (name_tree at ss))

abbrev pub id : ℕ → tree.Expr
id at = name at []

abbrev plain : ℕ → tree.Expr → tree.Item
plain at e = tree.item (span at) (tree.plain e)

-- an argument at a place
abbrev pub arg : ℕ → tree.Expr → tree.Arg
arg at e = tree.arg (span at) (tree.part (plain at e)) tree.no_value

abbrev pub item_arg : ℕ → tree.Form → tree.Arg
item_arg at f = tree.arg (span at) (tree.part (tree.item (span at) f)) tree.no_value

-- one with a choice
abbrev pub with_choice : ℕ → tree.Expr → tree.Expr → tree.Arg
with_choice at h e = tree.arg (span at) (tree.part (plain at h)) (tree.value (plain at e))

abbrev pub with_range : ℕ → tree.Expr → tree.Expr → tree.Expr → tree.Arg
with_range at l h e = tree.arg (span at) (tree.parts l h) (tree.value (plain at e))

abbrev pub with_others : ℕ → tree.Expr → tree.Arg
with_others at e = tree.arg (span at) tree.other_parts (tree.value (plain at e))

abbrev pub args : List tree.Arg → tree.Args
args [] = tree.no_args
args (a ∷ as') = tree.args a (args as')

abbrev pub call : List tree.Arg → tree.Suffix
call as' = tree.applied (args as')

-- the identifier after a point, and an attribute with the place of its tick and its identifier
abbrev pub dot : ℕ → tree.Suffix
dot at = tree.selected (span at)

abbrev pub tick : ℕ → ℕ → tree.Suffix
tick t at = tree.ticked (span t) (tree.attribute (span at))

abbrev pub tick_range : ℕ → tree.Suffix
tick_range t = tree.ticked (span t) tree.range_attribute

abbrev pub qualified : ℕ → List tree.Arg → tree.Suffix
qualified t as' = tree.ticked (span t) (tree.qualified (args as'))

abbrev pub group : ℕ → List tree.Arg → tree.Expr
group at as' = tree.at (span at) (tree.group (args as'))

abbrev pub unary : ℕ → UnaryOperator → tree.Expr → tree.Expr
unary at o a = tree.at (span at) (tree.unary (span at) o a)

-- an expression at a place, with its operator's place
abbrev pub binary : ℕ → ℕ → BinaryOperator → tree.Expr → tree.Expr → tree.Expr
binary at t o a b = tree.at (span at) (tree.binary (span t) o a b)

-- an item in parentheses
abbrev pub in_group : ℕ → tree.Form → tree.Expr
in_group at f = group at (item_arg at f ∷ [])

abbrev pub bounds : tree.Expr → tree.Expr → tree.Range
bounds l h = tree.range l (tree.an_expr h)

abbrev pub lone : tree.Expr → tree.Range
lone e = tree.range e tree.no_expr

-- `in`
abbrev pub member : ℕ → tree.Expr → tree.Range → tree.Expr
member at a r = tree.at (span at) (tree.member (span at) false a r)

-- an if-expression of one condition, and one without `else`
abbrev pub if_else : tree.Expr → tree.Expr → tree.Expr → tree.Form
if_else x a b = tree.choose (tree.arm x a tree.no_arms) (tree.an_expr b)

abbrev pub if_alone : tree.Expr → tree.Expr → tree.Form
if_alone x a = tree.choose (tree.arm x a tree.no_arms) tree.no_expr

-- `for all`, with the index's identifier
abbrev pub for_all : ℕ → tree.Range → tree.Expr → tree.Form
for_all at r e = tree.quantified quantifier'.All (span at) r e

-- ---- what is seen

abbrev pub natural_bounds : Bounds
natural_bounds = from_to 0 2147483647

-- an index by its number, and its subtype
abbrev pub counted : ℕ → ℕ → Counted
counted n k = record { number = n; subtype = k }

abbrev pub refusal : Code → ℕ → Refusal
refusal r at = record { code = r; place = place at }

abbrev pub refused_call : Code → ℕ → Found Call
refused_call r at = found.Refused (refusal r at)

abbrev pub refuses : Code → ℕ → Seen
refuses r at = seen.Refused (refusal r at)

-- an expression at a place, of a subtype
abbrev pub ex : ℕ → ℕ → ExprNode Expr → Expr
ex at k n = roll-Expr (record { place = place at; subtype = k; node = n })

abbrev pub seen_at : ℕ → ℕ → ℕ → ExprNode Expr → Seen
seen_at t at k n = seen.Typed t (ex at k n)

-- a Boolean expression
abbrev pub truth_at : ℕ → ExprNode Expr → Seen
truth_at at n = seen.Typed 0 (ex at 0 n)

abbrev pub static : ℕ → ExprNode Expr
static n = node.Static (value.Int (pos n))

abbrev pub static_truth : Bool → ExprNode Expr
static_truth b = node.Static (value.Bool b)

abbrev pub int : ℕ → ℕ → ℕ → Expr
int at k n = ex at k (node.Static (value.Int (pos n)))

-- a local object
abbrev pub obj : ℕ → ℕ → ℕ → Expr
obj at k n = ex at k (node.Read (place at) (object.Local n))

-- the value of the parts from f to l, without a check, and of all that is left
abbrev pub assoc : ℕ → ℕ → Expr → Association Expr
assoc f l x = record { ranges = from_to f l ∷ []; others = false; checks = []; value = x }

abbrev pub rest : Expr → Association Expr
rest x = record { ranges = []; others = true; checks = []; value = x }
