-- Static numbers, ranges with static bounds, and which subtype a subtype indication is, a constructor a rule. -- Ada RM 3.2.2, 3.5, 3.6.1
use Rattle.std.specs.Prelude.{◌≡◌, ℕ, ℤ, true, false, Some, None}
use Rattle.std.specs.Int.RustNames.{int_le}
use Rattle.ada_values.specs.Scalars.{in_scalar}
use Rattle.ada_values.specs.declared.scalars.Scalar.{Scalar}
use Rattle.ada_text.specs.declared.token.Span.{Span}
use Rattle.front_codes.specs.declared.codes.Code.TheVariants as code
use Rattle.name_library.specs.declared.links.Link.{Link}
use Rattle.syntax_view.specs.Trees as tree
use Rattle.typed_units.specs.declared.expressions.Expr.{Expr}
use Rattle.typed_units.specs.declared.operators.Bounds.{Bounds}
use Rattle.type_base.specs.Scope.{Scope}
use Rattle.type_base.specs.declared.entities.Entity.{Entity}
use Rattle.type_base.specs.declared.entities.Entity.TheVariants as entity
use Rattle.type_base.specs.declared.seen.Seen.{Seen}
use Rattle.type_base.specs.declared.seen.Seen.TheVariants.{Number, Typed}
use Rattle.type_base.specs.declared.seen.Want.{Want}
use Rattle.type_base.specs.declared.seen.Want.TheVariants as want
use Rattle.type_base.specs.declared.world.Discrete.{Discrete}
use Rattle.type_base.specs.declared.world.Form.{Form}
use Rattle.type_base.specs.declared.world.Form.TheVariants as form
use Rattle.type_base.specs.declared.world.Subtype.{Subtype}
use Rattle.type_base.specs.declared.world.World.{World}
use Rattle.type_base.specs.Demands.{bounds_at}
use Rattle.type_base.specs.Lookups.{subtype_at, type_at}
use Rattle.type_base.specs.Results.{number_in}
use Rattle.typing_rules.specs.declared.prefix.Between.{Between}
use Rattle.typing_rules.specs.Lookups.{entity_of}
use Rattle.expression_rules.specs.Rules.{IsIntegerType}
use Rattle.statement_typing.specs.declared.parts.Noted.{Noted}
use Rattle.statement_typing.specs.declared.parts.Noted.TheVariants.{Known, New}
use Rattle.statement_typing.specs.declared.parts.StaticRange.{StaticRange}
use Rattle.statement_typing.specs.Asked.{place_of}
use Rattle.statement_typing.specs.Subtypes.{bounds, noted_subtype}
use Rattle.typing_relations.specs.Demanded.{IsStatic}
use Rattle.typing_relations.specs.Obeys.{Has}
use Rattle.statement_relations.specs.Asks.{Ranges}

-- ---- static numbers -- Ada RM 4.9

-- a static integer of any integer type: a universal number, or a static value of an integer type -- Ada RM 3.3.2, 3.5.4(5)
pub data IsInteger (c : Scope) (e : tree.Expr) : ℤ → Type 0 where
  universal : (n : ℤ) → Has c want.Free e (Number n) → IsInteger c e n
  of_a_type : (t : ℕ) (x : Expr) (n : ℤ) → Has c want.Free e (Typed t x) → IsIntegerType c.world t → number_in x ≡ Some n → IsInteger c e n

-- a static value of type t
pub record IsBound (c : Scope) (t : ℕ) (e : tree.Expr) (n : ℤ) : Type 0 where
  pub value : Seen
  pub has : Has c (want.Type t) e value
  pub static : IsStatic c.world t (place_of c e) value n

-- ---- ranges with static bounds

-- a range of an integer or enumeration type, of the type that is wanted: static bounds -- L20, Ada RM 3.6(6), 3.6.1(3)
pub data HasStaticRange (c : Scope) (w : Want) (g : tree.Range) : StaticRange → Type 0 where
  static_range : (b : Between) (m n : ℤ) → Ranges c code.L20 w g b → number_in b.low ≡ Some m → number_in b.high ≡ Some n
      → HasStaticRange c w g (record { subtype = b.subtype; bounds = bounds m n })

-- the range of a constraint on a subtype of type t with the values x: not empty, and within that subtype -- L20, Ada RM 3.5(8)
pub record Narrows (c : Scope) (t : ℕ) (x : Scalar) (b : tree.Bounds) (r : Bounds) : Type 0 where
  pub first : IsBound c t b.low r.first
  pub last : IsBound c t b.high r.last
  pub first_inside : in_scalar x r.first ≡ true
  pub last_inside : in_scalar x r.last ≡ true
  pub in_order : int_le r.first r.last ≡ true

-- the bounds of an array, in its index subtype where it has any index -- L20, Ada RM 3.6.1(7)
pub data LiesIn (x b : Bounds) : Type 0 where
  no_index : int_le b.first b.last ≡ false → LiesIn x b
  inside : int_le x.first b.first ≡ true → int_le b.last x.last ≡ true → LiesIn x b

-- the bounds that a range gives to an array whose indexes are of subtype i
pub data GivesBounds (c : Scope) (i : ℕ) (g : tree.Range) : Bounds → Type 0 where
  bounds_for : (t : ℕ) (x : Bounds) (r : StaticRange) → type_at c.world i ≡ Some t → bounds_at c.world i ≡ Some x → HasStaticRange c (want.Type t) g r → LiesIn x r.bounds
      → GivesBounds c i g r.bounds

-- ---- names of subtypes

-- what the identifiers of a name stand for, of which the first is at a byte, and what follows them: an identifier after a `.` that has a
-- declaration of its own counts alone -- Ada RM 4.1.3
pub data Means (c : Scope) : ℕ → tree.Suffixes → Entity → tree.Suffixes → Type 0 where
  alone : (at : ℕ) → Means c at tree.no_suffixes (entity_of c at) tree.no_suffixes
  before_tick : (at : ℕ) (s : Span) (a : tree.Attribute) (rest : tree.Suffixes) → Means c at (tree.suffixes (tree.ticked s a) rest) (entity_of c at) (tree.suffixes (tree.ticked s a) rest)
  before_parentheses : (at : ℕ) (as' : tree.Args) (rest : tree.Suffixes) → Means c at (tree.suffixes (tree.applied as') rest) (entity_of c at) (tree.suffixes (tree.applied as') rest)
  expanded : (at : ℕ) (s : Span) (l : Link) (rest after : tree.Suffixes) (e : Entity) → c.link s.from ≡ Some l → Means c s.from rest e after → Means c at (tree.suffixes (tree.selected s) rest) e after

pub data NameMeans (c : Scope) : tree.Name → Entity → tree.Suffixes → Type 0 where
  name_means : (s i : Span) (ss rest : tree.Suffixes) (e : Entity) → Means c i.from ss e rest → NameMeans c (tree.named s i ss) e rest

-- a name of subtype k, which is this, and what follows the name
pub record Names (c : Scope) (n : tree.Name) (rest : tree.Suffixes) (k : ℕ) (x : Subtype) : Type 0 where
  pub means : NameMeans c n (entity.Subtype k) rest
  pub is : subtype_at c.world k ≡ Some x

-- ---- subtype indications -- Ada RM 3.2.2

-- what stands in parentheses as an array's bounds: a range -- Ada RM 3.6.1(2)
pub data IsIndex : tree.Suffixes → tree.Range → Type 0 where
  two_bounds : (s : Span) (l h : tree.Expr) → IsIndex (tree.suffixes (tree.applied (tree.args (tree.arg s (tree.parts l h) tree.no_value) tree.no_args)) tree.no_suffixes) (tree.range l (tree.an_expr h))
  named_range : (s i : Span) (e : tree.Expr)
      → IsIndex (tree.suffixes (tree.applied (tree.args (tree.arg s (tree.part (tree.item i (tree.plain e))) tree.no_value) tree.no_args)) tree.no_suffixes) (tree.range e tree.no_expr)

pub data Indicates (c : Scope) (s : tree.SubInd) : Noted → Type 0 where
  -- a subtype's name
  by_name : (k : ℕ) (x : Subtype) → Names c s.name tree.no_suffixes k x → s.bounds ≡ None → Indicates c s (Known k)
  -- a range constraint is for numbers and positions -- L20, Ada RM 3.5(5)
  with_range : (k : ℕ) (x : Subtype) (b : tree.Bounds) (d : Discrete) (v : Scalar) (r : Bounds) → Names c s.name tree.no_suffixes k x → s.bounds ≡ Some b → x.form ≡ form.Number d v → Narrows c x.of v b r
      → Indicates c s (New (record { of = x.of; form = form.Number d (record v { lo = r.first; hi = r.last }) }))
  -- an index constraint is for an array type without bounds -- L20, Ada RM 3.6.1(5)
  with_index : (k : ℕ) (x : Subtype) (ss : tree.Suffixes) (g : tree.Range) (i t : ℕ) (b : Bounds) → Names c s.name ss k x → s.bounds ≡ None → IsIndex ss g → x.form ≡ form.Array i None t → GivesBounds c i g b
      → Indicates c s (New (record { of = x.of; form = form.Array i (Some b) t }))

-- ---- subtypes of objects and of parts -- L26, L27, Ada RM 3.3.1, 3.6(10)

-- no array without bounds
abbrev pub IsDefinite : Form → Type 0
IsDefinite (form.Array i None t) = ⊥
IsDefinite _ = Unit {0}

-- it is a subtype of the world, or a new one, with this
pub record Definite (w : World) (n : Noted) : Type 0 where
  pub subtype : Subtype
  pub is : noted_subtype w n ≡ Some subtype
  pub definite : IsDefinite subtype.form

-- a subtype indication that objects, components and items may have
pub record IsWhole (c : Scope) (s : tree.SubInd) (n : Noted) : Type 0 where
  pub indicates : Indicates c s n
  pub definite : Definite c.world n
