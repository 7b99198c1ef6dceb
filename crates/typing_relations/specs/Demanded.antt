-- What rules demand of parts that are accepted, and what these give.
use Rattle.std.specs.Prelude.{◌≡◌, ℕ, ℤ, Bool, true, false, List, [], Option, Some, None}
use Rattle.ada_values.specs.Scalars.{in_base}
use Rattle.ada_values.specs.declared.place.Place.{Place}
use Rattle.ada_values.specs.declared.scalars.Scalar.{Scalar}
use Rattle.ada_values.specs.declared.values.Value.{Value}
use Rattle.ada_values.specs.declared.values.Value.TheVariants as value
use Rattle.front_codes.specs.declared.codes.Code.TheVariants as code
use Rattle.name_numbers.specs.declared.words.Word.{Word}
use Rattle.name_numbers.specs.declared.words.Word.TheVariants as word
use Rattle.syntax_view.specs.Trees as tree
use Rattle.ada_text.specs.declared.token.Span.{Span}
use Rattle.typed_units.specs.declared.expressions.Expr.{Expr, out-Expr}
use Rattle.typed_units.specs.declared.expressions.ExprNode.{ExprNode}
use Rattle.typed_units.specs.declared.expressions.ExprNode.TheVariants as node
use Rattle.typed_units.specs.declared.expressions.Fitted.{Fitted}
use Rattle.typed_units.specs.declared.operators.Bounds.{Bounds}
use Rattle.typed_units.specs.declared.operators.Object.{Object}
use Rattle.type_base.specs.Scope.{Scope}
use Rattle.type_base.specs.declared.entities.Access.{Access}
use Rattle.type_base.specs.declared.entities.Entity.{Entity}
use Rattle.type_base.specs.declared.entities.Entity.TheVariants as entity
use Rattle.type_base.specs.declared.seen.Seen.{Seen}
use Rattle.type_base.specs.declared.seen.Seen.TheVariants.{Refused, Unknown, Number, Typed}
use Rattle.type_base.specs.declared.world.Discrete.{Discrete}
use Rattle.type_base.specs.declared.world.Form.TheVariants as form
use Rattle.type_base.specs.declared.world.Routine.{Routine}
use Rattle.type_base.specs.declared.world.World.{World}
use Rattle.type_base.specs.Demands.{fitted, is_one, is_whole, made, subtype_of}
use Rattle.type_base.specs.Results.{number_in}
use Rattle.type_base.specs.Lookups.{constant_at, form_at, routine_at, type_at}
use Rattle.typing_rules.specs.declared.prefix.Between.{Between}
use Rattle.typing_rules.specs.declared.prefix.Mapping.{Mapping}
use Rattle.typing_rules.specs.declared.prefix.Mapping.TheVariants as mapping
use Rattle.typing_rules.specs.declared.prefix.Part.{Part}
use Rattle.typing_rules.specs.declared.prefix.Found.TheVariants.{Is}
use Rattle.typing_rules.specs.declared.prefix.Prefix.{Prefix}
use Rattle.typing_rules.specs.declared.prefix.Prefix.TheVariants as prefix
use Rattle.typing_rules.specs.declared.prefix.Reach.{Reach}
use Rattle.typing_rules.specs.declared.prefix.Reach.TheVariants as reach
use Rattle.typing_rules.specs.declared.aggregates.Manner.{Manner}
use Rattle.typing_rules.specs.declared.aggregates.Manner.TheVariants as manner
use Rattle.typing_rules.specs.Aggregates as cover
use Rattle.typing_rules.specs.Aggregates.{cover_of}
use Rattle.typing_rules.specs.Conditions.{Common}
use Rattle.typing_rules.specs.Fits.{takes}
use Rattle.typing_rules.specs.Lookups.{Array, array_at, scalar_value, type_of}
use Rattle.typing_rules.specs.Names.{converted, convertible, number_converted}
use Rattle.typing_rules.specs.Parts.{Range}
use Rattle.typing_rules.specs.Ranges.{reach_in}
use Rattle.typing_rules.specs.Values.{formals_of, part_value}
use Rattle.expression_rules.specs.Rules.{IsIntegerType}

-- ---- expressions

-- an expression that is accepted: a universal number, or a typed expression
pub data Accepted : Seen → Type 0 where
  universal : (n : ℤ) → Accepted (Number n)
  typed : (t : ℕ) (x : Expr) → Accepted (Typed t x)

-- what a definition of results gives is accepted, and is this
abbrev pub IsResult : Seen → Seen → Type 0
IsResult s v = (s ≡ v) × Accepted v

-- a typed expression at a place, of a subtype of the world
pub data Makes (w : World) (p : Place) (k : ℕ) (n : ExprNode Expr) : Seen → Type 0 where
  makes : (t : ℕ) → type_at w k ≡ Some t → Makes w p k n (Typed t (made p k n))

-- type t is an integer type with this number in its base range -- L29
pub record TakesNumber (w : World) (t : ℕ) (n : ℤ) : Type 0 where
  pub discrete : Discrete
  pub scalar : Scalar
  pub is : form_at w t ≡ Some (form.Number discrete scalar)
  pub whole : is_whole discrete ≡ true
  pub inside : in_base scalar n ≡ true

-- A value at q of type t, and the typed expression that it is: a universal number takes the type. -- Ada RM 8.6
pub data OfType (w : World) (t : ℕ) (q : Place) : Seen → Expr → Type 0 where
  of_this_type : (x : Expr) → OfType w t q (Typed t x) x
  taking_type : (n : ℤ) → TakesNumber w t n → OfType w t q (Number n) (made q t (node.Static (value.Int n)))

-- a universal number, or a value of any integer type
abbrev pub AnyInteger : World → Seen → Type 0
AnyInteger w (Refused f) = ⊥
AnyInteger w Unknown = ⊥
AnyInteger w (Number n) = Unit {0}
AnyInteger w (Typed t x) = IsIntegerType w t

abbrev pub FitsBounds : World → Bool → ℕ → Seen → Type 0
FitsBounds w whole k (Typed t x) = takes w whole k (subtype_of x) ≡ true
FitsBounds w whole k _ = Unit {0}

-- A value at q that is to be of subtype k: it is of the subtype's type, and an array is of its bounds, or for no assignment of any
-- where the subtype is unconstrained. With it stands the range check. -- L8, L11, L18; Ada RM 4.6, 5.2
pub record Fits (w : World) (whole : Bool) (k : ℕ) (q : Place) (s : Seen) (v : Fitted Expr) : Type 0 where
  pub type : ℕ
  pub is : type_at w k ≡ Some type
  pub value : Expr
  pub of_type : OfType w type q s value
  pub bounds : FitsBounds w whole k s
  pub fits : v ≡ fitted w k value

-- ---- names

-- what an identifier begins a name with, by what it stands for -- Ada RM 4.1
pub data Begins (c : Scope) (p : Place) : Entity → Prefix → Type 0 where
  a_package : Begins c p entity.Package prefix.Package
  a_subtype : (k : ℕ) → Begins c p (entity.Subtype k) (prefix.Subtype k)
  a_routine : (q : ℕ) → Begins c p (entity.Routine q) (prefix.Routine q)
  a_number : (n : ℤ) → Begins c p (entity.Number n) (prefix.Value (Number n))
  a_literal : (k : ℕ) (n : ℤ) (v : Seen) → Makes c.world p k (node.Static (scalar_value k n)) v → Begins c p (entity.Literal k n) (prefix.Value v)
  a_static : (k t : ℕ) (n : ℤ) → type_at c.world k ≡ Some t
      → Begins c p (entity.Static k n) (prefix.Constant t (made p k (node.Static (scalar_value (type_of c.world k) n))))
  a_constant : (k t n : ℕ) (v : Value) → type_at c.world k ≡ Some t → constant_at c.world n ≡ Some v
      → Begins c p (entity.Constant k n) (prefix.Constant t (made p k (node.Static v)))
  an_object : (k t : ℕ) (o : Object) (a : Access) → type_at c.world k ≡ Some t
      → Begins c p (entity.Object k o a) (prefix.Part (record { access = a; whole = k; subtype = k; target = record { place = p; object = o; path = [] } }))

-- The value that a name at p is: a package, a subtype, a procedure's call, a range and an attribute without its argument are none.
pub data Valued (w : World) (p : Place) : Prefix → Seen → Type 0 where
  of_number : (n : ℤ) → Valued w p (prefix.Value (Number n)) (Number n)
  of_value : (t : ℕ) (x : Expr) → Valued w p (prefix.Value (Typed t x)) (Typed t x)
  of_constant : (t : ℕ) (x : Expr) → Valued w p (prefix.Constant t x) (Typed t x)
  of_part : (g : Part) → Valued w p (prefix.Part g) (Typed (type_of w g.subtype) (part_value w g))
  -- L10, L12: a call without arguments, of a function without formals
  of_call : (q k : ℕ) (r : Routine) (v : Seen) → routine_at w q ≡ Some r → r.result ≡ Some k → formals_of w r ≡ [] → Makes w p k (node.Call p q []) v
      → Valued w p (prefix.Routine q) v

-- the only argument in parentheses, an item alone
pub data Only : tree.Args → tree.Item → Type 0 where
  only : (s : Span) (i : tree.Item) → Only (tree.args (tree.arg s (tree.part i) tree.no_value) tree.no_args) i

-- one item alone, in parentheses: no aggregate -- Ada RM 4.3.3(10)
abbrev pub is_item : tree.Args → Bool
is_item (tree.args (tree.arg s (tree.part i) tree.no_value) tree.no_args) = true
is_item _ = false

-- the expression of an argument: it stands alone, or after `=>`
pub data Given : tree.Arg → tree.Item → Type 0 where
  alone : (s : Span) (i : tree.Item) → Given (tree.arg s (tree.part i) tree.no_value) i
  after_arrow : (s : Span) (h : tree.ArgChoice) (i : tree.Item) → Given (tree.arg s h (tree.value i)) i

-- L18: a conversion to subtype k goes between integer types, or within one type that isn't an array type; a number goes to an integer
-- type as it is, in its base range
pub data Converts (c : Scope) (p : Place) (k : ℕ) (q : Place) : Seen → Seen → Type 0 where
  number_converts : (t : ℕ) (n : ℤ) (v : Seen) (d : Discrete) (s : Scalar) → type_at c.world k ≡ Some t → form_at c.world k ≡ Some (form.Number d s) → is_whole d ≡ true → in_base s n ≡ true
      → IsResult (number_converted c p k (made q t (node.Static (value.Int n))) n (Some (form.Number d s))) v → Converts c p k q (Number n) v
  value_converts : (t u : ℕ) (x : Expr) (v : Seen) → type_at c.world k ≡ Some t → convertible t u (form_at c.world k) (form_at c.world u) ≡ true
      → IsResult (converted c p k x (out-Expr x).node) v → Converts c p k q (Typed u x) v

-- ---- membership tests and branches

-- L7: what is tested and the range are of one type; universal numbers take the other's type
pub data Tests (c : Scope) (g : Range) : Seen → Reach → Type 0 where
  numbers : (n a b : ℤ) → Tests c g (Number n) (reach.Numbers a b)
  number_takes : (n : ℤ) (b : Between) → TakesNumber c.world (type_of c.world b.subtype) n → Tests c g (Number n) (reach.Between b)
  value_tested : (t : ℕ) (x : Expr) (u : Reach) (b : Between) → reach_in c code.L7 t g u ≡ Is b → t ≡ type_of c.world b.subtype → Tests c g (Typed t x) u

-- L26: a branch has the common type, and an array the common subtype
pub data IsBranch (w : World) (k : Common) (q : Place) : Seen → Expr → Type 0 where
  number_branch : (n : ℤ) → TakesNumber w k.type n → IsBranch w k q (Number n) (made q k.type (node.Static (value.Int n)))
  value_branch : (x : Expr) → is_one w k.subtype (subtype_of x) ≡ true → IsBranch w k q (Typed k.type x) x

-- ---- aggregates

-- a value at q of type t is static, and n -- L16; Ada RM 4.9
pub record IsStatic (w : World) (t : ℕ) (q : Place) (u : Seen) (n : ℤ) : Type 0 where
  pub value : Expr
  pub of_type : OfType w t q u value
  pub is : number_in value ≡ Some n

abbrev pub MayBePlaced : Manner → Type 0
MayBePlaced manner.ByChoice = ⊥
MayBePlaced _ = Unit {0}

abbrev pub MayBeChosen : Manner → Type 0
MayBeChosen manner.ByPlace = ⊥
MayBeChosen _ = Unit {0}

-- L16: the ranges lie within the bounds, no two have a value in common, and together they have all values, or `others` gives the rest
pub data Covers (b : Bounds) (rs : List Bounds) : Bool → Type 0 where
  all_values : (partial : Bool) → cover_of b rs ≡ cover.whole → Covers b rs partial
  with_others : cover_of b rs ≡ cover.missing → Covers b rs true

-- ---- attributes

-- L19: a constrained array subtype, or an array
pub data IsArray (c : Scope) (p : Place) : Prefix → Type 0 where
  array_subtype : (k i t : ℕ) (b : Bounds) → form_at c.world k ≡ Some (form.Array i (Some b) t) → IsArray c p (prefix.Subtype k)
  array_object : (g : Part) (a : Array) → array_at c.world g.subtype ≡ Some a → IsArray c p (prefix.Part g)
  array_value : (f : Prefix) (t : ℕ) (x : Expr) (a : Array) → Valued c.world p f (Typed t x) → array_at c.world (subtype_of x) ≡ Some a → IsArray c p f

-- L19: a scalar subtype, or an array
pub data HasBounds (c : Scope) (p : Place) : Prefix → Type 0 where
  scalar_subtype : (k : ℕ) (d : Discrete) (s : Scalar) → form_at c.world k ≡ Some (form.Number d s) → HasBounds c p (prefix.Subtype k)
  array : (f : Prefix) → IsArray c p f → HasBounds c p f

-- L19: the value that a whole object or a constant had before, where an object has one there
pub data WasThere (c : Scope) (p : Place) (n : Object → Option (ExprNode Expr)) : Prefix → Seen → Type 0 where
  whole_object : (g : Part) (x : ExprNode Expr) (v : Seen) → g.target.path ≡ [] → n g.target.object ≡ Some x → Makes c.world p g.subtype x v → WasThere c p n (prefix.Part g) v
  always : (t : ℕ) (x : Expr) → WasThere c p n (prefix.Constant t x) (Typed t (made p (subtype_of x) (node.Convert None x)))

-- the attributes that are functions
pub data IsMapping : Word → Mapping → Type 0 where
  succ : IsMapping word.Succ mapping.Succ
  pred : IsMapping word.Pred mapping.Pred
  position : IsMapping word.Pos mapping.Pos
  literal_at : IsMapping word.Val mapping.Val
