-- What the rules of statements ask of names, values, ranges, pragmas and choices that are accepted.
use Rattle.std.specs.Prelude.{◌≡◌, ℕ, ℤ, Bool, true, ◌||◌, ◌++◌, List, [], ◌∷◌, Option, Some, None}
use Rattle.ada_text.specs.declared.token.Span.{Span}
use Rattle.front_codes.specs.declared.codes.Code.{Code}
use Rattle.front_codes.specs.declared.codes.Code.TheVariants as code
use Rattle.name_numbers.specs.declared.words.Word.{Word}
use Rattle.name_numbers.specs.declared.words.Word.TheVariants as word
use Rattle.syntax_view.specs.Trees as tree
use Rattle.typed_units.specs.declared.expressions.Argument.{Argument}
use Rattle.typed_units.specs.declared.expressions.Expr.{Expr}
use Rattle.typed_units.specs.declared.expressions.Fitted.{Fitted}
use Rattle.typed_units.specs.declared.operators.Bounds.{Bounds}
use Rattle.typed_units.specs.declared.statements.Direction.{Direction}
use Rattle.typed_units.specs.declared.statements.Way.{Way}
use Rattle.type_base.specs.Scope.{Scope}
use Rattle.type_base.specs.declared.seen.Demand.TheVariants as demand
use Rattle.type_base.specs.declared.seen.Seen.{Seen}
use Rattle.type_base.specs.declared.seen.Seen.TheVariants.{Number, Typed}
use Rattle.type_base.specs.declared.seen.Want.{Want}
use Rattle.type_base.specs.declared.seen.Want.TheVariants as want
use Rattle.type_base.specs.declared.world.Routine.{Routine}
use Rattle.type_base.specs.Demands.{bounds_at}
use Rattle.type_base.specs.Lookups.{routine_at}
use Rattle.type_base.specs.Results.{number_in}
use Rattle.type_base.specs.Standard.{boolean, integer_base}
use Rattle.typing_rules.specs.declared.prefix.Between.{Between}
use Rattle.typing_rules.specs.declared.prefix.Found.TheVariants.{Is}
use Rattle.typing_rules.specs.declared.prefix.Part.{Part}
use Rattle.typing_rules.specs.declared.prefix.Prefix.{Prefix}
use Rattle.typing_rules.specs.declared.prefix.Prefix.TheVariants as prefix
use Rattle.typing_rules.specs.declared.prefix.Reach.{Reach}
use Rattle.typing_rules.specs.Calls.{writable}
use Rattle.typing_rules.specs.Lookups.{type_of}
use Rattle.typing_rules.specs.Ranges.{reach_in}
use Rattle.typing_rules.specs.Reading as reading
use Rattle.typing_rules.specs.Values.{formals_of}
use Rattle.expression_rules.specs.Rules.{IsAs}
use Rattle.statement_typing.specs.declared.parts.Selected.{Selected}
use Rattle.statement_typing.specs.declared.parts.Spread.{Spread}
use Rattle.statement_typing.specs.Asked.{is_wanted, item_place, low_place, number_type, place_of}
use Rattle.statement_typing.specs.Choices.{in_parentheses, is_whole, new_values, selected_as, single, stretch}
use Rattle.statement_typing.specs.Pragmas.{choice_word, direction_of}
use Rattle.statement_typing.specs.Subtypes.{bounds}
use Rattle.typing_relations.specs.Demanded.{Fits, IsStatic, OfType}
use Rattle.typing_relations.specs.Obeys.{Has, ItemHas, Reaches, Stands}

-- ---- names -- L8, L10, L11, L12

-- what a name is, where the context gives no subtype
abbrev pub NameStands : Scope → tree.Name → Prefix → Type 0
NameStands c (tree.named s i ss) f = Stands c want.Free (tree.at s (tree.name (tree.named s i ss))) f

-- a name of a variable or of a part of one -- L8
pub record Targets (c : Scope) (n : tree.Name) (g : Part) : Type 0 where
  pub stands : NameStands c n (prefix.Part g)
  pub variable : writable g.access ≡ true

-- a procedure's call: its arguments, or its name alone where it has no formals -- L12
pub data Calls (c : Scope) (n : tree.Name) (q : ℕ) : List (Argument Expr) → Type 0 where
  with_arguments : (xs : List (Argument Expr)) → NameStands c n (prefix.Called q (Is xs)) → Calls c n q xs
  alone : (r : Routine) → NameStands c n (prefix.Routine q) → routine_at c.world q ≡ Some r → r.result ≡ None → formals_of c.world r ≡ [] → Calls c n q []

-- ---- values and conditions -- L8, L9, L13

-- an expression for a subtype: a value of its type, and an array of its bounds; with the range check -- L8, L13
pub record IsFor (c : Scope) (whole : Bool) (k : ℕ) (e : tree.Expr) (x : Fitted Expr) : Type 0 where
  pub value : Seen
  pub has : Has c (want.Subtype k) e value
  pub fits : Fits c.world whole k (place_of c e) value x

-- a Boolean in parentheses, or as an argument -- L9
pub record ItemHolds (c : Scope) (i : tree.Item) (x : Expr) : Type 0 where
  pub type : ℕ
  pub has : ItemHas c (want.Type boolean) i (Typed type x)
  pub truth : IsAs c.world demand.Truth (Typed type x)

-- ---- ranges -- L21, L22

-- a range of an integer or enumeration type, by a rule: of the type that is wanted, where one is; Integer where it is of numbers
pub record Ranges (c : Scope) (r : Code) (w : Want) (g : tree.Range) (b : Between) : Type 0 where
  pub reach : Reach
  pub reaches : Reaches c r w g reach
  pub is : reach_in c r (number_type w) (reading.range c g) reach ≡ Is b
  pub wanted : is_wanted w (type_of c.world b.subtype) ≡ true

-- ---- pragmas -- L9, L25

-- the one argument of Assert, Assume and Loop_Invariant: a condition, alone or after `Check =>` -- L9
pub data Checks (words : ℕ → Option Word) (c : Scope) : tree.Args → Expr → Type 0 where
  alone : (s : Span) (i : tree.Item) (x : Expr) → ItemHolds c i x → Checks words c (tree.args (tree.arg s (tree.part i) tree.no_value) tree.no_args) x
  named : (s : Span) (k : tree.ArgChoice) (i : tree.Item) (x : Expr) → choice_word words k ≡ Some word.Check → ItemHolds c i x
      → Checks words c (tree.args (tree.arg s k (tree.value i)) tree.no_args) x

-- an integer of any type, and Integer where it is a universal number -- L25
pub data Counts (c : Scope) (i : tree.Item) : Expr → Type 0 where
  typed : (t : ℕ) (x : Expr) → ItemHas c want.Free i (Typed t x) → IsAs c.world demand.Integer (Typed t x) → Counts c i x
  universal : (n : ℤ) (x : Expr) → ItemHas c want.Free i (Number n) → OfType c.world integer_base (item_place c i) (Number n) x → Counts c i x

-- the arguments of Loop_Variant, after those done: directions with integers -- L25
pub data Ways (words : ℕ → Option Word) (c : Scope) : List Way → tree.Args → List Way → Type 0 where
  no_more : (xs : List Way) → Ways words c xs tree.no_args xs
  one_more : (xs ys : List Way) (s : Span) (k : tree.ArgChoice) (i : tree.Item) (d : Direction) (x : Expr) (as' : tree.Args)
      → direction_of (choice_word words k) ≡ Some d → Counts c i x → Ways words c (xs ++ (record { direction = d; value = x } ∷ [])) as' ys
      → Ways words c xs (tree.args (tree.arg s k (tree.value i)) as') ys

-- ---- the selector and the choices of a `case` -- L21, Ada RM 5.4

-- a selector of an integer or enumeration type; one in parentheses is no name, so that all values of its type are to be covered
pub record Selects (c : Scope) (e : tree.Expr) (x : Selected) : Type 0 where
  pub type : ℕ
  pub value : Expr
  pub has : Has c want.Free e (Typed type value)
  pub ordered : IsAs c.world demand.Ordered (Typed type value)
  pub is : selected_as (in_parentheses e) (place_of c e) (Typed type value) ≡ Is x

-- a choice of type t: a static value of it, or a range of it with static bounds
pub data Chooses (c : Scope) (t : ℕ) : tree.Range → Spread → Type 0 where
  one_value : (e : tree.Expr) (u : Seen) (n : ℤ) → Has c (want.Type t) e u → IsStatic c.world t (place_of c e) u n → Chooses c t (tree.range e tree.no_expr) (single (place_of c e) n)
  values : (g : tree.Range) (b : Between) (m n : ℤ) → Ranges c code.L21 (want.Type t) g b → number_in b.low ≡ Some m → number_in b.high ≡ Some n
      → Chooses c t g (stretch (low_place c g) (bounds m n))

-- the choices of an alternative but `others`, after those done
pub data AllChoose (c : Scope) (t : ℕ) : List Spread → List tree.Choice → List Spread → Type 0 where
  no_more : (xs : List Spread) → AllChoose c t xs [] xs
  others : (xs ys : List Spread) (ks : List tree.Choice) → AllChoose c t xs ks ys → AllChoose c t xs (tree.other_values ∷ ks) ys
  one_more : (xs ys : List Spread) (g : tree.Range) (x : Spread) (ks : List tree.Choice) → Chooses c t g x → AllChoose c t (xs ++ (x ∷ [])) ks ys → AllChoose c t xs (tree.values g ∷ ks) ys

-- the choices of all alternatives
pub data AlternativesChoose (c : Scope) (t : ℕ) : List Spread → tree.Alternatives → List Spread → Type 0 where
  no_more : (xs : List Spread) → AlternativesChoose c t xs tree.no_alternatives xs
  one_more : (xs ys zs : List Spread) (ks : List tree.Choice) (ss : tree.Stmts) (as' : tree.Alternatives) → AllChoose c t xs ks ys → AlternativesChoose c t ys as' zs
      → AlternativesChoose c t xs (tree.alternative ks ss as') zs

-- choices that have no value outside the bounds, and none that one before has
pub data AllNew (b : Bounds) : List Bounds → List Spread → List Bounds → Type 0 where
  no_more : (bs : List Bounds) → AllNew b bs [] []
  one_more : (bs rs : List Bounds) (x : Spread) (xs : List Spread) → new_values b bs x.values ≡ true → AllNew b (x.values ∷ bs) xs rs → AllNew b bs (x ∷ xs) (x.values ∷ rs)

-- together they have each value of the selector's subtype once, or `others` has the rest
pub record Covers (c : Scope) (x : Selected) (others : Bool) (as' : tree.Alternatives) : Type 0 where
  pub subtype : Bounds
  pub is : bounds_at c.world x.subtype ≡ Some subtype
  pub spreads : List Spread
  pub chosen : AlternativesChoose c x.of [] as' spreads
  pub ranges : List Bounds
  pub once : AllNew subtype [] spreads ranges
  pub whole : (others || is_whole subtype ranges) ≡ true
