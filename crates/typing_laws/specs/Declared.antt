-- Worlds and scopes in which no declaration is refused, and expressions whose names are all declared there.
use Rattle.std.specs.Prelude.{◌≡◌, ℕ, List, [], ◌∷◌, Option, Some, None}
use Rattle.ada_values.specs.declared.values.Value.{Value}
use Rattle.name_library.specs.declared.links.Link.{Link}
use Rattle.syntax_view.specs.Trees as tree
use Rattle.type_base.specs.declared.entities.Entity.{Entity}
use Rattle.type_base.specs.declared.entities.Entity.TheVariants as entity
use Rattle.type_base.specs.declared.seen.Want.{Want}
use Rattle.type_base.specs.declared.seen.Want.TheVariants as want
use Rattle.type_base.specs.declared.world.Component.{Component}
use Rattle.type_base.specs.declared.world.Form.{Form}
use Rattle.type_base.specs.declared.world.Form.TheVariants as form
use Rattle.type_base.specs.declared.world.Formal.{Formal}
use Rattle.type_base.specs.declared.world.Routine.{Routine}
use Rattle.type_base.specs.declared.world.Subtype.{Subtype}
use Rattle.type_base.specs.declared.world.World.{World}
use Rattle.type_base.specs.Lookups.{constant_at, routine_at, subtype_at}
use Rattle.type_base.specs.Scope.{Scope}
use Rattle.expression_rules.specs.Known.{HasStandard, SameSort}
use Rattle.typing_rules.specs.Lookups.{entity_by, entity_of, with_index}

-- ---- worlds

-- a subtype of this number stands in the world
pub record IsThere (w : World) (k : ℕ) : Type 0 where
  pub subtype : Subtype
  pub is : subtype_at w k ≡ Some subtype

abbrev pub PartsThere : World → Form → Type 0
PartsThere w (form.Array i b t) = IsThere w i × IsThere w t
PartsThere w _ = Unit {0}

-- what a subtype is made of stands in the world: its type, which is of its sort, and an array's subtypes of its index and its items
pub record IsWhole (w : World) (s : Subtype) : Type 0 where
  pub type : IsThere w s.of
  pub sort : SameSort s.form type.subtype.form
  pub parts : PartsThere w s.form

abbrev pub ComponentsThere : World → List Component → Type 0
ComponentsThere w [] = Unit {0}
ComponentsThere w (c ∷ cs) = IsThere w c.subtype × ComponentsThere w cs

abbrev pub FormalsThere : World → List Formal → Type 0
FormalsThere w [] = Unit {0}
FormalsThere w (f ∷ fs) = IsThere w f.subtype × FormalsThere w fs

abbrev pub ResultThere : World → Option ℕ → Type 0
ResultThere w None = Unit {0}
ResultThere w (Some k) = IsThere w k

-- each subtype's number that stands in the world is that of a subtype there, and Standard is declared
pub record IsSound (w : World) : Type 0 where
  pub standard : HasStandard w
  pub subtypes : (k : ℕ) (s : Subtype) → subtype_at w k ≡ Some s → IsWhole w s
  pub components : ComponentsThere w w.components
  pub formals : FormalsThere w w.formals
  pub results : (q : ℕ) (r : Routine) → routine_at w q ≡ Some r → ResultThere w r.result

-- ---- names

pub record RoutineThere (w : World) (q : ℕ) : Type 0 where
  pub routine : Routine
  pub is : routine_at w q ≡ Some routine

pub record ConstantThere (w : World) (k n : ℕ) : Type 0 where
  pub subtype : IsThere w k
  pub value : Value
  pub is : constant_at w n ≡ Some value

-- a declaration that isn't refused, whose numbers are those of what stands in the world
abbrev pub IsStated : World → Entity → Type 0
IsStated w entity.Unknown = ⊥
IsStated w entity.Package = Unit {0}
IsStated w (entity.Subtype k) = IsThere w k
IsStated w (entity.Routine q) = RoutineThere w q
IsStated w (entity.Number n) = Unit {0}
IsStated w (entity.Literal k n) = IsThere w k
IsStated w (entity.Static k n) = IsThere w k
IsStated w (entity.Constant k n) = ConstantThere w k n
IsStated w (entity.Object k o a) = IsThere w k

-- an identifier after a `.` that has a link
abbrev pub IsLinked : Scope → Option Link → Type 0
IsLinked c None = Unit {0}
IsLinked c (Some l) = IsStated c.world (entity_by c (Some l))

-- ---- expressions all whose names are declared; the predicate of a quantified one for an index of each subtype

abbrev mutual
  pub IsDeclared : Scope → tree.Expr → Type 0
  IsDeclared c (tree.at s n) = NodeDeclared c n

  pub NodeDeclared : Scope → tree.Node → Type 0
  NodeDeclared c (tree.number n) = Unit {0}
  NodeDeclared c tree.null = Unit {0}
  NodeDeclared c (tree.name m) = NameDeclared c m
  NodeDeclared c (tree.group as') = ArgsDeclared c as'
  NodeDeclared c (tree.unary s o a) = IsDeclared c a
  NodeDeclared c (tree.binary s o a b) = IsDeclared c a × IsDeclared c b
  NodeDeclared c (tree.member s b a g) = IsDeclared c a × RangeDeclared c g

  pub NameDeclared : Scope → tree.Name → Type 0
  NameDeclared c (tree.named s i ss) = IsStated c.world (entity_of c i.from) × SuffixesDeclared c ss

  pub MaybeDeclared : Scope → tree.MaybeExpr → Type 0
  MaybeDeclared c tree.no_expr = Unit {0}
  MaybeDeclared c (tree.an_expr e) = IsDeclared c e

  pub RangeDeclared : Scope → tree.Range → Type 0
  RangeDeclared c (tree.range l h) = IsDeclared c l × MaybeDeclared c h

  pub SuffixesDeclared : Scope → tree.Suffixes → Type 0
  SuffixesDeclared c tree.no_suffixes = Unit {0}
  SuffixesDeclared c (tree.suffixes s ss) = SuffixDeclared c s × SuffixesDeclared c ss

  pub SuffixDeclared : Scope → tree.Suffix → Type 0
  SuffixDeclared c (tree.selected s) = IsLinked c (c.link s.from)
  SuffixDeclared c (tree.ticked s a) = AttributeDeclared c a
  SuffixDeclared c (tree.applied as') = ArgsDeclared c as'

  pub AttributeDeclared : Scope → tree.Attribute → Type 0
  AttributeDeclared c (tree.attribute s) = Unit {0}
  AttributeDeclared c tree.range_attribute = Unit {0}
  AttributeDeclared c (tree.qualified as') = ArgsDeclared c as'

  pub ArgsDeclared : Scope → tree.Args → Type 0
  ArgsDeclared c tree.no_args = Unit {0}
  ArgsDeclared c (tree.args (tree.arg s h v) as') = (ChoiceDeclared c h × ValueDeclared c v) × ArgsDeclared c as'

  pub ChoiceDeclared : Scope → tree.ArgChoice → Type 0
  ChoiceDeclared c tree.other_parts = Unit {0}
  ChoiceDeclared c (tree.part i) = ItemDeclared c i
  ChoiceDeclared c (tree.parts l h) = IsDeclared c l × IsDeclared c h

  pub ValueDeclared : Scope → tree.Value → Type 0
  ValueDeclared c tree.no_value = Unit {0}
  ValueDeclared c (tree.value i) = ItemDeclared c i

  pub ItemDeclared : Scope → tree.Item → Type 0
  ItemDeclared c (tree.item s f) = FormDeclared c f

  pub FormDeclared : Scope → tree.Form → Type 0
  FormDeclared c (tree.plain e) = IsDeclared c e
  FormDeclared c (tree.choose as' e) = ArmsDeclared c as' × MaybeDeclared c e
  FormDeclared c (tree.quantified q s g e) = RangeDeclared c g × ((k : ℕ) → IsThere c.world k → IsDeclared (with_index c s.from k) e)

  pub ArmsDeclared : Scope → tree.Arms → Type 0
  ArmsDeclared c tree.no_arms = Unit {0}
  ArmsDeclared c (tree.arm x g as') = (IsDeclared c x × IsDeclared c g) × ArmsDeclared c as'

-- ---- contexts

-- what the context gives stands in the world
abbrev pub IsGiven : World → Want → Type 0
IsGiven w want.Free = Unit {0}
IsGiven w want.Unknown = ⊥
IsGiven w (want.Type t) = IsThere w t
IsGiven w (want.Subtype k) = IsThere w k
