-- Declarations whose names are all declared.
use Rattle.std.specs.Prelude.{◌≡◌, ℕ, List, [], ◌∷◌, Option, Some, None}
use Rattle.ada_values.specs.declared.scalars.Scalar.{Scalar}
use Rattle.name_numbers.specs.declared.words.Word.{Word}
use Rattle.name_numbers.specs.declared.words.Word.TheVariants as word
use Rattle.syntax_view.specs.Trees as tree
use Rattle.type_base.specs.declared.seen.Moment.TheVariants as moment
use Rattle.type_base.specs.declared.world.Discrete.{Discrete}
use Rattle.type_base.specs.declared.world.Form.{Form}
use Rattle.type_base.specs.declared.world.Form.TheVariants as form
use Rattle.type_base.specs.declared.world.Subtype.{Subtype}
use Rattle.type_base.specs.declared.world.World.{World}
use Rattle.type_base.specs.Lookups.{form_at, subtype_at}
use Rattle.type_base.specs.Scope.{Scope}
use Rattle.typing_laws.specs.Declared.{IsDeclared, IsSound, ItemDeclared, NameDeclared}
use Rattle.statement_typing.specs.Files.{Home, scope}
use Rattle.known_statements.specs.Declared.{ArgumentsDeclared}

-- ---- worlds

-- a subtype of an integer or enumeration type stands in the world
pub record IsOrdered (w : World) (k : ℕ) : Type 0 where
  pub discrete : Discrete
  pub scalar : Scalar
  pub is : form_at w k ≡ Some (form.Number discrete scalar)

abbrev pub IndexOrdered : World → Form → Type 0
IndexOrdered w (form.Array i b t) = IsOrdered w i
IndexOrdered w _ = Unit {0}

-- The index of each array is of an integer or enumeration type: without that nothing could be said of its bounds. -- Ada RM 3.6(5)
abbrev pub HasIndexes : World → Type 0
HasIndexes w = (k : ℕ) (s : Subtype) → subtype_at w k ≡ Some s → IndexOrdered w s.form

-- a world in which declarations may be read
pub record IsReady (w : World) : Type 0 where
  pub sound : IsSound w
  pub indexes : HasIndexes w

-- ---- subtype indications -- Ada RM 3.2.2

abbrev pub BoundsDeclared : Scope → tree.Bounds → Type 0
BoundsDeclared c b = IsDeclared c b.low × IsDeclared c b.high

abbrev pub RangeDeclared : Scope → Option tree.Bounds → Type 0
RangeDeclared c None = Unit {0}
RangeDeclared c (Some b) = BoundsDeclared c b

abbrev pub IndicationDeclared : Scope → tree.SubInd → Type 0
IndicationDeclared c s = NameDeclared c s.name × RangeDeclared c s.bounds

-- ---- definitions of types -- Ada RM 3.4, 3.5.4, 3.6, 3.8

abbrev pub IndexFormDeclared : Scope → tree.IndexForm → Type 0
IndexFormDeclared c tree.alone = Unit {0}
IndexFormDeclared c (tree.up_to h) = IsDeclared c h
IndexFormDeclared c tree.unconstrained = Unit {0}
IndexFormDeclared c (tree.constrained b) = BoundsDeclared c b

abbrev pub IndexDeclared : Scope → tree.Index → Type 0
IndexDeclared c i = IsDeclared c i.first × IndexFormDeclared c i.form

abbrev pub ComponentsDeclared : Scope → List tree.Component → Type 0
ComponentsDeclared c [] = Unit {0}
ComponentsDeclared c (g ∷ gs) = IndicationDeclared c g.subtype × ComponentsDeclared c gs

abbrev pub DefinitionDeclared : Scope → tree.TypeForm → Type 0
DefinitionDeclared c (tree.signed b) = BoundsDeclared c b
DefinitionDeclared c (tree.modular e) = IsDeclared c e
DefinitionDeclared c (tree.enumeration ns) = Unit {0}
DefinitionDeclared c (tree.array_of i s) = IndexDeclared c i × IndicationDeclared c s
DefinitionDeclared c (tree.record_of gs) = ComponentsDeclared c gs
DefinitionDeclared c (tree.derived s) = IndicationDeclared c s

-- ---- values

abbrev pub ValueDeclared : Scope → Option tree.Expr → Type 0
ValueDeclared c None = Unit {0}
ValueDeclared c (Some e) = IsDeclared c e

-- ---- profiles -- Ada RM 6.1

abbrev pub ParamsDeclared : Scope → List tree.Param → Type 0
ParamsDeclared c [] = Unit {0}
ParamsDeclared c (q ∷ qs) = IndicationDeclared c q.subtype × ParamsDeclared c qs

abbrev pub ResultDeclared : Scope → Option tree.Name → Type 0
ResultDeclared c None = Unit {0}
ResultDeclared c (Some n) = NameDeclared c n

abbrev pub ProfileDeclared : Scope → tree.Heading → Type 0
ProfileDeclared c h = ParamsDeclared c h.params × ResultDeclared c h.result

-- ---- aspects -- Ada RM 6.1.1, SPARK RM 6.1.4

-- what stands before `=>` in parentheses is a mode, and no name
abbrev pub GlobalsDeclared : Scope → tree.Item → Type 0
GlobalsDeclared c (tree.item s (tree.plain (tree.at t (tree.group as')))) = ArgumentsDeclared c as'
GlobalsDeclared c i = ItemDeclared c i

abbrev pub StatedDeclared : Home → World → Option Word → Option tree.Item → Type 0
StatedDeclared h w (Some word.Pre) (Some i) = ItemDeclared (scope h moment.Elsewhere w) i
StatedDeclared h w (Some word.Post) (Some i) = ItemDeclared (scope h moment.InPost w) i
StatedDeclared h w (Some word.Global) (Some i) = GlobalsDeclared (scope h moment.Elsewhere w) i
StatedDeclared h w a i = Unit {0}

abbrev pub AspectsDeclared : Home → World → List tree.Aspect → Type 0
AspectsDeclared h w [] = Unit {0}
AspectsDeclared h w (a ∷ as') = StatedDeclared h w (h.file.word a.name.from) a.value × AspectsDeclared h w as'
