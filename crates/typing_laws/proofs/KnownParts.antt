-- Parts of which all is known in each context that is given, and what names stand for.
use Rattle.std.proofs.Common.{◌≡◌, refl, sym, ◌∙◌, ap, subst, ℕ, suc, ◌+◌, arith, Bool, true, false, ◌==◌, List, [], ◌∷◌, ◌++◌, length, Option, Some, None}
use Rattle.std.specs.Prelude.{if◌then◌else◌}
use Rattle.ada_values.specs.declared.place.Place.{Place}
use Rattle.ada_values.specs.declared.values.Value.{Value}
use Rattle.front_codes.specs.declared.codes.Refusal.{Refusal}
use Rattle.name_library.specs.declared.links.Link.{Link}
use Rattle.typed_units.specs.declared.expressions.Argument.{Argument}
use Rattle.typed_units.specs.declared.expressions.Expr.{Expr}
use Rattle.typed_units.specs.declared.expressions.ExprNode.TheVariants as node
use Rattle.typed_units.specs.declared.expressions.Step.{Step}
use Rattle.typed_units.specs.declared.expressions.Step.TheVariants as step
use Rattle.typed_units.specs.declared.operators.Object.{Object}
use Rattle.type_base.specs.Scope.{Scope}
use Rattle.type_base.specs.declared.entities.Access.{Access}
use Rattle.type_base.specs.declared.entities.Entity.{Entity}
use Rattle.type_base.specs.declared.entities.Entity.TheVariants as entity
use Rattle.type_base.specs.declared.seen.Seen.{Seen}
use Rattle.type_base.specs.declared.seen.Seen.TheVariants as seen
use Rattle.type_base.specs.declared.seen.Want.{Want}
use Rattle.type_base.specs.declared.world.Component.{Component}
use Rattle.type_base.specs.declared.world.Discrete.{Discrete}
use Rattle.type_base.specs.declared.world.Form.TheVariants as form
use Rattle.type_base.specs.declared.world.Formal.{Formal}
use Rattle.type_base.specs.declared.world.Routine.{Routine}
use Rattle.type_base.specs.declared.world.Subtype.{Subtype}
use Rattle.type_base.specs.declared.world.World.{World}
use Rattle.ada_values.specs.declared.scalars.Scalar.{Scalar}
use Rattle.type_base.specs.Demands.{made, subtype_of}
use Rattle.type_base.specs.Lookups.{constant_at, routine_at, subtype_at, type_at, type_in}
use Rattle.expression_rules.specs.Known.{IsKnown, Stands}
use Rattle.typing_rules.specs.declared.prefix.Found.{Found}
use Rattle.typing_rules.specs.declared.prefix.Found.TheVariants as found
use Rattle.typing_rules.specs.declared.prefix.Part.{Part}
use Rattle.typing_rules.specs.declared.prefix.Prefix.{Prefix}
use Rattle.typing_rules.specs.declared.prefix.Prefix.TheVariants as prefix
use Rattle.typing_rules.specs.Calls.{given_by}
use Rattle.typing_rules.specs.Lookups.{components_at, entity_by, place_among, scalar_value, seen_as, type_of}
use Rattle.typing_rules.specs.Names.{alone_by, component, component_of, component_part, only_operand, part_component, record_component, selected_by, selection, unless_refused, value_component}
use Rattle.typing_rules.specs.Parts.{Arg, Arm, Choice, Operand, Range, Suffix, applied, attribute, between, others, qualified, range_attribute, selected, single}
use Rattle.typing_rules.specs.Values.{call_value, component_subtype, constant_by, entity_prefix, formals_of, no_arguments, no_function, object_by, part_of, part_value, place_of, prefix_fault, routine_value, seen_of, step_subtype, stepped, value_of}
use Rattle.typing_rules.proofs.Opened.{subtype_made}
use Rattle.typing_laws.specs.Declared.{ComponentsThere, ConstantThere, IsGiven, IsLinked, IsSound, IsStated, IsThere, ResultThere, RoutineThere}
use Rattle.typing_laws.proofs.Standing.{IsFound, KindThere, RecordThere, made_stands, record_there, seen_as_known, there_stands, then_known, type_of_is}

-- ---- what a name is so far

-- the subtype to which steps lead
abbrev pub end_of : World → ℕ → List (Step Expr) → ℕ
end_of w k [] = k
end_of w k (s ∷ ss) = end_of w (step_subtype w k s) ss

-- a subtype of numbers
pub record IsScalar (w : World) (k : ℕ) : Type 0 where
  pub of : ℕ
  pub discrete : Discrete
  pub scalar : Scalar
  pub is : subtype_at w k ≡ Some (record { of = of; form = form.Number discrete scalar })

pub record PartThere (w : World) (g : Part) : Type 0 where
  pub subtype : IsThere w g.subtype
  pub end : end_of w g.whole g.target.path ≡ g.subtype

abbrev pub PrefixKnown : World → Prefix → Type 0
PrefixKnown w prefix.Package = Unit {0}
PrefixKnown w (prefix.Subtype k) = IsThere w k
PrefixKnown w (prefix.Routine q) = RoutineThere w q
PrefixKnown w (prefix.Called q as') = IsFound as'
PrefixKnown w (prefix.Mapping m t k) = IsScalar w k
PrefixKnown w (prefix.Range b) = IsThere w b.subtype
PrefixKnown w (prefix.Constant t x) = Stands w t (subtype_of x)
PrefixKnown w (prefix.Part g) = PartThere w g
PrefixKnown w (prefix.Value s) = IsKnown w s

-- ---- parts

pub record OperandKnown (w : World) (o : Operand) : Type 0 where
  pub kind : KindThere w o.kind
  pub prefix : (v : Want) → IsGiven w v → PrefixKnown w (o.prefix v)

abbrev pub MaybeKnown : World → Option Operand → Type 0
MaybeKnown w None = Unit {0}
MaybeKnown w (Some o) = OperandKnown w o

abbrev pub ChoiceKnown : World → Choice → Type 0
ChoiceKnown w others = Unit {0}
ChoiceKnown w (single o) = OperandKnown w o
ChoiceKnown w (between l h) = OperandKnown w l × OperandKnown w h

abbrev pub ArgsKnown : World → List Arg → Type 0
ArgsKnown w [] = Unit {0}
ArgsKnown w (a ∷ as') = (ChoiceKnown w a.choice × MaybeKnown w a.value) × ArgsKnown w as'

abbrev pub RangeKnown : World → Range → Type 0
RangeKnown w g = OperandKnown w g.low × MaybeKnown w g.high

abbrev pub SuffixKnown : Scope → Suffix → Type 0
SuffixKnown c (selected at) = IsLinked c (c.link at)
SuffixKnown c (attribute t at) = Unit {0}
SuffixKnown c (range_attribute t) = Unit {0}
SuffixKnown c (qualified t as') = ArgsKnown c.world as'
SuffixKnown c (applied as') = ArgsKnown c.world as'

abbrev pub SuffixesKnown : Scope → List Suffix → Type 0
SuffixesKnown c [] = Unit {0}
SuffixesKnown c (s ∷ ss) = SuffixKnown c s × SuffixesKnown c ss

abbrev pub ArmsKnown : World → List Arm → Type 0
ArmsKnown w [] = Unit {0}
ArmsKnown w (a ∷ as') = (OperandKnown w a.condition × OperandKnown w a.gives) × ArmsKnown w as'

pub given_known : (w : World) (h : Choice) (v : Option Operand) → ChoiceKnown w h → MaybeKnown w v → MaybeKnown w (given_by h v)
given_known w h (Some v) i j = j
given_known w (single o) None i j = i
given_known w others None i j = tt
given_known w (between l h) None i j = tt

alone_known : (w : World) (h : Choice) (v : Option Operand) (as' : List Arg) → ChoiceKnown w h → MaybeKnown w (alone_by h v as')
alone_known w (single o) None [] i = i
alone_known w (single o) None (a ∷ as') i = tt
alone_known w (single o) (Some v) as' i = tt
alone_known w others v as' i = tt
alone_known w (between l h) v as' i = tt

pub only_known : (w : World) (as' : List Arg) → ArgsKnown w as' → MaybeKnown w (only_operand as')
only_known w [] h = tt
only_known w (a ∷ as') h = alone_known w a.choice a.value as' h.0.0

-- ---- values

stepped_is : (p : Place) (k : ℕ) (x : Expr) (s : Step Expr) → subtype_of (stepped p k x s) ≡ k
stepped_is p k x (step.Component n m) = subtype_made (record { place = p; subtype = k; node = node.Component x n })
stepped_is p k x (step.Item b i) = subtype_made (record { place = p; subtype = k; node = node.Item x i })

part_is : (w : World) (p : Place) (k : ℕ) (x : Expr) (ss : List (Step Expr)) → subtype_of x ≡ k → subtype_of (part_of w p k x ss) ≡ end_of w k ss
part_is w p k x [] e = e
part_is w p k x (s ∷ ss) e = part_is w p (step_subtype w k s) (stepped p (step_subtype w k s) x s) ss (stepped_is p (step_subtype w k s) x s)

pub end_more : (w : World) (k : ℕ) (ss : List (Step Expr)) (s : Step Expr) → end_of w k (ss ++ (s ∷ [])) ≡ step_subtype w (end_of w k ss) s
end_more w k [] s = refl
end_more w k (r ∷ ss) s = end_more w (step_subtype w k r) ss s

part_known : (w : World) (g : Part) → IsSound w → PartThere w g → Stands w (type_of w g.subtype) (subtype_of (part_value w g))
part_known w g sound h =
    let p = g.target.place in
    let x = made p g.whole (node.Read p g.target.object) in
    let e = part_is w p g.whole x g.target.path (subtype_made (record { place = p; subtype = g.whole; node = node.Read p g.target.object })) ∙ h.end in
    subst (λ (j : ℕ). Stands w (type_of w g.subtype) j) (sym e)
    (subst (λ (t : ℕ). Stands w t g.subtype) (sym (type_of_is w g.subtype h.subtype)) (there_stands w g.subtype sound h.subtype))

none_given : (p : Place) (fs : List Formal) → IsFound (no_arguments p fs)
none_given p [] = tt
none_given p (f ∷ fs) = tt

no_function_known : (w : World) (p : Place) (x : Found (List (Argument Expr))) → IsKnown w (no_function p x)
no_function_known w p (found.Refused f) = tt
no_function_known w p found.Unknown = tt
no_function_known w p (found.Is as') = tt

pub call_value_known : (c : Scope) (p : Place) (q : ℕ) (k : Option ℕ) (x : Found (List (Argument Expr))) → IsSound c.world → ResultThere c.world k → IsFound x → IsKnown c.world (call_value c p q k x)
call_value_known c p q (Some k) x sound h i = then_known c.world x (λ as'. seen_as c p k (node.Call p q as')) i (λ as'. seen_as_known c p k (node.Call p q as') sound h)
call_value_known c p q None x sound h i = no_function_known c.world p x

routine_known : (c : Scope) (p : Place) (q : ℕ) → IsSound c.world → (h : RoutineThere c.world q) → IsKnown c.world (routine_value c p q (routine_at c.world q))
routine_known c p q sound h =
    let r = h.routine in
    subst (λ (m : Option Routine). IsKnown c.world (routine_value c p q m)) (sym h.is)
    (call_value_known c p q r.result (no_arguments p (formals_of c.world r)) sound (sound.results q r h.is) (none_given p (formals_of c.world r)))

pub value_known : (c : Scope) (p : Place) (f : Prefix) → IsSound c.world → PrefixKnown c.world f → IsKnown c.world (value_of c p f)
value_known c p prefix.Package sound h = tt
value_known c p (prefix.Subtype k) sound h = tt
value_known c p (prefix.Routine q) sound h = routine_known c p q sound h
value_known c p (prefix.Called q as') sound h = no_function_known c.world p as'
value_known c p (prefix.Mapping m t k) sound h = tt
value_known c p (prefix.Range b) sound h = tt
value_known c p (prefix.Constant t x) sound h = h
value_known c p (prefix.Part g) sound h = part_known c.world g sound h
value_known c p (prefix.Value s) sound h = h

pub operand_known : (c : Scope) (o : Operand) (v : Want) → IsSound c.world → OperandKnown c.world o → IsGiven c.world v → IsKnown c.world (seen_of c o v)
operand_known c o v sound h i = value_known c (place_of c o) (o.prefix v) sound (h.prefix v i)

-- ---- what a name begins with

static_known : (w : World) (p : Place) (k : ℕ) (v : Value) → IsSound w → IsThere w k → PrefixKnown w (constant_by p k (Some v) (type_at w k))
static_known w p k v sound h =
    subst (λ (m : Option Subtype). PrefixKnown w (constant_by p k (Some v) (type_in m))) (sym h.is) (made_stands w h.subtype.of k p (node.Static v) (there_stands w k sound h))

constant_known : (w : World) (p : Place) (k n : ℕ) → IsSound w → ConstantThere w k n → PrefixKnown w (constant_by p k (constant_at w n) (type_at w k))
constant_known w p k n sound h =
    subst (λ (v : Option Value). PrefixKnown w (constant_by p k v (type_at w k))) (sym h.is) (static_known w p k h.value sound h.subtype)

object_known : (w : World) (p : Place) (k : ℕ) (o : Object) (a : Access) → IsThere w k → PrefixKnown w (object_by p k o a (type_at w k))
object_known w p k o a h = subst (λ (m : Option Subtype). PrefixKnown w (object_by p k o a (type_in m))) (sym h.is) (record { subtype = h; end = refl })

pub entity_known : (c : Scope) (p : Place) (e : Entity) → IsSound c.world → IsStated c.world e → PrefixKnown c.world (entity_prefix c p e)
entity_known c p entity.Unknown sound h = absurd h
entity_known c p entity.Package sound h = tt
entity_known c p (entity.Subtype k) sound h = h
entity_known c p (entity.Routine q) sound h = h
entity_known c p (entity.Number n) sound h = tt
entity_known c p (entity.Literal k n) sound h = seen_as_known c p k (node.Static (scalar_value k n)) sound h
entity_known c p (entity.Static k n) sound h = static_known c.world p k (scalar_value (type_of c.world k) n) sound h
entity_known c p (entity.Constant k n) sound h = constant_known c.world p k n sound h
entity_known c p (entity.Object k o a) sound h = object_known c.world p k o a h

-- ---- components

pub moved_on : (k j : ℕ) → suc k + j ≡ k + suc j
moved_on k j = grind arith

pub from_here : (k : ℕ) → k ≡ k + 0
from_here k = grind arith

pub from_nothing : (j : ℕ) → 0 + j ≡ j
from_nothing j = grind arith

-- the number of a component, counted from k on
pub record PlaceThere (w : World) (cs : List Component) (k n : ℕ) : Type 0 where
  pub place : ℕ
  pub is : n ≡ k + place
  pub there : IsThere w (component_subtype (Some cs) place)

abbrev pub MaybePlace : World → List Component → ℕ → Option ℕ → Type 0
MaybePlace w cs k None = Unit {0}
MaybePlace w cs k (Some n) = PlaceThere w cs k n

pub later_place : (w : World) (c : Component) (cs : List Component) (k : ℕ) (r : Option ℕ) → MaybePlace w cs (suc k) r → MaybePlace w (c ∷ cs) k r
later_place w c cs k None h = tt
later_place w c cs k (Some n) h = record { place = suc h.place; is = h.is ∙ moved_on k h.place; there = h.there }

place_if : (w : World) (c : Component) (cs : List Component) (k : ℕ) (r : Option ℕ) → IsThere w c.subtype → MaybePlace w cs (suc k) r → (b : Bool) → MaybePlace w (c ∷ cs) k (if b then Some k else r)
place_if w c cs k r h i true = record { place = 0; is = from_here k; there = h }
place_if w c cs k r h i false = later_place w c cs k r i

among : (w : World) (cs : List Component) (m k : ℕ) → ComponentsThere w cs → MaybePlace w cs k (place_among cs m k)
among w [] m k h = tt
among w (c ∷ cs) m k h = place_if w c cs k (place_among cs m (suc k)) h.0 (among w cs m (suc k) h.1) (c.name == m)

abbrev pub NumberThere : World → List Component → Option ℕ → Type 0
NumberThere w cs None = Unit {0}
NumberThere w cs (Some n) = IsThere w (component_subtype (Some cs) n)

pub number_from : (w : World) (cs : List Component) (r : Option ℕ) → MaybePlace w cs 0 r → NumberThere w cs r
number_from w cs None h = tt
number_from w cs (Some n) h = subst (λ (j : ℕ). IsThere w (component_subtype (Some cs) j)) (sym (h.is ∙ from_nothing h.place)) h.there

pub place_there : (w : World) (cs : List Component) (m : ℕ) → ComponentsThere w cs → NumberThere w cs (place_among cs m 0)
place_there w cs m h = number_from w cs (place_among cs m 0) (among w cs m 0 h)

part_component_by : (w : World) (p : Place) (g : Part) (cs : List Component) (r : Option ℕ) → PartThere w g → components_at w g.subtype ≡ Some cs → NumberThere w cs r → PrefixKnown w (component_part p g cs r)
part_component_by w p g cs None h e i = tt
part_component_by w p g cs (Some n) h e i =
    record { subtype = i; end = end_more w g.whole g.target.path (step.Component n (length cs)) ∙ ap (λ (k : ℕ). component_subtype (components_at w k) n) h.end ∙ ap (λ (m : Option (List Component)). component_subtype m n) e }

part_component_known : (w : World) (p : Place) (m : ℕ) (g : Part) (cs : Option (List Component)) → PartThere w g → components_at w g.subtype ≡ cs → RecordThere w cs → PrefixKnown w (part_component p m g cs)
part_component_known w p m g None h e i = tt
part_component_known w p m g (Some cs) h e i = part_component_by w p g cs (place_among cs m 0) h e (place_there w cs m i)

component_of_known : (c : Scope) (p : Place) (x : Expr) (cs : List Component) (r : Option ℕ) → IsSound c.world → NumberThere c.world cs r → IsKnown c.world (component_of c p x cs r)
component_of_known c p x cs None sound h = tt
component_of_known c p x cs (Some n) sound h = seen_as_known c p (component_subtype (Some cs) n) (node.Component x n) sound h

record_component_known : (c : Scope) (p : Place) (m : ℕ) (x : Expr) (cs : Option (List Component)) → IsSound c.world → RecordThere c.world cs → IsKnown c.world (record_component c p m x cs)
record_component_known c p m x None sound h = tt
record_component_known c p m x (Some cs) sound h = component_of_known c p x cs (place_among cs m 0) sound (place_there c.world cs m h)

value_component_known : (c : Scope) (p : Place) (m : ℕ) (s : Seen) → IsSound c.world → IsKnown c.world s → IsKnown c.world (value_component c p m s)
value_component_known c p m (seen.Refused f) sound h = tt
value_component_known c p m seen.Unknown sound h = absurd h
value_component_known c p m (seen.Number n) sound h = tt
value_component_known c p m (seen.Typed t x) sound h = record_component_known c p m x (components_at c.world (subtype_of x)) sound (record_there c.world (subtype_of x) sound)

component_known : (c : Scope) (p : Place) (m : ℕ) (f : Prefix) → IsSound c.world → PrefixKnown c.world f → PrefixKnown c.world (component c p m f)
component_known c p m (prefix.Part g) sound h = part_component_known c.world p m g (components_at c.world g.subtype) h refl (record_there c.world g.subtype sound)
component_known c p m prefix.Package sound h = value_component_known c p m (value_of c p prefix.Package) sound tt
component_known c p m (prefix.Subtype k) sound h = value_component_known c p m (value_of c p (prefix.Subtype k)) sound tt
component_known c p m (prefix.Routine q) sound h = value_component_known c p m (value_of c p (prefix.Routine q)) sound (value_known c p (prefix.Routine q) sound h)
component_known c p m (prefix.Called q as') sound h = value_component_known c p m (value_of c p (prefix.Called q as')) sound (value_known c p (prefix.Called q as') sound h)
component_known c p m (prefix.Mapping n t k) sound h = value_component_known c p m (value_of c p (prefix.Mapping n t k)) sound tt
component_known c p m (prefix.Range b) sound h = value_component_known c p m (value_of c p (prefix.Range b)) sound tt
component_known c p m (prefix.Constant t x) sound h = value_component_known c p m (seen.Typed t x) sound h
component_known c p m (prefix.Value s) sound h = value_component_known c p m s sound h

unless_known : (w : World) (o : Option Refusal) (f : Prefix) → PrefixKnown w f → PrefixKnown w (unless_refused o f)
unless_known w (Some g) f h = tt
unless_known w None f h = h

selected_known : (c : Scope) (p : Place) (f : Prefix) (at : ℕ) (l : Option Link) → IsSound c.world → PrefixKnown c.world f → IsLinked c l → PrefixKnown c.world (selected_by c p f at l)
selected_known c p f at (Some l) sound h i = unless_known c.world (prefix_fault f) (entity_prefix c p (entity_by c (Some l))) (entity_known c p (entity_by c (Some l)) sound i)
selected_known c p f at None sound h i = component_known c p (c.name at) f sound h

pub selection_known : (c : Scope) (p : Place) (f : Prefix) (at : ℕ) → IsSound c.world → PrefixKnown c.world f → IsLinked c (c.link at) → PrefixKnown c.world (selection c p f at)
selection_known c p f at sound h i = selected_known c p f at (c.link at) sound h i
