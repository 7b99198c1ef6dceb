-- What a name stands for, and the value that it is. -- Ada RM 4.1, 6.4
use Rattle.std.specs.Prelude.{ℕ, zero, suc, List, [], ◌∷◌, Option, Some, None, take, drop}
use Rattle.ada_values.specs.declared.place.Place.{Place}
use Rattle.ada_values.specs.declared.values.Value.{Value}
use Rattle.front_codes.specs.declared.codes.Code.TheVariants as code
use Rattle.front_codes.specs.declared.codes.Refusal.{Refusal}
use Rattle.typed_units.specs.declared.expressions.Argument.{Argument}
use Rattle.typed_units.specs.declared.expressions.Expr.{Expr}
use Rattle.typed_units.specs.declared.expressions.ExprNode.TheVariants as node
use Rattle.typed_units.specs.declared.expressions.Step.{Step}
use Rattle.typed_units.specs.declared.expressions.Step.TheVariants as step
use Rattle.typed_units.specs.declared.operators.Object.{Object}
use Rattle.type_base.specs.Scope.{Scope}
use Rattle.type_base.specs.declared.entities.Access.{Access}
use Rattle.type_base.specs.declared.entities.Entity.{Entity}
use Rattle.type_base.specs.declared.entities.Entity.TheVariants as entity
use Rattle.type_base.specs.declared.seen.Seen.{Seen}
use Rattle.type_base.specs.declared.seen.Seen.TheVariants as seen
use Rattle.type_base.specs.declared.seen.Want.{Want}
use Rattle.type_base.specs.declared.world.Component.{Component}
use Rattle.type_base.specs.declared.world.Formal.{Formal}
use Rattle.type_base.specs.declared.world.Routine.{Routine}
use Rattle.type_base.specs.declared.world.World.{World}
use Rattle.type_base.specs.Demands.{broken, made, refused}
use Rattle.type_base.specs.Faults.{fault_of}
use Rattle.type_base.specs.Lookups.{constant_at, routine_at, type_at}
use Rattle.typing_rules.specs.declared.prefix.Found.{Found}
use Rattle.typing_rules.specs.declared.prefix.Found.TheVariants as found
use Rattle.typing_rules.specs.declared.prefix.Part.{Part}
use Rattle.typing_rules.specs.declared.prefix.Prefix.{Prefix}
use Rattle.typing_rules.specs.declared.prefix.Prefix.TheVariants as prefix
use Rattle.typing_rules.specs.Fits.{found_fault, refused_beside, seen_then}
use Rattle.typing_rules.specs.Lookups.{Array, array_at, components_at, scalar_value, seen_as, type_of}
use Rattle.typing_rules.specs.Parts.{Operand}

-- ---- what a name stands for

abbrev pub constant_by : Place → ℕ → Option Value → Option ℕ → Prefix
constant_by p k (Some v) (Some t) = prefix.Constant t (made p k (node.Static v))
constant_by p k _ t = prefix.Value seen.Unknown

abbrev pub object_by : Place → ℕ → Object → Access → Option ℕ → Prefix
object_by p k o a (Some t) = prefix.Part (record { access = a; whole = k; subtype = k; target = record { place = p; object = o; path = [] } })
object_by p k o a None = prefix.Value seen.Unknown

-- the beginning of a name at p
abbrev pub entity_prefix : Scope → Place → Entity → Prefix
entity_prefix c p entity.Unknown = prefix.Value seen.Unknown
entity_prefix c p entity.Package = prefix.Package
entity_prefix c p (entity.Subtype k) = prefix.Subtype k
entity_prefix c p (entity.Routine q) = prefix.Routine q
entity_prefix c p (entity.Number n) = prefix.Value (seen.Number n)
entity_prefix c p (entity.Literal k n) = prefix.Value (seen_as c p k (node.Static (scalar_value k n)))
entity_prefix c p (entity.Static k n) = constant_by p k (Some (scalar_value (type_of c.world k) n)) (type_at c.world k)
entity_prefix c p (entity.Constant k n) = constant_by p k (constant_at c.world n) (type_at c.world k)
entity_prefix c p (entity.Object k o a) = object_by p k o a (type_at c.world k)

-- ---- parts of objects

abbrev pub component_subtype : Option (List Component) → ℕ → ℕ
component_subtype None n = 0
component_subtype (Some []) n = 0
component_subtype (Some (c ∷ cs)) zero = c.subtype
component_subtype (Some (c ∷ cs)) (suc n) = component_subtype (Some cs) n

abbrev pub item_subtype : Option Array → ℕ
item_subtype (Some a) = a.item
item_subtype None = 0

-- the subtype of a part of what has a subtype
abbrev pub step_subtype : World → ℕ → Step Expr → ℕ
step_subtype w k (step.Component n m) = component_subtype (components_at w k) n
step_subtype w k (step.Item b i) = item_subtype (array_at w k)

abbrev pub stepped : Place → ℕ → Expr → Step Expr → Expr
stepped p k x (step.Component n m) = made p k (node.Component x n)
stepped p k x (step.Item b i) = made p k (node.Item x i)

-- the part of x, which is of subtype k, that these steps lead to
abbrev pub part_of : World → Place → ℕ → Expr → List (Step Expr) → Expr
part_of w p k x [] = x
part_of w p k x (s ∷ ss) = part_of w p (step_subtype w k s) (stepped p (step_subtype w k s) x s) ss

abbrev pub part_value : World → Part → Expr
part_value w g = part_of w g.target.place g.whole (made g.target.place g.whole (node.Read g.target.place g.target.object)) g.target.path

-- ---- calls

abbrev pub formals_of : World → Routine → List Formal
formals_of w r = take r.count (drop r.first w.formals)

-- L10: a call without arguments is of a subprogram without formals
abbrev pub no_arguments : Place → List Formal → Found (List (Argument Expr))
no_arguments p [] = found.Is []
no_arguments p (f ∷ fs) = found.Refused (broken code.L10 p)

abbrev pub no_function : Place → Found (List (Argument Expr)) → Seen
no_function p (found.Refused f) = refused_beside (broken code.L12 p) (seen.Refused f)
no_function p _ = refused code.L12 p

-- L12: a call in an expression is of a function
abbrev pub call_value : Scope → Place → ℕ → Option ℕ → Found (List (Argument Expr)) → Seen
call_value c p q (Some k) as' = seen_then as' (λ a. seen_as c p k (node.Call p q a))
call_value c p q None as' = no_function p as'

abbrev pub routine_value : Scope → Place → ℕ → Option Routine → Seen
routine_value c p q (Some r) = call_value c p q r.result (no_arguments p (formals_of c.world r))
routine_value c p q None = seen.Unknown

-- ---- values

-- The value that a name at p is. A package, a subtype, a procedure and a range are none (L12, L19), nor is an attribute without its
-- argument (L10).
abbrev pub value_of : Scope → Place → Prefix → Seen
value_of c p prefix.Package = refused code.L12 p
value_of c p (prefix.Subtype k) = refused code.L12 p
value_of c p (prefix.Routine q) = routine_value c p q (routine_at c.world q)
value_of c p (prefix.Called q as') = no_function p as'
value_of c p (prefix.Mapping m t k) = refused code.L10 p
value_of c p (prefix.Range b) = refused code.L19 p
value_of c p (prefix.Constant t x) = seen.Typed t x
value_of c p (prefix.Part g) = seen.Typed (type_of c.world g.subtype) (part_value c.world g)
value_of c p (prefix.Value s) = s

-- what is refused in a name so far
abbrev pub prefix_fault : Prefix → Option Refusal
prefix_fault (prefix.Value s) = fault_of s
prefix_fault (prefix.Called q as') = found_fault as'
prefix_fault f = None

abbrev pub place_of : Scope → Operand → Place
place_of c o = c.place o.from

-- what is seen of an operand in a context
abbrev pub seen_of : Scope → Operand → Want → Seen
seen_of c o w = value_of c (place_of c o) (o.prefix w)
