-- Named numbers, constants and variables. -- L8, L27, Ada RM 3.3.1, 3.3.2
use Rattle.std.specs.Prelude.{ℕ, zero, suc, ℤ, Bool, true, false, Option, Some, None, List, [], ◌∷◌, ◌++◌, length, if◌then◌else◌}
use Rattle.ada_values.specs.declared.place.Place.{Place}
use Rattle.ada_values.specs.declared.values.Value.{Value}
use Rattle.ada_values.specs.declared.values.Value.TheVariants as value
use Rattle.ada_text.specs.declared.token.Span.{Span}
use Rattle.front_codes.specs.declared.codes.Code.TheVariants.{L8, L27}
use Rattle.front_codes.specs.declared.codes.Refusal.{Refusal}
use Rattle.typed_units.specs.declared.expressions.Expr.{Expr}
use Rattle.typed_units.specs.declared.expressions.Fitted.{Fitted}
use Rattle.typed_units.specs.declared.operators.Object.TheVariants as object
use Rattle.typed_units.specs.declared.statements.Action.TheVariants as action
use Rattle.typed_units.specs.declared.statements.Stmt.{Stmt, roll-Stmt}
use Rattle.type_base.specs.declared.entities.Access.TheVariants as access
use Rattle.type_base.specs.declared.entities.Entity.{Entity}
use Rattle.type_base.specs.declared.entities.Entity.TheVariants as entity
use Rattle.type_base.specs.declared.seen.Moment.TheVariants as moment
use Rattle.type_base.specs.declared.seen.Seen.{Seen}
use Rattle.type_base.specs.declared.seen.Seen.TheVariants as seen'
use Rattle.type_base.specs.declared.seen.Want.{Want}
use Rattle.type_base.specs.declared.seen.Want.TheVariants as want
use Rattle.type_base.specs.declared.world.World.{World}
use Rattle.type_base.specs.Lookups.{form_at}
use Rattle.type_base.specs.Results.{bit, number_in}
use Rattle.type_base.specs.Scope.{Scope}
use Rattle.syntax_view.specs.Trees as tree
use Rattle.typing_rules.specs.declared.prefix.Found.{Found}
use Rattle.typing_rules.specs.declared.prefix.Found.TheVariants.{Refused, Unknown, Is}
use Rattle.typing_rules.specs.Fits.{both, fit, found_then, with_found}
use Rattle.statement_typing.specs.Asked.{place_of}
use Rattle.statement_typing.specs.declared.draft.Draft.{Draft}
use Rattle.statement_typing.specs.declared.parts.Noted.{Noted}
use Rattle.statement_typing.specs.Checks.{broken, fault_after, refuse}
use Rattle.statement_typing.specs.Subtypes.{indicated, indicated_faults, is_of_integers, part, part_faults, static_in, whole_of}
use Rattle.statement_typing.specs.Values.{settled}
use Rattle.statement_typing.specs.Files.{Home, place_at, rank, scope, spot_of}
use Rattle.statement_typing.specs.Drafts.{Entered, declare, declare_all, entered, in_world, next_subtype}

-- ---- what a declaration gives

-- a named number is a static integer of any type
abbrev pub named_number : World → Place → Seen → Found ℤ
named_number w p (seen'.Refused f) = Refused f
named_number w p seen'.Unknown = Unknown
named_number w p (seen'.Number n) = Is n
named_number w p (seen'.Typed t x) = if is_of_integers (form_at w t) then static_in L27 p x else refuse L8 p

-- an object's subtype; p is the place of the declaration
abbrev pub object_subtype : Scope → Place → tree.SubInd → Found Noted
object_subtype c p s = found_then (indicated c L27 s) (whole_of c.world L27 p)

abbrev pub object_subtype_faults : Scope → Place → tree.SubInd → List Refusal
object_subtype_faults c p s = indicated_faults c L27 s ++ fault_after (indicated c L27 s) (object_subtype c p s)

-- the subtype's number; where it is refused, one that no subtype has
abbrev pub entered_by : Found Noted → Draft → Entered
entered_by (Is n) d = entered n d
entered_by Unknown d = record { number = next_subtype d; draft = d }
entered_by (Refused f) d = record { number = next_subtype d; draft = d }

abbrev pub wanted : Found Noted → ℕ → Want
wanted (Is n) k = want.Subtype k
wanted Unknown k = want.Unknown
wanted (Refused f) k = want.Unknown

-- a value for subtype k
abbrev pub given : Scope → Want → ℕ → tree.Expr → Found (Fitted Expr)
given c w k e = part c w e (fit c.world L8 true k (place_of c e))

abbrev pub given_faults : Scope → Want → ℕ → tree.Expr → List Refusal
given_faults c w k e = part_faults c w e (fit c.world L8 true k (place_of c e))

-- the value of a constant, or the initial value of a variable, which may be left out
abbrev pub initial : Scope → Place → Bool → Want → ℕ → Option tree.Expr → Found (Option (Fitted Expr))
initial c p b w k (Some e) = with_found Some (given c w k e)
initial c p true w k None = refuse L27 p
initial c p false w k None = Is None

abbrev pub initial_faults : Scope → Place → Bool → Want → ℕ → Option tree.Expr → List Refusal
initial_faults c p b w k (Some e) = given_faults c w k e
initial_faults c p true w k None = broken L27 p
initial_faults c p false w k None = []

-- at package level: the value itself
abbrev pub settled_value : Scope → Option tree.Expr → Option (Fitted Expr) → Found (Option Value)
settled_value c (Some e) (Some f) = with_found Some (settled (place_of c e) f)
settled_value c (Some e) None = Is None
settled_value c None f = Is None

-- ---- objects of a package

abbrev pub changed_at : {A : Type 0} → ℕ → (A → A) → List A → List A
changed_at n f [] = []
changed_at zero f (x ∷ xs) = f x ∷ xs
changed_at (suc n) f (x ∷ xs) = x ∷ changed_at n f xs

abbrev pub with_global : Home → ℕ → Option Value → Span → ℕ → Draft → Draft
with_global h k v s g d =
    declare h.file.number s (entity.Object k (object.Global g) access.Variable)
    (record d { globals = changed_at g (λ x. record x { subtype = k; initial = v }) d.globals })

abbrev pub with_globals : Home → ℕ → Option Value → List Span → Draft → Draft
with_globals h k v [] d = d
with_globals h k v (s ∷ ss) d = with_globals h k v ss (with_global h k v s (rank h.globals (spot_of h.file s)) d)

abbrev pub with_constant : Home → ℕ → Value → List Span → Draft → Draft
with_constant h k v ss d =
    declare_all h.file.number ss (entity.Constant k (length d.world.constants)) (in_world (λ w. record w { constants = w.constants ++ v ∷ [] }) d)

abbrev pub with_settled : Home → ℕ → Value → List Span → Draft → Draft
with_settled h k (value.Int n) ss d = declare_all h.file.number ss (entity.Static k n) d
with_settled h k (value.Bool b) ss d = declare_all h.file.number ss (entity.Static k (bit b)) d
with_settled h k v ss d = with_constant h k v ss d

abbrev pub of_package : Home → Bool → List Span → ℕ → Option Value → Draft → Draft
of_package h false ss k v d = with_globals h k v ss d
of_package h true ss k (Some v) d = with_settled h k v ss d
of_package h true ss k None d = d

-- ---- objects of a subprogram

-- what a local object is read as: a constant with a static value is that value
abbrev pub constant_as : ℕ → ℕ → Option ℤ → Entity
constant_as k n (Some v) = entity.Static k v
constant_as k n None = entity.Object k (object.Local n) access.Constant

abbrev pub local_as : Bool → ℕ → ℕ → Option (Fitted Expr) → Entity
local_as false k n v = entity.Object k (object.Local n) access.Variable
local_as true k n None = entity.Unknown
local_as true k n (Some f) = constant_as k n (number_in f.value)

-- an initial value is an assignment at the object's name
abbrev pub opening_of : Place → ℕ → Option (Fitted Expr) → List Stmt
opening_of p n None = []
opening_of p n (Some f) = roll-Stmt (record { place = p; action = action.Assign (record { place = p; object = object.Local n; path = [] }) f }) ∷ []

abbrev pub with_local : Home → Bool → ℕ → Option (Fitted Expr) → Span → ℕ → Draft → Draft
with_local h b k v s n d =
    declare h.file.number s (local_as b k n v)
    (record d { locals = d.locals ++ record { name = h.file.spelled s.from; subtype = k; constant = b } ∷ []; opening = d.opening ++ opening_of (place_at h s) n v })

abbrev pub with_locals : Home → Bool → ℕ → Option (Fitted Expr) → List Span → Draft → Draft
with_locals h b k v [] d = d
with_locals h b k v (s ∷ ss) d = with_locals h b k v ss (with_local h b k v s (length d.locals) d)

-- ---- declarations

abbrev pub present : Home → Draft → Scope
present h d = scope h moment.Elsewhere d.world

abbrev pub with_number : Home → List Span → Found ℤ → Draft → Draft
with_number h ss (Is n) d = declare_all h.file.number ss (entity.Number n) d
with_number h ss Unknown d = d
with_number h ss (Refused f) d = d

abbrev pub number_declared : Home → List Span → Option tree.Expr → Draft → Draft
number_declared h ss None d = d
number_declared h ss (Some e) d = with_number h ss (part (present h d) want.Free e (named_number d.world (place_of (present h d) e))) d

abbrev pub number_faults : Home → Option tree.Expr → Draft → List Refusal
number_faults h None d = []
number_faults h (Some e) d = part_faults (present h d) want.Free e (named_number d.world (place_of (present h d) e))

abbrev pub with_objects : Home → Bool → List Span → ℕ → Found (Option (Fitted Expr)) → Draft → Draft
with_objects h b ss k (Is v) d = with_locals h b k v ss d
with_objects h b ss k Unknown d = d
with_objects h b ss k (Refused f) d = d

abbrev pub with_package_objects : Home → Bool → List Span → ℕ → Found (Option Value) → Draft → Draft
with_package_objects h b ss k (Is v) d = of_package h b ss k v d
with_package_objects h b ss k Unknown d = d
with_package_objects h b ss k (Refused f) d = d

-- the subtype, and then the value in the draft that has it
abbrev pub object_value : Home → Place → Bool → Option tree.Expr → Found Noted → Entered → Found (Option (Fitted Expr))
object_value h p b v n e = both (λ m f. f) n (initial (present h e.draft) p b (wanted n e.number) e.number v)

abbrev pub object_entered : Home → Option ℕ → Bool → List Span → Option tree.Expr → Found (Option (Fitted Expr)) → Entered → Draft
object_entered h (Some q) b ss v f e = with_objects h b ss e.number f e.draft
object_entered h None b ss v f e = with_package_objects h b ss e.number (found_then f (settled_value (present h e.draft) v)) e.draft

abbrev pub object_with : Home → Place → Bool → List Span → Option tree.Expr → Found Noted → Entered → Draft
object_with h p b ss v n e = object_entered h h.own b ss v (object_value h p b v n e) e

abbrev pub object_declared_as : Home → Place → List Span → Bool → Option tree.SubInd → Option tree.Expr → Draft → Draft
object_declared_as h p ss b None v d = number_declared h ss v d
object_declared_as h p ss b (Some s) v d = object_with h p b ss v (object_subtype (present h d) p s) (entered_by (object_subtype (present h d) p s) d)

-- objects with these names, whose declaration begins at p
abbrev pub object_declared : Home → Place → List Span → tree.Object → Draft → Draft
object_declared h p ss o d = object_declared_as h p ss o.constant o.subtype o.value d

abbrev pub settled_faults : Option ℕ → Scope → Option tree.Expr → Found (Option (Fitted Expr)) → List Refusal
settled_faults (Some q) c v f = []
settled_faults None c v f = fault_after f (found_then f (settled_value c v))

abbrev pub object_value_faults : Home → Place → Bool → Option tree.Expr → Found Noted → Entered → List Refusal
object_value_faults h p b v n e =
    initial_faults (present h e.draft) p b (wanted n e.number) e.number v
    ++ settled_faults h.own (present h e.draft) v (initial (present h e.draft) p b (wanted n e.number) e.number v)

abbrev pub object_faults_as : Home → Place → Bool → Option tree.SubInd → Option tree.Expr → Draft → List Refusal
object_faults_as h p b None v d = number_faults h v d
object_faults_as h p b (Some s) v d =
    object_subtype_faults (present h d) p s
    ++ object_value_faults h p b v (object_subtype (present h d) p s) (entered_by (object_subtype (present h d) p s) d)

abbrev pub object_faults : Home → Place → tree.Object → Draft → List Refusal
object_faults h p o d = object_faults_as h p o.constant o.subtype o.value d
