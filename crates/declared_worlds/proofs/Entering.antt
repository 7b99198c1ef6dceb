-- What lasts of a draft's world lasts when something is entered: `P` is what lasts, by `l`.
use Rattle.std.proofs.Common.{ℕ, suc, ◌+◌, ◌-◌, ℤ, pos, Bool, true, false, Option, Some, None, List, [], ◌∷◌, ◌++◌, length}
use Rattle.std.specs.List.{All}
use Rattle.std.specs.Option.{IfSome}
use Rattle.std.proofs.lemmas.List.Elements.{All-head, All-tail, All-weaker}
use Rattle.ada_text.specs.declared.token.Span.{Span}
use Rattle.ada_values.specs.declared.place.Place.{Place}
use Rattle.ada_values.specs.declared.scalars.Scalar.{Scalar}
use Rattle.ada_values.specs.declared.values.Value.{Value}
use Rattle.ada_values.specs.declared.values.Value.TheVariants as value
use Rattle.syntax_view.specs.Trees as tree
use Rattle.typed_units.specs.declared.expressions.Expr.{Expr}
use Rattle.typed_units.specs.declared.expressions.Fitted.{Fitted}
use Rattle.typed_units.specs.declared.operators.Object.TheVariants as object
use Rattle.typed_units.specs.declared.programs.Mode as typed
use Rattle.typed_units.specs.declared.statements.Stmt.{Stmt}
use Rattle.type_base.specs.declared.entities.Access.TheVariants as access
use Rattle.type_base.specs.declared.entities.Entity.{Entity}
use Rattle.type_base.specs.declared.entities.Entity.TheVariants as entity
use Rattle.type_base.specs.declared.seen.Want.TheVariants as want
use Rattle.type_base.specs.declared.world.Discrete.{Discrete}
use Rattle.type_base.specs.declared.world.Form.{Form}
use Rattle.type_base.specs.declared.world.Form.TheVariants as form
use Rattle.type_base.specs.declared.world.Subtype.{Subtype}
use Rattle.type_base.specs.declared.world.World.{World}
use Rattle.type_base.specs.Results.{bit, number_in}
use Rattle.expression_rules.specs.Known.{SameSort}
use Rattle.typing_rules.specs.declared.prefix.Found.{Found}
use Rattle.typing_rules.specs.declared.prefix.Found.TheVariants.{Refused, Unknown, Is}
use Rattle.typing_rules.specs.Fits.{both, found_then}
use Rattle.statement_typing.specs.declared.draft.Draft.{Draft}
use Rattle.statement_typing.specs.declared.parts.Definition.{Definition}
use Rattle.statement_typing.specs.declared.parts.Definition.TheVariants.{ArrayOf, Integer, RecordOf, Single}
use Rattle.statement_typing.specs.declared.parts.Formals.{Formals}
use Rattle.statement_typing.specs.declared.parts.Group.{Group}
use Rattle.statement_typing.specs.declared.parts.Noted.{Noted}
use Rattle.statement_typing.specs.declared.parts.Noted.TheVariants.{Known, New}
use Rattle.statement_typing.specs.declared.parts.Profile.{Profile}
use Rattle.statement_typing.specs.Asked.{place_of}
use Rattle.statement_typing.specs.Drafts.{Entered, declare, declare_all, declare_literals, entered, in_world, next_subtype, with_components, with_first, with_group, with_groups, with_subtype, with_type}
use Rattle.statement_typing.specs.Files.{Home, place_at, rank, spot_of}
use Rattle.statement_typing.specs.Objects.{changed_at, constant_as, entered_by, initial, local_as, named_number, number_declared, object_declared, object_declared_as, object_entered, object_subtype, object_value, of_package, opening_of, present, settled_value, wanted, with_global, with_globals, with_local, with_locals, with_number, with_objects, with_package_objects, with_settled}
use Rattle.statement_typing.specs.Routines.{access_of, with_formals, with_param, with_params, with_profile, with_routine}
use Rattle.statement_typing.specs.Subtypes.{noted_subtype, part}
use Rattle.statement_typing.specs.Units.{with_definition, with_indication, with_opening, with_subtype_of}
use Rattle.sound_subtypes.specs.Sound.{IfIs}
use Rattle.typing_laws.specs.Declared.{ConstantThere, IsThere, IsWhole, PartsThere, ResultThere}
use Rattle.declared_worlds.proofs.Found.{Any, anything, both_has}
use Rattle.declared_worlds.proofs.Growing.{Grows, get_last, get_more, get_next, grows_on, one_grows, one_there, parts_in, result_in, stays, there_in, whole_in}
use Rattle.declared_worlds.proofs.Lasting.{Enters, Lasting}
use Rattle.declared_worlds.proofs.Indicating.{DefinitionThere, FormalThere, GroupThere, NotedThere, ProfileThere, noted_in, noted_whole, object_noted}

-- ---- identifiers

declare_lasts : (N : ℕ → Type 0) (P : World → Type 0) (l : Lasting N P) (file : ℕ) (s : Span) (e : Entity) (d : Draft) → P d.world → Enters N d.world e → P (declare file s e d).world
declare_lasts N P l file s e d a h = l.entity d.world (record { file = file; at = s.from }) e a h

pub package_lasts : (N : ℕ → Type 0) (P : World → Type 0) (l : Lasting N P) (file : ℕ) (s : Span) (d : Draft) → P d.world → P (declare file s entity.Package d).world
package_lasts N P l file s d a = declare_lasts N P l file s entity.Package d a tt

-- the subtype stays where identifiers are declared
static_lasts : (N : ℕ → Type 0) (P : World → Type 0) (l : Lasting N P) (file : ℕ) (ss : List Span) (k : ℕ) (n : ℤ) (d : Draft) → P d.world → IsThere d.world k → P (declare_all file ss (entity.Static k n) d).world
static_lasts N P l file [] k n d a h = a
static_lasts N P l file (s ∷ ss) k n d a h =
    let later = declare file s (entity.Static k n) d in
    static_lasts N P l file ss k n later (declare_lasts N P l file s (entity.Static k n) d a h) (there_in d.world later.world (stays d.world) k h)

constant_lasts : (N : ℕ → Type 0) (P : World → Type 0) (l : Lasting N P) (file : ℕ) (ss : List Span) (k n : ℕ) (d : Draft) → P d.world → ConstantThere d.world k n → P (declare_all file ss (entity.Constant k n) d).world
constant_lasts N P l file [] k n d a h = a
constant_lasts N P l file (s ∷ ss) k n d a h =
    let later = declare file s (entity.Constant k n) d in
    constant_lasts N P l file ss k n later (declare_lasts N P l file s (entity.Constant k n) d a h) (record { subtype = there_in d.world later.world (stays d.world) k h.subtype; value = h.value; is = h.is })

numbers_last : (N : ℕ → Type 0) (P : World → Type 0) (l : Lasting N P) (file : ℕ) (ss : List Span) (n : ℤ) (d : Draft) → P d.world → P (declare_all file ss (entity.Number n) d).world
numbers_last N P l file [] n d a = a
numbers_last N P l file (s ∷ ss) n d a = numbers_last N P l file ss n (declare file s (entity.Number n) d) (declare_lasts N P l file s (entity.Number n) d a tt)

literals_last : (N : ℕ → Type 0) (P : World → Type 0) (l : Lasting N P) (file k n : ℕ) (ss : List Span) (d : Draft) → P d.world → IsThere d.world k → P (declare_literals file k n ss d).world
literals_last N P l file k n [] d a h = a
literals_last N P l file k n (s ∷ ss) d a h =
    let e = entity.Literal k (pos n) in
    let later = declare file s e d in
    literals_last N P l file k (suc n) ss later (declare_lasts N P l file s e d a h) (there_in d.world later.world (stays d.world) k h)

-- ---- subtypes

-- a world of which what lasts holds, and to which another has grown
abbrev pub Later : (World → Type 0) → World → World → Type 0
Later P w v = Grows w v × P v

-- a draft to which another has grown, with a subtype that stands there
abbrev pub Reaches : (World → Type 0) → Draft → Entered → Type 0
Reaches P d e = Later P d.world e.draft.world × IsThere e.draft.world e.number

added_there : (N : ℕ → Type 0) (P : World → Type 0) (l : Lasting N P) (name : Option (List ℕ)) (s : Subtype) (d : Draft) → P d.world → IsWhole (with_subtype name s d).world s
    → Reaches P d (record { number = next_subtype d; draft = with_subtype name s d })
added_there N P l name s d a h = ((one_grows d.world s, l.subtype d.world s a h), one_there d.world s)

pub entered_there : (N : ℕ → Type 0) (P : World → Type 0) (l : Lasting N P) (n : Noted) (d : Draft) → P d.world → NotedThere d.world n → Reaches P d (entered n d)
entered_there N P l (Known k) d a h = ((stays d.world, a), h)
entered_there N P l (New s) d a h = added_there N P l None s d a (whole_in d.world (with_subtype None s d).world (one_grows d.world s) s h)

one_sort : (f : Form) → SameSort f f
one_sort (form.Number d s) = tt
one_sort form.Truth = tt
one_sort (form.Array i b t) = tt
one_sort (form.Record i n) = tt

first_there : (N : ℕ → Type 0) (P : World → Type 0) (l : Lasting N P) (name : List ℕ) (f : Form) (d : Draft) → P d.world → PartsThere d.world f → Reaches P d (with_first name f d)
first_there N P l name f d a h =
    let s : Subtype = record { of = next_subtype d; form = f } in
    added_there N P l (Some name) s d a (record { type = record { subtype = s; is = get_last d.world.subtypes s }; sort = one_sort f; parts = parts_in d.world (with_subtype (Some name) s d).world (one_grows d.world s) f h })

-- ---- types

components_later : (N : ℕ → Type 0) (P : World → Type 0) (l : Lasting N P) (name : ℕ → ℕ) (ss : List Span) (k : ℕ) (d : Draft) → P d.world → IsThere d.world k → Later P d.world (with_components name ss k d).world
components_later N P l name [] k d a h = (stays d.world, a)
components_later N P l name (s ∷ ss) k d a h =
    let later = in_world (λ w. record w { components = w.components ++ record { name = name s.from; subtype = k } ∷ [] }) d in
    components_later N P l name ss k later (l.component d.world (record { name = name s.from; subtype = k }) a h) (there_in d.world later.world (stays d.world) k h)

groups_later : (N : ℕ → Type 0) (P : World → Type 0) (l : Lasting N P) (names : ℕ → ℕ) (gs : List Group) (d : Draft) → P d.world → All (GroupThere d.world) gs → Later P d.world (with_groups names gs d).world
groups_later N P l names [] d a h = (stays d.world, a)
groups_later N P l names (g ∷ gs) d a h =
    let e = entered g.subtype d in
    let x = entered_there N P l g.subtype d a (All-head (GroupThere d.world) g gs h) in
    let y = components_later N P l names g.names e.number e.draft x.0.1 x.1 in
    let later = with_group names g.names e in
    let grown = grows_on d.world e.draft.world later.world x.0.0 y.0 in
    let z = groups_later N P l names gs later y.1 (All-weaker (GroupThere d.world) (GroupThere later.world) (λ b i. noted_in d.world later.world grown b.subtype i) gs (All-tail (GroupThere d.world) g gs h)) in
    (grows_on d.world later.world (with_groups names gs later).world grown z.0, z.1)

-- a draft of whose world what lasts holds, with a subtype that stands there
abbrev Gives : (World → Type 0) → Entered → Type 0
Gives P e = P e.draft.world × IsThere e.draft.world e.number

integer_lasts : (N : ℕ → Type 0) (P : World → Type 0) (l : Lasting N P) (names : ℕ → ℕ) (name : List ℕ) (c : Discrete) (x : Scalar) (d : Draft) → P d.world → Gives P (with_type names name (Integer c x) d)
integer_lasts N P l names name c x d a =
    let base : Subtype = record { of = next_subtype d; form = form.Number c (record x { lo = x.base_lo; hi = x.base_hi }) } in
    let s : Subtype = record { of = next_subtype d; form = form.Number c x } in
    let one = with_subtype None base d in
    let two = with_subtype (Some name) s one in (
      l.subtype one.world s (l.subtype d.world base a (record { type = record { subtype = base; is = get_last d.world.subtypes base }; sort = tt; parts = tt }))
          (record { type = record { subtype = base; is = get_more one.world.subtypes (s ∷ []) (next_subtype d) base (get_last d.world.subtypes base) }; sort = tt; parts = tt }),
      record { subtype = s; is = get_next d.world.subtypes base s },
    )

type_lasts : (N : ℕ → Type 0) (P : World → Type 0) (l : Lasting N P) (names : ℕ → ℕ) (name : List ℕ) (x : Definition) (d : Draft) → P d.world → DefinitionThere d.world x → Gives P (with_type names name x d)
type_lasts N P l names name (Integer c x) d a h = integer_lasts N P l names name c x d a
type_lasts N P l names name (Single f) d a h = let z = first_there N P l name f d a h in (z.0.1, z.1)
type_lasts N P l names name (ArrayOf i n) d a h =
    let e = entered n d in
    let x = entered_there N P l n d a h.1 in
    let z = first_there N P l name (form.Array i.subtype i.bounds e.number) e.draft x.0.1 (there_in d.world e.draft.world x.0.0 i.subtype h.0, x.1) in
    (z.0.1, z.1)
type_lasts N P l names name (RecordOf gs) d a h =
    let later = with_groups names gs d in
    let first = length d.world.components in
    let z = first_there N P l name (form.Record first (length later.world.components - first)) later (groups_later N P l names gs d a h).1 tt in
    (z.0.1, z.1)

pub definition_lasts : (N : ℕ → Type 0) (P : World → Type 0) (l : Lasting N P) (h : Home) (n : Span) (ls : List Span) (x : Found Definition) (d : Draft) → P d.world → IfIs (DefinitionThere d.world) x → P (with_definition h n ls x d).world
definition_lasts N P l h n ls (Is t) d a i =
    let e = with_type h.file.name (h.file.spelled n.from) t d in
    let z = type_lasts N P l h.file.name (h.file.spelled n.from) t d a i in
    let later = declare h.file.number n (entity.Subtype e.number) e.draft in
    literals_last N P l h.file.number e.number 0 ls later (declare_lasts N P l h.file.number n (entity.Subtype e.number) e.draft z.0 z.1) (there_in e.draft.world later.world (stays e.draft.world) e.number z.1)
definition_lasts N P l h n ls Unknown d a i = a
definition_lasts N P l h n ls (Refused f) d a i = a

named_lasts : (N : ℕ → Type 0) (P : World → Type 0) (l : Lasting N P) (h : Home) (n : Span) (m : Option Subtype) (d : Draft) → P d.world → IfSome m (IsWhole d.world) → P (with_subtype_of h n m d).world
named_lasts N P l h n None d a i = a
named_lasts N P l h n (Some s) d a i =
    let name = Some (h.file.spelled n.from) in
    let later = with_subtype name s d in
    let z = added_there N P l name s d a (whole_in d.world later.world (one_grows d.world s) s i) in
    declare_lasts N P l h.file.number n (entity.Subtype (next_subtype d)) later z.0.1 z.1

pub indication_lasts : (N : ℕ → Type 0) (P : World → Type 0) (l : Lasting N P) (h : Home) (n : Span) (x : Found Noted) (d : Draft) → P d.world → IfIs (NotedThere d.world) x → P (with_indication h n x d).world
indication_lasts N P l h n (Is s) d a i = named_lasts N P l h n (noted_subtype d.world s) d a (noted_whole d.world s (l.sound d.world a) i)
indication_lasts N P l h n Unknown d a i = a
indication_lasts N P l h n (Refused f) d a i = a

-- ---- objects, of a subtype that stands in the world

globals_last : (N : ℕ → Type 0) (P : World → Type 0) (l : Lasting N P) (h : Home) (k : ℕ) (v : Option Value) (ss : List Span) (d : Draft) → P d.world → IsThere d.world k → P (with_globals h k v ss d).world
globals_last N P l h k v [] d a t = a
globals_last N P l h k v (s ∷ ss) d a t =
    let g = rank h.globals (spot_of h.file s) in
    let e = entity.Object k (object.Global g) access.Variable in
    let with_value = record d { globals = changed_at g (λ x. record x { subtype = k; initial = v }) d.globals } in
    let later = with_global h k v s g d in
    globals_last N P l h k v ss later (declare_lasts N P l h.file.number s e with_value a t) (there_in d.world later.world (stays d.world) k t)

settled_lasts : (N : ℕ → Type 0) (P : World → Type 0) (l : Lasting N P) (h : Home) (k : ℕ) (v : Value) (ss : List Span) (d : Draft) → P d.world → IsThere d.world k → P (with_settled h k v ss d).world
settled_lasts N P l h k (value.Int n) ss d a t = static_lasts N P l h.file.number ss k n d a t
settled_lasts N P l h k (value.Bool b) ss d a t = static_lasts N P l h.file.number ss k (bit b) d a t
settled_lasts N P l h k v ss d a t =
    let later = in_world (λ w. record w { constants = w.constants ++ v ∷ [] }) d in
    constant_lasts N P l h.file.number ss k (length d.world.constants) later (l.constant d.world v a)
    (record { subtype = there_in d.world later.world (stays d.world) k t; value = v; is = get_last d.world.constants v })

of_package_lasts : (N : ℕ → Type 0) (P : World → Type 0) (l : Lasting N P) (h : Home) (b : Bool) (ss : List Span) (k : ℕ) (v : Option Value) (d : Draft) → P d.world → IsThere d.world k → P (of_package h b ss k v d).world
of_package_lasts N P l h false ss k v d a t = globals_last N P l h k v ss d a t
of_package_lasts N P l h true ss k (Some v) d a t = settled_lasts N P l h k v ss d a t
of_package_lasts N P l h true ss k None d a t = a

constant_enters : (N : ℕ → Type 0) (w : World) (k n : ℕ) (m : Option ℤ) → IsThere w k → Enters N w (constant_as k n m)
constant_enters N w k n (Some v) t = t
constant_enters N w k n None t = t

local_enters : (N : ℕ → Type 0) (w : World) (b : Bool) (k n : ℕ) (v : Option (Fitted Expr)) → IsThere w k → Enters N w (local_as b k n v)
local_enters N w false k n v t = t
local_enters N w true k n None t = tt
local_enters N w true k n (Some f) t = constant_enters N w k n (number_in f.value) t

locals_last : (N : ℕ → Type 0) (P : World → Type 0) (l : Lasting N P) (h : Home) (b : Bool) (k : ℕ) (v : Option (Fitted Expr)) (ss : List Span) (d : Draft) → P d.world → IsThere d.world k → P (with_locals h b k v ss d).world
locals_last N P l h b k v [] d a t = a
locals_last N P l h b k v (s ∷ ss) d a t =
    let n = length d.locals in
    let with_value = record d { locals = d.locals ++ record { name = h.file.spelled s.from; subtype = k; constant = b } ∷ []; opening = d.opening ++ opening_of (place_at h s) n v } in
    let later = with_local h b k v s n d in
    locals_last N P l h b k v ss later (declare_lasts N P l h.file.number s (local_as b k n v) with_value a (local_enters N d.world b k n v t)) (there_in d.world later.world (stays d.world) k t)

-- a value is found for a subtype only that is found
abbrev Where : {A : Type 0} → World → ℕ → A → Type 0
Where w k v = IsThere w k

objects_last : (N : ℕ → Type 0) (P : World → Type 0) (l : Lasting N P) (h : Home) (b : Bool) (ss : List Span) (k : ℕ) (x : Found (Option (Fitted Expr))) (d : Draft) → P d.world → IfIs (Where d.world k) x → P (with_objects h b ss k x d).world
objects_last N P l h b ss k (Is v) d a t = locals_last N P l h b k v ss d a t
objects_last N P l h b ss k Unknown d a t = a
objects_last N P l h b ss k (Refused f) d a t = a

package_objects_last : (N : ℕ → Type 0) (P : World → Type 0) (l : Lasting N P) (h : Home) (b : Bool) (ss : List Span) (k : ℕ) (x : Found (Option Value)) (d : Draft) → P d.world → IfIs (Where d.world k) x → P (with_package_objects h b ss k x d).world
package_objects_last N P l h b ss k (Is v) d a t = of_package_lasts N P l h b ss k v d a t
package_objects_last N P l h b ss k Unknown d a t = a
package_objects_last N P l h b ss k (Refused f) d a t = a

always : {A : Type 0} (w : World) (k : ℕ) (x : Found A) → IsThere w k → IfIs (Where w k) x
always w k (Refused f) t = tt
always w k Unknown t = tt
always w k (Is v) t = t

then_where : {A : Type 0} {B : Type 0} (w : World) (k : ℕ) (x : Found A) (f : A → Found B) → IfIs (Where w k) x → IfIs (Where w k) (found_then x f)
then_where w k (Refused g) f t = tt
then_where w k Unknown f t = tt
then_where w k (Is v) f t = always w k (f v) t

object_entered_lasts : (N : ℕ → Type 0) (P : World → Type 0) (l : Lasting N P) (h : Home) (own : Option ℕ) (b : Bool) (ss : List Span) (v : Option tree.Expr) (x : Found (Option (Fitted Expr))) (e : Entered)
    → P e.draft.world → IfIs (Where e.draft.world e.number) x → P (object_entered h own b ss v x e).world
object_entered_lasts N P l h (Some q) b ss v x e a t = objects_last N P l h b ss e.number x e.draft a t
object_entered_lasts N P l h None b ss v x e a t =
    let f = settled_value (present h e.draft) v in package_objects_last N P l h b ss e.number (found_then x f) e.draft a (then_where e.draft.world e.number x f t)

entered_by_lasts : (N : ℕ → Type 0) (P : World → Type 0) (l : Lasting N P) (x : Found Noted) (d : Draft) → P d.world → IfIs (NotedThere d.world) x → P (entered_by x d).draft.world
entered_by_lasts N P l (Is n) d a i = (entered_there N P l n d a i).0.1
entered_by_lasts N P l Unknown d a i = a
entered_by_lasts N P l (Refused f) d a i = a

entered_where : (N : ℕ → Type 0) (P : World → Type 0) (l : Lasting N P) (x : Found Noted) (d : Draft) → P d.world → IfIs (NotedThere d.world) x → IfIs (Where (entered_by x d).draft.world (entered_by x d).number) x
entered_where N P l (Is n) d a i = (entered_there N P l n d a i).1
entered_where N P l Unknown d a i = tt
entered_where N P l (Refused f) d a i = tt

value_where : (w : World) (k : ℕ) (x : Found Noted) (y : Found (Option (Fitted Expr))) → IfIs (Where w k) x → IfIs (Where w k) (both (λ m f. f) x y)
value_where w k x y t = both_has (λ m. IsThere w k) Any (λ f. IsThere w k) (λ m f. f) x y t (anything y) (λ m f i j. i)

number_lasts : (N : ℕ → Type 0) (P : World → Type 0) (l : Lasting N P) (h : Home) (ss : List Span) (x : Found ℤ) (d : Draft) → P d.world → P (with_number h ss x d).world
number_lasts N P l h ss (Is n) d a = numbers_last N P l h.file.number ss n d a
number_lasts N P l h ss Unknown d a = a
number_lasts N P l h ss (Refused f) d a = a

number_declared_lasts : (N : ℕ → Type 0) (P : World → Type 0) (l : Lasting N P) (h : Home) (ss : List Span) (v : Option tree.Expr) (d : Draft) → P d.world → P (number_declared h ss v d).world
number_declared_lasts N P l h ss None d a = a
number_declared_lasts N P l h ss (Some e) d a = number_lasts N P l h ss (part (present h d) want.Free e (named_number d.world (place_of (present h d) e))) d a

-- where an object's value is read
pub value_lasts : (N : ℕ → Type 0) (P : World → Type 0) (l : Lasting N P) (h : Home) (p : Place) (s : tree.SubInd) (d : Draft) → P d.world → P (entered_by (object_subtype (present h d) p s) d).draft.world
value_lasts N P l h p s d a = entered_by_lasts N P l (object_subtype (present h d) p s) d a (object_noted (present h d) p s (l.sound d.world a))

object_as_lasts : (N : ℕ → Type 0) (P : World → Type 0) (l : Lasting N P) (h : Home) (p : Place) (ss : List Span) (b : Bool) (s : Option tree.SubInd) (v : Option tree.Expr) (d : Draft) → P d.world → P (object_declared_as h p ss b s v d).world
object_as_lasts N P l h p ss b None v d a = number_declared_lasts N P l h ss v d a
object_as_lasts N P l h p ss b (Some s) v d a =
    let n = object_subtype (present h d) p s in
    let e = entered_by n d in
    object_entered_lasts N P l h h.own b ss v (object_value h p b v n e) e (value_lasts N P l h p s d a)
    (value_where e.draft.world e.number n (initial (present h e.draft) p b (wanted n e.number) e.number v) (entered_where N P l n d a (object_noted (present h d) p s (l.sound d.world a))))

pub object_lasts : (N : ℕ → Type 0) (P : World → Type 0) (l : Lasting N P) (h : Home) (p : Place) (ss : List Span) (o : tree.Object) (d : Draft) → P d.world → P (object_declared h p ss o d).world
object_lasts N P l h p ss o d a = object_as_lasts N P l h p ss o.constant o.subtype o.value d a

-- ---- profiles

params_later : (N : ℕ → Type 0) (P : World → Type 0) (l : Lasting N P) (h : Home) (q : ℕ) (m : typed.Mode) (k : ℕ) (ss : List Span) (i : ℕ) (d : Draft) → P d.world → IsThere d.world k → Later P d.world (with_params h q m k ss i d).world
params_later N P l h q m k [] i d a t = (stays d.world, a)
params_later N P l h q m k (s ∷ ss) i d a t =
    let with_sub = record d { subs = changed_at q (λ x. record x { params = x.params ++ record { name = h.file.spelled s.from; mode = m; subtype = k } ∷ [] }) d.subs } in
    let formed = in_world (λ w. record w { formals = w.formals ++ record { name = h.file.name s.from; mode = m; subtype = k } ∷ [] }) with_sub in
    let later = with_param h q m k s i d in
    params_later N P l h q m k ss (suc i) later
    (declare_lasts N P l h.file.number s (entity.Object k (object.Param i) (access_of m)) formed (l.formal d.world (record { name = h.file.name s.from; mode = m; subtype = k }) a t) (there_in d.world formed.world (stays d.world) k t))
    (there_in d.world later.world (stays d.world) k t)

formals_later : (N : ℕ → Type 0) (P : World → Type 0) (l : Lasting N P) (h : Home) (q : ℕ) (fs : List Formals) (i : ℕ) (d : Draft) → P d.world → All (FormalThere d.world) fs → Later P d.world (with_formals h q fs i d).world
formals_later N P l h q [] i d a t = (stays d.world, a)
formals_later N P l h q (f ∷ fs) i d a t =
    let later = with_params h q f.mode f.subtype f.names i d in
    let x = params_later N P l h q f.mode f.subtype f.names i d a (All-head (FormalThere d.world) f fs t) in
    let y = formals_later N P l h q fs (i + length f.names) later x.1 (All-weaker (FormalThere d.world) (FormalThere later.world) (λ g z. there_in d.world later.world x.0 g.subtype z) fs (All-tail (FormalThere d.world) f fs t)) in
    (grows_on d.world later.world (with_formals h q fs (i + length f.names) later).world x.0 y.0, y.1)

routine_lasts : (N : ℕ → Type 0) (P : World → Type 0) (l : Lasting N P) (h : Home) (q : ℕ) (s : Span) (first : ℕ) (r : Option ℕ) (d : Draft) → N q → P d.world → ResultThere d.world r → P (with_routine h q s first r d).world
routine_lasts N P l h q s first r d i a t =
    let with_sub = record d { subs = changed_at q (λ x. record x { result = r }) d.subs } in
    let formed = in_world (λ w. record w { routines = changed_at q (λ x. record { first = first; count = length w.formals - first; result = r }) w.routines }) with_sub in
    declare_lasts N P l h.file.number s (entity.Routine q) formed (l.routine d.world q (λ x. record { first = first; count = length d.world.formals - first; result = r }) a (λ x. t)) i

pub with_profile_lasts : (N : ℕ → Type 0) (P : World → Type 0) (l : Lasting N P) (h : Home) (q : ℕ) (s : Span) (x : Found Profile) (d : Draft) → N q → P d.world → IfIs (ProfileThere d.world) x → P (with_profile h q s x d).world
with_profile_lasts N P l h q s (Is p) d i a t =
    let later = with_formals h q p.formals 0 d in
    let x = formals_later N P l h q p.formals 0 d a t.formals in
    routine_lasts N P l h q s (length d.world.formals) p.result later i x.1 (result_in d.world later.world x.0 p.result t.result)
with_profile_lasts N P l h q s Unknown d i a t = a
with_profile_lasts N P l h q s (Refused f) d i a t = a

-- ---- pragmas

pub opening_lasts : (P : World → Type 0) (x : Found Stmt) (d : Draft) → P d.world → P (with_opening x d).world
opening_lasts P (Is s) d a = a
opening_lasts P Unknown d a = a
opening_lasts P (Refused f) d a = a
