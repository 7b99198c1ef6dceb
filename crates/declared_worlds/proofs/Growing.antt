-- Worlds that grow: what stands in a world stands in a later one, and a sound world stays sound.
use Rattle.std.proofs.Common.{◌≡◌, refl, sym, ◌∙◌, ap, subst, ℕ, zero, suc, List, [], ◌∷◌, ◌++◌, length, slice_get, Option, Some, None}
use Rattle.ada_values.specs.declared.values.Value.{Value}
use Rattle.name_library.specs.declared.links.Spot.{Spot}
use Rattle.type_base.specs.declared.entities.Entity.{Entity}
use Rattle.type_base.specs.declared.world.Component.{Component}
use Rattle.type_base.specs.declared.world.Discrete.TheVariants as discrete
use Rattle.type_base.specs.declared.world.Form.{Form}
use Rattle.type_base.specs.declared.world.Form.TheVariants as form
use Rattle.type_base.specs.declared.world.Formal.{Formal}
use Rattle.type_base.specs.declared.world.Routine.{Routine}
use Rattle.type_base.specs.declared.world.Subtype.{Subtype}
use Rattle.type_base.specs.declared.world.World.{World}
use Rattle.type_base.specs.Lookups.{form_at, form_in, routine_at, subtype_at, with_entity}
use Rattle.type_base.specs.Standard.{boolean, integer_base}
use Rattle.expression_rules.specs.Known.{HasStandard}
use Rattle.statement_typing.specs.Objects.{changed_at}
use Rattle.typing_laws.specs.Declared.{ComponentsThere, FormalsThere, IsSound, IsThere, IsWhole, PartsThere, ResultThere}
use Rattle.typing_laws.proofs.Standing.{form_there, no_some}

-- ---- lists

abbrev or_else : {A : Type 0} → A → Option A → A
or_else a (Some b) = b
or_else a None = a

pub same_some : {A : Type 0} (a b : A) → Some a ≡ Some b → a ≡ b
same_some a b e = ap (or_else a) e

pub get_more : {A : Type 0} (xs ys : List A) (k : ℕ) (a : A) → slice_get xs k ≡ Some a → slice_get (xs ++ ys) k ≡ Some a
get_more [] ys k a e = no_some a e
get_more (x ∷ xs) ys zero a e = e
get_more (x ∷ xs) ys (suc k) a e = get_more xs ys k a e

pub get_last : {A : Type 0} (xs : List A) (a : A) → slice_get (xs ++ a ∷ []) (length xs) ≡ Some a
get_last [] a = refl
get_last (x ∷ xs) a = get_last xs a

pub get_next : {A : Type 0} (xs : List A) (a b : A) → slice_get ((xs ++ a ∷ []) ++ b ∷ []) (suc (length xs)) ≡ Some b
get_next [] a b = refl
get_next (x ∷ xs) a b = get_next xs a b

get_each : {A : Type 0} (P : A → Type 0) (xs : List A) (a : A) → ((k : ℕ) (x : A) → slice_get xs k ≡ Some x → P x) → P a → (k : ℕ) (x : A) → slice_get (xs ++ a ∷ []) k ≡ Some x → P x
get_each P [] a h p zero x e = subst P (same_some a x e) p
get_each P [] a h p (suc k) x e = no_some x e
get_each P (y ∷ ys) a h p zero x e = h 0 x e
get_each P (y ∷ ys) a h p (suc k) x e = get_each P ys a (λ j z f. h (suc j) z f) p k x e

changed_each : {A : Type 0} (P : A → Type 0) (n : ℕ) (f : A → A) → ((a : A) → P (f a)) → (xs : List A) → ((k : ℕ) (x : A) → slice_get xs k ≡ Some x → P x) → (k : ℕ) (x : A) → slice_get (changed_at n f xs) k ≡ Some x → P x
changed_each P zero f p [] h k x e = no_some x e
changed_each P (suc n) f p [] h k x e = no_some x e
changed_each P zero f p (y ∷ ys) h zero x e = subst P (same_some (f y) x e) (p y)
changed_each P zero f p (y ∷ ys) h (suc k) x e = h (suc k) x e
changed_each P (suc n) f p (y ∷ ys) h zero x e = h 0 x e
changed_each P (suc n) f p (y ∷ ys) h (suc k) x e = changed_each P n f p ys (λ j z g. h (suc j) z g) k x e

-- ---- what stands in a later world

-- each subtype keeps its number
abbrev pub Grows : World → World → Type 0
Grows w v = (k : ℕ) (s : Subtype) → subtype_at w k ≡ Some s → subtype_at v k ≡ Some s

abbrev pub stays : (w : World) → Grows w w
stays w k s e = e

abbrev pub grows_on : (u v w : World) → Grows u v → Grows v w → Grows u w
grows_on u v w g h k s e = h k s (g k s e)

abbrev pub there_in : (w v : World) → Grows w v → (k : ℕ) → IsThere w k → IsThere v k
there_in w v g k h = record { subtype = h.subtype; is = g k h.subtype h.is }

pub parts_in : (w v : World) → Grows w v → (f : Form) → PartsThere w f → PartsThere v f
parts_in w v g (form.Array i b t) h = (there_in w v g i h.0, there_in w v g t h.1)
parts_in w v g (form.Number d s) h = tt
parts_in w v g form.Truth h = tt
parts_in w v g (form.Record i n) h = tt

pub whole_in : (w v : World) → Grows w v → (s : Subtype) → IsWhole w s → IsWhole v s
whole_in w v g s h = record { type = there_in w v g s.of h.type; sort = h.sort; parts = parts_in w v g s.form h.parts }

components_in : (w v : World) → Grows w v → (cs : List Component) → ComponentsThere w cs → ComponentsThere v cs
components_in w v g [] h = tt
components_in w v g (c ∷ cs) h = (there_in w v g c.subtype h.0, components_in w v g cs h.1)

formals_in : (w v : World) → Grows w v → (fs : List Formal) → FormalsThere w fs → FormalsThere v fs
formals_in w v g [] h = tt
formals_in w v g (f ∷ fs) h = (there_in w v g f.subtype h.0, formals_in w v g fs h.1)

pub result_in : (w v : World) → Grows w v → (k : Option ℕ) → ResultThere w k → ResultThere v k
result_in w v g None h = tt
result_in w v g (Some k) h = there_in w v g k h

form_keeps : (w v : World) → Grows w v → (k : ℕ) (f : Form) → form_at w k ≡ Some f → form_at v k ≡ Some f
form_keeps w v g k f e =
    let h = form_there w k f e in
    ap form_in (g k h.subtype h.is) ∙ sym (ap form_in h.is) ∙ e

standard_in : (w v : World) → Grows w v → HasStandard w → HasStandard v
standard_in w v g h = record {
  truth = form_keeps w v g boolean form.Truth h.truth;
  integer = h.integer;
  integer_is = form_keeps w v g integer_base (form.Number discrete.Signed h.integer) h.integer_is;
}

-- ---- a subtype more

abbrev pub with_one : World → Subtype → World
with_one w s = record w { subtypes = w.subtypes ++ s ∷ [] }

pub one_grows : (w : World) (s : Subtype) → Grows w (with_one w s)
one_grows w s k z e = get_more w.subtypes (s ∷ []) k z e

pub one_there : (w : World) (s : Subtype) → IsThere (with_one w s) (length w.subtypes)
one_there w s = record { subtype = s; is = get_last w.subtypes s }

pub one_sound : (w : World) (s : Subtype) → IsSound w → IsWhole (with_one w s) s → IsSound (with_one w s)
one_sound w s a h =
    let v = with_one w s in
    let g = one_grows w s in
    record {
      standard = standard_in w v g a.standard;
      subtypes = get_each (λ z. IsWhole v z) w.subtypes s (λ k z e. whole_in w v g z (a.subtypes k z e)) h;
      components = components_in w v g w.components a.components;
      formals = formals_in w v g w.formals a.formals;
      results = λ q r e. result_in w v g r.result (a.results q r e);
    }

-- ---- what else is added, with the subtypes as they were

component_last : (w : World) (cs : List Component) (c : Component) → ComponentsThere w cs → IsThere w c.subtype → ComponentsThere w (cs ++ c ∷ [])
component_last w [] c h i = (i, tt)
component_last w (x ∷ xs) c h i = (h.0, component_last w xs c h.1 i)

formal_last : (w : World) (fs : List Formal) (f : Formal) → FormalsThere w fs → IsThere w f.subtype → FormalsThere w (fs ++ f ∷ [])
formal_last w [] f h i = (i, tt)
formal_last w (x ∷ xs) f h i = (h.0, formal_last w xs f h.1 i)

-- a world with the subtypes of another
pub resumed : (w v : World) → IsSound w → Grows w v → Grows v w → ComponentsThere w v.components → FormalsThere w v.formals → ((q : ℕ) (r : Routine) → routine_at v q ≡ Some r → ResultThere w r.result) → IsSound v
resumed w v a g b cs fs rs = record {
  standard = standard_in w v g a.standard;
  subtypes = λ k s e. whole_in w v g s (a.subtypes k s (b k s e));
  components = components_in w v g v.components cs;
  formals = formals_in w v g v.formals fs;
  results = λ q r e. result_in w v g r.result (rs q r e);
}

pub component_sound : (w : World) (c : Component) → IsSound w → IsThere w c.subtype → IsSound (record w { components = w.components ++ c ∷ [] })
component_sound w c a h = resumed w (record w { components = w.components ++ c ∷ [] }) a (stays w) (stays w) (component_last w w.components c a.components h) a.formals a.results

pub formal_sound : (w : World) (f : Formal) → IsSound w → IsThere w f.subtype → IsSound (record w { formals = w.formals ++ f ∷ [] })
formal_sound w f a h = resumed w (record w { formals = w.formals ++ f ∷ [] }) a (stays w) (stays w) a.components (formal_last w w.formals f a.formals h) a.results

pub routine_sound : (w : World) (n : ℕ) (f : Routine → Routine) → IsSound w → ((r : Routine) → ResultThere w (f r).result) → IsSound (record w { routines = changed_at n f w.routines })
routine_sound w n f a h =
    resumed w (record w { routines = changed_at n f w.routines }) a (stays w) (stays w) a.components a.formals (changed_each (λ r. ResultThere w r.result) n f h w.routines a.results)

pub constant_sound : (w : World) (v : Value) → IsSound w → IsSound (record w { constants = w.constants ++ v ∷ [] })
constant_sound w v a = resumed w (record w { constants = w.constants ++ v ∷ [] }) a (stays w) (stays w) a.components a.formals a.results

pub entity_sound : (w : World) (s : Spot) (e : Entity) → IsSound w → IsSound (with_entity w s e)
entity_sound w s e a = resumed w (with_entity w s e) a (stays w) (stays w) a.components a.formals a.results
