-- What lasts while declarations are read: that the world is sound, and with it that what identifiers stand for is there.
use Rattle.std.proofs.Common.{◌≡◌, refl, ap, ◌∙◌, subst, ℕ, zero, suc, arith, Bool, true, false, ◌==◌, List, [], ◌∷◌, ◌++◌, slice_get, Some, length, sym, ◌<◌}
use Rattle.std.specs.Prelude.{if◌then◌else◌, nat_lt}
use Rattle.ada_values.specs.declared.values.Value.{Value}
use Rattle.name_library.specs.declared.links.Link.{Link}
use Rattle.name_library.specs.declared.links.Link.TheVariants as link
use Rattle.name_library.specs.declared.links.Spot.{Spot}
use Rattle.type_base.specs.declared.entities.Entity.{Entity}
use Rattle.type_base.specs.declared.entities.Entity.TheVariants as entity
use Rattle.type_base.specs.declared.entities.Meaning.{Meaning}
use Rattle.type_base.specs.declared.world.Component.{Component}
use Rattle.type_base.specs.declared.world.Formal.{Formal}
use Rattle.type_base.specs.declared.world.Routine.{Routine}
use Rattle.type_base.specs.declared.world.Subtype.{Subtype}
use Rattle.type_base.specs.declared.world.World.{World}
use Rattle.type_base.specs.Lookups.{constant_at, entity_at, meaning_in, meaning_of, with_entity, with_in_file, with_meaning}
use Rattle.type_base.specs.Standard.{linked, predefined}
use Rattle.statement_typing.specs.Objects.{changed_at}
use Rattle.typing_laws.specs.Declared.{IsSound, IsThere, IsWhole, ResultThere, RoutineThere}
use Rattle.declared_worlds.specs.Stated.{AllStated, StatedOrUnknown}
use Rattle.declared_worlds.proofs.Numbering.{AnyNumber}
use Rattle.declared_worlds.proofs.Growing.{Grows, component_sound, constant_sound, entity_sound, formal_sound, get_more, one_grows, one_sound, routine_sound, stays, there_in, with_one}

-- an identifier's meaning: what stands in the world, or a subprogram of whose number N holds
abbrev pub Enters : (ℕ → Type 0) → World → Entity → Type 0
Enters N w (entity.Routine q) = N q
Enters N w e = StatedOrUnknown w e

-- what holds of a sound world and of all that declarations make of it whose subprograms' numbers N holds of
pub record Lasting (N : ℕ → Type 0) (P : World → Type 0) : Type 0 where
  pub sound : (w : World) → P w → IsSound w
  pub subtype : (w : World) (s : Subtype) → P w → IsWhole (with_one w s) s → P (with_one w s)
  pub component : (w : World) (c : Component) → P w → IsThere w c.subtype → P (record w { components = w.components ++ c ∷ [] })
  pub formal : (w : World) (f : Formal) → P w → IsThere w f.subtype → P (record w { formals = w.formals ++ f ∷ [] })
  pub routine : (w : World) (n : ℕ) (f : Routine → Routine) → P w → ((r : Routine) → ResultThere w (f r).result) → P (record w { routines = changed_at n f w.routines })
  pub constant : (w : World) (v : Value) → P w → P (record w { constants = w.constants ++ v ∷ [] })
  pub entity : (w : World) (s : Spot) (e : Entity) → P w → Enters N w e → P (with_entity w s e)

pub sound_lasts : Lasting AnyNumber IsSound
sound_lasts = record {
  sound = λ w a. a;
  subtype = one_sound;
  component = component_sound;
  formal = formal_sound;
  routine = routine_sound;
  constant = constant_sound;
  entity = λ w s e a h. entity_sound w s e a;
}

-- ---- what identifiers stand for

-- each constant keeps its number
abbrev Recalls : World → World → Type 0
Recalls w v = (n : ℕ) (x : Value) → constant_at w n ≡ Some x → constant_at v n ≡ Some x

stated_in : (w v : World) → Grows w v → Recalls w v → (e : Entity) → StatedOrUnknown w e → StatedOrUnknown v e
stated_in w v g r entity.Unknown h = tt
stated_in w v g r entity.Package h = tt
stated_in w v g r (entity.Subtype k) h = there_in w v g k h
stated_in w v g r (entity.Routine q) h = tt
stated_in w v g r (entity.Number n) h = tt
stated_in w v g r (entity.Literal k n) h = there_in w v g k h
stated_in w v g r (entity.Static k n) h = there_in w v g k h
stated_in w v g r (entity.Constant k n) h = record { subtype = there_in w v g k h.subtype; value = h.value; is = r n h.value h.is }
stated_in w v g r (entity.Object k o a) h = there_in w v g k h

same_number : (t u : ℕ) → (t == u) ≡ true → t ≡ u
same_number t u e = grind arith

else_more : (P : Entity → Type 0) (c : Bool) (x y z : Entity) → P (if c then x else y) → (P y → P z) → P (if c then x else z)
else_more P true x y z h i = h
else_more P false x y z h i = i h

-- one that took another's place
dropped : (P : Entity → Type 0) (m : Meaning) (ms : List Meaning) (at b : ℕ) → (at == b) ≡ false → P (meaning_in (m ∷ ms) b) → (c : Bool) → (m.at == at) ≡ c → P (meaning_in (if c then ms else m ∷ ms) b)
dropped P m ms at b n h true e =
    subst (λ (c : Bool). P (if c then m.entity else meaning_in ms b)) (ap (λ (j : ℕ). j == b) (same_number m.at at e) ∙ n) h
dropped P m ms at b n h false e = h

placed : (P : Entity → Type 0) (e : Entity) → P e → (m : Meaning) (ms : List Meaning) (at b : ℕ) → P (meaning_in (m ∷ ms) b) → (c : Bool) → (at == b) ≡ c → P (if c then e else meaning_in (if m.at == at then ms else m ∷ ms) b)
placed P e p m ms at b h true n = p
placed P e p m ms at b h false n = dropped P m ms at b n h (m.at == at) refl

inserted : (P : Entity → Type 0) (e : Entity) → P e → (m : Meaning) (ms : List Meaning) (at b : ℕ) → P (meaning_in (m ∷ ms) b) → (P (meaning_in ms b) → P (meaning_in (with_meaning ms at e) b)) → (c : Bool)
    → P (meaning_in (if c then m ∷ with_meaning ms at e else record { at = at; entity = e } ∷ (if m.at == at then ms else m ∷ ms)) b)
inserted P e p m ms at b h i true = else_more P (m.at == b) m.entity (meaning_in ms b) (meaning_in (with_meaning ms at e) b) h i
inserted P e p m ms at b h i false = placed P e p m ms at b h (at == b) refl

either_entity : (P : Entity → Type 0) (c : Bool) (x y : Entity) → P x → P y → P (if c then x else y)
either_entity P true x y h i = h
either_entity P false x y h i = i

-- of a file's identifiers with one more, each stands for that one's, or for what it did
meaning_either : (P : Entity → Type 0) (e : Entity) → P e → (ms : List Meaning) (at b : ℕ) → P (meaning_in ms b) → P (meaning_in (with_meaning ms at e) b)
meaning_either P e p [] at b h = either_entity P (at == b) e entity.Unknown p h
meaning_either P e p (m ∷ ms) at b h = inserted P e p m ms at b h (meaning_either P e p ms at b) (nat_lt m.at at)

file_either : (P : Entity → Type 0) (e : Entity) → P e → P entity.Unknown → (files : List (List Meaning)) (f at g b : ℕ) → P (meaning_of (slice_get files g) b) → P (meaning_of (slice_get (with_in_file files f at e) g) b)
file_either P e p u [] zero at zero b h = meaning_either P e p [] at b u
file_either P e p u [] zero at (suc g) b h = u
file_either P e p u [] (suc f) at zero b h = u
file_either P e p u [] (suc f) at (suc g) b h = file_either P e p u [] f at g b u
file_either P e p u (ms ∷ files) zero at zero b h = meaning_either P e p ms at b h
file_either P e p u (ms ∷ files) zero at (suc g) b h = h
file_either P e p u (ms ∷ files) (suc f) at zero b h = h
file_either P e p u (ms ∷ files) (suc f) at (suc g) b h = file_either P e p u files f at g b h

-- ---- sound worlds with what identifiers stand for

abbrev pub IsSettled : World → Type 0
IsSettled w = IsSound w × AllStated w

-- where the identifiers stand for what they did
settled_in : (w v : World) → Grows w v → Recalls w v → AllStated w → (s : Spot) → StatedOrUnknown v (entity_at w s)
settled_in w v g r h s = stated_in w v g r (entity_at w s) (h (link.Declared s))

all_in : (w v : World) → Grows w v → Recalls w v → AllStated w → ((s : Spot) → StatedOrUnknown v (entity_at v s)) → AllStated v
all_in w v g r h i (link.Declared s) = i s
all_in w v g r h i (link.Predefined n) = stated_in w v g r (predefined n) (h (link.Predefined n))

-- with the same identifiers
kept_in : (w v : World) → Grows w v → Recalls w v → AllStated w → ((s : Spot) → entity_at w s ≡ entity_at v s) → AllStated v
kept_in w v g r h e = all_in w v g r h (λ s. subst (λ (x : Entity). StatedOrUnknown v x) (e s) (settled_in w v g r h s))

same_identifiers : (w : World) (s : Spot) → entity_at w s ≡ entity_at w s
same_identifiers w s = refl

recalled : (w : World) → Recalls w w
recalled w n x e = e

any_stated : (w : World) (e : Entity) → Enters AnyNumber w e → StatedOrUnknown w e
any_stated w entity.Unknown h = tt
any_stated w entity.Package h = tt
any_stated w (entity.Subtype k) h = h
any_stated w (entity.Routine q) h = tt
any_stated w (entity.Number n) h = tt
any_stated w (entity.Literal k n) h = h
any_stated w (entity.Static k n) h = h
any_stated w (entity.Constant k n) h = h
any_stated w (entity.Object k o a) h = h

pub settled_lasts : Lasting AnyNumber IsSettled
settled_lasts = record {
  sound = λ w a. a.0;
  subtype = λ w s a h. (one_sound w s a.0 h, kept_in w (with_one w s) (one_grows w s) (recalled w) a.1 (same_identifiers w));
  component = λ w c a h. (component_sound w c a.0 h, kept_in w (record w { components = w.components ++ c ∷ [] }) (stays w) (recalled w) a.1 (same_identifiers w));
  formal = λ w f a h. (formal_sound w f a.0 h, kept_in w (record w { formals = w.formals ++ f ∷ [] }) (stays w) (recalled w) a.1 (same_identifiers w));
  routine = λ w n f a h. (routine_sound w n f a.0 h, kept_in w (record w { routines = changed_at n f w.routines }) (stays w) (recalled w) a.1 (same_identifiers w));
  constant = λ w v a. (constant_sound w v a.0, kept_in w (record w { constants = w.constants ++ v ∷ [] }) (stays w) (λ n x e. get_more w.constants (v ∷ []) n x e) a.1 (same_identifiers w));
  entity = λ w s e a h.
      let v = with_entity w s e in (
        entity_sound w s e a.0,
        all_in w v (stays w) (recalled w) a.1
            (λ t. file_either (StatedOrUnknown v) e (stated_in w v (stays w) (recalled w) e (any_stated w e h)) tt w.entities s.file s.at t.file t.at (settled_in w v (stays w) (recalled w) a.1 t)),
      );
}

-- ---- sound worlds with so many subprograms, of which each identifier that stands for a subprogram stands for one

abbrev pub IsBelow : ℕ → Entity → Type 0
IsBelow m (entity.Routine q) = q < m
IsBelow m _ = Unit {0}

abbrev pub AllBelow : ℕ → World → Type 0
AllBelow m w = (l : Link) → IsBelow m (linked w l)

pub record IsCounted (m : ℕ) (w : World) : Type 0 where
  pub sound : IsSound w
  pub count : length w.routines ≡ m
  pub below : AllBelow m w

below_in : (m : ℕ) (w v : World) → AllBelow m w → ((s : Spot) → IsBelow m (entity_at v s)) → AllBelow m v
below_in m w v h i (link.Declared s) = i s
below_in m w v h i (link.Predefined n) = h (link.Predefined n)

declared_below : (m : ℕ) (w : World) → AllBelow m w → (s : Spot) → IsBelow m (entity_at w s)
declared_below m w h s = h (link.Declared s)

entity_below : (m : ℕ) (w : World) (e : Entity) → Enters (λ q. q < m) w e → IsBelow m e
entity_below m w entity.Unknown h = tt
entity_below m w entity.Package h = tt
entity_below m w (entity.Subtype k) h = tt
entity_below m w (entity.Routine q) h = h
entity_below m w (entity.Number n) h = tt
entity_below m w (entity.Literal k n) h = tt
entity_below m w (entity.Static k n) h = tt
entity_below m w (entity.Constant k n) h = tt
entity_below m w (entity.Object k o a) h = tt

as_many : {A : Type 0} (n : ℕ) (f : A → A) (xs : List A) → length (changed_at n f xs) ≡ length xs
as_many zero f [] = refl
as_many (suc n) f [] = refl
as_many zero f (x ∷ xs) = refl
as_many (suc n) f (x ∷ xs) = ap suc (as_many n f xs)

pub counted_lasts : (m : ℕ) → Lasting (λ q. q < m) (IsCounted m)
counted_lasts m = record {
  sound = λ w a. a.sound;
  subtype = λ w s a h. record { sound = one_sound w s a.sound h; count = a.count; below = below_in m w (with_one w s) a.below (declared_below m w a.below) };
  component = λ w c a h.
      let v = record w { components = w.components ++ c ∷ [] } in
      record { sound = component_sound w c a.sound h; count = a.count; below = below_in m w v a.below (declared_below m w a.below) };
  formal = λ w f a h.
      let v = record w { formals = w.formals ++ f ∷ [] } in
      record { sound = formal_sound w f a.sound h; count = a.count; below = below_in m w v a.below (declared_below m w a.below) };
  routine = λ w n f a h.
      let v = record w { routines = changed_at n f w.routines } in
      record { sound = routine_sound w n f a.sound h; count = as_many n f w.routines ∙ a.count; below = below_in m w v a.below (declared_below m w a.below) };
  constant = λ w x a.
      let v = record w { constants = w.constants ++ x ∷ [] } in
      record { sound = constant_sound w x a.sound; count = a.count; below = below_in m w v a.below (declared_below m w a.below) };
  entity = λ w s e a h.
      let v = with_entity w s e in
      record {
        sound = entity_sound w s e a.sound;
        count = a.count;
        below = below_in m w v a.below (λ t. file_either (IsBelow m) e (entity_below m w e h) tt w.entities s.file s.at t.file t.at (declared_below m w a.below t));
      };
}

-- what a list has at a place within it
record Gets {A : Type 0} (xs : List A) (k : ℕ) : Type 0 where
  item : A
  is : slice_get xs k ≡ Some item

get_within : {A : Type 0} (xs : List A) (k : ℕ) → k < length xs → Gets xs k
get_within [] k h = absurd (omega arith)
get_within (x ∷ xs) zero h = record { item = x; is = refl }
get_within (x ∷ xs) (suc k) h = let z = get_within xs k (omega arith) in record { item = z.item; is = z.is }

below_is : (m q : ℕ) (e : Entity) → e ≡ entity.Routine q → IsBelow m e → q < m
below_is m q e h i = subst (λ (x : Entity). IsBelow m x) h i

pub counted_there : (m : ℕ) (w : World) → IsCounted m w → (l : Link) (q : ℕ) → linked w l ≡ entity.Routine q → RoutineThere w q
counted_there m w a l q h =
    let z = get_within w.routines q (subst (λ (n : ℕ). q < n) (sym a.count) (below_is m q (linked w l) h (a.below l))) in
    record { routine = z.item; is = z.is }
