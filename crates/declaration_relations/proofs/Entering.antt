-- Objects, pragmas and headings that are accepted obey the rules of declarations.
use Rattle.std.proofs.Common.{◌≡◌, refl, sym, ap, ◌∙◌, subst, ℕ, Bool, true, false, Option, Some, None, List, [], ◌∷◌, map}
use Rattle.ada_values.specs.declared.place.Place.{Place}
use Rattle.ada_values.specs.declared.values.Value.{Value}
use Rattle.ada_text.specs.declared.token.Span.{Span}
use Rattle.front_codes.specs.declared.codes.Code.{Code}
use Rattle.front_codes.specs.declared.codes.Code.TheVariants as code
use Rattle.front_codes.specs.declared.codes.Refusal.{Refusal}
use Rattle.name_numbers.specs.declared.words.Word.{Word}
use Rattle.name_numbers.specs.declared.words.Word.TheVariants as word
use Rattle.syntax_view.specs.Trees as tree
use Rattle.typed_units.specs.declared.expressions.Expr.{Expr}
use Rattle.typed_units.specs.declared.expressions.Fitted.{Fitted}
use Rattle.typed_units.specs.declared.statements.Stmt.{roll-Stmt}
use Rattle.type_base.specs.Demands.{broken}
use Rattle.type_base.specs.declared.seen.Want.TheVariants as want
use Rattle.type_base.specs.declared.world.World.{World}
use Rattle.typing_rules.specs.declared.prefix.Found.{Found}
use Rattle.typing_rules.specs.declared.prefix.Found.TheVariants as found
use Rattle.typing_rules.specs.Fits.{both, found_then, with_found, with_refused, with_unknown}
use Rattle.statement_typing.specs.declared.draft.Draft.{Draft}
use Rattle.statement_typing.specs.declared.parts.Noted.{Noted}
use Rattle.statement_typing.specs.declared.parts.Stated.{Stated}
use Rattle.statement_typing.specs.declared.parts.Stated.TheVariants.{Nothing}
use Rattle.statement_typing.specs.Asked.{place_of}
use Rattle.statement_typing.specs.Aspects.{aspect_number, aspects_faults, aspects_found, may_stand, stated, with_aspects}
use Rattle.statement_typing.specs.Checks.{added, all_of, all_onto, unless}
use Rattle.statement_typing.specs.Drafts.{entered}
use Rattle.statement_typing.specs.Files.{Home, place_at}
use Rattle.statement_typing.specs.Objects.{changed_at, entered_by, initial, named_number, number_declared, number_faults, object_declared, object_declared_as, object_entered, object_faults_as, object_subtype, object_value, present, settled_value, wanted, with_number, with_package_objects}
use Rattle.statement_typing.specs.Routines.{profile, profile_faults, with_profile}
use Rattle.statement_typing.specs.Statements.{nothing, pragma_by, pragma_faults, stmt_at}
use Rattle.statement_typing.specs.Subtypes.{part, part_faults}
use Rattle.statement_typing.specs.Units.{around, contract_home, contract_indexes, heading_declared, heading_faults, pragma_declared, pragma_declared_faults, with_opening}
use Rattle.statement_laws.proofs.Acting.{pragma_told}
use Rattle.statement_laws.proofs.Definitions.{named_told, profile_told}
use Rattle.statement_laws.proofs.Demands.{aspects_told}
use Rattle.statement_laws.proofs.Objects.{local_told, package_told}
use Rattle.typing_relations.proofs.Accepting.{Finds, found_as}
use Rattle.statement_relations.proofs.Doing.{statement_obeys}
use Rattle.declaration_relations.specs.Declares as rule
use Rattle.declaration_relations.specs.Declares.{Declares, DeclaresFirst, DeclaresObjects, with_all_stated}
use Rattle.declaration_relations.specs.Found.{AllFound, HeadingFound, NumberFound, ObjectFound, PragmaFound, ValueFound}
use Rattle.known_statements.specs.Declared.{IsFound}
use Rattle.declaration_relations.specs.Indicates.{IsInteger, IsWhole}
use Rattle.declaration_relations.specs.Profiles.{HasProfile}
use Rattle.declaration_relations.specs.States.{AllState}
use Rattle.declaration_relations.specs.Values.{Settles, Starts}
use Rattle.declaration_relations.proofs.Indicating.{whole_finds}
use Rattle.declaration_relations.proofs.Keeping.{all_are, found_is, left_empty, right_empty}
use Rattle.declaration_relations.proofs.Profiling.{profile_finds}
use Rattle.declaration_relations.proofs.Ranging.{named_finds}
use Rattle.declaration_relations.proofs.Stating.{aspects_are}
use Rattle.declaration_relations.proofs.Valuing.{settles_finds, starts_finds}

-- ---- named numbers

number_declares : (h : Home) (ns : List Span) (o : tree.Object) (d : Draft) → o.subtype ≡ None → (v : Option tree.Expr) → o.value ≡ v → number_faults h v d ≡ [] → NumberFound h v d
    → DeclaresObjects h ns o d (number_declared h ns v d)
number_declares h ns o d s None e z i = absurd i
number_declares h ns o d s (Some v) e z i =
    let c = present h d in
    let x = part c want.Free v (named_number d.world (place_of c v)) in
    let t = found_is x (part_faults c want.Free v (named_number d.world (place_of c v))) (named_told c v) z i in
    subst (λ y. DeclaresObjects h ns o d (with_number h ns y d)) (sym t.is) (rule.named_numbers v t.this s e (found_as (IsInteger c v) x t.this t.is (named_finds c (place_of c v) v)))

-- ---- objects

kept : {A : Type 0} → (x : Found A) (a : A) → with_found (λ f. f) x ≡ found.Is a → x ≡ found.Is a
kept (found.Refused f) a e = cc
kept found.Unknown a e = cc
kept (found.Is b) a e = e

no_unknown : {A : Type 0} → {B : Type 0} → (x : Found A) (a : A) → with_unknown x ≡ found.Is a → B
no_unknown (found.Refused f) a e = cc
no_unknown found.Unknown a e = cc
no_unknown (found.Is b) a e = cc

no_refused : {A : Type 0} → {B : Type 0} → (f : Refusal) (x : Found A) (a : A) → with_refused f x ≡ found.Is a → B
no_refused f (found.Refused g) a e = cc
no_refused f found.Unknown a e = cc
no_refused f (found.Is b) a e = cc

local_objects : (h : Home) (q : ℕ) (ns : List Span) (o : tree.Object) (d : Draft) (p : Place) (i : tree.SubInd) → h.own ≡ Some q → o.subtype ≡ Some i → (n : Found Noted) → Finds n (IsWhole (present h d) i) → (f : Option (Fitted Expr))
    → object_value h p o.constant o.value n (entered_by n d) ≡ found.Is f → DeclaresObjects h ns o d (object_entered h (Some q) o.constant ns o.value (found.Is f) (entered_by n d))
local_objects h q ns o d p i own s (found.Is m) w f e =
    let c = present h (entered m d).draft in
    let k = (entered m d).number in
    let x = initial c p o.constant (want.Subtype k) k o.value in
    rule.in_body q i m f own s w (found_as (Starts c o.constant k o.value) x f (kept x f e) (starts_finds c p o.constant k o.value))
local_objects h q ns o d p i own s found.Unknown w f e =
    let b = entered_by found.Unknown d in
    no_unknown (initial (present h b.draft) p o.constant (wanted found.Unknown b.number) b.number o.value) f e
local_objects h q ns o d p i own s (found.Refused g) w f e =
    let b = entered_by (found.Refused g) d in
    no_refused g (initial (present h b.draft) p o.constant (wanted (found.Refused g) b.number) b.number o.value) f e

package_objects : (h : Home) (ns : List Span) (o : tree.Object) (d : Draft) (p : Place) (i : tree.SubInd) → h.own ≡ None → o.subtype ≡ Some i → (n : Found Noted) → Finds n (IsWhole (present h d) i) → (f : Option (Fitted Expr)) (v : Option Value)
    → object_value h p o.constant o.value n (entered_by n d) ≡ found.Is f → settled_value (present h (entered_by n d).draft) o.value f ≡ found.Is v
    → DeclaresObjects h ns o d (with_package_objects h o.constant ns (entered_by n d).number (found.Is v) (entered_by n d).draft)
package_objects h ns o d p i own s (found.Is m) w f v e j =
    let c = present h (entered m d).draft in
    let k = (entered m d).number in
    let x = initial c p o.constant (want.Subtype k) k o.value in
    rule.in_package i m f v own s w (found_as (Starts c o.constant k o.value) x f (kept x f e) (starts_finds c p o.constant k o.value))
    (found_as (Settles f) (settled_value c o.value f) v j (settles_finds c p o.constant k o.value f (kept x f e)))
package_objects h ns o d p i own s found.Unknown w f v e j =
    let b = entered_by found.Unknown d in
    no_unknown (initial (present h b.draft) p o.constant (wanted found.Unknown b.number) b.number o.value) f e
package_objects h ns o d p i own s (found.Refused g) w f v e j =
    let b = entered_by (found.Refused g) d in
    no_refused g (initial (present h b.draft) p o.constant (wanted (found.Refused g) b.number) b.number o.value) f e

-- both of two parts, the latter of which is found of the former
record ThenIs {A : Type 0} {B : Type 0} (x : Found A) (f : A → Found B) (b : B) : Type 0 where
  pub first : A
  pub is_first : x ≡ found.Is first
  pub is : f first ≡ found.Is b

then_is : {A : Type 0} → {B : Type 0} → (x : Found A) (f : A → Found B) (b : B) → found_then x f ≡ found.Is b → ThenIs x f b
then_is (found.Refused g) f b e = cc
then_is found.Unknown f b e = cc
then_is (found.Is a) f b e = record { first = a; is_first = refl; is = e }

objects_by : (h : Home) (ns : List Span) (o : tree.Object) (d : Draft) (p : Place) (i : tree.SubInd) → o.subtype ≡ Some i → (own : Option ℕ) → h.own ≡ own → object_faults_as h p o.constant (Some i) o.value d ≡ []
    → ValueFound own h p o.constant o.value (object_subtype (present h d) p i) (entered_by (object_subtype (present h d) p i) d)
    → DeclaresObjects h ns o d (object_entered h own o.constant ns o.value (object_value h p o.constant o.value (object_subtype (present h d) p i) (entered_by (object_subtype (present h d) p i) d)) (entered_by (object_subtype (present h d) p i) d))
objects_by h ns o d p i s (Some q) own z j =
    let n = object_subtype (present h d) p i in
    let x = object_value h p o.constant o.value n (entered_by n d) in
    let t = found_is x (object_faults_as h p o.constant (Some i) o.value d) (local_told h q own p o.constant i o.value d) z j in
    subst (λ y. DeclaresObjects h ns o d (object_entered h (Some q) o.constant ns o.value y (entered_by n d))) (sym t.is)
    (local_objects h q ns o d p i own s n (whole_finds (present h d) code.L27 p i) t.this t.is)
objects_by h ns o d p i s None own z j =
    let n = object_subtype (present h d) p i in
    let x = object_value h p o.constant o.value n (entered_by n d) in
    let g = settled_value (present h (entered_by n d).draft) o.value in
    let t = found_is (found_then x g) (object_faults_as h p o.constant (Some i) o.value d) (package_told h own p o.constant i o.value d) z j in
    let both' = then_is x g t.this t.is in
    subst (λ y. DeclaresObjects h ns o d (with_package_objects h o.constant ns (entered_by n d).number y (entered_by n d).draft)) (sym t.is)
    (package_objects h ns o d p i own s n (whole_finds (present h d) code.L27 p i) both'.first t.this both'.is_first both'.is)

objects_as : (h : Home) (ns : List Span) (o : tree.Object) (d : Draft) (p : Place) (s : Option tree.SubInd) → o.subtype ≡ s → object_faults_as h p o.constant s o.value d ≡ [] → ObjectFound h p o.constant s o.value d
    → DeclaresObjects h ns o d (object_declared_as h p ns o.constant s o.value d)
objects_as h ns o d p None e z i = number_declares h ns o d e o.value refl z i
objects_as h ns o d p (Some s) e z i = objects_by h ns o d p s e h.own refl z i

pub objects_declare : (h : Home) (ns : List Span) (o : tree.Object) (d : Draft) (p : Place) → object_faults_as h p o.constant o.subtype o.value d ≡ [] → ObjectFound h p o.constant o.subtype o.value d
    → DeclaresObjects h ns o d (object_declared h p ns o d)
objects_declare h ns o d p z i = objects_as h ns o d p o.subtype refl z i

-- ---- pragmas

pub pragma_declares : (h : Home) (s : Span) (q : tree.Pragma) (d : Draft) (own : Option ℕ) → h.own ≡ own → pragma_declared_faults h own (place_at h s) q d ≡ [] → PragmaFound own h (place_at h s) q d
    → Declares h (tree.declaration s (tree.pragma_decl q)) d (pragma_declared h own (place_at h s) q d)
pragma_declares h s q d None own z i = rule.pragma_in_package h s q d own
pragma_declares h s q d (Some n) own z i =
    let a = around h nothing d.world in
    let p = place_at h s in
    let w = h.file.word q.name.from in
    let t = found_is (pragma_by a p w q.args) (pragma_faults a p w q.args) (pragma_told a p w q.args) z i in
    let x = roll-Stmt (record { place = p; action = t.this }) in
    subst (λ y. Declares h (tree.declaration s (tree.pragma_decl q)) d (with_opening (stmt_at p y) d)) (sym t.is)
    (rule.pragma_in_body h n s q d x own (statement_obeys a (tree.statement s (tree.pragma_stmt q)) x (ap (stmt_at p) t.is)))

-- ---- lists of aspects

added_found : {A : Type 0} → (done : Found (List A)) (x : Found A) → IsFound done → IsFound x → IsFound (added done x)
added_found (found.Refused f) (found.Refused g) h i = tt
added_found (found.Refused f) found.Unknown h i = tt
added_found (found.Refused f) (found.Is a) h i = tt
added_found found.Unknown x h i = absurd h
added_found (found.Is l) (found.Refused g) h i = tt
added_found (found.Is l) found.Unknown h i = i
added_found (found.Is l) (found.Is a) h i = tt

all_onto_found : {A : Type 0} → (done : Found (List A)) (xs : List (Found A)) → IsFound done → AllFound xs → IsFound (all_onto done xs)
all_onto_found done [] h i = h
all_onto_found done (x ∷ xs) h i = all_onto_found (added done x) xs (added_found done x h i.0) i.1

pub record AspectsAre (h : Home) (w : World) (first : Bool) (as' : List tree.Aspect) : Type 0 where
  pub stated : List Stated
  pub are : aspects_found h w first [] as' ≡ map found.Is stated
  pub state : AllState h w first [] as' stated

pub aspects_accepted : (h : Home) (w : World) (first : Bool) (as' : List tree.Aspect) → aspects_faults h w first [] as' ≡ [] → AllFound (aspects_found h w first [] as') → AspectsAre h w first as'
aspects_accepted h w first as' z i =
    let xs = aspects_found h w first [] as' in
    let t = found_is (all_of xs) (aspects_faults h w first [] as') (aspects_told h w first [] as') z (all_onto_found (found.Is []) xs tt i) in
    let are = found_as (λ ys. xs ≡ map found.Is ys) (all_of xs) t.this t.is (all_are xs) in
    record { stated = t.this; are = are; state = aspects_are h w first [] as' t.this are }

-- another spelling has no contract, so that nothing of it is unknown
refused_found : {A : Type 0} → (B : Type 0) (f : Refusal) (x : Found A) → IsFound (with_refused {B = B} f x)
refused_found B f (found.Refused g) = tt
refused_found B f found.Unknown = tt
refused_found B f (found.Is a) = tt

either_found : (b : Bool) (r : Code) (p : Place) (x : Stated) → IsFound (both (λ u s. s) (unless b r p true) (found.Is x))
either_found true r p x = tt
either_found false r p x = tt

later_found : (h : Home) (w : World) (ns : List ℕ) (p q : Place) (o : Option Word) (v : Option tree.Item) → IsFound (both (λ u s. s) (unless (may_stand false ns (aspect_number o)) code.L28 p true) (stated h w q o v))
later_found h w ns p q (Some word.Pre) v = refused_found Stated (broken code.L28 p) (stated h w q (Some word.Pre) v)
later_found h w ns p q (Some word.Post) v = refused_found Stated (broken code.L28 p) (stated h w q (Some word.Post) v)
later_found h w ns p q (Some word.Global) v = refused_found Stated (broken code.L28 p) (stated h w q (Some word.Global) v)
later_found h w ns p q o v = either_found (may_stand false ns 0) code.L28 p Nothing

pub again_found : (h : Home) (w : World) (ns : List ℕ) (as' : List tree.Aspect) → AllFound (aspects_found h w false ns as')
again_found h w ns [] = tt
again_found h w ns (a ∷ as') =
    (later_found h w ns (place_at h a.span) (place_at h a.name) (h.file.word a.name.from) a.value, again_found h w (aspect_number (h.file.word a.name.from) ∷ ns) as')

-- ---- headings

aspects_enter : (q : ℕ) (xs : List Stated) (d : Draft) → with_aspects q (map found.Is xs) d ≡ with_all_stated q xs d
aspects_enter q [] d = refl
aspects_enter q (x ∷ xs) d = aspects_enter q xs _

pub heading_declares : (h : Home) (q : ℕ) (s : tree.Heading) (d : Draft) → heading_faults h q s d ≡ [] → HeadingFound h q s d → DeclaresFirst h q s d (heading_declared h q s d)
heading_declares h q s d z i =
    let c = contract_home h q s in
    let x = profile (present c d) s in
    let e = with_profile h q s.name x d in
    let fs = profile_faults (present c d) s in
    let gs = aspects_faults c e.world true [] s.aspects in
    let t = found_is x fs (profile_told (present c d) s) (left_empty fs gs z) i.0 in
    let as' = aspects_accepted c e.world true s.aspects (right_empty fs gs z) i.1 in
    let has = found_as (HasProfile (present c d) s) x t.this t.is (profile_finds (present c d) s) in
    let put : with_aspects q (aspects_found c e.world true [] s.aspects) e ≡ with_all_stated q as'.stated e = ap (λ l. with_aspects q l e) as'.are ∙ aspects_enter q as'.stated e in
    subst (λ (y : Draft). DeclaresFirst h q s d (record e { subs = changed_at q (contract_indexes h s) y.subs })) (sym put)
    (rule.declares_first t.this e as'.stated has (ap (λ y. with_profile h q s.name y d) t.is) as'.state)
