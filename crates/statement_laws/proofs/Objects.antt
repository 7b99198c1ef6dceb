-- What is told of a declaration of objects.
use Rattle.std.proofs.Common.{◌≡◌, refl, sym, ◌∙◌, ap, subst, Bool, true, false, List, [], ◌∷◌, ◌++◌, append-nil, length, Option, Some, None}
use Rattle.std.specs.Prelude.{ℕ, slice_get}
use Rattle.ada_values.specs.declared.place.Place.{Place}
use Rattle.ada_values.specs.declared.values.Value.{Value}
use Rattle.front_codes.specs.declared.codes.Code.TheVariants.{L8}
use Rattle.front_codes.specs.declared.codes.Refusal.{Refusal}
use Rattle.typed_units.specs.declared.expressions.Expr.{Expr}
use Rattle.typed_units.specs.declared.expressions.Fitted.{Fitted}
use Rattle.type_base.proofs.Firsts.{first_both, merge}
use Rattle.type_base.specs.declared.seen.Seen.{Seen}
use Rattle.type_base.specs.declared.seen.Seen.TheVariants as seen'
use Rattle.type_base.specs.declared.seen.Want.TheVariants as want
use Rattle.type_base.specs.declared.world.World.{World}
use Rattle.type_base.specs.Lookups.{type_at, type_in}
use Rattle.type_base.specs.Scope.{Scope}
use Rattle.syntax_view.specs.Trees as tree
use Rattle.typing_rules.specs.Fits.{both, fit_as, found_fault, found_then, with_found}
use Rattle.typing_rules.specs.Reading.{seen}
use Rattle.typing_rules.specs.declared.prefix.Found.{Found}
use Rattle.typing_rules.specs.declared.prefix.Found.TheVariants.{Refused, Unknown, Is}
use Rattle.statement_typing.specs.declared.draft.Draft.{Draft}
use Rattle.statement_typing.specs.Asked.{place_of}
use Rattle.statement_typing.specs.Checks.{fault_after}
use Rattle.statement_typing.specs.Drafts.{next_subtype}
use Rattle.statement_typing.specs.Files.{Home}
use Rattle.statement_typing.specs.Objects.{entered_by, initial, initial_faults, object_faults_as, object_subtype, object_subtype_faults, object_value, present, settled_faults, settled_value, wanted}
use Rattle.statement_typing.specs.declared.parts.Noted.{Noted}
use Rattle.typing_laws.proofs.Merging.{first_after, first_as, first_in}
use Rattle.statement_laws.proofs.Telling.{Told, told_both, told_then}
use Rattle.statement_laws.proofs.Definitions.{initial_told, object_subtype_told}

-- nothing is demanded of the value itself in a subprogram
no_settling : (own : Option ℕ) (q : ℕ) (c : Scope) (v : Option tree.Expr) (f : Found (Option (Fitted Expr))) → own ≡ Some q → settled_faults own c v f ≡ []
no_settling own q c v f e = ap (λ (z : Option ℕ). settled_faults z c v f) e

alone_is : (fs gs : List Refusal) → gs ≡ [] → fs ≡ fs ++ gs
alone_is fs gs e = sym (ap (λ (z : List Refusal). fs ++ z) e ∙ append-nil fs)

-- objects of a subprogram
pub local_told : (h : Home) (q : ℕ) → h.own ≡ Some q → (p : Place) (b : Bool) (s : tree.SubInd) (v : Option tree.Expr) (d : Draft)
    → Told (object_value h p b v (object_subtype (present h d) p s) (entered_by (object_subtype (present h d) p s) d)) (object_faults_as h p b (Some s) v d)
local_told h q own p b s v d =
    let n = object_subtype (present h d) p s in
    let e = entered_by n d in
    let c = present h e.draft in
    let is = initial_faults c p b (wanted n e.number) e.number v in
    let x = initial c p b (wanted n e.number) e.number v in
    first_in (found_fault (object_value h p b v n e)) (object_subtype_faults (present h d) p s ++ is) (object_faults_as h p b (Some s) v d)
    (ap (λ (z : List Refusal). object_subtype_faults (present h d) p s ++ z) (alone_is is (settled_faults h.own c v x) (no_settling h.own q c v x own)))
    (told_both (λ m f. f) n x (object_subtype_faults (present h d) p s) is (object_subtype_told (present h d) p s) (initial_told c p b (wanted n e.number) e.number v))

-- ---- objects of a package, whose value is to be settled

past : {X : Type 0} → (xs : List X) → slice_get xs (length xs) ≡ None
past [] = refl
past (x ∷ xs) = past xs

-- no value is of the subtype that stands for one that is refused
never_by : (w : World) (k : ℕ) (p : Place) (s : Seen) (g : Option (Fitted Expr) → Found (Option Value))
    → found_fault (found_then (with_found Some (fit_as w L8 true k p None s)) g) ≡ found_fault (with_found Some (fit_as w L8 true k p None s))
never_by w k p (seen'.Refused f) g = refl
never_by w k p seen'.Unknown g = refl
never_by w k p (seen'.Number n) g = refl
never_by w k p (seen'.Typed t x) g = refl

never_settled : (w : World) (k : ℕ) (p : Place) (t : Option ℕ) (s : Seen) (g : Option (Fitted Expr) → Found (Option Value)) → t ≡ None
    → found_fault (found_then (with_found Some (fit_as w L8 true k p t s)) g) ≡ found_fault (with_found Some (fit_as w L8 true k p t s))
never_settled w k p t s g e =
    subst (λ (z : Option ℕ). found_fault (found_then (with_found Some (fit_as w L8 true k p z s)) g) ≡ found_fault (with_found Some (fit_as w L8 true k p z s))) (sym e)
    (never_by w k p s g)

unsettled : (h : Home) (p : Place) (b : Bool) (v : Option tree.Expr) (d : Draft)
    → found_fault (found_then (initial (present h d) p b want.Unknown (next_subtype d) v) (settled_value (present h d) v)) ≡ found_fault (initial (present h d) p b want.Unknown (next_subtype d) v)
unsettled h p true None d = refl
unsettled h p false None d = refl
unsettled h p true (Some e) d =
    never_settled d.world (next_subtype d) (place_of (present h d) e) (type_at d.world (next_subtype d)) (seen (present h d) want.Unknown e) (settled_value (present h d) (Some e))
    (ap type_in (past d.world.subtypes))
unsettled h p false (Some e) d =
    never_settled d.world (next_subtype d) (place_of (present h d) e) (type_at d.world (next_subtype d)) (seen (present h d) want.Unknown e) (settled_value (present h d) (Some e))
    (ap type_in (past d.world.subtypes))

-- where the subtype isn't found, nothing is demanded of the value
abbrev Settles : Found Noted → Found (Option (Fitted Expr)) → (Option (Fitted Expr) → Found (Option Value)) → Type 0
Settles (Is m) x g = Unit {0}
Settles Unknown x g = found_fault (found_then x g) ≡ found_fault x
Settles (Refused f) x g = found_fault (found_then x g) ≡ found_fault x

settles : (h : Home) (p : Place) (b : Bool) (v : Option tree.Expr) (d : Draft) (n : Found Noted)
    → Settles n (initial (present h (entered_by n d).draft) p b (wanted n (entered_by n d).number) (entered_by n d).number v) (settled_value (present h (entered_by n d).draft) v)
settles h p b v d (Is m) = tt
settles h p b v d Unknown = unsettled h p b v d
settles h p b v d (Refused f) = unsettled h p b v d

found_is : (m : Noted) (x : Found (Option (Fitted Expr))) (g : Option (Fitted Expr) → Found (Option Value)) → found_fault (found_then (both (λ n f. f) (Is m) x) g) ≡ found_fault (found_then x g)
found_is m (Refused f) g = refl
found_is m Unknown g = refl
found_is m (Is y) g = refl

unknown_is : (x : Found (Option (Fitted Expr))) (g : Option (Fitted Expr) → Found (Option Value)) → found_fault (found_then (both (λ (n : Noted) f. f) Unknown x) g) ≡ found_fault x
unknown_is (Refused f) g = refl
unknown_is Unknown g = refl
unknown_is (Is y) g = refl

refused_is : (r : Refusal) (x : Found (Option (Fitted Expr))) (g : Option (Fitted Expr) → Found (Option Value)) → found_fault (found_then (both (λ (n : Noted) f. f) (Refused r) x) g) ≡ merge (Some r) (found_fault x)
refused_is r (Refused f) g = refl
refused_is r Unknown g = refl
refused_is r (Is y) g = refl

package_by : (n : Found Noted) (x : Found (Option (Fitted Expr))) (g : Option (Fitted Expr) → Found (Option Value)) (fs gs : List Refusal)
    → Told n fs → Told x gs → Settles n x g → Told (found_then (both (λ m f. f) n x) g) (fs ++ (gs ++ fault_after x (found_then x g)))
package_by (Is m) x g fs gs h i j =
    let ls = gs ++ fault_after x (found_then x g) in
    first_as (found_fault (found_then (both (λ n f. f) (Is m) x) g)) (found_fault (found_then x g)) (fs ++ ls) (found_is m x g)
    (first_after (found_fault (found_then x g)) fs ls h (told_then x g gs i))
package_by Unknown x g fs gs h i j =
    let ls = gs ++ fault_after x (found_then x g) in
    first_as (found_fault (found_then (both (λ (n : Noted) f. f) Unknown x) g)) (found_fault (found_then x g)) (fs ++ ls) (unknown_is x g ∙ sym j)
    (first_after (found_fault (found_then x g)) fs ls h (told_then x g gs i))
package_by (Refused r) x g fs gs h i j =
    let ls = gs ++ fault_after x (found_then x g) in
    first_as (found_fault (found_then (both (λ (n : Noted) f. f) (Refused r) x) g)) (merge (Some r) (found_fault (found_then x g))) (fs ++ ls)
    (refused_is r x g ∙ ap (merge (Some r)) (sym j))
    (first_both (Some r) (found_fault (found_then x g)) fs ls h (told_then x g gs i))

settling : (own : Option ℕ) (c : Scope) (v : Option tree.Expr) (f : Found (Option (Fitted Expr))) → own ≡ None → settled_faults own c v f ≡ fault_after f (found_then f (settled_value c v))
settling own c v f e = ap (λ (z : Option ℕ). settled_faults z c v f) e

pub package_told : (h : Home) → h.own ≡ None → (p : Place) (b : Bool) (s : tree.SubInd) (v : Option tree.Expr) (d : Draft)
    → Told (found_then (object_value h p b v (object_subtype (present h d) p s) (entered_by (object_subtype (present h d) p s) d))
    (settled_value (present h (entered_by (object_subtype (present h d) p s) d).draft) v)) (object_faults_as h p b (Some s) v d)
package_told h own p b s v d =
    let n = object_subtype (present h d) p s in
    let e = entered_by n d in
    let c = present h e.draft in
    let gs = initial_faults c p b (wanted n e.number) e.number v in
    let x = initial c p b (wanted n e.number) e.number v in
    let fs = object_subtype_faults (present h d) p s in
    first_in (found_fault (found_then (object_value h p b v n e) (settled_value c v))) (fs ++ (gs ++ fault_after x (found_then x (settled_value c v)))) (object_faults_as h p b (Some s) v d)
    (ap (λ (z : List Refusal). fs ++ (gs ++ z)) (sym (settling h.own c v x own)))
    (package_by n x (settled_value c v) fs gs (object_subtype_told (present h d) p s) (initial_told c p b (wanted n e.number) e.number v) (settles h p b v d n))
