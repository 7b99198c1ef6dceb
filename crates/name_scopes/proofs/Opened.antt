-- The scopes of a state are those that the events open, with what the events declare in them.
use Rattle.std.proofs.Common.{◌≡◌, refl, sym, ap, subst, ℕ, Bool, true, false, List, [], ◌∷◌, ◌++◌, length, Option, Some, None, arith}
use Rattle.std.proofs.lemmas.Bool.Decides.{nat_tests}
use Rattle.std.specs.Prelude.{if◌then◌else◌, ◌==◌, is_some, not, slice_get}
use Rattle.name_library.specs.declared.events.Event.{Event}
use Rattle.name_library.specs.declared.events.Event.TheVariants as event
use Rattle.name_library.specs.declared.events.Ident.{Ident}
use Rattle.name_library.specs.declared.events.Kind.{Kind}
use Rattle.name_library.specs.declared.events.Kind.TheVariants as kind
use Rattle.name_library.specs.declared.events.Manner.{Manner}
use Rattle.name_library.specs.declared.events.Manner.TheVariants as manner
use Rattle.name_library.specs.declared.events.Scope.{Scope}
use Rattle.name_library.specs.declared.events.Scope.TheVariants as scope
use Rattle.name_library.specs.declared.library.LibraryUnit.{LibraryUnit}
use Rattle.name_library.specs.declared.links.Link.{Link}
use Rattle.name_library.specs.declared.links.Link.TheVariants.{Declared}
use Rattle.name_library.specs.declared.links.NameFault.{NameFault}
use Rattle.name_library.specs.declared.links.NameFault.TheVariants.{AmbiguousName, SpecMismatch, UnknownName}
use Rattle.name_library.specs.declared.links.Spot.{Spot}
use Rattle.name_library.specs.Library.{declaration_of, spot_of}
use Rattle.name_frames.specs.declared.entries.Entry.{Entry}
use Rattle.name_frames.specs.declared.entries.Sort.{Sort}
use Rattle.name_frames.specs.declared.entries.Sort.TheVariants as sort
use Rattle.name_frames.specs.declared.frames.Frame.{Frame}
use Rattle.name_frames.specs.declared.frames.Owner.{Owner}
use Rattle.name_frames.specs.declared.frames.Owner.TheVariants as owner
use Rattle.name_frames.specs.declared.meaning.Found.{Found}
use Rattle.name_frames.specs.declared.meaning.Found.TheVariants.{One, Missing, Several}
use Rattle.name_frames.specs.declared.profiles.Formal.{Formal}
use Rattle.name_frames.specs.declared.profiles.Profile.{Profile}
use Rattle.name_scopes.specs.declared.state.Late.{Late}
use Rattle.name_scopes.specs.declared.state.Scopes.{Scopes}
use Rattle.name_frames.specs.Entries.{body_entry, entry_of, with_body}
use Rattle.name_frames.specs.Frames.{innermost, named_as, package_named}
use Rattle.name_scopes.specs.Open.{IsAt, Item, Open, declare, declared_as, is_unit, item_added, item_named, item_of, new_open, nothing_open, open_after, open_step, opened, parameter_of, unit_of, without_innermost}
use Rattle.name_frames.specs.Profiles.{same_profile}
use Rattle.name_frames.specs.Meaning.{member}
use Rattle.name_scopes.specs.State.{all_ended, broken, closed, frames, linked, pushed, spot_in, start, with_name}
use Rattle.name_scopes.specs.Steps as steps

abbrev pub unit_owned : Owner → Option ℕ
unit_owned owner.Units = None
unit_owned (owner.Package n p) = Some n
unit_owned (owner.Subprogram n p q) = None
unit_owned owner.Block = None

abbrev pub EntryIs : Entry → Item → Type 0
EntryIs e i = (e.name ≡ i.name) × IsAt i.place e.spot

abbrev pub AllEntries : List Entry → List Item → Type 0
AllEntries [] [] = Unit {0}
AllEntries [] (i ∷ is) = ⊥
AllEntries (e ∷ es) [] = ⊥
AllEntries (e ∷ es) (i ∷ is) = EntryIs e i × AllEntries es is

abbrev pub NotNone : Option Item → Type 0
NotNone None = ⊥
NotNone (Some i) = Unit {0}

abbrev pub items_of : List Open → List Item
items_of [] = []
items_of (o ∷ os) = o.items

-- a subprogram whose scope hides its name is declared in the scope around
abbrev pub IsAround : Owner → Bool → List Open → Type 0
IsAround owner.Units b os = Unit {0}
IsAround (owner.Package n p) b os = Unit {0}
IsAround (owner.Subprogram n p q) true os = NotNone (item_named n (items_of os))
IsAround (owner.Subprogram n p q) false os = Unit {0}
IsAround owner.Block b os = Unit {0}

abbrev pub AllFrames : List Frame → List Open → Type 0
AllFrames [] [] = Unit {0}
AllFrames [] (o ∷ os) = ⊥
AllFrames (f ∷ fs) [] = ⊥
AllFrames (f ∷ fs) (o ∷ os) = (unit_owned f.owner ≡ o.unit) × AllEntries f.entries o.items × AllFrames fs os × IsAround f.owner f.hidden os

abbrev pub Scope_is : Owner → Bool → List Entry → List Frame → List Open → Type 0
Scope_is w h es fs [] = ⊥
Scope_is w h es fs (o ∷ os) = (unit_owned w ≡ o.unit) × AllEntries es o.items × AllFrames fs os × IsAround w h os

-- the scopes of a state are these
abbrev pub Matches : ℕ → Scopes → List Open → Type 0
Matches file s os = (s.findings.file ≡ file) × Scope_is s.top.owner s.top.hidden s.top.entries s.outer os

-- ---- the declarations of one scope

abbrev pub SameFound : Option Entry → Option Item → Type 0
SameFound None None = Unit {0}
SameFound None (Some i) = ⊥
SameFound (Some e) None = ⊥
SameFound (Some e) (Some i) = EntryIs e i

pub same_found : (n : ℕ) (es : List Entry) (is : List Item) → AllEntries es is → SameFound (entry_of n es) (item_named n is)
same_found n [] [] m = tt
same_found n [] (i ∷ is) m = absurd m
same_found n (e ∷ es) [] m = absurd m
same_found n (e ∷ es) (i ∷ is) m =
    let P : Bool → Type 0 = λ b. SameFound (if b then Some e else entry_of n es) (if b then Some i else item_named n is) in
    let both : P (e.name == n) = elim (e.name == n) as P [ true ↦ m.0 | false ↦ same_found n es is m.1 ] in
    let Q : ℕ → Type 0 = λ k. SameFound (if e.name == n then Some e else entry_of n es) (if k == n then Some i else item_named n is) in
    subst Q m.0.0 both

pub one_more : (es : List Entry) (is : List Item) (e : Entry) (i : Item) → AllEntries es is → EntryIs e i → AllEntries (es ++ e ∷ []) (is ++ i ∷ [])
one_more [] [] e i m h = (h, tt)
one_more [] (j ∷ is) e i m h = absurd m
one_more (d ∷ es) [] e i m h = absurd m
one_more (d ∷ es) (j ∷ is) e i m h = (m.0, one_more es is e i m.1 h)

pub with_its_body : (n k : ℕ) (es : List Entry) (is : List Item) → AllEntries es is → AllEntries (with_body n k es) is
with_its_body n k [] [] m = tt
with_its_body n k [] (i ∷ is) m = absurd m
with_its_body n k (e ∷ es) [] m = absurd m
with_its_body n k (e ∷ es) (i ∷ is) m =
    let P : Bool → Type 0 = λ b. AllEntries (if b then body_entry k e ∷ es else e ∷ with_body n k es) (i ∷ is) in
    elim (e.name == n) as P [ true ↦ m | false ↦ (m.0, with_its_body n k es is m.1) ]

same : (n : ℕ) → (n == n) ≡ true
same n = grind (arith, nat_tests)

added_found : (is : List Item) (i : Item) → NotNone (item_named i.name (is ++ i ∷ []))
added_found [] i = let P : Bool → Type 0 = λ b. NotNone (if b then Some i else None) in subst P (sym (same i.name)) tt
added_found (j ∷ is) i =
    let P : Bool → Type 0 = λ b. NotNone (if b then Some j else item_named i.name (is ++ i ∷ [])) in
    elim (j.name == i.name) as P [ true ↦ tt | false ↦ added_found is i ]

-- ---- declarations

abbrev new_entry : Ident → Spot → Sort → Scopes → Entry
new_entry i p t s = record { name = i.name; spot = p; sort = t; number = length s.top.entries }

entered_is : (file : ℕ) (i : Ident) (p : Spot) (t : Sort) (s : Scopes) (j : Item) (o : Open) (os : List Open) (x : Option Entry) (y : Option Item) → SameFound x y → i.name ≡ j.name → IsAt j.place p → Matches file s (o ∷ os) → Matches file (steps.entered i p t s x) (record { unit = o.unit; items = item_added j o.items y } ∷ os)
entered_is file i p t s j o os (Some e) (Some k) f n h m = m
entered_is file i p t s j o os (Some e) None f n h m = absurd f
entered_is file i p t s j o os None (Some k) f n h m = absurd f
entered_is file i p t s j o os None None f n h m = (m.0, (m.1.0, one_more s.top.entries o.items (new_entry i p t s) j m.1.1 (n, h), m.1.2, m.1.3))

pub enter_is : (file : ℕ) (i : Ident) (p : Spot) (t : Sort) (s : Scopes) (j : Item) (os : List Open) → i.name ≡ j.name → IsAt j.place p → Matches file s os → Matches file (steps.enter i p t s) (declare j os)
enter_is file i p t s j [] n h m = absurd m.1
enter_is file i p t s j (o ∷ os) n h m =
    let f : SameFound (entry_of i.name s.top.entries) (item_named j.name o.items) = subst (λ (k : ℕ). SameFound (entry_of i.name s.top.entries) (item_named k o.items)) n (same_found i.name s.top.entries o.items m.1.1) in
    entered_is file i p t s j o os (entry_of i.name s.top.entries) (item_named j.name o.items) f n h m

-- the place of an identifier in a file
spot_is : (file : ℕ) (s : Scopes) (i : Ident) → s.findings.file ≡ file → spot_in s i.at ≡ spot_of file i
spot_is file s i h = ap (λ (f : ℕ). spot_of f i) h

own_is : (file : ℕ) (i : Ident) (t : Sort) (s : Scopes) (os : List Open) → Matches file s os → Matches file (steps.enter i (spot_in s i.at) t s) (declare (item_of file i) os)
own_is file i t s os m = enter_is file i (spot_in s i.at) t s (item_of file i) os refl (spot_is file s i m.0) m

push_is : (file : ℕ) (w : Owner) (p : Option ℕ) (s : Scopes) (os : List Open) → IsAround w (not (is_some p)) os → Matches file s os → Matches file (pushed w p s) (new_open (unit_owned w) ∷ os)
push_is file w p s [] h m = absurd m.1
push_is file w p s (o ∷ os) h m = (m.0, (refl, tt, m.1, h))

parameter_is : (file : ℕ) (i : Ident) (s : Scopes) (d : Option Formal) (os : List Open) → Matches file s os → Matches file (steps.parameter i s d) (declare (parameter_of i) os)
parameter_is file i s (Some d) os m = enter_is file i d.spot sort.Plain (steps.begun i.name (spot_in s i.at) (linked i.at (Declared d.spot) s)) (parameter_of i) os refl tt m
parameter_is file i s None os m = enter_is file i (spot_in s i.at) sort.Plain (steps.begun i.name (spot_in s i.at) s) (parameter_of i) os refl tt m

declares_is : (file : ℕ) (k : Kind) (i : Ident) (s : Scopes) (os : List Open) → Matches file s os → Matches file (steps.declares k i s) (declare (declared_as file k i) os)
declares_is file kind.Parameter i s os m = parameter_is file i s (steps.first_formal i.name s) os m
declares_is file kind.Object i s os m = own_is file i sort.Plain s os m
declares_is file kind.NamedNumber i s os m = own_is file i sort.Plain s os m
declares_is file kind.Type i s os m = own_is file i sort.Plain s os m
declares_is file kind.Subtype i s os m = own_is file i sort.Plain s os m
declares_is file kind.Literal i s os m = own_is file i sort.Literal s os m
declares_is file kind.LoopParameter i s os m = own_is file i sort.Plain s os m
declares_is file kind.Index i s os m = own_is file i sort.Plain s os m
declares_is file kind.Component i s os m = own_is file i sort.Plain s os m

-- ---- scopes that open

package_is : (file : ℕ) (i : Ident) (s : Scopes) (os : List Open) → Matches file s os → Matches file (steps.package_opens i s) (new_open (Some i.name) ∷ declare (item_of file i) os)
package_is file i s os m = push_is file (owner.Package i.name (spot_in s i.at)) None (all_ended (steps.enter i (spot_in s i.at) sort.Package s)) (declare (item_of file i) os) tt (own_is file i sort.Package s os m)

body_is : (file : ℕ) (i : Ident) (s : Scopes) (w : Owner) (os : List Open) → Matches file s os → Matches file (steps.body_opens i s (package_named i.name w)) (if is_unit i.name (unit_owned w) then os else (new_open (Some i.name) ∷ declare (item_of file i) os))
body_is file i s owner.Units os m = package_is file i s os m
body_is file i s (owner.Package n p) os m =
    let P : Bool → Type 0 = λ b. Matches file (steps.body_opens i s (if b then Some p else None)) (if b then os else (new_open (Some i.name) ∷ declare (item_of file i) os)) in
    elim (n == i.name) as P [ true ↦ m | false ↦ package_is file i s os m ]
body_is file i s (owner.Subprogram n p q) os m = package_is file i s os m
body_is file i s owner.Block os m = package_is file i s os m

unit_is : (file : ℕ) (s : Scopes) (os : List Open) → Matches file s os → unit_owned s.top.owner ≡ unit_of os
unit_is file s [] m = absurd m.1
unit_is file s (o ∷ os) m = m.1.0

package_body_is : (file : ℕ) (i : Ident) (s : Scopes) (os : List Open) → Matches file s os → Matches file (steps.body_opens i s (package_named i.name s.top.owner)) (opened file (scope.PackageBody i) os)
package_body_is file i s os m =
    let P : Option ℕ → Type 0 = λ u. Matches file (steps.body_opens i s (package_named i.name s.top.owner)) (if is_unit i.name u then os else (new_open (Some i.name) ∷ declare (item_of file i) os)) in
    subst P (unit_is file s os m) (body_is file i s s.top.owner os m)

begins_is : (file : ℕ) (i : Ident) (s : Scopes) (os : List Open) → NotNone (item_named i.name (items_of os)) → Matches file s os → Matches file (steps.begins i s) (new_open None ∷ os)
begins_is file i s os h m = push_is file (owner.Subprogram i.name (spot_in s i.at) (spot_in s i.at)) None s os h m

completes_is : (file : ℕ) (i : Ident) (first : Spot) (k : ℕ) (s : Scopes) (os : List Open) → Matches file s os → Matches file (steps.completes i first k s) (new_open None ∷ os)
completes_is file i first k s [] m = absurd m.1
completes_is file i first k s (o ∷ os) m = (m.0, (refl, tt, (m.1.0, with_its_body i.name k s.top.entries o.items m.1.1, m.1.2, m.1.3), tt))

body_for_is : (file : ℕ) (i : Ident) (first : Spot) (s : Scopes) (t : Sort) (os : List Open) → NotNone (item_named i.name (items_of os)) → Matches file s os → Matches file (steps.body_for i first s t) (new_open None ∷ os)
body_for_is file i first s (sort.Subprogram false k) os h m = completes_is file i first k s os m
body_for_is file i first s (sort.Subprogram true k) os h m = begins_is file i (broken (steps.clash (sort.Subprogram true k) (sort.Subprogram false 0)) i.at s) os h m
body_for_is file i first s sort.Plain os h m = begins_is file i (broken (steps.clash sort.Plain (sort.Subprogram false 0)) i.at s) os h m
body_for_is file i first s sort.Literal os h m = begins_is file i (broken (steps.clash sort.Literal (sort.Subprogram false 0)) i.at s) os h m
body_for_is file i first s sort.Package os h m = begins_is file i (broken (steps.clash sort.Package (sort.Subprogram false 0)) i.at s) os h m

subprogram_by : (file : ℕ) (i : Ident) (b : Bool) (s : Scopes) (o : Open) (os : List Open) (x : Option Entry) (y : Option Item) → item_named i.name o.items ≡ y → SameFound x y → Matches file s (o ∷ os) → Matches file (steps.subprogram_opens i b s x) (new_open None ∷ record { unit = o.unit; items = item_added (item_of file i) o.items y } ∷ os)
subprogram_by file i b s o os None None e f m = (m.0, (refl, tt, (m.1.0, one_more s.top.entries o.items (new_entry i (spot_in s i.at) (sort.Subprogram b (length s.profiles)) s) (item_of file i) m.1.1 (refl, spot_is file s i m.0), m.1.2, m.1.3), added_found o.items (item_of file i)))
subprogram_by file i b s o os None (Some j) e f m = absurd f
subprogram_by file i b s o os (Some d) None e f m = absurd f
subprogram_by file i true s o os (Some d) (Some j) e f m = body_for_is file i d.spot s d.sort (o ∷ os) (subst NotNone (sym e) tt) m
subprogram_by file i false s o os (Some d) (Some j) e f m = begins_is file i (broken (steps.clash d.sort (sort.Subprogram false 0)) i.at s) (o ∷ os) (subst NotNone (sym e) tt) m

subprogram_is : (file : ℕ) (i : Ident) (b : Bool) (s : Scopes) (os : List Open) → Matches file s os → Matches file (steps.subprogram_opens i b s (entry_of i.name s.top.entries)) (new_open None ∷ declare (item_of file i) os)
subprogram_is file i b s [] m = absurd m.1
subprogram_is file i b s (o ∷ os) m = subprogram_by file i b s o os (entry_of i.name s.top.entries) (item_named i.name o.items) refl (same_found i.name s.top.entries o.items m.1.1) m

opens_is : (file : ℕ) (o : Scope) (s : Scopes) (os : List Open) → Matches file s os → Matches file (steps.opens o s) (opened file o os)
opens_is file (scope.Package i) s os m = package_is file i s os m
opens_is file (scope.PackageBody i) s os m = package_body_is file i s os m
opens_is file (scope.Subprogram i b) s os m = subprogram_is file i b s os m
opens_is file scope.Record s os m = push_is file owner.Block None s os tt m
opens_is file scope.Loop s os m = push_is file owner.Block None s os tt m
opens_is file scope.Quantified s os m = push_is file owner.Block None s os tt m

closed_is : (file : ℕ) (s : Scopes) (fs : List Frame) (o : Open) (os : List Open) → Matches file s (o ∷ os) → AllFrames fs os → Matches file (closed s fs) (without_innermost (o ∷ os))
closed_is file s [] o [] m a = m
closed_is file s [] o (p ∷ ps) m a = absurd a
closed_is file s (f ∷ fs) o [] m a = absurd a
closed_is file s (f ∷ fs) o (p ∷ ps) m a = (m.0, a)

closes_is : (file : ℕ) (s : Scopes) (os : List Open) → Matches file s os → Matches file (closed s s.outer) (without_innermost os)
closes_is file s [] m = absurd m.1
closes_is file s (o ∷ os) m = closed_is file s s.outer o os m m.1.2

-- ---- what declares nothing

withed_is : (file : ℕ) (i : Ident) (s : Scopes) (u : Option LibraryUnit) (os : List Open) → Matches file s os → Matches file (steps.withed i s u) os
withed_is file i s (Some u) os m = m
withed_is file i s None os m = m

use_is : (file : ℕ) (n : ℕ) (at : ℕ) (a : Link) (s : Scopes) (b : Bool) (ns : List ℕ) (os : List Open) → Matches file s os → Matches file (linked at a (if b then s else record s { top = record s.top { used = ns } })) os
use_is file n at a s true ns os m = m
use_is file n at a s false ns os m = m

in_use_is : (file : ℕ) (i : Ident) (s : Scopes) (u : Option LibraryUnit) (os : List Open) → Matches file s os → Matches file (steps.in_use i s u) os
in_use_is file i s (Some u) os m = use_is file u.name i.at (Declared u.spot) s (steps.is_inside u.name s.inside) (with_name u.name s.top.used) os m
in_use_is file i s None os m = m

used_is : (file : ℕ) (l : List LibraryUnit) (i : Ident) (s : Scopes) (f : Found) (os : List Open) → Matches file s os → Matches file (steps.used l i s f) os
used_is file l i s Several os m = m
used_is file l i s Missing os m = m
used_is file l i s (One a) os m = in_use_is file i s (steps.package_of l (One a)) os m

late_is : (file : ℕ) (t : Late) (s : Scopes) (b : Bool) (r : NameFault) (os : List Open) → Matches file s os → Matches file (if b then s else broken r t.at s) os
late_is file t s true r os m = m
late_is file t s false r os m = m

late_ones_is : (file : ℕ) (l : List LibraryUnit) (s : Scopes) (ts : List Late) (os : List Open) → Matches file s os → Matches file (steps.late_ones l s ts) os
late_ones_is file l s [] os m = m
late_ones_is file l s (t ∷ ts) os m = late_ones_is file l (steps.looked_again t s (steps.meaning l s t.name)) ts os (late_is file t s (steps.is_still t.link (steps.meaning l s t.name)) AmbiguousName os m)

compared_is : (file : ℕ) (own : Spot) (s : Scopes) (p : Option Profile) (os : List Open) → Matches file s os → Matches file (steps.compared own s p) os
compared_is file own s None os m = m
compared_is file own s (Some p) os m =
    let P : Bool → Type 0 = λ b. Matches file (if b then s else broken SpecMismatch own.at s) os in
    elim (same_profile p s.top.profile) as P [ true ↦ m | false ↦ m ]

shown : (w : Owner) (os : List Open) → IsAround w false os
shown owner.Units os = tt
shown (owner.Package n p) os = tt
shown (owner.Subprogram n p q) os = tt
shown owner.Block os = tt

profile_is : (file : ℕ) (s : Scopes) (w : Owner) (k : Option ℕ) (os : List Open) → Matches file s os → Matches file (steps.profile_ended s w k) os
profile_is file s (owner.Subprogram n p q) None [] m = absurd m.1
profile_is file s (owner.Subprogram n p q) None (o ∷ os) m = (m.0, (m.1.0, m.1.1, m.1.2, shown s.top.owner os))
profile_is file s (owner.Subprogram n p q) (Some k) os m = compared_is file q s (slice_get s.profiles k) os m
profile_is file s owner.Units k os m = m
profile_is file s (owner.Package n p) k os m = m
profile_is file s owner.Block k os m = m

noted_if : (file : ℕ) (s : Scopes) (b : Bool) (ts : List Late) (os : List Open) → Matches file s os → Matches file (if b then s else record s { late = ts }) os
noted_if file s true ts os m = m
noted_if file s false ts os m = m

noted_is : (file : ℕ) (k : Manner) (i : Ident) (a : Link) (s : Scopes) (os : List Open) → Matches file s os → Matches file (steps.noted k i a s) os
noted_is file manner.Aspect i a s os m = noted_if file s (steps.is_local_sight (innermost i.name (frames s))) (s.late ++ record { name = i.name; at = i.at; link = a } ∷ []) os m
noted_is file manner.Plain i a s os m = m
noted_is file manner.Choice i a s os m = m

unresolved_is : (file : ℕ) (k : Manner) (i : Ident) (r : NameFault) (s : Scopes) (os : List Open) → Matches file s os → Matches file (steps.unresolved k i r s) os
unresolved_is file manner.Aspect i r s os m = m
unresolved_is file manner.Plain i r s os m = m
unresolved_is file manner.Choice i r s os m = m

named_is : (file : ℕ) (i : Ident) (k : Manner) (s : Scopes) (f : Found) (os : List Open) → Matches file s os → Matches file (steps.named i k s f) os
named_is file i k s (One a) os m = noted_is file k i a (linked i.at a (steps.with_last (Some a) s)) os m
named_is file i k s Missing os m = unresolved_is file k i UnknownName s os m
named_is file i k s Several os m = unresolved_is file k i AmbiguousName s os m

selected_is : (file : ℕ) (i : Ident) (s : Scopes) (f : Option Found) (os : List Open) → Matches file s os → Matches file (steps.selected i s f) os
selected_is file i s (Some (One a)) os m = m
selected_is file i s (Some Missing) os m = m
selected_is file i s (Some Several) os m = m
selected_is file i s None os m = m

end_is : (file : ℕ) (i : Ident) (s : Scopes) (p : Option Spot) (os : List Open) → Matches file s os → Matches file (steps.end_name i s p) os
end_is file i s (Some p) os m = m
end_is file i s None os m = m

-- ---- all events

step_is : (file : ℕ) (l : List LibraryUnit) (s : Scopes) (e : Event) (os : List Open) → Matches file s os → Matches file (steps.step l s e) (open_step file os e)
step_is file l s (event.With i) os m = withed_is file i s (declaration_of l i.name) os m
step_is file l s (event.ContextUse i) os m = in_use_is file i s (steps.context_package l i.name s.context) os m
step_is file l s (event.Use i) os m = used_is file l i s (steps.meaning l s i.name) os m
step_is file l s (event.Opens o) os m = opens_is file o s os m
step_is file l s event.Closes os m = closes_is file s os m
step_is file l s event.ListEnds os m = late_ones_is file l (record s { late = [] }) s.late os m
step_is file l s (event.Declares k i) os m = declares_is file k i s os m
step_is file l s event.DeclarationEnds os m = m
step_is file l s (event.ParametersEnd k) os m = m
step_is file l s event.ResultEnds os m = m
step_is file l s event.ProfileEnds os m = profile_is file s s.top.owner s.top.first os m
step_is file l s (event.Name i k) os m = named_is file i k s (steps.meaning l s i.name) os m
step_is file l s (event.Selects i) os m = selected_is file i s (member l (frames s) i.name s.last) os m
step_is file l s (event.EndName i) os m = end_is file i s (named_as i.name s.top.owner) os m
step_is file l s (event.LeftOut at) os m = m

pub after_is : (file : ℕ) (l : List LibraryUnit) (s : Scopes) (es : List Event) (os : List Open) → Matches file s os → Matches file (steps.after l s es) (open_after file os es)
after_is file l s [] os m = m
after_is file l s (e ∷ es) os m = after_is file l (steps.step l s e) es (open_step file os e) (step_is file l s e os m)

pub start_is : (file : ℕ) → Matches file (start file) nothing_open
start_is file = (refl, (refl, tt, tt, tt))
