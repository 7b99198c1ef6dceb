-- Where no rule is broken, no with clause is on a circle.
use Rattle.std.proofs.Common.{◌≡◌, ℕ, refl, Bool, true, false, not, List, [], ◌∷◌, ◌++◌}
use Rattle.std.specs.List.{All, AllByRecursion}
use Rattle.std.proofs.lemmas.List.Elements.{All-from_recursion}
use Rattle.name_library.specs.declared.events.Event.{Event}
use Rattle.name_library.specs.declared.events.Ident.{Ident}
use Rattle.name_library.specs.declared.library.LibraryUnit.{LibraryUnit}
use Rattle.name_library.specs.declared.links.Fault.{Fault}
use Rattle.name_library.specs.declared.links.NameFault.{NameFault}
use Rattle.name_library.specs.declared.links.NameFault.TheVariants as rule
use Rattle.name_library.specs.declared.links.Spot.{Spot}
use Rattle.name_library.specs.declared.links.Usage.{Usage}
use Rattle.name_library.specs.Library.{library, spot_of}
use Rattle.name_library.specs.Chains.{HasNoCircle, IsOrder, leads_back, order}
use Rattle.name_library.proofs.Joined.{whole}
use Rattle.name_rules.specs.declared.program.Answer.TheVariants.{Named}
use Rattle.name_rules.specs.Faults.{all_files, all_units, answer, circles, declared_before, not_standard, not_twice, unit_faults, unless, with_its_body}
use Rattle.name_rules.proofs.Told.{named_whole}

-- two lists that make none are none
neither : (fs gs : List Fault) → fs ++ gs ≡ [] → (fs ≡ []) × (gs ≡ [])
neither [] gs h = (refl, h)
neither (f ∷ fs) gs h = absurd (let g : ⊥ = cc in g)

met : (b : Bool) (r : NameFault) (p : Spot) → unless (not b) r p ≡ [] → b ≡ false
met true r p h = absurd (let g : ⊥ = cc in g)
met false r p h = refl

none_back : (l : List LibraryUnit) (file : ℕ) (ws : List Ident) → circles l file ws ≡ [] → AllByRecursion (λ i. leads_back l i.name file ≡ false) ws
none_back l file [] h = tt
none_back l file (i ∷ ws) h =
    let r = neither (unless (not (leads_back l i.name file)) rule.WithCycle (spot_of file i)) (circles l file ws) h in
    (met (leads_back l i.name file) rule.WithCycle (spot_of file i) r.0, none_back l file ws r.1)

abbrev Backless : List LibraryUnit → LibraryUnit → Type 0
Backless l u = All (λ i. leads_back l i.name u.spot.file ≡ false) u.withs

unit_backless : (l : List LibraryUnit) (u : LibraryUnit) → unit_faults l u ≡ [] → Backless l u
unit_backless l u h =
    let front = not_standard u ++ not_twice l u ++ declared_before l u ++ with_its_body l u in
    All-from_recursion (λ (i : Ident). leads_back l i.name u.spot.file ≡ false) u.withs (none_back l u.spot.file u.withs (neither front (circles l u.spot.file u.withs) h).1)

units_backless : (l us : List LibraryUnit) → all_units l us ≡ [] → AllByRecursion (Backless l) us
units_backless l [] h = tt
units_backless l (u ∷ us) h = let r = neither (unit_faults l u) (all_units l us) h in (unit_backless l u r.0, units_backless l us r.1)

pub no_circle : (files : List (List Event)) (us : List Usage) → answer files ≡ Named us → HasNoCircle (library files)
no_circle files us h =
    let l = library files in
    All-from_recursion (Backless l) l (units_backless l l (neither (all_units l l) (all_files files l l) (named_whole files us h).0).0)

pub in_order : (files : List (List Event)) (us : List Usage) → answer files ≡ Named us → IsOrder (library files) (order (library files))
in_order files us h = whole files (no_circle files us h)
