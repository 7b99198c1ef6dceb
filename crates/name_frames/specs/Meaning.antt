-- What is visible at a place, and what a name stands for there (Ada RM 8.2, 8.3, 8.4).
use Rattle.std.specs.Prelude.{ℕ, Bool, true, ◌&&◌, nat_lt, List, [], ◌∷◌, Option, Some, None, if◌then◌else◌}
use Rattle.name_library.specs.declared.library.Export.{Export}
use Rattle.name_library.specs.declared.library.LibraryUnit.{LibraryUnit}
use Rattle.name_library.specs.declared.links.Link.{Link}
use Rattle.name_library.specs.declared.links.Link.TheVariants.{Declared, Predefined}
use Rattle.name_library.specs.declared.links.Spot.{Spot}
use Rattle.name_library.specs.Library.{contains, declaration_of, export_named, package_at}
use Rattle.name_frames.specs.declared.frames.Frame.{Frame}
use Rattle.name_frames.specs.declared.frames.Sight.{Sight}
use Rattle.name_frames.specs.declared.meaning.Found.{Found}
use Rattle.name_frames.specs.declared.meaning.Found.TheVariants.{One, Missing, Several}
use Rattle.name_frames.specs.Frames.{enclosing, seen_in}
use Rattle.name_frames.specs.Profiles.{same_link}

-- ---- use clauses

abbrev exports_of : Option LibraryUnit → List Export
exports_of None = []
exports_of (Some u) = u.exports

-- what a package exports under a name
abbrev pub export_of : List LibraryUnit → ℕ → ℕ → Option Export
export_of l n m = export_named n (exports_of (declaration_of l m))

abbrev pub link_to : Option Export → List Link → List Link
link_to None more = more
link_to (Some e) more = Declared e.spot ∷ more

-- what the packages in use clauses export under a name (Ada RM 8.4)
abbrev pub offered : List LibraryUnit → ℕ → List ℕ → List Link
offered l n [] = []
offered l n (m ∷ ms) = link_to (export_of l n m) (offered l n ms)

abbrev pub all_same : Link → List Link → Bool
all_same a [] = true
all_same a (b ∷ bs) = same_link b a && all_same a bs

abbrev pub only : List Link → Found
only [] = Missing
only (a ∷ as') = if all_same a as' then One a else Several

-- ---- outside all scopes: Standard, what with clauses name, then use clauses

-- the names of package Standard, and those of them that the profile has
abbrev pub standard_names : ℕ
standard_names = 29

abbrev pub profile_names : ℕ
profile_names = 7

abbrev pub with_link : Option LibraryUnit → Found
with_link None = Missing
with_link (Some u) = One (Declared u.spot)

-- by the names of with clauses and of use clauses
abbrev pub outside : List LibraryUnit → List ℕ → List ℕ → ℕ → Found
outside l withs used n =
    if nat_lt n profile_names then One (Predefined n)
    else (if nat_lt n standard_names then Missing
    else (if contains n withs then with_link (declaration_of l n)
    else only (offered l n used)))

-- ---- all

-- hidden inside its own declaration
abbrev pub by_sight : Sight → Found
by_sight e = if e.ended then One (Declared e.spot) else Missing

abbrev pub by_scopes : List LibraryUnit → List ℕ → List ℕ → ℕ → Option Sight → Found
by_scopes l withs used n (Some e) = by_sight e
by_scopes l withs used n None = outside l withs used n

-- ---- selected identifiers (Ada RM 4.1.3)

abbrev by_export : Option Export → Found
by_export (Some e) = One (Declared e.spot)
by_export None = Missing

abbrev pub by_seen : Option Sight → Found
by_seen (Some e) = by_sight e
by_seen None = Missing

abbrev pub by_package : ℕ → Option LibraryUnit → Option Found
by_package n (Some u) = Some (by_export (export_named n u.exports))
by_package n None = None

-- in an enclosing package or subprogram, else in another package
abbrev pub by_prefix : List LibraryUnit → ℕ → Spot → Option Frame → Option Found
by_prefix l n p (Some f) = Some (by_seen (seen_in n f))
by_prefix l n p None = by_package n (package_at l p)

-- what an identifier after what stands for a link stands for; none where this is a value
abbrev pub member : List LibraryUnit → List Frame → ℕ → Option Link → Option Found
member l fs n (Some (Declared p)) = by_prefix l n p (enclosing p fs)
member l fs n (Some (Predefined m)) = None
member l fs n None = None
