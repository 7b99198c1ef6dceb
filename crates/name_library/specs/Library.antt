-- The units of a program, what a package exports, and circles of with clauses (Ada RM 10.1).
use Rattle.std.specs.Prelude.{ℕ, zero, suc, ◌+◌, ◌-◌, Bool, true, false, ◌&&◌, ◌||◌, ◌==◌, ◌++◌, List, [], ◌∷◌, find, slice_get, Option, Some, None, if◌then◌else◌}
use Rattle.std.specs.Option.{option_to_list}
use Rattle.name_library.specs.declared.events.Event.{Event}
use Rattle.name_library.specs.declared.events.Event.TheVariants as event
use Rattle.name_library.specs.declared.events.Ident.{Ident}
use Rattle.name_library.specs.declared.events.Scope.{Scope}
use Rattle.name_library.specs.declared.events.Scope.TheVariants as scope
use Rattle.name_library.specs.declared.library.Export.{Export}
use Rattle.name_library.specs.declared.library.LibraryUnit.{LibraryUnit}
use Rattle.name_library.specs.declared.library.Part.{Part}
use Rattle.name_library.specs.declared.library.Part.TheVariants as part
use Rattle.name_library.specs.declared.links.Spot.{Spot}

abbrev pub same_spot : Spot → Spot → Bool
same_spot p q = (p.file == q.file) && (p.at == q.at)

abbrev pub spot_of : ℕ → Ident → Spot
spot_of file i = record { file = file; at = i.at }

-- ---- reading a unit's heading and its exports off its events

abbrev pub opened_ident : Scope → Option Ident
opened_ident (scope.Package i) = Some i
opened_ident (scope.PackageBody i) = Some i
opened_ident (scope.Subprogram i b) = Some i
opened_ident scope.Record = None
opened_ident scope.Loop = None
opened_ident scope.Quantified = None

abbrev pub part_of : Scope → Part
part_of (scope.PackageBody i) = part.PackageBody
part_of (scope.Subprogram i false) = part.SubprogramDeclaration
part_of (scope.Subprogram i true) = part.SubprogramBody
part_of _ = part.PackageDeclaration

abbrev pub export_of : ℕ → Ident → Export
export_of file i = record { name = i.name; spot = spot_of file i }

abbrev pub exported_by : ℕ → Option Ident → List Export
exported_by file None = []
exported_by file (Some i) = export_of file i ∷ []

-- what an event declares in a list with `depth` scopes open in it
abbrev pub declared_at : ℕ → Event → Option Ident
declared_at (suc d) e = None
declared_at zero (event.Declares k i) = Some i
declared_at zero (event.Opens s) = opened_ident s
declared_at zero _ = None

abbrev pub depth_after : ℕ → Event → ℕ
depth_after d (event.Opens s) = d + 1
depth_after d event.Closes = d - 1
depth_after d _ = d

abbrev pub is_end : ℕ → Event → Bool
is_end (suc d) e = false
is_end zero event.ListEnds = true
is_end zero _ = false

-- the declarations of such a list, up to its end (Ada RM 7.1)
abbrev pub exports : ℕ → ℕ → List Event → List Export
exports file d [] = []
exports file d (e ∷ es) = if is_end d e then [] else (exported_by file (declared_at d e) ++ exports file (depth_after d e) es)

-- a package alone exports
abbrev pub exports_by : ℕ → Part → List Event → List Export
exports_by file part.PackageDeclaration es = exports file 0 es
exports_by file _ es = []

abbrev pub unit_opened : ℕ → Scope → List Ident → Option Ident → List Event → Option LibraryUnit
unit_opened file s ws None es = None
unit_opened file s ws (Some i) es = Some (record { name = i.name; spot = spot_of file i; part = part_of s; withs = ws; exports = exports_by file (part_of s) es })

abbrev pub unit_after : ℕ → List Ident → List Event → Option LibraryUnit
unit_after file ws [] = None
unit_after file ws (event.With i ∷ es) = unit_after file (ws ++ i ∷ []) es
unit_after file ws (event.Opens s ∷ es) = unit_opened file s ws (opened_ident s) es
unit_after file ws (_ ∷ es) = unit_after file ws es

-- the units of files that are numbered from `file` on
abbrev pub units_from : ℕ → List (List Event) → List LibraryUnit
units_from file [] = []
units_from file (es ∷ ess) = option_to_list (unit_after file [] es) ++ units_from (suc file) ess

abbrev pub library : List (List Event) → List LibraryUnit
library = units_from 0

-- ---- looking exports and units up

-- what a package exports under a name
abbrev pub export_named : ℕ → List Export → Option Export
export_named n = find (λ e. e.name == n)

abbrev pub is_part : Part → Part → Bool
is_part part.PackageDeclaration part.PackageDeclaration = true
is_part part.PackageBody part.PackageBody = true
is_part part.SubprogramDeclaration part.SubprogramDeclaration = true
is_part part.SubprogramBody part.SubprogramBody = true
is_part _ _ = false

abbrev pub unit_as : Part → ℕ → List LibraryUnit → Option LibraryUnit
unit_as p n = find (λ u. is_part p u.part && (u.name == n))

abbrev pub else_unit : Option LibraryUnit → Option LibraryUnit → Option LibraryUnit
else_unit (Some u) v = Some u
else_unit None v = v

-- a unit by its number, if it has one
abbrev pub unit_at : List LibraryUnit → Option ℕ → Option LibraryUnit
unit_at l None = None
unit_at l (Some k) = slice_get l k

-- what a with clause names: a body of a subprogram stands for its own declaration where there is no other (Ada RM 10.1.4)
abbrev pub declaration_of : List LibraryUnit → ℕ → Option LibraryUnit
declaration_of l n = else_unit (unit_as part.PackageDeclaration n l) (else_unit (unit_as part.SubprogramDeclaration n l) (unit_as part.SubprogramBody n l))

abbrev pub package_at : List LibraryUnit → Spot → Option LibraryUnit
package_at l p = find (λ u. is_part part.PackageDeclaration u.part && same_spot u.spot p) l

-- a body goes with the declaration of its sort
abbrev pub goes_with : Part → Part → Bool
goes_with part.PackageDeclaration part.PackageBody = true
goes_with part.PackageBody part.PackageDeclaration = true
goes_with part.SubprogramDeclaration part.SubprogramBody = true
goes_with part.SubprogramBody part.SubprogramDeclaration = true
goes_with _ _ = false

abbrev pub contains : ℕ → List ℕ → Bool
contains n [] = false
contains n (m ∷ ms) = (n == m) || contains n ms
