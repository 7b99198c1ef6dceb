-- All broken rules of names of a program, one line a demand, and its answer: the first of them, or all links.
use Rattle.std.specs.Prelude.{◌≡◌, ℕ, Bool, true, false, not, ◌&&◌, ◌||◌, ◌==◌, ◌++◌, ◌⊎◌, nat_lt, List, [], ◌∷◌, slice_get, Option, Some, None, is_some, unwrap_or, if◌then◌else◌}
use Rattle.std.specs.BTreeMap.{BTreeMap, get}
use Rattle.std.specs.Ordering.{nat_cmp}
use Rattle.name_library.specs.declared.events.Event.{Event}
use Rattle.name_library.specs.declared.events.Ident.{Ident}
use Rattle.name_library.specs.declared.links.Fault.{Fault}
use Rattle.name_library.specs.declared.links.NameFault.{NameFault}
use Rattle.name_library.specs.declared.links.NameFault.TheVariants as rule
use Rattle.name_library.specs.declared.links.Spot.{Spot}
use Rattle.name_library.specs.declared.links.Usage.{Usage}
use Rattle.name_library.specs.declared.library.LibraryUnit.{LibraryUnit}
use Rattle.name_library.specs.declared.library.Part.TheVariants as part
use Rattle.name_library.specs.declared.library.Part.{Part}
use Rattle.name_library.specs.Library.{goes_with, library, spot_of, unit_as}
use Rattle.name_library.specs.Chains.{leads_back, own_declaration}
use Rattle.name_frames.specs.declared.entries.Entry.{Entry}
use Rattle.name_frames.specs.declared.entries.Sort.{Sort}
use Rattle.name_frames.specs.declared.entries.Sort.TheVariants as sort
use Rattle.name_scopes.specs.declared.state.Scopes.{Scopes}
use Rattle.name_rules.specs.declared.files.Found.{Found}
use Rattle.name_rules.specs.declared.program.Answer.{Answer}
use Rattle.name_rules.specs.declared.program.Answer.TheVariants as verdict
use Rattle.name_frames.specs.Meaning.{standard_names}
use Rattle.name_scopes.specs.State.{carried, start}
use Rattle.name_scopes.specs.Steps.{after}

abbrev fault : NameFault → Spot → Fault
fault r p = record { rule = r; spot = p }

-- no fault where the demand is met
abbrev pub unless : Bool → NameFault → Spot → List Fault
unless true r p = []
unless false r p = fault r p ∷ []

-- ---- demands on units (Ada RM 7.2, 10.1.1, 10.1.2)

-- library units are declared within Standard, where its own names stand
abbrev pub not_standard : LibraryUnit → List Fault
not_standard u = unless (not (nat_lt u.name standard_names)) rule.Duplicate u.spot

-- the first is in an earlier file and has the name, and isn't the declaration for the other's body, or the body for its declaration
abbrev pub is_twice : LibraryUnit → LibraryUnit → Bool
is_twice v u = nat_lt v.spot.file u.spot.file && (v.name == u.name) && not (goes_with u.part v.part)

abbrev pub has_twice : List LibraryUnit → LibraryUnit → Bool
has_twice [] u = false
has_twice (v ∷ vs) u = is_twice v u || has_twice vs u

-- no unit of an earlier file has its name
abbrev pub not_twice : List LibraryUnit → LibraryUnit → List Fault
not_twice l u = unless (not (has_twice l u)) rule.Duplicate u.spot

-- a body of a package has its declaration
abbrev pub has_declaration : List LibraryUnit → LibraryUnit → Part → Bool
has_declaration l u part.PackageBody = is_some (unit_as part.PackageDeclaration u.name l)
has_declaration l u _ = true

abbrev pub declared_before : List LibraryUnit → LibraryUnit → List Fault
declared_before l u = unless (has_declaration l u u.part) rule.UnknownName u.spot

-- the declaration of a library subprogram has its body
abbrev pub has_body : List LibraryUnit → LibraryUnit → Part → Bool
has_body l u part.SubprogramDeclaration = is_some (unit_as part.SubprogramBody u.name l)
has_body l u _ = true

abbrev pub with_its_body : List LibraryUnit → LibraryUnit → List Fault
with_its_body l u = unless (has_body l u u.part) rule.MissingBody u.spot

-- no chain of with clauses leads from what it withs back to it
abbrev pub circles : List LibraryUnit → ℕ → List Ident → List Fault
circles l file [] = []
circles l file (i ∷ more) = unless (not (leads_back l i.name file)) rule.WithCycle (spot_of file i) ++ circles l file more

abbrev pub unit_faults : List LibraryUnit → LibraryUnit → List Fault
unit_faults l u = not_standard u ++ not_twice l u ++ declared_before l u ++ with_its_body l u ++ circles l u.spot.file u.withs

abbrev pub all_units : List LibraryUnit → List LibraryUnit → List Fault
all_units l [] = []
all_units l (u ∷ us) = unit_faults l u ++ all_units l us

-- ---- demands where a file ends

abbrev pub lacks_body : Sort → Bool
lacks_body (sort.Subprogram false k) = true
lacks_body _ = false

abbrev pub is_subprogram : Sort → Bool
is_subprogram (sort.Subprogram b k) = true
is_subprogram _ = false

-- each subprogram that is declared in a package has a body in the package's body
abbrev pub bodies : List Entry → List Fault
bodies [] = []
bodies (e ∷ es) = unless (not (lacks_body e.sort)) rule.MissingBody e.spot ++ bodies es

abbrev pub has_subprogram : List Entry → Bool
has_subprogram [] = false
has_subprogram (e ∷ es) = is_subprogram e.sort || has_subprogram es

abbrev pub events_of : List (List Event) → ℕ → List Event
events_of files n = unwrap_or (slice_get files n) []

-- what stands at the end of a file that goes on from no other
abbrev pub ended : List (List Event) → List LibraryUnit → ℕ → Scopes
ended files l file = after l (start file) (events_of files file)

abbrev pub carried_state : List (List Event) → List LibraryUnit → ℕ → Option LibraryUnit → Scopes
carried_state files l file None = start file
carried_state files l file (Some u) = carried file (ended files l u.spot.file)

-- what a unit begins with: a body goes on where its declaration ends
abbrev pub opening : List (List Event) → List LibraryUnit → LibraryUnit → Scopes
opening files l u = carried_state files l u.spot.file (own_declaration l u.name u.part)

abbrev pub state_from : List (List Event) → List LibraryUnit → LibraryUnit → Scopes → Scopes
state_from files l u s = after l s (events_of files u.spot.file)

-- a package without its body declares no subprogram
abbrev pub without_body : LibraryUnit → List Entry → Bool → List Fault
without_body u es true = []
without_body u es false = unless (not (has_subprogram es)) rule.MissingBody u.spot ++ bodies es

-- where a file ends, by whether its unit begins with a subprogram, and by the declarations at its end; a package that declares no
-- subprogram has no body (Ada RM 7.2)
abbrev pub end_faults : List LibraryUnit → LibraryUnit → Bool → List Entry → Part → List Fault
end_faults l u had es part.PackageDeclaration = without_body u es (is_some (unit_as part.PackageBody u.name l))
end_faults l u had es part.PackageBody = unless (not (is_some (unit_as part.PackageDeclaration u.name l)) || had) rule.SpecMismatch u.spot ++ bodies es
end_faults l u had es _ = []

-- what is found in a unit's file, by what it begins with
abbrev pub found_from : List (List Event) → List LibraryUnit → LibraryUnit → Scopes → Found
found_from files l u s = record {
  findings = (state_from files l u s).findings;
  ends = end_faults l u (has_subprogram s.top.entries) (state_from files l u s).top.entries u.part;
}

abbrev pub found_in : List (List Event) → List LibraryUnit → LibraryUnit → Found
found_in files l u = found_from files l u (opening files l u)

abbrev pub file_faults : List (List Event) → List LibraryUnit → LibraryUnit → List Fault
file_faults files l u = (found_in files l u).findings.faults ++ (found_in files l u).ends

abbrev pub all_files : List (List Event) → List LibraryUnit → List LibraryUnit → List Fault
all_files files l [] = []
all_files files l (u ∷ us) = file_faults files l u ++ all_files files l us

-- all broken rules
abbrev pub faults : List (List Event) → List Fault
faults files = all_units (library files) (library files) ++ all_files files (library files) (library files)

-- ---- the first of them

-- their order at one place
abbrev pub rule_number : NameFault → ℕ
rule_number rule.UnknownName = 0
rule_number rule.AmbiguousName = 1
rule_number rule.Duplicate = 2
rule_number rule.Overloaded = 3
rule_number rule.WithCycle = 4
rule_number rule.MissingBody = 5
rule_number rule.SpecMismatch = 6
rule_number rule.LeftOut = 7

abbrev first_then : ℕ → ℕ → Bool → Bool
first_then m n rest = nat_lt m n || ((m == n) && rest)

-- by file, place and rule
abbrev pub is_before : Fault → Fault → Bool
is_before f g = first_then f.spot.file g.spot.file (first_then f.spot.at g.spot.at (nat_lt (rule_number f.rule) (rule_number g.rule)))

abbrev pub lesser : Fault → Option Fault → Option Fault
lesser f None = Some f
lesser f (Some g) = if is_before g f then Some g else Some f

abbrev pub first_of : List Fault → Option Fault
first_of [] = None
first_of (f ∷ fs) = lesser f (first_of fs)

-- it is one of them
abbrev pub IsIn : Fault → List Fault → Type 0
IsIn f [] = ⊥
IsIn f (g ∷ gs) = (f ≡ g) ⊎ IsIn f gs

abbrev pub NoneBefore : Fault → List Fault → Type 0
NoneBefore f [] = Unit {0}
NoneBefore f (g ∷ gs) = (is_before g f ≡ false) × NoneBefore f gs

-- one of them, with no other before it, or none of none
abbrev pub IsFirst : Option Fault → List Fault → Type 0
IsFirst None fs = fs ≡ []
IsFirst (Some f) fs = IsIn f fs × NoneBefore f fs

-- ---- the answer

abbrev pub all_usages : List (List Event) → List LibraryUnit → List LibraryUnit → List Usage
all_usages files l [] = []
all_usages files l (u ∷ us) = (found_in files l u).findings.usages ++ all_usages files l us

-- what each identifier stands for, in the order of files and of the text
abbrev pub usages : List (List Event) → List Usage
usages files = all_usages files (library files) (library files)

-- the first fault, or without one the usages
abbrev pub told : Option Fault → List Usage → Answer
told (Some f) us = verdict.Refused f
told None us = verdict.Named us

abbrev pub answer : List (List Event) → Answer
answer files = told (first_of (faults files)) (usages files)

-- ---- the code goes through each file once: those that go on from no other first, and keeps what their bodies find

abbrev pub first_found : List (List Event) → List LibraryUnit → LibraryUnit → Option LibraryUnit → Option Found
first_found files l u None = Some (found_from files l u (start u.spot.file))
first_found files l u (Some d) = None

abbrev pub firsts_from : List (List Event) → List LibraryUnit → List LibraryUnit → List (Option Found)
firsts_from files l [] = []
firsts_from files l (u ∷ us) = first_found files l u (own_declaration l u.name u.part) ∷ firsts_from files l us

-- what is kept by the numbers of files is what bodies find at their ends
abbrev pub AllKept : List (List Event) → List LibraryUnit → BTreeMap ℕ Scopes → Type 0
AllKept files l kept = (k : ℕ) (s : Scopes) → get nat_cmp kept k ≡ Some s → s ≡ carried k (ended files l k)
