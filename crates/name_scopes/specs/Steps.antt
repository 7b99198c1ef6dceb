-- What each event does to what is visible, which links it makes, and which rules it breaks.
use Rattle.std.specs.Prelude.{ℕ, Bool, true, false, ◌==◌, ◌++◌, length, List, [], ◌∷◌, slice_get, Option, Some, None, fold, if◌then◌else◌}
use Rattle.name_library.specs.declared.events.Event.{Event}
use Rattle.name_library.specs.declared.events.Event.TheVariants as event
use Rattle.name_library.specs.declared.events.Ident.{Ident}
use Rattle.name_library.specs.declared.events.Kind.{Kind}
use Rattle.name_library.specs.declared.events.Kind.TheVariants as kind
use Rattle.name_library.specs.declared.events.Manner.{Manner}
use Rattle.name_library.specs.declared.events.Manner.TheVariants as manner
use Rattle.name_library.specs.declared.events.Mode.{Mode}
use Rattle.name_library.specs.declared.events.Scope.{Scope}
use Rattle.name_library.specs.declared.events.Scope.TheVariants as scope
use Rattle.name_library.specs.declared.library.LibraryUnit.{LibraryUnit}
use Rattle.name_library.specs.declared.library.Part.TheVariants as part
use Rattle.name_library.specs.declared.links.Link.{Link}
use Rattle.name_library.specs.declared.links.Link.TheVariants.{Declared}
use Rattle.name_library.specs.declared.links.NameFault.{NameFault}
use Rattle.name_library.specs.declared.links.NameFault.TheVariants.{UnknownName, AmbiguousName, Duplicate, Overloaded, SpecMismatch, LeftOut}
use Rattle.name_library.specs.declared.links.Spot.{Spot}
use Rattle.name_library.specs.Library.{contains, declaration_of, is_part, package_at}
use Rattle.name_frames.specs.declared.entries.Entry.{Entry}
use Rattle.name_frames.specs.declared.entries.Sort.{Sort}
use Rattle.name_frames.specs.declared.entries.Sort.TheVariants as sort
use Rattle.name_frames.specs.declared.frames.Owner.{Owner}
use Rattle.name_frames.specs.declared.frames.Owner.TheVariants as owner
use Rattle.name_frames.specs.declared.frames.Sight.{Sight}
use Rattle.name_frames.specs.declared.meaning.Found.{Found}
use Rattle.name_frames.specs.declared.meaning.Found.TheVariants.{One, Missing, Several}
use Rattle.name_frames.specs.declared.profiles.Formal.{Formal}
use Rattle.name_frames.specs.declared.profiles.Outcome.TheVariants as outcome
use Rattle.name_frames.specs.declared.profiles.Profile.{Profile}
use Rattle.name_scopes.specs.declared.state.Late.{Late}
use Rattle.name_scopes.specs.declared.state.Scopes.{Scopes}
use Rattle.name_frames.specs.Entries.{entry_of, with_body}
use Rattle.name_frames.specs.Frames.{innermost, named_as, package_named}
use Rattle.name_frames.specs.Profiles.{no_profile, same_link, same_profile, told}
use Rattle.name_frames.specs.Meaning.{by_scopes, member}
use Rattle.name_scopes.specs.State.{all_ended, broken, closed, frames, linked, pushed, spot_in, with_name}

-- what a name stands for
abbrev pub meaning : List LibraryUnit → Scopes → ℕ → Found
meaning l s n = by_scopes l s.withs s.top.used n (innermost n (frames s))

-- ---- names (Ada RM 4.1, 8.3)

abbrev pub with_last : Option Link → Scopes → Scopes
with_last a s = record s { last = a }

abbrev pub is_local_sight : Option Sight → Bool
is_local_sight (Some e) = e.local
is_local_sight None = false

-- a name of an aspect that stands for what is declared outside its subprogram is looked at again where the list ends
abbrev pub noted : Manner → Ident → Link → Scopes → Scopes
noted manner.Aspect i a s =
    if is_local_sight (innermost i.name (frames s)) then s
    else record s { late = s.late ++ record { name = i.name; at = i.at; link = a } ∷ [] }
noted manner.Plain i a s = s
noted manner.Choice i a s = s

abbrev pub unresolved : Manner → Ident → NameFault → Scopes → Scopes
unresolved manner.Choice i r s = with_last None s
unresolved manner.Plain i r s = broken r i.at (with_last None s)
unresolved manner.Aspect i r s = broken r i.at (with_last None s)

abbrev pub named : Ident → Manner → Scopes → Found → Scopes
named i m s (One a) = noted m i a (linked i.at a (with_last (Some a) s))
named i m s Missing = unresolved m i UnknownName s
named i m s Several = unresolved m i AmbiguousName s

abbrev pub selected : Ident → Scopes → Option Found → Scopes
selected i s (Some (One a)) = linked i.at a (with_last (Some a) s)
selected i s (Some Missing) = broken UnknownName i.at (with_last None s)
selected i s (Some Several) = broken UnknownName i.at (with_last None s)
selected i s None = with_last None s

-- ---- with and use clauses (Ada RM 8.4, 10.1.2, 10.1.6)

abbrev pub with_added : ℕ → Scopes → Scopes
with_added n s = record s { withs = with_name n s.withs; context = with_name n s.context }

abbrev pub withed : Ident → Scopes → Option LibraryUnit → Scopes
withed i s (Some u) = linked i.at (Declared u.spot) (with_added i.name s)
withed i s None = broken UnknownName i.at s

abbrev pub is_inside : ℕ → Option ℕ → Bool
is_inside n (Some m) = m == n
is_inside n None = false

-- the declarations of an enclosing package are visible anyway
abbrev pub use_made : ℕ → Scopes → Scopes
use_made n s = if is_inside n s.inside then s else record s { top = record s.top { used = with_name n s.top.used } }

abbrev pub in_use : Ident → Scopes → Option LibraryUnit → Scopes
in_use i s (Some u) = linked i.at (Declared u.spot) (use_made u.name s)
in_use i s None = broken UnknownName i.at s

abbrev pub package_of : List LibraryUnit → Found → Option LibraryUnit
package_of l (One (Declared p)) = package_at l p
package_of l _ = None

abbrev pub used : List LibraryUnit → Ident → Scopes → Found → Scopes
used l i s Several = broken AmbiguousName i.at s
used l i s Missing = broken UnknownName i.at s
used l i s (One a) = in_use i s (package_of l (One a))

abbrev pub declared_package : Option LibraryUnit → Option LibraryUnit
declared_package None = None
declared_package (Some u) = if is_part part.PackageDeclaration u.part then Some u else None

abbrev pub context_package : List LibraryUnit → ℕ → List ℕ → Option LibraryUnit
context_package l n ns = if contains n ns then declared_package (declaration_of l n) else None

-- ---- declarations (Ada RM 3.1, 8.3)

abbrev pub clash : Sort → Sort → NameFault
clash (sort.Subprogram b p) (sort.Subprogram c q) = Overloaded
clash sort.Literal _ = Overloaded
clash _ sort.Literal = Overloaded
clash _ _ = Duplicate

abbrev pub with_entry : ℕ → Spot → Sort → Scopes → Scopes
with_entry n p t s = record s { top = record s.top { entries = s.top.entries ++ record { name = n; spot = p; sort = t; number = length s.top.entries } ∷ [] } }

abbrev pub entered : Ident → Spot → Sort → Scopes → Option Entry → Scopes
entered i p t s (Some old) = broken (clash old.sort t) i.at s
entered i p t s None = with_entry i.name p t s

-- an identifier is declared, whose first spelling stands at a place
abbrev pub enter : Ident → Spot → Sort → Scopes → Scopes
enter i p t s = entered i p t s (entry_of i.name s.top.entries)

abbrev pub profile_of : Scopes → Option ℕ → Option Profile
profile_of s None = None
profile_of s (Some k) = slice_get s.profiles k

abbrev pub same_named : ℕ → Option Formal → Option Formal
same_named n None = None
same_named n (Some d) = if d.name == n then Some d else None

abbrev pub formal_at : ℕ → Option Profile → Option Formal
formal_at k None = None
formal_at k (Some p) = slice_get p.formals k

-- a body's parameter in its declaration: at the same place, with the same name
abbrev pub first_formal : ℕ → Scopes → Option Formal
first_formal n s = same_named n (formal_at (length s.top.entries) (profile_of s s.top.first))

abbrev pub begun : ℕ → Spot → Scopes → Scopes
begun n p s = record s { top = record s.top { begun = s.top.begun ++ record { name = n; spot = p } ∷ [] } }

-- a parameter of a body is that of its declaration
abbrev pub parameter : Ident → Scopes → Option Formal → Scopes
parameter i s (Some d) = enter i d.spot sort.Plain (begun i.name (spot_in s i.at) (linked i.at (Declared d.spot) s))
parameter i s None = enter i (spot_in s i.at) sort.Plain (begun i.name (spot_in s i.at) s)

abbrev pub declares : Kind → Ident → Scopes → Scopes
declares kind.Parameter i s = parameter i s (first_formal i.name s)
declares kind.Literal i s = enter i (spot_in s i.at) sort.Literal s
declares _ i s = enter i (spot_in s i.at) sort.Plain s

-- the mode and the subtype of the parameters that were begun
abbrev pub parameters_end : Mode → Scopes → Scopes
parameters_end m s = record s {
  top = record s.top {
    profile = record { formals = told m s.last s.top.profile.formals s.top.begun; outcome = s.top.profile.outcome };
    begun = [];
    ended = length s.top.entries;
  };
}

abbrev pub result_ends : Scopes → Scopes
result_ends s = record s { top = record s.top { profile = record { formals = s.top.profile.formals; outcome = outcome.Function s.last } } }

-- ---- subprograms and their bodies (Ada RM 6.1, 6.3, 6.3.1)

-- the scope of a subprogram whose first spelling this is
abbrev pub begins : Ident → Scopes → Scopes
begins i s = pushed (owner.Subprogram i.name (spot_in s i.at) (spot_in s i.at)) None s

abbrev pub new_subprogram : Ident → Bool → Scopes → Scopes
new_subprogram i b s = begins i (all_ended (with_entry i.name (spot_in s i.at) (sort.Subprogram b (length s.profiles)) s))

-- a second declaration of the name
abbrev pub subprogram_again : Ident → Sort → Scopes → Scopes
subprogram_again i t s = begins i (broken (clash t (sort.Subprogram false 0)) i.at s)

abbrev pub completes : Ident → Spot → ℕ → Scopes → Scopes
completes i first k s =
    pushed (owner.Subprogram i.name first (spot_in s i.at)) (Some k)
    (linked i.at (Declared first) (record s { top = record s.top { entries = with_body i.name k s.top.entries } }))

-- the body of what is declared without one
abbrev pub body_for : Ident → Spot → Scopes → Sort → Scopes
body_for i first s (sort.Subprogram false k) = completes i first k s
body_for i first s t = subprogram_again i t s

abbrev pub subprogram_opens : Ident → Bool → Scopes → Option Entry → Scopes
subprogram_opens i b s None = new_subprogram i b s
subprogram_opens i true s (Some e) = body_for i e.spot s e.sort
subprogram_opens i false s (Some e) = subprogram_again i e.sort s

-- the profile of the subprogram that is declared here, which is visible from now on
abbrev pub profile_given : Scopes → Scopes
profile_given s = record s { top = record s.top { profile = no_profile; hidden = false }; profiles = s.profiles ++ s.top.profile ∷ [] }

abbrev pub compared : Spot → Scopes → Option Profile → Scopes
compared own s None = s
compared own s (Some p) = if same_profile p s.top.profile then s else broken SpecMismatch own.at s

abbrev pub profile_ended : Scopes → Owner → Option ℕ → Scopes
profile_ended s (owner.Subprogram n first own) None = profile_given s
profile_ended s (owner.Subprogram n first own) (Some k) = compared own s (slice_get s.profiles k)
profile_ended s _ _ = s

-- ---- packages (Ada RM 7.1, 7.2)

abbrev pub package_opens : Ident → Scopes → Scopes
package_opens i s =
    record (pushed (owner.Package i.name (spot_in s i.at)) None (all_ended (enter i (spot_in s i.at) sort.Package s))) { inside = Some i.name }

-- the body goes on in the scope of its declaration
abbrev pub body_opens : Ident → Scopes → Option Spot → Scopes
body_opens i s (Some p) = linked i.at (Declared p) s
body_opens i s None = package_opens i s

abbrev pub opens : Scope → Scopes → Scopes
opens (scope.Package i) s = package_opens i s
opens (scope.PackageBody i) s = body_opens i s (package_named i.name s.top.owner)
opens (scope.Subprogram i b) s = subprogram_opens i b s (entry_of i.name s.top.entries)
opens _ s = pushed owner.Block None s

-- ---- ends of lists and of units

abbrev pub is_still : Link → Found → Bool
is_still a (One b) = same_link a b
is_still a _ = false

abbrev pub looked_again : Late → Scopes → Found → Scopes
looked_again t s f = if is_still t.link f then s else broken AmbiguousName t.at s

abbrev pub late_ones : List LibraryUnit → Scopes → List Late → Scopes
late_ones l s [] = s
late_ones l s (t ∷ ts) = late_ones l (looked_again t s (meaning l s t.name)) ts

abbrev pub list_ends : List LibraryUnit → Scopes → Scopes
list_ends l s = late_ones l (record s { late = [] }) s.late

abbrev pub end_name : Ident → Scopes → Option Spot → Scopes
end_name i s (Some p) = linked i.at (Declared p) s
end_name i s None = broken SpecMismatch i.at s

-- ---- all events

abbrev pub step : List LibraryUnit → Scopes → Event → Scopes
step l s (event.With i) = withed i s (declaration_of l i.name)
step l s (event.ContextUse i) = in_use i s (context_package l i.name s.context)
step l s (event.Use i) = used l i s (meaning l s i.name)
step l s (event.Opens o) = opens o s
step l s event.Closes = closed s s.outer
step l s event.ListEnds = list_ends l s
step l s (event.Declares k i) = declares k i s
step l s event.DeclarationEnds = all_ended s
step l s (event.ParametersEnd m) = parameters_end m s
step l s event.ResultEnds = result_ends s
step l s event.ProfileEnds = profile_ended s s.top.owner s.top.first
step l s (event.Name i m) = named i m s (meaning l s i.name)
step l s (event.Selects i) = selected i s (member l (frames s) i.name s.last)
step l s (event.EndName i) = end_name i s (named_as i.name s.top.owner)
step l s (event.LeftOut at) = broken LeftOut at s

abbrev pub after : List LibraryUnit → Scopes → List Event → Scopes
after l = fold (step l)
