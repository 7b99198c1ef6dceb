-- What the events of a file declare in the scopes that are open: opening, closing and declaring alone, with no look-up.
use Rattle.std.specs.Prelude.{◌≡◌, ℕ, Bool, false, ◌==◌, ◌++◌, List, [], ◌∷◌, find, Option, Some, None, fold, if◌then◌else◌}
use Rattle.name_library.specs.declared.events.Event.{Event}
use Rattle.name_library.specs.declared.events.Event.TheVariants as event
use Rattle.name_library.specs.declared.events.Ident.{Ident}
use Rattle.name_library.specs.declared.events.Kind.{Kind}
use Rattle.name_library.specs.declared.events.Kind.TheVariants as kind
use Rattle.name_library.specs.declared.events.Scope.{Scope}
use Rattle.name_library.specs.declared.events.Scope.TheVariants as scope
use Rattle.name_library.specs.declared.links.Link.TheVariants.{Declared, Predefined}
use Rattle.name_library.specs.declared.links.Spot.{Spot}
use Rattle.name_library.specs.Library.{spot_of}
use Rattle.name_frames.specs.declared.meaning.Found.{Found}
use Rattle.name_frames.specs.declared.meaning.Found.TheVariants.{One, Missing, Several}

-- an identifier that is declared. The place of a parameter is left open: a body's stands for that of the declaration
pub record Item : Type 0 where
  pub name : ℕ
  pub place : Option Spot

-- a scope that is open: the package whose it is, and what is declared in it, in the order of the text
pub record Open : Type 0 where
  pub unit : Option ℕ
  pub items : List Item

abbrev pub item_of : ℕ → Ident → Item
item_of file i = record { name = i.name; place = Some (spot_of file i) }

abbrev pub parameter_of : Ident → Item
parameter_of i = record { name = i.name; place = None }

abbrev pub item_named : ℕ → List Item → Option Item
item_named n = find (λ i. i.name == n)

abbrev pub item_added : Item → List Item → Option Item → List Item
item_added i is (Some j) = is
item_added i is None = is ++ i ∷ []

-- in one scope the first declaration of a name counts
abbrev pub with_item : Item → Open → Open
with_item i o = record { unit = o.unit; items = item_added i o.items (item_named i.name o.items) }

abbrev pub declare : Item → List Open → List Open
declare i [] = []
declare i (o ∷ os) = with_item i o ∷ os

abbrev pub new_open : Option ℕ → Open
new_open u = record { unit = u; items = [] }

abbrev pub is_unit : ℕ → Option ℕ → Bool
is_unit n (Some m) = m == n
is_unit n None = false

abbrev pub unit_of : List Open → Option ℕ
unit_of [] = None
unit_of (o ∷ os) = o.unit

-- a package's body goes on in the scope of its declaration
abbrev pub opened : ℕ → Scope → List Open → List Open
opened file (scope.Package i) os = new_open (Some i.name) ∷ declare (item_of file i) os
opened file (scope.PackageBody i) os = if is_unit i.name (unit_of os) then os else (new_open (Some i.name) ∷ declare (item_of file i) os)
opened file (scope.Subprogram i b) os = new_open None ∷ declare (item_of file i) os
opened file scope.Record os = new_open None ∷ os
opened file scope.Loop os = new_open None ∷ os
opened file scope.Quantified os = new_open None ∷ os

abbrev pub without_innermost : List Open → List Open
without_innermost [] = []
without_innermost (o ∷ []) = o ∷ []
without_innermost (o ∷ p ∷ os) = p ∷ os

abbrev pub declared_as : ℕ → Kind → Ident → Item
declared_as file kind.Parameter i = parameter_of i
declared_as file _ i = item_of file i

abbrev pub open_step : ℕ → List Open → Event → List Open
open_step file os (event.Opens o) = opened file o os
open_step file os event.Closes = without_innermost os
open_step file os (event.Declares k i) = declare (declared_as file k i) os
open_step file os _ = os

-- the scopes that are open after events, the innermost first
abbrev pub open_after : ℕ → List Open → List Event → List Open
open_after file = fold (open_step file)

-- the units' scope, which is around all others
abbrev pub nothing_open : List Open
nothing_open = new_open None ∷ []

abbrev pub else_item : Option Item → Option Item → Option Item
else_item (Some i) j = Some i
else_item None j = j

-- the last declaration of a name whose scope is open, of two in one scope the first
abbrev pub last_declared : ℕ → List Open → Option Item
last_declared n [] = None
last_declared n (o ∷ os) = else_item (item_named n o.items) (last_declared n os)

abbrev pub IsAt : Option Spot → Spot → Type 0
IsAt None p = Unit {0}
IsAt (Some q) p = p ≡ q

-- a declaration is what a name stands for, if the name stands for anything, as it doesn't inside the declaration itself
abbrev pub StandsFor : Item → Found → Type 0
StandsFor i Missing = Unit {0}
StandsFor i (One (Declared p)) = IsAt i.place p
StandsFor i (One (Predefined m)) = ⊥
StandsFor i Several = ⊥
