-- The events of a file (Ada RM 7.1, 7.2, 10.1).
use Rattle.std.specs.Prelude.{ℕ, Bool, true, false, ◌&&◌, List, [], ◌∷◌, Option, Some, None}
use Rattle.name_library.specs.declared.events.Event.{Event}
use Rattle.name_library.specs.declared.events.Event.TheVariants as event
use Rattle.name_library.specs.declared.events.Scope.TheVariants as scope
use Rattle.name_events.specs.Declarations.{aspects_onto, decls_onto, end_name_onto, pragma_in_onto, sub_onto}
use Rattle.name_uses.specs.Told.{ident, told, listed_onto}
use Rattle.name_uses.specs.declared.places.Listed.TheVariants as listed
use Rattle.name_events.specs.declared.words.Region.TheVariants as region
use Rattle.syntax_view.specs.Trees.{ContextItem, pragma_item, with_item, use_item, Decls, Package, PackageBody, UnitForm, package_unit, package_body_unit, sub_unit, SourceUnit}

abbrev pub is_pragma_item : ContextItem → Bool
is_pragma_item (pragma_item p) = true
is_pragma_item (with_item is) = false
is_pragma_item (use_item is) = false

-- with true before the first clause: there alone stands SPARK_Mode, as it does in a package's body
abbrev pub context_item_onto : (ℕ → ℕ) → Bool → List Event → ContextItem → List Event
context_item_onto n b xs (pragma_item p) = pragma_in_onto n region.Body b xs p
context_item_onto n b xs (with_item is) = listed_onto n listed.With xs is
context_item_onto n b xs (use_item is) = listed_onto n listed.ContextUse xs is

abbrev pub context_onto : (ℕ → ℕ) → Bool → List Event → List ContextItem → List Event
context_onto n b xs [] = xs
context_onto n b xs (i ∷ is) = context_onto n (b && is_pragma_item i) (context_item_onto n b xs i) is

abbrev pub private_onto : (ℕ → ℕ) → List Event → Option Decls → List Event
private_onto n xs None = xs
private_onto n xs (Some ds) = told (decls_onto n region.Private true xs ds) event.ListEnds

abbrev pub package_onto : (ℕ → ℕ) → List Event → Package → List Event
package_onto n xs p =
    end_name_onto n
    (private_onto n
    (told (decls_onto n (region.Visible (n p.name.from)) true (aspects_onto n (told xs (event.Opens (scope.Package (ident n p.name)))) p.aspects) p.declarations) event.ListEnds)
    p.hidden)
    p.end_name

abbrev pub package_body_onto : (ℕ → ℕ) → List Event → PackageBody → List Event
package_body_onto n xs p =
    end_name_onto n
    (told (decls_onto n region.Body true (aspects_onto n (told xs (event.Opens (scope.PackageBody (ident n p.name)))) p.aspects) p.declarations) event.ListEnds)
    p.end_name

abbrev pub unit_onto : (ℕ → ℕ) → List Event → UnitForm → List Event
unit_onto n xs (package_unit p) = package_onto n xs p
unit_onto n xs (package_body_unit p) = package_body_onto n xs p
unit_onto n xs (sub_unit q) = sub_onto n xs q

-- `n` gives the number of the name of the identifier that begins at a byte
abbrev pub events : (ℕ → ℕ) → SourceUnit → List Event
events n u = unit_onto n (context_onto n true [] u.context) u.unit.form
