-- How scopes nest in a list of events.
use Rattle.std.specs.Prelude.{ℕ, zero, suc, List, Option, Some, None, fold}
use Rattle.name_library.specs.declared.events.Event.{Event}
use Rattle.name_library.specs.declared.events.Event.TheVariants as event
use Rattle.name_library.specs.declared.events.Scope.{Scope}
use Rattle.name_library.specs.declared.events.Scope.TheVariants as scope

-- a package opens outside of all other scopes, and isn't counted: nothing closes it
abbrev pub opened_in : ℕ → Scope → Option ℕ
opened_in zero (scope.Package i) = Some zero
opened_in (suc d) (scope.Package i) = None
opened_in zero (scope.PackageBody i) = Some zero
opened_in (suc d) (scope.PackageBody i) = None
opened_in d (scope.Subprogram i b) = Some (suc d)
opened_in d scope.Record = Some (suc d)
opened_in d scope.Loop = Some (suc d)
opened_in d scope.Quantified = Some (suc d)

abbrev pub closed_in : ℕ → Option ℕ
closed_in zero = None
closed_in (suc d) = Some d

abbrev pub depth_in : ℕ → Event → Option ℕ
depth_in d (event.Opens s) = opened_in d s
depth_in d event.Closes = closed_in d
depth_in d _ = Some d

abbrev pub depth_after : Option ℕ → Event → Option ℕ
depth_after None e = None
depth_after (Some d) e = depth_in d e

-- how many scopes stand open, besides a package's; none where more close than open, or a package opens inside of another scope
unfoldable pub depth : List Event → Option ℕ
depth = fold depth_after (Some zero)
