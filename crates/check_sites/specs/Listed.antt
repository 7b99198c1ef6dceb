-- What the code finds on the way to the sites. It serves the proof alone.
use Rattle.std.specs.Prelude.{pos, is_some, Bool, false, cond, List, [], ◌∷◌, ◌++◌, Option, Some, None}
use Rattle.std.specs.Option.{option_to_list}
use Rattle.typed_units.specs.declared.checks.SiteKey.{SiteKey}
use Rattle.typed_units.specs.Sites.{same_site}
use Rattle.ada_values.specs.declared.scalars.Scalar.{Scalar}
use Rattle.ada_values.specs.declared.shapes.Shape.{Shape}
use Rattle.typed_units.specs.declared.checks.CheckKind.TheVariants as kind
use Rattle.typed_units.specs.declared.programs.Sub.{Sub}
use Rattle.typed_units.specs.declared.statements.Way.{Way}
use Rattle.typed_units.specs.View.{expr, scalar_in}
use Rattle.check_sites.specs.Sites.{place_of, site}
use Rattle.check_sites.specs.declared.site.Checks.{Checks}
use Rattle.check_sites.specs.declared.site.Site.{Site}

abbrev pub listed : Checks → List SiteKey
listed c = option_to_list c.first ++ option_to_list c.second

-- the code keeps a site where the one before it has another key
abbrev pub is_same : Option SiteKey → SiteKey → Bool
is_same None c = false
is_same (Some d) c = same_site d c

abbrev pub each_once : Option SiteKey → List Site → List Site
each_once last [] = []
each_once last (s ∷ ss) = cond (is_same last s.key) (each_once (Some s.key) ss) (s ∷ each_once (Some s.key) ss)

abbrev pub scalar_of : Option Shape → Scalar
scalar_of (Some shape) = scalar_in shape
scalar_of None = record { lo = pos 1; hi = pos 0; base_lo = pos 1; base_hi = pos 0; modulus = None }

abbrev pub sub_has_pre : Option Sub → Bool
sub_has_pre (Some sub) = is_some sub.pre
sub_has_pre None = false

abbrev pub way_checks : List Shape → Option Way → List SiteKey
way_checks shapes (Some way) = site (place_of (expr shapes way.value)) kind.Variant ∷ []
way_checks shapes None = []
