-- The sites of a program: its checks in the order of places and kinds, without repeats.
use Rattle.std.specs.Prelude.{cond, List, [], ◌∷◌}
use Rattle.typed_units.specs.Sites.{site_before}
use Rattle.typed_units.specs.Syntax.{Text}
use Rattle.check_sites.specs.declared.site.Site.{Site}
use Rattle.check_sites.specs.Sites.{checks_from}

-- a site in its place among sites that are in order; where one stands at its key, it replaces that
abbrev pub placed : Site → List Site → List Site
placed s [] = s ∷ []
placed s (x ∷ xs) = cond (site_before s.key x.key) (s ∷ x ∷ xs) (cond (site_before x.key s.key) (x ∷ placed s xs) (s ∷ xs))

-- in the order of keys, each key once; the first of a key stands
abbrev pub in_order : List Site → List Site
in_order [] = []
in_order (s ∷ ss) = placed s (in_order ss)

-- the sites of a program
abbrev pub sites_of : Text → List Site
sites_of t = in_order (checks_from t 0 t.routines)
