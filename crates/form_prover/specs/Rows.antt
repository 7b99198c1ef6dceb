-- The rows of a report, as one worker makes them.
use Rattle.std.specs.Prelude.{ℕ, Bool, true, not, ◌&&◌, ◌||◌, Option, Some, None, List, [], ◌∷◌}
use Rattle.typed_units.specs.declared.checks.CheckKind.TheVariants as kind
use Rattle.typed_units.specs.declared.checks.SiteKey.{SiteKey}
use Rattle.typed_units.specs.Sites.{same_site}
use Rattle.typed_units.specs.Syntax as text
use Rattle.typed_units.specs.Syntax.{at, st, assert, Sts, Routine, Text}
use Rattle.ada_semantics.specs.Outcome.{site}
use Rattle.vc_tree.specs.Tree.{Tree}
use Rattle.vc_tree.specs.Goals.{SiteGoal, goals_of}
use Rattle.vc_tree.specs.Rules.{tree_of}
use Rattle.form_prover.specs.declared.rows.Row.{Row}
use Rattle.form_prover.specs.Given.{given_says}

-- each goal of the site is proved
abbrev pub all_said : SiteKey → List SiteGoal → Bool
all_said c [] = true
all_said c (g ∷ gs) = (not (same_site g.site c) || given_says g.problem) && all_said c gs

-- the sites of a list of assertions, in order
abbrev pub sites_of : Sts → List SiteKey
sites_of (text.then (st q (assert (at p z x))) rest) = site p kind.Assert ∷ sites_of rest
sites_of _ = []

abbrev pub rows_from : List SiteGoal → List SiteKey → List Row
rows_from gs [] = []
rows_from gs (c ∷ cs) = record { site = c; proved = all_said c gs } ∷ rows_from gs cs

abbrev pub rows_with : Option Tree → List SiteKey → List Row
rows_with None cs = []
rows_with (Some t) cs = rows_from (goals_of [] t) cs

-- a row for each site of the subprogram, in order
abbrev pub one_worker : Text → Routine → List Row
one_worker p r = rows_with (tree_of p r) (sites_of r.body)
