-- What it means that the goals of a site are valid.
use Rattle.std.specs.Prelude.{◌≡◌, ℕ, true, Some, List, [], ◌∷◌}
use Rattle.ada_values.specs.Value.{Val}
use Rattle.logic_terms.specs.Sorting.{IsValid}
use Rattle.typed_units.specs.declared.checks.SiteKey.{SiteKey}
use Rattle.typed_units.specs.Syntax.{Routine, Text}
use Rattle.ada_semantics.specs.Plain.{routine_at, plain, fails, inputs_fit}
use Rattle.vc_tree.specs.Tree.{Tree}
use Rattle.vc_tree.specs.Goals.{SiteGoal, goals_of}
use Rattle.vc_tree.specs.Rules.{tree_of}

-- each goal of the site is valid
abbrev pub ValidAt : SiteKey → List SiteGoal → Type 0
ValidAt c [] = Unit {0}
ValidAt c (g ∷ gs) = (g.site ≡ c → IsValid g.problem) × ValidAt c gs

-- Where all goals of a site are valid, no run of the subprogram, from inputs in their shapes and with any budget, fails
-- first there.
abbrev pub Proved : Type 0
Proved =
    (p : Text) (q : ℕ) (r : Routine) (t : Tree) → routine_at p.routines q ≡ Some r → tree_of p r ≡ Some t
    → (c : SiteKey) → ValidAt c (goals_of [] t)
    → (params globals : List Val) (n : ℕ) → inputs_fit p r params globals ≡ true → plain p q params globals n ≡ fails c → ⊥
