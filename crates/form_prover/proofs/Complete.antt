-- A site at which some run fails has a row, so where all rows are proved no run fails.
use Rattle.std.proofs.Common.{◌≡◌, ℕ, zero, suc, refl, ap, sym, subst, ◌∙◌, ◌⊎◌, inl, inr, Bool, true, false, Option, Some, List, [], ◌∷◌, map, arith, ◌<◌, length}
use Rattle.std.specs.Prelude.{◌&&◌, slice_index_or, Contains}
use Rattle.std.specs.List.{list_all}
use Rattle.ada_values.specs.Value.{Val}
use Rattle.typed_units.specs.declared.checks.CheckKind.TheVariants as kind
use Rattle.typed_units.specs.declared.checks.SiteKey.{SiteKey}
use Rattle.typed_units.specs.Sites.{same_site}
use Rattle.typed_units.proofs.Sites.{same_is_equal, same_itself}
use Rattle.ada_semantics.specs.Outcome.{site}
use Rattle.ada_semantics.specs.Plain.{plain, fails, inputs_fit}
use Rattle.vc_tree.specs.Tree.{Tree}
use Rattle.vc_tree.specs.Goals.{SiteGoal, Way, learn, goals_from, goals_of}
use Rattle.vc_tree.specs.Rules.{tree_of}
use Rattle.vc_tree.specs.Sound.{ValidAt}
use Rattle.vc_tree.proofs.Inputs.{both_true}
use Rattle.vc_tree.proofs.Proved.{proved}
use Rattle.first_form.specs.declared.form.FirstForm.{FirstForm}
use Rattle.first_form.specs.declared.form.Assertion.{Assertion}
use Rattle.form_prover.specs.declared.rows.Row.{Row}
use Rattle.form_prover.specs.Formulas.{condition_node}
use Rattle.form_prover.specs.Program.{assertions, procedure_of, program_of}
use Rattle.form_prover.specs.Rows.{all_said, sites_of, rows_from, rows_with, one_worker}
use Rattle.form_prover.specs.Sound.{NeverFailsAt, FailingSitesHaveRows, AllProvedHold}
use Rattle.form_prover.proofs.Exact.{input_tree, tree_from, tree_is, way_after, goals_after}
use Rattle.form_prover.proofs.Sound.{rows_hold}

-- ---- sites of goals

abbrev sites_in : List SiteGoal → List SiteKey
sites_in gs = map (λ g. g.site) gs

-- a list with one more member in front has the members that it had
later : {A : Type 0} (x y : A) (xs : List A) → Contains xs y → Contains (x ∷ xs) y
later x y xs h = (suc h.0, (let l = h.1 in omega arith), h.2)

not_there : (g : SiteGoal) (c : SiteKey) → same_site g.site c ≡ false → g.site ≡ c → ⊥
not_there g c h e =
    let d : same_site g.site c ≡ true = ap (λ (s : SiteKey). same_site s c) e ∙ same_itself c in cc

-- a site is that of a goal, or all goals of it are valid, as there are none
abbrev GoalOrNone : List SiteGoal → SiteKey → Type 0
GoalOrNone gs c = Contains (sites_in gs) c ⊎ ValidAt c gs

first_or_later : (g : SiteGoal) (gs : List SiteGoal) (c : SiteKey) (b : Bool) → same_site g.site c ≡ b → GoalOrNone gs c → GoalOrNone (g ∷ gs) c
first_or_later g gs c true h rest = inl (0, omega arith, same_is_equal g.site c h)
first_or_later g gs c false h (inl w) = inl (later g.site c (sites_in gs) w)
first_or_later g gs c false h (inr v) = inr ((λ e. absurd (not_there g c h e)), v)

goal_or_none : (gs : List SiteGoal) (c : SiteKey) → GoalOrNone gs c
goal_or_none [] c = inr tt
goal_or_none (g ∷ gs) c = first_or_later g gs c (same_site g.site c) refl (goal_or_none gs c)

-- the goals of assertions stand at their sites, in order
sites_are : (ps : List (List ℕ)) (as' : List Assertion) (y : Way) → sites_in (goals_from [] y (tree_from ps as')) ≡ sites_of (assertions ps as')
sites_are ps [] y = refl
sites_are ps (a ∷ as') y = ap (λ (cs : List SiteKey). site a.left.place kind.Assert ∷ cs) (sites_are ps as' (learn y (condition_node ps a)))

abbrev start : Way
start = record { symbols = []; choices = 0; hypotheses = [] }

sites_of_form : (f : FirstForm) → sites_in (goals_of [] (input_tree (length f.params) 0 (tree_from f.params f.assertions))) ≡ sites_of (procedure_of f).body
sites_of_form f =
    ap sites_in (goals_after (length f.params) 0 start (tree_from f.params f.assertions))
    ∙ sites_are f.params f.assertions (way_after (length f.params) 0 start)

-- ---- rows

row_at : (gs : List SiteGoal) (cs : List SiteKey) (c : SiteKey) (k : ℕ) → k < length cs → slice_index_or cs k c ≡ c
    → Contains (rows_from gs cs) (record { site = c; proved = all_said c gs })
row_at gs [] c k h e = absurd (omega arith)
row_at gs (d ∷ cs) c zero h e = (0, omega arith, ap (λ (s : SiteKey). record { site = s; proved = all_said s gs }) e)
row_at gs (d ∷ cs) c (suc k) h e =
    later (record { site = d; proved = all_said d gs }) (record { site = c; proved = all_said c gs }) (rows_from gs cs) (row_at gs cs c k (omega arith) e)

rows_are : (f : FirstForm) → one_worker (program_of f) (procedure_of f)
    ≡ rows_from (goals_of [] (input_tree (length f.params) 0 (tree_from f.params f.assertions))) (sites_of (procedure_of f).body)
rows_are f = ap (λ (o : Option Tree). rows_with o (sites_of (procedure_of f).body)) (tree_is f)

abbrev RowAt : FirstForm → SiteKey → Type 0
RowAt f c = (row : Row) × Contains (one_worker (program_of f) (procedure_of f)) row × (row.site ≡ c)

found : (f : FirstForm) (c : SiteKey) → Contains (sites_of (procedure_of f).body) c → RowAt f c
found f c h =
    let gs = goals_of [] (input_tree (length f.params) 0 (tree_from f.params f.assertions)) in
    let row : Row = record { site = c; proved = all_said c gs } in
    (row, subst (λ (rs : List Row). Contains rs row) (sym (rows_are f)) (row_at gs (sites_of (procedure_of f).body) c h.0 h.1 h.2), refl)

pub failing_sites_have_rows : FailingSitesHaveRows
failing_sites_have_rows f c params globals n fit run =
    let t = input_tree (length f.params) 0 (tree_from f.params f.assertions) in
    elim (goal_or_none (goals_of [] t) c) [
      | inl w ↦ found f c (subst (λ (cs : List SiteKey). Contains cs c) (sites_of_form f) w)
      | inr v ↦ absurd (proved (program_of f) 0 (procedure_of f) t refl (tree_is f) c v params globals n fit run)
    ]

-- ---- all rows

each_proved : (rows : List Row) (r : Row) (k : ℕ) → list_all (λ x. x.proved) rows ≡ true → k < length rows → slice_index_or rows k r ≡ r → r.proved ≡ true
each_proved [] r k h l e = absurd (omega arith)
each_proved (x ∷ xs) r zero h l e =
    let b = both_true x.proved (list_all (λ (y : Row). y.proved) xs) h in sym (ap (λ (y : Row). y.proved) e) ∙ b.0
each_proved (x ∷ xs) r (suc k) h l e =
    let b = both_true x.proved (list_all (λ (y : Row). y.proved) xs) h in each_proved xs r k b.1 (omega arith) e

pub all_proved_hold : AllProvedHold
all_proved_hold f all c params globals n fit run =
    let w = failing_sites_have_rows f c params globals n fit run in
    let h = w.1 in
    rows_hold f w.0 h (each_proved (one_worker (program_of f) (procedure_of f)) w.0 h.0 all h.1 h.2) params globals n fit (run ∙ ap fails (sym w.2))
