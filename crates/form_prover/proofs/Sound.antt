-- A site whose row is proved is one at which no run fails first.
use Rattle.std.proofs.Common.{◌≡◌, ℕ, zero, suc, refl, ap, sym, subst, ◌∙◌, inl, inr, true, Option, Some, List, [], ◌∷◌, arith}
use Rattle.std.specs.Prelude.{not, ◌||◌, ◌<◌, length, slice_index_or}
use Rattle.ada_values.specs.Value.{Val}
use Rattle.typed_units.specs.declared.checks.SiteKey.{SiteKey}
use Rattle.ada_semantics.specs.Plain.{plain, fails, inputs_fit}
use Rattle.vc_tree.specs.Tree.{Tree}
use Rattle.vc_tree.specs.Goals.{SiteGoal, goals_of}
use Rattle.vc_tree.specs.Rules.{tree_of}
use Rattle.vc_tree.proofs.Proved.{proved}
use Rattle.first_form.specs.declared.form.FirstForm.{FirstForm}
use Rattle.form_prover.specs.declared.rows.Row.{Row}
use Rattle.form_prover.specs.Program.{procedure_of, program_of}
use Rattle.form_prover.specs.Sound.{ProvedRowsHold}
use Rattle.form_prover.proofs.Exact.{input_tree, tree_from, tree_is}
use Rattle.vc_tree.specs.Sound.{ValidAt}
use Rattle.vc_tree.proofs.Inputs.{both_true}
use Rattle.form_prover.specs.Given.{given_says}
use Rattle.typed_units.specs.Sites.{same_site}
use Rattle.form_prover.specs.Rows.{all_said, sites_of, rows_from, rows_with, one_worker}
use Rattle.form_prover.proofs.Valid.{or_cases, given_valid}

same_site-refl : (c : SiteKey) → same_site c c ≡ true
same_site-refl c = grind arith

said_valid : (g : SiteGoal) (c : SiteKey) → (not (same_site g.site c) || given_says g.problem) ≡ true → g.site ≡ c → given_says g.problem ≡ true
said_valid g c h e =
    let d : same_site g.site c ≡ true = ap (λ (s : SiteKey). same_site s c) e ∙ same_site-refl c in
    elim (or_cases (not (same_site g.site c)) (given_says g.problem) h) [
      | inl f ↦ cc
      | inr f ↦ f
    ]

pub all_said_valid : (c : SiteKey) (gs : List SiteGoal) → all_said c gs ≡ true → ValidAt c gs
all_said_valid c [] h = tt
all_said_valid c (g ∷ gs) h =
    let b = both_true (not (same_site g.site c) || given_says g.problem) (all_said c gs) h in
    (λ e. given_valid g.problem (said_valid g c b.0 e), all_said_valid c gs b.1)

-- ---- the rows

row_said : (gs : List SiteGoal) (cs : List SiteKey) (row : Row) (k : ℕ) → k < length (rows_from gs cs) → slice_index_or (rows_from gs cs) k row ≡ row
    → row.proved ≡ all_said row.site gs
row_said gs [] row k h e = absurd (omega arith)
row_said gs (c ∷ cs) row zero h e =
    let d : record { site = c; proved = all_said c gs } ≡ row = e in
    sym (ap (λ (r : Row). r.proved) d) ∙ ap (λ (r : Row). all_said r.site gs) d
row_said gs (c ∷ cs) row (suc k) h e = row_said gs cs row k (omega arith) e

proved_row : (f : FirstForm) (t : Tree) → tree_of (program_of f) (procedure_of f) ≡ Some t → (row : Row) (k : ℕ)
    → k < length (one_worker (program_of f) (procedure_of f)) → slice_index_or (one_worker (program_of f) (procedure_of f)) k row ≡ row
    → row.proved ≡ true → (params globals : List Val) (n : ℕ) → inputs_fit (program_of f) (procedure_of f) params globals ≡ true
    → plain (program_of f) 0 params globals n ≡ fails row.site → ⊥
proved_row f t e row k h i p params globals n fit run =
    let cs = sites_of (procedure_of f).body in
    let d : one_worker (program_of f) (procedure_of f) ≡ rows_from (goals_of [] t) cs = ap (λ (o : Option Tree). rows_with o cs) e in
    let s = row_said (goals_of [] t) cs row k
    (subst (λ (rs : List Row). k < length rs) d h) (subst (λ (rs : List Row). slice_index_or rs k row ≡ row) d i) in
    proved (program_of f) 0 (procedure_of f) t refl e row.site (all_said_valid row.site (goals_of [] t) (sym s ∙ p)) params globals n fit run

pub rows_hold : ProvedRowsHold
rows_hold f row h e params globals n fit run =
    proved_row f (input_tree (length f.params) 0 (tree_from f.params f.assertions)) (tree_is f) row h.0 h.1 h.2 e params globals n fit run
