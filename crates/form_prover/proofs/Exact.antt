-- The rows of a file of the first form, assertion by assertion.
use Rattle.std.proofs.Common.{◌≡◌, ℕ, zero, suc, refl, ap, sym, ◌∙◌, Bool, Option, Some, List, [], ◌∷◌, ◌++◌, map, length, append_assoc}
use Rattle.std.specs.Prelude.{not, ◌&&◌, ◌||◌}
use Rattle.typed_units.specs.declared.checks.CheckKind.TheVariants as kind
use Rattle.typed_units.specs.declared.checks.SiteKey.{SiteKey}
use Rattle.typed_units.specs.declared.programs.Mode.TheVariants as mode
use Rattle.typed_units.specs.Syntax.{at}
use Rattle.ada_values.specs.declared.place.Place.{Place}
use Rattle.ada_values.specs.declared.shapes.Shape.TheVariants as shape
use Rattle.ada_semantics.specs.Outcome.{site}
use Rattle.logic_terms.specs.Node as node
use Rattle.logic_terms.specs.Node.{Node}
use Rattle.logic_terms.specs.Value.{numbers}
use Rattle.vc_tree.specs.declared.AnyRole.TheVariants as any_role
use Rattle.vc_tree.specs.Tree as tree
use Rattle.vc_tree.specs.Tree.{Tree}
use Rattle.vc_tree.specs.Goals.{Way, SiteGoal, meet, learn, goals_from}
use Rattle.vc_tree.specs.Rules.{bounds_of, formula_of, statements, symbol_of, inputs, tree_of}
use Rattle.first_form.specs.declared.form.FirstForm.{FirstForm}
use Rattle.first_form.specs.declared.form.Assertion.{Assertion}
use Rattle.first_form.specs.declared.form.Operand.{Operand}
use Rattle.first_form.specs.declared.form.Operand.TheVariants.{Number, Name}
use Rattle.form_prover.specs.declared.rows.Row.{Row}
use Rattle.form_prover.specs.declared.verdicts.Verdict.{Verdict}
use Rattle.form_prover.specs.Program.{shapes_of, compared, assertions, procedure_of, program_of}
use Rattle.ada_values.specs.Scalars.{integer}
use Rattle.typed_units.specs.Sites.{same_site}
use Rattle.form_prover.specs.Rows.{all_said, sites_of, rows_from, rows_with, one_worker}
use Rattle.form_prover.specs.Formulas.{compared_node, condition_node, input_nodes, says, verdicts_on, all_proved, row_among}
use Rattle.form_prover.proofs.Numbering.{says-numbered}

-- ---- the tree

abbrev pub tree_from : List (List ℕ) → List Assertion → Tree
tree_from ps [] = tree.done
tree_from ps (a ∷ as') = tree.check (site a.left.place kind.Assert) (condition_node ps a) (tree_from ps as')

formula_is : (ps : List (List ℕ)) (a : Assertion) (p : Place) (z : ℕ) (x y : Operand)
    → formula_of symbol_of (at p z (compared ps a x y)) ≡ Some (compared_node ps a.relation x y)
formula_is ps a p z (Number m) (Number n) = refl
formula_is ps a p z (Number m) (Name y) = refl
formula_is ps a p z (Name x) (Number n) = refl
formula_is ps a p z (Name x) (Name y) = refl

body_is : (ps : List (List ℕ)) (as' : List Assertion) → statements symbol_of (assertions ps as') ≡ Some (tree_from ps as')
body_is ps [] = refl
body_is ps (a ∷ as') = rw (formula_is ps a a.left.place 2 a.left.operand a.right.operand, body_is ps as')

abbrev pub input_tree : ℕ → ℕ → Tree → Tree
input_tree zero k t = t
input_tree (suc n) k t = tree.any k numbers (any_role.Input k) (tree.assume (bounds_of integer (node.sym k)) (input_tree n (suc k) t))

inputs_are : (ps : List (List ℕ)) (k : ℕ) (t : Tree)
    → inputs shapes_of (map (λ p. record { mode = mode.In; subtype = 1 }) ps) k t ≡ Some (input_tree (length ps) k t)
inputs_are [] k t = refl
inputs_are (p ∷ ps) k t = rw (inputs_are ps (suc k) t)

pub tree_is : (f : FirstForm) → tree_of (program_of f) (procedure_of f) ≡ Some (input_tree (length f.params) 0 (tree_from f.params f.assertions))
tree_is f = rw (body_is f.params f.assertions, inputs_are f.params 0 (tree_from f.params f.assertions))

-- ---- the goals

abbrev pub way_after : ℕ → ℕ → Way → Way
way_after zero k y = y
way_after (suc n) k y = way_after n (suc k) (learn (meet y k numbers (any_role.Input k)) (bounds_of integer (node.sym k)))

pub goals_after : (n k : ℕ) (y : Way) (t : Tree) → goals_from [] y (input_tree n k t) ≡ goals_from [] (way_after n k y) t
goals_after zero k y t = refl
goals_after (suc n) k y t = goals_after n (suc k) (learn (meet y k numbers (any_role.Input k)) (bounds_of integer (node.sym k))) t

append-nil : (ps : List Node) → ps ++ [] ≡ ps
append-nil [] = refl
append-nil (p ∷ ps) = ap (λ (qs : List Node). p ∷ qs) (append-nil ps)

hypotheses_after : (n k : ℕ) (y : Way) → (way_after n k y).hypotheses ≡ y.hypotheses ++ input_nodes n k
hypotheses_after zero k y = sym (append-nil y.hypotheses)
hypotheses_after (suc n) k y =
    hypotheses_after n (suc k) (learn (meet y k numbers (any_role.Input k)) (bounds_of integer (node.sym k)))
    ∙ append_assoc y.hypotheses (bounds_of integer (node.sym k) ∷ []) (input_nodes n (suc k))

-- ---- the verdicts

-- what the prover says of a site's goals is what the verdicts say
said_is : (ps : List (List ℕ)) (y : Way) (as' : List Assertion) (c : SiteKey) → all_said c (goals_from [] y (tree_from ps as')) ≡ all_proved c (verdicts_on ps y.hypotheses as')
said_is ps y [] c = refl
said_is ps y (a ∷ as') c =
    let p = condition_node ps a in
    let own = site a.left.place kind.Assert in
    let rest = said_is ps (learn y p) as' c in
    let first = says-numbered y.hypotheses p in
    ap (λ (b : Bool). (not (same_site own c) || b) && all_said c (goals_from [] (learn y p) (tree_from ps as'))) first
    ∙ ap (λ (b : Bool). (not (same_site own c) || says y.hypotheses p) && b) rest

rows_are : (ps : List (List ℕ)) (gs : List SiteGoal) (vs : List Verdict) → ((c : SiteKey) → all_said c gs ≡ all_proved c vs) → (hs : List Node) (as' : List Assertion)
    → rows_from gs (sites_of (assertions ps as')) ≡ map (row_among vs) (verdicts_on ps hs as')
rows_are ps gs vs h hs [] = refl
rows_are ps gs vs h hs (a ∷ as') = rw (h (site a.left.place kind.Assert), rows_are ps gs vs h (hs ++ condition_node ps a ∷ []) as')

abbrev pub rows_among : List Verdict → List Row
rows_among vs = map (row_among vs) vs

pub one_worker_is : (f : FirstForm) → one_worker (program_of f) (procedure_of f) ≡ rows_among (verdicts_on f.params (input_nodes (length f.params) 0) f.assertions)
one_worker_is f =
    let start : Way = record { symbols = []; choices = 0; hypotheses = [] } in
    let n = length f.params in
    let y = way_after n 0 start in
    let t = tree_from f.params f.assertions in
    let cs = sites_of (assertions f.params f.assertions) in
    let vs = verdicts_on f.params y.hypotheses f.assertions in
    ap (λ (o : Option Tree). rows_with o cs) (tree_is f)
    ∙ ap (λ (gs : List SiteGoal). rows_from gs cs) (goals_after n 0 start t)
    ∙ rows_are f.params (goals_from [] y t) vs (said_is f.params y f.assertions) y.hypotheses f.assertions
    ∙ ap (λ (hs : List Node). rows_among (verdicts_on f.params hs f.assertions)) (hypotheses_after n 0 start)
