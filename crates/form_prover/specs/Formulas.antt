-- The formulas of a file of the first form, and what the prover says of them, assertion by assertion.
use Rattle.std.specs.Prelude.{ℕ, zero, suc, Bool, true, not, ◌&&◌, ◌||◌, Option, Some, None, List, [], ◌∷◌, ◌++◌, unwrap_or, pos}
use Rattle.typed_units.specs.declared.operators.Relation.{Relation}
use Rattle.typed_units.specs.declared.checks.CheckKind.TheVariants as kind
use Rattle.typed_units.specs.declared.checks.SiteKey.{SiteKey}
use Rattle.ada_semantics.specs.Outcome.{site}
use Rattle.ada_semantics.specs.Operators.{ordered}
use Rattle.logic_terms.specs.Node as node
use Rattle.logic_terms.specs.Node.{Node}
use Rattle.vc_tree.specs.Rules.{related, bounds_of}
use Rattle.first_form.specs.declared.form.Assertion.{Assertion}
use Rattle.first_form.specs.declared.form.Operand.{Operand}
use Rattle.first_form.specs.declared.form.Operand.TheVariants.{Number, Name}
use Rattle.first_form.specs.Places.{position_of}
use Rattle.form_prover.specs.declared.rows.Row.{Row}
use Rattle.form_prover.specs.declared.verdicts.Verdict.{Verdict}
use Rattle.ada_values.specs.Scalars.{integer}
use Rattle.form_prover.specs.Given.{some_equals, some_false, computed, is_true}
use Rattle.typed_units.specs.Sites.{same_site}

abbrev pub operand_node : List (List ℕ) → Operand → Node
operand_node ps (Number n) = node.num (pos n)
operand_node ps (Name x) = node.sym (unwrap_or (position_of ps x) 0)

abbrev pub compared_node : List (List ℕ) → Relation → Operand → Operand → Node
compared_node ps r (Number m) (Number n) = node.flag (ordered r (pos m) (pos n))
compared_node ps r x y = related r (operand_node ps x) (operand_node ps y)

abbrev pub condition_node : List (List ℕ) → Assertion → Node
condition_node ps a = compared_node ps a.relation a.left.operand a.right.operand

-- the truth of a condition that is static
abbrev pub static_of : Relation → Operand → Operand → Option Bool
static_of r (Number m) (Number n) = Some (ordered r (pos m) (pos n))
static_of r x y = None

abbrev pub static_truth : Assertion → Option Bool
static_truth a = static_of a.relation a.left.operand a.right.operand

-- the assumptions of so many inputs, from the symbol k on
abbrev pub input_nodes : ℕ → ℕ → List Node
input_nodes zero k = []
input_nodes (suc n) k = bounds_of integer (node.sym k) ∷ input_nodes n (suc k)

-- what the prover says of a conclusion under some hypotheses
abbrev pub says : List Node → Node → Bool
says hs p = some_equals hs p || is_true (computed p) || some_false hs

-- the verdict on an assertion under some hypotheses
abbrev pub verdict_on : List (List ℕ) → List Node → Assertion → Verdict
verdict_on ps hs a = record { site = site a.left.place kind.Assert; proved = says hs (condition_node ps a) }

-- the verdicts on assertions, where hs are the hypotheses of the first
abbrev pub verdicts_on : List (List ℕ) → List Node → List Assertion → List Verdict
verdicts_on ps hs [] = []
verdicts_on ps hs (a ∷ as') = verdict_on ps hs a ∷ verdicts_on ps (hs ++ condition_node ps a ∷ []) as'

-- each goal of the site is proved
abbrev pub all_proved : SiteKey → List Verdict → Bool
all_proved c [] = true
all_proved c (v ∷ vs) = (not (same_site v.site c) || v.proved) && all_proved c vs

-- the row of a verdict's site, among all verdicts
abbrev pub row_among : List Verdict → Verdict → Row
row_among vs v = record { site = v.site; proved = all_proved v.site vs }
