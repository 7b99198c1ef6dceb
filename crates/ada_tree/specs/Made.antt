-- What a production makes of its parts.
use Rattle.std.specs.Prelude.{ℕ, zero, suc, List, [], ◌∷◌}
use Rattle.tree_parts.specs.declared.parts.Part.{Part}
use Rattle.ada_tree.specs.declared.rules.Rule.{Rule}
use Rattle.ada_tree.specs.declared.rules.Rule.TheVariants as rule
use Rattle.ada_tree.specs.declared.rule_table.TheConstants.{RULES}
use Rattle.ada_tree.specs.Declarations.{declaration_rule, object_rule, other_declaration_rule}
use Rattle.ada_tree.specs.Expressions.{logic_rule, operation_rule, relation_rule}
use Rattle.ada_tree.specs.Items.{arg_rule, args_rule, conditional_rule, item_rule, optional_rule}
use Rattle.ada_tree.specs.Names.{attribute_rule, name_rule, primary_rule}
use Rattle.ada_tree.specs.Statements.{case_rule, choice_rule, direction_rule, if_rule, loop_rule, statement_rule}
use Rattle.ada_tree.specs.Subprograms.{aspect_rule, body_rule, mode_rule, param_rule, subprogram_rule}
use Rattle.ada_tree.specs.Types.{composite_rule, index_rule, subtype_rule, type_form_rule}
use Rattle.ada_tree.specs.Units.{clause_rule, context_rule, names_rule, package_rule, unit_rule}
use Rattle.tree_parts.specs.Parts.{rest}

-- the parts after a rule has taken its parts from the front, and has put there what it makes of them
abbrev pub made : Rule → List Part → List Part
made rule.Same s = s
made rule.AfterWord s = rest s
made (rule.Context r) s = context_rule r s
made (rule.Clause r) s = clause_rule r s
made (rule.Names r) s = names_rule r s
made (rule.Unit r) s = unit_rule r s
made (rule.Package r) s = package_rule r s
made (rule.Declaration r) s = declaration_rule r s
made (rule.OtherDeclaration r) s = other_declaration_rule r s
made (rule.Object r) s = object_rule r s
made (rule.TypeForm r) s = type_form_rule r s
made (rule.Composite r) s = composite_rule r s
made (rule.Index r) s = index_rule r s
made (rule.Subtype r) s = subtype_rule r s
made (rule.Subprogram r) s = subprogram_rule r s
made (rule.Body r) s = body_rule r s
made (rule.Param r) s = param_rule r s
made (rule.Mode r) s = mode_rule r s
made (rule.Aspect r) s = aspect_rule r s
made (rule.Statement r) s = statement_rule r s
made (rule.If r) s = if_rule r s
made (rule.Case r) s = case_rule r s
made (rule.Choice r) s = choice_rule r s
made (rule.Loop r) s = loop_rule r s
made (rule.Direction r) s = direction_rule r s
made (rule.Optional r) s = optional_rule r s
made (rule.Item r) s = item_rule r s
made (rule.Conditional r) s = conditional_rule r s
made (rule.Args r) s = args_rule r s
made (rule.Arg r) s = arg_rule r s
made (rule.Logic r) s = logic_rule r s
made (rule.Operation r) s = operation_rule r s
made (rule.Relation r) s = relation_rule r s
made (rule.Primary r) s = primary_rule r s
made (rule.Name r) s = name_rule r s
made (rule.Attribute r) s = attribute_rule r s

-- the rule at this place, from 0; past the last one no rule does anything
abbrev pub rule_among : List Rule → ℕ → Rule
rule_among [] k = rule.Same
rule_among (r ∷ rs) zero = r
rule_among (r ∷ rs) (suc k) = rule_among rs k

-- the rule of each production
unfoldable pub rules : List Rule
rules = RULES

unfoldable pub rule_at : ℕ → Rule
rule_at = rule_among rules
