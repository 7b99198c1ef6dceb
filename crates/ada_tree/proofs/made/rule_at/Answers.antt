use Rattle.ada_tree.specs.Made.{rules}
use Rattle.ada_tree.proofs.RuleTable.{rule_none, rule_some}
use Rattle.ada_tree.proofs.made.rule_at.Goals as goal

pub returns-in-Some : goal.returns-in-Some
unfolding rules
returns-in-Some c = rule_some c.args.production c.in-Some.rule.now c.in-Some.ensures

pub returns-in-None : goal.returns-in-None
unfolding rules
returns-in-None c = rule_none c.args.production c.in-None.ensures
