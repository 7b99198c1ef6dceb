use Rattle.std.proofs.Common.{◌≡◌, rules}
use Rattle.typed_units.specs.declared.expressions.Expr.{out-Expr}
use Rattle.typed_units.specs.declared.expressions.ExprNode.TheVariants as node
use Rattle.typed_units.specs.View.{text_of}
use Rattle.flow_effects.proofs.Calls.{call_faults_are}
use Rattle.flow_effects.proofs.aliases.push_expression_faults.Goals as goal

pub returns-in-Call : goal.returns-in-Call
returns-in-Call c =
    let h : (out-Expr c.args.e.now).node ≡ node.Call c.in-Call.field-0 c.in-Call.callee c.in-Call.arguments = search rules in
    rw (call_faults_are (text_of c.args.program.now) c.args.effects.now c.args.program.now.shapes c.args.e.now c.in-Call.field-0 c.in-Call.callee c.in-Call.arguments h) c.push_call_faults.ensures
