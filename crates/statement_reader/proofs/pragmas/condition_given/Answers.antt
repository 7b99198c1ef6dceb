use Rattle.std.proofs.Common.{◌≡◌, IfOk, subst}
use Rattle.front_codes.specs.declared.codes.Code.TheVariants as code
use Rattle.statement_typing.specs.Aspects.{item_condition}
use Rattle.syntax_view.specs.View.{expr, item_of}
use Rattle.type_base.specs.Scope.{Scope}
use Rattle.typed_units.specs.declared.expressions.Expr.{Expr}
use Rattle.typing_rules.specs.declared.prefix.Found.{Found}
use Rattle.statement_reader.proofs.pragmas.condition_given.Goals as goal

-- it is read in the scope of a pragma
pub returns : goal.returns
returns c = subst (λ (s : Scope). IfOk c.item_condition.result (λ (x : Found Expr). x ≡ item_condition s code.L9 (item_of expr c.args.item.now))) c.in_pragma-scope.ensures c.item_condition.ensures
