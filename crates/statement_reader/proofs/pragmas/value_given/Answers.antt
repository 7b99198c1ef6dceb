use Rattle.std.proofs.Common.{◌≡◌, IfOk, subst}
use Rattle.statement_typing.specs.Asked.{item_place}
use Rattle.statement_typing.specs.Pragmas.{moved_value}
use Rattle.syntax_view.specs.View.{expr, item_of}
use Rattle.type_base.specs.Scope.{Scope}
use Rattle.type_base.specs.declared.seen.Want.TheVariants as want
use Rattle.typed_units.specs.declared.expressions.Expr.{Expr}
use Rattle.typing_rules.specs.declared.prefix.Found.{Found}
use Rattle.typing_rules.specs.Reading.{item_seen}
use Rattle.statement_reader.proofs.pragmas.value_given.Goals as goal

-- it is read in the scope of a pragma
pub returns : goal.returns
returns c = subst (λ (s : Scope). IfOk c.integer_given.result (λ (x : Found Expr). x ≡ moved_value s.world (item_place s (item_of expr c.args.item.now)) (item_seen s want.Free (item_of expr c.args.item.now)))) c.in_pragma-scope.ensures c.integer_given.ensures
