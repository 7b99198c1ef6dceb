use Rattle.std.proofs.Common.{◌≡◌, IfOk, subst}
use Rattle.front_codes.specs.declared.codes.Code.TheVariants.{L28}
use Rattle.statement_typing.specs.Aspects.{item_condition}
use Rattle.type_base.specs.Scope.{Scope}
use Rattle.syntax_view.specs.View.{expr, item_of}
use Rattle.aspect_reader.proofs.aspects.condition_at.Goals as goal

pub returns : goal.returns
returns c = subst (λ (s : Scope). IfOk c.item_condition.result (λ f. f ≡ item_condition s L28 (item_of expr c.args.item.now))) c.scope.ensures c.item_condition.ensures
