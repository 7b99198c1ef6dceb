use Rattle.std.proofs.Common.{◌≡◌, ◌∙◌, sym, subst, IfOk}
use Rattle.reading_scope.specs.Scopes.{scope_of}
use Rattle.statement_typing.specs.declared.parts.Spread.{Spread}
use Rattle.syntax_view.specs.View.{expr, range_of}
use Rattle.typing_rules.specs.declared.prefix.Found.{Found}
use Rattle.case_choices.proofs.Places.{ranged, valued}
use Rattle.case_choices.proofs.choices.choice_seen.Goals as goal

pub returns-then-branch : goal.returns-then-branch
returns-then-branch c =
    subst (λ (x : Found Spread). IfOk c.range_choice.result (λ f. f ≡ x))
    (ranged (scope_of c.args.scope.now) c.args.want (range_of expr c.args.range.now) (sym c.in_ok-is_stretch.ensures ∙ c.if-branch.true)) c.range_choice.ensures

pub returns-else-branch : goal.returns-else-branch
returns-else-branch c =
    subst (λ (x : Found Spread). IfOk c.value_choice.result (λ f. f ≡ x))
    (valued (scope_of c.args.scope.now) c.args.want (range_of expr c.args.range.now) (sym c.in_ok-is_stretch.ensures ∙ c.if-branch.false)) c.value_choice.ensures
