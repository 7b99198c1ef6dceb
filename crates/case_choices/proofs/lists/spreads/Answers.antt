use Rattle.std.proofs.Common.{◌≡◌, ◌∙◌, ap, sym, List}
use Rattle.ada_syntax.specs.declared.statements.Alternative.{Alternative}
use Rattle.ada_syntax.specs.declared.statements.Stmt.{Stmt}
use Rattle.reading_scope.specs.Scopes.{scope_of}
use Rattle.syntax_view.specs.View.{alternatives_of, stmt}
use Rattle.case_choices.proofs.Afters.{all_after_none, none_left}
use Rattle.case_choices.specs.Choosing.{all_spreads_after}
use Rattle.case_choices.proofs.lists.spreads.Goals as goal

pub returns : goal.returns
returns c =
    ap (λ (xs : List (Alternative Stmt)). all_spreads_after (scope_of c.args.scope.now) c.args.want c.loop-alternatives.found (alternatives_of stmt xs)) (sym (none_left c.loop-alternatives.alternatives.now c.in_default.len_below))
    ∙ c.loop-alternatives.invariant
    ∙ all_after_none (scope_of c.args.scope.now) c.args.want (alternatives_of stmt c.args.alternatives.now)
