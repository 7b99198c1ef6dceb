use Rattle.std.proofs.Common.{◌≡◌, ◌∙◌, ap, List}
use Rattle.ada_text.specs.declared.token.Span.{Span}
use Rattle.program_scope.specs.Homes.{home_of}
use Rattle.statement_typing.specs.declared.parts.Definition.{Definition}
use Rattle.statement_typing.specs.Units.{literals_of, with_definition}
use Rattle.syntax_view.specs.View.{type_form_of}
use Rattle.typing_rules.specs.declared.prefix.Found.{Found}
use Rattle.type_checker.proofs.simple.type_declared.Goals as goal

pub returns-in-Ok-clause-draft : goal.returns-in-Ok-clause-draft
returns-in-Ok-clause-draft c =
    c.in-Ok.ensures
    ∙ ap (λ (l : List Span). with_definition (home_of c.args.home.now) c.args.name l c.in_ok-found.found c.args.draft.now) c.literals_of.ensures
    ∙ ap (λ (f : Found Definition). with_definition (home_of c.args.home.now) c.args.name (literals_of (type_form_of c.args.form.now)) f c.args.draft.now) c.in_ok-found.ensures
