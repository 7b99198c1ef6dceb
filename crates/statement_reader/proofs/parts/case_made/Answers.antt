use Rattle.std.proofs.Common.{◌≡◌, ◌∙◌, ap, Bool, true}
use Rattle.front_codes.specs.declared.codes.Code.TheVariants as code
use Rattle.statement_typing.specs.Checks.{unless}
use Rattle.statement_typing.specs.Choices.{others_last}
use Rattle.statement_typing.specs.Statements.{case_at}
use Rattle.syntax_view.specs.View.{alternatives_of, stmt}
use Rattle.typing_rules.specs.declared.prefix.Found.{Found}
use Rattle.statement_reader.proofs.parts.case_made.Goals as goal

-- it is made of what the choices are together and where `others` stands
pub returns-in-Ok : goal.returns-in-Ok
returns-in-Ok c =
    let last : Found Bool = unless (others_last (alternatives_of stmt c.args.alternatives.now)) code.L21 c.args.place true in
    c.case_read.ensures c.args.place
    ∙ ap (λ (o : Found Bool). case_at c.args.place c.args.selected o c.in-Ok.covered c.args.all) (c.unless-others.ensures ∙ ap (λ (b : Bool). unless b code.L21 c.args.place true) c.others_last.ensures)
    ∙ ap (λ (v : Found Bool). case_at c.args.place c.args.selected last v c.args.all) c.in-Ok.ensures
