-- Files that are accepted are answered by their trees.
use Rattle.std.proofs.Common.{◌≡◌, ℕ, List, inr, Result, Ok, Err, subst}
use Rattle.std.specs.Prelude.{IfOk}
use Rattle.name_resolver.specs.declared.files.SourceFile.{SourceFile}
use Rattle.typed_units.specs.declared.programs.Program.{Program}
use Rattle.unit_front.specs.declared.files.NamedBytes.{NamedBytes}
use Rattle.unit_front.specs.Accepting.{AreTyped}
use Rattle.unit_front.specs.Reading.{texts_of}
use Rattle.gnatprove_core.specs.declared.answer.Answer.{Answer}
use Rattle.gnatprove_core.specs.Answers.{AnswersRead, AnswersTrees}

pub accepted_are_read : {E : Type 0} (got : List NamedBytes) (seen ss : List SourceFile) (p : Program) (r : Result Answer E)
    → AreTyped (texts_of got) ss p → seen ≡ ss → IfOk r (λ a. AnswersTrees got seen a.status a.text) → IfOk r (λ a. AnswersRead got a.status a.text)
accepted_are_read got seen ss p (Ok a) typed e h = inr (ss, p, typed, subst (λ (xs : List SourceFile). AnswersTrees got xs a.status a.text) e h)
accepted_are_read got seen ss p (Err x) typed e h = tt
