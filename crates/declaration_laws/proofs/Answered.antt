-- The refusal that is told while a program is read is the one that is answered.
use Rattle.std.proofs.Common.{◌≡◌, refl, ap, List, [], ◌∷◌, Option, Some, None}
use Rattle.std.specs.Prelude.{ℕ}
use Rattle.front_codes.specs.declared.codes.Refusal.{Refusal}
use Rattle.front_codes.proofs.Order.{before_neither}
use Rattle.type_base.specs.Faults.{First}
use Rattle.statement_typing.specs.declared.draft.Draft.{Draft}
use Rattle.statement_typing.specs.declared.parts.Answer.TheVariants as answers
use Rattle.statement_typing.specs.Files.{File}
use Rattle.statement_typing.specs.Tellings.{files_told, told_answer, told_by_all}
use Rattle.statement_typing.specs.Units.{answer, answer_by, files_declared, first_from, program_faults, start}
use Rattle.statement_laws.proofs.Lists.{is_later}
use Rattle.statement_laws.proofs.Programs.{first_is}
use Rattle.declaration_laws.proofs.Declared.{files_more}

-- a list has one first
first_is_one : (f g : Refusal) (fs : List Refusal) → First (Some f) fs → First (Some g) fs → f ≡ g
first_is_one f g fs h i = before_neither f g (is_later g f fs i.1 h.0) (is_later f g fs h.1 i.0)

not_empty : (f : Refusal) (fs : List Refusal) → f ∷ fs ≡ [] → ⊥
not_empty f fs e = cc

answered_by : (t : Option Refusal) (d : Draft) (fs : List Refusal) → First t fs → told_by_all t d ≡ answer_by fs d
answered_by None d [] h = refl
answered_by None d (f ∷ fs) h = absurd (not_empty f fs h)
answered_by (Some f) d [] h = absurd h.0
answered_by (Some f) d (g ∷ gs) h = ap answers.Refused (first_is_one f (first_from g gs) (g ∷ gs) h (first_is g gs))

-- what is told in the order of the files is what is answered of them
pub answer_is_told : (fs : List File) (order : List ℕ) → told_answer fs order ≡ answer fs order
answer_is_told fs order =
    answered_by (files_told fs order (start fs) None) (files_declared fs order (start fs)) (program_faults fs order) (files_more fs order (start fs) None [] refl)
