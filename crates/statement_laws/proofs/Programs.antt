-- What is answered of a program.
use Rattle.std.proofs.Common.{◌≡◌, refl, ap, subst, List, [], ◌∷◌, ◌++◌, Option, Some, None}
use Rattle.std.specs.Prelude.{ℕ}
use Rattle.front_codes.specs.Codes.{first_of_two}
use Rattle.front_codes.specs.declared.codes.Refusal.{Refusal}
use Rattle.type_base.specs.Faults.{First}
use Rattle.type_base.proofs.Firsts.{first_both, first_listed}
use Rattle.statement_typing.specs.declared.draft.Draft.{Draft}
use Rattle.statement_typing.specs.declared.parts.Answer.{Answer}
use Rattle.statement_typing.specs.declared.parts.Answer.TheVariants.{Refused as refused, Typed as typed}
use Rattle.statement_typing.specs.Files.{File}
use Rattle.statement_typing.specs.Units.{answer, answer_by, files_declared, first_from, program_faults, program_of, start}
use Rattle.typing_laws.proofs.Merging.{first_alone, first_joined}

-- ---- the first of a list

from_here : (f : Refusal) (fs gs : List Refusal) → First (Some f) fs → First (Some (first_from f gs)) (fs ++ gs)
from_here f fs [] h = first_alone (Some f) fs h
from_here f fs (g ∷ gs) h =
    first_joined (Some (first_from (first_of_two f g) gs)) fs (g ∷ []) gs
    (from_here (first_of_two f g) (fs ++ (g ∷ [])) gs (first_both (Some f) (Some g) fs (g ∷ []) h (first_listed (Some g))))

pub first_is : (f : Refusal) (fs : List Refusal) → First (Some (first_from f fs)) (f ∷ fs)
first_is f fs = from_here f (f ∷ []) fs (first_listed (Some f))

-- ---- answers

pub no_rule_broken : (fs : List File) (order : List ℕ) → program_faults fs order ≡ [] → answer fs order ≡ typed (program_of (files_declared fs order (start fs)))
no_rule_broken fs order e = ap (λ (z : List Refusal). answer_by z (files_declared fs order (start fs))) e

-- the refusal, where there is one
abbrev told_of : Answer → Option Refusal
told_of (refused f) = Some f
told_of (typed p) = None

told_first : (gs : List Refusal) (d : Draft) → First (told_of (answer_by gs d)) gs
told_first [] d = refl
told_first (g ∷ gs) d = first_is g gs

pub refused_is_first : (fs : List File) (order : List ℕ) (f : Refusal) → answer fs order ≡ refused f → First (Some f) (program_faults fs order)
refused_is_first fs order f e =
    subst (λ (z : Option Refusal). First z (program_faults fs order)) (ap told_of e) (told_first (program_faults fs order) (files_declared fs order (start fs)))
