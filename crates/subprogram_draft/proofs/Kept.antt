-- What aspects state changes the subprograms of a draft alone.
use Rattle.std.proofs.Common.{◌≡◌, ℕ, ◌∙◌, List, [], ◌∷◌, refl, Result, Ok, Err, OnOk}
use Rattle.typed_units.specs.declared.programs.Sub.{Sub}
use Rattle.typing_rules.specs.declared.prefix.Found.{Found}
use Rattle.typing_rules.specs.declared.prefix.Found.TheVariants.{Refused, Unknown, Is}
use Rattle.statement_typing.specs.declared.draft.Draft.{Draft}
use Rattle.statement_typing.specs.declared.parts.Stated.{Stated}
use Rattle.statement_typing.specs.declared.parts.Stated.TheVariants.{Global, Nothing, Post, Pre}
use Rattle.statement_typing.specs.Aspects.{with_aspects, with_found_aspect}

-- a draft with other subprograms
abbrev with_subs : List Sub → Draft → Draft
with_subs xs d = record d { subs = xs }

one_kept : (q : ℕ) (s : Found Stated) (xs : List Sub) (d : Draft) → with_subs xs (with_found_aspect q s d) ≡ with_subs xs d
one_kept q (Is (Pre c)) xs d = refl
one_kept q (Is (Post c)) xs d = refl
one_kept q (Is (Global g)) xs d = refl
one_kept q (Is Nothing) xs d = refl
one_kept q Unknown xs d = refl
one_kept q (Refused f) xs d = refl

pub aspects_kept : (q : ℕ) (ss : List (Found Stated)) (xs : List Sub) (d : Draft) → record (with_aspects q ss d) { subs = xs } ≡ record d { subs = xs }
aspects_kept q [] xs d = refl
aspects_kept q (s ∷ ss) xs d = aspects_kept q ss xs (with_found_aspect q s d) ∙ one_kept q s xs d

-- what a result that is Ok says
pub on_ok : {A E P Q : Type 0} (r : Result A E) → (P → Q) → OnOk r P → OnOk r Q
on_ok (Ok x) f h = f h
on_ok (Err e) f h = tt
