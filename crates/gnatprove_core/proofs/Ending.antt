-- How a run ends.
use Rattle.std.proofs.Common.{◌≡◌, ◌<◌, ◌≤◌, ◌-◌, ◌+◌, ◌^◌, ◌⊎◌, ℕ, ap, refl, sym, ◌∙◌, subst, length, arith, inl, inr, Bool, true, false, Option, Some, None, List, [], ◌∷◌}
use Rattle.std.specs.Prelude.{nat_le, if◌then◌else◌}
use Rattle.std.specs.List.{list_all, sum_by}
use Rattle.std.proofs.lemmas.List.Sums.{sum_by-cons}
use Rattle.std.specs.Io.KnownBytes.{append_known}
use Rattle.keeper_io.specs.Maps.{Map}
use Rattle.name_resolver.specs.declared.files.SourceFile.{SourceFile}
use Rattle.unit_front.specs.declared.files.NamedBytes.{NamedBytes}
use Rattle.first_form.specs.declared.form.FirstForm.{FirstForm}
use Rattle.first_form.specs.Tree.{form_of}
use Rattle.first_form.specs.Places.{first_unknown}
use Rattle.gnatprove_core.specs.declared.status.Status.{Status}
use Rattle.gnatprove_core.specs.declared.status.Status.TheVariants as status
use Rattle.gnatprove_core.specs.Words.{files_of}
use Rattle.gnatprove_core.specs.Answers.{rows_of, AnswersForm, AnswersFrom, AnswersMany, AnswersTree, AnswersTrees, AnswersRead, AnswersSized, AnswersNamed, Answers, Ends, most_files, most_source_bytes, source_bytes, with_file}

-- an answer has one of the statuses that an answer can have
abbrev pub IsWritten : Status → Type 0
IsWritten status.Starved = ⊥
IsWritten status.WriteFault = ⊥
IsWritten _ = Unit {0}

reported_is : (b : Bool) (s : Status) → s ≡ (if b then status.Proved else status.Unproved) → IsWritten s
reported_is true s e = subst IsWritten (sym e) tt
reported_is false s e = subst IsWritten (sym e) tt

refused_is : (s : Status) → s ≡ status.Refused → IsWritten s
refused_is s e = subst IsWritten (sym e) tt

form_is : (name : List ℕ) (f : FirstForm) (o : Option (ℕ × ℕ)) (s : Status) (text : List ℕ) → AnswersForm name f o s text → IsWritten s
form_is name f (Some place) s text a = refused_is s a.0
form_is name f None s text a = reported_is (list_all (λ r. r.proved) (rows_of f)) s a.0

tree_is : (name : List ℕ) (o : Option FirstForm) (s : Status) (text : List ℕ) → AnswersTree name o s text → IsWritten s
tree_is name None s text a = refused_is s a.0
tree_is name (Some f) s text a = form_is name f (first_unknown f) s text a

trees_are : (got : List NamedBytes) (us : List SourceFile) (s : Status) (text : List ℕ) → AnswersTrees got us s text → IsWritten s
trees_are [] us s text a = refused_is s a.0
trees_are (g ∷ []) [] s text a = refused_is s a.0
trees_are (g ∷ []) (u ∷ []) s text a = tree_is g.name (form_of g.bytes u.unit) s text a
trees_are (g ∷ []) (u ∷ v ∷ us) s text a = refused_is s a.0
trees_are (g ∷ h ∷ gs) us s text a = refused_is s a.0

read_is : (got : List NamedBytes) (s : Status) (text : List ℕ) → AnswersRead got s text → IsWritten s
read_is got s text (inl a) = refused_is s a.2.0
read_is got s text (inr a) = trees_are got a.0 s text a.3

limit_is : (s : Status) → s ≡ status.Limit → IsWritten s
limit_is s e = subst IsWritten (sym e) tt

sized_is : (b : Bool) (got : List NamedBytes) (s : Status) (text : List ℕ) → AnswersSized b got s text → IsWritten s
sized_is true got s text a = read_is got s text a
sized_is false got s text a = limit_is s a.0

from_is : (told : Option Map) (got : List NamedBytes) (names : List (List ℕ)) (s : Status) (text : List ℕ) → AnswersFrom told got names s text → IsWritten s
from_is told got [] s text a = sized_is (nat_le (source_bytes got) most_source_bytes) got s text a
from_is told got (name ∷ names) s text (inl a) = subst IsWritten (sym a.0) tt
from_is told got (name ∷ names) s text (inr (inl a)) = refused_is s a.1.0
from_is told got (name ∷ names) s text (inr (inr a)) = from_is told (with_file got name a.0) names s text a.2

many_is : (b : Bool) (told : Option Map) (names : List (List ℕ)) (s : Status) (text : List ℕ) → AnswersMany b told names s text → IsWritten s
many_is true told names s text a = from_is told [] names s text a
many_is false told names s text a = limit_is s a.0

named_is : (told : Option Map) (o : Option (List (List ℕ))) (s : Status) (text : List ℕ) → AnswersNamed told o s text → IsWritten s
named_is told None s text a = subst IsWritten (sym a.0) tt
named_is told (Some names) s text a = many_is (nat_le (length names) most_files) told names s text a

written_ends : (told : Option Map) (words : List (List ℕ)) (s : Status) (text : List ℕ) (before after : Option (List ℕ)) → IsWritten s → Answers told words s text
    → after ≡ append_known before text → Ends told words s before after
written_ends told words status.Starved text before after w a e = absurd w
written_ends told words status.WriteFault text before after w a e = absurd w
written_ends told words s text before after w a e = (text, a, e)

-- the whole answer was written
pub ends_whole : (told : Option Map) (words : List (List ℕ)) (s : Status) (text : List ℕ) (before after : Option (List ℕ)) → Answers told words s text
    → after ≡ append_known before text → Ends told words s before after
ends_whole told words s text before after a e = written_ends told words s text before after (named_is told (files_of words) s text a) a e

written_is : (told : Option Map) (words : List (List ℕ)) (s : Status) (text : List ℕ) → Answers told words s text → IsWritten s
written_is told words s text a = named_is told (files_of words) s text a

-- an answer has no status of a sink that failed
pub not_cut : {P : Type 0} (told : Option Map) (words : List (List ℕ)) (s : Status) (text : List ℕ) → Answers told words s text → s ≡ status.WriteFault → P
not_cut told words s text a e = absurd (subst IsWritten e (written_is told words s text a))

-- files within the limit of all bytes are short
within : (gs : List NamedBytes) → sum_by (λ g. length g.bytes) gs ≡ source_bytes gs
within [] = refl
within (g ∷ gs) = sum_by-cons (λ (x : NamedBytes). length x.bytes) g gs ∙ ap (λ n. length g.bytes + n) (within gs)

pub short_one : (g : NamedBytes) (gs : List NamedBytes) → source_bytes (g ∷ gs) ≤ most_source_bytes → length g.bytes < 2 ^ 32 - 1
short_one g gs h = omega (arith, h)

pub short_all : (gs : List NamedBytes) → source_bytes gs ≤ most_source_bytes → sum_by (λ g. length g.bytes) gs < 2 ^ 31
short_all gs h = let same = within gs in omega (arith, same, h)
