-- Where the status says that all is proved, no run fails.
use Rattle.std.proofs.Common.{◌≡◌, ℕ, ap, sym, subst, refl, ◌∙◌, ◌⊎◌, inl, inr, Bool, true, false, Option, Some, None, List, [], ◌∷◌}
use Rattle.std.specs.Prelude.{nat_le, if◌then◌else◌}
use Rattle.std.specs.List.{list_all}
use Rattle.keeper_io.specs.Maps.{Map, entry_of}
use Rattle.name_resolver.specs.declared.files.SourceFile.{SourceFile}
use Rattle.typed_units.specs.declared.checks.SiteKey.{SiteKey}
use Rattle.spark_reader.proofs.Only.{one_tree}
use Rattle.first_form.specs.declared.form.FirstForm.{FirstForm}
use Rattle.first_form.specs.Places.{first_unknown}
use Rattle.first_form.specs.Tree.{form_of}
use Rattle.form_prover.specs.declared.rows.Row as prover
use Rattle.form_prover.specs.Sound.{NeverFailsAt}
use Rattle.form_prover.proofs.Complete.{all_proved_hold}
use Rattle.gnatprove_core.specs.declared.status.Status.{Status}
use Rattle.gnatprove_core.specs.declared.status.Status.TheVariants as status
use Rattle.gnatprove_core.specs.Words.{files_of}
use Rattle.gnatprove_core.specs.Answers.{rows_of, Reports, AnswersForm, AnswersFrom, AnswersGot, AnswersTree, AnswersTrees, AnswersRead, AnswersSized, AnswersNamed, Answers, Ends, most_source_bytes, source_bytes}
use Rattle.gnatprove_core.proofs.Only as Only
use Rattle.unit_front.specs.declared.files.NamedBytes.{NamedBytes}
use Rattle.gnatprove_core.specs.Sound.{Accepted, IsComplete}

all_are : (b : Bool) (s : Status) → s ≡ (if b then status.Proved else status.Unproved) → s ≡ status.Proved → b ≡ true
all_are true s e p = refl
all_are false s e p = let d : status.Unproved ≡ status.Proved = sym e ∙ p in cc

report_complete : (name : List ℕ) (f : FirstForm) (s : Status) (text : List ℕ) → Reports name f s text → s ≡ status.Proved → (c : SiteKey) → NeverFailsAt f c
report_complete name f s text r p c = all_proved_hold f (all_are (list_all (λ (x : prover.Row). x.proved) (rows_of f)) s r.0 p) c

abbrev Complete : FirstForm → Status → Type 0
Complete f s = s ≡ status.Proved → (c : SiteKey) → NeverFailsAt f c

abbrev file_named : List ℕ → List ℕ → NamedBytes
file_named name bytes = record { name = name; bytes = bytes }

tree_complete : (name bytes : List ℕ) (f : FirstForm) → Accepted bytes f → (s : Status) (text : List ℕ) → (us : List SourceFile) → Only.IsTreeOf bytes us
    → AnswersTrees (file_named name bytes ∷ []) us s text → Complete f s
tree_complete name bytes f a s text us only w p c =
    let answered : AnswersTree name (form_of bytes only.0.unit) s text = subst (λ (vs : List SourceFile). AnswersTrees (file_named name bytes ∷ []) vs s text) only.1 w in
    let form : form_of bytes only.0.unit ≡ Some f = ap (form_of bytes) (one_tree bytes only.0.unit a.0 only.2 a.1) ∙ a.2 in
    let answers : AnswersForm name f (first_unknown f) s text = subst (λ (o : Option FirstForm). AnswersTree name o s text) form answered in
    report_complete name f s text (subst (λ (o : Option (ℕ × ℕ)). AnswersForm name f o s text) a.3 answers) p c

read_complete : (name bytes : List ℕ) (f : FirstForm) → Accepted bytes f → (s : Status) (text : List ℕ) → AnswersRead (file_named name bytes ∷ []) s text → Complete f s
read_complete name bytes f a s text (inl w) p c = let d : status.Refused ≡ status.Proved = sym w.2.0 ∙ p in cc
read_complete name bytes f a s text (inr w) p c = tree_complete name bytes f a s text w.0 (Only.only_tree bytes w.0 w.2.1.0) w.3 p c

sized_complete : (name bytes : List ℕ) (f : FirstForm) → Accepted bytes f → (s : Status) (text : List ℕ) → (b : Bool) → AnswersSized b (file_named name bytes ∷ []) s text → Complete f s
sized_complete name bytes f a s text true w p c = read_complete name bytes f a s text w p c
sized_complete name bytes f a s text false w p c = let d : status.Limit ≡ status.Proved = sym w.0 ∙ p in cc

from_complete : (m : Map) (name bytes : List ℕ) → entry_of m name ≡ Some bytes → (f : FirstForm) → Accepted bytes f → (s : Status) (text : List ℕ)
    → AnswersFrom (Some m) [] (name ∷ []) s text → Complete f s
from_complete m name bytes e f a s text (inl w) p c = let d : status.ReadFault ≡ status.Proved = sym w.0 ∙ p in cc
from_complete m name bytes e f a s text (inr (inl w)) p c = let d : None ≡ Some bytes = sym w.0 ∙ e in cc
from_complete m name bytes e f a s text (inr (inr w)) p c =
    let d : Some w.0 ≡ Some bytes = sym w.1 ∙ e in
    let same : w.0 ≡ bytes = cc in
    sized_complete name bytes f a s text (nat_le (source_bytes (file_named name bytes ∷ [])) most_source_bytes)
    (subst (λ (x : List ℕ). AnswersGot (file_named name x ∷ []) s text) same w.2) p c

answer_complete : (m : Map) (words : List (List ℕ)) (name bytes : List ℕ) → files_of words ≡ Some (name ∷ []) → entry_of m name ≡ Some bytes
    → (f : FirstForm) → Accepted bytes f → (s : Status) (text : List ℕ) → Answers (Some m) words s text → s ≡ status.Proved → (c : SiteKey) → NeverFailsAt f c
answer_complete m words name bytes w e f a s text h p c =
    from_complete m name bytes e f a s text (subst (λ (o : Option (List (List ℕ))). AnswersNamed (Some m) o s text) w h) p c

told_complete : (told : Option Map) (words : List (List ℕ)) (s : Status) (text : List ℕ) → Answers told words s text → IsComplete told words s
told_complete told words s text h m name bytes f c t w e a p =
    answer_complete m words name bytes w e f a s text (subst (λ (x : Option Map). Answers x words s text) t h) p c

pub complete : (told : Option Map) (words : List (List ℕ)) (s : Status) (before after : Option (List ℕ)) → Ends told words s before after → IsComplete told words s
complete told words status.Starved before after w = λ m name bytes f c t n e a p. cc
complete told words status.WriteFault before after w = λ m name bytes f c t n e a p. cc
complete told words s before after w = told_complete told words s w.0 w.1
