-- Places in files, and the sizes of texts.
use Rattle.std.proofs.Common.{◌≡◌, ℕ, zero, suc, ◌+◌, ◌<◌, ◌≤◌, List, [], ◌∷◌, length, map, drop, get_or, refl, sym, ap, ◌∙◌, arith, Bor}
use Rattle.std.specs.Prelude.{min}
use Rattle.std.specs.List.{sum_by}
use Rattle.std.proofs.lemmas.List.{take_min}
use Rattle.std.proofs.lemmas.List.Sums.{sum_by-cons, sum_by_more_le}
use Rattle.ada_text.specs.Bytes.{skipped}
use Rattle.ada_text.specs.Places.{column_after, counted_before, line_after}
use Rattle.ada_values.specs.declared.place.Place.{Place}
use Rattle.text_lines.specs.Lines.{place_in}
use Rattle.name_resolver.specs.declared.files.SourceFile.{SourceFile}
use Rattle.name_resolver.specs.Resolved.{text_of, texts_of}

abbrev placed_after : List ℕ → ℕ → List ℕ → Place
placed_after text file front = record { file = file; line = line_after (drop (skipped text) front); column = column_after (drop (skipped text) front) }

-- a byte past the end stands at the end
pub place_min : (text : List ℕ) (file at : ℕ) → place_in text file (min at (length text)) ≡ place_in text file at
place_min text file at = ap (placed_after text file) (take_min at text)

pub place_made : (text : List ℕ) (file at line column : ℕ) → line ≡ line_after (counted_before text at) → column ≡ column_after (counted_before text at) → (let p : Place = record { file = file; line = line; column = column } in p) ≡ place_in text file at
place_made text file at line column e f = λ j. record { file = file; line = e j; column = f j }

sum_texts : (files : List SourceFile) → sum_by length (texts_of files) ≡ sum_by (λ f. length f.text) files
sum_texts [] = refl
sum_texts (f ∷ files) =
    sum_by-cons (length {A = ℕ}) f.text (texts_of files) ∙ ap (λ n. length f.text + n) (sum_texts files) ∙ sym (sum_by-cons (λ (f : SourceFile). length f.text) f files)

sum_slices : (texts : List (Bor (List ℕ))) → sum_by length (map (λ t. t.now) texts) ≡ sum_by (λ t. length t.now) texts
sum_slices [] = refl
sum_slices (t ∷ texts) =
    sum_by-cons (length {A = ℕ}) t.now (map (λ t. t.now) texts) ∙ ap (λ n. length t.now + n) (sum_slices texts) ∙ sym (sum_by-cons (λ (t : Bor (List ℕ)). length t.now) t texts)

-- the slices of the texts have as many bytes
pub same_sum : (files : List SourceFile) (texts : List (Bor (List ℕ))) → map (λ t. t.now) texts ≡ texts_of files → sum_by (λ t. length t.now) texts ≡ sum_by (λ f. length f.text) files
same_sum files texts e = sym (sum_slices texts) ∙ ap (λ (ts : List (List ℕ)). sum_by length ts) e ∙ sum_texts files

-- one text has no more bytes than all
pub one_of : (files : List SourceFile) (k : ℕ) (d : SourceFile) → k < length files → length (get_or files k d).text ≤ sum_by (λ f. length f.text) files
one_of files k d h = omega (arith, sum_by_more_le (λ (f : SourceFile). length f.text) files k d h)

pub text_within : (files : List SourceFile) (k : ℕ) (d : SourceFile) → k < length files → text_of files k ≡ (get_or files k d).text
text_within [] k d h = absurd (omega arith)
text_within (f ∷ files) zero d h = refl
text_within (f ∷ files) (suc k) d h = text_within files k d (omega arith)

pub text_past : (files : List SourceFile) (k : ℕ) → length files ≤ k → text_of files k ≡ []
text_past [] k h = refl
text_past (f ∷ files) zero h = absurd (omega arith)
text_past (f ∷ files) (suc k) h = text_past files k (omega arith)
