-- How many bytes the files have in all.
use Rattle.std.proofs.Common.{◌≡◌, ◌<◌, ◌≤◌, ◌-◌, ◌+◌, ◌^◌, ap, refl, sym, ◌∙◌, ℕ, suc, List, [], ◌∷◌, map, length, arith, Option, Some, None}
use Rattle.std.specs.List.{sum_by}
use Rattle.std.proofs.lemmas.List.Sums.{sum_by-cons}
use Rattle.front_codes.specs.declared.codes.Refusal.{Refusal}
use Rattle.name_resolver.specs.declared.files.SourceFile.{SourceFile}
use Rattle.unit_front.specs.declared.files.NamedBytes.{NamedBytes}
use Rattle.unit_front.specs.declared.reading.FileRead.{FileRead}
use Rattle.unit_front.specs.declared.reading.FileRead.TheVariants.{Lexical, Syntactic, Tree}
use Rattle.unit_front.specs.Reading.{AreFiles, AreShort, HaveTrees, else_refusal, first_lexical, first_refusal, first_syntactic, texts_of, trees}

sum_texts : (files : List NamedBytes) → sum_by length (texts_of files) ≡ sum_by (λ f. length f.bytes) files
sum_texts [] = refl
sum_texts (f ∷ fs) =
    sum_by-cons (length {A = ℕ}) f.bytes (texts_of fs) ∙ ap (λ n. length f.bytes + n) (sum_texts fs) ∙ sym (sum_by-cons (λ (g : NamedBytes). length g.bytes) f fs)

-- where nothing is refused, the trees have the texts
same_texts : (k : ℕ) (texts : List (List ℕ)) (fs : List FileRead) → AreFiles k texts fs → first_refusal fs ≡ None → sum_by (λ s. length s.text) (trees fs) ≡ sum_by length texts
same_texts k [] [] a e = refl
same_texts k [] (f ∷ fs) a e = absurd a
same_texts k (t ∷ ts) [] a e = absurd a
same_texts k (t ∷ ts) (Lexical r ∷ fs) a e = cc
same_texts k (t ∷ ts) (Syntactic r ∷ fs) a e = syntactic (first_lexical fs) e
  where
    syntactic : (o : Option Refusal) → else_refusal o (Some r) ≡ None → sum_by (λ s. length s.text) (trees fs) ≡ sum_by length (t ∷ ts)
    syntactic None h = cc
    syntactic (Some g) h = cc
same_texts k (t ∷ ts) (Tree s ∷ fs) a e =
    sum_by-cons (λ (x : SourceFile). length x.text) s (trees fs)
    ∙ ap (λ n. n + sum_by (λ (x : SourceFile). length x.text) (trees fs)) (ap (λ (x : List ℕ). length x) a.0.0)
    ∙ ap (λ n. length t + n) (same_texts (suc k) ts fs a.1 e)
    ∙ sym (sum_by-cons (length {A = ℕ}) t ts)

pub short_sources : (files : List NamedBytes) (ss : List SourceFile) → HaveTrees (texts_of files) ss → sum_by (λ f. length f.bytes) files < 2 ^ 31 → sum_by (λ s. length s.text) ss < 2 ^ 31
short_sources files ss h n =
    let same : sum_by (λ (s : SourceFile). length s.text) ss ≡ sum_by (λ (f : NamedBytes). length f.bytes) files =
    ap (λ (xs : List SourceFile). sum_by (λ (s : SourceFile). length s.text) xs) h.3 ∙ same_texts 0 (texts_of files) h.0 h.1 h.2 ∙ sum_texts files in
    omega (arith, same, n)

pub short_texts : (files : List NamedBytes) → sum_by (λ f. length f.bytes) files < 2 ^ 31 → AreShort (texts_of files)
short_texts [] n = tt
short_texts (f ∷ fs) n =
    let sum = sum_by-cons (λ (g : NamedBytes). length g.bytes) f fs in
    (omega (arith, sum, n), short_texts fs (omega (arith, sum, n)))
