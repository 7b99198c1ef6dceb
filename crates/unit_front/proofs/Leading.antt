-- One file more.
use Rattle.std.proofs.Common.{◌<◌, ◌≤◌, ◌+◌, ◌-◌, ◌≡◌, ap, refl, sym, ◌∙◌, subst, ◌⊎◌, inl, inr, ℕ, suc, List, [], ◌∷◌, ◌++◌, zero, length, arith, map, take, append_assoc, append-nil, Option, Some, None}
use Rattle.std.specs.Prelude.{drop, slice_index_or}
use Rattle.front_codes.specs.declared.codes.Refusal.{Refusal}
use Rattle.unit_front.specs.declared.reading.FileRead.{FileRead}
use Rattle.unit_front.specs.declared.reading.FileRead.TheVariants.{Lexical, Syntactic, Tree}
use Rattle.unit_front.specs.declared.trees.Sofar.{Sofar}
use Rattle.unit_front.specs.Reading.{AreFiles, IsFile, first_lexical, first_syntactic, else_refusal, trees}
use Rattle.unit_front.specs.Sofar.{HaveLed, Leads, StillLeads, noted}
use Rattle.name_resolver.specs.declared.files.SourceFile.{SourceFile}
use Rattle.unit_front.specs.declared.files.NamedBytes.{NamedBytes}
use Rattle.unit_front.specs.Reading.{AreShort, first_refusal, texts_of}

else_twice : (a : Option Refusal) (f : Refusal) (b : Option Refusal) → else_refusal a (Some f) ≡ else_refusal (else_refusal a (Some f)) b
else_twice (Some g) f b = refl
else_twice None f b = refl

-- what was found before a file, and then the file and others, is what was found after it, and then the others
pub one_more : (texts : List (List ℕ)) (s : Sofar) (f : FileRead) (gs : List FileRead) → Leads texts s (f ∷ gs) → Leads texts (noted s f) gs
one_more texts s (Lexical f) gs h = (h.0, h.1, h.2 ∙ else_twice s.lexical f (first_lexical gs), h.3, h.4)
one_more texts s (Syntactic f) gs h = (h.0, h.1, h.2, h.3 ∙ else_twice s.syntactic f (first_syntactic gs), h.4)
one_more texts s (Tree u) gs h = (h.0, h.1, h.2, h.3, h.4 ∙ sym (append_assoc s.files (u ∷ []) (trees gs)))

pub at_start : (texts : List (List ℕ)) (s : Sofar) → s.lexical ≡ None → s.syntactic ≡ None → s.files ≡ [] → StillLeads texts s 0 texts
unfolding StillLeads
at_start texts s a b c gs h = (
  gs,
  h,
  ap (λ (o : Option Refusal). else_refusal o (first_lexical gs)) (sym a),
  ap (λ (o : Option Refusal). else_refusal o (first_syntactic gs)) (sym b),
  ap (λ (us : List SourceFile). us ++ trees gs) (sym c),
)

pub goes_on : (texts : List (List ℕ)) (s : Sofar) (k : ℕ) (text : List ℕ) (rest : List (List ℕ)) (f : FileRead) → StillLeads texts s k (text ∷ rest) → IsFile k text f
    → StillLeads texts (noted s f) (suc k) rest
unfolding StillLeads
goes_on texts s k text rest f h i gs a = one_more texts s f gs (h (f ∷ gs) (i, a))

pub at_end : (texts : List (List ℕ)) (s : Sofar) (k : ℕ) → StillLeads texts s k [] → HaveLed texts s
unfolding StillLeads
at_end texts s k h = h [] tt

take-all : (xs : List NamedBytes) → take (length xs) xs ≡ xs
take-all [] = refl
take-all (x ∷ xs) = ap (λ (ys : List NamedBytes). x ∷ ys) (take-all xs)

abbrev pub Kept : List (List ℕ) → ℕ → Sofar → ℕ → List NamedBytes → Type 0
Kept all n s k files = StillLeads all s k (texts_of files) × AreShort (texts_of files) × (k + length files ≡ n)

-- one turn of the loop over the files
pub turn : (all : List (List ℕ)) (n : ℕ) (files : List NamedBytes) (s t : Sofar) (k : ℕ) (text : List ℕ) (file : NamedBytes) (f : FileRead)
    → 1 ≤ length files → file ≡ slice_index_or files 0 file → text ≡ file.bytes → IsFile k text f → t ≡ noted s f → Kept all n s k files
    → Kept all n t (k + 1) (take (length files - 1) (drop 1 files))
turn all n [] s t k text file f some is bytes read new h = absurd (omega arith)
turn all n (x ∷ xs) s t k text file f some is bytes read new h =
    let here : text ≡ x.bytes = bytes ∙ ap (λ (g : NamedBytes). g.bytes) is in
    let next : StillLeads all (noted s f) (suc k) (texts_of xs) = goes_on all s k x.bytes (texts_of xs) f h.0 (subst (λ (b : List ℕ). IsFile k b f) here read) in
    let after : StillLeads all t (suc k) (texts_of xs) = subst (λ (u : Sofar). StillLeads all u (suc k) (texts_of xs)) (sym new) next in
    let one : suc k ≡ k + 1 = omega arith in
    let left : length xs ≡ suc (length xs) - 1 = omega arith in
    let whole : xs ≡ take (suc (length xs) - 1) xs = subst (λ (m : ℕ). xs ≡ take m xs) left (sym (take-all xs)) in
    subst (λ (ys : List NamedBytes). Kept all n t (k + 1) ys) whole
    (subst (λ (m : ℕ). StillLeads all t m (texts_of xs)) one after, h.1.1, omega (arith, h.2))

none_left : (files : List NamedBytes) → length files < 1 → texts_of files ≡ []
none_left [] h = refl
none_left (x ∷ xs) h = absurd (omega arith)

pub ended : (all : List (List ℕ)) (s : Sofar) (k : ℕ) (files : List NamedBytes) → length files < 1 → StillLeads all s k (texts_of files) → HaveLed all s
ended all s k files h l = at_end all s k (subst (λ (texts : List (List ℕ)). StillLeads all s k texts) (none_left files h) l)

-- ---- a refusal stands in one of the files

lexical_in : (k : ℕ) (texts : List (List ℕ)) (fs : List FileRead) (f : Refusal) → AreFiles k texts fs → first_lexical fs ≡ Some f → f.place.file < k + length texts
lexical_in k [] [] f a e = cc
lexical_in k [] (g ∷ fs) f a e = absurd a
lexical_in k (text ∷ texts) [] f a e = absurd a
lexical_in k (text ∷ texts) (Lexical g ∷ fs) f a e =
    let d : g ≡ f = cc in let file : f.place.file ≡ k = ap (λ (r : Refusal). r.place.file) (sym d ∙ a.0.2) in omega (arith, file)
lexical_in k (text ∷ texts) (Syntactic g ∷ fs) f a e = let h = lexical_in (suc k) texts fs f a.1 e in omega (arith, h)
lexical_in k (text ∷ texts) (Tree u ∷ fs) f a e = let h = lexical_in (suc k) texts fs f a.1 e in omega (arith, h)

syntactic_in : (k : ℕ) (texts : List (List ℕ)) (fs : List FileRead) (f : Refusal) → AreFiles k texts fs → first_syntactic fs ≡ Some f → f.place.file < k + length texts
syntactic_in k [] [] f a e = cc
syntactic_in k [] (g ∷ fs) f a e = absurd a
syntactic_in k (text ∷ texts) [] f a e = absurd a
syntactic_in k (text ∷ texts) (Syntactic g ∷ fs) f a e =
    let d : g ≡ f = cc in let file : f.place.file ≡ k = ap (λ (r : Refusal). r.place.file) (sym d ∙ a.0.3) in omega (arith, file)
syntactic_in k (text ∷ texts) (Lexical g ∷ fs) f a e = let h = syntactic_in (suc k) texts fs f a.1 e in omega (arith, h)
syntactic_in k (text ∷ texts) (Tree u ∷ fs) f a e = let h = syntactic_in (suc k) texts fs f a.1 e in omega (arith, h)

either : (o p : Option Refusal) (f : Refusal) → else_refusal o p ≡ Some f → (o ≡ Some f) ⊎ (p ≡ Some f)
either (Some g) p f e = inl e
either None p f e = inr e

as_many : (files : List NamedBytes) → length (texts_of files) ≡ length files
as_many [] = refl
as_many (g ∷ gs) = ap suc (as_many gs)

pub refusal_in_file : (files : List NamedBytes) (fs : List FileRead) (f : Refusal) → AreFiles 0 (texts_of files) fs → first_refusal fs ≡ Some f → f.place.file < length files
refusal_in_file files fs f a e = subst (λ (n : ℕ). f.place.file < n) (as_many files) (elim (either (first_lexical fs) (first_syntactic fs) f e) [
  | inl l ↦ let h = lexical_in 0 (texts_of files) fs f a l in omega (arith, h)
  | inr s ↦ let h = syntactic_in 0 (texts_of files) fs f a s in omega (arith, h)
])
