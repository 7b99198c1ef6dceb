-- The files from a number on are that file and those after it.
use Rattle.std.proofs.Common.{◌≡◌, ◌∙◌, ◌+◌, refl, ap, sym, ℕ, suc, List, [], ◌∷◌, Option, Some, None, drop}
use Rattle.std.specs.List.{slice_get}
use Rattle.std.specs.Prelude.{unwrap_or}
use Rattle.name_library.specs.declared.events.Ident.{Ident}
use Rattle.name_library.specs.declared.links.Usage.{Usage}
use Rattle.name_resolver.specs.declared.files.SourceFile.{SourceFile}
use Rattle.statement_typing.specs.Files.{File}
use Rattle.program_parts.proofs.Dropped.{no_more, one_more}
use Rattle.type_checker.specs.Sources.{file_by, files_from}

-- what the files are by what begins each list
begun : (n : ℕ) (k : ℕ) (s : SourceFile) (t : List Ident) (l : List ℕ) (ss : List SourceFile) (ts : List (List Ident)) (ls : List (List ℕ)) (us : List Usage)
    → slice_get ss k ≡ Some s → slice_get ts k ≡ Some t → slice_get ls k ≡ Some l
    → files_from n (drop k ss) (drop k ts) (drop k ls) us ≡ files_from n (s ∷ drop (k + 1) ss) (t ∷ drop (k + 1) ts) (l ∷ drop (k + 1) ls) us
begun n k s t l ss ts ls us a b c =
    ap (λ (x : List SourceFile). files_from n x (drop k ts) (drop k ls) us) (one_more ss k s a)
    ∙ ap (λ (x : List (List Ident)). files_from n (s ∷ drop (k + 1) ss) x (drop k ls) us) (one_more ts k t b)
    ∙ ap (λ (x : List (List ℕ)). files_from n (s ∷ drop (k + 1) ss) (t ∷ drop (k + 1) ts) x us) (one_more ls k l c)

by_cases : (n k : ℕ) (ss : List SourceFile) (ts : List (List Ident)) (ls : List (List ℕ)) (us : List Usage) (f : File)
    → (a : Option SourceFile) → (b : Option (List Ident)) → (c : Option (List ℕ)) → slice_get ss k ≡ a → slice_get ts k ≡ b → slice_get ls k ≡ c
    → file_by n a b c us ≡ Some f → files_from n (drop k ss) (drop k ts) (drop k ls) us ≡ f ∷ files_from (suc n) (drop (k + 1) ss) (drop (k + 1) ts) (drop (k + 1) ls) us
by_cases n k ss ts ls us f (Some s) (Some t) (Some l) x y z e =
    begun n k s t l ss ts ls us x y z ∙ ap (λ (g : Option File). unwrap_or g f ∷ files_from (suc n) (drop (k + 1) ss) (drop (k + 1) ts) (drop (k + 1) ls) us) e
by_cases n k ss ts ls us f (Some s) (Some t) None x y z e = cc
by_cases n k ss ts ls us f (Some s) None c x y z e = cc
by_cases n k ss ts ls us f None b c x y z e = cc

-- a file of this number begins those that are left
pub turn : (n k : ℕ) (ss : List SourceFile) (ts : List (List Ident)) (ls : List (List ℕ)) (us : List Usage) (f : File)
    → file_by n (slice_get ss k) (slice_get ts k) (slice_get ls k) us ≡ Some f
    → files_from n (drop k ss) (drop k ts) (drop k ls) us ≡ f ∷ files_from (suc n) (drop (k + 1) ss) (drop (k + 1) ts) (drop (k + 1) ls) us
turn n k ss ts ls us f e = by_cases n k ss ts ls us f (slice_get ss k) (slice_get ts k) (slice_get ls k) refl refl refl e

without_tables : (n : ℕ) (ss : List SourceFile) (ls : List (List ℕ)) (us : List Usage) → files_from n ss [] ls us ≡ []
without_tables n [] ls us = refl
without_tables n (s ∷ ss) ls us = refl

without_lines : (n : ℕ) (ss : List SourceFile) (ts : List (List Ident)) (us : List Usage) → files_from n ss ts [] us ≡ []
without_lines n [] ts us = refl
without_lines n (s ∷ ss) [] us = refl
without_lines n (s ∷ ss) (t ∷ ts) us = refl

ended : (n k : ℕ) (ss : List SourceFile) (ts : List (List Ident)) (ls : List (List ℕ)) (us : List Usage)
    → (a : Option SourceFile) → (b : Option (List Ident)) → (c : Option (List ℕ)) → slice_get ss k ≡ a → slice_get ts k ≡ b → slice_get ls k ≡ c
    → file_by n a b c us ≡ None → files_from n (drop k ss) (drop k ts) (drop k ls) us ≡ []
ended n k ss ts ls us (Some s) (Some t) (Some l) x y z e = cc
ended n k ss ts ls us (Some s) (Some t) None x y z e =
    ap (λ (v : List (List ℕ)). files_from n (drop k ss) (drop k ts) v us) (no_more ls k z) ∙ without_lines n (drop k ss) (drop k ts) us
ended n k ss ts ls us (Some s) None c x y z e =
    ap (λ (v : List (List Ident)). files_from n (drop k ss) v (drop k ls) us) (no_more ts k y) ∙ without_tables n (drop k ss) (drop k ls) us
ended n k ss ts ls us None b c x y z e = ap (λ (v : List SourceFile). files_from n v (drop k ts) (drop k ls) us) (no_more ss k x)

-- where there is no such file none is left
pub end : (n k : ℕ) (ss : List SourceFile) (ts : List (List Ident)) (ls : List (List ℕ)) (us : List Usage)
    → file_by n (slice_get ss k) (slice_get ts k) (slice_get ls k) us ≡ None → files_from n (drop k ss) (drop k ts) (drop k ls) us ≡ []
end n k ss ts ls us e = ended n k ss ts ls us (slice_get ss k) (slice_get ts k) (slice_get ls k) refl refl refl e
