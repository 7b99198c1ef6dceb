-- A turn of the loop over the aspects of a declaration.
use Rattle.std.proofs.Common.{◌≡◌, ◌<◌, ◌+◌, ◌∙◌, ap, sym, ℕ, Bool, Option, List, [], ◌∷◌, ◌++◌, map, length, get_or, drop, append_assoc}
use Rattle.std.proofs.lemmas.List.{drop_more}
use Rattle.ada_syntax.specs.declared.declarations.Aspect.{Aspect}
use Rattle.name_numbers.specs.declared.words.Word.{Word}
use Rattle.statement_typing.specs.Aspects.{aspect_found, aspect_number, aspects_found}
use Rattle.statement_typing.specs.Files.{Home}
use Rattle.statement_typing.specs.declared.parts.Stated.{Stated}
use Rattle.syntax_view.specs.View.{aspect_of}
use Rattle.type_base.specs.declared.world.World.{World}
use Rattle.typing_rules.specs.declared.prefix.Found.{Found}

-- the k-th stands first of those from it on
taken : (as' : List Aspect) (k : ℕ) (a : Aspect) → k < length as' → a ≡ get_or as' k a → drop k as' ≡ a ∷ drop (k + 1) as'
taken as' k a within is = drop_more as' k a within ∙ ap (λ (b : Aspect). b ∷ drop (k + 1) as') (sym is)

-- one more of them
pub one_more : (h : Home) (w : World) (first : Bool) (ns : List ℕ) (done now all : List (Found Stated)) (more : Found Stated) (as' : List Aspect) (k : ℕ) (a : Aspect) (word : Option Word)
    → k < length as' → a ≡ get_or as' k a → word ≡ h.file.word a.name.from
    → done ++ aspects_found h w first ns (map aspect_of (drop k as')) ≡ all → more ≡ aspect_found h w first ns (aspect_of a) → now ≡ done ++ more ∷ []
    → now ++ aspects_found h w first (aspect_number word ∷ ns) (map aspect_of (drop (k + 1) as')) ≡ all
one_more h w first ns done now all more as' k a word within is said before new pushed =
    let later = map aspect_of (drop (k + 1) as') in
    ap (λ (v : Option Word). now ++ aspects_found h w first (aspect_number v ∷ ns) later) said
    ∙ ap (λ (l : List (Found Stated)). l ++ aspects_found h w first (aspect_number (h.file.word a.name.from) ∷ ns) later) (pushed ∙ ap (λ (m : Found Stated). done ++ m ∷ []) new)
    ∙ append_assoc done (aspect_found h w first ns (aspect_of a) ∷ []) (aspects_found h w first (aspect_number (h.file.word a.name.from) ∷ ns) later)
    ∙ ap (λ (l : List Aspect). done ++ aspects_found h w first ns (map aspect_of l)) (sym (taken as' k a within is))
    ∙ before
