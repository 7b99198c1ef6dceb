-- What is told so far, with what one more part is refused for.
use Rattle.std.proofs.Common.{◌≡◌, refl, List, [], ◌∷◌, ◌++◌, Option, Some, None, Bool}
use Rattle.std.specs.Prelude.{ℕ}
use Rattle.front_codes.specs.declared.codes.Refusal.{Refusal}
use Rattle.type_base.specs.Faults.{First}
use Rattle.type_base.specs.declared.world.World.{World}
use Rattle.type_base.proofs.Firsts.{first_both, merge}
use Rattle.syntax_view.specs.Trees as tree
use Rattle.typing_rules.specs.Fits.{found_fault}
use Rattle.typing_rules.specs.declared.prefix.Found.{Found}
use Rattle.statement_typing.specs.Aspects.{aspect_faults, aspect_found, aspect_number, aspects_faults, aspects_found}
use Rattle.statement_typing.specs.Files.{Home}
use Rattle.statement_typing.specs.Tellings.{earlier, each_told, told}
use Rattle.typing_laws.proofs.Merging.{first_alone, first_as, first_joined}
use Rattle.statement_laws.proofs.Telling.{Told}
use Rattle.statement_laws.proofs.Demands.{aspect_told}

earlier_is : (t u : Option Refusal) → earlier t u ≡ merge t u
earlier_is None u = refl
earlier_is (Some f) None = refl
earlier_is (Some f) (Some g) = refl

-- one more part
pub told_more : {A : Type 0} → (t : Option Refusal) (x : Found A) (fs gs : List Refusal) → First t fs → Told x gs → First (told t x) (fs ++ gs)
told_more t x fs gs h i = first_as (told t x) (merge t (found_fault x)) (fs ++ gs) (earlier_is t (found_fault x)) (first_both t (found_fault x) fs gs h i)

-- the aspects of a declaration
pub aspects_more : (h : Home) (w : World) (first : Bool) (ns : List ℕ) (as' : List tree.Aspect) (t : Option Refusal) (fs : List Refusal)
    → First t fs → First (each_told t (aspects_found h w first ns as')) (fs ++ aspects_faults h w first ns as')
aspects_more h w first ns [] t fs i = first_alone t fs i
aspects_more h w first ns (a ∷ as') t fs i =
    let x = aspect_found h w first ns a in
    let gs = aspect_faults h w first ns a in
    let later = aspect_number (h.file.word a.name.from) ∷ ns in
    first_joined (each_told (told t x) (aspects_found h w first later as')) fs gs (aspects_faults h w first later as')
    (aspects_more h w first later as' (told t x) (fs ++ gs) (told_more t x fs gs i (aspect_told h w first ns a)))
