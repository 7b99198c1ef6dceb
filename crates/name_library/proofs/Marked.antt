-- The chains of a library, by the numbers of its units.
use Rattle.std.proofs.Common.{◌≡◌, ℕ, zero, suc, refl, ap, ◌∙◌, List, [], ◌∷◌, Some}
use Rattle.std.specs.Prelude.{slice_get}
use Rattle.name_library.specs.declared.circles.Dependence.{Dependence}
use Rattle.name_library.specs.declared.library.LibraryUnit.{LibraryUnit}
use Rattle.name_library.specs.Library.{declaration_of, unit_at}
use Rattle.name_library.specs.Chains.{chains, chains_from, dependences, is_reached, leads_back, stands_in}

same : (all : List Dependence) (file : ℕ) (us : List LibraryUnit) (k : ℕ) → stands_in file (slice_get (chains_from all us) k) ≡ is_reached all file (slice_get us k)
same all file [] k = refl
same all file (u ∷ us) zero = refl
same all file (u ∷ us) (suc k) = same all file us k

pub by_number : (l : List LibraryUnit) (cs : List (List ℕ)) (n file k : ℕ) → cs ≡ chains l → unit_at l (Some k) ≡ declaration_of l n → stands_in file (slice_get cs k) ≡ leads_back l n file
by_number l cs n file k e h =
    ap (λ c. stands_in file (slice_get c k)) e ∙ same (dependences l) file l k ∙ ap (is_reached (dependences l) file) h
