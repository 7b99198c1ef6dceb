-- The numbers of a list's spots, and a map that keeps the first of each as the list is walked from its end.
use Rattle.std.proofs.Common.{◌≡◌, ℕ, suc, ◌+◌, ◌<◌, arith, Bool, true, false, cond, sym, ap, ◌∙◌, List, [], ◌∷◌, length, get_or, drop, Option, Some, None, refl}
use Rattle.std.proofs.lemmas.Bool.Decides.{nat_tests}
use Rattle.std.proofs.lemmas.List.{drop_more}
use Rattle.std.specs.Prelude.{◌&&◌, ◌==◌, if◌then◌else◌}
use Rattle.std.specs.declared.cmp.Ordering.{Ordering}
use Rattle.std.specs.declared.cmp.Ordering.TheVariants.{Less, Equal, Greater}
use Rattle.std.specs.Ordering.{is_eq, nat_cmp, ordering_then}
use Rattle.name_library.specs.declared.links.Spot.{Spot}
use Rattle.name_links.specs.Links.{place_cmp}
use Rattle.program_scope.specs.Ranks.{ranked_from}
use Rattle.statement_typing.specs.Files.{rank, same_spot}

-- two places are one for the map exactly where they are for the list
same_number : (m n : ℕ) → is_eq (nat_cmp m n) ≡ (m == n)
same_number m n = grind (arith, nat_tests)

both : (a b : Ordering) → is_eq (ordering_then a b) ≡ (is_eq a && is_eq b)
both Less b = refl
both Equal b = refl
both Greater b = refl

pub same_place : (p : Spot) (file at : ℕ) → is_eq (place_cmp (p.file, p.at) (file, at)) ≡ same_spot p (record { file = file; at = at })
same_place p file at =
    both (nat_cmp p.file file) (nat_cmp p.at at)
    ∙ (λ j. same_number p.file file j && same_number p.at at j)

pub one_more : (ss : List Spot) (k : ℕ) (d s : Spot) → k < length ss → cond (same_spot (get_or ss k d) s) (Some k) (ranked_from (suc k) (drop (k + 1) ss) s) ≡ ranked_from k (drop k ss) s
one_more ss k d s h = ap (λ (l : List Spot). ranked_from k l s) (sym (drop_more ss k d h))

abbrev pub or_else : ℕ → Option ℕ → ℕ
or_else n (Some k) = k
or_else n None = n

step : (t : Bool) (n all r : ℕ) (o : Option ℕ) → or_else all o ≡ suc n + r → or_else all (if t then Some n else o) ≡ n + (if t then 0 else suc r)
step true n all r o h = omega arith
step false n all r o h = h ∙ omega arith

from_number : (n all : ℕ) (ss : List Spot) (s : Spot) → all ≡ n + length ss → or_else all (ranked_from n ss s) ≡ n + rank ss s
from_number n all [] s h = h
from_number n all (t ∷ ts) s h = step (same_spot t s) n all (rank ts s) (ranked_from (suc n) ts s) (from_number (suc n) all ts s (omega arith))

pub ranked : (ss : List Spot) (s : Spot) → or_else (length ss) (ranked_from 0 ss s) ≡ rank ss s
ranked ss s = from_number 0 (length ss) ss s (omega arith) ∙ omega arith
