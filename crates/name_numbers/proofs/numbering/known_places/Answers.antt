use Rattle.std.proofs.Common.{ℕ, List, [], map, refl, ap, Bor}
use Rattle.std.specs.Map.{lookup}
use Rattle.std.specs.Cmp.Lexicographic.{slice_cmp}
use Rattle.std.specs.Ordering.{is_eq, nat_cmp}
use Rattle.name_numbers.specs.declared.words.TheConstants.{STANDARD_NAMES}
use Rattle.name_numbers.specs.Numbers.{known_names, words}
use Rattle.name_numbers.specs.Places.{Knows}
use Rattle.name_numbers.proofs.numbering.known_places.Goals as goal

pub returns : goal.returns
unfolding known_names words
returns c text =
    let standard = map (λ n. n.now) STANDARD_NAMES in
    let empty : Knows c.new-places.result [] = (λ text. ap (λ (es : List (Bor (List ℕ) × ℕ)). lookup (λ (k : Bor (List ℕ)). is_eq (slice_cmp nat_cmp text k.now)) es) c.new-places.ensures.empty) in
    c.in_ok-add_words.ensures standard (c.in_ok-add_names.ensures [] empty refl) refl text
