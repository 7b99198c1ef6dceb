-- What is found of choices, one by one.
use Rattle.std.specs.Prelude.{Bool, true, List, [], ◌∷◌, ◌++◌}
use Rattle.ada_values.specs.declared.place.Place.{Place}
use Rattle.front_codes.specs.declared.codes.Code.TheVariants.{L21}
use Rattle.typed_units.specs.declared.operators.Bounds.{Bounds}
use Rattle.typed_units.specs.declared.statements.Choice.{Choice}
use Rattle.choice_cover.specs.declared.cover.Cover.{Cover}
use Rattle.choice_cover.specs.declared.cover.Cover.TheVariants as cover
use Rattle.typing_rules.specs.declared.prefix.Found.{Found}
use Rattle.typing_rules.specs.declared.prefix.Found.TheVariants.{Refused, Unknown, Is}
use Rattle.typing_rules.specs.Fits.{found_then, with_found}
use Rattle.statement_typing.specs.declared.parts.Spread.{Spread}
use Rattle.statement_typing.specs.Checks.{added, and_also, unless}
use Rattle.statement_typing.specs.Choices.{fresh}

-- that something is found, without it
abbrev pub heard : {A : Type 0} → Found A → Found (Unit {0})
heard a = with_found (λ x. tt) a

-- after some that are heard
abbrev pub heard_after : Found (Unit {0}) → List (Found Spread) → Found (Unit {0})
heard_after done [] = done
heard_after done (x ∷ xs) = heard_after (and_also done (heard x)) xs

abbrev pub choices_after : Found (List Choice) → List (Found Spread) → Found (List Choice)
choices_after done [] = done
choices_after done (x ∷ xs) = choices_after (added done (with_found (λ s. s.choice) x)) xs

-- the values of choices, the newest last
abbrev pub with_values : List Bounds → Found Spread → List Bounds
with_values bs (Is x) = bs ++ x.values ∷ []
with_values bs Unknown = bs
with_values bs (Refused f) = bs

abbrev pub known_after : List Bounds → List (Found Spread) → List Bounds
known_after bs [] = bs
known_after bs (x ∷ xs) = known_after (with_values bs x) xs

-- whether each choice has values that no choice before it has, after some that have values `bs`
abbrev pub judged_after : Bounds → List Bounds → Found (Unit {0}) → List (Found Spread) → Found (Unit {0})
judged_after s bs done [] = done
judged_after s bs done (x ∷ xs) = judged_after s (with_values bs x) (and_also done (heard (fresh s bs x))) xs

-- choices that have each value at most once: p is the place where one is missed, if any is
abbrev pub covered_where : Place → Bool → Found (Unit {0}) → Found Bool
covered_where p complete state = found_then state (λ u. unless complete L21 p true)

-- by what the values that are known are for the bounds of the selector
abbrev pub cover_read : Place → Bool → Bounds → List (Found Spread) → Cover → Found Bool
cover_read p others s xs cover.Whole = covered_where p true (heard_after (Is tt) xs)
cover_read p others s xs cover.Missing = covered_where p others (heard_after (Is tt) xs)
cover_read p others s xs (cover.Outside k) = covered_where p true (judged_after s [] (Is tt) xs)
cover_read p others s xs (cover.Twice k) = covered_where p true (judged_after s [] (Is tt) xs)
