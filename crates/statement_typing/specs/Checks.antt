-- What is found of several parts, and the rules that are broken in them.
use Rattle.std.specs.Prelude.{Bool, true, false, List, [], ◌∷◌, ◌++◌}
use Rattle.ada_values.specs.declared.place.Place.{Place}
use Rattle.front_codes.specs.declared.codes.Code.{Code}
use Rattle.front_codes.specs.declared.codes.Refusal.{Refusal}
use Rattle.type_base.specs.Demands as demands
use Rattle.type_base.specs.declared.seen.Seen.{Seen}
use Rattle.type_base.specs.declared.seen.Seen.TheVariants as seen
use Rattle.typing_rules.specs.declared.prefix.Found.{Found}
use Rattle.typing_rules.specs.declared.prefix.Found.TheVariants.{Refused, Unknown, Is}
use Rattle.typing_rules.specs.Fits.{both}

abbrev pub refuse : {A : Type 0} → Code → Place → Found A
refuse r p = Refused (demands.broken r p)

abbrev pub unless : {A : Type 0} → Bool → Code → Place → A → Found A
unless true r p a = Is a
unless false r p a = refuse r p

-- a part, and another that gives nothing to it
abbrev pub and_also : {A : Type 0} → {B : Type 0} → Found A → Found B → Found A
and_also a b = both (λ x y. x) a b

-- one part more
abbrev pub added : {A : Type 0} → Found (List A) → Found A → Found (List A)
added done a = both (λ xs x. xs ++ (x ∷ [])) done a

abbrev pub all_onto : {A : Type 0} → Found (List A) → List (Found A) → Found (List A)
all_onto done [] = done
all_onto done (a ∷ as') = all_onto (added done a) as'

abbrev pub all_of : {A : Type 0} → List (Found A) → Found (List A)
all_of as' = all_onto (Is []) as'

-- ---- broken rules

abbrev pub broken : Code → Place → List Refusal
broken r p = demands.broken r p ∷ []

abbrev pub fault_in : {A : Type 0} → Found A → List Refusal
fault_in (Refused f) = f ∷ []
fault_in Unknown = []
fault_in (Is a) = []

-- what a demand on a part breaks, where nothing is broken in the part itself
abbrev pub fault_after : {A : Type 0} → {B : Type 0} → Found A → Found B → List Refusal
fault_after (Is a) b = fault_in b
fault_after Unknown b = []
fault_after (Refused r) b = []

abbrev pub fault_beyond : {A : Type 0} → Seen → Found A → List Refusal
fault_beyond (seen.Number n) b = fault_in b
fault_beyond (seen.Typed t x) b = fault_in b
fault_beyond seen.Unknown b = []
fault_beyond (seen.Refused r) b = []
