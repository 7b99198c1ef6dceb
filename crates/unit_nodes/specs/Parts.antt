-- The direct parts of an expression, and what stands inside one.
use Rattle.std.specs.Prelude.{ℕ, List, [], ◌∷◌, ◌++◌, Contains}
use Rattle.ada_values.specs.declared.place.Place.{Place}
use Rattle.typed_units.specs.Syntax as text
use Rattle.typed_units.specs.Syntax.{Ex, Nd}

-- the indexes on the way to a part of an object
abbrev pub path_parts : text.Path → List Ex
path_parts text.here = []
path_parts (text.to_component k n rest) = path_parts rest
path_parts (text.to_item b c e rest) = e ∷ path_parts rest

abbrev pub target_parts : text.Target → List Ex
target_parts (text.target p v path) = path_parts path

abbrev pub actual_parts : text.Actual → List Ex
actual_parts (text.pass_in k f e) = e ∷ []
actual_parts (text.pass_out k t f) = target_parts t
actual_parts (text.pass_in_out k t f g) = target_parts t

abbrev pub actuals_parts : text.Actuals → List Ex
actuals_parts text.no_actuals = []
actuals_parts (text.actual a rest) = actual_parts a ++ actuals_parts rest

abbrev pub arms_parts : text.Arms → List Ex
arms_parts (text.other e) = e ∷ []
arms_parts (text.arm c g rest) = c ∷ g ∷ arms_parts rest

abbrev pub assocs_parts : text.Assocs → List Ex
assocs_parts text.no_assocs = []
assocs_parts (text.assoc bs o cs e rest) = e ∷ assocs_parts rest

abbrev pub parts : Nd → List Ex
parts (text.static v) = []
parts (text.read p m v) = []
parts (text.component k a) = a ∷ []
parts (text.op1 o a) = a ∷ []
parts (text.op2 o a b) = a ∷ b ∷ []
parts (text.connect c a b) = a ∷ b ∷ []
parts (text.member is a l h) = a ∷ l ∷ h ∷ []
parts (text.call p q as') = actuals_parts as'
parts (text.aggregate c b as') = assocs_parts as'
parts (text.choose as') = arms_parts as'
parts (text.quantified q k l h p) = l ∷ h ∷ p ∷ []

-- an expression stands inside itself, and inside each expression of which it is inside a part
pub data Inside (x : Ex) : Ex → Type 0 where
  itself : Inside x x
  deeper : (d : Ex) (p : Place) (s : ℕ) (n : Nd) → Contains (parts n) d → Inside x d → Inside x (text.at p s n)
