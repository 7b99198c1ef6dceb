-- What it means that forms are at least 0 at a point.
use Rattle.std.specs.Prelude.{◌≡◌, true, ℤ, pos, ◌≤ℤ◌, List, [], ◌∷◌, if◌then◌else◌}
use Rattle.logic_terms.specs.Node.{Node}
use Rattle.logic_terms.specs.Value.{Value, as_number}
use Rattle.logic_terms.specs.Meaning.{World, meaning}
use Rattle.logic_terms.specs.Same.{same_node}
use Rattle.linear_forms.specs.Form.{Form, form_value}
use Rattle.linear_prover.specs.Forms.{stands}

abbrev pub AreAll : {A : Type 0} → (A → Type 0) → List A → Type 0
AreAll P [] = Unit {0}
AreAll P (x ∷ xs) = P x × AreAll P xs

-- the number of a variable, at its place among the variables
abbrev pub number_of : List Node → List ℤ → Node → ℤ
number_of [] ns u = pos 0
number_of (v ∷ vs) [] u = pos 0
number_of (v ∷ vs) (n ∷ ns) u = if same_node u v then n else number_of vs ns u

-- the variables have these numbers as their values
abbrev pub Gives : World → List Value → List Node → List ℤ → Type 0
Gives w vs us ns = (u : Node) → stands u us ≡ true → as_number (meaning w vs u) ≡ number_of us ns u

abbrev pub IsAtLeastZero : World → List Value → Form → Type 0
IsAtLeastZero w vs f = pos 0 ≤ℤ form_value w vs f
