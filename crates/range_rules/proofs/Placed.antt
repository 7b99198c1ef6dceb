-- Ranges and membership tests over the places of their bounds are those over the bounds.
use Rattle.std.proofs.Common.{◌≡◌, refl, ap, ◌∙◌, ℕ, Bool}
use Rattle.ada_values.specs.declared.place.Place.{Place}
use Rattle.front_codes.specs.declared.codes.Code.{Code}
use Rattle.front_codes.specs.declared.codes.Code.TheVariants as code
use Rattle.typed_units.specs.declared.expressions.Expr.{Expr}
use Rattle.type_base.specs.Scope.{Scope}
use Rattle.type_base.specs.declared.seen.Seen.{Seen}
use Rattle.type_base.specs.declared.seen.Seen.TheVariants as seen
use Rattle.typing_rules.specs.declared.prefix.Between.{Between}
use Rattle.typing_rules.specs.declared.prefix.Found.{Found}
use Rattle.typing_rules.specs.declared.prefix.Found.TheVariants.{Refused, Unknown, Is}
use Rattle.typing_rules.specs.declared.prefix.Reach.{Reach}
use Rattle.typing_rules.specs.declared.prefix.Reach.TheVariants as reach
use Rattle.typing_rules.specs.Parts.{Range}
use Rattle.typing_rules.specs.Ranges.{high_place, member_by, member_typed, reach_in}
use Rattle.typing_rules.specs.Values.{place_of}
use Rattle.range_rules.specs.Places.{member_placed, reach_placed, typed_placed}

-- the places of a range's bounds
pub reach_in_placed : (c : Scope) (r : Code) (t : ℕ) (g : Range) (u : Reach) → reach_placed c r t (place_of c g.low) (high_place c g g.high) u ≡ reach_in c r t g u
reach_in_placed c r t g (reach.Refused f) = refl
reach_in_placed c r t g reach.Unknown = refl
reach_in_placed c r t g (reach.Between b) = refl
reach_in_placed c r t g (reach.Numbers a b) = refl

typed : (c : Scope) (p : Place) (is : Bool) (g : Range) (t : ℕ) (x : Expr) (f : Found Between) → typed_placed c p is (place_of c g.low) t x f ≡ member_typed c p is g t x f
typed c p is g t x (Refused f) = refl
typed c p is g t x Unknown = refl
typed c p is g t x (Is b) = refl

pub member_by_placed : (c : Scope) (p : Place) (is : Bool) (q : Place) (g : Range) (s : Seen) (u : Reach) → member_placed c p is q (place_of c g.low) (high_place c g g.high) s u ≡ member_by c p is q g s u
member_by_placed c p is q g (seen.Refused f) u = refl
member_by_placed c p is q g seen.Unknown u = refl
member_by_placed c p is q g (seen.Typed t x) u = ap (typed_placed c p is (place_of c g.low) t x) (reach_in_placed c code.L7 t g u) ∙ typed c p is g t x (reach_in c code.L7 t g u)
member_by_placed c p is q g (seen.Number n) (reach.Refused f) = refl
member_by_placed c p is q g (seen.Number n) reach.Unknown = refl
member_by_placed c p is q g (seen.Number n) (reach.Numbers a b) = refl
member_by_placed c p is q g (seen.Number n) (reach.Between b) = refl
