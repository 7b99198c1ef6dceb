-- Bounds that the subtype of a part has.
use Rattle.std.proofs.Common.{◌≡◌, refl, ℕ, List, [], ◌∷◌, Some}
use Rattle.std.specs.Prelude.{if◌then◌else◌}
use Rattle.typed_units.specs.declared.expressions.Expr.{Expr}
use Rattle.typed_units.specs.declared.expressions.Step.{Step}
use Rattle.typed_units.specs.declared.operators.Bounds.{Bounds}
use Rattle.typing_rules.specs.Attributes.{bounded_by, known_bounds, of_value, only_components, static}
use Rattle.attribute_rules.specs.Arrays.{is_whole}

pub by_path : (x : Expr) (i : ℕ) (b : Bounds) (ss : List (Step Expr)) → bounded_by x i (Some b) ss ≡ (if is_whole ss then static i b else (if only_components ss then known_bounds i b x else of_value i x))
by_path x i b [] = refl
by_path x i b (s ∷ ss) = refl
