-- What stands at a number of a list.
use Rattle.std.proofs.Common.{◌≡◌, ℕ, zero, suc, refl, map, List, [], ◌∷◌}
use Rattle.std.specs.Prelude.{Option, Some, None, is_some, slice_get}
use Rattle.ada_values.specs.declared.shapes.Shape.{Shape}
use Rattle.typed_units.specs.declared.programs.Contract.{Contract}
use Rattle.typed_units.specs.declared.programs.Sub.{Sub}
use Rattle.typed_units.specs.declared.statements.Way.{Way}
use Rattle.typed_units.specs.View.{condition_of, routine, scalar_at, way_of}
use Rattle.check_sites.specs.Listed.{scalar_of, sub_has_pre, way_checks}
use Rattle.check_sites.specs.Sites.{has_pre, variant_checks}

pub scalar_found : (shapes : List Shape) (k : ℕ) → scalar_of (slice_get shapes k) ≡ scalar_at shapes k
scalar_found [] k = refl
scalar_found (s ∷ ss) zero = refl
scalar_found (s ∷ ss) (suc k) = scalar_found ss k

condition_seen : (shapes : List Shape) (c : Option Contract) → is_some c ≡ is_some (condition_of shapes c)
condition_seen shapes None = refl
condition_seen shapes (Some c) = refl

pub pre_found : (shapes : List Shape) (subs : List Sub) (k : ℕ) → sub_has_pre (slice_get subs k) ≡ has_pre (map (routine shapes) subs) k
pre_found shapes [] k = refl
pre_found shapes (s ∷ ss) zero = condition_seen shapes s.pre
pre_found shapes (s ∷ ss) (suc k) = pre_found shapes ss k

pub way_found : (shapes : List Shape) (ws : List Way) → way_checks shapes (slice_get ws 0) ≡ variant_checks (map (way_of shapes) ws)
way_found shapes [] = refl
way_found shapes (w ∷ ws) = refl
