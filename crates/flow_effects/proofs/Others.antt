-- Objects other than locals in lists.
use Rattle.std.proofs.Common.{◌≡◌, refl, ◌∙◌, ap, List, [], ◌∷◌, ◌++◌}
use Rattle.std.specs.Prelude.{Bool, true, false, ◌||◌, not}
use Rattle.typed_units.specs.Syntax.{Var}
use Rattle.flow_rules.specs.Functions.{any_other, is_local}

either_of : (a : Bool) (b : Bool) (c : Bool) → a || (b || c) ≡ (a || b) || c
either_of true b c = refl
either_of false b c = refl

pub any_of_both : (xs : List Var) (ys : List Var) → any_other (xs ++ ys) ≡ any_other xs || any_other ys
any_of_both [] ys = refl
any_of_both (x ∷ xs) ys = ap (λ (b : Bool). not (is_local x) || b) (any_of_both xs ys) ∙ either_of (not (is_local x)) (any_other xs) (any_other ys)
