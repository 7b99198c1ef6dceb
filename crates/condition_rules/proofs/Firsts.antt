-- The first branch that has a type.
use Rattle.std.proofs.Common.{◌≡◌, refl, ap, ◌∙◌, ℕ, List, [], ◌∷◌, ◌++◌, Option, Some, None}
use Rattle.std.specs.Option.{option_map}
use Rattle.typed_units.specs.declared.expressions.Expr.{Expr}
use Rattle.type_base.specs.Demands.{subtype_of}
use Rattle.type_base.specs.Scope.{Scope}
use Rattle.type_base.specs.declared.seen.Seen.{Seen}
use Rattle.type_base.specs.declared.seen.Seen.TheVariants as seen
use Rattle.type_base.specs.declared.seen.Want.{Want}
use Rattle.typing_rules.specs.Conditions.{common_by, first_typed}
use Rattle.condition_rules.specs.declared.branches.ReadArm.{ReadArm}
use Rattle.condition_rules.specs.Ifs.{common_from, seen_subtype, seens_read, subtype_or, subtype_read}

one : (t : Seen) (ss : List Seen) → option_map subtype_of (first_typed (t ∷ ss)) ≡ subtype_or (seen_subtype t) (option_map subtype_of (first_typed ss))
one (seen.Refused f) ss = refl
one seen.Unknown ss = refl
one (seen.Number n) ss = refl
one (seen.Typed t x) ss = refl

last : (t : Seen) → option_map subtype_of (first_typed (t ∷ [])) ≡ seen_subtype t
last (seen.Refused f) = refl
last seen.Unknown = refl
last (seen.Number n) = refl
last (seen.Typed t x) = refl

first_subtype : (as' : List ReadArm) (s : Seen) → option_map subtype_of (first_typed (seens_read as' ++ (s ∷ []))) ≡ subtype_read as' s
first_subtype [] s = last s
first_subtype (a ∷ as') s = one a.gives.seen (seens_read as' ++ (s ∷ [])) ∙ ap (λ (o : Option ℕ). subtype_or (seen_subtype a.gives.seen) o) (first_subtype as' s)

by_subtype : (c : Scope) (w : Want) (x : Option Expr) → common_by c w (Some x) ≡ common_from c w (option_map subtype_of x)
by_subtype c w (Some x) = refl
by_subtype c w None = refl

-- it gives what the branches have in common
pub common_first : (c : Scope) (w : Want) (as' : List ReadArm) (s : Seen) → common_by c w (Some (first_typed (seens_read as' ++ (s ∷ [])))) ≡ common_from c w (subtype_read as' s)
common_first c w as' s = by_subtype c w (first_typed (seens_read as' ++ (s ∷ []))) ∙ ap (λ (o : Option ℕ). common_from c w o) (first_subtype as' s)
