-- An if-expression is that of its parts, read once.
use Rattle.std.proofs.Common.{◌≡◌, refl, sym, ap, ◌∙◌, ℕ, List, [], ◌∷◌, ◌++◌, Option, Some, None}
use Rattle.std.specs.Prelude.{ℤ}
use Rattle.ada_values.specs.declared.place.Place.{Place}
use Rattle.front_codes.specs.declared.codes.Code.TheVariants as code
use Rattle.typed_units.specs.declared.expressions.Arm.{Arm}
use Rattle.typed_units.specs.declared.expressions.Expr.{Expr}
use Rattle.type_base.specs.Scope.{Scope}
use Rattle.type_base.specs.declared.seen.Seen.{Seen}
use Rattle.type_base.specs.declared.seen.Want.{Want}
use Rattle.typing_rules.specs.declared.prefix.Found.{Found}
use Rattle.typing_rules.specs.declared.prefix.Found.TheVariants.{Is}
use Rattle.typing_rules.specs.Conditions.{Common, arm_of, arm_seens, arms_onto, branch_want, chosen_else, chosen_number, common_by, condition, else_of, first_typed, if_by, if_found, if_seen, number_seen, pick, truth_found, typed_else}
use Rattle.typing_rules.specs.Fits.{both}
use Rattle.typing_rules.specs.Parts.{Operand}
use Rattle.typing_rules.specs.Parts as parts
use Rattle.typing_rules.specs.Values.{seen_of}
use Rattle.condition_rules.specs.Ifs.{arms_read, else_read, if_read, if_read_by, number_else, number_read, read_arms, read_else, seens_read, typed_if, typed_read}

seens : (c : Scope) (w : Want) (as' : List parts.Arm) → arm_seens c w as' ≡ seens_read (read_arms c w as')
seens c w [] = refl
seens c w (a ∷ as') = ap (λ (ss : List Seen). seen_of c a.gives w ∷ ss) (seens c w as')

typed : (c : Scope) (w : Want) (as' : List parts.Arm) (e : Option Operand) → typed_else c w as' e ≡ typed_read (read_arms c w as') (read_else c w e)
typed c w as' (Some o) = ap (λ (ss : List Seen). Some (first_typed (ss ++ (seen_of c o w ∷ [])))) (seens c w as')
typed c w as' None = refl

arms : (c : Scope) (k : Common) (w : Want) (done : Found (List (Arm Expr))) (as' : List parts.Arm) → arms_onto c k w done as' ≡ arms_read c k done (read_arms c w as')
arms c k w done [] = refl
arms c k w done (a ∷ as') = arms c k w (both (λ xs x. xs ++ (x ∷ [])) done (arm_of c k w a)) as'

otherwise : (c : Scope) (p : Place) (k : Common) (w : Want) (e : Option Operand) → else_of c p k w e ≡ else_read c p k (read_else c w e)
otherwise c p k w (Some o) = refl
otherwise c p k w None = refl

number : (c : Scope) (w : Want) (as' : List parts.Arm) (o : Operand) → chosen_number c w as' o ≡ number_read (read_arms c w as') (seen_of c o w)
number c w [] o = refl
number c w (a ∷ as') o = ap (λ (n : Option ℤ). pick (truth_found (condition c code.L9 a.condition)) (number_seen (seen_of c a.gives w)) n) (number c w as' o)

numbers : (c : Scope) (w : Want) (as' : List parts.Arm) (e : Option Operand) → chosen_else c w as' e ≡ number_else (read_arms c w as') (read_else c w e)
numbers c w as' (Some o) = number c w as' o
numbers c w as' None = refl

parts_read : (c : Scope) (p : Place) (k : Common) (w : Want) (as' : List parts.Arm) (e : Option Operand) → if_found c p k (arms_onto c k w (Is []) as') (else_of c p k w e) ≡ typed_if c p k (read_arms c w as') (read_else c w e)
parts_read c p k w as' e =
    ap (λ (xs : Found (List (Arm Expr))). if_found c p k xs (else_of c p k w e)) (arms c k w (Is []) as')
    ∙ ap (λ (x : Found Expr). if_found c p k (arms_read c k (Is []) (read_arms c w as')) x) (otherwise c p k w e)

by : (c : Scope) (p : Place) (w : Want) (as' : List parts.Arm) (e : Option Operand) (n : Option ℤ) → if_by c p w as' e n ≡ if_read_by c p w (read_arms c w as') (read_else c w e) n
by c p w as' e (Some n) = refl
by c p w as' e None =
    parts_read c p (common_by c w (typed_else c w as' e)) w as' e
    ∙ ap (λ (t : Option (Option Expr)). typed_if c p (common_by c w t) (read_arms c w as') (read_else c w e)) (typed c w as' e)

-- an if-expression whose branches tell a type, by its parts, which are read for what that makes of the context
pub if_seen_read : (c : Scope) (p : Place) (w : Want) (k : Option ℕ) (as' : List parts.Arm) (e : Option Operand) → if_read c p (branch_want w k) (read_arms c (branch_want w k) as') (read_else c (branch_want w k) e) ≡ if_seen c p w k as' e
if_seen_read c p w k as' e =
    sym (by c p (branch_want w k) as' e (chosen_else c (branch_want w k) as' e)
    ∙ ap (λ (n : Option ℤ). if_read_by c p (branch_want w k) (read_arms c (branch_want w k) as') (read_else c (branch_want w k) e) n) (numbers c (branch_want w k) as' e))
