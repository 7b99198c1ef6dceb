-- If-expressions and quantified expressions: what is refused is the first of the broken rules.
use Rattle.std.proofs.Common.{◌≡◌, refl, ◌∙◌, List, [], ◌∷◌, ◌++◌, Option, Some, None}
use Rattle.std.specs.Prelude.{ℕ, ℤ}
use Rattle.ada_syntax.specs.declared.expressions.Quantifier.{Quantifier}
use Rattle.ada_values.specs.declared.place.Place.{Place}
use Rattle.ada_values.specs.declared.values.Value.{Value}
use Rattle.front_codes.specs.declared.codes.Code.{Code}
use Rattle.front_codes.specs.declared.codes.Code.TheVariants as code
use Rattle.front_codes.specs.declared.codes.Refusal.{Refusal}
use Rattle.typed_units.specs.declared.expressions.Arm.{Arm as TypedArm}
use Rattle.typed_units.specs.declared.expressions.Expr.{Expr}
use Rattle.typed_units.specs.declared.expressions.ExprNode.TheVariants as node
use Rattle.type_base.specs.Scope.{Scope}
use Rattle.type_base.specs.declared.seen.Demand.TheVariants as demand
use Rattle.type_base.specs.declared.seen.Seen.{Seen}
use Rattle.type_base.specs.declared.seen.Seen.TheVariants as seen
use Rattle.type_base.specs.declared.seen.Want.{Want}
use Rattle.type_base.specs.declared.seen.Want.TheVariants as want
use Rattle.type_base.specs.Demands.{operand}
use Rattle.type_base.specs.Faults.{First, fault_of, operand_fault}
use Rattle.type_base.specs.Lookups.{form_at}
use Rattle.type_base.specs.Results.{truth_at}
use Rattle.type_base.specs.Standard.{boolean}
use Rattle.type_base.proofs.Firsts.{merge, step}
use Rattle.type_base.proofs.OperatorFirsts.{operand_is}
use Rattle.typing_rules.specs.declared.prefix.Found.{Found}
use Rattle.typing_rules.specs.declared.prefix.Found.TheVariants as found
use Rattle.typing_rules.specs.Conditions.{Chooser, Common, Counting, arm_of, arms_onto, branch, branch_by, branch_want, chooser, chosen, chosen_else, common_of, condition, counting, else_of, if_by, if_found, if_made, if_seen, index_subtype, quantified_by, quantified_seen, quantifier_of, result_by}
use Rattle.typing_rules.specs.Faults.{all_branches_faults, arms_faults, branch_faults, condition_faults, else_faults, faults_of, if_faults, quantified_faults, range_faults, unless_number}
use Rattle.typing_rules.specs.Fits.{both, found_fault}
use Rattle.typing_rules.specs.Parts.{Arm, Operand, Range}
use Rattle.typing_rules.specs.Ranges.{range_found}
use Rattle.typing_rules.specs.Values.{place_of, seen_of}
use Rattle.typing_laws.proofs.Merging.{first_alone, first_joined, first_more}
use Rattle.typing_laws.proofs.Operands.{ArmsFirst, IsFirst, MaybeFirst, RangeFirst, Waits, both_is, found_expr_is, operand_first, seen_as_is, seen_then_is, waiting_first}
use Rattle.typing_laws.proofs.Reaches.{range_first}

pub condition_first : (c : Scope) (r : Code) (o : Operand) → IsFirst o → First (found_fault (condition c r o)) (condition_faults c r o)
condition_first c r o h =
    let s = seen_of c o (want.Type boolean) in
    let x = operand c.world demand.Truth r (place_of c o) s in
    step (fault_of s) (operand_fault c.world demand.Truth r (place_of c o) s) (found_fault (condition c r o)) (faults_of c o (want.Type boolean))
    (found_expr_is x ∙ operand_is c.world demand.Truth r (place_of c o) s) (operand_first c o (want.Type boolean) h)

-- ---- if-expressions

branch_waits : (c : Scope) (k : Common) (q : Place) (s : Seen) → Waits s (found_fault (branch_by c k q s))
branch_waits c k q (seen.Refused f) = refl
branch_waits c k q seen.Unknown = tt
branch_waits c k q (seen.Number n) = tt
branch_waits c k q (seen.Typed u x) = tt

branch_first : (c : Scope) (k : Common) (w : Want) (o : Operand) → IsFirst o → First (found_fault (branch c k w o)) (branch_faults c k w o)
branch_first c k w o h =
    let s = seen_of c o w in
    waiting_first s (found_fault (branch_by c k (place_of c o) s)) (faults_of c o w) (branch_waits c k (place_of c o) s) (operand_first c o w h)

arm_first : (c : Scope) (k : Common) (w : Want) (a : Arm) → IsFirst a.condition → IsFirst a.gives → First (found_fault (arm_of c k w a)) (condition_faults c code.L9 a.condition ++ branch_faults c k w a.gives)
arm_first c k w a h i =
    let x = condition c code.L9 a.condition in
    let y = branch c k w a.gives in
    first_more (found_fault x) (found_fault y) (found_fault (arm_of c k w a)) (condition_faults c code.L9 a.condition) (branch_faults c k w a.gives)
    (both_is (λ v z. record { condition = v; gives = z }) x y) (condition_first c code.L9 a.condition h) (branch_first c k w a.gives i)

arms_first : (c : Scope) (k : Common) (w : Want) (done : Found (List (TypedArm Expr))) (as' : List Arm) (ds : List Refusal) → ArmsFirst as' → First (found_fault done) ds
    → First (found_fault (arms_onto c k w done as')) (ds ++ arms_faults c k w as')
arms_first c k w done [] ds h i = first_alone (found_fault done) ds i
arms_first c k w done (a ∷ as') ds h i =
    let x = arm_of c k w a in
    let xs = condition_faults c code.L9 a.condition ++ branch_faults c k w a.gives in
    let more = both (λ ys y. ys ++ (y ∷ [])) done x in
    first_joined (found_fault (arms_onto c k w more as')) ds xs (arms_faults c k w as')
    (arms_first c k w more as' (ds ++ xs) h.1
    (first_more (found_fault done) (found_fault x) (found_fault more) ds xs (both_is (λ ys y. ys ++ (y ∷ [])) done x) i (arm_first c k w a h.0.0 h.0.1)))

otherwise_first : (c : Scope) (p : Place) (k : Common) (w : Want) (o : Option Operand) → MaybeFirst o → First (found_fault (else_of c p k w o)) (else_faults c k w o)
otherwise_first c p k w (Some o) h = branch_first c k w o h
otherwise_first c p k w None h = refl

made_is : (c : Scope) (p : Place) (k : Common) (as' : List (TypedArm Expr)) (e : Expr) (v : Option Value) → fault_of (if_made c p k as' e v) ≡ None
made_is c p k as' e (Some v) = seen_as_is c p k.type (node.Static v)
made_is c p k as' e None = seen_as_is c p (result_by k (form_at c.world k.subtype)) (node.If as' e)

if_found_is : (c : Scope) (p : Place) (k : Common) (as' : Found (List (TypedArm Expr))) (e : Found Expr) → fault_of (if_found c p k as' e) ≡ merge (found_fault as') (found_fault e)
if_found_is c p k as' e =
    seen_then_is (both chooser as' e) (λ (r : Chooser). if_made c p k r.arms r.otherwise (chosen r.arms r.otherwise)) (λ r. made_is c p k r.arms r.otherwise (chosen r.arms r.otherwise))
    ∙ both_is chooser as' e

if_by_first : (c : Scope) (p : Place) (w : Want) (as' : List Arm) (e : Option Operand) (m : Option ℤ) → ArmsFirst as' → MaybeFirst e
    → First (fault_of (if_by c p w as' e m)) (unless_number m (all_branches_faults c (common_of c w as' e) w as' e))
if_by_first c p w as' e (Some n) h i = refl
if_by_first c p w as' e None h i =
    let k = common_of c w as' e in
    let x = arms_onto c k w (found.Is []) as' in
    let y = else_of c p k w e in
    first_more (found_fault x) (found_fault y) (fault_of (if_found c p k x y)) (arms_faults c k w as') (else_faults c k w e) (if_found_is c p k x y)
    (arms_first c k w (found.Is []) as' [] h refl) (otherwise_first c p k w e i)

pub if_first : (c : Scope) (p : Place) (w : Want) (k : Option ℕ) (as' : List Arm) (e : Option Operand) → ArmsFirst as' → MaybeFirst e
    → First (fault_of (if_seen c p w k as' e)) (if_faults c (branch_want w k) as' e)
if_first c p w k as' e h i = if_by_first c p (branch_want w k) as' e (chosen_else c (branch_want w k) as' e) h i

-- ---- quantified expressions

pub quantified_first : (c : Scope) (p : Place) (q : Quantifier) (at : ℕ) (g : Range) (f : ℕ → Operand) → RangeFirst g → ((k : ℕ) → IsFirst (f k))
    → First (fault_of (quantified_seen c p q at g f)) (quantified_faults c g f)
quantified_first c p q at g f h i =
    let r = range_found c code.L23 g in
    let o = f (index_subtype c.world r) in
    let x = condition c code.L23 o in
    first_more (found_fault r) (found_fault x) (fault_of (quantified_by c p q (c.number at) r x)) (range_faults c code.L23 g) (condition_faults c code.L23 o)
    (seen_then_is (both counting r x) (λ (z : Counting). truth_at p (node.Quantified (quantifier_of q) (record { number = c.number at; subtype = z.range.subtype }) z.range.low z.range.high z.predicate)) (λ z. refl)
    ∙ both_is counting r x) (range_first c code.L23 g h) (condition_first c code.L23 o (i (index_subtype c.world r)))
