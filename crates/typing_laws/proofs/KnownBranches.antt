-- If-expressions and quantified expressions whose parts are known are known.
use Rattle.std.proofs.Common.{ℕ, ℤ, Bool, true, false, ◌==◌, ◌&&◌, List, [], ◌∷◌, ◌++◌, Option, Some, None}
use Rattle.std.specs.Prelude.{if◌then◌else◌}
use Rattle.ada_syntax.specs.declared.expressions.Quantifier.{Quantifier}
use Rattle.ada_values.specs.declared.place.Place.{Place}
use Rattle.ada_values.specs.declared.values.Value.{Value}
use Rattle.front_codes.specs.declared.codes.Code.{Code}
use Rattle.front_codes.specs.declared.codes.Code.TheVariants as code
use Rattle.front_codes.specs.declared.codes.Refusal.{Refusal}
use Rattle.typed_units.specs.declared.expressions.Arm.{Arm as TypedArm}
use Rattle.typed_units.specs.declared.expressions.Expr.{Expr}
use Rattle.typed_units.specs.declared.expressions.ExprNode.TheVariants as node
use Rattle.type_base.specs.Scope.{Scope}
use Rattle.type_base.specs.declared.seen.Demand.TheVariants as demand
use Rattle.type_base.specs.declared.seen.Seen.{Seen}
use Rattle.type_base.specs.declared.seen.Seen.TheVariants as seen
use Rattle.type_base.specs.declared.seen.Want.{Want}
use Rattle.type_base.specs.declared.seen.Want.TheVariants as want
use Rattle.type_base.specs.declared.world.Form.{Form}
use Rattle.type_base.specs.declared.world.Form.TheVariants as form
use Rattle.type_base.specs.declared.world.World.{World}
use Rattle.type_base.specs.Demands.{broken, integer_of, integer_or, is_one, is_whole, operand, placed_number, subtype_of, wanted_integer, wanted_type}
use Rattle.type_base.specs.Lookups.{form_at}
use Rattle.type_base.specs.Results.{truth_at}
use Rattle.type_base.specs.Standard.{boolean, integer_base}
use Rattle.expression_rules.specs.Known.{IsKnown}
use Rattle.typing_rules.specs.declared.prefix.Between.{Between}
use Rattle.typing_rules.specs.declared.prefix.Found.{Found}
use Rattle.typing_rules.specs.declared.prefix.Found.TheVariants as found
use Rattle.typing_rules.specs.Conditions.{Chooser, Common, Counting, arm_of, arm_seens, arms_onto, branch, branch_by, branch_want, chooser, chosen, chosen_else, common_by, common_of, condition, counting, else_of, first_typed, if_by, if_made, if_seen, index_subtype, quantified_seen, quantifier_of, result_by}
use Rattle.typing_rules.specs.Fits.{both}
use Rattle.typing_rules.specs.Kinds.{arms_kind, branches_kind, first_kind, operand_kind}
use Rattle.typing_rules.specs.Parts.{Arm, Operand, Range}
use Rattle.typing_rules.specs.Ranges.{range_found}
use Rattle.typing_rules.specs.Values.{place_of, seen_of}
use Rattle.typing_laws.specs.Declared.{IsGiven, IsSound, IsThere}
use Rattle.typing_laws.proofs.Standing.{IsFound, KindThere, boolean_there, both_found, expr_found, found_if, integer_there, kind_there, number_placed, seen_as_known, stands_there, then_known, type_there}
use Rattle.typing_laws.proofs.KnownParts.{ArmsKnown, MaybeKnown, OperandKnown, RangeKnown, operand_known}
use Rattle.typing_laws.proofs.KnownRanges.{BetweenFound, range_known, truth_known, truth_placed, want_given}

condition_found : (c : Scope) (r : Code) (o : Operand) → IsSound c.world → OperandKnown c.world o → IsFound (condition c r o)
condition_found c r o sound h =
    let s = seen_of c o (want.Type boolean) in
    let x = operand c.world demand.Truth r (place_of c o) s in
    expr_found c.world x (truth_placed c.world r (place_of c o) s (operand_known c o (want.Type boolean) sound h (boolean_there c.world sound)))

-- ---- the integer type that the context gives

integer_if : (w : World) (t : ℕ) (b : Bool) → IsSound w → IsThere w t → IsThere w (if b then t else integer_base)
integer_if w t true sound h = h
integer_if w t false sound h = integer_there w sound

integer_or_there : (w : World) (t : ℕ) (m : Option Form) → IsSound w → IsThere w t → IsThere w (integer_or t m)
integer_or_there w t (Some (form.Number d s)) sound h = integer_if w t (is_whole d) sound h
integer_or_there w t (Some form.Truth) sound h = integer_there w sound
integer_or_there w t (Some (form.Array i b k)) sound h = integer_there w sound
integer_or_there w t (Some (form.Record i n)) sound h = integer_there w sound
integer_or_there w t None sound h = integer_there w sound

integer_of_there : (w : World) (m : Option ℕ) → IsSound w → KindThere w m → IsThere w (integer_of w m)
integer_of_there w (Some t) sound h = integer_or_there w t (form_at w t) sound h
integer_of_there w None sound h = integer_there w sound

wanted_type_there : (w : World) (v : Want) → IsSound w → IsGiven w v → KindThere w (wanted_type w v)
wanted_type_there w want.Free sound h = tt
wanted_type_there w want.Unknown sound h = tt
wanted_type_there w (want.Type t) sound h = h
wanted_type_there w (want.Subtype k) sound h = kind_there w k sound

pub wanted_there : (w : World) (v : Want) → IsSound w → IsGiven w v → IsThere w (wanted_integer w v)
wanted_there w v sound h = integer_of_there w (wanted_type w v) sound (wanted_type_there w v sound h)

-- ---- the type of the branches

record CommonThere (w : World) (k : Common) : Type 0 where
  pub type : IsThere w k.type
  pub subtype : IsThere w k.subtype

abbrev AllKnown : World → List Seen → Type 0
AllKnown w [] = Unit {0}
AllKnown w (s ∷ ss) = IsKnown w s × AllKnown w ss

abbrev FirstThere : World → Option Expr → Type 0
FirstThere w None = Unit {0}
FirstThere w (Some x) = IsThere w (subtype_of x)

first_there : (w : World) (ss : List Seen) → AllKnown w ss → FirstThere w (first_typed ss)
first_there w [] h = tt
first_there w (seen.Typed t x ∷ ss) h = stands_there w t (subtype_of x) h.0
first_there w (seen.Refused f ∷ ss) h = first_there w ss h.1
first_there w (seen.Unknown ∷ ss) h = first_there w ss h.1
first_there w (seen.Number n ∷ ss) h = first_there w ss h.1

seens_known : (c : Scope) (v : Want) (as' : List Arm) (s : Seen) → IsSound c.world → IsGiven c.world v → ArmsKnown c.world as' → IsKnown c.world s → AllKnown c.world (arm_seens c v as' ++ (s ∷ []))
seens_known c v [] s sound g h i = (i, tt)
seens_known c v (a ∷ as') s sound g h i = (operand_known c a.gives v sound h.0.1 g, seens_known c v as' s sound g h.1 i)

common_there_by : (c : Scope) (v : Want) (m : Option Expr) → IsSound c.world → IsGiven c.world v → FirstThere c.world m → CommonThere c.world (common_by c v (Some m))
common_there_by c v None sound g h = record { type = wanted_there c.world v sound g; subtype = wanted_there c.world v sound g }
common_there_by c v (Some x) sound g h = record { type = type_there c.world (subtype_of x) sound h; subtype = h }

common_there : (c : Scope) (v : Want) (as' : List Arm) (e : Option Operand) → IsSound c.world → IsGiven c.world v → ArmsKnown c.world as' → MaybeKnown c.world e → CommonThere c.world (common_of c v as' e)
common_there c v as' None sound g h i = record { type = boolean_there c.world sound; subtype = boolean_there c.world sound }
common_there c v as' (Some o) sound g h i =
    let ss = arm_seens c v as' ++ (seen_of c o v ∷ []) in
    common_there_by c v (first_typed ss) sound g (first_there c.world ss (seens_known c v as' (seen_of c o v) sound g h (operand_known c o v sound i g)))

-- ---- branches

branch_by_found : (c : Scope) (k : Common) (q : Place) (s : Seen) → IsThere c.world k.type → IsKnown c.world s → IsFound (branch_by c k q s)
branch_by_found c k q (seen.Refused f) h i = tt
branch_by_found c k q seen.Unknown h i = absurd i
branch_by_found c k q (seen.Number n) h i = expr_found c.world (placed_number c.world code.L26 q q k.type n) (number_placed c.world code.L26 q q k.type n h)
branch_by_found c k q (seen.Typed u x) h i = found_if ((u == k.type) && is_one c.world k.subtype (subtype_of x)) (found.Is x) (found.Refused (broken code.L26 q)) tt tt

branch_found : (c : Scope) (k : Common) (v : Want) (o : Operand) → IsSound c.world → IsGiven c.world v → IsThere c.world k.type → OperandKnown c.world o → IsFound (branch c k v o)
branch_found c k v o sound g h i = branch_by_found c k (place_of c o) (seen_of c o v) h (operand_known c o v sound i g)

arm_found : (c : Scope) (k : Common) (v : Want) (a : Arm) → IsSound c.world → IsGiven c.world v → IsThere c.world k.type → OperandKnown c.world a.condition → OperandKnown c.world a.gives → IsFound (arm_of c k v a)
arm_found c k v a sound g h i j =
    both_found (λ x y. record { condition = x; gives = y }) (condition c code.L9 a.condition) (branch c k v a.gives) (condition_found c code.L9 a.condition sound i) (branch_found c k v a.gives sound g h j)

arms_found : (c : Scope) (k : Common) (v : Want) (done : Found (List (TypedArm Expr))) (as' : List Arm) → IsSound c.world → IsGiven c.world v → IsThere c.world k.type → ArmsKnown c.world as' → IsFound done → IsFound (arms_onto c k v done as')
arms_found c k v done [] sound g h i j = j
arms_found c k v done (a ∷ as') sound g h i j =
    arms_found c k v (both (λ xs x. xs ++ (x ∷ [])) done (arm_of c k v a)) as' sound g h i.1 (both_found (λ xs x. xs ++ (x ∷ [])) done (arm_of c k v a) j (arm_found c k v a sound g h i.0.0 i.0.1))

otherwise_found : (c : Scope) (p : Place) (k : Common) (v : Want) (o : Option Operand) → IsSound c.world → IsGiven c.world v → IsThere c.world k.type → MaybeKnown c.world o → IsFound (else_of c p k v o)
otherwise_found c p k v (Some o) sound g h i = branch_found c k v o sound g h i
otherwise_found c p k v None sound g h i = tt

result_there : (w : World) (k : Common) (m : Option Form) → CommonThere w k → IsThere w (result_by k m)
result_there w k None h = h.type
result_there w k (Some (form.Number d s)) h = h.type
result_there w k (Some form.Truth) h = h.type
result_there w k (Some (form.Array i b t)) h = h.subtype
result_there w k (Some (form.Record i n)) h = h.type

made_known : (c : Scope) (p : Place) (k : Common) (as' : List (TypedArm Expr)) (e : Expr) (v : Option Value) → IsSound c.world → CommonThere c.world k → IsKnown c.world (if_made c p k as' e v)
made_known c p k as' e (Some v) sound h = seen_as_known c p k.type (node.Static v) sound h.type
made_known c p k as' e None sound h = seen_as_known c p (result_by k (form_at c.world k.subtype)) (node.If as' e) sound (result_there c.world k (form_at c.world k.subtype) h)

if_by_known : (c : Scope) (p : Place) (v : Want) (as' : List Arm) (e : Option Operand) (m : Option ℤ) → IsSound c.world → IsGiven c.world v → ArmsKnown c.world as' → MaybeKnown c.world e → IsKnown c.world (if_by c p v as' e m)
if_by_known c p v as' e (Some n) sound g h i = tt
if_by_known c p v as' e None sound g h i =
    let k = common_of c v as' e in
    let z = common_there c v as' e sound g h i in
    let x = arms_onto c k v (found.Is []) as' in
    let y = else_of c p k v e in
    then_known c.world (both chooser x y) (λ (r : Chooser). if_made c p k r.arms r.otherwise (chosen r.arms r.otherwise))
    (both_found chooser x y (arms_found c k v (found.Is []) as' sound g z.type h tt) (otherwise_found c p k v e sound g z.type i))
    (λ r. made_known c p k r.arms r.otherwise (chosen r.arms r.otherwise) sound z)

branch_given : (w : World) (v : Want) (k : Option ℕ) → IsGiven w v → KindThere w k → IsGiven w (branch_want v k)
branch_given w want.Free k h i = want_given w want.Free k tt i
branch_given w want.Unknown k h i = h
branch_given w (want.Type t) k h i = h
branch_given w (want.Subtype t) k h i = h

pub if_known : (c : Scope) (p : Place) (v : Want) (k : Option ℕ) (as' : List Arm) (e : Option Operand) → IsSound c.world → IsGiven c.world v → KindThere c.world k → ArmsKnown c.world as' → MaybeKnown c.world e
    → IsKnown c.world (if_seen c p v k as' e)
if_known c p v k as' e sound g z h i = if_by_known c p (branch_want v k) as' e (chosen_else c (branch_want v k) as' e) sound (branch_given c.world v k g z) h i

-- ---- what kinds tell

pub first_kind_there : (w : World) (k j : Option ℕ) → KindThere w k → KindThere w j → KindThere w (first_kind k j)
first_kind_there w (Some t) j h i = h
first_kind_there w None j h i = i

pub operand_kind_there : (w : World) (o : Option Operand) → MaybeKnown w o → KindThere w (operand_kind o)
operand_kind_there w (Some o) h = h.kind
operand_kind_there w None h = tt

arms_kind_there : (w : World) (as' : List Arm) (k : Option ℕ) → ArmsKnown w as' → KindThere w k → KindThere w (arms_kind as' k)
arms_kind_there w [] k h i = i
arms_kind_there w (a ∷ as') k h i = first_kind_there w a.gives.kind (arms_kind as' k) h.0.1.kind (arms_kind_there w as' k h.1 i)

pub branches_kind_there : (w : World) (as' : List Arm) (e : Option Operand) → ArmsKnown w as' → MaybeKnown w e → KindThere w (branches_kind as' e)
branches_kind_there w as' e h i = arms_kind_there w as' (operand_kind e) h (operand_kind_there w e i)

-- ---- quantified expressions

refused_both : (f : Refusal) (x : Found Expr) → IsFound (both counting (found.Refused f) x)
refused_both f (found.Refused g) = tt
refused_both f found.Unknown = tt
refused_both f (found.Is x) = tt

counted_found : (c : Scope) (r : Found Between) (f : ℕ → Operand) → IsSound c.world → BetweenFound c.world r → ((k : ℕ) → IsThere c.world k → OperandKnown c.world (f k))
    → IsFound (both counting r (condition c code.L23 (f (index_subtype c.world r))))
counted_found c (found.Refused g) f sound h i = refused_both g (condition c code.L23 (f (index_subtype c.world (found.Refused g))))
counted_found c found.Unknown f sound h i = absurd h
counted_found c (found.Is b) f sound h i = both_found counting (found.Is b) (condition c code.L23 (f b.subtype)) tt (condition_found c code.L23 (f b.subtype) sound (i b.subtype h))

pub quantified_known : (c : Scope) (p : Place) (q : Quantifier) (at : ℕ) (g : Range) (f : ℕ → Operand) → IsSound c.world → RangeKnown c.world g → ((k : ℕ) → IsThere c.world k → OperandKnown c.world (f k))
    → IsKnown c.world (quantified_seen c p q at g f)
quantified_known c p q at g f sound h i =
    let r = range_found c code.L23 g in
    then_known c.world (both counting r (condition c code.L23 (f (index_subtype c.world r))))
    (λ (z : Counting). truth_at p (node.Quantified (quantifier_of q) (record { number = c.number at; subtype = z.range.subtype }) z.range.low z.range.high z.predicate))
    (counted_found c r f sound (range_known c code.L23 g sound h) i)
    (λ z. truth_known c.world p (node.Quantified (quantifier_of q) (record { number = c.number at; subtype = z.range.subtype }) z.range.low z.range.high z.predicate) sound)
