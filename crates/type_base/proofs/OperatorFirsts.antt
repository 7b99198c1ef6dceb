-- The refusal of an operator is the first of its broken rules.
use Rattle.std.proofs.Common.{◌≡◌, refl, sym, subst, ℕ, ℤ, pos, Bool, true, false, ◌==◌, List, ◌++◌, Option, Some, None, Result, Ok, Err}
use Rattle.std.specs.Prelude.{if◌then◌else◌}
use Rattle.ada_syntax.specs.declared.expressions.UnaryOperator.{UnaryOperator}
use Rattle.ada_syntax.specs.declared.expressions.UnaryOperator.TheVariants as unary'
use Rattle.ada_values.specs.Combine.{combined}
use Rattle.ada_values.specs.Scalars.{in_base}
use Rattle.ada_values.specs.declared.place.Place.{Place}
use Rattle.ada_values.specs.declared.scalars.Op.{Op}
use Rattle.ada_values.specs.declared.scalars.Op.TheVariants as op
use Rattle.ada_values.specs.declared.scalars.OpFault.{OpFault}
use Rattle.ada_values.specs.declared.scalars.OpFault.TheVariants as wrong
use Rattle.ada_values.specs.declared.scalars.Scalar.{Scalar}
use Rattle.ada_values.specs.declared.values.Value.TheVariants as value
use Rattle.front_codes.specs.declared.codes.Code.{Code}
use Rattle.front_codes.specs.declared.codes.Code.TheVariants as code
use Rattle.front_codes.specs.declared.codes.Refusal.{Refusal}
use Rattle.typed_units.specs.declared.expressions.Expr.{Expr}
use Rattle.typed_units.specs.declared.expressions.ExprNode.TheVariants as node
use Rattle.typed_units.specs.declared.operators.Connective.{Connective}
use Rattle.typed_units.specs.declared.operators.Relation.{Relation}
use Rattle.type_base.specs.declared.seen.Agreed.{Agreed}
use Rattle.type_base.specs.declared.seen.Agreed.TheVariants as agreed
use Rattle.type_base.specs.declared.seen.Demand.{Demand}
use Rattle.type_base.specs.declared.seen.Demand.TheVariants as demand
use Rattle.type_base.specs.declared.seen.Family.{Family}
use Rattle.type_base.specs.declared.seen.Family.TheVariants as family
use Rattle.type_base.specs.declared.seen.Seen.{Seen}
use Rattle.type_base.specs.declared.seen.Seen.TheVariants.{Refused, Unknown, Number, Typed}
use Rattle.type_base.specs.declared.seen.Want.{Want}
use Rattle.type_base.specs.declared.world.Form.{Form}
use Rattle.type_base.specs.declared.world.Form.TheVariants as form
use Rattle.type_base.specs.declared.world.World.{World}
use Rattle.type_base.specs.Demands.{agree, broken, fitting, is_one, is_whole, made, meets, number_as, operand, refused, subtype_of, takes_numbers, wanted_integer, with_left, with_right}
use Rattle.type_base.specs.Faults.{First, arithmetic_fault, binary_faults, both_static, changed_fault, comparison_fault, connection_fault, exponent_fault, fault, fault_of, form_fault, listed, number_fault, one_static, operand_fault, operands_faults, pair_fault, power_fault, powers_faults, settled_fault, static_fault, typed_fault, unary_faults, universal_fault, unless}
use Rattle.type_base.specs.Lookups.{form_at}
use Rattle.type_base.specs.Operators.{demand_of, exponent, joined, operands, powers, raised, rule_of, unary_of}
use Rattle.type_base.specs.Results.{arithmetic, arithmetic_of, changed, changed_of, comparison, comparison_of, connection, connection_of, kept, kept_of, number_in, opposite, opposite_of, static_result, truth_in, typed_result, universal, settled, universal_result, computed}
use Rattle.type_base.specs.Standard.{integer_base}
use Rattle.type_base.proofs.Firsts.{first_both, merge, step}

-- ---- operands

tested : (t : ℕ) (x : Expr) (b : Bool) (r : Code) (p : Place) → fault_of (if b then Typed t x else refused r p) ≡ unless b r p
tested t x true r p = refl
tested t x false r p = refl

numbered : (n : ℤ) (b : Bool) (r : Code) (p : Place) → fault_of (if b then Number n else refused r p) ≡ unless b r p
numbered n true r p = refl
numbered n false r p = refl

formed : (d : Demand) (r : Code) (p : Place) (t : ℕ) (x : Expr) (m : Option Form) → fault_of (fitting d r p t x m) ≡ form_fault d r p m
formed d r p t x None = refl
formed d r p t x (Some f) = tested t x (meets d f) r p

pub operand_is : (w : World) (d : Demand) (r : Code) (p : Place) (x : Seen) → fault_of (operand w d r p x) ≡ merge (fault_of x) (operand_fault w d r p x)
operand_is w d r p (Refused f) = refl
operand_is w d r p Unknown = refl
operand_is w d r p (Number n) = numbered n (takes_numbers d) r p
operand_is w d r p (Typed t x) = formed d r p t x (form_at w (subtype_of x))

exponent_is : (p : Place) (x : Seen) → fault_of (exponent p x) ≡ merge (fault_of x) (exponent_fault p x)
exponent_is p (Refused f) = refl
exponent_is p Unknown = refl
exponent_is p (Number n) = refl
exponent_is p (Typed t x) = tested t x (t == integer_base) code.L2 p

-- ---- two operands

abbrev pub agreed_fault : Agreed → Option Refusal
agreed_fault (agreed.Refused f) = Some f
agreed_fault _ = None

left_tested : (u : ℕ) (x y : Expr) (p q : Place) (a b : Bool) (r s : Code) → agreed_fault (with_left (if a then (if b then Typed u x else refused r p) else refused s q) y) ≡ (if a then unless b r p else fault s q)
left_tested u x y p q true true r s = refl
left_tested u x y p q true false r s = refl
left_tested u x y p q false b r s = refl

left_is : (r : Code) (q p : Place) (u : ℕ) (m : ℤ) (y : Expr) (s : Option Form) → agreed_fault (with_left (number_as r q p u m s) y) ≡ number_fault r q p m s
left_is r q p u m y None = refl
left_is r q p u m y (Some (form.Number d s)) = left_tested u (made p u (node.Static (value.Int m))) y p q (is_whole d) (in_base s m) code.L29 r
left_is r q p u m y (Some form.Truth) = refl
left_is r q p u m y (Some (form.Array i b t)) = refl
left_is r q p u m y (Some (form.Record i c)) = refl

right_tested : (t u : ℕ) (x y : Expr) (p q : Place) (a b : Bool) (r s : Code) → agreed_fault (with_right t x (if a then (if b then Typed u y else refused r p) else refused s q)) ≡ (if a then unless b r p else fault s q)
right_tested t u x y p q true true r s = refl
right_tested t u x y p q true false r s = refl
right_tested t u x y p q false b r s = refl

right_is : (r : Code) (q p : Place) (t u : ℕ) (m : ℤ) (x : Expr) (s : Option Form) → agreed_fault (with_right t x (number_as r q p u m s)) ≡ number_fault r q p m s
right_is r q p t u m x None = refl
right_is r q p t u m x (Some (form.Number d s)) = right_tested t u x (made p u (node.Static (value.Int m))) p q (is_whole d) (in_base s m) code.L29 r
right_is r q p t u m x (Some form.Truth) = refl
right_is r q p t u m x (Some (form.Array i b k)) = refl
right_is r q p t u m x (Some (form.Record i c)) = refl

same_tested : (t : ℕ) (x y : Expr) (b : Bool) (r : Code) (q : Place) → agreed_fault (if b then agreed.Typed t x y else agreed.Refused (broken r q)) ≡ unless b r q
same_tested t x y true r q = refl
same_tested t x y false r q = refl

pub pair_is : (w : World) (r : Code) (p q : Place) (x y : Seen) → agreed_fault (agree w r p q x y) ≡ merge (merge (fault_of x) (fault_of y)) (pair_fault w r p q x y)
pair_is w r p q (Refused f) (Refused g) = refl
pair_is w r p q (Refused f) Unknown = refl
pair_is w r p q (Refused f) (Number n) = refl
pair_is w r p q (Refused f) (Typed u y) = refl
pair_is w r p q Unknown (Refused g) = refl
pair_is w r p q Unknown Unknown = refl
pair_is w r p q Unknown (Number n) = refl
pair_is w r p q Unknown (Typed u y) = refl
pair_is w r p q (Number m) (Refused g) = refl
pair_is w r p q (Number m) Unknown = refl
pair_is w r p q (Number m) (Number n) = refl
pair_is w r p q (Number m) (Typed u y) = left_is r q p u m y (form_at w u)
pair_is w r p q (Typed t x) (Refused g) = refl
pair_is w r p q (Typed t x) Unknown = refl
pair_is w r p q (Typed t x) (Number n) = right_is r q q t t n x (form_at w t)
pair_is w r p q (Typed t x) (Typed u y) = same_tested t x y (t == u) r q

power_is : (w : World) (v : Want) (p q : Place) (x y : Seen) → agreed_fault (raised w v p q x y) ≡ merge (merge (fault_of x) (fault_of y)) (power_fault w v p q x y)
power_is w v p q (Refused f) (Refused g) = refl
power_is w v p q (Refused f) Unknown = refl
power_is w v p q (Refused f) (Number n) = refl
power_is w v p q (Refused f) (Typed u y) = refl
power_is w v p q Unknown (Refused g) = refl
power_is w v p q Unknown Unknown = refl
power_is w v p q Unknown (Number n) = refl
power_is w v p q Unknown (Typed u y) = refl
power_is w v p q (Number m) (Refused g) = refl
power_is w v p q (Number m) Unknown = refl
power_is w v p q (Number m) (Number n) = refl
power_is w v p q (Number m) (Typed u y) = left_is code.L2 p p (wanted_integer w v) m y (form_at w (wanted_integer w v))
power_is w v p q (Typed t x) (Refused g) = refl
power_is w v p q (Typed t x) Unknown = refl
power_is w v p q (Typed t x) (Number n) = right_is code.L2 q q t integer_base n x (form_at w integer_base)
power_is w v p q (Typed t x) (Typed u y) = refl

operands_first : (w : World) (f : Family) (p q : Place) (x y : Seen) (fs gs : List Refusal) → First (fault_of x) fs → First (fault_of y) gs
    → First (agreed_fault (operands w f p q x y)) (operands_faults w f p q fs gs x y)
operands_first w f p q x y fs gs h i =
    let d = demand_of f in
    let r = rule_of f in
    let a = operand w d r p x in
    let b = operand w d r q y in
    let j = step (fault_of x) (operand_fault w d r p x) (fault_of a) fs (operand_is w d r p x) h in
    let k = step (fault_of y) (operand_fault w d r q y) (fault_of b) gs (operand_is w d r q y) i in
    step (merge (fault_of a) (fault_of b)) (pair_fault w r p q a b) (agreed_fault (agree w r p q a b)) _ (pair_is w r p q a b) (first_both (fault_of a) (fault_of b) _ _ j k)

powers_first : (w : World) (v : Want) (p q : Place) (x y : Seen) (fs gs : List Refusal) → First (fault_of x) fs → First (fault_of y) gs
    → First (agreed_fault (powers w v p q x y)) (powers_faults w v p q fs gs x y)
powers_first w v p q x y fs gs h i =
    let a = operand w demand.Integer code.L2 p x in
    let b = exponent q y in
    let j = step (fault_of x) (operand_fault w demand.Integer code.L2 p x) (fault_of a) fs (operand_is w demand.Integer code.L2 p x) h in
    let k = step (fault_of y) (exponent_fault q y) (fault_of b) gs (exponent_is q y) i in
    step (merge (fault_of a) (fault_of b)) (power_fault w v p q a b) (agreed_fault (raised w v p q a b)) _ (power_is w v p q a b) (first_both (fault_of a) (fault_of b) _ _ j k)

-- ---- results

universal_is : (p q : Place) (o : Result ℤ OpFault) → fault_of (universal_result p q o) ≡ universal_fault p q o
universal_is p q (Ok n) = refl
universal_is p q (Err wrong.Overflow) = refl
universal_is p q (Err wrong.ZeroDivisor) = refl
universal_is p q (Err wrong.NegativeExponent) = refl

typed_is : (p q : Place) (t : ℕ) (s : Scalar) (o : Result ℤ OpFault) → fault_of (typed_result p q t s o) ≡ typed_fault p q s o
typed_is p q t s (Ok v) = tested t (made p t (node.Static (value.Int v))) (in_base s v) code.L29 p
typed_is p q t s (Err wrong.Overflow) = refl
typed_is p q t s (Err wrong.ZeroDivisor) = refl
typed_is p q t s (Err wrong.NegativeExponent) = refl

settled_is : (p q : Place) (t : ℕ) (m : Option (Scalar × Result ℤ OpFault)) → fault_of (settled p q t m) ≡ settled_fault p q m
settled_is p q t (Some e) = typed_is p q t e.0 e.1
settled_is p q t None = refl

static_is : (p q : Place) (t : ℕ) (o : Op) (a b : ℤ) (m : Option Form) → fault_of (static_result p q t o a b m) ≡ static_fault p q o a b m
static_is p q t o a b m = settled_is p q t (computed o a b m)

arithmetic_two : (w : World) (p o q : Place) (c : Op) (t : ℕ) (x y : Expr) (a b : Option ℤ)
    → fault_of (arithmetic_of w p o q c t x y a b) ≡ both_static (λ m n. static_fault p q c m n (form_at w t)) a b
arithmetic_two w p o q c t x y (Some a) (Some b) = static_is p q t c a b (form_at w t)
arithmetic_two w p o q c t x y (Some a) None = refl
arithmetic_two w p o q c t x y None (Some b) = refl
arithmetic_two w p o q c t x y None None = refl

arithmetic_is : (w : World) (p o q : Place) (c : Op) (g : Agreed) → fault_of (arithmetic w p o q c g) ≡ merge (agreed_fault g) (arithmetic_fault w p q c g)
arithmetic_is w p o q c (agreed.Refused f) = refl
arithmetic_is w p o q c agreed.Unknown = refl
arithmetic_is w p o q c (agreed.Numbers a b) = universal_is p q (combined c universal a b)
arithmetic_is w p o q c (agreed.Typed t x y) = arithmetic_two w p o q c t x y (number_in x) (number_in y)

comparison_two : (p : Place) (r : Relation) (x y : Expr) (a b : Option ℤ) → fault_of (comparison_of p r x y a b) ≡ None
comparison_two p r x y (Some a) (Some b) = refl
comparison_two p r x y (Some a) None = refl
comparison_two p r x y None b = refl

comparison_tested : (p q : Place) (r : Relation) (x y : Expr) (b : Bool) → fault_of (if b then comparison_of p r x y (number_in x) (number_in y) else refused code.L5 q) ≡ unless b code.L5 q
comparison_tested p q r x y true = comparison_two p r x y (number_in x) (number_in y)
comparison_tested p q r x y false = refl

comparison_is : (w : World) (p q : Place) (r : Relation) (g : Agreed) → fault_of (comparison w p q r g) ≡ merge (agreed_fault g) (comparison_fault w q g)
comparison_is w p q r (agreed.Refused f) = refl
comparison_is w p q r agreed.Unknown = refl
comparison_is w p q r (agreed.Numbers a b) = refl
comparison_is w p q r (agreed.Typed t x y) = comparison_tested p q r x y (is_one w (subtype_of x) (subtype_of y))

connection_two : (p : Place) (c : Connective) (x y : Expr) (a b : Option Bool) → fault_of (connection_of p c x y a b) ≡ None
connection_two p c x y (Some a) (Some b) = refl
connection_two p c x y (Some a) None = refl
connection_two p c x y None b = refl

connection_is : (p : Place) (c : Connective) (g : Agreed) → fault_of (connection p c g) ≡ merge (agreed_fault g) (connection_fault p g)
connection_is p c (agreed.Refused f) = refl
connection_is p c agreed.Unknown = refl
connection_is p c (agreed.Numbers a b) = refl
connection_is p c (agreed.Typed t x y) = connection_two p c x y (truth_in x) (truth_in y)

pub binary_first : (w : World) (v : Want) (p o pa pb : Place) (f : Family) (x y : Seen) (fs gs : List Refusal) → First (fault_of x) fs → First (fault_of y) gs
    → First (fault_of (joined w v p o pa pb f x y)) (binary_faults w v p pa pb f fs gs x y)
binary_first w v p o pa pb (family.Arithmetic c) x y fs gs h i =
    step _ _ _ _ (arithmetic_is w p o pb c _) (operands_first w (family.Arithmetic c) pa pb x y fs gs h i)
binary_first w v p o pa pb (family.Compare r) x y fs gs h i =
    step _ _ _ _ (comparison_is w p pb r _) (operands_first w (family.Compare r) pa pb x y fs gs h i)
binary_first w v p o pa pb (family.Connect c) x y fs gs h i =
    step _ _ _ _ (connection_is p c _) (operands_first w (family.Connect c) pa pb x y fs gs h i)
binary_first w v p o pa pb family.Power x y fs gs h i =
    step _ _ _ _ (arithmetic_is w p o pb op.Pow (powers w v pa pb x y)) (powers_first w v pa pb x y fs gs h i)

-- ---- one operand

kept_two : (p : Place) (t : ℕ) (x : Expr) (a : Option ℤ) → fault_of (kept_of p t x a) ≡ None
kept_two p t x (Some a) = refl
kept_two p t x None = refl

kept_is : (p : Place) (x : Seen) → fault_of (kept p x) ≡ fault_of x
kept_is p (Refused f) = refl
kept_is p Unknown = refl
kept_is p (Number n) = refl
kept_is p (Typed t x) = kept_two p t x (number_in x)

changed_two : (w : World) (p : Place) (o : Op) (t : ℕ) (x : Expr) (a : Option ℤ) → fault_of (changed_of w p o t x a) ≡ one_static (λ n. static_fault p p o n (pos 0) (form_at w t)) a
changed_two w p o t x (Some a) = static_is p p t o a (pos 0) (form_at w t)
changed_two w p o t x None = refl

changed_is : (w : World) (p : Place) (o : Op) (x : Seen) → fault_of (changed w p o x) ≡ merge (fault_of x) (changed_fault w p o x)
changed_is w p o (Refused f) = refl
changed_is w p o Unknown = refl
changed_is w p o (Number n) = universal_is p p (combined o universal n (pos 0))
changed_is w p o (Typed t x) = changed_two w p o t x (number_in x)

opposite_two : (p : Place) (x : Expr) (a : Option Bool) → fault_of (opposite_of p x a) ≡ None
opposite_two p x (Some a) = refl
opposite_two p x None = refl

opposite_tested : (p q : Place) (t : ℕ) (x : Expr) (b : Bool) → fault_of (opposite p (if b then Typed t x else refused code.L4 q)) ≡ unless b code.L4 q
opposite_tested p q t x true = opposite_two p x (truth_in x)
opposite_tested p q t x false = refl

opposite_formed : (p q : Place) (t : ℕ) (x : Expr) (m : Option Form) → fault_of (opposite p (fitting demand.Truth code.L4 q t x m)) ≡ form_fault demand.Truth code.L4 q m
opposite_formed p q t x None = refl
opposite_formed p q t x (Some f) = opposite_tested p q t x (meets demand.Truth f)

opposite_is : (w : World) (p q : Place) (x : Seen) → fault_of (opposite p (operand w demand.Truth code.L4 q x)) ≡ merge (fault_of x) (operand_fault w demand.Truth code.L4 q x)
opposite_is w p q (Refused f) = refl
opposite_is w p q Unknown = refl
opposite_is w p q (Number n) = refl
opposite_is w p q (Typed t x) = opposite_formed p q t x (form_at w (subtype_of x))

pub unary_first : (w : World) (p q : Place) (o : UnaryOperator) (x : Seen) (fs : List Refusal) → First (fault_of x) fs → First (fault_of (unary_of w p q o x)) (unary_faults w p q o fs x)
unary_first w p q unary'.Plus x fs h =
    let a = operand w demand.Integer code.L3 q x in
    let P : Option Refusal → Type 0 = λ z. First z (fs ++ listed (operand_fault w demand.Integer code.L3 q x)) in
    subst P (sym (kept_is p a)) (step (fault_of x) _ (fault_of a) fs (operand_is w demand.Integer code.L3 q x) h)
unary_first w p q unary'.Minus x fs h =
    step _ _ _ _ (changed_is w p op.Neg (operand w demand.Integer code.L3 q x)) (step (fault_of x) _ _ fs (operand_is w demand.Integer code.L3 q x) h)
unary_first w p q unary'.Abs x fs h =
    step _ _ _ _ (changed_is w p op.Abs (operand w demand.Integer code.L3 q x)) (step (fault_of x) _ _ fs (operand_is w demand.Integer code.L3 q x) h)
unary_first w p q unary'.Not x fs h = step (fault_of x) _ _ fs (opposite_is w p q x) h
