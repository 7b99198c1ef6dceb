-- An accepted operator has its type by the rules.
use Rattle.std.proofs.Common.{◌≡◌, refl, sym, ◌∙◌, ap, subst, ℕ, ℤ, pos, Bool, true, false, ◌==◌, Option, Some, None, Result, Ok, Err, arith}
use Rattle.std.proofs.lemmas.Bool.Decides.{nat_tests}
use Rattle.std.specs.Prelude.{if◌then◌else◌}
use Rattle.ada_syntax.specs.declared.expressions.UnaryOperator.{UnaryOperator}
use Rattle.ada_syntax.specs.declared.expressions.UnaryOperator.TheVariants as unary'
use Rattle.ada_values.specs.Combine.{combined}
use Rattle.ada_values.specs.Scalars.{in_base}
use Rattle.ada_values.specs.declared.place.Place.{Place}
use Rattle.ada_values.specs.declared.scalars.Op.{Op}
use Rattle.ada_values.specs.declared.scalars.Op.TheVariants as op
use Rattle.ada_values.specs.declared.scalars.OpFault.{OpFault}
use Rattle.ada_values.specs.declared.scalars.OpFault.TheVariants as wrong
use Rattle.ada_values.specs.declared.scalars.Scalar.{Scalar}
use Rattle.ada_values.specs.declared.values.Value.TheVariants as value
use Rattle.front_codes.specs.declared.codes.Code.{Code}
use Rattle.front_codes.specs.declared.codes.Code.TheVariants as code
use Rattle.typed_units.specs.declared.expressions.Expr.{Expr}
use Rattle.typed_units.specs.declared.expressions.ExprNode.TheVariants as node
use Rattle.typed_units.specs.declared.operators.Connective.{Connective}
use Rattle.typed_units.specs.declared.operators.Relation.{Relation}
use Rattle.type_base.specs.declared.seen.Agreed.{Agreed}
use Rattle.type_base.specs.declared.seen.Agreed.TheVariants as agreed
use Rattle.type_base.specs.declared.seen.Demand.{Demand}
use Rattle.type_base.specs.declared.seen.Demand.TheVariants as demand
use Rattle.type_base.specs.declared.seen.Family.{Family}
use Rattle.type_base.specs.declared.seen.Family.TheVariants as family
use Rattle.type_base.specs.declared.seen.Seen.{Seen}
use Rattle.type_base.specs.declared.seen.Seen.TheVariants.{Refused, Unknown, Number, Typed}
use Rattle.type_base.specs.declared.seen.Want.{Want}
use Rattle.type_base.specs.declared.world.Form.{Form}
use Rattle.type_base.specs.declared.world.Form.TheVariants as form
use Rattle.type_base.specs.declared.world.World.{World}
use Rattle.type_base.specs.Demands.{agree, broken, fitting, is_one, is_whole, made, meets, number_as, operand, refused, subtype_of, takes_numbers, wanted_integer, with_left, with_right}
use Rattle.type_base.specs.Lookups.{form_at}
use Rattle.type_base.specs.Operators.{demand_of, exponent, joined, operands, powers, raised, rule_of, unary_of}
use Rattle.type_base.specs.Results.{arithmetic, arithmetic_of, changed, changed_of, comparison, comparison_of, computed, connection, connection_of, kept, kept_of, number_in, opposite, opposite_of, settled, truth_in, typed_result, universal, universal_result}
use Rattle.type_base.specs.Standard.{boolean, integer_base}
use Rattle.expression_rules.specs.Rules as rule
use Rattle.expression_rules.specs.Rules.{AreOne, Common, Gives, GivesOne, Is, IsAs, IsIntegerType, Kind, Raised, TypeIs, of}

-- ---- one operand: where it is accepted, it is unchanged and as demanded

record Same (w : World) (d : Demand) (a b : Seen) : Type 0 where
  same : b ≡ a
  met : IsAs w d a

number_same : (w : World) (d : Demand) (r : Code) (p : Place) (b : Bool) → takes_numbers d ≡ b → (n : ℤ) (k : Kind) → Is (if b then Number n else refused r p) k → Same w d (Number n) (if b then Number n else refused r p)
number_same w d r p true e n k h = record { same = refl; met = e }
number_same w d r p false e n k h = absurd h

met_same : (w : World) (d : Demand) (r : Code) (p : Place) (t : ℕ) (x : Expr) (g : Form) → form_at w (subtype_of x) ≡ Some g → (b : Bool) → meets d g ≡ b → (k : Kind) → Is (if b then Typed t x else refused r p) k → Same w d (Typed t x) (if b then Typed t x else refused r p)
met_same w d r p t x g e true m k h = record { same = refl; met = record { form = g; is = e; met = m } }
met_same w d r p t x g e false m k h = absurd h

typed_same : (w : World) (d : Demand) (r : Code) (p : Place) (t : ℕ) (x : Expr) (m : Option Form) → form_at w (subtype_of x) ≡ m → (k : Kind) → Is (fitting d r p t x m) k → Same w d (Typed t x) (fitting d r p t x m)
typed_same w d r p t x None e k h = absurd h
typed_same w d r p t x (Some g) e k h = met_same w d r p t x g e (meets d g) refl k h

operand_same : (w : World) (d : Demand) (r : Code) (p : Place) (a : Seen) (k : Kind) → Is (operand w d r p a) k → Same w d a (operand w d r p a)
operand_same w d r p (Refused f) k h = absurd h
operand_same w d r p Unknown k h = absurd h
operand_same w d r p (Number n) k h = number_same w d r p (takes_numbers d) refl n k h
operand_same w d r p (Typed t x) k h = typed_same w d r p t x (form_at w (subtype_of x)) refl k h

-- ---- two operands

abbrev pub Are : Agreed → Kind → Type 0
Are (agreed.Refused f) k = ⊥
Are agreed.Unknown k = ⊥
Are (agreed.Numbers m n) rule.universal = Unit {0}
Are (agreed.Numbers m n) (of u) = ⊥
Are (agreed.Typed t x y) k = TypeIs t k

typed_kind : (t : ℕ) (k : Kind) → TypeIs t k → k ≡ of t
typed_kind t rule.universal h = absurd h
typed_kind t (of u) h = ap of (sym h)

record Pair (w : World) (a b : Seen) (k : Kind) : Type 0 where
  left : Kind
  right : Kind
  is_left : Is a left
  is_right : Is b right
  common : Common w left right k

record Placed (w : World) (u : ℕ) (k l : Kind) : Type 0 where
  kind : k ≡ l
  whole : IsIntegerType w u

left_placed : (w : World) (u : ℕ) (x y : Expr) (p q : Place) (a b : Bool) (r s : Code) (g : Form) → form_at w u ≡ Some g → (a ≡ true → rule.IsIntegerType w u)
    → (k : Kind) → Are (with_left (if a then (if b then Typed u x else refused r p) else refused s q) y) k → Placed w u k (of u)
left_placed w u x y p q true true r s g e i k h = record { kind = typed_kind u k h; whole = i refl }
left_placed w u x y p q true false r s g e i k h = absurd h
left_placed w u x y p q false b r s g e i k h = absurd h

left_number : (w : World) (r : Code) (q p : Place) (u : ℕ) (m : ℤ) (y : Expr) (s : Option Form) → form_at w u ≡ s → (k : Kind) → Are (with_left (number_as r q p u m s) y) k → Placed w u k (of u)
left_number w r q p u m y None e k h = absurd h
left_number w r q p u m y (Some (form.Number d s)) e k h =
    left_placed w u (made p u (node.Static (value.Int m))) y p q (is_whole d) (in_base s m) code.L29 r (form.Number d s) e (λ i. record { form = form.Number d s; is = e; whole = i }) k h
left_number w r q p u m y (Some form.Truth) e k h = absurd h
left_number w r q p u m y (Some (form.Array i b t)) e k h = absurd h
left_number w r q p u m y (Some (form.Record i c)) e k h = absurd h

right_placed : (w : World) (t u : ℕ) (x y : Expr) (p q : Place) (a b : Bool) (r s : Code) → (a ≡ true → rule.IsIntegerType w u)
    → (k : Kind) → Are (with_right t x (if a then (if b then Typed u y else refused r p) else refused s q)) k → Placed w u k (of t)
right_placed w t u x y p q true true r s i k h = record { kind = typed_kind t k h; whole = i refl }
right_placed w t u x y p q true false r s i k h = absurd h
right_placed w t u x y p q false b r s i k h = absurd h

right_number : (w : World) (r : Code) (q p : Place) (t u : ℕ) (m : ℤ) (x : Expr) (s : Option Form) → form_at w u ≡ s → (k : Kind) → Are (with_right t x (number_as r q p u m s)) k → Placed w u k (of t)
right_number w r q p t u m x None e k h = absurd h
right_number w r q p t u m x (Some (form.Number d s)) e k h =
    right_placed w t u x (made p u (node.Static (value.Int m))) p q (is_whole d) (in_base s m) code.L29 r (λ i. record { form = form.Number d s; is = e; whole = i }) k h
right_number w r q p t u m x (Some form.Truth) e k h = absurd h
right_number w r q p t u m x (Some (form.Array i b c)) e k h = absurd h
right_number w r q p t u m x (Some (form.Record i c)) e k h = absurd h

same_pair : (w : World) (r : Code) (q : Place) (t u : ℕ) (x y : Expr) (b : Bool) → (t == u) ≡ b → (k : Kind) → Are (if b then agreed.Typed t x y else agreed.Refused (broken r q)) k → Pair w (Typed t x) (Typed u y) k
same_pair w r q t u x y true e rule.universal h = absurd h
same_pair w r q t u x y true e (of v) h =
    let eq : t ≡ u = grind (arith, nat_tests) in
    record { left = of v; right = of v; is_left = h; is_right = sym eq ∙ h; common = rule.same v }
same_pair w r q t u x y false e k h = absurd h

pair : (w : World) (r : Code) (p q : Place) (a b : Seen) (k : Kind) → Are (agree w r p q a b) k → Pair w a b k
pair w r p q (Refused f) (Refused g) k h = absurd h
pair w r p q (Refused f) Unknown k h = absurd h
pair w r p q (Refused f) (Number n) k h = absurd h
pair w r p q (Refused f) (Typed u y) k h = absurd h
pair w r p q Unknown (Refused g) k h = absurd h
pair w r p q Unknown Unknown k h = absurd h
pair w r p q Unknown (Number n) k h = absurd h
pair w r p q Unknown (Typed u y) k h = absurd h
pair w r p q (Number m) (Refused g) k h = absurd h
pair w r p q (Number m) Unknown k h = absurd h
pair w r p q (Number m) (Number n) rule.universal h = record { left = rule.universal; right = rule.universal; is_left = tt; is_right = tt; common = rule.numbers }
pair w r p q (Number m) (Number n) (of u) h = absurd h
pair w r p q (Number m) (Typed u y) k h =
    let z = left_number w r q p u m y (form_at w u) refl k h in
    subst (Pair w (Number m) (Typed u y)) (sym z.kind) (record { left = rule.universal; right = of u; is_left = tt; is_right = refl; common = rule.left_number u z.whole })
pair w r p q (Typed t x) (Refused g) k h = absurd h
pair w r p q (Typed t x) Unknown k h = absurd h
pair w r p q (Typed t x) (Number n) k h =
    let z = right_number w r q q t t n x (form_at w t) refl k h in
    subst (Pair w (Typed t x) (Number n)) (sym z.kind) (record { left = of t; right = rule.universal; is_left = refl; is_right = tt; common = rule.right_number t z.whole })
pair w r p q (Typed t x) (Typed u y) k h = same_pair w r q t u x y (t == u) refl k h

-- the operands of an operator that are accepted together: unchanged, as demanded, and of one type
pub record Operands (w : World) (d : Demand) (r : Code) (p q : Place) (x y : Seen) (k : Kind) : Type 0 where
  pub left : Kind
  pub right : Kind
  pub is_left : Is x left
  pub is_right : Is y right
  pub met_left : IsAs w d x
  pub met_right : IsAs w d y
  pub common : Common w left right k
  pub same : agree w r p q (operand w d r p x) (operand w d r q y) ≡ agree w r p q x y

pub accepted : (w : World) (d : Demand) (r : Code) (p q : Place) (x y : Seen) (k : Kind) → Are (agree w r p q (operand w d r p x) (operand w d r q y)) k → Operands w d r p q x y k
accepted w d r p q x y k h =
    let z = pair w r p q (operand w d r p x) (operand w d r q y) k h in
    let a = operand_same w d r p x z.left z.is_left in
    let b = operand_same w d r q y z.right z.is_right in
    record {
      left = z.left;
      right = z.right;
      is_left = subst (λ s. Is s z.left) a.same z.is_left;
      is_right = subst (λ s. Is s z.right) b.same z.is_right;
      met_left = a.met;
      met_right = b.met;
      common = z.common;
      same = ap (λ s. agree w r p q s (operand w d r q y)) a.same ∙ ap (λ s. agree w r p q x s) b.same;
    }

-- ---- results

universal_kind : (p q : Place) (o : Result ℤ OpFault) (k : Kind) → Is (universal_result p q o) k → k ≡ rule.universal
universal_kind p q (Ok n) rule.universal h = refl
universal_kind p q (Ok n) (of u) h = absurd h
universal_kind p q (Err wrong.Overflow) k h = absurd h
universal_kind p q (Err wrong.ZeroDivisor) k h = absurd h
universal_kind p q (Err wrong.NegativeExponent) k h = absurd h

if_kind : (t : ℕ) (x : Expr) (b : Bool) (r : Code) (p : Place) (k : Kind) → Is (if b then Typed t x else refused r p) k → k ≡ of t
if_kind t x true r p k h = typed_kind t k h
if_kind t x false r p k h = absurd h

result_kind : (p q : Place) (t : ℕ) (s : Scalar) (o : Result ℤ OpFault) (k : Kind) → Is (typed_result p q t s o) k → k ≡ of t
result_kind p q t s (Ok v) k h = if_kind t (made p t (node.Static (value.Int v))) (in_base s v) code.L29 p k h
result_kind p q t s (Err wrong.Overflow) k h = absurd h
result_kind p q t s (Err wrong.ZeroDivisor) k h = absurd h
result_kind p q t s (Err wrong.NegativeExponent) k h = absurd h

settled_kind : (p q : Place) (t : ℕ) (m : Option (Scalar × Result ℤ OpFault)) (k : Kind) → Is (settled p q t m) k → k ≡ of t
settled_kind p q t None k h = absurd h
settled_kind p q t (Some e) k h = result_kind p q t e.0 e.1 k h

arithmetic_two : (w : World) (p o q : Place) (c : Op) (t : ℕ) (x y : Expr) (a b : Option ℤ) (k : Kind) → Is (arithmetic_of w p o q c t x y a b) k → k ≡ of t
arithmetic_two w p o q c t x y (Some a) (Some b) k h = settled_kind p q t (computed c a b (form_at w t)) k h
arithmetic_two w p o q c t x y (Some a) None k h = typed_kind t k h
arithmetic_two w p o q c t x y None b k h = typed_kind t k h

arithmetic_kind : (w : World) (p o q : Place) (c : Op) (g : Agreed) (k : Kind) → Is (arithmetic w p o q c g) k → Are g k
arithmetic_kind w p o q c (agreed.Refused f) k h = absurd h
arithmetic_kind w p o q c agreed.Unknown k h = absurd h
arithmetic_kind w p o q c (agreed.Numbers a b) k h = subst (Are (agreed.Numbers a b)) (sym (universal_kind p q (combined c universal a b) k h)) tt
arithmetic_kind w p o q c (agreed.Typed t x y) k h = subst (Are (agreed.Typed t x y)) (sym (arithmetic_two w p o q c t x y (number_in x) (number_in y) k h)) refl

-- a truth value, of operands that have some type
record Truth (g : Agreed) (k : Kind) : Type 0 where
  truth : k ≡ of boolean
  kind : Kind
  are : Are g kind

comparison_two : (p : Place) (r : Relation) (x y : Expr) (a b : Option ℤ) (k : Kind) → Is (comparison_of p r x y a b) k → k ≡ of boolean
comparison_two p r x y (Some a) (Some b) k h = typed_kind boolean k h
comparison_two p r x y (Some a) None k h = typed_kind boolean k h
comparison_two p r x y None b k h = typed_kind boolean k h

record Compared (w : World) (t : ℕ) (x y : Expr) (k : Kind) : Type 0 where
  truth : k ≡ of boolean
  one : is_one w (subtype_of x) (subtype_of y) ≡ true

comparison_if : (w : World) (p q : Place) (r : Relation) (t : ℕ) (x y : Expr) (b : Bool) → is_one w (subtype_of x) (subtype_of y) ≡ b → (k : Kind)
    → Is (if b then comparison_of p r x y (number_in x) (number_in y) else refused code.L5 q) k → Compared w t x y k
comparison_if w p q r t x y true e k h = record { truth = comparison_two p r x y (number_in x) (number_in y) k h; one = e }
comparison_if w p q r t x y false e k h = absurd h

comparison_kind : (w : World) (p q : Place) (r : Relation) (g : Agreed) (k : Kind) → Is (comparison w p q r g) k → Truth g k
comparison_kind w p q r (agreed.Refused f) k h = absurd h
comparison_kind w p q r agreed.Unknown k h = absurd h
comparison_kind w p q r (agreed.Numbers a b) k h = record { truth = typed_kind boolean k h; kind = rule.universal; are = tt }
comparison_kind w p q r (agreed.Typed t x y) k h = record { truth = (comparison_if w p q r t x y (is_one w (subtype_of x) (subtype_of y)) refl k h).truth; kind = of t; are = refl }

-- arrays that are compared are of one subtype
one_if : (w : World) (c : Code) (p q : Place) (r : Relation) (t u : ℕ) (x y : Expr) (b : Bool) (k : Kind) → Is (comparison w p q r (if b then agreed.Typed t x y else agreed.Refused (broken c q))) k → AreOne w (Typed t x) (Typed u y)
one_if w c p q r t u x y true k h = (comparison_if w p q r t x y (is_one w (subtype_of x) (subtype_of y)) refl k h).one
one_if w c p q r t u x y false k h = absurd h

are_one : (w : World) (c : Code) (p a q : Place) (r : Relation) (x y : Seen) (k : Kind) → Is (comparison w p q r (agree w c a q x y)) k → AreOne w x y
are_one w c p a q r (Refused f) y k h = tt
are_one w c p a q r Unknown y k h = tt
are_one w c p a q r (Number n) y k h = tt
are_one w c p a q r (Typed t x) (Refused f) k h = tt
are_one w c p a q r (Typed t x) Unknown k h = tt
are_one w c p a q r (Typed t x) (Number n) k h = tt
are_one w c p a q r (Typed t x) (Typed u y) k h = one_if w c p q r t u x y (t == u) k h

connection_two : (p : Place) (c : Connective) (x y : Expr) (a b : Option Bool) (k : Kind) → Is (connection_of p c x y a b) k → k ≡ of boolean
connection_two p c x y (Some a) (Some b) k h = typed_kind boolean k h
connection_two p c x y (Some a) None k h = typed_kind boolean k h
connection_two p c x y None b k h = typed_kind boolean k h

connection_kind : (p : Place) (c : Connective) (g : Agreed) (k : Kind) → Is (connection p c g) k → Truth g k
connection_kind p c (agreed.Refused f) k h = absurd h
connection_kind p c agreed.Unknown k h = absurd h
connection_kind p c (agreed.Numbers a b) k h = absurd h
connection_kind p c (agreed.Typed t x y) k h = record { truth = connection_two p c x y (truth_in x) (truth_in y) k h; kind = of t; are = refl }

-- ---- `**`

exponent_if : (p : Place) (t : ℕ) (x : Expr) (b : Bool) → (t == integer_base) ≡ b → (k : Kind) → Is (if b then Typed t x else refused code.L2 p) k → (t ≡ integer_base) × ((if b then Typed t x else refused code.L2 p) ≡ Typed t x)
exponent_if p t x true e k h = (grind (arith, nat_tests), refl)
exponent_if p t x false e k h = absurd h

record Power (w : World) (v : Want) (a b : Seen) (k : Kind) : Type 0 where
  left : Kind
  right : Kind
  is_left : Is a left
  is_right : Is b right
  raised : Raised w v left right k

typed_power : (w : World) (v : Want) (t u : ℕ) (x y : Expr) → u ≡ integer_base → (k : Kind) → TypeIs t k → Power w v (Typed t x) (Typed u y) k
typed_power w v t u x y e k h =
    subst (Power w v (Typed t x) (Typed u y)) (sym (typed_kind t k h)) (record { left = of t; right = of integer_base; is_left = refl; is_right = e; raised = rule.both_typed t })

-- the exponent of type Integer
exponent_power : (w : World) (v : Want) (p q : Place) (a : Seen) (u : ℕ) (y : Expr) (k : Kind) → Are (raised w v p q a (Typed u y)) k → u ≡ integer_base → Power w v a (Typed u y) k
exponent_power w v p q (Refused f) u y k h e = absurd h
exponent_power w v p q Unknown u y k h e = absurd h
exponent_power w v p q (Number m) u y k h e =
    let z = left_number w code.L2 p p (wanted_integer w v) m y (form_at w (wanted_integer w v)) refl k h in
    subst (Power w v (Number m) (Typed u y)) (sym z.kind) (record { left = rule.universal; right = of integer_base; is_left = tt; is_right = e; raised = rule.exponent_typed z.whole })
exponent_power w v p q (Typed t x) u y k h e = typed_power w v t u x y e k h

if_power : (w : World) (v : Want) (p q : Place) (a : Seen) (u : ℕ) (y : Expr) (b : Bool) → (u == integer_base) ≡ b → (k : Kind) → Are (raised w v p q a (if b then Typed u y else refused code.L2 q)) k → Power w v a (Typed u y) k
if_power w v p q a u y true e k h = exponent_power w v p q a u y k h (grind (arith, nat_tests))
if_power w v p q (Refused f) u y false e k h = absurd h
if_power w v p q Unknown u y false e k h = absurd h
if_power w v p q (Number m) u y false e k h = absurd h
if_power w v p q (Typed t x) u y false e k h = absurd h

power : (w : World) (v : Want) (p q : Place) (a b : Seen) (k : Kind) → Are (raised w v p q a (exponent q b)) k → Power w v a b k
power w v p q (Refused f) (Refused g) k h = absurd h
power w v p q (Refused f) Unknown k h = absurd h
power w v p q (Refused f) (Number n) k h = absurd h
power w v p q Unknown (Refused g) k h = absurd h
power w v p q Unknown Unknown k h = absurd h
power w v p q Unknown (Number n) k h = absurd h
power w v p q (Number m) (Refused g) k h = absurd h
power w v p q (Number m) Unknown k h = absurd h
power w v p q (Number m) (Number n) rule.universal h = record { left = rule.universal; right = rule.universal; is_left = tt; is_right = tt; raised = rule.no_types }
power w v p q (Number m) (Number n) (of u) h = absurd h
power w v p q (Typed t x) (Refused g) k h = absurd h
power w v p q (Typed t x) Unknown k h = absurd h
power w v p q (Typed t x) (Number n) k h =
    let z = right_number w code.L2 q q t integer_base n x (form_at w integer_base) refl k h in
    subst (Power w v (Typed t x) (Number n)) (sym z.kind) (record { left = of t; right = rule.universal; is_left = refl; is_right = tt; raised = rule.left_typed t })
power w v p q a (Typed u y) k h = if_power w v p q a u y (u == integer_base) refl k h

powers_given : (w : World) (v : Want) (p q : Place) (x y : Seen) (k : Kind) → Are (powers w v p q x y) k → Gives w v x y family.Power k
powers_given w v p q x y k h =
    let z = power w v p q (operand w demand.Integer code.L2 p x) y k h in
    let a = operand_same w demand.Integer code.L2 p x z.left z.is_left in
    rule.power z.left z.right k (subst (λ s. Is s z.left) a.same z.is_left) z.is_right a.met z.raised

-- ---- operators of two operands

arithmetic_given : (w : World) (v : Want) (o : Op) (p q : Place) (x y : Seen) (k : Kind) → Are (operands w (family.Arithmetic o) p q x y) k → Gives w v x y (family.Arithmetic o) k
arithmetic_given w v o p q x y k h =
    let z = accepted w demand.Integer code.L1 p q x y k h in
    rule.arithmetic o z.left z.right k z.is_left z.is_right z.met_left z.met_right z.common

comparison_given : (w : World) (v : Want) (r : Relation) (p pa pb : Place) (x y : Seen) (k : Kind) → Is (comparison w p pb r (operands w (family.Compare r) pa pb x y)) k → Gives w v x y (family.Compare r) k
comparison_given w v r p pa pb x y k h =
    let t = comparison_kind w p pb r (operands w (family.Compare r) pa pb x y) k h in
    let z = accepted w (demand_of (family.Compare r)) (rule_of (family.Compare r)) pa pb x y t.kind t.are in
    let one = are_one w (rule_of (family.Compare r)) p pa pb r x y k (subst (λ g. Is (comparison w p pb r g) k) z.same h) in
    subst (Gives w v x y (family.Compare r)) (sym t.truth) (rule.comparison r z.left z.right t.kind z.is_left z.is_right z.met_left z.met_right z.common one)

connection_given : (w : World) (v : Want) (c : Connective) (p pa pb : Place) (x y : Seen) (k : Kind) → Is (connection p c (operands w (family.Connect c) pa pb x y)) k → Gives w v x y (family.Connect c) k
connection_given w v c p pa pb x y k h =
    let t = connection_kind p c (operands w (family.Connect c) pa pb x y) k h in
    let z = accepted w demand.Truth code.L4 pa pb x y t.kind t.are in
    subst (Gives w v x y (family.Connect c)) (sym t.truth) (rule.connection c z.left z.right t.kind z.is_left z.is_right z.met_left z.met_right z.common)

pub binary_given : (w : World) (v : Want) (p o pa pb : Place) (f : Family) (x y : Seen) (k : Kind) → Is (joined w v p o pa pb f x y) k → Gives w v x y f k
binary_given w v p o pa pb (family.Arithmetic c) x y k h = arithmetic_given w v c pa pb x y k (arithmetic_kind w p o pb c (operands w (family.Arithmetic c) pa pb x y) k h)
binary_given w v p o pa pb (family.Compare r) x y k h = comparison_given w v r p pa pb x y k h
binary_given w v p o pa pb (family.Connect c) x y k h = connection_given w v c p pa pb x y k h
binary_given w v p o pa pb family.Power x y k h = powers_given w v pa pb x y k (arithmetic_kind w p o pb op.Pow (powers w v pa pb x y) k h)

-- ---- operators of one operand

kept_two : (p : Place) (t : ℕ) (x : Expr) (a : Option ℤ) (k : Kind) → Is (kept_of p t x a) k → k ≡ of t
kept_two p t x (Some a) k h = typed_kind t k h
kept_two p t x None k h = typed_kind t k h

kept_kind : (p : Place) (a : Seen) (k : Kind) → Is (kept p a) k → Is a k
kept_kind p (Refused f) k h = absurd h
kept_kind p Unknown k h = absurd h
kept_kind p (Number n) rule.universal h = tt
kept_kind p (Number n) (of u) h = absurd h
kept_kind p (Typed t x) k h = subst (Is (Typed t x)) (sym (kept_two p t x (number_in x) k h)) refl

changed_two : (w : World) (p : Place) (o : Op) (t : ℕ) (x : Expr) (a : Option ℤ) (k : Kind) → Is (changed_of w p o t x a) k → k ≡ of t
changed_two w p o t x (Some a) k h = settled_kind p p t (computed o a (pos 0) (form_at w t)) k h
changed_two w p o t x None k h = typed_kind t k h

changed_kind : (w : World) (p : Place) (o : Op) (a : Seen) (k : Kind) → Is (changed w p o a) k → Is a k
changed_kind w p o (Refused f) k h = absurd h
changed_kind w p o Unknown k h = absurd h
changed_kind w p o (Number n) k h = subst (Is (Number n)) (sym (universal_kind p p (combined o universal n (pos 0)) k h)) tt
changed_kind w p o (Typed t x) k h = subst (Is (Typed t x)) (sym (changed_two w p o t x (number_in x) k h)) refl

opposite_two : (p : Place) (x : Expr) (a : Option Bool) (k : Kind) → Is (opposite_of p x a) k → k ≡ of boolean
opposite_two p x (Some b) k h = typed_kind boolean k h
opposite_two p x None k h = typed_kind boolean k h

record Opposite (a : Seen) (k : Kind) : Type 0 where
  truth : k ≡ of boolean
  type : ℕ
  is : Is a (of type)

opposite_kind : (p : Place) (a : Seen) (k : Kind) → Is (opposite p a) k → Opposite a k
opposite_kind p (Refused f) k h = absurd h
opposite_kind p Unknown k h = absurd h
opposite_kind p (Number n) k h = absurd h
opposite_kind p (Typed t x) k h = record { truth = opposite_two p x (truth_in x) k h; type = t; is = refl }

pub unary_given : (w : World) (p q : Place) (o : UnaryOperator) (x : Seen) (k : Kind) → Is (unary_of w p q o x) k → GivesOne w x o k
unary_given w p q unary'.Plus x k h =
    let i = kept_kind p (operand w demand.Integer code.L3 q x) k h in
    let a = operand_same w demand.Integer code.L3 q x k i in
    rule.plus k (subst (λ s. Is s k) a.same i) a.met
unary_given w p q unary'.Minus x k h =
    let i = changed_kind w p op.Neg (operand w demand.Integer code.L3 q x) k h in
    let a = operand_same w demand.Integer code.L3 q x k i in
    rule.minus k (subst (λ s. Is s k) a.same i) a.met
unary_given w p q unary'.Abs x k h =
    let i = changed_kind w p op.Abs (operand w demand.Integer code.L3 q x) k h in
    let a = operand_same w demand.Integer code.L3 q x k i in
    rule.absolute k (subst (λ s. Is s k) a.same i) a.met
unary_given w p q unary'.Not x k h =
    let z = opposite_kind p (operand w demand.Truth code.L4 q x) k h in
    let a = operand_same w demand.Truth code.L4 q x (of z.type) z.is in
    subst (GivesOne w x unary'.Not) (sym z.truth) (rule.opposite z.type (subst (λ s. Is s (of z.type)) a.same z.is) a.met)
