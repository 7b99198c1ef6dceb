-- The type of what is seen stands in a sound world, whatever is refused in it: of values, and of what operators make of them.
use Rattle.std.proofs.Common.{◌≡◌, refl, ℕ, ℤ, pos, Bool, true, false, ◌==◌, Option, Some, None, Result, Ok, Err}
use Rattle.std.specs.Prelude.{if◌then◌else◌}
use Rattle.ada_syntax.specs.declared.expressions.UnaryOperator.{UnaryOperator}
use Rattle.ada_syntax.specs.declared.expressions.UnaryOperator.TheVariants as unary'
use Rattle.ada_values.specs.Combine.{combined}
use Rattle.ada_values.specs.Scalars.{in_base}
use Rattle.ada_values.specs.declared.place.Place.{Place}
use Rattle.ada_values.specs.declared.scalars.Op.{Op}
use Rattle.ada_values.specs.declared.scalars.Op.TheVariants as op
use Rattle.ada_values.specs.declared.scalars.OpFault.{OpFault}
use Rattle.ada_values.specs.declared.scalars.OpFault.TheVariants as wrong
use Rattle.ada_values.specs.declared.scalars.Scalar.{Scalar}
use Rattle.ada_values.specs.declared.values.Value.TheVariants as value
use Rattle.front_codes.specs.declared.codes.Code.{Code}
use Rattle.front_codes.specs.declared.codes.Code.TheVariants as code
use Rattle.front_codes.specs.declared.codes.Refusal.{Refusal}
use Rattle.typed_units.specs.declared.expressions.Expr.{Expr}
use Rattle.typed_units.specs.declared.expressions.ExprNode.{ExprNode}
use Rattle.typed_units.specs.declared.expressions.ExprNode.TheVariants as node
use Rattle.typed_units.specs.declared.operators.Connective.{Connective}
use Rattle.typed_units.specs.declared.operators.Relation.{Relation}
use Rattle.type_base.specs.Scope.{Scope}
use Rattle.type_base.specs.declared.seen.Agreed.{Agreed}
use Rattle.type_base.specs.declared.seen.Agreed.TheVariants as agreed
use Rattle.type_base.specs.declared.seen.Demand.{Demand}
use Rattle.type_base.specs.declared.seen.Demand.TheVariants as demand
use Rattle.type_base.specs.declared.seen.Family.{Family}
use Rattle.type_base.specs.declared.seen.Family.TheVariants as family
use Rattle.type_base.specs.declared.seen.Seen.{Seen}
use Rattle.type_base.specs.declared.seen.Seen.TheVariants.{Refused, Unknown, Number, Typed}
use Rattle.type_base.specs.declared.seen.Want.{Want}
use Rattle.type_base.specs.declared.world.Form.{Form}
use Rattle.type_base.specs.declared.world.Form.TheVariants as form
use Rattle.type_base.specs.declared.world.World.{World}
use Rattle.type_base.specs.Demands.{agree, broken, fitting, is_one, is_whole, made, meets, number_as, operand, placed_number, refused, subtype_of, takes_numbers, wanted_integer, with_left, with_number, with_refused, with_right, with_typed, with_unknown}
use Rattle.type_base.specs.Lookups.{form_at, type_at}
use Rattle.type_base.specs.Operators.{demand_of, exponent, joined, matched, number_to, operands, raised, rule_of, typed_to, unary_of, with_operator}
use Rattle.type_base.specs.Results.{arithmetic, arithmetic_of, changed, changed_of, comparison, comparison_of, computed, connection, connection_of, kept, kept_of, moved, number_in, opposite, opposite_of, settled, static_result, truth_at, truth_in, typed_result, universal, universal_result}
use Rattle.type_base.specs.Standard.{integer_base}
use Rattle.typing_rules.specs.declared.prefix.Found.{Found}
use Rattle.typing_rules.specs.declared.prefix.Found.TheVariants as found
use Rattle.typing_rules.specs.Fits.{seen_then}
use Rattle.typing_rules.specs.Lookups.{number_or, seen_as, seen_by, type_of}
use Rattle.typing_laws.specs.Declared.{IsSound, IsThere}
use Rattle.typing_laws.proofs.Standing.{KindThere, boolean_there, form_there, kind_there}

-- ---- values

abbrev pub TypeThere : World → Seen → Type 0
TypeThere w (Refused f) = Unit {0}
TypeThere w Unknown = Unit {0}
TypeThere w (Number n) = Unit {0}
TypeThere w (Typed t x) = IsThere w t

seen_by_there : (w : World) (p : Place) (k : ℕ) (n : ExprNode Expr) (m : Option ℕ) → KindThere w m → TypeThere w (seen_by p k n m)
seen_by_there w p k n None h = tt
seen_by_there w p k n (Some t) h = h

pub seen_as_there : (c : Scope) (p : Place) (k : ℕ) (n : ExprNode Expr) → IsSound c.world → TypeThere c.world (seen_as c p k n)
seen_as_there c p k n sound = seen_by_there c.world p k n (type_at c.world k) (kind_there c.world k sound)

number_or_there : (w : World) (m : Option ℕ) → IsSound w → KindThere w m → IsThere w (number_or m)
number_or_there w (Some t) sound h = h
number_or_there w None sound h = boolean_there w sound

-- also of what has none: Boolean is taken for it
pub type_of_there : (w : World) (k : ℕ) → IsSound w → IsThere w (type_of w k)
type_of_there w k sound = number_or_there w (type_at w k) sound (kind_there w k sound)

pub truth_there : (w : World) (p : Place) (n : ExprNode Expr) → IsSound w → TypeThere w (truth_at p n)
truth_there w p n sound = boolean_there w sound

pub either_there : (w : World) (b : Bool) (x y : Seen) → TypeThere w x → TypeThere w y → TypeThere w (if b then x else y)
either_there w true x y h i = h
either_there w false x y h i = i

pub then_there : {A : Type 0} (w : World) (x : Found A) (f : A → Seen) → ((a : A) → TypeThere w (f a)) → TypeThere w (seen_then x f)
then_there w (found.Refused g) f h = tt
then_there w found.Unknown f h = tt
then_there w (found.Is a) f h = h a

pub moved_there : (w : World) (p : Place) (s : Seen) → TypeThere w s → TypeThere w (moved p s)
moved_there w p (Refused f) h = tt
moved_there w p Unknown h = tt
moved_there w p (Number n) h = tt
moved_there w p (Typed t x) h = h

placed_if : (w : World) (t : ℕ) (x : Expr) (p q : Place) (r : Code) (a b : Bool) → IsThere w t → TypeThere w (if a then (if b then Typed t x else refused code.L29 p) else refused r q)
placed_if w t x p q r true true h = h
placed_if w t x p q r true false h = tt
placed_if w t x p q r false b h = tt

number_there : (w : World) (r : Code) (q p : Place) (t : ℕ) (n : ℤ) (m : Option Form) → form_at w t ≡ m → TypeThere w (number_as r q p t n m)
number_there w r q p t n None e = tt
number_there w r q p t n (Some (form.Number d s)) e = placed_if w t (made p t (node.Static (value.Int n))) p q r (is_whole d) (in_base s n) (form_there w t (form.Number d s) e)
number_there w r q p t n (Some form.Truth) e = tt
number_there w r q p t n (Some (form.Array i b k)) e = tt
number_there w r q p t n (Some (form.Record i k)) e = tt

pub placed_there : (w : World) (r : Code) (q p : Place) (t : ℕ) (n : ℤ) → TypeThere w (placed_number w r q p t n)
placed_there w r q p t n = number_there w r q p t n (form_at w t) refl

-- ---- operands

met_there : (w : World) (d : Demand) (r : Code) (p : Place) (t : ℕ) (x : Expr) (m : Option Form) → IsThere w t → TypeThere w (fitting d r p t x m)
met_there w d r p t x None h = tt
met_there w d r p t x (Some f) h = either_there w (meets d f) (Typed t x) (refused r p) h tt

pub operand_there : (w : World) (d : Demand) (r : Code) (p : Place) (s : Seen) → TypeThere w s → TypeThere w (operand w d r p s)
operand_there w d r p (Refused f) h = tt
operand_there w d r p Unknown h = tt
operand_there w d r p (Number n) h = either_there w (takes_numbers d) (Number n) (refused r p) tt tt
operand_there w d r p (Typed t x) h = met_there w d r p t x (form_at w (subtype_of x)) h

abbrev pub AgreedThere : World → Agreed → Type 0
AgreedThere w (agreed.Refused f) = Unit {0}
AgreedThere w agreed.Unknown = Unit {0}
AgreedThere w (agreed.Numbers a b) = Unit {0}
AgreedThere w (agreed.Typed t x y) = IsThere w t

left_there : (w : World) (s : Seen) (y : Expr) → TypeThere w s → AgreedThere w (with_left s y)
left_there w (Refused f) y h = tt
left_there w Unknown y h = tt
left_there w (Number n) y h = tt
left_there w (Typed t x) y h = h

right_there : (w : World) (t : ℕ) (x : Expr) (s : Seen) → IsThere w t → AgreedThere w (with_right t x s)
right_there w t x (Refused f) h = tt
right_there w t x Unknown h = tt
right_there w t x (Number n) h = tt
right_there w t x (Typed u y) h = h

refused_there : (w : World) (f : Refusal) (s : Seen) → AgreedThere w (with_refused f s)
refused_there w f (Refused g) = tt
refused_there w f Unknown = tt
refused_there w f (Number n) = tt
refused_there w f (Typed t x) = tt

unknown_there : (w : World) (s : Seen) → AgreedThere w (with_unknown s)
unknown_there w (Refused g) = tt
unknown_there w Unknown = tt
unknown_there w (Number n) = tt
unknown_there w (Typed t x) = tt

same_there : (w : World) (r : Code) (q : Place) (t : ℕ) (x y : Expr) (b : Bool) → IsThere w t → AgreedThere w (if b then agreed.Typed t x y else agreed.Refused (broken r q))
same_there w r q t x y true h = h
same_there w r q t x y false h = tt

beside_number : (w : World) (r : Code) (p q : Place) (m : ℤ) (s : Seen) → AgreedThere w (with_number w r p q m s)
beside_number w r p q m (Refused g) = tt
beside_number w r p q m Unknown = tt
beside_number w r p q m (Number n) = tt
beside_number w r p q m (Typed u y) = left_there w (placed_number w r q p u m) y (placed_there w r q p u m)

beside_typed : (w : World) (r : Code) (q : Place) (t : ℕ) (x : Expr) (s : Seen) → IsThere w t → AgreedThere w (with_typed w r q t x s)
beside_typed w r q t x (Refused g) h = tt
beside_typed w r q t x Unknown h = tt
beside_typed w r q t x (Number n) h = right_there w t x (placed_number w r q q t n) h
beside_typed w r q t x (Typed u y) h = same_there w r q t x y (t == u) h

pub agree_there : (w : World) (r : Code) (p q : Place) (a b : Seen) → TypeThere w a → AgreedThere w (agree w r p q a b)
agree_there w r p q (Refused f) b h = refused_there w f b
agree_there w r p q Unknown b h = unknown_there w b
agree_there w r p q (Number m) b h = beside_number w r p q m b
agree_there w r p q (Typed t x) b h = beside_typed w r q t x b h

-- ---- `**`

number_to_there : (w : World) (v : Want) (p : Place) (m : ℤ) (s : Seen) → AgreedThere w (number_to w v p m s)
number_to_there w v p m (Refused g) = tt
number_to_there w v p m Unknown = tt
number_to_there w v p m (Number n) = tt
number_to_there w v p m (Typed u y) = left_there w (placed_number w code.L2 p p (wanted_integer w v) m) y (placed_there w code.L2 p p (wanted_integer w v) m)

typed_to_there : (w : World) (q : Place) (t : ℕ) (x : Expr) (s : Seen) → IsThere w t → AgreedThere w (typed_to w q t x s)
typed_to_there w q t x (Refused g) h = tt
typed_to_there w q t x Unknown h = tt
typed_to_there w q t x (Number n) h = right_there w t x (placed_number w code.L2 q q integer_base n) h
typed_to_there w q t x (Typed u y) h = h

raised_there : (w : World) (v : Want) (p q : Place) (a b : Seen) → TypeThere w a → AgreedThere w (raised w v p q a b)
raised_there w v p q (Refused f) b h = refused_there w f b
raised_there w v p q Unknown b h = unknown_there w b
raised_there w v p q (Number m) b h = number_to_there w v p m b
raised_there w v p q (Typed t x) b h = typed_to_there w q t x b h

operands_there : (w : World) (f : Family) (p q : Place) (a b : Seen) → TypeThere w a → AgreedThere w (operands w f p q a b)
operands_there w f p q a b h =
    agree_there w (rule_of f) p q (operand w (demand_of f) (rule_of f) p a) (operand w (demand_of f) (rule_of f) q b) (operand_there w (demand_of f) (rule_of f) p a h)

matched_there : (w : World) (v : Want) (p q : Place) (f : Family) (a b : Seen) → TypeThere w a → AgreedThere w (matched w v p q f a b)
matched_there w v p q (family.Arithmetic o) a b h = operands_there w (family.Arithmetic o) p q a b h
matched_there w v p q (family.Compare r) a b h = operands_there w (family.Compare r) p q a b h
matched_there w v p q (family.Connect o) a b h = operands_there w (family.Connect o) p q a b h
matched_there w v p q family.Power a b h = raised_there w v p q (operand w demand.Integer code.L2 p a) (exponent q b) (operand_there w demand.Integer code.L2 p a h)

-- ---- results

universal_there : (w : World) (p q : Place) (r : Result ℤ OpFault) → TypeThere w (universal_result p q r)
universal_there w p q (Ok n) = tt
universal_there w p q (Err wrong.Overflow) = tt
universal_there w p q (Err wrong.ZeroDivisor) = tt
universal_there w p q (Err wrong.NegativeExponent) = tt

result_there : (w : World) (p q : Place) (t : ℕ) (s : Scalar) (r : Result ℤ OpFault) → IsThere w t → TypeThere w (typed_result p q t s r)
result_there w p q t s (Ok n) h = either_there w (in_base s n) (Typed t (made p t (node.Static (value.Int n)))) (refused code.L29 p) h tt
result_there w p q t s (Err wrong.Overflow) h = tt
result_there w p q t s (Err wrong.ZeroDivisor) h = tt
result_there w p q t s (Err wrong.NegativeExponent) h = tt

settled_there : (w : World) (p q : Place) (t : ℕ) (m : Option (Scalar × Result ℤ OpFault)) → IsThere w t → TypeThere w (settled p q t m)
settled_there w p q t None h = tt
settled_there w p q t (Some e) h = result_there w p q t e.0 e.1 h

computed_there : (w : World) (p q : Place) (t : ℕ) (o : Op) (a b : ℤ) (m : Option Form) → IsThere w t → TypeThere w (static_result p q t o a b m)
computed_there w p q t o a b m h = settled_there w p q t (computed o a b m) h

arithmetic_two : (w : World) (p o q : Place) (k : Op) (t : ℕ) (x y : Expr) (a b : Option ℤ) → IsThere w t → TypeThere w (arithmetic_of w p o q k t x y a b)
arithmetic_two w p o q k t x y (Some a) (Some b) h = computed_there w p q t k a b (form_at w t) h
arithmetic_two w p o q k t x y (Some a) None h = h
arithmetic_two w p o q k t x y None b h = h

arithmetic_there : (w : World) (p o q : Place) (k : Op) (g : Agreed) → AgreedThere w g → TypeThere w (arithmetic w p o q k g)
arithmetic_there w p o q k (agreed.Refused f) h = tt
arithmetic_there w p o q k agreed.Unknown h = tt
arithmetic_there w p o q k (agreed.Numbers a b) h = universal_there w p q (combined k universal a b)
arithmetic_there w p o q k (agreed.Typed t x y) h = arithmetic_two w p o q k t x y (number_in x) (number_in y) h

comparison_two : (w : World) (p : Place) (r : Relation) (x y : Expr) (a b : Option ℤ) → IsSound w → TypeThere w (comparison_of p r x y a b)
comparison_two w p r x y (Some a) (Some b) sound = boolean_there w sound
comparison_two w p r x y (Some a) None sound = boolean_there w sound
comparison_two w p r x y None b sound = boolean_there w sound

comparison_there : (w : World) (p q : Place) (r : Relation) (g : Agreed) → IsSound w → TypeThere w (comparison w p q r g)
comparison_there w p q r (agreed.Refused f) sound = tt
comparison_there w p q r agreed.Unknown sound = tt
comparison_there w p q r (agreed.Numbers a b) sound = boolean_there w sound
comparison_there w p q r (agreed.Typed t x y) sound =
    either_there w (is_one w (subtype_of x) (subtype_of y)) (comparison_of p r x y (number_in x) (number_in y)) (refused code.L5 q) (comparison_two w p r x y (number_in x) (number_in y) sound) tt

connection_two : (w : World) (p : Place) (o : Connective) (x y : Expr) (a b : Option Bool) → IsSound w → TypeThere w (connection_of p o x y a b)
connection_two w p o x y (Some a) (Some b) sound = boolean_there w sound
connection_two w p o x y (Some a) None sound = boolean_there w sound
connection_two w p o x y None b sound = boolean_there w sound

connection_there : (w : World) (p : Place) (o : Connective) (g : Agreed) → IsSound w → TypeThere w (connection p o g)
connection_there w p o (agreed.Refused f) sound = tt
connection_there w p o agreed.Unknown sound = tt
connection_there w p o (agreed.Numbers a b) sound = tt
connection_there w p o (agreed.Typed t x y) sound = connection_two w p o x y (truth_in x) (truth_in y) sound

operator_there : (w : World) (p o q : Place) (f : Family) (g : Agreed) → IsSound w → AgreedThere w g → TypeThere w (with_operator w p o q f g)
operator_there w p o q (family.Arithmetic k) g sound h = arithmetic_there w p o q k g h
operator_there w p o q (family.Compare r) g sound h = comparison_there w p q r g sound
operator_there w p o q (family.Connect k) g sound h = connection_there w p k g sound
operator_there w p o q family.Power g sound h = arithmetic_there w p o q op.Pow g h

pub joined_there : (w : World) (v : Want) (p o pa pb : Place) (f : Family) (a b : Seen) → IsSound w → TypeThere w a → TypeThere w (joined w v p o pa pb f a b)
joined_there w v p o pa pb f a b sound h = operator_there w p o pb f (matched w v pa pb f a b) sound (matched_there w v pa pb f a b h)

-- ---- one operand

kept_one : (w : World) (p : Place) (t : ℕ) (x : Expr) (m : Option ℤ) → IsThere w t → TypeThere w (kept_of p t x m)
kept_one w p t x (Some n) h = h
kept_one w p t x None h = h

kept_there : (w : World) (p : Place) (s : Seen) → TypeThere w s → TypeThere w (kept p s)
kept_there w p (Refused f) h = tt
kept_there w p Unknown h = tt
kept_there w p (Number n) h = tt
kept_there w p (Typed t x) h = kept_one w p t x (number_in x) h

changed_one : (w : World) (p : Place) (o : Op) (t : ℕ) (x : Expr) (m : Option ℤ) → IsThere w t → TypeThere w (changed_of w p o t x m)
changed_one w p o t x (Some n) h = computed_there w p p t o n (pos 0) (form_at w t) h
changed_one w p o t x None h = h

changed_there : (w : World) (p : Place) (o : Op) (s : Seen) → TypeThere w s → TypeThere w (changed w p o s)
changed_there w p o (Refused f) h = tt
changed_there w p o Unknown h = tt
changed_there w p o (Number n) h = universal_there w p p (combined o universal n (pos 0))
changed_there w p o (Typed t x) h = changed_one w p o t x (number_in x) h

opposite_one : (w : World) (p : Place) (x : Expr) (m : Option Bool) → IsSound w → TypeThere w (opposite_of p x m)
opposite_one w p x (Some b) sound = boolean_there w sound
opposite_one w p x None sound = boolean_there w sound

opposite_there : (w : World) (p : Place) (s : Seen) → IsSound w → TypeThere w (opposite p s)
opposite_there w p (Refused f) sound = tt
opposite_there w p Unknown sound = tt
opposite_there w p (Number n) sound = tt
opposite_there w p (Typed t x) sound = opposite_one w p x (truth_in x) sound

pub unary_there : (w : World) (p q : Place) (o : UnaryOperator) (s : Seen) → IsSound w → TypeThere w s → TypeThere w (unary_of w p q o s)
unary_there w p q unary'.Plus s sound h = kept_there w p (operand w demand.Integer code.L3 q s) (operand_there w demand.Integer code.L3 q s h)
unary_there w p q unary'.Minus s sound h = changed_there w p op.Neg (operand w demand.Integer code.L3 q s) (operand_there w demand.Integer code.L3 q s h)
unary_there w p q unary'.Abs s sound h = changed_there w p op.Abs (operand w demand.Integer code.L3 q s) (operand_there w demand.Integer code.L3 q s h)
unary_there w p q unary'.Not s sound h = opposite_there w p (operand w demand.Truth code.L4 q s) sound
