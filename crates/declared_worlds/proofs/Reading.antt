-- The type of each expression that is seen stands in a sound world, whatever is refused in it, and so does the subtype of each range.
use Rattle.std.proofs.Common.{◌≡◌, refl, ℕ, ℤ, pos, Bool, false, ◌==◌, List, [], ◌∷◌, Option, Some, None}
use Rattle.std.specs.Prelude.{not}
use Rattle.ada_values.specs.Scalars.{within}
use Rattle.ada_values.specs.declared.place.Place.{Place}
use Rattle.ada_values.specs.declared.values.Value.{Value}
use Rattle.ada_values.specs.declared.values.Value.TheVariants as value
use Rattle.ada_syntax.specs.declared.expressions.Quantifier.{Quantifier}
use Rattle.front_codes.specs.declared.codes.Code.{Code}
use Rattle.front_codes.specs.declared.codes.Code.TheVariants as code
use Rattle.front_codes.specs.declared.codes.Refusal.{Refusal}
use Rattle.name_numbers.specs.Numbers.{word_of}
use Rattle.syntax_view.specs.Trees as tree
use Rattle.typed_units.specs.declared.expressions.Arm.{Arm}
use Rattle.typed_units.specs.declared.expressions.Expr.{Expr, out-Expr}
use Rattle.typed_units.specs.declared.expressions.ExprNode.TheVariants as node
use Rattle.typed_units.specs.declared.expressions.Fitted.{Fitted}
use Rattle.typed_units.specs.declared.operators.Bounds.{Bounds}
use Rattle.typed_units.specs.declared.operators.Composite.TheVariants as composite
use Rattle.type_base.specs.Scope.{Scope}
use Rattle.type_base.specs.declared.seen.Agreed.{Agreed}
use Rattle.type_base.specs.declared.seen.Agreed.TheVariants as agreed
use Rattle.type_base.specs.declared.seen.Demand.TheVariants as demand
use Rattle.type_base.specs.declared.seen.Seen.{Seen}
use Rattle.type_base.specs.declared.seen.Seen.TheVariants as seen
use Rattle.type_base.specs.declared.seen.Want.{Want}
use Rattle.type_base.specs.declared.seen.Want.TheVariants as want
use Rattle.type_base.specs.declared.world.Component.{Component}
use Rattle.type_base.specs.declared.world.Form.{Form}
use Rattle.type_base.specs.declared.world.Form.TheVariants as form
use Rattle.type_base.specs.declared.world.World.{World}
use Rattle.type_base.specs.Demands.{agree, operand as demanded, placed_number, refused}
use Rattle.type_base.specs.Lookups.{form_at, routine_at}
use Rattle.type_base.specs.Operators.{family_of}
use Rattle.type_base.specs.Results.{number_in, truth_at}
use Rattle.typing_rules.specs.declared.prefix.Between.{Between}
use Rattle.typing_rules.specs.declared.aggregates.Manner.TheVariants as manner
use Rattle.typing_rules.specs.declared.prefix.Found.{Found}
use Rattle.typing_rules.specs.declared.prefix.Found.TheVariants as found
use Rattle.typing_rules.specs.declared.prefix.Prefix.{Prefix}
use Rattle.typing_rules.specs.declared.prefix.Prefix.TheVariants as prefix
use Rattle.typing_rules.specs.declared.prefix.Reach.{Reach}
use Rattle.typing_rules.specs.declared.prefix.Reach.TheVariants as reach
use Rattle.typing_rules.specs.Aggregates.{aggregate, aggregate_as, aggregate_of, array_aggregate, grouped, items, items_covered, last_number, no_subtype, none_gathered, qualification, qualified_as, qualified_by, qualified_node, record_by, record_parts}
use Rattle.typing_rules.specs.Conditions.{Common, arms_onto, branch_want, chooser, chosen, chosen_else, common_of, condition, counting, else_of, if_by, if_found, if_made, index_subtype, quantified_by, quantifier_of, result_by}
use Rattle.typing_rules.specs.Fits.{both, fit, refused_beside}
use Rattle.typing_rules.specs.Forms.{application, form_prefix, left_want, right_want, suffix_prefix, suffixes_prefix}
use Rattle.typing_rules.specs.Kinds.{branches_kind, range_kind}
use Rattle.typing_rules.specs.Lookups.{Array, array_at, components_at, entity_of, seen_as, type_of, with_index}
use Rattle.typing_rules.specs.Names.{alone_by, only_operand}
use Rattle.typing_rules.specs.Parts as parts
use Rattle.typing_rules.specs.Parts.{Arg, Choice, Form as Shape, Operand, Range, Suffix}
use Rattle.typing_rules.specs.Ranges.{bounds_reach, lone_reach, member_by, member_number, member_of, member_seen, member_static, member_typed, no_range, range_found, reach_by, reach_in, reach_of, reach_seen, same_truth, subtype_reach, two_reach, want_or, weaker}
use Rattle.typing_rules.specs.Reading.{args, arms, choice, form as shape, item, item_form, maybe, operand, range, read, seen as seen_in, value as value_in}
use Rattle.typing_rules.specs.Values.{entity_prefix, place_of, seen_of, value_of}
use Rattle.typing_laws.specs.Declared.{IsSound, IsThere}
use Rattle.typing_laws.proofs.Standing.{form_there}
use Rattle.declared_worlds.proofs.Seen.{AgreedThere, TypeThere, agree_there, either_there, joined_there, moved_there, operand_there, seen_as_there, then_there, truth_there, unary_there}
use Rattle.declared_worlds.proofs.Naming.{PrefixThere, after_unknown_there, conversion_of_there, entity_there, part_item_there, routine_call_there, selection_there, value_item_there, value_there}
use Rattle.declared_worlds.proofs.Attributing.{attribute_there, mapped_there, range_there}

-- ---- aggregates and qualified expressions

record_by_there : (c : Scope) (p : Place) (k : ℕ) (m : Option (List Component)) (as' : List Arg) → IsSound c.world → TypeThere c.world (record_by c p k m as')
record_by_there c p k (Some cs) as' sound =
    then_there c.world (record_parts c p cs [] false (found.Is []) as') (λ xs. seen_as c p k (node.Aggregate composite.Record (record { first = pos 0; last = last_number cs }) xs))
    (λ xs. seen_as_there c p k (node.Aggregate composite.Record (record { first = pos 0; last = last_number cs }) xs) sound)
record_by_there c p k None as' sound = tt

array_there : (c : Scope) (p : Place) (k : ℕ) (a : Array) (b : Bounds) (as' : List Arg) → IsSound c.world → TypeThere c.world (array_aggregate c p k a b as')
array_there c p k a b as' sound =
    then_there c.world (items_covered c p b as' (items c a b 0 manner.Either none_gathered as')) (λ xs. seen_as c p k (node.Aggregate composite.Array b xs))
    (λ xs. seen_as_there c p k (node.Aggregate composite.Array b xs) sound)

aggregate_of_there : (c : Scope) (p : Place) (k : ℕ) (m : Option Form) (as' : List Arg) → IsSound c.world → TypeThere c.world (aggregate_of c p k m as')
aggregate_of_there c p k (Some (form.Array i (Some b) t)) as' sound = array_there c p k (record { index = i; bounds = Some b; item = t }) b as' sound
aggregate_of_there c p k (Some (form.Array i None t)) as' sound = record_by_there c p k (components_at c.world k) as' sound
aggregate_of_there c p k (Some (form.Number d s)) as' sound = record_by_there c p k (components_at c.world k) as' sound
aggregate_of_there c p k (Some form.Truth) as' sound = record_by_there c p k (components_at c.world k) as' sound
aggregate_of_there c p k (Some (form.Record i n)) as' sound = record_by_there c p k (components_at c.world k) as' sound
aggregate_of_there c p k None as' sound = after_unknown_there c as'

aggregate_as_there : (c : Scope) (p : Place) (t : ℕ) (m : Option Form) (as' : List Arg) → IsSound c.world → TypeThere c.world (aggregate_as c p t m as')
aggregate_as_there c p t (Some f) as' sound = record_by_there c p t (components_at c.world t) as' sound
aggregate_as_there c p t None as' sound = after_unknown_there c as'

aggregate_there : (c : Scope) (p : Place) (v : Want) (as' : List Arg) → IsSound c.world → TypeThere c.world (aggregate c p v as')
aggregate_there c p want.Free as' sound = tt
aggregate_there c p want.Unknown as' sound = after_unknown_there c as'
aggregate_there c p (want.Type t) as' sound = aggregate_as_there c p t (form_at c.world t) as' sound
aggregate_there c p (want.Subtype k) as' sound = aggregate_of_there c p k (form_at c.world k) as' sound

qualified_there : (c : Scope) (p : Place) (k : ℕ) (x : Found (Fitted Expr)) → IsSound c.world → TypeThere c.world (qualified_as c p k x)
qualified_there c p k x sound =
    then_there c.world x (λ v. seen_as c p k (qualified_node v v.bounds (out-Expr v.value).node)) (λ v. seen_as_there c p k (qualified_node v v.bounds (out-Expr v.value).node) sound)

qualified_by_there : (c : Scope) (p : Place) (k : ℕ) (t : Place) (as' : List Arg) (o : Option Operand) → IsSound c.world → TypeThere c.world (qualified_by c p k t as' o)
qualified_by_there c p k t as' (Some o) sound = qualified_there c p k (fit c.world code.L18 false k (place_of c o) (seen_of c o (want.Subtype k))) sound
qualified_by_there c p k t as' None sound = qualified_there c p k (fit c.world code.L18 false k t (aggregate c t (want.Subtype k) as')) sound

no_subtype_there : (w : World) (p : Place) (s : Seen) → TypeThere w (no_subtype p s)
no_subtype_there w p (seen.Refused f) = tt
no_subtype_there w p seen.Unknown = tt
no_subtype_there w p (seen.Number n) = tt
no_subtype_there w p (seen.Typed t x) = tt

qualification_there : (c : Scope) (p : Place) (f : Prefix) (t : Place) (as' : List Arg) → IsSound c.world → TypeThere c.world (qualification c p f t as')
qualification_there c p (prefix.Subtype k) t as' sound = qualified_by_there c p k t as' (only_operand as') sound
qualification_there c p f t as' sound = no_subtype_there c.world p (value_of c p f)

-- ---- names

application_there : (c : Scope) (p : Place) (f : Prefix) (as' : List Arg) → IsSound c.world → PrefixThere c.world (application c p f as')
application_there c p (prefix.Subtype k) as' sound = conversion_of_there c p k (only_operand as') sound
application_there c p (prefix.Routine q) as' sound = routine_call_there c p q as' (routine_at c.world q) sound
application_there c p (prefix.Mapping m t k) as' sound = mapped_there c p m t k (only_operand as') sound
application_there c p (prefix.Part g) as' sound = part_item_there c p g as' (array_at c.world g.subtype)
application_there c p f as' sound = value_item_there c p as' (value_of c p f) sound

suffix_there : (c : Scope) (v : Want) (p : Place) (f : Prefix) (s : Suffix) → IsSound c.world → PrefixThere c.world f → PrefixThere c.world (suffix_prefix c v p f s)
suffix_there c v p f (parts.selected at) sound h = selection_there c p f at sound
suffix_there c v p f (parts.attribute t at) sound h = attribute_there c v p f (c.place t) (word_of (c.name at)) sound h
suffix_there c v p f (parts.range_attribute t) sound h = range_there c p f sound
suffix_there c v p f (parts.qualified t as') sound h = qualification_there c p f (c.place t) as' sound
suffix_there c v p f (parts.applied as') sound h = application_there c p f as' sound

suffixes_there : (c : Scope) (v : Want) (p : Place) (f : Prefix) (ss : List Suffix) → IsSound c.world → PrefixThere c.world f → PrefixThere c.world (suffixes_prefix c v p f ss)
suffixes_there c v p f [] sound h = h
suffixes_there c v p f (s ∷ ss) sound h = suffixes_there c v p (suffix_prefix c v p f s) ss sound (suffix_there c v p f s sound h)

-- ---- ranges

abbrev pub ReachThere : World → Reach → Type 0
ReachThere w (reach.Refused f) = Unit {0}
ReachThere w reach.Unknown = Unit {0}
ReachThere w (reach.Numbers a b) = Unit {0}
ReachThere w (reach.Between b) = IsThere w b.subtype

bounds_reach_there : (w : World) (g : Agreed) → AgreedThere w g → ReachThere w (bounds_reach g)
bounds_reach_there w (agreed.Refused f) h = tt
bounds_reach_there w agreed.Unknown h = tt
bounds_reach_there w (agreed.Numbers a b) h = tt
bounds_reach_there w (agreed.Typed t x y) h = h

subtype_reach_there : (w : World) (r : Code) (p : Place) (k : ℕ) (m : Option Form) → form_at w k ≡ m → ReachThere w (subtype_reach r p k m)
subtype_reach_there w r p k (Some (form.Number d s)) e = form_there w k (form.Number d s) e
subtype_reach_there w r p k (Some form.Truth) e = tt
subtype_reach_there w r p k (Some (form.Array i b t)) e = tt
subtype_reach_there w r p k (Some (form.Record i n)) e = tt
subtype_reach_there w r p k None e = tt

no_range_there : (w : World) (r : Code) (p : Place) (s : Seen) → ReachThere w (no_range r p s)
no_range_there w r p (seen.Refused f) = tt
no_range_there w r p seen.Unknown = tt
no_range_there w r p (seen.Number n) = tt
no_range_there w r p (seen.Typed t x) = tt

lone_there : (c : Scope) (r : Code) (p : Place) (f : Prefix) → PrefixThere c.world f → ReachThere c.world (lone_reach c r p f)
lone_there c r p (prefix.Subtype k) h = subtype_reach_there c.world r p k (form_at c.world k) refl
lone_there c r p (prefix.Range b) h = h
lone_there c r p f h = no_range_there c.world r p (value_of c p f)

-- ---- membership tests

member_static_there : (w : World) (p : Place) (b : Bool) (x : Expr) (g : Between) (n l h : Option ℤ) → IsSound w → TypeThere w (member_static p b x g n l h)
member_static_there w p b x g (Some n) (Some l) (Some h) sound = truth_there w p (node.Static (value.Bool (same_truth b (within l h n)))) sound
member_static_there w p b x g (Some n) (Some l) None sound = truth_there w p (node.Member b x g.low g.high) sound
member_static_there w p b x g (Some n) None h sound = truth_there w p (node.Member b x g.low g.high) sound
member_static_there w p b x g None l h sound = truth_there w p (node.Member b x g.low g.high) sound

member_of_there : (w : World) (p : Place) (b : Bool) (x : Expr) (g : Between) → IsSound w → TypeThere w (member_of p b x g)
member_of_there w p b x g sound = member_static_there w p b x g (number_in x) (number_in g.low) (number_in g.high) sound

member_typed_there : (c : Scope) (p : Place) (b : Bool) (g : Range) (t : ℕ) (x : Expr) (m : Found Between) → IsSound c.world → TypeThere c.world (member_typed c p b g t x m)
member_typed_there c p b g t x (found.Refused f) sound = tt
member_typed_there c p b g t x found.Unknown sound = tt
member_typed_there c p b g t x (found.Is y) sound = either_there c.world (t == type_of c.world y.subtype) (member_of p b x y) (refused code.L7 (place_of c g.low)) (member_of_there c.world p b x y sound) tt

member_number_there : (w : World) (p : Place) (b : Bool) (g : Between) (s : Seen) → IsSound w → TypeThere w (member_number p b g s)
member_number_there w p b g (seen.Typed t x) sound = member_of_there w p b x g sound
member_number_there w p b g (seen.Refused f) sound = tt
member_number_there w p b g seen.Unknown sound = tt
member_number_there w p b g (seen.Number n) sound = tt

reach_seen_there : (w : World) (u : Reach) → TypeThere w (reach_seen u)
reach_seen_there w (reach.Refused f) = tt
reach_seen_there w reach.Unknown = tt
reach_seen_there w (reach.Numbers a b) = tt
reach_seen_there w (reach.Between b) = tt

beside_there : (w : World) (f : Refusal) (s : Seen) → TypeThere w (refused_beside f s)
beside_there w f (seen.Refused g) = tt
beside_there w f seen.Unknown = tt
beside_there w f (seen.Number n) = tt
beside_there w f (seen.Typed t x) = tt

member_by_there : (c : Scope) (p : Place) (b : Bool) (q : Place) (g : Range) (s : Seen) (u : Reach) → IsSound c.world → TypeThere c.world (member_by c p b q g s u)
member_by_there c p b q g (seen.Refused f) u sound = beside_there c.world f (reach_seen u)
member_by_there c p b q g seen.Unknown u sound = reach_seen_there c.world u
member_by_there c p b q g (seen.Typed t x) u sound = member_typed_there c p b g t x (reach_in c code.L7 t g u) sound
member_by_there c p b q g (seen.Number n) (reach.Refused f) sound = tt
member_by_there c p b q g (seen.Number n) reach.Unknown sound = tt
member_by_there c p b q g (seen.Number n) (reach.Numbers l h) sound = truth_there c.world p (node.Static (value.Bool (same_truth b (within l h n)))) sound
member_by_there c p b q g (seen.Number n) (reach.Between y) sound = member_number_there c.world p b y (placed_number c.world code.L7 q q (type_of c.world y.subtype) n) sound

member_there : (c : Scope) (p : Place) (b : Bool) (a : Operand) (g : Range) (k : Option ℕ) → IsSound c.world → TypeThere c.world (member_seen c p b a g k)
member_there c p b a g k sound =
    member_by_there c p b (place_of c a) g (demanded c.world demand.Ordered code.L7 (place_of c a) (seen_of c a (want_or want.Free k))) (reach_of c code.L7 (want_or want.Free a.kind) g) sound

-- ---- if-expressions and quantified expressions

made_there : (c : Scope) (p : Place) (k : Common) (as' : List (Arm Expr)) (e : Expr) (m : Option Value) → IsSound c.world → TypeThere c.world (if_made c p k as' e m)
made_there c p k as' e (Some v) sound = seen_as_there c p k.type (node.Static v) sound
made_there c p k as' e None sound = seen_as_there c p (result_by k (form_at c.world k.subtype)) (node.If as' e) sound

if_found_there : (c : Scope) (p : Place) (k : Common) (as' : Found (List (Arm Expr))) (e : Found Expr) → IsSound c.world → TypeThere c.world (if_found c p k as' e)
if_found_there c p k as' e sound =
    then_there c.world (both chooser as' e) (λ r. if_made c p k r.arms r.otherwise (chosen r.arms r.otherwise)) (λ r. made_there c p k r.arms r.otherwise (chosen r.arms r.otherwise) sound)

if_there : (c : Scope) (p : Place) (v : Want) (as' : List parts.Arm) (e : Option Operand) (m : Option ℤ) → IsSound c.world → TypeThere c.world (if_by c p v as' e m)
if_there c p v as' e (Some n) sound = tt
if_there c p v as' e None sound =
    let k = common_of c v as' e in if_found_there c p k (arms_onto c k v (found.Is []) as') (else_of c p k v e) sound

quantified_there : (c : Scope) (p : Place) (q : Quantifier) (n : ℕ) (r : Found Between) (x : Found Expr) → IsSound c.world → TypeThere c.world (quantified_by c p q n r x)
quantified_there c p q n r x sound =
    then_there c.world (both counting r x) (λ z. truth_at p (node.Quantified (quantifier_of q) (record { number = n; subtype = z.range.subtype }) z.range.low z.range.high z.predicate))
    (λ z. truth_there c.world p (node.Quantified (quantifier_of q) (record { number = n; subtype = z.range.subtype }) z.range.low z.range.high z.predicate) sound)

-- ---- all forms

abbrev OperandThere : World → Operand → Type 0
OperandThere w o = (v : Want) → PrefixThere w (o.prefix v)

abbrev MaybeThere : World → Option Operand → Type 0
MaybeThere w None = Unit {0}
MaybeThere w (Some o) = OperandThere w o

-- what an operator or parentheses have
abbrev ShapeThere : World → Shape → Type 0
ShapeThere w (parts.number n) = Unit {0}
ShapeThere w parts.null = Unit {0}
ShapeThere w (parts.name i ss) = Unit {0}
ShapeThere w (parts.group as') = MaybeThere w (only_operand as')
ShapeThere w (parts.unary o a) = OperandThere w a
ShapeThere w (parts.binary t o a b) = OperandThere w a
ShapeThere w (parts.member b a g) = Unit {0}
ShapeThere w (parts.choose as' e) = Unit {0}
ShapeThere w (parts.quantified q at g f) = Unit {0}

operand_seen : (c : Scope) (o : Operand) (v : Want) → IsSound c.world → OperandThere c.world o → TypeThere c.world (seen_of c o v)
operand_seen c o v sound h = value_there c (place_of c o) (o.prefix v) sound (h v)

grouped_there : (c : Scope) (p : Place) (v : Want) (as' : List Arg) (o : Option Operand) → IsSound c.world → MaybeThere c.world o → TypeThere c.world (grouped c p v as' o)
grouped_there c p v as' (Some o) sound h = moved_there c.world p (seen_of c o v) (operand_seen c o v sound h)
grouped_there c p v as' None sound h = aggregate_there c p v as' sound

shape_there : (c : Scope) (p : Place) (f : Shape) (v : Want) → IsSound c.world → ShapeThere c.world f → PrefixThere c.world (form_prefix c p f v)
shape_there c p (parts.number n) v sound h = tt
shape_there c p parts.null v sound h = tt
shape_there c p (parts.name i ss) v sound h = suffixes_there c v p (entity_prefix c p (entity_of c i)) ss sound (entity_there c p (entity_of c i) sound)
shape_there c p (parts.group as') v sound h = grouped_there c p v as' (only_operand as') sound h
shape_there c p (parts.unary o a) v sound h = unary_there c.world p (place_of c a) o (seen_of c a (weaker c.world v)) sound (operand_seen c a (weaker c.world v) sound h)
shape_there c p (parts.binary t o a b) v sound h =
    let f = family_of o in
    joined_there c.world v p (c.place t) (place_of c a) (place_of c b) f (seen_of c a (left_want c f v b)) (seen_of c b (right_want c f v a)) sound (operand_seen c a (left_want c f v b) sound h)
shape_there c p (parts.member b a g) v sound h = member_there c p (not b) a g (range_kind g) sound
shape_there c p (parts.choose as' e) v sound h = let z = branch_want v (branches_kind as' e) in if_there c p z as' e (chosen_else c z as' e) sound
shape_there c p (parts.quantified q at g f) v sound h =
    let r = range_found c code.L23 g in quantified_there c p q (c.number at) r (condition c code.L23 (f (index_subtype c.world r))) sound

formed_there : (c : Scope) (at : ℕ) (f : Shape) → IsSound c.world → ShapeThere c.world f → OperandThere c.world (operand c at f)
formed_there c at f sound h = λ v. shape_there c (c.place at) f v sound h

-- ---- all trees

abbrev ChoiceThere : World → Choice → Type 0
ChoiceThere w (parts.single o) = OperandThere w o
ChoiceThere w parts.others = Unit {0}
ChoiceThere w (parts.between l k) = Unit {0}

lone_choice_there : (w : World) (k : Choice) (v : Option Operand) (as' : List Arg) → ChoiceThere w k → MaybeThere w (alone_by k v as')
lone_choice_there w (parts.single o) None [] h = h
lone_choice_there w (parts.single o) None (a ∷ as') h = tt
lone_choice_there w (parts.single o) (Some v) as' h = tt
lone_choice_there w parts.others v as' h = tt
lone_choice_there w (parts.between l k) v as' h = tt

mutual
  pub read_there : (c : Scope) (e : tree.Expr) → IsSound c.world → OperandThere c.world (read c e)
  read_there c (tree.at s n) sound = formed_there c s.from (shape c n) sound (node_there c n sound)

  node_there : (c : Scope) (n : tree.Node) → IsSound c.world → ShapeThere c.world (shape c n)
  node_there c (tree.number n) sound = tt
  node_there c tree.null sound = tt
  node_there c (tree.name (tree.named s i ss)) sound = tt
  node_there c (tree.group as') sound = group_there c as' sound
  node_there c (tree.unary s o a) sound = read_there c a sound
  node_there c (tree.binary s o a b) sound = read_there c a sound
  node_there c (tree.member s b a g) sound = tt

  group_there : (c : Scope) (as' : tree.Args) → IsSound c.world → MaybeThere c.world (only_operand (args c as'))
  group_there c tree.no_args sound = tt
  group_there c (tree.args (tree.arg s k v) as') sound = lone_choice_there c.world (choice c k) (value_in c v) (args c as') (choice_there c k sound)

  choice_there : (c : Scope) (k : tree.ArgChoice) → IsSound c.world → ChoiceThere c.world (choice c k)
  choice_there c tree.other_parts sound = tt
  choice_there c (tree.part i) sound = item_there c i sound
  choice_there c (tree.parts l h) sound = tt

  item_there : (c : Scope) (i : tree.Item) → IsSound c.world → OperandThere c.world (item c i)
  item_there c (tree.item s f) sound = item_form_there c s.from f sound

  item_form_there : (c : Scope) (at : ℕ) (f : tree.Form) → IsSound c.world → OperandThere c.world (item_form c at f)
  item_form_there c at (tree.plain e) sound = read_there c e sound
  item_form_there c at (tree.choose as' e) sound = formed_there c at (parts.choose (arms c as') (maybe c e)) sound tt
  item_form_there c at (tree.quantified q s g e) sound = formed_there c at (parts.quantified q s.from (range c g) (λ k. read (with_index c s.from k) e)) sound tt

-- ---- what is asked of them

pub type_there : (c : Scope) (v : Want) (e : tree.Expr) → IsSound c.world → TypeThere c.world (seen_in c v e)
type_there c v e sound = operand_seen c (read c e) v sound (read_there c e sound)

two_there : (c : Scope) (r : Code) (v : Want) (l h : Operand) → IsSound c.world → OperandThere c.world l → ReachThere c.world (two_reach c r v l h)
two_there c r v l h sound i =
    let x = seen_of c l (want_or v h.kind) in
    let y = seen_of c h (want_or v l.kind) in
    let a = demanded c.world demand.Ordered r (place_of c l) x in
    let b = demanded c.world demand.Ordered r (place_of c h) y in
    bounds_reach_there c.world (agree c.world r (place_of c l) (place_of c h) a b)
    (agree_there c.world r (place_of c l) (place_of c h) a b (operand_there c.world demand.Ordered r (place_of c l) x (operand_seen c l (want_or v h.kind) sound i)))

reach_there : (c : Scope) (r : Code) (v : Want) (e : tree.Expr) (m : Option Operand) → IsSound c.world → ReachThere c.world (reach_by c r v (read c e) m)
reach_there c r v e (Some h) sound = two_there c r v (read c e) h sound (read_there c e sound)
reach_there c r v e None sound = lone_there c r (place_of c (read c e)) ((read c e).prefix v) (read_there c e sound v)

pub range_reach_there : (c : Scope) (r : Code) (v : Want) (g : tree.Range) → IsSound c.world → ReachThere c.world (reach_of c r v (range c g))
range_reach_there c r v (tree.range l h) sound = reach_there c r v l (maybe c h) sound
