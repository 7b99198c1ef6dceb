-- Where no declaration is refused, all is known of an expression.
use Rattle.std.proofs.Common.{ℕ, false, List, [], ◌∷◌, Option, Some, None}
use Rattle.std.specs.Prelude.{not}
use Rattle.ada_syntax.specs.declared.expressions.UnaryOperator.{UnaryOperator}
use Rattle.ada_syntax.specs.declared.expressions.UnaryOperator.TheVariants as unary'
use Rattle.ada_values.specs.declared.place.Place.{Place}
use Rattle.front_codes.specs.declared.codes.Code.TheVariants as code
use Rattle.name_numbers.specs.Numbers.{word_of}
use Rattle.syntax_view.specs.Trees as tree
use Rattle.typed_units.specs.declared.expressions.Expr.{out-Expr}
use Rattle.typed_units.specs.declared.expressions.Expr.{Expr}
use Rattle.typed_units.specs.declared.expressions.Fitted.{Fitted}
use Rattle.type_base.specs.Scope.{Scope}
use Rattle.type_base.specs.declared.seen.Family.{Family}
use Rattle.type_base.specs.declared.seen.Family.TheVariants as family
use Rattle.type_base.specs.declared.seen.Seen.{Seen}
use Rattle.type_base.specs.declared.seen.Seen.TheVariants as seen
use Rattle.type_base.specs.declared.seen.Want.{Want}
use Rattle.type_base.specs.declared.seen.Want.TheVariants as want
use Rattle.type_base.specs.declared.world.World.{World}
use Rattle.type_base.specs.Operators.{family_of}
use Rattle.expression_rules.specs.Known.{IsKnown}
use Rattle.expression_rules.proofs.Knowns.{binary_known, unary_known}
use Rattle.typing_rules.specs.declared.hint.Hint.{Hint}
use Rattle.typing_rules.specs.declared.hint.Hint.TheVariants as hint
use Rattle.typing_rules.specs.declared.prefix.Found.{Found}
use Rattle.typing_rules.specs.declared.prefix.Prefix.{Prefix}
use Rattle.typing_rules.specs.declared.prefix.Prefix.TheVariants as prefix
use Rattle.typing_rules.specs.Aggregates.{aggregate, no_subtype, qualification, qualified_as, qualified_by, qualified_node}
use Rattle.typing_rules.specs.Fits.{fit}
use Rattle.typing_rules.specs.Forms.{application, binary_seen, form_kind, form_prefix, left_want, outer_want, right_want, suffix_prefix, suffixes_prefix}
use Rattle.typing_rules.specs.Kinds.{binary_kind, branches_kind, called_hint, entity_hint, operand_kind, range_kind, suffixes_hint, unary_kind, value_kind}
use Rattle.typing_rules.specs.Lookups.{entity_of, seen_as, with_index}
use Rattle.typing_rules.specs.Names.{only_operand}
use Rattle.typing_rules.specs.Parts as parts
use Rattle.typing_rules.specs.Parts.{Arg, Form, Operand, Suffix}
use Rattle.typing_rules.specs.Ranges.{weaker}
use Rattle.typing_rules.specs.Reading.{args, arms, choice, form, item, item_form, maybe, name_form, operand, range, read, suffix, suffixes, tick, value}
use Rattle.typing_rules.specs.Values.{entity_prefix, place_of, seen_of, value_of}
use Rattle.typing_laws.specs.Declared.{ArgsDeclared, ArmsDeclared, AttributeDeclared, ChoiceDeclared, FormDeclared, IsDeclared, IsGiven, IsSound, IsStated, IsThere, ItemDeclared, MaybeDeclared, NameDeclared, NodeDeclared, RangeDeclared, SuffixDeclared, SuffixesDeclared, ValueDeclared}
use Rattle.typing_laws.proofs.Standing.{IsFound, KindThere, boolean_there, integer_there, kind_there, seen_as_known, then_known}
use Rattle.typing_laws.proofs.KnownParts.{ArgsKnown, ArmsKnown, ChoiceKnown, MaybeKnown, OperandKnown, PrefixKnown, RangeKnown, SuffixKnown, SuffixesKnown, entity_known, only_known, operand_known, selection_known, value_known}
use Rattle.typing_laws.proofs.KnownArguments.{fit_found}
use Rattle.typing_laws.proofs.KnownRanges.{member_known, want_given, weaker_given}
use Rattle.typing_laws.proofs.KnownBranches.{branches_kind_there, first_kind_there, if_known, operand_kind_there, quantified_known, wanted_there}
use Rattle.typing_laws.proofs.KnownAggregated.{aggregate_known, grouped_known}
use Rattle.typing_laws.proofs.KnownIndexing.{conversion_applied, part_applied, routine_applied, value_applied}
use Rattle.typing_laws.proofs.KnownAttributed.{attribute_known, mapped_known, range_known}

-- ---- qualifications

qualified_as_known : (c : Scope) (p : Place) (k : ℕ) (v : Found (Fitted Expr)) → IsSound c.world → IsThere c.world k → IsFound v → IsKnown c.world (qualified_as c p k v)
qualified_as_known c p k v sound h i =
    then_known c.world v (λ x. seen_as c p k (qualified_node x x.bounds (out-Expr x.value).node)) i (λ x. seen_as_known c p k (qualified_node x x.bounds (out-Expr x.value).node) sound h)

qualified_known : (c : Scope) (p : Place) (k : ℕ) (t : Place) (as' : List Arg) (o : Option Operand) → IsSound c.world → IsThere c.world k → ArgsKnown c.world as' → MaybeKnown c.world o → IsKnown c.world (qualified_by c p k t as' o)
qualified_known c p k t as' (Some o) sound h i j =
    let s = seen_of c o (want.Subtype k) in
    let v = fit c.world code.L18 false k (place_of c o) s in
    qualified_as_known c p k v sound h (fit_found c.world code.L18 false k (place_of c o) s sound h (operand_known c o (want.Subtype k) sound j h))
qualified_known c p k t as' None sound h i j =
    let s = aggregate c t (want.Subtype k) as' in
    let v = fit c.world code.L18 false k t s in
    qualified_as_known c p k v sound h (fit_found c.world code.L18 false k t s sound h (aggregate_known c t (want.Subtype k) as' sound h i))

no_subtype_known : (w : World) (p : Place) (s : Seen) → IsKnown w s → IsKnown w (no_subtype p s)
no_subtype_known w p (seen.Refused f) h = tt
no_subtype_known w p seen.Unknown h = absurd h
no_subtype_known w p (seen.Number n) h = tt
no_subtype_known w p (seen.Typed t x) h = tt

unqualified : (c : Scope) (p : Place) (f : Prefix) → IsSound c.world → PrefixKnown c.world f → IsKnown c.world (no_subtype p (value_of c p f))
unqualified c p f sound h = no_subtype_known c.world p (value_of c p f) (value_known c p f sound h)

qualification_known : (c : Scope) (p : Place) (f : Prefix) (t : Place) (as' : List Arg) → IsSound c.world → PrefixKnown c.world f → ArgsKnown c.world as' → IsKnown c.world (qualification c p f t as')
qualification_known c p (prefix.Subtype k) t as' sound h i = qualified_known c p k t as' (only_operand as') sound h i (only_known c.world as' i)
qualification_known c p prefix.Package t as' sound h i = unqualified c p prefix.Package sound h
qualification_known c p (prefix.Routine q) t as' sound h i = unqualified c p (prefix.Routine q) sound h
qualification_known c p (prefix.Called q xs) t as' sound h i = unqualified c p (prefix.Called q xs) sound h
qualification_known c p (prefix.Mapping m u k) t as' sound h i = unqualified c p (prefix.Mapping m u k) sound h
qualification_known c p (prefix.Range b) t as' sound h i = unqualified c p (prefix.Range b) sound h
qualification_known c p (prefix.Constant u x) t as' sound h i = unqualified c p (prefix.Constant u x) sound h
qualification_known c p (prefix.Part g) t as' sound h i = unqualified c p (prefix.Part g) sound h
qualification_known c p (prefix.Value s) t as' sound h i = unqualified c p (prefix.Value s) sound h

-- ---- names

application_known : (c : Scope) (p : Place) (f : Prefix) (as' : List Arg) → IsSound c.world → PrefixKnown c.world f → ArgsKnown c.world as' → PrefixKnown c.world (application c p f as')
application_known c p (prefix.Subtype k) as' sound h i = conversion_applied c p k as' sound h i
application_known c p (prefix.Routine q) as' sound h i = routine_applied c p q as' sound h i
application_known c p (prefix.Mapping m t k) as' sound h i = mapped_known c p m t k (only_operand as') sound h (only_known c.world as' i)
application_known c p (prefix.Part g) as' sound h i = part_applied c p g as' sound h i
application_known c p prefix.Package as' sound h i = value_applied c p prefix.Package as' sound h i
application_known c p (prefix.Called q xs) as' sound h i = value_applied c p (prefix.Called q xs) as' sound h i
application_known c p (prefix.Range b) as' sound h i = value_applied c p (prefix.Range b) as' sound h i
application_known c p (prefix.Constant t x) as' sound h i = value_applied c p (prefix.Constant t x) as' sound h i
application_known c p (prefix.Value s) as' sound h i = value_applied c p (prefix.Value s) as' sound h i

suffix_known : (c : Scope) (v : Want) (p : Place) (f : Prefix) (s : Suffix) → IsSound c.world → IsGiven c.world v → PrefixKnown c.world f → SuffixKnown c s → PrefixKnown c.world (suffix_prefix c v p f s)
suffix_known c v p f (parts.selected at) sound g h i = selection_known c p f at sound h i
suffix_known c v p f (parts.attribute t at) sound g h i = attribute_known c v p f (c.place t) (word_of (c.name at)) sound (wanted_there c.world v sound g) h
suffix_known c v p f (parts.range_attribute t) sound g h i = range_known c p f sound h
suffix_known c v p f (parts.qualified t as') sound g h i = qualification_known c p f (c.place t) as' sound h i
suffix_known c v p f (parts.applied as') sound g h i = application_known c p f as' sound h i

suffixes_known : (c : Scope) (v : Want) (p : Place) (f : Prefix) (ss : List Suffix) → IsSound c.world → IsGiven c.world v → PrefixKnown c.world f → SuffixesKnown c ss → PrefixKnown c.world (suffixes_prefix c v p f ss)
suffixes_known c v p f [] sound g h i = h
suffixes_known c v p f (s ∷ ss) sound g h i = suffixes_known c v p (suffix_prefix c v p f s) ss sound g (suffix_known c v p f s sound g h i.0) i.1

-- ---- forms

abbrev FormKnown : Scope → Form → Type 0
FormKnown c (parts.number n) = Unit {0}
FormKnown c parts.null = Unit {0}
FormKnown c (parts.name i ss) = IsStated c.world (entity_of c i) × SuffixesKnown c ss
FormKnown c (parts.group as') = ArgsKnown c.world as'
FormKnown c (parts.unary o a) = OperandKnown c.world a
FormKnown c (parts.binary t o a b) = OperandKnown c.world a × OperandKnown c.world b
FormKnown c (parts.member b a g) = OperandKnown c.world a × RangeKnown c.world g
FormKnown c (parts.choose as' e) = ArmsKnown c.world as' × MaybeKnown c.world e
FormKnown c (parts.quantified q at g f) = RangeKnown c.world g × ((k : ℕ) → IsThere c.world k → OperandKnown c.world (f k))

hint_there : (w : World) (h : Hint) → IsSound w → KindThere w (value_kind w h)
hint_there w hint.Nothing sound = tt
hint_there w (hint.Subtype k) sound = tt
hint_there w (hint.Routine q) sound = tt
hint_there w (hint.Value k) sound = kind_there w k sound
hint_there w (hint.Function k) sound = tt

unary_there : (w : World) (o : UnaryOperator) (k : Option ℕ) → IsSound w → KindThere w k → KindThere w (unary_kind o k)
unary_there w unary'.Not k sound h = boolean_there w sound
unary_there w unary'.Plus k sound h = h
unary_there w unary'.Minus k sound h = h
unary_there w unary'.Abs k sound h = h

binary_there : (w : World) (f : Family) (j k : Option ℕ) → IsSound w → KindThere w j → KindThere w k → KindThere w (binary_kind f j k)
binary_there w (family.Arithmetic o) j k sound h i = first_kind_there w j k h i
binary_there w (family.Compare r) j k sound h i = boolean_there w sound
binary_there w (family.Connect o) j k sound h i = boolean_there w sound
binary_there w family.Power j k sound h i = h

form_kind_there : (c : Scope) (f : Form) → IsSound c.world → FormKnown c f → KindThere c.world (form_kind c f)
form_kind_there c (parts.number n) sound h = tt
form_kind_there c parts.null sound h = tt
form_kind_there c (parts.name i ss) sound h = hint_there c.world (called_hint c.world (suffixes_hint c (entity_hint (entity_of c i)) ss)) sound
form_kind_there c (parts.group as') sound h = operand_kind_there c.world (only_operand as') (only_known c.world as' h)
form_kind_there c (parts.unary o a) sound h = unary_there c.world o a.kind sound h.kind
form_kind_there c (parts.binary t o a b) sound h = binary_there c.world (family_of o) a.kind b.kind sound h.0.kind h.1.kind
form_kind_there c (parts.member b a g) sound h = boolean_there c.world sound
form_kind_there c (parts.choose as' e) sound h = branches_kind_there c.world as' e h.0 h.1
form_kind_there c (parts.quantified q at g f) sound h = boolean_there c.world sound

outer_given : (c : Scope) (f : Family) (v : Want) → IsSound c.world → IsGiven c.world v → IsGiven c.world (outer_want c f v)
outer_given c (family.Arithmetic o) v sound h = weaker_given c.world v sound h
outer_given c (family.Connect k) v sound h = weaker_given c.world v sound h
outer_given c (family.Compare r) v sound h = tt
outer_given c family.Power v sound h = tt

left_given : (c : Scope) (f : Family) (v : Want) (b : Operand) → IsSound c.world → IsGiven c.world v → OperandKnown c.world b → IsGiven c.world (left_want c f v b)
left_given c family.Power v b sound g h = weaker_given c.world v sound g
left_given c (family.Arithmetic o) v b sound g h = want_given c.world (outer_want c (family.Arithmetic o) v) b.kind (outer_given c (family.Arithmetic o) v sound g) h.kind
left_given c (family.Connect k) v b sound g h = want_given c.world (outer_want c (family.Connect k) v) b.kind (outer_given c (family.Connect k) v sound g) h.kind
left_given c (family.Compare r) v b sound g h = want_given c.world want.Free b.kind tt h.kind

right_given : (c : Scope) (f : Family) (v : Want) (a : Operand) → IsSound c.world → IsGiven c.world v → OperandKnown c.world a → IsGiven c.world (right_want c f v a)
right_given c family.Power v a sound g h = integer_there c.world sound
right_given c (family.Arithmetic o) v a sound g h = want_given c.world (outer_want c (family.Arithmetic o) v) a.kind (outer_given c (family.Arithmetic o) v sound g) h.kind
right_given c (family.Connect k) v a sound g h = want_given c.world (outer_want c (family.Connect k) v) a.kind (outer_given c (family.Connect k) v sound g) h.kind
right_given c (family.Compare r) v a sound g h = want_given c.world want.Free a.kind tt h.kind

operator_known : (c : Scope) (v : Want) (p o : Place) (f : Family) (a b : Operand) → IsSound c.world → IsGiven c.world v → OperandKnown c.world a → OperandKnown c.world b → IsKnown c.world (binary_seen c v p o f a b)
operator_known c v p o f a b sound g h i =
    binary_known c.world sound.standard v p o (place_of c a) (place_of c b) f (seen_of c a (left_want c f v b)) (seen_of c b (right_want c f v a))
    (operand_known c a (left_want c f v b) sound h (left_given c f v b sound g i)) (operand_known c b (right_want c f v a) sound i (right_given c f v a sound g h))

range_kind_there : (w : World) (g : parts.Range) → RangeKnown w g → KindThere w (range_kind g)
range_kind_there w g h = first_kind_there w g.low.kind (operand_kind g.high) h.0.kind (operand_kind_there w g.high h.1)

form_known : (c : Scope) (p : Place) (f : Form) (v : Want) → IsSound c.world → IsGiven c.world v → FormKnown c f → PrefixKnown c.world (form_prefix c p f v)
form_known c p (parts.number n) v sound g h = tt
form_known c p parts.null v sound g h = tt
form_known c p (parts.name i ss) v sound g h = suffixes_known c v p (entity_prefix c p (entity_of c i)) ss sound g (entity_known c p (entity_of c i) sound h.0) h.1
form_known c p (parts.group as') v sound g h = grouped_known c p v as' (only_operand as') sound g h (only_known c.world as' h)
form_known c p (parts.unary o a) v sound g h =
    unary_known c.world sound.standard p (place_of c a) o (seen_of c a (weaker c.world v)) (operand_known c a (weaker c.world v) sound h (weaker_given c.world v sound g))
form_known c p (parts.binary t o a b) v sound g h = operator_known c v p (c.place t) (family_of o) a b sound g h.0 h.1
form_known c p (parts.member b a r) v sound g h = member_known c p (not b) a r (range_kind r) sound h.0 h.1 (range_kind_there c.world r h.1)
form_known c p (parts.choose as' e) v sound g h = if_known c p v (branches_kind as' e) as' e sound g (branches_kind_there c.world as' e h.0 h.1) h.0 h.1
form_known c p (parts.quantified q at r f) v sound g h = quantified_known c p q at r f sound h.0 h.1

operand_form : (c : Scope) (at : ℕ) (f : Form) → IsSound c.world → FormKnown c f → OperandKnown c.world (operand c at f)
operand_form c at f sound h = record { kind = form_kind_there c f sound h; prefix = λ v g. form_known c (c.place at) f v sound g h }

-- ---- all trees

mutual
  pub read_known : (c : Scope) (e : tree.Expr) → IsSound c.world → IsDeclared c e → OperandKnown c.world (read c e)
  read_known c (tree.at s n) sound h = operand_form c s.from (form c n) sound (node_known c n sound h)

  node_known : (c : Scope) (n : tree.Node) → IsSound c.world → NodeDeclared c n → FormKnown c (form c n)
  node_known c (tree.number n) sound h = tt
  node_known c tree.null sound h = tt
  node_known c (tree.name m) sound h = named_known c m sound h
  node_known c (tree.group as') sound h = args_known c as' sound h
  node_known c (tree.unary s o a) sound h = read_known c a sound h
  node_known c (tree.binary s o a b) sound h = (read_known c a sound h.0, read_known c b sound h.1)
  node_known c (tree.member s b a g) sound h = (read_known c a sound h.0, all_range_known c g sound h.1)

  named_known : (c : Scope) (m : tree.Name) → IsSound c.world → NameDeclared c m → FormKnown c (name_form c m)
  named_known c (tree.named s i ss) sound h = (h.0, all_suffixes_known c ss sound h.1)

  maybe_known : (c : Scope) (e : tree.MaybeExpr) → IsSound c.world → MaybeDeclared c e → MaybeKnown c.world (maybe c e)
  maybe_known c tree.no_expr sound h = tt
  maybe_known c (tree.an_expr e) sound h = read_known c e sound h

  all_range_known : (c : Scope) (g : tree.Range) → IsSound c.world → RangeDeclared c g → RangeKnown c.world (range c g)
  all_range_known c (tree.range l h) sound i = (read_known c l sound i.0, maybe_known c h sound i.1)

  all_suffixes_known : (c : Scope) (ss : tree.Suffixes) → IsSound c.world → SuffixesDeclared c ss → SuffixesKnown c (suffixes c ss)
  all_suffixes_known c tree.no_suffixes sound h = tt
  all_suffixes_known c (tree.suffixes s ss) sound h = (tree_suffix_known c s sound h.0, all_suffixes_known c ss sound h.1)

  tree_suffix_known : (c : Scope) (s : tree.Suffix) → IsSound c.world → SuffixDeclared c s → SuffixKnown c (suffix c s)
  tree_suffix_known c (tree.selected s) sound h = h
  tree_suffix_known c (tree.ticked s a) sound h = tick_known c s.from a sound h
  tree_suffix_known c (tree.applied as') sound h = args_known c as' sound h

  tick_known : (c : Scope) (t : ℕ) (a : tree.Attribute) → IsSound c.world → AttributeDeclared c a → SuffixKnown c (tick c t a)
  tick_known c t (tree.attribute s) sound h = tt
  tick_known c t tree.range_attribute sound h = tt
  tick_known c t (tree.qualified as') sound h = args_known c as' sound h

  args_known : (c : Scope) (as' : tree.Args) → IsSound c.world → ArgsDeclared c as' → ArgsKnown c.world (args c as')
  args_known c tree.no_args sound h = tt
  args_known c (tree.args (tree.arg s k v) as') sound h = ((choice_known c k sound h.0.0, tree_value_known c v sound h.0.1), args_known c as' sound h.1)

  choice_known : (c : Scope) (k : tree.ArgChoice) → IsSound c.world → ChoiceDeclared c k → ChoiceKnown c.world (choice c k)
  choice_known c tree.other_parts sound h = tt
  choice_known c (tree.part i) sound h = item_known c i sound h
  choice_known c (tree.parts l k) sound h = (read_known c l sound h.0, read_known c k sound h.1)

  tree_value_known : (c : Scope) (v : tree.Value) → IsSound c.world → ValueDeclared c v → MaybeKnown c.world (value c v)
  tree_value_known c tree.no_value sound h = tt
  tree_value_known c (tree.value i) sound h = item_known c i sound h

  pub item_known : (c : Scope) (i : tree.Item) → IsSound c.world → ItemDeclared c i → OperandKnown c.world (item c i)
  item_known c (tree.item s f) sound h = item_form_known c s.from f sound h

  item_form_known : (c : Scope) (at : ℕ) (f : tree.Form) → IsSound c.world → FormDeclared c f → OperandKnown c.world (item_form c at f)
  item_form_known c at (tree.plain e) sound h = read_known c e sound h
  item_form_known c at (tree.choose as' e) sound h = operand_form c at (parts.choose (arms c as') (maybe c e)) sound (arms_known c as' sound h.0, maybe_known c e sound h.1)
  item_form_known c at (tree.quantified q s g e) sound h =
      operand_form c at (parts.quantified q s.from (range c g) (λ k. read (with_index c s.from k) e)) sound (all_range_known c g sound h.0, (λ k i. read_known (with_index c s.from k) e sound (h.1 k i)))

  arms_known : (c : Scope) (as' : tree.Arms) → IsSound c.world → ArmsDeclared c as' → ArmsKnown c.world (arms c as')
  arms_known c tree.no_arms sound h = tt
  arms_known c (tree.arm x g as') sound h = ((read_known c x sound h.0.0, read_known c g sound h.0.1), arms_known c as' sound h.1)

-- ---- what is asked of them

pub expression_known : (c : Scope) (w : Want) → IsSound c.world → IsGiven c.world w → (e : tree.Expr) → IsDeclared c e → IsKnown c.world (seen_of c (read c e) w)
expression_known c w sound g e h = operand_known c (read c e) w sound (read_known c e sound h) g

pub item_seen_known : (c : Scope) (w : Want) → IsSound c.world → IsGiven c.world w → (i : tree.Item) → ItemDeclared c i → IsKnown c.world (seen_of c (item c i) w)
item_seen_known c w sound g i h = operand_known c (item c i) w sound (item_known c i sound h) g
