-- An accepted expression obeys the rules.
use Rattle.std.proofs.Common.{◌≡◌, subst, ℕ, ℤ}
use Rattle.ada_text.specs.declared.token.Span.{Span}
use Rattle.ada_values.specs.declared.place.Place.{Place}
use Rattle.syntax_view.specs.Trees as tree
use Rattle.typed_units.specs.declared.expressions.Expr.{Expr}
use Rattle.type_base.specs.Scope.{Scope}
use Rattle.type_base.specs.declared.seen.Seen.{Seen}
use Rattle.type_base.specs.declared.seen.Seen.TheVariants as seen
use Rattle.type_base.specs.declared.seen.Want.{Want}
use Rattle.type_base.specs.Results.{moved}
use Rattle.typing_rules.specs.declared.prefix.Prefix.TheVariants as prefix
use Rattle.typing_rules.specs.Aggregates.{aggregate, grouped}
use Rattle.typing_rules.specs.Lookups.{with_index}
use Rattle.typing_rules.specs.Names.{only_operand}
use Rattle.typing_rules.specs.Reading as reading
use Rattle.typing_rules.specs.Reading.{args, item, item_seen}
use Rattle.typing_rules.specs.Values.{seen_of}
use Rattle.typing_relations.specs.Demanded.{IsResult}
use Rattle.typing_relations.specs.Obeys as rule
use Rattle.typing_relations.specs.Obeys.{Aggregates, Has, HasNumber, HasType, ItemHas, Stands}
use Rattle.typing_relations.proofs.Accepting.{Accepts, Allows, accepts_both, accepts_map, allows_map, result}
use Rattle.typing_relations.proofs.Aggregated.{aggregate_accepts}
use Rattle.typing_relations.proofs.Forms.{ArmsGood, MaybeGood, RangeGood, binary_stands, if_stands, member_stands, quantified_stands, unary_stands}
use Rattle.typing_relations.proofs.Names.{AttributeGood, SuffixGood, SuffixesGood, name_follows}
use Rattle.typing_relations.proofs.Parts.{ArgGood, ArgsGood, ChoiceGood, ItemGood, ValueGood, item_accepts, only_cases, ExprGood, expr_accepts}

-- ---- parentheses

moved_with : (p : Place) (s : Seen) (P : Seen → Type 0) → Accepts s P → Accepts (moved p s) (λ v. P s)
moved_with p (seen.Refused f) P h = tt
moved_with p seen.Unknown P h = tt
moved_with p (seen.Number n) P h = h
moved_with p (seen.Typed t x) P h = h

group_stands : (c : Scope) (w : Want) (s : Span) (as' : tree.Args) → ArgsGood c as' → Accepts (grouped c (c.place s.from) w (args c as') (only_operand (args c as'))) (λ v. Stands c w (tree.at s (tree.group as')) (prefix.Value v))
group_stands c w s as' h =
    let p = c.place s.from in
    let P : Seen → Type 0 = λ v. Stands c w (tree.at s (tree.group as')) (prefix.Value v) in
    let a = aggregate c p w (args c as') in
    only_cases c as' (λ o. Accepts (grouped c p w (args c as') o) P) h
    (λ e. accepts_map (Aggregates c p w as') P (λ v z. rule.aggregate_is c w s as' v e z) a (aggregate_accepts c w p as' h))
    (λ i only good.
    let u = seen_of c (item c i) w in
    accepts_both (λ v. ItemHas c w i u) (IsResult (moved p u)) P (λ v y z. rule.in_parentheses c w s as' i u v only y z) (moved p u) (moved_with p u (ItemHas c w i) (item_accepts c i w good)) (result (moved p u)))

plain_stands : (c : Scope) (s : Span) (e : tree.Expr) (w : Want) → ExprGood c e → Allows ((item c (tree.item s (tree.plain e))).prefix w) (rule.ItemStands c w (tree.item s (tree.plain e)))
plain_stands c s e w h = allows_map (Stands c w e) (rule.ItemStands c w (tree.item s (tree.plain e))) (λ f i. rule.expression c w s e f i) ((reading.read c e).prefix w) (h w)

-- ---- all trees

mutual
  pub expr_good : (c : Scope) (e : tree.Expr) → ExprGood c e
  expr_good c (tree.at s (tree.number n)) w = rule.literal c w s n
  expr_good c (tree.at s tree.null) w = tt
  expr_good c (tree.at s (tree.name (tree.named t i ss))) w = name_follows c w s t i ss (suffixes_good c ss)
  expr_good c (tree.at s (tree.group as')) w = group_stands c w s as' (args_good c as')
  expr_good c (tree.at s (tree.unary q o a)) w = unary_stands c w s q o a (expr_good c a)
  expr_good c (tree.at s (tree.binary q o a b)) w = binary_stands c w s q o a b (expr_good c a) (expr_good c b)
  expr_good c (tree.at s (tree.member q b a g)) w = member_stands c w s q b a g (expr_good c a) (range_good c g)

  maybe_good : (c : Scope) (e : tree.MaybeExpr) → MaybeGood c e
  maybe_good c tree.no_expr = tt
  maybe_good c (tree.an_expr e) = expr_good c e

  pub range_good : (c : Scope) (g : tree.Range) → RangeGood c g
  range_good c (tree.range l h) = (expr_good c l, maybe_good c h)

  pub suffixes_good : (c : Scope) (ss : tree.Suffixes) → SuffixesGood c ss
  suffixes_good c tree.no_suffixes = tt
  suffixes_good c (tree.suffixes s ss) = (suffix_good c s, suffixes_good c ss)

  suffix_good : (c : Scope) (s : tree.Suffix) → SuffixGood c s
  suffix_good c (tree.selected s) = tt
  suffix_good c (tree.ticked s a) = attribute_good c a
  suffix_good c (tree.applied as') = args_good c as'

  attribute_good : (c : Scope) (a : tree.Attribute) → AttributeGood c a
  attribute_good c (tree.attribute s) = tt
  attribute_good c tree.range_attribute = tt
  attribute_good c (tree.qualified as') = args_good c as'

  pub args_good : (c : Scope) (as' : tree.Args) → ArgsGood c as'
  args_good c tree.no_args = tt
  args_good c (tree.args a as') = (arg_good c a, args_good c as')

  arg_good : (c : Scope) (a : tree.Arg) → ArgGood c a
  arg_good c (tree.arg s h v) = (choice_good c h, value_good c v)

  choice_good : (c : Scope) (h : tree.ArgChoice) → ChoiceGood c h
  choice_good c tree.other_parts = tt
  choice_good c (tree.part i) = item_good c i
  choice_good c (tree.parts l h) = (expr_good c l, expr_good c h)

  value_good : (c : Scope) (v : tree.Value) → ValueGood c v
  value_good c tree.no_value = tt
  value_good c (tree.value i) = item_good c i

  pub item_good : (c : Scope) (i : tree.Item) → ItemGood c i
  item_good c (tree.item s (tree.plain e)) w = plain_stands c s e w (expr_good c e)
  item_good c (tree.item s (tree.choose as' e)) w = if_stands c w s as' e (arms_good c as') (maybe_good c e)
  item_good c (tree.item s (tree.quantified q i g e)) w = quantified_stands c w s i q g e (range_good c g) (λ k. expr_good (with_index c i.from k) e)

  arms_good : (c : Scope) (as' : tree.Arms) → ArmsGood c as'
  arms_good c tree.no_arms = tt
  arms_good c (tree.arm x g as') = ((expr_good c x, expr_good c g), arms_good c as')

-- ---- what is asked of them

pub type_obeys : (c : Scope) (w : Want) (e : tree.Expr) (t : ℕ) (x : Expr) → reading.seen c w e ≡ seen.Typed t x → HasType c w e t x
type_obeys c w e t x h = subst (λ s. Accepts s (Has c w e)) h (expr_accepts c e w (expr_good c e))

pub number_obeys : (c : Scope) (w : Want) (e : tree.Expr) (n : ℤ) → reading.seen c w e ≡ seen.Number n → HasNumber c w e n
number_obeys c w e n h = subst (λ s. Accepts s (Has c w e)) h (expr_accepts c e w (expr_good c e))

pub item_type_obeys : (c : Scope) (w : Want) (i : tree.Item) (t : ℕ) (x : Expr) → item_seen c w i ≡ seen.Typed t x → ItemHas c w i (seen.Typed t x)
item_type_obeys c w i t x h = subst (λ s. Accepts s (ItemHas c w i)) h (item_accepts c i w (item_good c i))

pub item_number_obeys : (c : Scope) (w : Want) (i : tree.Item) (n : ℤ) → item_seen c w i ≡ seen.Number n → ItemHas c w i (seen.Number n)
item_number_obeys c w i n h = subst (λ s. Accepts s (ItemHas c w i)) h (item_accepts c i w (item_good c i))
