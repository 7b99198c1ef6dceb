-- What is refused of an expression is the first of all its broken rules.
use Rattle.std.proofs.Common.{refl, sym, ◌∙◌, ap}
use Rattle.std.specs.Prelude.{ℕ, not}
use Rattle.ada_values.specs.declared.place.Place.{Place}
use Rattle.front_codes.specs.declared.codes.Code.{Code}
use Rattle.front_codes.specs.declared.codes.Code.TheVariants as code
use Rattle.syntax_view.specs.Trees as tree
use Rattle.type_base.specs.Scope.{Scope}
use Rattle.type_base.specs.declared.seen.Family.{Family}
use Rattle.type_base.specs.declared.seen.Seen.TheVariants as seen
use Rattle.type_base.specs.declared.seen.Want.{Want}
use Rattle.type_base.specs.declared.seen.Want.TheVariants as want
use Rattle.type_base.specs.Faults.{First, fault, fault_of}
use Rattle.type_base.specs.Operators.{family_of}
use Rattle.type_base.proofs.Firsts.{first_listed, merge}
use Rattle.type_base.proofs.OperatorFirsts.{binary_first, unary_first}
use Rattle.typing_rules.specs.declared.prefix.Prefix.{Prefix}
use Rattle.typing_rules.specs.declared.prefix.Prefix.TheVariants as prefix
use Rattle.typing_rules.specs.Calls.{variable}
use Rattle.typing_rules.specs.Faults.{faults_of, form_faults, operator_faults, reach_faults}
use Rattle.typing_rules.specs.Fits.{found_fault}
use Rattle.typing_rules.specs.Forms.{binary_seen, form_prefix, left_want, right_want}
use Rattle.typing_rules.specs.Kinds.{branches_kind, range_kind}
use Rattle.typing_rules.specs.Lookups.{with_index}
use Rattle.typing_rules.specs.Names.{only_operand}
use Rattle.typing_rules.specs.Parts as parts
use Rattle.typing_rules.specs.Parts.{Form, Operand}
use Rattle.typing_rules.specs.Ranges.{reach_of, weaker}
use Rattle.typing_rules.specs.Reading.{args, arms, call_made, call_seen, called, choice, form, item, item_form, item_seen, maybe, name_form, name_seen, operand, range, read, suffix, suffixes, target_seen, tick, value}
use Rattle.typing_rules.specs.Values.{place_of, prefix_fault, seen_of}
use Rattle.typing_laws.specs.Broken.{call_faults, item_faults, name_faults, range_faults, range_in, target_faults}
use Rattle.typing_laws.proofs.Merging.{merge_itself}
use Rattle.typing_laws.proofs.Operands.{ArgsFirst, ArmsFirst, ChoiceFirst, FormFirst, IsFirst, Keeps, MaybeFirst, RangeFirst, SuffixFirst, SuffixesFirst, operand_first, own_first, with_found_is}
use Rattle.typing_laws.proofs.Arguments.{variable_keeps}
use Rattle.typing_laws.proofs.Aggregated.{grouped_first}
use Rattle.typing_laws.proofs.Branches.{if_first, quantified_first}
use Rattle.typing_laws.proofs.Indexing.{only_first}
use Rattle.typing_laws.proofs.Reaches.{member_first, reach_first, reach_in_first}
use Rattle.typing_laws.proofs.Suffixed.{name_first}

-- ---- a form of parts of which this is so

operator_first : (c : Scope) (p : Place) (t : ℕ) (w : Want) (f : Family) (a b : Operand) → IsFirst a → IsFirst b → First (fault_of (binary_seen c w p (c.place t) f a b)) (operator_faults c p w f a b)
operator_first c p t w f a b h i =
    binary_first c.world w p (c.place t) (place_of c a) (place_of c b) f (seen_of c a (left_want c f w b)) (seen_of c b (right_want c f w a)) (faults_of c a (left_want c f w b)) (faults_of c b (right_want c f w a))
    (operand_first c a (left_want c f w b) h) (operand_first c b (right_want c f w a) i)

pub form_first : (c : Scope) (p : Place) (f : Form) (w : Want) → FormFirst f → First (prefix_fault (form_prefix c p f w)) (form_faults c p f w)
form_first c p (parts.number n) w h = refl
form_first c p parts.null w h = first_listed (fault code.LeftOut p)
form_first c p (parts.name i ss) w h = name_first c w p i ss h
form_first c p (parts.group as') w h = grouped_first c p w as' (only_operand as') h (only_first as' h)
form_first c p (parts.unary o a) w h =
    unary_first c.world p (place_of c a) o (seen_of c a (weaker c.world w)) (faults_of c a (weaker c.world w)) (operand_first c a (weaker c.world w) h)
form_first c p (parts.binary t o a b) w h = operator_first c p t w (family_of o) a b h.0 h.1
form_first c p (parts.member b a g) w h = member_first c p (not b) a g (range_kind g) h.0 h.1
form_first c p (parts.choose as' e) w h = if_first c p w (branches_kind as' e) as' e h.0 h.1
form_first c p (parts.quantified q at g f) w h = quantified_first c p q at g f h.0 h.1

pub operand_of_first : (c : Scope) (at : ℕ) (f : Form) → FormFirst f → IsFirst (operand c at f)
operand_of_first c at f h w = form_first c (c.place at) f w h

-- ---- all trees

mutual
  pub read_first : (c : Scope) (e : tree.Expr) → IsFirst (read c e)
  read_first c (tree.at s n) w = form_first c (c.place s.from) (form c n) w (node_first c n)

  node_first : (c : Scope) (n : tree.Node) → FormFirst (form c n)
  node_first c (tree.number n) = tt
  node_first c tree.null = tt
  node_first c (tree.name m) = named_first c m
  node_first c (tree.group as') = args_first c as'
  node_first c (tree.unary s o a) = read_first c a
  node_first c (tree.binary s o a b) = (read_first c a, read_first c b)
  node_first c (tree.member s b a g) = (read_first c a, range_first c g)

  named_first : (c : Scope) (m : tree.Name) → FormFirst (name_form c m)
  named_first c (tree.named s i ss) = all_suffixes_first c ss

  maybe_first : (c : Scope) (e : tree.MaybeExpr) → MaybeFirst (maybe c e)
  maybe_first c tree.no_expr = tt
  maybe_first c (tree.an_expr e) = read_first c e

  pub range_first : (c : Scope) (g : tree.Range) → RangeFirst (range c g)
  range_first c (tree.range l h) = (read_first c l, maybe_first c h)

  pub all_suffixes_first : (c : Scope) (ss : tree.Suffixes) → SuffixesFirst (suffixes c ss)
  all_suffixes_first c tree.no_suffixes = tt
  all_suffixes_first c (tree.suffixes s ss) = (suffix_first c s, all_suffixes_first c ss)

  suffix_first : (c : Scope) (s : tree.Suffix) → SuffixFirst (suffix c s)
  suffix_first c (tree.selected s) = tt
  suffix_first c (tree.ticked s a) = tick_first c s.from a
  suffix_first c (tree.applied as') = args_first c as'

  tick_first : (c : Scope) (t : ℕ) (a : tree.Attribute) → SuffixFirst (tick c t a)
  tick_first c t (tree.attribute s) = tt
  tick_first c t tree.range_attribute = tt
  tick_first c t (tree.qualified as') = args_first c as'

  pub args_first : (c : Scope) (as' : tree.Args) → ArgsFirst (args c as')
  args_first c tree.no_args = tt
  args_first c (tree.args (tree.arg s h v) as') = ((choice_first c h, value_first c v), args_first c as')

  choice_first : (c : Scope) (h : tree.ArgChoice) → ChoiceFirst (choice c h)
  choice_first c tree.other_parts = tt
  choice_first c (tree.part i) = item_first c i
  choice_first c (tree.parts l h) = (read_first c l, read_first c h)

  value_first : (c : Scope) (v : tree.Value) → MaybeFirst (value c v)
  value_first c tree.no_value = tt
  value_first c (tree.value i) = item_first c i

  pub item_first : (c : Scope) (i : tree.Item) → IsFirst (item c i)
  item_first c (tree.item s f) w = item_form_first c s.from f w

  item_form_first : (c : Scope) (at : ℕ) (f : tree.Form) → IsFirst (item_form c at f)
  item_form_first c at (tree.plain e) w = read_first c e w
  item_form_first c at (tree.choose as' e) w = operand_of_first c at (parts.choose (arms c as') (maybe c e)) (arms_first c as', maybe_first c e) w
  item_form_first c at (tree.quantified q s g e) w =
      operand_of_first c at (parts.quantified q s.from (range c g) (λ k. read (with_index c s.from k) e)) (range_first c g, (λ k. read_first (with_index c s.from k) e)) w

  arms_first : (c : Scope) (as' : tree.Arms) → ArmsFirst (arms c as')
  arms_first c tree.no_arms = tt
  arms_first c (tree.arm x g as') = ((read_first c x, read_first c g), arms_first c as')

-- ---- what is asked of them

pub expression_first : (c : Scope) (w : Want) (e : tree.Expr) → First (fault_of (seen_of c (read c e) w)) (faults_of c (read c e) w)
expression_first c w e = operand_first c (read c e) w (read_first c e)

pub item_seen_first : (c : Scope) (w : Want) (i : tree.Item) → First (fault_of (item_seen c w i)) (item_faults c w i)
item_seen_first c w i = operand_first c (item c i) w (item_first c i)

pub name_seen_first : (c : Scope) (w : Want) (n : tree.Name) → First (prefix_fault (name_seen c w n)) (name_faults c w n)
name_seen_first c w (tree.named s i ss) = name_first c w (c.place s.from) i.from (suffixes c ss) (all_suffixes_first c ss)

pub target_first : (c : Scope) (n : tree.Name) → First (found_fault (target_seen c n)) (target_faults c n)
target_first c (tree.named s i ss) =
    let n = tree.named s i ss in
    let f = name_seen c want.Free n in
    own_first f (found_fault (variable c code.L8 (c.place s.from) f)) (name_faults c want.Free n) (variable_keeps c code.L8 (c.place s.from) f) (name_seen_first c want.Free n)

called_keeps : (c : Scope) (p : Place) (f : Prefix) → Keeps f (found_fault (called c p f))
called_keeps c p prefix.Package = tt
called_keeps c p (prefix.Subtype k) = tt
called_keeps c p (prefix.Routine q) = tt
called_keeps c p (prefix.Called q as') = ap (merge (found_fault as')) (with_found_is (call_made q) as') ∙ merge_itself (found_fault as') ∙ sym (with_found_is (call_made q) as')
called_keeps c p (prefix.Mapping m t k) = tt
called_keeps c p (prefix.Range b) = tt
called_keeps c p (prefix.Constant t x) = tt
called_keeps c p (prefix.Part g) = tt
called_keeps c p (prefix.Value (seen.Refused f)) = refl
called_keeps c p (prefix.Value seen.Unknown) = tt
called_keeps c p (prefix.Value (seen.Number n)) = tt
called_keeps c p (prefix.Value (seen.Typed t x)) = tt

pub call_first : (c : Scope) (n : tree.Name) → First (found_fault (call_seen c n)) (call_faults c n)
call_first c (tree.named s i ss) =
    let n = tree.named s i ss in
    let f = name_seen c want.Free n in
    own_first f (found_fault (called c (c.place s.from) f)) (name_faults c want.Free n) (called_keeps c (c.place s.from) f) (name_seen_first c want.Free n)

pub range_seen_first : (c : Scope) (r : Code) (w : Want) (t : ℕ) (g : tree.Range) → First (found_fault (range_in c r w t g)) (range_faults c r w t g)
range_seen_first c r w t g =
    reach_in_first c r t (range c g) (reach_of c r w (range c g)) (reach_faults c r w (range c g)) (reach_first c r w (range c g) (range_first c g))
