-- The events of expressions and names (Ada RM 4).
use Rattle.std.specs.Prelude.{ℕ, Bool, true, false, not, ◌&&◌, List, Option, Some, None}
use Rattle.ada_text.specs.declared.token.Span.{Span}
use Rattle.name_library.specs.declared.events.Event.{Event}
use Rattle.name_library.specs.declared.events.Event.TheVariants as event
use Rattle.name_library.specs.declared.events.Kind.TheVariants as kind
use Rattle.name_library.specs.declared.events.Manner.{Manner}
use Rattle.name_library.specs.declared.events.Manner.TheVariants as manner
use Rattle.name_library.specs.declared.events.Scope.TheVariants as scope
use Rattle.name_numbers.specs.Numbers.{word_of}
use Rattle.name_uses.specs.Asked.{before_arrow, have_range, is_attribute, is_selector}
use Rattle.name_uses.specs.Told.{ident, told, left_out, opened}
use Rattle.name_uses.specs.declared.places.Brackets.{Brackets}
use Rattle.name_uses.specs.declared.places.Brackets.TheVariants as brackets
use Rattle.name_uses.specs.declared.places.Within.{Within}
use Rattle.name_uses.specs.declared.places.Within.TheVariants as within
use Rattle.syntax_view.specs.Trees.{Expr, at, Node, number, null, name, group, unary, binary, member, MaybeExpr, no_expr, an_expr, Range, range, Name, named, Suffixes, no_suffixes, suffixes, Suffix, selected, ticked, applied, Attribute, attribute, range_attribute, qualified, Args, no_args, args, Arg, arg, ArgChoice, other_parts, part, parts, Value, no_value, value, Item, item, Form, plain, choose, quantified, Arms, no_arms, arm}

abbrev pub manner_of : Within → Manner
manner_of within.Text = manner.Plain
manner_of within.Contract = manner.Aspect
manner_of within.Global = manner.Aspect

abbrev pub is_global : Within → Bool
is_global within.Text = false
is_global within.Contract = false
is_global within.Global = true

-- in Global what stands before `=>` is the mode of what follows (SPARK RM 6.1.4)
abbrev pub group_in : Within → Brackets
group_in within.Text = brackets.Aggregate
group_in within.Contract = brackets.Aggregate
group_in within.Global = brackets.AfterName

-- an identifier alone before `=>`: a component's or an index, or else a formal's name
abbrev pub sole_onto : (ℕ → ℕ) → Brackets → List Event → Span → List Event
sole_onto n brackets.Aggregate xs f = told xs (event.Name (ident n f) manner.Choice)
sole_onto n brackets.AfterName xs f = xs

-- the events with an identifier alone before `=>`; where there is none, those with another choice
abbrev pub sole_else : (ℕ → ℕ) → Brackets → List Event → Option Span → List Event → List Event
sole_else n b xs (Some f) ys = sole_onto n b xs f
sole_else n b xs None ys = ys

-- the identifier after a point, where identifiers and points alone stand before
abbrev pub selector_onto : (ℕ → ℕ) → Bool → List Event → Span → List Event
selector_onto n true xs i = told xs (event.Selects (ident n i))
selector_onto n false xs i = xs

-- `n` numbers the names, and `w` is where the expression stands
abbrev mutual
  pub onto : (ℕ → ℕ) → Within → List Event → Expr → List Event
  onto n w xs (at s e) = node_onto n w xs s e

  pub node_onto : (ℕ → ℕ) → Within → List Event → Span → Node → List Event
  node_onto n w xs s (number i) = xs
  node_onto n w xs s null = left_out (not (is_global w)) s.from xs
  node_onto n w xs s (name m) = name_onto n w false xs m
  node_onto n w xs s (group as') = args_onto n w (group_in w) xs as'
  node_onto n w xs s (unary p o a) = onto n w xs a
  node_onto n w xs s (binary p o a b) = onto n w (onto n w xs a) b
  node_onto n w xs s (member p b a r) = range_onto n w (onto n w xs a) r

  pub maybe_onto : (ℕ → ℕ) → Within → List Event → MaybeExpr → List Event
  maybe_onto n w xs no_expr = xs
  maybe_onto n w xs (an_expr e) = onto n w xs e

  pub range_onto : (ℕ → ℕ) → Within → List Event → Range → List Event
  range_onto n w xs (range l h) = maybe_onto n w (onto n w xs l) h

  -- with true where an index constraint may follow, which is no slice (Ada RM 3.6.1)
  pub name_onto : (ℕ → ℕ) → Within → Bool → List Event → Name → List Event
  name_onto n w d xs (named s f ss) = suffixes_onto n w d s.from true (told xs (event.Name (ident n f) (manner_of w))) ss

  -- what follows a name that begins at a byte, with true where so far only selectors do
  pub suffixes_onto : (ℕ → ℕ) → Within → Bool → ℕ → Bool → List Event → Suffixes → List Event
  suffixes_onto n w d a b xs no_suffixes = xs
  suffixes_onto n w d a b xs (suffixes s ss) = suffixes_onto n w d a (b && is_selector s) (suffix_onto n w d a b xs s) ss

  pub suffix_onto : (ℕ → ℕ) → Within → Bool → ℕ → Bool → List Event → Suffix → List Event
  suffix_onto n w d a b xs (selected i) = selector_onto n b xs i
  suffix_onto n w d a b xs (ticked p t) = attribute_onto n w a xs t
  suffix_onto n w d a b xs (applied as') = args_onto n w brackets.AfterName (left_out (not d && have_range as') a xs) as'

  pub attribute_onto : (ℕ → ℕ) → Within → ℕ → List Event → Attribute → List Event
  attribute_onto n w a xs (attribute i) = left_out (not (is_attribute (word_of (n i.from)))) a xs
  attribute_onto n w a xs range_attribute = xs
  attribute_onto n w a xs (qualified as') = args_onto n w (group_in w) xs as'

  pub args_onto : (ℕ → ℕ) → Within → Brackets → List Event → Args → List Event
  args_onto n w b xs no_args = xs
  args_onto n w b xs (args a as') = args_onto n w b (arg_onto n w b xs a) as'

  pub arg_onto : (ℕ → ℕ) → Within → Brackets → List Event → Arg → List Event
  arg_onto n w b xs (arg s c v) = value_onto n w (sole_else n b xs (before_arrow c v) (choice_onto n w xs c)) v

  pub choice_onto : (ℕ → ℕ) → Within → List Event → ArgChoice → List Event
  choice_onto n w xs other_parts = xs
  choice_onto n w xs (part i) = item_onto n w xs i
  choice_onto n w xs (parts l h) = onto n w (onto n w xs l) h

  pub value_onto : (ℕ → ℕ) → Within → List Event → Value → List Event
  value_onto n w xs no_value = xs
  value_onto n w xs (value i) = item_onto n w xs i

  pub item_onto : (ℕ → ℕ) → Within → List Event → Item → List Event
  item_onto n w xs (item s f) = form_onto n w xs f

  pub form_onto : (ℕ → ℕ) → Within → List Event → Form → List Event
  form_onto n w xs (plain e) = onto n w xs e
  form_onto n w xs (choose as' e) = maybe_onto n w (arms_onto n w xs as') e
  form_onto n w xs (quantified q i r p) = told (onto n w (told (range_onto n w (opened scope.Quantified kind.Index (ident n i) xs) r) event.DeclarationEnds) p) event.Closes

  pub arms_onto : (ℕ → ℕ) → Within → List Event → Arms → List Event
  arms_onto n w xs no_arms = xs
  arms_onto n w xs (arm c g as') = arms_onto n w (onto n w (onto n w xs c) g) as'
