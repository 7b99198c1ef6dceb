-- What a walk asks of the parts of an expression.
use Rattle.std.specs.Prelude.{Bool, true, false, ◌||◌, Option, Some, None}
use Rattle.ada_text.specs.declared.token.Span.{Span}
use Rattle.name_numbers.specs.declared.words.Word.{Word}
use Rattle.name_numbers.specs.declared.words.Word.TheVariants as word
use Rattle.syntax_view.specs.Trees.{Expr, at, Node, number, null, name, group, unary, binary, member, Name, named, Suffixes, no_suffixes, suffixes, Suffix, selected, ticked, applied, attribute, range_attribute, qualified, Args, no_args, args, Arg, arg, ArgChoice, other_parts, part, parts, Value, no_value, value, Item, item, Form, plain, choose, quantified}

-- ---- an identifier that stands alone

abbrev pub sole_name : Name → Option Span
sole_name (named s f no_suffixes) = Some f
sole_name (named s f (suffixes x ss)) = None

abbrev pub sole_node : Node → Option Span
sole_node (number i) = None
sole_node null = None
sole_node (name m) = sole_name m
sole_node (group as') = None
sole_node (unary p o a) = None
sole_node (binary p o a b) = None
sole_node (member p b a r) = None

abbrev pub sole_expr : Expr → Option Span
sole_expr (at s e) = sole_node e

abbrev pub sole_form : Form → Option Span
sole_form (plain e) = sole_expr e
sole_form (choose as' e) = None
sole_form (quantified q i r p) = None

abbrev pub sole_item : Item → Option Span
sole_item (item s f) = sole_form f

abbrev pub sole_choice : ArgChoice → Option Span
sole_choice other_parts = None
sole_choice (part i) = sole_item i
sole_choice (parts l h) = None

-- the identifier that stands alone before `=>`
abbrev pub before_arrow : ArgChoice → Value → Option Span
before_arrow c no_value = None
before_arrow c (value v) = sole_choice c

-- ---- ranges in parentheses after a name (Ada RM 3.6.1, 4.1.2)

abbrev pub is_range_suffix : Suffix → Bool
is_range_suffix (selected i) = false
is_range_suffix (ticked p (attribute i)) = false
is_range_suffix (ticked p range_attribute) = true
is_range_suffix (ticked p (qualified as')) = false
is_range_suffix (applied as') = false

-- the attribute Range is among what follows a name
abbrev pub are_range : Suffixes → Bool
are_range no_suffixes = false
are_range (suffixes s ss) = is_range_suffix s || are_range ss

abbrev pub is_range_name : Name → Bool
is_range_name (named s f ss) = are_range ss

abbrev pub is_range_node : Node → Bool
is_range_node (number i) = false
is_range_node null = false
is_range_node (name m) = is_range_name m
is_range_node (group as') = false
is_range_node (unary p o a) = false
is_range_node (binary p o a b) = false
is_range_node (member p b a r) = false

abbrev pub is_range_expr : Expr → Bool
is_range_expr (at s e) = is_range_node e

abbrev pub is_range_form : Form → Bool
is_range_form (plain e) = is_range_expr e
is_range_form (choose as' e) = false
is_range_form (quantified q i r p) = false

abbrev pub is_range_item : Item → Bool
is_range_item (item s f) = is_range_form f

-- two bounds, or the attribute Range alone
abbrev pub is_range_choice : ArgChoice → Value → Bool
is_range_choice other_parts v = false
is_range_choice (part i) no_value = is_range_item i
is_range_choice (part i) (value v) = false
is_range_choice (parts l h) v = true

abbrev pub is_range_arg : Arg → Bool
is_range_arg (arg s c v) = is_range_choice c v

-- one of them is a range
abbrev pub have_range : Args → Bool
have_range no_args = false
have_range (args a as') = is_range_arg a || have_range as'

-- ---- names

abbrev pub is_selector : Suffix → Bool
is_selector (selected i) = true
is_selector (ticked p a) = false
is_selector (applied as') = false

-- the attributes of the profile besides Range, which is a reserved word
abbrev pub is_attribute : Option Word → Bool
is_attribute (Some word.First) = true
is_attribute (Some word.Last) = true
is_attribute (Some word.Length) = true
is_attribute (Some word.Succ) = true
is_attribute (Some word.Pred) = true
is_attribute (Some word.Pos) = true
is_attribute (Some word.Val) = true
is_attribute (Some word.Old) = true
is_attribute (Some word.Result) = true
is_attribute (Some word.LoopEntry) = true
is_attribute _ = false
