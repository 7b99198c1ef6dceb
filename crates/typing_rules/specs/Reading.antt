-- What is seen of an expression: the rules of its form over what is seen of its parts.
use Rattle.std.specs.Prelude.{ℕ, List, [], ◌∷◌, Option, Some, None}
use Rattle.ada_values.specs.declared.place.Place.{Place}
use Rattle.front_codes.specs.declared.codes.Code.{Code}
use Rattle.front_codes.specs.declared.codes.Code.TheVariants as code
use Rattle.front_codes.specs.declared.codes.Refusal.{Refusal}
use Rattle.syntax_view.specs.Trees as tree
use Rattle.typed_units.specs.declared.expressions.Argument.{Argument}
use Rattle.typed_units.specs.declared.expressions.Expr.{Expr}
use Rattle.type_base.specs.Scope.{Scope}
use Rattle.type_base.specs.declared.seen.Seen.{Seen}
use Rattle.type_base.specs.declared.seen.Seen.TheVariants as seen'
use Rattle.type_base.specs.declared.seen.Want.{Want}
use Rattle.type_base.specs.declared.seen.Want.TheVariants as want
use Rattle.type_base.specs.declared.world.Routine.{Routine}
use Rattle.type_base.specs.Demands.{broken}
use Rattle.type_base.specs.Lookups.{routine_at}
use Rattle.typing_rules.specs.declared.prefix.Between.{Between}
use Rattle.typing_rules.specs.declared.prefix.Call.{Call}
use Rattle.typing_rules.specs.declared.prefix.Found.{Found}
use Rattle.typing_rules.specs.declared.prefix.Found.TheVariants.{Refused, Unknown}
use Rattle.typing_rules.specs.declared.prefix.Part.{Part}
use Rattle.typing_rules.specs.declared.prefix.Prefix.{Prefix}
use Rattle.typing_rules.specs.declared.prefix.Prefix.TheVariants as prefix
use Rattle.typing_rules.specs.Calls.{variable}
use Rattle.typing_rules.specs.Faults.{faults_of, form_faults}
use Rattle.typing_rules.specs.Fits.{with_found}
use Rattle.typing_rules.specs.Forms.{form_kind, form_prefix, is_identifier, name_prefix}
use Rattle.typing_rules.specs.Lookups.{with_index}
use Rattle.typing_rules.specs.Parts.{Arg, Arm, Choice, Form, Operand, Range, Suffix}
use Rattle.typing_rules.specs.Parts as parts
use Rattle.typing_rules.specs.Ranges.{range_found}
use Rattle.typing_rules.specs.Values.{formals_of, no_arguments, seen_of, value_of}

abbrev pub operand : Scope → ℕ → Form → Operand
operand c at f = record { from = at; alone = is_identifier f; kind = form_kind c f; prefix = form_prefix c (c.place at) f; faults = form_faults c (c.place at) f }

abbrev mutual
  pub read : Scope → tree.Expr → Operand
  read c (tree.at s n) = operand c s.from (form c n)

  pub form : Scope → tree.Node → Form
  form c (tree.number n) = parts.number n
  form c tree.null = parts.null
  form c (tree.name m) = name_form c m
  form c (tree.group as') = parts.group (args c as')
  form c (tree.unary s o a) = parts.unary o (read c a)
  form c (tree.binary s o a b) = parts.binary s.from o (read c a) (read c b)
  form c (tree.member s b a g) = parts.member b (read c a) (range c g)

  pub name_form : Scope → tree.Name → Form
  name_form c (tree.named s i ss) = parts.name i.from (suffixes c ss)

  pub maybe : Scope → tree.MaybeExpr → Option Operand
  maybe c tree.no_expr = None
  maybe c (tree.an_expr e) = Some (read c e)

  pub range : Scope → tree.Range → Range
  range c (tree.range l h) = record { low = read c l; high = maybe c h }

  pub suffixes : Scope → tree.Suffixes → List Suffix
  suffixes c tree.no_suffixes = []
  suffixes c (tree.suffixes s ss) = suffix c s ∷ suffixes c ss

  pub suffix : Scope → tree.Suffix → Suffix
  suffix c (tree.selected s) = parts.selected s.from
  suffix c (tree.ticked s a) = tick c s.from a
  suffix c (tree.applied as') = parts.applied (args c as')

  pub tick : Scope → ℕ → tree.Attribute → Suffix
  tick c t (tree.attribute s) = parts.attribute t s.from
  tick c t tree.range_attribute = parts.range_attribute t
  tick c t (tree.qualified as') = parts.qualified t (args c as')

  pub args : Scope → tree.Args → List Arg
  args c tree.no_args = []
  args c (tree.args a as') = arg c a ∷ args c as'

  pub arg : Scope → tree.Arg → Arg
  arg c (tree.arg s h v) = record { from = s.from; choice = choice c h; value = value c v }

  pub choice : Scope → tree.ArgChoice → Choice
  choice c tree.other_parts = parts.others
  choice c (tree.part i) = parts.single (item c i)
  choice c (tree.parts l h) = parts.between (read c l) (read c h)

  pub value : Scope → tree.Value → Option Operand
  value c tree.no_value = None
  value c (tree.value i) = Some (item c i)

  pub item : Scope → tree.Item → Operand
  item c (tree.item s f) = item_form c s.from f

  pub item_form : Scope → ℕ → tree.Form → Operand
  item_form c at (tree.plain e) = read c e
  item_form c at (tree.choose as' e) = operand c at (parts.choose (arms c as') (maybe c e))
  item_form c at (tree.quantified q s g e) = operand c at (parts.quantified q s.from (range c g) (λ k. read (with_index c s.from k) e))

  pub arms : Scope → tree.Arms → List Arm
  arms c tree.no_arms = []
  arms c (tree.arm x g as') = record { condition = read c x; gives = read c g } ∷ arms c as'

-- ---- what other rules ask

-- an expression in a context
abbrev pub seen : Scope → Want → tree.Expr → Seen
seen c w e = seen_of c (read c e) w

-- all rules that are broken in it
abbrev pub faults : Scope → Want → tree.Expr → List Refusal
faults c w e = faults_of c (read c e) w

abbrev pub kind : Scope → tree.Expr → Option ℕ
kind c e = (read c e).kind

abbrev pub item_seen : Scope → Want → tree.Item → Seen
item_seen c w i = seen_of c (item c i) w

abbrev pub name_seen : Scope → Want → tree.Name → Prefix
name_seen c w (tree.named s i ss) = name_prefix c w (c.place s.from) i.from (suffixes c ss)

-- L8: the target of an assignment, a variable
abbrev pub target_seen : Scope → tree.Name → Found Part
target_seen c (tree.named s i ss) = variable c code.L8 (c.place s.from) (name_prefix c want.Free (c.place s.from) i.from (suffixes c ss))

-- L22, L23: the range of a loop or a quantified expression
abbrev pub range_seen : Scope → Code → tree.Range → Found Between
range_seen c r g = range_found c r (range c g)

abbrev pub call_made : ℕ → List (Argument Expr) → Call
call_made q as' = record { routine = q; arguments = as' }

abbrev pub procedure_call : Place → ℕ → Option ℕ → Found (List (Argument Expr)) → Found Call
procedure_call p q None as' = with_found (call_made q) as'
procedure_call p q (Some k) as' = Refused (broken code.L12 p)

abbrev pub lone_call : Scope → Place → ℕ → Option Routine → Found Call
lone_call c p q None = Unknown
lone_call c p q (Some r) = procedure_call p q r.result (no_arguments p (formals_of c.world r))

abbrev pub no_call : Place → Seen → Found Call
no_call p (seen'.Refused f) = Refused f
no_call p seen'.Unknown = Unknown
no_call p _ = Refused (broken code.L12 p)

abbrev pub called : Scope → Place → Prefix → Found Call
called c p (prefix.Called q as') = with_found (call_made q) as'
called c p (prefix.Routine q) = lone_call c p q (routine_at c.world q)
called c p f = no_call p (value_of c p f)

-- L12: a statement that is a name calls a procedure
abbrev pub call_seen : Scope → tree.Name → Found Call
call_seen c (tree.named s i ss) = called c (c.place s.from) (name_prefix c want.Free (c.place s.from) i.from (suffixes c ss))
