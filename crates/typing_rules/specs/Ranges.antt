-- Ranges, choices and membership tests. -- Ada RM 3.5, 3.8.1, 4.5.2; L7, L16, L21, L22, L23
use Rattle.std.specs.Prelude.{ℕ, ℤ, Bool, true, false, not, ◌==◌, Option, Some, None, if◌then◌else◌}
use Rattle.ada_values.specs.Scalars.{within}
use Rattle.ada_values.specs.declared.place.Place.{Place}
use Rattle.ada_values.specs.declared.values.Value.TheVariants as value
use Rattle.front_codes.specs.declared.codes.Code.{Code}
use Rattle.front_codes.specs.declared.codes.Code.TheVariants as code
use Rattle.typed_units.specs.declared.expressions.Expr.{Expr}
use Rattle.typed_units.specs.declared.expressions.ExprNode.TheVariants as node
use Rattle.typed_units.specs.declared.operators.Bounds.{Bounds}
use Rattle.typed_units.specs.declared.statements.Choice.{Choice as TypedChoice}
use Rattle.typed_units.specs.declared.statements.Choice.TheVariants as choice
use Rattle.type_base.specs.Scope.{Scope}
use Rattle.type_base.specs.declared.seen.Agreed.{Agreed}
use Rattle.type_base.specs.declared.seen.Agreed.TheVariants as agreed
use Rattle.type_base.specs.declared.seen.Demand.TheVariants as demand
use Rattle.type_base.specs.declared.seen.Seen.{Seen}
use Rattle.type_base.specs.declared.seen.Seen.TheVariants as seen
use Rattle.type_base.specs.declared.seen.Want.{Want}
use Rattle.type_base.specs.declared.seen.Want.TheVariants as want
use Rattle.type_base.specs.declared.world.Form.{Form}
use Rattle.type_base.specs.declared.world.Form.TheVariants as form
use Rattle.type_base.specs.declared.world.World.{World}
use Rattle.type_base.specs.Demands.{agree, broken, made, operand, placed_number, refused}
use Rattle.type_base.specs.Lookups.{form_at, type_at}
use Rattle.type_base.specs.Results.{number_in, static_truth, truth_at}
use Rattle.type_base.specs.Standard.{integer_base}
use Rattle.typing_rules.specs.declared.prefix.Between.{Between}
use Rattle.typing_rules.specs.declared.prefix.Found.{Found}
use Rattle.typing_rules.specs.declared.prefix.Found.TheVariants.{Refused, Unknown, Is}
use Rattle.typing_rules.specs.declared.prefix.Prefix.{Prefix}
use Rattle.typing_rules.specs.declared.prefix.Prefix.TheVariants as prefix
use Rattle.typing_rules.specs.declared.prefix.Reach.{Reach}
use Rattle.typing_rules.specs.declared.prefix.Reach.TheVariants as reach
use Rattle.typing_rules.specs.Fits.{both, refused_beside, with_found}
use Rattle.typing_rules.specs.Lookups.{type_of}
use Rattle.typing_rules.specs.Names.{typed_as}
use Rattle.typing_rules.specs.Parts.{Operand, Range}
use Rattle.typing_rules.specs.Values.{place_of, seen_of, value_of}

-- ---- what the context gives operands (Ada RM 8.6)

abbrev pub want_or : Want → Option ℕ → Want
want_or w (Some t) = want.Type t
want_or w None = w

-- the type that an outer context gives, without its constraint
abbrev pub weaker_by : Want → Option ℕ → Want
weaker_by w (Some t) = want.Type t
weaker_by w None = want.Unknown

abbrev pub weaker : World → Want → Want
weaker w (want.Subtype k) = weaker_by (want.Subtype k) (type_at w k)
weaker w v = v

-- ---- ranges

abbrev pub bounds_reach : Agreed → Reach
bounds_reach (agreed.Refused f) = reach.Refused f
bounds_reach agreed.Unknown = reach.Unknown
bounds_reach (agreed.Numbers a b) = reach.Numbers a b
bounds_reach (agreed.Typed t x y) = reach.Between (record { subtype = t; low = x; high = y })

abbrev pub static_range : Place → ℕ → ℕ → ℤ → ℤ → Between
static_range p k t a b = record { subtype = k; low = made p t (node.Static (value.Int a)); high = made p t (node.Static (value.Int b)) }

-- a subtype's name stands for its range
abbrev pub subtype_reach : Code → Place → ℕ → Option Form → Reach
subtype_reach r p k (Some (form.Number d s)) = reach.Between (static_range p k k s.lo s.hi)
subtype_reach r p k (Some f) = reach.Refused (broken r p)
subtype_reach r p k None = reach.Unknown

abbrev pub no_range : Code → Place → Seen → Reach
no_range r p (seen.Refused f) = reach.Refused f
no_range r p seen.Unknown = reach.Unknown
no_range r p s = reach.Refused (broken r p)

abbrev pub lone_reach : Scope → Code → Place → Prefix → Reach
lone_reach c r p (prefix.Subtype k) = subtype_reach r p k (form_at c.world k)
lone_reach c r p (prefix.Range b) = reach.Between b
lone_reach c r p f = no_range r p (value_of c p f)

-- two bounds of one integer or enumeration type
abbrev pub two_reach : Scope → Code → Want → Operand → Operand → Reach
two_reach c r w l h =
    bounds_reach (agree c.world r (place_of c l) (place_of c h)
    (operand c.world demand.Ordered r (place_of c l) (seen_of c l (want_or w h.kind)))
    (operand c.world demand.Ordered r (place_of c h) (seen_of c h (want_or w l.kind))))

abbrev pub reach_by : Scope → Code → Want → Operand → Option Operand → Reach
reach_by c r w l (Some h) = two_reach c r w l h
reach_by c r w l None = lone_reach c r (place_of c l) (l.prefix w)

-- what a range reaches over, by a rule: bounds, a subtype's name or `'Range`
abbrev pub reach_of : Scope → Code → Want → Range → Reach
reach_of c r w g = reach_by c r w g.low g.high

abbrev pub found_expr : Seen → Found Expr
found_expr (seen.Refused f) = Refused f
found_expr seen.Unknown = Unknown
found_expr (seen.Number n) = Unknown
found_expr (seen.Typed t x) = Is x

abbrev pub high_place : Scope → Range → Option Operand → Place
high_place c g (Some h) = place_of c h
high_place c g None = place_of c g.low

-- the bounds, where universal ones take type t
abbrev pub reach_in : Scope → Code → ℕ → Range → Reach → Found Between
reach_in c r t g (reach.Refused f) = Refused f
reach_in c r t g reach.Unknown = Unknown
reach_in c r t g (reach.Between b) = Is b
reach_in c r t g (reach.Numbers a b) =
    both (λ x y. record { subtype = t; low = x; high = y })
    (found_expr (placed_number c.world r (place_of c g.low) (place_of c g.low) t a))
    (found_expr (placed_number c.world r (high_place c g g.high) (high_place c g g.high) t b))

-- L22, L23: the range of a loop or a quantified expression, of Integer where it is universal
abbrev pub range_found : Scope → Code → Range → Found Between
range_found c r g = reach_in c r integer_base g (reach_of c r want.Free g)

-- ---- membership tests (Ada RM 4.5.2(25)); L7

abbrev pub same_truth : Bool → Bool → Bool
same_truth true b = b
same_truth false b = not b

abbrev pub member_static : Place → Bool → Expr → Between → Option ℤ → Option ℤ → Option ℤ → Seen
member_static p is x b (Some n) (Some l) (Some h) = static_truth p (same_truth is (within l h n))
member_static p is x b n l h = truth_at p (node.Member is x b.low b.high)

abbrev pub member_of : Place → Bool → Expr → Between → Seen
member_of p is x b = member_static p is x b (number_in x) (number_in b.low) (number_in b.high)

-- of one type, the range's is told where they don't agree
abbrev pub member_typed : Scope → Place → Bool → Range → ℕ → Expr → Found Between → Seen
member_typed c p is g t x (Refused f) = seen.Refused f
member_typed c p is g t x Unknown = seen.Unknown
member_typed c p is g t x (Is b) = if t == type_of c.world b.subtype then member_of p is x b else refused code.L7 (place_of c g.low)

abbrev pub member_number : Place → Bool → Between → Seen → Seen
member_number p is b (seen.Typed t x) = member_of p is x b
member_number p is b s = s

abbrev pub reach_seen : Reach → Seen
reach_seen (reach.Refused f) = seen.Refused f
reach_seen r = seen.Unknown

-- the tested expression at q, which is of an integer or enumeration type, and the range, which is of that type
abbrev pub member_by : Scope → Place → Bool → Place → Range → Seen → Reach → Seen
member_by c p is q g (seen.Refused f) u = refused_beside f (reach_seen u)
member_by c p is q g seen.Unknown u = reach_seen u
member_by c p is q g (seen.Typed t x) u = member_typed c p is g t x (reach_in c code.L7 t g u)
member_by c p is q g (seen.Number n) (reach.Refused f) = seen.Refused f
member_by c p is q g (seen.Number n) reach.Unknown = seen.Unknown
member_by c p is q g (seen.Number n) (reach.Numbers a b) = static_truth p (same_truth is (within a b n))
member_by c p is q g (seen.Number n) (reach.Between b) = member_number p is b (placed_number c.world code.L7 q q (type_of c.world b.subtype) n)

-- a membership test of an operand, which also takes the type of a range, as its form and its names tell
abbrev pub member_seen : Scope → Place → Bool → Operand → Range → Option ℕ → Seen
member_seen c p is a g k =
    member_by c p is (place_of c a) g (operand c.world demand.Ordered code.L7 (place_of c a) (seen_of c a (want_or want.Free k)))
    (reach_of c code.L7 (want_or want.Free a.kind) g)

-- ---- static choices of type t (Ada RM 3.8.1, 4.3.1, 4.3.3); L16, L21

abbrev pub static_bounds : Code → Place → Place → Option ℤ → Option ℤ → Found Bounds
static_bounds r p q (Some a) (Some b) = Is (record { first = a; last = b })
static_bounds r p q None b = Refused (broken r p)
static_bounds r p q (Some a) None = Refused (broken r q)

abbrev pub bounds_of_type : Scope → Code → ℕ → Place → Between → Found Bounds
bounds_of_type c r t p b =
    if t == type_of c.world b.subtype then static_bounds r p p (number_in b.low) (number_in b.high) else Refused (broken r p)

abbrev pub static_number : Code → Place → Option ℤ → Found ℤ
static_number r p (Some n) = Is n
static_number r p None = Refused (broken r p)

abbrev pub static_value : Code → Place → Seen → Found ℤ
static_value r p (seen.Refused f) = Refused f
static_value r p seen.Unknown = Unknown
static_value r p (seen.Number n) = Is n
static_value r p (seen.Typed t x) = static_number r p (number_in x)

abbrev pub reach_bounds : Scope → Code → ℕ → Place → Reach → Found Bounds
reach_bounds c r t p (reach.Refused f) = Refused f
reach_bounds c r t p reach.Unknown = Unknown
reach_bounds c r t p (reach.Between b) = bounds_of_type c r t p b
reach_bounds c r t p (reach.Numbers a b) = Is (record { first = a; last = b })

-- one value of the type, at p
abbrev pub value_at : Scope → Code → ℕ → Place → Seen → Found ℤ
value_at c r t p s = static_value r p (typed_as c r t p s)

abbrev pub choice_by : Scope → Code → ℕ → Place → Prefix → Found TypedChoice
choice_by c r t p (prefix.Subtype k) = with_found choice.Range (reach_bounds c r t p (subtype_reach r p k (form_at c.world k)))
choice_by c r t p (prefix.Range b) = with_found choice.Range (bounds_of_type c r t p b)
choice_by c r t p f = with_found choice.Value (value_at c r t p (value_of c p f))

-- a value, a subtype's name or `'Range`
abbrev pub single_choice : Scope → Code → ℕ → Operand → Found TypedChoice
single_choice c r t o = choice_by c r t (place_of c o) (o.prefix (want.Type t))

abbrev pub range_choice : Scope → Code → ℕ → Operand → Operand → Found TypedChoice
range_choice c r t l h =
    both (λ a b. choice.Range (record { first = a; last = b }))
    (value_at c r t (place_of c l) (seen_of c l (want.Type t))) (value_at c r t (place_of c h) (seen_of c h (want.Type t)))

abbrev pub choice_range : TypedChoice → Bounds
choice_range (choice.Value n) = record { first = n; last = n }
choice_range (choice.Range b) = b
