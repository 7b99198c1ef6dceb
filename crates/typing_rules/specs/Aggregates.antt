-- Aggregates and qualified expressions. -- Ada RM 4.3, 4.7; L8, L16, L17, L18
use Rattle.std.specs.Prelude.{ℕ, suc, nat_lt, ℤ, pos, ◌+ℤ◌, ◌-ℤ◌, Bool, true, false, not, ◌==◌, ◌&&◌, ◌||◌, ◌++◌, List, [], ◌∷◌, length, map, slice_get, Option, Some, None, is_some, if◌then◌else◌, int_le, int_lt}
use Rattle.std.specs.Ordering.{int_eq}
use Rattle.ada_values.specs.declared.place.Place.{Place}
use Rattle.ada_values.specs.declared.values.Value.TheVariants as value
use Rattle.front_codes.specs.declared.codes.Code.TheVariants as code
use Rattle.typed_units.specs.declared.expressions.Association.{Association}
use Rattle.typed_units.specs.declared.expressions.Expr.{Expr, out-Expr}
use Rattle.typed_units.specs.declared.expressions.ExprNode.{ExprNode}
use Rattle.typed_units.specs.declared.expressions.ExprNode.TheVariants as node
use Rattle.typed_units.specs.declared.expressions.Fitted.{Fitted}
use Rattle.typed_units.specs.declared.operators.Bounds.{Bounds}
use Rattle.typed_units.specs.declared.operators.Composite.TheVariants as composite
use Rattle.type_base.specs.Scope.{Scope}
use Rattle.type_base.specs.declared.seen.Seen.{Seen}
use Rattle.type_base.specs.declared.seen.Seen.TheVariants as seen
use Rattle.type_base.specs.declared.seen.Want.{Want}
use Rattle.type_base.specs.declared.seen.Want.TheVariants as want
use Rattle.type_base.specs.declared.world.Component.{Component}
use Rattle.type_base.specs.declared.world.Form.{Form}
use Rattle.type_base.specs.declared.world.Form.TheVariants as form
use Rattle.type_base.specs.declared.world.World.{World}
use Rattle.type_base.specs.Demands.{broken, check_of, refused}
use Rattle.type_base.specs.Lookups.{form_at, type_at}
use Rattle.type_base.specs.Results.{moved, wide_last}
use Rattle.typing_rules.specs.declared.aggregates.ArrayItems.{ArrayItems}
use Rattle.typing_rules.specs.declared.aggregates.Gathered.{Gathered}
use Rattle.typing_rules.specs.declared.aggregates.Gives.{Gives}
use Rattle.typing_rules.specs.declared.aggregates.Manner.{Manner}
use Rattle.typing_rules.specs.declared.aggregates.Manner.TheVariants as manner
use Rattle.typing_rules.specs.declared.prefix.Found.{Found}
use Rattle.typing_rules.specs.declared.prefix.Found.TheVariants.{Refused, Unknown, Is}
use Rattle.typing_rules.specs.declared.prefix.Prefix.{Prefix}
use Rattle.typing_rules.specs.declared.prefix.Prefix.TheVariants as prefix
use Rattle.typing_rules.specs.Calls.{is_among, operand_of, same_type, still_open}
use Rattle.typing_rules.specs.Fits.{both, spoiled, fit, found_then, seen_then, takes, with_found}
use Rattle.typing_rules.specs.Lookups.{Array, components_at, place_among, seen_as, size_of, type_of}
use Rattle.typing_rules.specs.Names.{after_unknown, only_operand}
use Rattle.typing_rules.specs.Parts.{Arg, Choice, Operand, between, others, single}
use Rattle.typing_rules.specs.Ranges.{choice_range, range_choice, single_choice}
use Rattle.typing_rules.specs.Values.{component_subtype, place_of, seen_of, value_of}

-- ---- records (Ada RM 4.3.1)

-- the numbers from n on of components that aren't given yet
abbrev pub not_given : List ℕ → List Component → ℕ → List ℕ
not_given given [] n = []
not_given given (c ∷ cs) n = if is_among n given then not_given given cs (suc n) else (n ∷ not_given given cs (suc n))

abbrev pub is_end : List Arg → Bool
is_end [] = true
is_end (a ∷ as') = false

abbrev pub position_open : List Component → List ℕ → Option ℕ
position_open cs given = if nat_lt (length given) (length cs) then Some (length given) else None

abbrev pub one_given : Option ℕ → Option Gives
one_given (Some n) = Some (record { numbers = n ∷ []; by_others = false })
one_given None = None

abbrev pub rest_given : Bool → List ℕ → Option Gives
rest_given last [] = None
rest_given true (n ∷ ns) = Some (record { numbers = n ∷ ns; by_others = true })
rest_given false (n ∷ ns) = None

abbrev pub component_by : Scope → List Component → List ℕ → Bool → Bool → Choice → Option Operand → Option Gives
component_by c cs given named last (single o) None = if named then None else one_given (position_open cs given)
component_by c cs given named last (single o) (Some v) = if o.alone then one_given (still_open given (place_among cs (c.name o.from) 0)) else None
component_by c cs given named last others (Some v) = rest_given last (not_given given cs 0)
component_by c cs given named last others None = None
component_by c cs given named last (between l h) v = None

-- L16: what an association gives, after others that gave these components, of which some may be named: the next component where
-- it is positional, which has no named one before it, that of the name, or with `others` at the end all that are left
abbrev pub components_for : Scope → List Component → List ℕ → Bool → Arg → List Arg → Option Gives
components_for c cs given named a as' = component_by c cs given named (is_end as') a.choice a.value

-- all components have the value's type, and arrays its subtype -- L8
abbrev pub all_take : World → List Component → ℕ → List ℕ → Bool
all_take w cs k [] = true
all_take w cs k (n ∷ ns) =
    same_type (type_at w k) (type_at w (component_subtype (Some cs) n)) && takes w true (component_subtype (Some cs) n) k && all_take w cs k ns

abbrev pub check_list : Option Bounds → List Bounds → List Bounds
check_list (Some b) bs = b ∷ bs
check_list None bs = bs

abbrev pub checks_of : World → List Component → Expr → List ℕ → List Bounds
checks_of w cs x [] = []
checks_of w cs x (n ∷ ns) = check_list (check_of w (component_subtype (Some cs) n) x) (checks_of w cs x ns)

abbrev pub lone_range : ℕ → Bounds
lone_range n = record { first = pos n; last = pos n }

abbrev pub ranges_of : Gives → List Bounds
ranges_of g = if g.by_others then [] else map lone_range g.numbers

abbrev pub gives_value : World → List Component → Gives → Fitted Expr → Association Expr
gives_value w cs g v = record { ranges = ranges_of g; others = g.by_others; checks = checks_of w cs v.value g.numbers; value = v.value }

abbrev pub given_all : World → List Component → Gives → Place → ℕ → Fitted Expr → Found (Association Expr)
given_all w cs g q k v = if all_take w cs k g.numbers then Is (gives_value w cs g v) else Refused (broken code.L8 q)

abbrev pub first_given : List Component → List ℕ → ℕ
first_given cs (n ∷ ns) = component_subtype (Some cs) n
first_given cs [] = 0

abbrev pub value_for : Scope → List Component → Gives → ℕ → Option Operand → Found (Association Expr)
value_for c cs g k (Some o) = found_then (fit c.world code.L8 true k (place_of c o) (seen_of c o (want.Subtype k))) (given_all c.world cs g (place_of c o) k)
value_for c cs g k None = Unknown

abbrev pub gives_else : {A : Type 0} → Option Gives → A → (Gives → A) → A
gives_else None a f = a
gives_else (Some g) a f = f g

abbrev pub record_parts : Scope → Place → List Component → List ℕ → Bool → Found (List (Association Expr)) → List Arg → Found (List (Association Expr))
record_parts c p cs given named done [] =
    if length given == length cs then done else spoiled done (broken code.L16 p)
record_parts c p cs given named done (a ∷ as') =
    gives_else (components_for c cs given named a as') (spoiled done (broken code.L16 (c.place a.from)))
    (λ g. record_parts c p cs (g.numbers ++ given) (named || is_some a.value)
    (both (λ xs x. xs ++ (x ∷ [])) done (value_for c cs g (first_given cs g.numbers) (operand_of a))) as')

abbrev pub last_number : List Component → ℤ
last_number cs = pos (length cs) -ℤ pos 1

-- L16: each component once
abbrev pub record_aggregate : Scope → Place → ℕ → List Component → List Arg → Seen
record_aggregate c p k cs as' =
    seen_then (record_parts c p cs [] false (Is []) as') (λ xs. seen_as c p k (node.Aggregate composite.Record (record { first = pos 0; last = last_number cs }) xs))

-- ---- arrays (Ada RM 4.3.3)

-- what ranges are for the values of a range: the first that has a value outside it, or one that a range before has; or that some
-- value is in none of them
pub data Cover : Type 0 where
  outside : ℕ → Cover
  twice : ℕ → Cover
  missing : Cover
  whole : Cover

abbrev pub is_empty : Bounds → Bool
is_empty b = int_lt b.last b.first

abbrev pub is_inside : Bounds → Bounds → Bool
is_inside b r = is_empty r || (int_le b.first r.first && int_le r.last b.last)

abbrev pub overlap : Bounds → Bounds → Bool
overlap a b = not (is_empty a) && not (is_empty b) && int_le a.first b.last && int_le b.first a.last

abbrev pub overlaps_one : Bounds → List Bounds → Bool
overlaps_one a [] = false
overlaps_one a (b ∷ bs) = overlap a b || overlaps_one a bs

abbrev pub size_all : List Bounds → ℤ
size_all [] = pos 0
size_all (b ∷ bs) = size_of b +ℤ size_all bs

-- after the ranges `done`, which are n
abbrev pub cover_after : Bounds → List Bounds → ℕ → List Bounds → Cover
cover_after b done n [] = if int_eq (size_all done) (size_of b) then whole else missing
cover_after b done n (r ∷ rs) =
    if not (is_inside b r) then outside n else (if overlaps_one r done then twice n else cover_after b (r ∷ done) (suc n) rs)

abbrev pub cover_of : Bounds → List Bounds → Cover
cover_of b rs = cover_after b [] 0 rs

abbrev pub none_gathered : Gathered
none_gathered = record { ranges = Is []; done = Is [] }

abbrev pub arg_place : Scope → Place → Option Arg → Place
arg_place c p (Some a) = c.place a.from
arg_place c p None = p

abbrev pub cover_found : Scope → Place → List Arg → Bool → Cover → Found (List (Association Expr)) → Found (List (Association Expr))
cover_found c p as' partial (outside n) done = spoiled done (broken code.L16 (arg_place c p (slice_get as' n)))
cover_found c p as' partial (twice n) done = spoiled done (broken code.L16 (arg_place c p (slice_get as' n)))
cover_found c p as' partial missing done = if partial then done else spoiled done (broken code.L16 p)
cover_found c p as' partial whole done = done

abbrev pub covered : Scope → Place → Bounds → List Arg → Bool → Found (List Bounds) → Found (List (Association Expr)) → Found (List (Association Expr))
covered c p b as' partial (Is rs) done = cover_found c p as' partial (cover_of b rs) done
covered c p b as' partial _ done = done

abbrev pub item_checks : Option Bounds → List Bounds
item_checks (Some b) = b ∷ []
item_checks None = []

abbrev pub item_value : List Bounds → Bool → Fitted Expr → Association Expr
item_value rs o v = record { ranges = rs; others = o; checks = item_checks v.bounds; value = v.value }

-- an item's value -- L8
abbrev pub item_found : Scope → ℕ → List Bounds → Bool → Option Operand → Found (Association Expr)
item_found c k rs o (Some v) = with_found (item_value rs o) (fit c.world code.L8 true k (place_of c v) (seen_of c v (want.Subtype k)))
item_found c k rs o None = Unknown

abbrev pub added_range : Found (List Bounds) → Found Bounds → Found (List Bounds)
added_range rs r = both (λ xs x. xs ++ (x ∷ [])) rs r

abbrev pub added_item : Found (List (Association Expr)) → Found (Association Expr) → Found (List (Association Expr))
added_item xs x = both (λ ys y. ys ++ (y ∷ [])) xs x

abbrev pub ranges_in : Found Bounds → List Bounds
ranges_in (Is b) = b ∷ []
ranges_in _ = []

-- a refusal of a choice is told besides what its value is
abbrev pub choice_done : Found Bounds → Found (Association Expr) → Found (Association Expr)
choice_done r x = both (λ b y. y) r x

abbrev pub gathered : Scope → Array → Gathered → Found Bounds → Option Operand → Gathered
gathered c a g r v = record { ranges = added_range g.ranges r; done = added_item g.done (choice_done r (item_found c a.item (ranges_in r) false v)) }

-- a number that has 128 bits, as all static values do
abbrev pub in_width : ℤ → ℤ
in_width n = if int_le n (pos wide_last) then n else pos wide_last

abbrev pub lone_value : ℤ → Bounds
lone_value n = record { first = n; last = n }

-- the positional association after n others; what lies past the bounds is outside them, or was given before
abbrev pub position_range : Bounds → ℕ → Found Bounds
position_range b n = Is (lone_value (in_width (b.first +ℤ pos n)))

abbrev pub misplaced : Scope → Gathered → ℕ → Gathered
misplaced c g from = record { ranges = g.ranges; done = spoiled g.done (broken code.L16 (c.place from)) }

-- what an association is
pub data Sort : Type 0 where
  positional : Operand → Sort
  chosen : Found Bounds → Operand → Sort
  rest : Operand → Sort
  misfit : Sort

-- a range without values is the only choice (Ada RM 4.3.3(17))
abbrev pub some_values : Bool → Place → Found Bounds → Found Bounds
some_values alone q (Is b) = if is_empty b && not alone then Refused (broken code.L16 q) else Is b
some_values alone q r = r

abbrev pub sort_by : Scope → ℕ → Choice → Option Operand → Sort
sort_by c t (single o) None = positional o
sort_by c t (single o) (Some v) = chosen (with_found choice_range (single_choice c code.L16 t o)) v
sort_by c t (between l h) (Some v) = chosen (with_found choice_range (range_choice c code.L16 t l h)) v
sort_by c t others (Some v) = rest v
sort_by c t (between l h) None = misfit
sort_by c t others None = misfit

abbrev pub sort_of : Scope → ℕ → Arg → Sort
sort_of c t a = sort_by c t a.choice a.value

abbrev pub sort_else : Sort → ArrayItems → (Operand → ArrayItems) → (Found Bounds → Operand → ArrayItems) → (Operand → ArrayItems) → ArrayItems
sort_else (positional o) e f g h = f o
sort_else (chosen r o) e f g h = g r o
sort_else (rest o) e f g h = h o
sort_else misfit e f g h = e

abbrev pub unless_by_choice : Manner → ArrayItems → ArrayItems → ArrayItems
unless_by_choice manner.ByChoice e i = e
unless_by_choice _ e i = i

abbrev pub unless_by_place : Manner → ArrayItems → ArrayItems → ArrayItems
unless_by_place manner.ByPlace e i = e
unless_by_place _ e i = i

abbrev pub stopped : Scope → Gathered → Arg → ArrayItems
stopped c g x = record { gathered = misplaced c g x.from; partial = true }

abbrev pub with_rest : Scope → Array → Gathered → Operand → ArrayItems
with_rest c a g o = record { gathered = record { ranges = g.ranges; done = added_item g.done (item_found c a.item [] true (Some o)) }; partial = true }

abbrev pub is_only : ℕ → List Arg → Bool
is_only n xs = (n == 0) && is_end xs

-- The associations of an array, after n others: all positional, or all with choices, and `others` at the end. What follows one that
-- isn't so isn't looked at. -- L16
abbrev pub items : Scope → Array → Bounds → ℕ → Manner → Gathered → List Arg → ArrayItems
items c a b n m g [] = record { gathered = g; partial = false }
items c a b n m g (x ∷ xs) =
    sort_else (sort_of c (type_of c.world a.index) x) (stopped c g x)
    (λ o. unless_by_choice m (stopped c g x) (items c a b (suc n) manner.ByPlace (gathered c a g (position_range b n) (Some o)) xs))
    (λ r o. unless_by_place m (stopped c g x) (items c a b (suc n) manner.ByChoice (gathered c a g (some_values (is_only n xs) (c.place x.from) r) (Some o)) xs))
    (λ o. if is_end xs then with_rest c a g o else stopped c g x)

abbrev pub items_covered : Scope → Place → Bounds → List Arg → ArrayItems → Found (List (Association Expr))
items_covered c p b as' i = covered c p b as' i.partial i.gathered.ranges i.gathered.done

-- L16: each index once
abbrev pub array_aggregate : Scope → Place → ℕ → Array → Bounds → List Arg → Seen
array_aggregate c p k a b as' =
    seen_then (items_covered c p b as' (items c a b 0 manner.Either none_gathered as')) (λ xs. seen_as c p k (node.Aggregate composite.Array b xs))

-- ---- all of them

abbrev pub record_by : Scope → Place → ℕ → Option (List Component) → List Arg → Seen
record_by c p k (Some cs) as' = record_aggregate c p k cs as'
record_by c p k None as' = refused code.L17 p

-- of a subtype: an array's is constrained -- L17
abbrev pub aggregate_of : Scope → Place → ℕ → Option Form → List Arg → Seen
aggregate_of c p k (Some (form.Array i (Some b) t)) as' = array_aggregate c p k (record { index = i; bounds = Some b; item = t }) b as'
aggregate_of c p k (Some f) as' = record_by c p k (components_at c.world k) as'
aggregate_of c p k None as' = after_unknown c as'

-- of a type: an array's has no bounds
abbrev pub aggregate_as : Scope → Place → ℕ → Option Form → List Arg → Seen
aggregate_as c p t (Some f) as' = record_by c p t (components_at c.world t) as'
aggregate_as c p t None as' = after_unknown c as'

abbrev pub aggregate : Scope → Place → Want → List Arg → Seen
aggregate c p want.Free as' = refused code.L17 p
aggregate c p want.Unknown as' = after_unknown c as'
aggregate c p (want.Type t) as' = aggregate_as c p t (form_at c.world t) as'
aggregate c p (want.Subtype k) as' = aggregate_of c p k (form_at c.world k) as'

abbrev pub grouped : Scope → Place → Want → List Arg → Option Operand → Seen
grouped c p w as' (Some o) = moved p (seen_of c o w)
grouped c p w as' None = aggregate c p w as'

-- an expression in parentheses, or an aggregate
abbrev pub group_seen : Scope → Place → Want → List Arg → Seen
group_seen c p w as' = grouped c p w as' (only_operand as')

-- ---- qualified expressions (Ada RM 4.7); L18

abbrev pub qualified_node : Fitted Expr → Option Bounds → ExprNode Expr → ExprNode Expr
qualified_node v None (node.Static (value.Int n)) = node.Static (value.Int n)
qualified_node v None (node.Static (value.Bool b)) = node.Static (value.Bool b)
qualified_node v b x = node.Convert b v.value

abbrev pub qualified_as : Scope → Place → ℕ → Found (Fitted Expr) → Seen
qualified_as c p k v = seen_then v (λ x. seen_as c p k (qualified_node x x.bounds (out-Expr x.value).node))

abbrev pub qualified_by : Scope → Place → ℕ → Place → List Arg → Option Operand → Seen
qualified_by c p k t as' (Some o) = qualified_as c p k (fit c.world code.L18 false k (place_of c o) (seen_of c o (want.Subtype k)))
qualified_by c p k t as' None = qualified_as c p k (fit c.world code.L18 false k t (aggregate c t (want.Subtype k) as'))

abbrev pub no_subtype : Place → Seen → Seen
no_subtype p (seen.Refused f) = seen.Refused f
no_subtype p seen.Unknown = seen.Unknown
no_subtype p _ = refused code.L18 p

-- a qualification by a prefix, with the place of its tick
abbrev pub qualification : Scope → Place → Prefix → Place → List Arg → Seen
qualification c p (prefix.Subtype k) t as' = qualified_by c p k t as' (only_operand as')
qualification c p f t as' = no_subtype p (value_of c p f)
