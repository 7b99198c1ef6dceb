-- Aggregates and qualifications.
use Rattle.std.proofs.Common.{◌≡◌, refl, sym, ◌∙◌, ap, subst, ℕ, suc, ℤ, pos, Bool, true, false, ◌==◌, List, [], ◌∷◌, ◌++◌, length, Option, Some, None, arith}
use Rattle.std.proofs.lemmas.Bool.Decides.{nat_tests}
use Rattle.std.specs.Prelude.{not, ◌&&◌, ◌||◌, is_some, slice_get, if◌then◌else◌}
use Rattle.ada_text.specs.declared.token.Span.{Span}
use Rattle.ada_values.specs.declared.place.Place.{Place}
use Rattle.front_codes.specs.declared.codes.Code.{Code}
use Rattle.front_codes.specs.declared.codes.Code.TheVariants as code
use Rattle.front_codes.specs.declared.codes.Refusal.{Refusal}
use Rattle.syntax_view.specs.Trees as tree
use Rattle.typed_units.specs.declared.expressions.Association.{Association}
use Rattle.typed_units.specs.declared.expressions.Expr.{Expr, out-Expr}
use Rattle.typed_units.specs.declared.expressions.ExprNode.{ExprNode}
use Rattle.typed_units.specs.declared.expressions.ExprNode.TheVariants as node
use Rattle.typed_units.specs.declared.expressions.Fitted.{Fitted}
use Rattle.typed_units.specs.declared.operators.Bounds.{Bounds}
use Rattle.typed_units.specs.declared.operators.Composite.TheVariants as composite
use Rattle.typed_units.specs.declared.statements.Choice.TheVariants as choice'
use Rattle.type_base.specs.Scope.{Scope}
use Rattle.type_base.specs.declared.seen.Seen.{Seen}
use Rattle.type_base.specs.declared.seen.Seen.TheVariants as seen
use Rattle.type_base.specs.declared.seen.Want.{Want}
use Rattle.type_base.specs.declared.seen.Want.TheVariants as want
use Rattle.type_base.specs.declared.world.Component.{Component}
use Rattle.type_base.specs.declared.world.Form.{Form}
use Rattle.type_base.specs.declared.world.Form.TheVariants as form
use Rattle.type_base.specs.declared.world.World.{World}
use Rattle.type_base.specs.Demands.{broken}
use Rattle.type_base.specs.Lookups.{form_at}
use Rattle.type_base.specs.Results.{number_in}
use Rattle.typing_rules.specs.declared.aggregates.ArrayItems.{ArrayItems}
use Rattle.typing_rules.specs.declared.aggregates.Gathered.{Gathered}
use Rattle.typing_rules.specs.declared.aggregates.Gives.{Gives as GivenParts}
use Rattle.typing_rules.specs.declared.aggregates.Manner.{Manner}
use Rattle.typing_rules.specs.declared.aggregates.Manner.TheVariants as manner
use Rattle.typing_rules.specs.declared.prefix.Found.{Found}
use Rattle.typing_rules.specs.declared.prefix.Found.TheVariants as found
use Rattle.typing_rules.specs.declared.prefix.Prefix.{Prefix}
use Rattle.typing_rules.specs.declared.prefix.Prefix.TheVariants as prefix
use Rattle.typing_rules.specs.Aggregates as aggregates
use Rattle.typing_rules.specs.Aggregates.{added_item, added_range, aggregate, aggregate_as, aggregate_of, all_take, array_aggregate, choice_done, components_for, Cover, cover_found, cover_of, covered, first_given, gathered, given_all, gives_else, gives_value, is_empty, is_only, item_found, item_value, items, items_covered, last_number, none_gathered, position_range, qualified_as, qualified_by, qualified_node, ranges_in, record_aggregate, record_by, record_parts, some_values, value_for}
use Rattle.typing_rules.specs.Calls.{operand_of}
use Rattle.typing_rules.specs.Fits.{both, fit, spoiled, with_found}
use Rattle.typing_rules.specs.Lookups.{Array, components_at, seen_as, type_of}
use Rattle.typing_rules.specs.Names.{after_unknown, beside, only_operand, operand_beside, typed_as}
use Rattle.typing_rules.specs.Parts.{Arg, Operand}
use Rattle.typing_rules.specs.Ranges.{bounds_of_type, choice_by, choice_range, range_choice, reach_bounds, single_choice, static_number, static_value, subtype_reach, value_at}
use Rattle.typing_rules.specs.Reading.{arg, args, item, item as item_at, read}
use Rattle.typing_rules.specs.Values.{place_of, seen_of, value_of}
use Rattle.typing_relations.specs.Demanded as demanded
use Rattle.typing_relations.specs.Demanded.{Covers, Fits, Given, IsResult, IsStatic, MayBeChosen, MayBePlaced, OfType}
use Rattle.typing_relations.specs.Obeys as rule
use Rattle.typing_relations.specs.Obeys.{Aggregates, ArrayParts, ItemHas, ItemStands, Has, Qualifies, RecordParts, StaticChoice}
use Rattle.typing_relations.proofs.Accepting.{Accepts, Allows, BothAre, Finds, accepts_map, beside_accepts, both_are, both_finds, finds_itself, finds_map, found_as, if_accepts, if_finds, makes_accepts, spoiled_finds, then_accepts, then_finds, with_finds}
use Rattle.typing_relations.proofs.Parts.{ArgGood, ArgsGood, ExprGood, ItemGood, expr_accepts, if_spoiled, is_injective, item_accepts, only_cases}
use Rattle.typing_relations.proofs.Values.{fit_finds, of_valued, placed_accepts}

-- ---- after what is unknown

beside_unknown : (P : Seen → Type 0) (u s : Seen) → Accepts s P → Accepts (beside u s) P
beside_unknown P (seen.Refused f) s h = beside_accepts P f s
beside_unknown P seen.Unknown s h = h
beside_unknown P (seen.Number n) s h = h
beside_unknown P (seen.Typed t x) s h = h

operand_unknown : (P : Seen → Type 0) (c : Scope) (o : Option Operand) (s : Seen) → Accepts s P → Accepts (operand_beside c o s) P
operand_unknown P c None s h = h
operand_unknown P c (Some o) s h = beside_unknown P (seen_of c o want.Unknown) s h

-- after what is unknown nothing is accepted
pub unknown_accepts : (P : Seen → Type 0) (c : Scope) (as' : List Arg) → Accepts (after_unknown c as') P
unknown_accepts P c [] = tt
unknown_accepts P c (a ∷ as') = operand_unknown P c (operand_of a) (after_unknown c as') (unknown_accepts P c as')

-- ---- records

-- what an association gives to components
record PartIs (c : Scope) (cs : List Component) (g : GivenParts) (a : tree.Arg) (x : Association Expr) : Type 0 where
  item : tree.Item
  given : Given a item
  seen : Seen
  has : ItemHas c (want.Subtype (first_given cs g.numbers)) item seen
  value : Fitted Expr
  fits : Fits c.world true (first_given cs g.numbers) (place_of c (item_at c item)) seen value
  all : all_take c.world cs (first_given cs g.numbers) g.numbers ≡ true
  part : x ≡ gives_value c.world cs g value

given_finds : (w : World) (cs : List Component) (g : GivenParts) (q : Place) (k : ℕ) (v : Fitted Expr) → Finds (given_all w cs g q k v) (λ x. (all_take w cs k g.numbers ≡ true) × (x ≡ gives_value w cs g v))
given_finds w cs g q k v = if_finds (λ x. (all_take w cs k g.numbers ≡ true) × (x ≡ gives_value w cs g v)) (all_take w cs k g.numbers) (found.Is (gives_value w cs g v)) (broken code.L8 q) (λ e. (e, refl))

item_part : (c : Scope) (cs : List Component) (g : GivenParts) (a : tree.Arg) (i : tree.Item) → Given a i → ItemGood c i → Finds (value_for c cs g (first_given cs g.numbers) (Some (item c i))) (PartIs c cs g a)
item_part c cs g a i h good =
    let k = first_given cs g.numbers in
    let q = place_of c (item c i) in
    let u = seen_of c (item c i) (want.Subtype k) in
    then_finds (λ v. Fits c.world true k q u v × ItemHas c (want.Subtype k) i u) (PartIs c cs g a) (fit c.world code.L8 true k q u) (given_all c.world cs g q k)
    (fit_finds c.world code.L8 true k q u (ItemHas c (want.Subtype k) i) (item_accepts c i (want.Subtype k) good))
    (λ v z. finds_map (λ x. (all_take c.world cs k g.numbers ≡ true) × (x ≡ gives_value c.world cs g v)) (PartIs c cs g a)
    (λ x y. record { item = i; given = h; seen = u; has = z.1; value = v; fits = z.0; all = y.0; part = y.1 }) (given_all c.world cs g q k v) (given_finds c.world cs g q k v))

part_finds : (c : Scope) (cs : List Component) (g : GivenParts) (a : tree.Arg) → ArgGood c a → Finds (value_for c cs g (first_given cs g.numbers) (operand_of (arg c a))) (PartIs c cs g a)
part_finds c cs g (tree.arg s h (tree.value i)) z = item_part c cs g (tree.arg s h (tree.value i)) i (demanded.after_arrow s h i) z.1
part_finds c cs g (tree.arg s (tree.part i) tree.no_value) z = item_part c cs g (tree.arg s (tree.part i) tree.no_value) i (demanded.alone s i) z.0
part_finds c cs g (tree.arg s tree.other_parts tree.no_value) z = tt
part_finds c cs g (tree.arg s (tree.parts l u) tree.no_value) z = tt

-- the associations after those done
record PartsAfter (c : Scope) (cs : List Component) (given : List ℕ) (named : Bool) (done : Found (List (Association Expr))) (as' : tree.Args) (ys : List (Association Expr)) : Type 0 where
  so_far : List (Association Expr)
  is : done ≡ found.Is so_far
  rest : RecordParts c cs given named so_far as' ys

abbrev join : List (Association Expr) → Association Expr → List (Association Expr)
join xs x = xs ++ (x ∷ [])

more_parts : (c : Scope) (p : Place) (cs : List Component) (given : List ℕ) (named : Bool) (done : Found (List (Association Expr))) (a : tree.Arg) (as' : tree.Args) (m : Option GivenParts)
    → components_for c cs given named (arg c a) (args c as') ≡ m → ArgGood c a
    → ((g : GivenParts) → Finds (record_parts c p cs (g.numbers ++ given) (named || is_some (arg c a).value) (both join done (value_for c cs g (first_given cs g.numbers) (operand_of (arg c a)))) (args c as'))
    (PartsAfter c cs (g.numbers ++ given) (named || is_some (arg c a).value) (both join done (value_for c cs g (first_given cs g.numbers) (operand_of (arg c a)))) as'))
    → Finds (gives_else m (spoiled done (broken code.L16 (c.place (arg c a).from)))
    (λ g. record_parts c p cs (g.numbers ++ given) (named || is_some (arg c a).value) (both join done (value_for c cs g (first_given cs g.numbers) (operand_of (arg c a)))) (args c as')))
    (PartsAfter c cs given named done (tree.args a as'))
more_parts c p cs given named done a as' None e h ih = spoiled_finds (PartsAfter c cs given named done (tree.args a as')) done (broken code.L16 (c.place (arg c a).from))
more_parts c p cs given named done a as' (Some g) e h ih =
    let next = value_for c cs g (first_given cs g.numbers) (operand_of (arg c a)) in
    let now = both join done next in
    let on = named || is_some (arg c a).value in
    finds_map (PartsAfter c cs (g.numbers ++ given) on now as') (PartsAfter c cs given named done (tree.args a as'))
    (λ ys z.
    let b = found_as (λ zs. BothAre join done next zs) now z.so_far z.is (both_are join done next) in
    let x = found_as (PartIs c cs g a) next b.right b.is_right (part_finds c cs g a h) in
    record {
      so_far = b.left;
      is = b.is_left;
      rest = rule.next_components c cs given named b.left ys a as' g x.item x.seen x.value e x.given x.has x.fits x.all
          (subst (λ zs. RecordParts c cs (g.numbers ++ given) on zs as' ys) (b.together ∙ ap (λ (y : Association Expr). b.left ++ (y ∷ [])) x.part) z.rest);
    })
    (record_parts c p cs (g.numbers ++ given) on now (args c as')) (ih g)

all_parts : (c : Scope) (p : Place) (cs : List Component) (given : List ℕ) (named : Bool) (done : Found (List (Association Expr))) (as' : tree.Args) → ArgsGood c as'
    → Finds (record_parts c p cs given named done (args c as')) (PartsAfter c cs given named done as')
all_parts c p cs given named done tree.no_args h =
    if_spoiled (PartsAfter c cs given named done tree.no_args) (length given == length cs) done (broken code.L16 p)
    (λ e.
    let same : length given ≡ length cs = grind (arith, nat_tests) in
    finds_map (λ xs. done ≡ found.Is xs) (PartsAfter c cs given named done tree.no_args) (λ xs i. record { so_far = xs; is = i; rest = rule.all_components c cs given named xs same }) done (finds_itself done))
all_parts c p cs given named done (tree.args a as') h =
    more_parts c p cs given named done a as' (components_for c cs given named (arg c a) (args c as')) refl h.0
    (λ g. all_parts c p cs (g.numbers ++ given) (named || is_some (arg c a).value) (both join done (value_for c cs g (first_given cs g.numbers) (operand_of (arg c a)))) as' h.1)

record_finds : (c : Scope) (p : Place) (cs : List Component) (as' : tree.Args) → ArgsGood c as' → Finds (record_parts c p cs [] false (found.Is []) (args c as')) (RecordParts c cs [] false [] as')
record_finds c p cs as' h =
    finds_map (PartsAfter c cs [] false (found.Is []) as') (RecordParts c cs [] false [] as') (λ ys z. subst (λ xs. RecordParts c cs [] false xs as' ys) (sym (is_injective [] z.so_far z.is)) z.rest)
    (record_parts c p cs [] false (found.Is []) (args c as')) (all_parts c p cs [] false (found.Is []) as' h)

record_accepts : (c : Scope) (p : Place) (k : ℕ) (as' : tree.Args) (m : Option (List Component)) (P : Seen → Type 0) → components_at c.world k ≡ m → ArgsGood c as'
    → ((cs : List Component) (xs : List (Association Expr)) (v : Seen) → components_at c.world k ≡ Some cs → RecordParts c cs [] false [] as' xs
    → demanded.Makes c.world p k (node.Aggregate composite.Record (record { first = pos 0; last = last_number cs }) xs) v → P v)
    → Accepts (record_by c p k m (args c as')) P
record_accepts c p k as' None P e h f = tt
record_accepts c p k as' (Some cs) P e h f =
    let n : List (Association Expr) → ExprNode Expr = λ xs. node.Aggregate composite.Record (record { first = pos 0; last = last_number cs }) xs in
    then_accepts (RecordParts c cs [] false [] as') P (record_parts c p cs [] false (found.Is []) (args c as')) (λ xs. seen_as c p k (n xs)) (record_finds c p cs as' h)
    (λ xs z. accepts_map (demanded.Makes c.world p k (n xs)) P (λ v y. f cs xs v e z y) (seen_as c p k (n xs)) (makes_accepts c p k (n xs)))

-- ---- static choices

abbrev TypedBy : World → ℕ → Place → Seen → (Seen → Type 0) → Seen → Type 0
TypedBy w t q s P (seen.Typed u x) = OfType w t q s x × P s
TypedBy w t q s P _ = ⊥

typed_by : (c : Scope) (r : Code) (t : ℕ) (q : Place) (s : Seen) (P : Seen → Type 0) → Accepts s P → Accepts (typed_as c r t q s) (TypedBy c.world t q s P)
typed_by c r t q (seen.Refused f) P h = tt
typed_by c r t q seen.Unknown P h = tt
typed_by c r t q (seen.Number n) P h = placed_accepts c.world r q q t n (TypedBy c.world t q (seen.Number n) P) (λ i. (demanded.taking_type n i, h))
typed_by c r t q (seen.Typed u x) P h =
    if_accepts (TypedBy c.world t q (seen.Typed u x) P) (t == u) (seen.Typed t x) (broken r q)
    (λ i. let same : t ≡ u = grind (arith, nat_tests) in (subst (λ z. OfType c.world t q (seen.Typed z x) x) same (demanded.of_this_type x), h))

static_by : (w : World) (r : Code) (t : ℕ) (q : Place) (s : Seen) (x : Expr) (P : Seen → Type 0) (m : Option ℤ) → number_in x ≡ m → OfType w t q s x → P s → Finds (static_number r q m) (λ n. IsStatic w t q s n × P s)
static_by w r t q s x P None e h i = tt
static_by w r t q s x P (Some n) e h i = (record { value = x; of_type = h; is = e }, i)

static_from : (w : World) (r : Code) (t : ℕ) (q : Place) (s v : Seen) (P : Seen → Type 0) → Accepts v (TypedBy w t q s P) → Finds (static_value r q v) (λ n. IsStatic w t q s n × P s)
static_from w r t q s (seen.Refused f) P h = tt
static_from w r t q s seen.Unknown P h = tt
static_from w r t q s (seen.Number n) P h = absurd h
static_from w r t q s (seen.Typed u x) P h = static_by w r t q s x P (number_in x) refl h.0 h.1

static_finds : (c : Scope) (r : Code) (t : ℕ) (q : Place) (s : Seen) (P : Seen → Type 0) → Accepts s P → Finds (value_at c r t q s) (λ n. IsStatic c.world t q s n × P s)
static_finds c r t q s P h = static_from c.world r t q s (typed_as c r t q s) P (typed_by c r t q s P h)

-- a value as a choice
value_choice : (c : Scope) (t : ℕ) (i : tree.Item) (f : Prefix) → Allows f (ItemStands c (want.Type t) i)
    → Finds (with_found choice'.Value (value_at c code.L16 t (place_of c (item c i)) (value_of c (place_of c (item c i)) f))) (λ z. StaticChoice c t (tree.part i) (choice_range z))
value_choice c t i f h =
    let q = place_of c (item c i) in
    let u = value_of c q f in
    let P = ItemHas c (want.Type t) i in
    with_finds (λ n. IsStatic c.world t q u n × P u) (λ z. StaticChoice c t (tree.part i) (choice_range z)) choice'.Value (value_at c code.L16 t q u)
    (static_finds c code.L16 t q u P (of_valued c q (ItemStands c (want.Type t) i) P (λ g v j k. rule.item_has c (want.Type t) i g v j k) f h)) (λ n z. rule.one_value c t i u n z.1 z.0)

choice_finds : (c : Scope) (t : ℕ) (i : tree.Item) (f : Prefix) → Allows f (ItemStands c (want.Type t) i) → Finds (choice_by c code.L16 t (place_of c (item c i)) f) (λ z. StaticChoice c t (tree.part i) (choice_range z))
choice_finds c t i (prefix.Subtype k) h =
    let q = place_of c (item c i) in
    let r = reach_bounds c code.L16 t q (subtype_reach code.L16 q k (form_at c.world k)) in
    with_finds (λ b. r ≡ found.Is b) (λ z. StaticChoice c t (tree.part i) (choice_range z)) choice'.Range r (finds_itself r) (λ b e. rule.its_subtype c t i k b h e)
choice_finds c t i (prefix.Range b) h =
    let q = place_of c (item c i) in
    let r = bounds_of_type c code.L16 t q b in
    with_finds (λ d. r ≡ found.Is d) (λ z. StaticChoice c t (tree.part i) (choice_range z)) choice'.Range r (finds_itself r) (λ d e. rule.its_range c t i b d h e)
choice_finds c t i prefix.Package h = value_choice c t i prefix.Package h
choice_finds c t i (prefix.Routine q) h = value_choice c t i (prefix.Routine q) h
choice_finds c t i (prefix.Called q xs) h = value_choice c t i (prefix.Called q xs) h
choice_finds c t i (prefix.Mapping m u k) h = value_choice c t i (prefix.Mapping m u k) h
choice_finds c t i (prefix.Constant u x) h = value_choice c t i (prefix.Constant u x) h
choice_finds c t i (prefix.Part g) h = value_choice c t i (prefix.Part g) h
choice_finds c t i (prefix.Value s) h = value_choice c t i (prefix.Value s) h

single_finds : (c : Scope) (t : ℕ) (i : tree.Item) → ItemGood c i → Finds (with_found choice_range (single_choice c code.L16 t (item c i))) (StaticChoice c t (tree.part i))
single_finds c t i h =
    with_finds (λ z. StaticChoice c t (tree.part i) (choice_range z)) (StaticChoice c t (tree.part i)) choice_range (single_choice c code.L16 t (item c i)) (choice_finds c t i ((item c i).prefix (want.Type t)) (h (want.Type t))) (λ z j. j)

two_finds : (c : Scope) (t : ℕ) (l h : tree.Expr) → ExprGood c l → ExprGood c h → Finds (with_found choice_range (range_choice c code.L16 t (read c l) (read c h))) (StaticChoice c t (tree.parts l h))
two_finds c t l h i j =
    let w = want.Type t in
    let p = place_of c (read c l) in
    let q = place_of c (read c h) in
    let u = seen_of c (read c l) w in
    let v = seen_of c (read c h) w in
    with_finds (λ z. StaticChoice c t (tree.parts l h) (choice_range z)) (StaticChoice c t (tree.parts l h)) choice_range (range_choice c code.L16 t (read c l) (read c h))
    (both_finds (λ n. IsStatic c.world t p u n × Has c w l u) (λ n. IsStatic c.world t q v n × Has c w h v) (λ z. StaticChoice c t (tree.parts l h) (choice_range z)) (λ a b. choice'.Range (record { first = a; last = b }))
    (value_at c code.L16 t p u) (value_at c code.L16 t q v) (static_finds c code.L16 t p u (Has c w l) (expr_accepts c l w i)) (static_finds c code.L16 t q v (Has c w h) (expr_accepts c h w j))
    (λ m n y z. rule.two_values c t l h u v m n y.1 z.1 y.0 z.0))
    (λ z k. k)

-- ---- items of an array

record Ranged (x : Found (List Bounds)) : Type 0 where
  ranges : List Bounds
  is : x ≡ found.Is ranges

-- where values are found, ranges are
abbrev WellRanged : Gathered → Type 0
WellRanged g = Finds g.done (λ xs. Ranged g.ranges)

record ItemsAre (c : Scope) (a : Array) (b : Bounds) (n : ℕ) (m : Manner) (g : Gathered) (as' : tree.Args) (i : ArrayItems) (ys : List (Association Expr)) : Type 0 where
  rs : List Bounds
  qs : List Bounds
  xs : List (Association Expr)
  ranges : g.ranges ≡ found.Is rs
  done : g.done ≡ found.Is xs
  ended : i.gathered.ranges ≡ found.Is qs
  parts : ArrayParts c a b n m rs xs as' qs ys i.partial

record ItemIs (c : Scope) (a : Array) (rs : List Bounds) (o : Bool) (i : tree.Item) (x : Association Expr) : Type 0 where
  seen : Seen
  has : ItemHas c (want.Subtype a.item) i seen
  value : Fitted Expr
  fits : Fits c.world true a.item (place_of c (item_at c i)) seen value
  is : x ≡ item_value rs o value

item_finds : (c : Scope) (a : Array) (rs : List Bounds) (o : Bool) (i : tree.Item) → ItemGood c i → Finds (item_found c a.item rs o (Some (item c i))) (ItemIs c a rs o i)
item_finds c a rs o i h =
    let q = place_of c (item c i) in
    let u = seen_of c (item c i) (want.Subtype a.item) in
    with_finds (λ v. Fits c.world true a.item q u v × ItemHas c (want.Subtype a.item) i u) (ItemIs c a rs o i) (item_value rs o) (fit c.world code.L8 true a.item q u)
    (fit_finds c.world code.L8 true a.item q u (ItemHas c (want.Subtype a.item) i) (item_accepts c i (want.Subtype a.item) h)) (λ v z. record { seen = u; has = z.1; value = v; fits = z.0; is = refl })

abbrev join_range : List Bounds → Bounds → List Bounds
join_range xs x = xs ++ (x ∷ [])

abbrev latter : Bounds → Association Expr → Association Expr
latter b y = y

still_ranged : (c : Scope) (a : Array) (g : Gathered) (r : Found Bounds) (o : Option Operand) → WellRanged g → WellRanged (gathered c a g r o)
still_ranged c a g r o h =
    let f = item_found c a.item (ranges_in r) false o in
    let d = choice_done r f in
    both_finds (λ xs. Ranged g.ranges) (λ x. BothAre latter r f x) (λ xs. Ranged (added_range g.ranges r)) join g.done d h (both_are latter r f)
    (λ xs x z y. record { ranges = z.ranges ++ (y.left ∷ []); is = ap (λ (q : Found (List Bounds)). both join_range q r) z.is ∙ ap (λ (q : Found Bounds). both join_range (found.Is z.ranges) q) y.is_left })

gathered_step : (c : Scope) (a : Array) (b : Bounds) (n : ℕ) (m k : Manner) (g : Gathered) (r : Found Bounds) (C : Bounds → Type 0) (i : tree.Item) (as' whole' : tree.Args) (next : ArrayItems)
    → Finds r C → ItemGood c i → Finds next.gathered.done (ItemsAre c a b (suc n) k (gathered c a g r (Some (item c i))) as' next)
    → ((rs qs : List Bounds) (xs ys : List (Association Expr)) (e : Bounds) (u : Seen) (x : Fitted Expr) → C e → ItemHas c (want.Subtype a.item) i u → Fits c.world true a.item (place_of c (item c i)) u x
    → ArrayParts c a b (suc n) k (rs ++ (e ∷ [])) (xs ++ (item_value (e ∷ []) false x ∷ [])) as' qs ys next.partial → ArrayParts c a b n m rs xs whole' qs ys next.partial)
    → Finds next.gathered.done (ItemsAre c a b n m g whole' next)
gathered_step c a b n m k g r C i as' whole' next h good ih make =
    let f = item_found c a.item (ranges_in r) false (Some (item c i)) in
    let d = choice_done r f in
    finds_map (ItemsAre c a b (suc n) k (gathered c a g r (Some (item c i))) as' next) (ItemsAre c a b n m g whole' next)
    (λ ys z.
    let j = found_as (λ zs. BothAre join g.done d zs) (both join g.done d) z.xs z.done (both_are join g.done d) in
    let y = found_as (λ v. BothAre latter r f v) d j.right j.is_right (both_are latter r f) in
    let x = found_as (ItemIs c a (ranges_in r) false i) f y.right y.is_right (item_finds c a (ranges_in r) false i good) in
    let q = found_as (λ zs. BothAre join_range g.ranges r zs) (both join_range g.ranges r) z.rs z.ranges (both_are join_range g.ranges r) in
    let is : j.right ≡ item_value (q.right ∷ []) false x.value = y.together ∙ x.is ∙ ap (λ (e : Found Bounds). item_value (ranges_in e) false x.value) q.is_right in
    let there = subst (λ zs. ArrayParts c a b (suc n) k zs z.xs as' z.qs ys next.partial) q.together z.parts in
    let here = subst (λ zs. ArrayParts c a b (suc n) k (q.left ++ (q.right ∷ [])) zs as' z.qs ys next.partial) (j.together ∙ ap (λ (v : Association Expr). j.left ++ (v ∷ [])) is) there in
    record {
      rs = q.left;
      qs = z.qs;
      xs = j.left;
      ranges = q.is_left;
      done = j.is_left;
      ended = z.ended;
      parts = make q.left z.qs j.left ys q.right x.seen x.value (found_as C r q.right q.is_right h) x.has x.fits here;
    })
    next.gathered.done ih

finds_and : {A : Type 0} → (P Q R : A → Type 0) (x : Found A) → Finds x P → Finds x Q → ((a : A) → P a → Q a → R a) → Finds x R
finds_and P Q R (found.Refused f) h i k = tt
finds_and P Q R found.Unknown h i k = tt
finds_and P Q R (found.Is a) h i k = k a h i

unless_finds : {A : Type 0} → (P : A → Type 0) (b : Bool) (x : Found A) (f : Refusal) → (b ≡ false → Finds x P) → Finds (if b then found.Refused f else x) P
unless_finds P true x f h = tt
unless_finds P false x f h = h refl

some_finds : (C : Bounds → Type 0) (lone : Bool) (q : Place) (r : Found Bounds) → Finds r C → Finds (some_values lone q r) (λ b. C b × ((is_empty b && not lone) ≡ false))
some_finds C lone q (found.Refused f) h = tt
some_finds C lone q found.Unknown h = tt
some_finds C lone q (found.Is b) h = unless_finds (λ d. C d × ((is_empty d && not lone) ≡ false)) (is_empty b && not lone) (found.Is b) (broken code.L16 q) (λ e. (h, e))

stopped_items : (c : Scope) (a : Array) (b : Bounds) (n : ℕ) (m : Manner) (g : Gathered) (x : tree.Arg) (as' : tree.Args) → Finds (spoiled g.done (broken code.L16 (c.place (arg c x).from))) (ItemsAre c a b n m g (tree.args x as') (aggregates.stopped c g (arg c x)))
stopped_items c a b n m g x as' = spoiled_finds (ItemsAre c a b n m g (tree.args x as') (aggregates.stopped c g (arg c x))) g.done (broken code.L16 (c.place (arg c x).from))

placed_items : (c : Scope) (a : Array) (b : Bounds) (n : ℕ) (m : Manner) (g : Gathered) (s : Span) (i : tree.Item) (as' : tree.Args) → MayBePlaced m → ItemGood c i
    → Finds (items c a b (suc n) manner.ByPlace (gathered c a g (position_range b n) (Some (item c i))) (args c as')).gathered.done
    (ItemsAre c a b (suc n) manner.ByPlace (gathered c a g (position_range b n) (Some (item c i))) as' (items c a b (suc n) manner.ByPlace (gathered c a g (position_range b n) (Some (item c i))) (args c as')))
    → Finds (items c a b (suc n) manner.ByPlace (gathered c a g (position_range b n) (Some (item c i))) (args c as')).gathered.done
    (ItemsAre c a b n m g (tree.args (tree.arg s (tree.part i) tree.no_value) as') (items c a b (suc n) manner.ByPlace (gathered c a g (position_range b n) (Some (item c i))) (args c as')))
placed_items c a b n m g s i as' may h ih =
    let r = position_range b n in
    let next = items c a b (suc n) manner.ByPlace (gathered c a g r (Some (item c i))) (args c as') in
    gathered_step c a b n m manner.ByPlace g r (λ e. r ≡ found.Is e) i as' (tree.args (tree.arg s (tree.part i) tree.no_value) as') next (finds_itself r) h ih
    (λ rs qs xs ys e u x j k l z. rule.by_place c a b n m rs qs xs ys s i as' next.partial e u x may j k l z)

chosen_items : (c : Scope) (a : Array) (b : Bounds) (n : ℕ) (m : Manner) (g : Gathered) (s : Span) (h : tree.ArgChoice) (i : tree.Item) (as' : tree.Args) (r : Found Bounds) → MayBeChosen m → ItemGood c i
    → Finds r (λ e. StaticChoice c (type_of c.world a.index) h e × ((is_empty e && not (is_only n (args c as'))) ≡ false))
    → Finds (items c a b (suc n) manner.ByChoice (gathered c a g r (Some (item c i))) (args c as')).gathered.done
    (ItemsAre c a b (suc n) manner.ByChoice (gathered c a g r (Some (item c i))) as' (items c a b (suc n) manner.ByChoice (gathered c a g r (Some (item c i))) (args c as')))
    → Finds (items c a b (suc n) manner.ByChoice (gathered c a g r (Some (item c i))) (args c as')).gathered.done
    (ItemsAre c a b n m g (tree.args (tree.arg s h (tree.value i)) as') (items c a b (suc n) manner.ByChoice (gathered c a g r (Some (item c i))) (args c as')))
chosen_items c a b n m g s h i as' r may good j ih =
    let next = items c a b (suc n) manner.ByChoice (gathered c a g r (Some (item c i))) (args c as') in
    gathered_step c a b n m manner.ByChoice g r (λ e. StaticChoice c (type_of c.world a.index) h e × ((is_empty e && not (is_only n (args c as'))) ≡ false)) i as' (tree.args (tree.arg s h (tree.value i)) as') next j good ih
    (λ rs qs xs ys e u x y k l z. rule.by_choice c a b n m rs qs xs ys s h i as' next.partial e u x may y.0 y.1 k l z)

rest_items : (c : Scope) (a : Array) (b : Bounds) (n : ℕ) (m : Manner) (g : Gathered) (s : Span) (i : tree.Item) → WellRanged g → ItemGood c i
    → Finds (aggregates.with_rest c a g (item c i)).gathered.done (ItemsAre c a b n m g (tree.args (tree.arg s tree.other_parts (tree.value i)) tree.no_args) (aggregates.with_rest c a g (item c i)))
rest_items c a b n m g s i ranged good =
    let f = item_found c a.item [] true (Some (item c i)) in
    let now = aggregates.with_rest c a g (item c i) in
    let as' = tree.args (tree.arg s tree.other_parts (tree.value i)) tree.no_args in
    finds_map (λ zs. BothAre join g.done f zs) (ItemsAre c a b n m g as' now)
    (λ ys j.
    let x = found_as (ItemIs c a [] true i) f j.right j.is_right (item_finds c a [] true i good) in
    let y = found_as (λ zs. Ranged g.ranges) g.done j.left j.is_left ranged in
    let made = rule.by_others c a b n m y.ranges j.left s i x.seen x.value x.has x.fits in
    record {
      rs = y.ranges;
      qs = y.ranges;
      xs = j.left;
      ranges = y.is;
      done = j.is_left;
      ended = y.is;
      parts = subst (λ zs. ArrayParts c a b n m y.ranges j.left as' y.ranges zs true) (sym (j.together ∙ ap (λ (v : Association Expr). j.left ++ (v ∷ [])) x.is)) made;
    })
    (both join g.done f) (both_are join g.done f)

all_items : (c : Scope) (a : Array) (b : Bounds) (n : ℕ) (m : Manner) (g : Gathered) (as' : tree.Args) → WellRanged g → ArgsGood c as' → Finds (items c a b n m g (args c as')).gathered.done (ItemsAre c a b n m g as' (items c a b n m g (args c as')))
all_items c a b n m g tree.no_args r h =
    finds_and (λ xs. Ranged g.ranges) (λ xs. g.done ≡ found.Is xs) (ItemsAre c a b n m g tree.no_args (record { gathered = g; partial = false })) g.done r (finds_itself g.done)
    (λ xs y e. record { rs = y.ranges; qs = y.ranges; xs = xs; ranges = y.is; done = e; ended = y.is; parts = rule.no_items c a b n m y.ranges xs })
all_items c a b n manner.Either g (tree.args (tree.arg s (tree.part i) tree.no_value) as') r h =
    let k = gathered c a g (position_range b n) (Some (item c i)) in
    placed_items c a b n manner.Either g s i as' tt h.0.0 (all_items c a b (suc n) manner.ByPlace k as' (still_ranged c a g (position_range b n) (Some (item c i)) r) h.1)
all_items c a b n manner.ByPlace g (tree.args (tree.arg s (tree.part i) tree.no_value) as') r h =
    let k = gathered c a g (position_range b n) (Some (item c i)) in
    placed_items c a b n manner.ByPlace g s i as' tt h.0.0 (all_items c a b (suc n) manner.ByPlace k as' (still_ranged c a g (position_range b n) (Some (item c i)) r) h.1)
all_items c a b n manner.ByChoice g (tree.args (tree.arg s (tree.part i) tree.no_value) as') r h = stopped_items c a b n manner.ByChoice g (tree.arg s (tree.part i) tree.no_value) as'
all_items c a b n manner.Either g (tree.args (tree.arg s (tree.part j) (tree.value i)) as') r h =
    let t = type_of c.world a.index in
    let one = with_found choice_range (single_choice c code.L16 t (item c j)) in
    let e = some_values (is_only n (args c as')) (c.place s.from) one in
    let k = gathered c a g e (Some (item c i)) in
    chosen_items c a b n manner.Either g s (tree.part j) i as' e tt h.0.1 (some_finds (StaticChoice c t (tree.part j)) (is_only n (args c as')) (c.place s.from) one (single_finds c t j h.0.0))
    (all_items c a b (suc n) manner.ByChoice k as' (still_ranged c a g e (Some (item c i)) r) h.1)
all_items c a b n manner.Either g (tree.args (tree.arg s (tree.parts l u) (tree.value i)) as') r h =
    let t = type_of c.world a.index in
    let one = with_found choice_range (range_choice c code.L16 t (read c l) (read c u)) in
    let e = some_values (is_only n (args c as')) (c.place s.from) one in
    let k = gathered c a g e (Some (item c i)) in
    chosen_items c a b n manner.Either g s (tree.parts l u) i as' e tt h.0.1 (some_finds (StaticChoice c t (tree.parts l u)) (is_only n (args c as')) (c.place s.from) one (two_finds c t l u h.0.0.0 h.0.0.1))
    (all_items c a b (suc n) manner.ByChoice k as' (still_ranged c a g e (Some (item c i)) r) h.1)
all_items c a b n manner.ByChoice g (tree.args (tree.arg s (tree.part j) (tree.value i)) as') r h =
    let t = type_of c.world a.index in
    let one = with_found choice_range (single_choice c code.L16 t (item c j)) in
    let e = some_values (is_only n (args c as')) (c.place s.from) one in
    let k = gathered c a g e (Some (item c i)) in
    chosen_items c a b n manner.ByChoice g s (tree.part j) i as' e tt h.0.1 (some_finds (StaticChoice c t (tree.part j)) (is_only n (args c as')) (c.place s.from) one (single_finds c t j h.0.0))
    (all_items c a b (suc n) manner.ByChoice k as' (still_ranged c a g e (Some (item c i)) r) h.1)
all_items c a b n manner.ByChoice g (tree.args (tree.arg s (tree.parts l u) (tree.value i)) as') r h =
    let t = type_of c.world a.index in
    let one = with_found choice_range (range_choice c code.L16 t (read c l) (read c u)) in
    let e = some_values (is_only n (args c as')) (c.place s.from) one in
    let k = gathered c a g e (Some (item c i)) in
    chosen_items c a b n manner.ByChoice g s (tree.parts l u) i as' e tt h.0.1 (some_finds (StaticChoice c t (tree.parts l u)) (is_only n (args c as')) (c.place s.from) one (two_finds c t l u h.0.0.0 h.0.0.1))
    (all_items c a b (suc n) manner.ByChoice k as' (still_ranged c a g e (Some (item c i)) r) h.1)
all_items c a b n manner.ByPlace g (tree.args (tree.arg s (tree.part j) (tree.value i)) as') r h = stopped_items c a b n manner.ByPlace g (tree.arg s (tree.part j) (tree.value i)) as'
all_items c a b n manner.ByPlace g (tree.args (tree.arg s (tree.parts l u) (tree.value i)) as') r h = stopped_items c a b n manner.ByPlace g (tree.arg s (tree.parts l u) (tree.value i)) as'
all_items c a b n m g (tree.args (tree.arg s tree.other_parts (tree.value i)) tree.no_args) r h = rest_items c a b n m g s i r h.0.1
all_items c a b n m g (tree.args (tree.arg s tree.other_parts (tree.value i)) (tree.args d ds)) r h = stopped_items c a b n m g (tree.arg s tree.other_parts (tree.value i)) (tree.args d ds)
all_items c a b n m g (tree.args (tree.arg s (tree.parts l u) tree.no_value) as') r h = stopped_items c a b n m g (tree.arg s (tree.parts l u) tree.no_value) as'
all_items c a b n m g (tree.args (tree.arg s tree.other_parts tree.no_value) as') r h = stopped_items c a b n m g (tree.arg s tree.other_parts tree.no_value) as'

-- ---- arrays

-- all items, which are for each index once
record WholeArray (c : Scope) (a : Array) (b : Bounds) (as' : tree.Args) (partial : Bool) (ys : List (Association Expr)) : Type 0 where
  ranges : List Bounds
  parts : ArrayParts c a b 0 manner.Either [] [] as' ranges ys partial
  covers : Covers b ranges partial

abbrev IsThere : {A : Type 0} → Found A → Type 0
IsThere (found.Is a) = Unit {0}
IsThere _ = ⊥

cover_finds : (c : Scope) (p : Place) (as' : List Arg) (b : Bounds) (rs : List Bounds) (partial : Bool) (v : Cover) (done : Found (List (Association Expr))) (P Q : List (Association Expr) → Type 0)
    → cover_of b rs ≡ v → Finds done P → ((ys : List (Association Expr)) → P ys → Covers b rs partial → Q ys) → Finds (cover_found c p as' partial v done) Q
cover_finds c p as' b rs partial (aggregates.outside n) done P Q e h k = spoiled_finds Q done (broken code.L16 (aggregates.arg_place c p (slice_get as' n)))
cover_finds c p as' b rs partial (aggregates.twice n) done P Q e h k = spoiled_finds Q done (broken code.L16 (aggregates.arg_place c p (slice_get as' n)))
cover_finds c p as' b rs true aggregates.missing done P Q e h k = finds_map P Q (λ ys z. k ys z (demanded.with_others e)) done h
cover_finds c p as' b rs false aggregates.missing done P Q e h k = spoiled_finds Q done (broken code.L16 p)
cover_finds c p as' b rs partial aggregates.whole done P Q e h k = finds_map P Q (λ ys z. k ys z (demanded.all_values partial e)) done h

covered_finds : (c : Scope) (p : Place) (a : Array) (b : Bounds) (as' : tree.Args) (i : ArrayItems) (x : Found (List Bounds)) → i.gathered.ranges ≡ x → Finds i.gathered.done (ItemsAre c a b 0 manner.Either none_gathered as' i)
    → Finds (covered c p b (args c as') i.partial x i.gathered.done) (WholeArray c a b as' i.partial)
covered_finds c p a b as' i (found.Refused f) e h = finds_map (ItemsAre c a b 0 manner.Either none_gathered as' i) (WholeArray c a b as' i.partial) (λ ys z. absurd (subst (λ (y : Found (List Bounds)). IsThere y) (sym z.ended ∙ e) tt)) i.gathered.done h
covered_finds c p a b as' i found.Unknown e h = finds_map (ItemsAre c a b 0 manner.Either none_gathered as' i) (WholeArray c a b as' i.partial) (λ ys z. absurd (subst (λ (y : Found (List Bounds)). IsThere y) (sym z.ended ∙ e) tt)) i.gathered.done h
covered_finds c p a b as' i (found.Is rs) e h =
    cover_finds c p (args c as') b rs i.partial (cover_of b rs) i.gathered.done (ItemsAre c a b 0 manner.Either none_gathered as' i) (WholeArray c a b as' i.partial) refl h
    (λ ys z v.
    let same : z.qs ≡ rs = is_injective z.qs rs (sym z.ended ∙ e) in
    let there = subst (λ zs. ArrayParts c a b 0 manner.Either zs z.xs as' z.qs ys i.partial) (sym (is_injective [] z.rs z.ranges)) z.parts in
    let here = subst (λ zs. ArrayParts c a b 0 manner.Either [] zs as' z.qs ys i.partial) (sym (is_injective [] z.xs z.done)) there in
    record { ranges = rs; parts = subst (λ zs. ArrayParts c a b 0 manner.Either [] [] as' zs ys i.partial) same here; covers = v })

array_accepts : (c : Scope) (p : Place) (k j t : ℕ) (b : Bounds) (as' : tree.Args) → form_at c.world k ≡ Some (form.Array j (Some b) t) → ArgsGood c as'
    → Accepts (array_aggregate c p k (record { index = j; bounds = Some b; item = t }) b (args c as')) (Aggregates c p (want.Subtype k) as')
array_accepts c p k j t b as' e h =
    let a : Array = record { index = j; bounds = Some b; item = t } in
    let i = items c a b 0 manner.Either none_gathered (args c as') in
    let n : List (Association Expr) → ExprNode Expr = λ xs. node.Aggregate composite.Array b xs in
    then_accepts (WholeArray c a b as' i.partial) (Aggregates c p (want.Subtype k) as') (items_covered c p b (args c as') i) (λ xs. seen_as c p k (n xs))
    (covered_finds c p a b as' i i.gathered.ranges refl (all_items c a b 0 manner.Either none_gathered as' (record { ranges = []; is = refl }) h))
    (λ xs z. accepts_map (demanded.Makes c.world p k (n xs)) (Aggregates c p (want.Subtype k) as') (λ v y. rule.array_of_subtype c p k j t b as' z.ranges xs i.partial v e z.parts z.covers y) (seen_as c p k (n xs)) (makes_accepts c p k (n xs)))

-- ---- all of them

type_accepts : (c : Scope) (p : Place) (t : ℕ) (as' : tree.Args) (m : Option Form) → ArgsGood c as' → Accepts (aggregate_as c p t m (args c as')) (Aggregates c p (want.Type t) as')
type_accepts c p t as' None h = unknown_accepts (Aggregates c p (want.Type t) as') c (args c as')
type_accepts c p t as' (Some f) h =
    record_accepts c p t as' (components_at c.world t) (Aggregates c p (want.Type t) as') refl h (λ cs xs v e z y. rule.record_of_type c p t as' cs xs v e z y)

record_subtype_accepts : (c : Scope) (p : Place) (k : ℕ) (as' : tree.Args) → ArgsGood c as' → Accepts (record_by c p k (components_at c.world k) (args c as')) (Aggregates c p (want.Subtype k) as')
record_subtype_accepts c p k as' h = record_accepts c p k as' (components_at c.world k) (Aggregates c p (want.Subtype k) as') refl h (λ cs xs v e z y. rule.record_of_subtype c p k as' cs xs v e z y)

subtype_accepts : (c : Scope) (p : Place) (k : ℕ) (as' : tree.Args) (m : Option Form) → form_at c.world k ≡ m → ArgsGood c as' → Accepts (aggregate_of c p k m (args c as')) (Aggregates c p (want.Subtype k) as')
subtype_accepts c p k as' None e h = unknown_accepts (Aggregates c p (want.Subtype k) as') c (args c as')
subtype_accepts c p k as' (Some (form.Array j (Some b) t)) e h = array_accepts c p k j t b as' e h
subtype_accepts c p k as' (Some (form.Array j None t)) e h = record_subtype_accepts c p k as' h
subtype_accepts c p k as' (Some (form.Number d s)) e h = record_subtype_accepts c p k as' h
subtype_accepts c p k as' (Some form.Truth) e h = record_subtype_accepts c p k as' h
subtype_accepts c p k as' (Some (form.Record j n)) e h = record_subtype_accepts c p k as' h

pub aggregate_accepts : (c : Scope) (w : Want) (p : Place) (as' : tree.Args) → ArgsGood c as' → Accepts (aggregate c p w (args c as')) (Aggregates c p w as')
aggregate_accepts c want.Free p as' h = tt
aggregate_accepts c want.Unknown p as' h = unknown_accepts (Aggregates c p want.Unknown as') c (args c as')
aggregate_accepts c (want.Type t) p as' h = type_accepts c p t as' (form_at c.world t) h
aggregate_accepts c (want.Subtype k) p as' h = subtype_accepts c p k as' (form_at c.world k) refl h

-- ---- qualifications

qualified_accepts : (c : Scope) (w : Want) (p : Place) (k : ℕ) (s : Span) (as' : tree.Args) (v : Found (Fitted Expr)) → Finds v (Qualifies c k s as')
    → Accepts (qualified_as c p k v) (λ u. rule.Step c w p (prefix.Subtype k) (tree.ticked s (tree.qualified as')) (prefix.Value u))
qualified_accepts c w p k s as' v h =
    then_accepts (Qualifies c k s as') (λ u. rule.Step c w p (prefix.Subtype k) (tree.ticked s (tree.qualified as')) (prefix.Value u)) v (λ x. seen_as c p k (qualified_node x x.bounds (out-Expr x.value).node)) h
    (λ x i.
    let n = qualified_node x x.bounds (out-Expr x.value).node in
    accepts_map (demanded.Makes c.world p k n) (λ u. rule.Step c w p (prefix.Subtype k) (tree.ticked s (tree.qualified as')) (prefix.Value u)) (λ u j. rule.qualified c w p k s as' x u i j) (seen_as c p k n) (makes_accepts c p k n))

pub qualified_step : (c : Scope) (w : Want) (p : Place) (k : ℕ) (s : Span) (as' : tree.Args) → ArgsGood c as'
    → Accepts (qualified_by c p k (c.place s.from) (args c as') (only_operand (args c as'))) (λ u. rule.Step c w p (prefix.Subtype k) (tree.ticked s (tree.qualified as')) (prefix.Value u))
qualified_step c w p k s as' h =
    let a = aggregate c (c.place s.from) (want.Subtype k) (args c as') in
    let q = c.place s.from in
    only_cases c as' (λ o. Accepts (qualified_by c p k (c.place s.from) (args c as') o) (λ u. rule.Step c w p (prefix.Subtype k) (tree.ticked s (tree.qualified as')) (prefix.Value u))) h
    (λ e. qualified_accepts c w p k s as' (fit c.world code.L18 false k q a)
    (finds_map (λ x. Fits c.world false k q a x × Aggregates c q (want.Subtype k) as' a) (Qualifies c k s as') (λ x z. rule.by_aggregate c k s as' a x e z.1 z.0) (fit c.world code.L18 false k q a) (fit_finds c.world code.L18 false k q a (Aggregates c q (want.Subtype k) as') (aggregate_accepts c (want.Subtype k) q as' h))))
    (λ i only good.
    let u = seen_of c (item c i) (want.Subtype k) in
    let r = place_of c (item c i) in
    qualified_accepts c w p k s as' (fit c.world code.L18 false k r u)
    (finds_map (λ x. Fits c.world false k r u x × ItemHas c (want.Subtype k) i u) (Qualifies c k s as') (λ x z. rule.by_value c k s as' i u x only z.1 z.0) (fit c.world code.L18 false k r u)
    (fit_finds c.world code.L18 false k r u (ItemHas c (want.Subtype k) i) (item_accepts c i (want.Subtype k) good))))
