-- What is asked of names, values, conditions, ranges and pragmas is so of what is accepted.
use Rattle.std.proofs.Common.{◌≡◌, refl, subst, ap, sym, ◌∙◌, ℕ, Bool, true, List, [], ◌∷◌, Option, Some, None}
use Rattle.ada_text.specs.declared.token.Span.{Span}
use Rattle.ada_values.specs.declared.place.Place.{Place}
use Rattle.ada_values.specs.declared.values.Value.TheVariants as value
use Rattle.front_codes.specs.declared.codes.Code.{Code}
use Rattle.front_codes.specs.declared.codes.Code.TheVariants as code
use Rattle.name_numbers.specs.declared.words.Word.{Word}
use Rattle.name_numbers.specs.declared.words.Word.TheVariants as word
use Rattle.syntax_view.specs.Trees as tree
use Rattle.typed_units.specs.declared.expressions.Expr.{Expr}
use Rattle.typed_units.specs.declared.expressions.ExprNode.TheVariants as node
use Rattle.typed_units.specs.declared.statements.Direction.{Direction}
use Rattle.typed_units.specs.declared.statements.Way.{Way}
use Rattle.type_base.specs.Scope.{Scope}
use Rattle.type_base.specs.declared.seen.Demand.TheVariants as demand
use Rattle.type_base.specs.declared.seen.Seen.{Seen}
use Rattle.type_base.specs.declared.seen.Seen.TheVariants as seen'
use Rattle.type_base.specs.declared.seen.Want.{Want}
use Rattle.type_base.specs.declared.seen.Want.TheVariants as want
use Rattle.type_base.specs.declared.world.Formal.{Formal}
use Rattle.type_base.specs.declared.world.Routine.{Routine}
use Rattle.type_base.specs.Demands.{made, operand, placed_number}
use Rattle.type_base.specs.Lookups.{routine_at}
use Rattle.type_base.specs.Standard.{boolean, integer_base}
use Rattle.typing_rules.specs.declared.prefix.Between.{Between}
use Rattle.typing_rules.specs.declared.prefix.Call.{Call}
use Rattle.typing_rules.specs.declared.prefix.Found.{Found}
use Rattle.typing_rules.specs.declared.prefix.Found.TheVariants as found
use Rattle.typing_rules.specs.declared.prefix.Prefix.{Prefix}
use Rattle.typing_rules.specs.declared.prefix.Prefix.TheVariants as prefix
use Rattle.typing_rules.specs.declared.prefix.Reach.{Reach}
use Rattle.typing_rules.specs.declared.prefix.Reach.TheVariants as reach
use Rattle.typing_rules.specs.Calls.{writable}
use Rattle.typing_rules.specs.Fits.{fit, found_then}
use Rattle.typing_rules.specs.Ranges.{reach_in, reach_of}
use Rattle.typing_rules.specs.Reading as reading
use Rattle.typing_rules.specs.Reading.{call_made, called, call_seen, item_seen, lone_call, name_seen, no_call, procedure_call, seen, target_seen}
use Rattle.typing_rules.specs.Values.{formals_of, no_arguments, value_of}
use Rattle.expression_rules.specs.Rules.{IsAs}
use Rattle.typing_rules.specs.Lookups.{type_of}
use Rattle.statement_typing.specs.Asked.{is_wanted, item_place, low_place, number_type, of_wanted, place_of, range_seen}
use Rattle.statement_typing.specs.Aspects.{condition, item_condition, truth_seen}
use Rattle.statement_typing.specs.Checks.{added, and_also, refuse}
use Rattle.statement_typing.specs.Pragmas.{as_integer, checked, checked_arg, checked_by, choice_word, direction_of, integer_seen, moved_value, no_more, way, way_by, ways, ways_onto}
use Rattle.statement_typing.specs.Statements.{tested}
use Rattle.statement_typing.specs.Subtypes.{part}
use Rattle.typing_relations.specs.Demanded as demanded
use Rattle.typing_relations.specs.Demanded.{Fits, OfType, TakesNumber}
use Rattle.typing_relations.specs.Obeys as rule
use Rattle.typing_relations.specs.Obeys.{Condition, Has, ItemHas, Reaches, Stands}
use Rattle.typing_relations.proofs.Accepting.{Accepts, Allows, Finds, Reached, accepts_map, finds_itself, finds_map, found_as, with_finds}
use Rattle.typing_relations.proofs.Forms.{reaches}
use Rattle.typing_relations.proofs.Names.{name_follows}
use Rattle.typing_relations.proofs.Parts.{expr_accepts, item_accepts, variable_finds}
use Rattle.typing_relations.proofs.Trees.{expr_good, item_good, range_good, suffixes_good}
use Rattle.typing_relations.proofs.Values.{fit_finds, operand_accepts, placed_accepts}
use Rattle.statement_relations.specs.Asks as asks
use Rattle.statement_relations.specs.Asks.{Calls, Checks, Counts, IsFor, ItemHolds, NameStands, Ranges, Targets, Ways}
use Rattle.statement_relations.proofs.Parted.{IsAdded, added_is, and_also_both, and_also_left, unless_finds}

-- ---- names

pub name_allows : (c : Scope) (n : tree.Name) → Allows (name_seen c want.Free n) (NameStands c n)
name_allows c (tree.named s i ss) = name_follows c want.Free s s i ss (suffixes_good c ss)

pub targets_finds : (c : Scope) (n : tree.Name) → Finds (target_seen c n) (Targets c n)
targets_finds c (tree.named s i ss) =
    let n = tree.named s i ss in
    finds_map (λ g. NameStands c n (prefix.Part g) × (writable g.access ≡ true)) (Targets c n) (λ g h. record { stands = h.0; variable = h.1 }) (target_seen c n)
    (variable_finds c code.L8 (c.place s.from) (name_seen c want.Free n) (NameStands c n) (name_allows c n))

no_call_finds : (P : Call → Type 0) (p : Place) (s : Seen) → Finds (no_call p s) P
no_call_finds P p (seen'.Refused f) = tt
no_call_finds P p seen'.Unknown = tt
no_call_finds P p (seen'.Number n) = tt
no_call_finds P p (seen'.Typed t x) = tt

abbrev IsCall : Scope → tree.Name → Call → Type 0
IsCall c n k = Calls c n k.routine k.arguments

lone_finds : (c : Scope) (n : tree.Name) (p : Place) (q : ℕ) (r : Routine) → NameStands c n (prefix.Routine q) → routine_at c.world q ≡ Some r → (k : Option ℕ) → r.result ≡ k → (fs : List Formal) → formals_of c.world r ≡ fs
    → Finds (procedure_call p q k (no_arguments p fs)) (IsCall c n)
lone_finds c n p q r h e None z [] o = asks.alone r h e z o
lone_finds c n p q r h e None z (f ∷ fs) o = tt
lone_finds c n p q r h e (Some k) z fs o = tt

routine_finds : (c : Scope) (n : tree.Name) (p : Place) (q : ℕ) → NameStands c n (prefix.Routine q) → (r : Option Routine) → routine_at c.world q ≡ r → Finds (lone_call c p q r) (IsCall c n)
routine_finds c n p q h None e = tt
routine_finds c n p q h (Some r) e = lone_finds c n p q r h e r.result refl (formals_of c.world r) refl

called_finds : (c : Scope) (n : tree.Name) (p : Place) (f : Prefix) → Allows f (NameStands c n) → Finds (called c p f) (IsCall c n)
called_finds c n p (prefix.Called q xs) h = with_finds (λ ys. NameStands c n (prefix.Called q (found.Is ys))) (IsCall c n) (call_made q) xs h (λ ys i. asks.with_arguments ys i)
called_finds c n p (prefix.Routine q) h = routine_finds c n p q h (routine_at c.world q) refl
called_finds c n p prefix.Package h = no_call_finds (IsCall c n) p (value_of c p prefix.Package)
called_finds c n p (prefix.Subtype k) h = no_call_finds (IsCall c n) p (value_of c p (prefix.Subtype k))
called_finds c n p (prefix.Mapping m t k) h = no_call_finds (IsCall c n) p (value_of c p (prefix.Mapping m t k))
called_finds c n p (prefix.Range b) h = no_call_finds (IsCall c n) p (value_of c p (prefix.Range b))
called_finds c n p (prefix.Constant t x) h = no_call_finds (IsCall c n) p (value_of c p (prefix.Constant t x))
called_finds c n p (prefix.Part g) h = no_call_finds (IsCall c n) p (value_of c p (prefix.Part g))
called_finds c n p (prefix.Value v) h = no_call_finds (IsCall c n) p (value_of c p (prefix.Value v))

pub calls_finds : (c : Scope) (n : tree.Name) → Finds (call_seen c n) (λ k. Calls c n k.routine k.arguments)
calls_finds c (tree.named s i ss) = called_finds c (tree.named s i ss) (c.place s.from) (name_seen c want.Free (tree.named s i ss)) (name_allows c (tree.named s i ss))

-- ---- values and conditions

pub has_accepts : (c : Scope) (w : Want) (e : tree.Expr) → Accepts (seen c w e) (Has c w e)
has_accepts c w e = expr_accepts c e w (expr_good c e)

pub is_for : (c : Scope) (r : Code) (whole : Bool) (k : ℕ) (e : tree.Expr) → Finds (part c (want.Subtype k) e (fit c.world r whole k (place_of c e))) (IsFor c whole k e)
is_for c r whole k e =
    let s = seen c (want.Subtype k) e in
    finds_map (λ v. Fits c.world whole k (place_of c e) s v × Has c (want.Subtype k) e s) (IsFor c whole k e) (λ v h. record { value = s; has = h.1; fits = h.0 })
    (fit c.world r whole k (place_of c e) s) (fit_finds c.world r whole k (place_of c e) s (Has c (want.Subtype k) e) (has_accepts c (want.Subtype k) e))

truth_finds : (P : Expr → Type 0) (r : Code) (p : Place) (s : Seen) → Accepts s (λ v. (t : ℕ) (x : Expr) → v ≡ seen'.Typed t x → P x) → Finds (truth_seen r p s) P
truth_finds P r p (seen'.Refused f) h = tt
truth_finds P r p seen'.Unknown h = tt
truth_finds P r p (seen'.Number n) h = tt
truth_finds P r p (seen'.Typed t x) h = h t x refl

pub condition_holds : (c : Scope) (r : Code) (e : tree.Expr) → Finds (condition c.world r (place_of c e) (seen c (want.Type boolean) e)) (Condition c e)
condition_holds c r e =
    let s = seen c (want.Type boolean) e in
    let p = place_of c e in
    let w = want.Type boolean in
    truth_finds (Condition c e) r p (operand c.world demand.Truth r p s)
    (accepts_map (λ v. Has c w e v × IsAs c.world demand.Truth v) (λ v. (t : ℕ) (x : Expr) → v ≡ seen'.Typed t x → Condition c e x)
    (λ v z t x same. rule.condition c e t x (subst (Has c w e) same z.0) (subst (IsAs c.world demand.Truth) same z.1))
    (operand c.world demand.Truth r p s) (operand_accepts c.world demand.Truth r p s (Has c w e) (has_accepts c w e)))

pub tested_finds : (c : Scope) (e : tree.Expr) → Finds (tested c e) (Condition c e)
tested_finds c e = condition_holds c code.L9 e

pub item_finds : (c : Scope) (w : Want) (i : tree.Item) → Accepts (item_seen c w i) (ItemHas c w i)
item_finds c w i = item_accepts c i w (item_good c i)

pub item_holds : (c : Scope) (r : Code) (i : tree.Item) → Finds (item_condition c r i) (ItemHolds c i)
item_holds c r i =
    let s = item_seen c (want.Type boolean) i in
    let p = item_place c i in
    let w = want.Type boolean in
    truth_finds (ItemHolds c i) r p (operand c.world demand.Truth r p s)
    (accepts_map (λ v. ItemHas c w i v × IsAs c.world demand.Truth v) (λ v. (t : ℕ) (x : Expr) → v ≡ seen'.Typed t x → ItemHolds c i x)
    (λ v z t x same. record { type = t; has = subst (ItemHas c w i) same z.0; truth = subst (IsAs c.world demand.Truth) same z.1 })
    (operand c.world demand.Truth r p s) (operand_accepts c.world demand.Truth r p s (ItemHas c w i) (item_finds c w i)))

-- ---- ranges

wanted_by : (c : Scope) (r : Code) (w : Want) (g : tree.Range) (u : Reach) → Reaches c r w g u → (b : Found Between) → reach_in c r (number_type w) (reading.range c g) u ≡ b → Finds (found_then b (of_wanted c r w g)) (Ranges c r w g)
wanted_by c r w g u h (found.Refused f) e = tt
wanted_by c r w g u h found.Unknown e = tt
wanted_by c r w g u h (found.Is b) e =
    finds_map (λ z. (is_wanted w (type_of c.world b.subtype) ≡ true) × (z ≡ b)) (Ranges c r w g) (λ z i. record { reach = u; reaches = h; is = e ∙ ap found.Is (sym i.1); wanted = subst (λ (y : Between). is_wanted w (type_of c.world y.subtype) ≡ true) (sym i.1) i.0 })
    (of_wanted c r w g b) (unless_finds (is_wanted w (type_of c.world b.subtype)) r (low_place c g) b)

range_by : (c : Scope) (r : Code) (w : Want) (g : tree.Range) (u : Reach) → Reached u (Reaches c r w g) → Finds (found_then (reach_in c r (number_type w) (reading.range c g) u) (of_wanted c r w g)) (Ranges c r w g)
range_by c r w g (reach.Refused f) h = tt
range_by c r w g reach.Unknown h = tt
range_by c r w g (reach.Numbers a b) h = wanted_by c r w g (reach.Numbers a b) h (reach_in c r (number_type w) (reading.range c g) (reach.Numbers a b)) refl
range_by c r w g (reach.Between b) h = wanted_by c r w g (reach.Between b) h (reach_in c r (number_type w) (reading.range c g) (reach.Between b)) refl

pub ranges_finds : (c : Scope) (r : Code) (w : Want) (g : tree.Range) → Finds (range_seen c r w g) (Ranges c r w g)
ranges_finds c r w g = range_by c r w g (reach_of c r w (reading.range c g)) (reaches c r w g (range_good c g))

-- ---- pragmas

checked_finds_by : (word' : ℕ → Option Word) (c : Scope) (s : Span) (k : tree.ArgChoice) (i : tree.Item) (o : Option Word) → choice_word word' k ≡ o
    → Finds (checked_by c (c.place s.from) o i) (λ x. (choice_word word' k ≡ Some word.Check) × ItemHolds c i x)
checked_finds_by word' c s k i (Some word.Check) e = finds_map (ItemHolds c i) (λ x. (choice_word word' k ≡ Some word.Check) × ItemHolds c i x) (λ x h. (e, h)) (item_condition c code.L9 i) (item_holds c code.L9 i)
checked_finds_by word' c s k i o e =
    and_also_left (λ x. (choice_word word' k ≡ Some word.Check) × ItemHolds c i x) (refuse code.L9 (c.place s.from)) (item_condition c code.L9 i) tt

-- the one argument, after which no other stands
one_checked : (word' : ℕ → Option Word) (c : Scope) (a : tree.Arg) (as' : tree.Args) (P : Expr → Type 0) → Finds (checked_arg word' c a) P → Finds (and_also (checked_arg word' c a) (no_more c as')) (λ x. P x × (as' ≡ tree.no_args))
one_checked word' c a tree.no_args P h = and_also_both P (tree.no_args ≡ tree.no_args) (checked_arg word' c a) (no_more c tree.no_args) h refl
one_checked word' c a (tree.args (tree.arg s k v) as') P h =
    and_also_both P (tree.args (tree.arg s k v) as' ≡ tree.no_args) (checked_arg word' c a) (no_more c (tree.args (tree.arg s k v) as')) h tt

named_checks : (word' : ℕ → Option Word) (c : Scope) (s : Span) (k : tree.ArgChoice) (i : tree.Item) (as' : tree.Args)
    → Finds (checked_by c (c.place s.from) (choice_word word' k) i) (λ x. (choice_word word' k ≡ Some word.Check) × ItemHolds c i x)
    → checked_arg word' c (tree.arg s k (tree.value i)) ≡ checked_by c (c.place s.from) (choice_word word' k) i
    → Finds (and_also (checked_arg word' c (tree.arg s k (tree.value i))) (no_more c as')) (Checks word' c (tree.args (tree.arg s k (tree.value i)) as'))
named_checks word' c s k i as' h e =
    finds_map (λ x. ((choice_word word' k ≡ Some word.Check) × ItemHolds c i x) × (as' ≡ tree.no_args)) (Checks word' c (tree.args (tree.arg s k (tree.value i)) as'))
    (λ x z. subst (λ (r : tree.Args). Checks word' c (tree.args (tree.arg s k (tree.value i)) r) x) (sym z.1) (asks.named s k i x z.0.0 z.0.1))
    (and_also (checked_arg word' c (tree.arg s k (tree.value i))) (no_more c as'))
    (one_checked word' c (tree.arg s k (tree.value i)) as' (λ x. (choice_word word' k ≡ Some word.Check) × ItemHolds c i x)
    (subst (λ (y : Found Expr). Finds y (λ x. (choice_word word' k ≡ Some word.Check) × ItemHolds c i x)) (sym e) h))

pub checks_finds : (word' : ℕ → Option Word) (c : Scope) (p : Place) (as' : tree.Args) → Finds (checked word' c p as') (Checks word' c as')
checks_finds word' c p tree.no_args = tt
checks_finds word' c p (tree.args (tree.arg s (tree.part i) tree.no_value) as') =
    finds_map (λ x. ItemHolds c i x × (as' ≡ tree.no_args)) (Checks word' c (tree.args (tree.arg s (tree.part i) tree.no_value) as'))
    (λ x z. subst (λ (r : tree.Args). Checks word' c (tree.args (tree.arg s (tree.part i) tree.no_value) r) x) (sym z.1) (asks.alone s i x z.0))
    (and_also (checked_arg word' c (tree.arg s (tree.part i) tree.no_value)) (no_more c as'))
    (one_checked word' c (tree.arg s (tree.part i) tree.no_value) as' (ItemHolds c i) (item_holds c code.L9 i))
checks_finds word' c p (tree.args (tree.arg s tree.other_parts tree.no_value) as') = and_also_left (Checks word' c (tree.args (tree.arg s tree.other_parts tree.no_value) as')) (refuse code.L9 (c.place s.from)) (no_more c as') tt
checks_finds word' c p (tree.args (tree.arg s (tree.parts l h) tree.no_value) as') = and_also_left (Checks word' c (tree.args (tree.arg s (tree.parts l h) tree.no_value) as')) (refuse code.L9 (c.place s.from)) (no_more c as') tt
checks_finds word' c p (tree.args (tree.arg s (tree.part j) (tree.value i)) as') = named_checks word' c s (tree.part j) i as' (checked_finds_by word' c s (tree.part j) i (choice_word word' (tree.part j)) refl) refl
checks_finds word' c p (tree.args (tree.arg s tree.other_parts (tree.value i)) as') = named_checks word' c s tree.other_parts i as' (checked_finds_by word' c s tree.other_parts i (choice_word word' tree.other_parts) refl) refl
checks_finds word' c p (tree.args (tree.arg s (tree.parts l h) (tree.value i)) as') = named_checks word' c s (tree.parts l h) i as' (checked_finds_by word' c s (tree.parts l h) i (choice_word word' (tree.parts l h)) refl) refl

integer_finds : (P : Expr → Type 0) (p : Place) (s : Seen) → Accepts s (λ v. (t : ℕ) (x : Expr) → v ≡ seen'.Typed t x → P x) → Finds (integer_seen p s) P
integer_finds P p (seen'.Refused f) h = tt
integer_finds P p seen'.Unknown h = tt
integer_finds P p (seen'.Number n) h = tt
integer_finds P p (seen'.Typed t x) h = h t x refl

counts_by : (c : Scope) (i : tree.Item) (s : Seen) → Accepts s (λ v. ItemHas c want.Free i v × IsAs c.world demand.Integer v) → Finds (integer_seen (item_place c i) (as_integer c.world (item_place c i) s)) (Counts c i)
counts_by c i (seen'.Refused f) h = tt
counts_by c i seen'.Unknown h = tt
counts_by c i (seen'.Number n) h =
    let p = item_place c i in
    integer_finds (Counts c i) p (placed_number c.world code.L25 p p integer_base n)
    (placed_accepts c.world code.L25 p p integer_base n (λ v. (t : ℕ) (x : Expr) → v ≡ seen'.Typed t x → Counts c i x)
    (λ takes t x e. asks.universal n x h.0 (taken takes t x e)))
  where
    taken : TakesNumber c.world integer_base n → (t : ℕ) (x : Expr)
        → seen'.Typed integer_base (made (item_place c i) integer_base (node.Static (value.Int n))) ≡ seen'.Typed t x → OfType c.world integer_base (item_place c i) (seen'.Number n) x
    taken takes t x e =
        let same : made (item_place c i) integer_base (node.Static (value.Int n)) ≡ x = cc in
        subst (OfType c.world integer_base (item_place c i) (seen'.Number n)) same (demanded.taking_type n takes)
counts_by c i (seen'.Typed t x) h = asks.typed t x h.0 h.1

counts_finds : (c : Scope) (i : tree.Item) → Finds (moved_value c.world (item_place c i) (item_seen c want.Free i)) (Counts c i)
counts_finds c i =
    counts_by c i (operand c.world demand.Integer code.L25 (item_place c i) (item_seen c want.Free i))
    (operand_accepts c.world demand.Integer code.L25 (item_place c i) (item_seen c want.Free i) (ItemHas c want.Free i) (item_finds c want.Free i))

-- a direction with an integer
abbrev IsWay : (ℕ → Option Word) → Scope → tree.ArgChoice → tree.Item → Way → Type 0
IsWay word' c k i w = (direction_of (choice_word word' k) ≡ Some w.direction) × Counts c i w.value

way_finds : (word' : ℕ → Option Word) (c : Scope) (s : Span) (k : tree.ArgChoice) (i : tree.Item) (o : Option Direction) → direction_of (choice_word word' k) ≡ o → Finds (way_by c (c.place s.from) o i) (IsWay word' c k i)
way_finds word' c s k i (Some d) e =
    with_finds (Counts c i) (IsWay word' c k i) (λ x. record { direction = d; value = x }) (moved_value c.world (item_place c i) (item_seen c want.Free i)) (counts_finds c i) (λ x h. (e, h))
way_finds word' c s k i None e = and_also_left (IsWay word' c k i) (refuse code.L25 (c.place s.from)) (moved_value c.world (item_place c i) (item_seen c want.Free i)) tt

pub ways_onto_finds : (word' : ℕ → Option Word) (c : Scope) (done : Found (List Way)) (as' : tree.Args) → Finds (ways_onto word' c done as') (λ ys. (xs : List Way) × (done ≡ found.Is xs) × Ways word' c xs as' ys)
ways_onto_finds word' c done tree.no_args = finds_map (λ ys. done ≡ found.Is ys) (λ ys. (xs : List Way) × (done ≡ found.Is xs) × Ways word' c xs tree.no_args ys) (λ ys e. (ys, e, asks.no_more ys)) done (finds_itself done)
ways_onto_finds word' c done (tree.args (tree.arg s k (tree.value i)) as') =
    let a = tree.arg s k (tree.value i) in
    let more = added done (way word' c a) in
    finds_map (λ ys. (xs : List Way) × (more ≡ found.Is xs) × Ways word' c xs as' ys) (λ ys. (xs : List Way) × (done ≡ found.Is xs) × Ways word' c xs (tree.args a as') ys)
    (λ ys h. one ys h.0 (added_is done (way word' c a) h.0 h.1) h.2) (ways_onto word' c more as') (ways_onto_finds word' c more as')
  where
    one : (ys zs : List Way) → IsAdded done (way word' c (tree.arg s k (tree.value i))) zs → Ways word' c zs as' ys → (xs : List Way) × (done ≡ found.Is xs) × Ways word' c xs (tree.args (tree.arg s k (tree.value i)) as') ys
    one ys zs d h =
        let is : IsWay word' c k i d.item = found_as (IsWay word' c k i) (way word' c (tree.arg s k (tree.value i))) d.item d.is_item (way_finds word' c s k i (direction_of (choice_word word' k)) refl) in
        (d.before, d.is_before, asks.one_more d.before ys s k i d.item.direction d.item.value as' is.0 is.1 (subst (λ (l : List Way). Ways word' c l as' ys) d.together h))
ways_onto_finds word' c done (tree.args (tree.arg s k tree.no_value) as') =
    let a = tree.arg s k tree.no_value in
    let more = added done (way word' c a) in
    finds_map (λ ys. (xs : List Way) × (more ≡ found.Is xs) × Ways word' c xs as' ys) (λ ys. (xs : List Way) × (done ≡ found.Is xs) × Ways word' c xs (tree.args a as') ys)
    (λ ys h. none ys h.0 (added_is done (way word' c a) h.0 h.1)) (ways_onto word' c more as') (ways_onto_finds word' c more as')
  where
    none : (ys zs : List Way) → IsAdded done (way word' c (tree.arg s k tree.no_value)) zs → (xs : List Way) × (done ≡ found.Is xs) × Ways word' c xs (tree.args (tree.arg s k tree.no_value) as') ys
    none ys zs d = let no = d.is_item in cc

abbrev none_done : Found (List Way)
none_done = found.Is []

started : (word' : ℕ → Option Word) (c : Scope) (as' : tree.Args) (ys xs : List Way) → none_done ≡ found.Is xs → Ways word' c xs as' ys → Ways word' c [] as' ys
started word' c as' ys xs e h = let same : xs ≡ [] = cc in subst (λ (l : List Way). Ways word' c l as' ys) same h

pub ways_finds : (word' : ℕ → Option Word) (c : Scope) (p : Place) (as' : tree.Args) → Finds (ways word' c p as') (Ways word' c [] as')
ways_finds word' c p tree.no_args = tt
ways_finds word' c p (tree.args a as') =
    finds_map (λ ys. (xs : List Way) × (found.Is [] ≡ found.Is xs) × Ways word' c xs (tree.args a as') ys) (Ways word' c [] (tree.args a as')) (λ ys h. started word' c (tree.args a as') ys h.0 h.1 h.2)
    (ways_onto word' c (found.Is []) (tree.args a as')) (ways_onto_finds word' c (found.Is []) (tree.args a as'))
