-- The selector and the choices of a `case` that are accepted obey their rules.
use Rattle.std.proofs.Common.{◌≡◌, refl, subst, ap, sym, ◌∙◌, ℕ, ℤ, Bool, true, false, List, [], ◌∷◌, ◌++◌, map, Option, Some, None, append-nil, append_assoc}
use Rattle.std.specs.Prelude.{◌==◌, ◌||◌, if◌then◌else◌}
use Rattle.std.proofs.lemmas.Bool.{eqb-true}
use Rattle.ada_values.specs.declared.place.Place.{Place}
use Rattle.ada_values.specs.declared.values.Value.TheVariants as value
use Rattle.front_codes.specs.declared.codes.Code.TheVariants as code
use Rattle.syntax_view.specs.Trees as tree
use Rattle.typed_units.specs.declared.expressions.Expr.{Expr}
use Rattle.typed_units.specs.declared.expressions.ExprNode.TheVariants as node
use Rattle.typed_units.specs.declared.operators.Bounds.{Bounds}
use Rattle.type_base.specs.Scope.{Scope}
use Rattle.type_base.specs.declared.seen.Demand.TheVariants as demand
use Rattle.type_base.specs.declared.seen.Seen.{Seen}
use Rattle.type_base.specs.declared.seen.Seen.TheVariants as seen'
use Rattle.type_base.specs.declared.seen.Want.TheVariants as want
use Rattle.type_base.specs.declared.world.World.{World}
use Rattle.type_base.specs.Demands.{bounds_at, made, operand, placed_number}
use Rattle.type_base.specs.Results.{number_in}
use Rattle.typing_rules.specs.declared.prefix.Between.{Between}
use Rattle.typing_rules.specs.declared.prefix.Found.{Found}
use Rattle.typing_rules.specs.declared.prefix.Found.TheVariants as found
use Rattle.typing_rules.specs.Fits.{found_then}
use Rattle.typing_rules.specs.Reading.{seen}
use Rattle.statement_typing.specs.declared.parts.Selected.{Selected}
use Rattle.statement_typing.specs.declared.parts.Spread.{Spread}
use Rattle.statement_typing.specs.Asked.{high_place, low_place, name_prefix, place_of, range_seen}
use Rattle.statement_typing.specs.Checks.{added, all_of, all_onto}
use Rattle.statement_typing.specs.Choices.{any_others, choice_seen, cover_by, covered, distinct, fresh, in_parentheses, is_range, is_whole, new_values, range_choice, selected_as, selector, single, spreads, spreads_in, static_between, stretch, value_choice, values_after}
use Rattle.statement_typing.specs.Subtypes.{bounds, part, static_in, static_number, static_seen, value_of_type}
use Rattle.typing_relations.specs.Demanded as demanded
use Rattle.typing_relations.specs.Demanded.{IsStatic, OfType, TakesNumber}
use Rattle.typing_relations.specs.Obeys.{Has}
use Rattle.expression_rules.specs.Rules.{IsAs}
use Rattle.typing_relations.proofs.Accepting.{Accepts, Finds, both_finds, finds_itself, finds_map, found_as, then_finds, with_finds}
use Rattle.typing_relations.proofs.Values.{operand_accepts, placed_accepts}
use Rattle.statement_relations.specs.Asks as asks
use Rattle.statement_relations.specs.Asks.{AllChoose, AllNew, AlternativesChoose, Chooses, Covers, Ranges, Selects}
use Rattle.statement_relations.proofs.Asking.{has_accepts, ranges_finds}
use Rattle.statement_relations.proofs.Parted.{IsAdded, added_is, all_onto_parts, unless_finds}

-- ---- the selector

selected_by : (c : Scope) (e : tree.Expr) (s : Seen) → Accepts s (λ v. Has c want.Free e v × IsAs c.world demand.Ordered v) → Finds (selected_as (in_parentheses e) (place_of c e) s) (Selects c e)
selected_by c e (seen'.Refused f) h = tt
selected_by c e seen'.Unknown h = tt
selected_by c e (seen'.Number n) h = tt
selected_by c e (seen'.Typed t x) h = record { type = t; value = x; has = h.0; ordered = h.1; is = refl }

pub selects_finds : (c : Scope) (e : tree.Expr) → Finds (part c want.Free e (selector c e)) (Selects c e)
selects_finds c e =
    selected_by c e (operand c.world demand.Ordered code.L21 (place_of c e) (seen c want.Free e))
    (operand_accepts c.world demand.Ordered code.L21 (place_of c e) (seen c want.Free e) (Has c want.Free e) (has_accepts c want.Free e))

-- ---- static values

static_finds : (P : ℤ → Type 0) (p : Place) (m : Option ℤ) → ((n : ℤ) → m ≡ Some n → P n) → Finds (static_number code.L21 p m) P
static_finds P p None h = tt
static_finds P p (Some n) h = h n refl

static_in_finds : (w : World) (t : ℕ) (p : Place) (u : Seen) (x : Expr) → OfType w t p u x → Finds (static_in code.L21 p x) (IsStatic w t p u)
static_in_finds w t p u x h = static_finds (IsStatic w t p u) p (number_in x) (λ n e. record { value = x; of_type = h; is = e })

typed_finds : (w : World) (t u : ℕ) (p : Place) (x : Expr) (b : Bool) → (t == u) ≡ b → Finds (if b then static_in code.L21 p x else found.Refused (record { code = code.L21; place = p })) (IsStatic w t p (seen'.Typed u x))
typed_finds w t u p x false e = tt
typed_finds w t u p x true e =
    let same : t ≡ u = eqb-true t u e in
    static_in_finds w t p (seen'.Typed u x) x (subst (λ (j : ℕ). OfType w t p (seen'.Typed j x) x) same (demanded.of_this_type x))

seen_static : (w : World) (t : ℕ) (p : Place) (n : ℤ) (s : Seen) → Accepts s (λ v. (j : ℕ) (x : Expr) → v ≡ seen'.Typed j x → OfType w t p (seen'.Number n) x) → Finds (static_seen code.L21 p s) (IsStatic w t p (seen'.Number n))
seen_static w t p n (seen'.Refused f) h = tt
seen_static w t p n seen'.Unknown h = tt
seen_static w t p n (seen'.Number m) h = tt
seen_static w t p n (seen'.Typed j x) h = static_in_finds w t p (seen'.Number n) x (h j x refl)

value_by : (w : World) (t : ℕ) (p : Place) (s : Seen) (P : Seen → Type 0) → Accepts s P → Finds (value_of_type w code.L21 t p s) (λ n. P s × IsStatic w t p s n)
value_by w t p (seen'.Refused f) P h = tt
value_by w t p seen'.Unknown P h = tt
value_by w t p (seen'.Number n) P h =
    finds_map (IsStatic w t p (seen'.Number n)) (λ m. P (seen'.Number n) × IsStatic w t p (seen'.Number n) m) (λ m i. (h, i)) (static_seen code.L21 p (placed_number w code.L21 p p t n))
    (seen_static w t p n (placed_number w code.L21 p p t n)
    (placed_accepts w code.L21 p p t n (λ v. (j : ℕ) (x : Expr) → v ≡ seen'.Typed j x → OfType w t p (seen'.Number n) x) (λ takes j x e. taken takes j x e)))
  where
    taken : TakesNumber w t n → (j : ℕ) (x : Expr) → seen'.Typed t (made p t (node.Static (value.Int n))) ≡ seen'.Typed j x → OfType w t p (seen'.Number n) x
    taken takes j x e =
        let same : made p t (node.Static (value.Int n)) ≡ x = cc in
        subst (OfType w t p (seen'.Number n)) same (demanded.taking_type n takes)
value_by w t p (seen'.Typed u x) P h =
    finds_map (IsStatic w t p (seen'.Typed u x)) (λ m. P (seen'.Typed u x) × IsStatic w t p (seen'.Typed u x) m) (λ m i. (h, i)) (value_of_type w code.L21 t p (seen'.Typed u x))
    (typed_finds w t u p x (t == u) refl)

-- ---- choices

value_chosen : (c : Scope) (t : ℕ) (e : tree.Expr) → Finds (value_choice c (want.Type t) e) (Chooses c t (tree.range e tree.no_expr))
value_chosen c t e =
    let s = seen c (want.Type t) e in
    with_finds (λ n. Has c (want.Type t) e s × IsStatic c.world t (place_of c e) s n) (Chooses c t (tree.range e tree.no_expr)) (single (place_of c e)) (value_of_type c.world code.L21 t (place_of c e) s)
    (value_by c.world t (place_of c e) s (Has c (want.Type t) e) (has_accepts c (want.Type t) e)) (λ n h. asks.one_value e s n h.0 h.1)

bound_finds : (p : Place) (x : Expr) → Finds (static_in code.L21 p x) (λ n. number_in x ≡ Some n)
bound_finds p x = static_finds (λ n. number_in x ≡ Some n) p (number_in x) (λ n e. e)

range_chosen : (c : Scope) (t : ℕ) (g : tree.Range) → Finds (range_choice c (want.Type t) g) (Chooses c t g)
range_chosen c t g =
    let r = range_seen c code.L21 (want.Type t) g in
    let Are : Bounds → Type 0 = λ b. (o : Between) × (m n : ℤ) × Ranges c code.L21 (want.Type t) g o × (number_in o.low ≡ Some m) × (number_in o.high ≡ Some n) × (b ≡ bounds m n) in
    with_finds Are (Chooses c t g) (stretch (low_place c g)) (found_then r (static_between c g))
    (then_finds (Ranges c code.L21 (want.Type t) g) Are r (static_between c g) (ranges_finds c code.L21 (want.Type t) g)
    (λ o h. both_finds (λ m. number_in o.low ≡ Some m) (λ n. number_in o.high ≡ Some n) Are bounds (static_in code.L21 (low_place c g) o.low) (static_in code.L21 (high_place c g) o.high)
    (bound_finds (low_place c g) o.low) (bound_finds (high_place c g) o.high) (λ m n i k. (o, m, n, h, i, k, refl))))
    (λ b h. subst (λ (z : Bounds). Chooses c t g (stretch (low_place c g) z)) (sym h.6) (asks.values g h.0 h.1 h.2 h.3 h.4 h.5))

name_chosen : (c : Scope) (t : ℕ) (e : tree.Expr) (b : Bool) → Finds (if b then range_choice c (want.Type t) (tree.range e tree.no_expr) else value_choice c (want.Type t) e) (Chooses c t (tree.range e tree.no_expr))
name_chosen c t e true = range_chosen c t (tree.range e tree.no_expr)
name_chosen c t e false = value_chosen c t e

pub chosen_finds : (c : Scope) (t : ℕ) (g : tree.Range) → Finds (choice_seen c (want.Type t) g) (Chooses c t g)
chosen_finds c t (tree.range e (tree.an_expr h)) = range_chosen c t (tree.range e (tree.an_expr h))
chosen_finds c t (tree.range (tree.at s (tree.name n)) tree.no_expr) = name_chosen c t (tree.at s (tree.name n)) (is_range (name_prefix c n))
chosen_finds c t (tree.range (tree.at s (tree.number n)) tree.no_expr) = value_chosen c t (tree.at s (tree.number n))
chosen_finds c t (tree.range (tree.at s tree.null) tree.no_expr) = value_chosen c t (tree.at s tree.null)
chosen_finds c t (tree.range (tree.at s (tree.group as')) tree.no_expr) = value_chosen c t (tree.at s (tree.group as'))
chosen_finds c t (tree.range (tree.at s (tree.unary q o a)) tree.no_expr) = value_chosen c t (tree.at s (tree.unary q o a))
chosen_finds c t (tree.range (tree.at s (tree.binary q o a b)) tree.no_expr) = value_chosen c t (tree.at s (tree.binary q o a b))
chosen_finds c t (tree.range (tree.at s (tree.member q b a g)) tree.no_expr) = value_chosen c t (tree.at s (tree.member q b a g))

-- the choices of an alternative, after those done
abbrev pub Onto : {A : Type 0} → Found (List A) → (List A → List A → Type 0) → List A → Type 0
Onto {A = A} done P ys = (xs : List A) × (done ≡ found.Is xs) × P xs ys

pub all_chosen : (c : Scope) (t : ℕ) (done : Found (List Spread)) (ks : List tree.Choice) → Finds (all_onto done (spreads_in c (want.Type t) ks)) (Onto done (λ xs ys. AllChoose c t xs ks ys))
all_chosen c t done [] = finds_map (λ ys. done ≡ found.Is ys) (Onto done (λ xs ys. AllChoose c t xs [] ys)) (λ ys e. (ys, e, asks.no_more ys)) done (finds_itself done)
all_chosen c t done (tree.other_values ∷ ks) =
    finds_map (Onto done (λ xs ys. AllChoose c t xs ks ys)) (Onto done (λ xs ys. AllChoose c t xs (tree.other_values ∷ ks) ys)) (λ ys h. (h.0, h.1, asks.others h.0 ys ks h.2)) (all_onto done (spreads_in c (want.Type t) ks)) (all_chosen c t done ks)
all_chosen c t done (tree.values g ∷ ks) =
    let x = choice_seen c (want.Type t) g in
    finds_map (Onto (added done x) (λ xs ys. AllChoose c t xs ks ys)) (Onto done (λ xs ys. AllChoose c t xs (tree.values g ∷ ks) ys)) (λ ys h. one ys h.0 (added_is done x h.0 h.1) h.2)
    (all_onto (added done x) (spreads_in c (want.Type t) ks)) (all_chosen c t (added done x) ks)
  where
    one : (ys zs : List Spread) → IsAdded done (choice_seen c (want.Type t) g) zs → AllChoose c t zs ks ys → Onto done (λ xs us. AllChoose c t xs (tree.values g ∷ ks) us) ys
    one ys zs d h =
        let is = found_as (Chooses c t g) (choice_seen c (want.Type t) g) d.item d.is_item (chosen_finds c t g) in
        (d.before, d.is_before, asks.one_more d.before ys g d.item ks is (subst (λ (l : List Spread). AllChoose c t l ks ys) d.together h))

alternatives_chosen : (c : Scope) (t : ℕ) (done : Found (List Spread)) (as' : tree.Alternatives) → Finds (all_onto done (spreads c (want.Type t) as')) (Onto done (λ xs ys. AlternativesChoose c t xs as' ys))
alternatives_chosen c t done tree.no_alternatives =
    finds_map (λ ys. done ≡ found.Is ys) (Onto done (λ xs ys. AlternativesChoose c t xs tree.no_alternatives ys)) (λ ys e. (ys, e, asks.no_more ys)) done (finds_itself done)
alternatives_chosen c t done (tree.alternative ks ss as') =
    let x = spreads_in c (want.Type t) ks in
    let y = spreads c (want.Type t) as' in
    subst (λ (z : Found (List Spread)). Finds z (Onto done (λ xs ys. AlternativesChoose c t xs (tree.alternative ks ss as') ys))) (sym (all_onto_parts done x y))
    (finds_map (Onto (all_onto done x) (λ xs ys. AlternativesChoose c t xs as' ys)) (Onto done (λ xs ys. AlternativesChoose c t xs (tree.alternative ks ss as') ys))
    (λ ys h. one ys h.0 (found_as (Onto done (λ xs us. AllChoose c t xs ks us)) (all_onto done x) h.0 h.1 (all_chosen c t done ks)) h.2)
    (all_onto (all_onto done x) y) (alternatives_chosen c t (all_onto done x) as'))
  where
    one : (ys zs : List Spread) → Onto done (λ xs us. AllChoose c t xs ks us) zs → AlternativesChoose c t zs as' ys → Onto done (λ xs us. AlternativesChoose c t xs (tree.alternative ks ss as') us) ys
    one ys zs d h = (d.0, d.1, asks.one_more d.0 zs ys ks ss as' d.2 h)

-- ---- all of them together

-- choices that are all there, and none of whose values is outside or was there before
pub record AreNew (b : Bounds) (bs : List Bounds) (xs : List (Found Spread)) (rs : List Bounds) : Type 0 where
  pub spreads : List Spread
  pub are : xs ≡ map found.Is spreads
  pub new : AllNew b bs spreads rs

fresh_finds : (b : Bounds) (bs : List Bounds) (x : Found Spread) → Finds (fresh b bs x) (λ r. (z : Spread) × (x ≡ found.Is z) × (new_values b bs z.values ≡ true) × (r ≡ z.values))
fresh_finds b bs (found.Refused f) = tt
fresh_finds b bs found.Unknown = tt
fresh_finds b bs (found.Is z) =
    finds_map (λ r. (new_values b bs z.values ≡ true) × (r ≡ z.values)) (λ r. (y : Spread) × (found.Is z ≡ found.Is y) × (new_values b bs y.values ≡ true) × (r ≡ y.values)) (λ r h. (z, refl, h.0, h.1))
    (fresh b bs (found.Is z)) (unless_finds (new_values b bs z.values) code.L21 z.place z.values)

distinct_finds : (b : Bounds) (bs : List Bounds) (done : Found (List Bounds)) (xs : List (Found Spread))
    → Finds (all_onto done (distinct b bs xs)) (λ ys. (us rs : List Bounds) × (done ≡ found.Is us) × (ys ≡ us ++ rs) × AreNew b bs xs rs)
distinct_finds b bs done [] =
    finds_map (λ ys. done ≡ found.Is ys) (λ ys. (us rs : List Bounds) × (done ≡ found.Is us) × (ys ≡ us ++ rs) × AreNew b bs [] rs)
    (λ ys e. (ys, [], e, sym (append-nil ys), record { spreads = []; are = refl; new = asks.no_more bs })) done (finds_itself done)
distinct_finds b bs done (x ∷ xs) =
    let more = added done (fresh b bs x) in
    finds_map (λ ys. (us rs : List Bounds) × (more ≡ found.Is us) × (ys ≡ us ++ rs) × AreNew b (values_after bs x) xs rs) (λ ys. (us rs : List Bounds) × (done ≡ found.Is us) × (ys ≡ us ++ rs) × AreNew b bs (x ∷ xs) rs)
    (λ ys h. one ys h.0 h.1 (added_is done (fresh b bs x) h.0 h.2) h.3 h.4) (all_onto more (distinct b (values_after bs x) xs)) (distinct_finds b (values_after bs x) more xs)
  where
    one : (ys us rs : List Bounds) → IsAdded done (fresh b bs x) us → ys ≡ us ++ rs → AreNew b (values_after bs x) xs rs → (vs qs : List Bounds) × (done ≡ found.Is vs) × (ys ≡ vs ++ qs) × AreNew b bs (x ∷ xs) qs
    one ys us rs d e n =
        let is = found_as (λ r. (z : Spread) × (x ≡ found.Is z) × (new_values b bs z.values ≡ true) × (r ≡ z.values)) (fresh b bs x) d.item d.is_item (fresh_finds b bs x) in
        let after : values_after bs x ≡ is.0.values ∷ bs = ap (values_after bs) is.1 in
        let put : ys ≡ d.before ++ (is.0.values ∷ rs) = e ∙ ap (λ (l : List Bounds). l ++ rs) d.together ∙ append_assoc d.before (d.item ∷ []) rs ∙ ap (λ (r : Bounds). d.before ++ (r ∷ rs)) is.3 in (
          d.before,
          is.0.values ∷ rs,
          d.is_before,
          put,
          record {
            spreads = is.0 ∷ n.spreads;
            are = ap (λ (y : Found Spread). y ∷ xs) is.1 ∙ ap (λ (l : List (Found Spread)). found.Is is.0 ∷ l) n.are;
            new = asks.one_more bs rs is.0 n.spreads is.2 (subst (λ (l : List Bounds). AllNew b l n.spreads rs) after n.new);
          },
        )

all_there : (done : List Spread) (xs : List Spread) → all_onto (found.Is done) (map found.Is xs) ≡ found.Is (done ++ xs)
all_there done [] = ap found.Is (sym (append-nil done))
all_there done (x ∷ xs) = all_there (done ++ (x ∷ [])) xs ∙ ap found.Is (append_assoc done (x ∷ []) xs)

abbrev none_before : Found (List Spread)
none_before = found.Is []

abbrev no_bounds : Found (List Bounds)
no_bounds = found.Is []

nothing : (l : List Spread) → none_before ≡ found.Is l → l ≡ []
nothing l h = cc

covers_by : (c : Scope) (p : Place) (x : Selected) (as' : tree.Alternatives) (others : Bool) (o : Option Bounds) → bounds_at c.world x.subtype ≡ o
    → Finds (cover_by p others o (spreads c (want.Type x.of) as')) (λ z. Covers c x others as')
covers_by c p x as' others None e = tt
covers_by c p x as' others (Some b) e =
    let xs = spreads c (want.Type x.of) as' in
    let Ready : List Bounds → Type 0 = λ ys. (us rs : List Bounds) × (no_bounds ≡ found.Is us) × (ys ≡ us ++ rs) × AreNew b [] xs rs in
    then_finds Ready (λ z. Covers c x others as') (all_of (distinct b [] xs)) (covered p b others) (distinct_finds b [] no_bounds xs)
    (λ ys h. finds_map (λ z. ((others || is_whole b ys) ≡ true) × (z ≡ true)) (λ z. Covers c x others as') (λ z i. made' ys h.0 h.1 h.2 h.3 h.4 i.0) (covered p b others ys) (unless_finds (others || is_whole b ys) code.L21 p true))
  where
    made' : (ys us rs : List Bounds) → no_bounds ≡ found.Is us → ys ≡ us ++ rs → AreNew b [] (spreads c (want.Type x.of) as') rs → (others || is_whole b ys) ≡ true → Covers c x others as'
    made' ys us rs n put new whole =
        let empty : us ≡ [] = cc in
        let same : ys ≡ rs = put ∙ ap (λ (l : List Bounds). l ++ rs) empty in
        let there : all_onto none_before (spreads c (want.Type x.of) as') ≡ found.Is new.spreads = ap (all_onto none_before) new.are ∙ all_there [] new.spreads in
        let chosen = found_as (Onto none_before (λ zs vs. AlternativesChoose c x.of zs as' vs)) (all_onto none_before (spreads c (want.Type x.of) as')) new.spreads there (alternatives_chosen c x.of none_before as') in
        let first : chosen.0 ≡ [] = nothing chosen.0 chosen.1 in
        record {
          subtype = b;
          is = e;
          spreads = new.spreads;
          chosen = subst (λ (l : List Spread). AlternativesChoose c x.of l as' new.spreads) first chosen.2;
          ranges = rs;
          once = new.new;
          whole = subst (λ (l : List Bounds). (others || is_whole b l) ≡ true) same whole;
        }

pub covers_finds : (c : Scope) (p : Place) (x : Selected) (as' : tree.Alternatives) → Finds (cover_by p (any_others as') (bounds_at c.world x.subtype) (spreads c (want.Type x.of) as')) (λ z. Covers c x (any_others as') as')
covers_finds c p x as' = covers_by c p x as' (any_others as') (bounds_at c.world x.subtype) refl
