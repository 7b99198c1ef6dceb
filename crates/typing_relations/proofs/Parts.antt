-- What stands in parentheses after a name: conversions, indexes, arguments of calls and of attributes, and qualifications.
use Rattle.std.proofs.Common.{◌≡◌, refl, sym, ◌∙◌, ap, subst, ℕ, ℤ, Bool, true, false, ◌==◌, List, [], ◌∷◌, ◌++◌, length, Option, Some, None, arith}
use Rattle.std.proofs.lemmas.Bool.Decides.{nat_tests}
use Rattle.std.specs.Prelude.{◌&&◌, ◌||◌, slice_get, if◌then◌else◌}
use Rattle.ada_values.specs.Scalars.{in_base}
use Rattle.ada_values.specs.declared.place.Place.{Place}
use Rattle.ada_values.specs.declared.values.Value.TheVariants as value'
use Rattle.front_codes.specs.declared.codes.Code.{Code}
use Rattle.front_codes.specs.declared.codes.Code.TheVariants as code
use Rattle.front_codes.specs.declared.codes.Refusal.{Refusal}
use Rattle.syntax_view.specs.Trees as tree
use Rattle.typed_units.specs.declared.expressions.Actual.{Actual}
use Rattle.typed_units.specs.declared.expressions.Actual.TheVariants as actual
use Rattle.typed_units.specs.declared.expressions.Argument.{Argument}
use Rattle.typed_units.specs.declared.expressions.Expr.{Expr, out-Expr}
use Rattle.typed_units.specs.declared.expressions.ExprNode.TheVariants as node
use Rattle.typed_units.specs.declared.programs.Mode.{Mode}
use Rattle.typed_units.specs.declared.programs.Mode.TheVariants as mode
use Rattle.type_base.specs.Scope.{Scope}
use Rattle.type_base.specs.declared.seen.Seen.{Seen}
use Rattle.type_base.specs.declared.seen.Seen.TheVariants as seen
use Rattle.type_base.specs.declared.seen.Want.{Want}
use Rattle.type_base.specs.declared.seen.Want.TheVariants as want
use Rattle.type_base.specs.declared.world.Form.{Form}
use Rattle.type_base.specs.declared.world.Form.TheVariants as form
use Rattle.type_base.specs.declared.world.Formal.{Formal}
use Rattle.type_base.specs.Demands.{broken, is_integer, is_whole, made}
use Rattle.type_base.specs.Lookups.{form_at, type_at}
use Rattle.typing_rules.specs.declared.prefix.Found.{Found}
use Rattle.typing_rules.specs.declared.prefix.Found.TheVariants as found
use Rattle.typing_rules.specs.declared.prefix.Mapping.{Mapping}
use Rattle.typing_rules.specs.declared.prefix.Mapping.TheVariants as mapping
use Rattle.typing_rules.specs.declared.prefix.Part.{Part}
use Rattle.typing_rules.specs.declared.prefix.Prefix.{Prefix}
use Rattle.typing_rules.specs.declared.prefix.Prefix.TheVariants as prefix
use Rattle.typing_rules.specs.Attributes.{literal, literal_by, mapped, mapped_by, next_value, position}
use Rattle.typing_rules.specs.Calls.{actual_of, added, argument_by, argument_for, arguments, formal_for, is_named, not_a_variable, option_else, passed, passed_as, same_type, variable, writable}
use Rattle.typing_rules.specs.Fits.{fit, found_then, spoiled, takes}
use Rattle.typing_rules.specs.Lookups.{Array, type_of}
use Rattle.typing_rules.specs.Names.{conversion, conversion_of, converted, convertible, index_by, index_of, index_placed, number_converted, of_type, only_operand, typed_converted, universal_converted}
use Rattle.typing_rules.specs.Parts.{Operand}
use Rattle.typing_rules.specs.Reading.{arg, args, item, read}
use Rattle.typing_rules.specs.Values.{place_of, seen_of, value_of}
use Rattle.expression_rules.specs.Rules.{IsIntegerType}
use Rattle.typing_relations.specs.Demanded as demanded
use Rattle.typing_relations.specs.Demanded.{AnyInteger, Converts, Fits, Given, IsResult, OfType, Only, is_item}
use Rattle.typing_relations.specs.Obeys as rule
use Rattle.typing_relations.specs.Obeys.{Arguments, Has, Index, ItemHas, ItemStands, MapsTo, Passes, Qualifies, Stands, IsOut}
use Rattle.typing_relations.proofs.Accepting.{Accepts, Allows, BothAre, Finds, accepts_always, accepts_map, both_are, finds_itself, finds_map, found_as, if_accepts, if_finds, result, result_with, spoiled_finds, then_finds, with_finds}
use Rattle.typing_relations.proofs.Values.{TypedAs, both_true, fit_finds, of_type_accepts, of_valued}

-- ---- parts that obey

abbrev pub ItemGood : Scope → tree.Item → Type 0
ItemGood c i = (w : Want) → Allows ((item c i).prefix w) (ItemStands c w i)

abbrev pub ExprGood : Scope → tree.Expr → Type 0
ExprGood c e = (w : Want) → Allows ((read c e).prefix w) (Stands c w e)

abbrev pub ChoiceGood : Scope → tree.ArgChoice → Type 0
ChoiceGood c tree.other_parts = Unit {0}
ChoiceGood c (tree.part i) = ItemGood c i
ChoiceGood c (tree.parts l h) = ExprGood c l × ExprGood c h

abbrev pub ValueGood : Scope → tree.Value → Type 0
ValueGood c tree.no_value = Unit {0}
ValueGood c (tree.value i) = ItemGood c i

abbrev pub ArgGood : Scope → tree.Arg → Type 0
ArgGood c (tree.arg s h v) = ChoiceGood c h × ValueGood c v

abbrev pub ArgsGood : Scope → tree.Args → Type 0
ArgsGood c tree.no_args = Unit {0}
ArgsGood c (tree.args a as') = ArgGood c a × ArgsGood c as'

pub item_accepts : (c : Scope) (i : tree.Item) (w : Want) → ItemGood c i → Accepts (seen_of c (item c i) w) (ItemHas c w i)
item_accepts c i w h = of_valued c (place_of c (item c i)) (ItemStands c w i) (ItemHas c w i) (λ f v j k. rule.item_has c w i f v j k) ((item c i).prefix w) (h w)

pub expr_accepts : (c : Scope) (e : tree.Expr) (w : Want) → ExprGood c e → Accepts (seen_of c (read c e) w) (Has c w e)
expr_accepts c e w h = of_valued c (place_of c (read c e)) (Stands c w e) (Has c w e) (λ f v j k. rule.has c w e f v j k) ((read c e).prefix w) (h w)

-- ---- the only argument

pub only_cases : (c : Scope) (as' : tree.Args) (R : Option Operand → Type 0) → ArgsGood c as' → (is_item as' ≡ false → R None) → ((i : tree.Item) → Only as' i → ItemGood c i → R (Some (item c i))) → R (only_operand (args c as'))
only_cases c tree.no_args R h n k = n refl
only_cases c (tree.args (tree.arg s tree.other_parts v) as') R h n k = n refl
only_cases c (tree.args (tree.arg s (tree.part i) tree.no_value) tree.no_args) R h n k = k i (demanded.only s i) h.0.0
only_cases c (tree.args (tree.arg s (tree.part i) tree.no_value) (tree.args b bs)) R h n k = n refl
only_cases c (tree.args (tree.arg s (tree.part i) (tree.value v)) as') R h n k = n refl
only_cases c (tree.args (tree.arg s (tree.parts l u) v) as') R h n k = n refl

-- ---- conversions

number_converts : (c : Scope) (p : Place) (k : ℕ) (q : Place) (n : ℤ) (m : Option ℕ) (f : Option Form) → type_at c.world k ≡ m → form_at c.world k ≡ f → Accepts (universal_converted c p k q n m f) (Converts c p k q (seen.Number n))
number_converts c p k q n None None e i = tt
number_converts c p k q n None (Some f) e i = tt
number_converts c p k q n (Some t) None e i = tt
number_converts c p k q n (Some t) (Some (form.Number d s)) e i =
    let x = made q t (node.Static (value'.Int n)) in
    let r = number_converted c p k x n (Some (form.Number d s)) in
    if_accepts (Converts c p k q (seen.Number n)) (is_whole d) r (broken code.L18 q)
    (λ whole. result_with (in_base s n ≡ true) (Converts c p k q (seen.Number n)) r
    (if_accepts (λ v. in_base s n ≡ true) (in_base s n) _ (broken code.L29 p) (λ j. accepts_always (in_base s n ≡ true) _ j))
    (λ v j z. demanded.number_converts t n v d s e i whole j z))
number_converts c p k q n (Some t) (Some form.Truth) e i = tt
number_converts c p k q n (Some t) (Some (form.Array a b j)) e i = tt
number_converts c p k q n (Some t) (Some (form.Record a j)) e i = tt

value_converts : (c : Scope) (p : Place) (k : ℕ) (q : Place) (u : ℕ) (x : Expr) (m : Option ℕ) → type_at c.world k ≡ m → Accepts (typed_converted c p k q m u x) (Converts c p k q (seen.Typed u x))
value_converts c p k q u x None e = tt
value_converts c p k q u x (Some t) e =
    let r = converted c p k x (out-Expr x).node in
    if_accepts (Converts c p k q (seen.Typed u x)) (convertible t u (form_at c.world k) (form_at c.world u)) r (broken code.L18 q)
    (λ i. accepts_map (IsResult r) (Converts c p k q (seen.Typed u x)) (λ v z. demanded.value_converts t u x v e i z) r (result r))

converts : (c : Scope) (p : Place) (k : ℕ) (q : Place) (s : Seen) → Accepts (conversion c p k q s) (Converts c p k q s)
converts c p k q (seen.Refused f) = tt
converts c p k q seen.Unknown = tt
converts c p k q (seen.Number n) = number_converts c p k q n (type_at c.world k) (form_at c.world k) refl refl
converts c p k q (seen.Typed u x) = value_converts c p k q u x (type_at c.world k) refl

-- with what is so of the operand
converts_with : (c : Scope) (p : Place) (k : ℕ) (q : Place) (s : Seen) (P : Seen → Type 0) → Accepts s P → Accepts (conversion c p k q s) (λ v. P s × Converts c p k q s v)
converts_with c p k q (seen.Refused f) P h = tt
converts_with c p k q seen.Unknown P h = tt
converts_with c p k q (seen.Number n) P h = accepts_map _ (λ v. P (seen.Number n) × Converts c p k q (seen.Number n) v) (λ v z. (h, z)) _ (converts c p k q (seen.Number n))
converts_with c p k q (seen.Typed u x) P h = accepts_map _ (λ v. P (seen.Typed u x) × Converts c p k q (seen.Typed u x) v) (λ v z. (h, z)) _ (converts c p k q (seen.Typed u x))

pub conversion_step : (c : Scope) (w : Want) (p : Place) (k : ℕ) (as' : tree.Args) → ArgsGood c as' → Accepts (conversion_of c p k (only_operand (args c as'))) (λ v. rule.Step c w p (prefix.Subtype k) (tree.applied as') (prefix.Value v))
conversion_step c w p k as' h =
    only_cases c as' (λ o. Accepts (conversion_of c p k o) (λ v. rule.Step c w p (prefix.Subtype k) (tree.applied as') (prefix.Value v))) h (λ e. tt)
    (λ i only good.
    let u = seen_of c (item c i) want.Free in
    let q = place_of c (item c i) in
    accepts_map (λ v. ItemHas c want.Free i u × Converts c p k q u v) (λ v. rule.Step c w p (prefix.Subtype k) (tree.applied as') (prefix.Value v))
    (λ v z. rule.conversion c w p k as' i u v only z.0 z.1) (conversion c p k q u) (converts_with c p k q u (ItemHas c want.Free i) (item_accepts c i want.Free good)))

-- ---- indexes

placed_index : (c : Scope) (a : Array) (as' : tree.Args) (i : tree.Item) (u s : Seen) → Only as' i
    → Accepts s (TypedAs c.world a.index (place_of c (item c i)) u (ItemHas c (want.Subtype a.index) i)) → Finds (index_placed c a.bounds s) (Index c a as')
placed_index c a as' i u (seen.Refused f) o h = tt
placed_index c a as' i u seen.Unknown o h = tt
placed_index c a as' i u (seen.Number n) o h = tt
placed_index c a as' i u (seen.Typed t x) o h = rule.index c a as' i t u x o h.1.1 h.0 h.1.0

pub index_finds : (c : Scope) (p : Place) (a : Array) (as' : tree.Args) → ArgsGood c as' → Finds (index_of c p a (args c as')) (Index c a as')
index_finds c p a tree.no_args h = tt
index_finds c p a (tree.args b (tree.args d ds)) h = spoiled_finds (Index c a (tree.args b (tree.args d ds))) _ (broken code.L14 (c.place (arg c d).from))
index_finds c p a (tree.args b tree.no_args) h =
    only_cases c (tree.args b tree.no_args) (λ o. Finds (index_by c a (c.place (arg c b).from) o) (Index c a (tree.args b tree.no_args))) h (λ e. tt)
    (λ i only good.
    let u = seen_of c (item c i) (want.Subtype a.index) in
    let q = place_of c (item c i) in
    placed_index c a (tree.args b tree.no_args) i u (of_type c code.L14 a.index q u) only (of_type_accepts c code.L14 a.index q u (ItemHas c (want.Subtype a.index) i) (item_accepts c i (want.Subtype a.index) good)))

-- ---- arguments of attributes

next_maps : (c : Scope) (p : Place) (up : Bool) (t : Place) (k : ℕ) (i : tree.Item) (u s : Seen) (P : Seen → Type 0) → Accepts s (TypedAs c.world k (place_of c (item c i)) u (ItemHas c (want.Subtype (type_of c.world k)) i))
    → ((j : ℕ) (x : Expr) (v : Seen) → ItemHas c (want.Subtype (type_of c.world k)) i u → type_at c.world k ≡ Some j → OfType c.world j (place_of c (item c i)) u x → IsResult (next_value c p up t k (seen.Typed j x)) v → P v)
    → Accepts (next_value c p up t k s) P
next_maps c p up t k i u (seen.Refused f) P h m = tt
next_maps c p up t k i u seen.Unknown P h m = tt
next_maps c p up t k i u (seen.Number n) P h m = absurd h
next_maps c p up t k i u (seen.Typed j x) P h m =
    let r = next_value c p up t k (seen.Typed j x) in accepts_map (IsResult r) P (λ v z. m j x v h.1.1 h.0 h.1.0 z) r (result r)

position_maps : (c : Scope) (p : Place) (k : ℕ) (i : tree.Item) (u s : Seen) (P : Seen → Type 0) → Accepts s (TypedAs c.world k (place_of c (item c i)) u (ItemHas c (want.Subtype (type_of c.world k)) i))
    → ((j : ℕ) (x : Expr) (v : Seen) → ItemHas c (want.Subtype (type_of c.world k)) i u → type_at c.world k ≡ Some j → OfType c.world j (place_of c (item c i)) u x → IsResult (position c p (seen.Typed j x)) v → P v)
    → Accepts (position c p s) P
position_maps c p k i u (seen.Refused f) P h m = tt
position_maps c p k i u seen.Unknown P h m = tt
position_maps c p k i u (seen.Number n) P h m = absurd h
position_maps c p k i u (seen.Typed j x) P h m = let r = position c p (seen.Typed j x) in accepts_map (IsResult r) P (λ v z. m j x v h.1.1 h.0 h.1.0 z) r (result r)

literal_integer : (c : Scope) (p : Place) (k : ℕ) (q : Place) (t : ℕ) (x : Expr) (m : Option Form) → form_at c.world t ≡ m → Accepts (literal_by c p k q x m) (λ v. IsIntegerType c.world t)
literal_integer c p k q t x None e = tt
literal_integer c p k q t x (Some f) e =
    if_accepts (λ v. IsIntegerType c.world t) (is_integer f) _ (broken code.L11 q) (λ i. accepts_always (IsIntegerType c.world t) _ (record { form = f; is = e; whole = i }))

literal_maps : (c : Scope) (p t : Place) (k : ℕ) (i : tree.Item) (s : Seen) → Accepts s (ItemHas c want.Free i) → (s ≡ seen_of c (item c i) want.Free)
    → Accepts (literal c p (type_of c.world k) (place_of c (item c i)) s) (MapsTo c p t mapping.Val k i)
literal_maps c p t k i (seen.Refused f) h e = tt
literal_maps c p t k i seen.Unknown h e = tt
literal_maps c p t k i (seen.Number n) h e =
    let r = literal c p (type_of c.world k) (place_of c (item c i)) (seen.Number n) in accepts_map (IsResult r) (MapsTo c p t mapping.Val k i) (λ v z. rule.val c p t k i (seen.Number n) v h tt z) r (result r)
literal_maps c p t k i (seen.Typed u x) h e =
    let r = literal c p (type_of c.world k) (place_of c (item c i)) (seen.Typed u x) in
    result_with (IsIntegerType c.world u) (MapsTo c p t mapping.Val k i) r (literal_integer c p (type_of c.world k) (place_of c (item c i)) u x (form_at c.world u) refl)
    (λ v j z. rule.val c p t k i (seen.Typed u x) v h j z)

mapped_maps : (c : Scope) (p : Place) (m : Mapping) (t : Place) (k : ℕ) (i : tree.Item) → ItemGood c i → Accepts (mapped_by c p m t k (item c i)) (MapsTo c p t m k i)
mapped_maps c p mapping.Succ t k i h =
    let w = want.Subtype (type_of c.world k) in
    let u = seen_of c (item c i) w in
    next_maps c p true t k i u _ (MapsTo c p t mapping.Succ k i) (of_type_accepts c code.L11 k (place_of c (item c i)) u (ItemHas c w i) (item_accepts c i w h))
    (λ j x v a b d z. rule.succ c p t k j i u v x a b d z)
mapped_maps c p mapping.Pred t k i h =
    let w = want.Subtype (type_of c.world k) in
    let u = seen_of c (item c i) w in
    next_maps c p false t k i u _ (MapsTo c p t mapping.Pred k i) (of_type_accepts c code.L11 k (place_of c (item c i)) u (ItemHas c w i) (item_accepts c i w h))
    (λ j x v a b d z. rule.pred c p t k j i u v x a b d z)
mapped_maps c p mapping.Pos t k i h =
    let w = want.Subtype (type_of c.world k) in
    let u = seen_of c (item c i) w in
    position_maps c p k i u _ (MapsTo c p t mapping.Pos k i) (of_type_accepts c code.L11 k (place_of c (item c i)) u (ItemHas c w i) (item_accepts c i w h))
    (λ j x v a b d z. rule.position_of c p t k j i u v x a b d z)
mapped_maps c p mapping.Val t k i h = literal_maps c p t k i (seen_of c (item c i) want.Free) (item_accepts c i want.Free h) refl

pub mapped_step : (c : Scope) (w : Want) (p : Place) (m : Mapping) (t : Place) (k : ℕ) (as' : tree.Args) → ArgsGood c as'
    → Accepts (mapped c p m t k (only_operand (args c as'))) (λ v. rule.Step c w p (prefix.Mapping m t k) (tree.applied as') (prefix.Value v))
mapped_step c w p m t k as' h =
    only_cases c as' (λ o. Accepts (mapped c p m t k o) (λ v. rule.Step c w p (prefix.Mapping m t k) (tree.applied as') (prefix.Value v))) h (λ e. tt)
    (λ i only good.
    accepts_map (MapsTo c p t m k i) (λ v. rule.Step c w p (prefix.Mapping m t k) (tree.applied as') (prefix.Value v)) (λ v z. rule.mapped_argument c w p t m k as' i v only z) _ (mapped_maps c p m t k i good))

-- ---- arguments of calls

not_variable : (P : Part → Type 0) (r : Code) (q : Place) (s : Seen) → Finds (not_a_variable r q s) P
not_variable P r q (seen.Refused f) = tt
not_variable P r q seen.Unknown = tt
not_variable P r q (seen.Number n) = tt
not_variable P r q (seen.Typed t x) = tt

pub variable_finds : (c : Scope) (r : Code) (q : Place) (f : Prefix) (S : Prefix → Type 0) → Allows f S → Finds (variable c r q f) (λ g. S (prefix.Part g) × (writable g.access ≡ true))
variable_finds c r q (prefix.Part g) S h = if_finds (λ z. S (prefix.Part z) × (writable z.access ≡ true)) (writable g.access) (found.Is g) (broken r q) (λ e. (h, e))
variable_finds c r q prefix.Package S h = not_variable (λ g. S (prefix.Part g) × (writable g.access ≡ true)) r q (value_of c q prefix.Package)
variable_finds c r q (prefix.Subtype k) S h = not_variable (λ g. S (prefix.Part g) × (writable g.access ≡ true)) r q (value_of c q (prefix.Subtype k))
variable_finds c r q (prefix.Routine k) S h = not_variable (λ g. S (prefix.Part g) × (writable g.access ≡ true)) r q (value_of c q (prefix.Routine k))
variable_finds c r q (prefix.Called k xs) S h = not_variable (λ g. S (prefix.Part g) × (writable g.access ≡ true)) r q (value_of c q (prefix.Called k xs))
variable_finds c r q (prefix.Mapping m t k) S h = not_variable (λ g. S (prefix.Part g) × (writable g.access ≡ true)) r q (value_of c q (prefix.Mapping m t k))
variable_finds c r q (prefix.Range b) S h = not_variable (λ g. S (prefix.Part g) × (writable g.access ≡ true)) r q (value_of c q (prefix.Range b))
variable_finds c r q (prefix.Constant t x) S h = not_variable (λ g. S (prefix.Part g) × (writable g.access ≡ true)) r q (value_of c q (prefix.Constant t x))
variable_finds c r q (prefix.Value s) S h = not_variable (λ g. S (prefix.Part g) × (writable g.access ≡ true)) r q (value_of c q (prefix.Value s))

out_passes : (c : Scope) (q : Place) (m : Mode) (k : ℕ) (i : tree.Item) (g : Part) (t : Option ℕ) → type_at c.world k ≡ t → IsOut m → ItemStands c want.Free i (prefix.Part g) → writable g.access ≡ true → Finds (passed_as c q m k t g) (Passes c m k i)
out_passes c q m k i g None e o h w = tt
out_passes c q m k i g (Some t) e o h w =
    let a = same_type (Some t) (type_at c.world g.subtype) in
    let b = takes c.world false k g.subtype in
    if_finds (Passes c m k i) (a && b) (found.Is (passed c m k g)) (broken code.L11 q)
    (λ j. let z = both_true a b j in rule.passed_out c m k i g o h w (subst (λ (n : Option ℕ). same_type n (type_at c.world g.subtype) ≡ true) (sym e) z.0) z.1)

variable_passes : (c : Scope) (m : Mode) (k : ℕ) (i : tree.Item) → IsOut m → ItemGood c i
    → Finds (found_then (variable c code.L11 (place_of c (item c i)) ((item c i).prefix want.Free)) (passed_as c (place_of c (item c i)) m k (type_at c.world k))) (Passes c m k i)
variable_passes c m k i o h =
    let q = place_of c (item c i) in
    then_finds (λ g. ItemStands c want.Free i (prefix.Part g) × (writable g.access ≡ true)) (Passes c m k i) (variable c code.L11 q ((item c i).prefix want.Free)) (passed_as c q m k (type_at c.world k))
    (variable_finds c code.L11 q ((item c i).prefix want.Free) (ItemStands c want.Free i) (h want.Free)) (λ g z. out_passes c q m k i g (type_at c.world k) refl o z.0 z.1)

passes : (c : Scope) (m : Mode) (k : ℕ) (i : tree.Item) → ItemGood c i → Finds (actual_of c m k (item c i)) (Passes c m k i)
passes c mode.In k i h =
    let u = seen_of c (item c i) (want.Subtype k) in
    let q = place_of c (item c i) in
    with_finds (λ x. Fits c.world false k q u x × ItemHas c (want.Subtype k) i u) (Passes c mode.In k i) actual.In (fit c.world code.L11 false k q u)
    (fit_finds c.world code.L11 false k q u (ItemHas c (want.Subtype k) i) (item_accepts c i (want.Subtype k) h)) (λ x z. rule.passed_in c k i u x z.1 z.0)
passes c mode.Out k i h = variable_passes c mode.Out k i tt h
passes c mode.InOut k i h = variable_passes c mode.InOut k i tt h

-- an argument for formal n
record ArgumentIs (c : Scope) (fs : List Formal) (n : ℕ) (a : tree.Arg) (x : Argument Expr) : Type 0 where
  formal : Formal
  is : slice_get fs n ≡ Some formal
  item : tree.Item
  given : Given a item
  value : Actual Expr
  passes : Passes c formal.mode formal.subtype item value
  argument : x ≡ record { formal = n; value = value }

argument_of : (c : Scope) (fs : List Formal) (n : ℕ) (a : tree.Arg) (i : tree.Item) (m : Option Formal) → slice_get fs n ≡ m → Given a i → ItemGood c i → Finds (argument_by c n m (Some (item c i))) (ArgumentIs c fs n a)
argument_of c fs n a i None e g h = tt
argument_of c fs n a i (Some f) e g h =
    with_finds (Passes c f.mode f.subtype i) (ArgumentIs c fs n a) (λ v. record { formal = n; value = v }) (actual_of c f.mode f.subtype (item c i)) (passes c f.mode f.subtype i h)
    (λ v j. record { formal = f; is = e; item = i; given = g; value = v; passes = j; argument = refl })

no_argument : (P : Argument Expr → Type 0) (c : Scope) (n : ℕ) (m : Option Formal) → Finds (argument_by c n m None) P
no_argument P c n None = tt
no_argument P c n (Some f) = tt

argument_finds : (c : Scope) (fs : List Formal) (n : ℕ) (a : tree.Arg) → ArgGood c a → Finds (argument_for c fs n (arg c a)) (ArgumentIs c fs n a)
argument_finds c fs n (tree.arg s h (tree.value i)) g = argument_of c fs n (tree.arg s h (tree.value i)) i (slice_get fs n) refl (demanded.after_arrow s h i) g.1
argument_finds c fs n (tree.arg s (tree.part i) tree.no_value) g = argument_of c fs n (tree.arg s (tree.part i) tree.no_value) i (slice_get fs n) refl (demanded.alone s i) g.0
argument_finds c fs n (tree.arg s tree.other_parts tree.no_value) g = no_argument _ c n (slice_get fs n)
argument_finds c fs n (tree.arg s (tree.parts l u) tree.no_value) g = no_argument _ c n (slice_get fs n)

-- the arguments after those done
record Rest (c : Scope) (fs : List Formal) (given : List ℕ) (named : Bool) (done : Found (List (Argument Expr))) (as' : tree.Args) (ys : List (Argument Expr)) : Type 0 where
  so_far : List (Argument Expr)
  is : done ≡ found.Is so_far
  rest : Arguments c fs given named so_far as' ys

pub if_spoiled : {A : Type 0} → (P : A → Type 0) (b : Bool) (x : Found A) (f : Refusal) → (b ≡ true → Finds x P) → Finds (if b then x else spoiled x f) P
if_spoiled P true x f h = h refl
if_spoiled P false x f h = spoiled_finds P x f

more_arguments : (c : Scope) (p : Place) (fs : List Formal) (given : List ℕ) (named : Bool) (done : Found (List (Argument Expr))) (a : tree.Arg) (as' : tree.Args) (m : Option ℕ)
    → formal_for c fs given named (arg c a) ≡ m → ArgGood c a
    → ((n : ℕ) → Finds (arguments c p fs (n ∷ given) (named || is_named (arg c a).value) (added done (argument_for c fs n (arg c a))) (args c as')) (Rest c fs (n ∷ given) (named || is_named (arg c a).value) (added done (argument_for c fs n (arg c a))) as'))
    → Finds (option_else m (spoiled done (broken code.L10 (c.place (arg c a).from))) (λ n. arguments c p fs (n ∷ given) (named || is_named (arg c a).value) (added done (argument_for c fs n (arg c a))) (args c as')))
    (Rest c fs given named done (tree.args a as'))
more_arguments c p fs given named done a as' None e h ih = spoiled_finds (Rest c fs given named done (tree.args a as')) done (broken code.L10 (c.place (arg c a).from))
more_arguments c p fs given named done a as' (Some n) e h ih =
    let next = argument_for c fs n (arg c a) in
    let now = added done next in
    let on = named || is_named (arg c a).value in
    let join : List (Argument Expr) → Argument Expr → List (Argument Expr) = λ xs x. xs ++ (x ∷ []) in
    finds_map (Rest c fs (n ∷ given) on now as') (Rest c fs given named done (tree.args a as'))
    (λ ys z.
    let b = found_as (λ zs. BothAre join done next zs) now z.so_far z.is (both_are join done next) in
    let x = found_as (ArgumentIs c fs n a) next b.right b.is_right (argument_finds c fs n a h) in
    record {
      so_far = b.left;
      is = b.is_left;
      rest = rule.next_given c fs given named b.left ys a as' n x.formal x.item x.value e x.is x.given x.passes
          (subst (λ zs. Arguments c fs (n ∷ given) on zs as' ys) (b.together ∙ ap (λ (y : Argument Expr). b.left ++ (y ∷ [])) x.argument) z.rest);
    })
    (arguments c p fs (n ∷ given) on now (args c as')) (ih n)

all_arguments : (c : Scope) (p : Place) (fs : List Formal) (given : List ℕ) (named : Bool) (done : Found (List (Argument Expr))) (as' : tree.Args) → ArgsGood c as'
    → Finds (arguments c p fs given named done (args c as')) (Rest c fs given named done as')
all_arguments c p fs given named done tree.no_args h =
    if_spoiled (Rest c fs given named done tree.no_args) (length given == length fs) done (broken code.L10 p)
    (λ e.
    let same : length given ≡ length fs = grind (arith, nat_tests) in
    finds_map (λ xs. done ≡ found.Is xs) (Rest c fs given named done tree.no_args) (λ xs i. record { so_far = xs; is = i; rest = rule.all_given c fs given named xs same }) done (finds_itself done))
all_arguments c p fs given named done (tree.args a as') h =
    more_arguments c p fs given named done a as' (formal_for c fs given named (arg c a)) refl h.0
    (λ n. all_arguments c p fs (n ∷ given) (named || is_named (arg c a).value) (added done (argument_for c fs n (arg c a))) as' h.1)

abbrev pub found_or : {A : Type 0} → A → Found A → A
found_or d (found.Is a) = a
found_or d _ = d

pub is_injective : {A : Type 0} → (a b : A) → found.Is a ≡ found.Is b → a ≡ b
is_injective a b e = ap (found_or a) e

first_arguments : (c : Scope) (fs : List Formal) (as' : tree.Args) (ys : List (Argument Expr)) (z : Rest c fs [] false (found.Is []) as' ys) → Arguments c fs [] false [] as' ys
first_arguments c fs as' ys z = subst (λ xs. Arguments c fs [] false xs as' ys) (sym (is_injective [] z.so_far z.is)) z.rest

pub arguments_finds : (c : Scope) (p : Place) (fs : List Formal) (as' : tree.Args) → ArgsGood c as' → Finds (arguments c p fs [] false (found.Is []) (args c as')) (Arguments c fs [] false [] as')
arguments_finds c p fs as' h = finds_map (Rest c fs [] false (found.Is []) as') (Arguments c fs [] false [] as') (λ ys z. first_arguments c fs as' ys z) (arguments c p fs [] false (found.Is []) (args c as')) (all_arguments c p fs [] false (found.Is []) as' h)
