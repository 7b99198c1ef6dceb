-- Static numbers and ranges with static bounds that are accepted obey their rules.
use Rattle.std.proofs.Common.{◌≡◌, refl, sym, ap, ◌∙◌, subst, ℕ, ℤ, Bool, true, false, Option, Some, None}
use Rattle.std.specs.Prelude.{◌==◌, if◌then◌else◌}
use Rattle.std.specs.Int.RustNames.{int_le}
use Rattle.std.proofs.lemmas.Bool.{eqb-true}
use Rattle.ada_values.specs.Scalars.{in_scalar}
use Rattle.ada_values.specs.declared.place.Place.{Place}
use Rattle.ada_values.specs.declared.scalars.Scalar.{Scalar}
use Rattle.ada_values.specs.declared.values.Value.TheVariants as value
use Rattle.front_codes.specs.declared.codes.Code.{Code}
use Rattle.front_codes.specs.declared.codes.Code.TheVariants as code
use Rattle.syntax_view.specs.Trees as tree
use Rattle.typed_units.specs.declared.expressions.Expr.{Expr}
use Rattle.typed_units.specs.declared.expressions.ExprNode.TheVariants as node
use Rattle.typed_units.specs.declared.operators.Bounds.{Bounds}
use Rattle.type_base.specs.Scope.{Scope}
use Rattle.type_base.specs.declared.seen.Seen.{Seen}
use Rattle.type_base.specs.declared.seen.Seen.TheVariants as seen'
use Rattle.type_base.specs.declared.seen.Want.{Want}
use Rattle.type_base.specs.declared.seen.Want.TheVariants as want
use Rattle.type_base.specs.declared.world.Form.{Form}
use Rattle.type_base.specs.declared.world.Subtype.{Subtype}
use Rattle.type_base.specs.declared.world.World.{World}
use Rattle.type_base.specs.Demands.{bounds_at, bounds_in, broken, is_integer, made, placed_number}
use Rattle.type_base.specs.Lookups.{form_at, form_in, subtype_at, type_at, type_in}
use Rattle.type_base.specs.Results.{number_in}
use Rattle.typing_rules.specs.declared.prefix.Found.TheVariants as found
use Rattle.typing_rules.specs.Fits.{both, found_then}
use Rattle.typing_rules.specs.Reading.{seen}
use Rattle.statement_typing.specs.Asked.{high_place, low_place, place_of, range_seen}
use Rattle.statement_typing.specs.Checks.{refuse, unless}
use Rattle.statement_typing.specs.Objects.{named_number}
use Rattle.statement_typing.specs.Subtypes.{bound_in, bounds, bounds_for, in_order, index_range, indexes_in, integer_number, is_of_integers, part, range_in, static_in, static_number, static_range, static_range_of, static_seen, type_want, value_of_type}
use Rattle.typing_relations.specs.Demanded as demanded
use Rattle.typing_relations.specs.Demanded.{IsStatic, OfType, TakesNumber}
use Rattle.typing_relations.specs.Obeys.{Has}
use Rattle.typing_relations.proofs.Accepting.{Accepts, Finds, both_finds, finds_map, if_finds, then_finds}
use Rattle.typing_relations.proofs.Values.{placed_accepts}
use Rattle.statement_relations.specs.Asks.{Ranges}
use Rattle.statement_relations.proofs.Asking.{has_accepts, ranges_finds}
use Rattle.statement_relations.proofs.Parted.{unless_finds}
use Rattle.declaration_relations.specs.Indicates as rule
use Rattle.declaration_relations.specs.Indicates.{GivesBounds, HasStaticRange, IsBound, IsInteger, LiesIn, Narrows}
use Rattle.declaration_relations.proofs.Keeping.{unless_keeps}

-- ---- static values

static_finds : (P : ℤ → Type 0) (r : Code) (p : Place) (m : Option ℤ) → ((n : ℤ) → m ≡ Some n → P n) → Finds (static_number r p m) P
static_finds P r p None h = tt
static_finds P r p (Some n) h = h n refl

pub bound_finds : (r : Code) (p : Place) (x : Expr) → Finds (static_in r p x) (λ n. number_in x ≡ Some n)
bound_finds r p x = static_finds (λ n. number_in x ≡ Some n) r p (number_in x) (λ n e. e)

static_in_finds : (w : World) (r : Code) (t : ℕ) (p : Place) (u : Seen) (x : Expr) → OfType w t p u x → Finds (static_in r p x) (IsStatic w t p u)
static_in_finds w r t p u x h = static_finds (IsStatic w t p u) r p (number_in x) (λ n e. record { value = x; of_type = h; is = e })

typed_finds : (w : World) (r : Code) (t u : ℕ) (p : Place) (x : Expr) (b : Bool) → (t == u) ≡ b → Finds (if b then static_in r p x else refuse r p) (IsStatic w t p (seen'.Typed u x))
typed_finds w r t u p x false e = tt
typed_finds w r t u p x true e =
    let same : t ≡ u = eqb-true t u e in
    static_in_finds w r t p (seen'.Typed u x) x (subst (λ (j : ℕ). OfType w t p (seen'.Typed j x) x) same (demanded.of_this_type x))

seen_static : (w : World) (r : Code) (t : ℕ) (p : Place) (n : ℤ) (s : Seen) → Accepts s (λ v. (j : ℕ) (x : Expr) → v ≡ seen'.Typed j x → OfType w t p (seen'.Number n) x) → Finds (static_seen r p s) (IsStatic w t p (seen'.Number n))
seen_static w r t p n (seen'.Refused f) h = tt
seen_static w r t p n seen'.Unknown h = tt
seen_static w r t p n (seen'.Number m) h = tt
seen_static w r t p n (seen'.Typed j x) h = static_in_finds w r t p (seen'.Number n) x (h j x refl)

value_by : (w : World) (r : Code) (t : ℕ) (p : Place) (s : Seen) (P : Seen → Type 0) → Accepts s P → Finds (value_of_type w r t p s) (λ n. P s × IsStatic w t p s n)
value_by w r t p (seen'.Refused f) P h = tt
value_by w r t p seen'.Unknown P h = tt
value_by w r t p (seen'.Number n) P h =
    finds_map (IsStatic w t p (seen'.Number n)) (λ m. P (seen'.Number n) × IsStatic w t p (seen'.Number n) m) (λ m i. (h, i)) (static_seen r p (placed_number w r p p t n))
    (seen_static w r t p n (placed_number w r p p t n)
    (placed_accepts w r p p t n (λ v. (j : ℕ) (x : Expr) → v ≡ seen'.Typed j x → OfType w t p (seen'.Number n) x) (λ takes j x e. taken takes j x e)))
  where
    taken : TakesNumber w t n → (j : ℕ) (x : Expr) → seen'.Typed t (made p t (node.Static (value.Int n))) ≡ seen'.Typed j x → OfType w t p (seen'.Number n) x
    taken takes j x e =
        let same : made p t (node.Static (value.Int n)) ≡ x = cc in
        subst (OfType w t p (seen'.Number n)) same (demanded.taking_type n takes)
value_by w r t p (seen'.Typed u x) P h =
    finds_map (IsStatic w t p (seen'.Typed u x)) (λ m. P (seen'.Typed u x) × IsStatic w t p (seen'.Typed u x) m) (λ m i. (h, i)) (value_of_type w r t p (seen'.Typed u x))
    (typed_finds w r t u p x (t == u) refl)

bound_of_type : (c : Scope) (r : Code) (t : ℕ) (e : tree.Expr) → Finds (part c (want.Type t) e (value_of_type c.world r t (place_of c e))) (IsBound c t e)
bound_of_type c r t e =
    let s = seen c (want.Type t) e in
    finds_map (λ n. Has c (want.Type t) e s × IsStatic c.world t (place_of c e) s n) (IsBound c t e) (λ n h. record { value = s; has = h.0; static = h.1 }) (value_of_type c.world r t (place_of c e) s)
    (value_by c.world r t (place_of c e) s (Has c (want.Type t) e) (has_accepts c (want.Type t) e))

-- ---- static integers of any type

typed_integer : (c : Scope) (e : tree.Expr) (r q : Code) (p : Place) (t : ℕ) (x : Expr) → Has c want.Free e (seen'.Typed t x) → (m : Option Form) → form_at c.world t ≡ m
    → Finds (if is_of_integers m then static_in r p x else refuse q p) (IsInteger c e)
typed_integer c e r q p t x h None i = tt
typed_integer c e r q p t x h (Some f) i =
    if_finds (IsInteger c e) (is_integer f) (static_in r p x) (broken q p)
    (λ j. finds_map (λ n. number_in x ≡ Some n) (IsInteger c e) (λ n z. rule.of_a_type t x n h (record { form = f; is = i; whole = j }) z) (static_in r p x) (bound_finds r p x))

integer_by : (c : Scope) (e : tree.Expr) (p : Place) (s : Seen) → Accepts s (Has c want.Free e) → Finds (integer_number c.world p s) (IsInteger c e)
integer_by c e p (seen'.Refused f) h = tt
integer_by c e p seen'.Unknown h = tt
integer_by c e p (seen'.Number n) h = rule.universal n h
integer_by c e p (seen'.Typed t x) h = typed_integer c e code.L20 code.L20 p t x h (form_at c.world t) refl

pub integer_finds : (c : Scope) (p : Place) (e : tree.Expr) → Finds (part c want.Free e (integer_number c.world p)) (IsInteger c e)
integer_finds c p e = integer_by c e p (seen c want.Free e) (has_accepts c want.Free e)

named_by : (c : Scope) (e : tree.Expr) (p : Place) (s : Seen) → Accepts s (Has c want.Free e) → Finds (named_number c.world p s) (IsInteger c e)
named_by c e p (seen'.Refused f) h = tt
named_by c e p seen'.Unknown h = tt
named_by c e p (seen'.Number n) h = rule.universal n h
named_by c e p (seen'.Typed t x) h = typed_integer c e code.L27 code.L8 p t x h (form_at c.world t) refl

pub named_finds : (c : Scope) (p : Place) (e : tree.Expr) → Finds (part c want.Free e (named_number c.world p)) (IsInteger c e)
named_finds c p e = named_by c e p (seen c want.Free e) (has_accepts c want.Free e)

-- ---- the range of a constraint

abbrev Inside : Scope → ℕ → Scalar → tree.Expr → ℤ → Type 0
Inside c t x e n = IsBound c t e n × (in_scalar x n ≡ true)

bound_in_finds : (c : Scope) (t : ℕ) (x : Scalar) (e : tree.Expr) → Finds (part c (want.Type t) e (bound_in c.world t x (place_of c e))) (Inside c t x e)
bound_in_finds c t x e =
    let s = seen c (want.Type t) e in
    let p = place_of c e in
    then_finds (IsBound c t e) (Inside c t x e) (value_of_type c.world code.L20 t p s) (λ n. unless (in_scalar x n) code.L20 p n) (bound_of_type c code.L20 t e)
    (λ n h. unless_keeps (Inside c t x e) (in_scalar x n) code.L20 p n (λ i. (h, i)))

pub narrows_finds : (c : Scope) (t : ℕ) (x : Scalar) (b : tree.Bounds) → Finds (range_in c t x b) (Narrows c t x b)
narrows_finds c t x b =
    let low = part c (want.Type t) b.low (bound_in c.world t x (place_of c b.low)) in
    let high = part c (want.Type t) b.high (bound_in c.world t x (place_of c b.high)) in
    let Both : Bounds → Type 0 = λ r. Inside c t x b.low r.first × Inside c t x b.high r.last in
    then_finds Both (Narrows c t x b) (both bounds low high) (in_order (place_of c b.high))
    (both_finds (Inside c t x b.low) (Inside c t x b.high) Both bounds low high (bound_in_finds c t x b.low) (bound_in_finds c t x b.high) (λ m n i j. (i, j)))
    (λ r h. unless_keeps (Narrows c t x b) (int_le r.first r.last) code.L20 (place_of c b.high) r
    (λ i. record { first = h.0.0; last = h.1.0; first_inside = h.0.1; last_inside = h.1.1; in_order = i }))

-- ---- static ranges

pub static_range_finds : (c : Scope) (w : Want) (g : tree.Range) → Finds (static_range c w g) (HasStaticRange c w g)
static_range_finds c w g =
    then_finds (Ranges c code.L20 w g) (HasStaticRange c w g) (range_seen c code.L20 w g) (static_range_of c g) (ranges_finds c code.L20 w g)
    (λ o h. both_finds (λ m. number_in o.low ≡ Some m) (λ n. number_in o.high ≡ Some n) (HasStaticRange c w g) (λ l k. record { subtype = o.subtype; bounds = bounds l k })
    (static_in code.L20 (low_place c g) o.low) (static_in code.L20 (high_place c g) o.high) (bound_finds code.L20 (low_place c g) o.low) (bound_finds code.L20 (high_place c g) o.high)
    (λ m n i j. rule.static_range o m n h i j))

same_pair : (b : Bounds) (m n : ℤ) → m ≡ b.first → n ≡ b.last → bounds m n ≡ b
same_pair b m n e i = ap (λ (z : ℤ). bounds z n) e ∙ ap (bounds b.first) i

lies_by : (p q : Place) (x b : Bounds) (k : Bool) → int_le b.first b.last ≡ k
    → Finds (if k then both bounds (unless (int_le x.first b.first) code.L20 p b.first) (unless (int_le b.last x.last) code.L20 q b.last) else found.Is b) (λ v. LiesIn x b × (v ≡ b))
lies_by p q x b true e =
    both_finds (λ m. (int_le x.first b.first ≡ true) × (m ≡ b.first)) (λ n. (int_le b.last x.last ≡ true) × (n ≡ b.last)) (λ v. LiesIn x b × (v ≡ b)) bounds
    (unless (int_le x.first b.first) code.L20 p b.first) (unless (int_le b.last x.last) code.L20 q b.last)
    (unless_finds (int_le x.first b.first) code.L20 p b.first) (unless_finds (int_le b.last x.last) code.L20 q b.last)
    (λ m n i j. (rule.inside i.0 j.0, same_pair b m n i.1 j.1))
lies_by p q x b false e = (rule.no_index e, refl)

lies_finds : (p q : Place) (x b : Bounds) → Finds (indexes_in p q x b) (λ v. LiesIn x b × (v ≡ b))
lies_finds p q x b = lies_by p q x b (int_le b.first b.last) refl

bounded_by : (c : Scope) (i : ℕ) (g : tree.Range) (t : ℕ) → type_at c.world i ≡ Some t → (o : Option Bounds) → bounds_at c.world i ≡ o
    → Finds (found_then (static_range c (want.Type t) g) (bounds_for c g o)) (GivesBounds c i g)
bounded_by c i g t e None k =
    then_finds (HasStaticRange c (want.Type t) g) (GivesBounds c i g) (static_range c (want.Type t) g) (bounds_for c g None) (static_range_finds c (want.Type t) g) (λ r h. tt)
bounded_by c i g t e (Some x) k =
    then_finds (HasStaticRange c (want.Type t) g) (GivesBounds c i g) (static_range c (want.Type t) g) (bounds_for c g (Some x)) (static_range_finds c (want.Type t) g)
    (λ r h. finds_map (λ v. LiesIn x r.bounds × (v ≡ r.bounds)) (GivesBounds c i g) (λ v z. subst (GivesBounds c i g) (sym z.1) (rule.bounds_for t x r e k h z.0))
    (indexes_in (low_place c g) (high_place c g) x r.bounds) (lies_finds (low_place c g) (high_place c g) x r.bounds))

index_by : (c : Scope) (i : ℕ) (g : tree.Range) (s : Option Subtype) → subtype_at c.world i ≡ s
    → Finds (found_then (static_range c (type_want (type_in s)) g) (bounds_for c g (bounds_in (form_in s)))) (GivesBounds c i g)
index_by c i g None e =
    then_finds (HasStaticRange c want.Unknown g) (GivesBounds c i g) (static_range c want.Unknown g) (bounds_for c g None) (static_range_finds c want.Unknown g) (λ r h. tt)
index_by c i g (Some x) e = bounded_by c i g x.of (ap type_in e) (bounds_in (Some x.form)) (ap (λ (s : Option Subtype). bounds_in (form_in s)) e)

pub index_range_finds : (c : Scope) (i : ℕ) (g : tree.Range) → Finds (index_range c i g) (GivesBounds c i g)
index_range_finds c i g = index_by c i g (subtype_at c.world i) refl
