-- Attributes.
use Rattle.std.proofs.Common.{◌≡◌, refl, ◌∙◌, ap, ℕ, Bool, true, false, ◌==◌, List, [], ◌∷◌, Option, Some, None, arith}
use Rattle.std.proofs.lemmas.Bool.Decides.{nat_tests}
use Rattle.std.specs.Prelude.{if◌then◌else◌}
use Rattle.ada_text.specs.declared.token.Span.{Span}
use Rattle.ada_values.specs.declared.place.Place.{Place}
use Rattle.front_codes.specs.declared.codes.Code.TheVariants as code
use Rattle.front_codes.specs.declared.codes.Refusal.{Refusal}
use Rattle.name_numbers.specs.Numbers.{word_of}
use Rattle.name_numbers.specs.declared.words.Word.{Word}
use Rattle.name_numbers.specs.declared.words.Word.TheVariants as word
use Rattle.syntax_view.specs.Trees as tree
use Rattle.typed_units.specs.declared.expressions.Expr.{Expr}
use Rattle.typed_units.specs.declared.expressions.ExprNode.{ExprNode}
use Rattle.typed_units.specs.declared.expressions.ExprNode.TheVariants as node
use Rattle.typed_units.specs.declared.expressions.Step.{Step as PathStep}
use Rattle.typed_units.specs.declared.operators.Bounds.{Bounds}
use Rattle.typed_units.specs.declared.operators.Object.{Object}
use Rattle.type_base.specs.Scope.{Scope}
use Rattle.type_base.specs.declared.seen.Moment.{Moment}
use Rattle.type_base.specs.declared.seen.Moment.TheVariants as moment
use Rattle.type_base.specs.declared.seen.Seen.{Seen}
use Rattle.type_base.specs.declared.seen.Seen.TheVariants as seen
use Rattle.type_base.specs.declared.seen.Want.{Want}
use Rattle.type_base.specs.declared.world.Form.{Form}
use Rattle.type_base.specs.declared.world.Form.TheVariants as form
use Rattle.type_base.specs.declared.world.Routine.{Routine}
use Rattle.type_base.specs.Demands.{broken, subtype_of}
use Rattle.type_base.specs.Lookups.{form_at, routine_at}
use Rattle.typing_rules.specs.declared.prefix.Mapping.{Mapping}
use Rattle.typing_rules.specs.declared.prefix.Mapping.TheVariants as mapping
use Rattle.typing_rules.specs.declared.prefix.Part.{Part}
use Rattle.typing_rules.specs.declared.prefix.Prefix.{Prefix}
use Rattle.typing_rules.specs.declared.prefix.Prefix.TheVariants as prefix
use Rattle.typing_rules.specs.Attributes as attributes
use Rattle.typing_rules.specs.Attributes.{Bounded, attribute_by, bound, bound_at, bounded, bounded_by, bounds_static, constant_bounded, entry_at, entry_node, is_mapped, left_out, length_at, mapping_by, mapping_of, old_at, old_node, only_components, part_bounded, range_at, range_by, range_from, result, result_by, result_in, scalar_bound, subtype_bounded, unfit, value_bounded, value_bounded_by, value_by, value_then, whole_then}
use Rattle.typing_rules.specs.Lookups.{Array, array_at, seen_as}
use Rattle.typing_rules.specs.Values.{part_value, prefix_fault, value_of}
use Rattle.typing_relations.specs.Demanded as demanded
use Rattle.typing_relations.specs.Demanded.{HasBounds, IsArray, IsMapping, Makes, Valued, WasThere}
use Rattle.typing_relations.specs.Obeys as rule
use Rattle.typing_relations.specs.Obeys.{Step}
use Rattle.typing_relations.proofs.Accepting.{Accepts, Allows, accepts_always, accepts_map, allows_always, allows_both, allows_itself, if_accepts, makes_accepts, result_with}
use Rattle.typing_relations.proofs.Values.{valued}

-- ---- arrays as prefixes

-- where there are bounds, this is so
abbrev BoundedIs : Type 0 → Bounded → Type 0
BoundedIs D (attributes.static i b) = D
BoundedIs D (attributes.known_bounds i b x) = D
BoundedIs D (attributes.of_value i x) = D
BoundedIs D attributes.no_array = Unit {0}
BoundedIs D (attributes.unclear (seen.Refused f)) = Unit {0}
BoundedIs D (attributes.unclear seen.Unknown) = Unit {0}
BoundedIs D (attributes.unclear (seen.Number n)) = ⊥
BoundedIs D (attributes.unclear (seen.Typed t x)) = ⊥

subtype_array : (c : Scope) (p : Place) (k : ℕ) (m : Option Form) → form_at c.world k ≡ m → BoundedIs (IsArray c p (prefix.Subtype k)) (subtype_bounded m)
subtype_array c p k None e = tt
subtype_array c p k (Some (form.Array i (Some b) t)) e = demanded.array_subtype k i t b e
subtype_array c p k (Some (form.Array i None t)) e = tt
subtype_array c p k (Some (form.Number d s)) e = tt
subtype_array c p k (Some form.Truth) e = tt
subtype_array c p k (Some (form.Record i n)) e = tt

bounds_are : (D : Type 0) (i : ℕ) (x : Expr) (b : Option Bounds) → D → BoundedIs D (bounds_static i x b)
bounds_are D i x None h = h
bounds_are D i x (Some b) h = h

constant_array : (c : Scope) (p : Place) (t : ℕ) (x : Expr) (m : Option Array) → array_at c.world (subtype_of x) ≡ m → BoundedIs (IsArray c p (prefix.Constant t x)) (constant_bounded x m)
constant_array c p t x None e = tt
constant_array c p t x (Some a) e = bounds_are (IsArray c p (prefix.Constant t x)) a.index x a.bounds (demanded.array_value (prefix.Constant t x) t x a (demanded.of_constant t x) e)

either_bounded : (D : Type 0) (i : ℕ) (b : Bounds) (x : Expr) (o : Bool) → D → BoundedIs D (if o then attributes.known_bounds i b x else attributes.of_value i x)
either_bounded D i b x true h = h
either_bounded D i b x false h = h

path_bounded : (D : Type 0) (x : Expr) (i : ℕ) (b : Option Bounds) (ss : List (PathStep Expr)) → D → BoundedIs D (bounded_by x i b ss)
path_bounded D x i None ss h = h
path_bounded D x i (Some b) [] h = h
path_bounded D x i (Some b) (s ∷ ss) h = either_bounded D i b x (only_components (s ∷ ss)) h

part_array : (c : Scope) (p : Place) (g : Part) (m : Option Array) → array_at c.world g.subtype ≡ m → BoundedIs (IsArray c p (prefix.Part g)) (part_bounded c.world g m)
part_array c p g None e = tt
part_array c p g (Some a) e = path_bounded (IsArray c p (prefix.Part g)) (part_value c.world g) a.index a.bounds g.target.path (demanded.array_object g a e)

typed_array : (c : Scope) (p : Place) (f : Prefix) (t : ℕ) (x : Expr) (m : Option Array) → Valued c.world p f (seen.Typed t x) → array_at c.world (subtype_of x) ≡ m → BoundedIs (IsArray c p f) (value_bounded_by x m)
typed_array c p f t x None h e = tt
typed_array c p f t x (Some a) h e = demanded.array_value f t x a h e

value_array : (c : Scope) (p : Place) (f : Prefix) (s : Seen) → Accepts s (Valued c.world p f) → BoundedIs (IsArray c p f) (value_bounded c.world s)
value_array c p f (seen.Refused g) h = tt
value_array c p f seen.Unknown h = tt
value_array c p f (seen.Number n) h = tt
value_array c p f (seen.Typed t x) h = typed_array c p f t x (array_at c.world (subtype_of x)) h refl

bounded_array : (c : Scope) (p : Place) (f : Prefix) → BoundedIs (IsArray c p f) (bounded c p f)
bounded_array c p (prefix.Subtype k) = subtype_array c p k (form_at c.world k) refl
bounded_array c p (prefix.Constant t x) = constant_array c p t x (array_at c.world (subtype_of x)) refl
bounded_array c p (prefix.Part g) = part_array c p g (array_at c.world g.subtype) refl
bounded_array c p prefix.Package = value_array c p prefix.Package (value_of c p prefix.Package) (valued c p prefix.Package)
bounded_array c p (prefix.Routine q) = value_array c p (prefix.Routine q) (value_of c p (prefix.Routine q)) (valued c p (prefix.Routine q))
bounded_array c p (prefix.Called q xs) = value_array c p (prefix.Called q xs) (value_of c p (prefix.Called q xs)) (valued c p (prefix.Called q xs))
bounded_array c p (prefix.Mapping m t k) = value_array c p (prefix.Mapping m t k) (value_of c p (prefix.Mapping m t k)) (valued c p (prefix.Mapping m t k))
bounded_array c p (prefix.Range b) = value_array c p (prefix.Range b) (value_of c p (prefix.Range b)) (valued c p (prefix.Range b))
bounded_array c p (prefix.Value s) = value_array c p (prefix.Value s) (value_of c p (prefix.Value s)) (valued c p (prefix.Value s))

-- ---- `'First`, `'Last`, `'Length`, `'Range`

bound_demands : (D : Type 0) (c : Scope) (p : Place) (first : Bool) (b : Bounded) → BoundedIs D b → Accepts (bound_at c p first b) (λ v. D)
bound_demands D c p first (attributes.static i b) h = accepts_always D (bound_at c p first (attributes.static i b)) h
bound_demands D c p first (attributes.known_bounds i b x) h = accepts_always D (bound_at c p first (attributes.known_bounds i b x)) h
bound_demands D c p first (attributes.of_value i x) h = accepts_always D (bound_at c p first (attributes.of_value i x)) h
bound_demands D c p first attributes.no_array h = tt
bound_demands D c p first (attributes.unclear (seen.Refused f)) h = tt
bound_demands D c p first (attributes.unclear seen.Unknown) h = tt
bound_demands D c p first (attributes.unclear (seen.Number n)) h = absurd h
bound_demands D c p first (attributes.unclear (seen.Typed t x)) h = absurd h

array_bound : (c : Scope) (p : Place) (first : Bool) (f : Prefix) (b : Bounded) → BoundedIs (IsArray c p f) b → Accepts (bound_at c p first b) (λ v. HasBounds c p f)
array_bound c p first f b h = accepts_map (λ v. IsArray c p f) (λ v. HasBounds c p f) (λ v i. demanded.array f i) (bound_at c p first b) (bound_demands (IsArray c p f) c p first b h)

subtype_bound : (c : Scope) (p : Place) (first : Bool) (k : ℕ) (m : Option Form) → form_at c.world k ≡ m → Accepts (scalar_bound c p first k m) (λ v. HasBounds c p (prefix.Subtype k))
subtype_bound c p first k (Some (form.Number d s)) e = accepts_always (HasBounds c p (prefix.Subtype k)) (scalar_bound c p first k (Some (form.Number d s))) (demanded.scalar_subtype k d s e)
subtype_bound c p first k None e = tt
subtype_bound c p first k (Some form.Truth) e = tt
subtype_bound c p first k (Some (form.Array i b t)) e = array_bound c p first (prefix.Subtype k) (subtype_bounded (Some (form.Array i b t))) (subtype_array c p k (Some (form.Array i b t)) e)
subtype_bound c p first k (Some (form.Record i n)) e = tt

has_bounds : (c : Scope) (p : Place) (first : Bool) (f : Prefix) → Accepts (bound c p first f) (λ v. HasBounds c p f)
has_bounds c p first (prefix.Subtype k) = subtype_bound c p first k (form_at c.world k) refl
has_bounds c p first (prefix.Constant t x) = let f = prefix.Constant t x in array_bound c p first f (bounded c p f) (bounded_array c p f)
has_bounds c p first (prefix.Part g) = let f = prefix.Part g in array_bound c p first f (bounded c p f) (bounded_array c p f)
has_bounds c p first prefix.Package = let f = prefix.Package in array_bound c p first f (bounded c p f) (bounded_array c p f)
has_bounds c p first (prefix.Routine q) = let f = prefix.Routine q in array_bound c p first f (bounded c p f) (bounded_array c p f)
has_bounds c p first (prefix.Called q xs) = let f = prefix.Called q xs in array_bound c p first f (bounded c p f) (bounded_array c p f)
has_bounds c p first (prefix.Mapping m t k) = let f = prefix.Mapping m t k in array_bound c p first f (bounded c p f) (bounded_array c p f)
has_bounds c p first (prefix.Range b) = let f = prefix.Range b in array_bound c p first f (bounded c p f) (bounded_array c p f)
has_bounds c p first (prefix.Value s) = let f = prefix.Value s in array_bound c p first f (bounded c p f) (bounded_array c p f)

length_demands : (D : Type 0) (c : Scope) (w : Want) (p t : Place) (b : Bounded) → BoundedIs D b → Accepts (length_at c w p t b) (λ v. D)
length_demands D c w p t (attributes.static i b) h = accepts_always D (length_at c w p t (attributes.static i b)) h
length_demands D c w p t (attributes.known_bounds i b x) h = accepts_always D (length_at c w p t (attributes.known_bounds i b x)) h
length_demands D c w p t (attributes.of_value i x) h = accepts_always D (length_at c w p t (attributes.of_value i x)) h
length_demands D c w p t attributes.no_array h = tt
length_demands D c w p t (attributes.unclear (seen.Refused f)) h = tt
length_demands D c w p t (attributes.unclear seen.Unknown) h = tt
length_demands D c w p t (attributes.unclear (seen.Number n)) h = absurd h
length_demands D c w p t (attributes.unclear (seen.Typed u x)) h = absurd h

range_demands : (D : Type 0) (c : Scope) (p : Place) (b : Bounded) → BoundedIs D b → Allows (range_at c p b) (λ g. D)
range_demands D c p (attributes.static i b) h = allows_always D (range_at c p (attributes.static i b)) h
range_demands D c p (attributes.known_bounds i b x) h = allows_always D (range_at c p (attributes.known_bounds i b x)) h
range_demands D c p (attributes.of_value i x) h = allows_always D (range_at c p (attributes.of_value i x)) h
range_demands D c p attributes.no_array h = tt
range_demands D c p (attributes.unclear (seen.Refused f)) h = tt
range_demands D c p (attributes.unclear seen.Unknown) h = tt
range_demands D c p (attributes.unclear (seen.Number n)) h = absurd h
range_demands D c p (attributes.unclear (seen.Typed u x)) h = absurd h

pub range_step : (c : Scope) (w : Want) (p : Place) (f : Prefix) (s : Span) → Allows (range_at c p (bounded c p f)) (Step c w p f (tree.ticked s tree.range_attribute))
range_step c w p f s =
    let g = range_at c p (bounded c p f) in
    allows_both (λ h. IsArray c p f) (λ h. g ≡ h) (Step c w p f (tree.ticked s tree.range_attribute)) (λ h i e. rule.range_attribute c w p f h s i e) g (range_demands (IsArray c p f) c p (bounded c p f) (bounded_array c p f)) (allows_itself g)

-- ---- `'Succ`, `'Pred`, `'Pos`, `'Val`

pub never_fits : (P : Seen → Type 0) (p : Place) (s : Seen) → Accepts (unfit p s) P
never_fits P p (seen.Refused f) = tt
never_fits P p seen.Unknown = tt
never_fits P p (seen.Number n) = tt
never_fits P p (seen.Typed t x) = tt

if_allows : (P : Prefix → Type 0) (b : Bool) (g : Prefix) (f : Refusal) → (b ≡ true → Allows g P) → Allows (if b then g else prefix.Value (seen.Refused f)) P
if_allows P true g f h = h refl
if_allows P false g f h = tt

mapping_form : (c : Scope) (w : Want) (p : Place) (k : ℕ) (s t : Span) (u : Word) (m : Mapping) (o : Option Form) → word_of (c.name t.from) ≡ Some u → IsMapping u m → form_at c.world k ≡ o
    → Allows (mapping_by p m (c.place s.from) k o) (Step c w p (prefix.Subtype k) (tree.ticked s (tree.attribute t)))
mapping_form c w p k s t u m None e i j = tt
mapping_form c w p k s t u m (Some (form.Number d r)) e i j =
    if_allows (Step c w p (prefix.Subtype k) (tree.ticked s (tree.attribute t))) (is_mapped m d) (prefix.Mapping m (c.place s.from) k) (broken code.L19 p) (λ l. rule.mapping_attribute c w p k s t u m d r e i j l)
mapping_form c w p k s t u m (Some form.Truth) e i j = tt
mapping_form c w p k s t u m (Some (form.Array a b n)) e i j = tt
mapping_form c w p k s t u m (Some (form.Record a n)) e i j = tt

mapping_step : (c : Scope) (w : Want) (p : Place) (f : Prefix) (s t : Span) (u : Word) (m : Mapping) → word_of (c.name t.from) ≡ Some u → IsMapping u m → Allows (mapping_of c p m (c.place s.from) f) (Step c w p f (tree.ticked s (tree.attribute t)))
mapping_step c w p (prefix.Subtype k) s t u m e i = mapping_form c w p k s t u m (form_at c.world k) e i refl
mapping_step c w p prefix.Package s t u m e i = let f = prefix.Package in never_fits (λ v. Step c w p f (tree.ticked s (tree.attribute t)) (prefix.Value v)) p (value_of c p f)
mapping_step c w p (prefix.Routine q) s t u m e i = let f = (prefix.Routine q) in never_fits (λ v. Step c w p f (tree.ticked s (tree.attribute t)) (prefix.Value v)) p (value_of c p f)
mapping_step c w p (prefix.Called q xs) s t u m e i = let f = (prefix.Called q xs) in never_fits (λ v. Step c w p f (tree.ticked s (tree.attribute t)) (prefix.Value v)) p (value_of c p f)
mapping_step c w p (prefix.Mapping a b d) s t u m e i = let f = (prefix.Mapping a b d) in never_fits (λ v. Step c w p f (tree.ticked s (tree.attribute t)) (prefix.Value v)) p (value_of c p f)
mapping_step c w p (prefix.Range b) s t u m e i = let f = (prefix.Range b) in never_fits (λ v. Step c w p f (tree.ticked s (tree.attribute t)) (prefix.Value v)) p (value_of c p f)
mapping_step c w p (prefix.Constant b x) s t u m e i = let f = (prefix.Constant b x) in never_fits (λ v. Step c w p f (tree.ticked s (tree.attribute t)) (prefix.Value v)) p (value_of c p f)
mapping_step c w p (prefix.Part g) s t u m e i = let f = (prefix.Part g) in never_fits (λ v. Step c w p f (tree.ticked s (tree.attribute t)) (prefix.Value v)) p (value_of c p f)
mapping_step c w p (prefix.Value v) s t u m e i = let f = (prefix.Value v) in never_fits (λ v. Step c w p f (tree.ticked s (tree.attribute t)) (prefix.Value v)) p (value_of c p f)

-- ---- `'Old`, `'Loop_Entry`, `'Result`

object_was : (c : Scope) (p : Place) (n : Object → Option (ExprNode Expr)) (g : Part) (m : Option (ExprNode Expr)) → g.target.path ≡ [] → n g.target.object ≡ m → Accepts (value_by c p g.subtype m) (WasThere c p n (prefix.Part g))
object_was c p n g None e i = tt
object_was c p n g (Some x) e i = accepts_map (Makes c.world p g.subtype x) (WasThere c p n (prefix.Part g)) (λ v z. demanded.whole_object g x v e i z) (seen_as c p g.subtype x) (makes_accepts c p g.subtype x)

path_was : (c : Scope) (p : Place) (n : Object → Option (ExprNode Expr)) (g : Part) (ss : List (PathStep Expr)) → g.target.path ≡ ss → Accepts (whole_then c p g n ss) (WasThere c p n (prefix.Part g))
path_was c p n g [] e = object_was c p n g (n g.target.object) e refl
path_was c p n g (s ∷ ss) e = tt

was_there : (c : Scope) (p : Place) (n : Object → Option (ExprNode Expr)) (f : Prefix) → Accepts (value_then c p n f) (WasThere c p n f)
was_there c p n (prefix.Part g) = path_was c p n g g.target.path refl
was_there c p n (prefix.Constant t x) = demanded.always t x
was_there c p n prefix.Package = let f = prefix.Package in never_fits (WasThere c p n f) p (value_of c p f)
was_there c p n (prefix.Subtype k) = let f = (prefix.Subtype k) in never_fits (WasThere c p n f) p (value_of c p f)
was_there c p n (prefix.Routine q) = let f = (prefix.Routine q) in never_fits (WasThere c p n f) p (value_of c p f)
was_there c p n (prefix.Called q xs) = let f = (prefix.Called q xs) in never_fits (WasThere c p n f) p (value_of c p f)
was_there c p n (prefix.Mapping a b d) = let f = (prefix.Mapping a b d) in never_fits (WasThere c p n f) p (value_of c p f)
was_there c p n (prefix.Range b) = let f = (prefix.Range b) in never_fits (WasThere c p n f) p (value_of c p f)
was_there c p n (prefix.Value v) = let f = (prefix.Value v) in never_fits (WasThere c p n f) p (value_of c p f)

old_step : (c : Scope) (w : Want) (p : Place) (f : Prefix) (s t : Span) (m : Moment) → word_of (c.name t.from) ≡ Some word.Old → c.moment ≡ m → Accepts (old_at c p f m) (λ v. Step c w p f (tree.ticked s (tree.attribute t)) (prefix.Value v))
old_step c w p f s t moment.InPost e i =
    accepts_map (WasThere c p (old_node p) f) (λ v. Step c w p f (tree.ticked s (tree.attribute t)) (prefix.Value v)) (λ v z. rule.old_attribute c w p f s t v e i z) (value_then c p (old_node p) f) (was_there c p (old_node p) f)
old_step c w p f s t (moment.InLoop l m) e i = never_fits (λ v. Step c w p f (tree.ticked s (tree.attribute t)) (prefix.Value v)) p (value_of c p f)
old_step c w p f s t moment.Elsewhere e i = never_fits (λ v. Step c w p f (tree.ticked s (tree.attribute t)) (prefix.Value v)) p (value_of c p f)

entry_step : (c : Scope) (w : Want) (p : Place) (f : Prefix) (s t : Span) (m : Moment) → word_of (c.name t.from) ≡ Some word.LoopEntry → c.moment ≡ m → Accepts (entry_at c p f m) (λ v. Step c w p f (tree.ticked s (tree.attribute t)) (prefix.Value v))
entry_step c w p f s t (moment.InLoop l m) e i =
    accepts_map (WasThere c p (entry_node p l m) f) (λ v. Step c w p f (tree.ticked s (tree.attribute t)) (prefix.Value v)) (λ v z. rule.entry_attribute c w p f s t l m v e i z) (value_then c p (entry_node p l m) f) (was_there c p (entry_node p l m) f)
entry_step c w p f s t moment.InPost e i = never_fits (λ v. Step c w p f (tree.ticked s (tree.attribute t)) (prefix.Value v)) p (value_of c p f)
entry_step c w p f s t moment.Elsewhere e i = never_fits (λ v. Step c w p f (tree.ticked s (tree.attribute t)) (prefix.Value v)) p (value_of c p f)

own_result : (c : Scope) (w : Want) (p : Place) (q : ℕ) (r : Routine) (s t : Span) (k : Option ℕ) → word_of (c.name t.from) ≡ Some word.Result → c.moment ≡ moment.InPost → c.own ≡ Some q → routine_at c.world q ≡ Some r → r.result ≡ k
    → Accepts (result_in c p k) (λ v. Step c w p (prefix.Routine q) (tree.ticked s (tree.attribute t)) (prefix.Value v))
own_result c w p q r s t None e i j l n = tt
own_result c w p q r s t (Some k) e i j l n =
    accepts_map (Makes c.world p k (node.Result p)) (λ v. Step c w p (prefix.Routine q) (tree.ticked s (tree.attribute t)) (prefix.Value v)) (λ v z. rule.result_attribute c w p q k r s t v e i j l n z) (seen_as c p k (node.Result p)) (makes_accepts c p k (node.Result p))

routine_result : (c : Scope) (w : Want) (p : Place) (q : ℕ) (s t : Span) (own : Option ℕ) (m : Moment) (o : Option Routine) → word_of (c.name t.from) ≡ Some word.Result → c.own ≡ own → c.moment ≡ m → routine_at c.world q ≡ o
    → Accepts (result_by c p q own m o) (λ v. Step c w p (prefix.Routine q) (tree.ticked s (tree.attribute t)) (prefix.Value v))
routine_result c w p q s t own m None e i j l = tt
routine_result c w p q s t (Some d) moment.InPost (Some r) e i j l =
    if_accepts (λ v. Step c w p (prefix.Routine q) (tree.ticked s (tree.attribute t)) (prefix.Value v)) (d == q) (result_in c p r.result) (broken code.L19 p)
    (λ n. let same : d ≡ q = grind (arith, nat_tests) in own_result c w p q r s t r.result e j (i ∙ ap Some same) l refl)
routine_result c w p q s t None m (Some r) e i j l = tt
routine_result c w p q s t (Some d) (moment.InLoop a b) (Some r) e i j l = tt
routine_result c w p q s t (Some d) moment.Elsewhere (Some r) e i j l = tt

result_step : (c : Scope) (w : Want) (p : Place) (f : Prefix) (s t : Span) → word_of (c.name t.from) ≡ Some word.Result → Accepts (result c p f) (λ v. Step c w p f (tree.ticked s (tree.attribute t)) (prefix.Value v))
result_step c w p (prefix.Routine q) s t e = routine_result c w p q s t c.own c.moment (routine_at c.world q) e refl refl refl
result_step c w p prefix.Package s t e = let f = prefix.Package in never_fits (λ v. Step c w p f (tree.ticked s (tree.attribute t)) (prefix.Value v)) p (value_of c p f)
result_step c w p (prefix.Subtype k) s t e = let f = (prefix.Subtype k) in never_fits (λ v. Step c w p f (tree.ticked s (tree.attribute t)) (prefix.Value v)) p (value_of c p f)
result_step c w p (prefix.Called q xs) s t e = let f = (prefix.Called q xs) in never_fits (λ v. Step c w p f (tree.ticked s (tree.attribute t)) (prefix.Value v)) p (value_of c p f)
result_step c w p (prefix.Mapping a b d) s t e = let f = (prefix.Mapping a b d) in never_fits (λ v. Step c w p f (tree.ticked s (tree.attribute t)) (prefix.Value v)) p (value_of c p f)
result_step c w p (prefix.Range b) s t e = let f = (prefix.Range b) in never_fits (λ v. Step c w p f (tree.ticked s (tree.attribute t)) (prefix.Value v)) p (value_of c p f)
result_step c w p (prefix.Constant b x) s t e = let f = (prefix.Constant b x) in never_fits (λ v. Step c w p f (tree.ticked s (tree.attribute t)) (prefix.Value v)) p (value_of c p f)
result_step c w p (prefix.Part g) s t e = let f = (prefix.Part g) in never_fits (λ v. Step c w p f (tree.ticked s (tree.attribute t)) (prefix.Value v)) p (value_of c p f)
result_step c w p (prefix.Value v) s t e = let f = (prefix.Value v) in never_fits (λ v. Step c w p f (tree.ticked s (tree.attribute t)) (prefix.Value v)) p (value_of c p f)

-- ---- all of them

never_left_out : (P : Prefix → Type 0) (p : Place) (o : Option Refusal) → Allows (left_out p o) P
never_left_out P p (Some f) = tt
never_left_out P p None = tt

word_step : (c : Scope) (w : Want) (p : Place) (f : Prefix) (s t : Span) (m : Option Word) → word_of (c.name t.from) ≡ m → Allows (attribute_by c w p f (c.place s.from) m) (Step c w p f (tree.ticked s (tree.attribute t)))
word_step c w p f s t (Some word.First) e =
    result_with (HasBounds c p f) (λ v. Step c w p f (tree.ticked s (tree.attribute t)) (prefix.Value v)) (bound c p true f) (has_bounds c p true f) (λ v i z. rule.first_attribute c w p f s t v e i z)
word_step c w p f s t (Some word.Last) e =
    result_with (HasBounds c p f) (λ v. Step c w p f (tree.ticked s (tree.attribute t)) (prefix.Value v)) (bound c p false f) (has_bounds c p false f) (λ v i z. rule.last_attribute c w p f s t v e i z)
word_step c w p f s t (Some word.Length) e =
    result_with (IsArray c p f) (λ v. Step c w p f (tree.ticked s (tree.attribute t)) (prefix.Value v)) (length_at c w p (c.place s.from) (bounded c p f)) (length_demands (IsArray c p f) c w p (c.place s.from) (bounded c p f) (bounded_array c p f))
    (λ v i z. rule.length_attribute c w p f s t v e i z)
word_step c w p f s t (Some word.Succ) e = mapping_step c w p f s t word.Succ mapping.Succ e demanded.succ
word_step c w p f s t (Some word.Pred) e = mapping_step c w p f s t word.Pred mapping.Pred e demanded.pred
word_step c w p f s t (Some word.Pos) e = mapping_step c w p f s t word.Pos mapping.Pos e demanded.position
word_step c w p f s t (Some word.Val) e = mapping_step c w p f s t word.Val mapping.Val e demanded.literal_at
word_step c w p f s t (Some word.Old) e = old_step c w p f s t c.moment e refl
word_step c w p f s t (Some word.LoopEntry) e = entry_step c w p f s t c.moment e refl
word_step c w p f s t (Some word.Result) e = result_step c w p f s t e
word_step c w p f s t (Some word.SparkMode) e = never_left_out (Step c w p f (tree.ticked s (tree.attribute t))) p (prefix_fault f)
word_step c w p f s t (Some word.Pure) e = never_left_out (Step c w p f (tree.ticked s (tree.attribute t))) p (prefix_fault f)
word_step c w p f s t (Some word.Preelaborate) e = never_left_out (Step c w p f (tree.ticked s (tree.attribute t))) p (prefix_fault f)
word_step c w p f s t (Some word.Assert) e = never_left_out (Step c w p f (tree.ticked s (tree.attribute t))) p (prefix_fault f)
word_step c w p f s t (Some word.Assume) e = never_left_out (Step c w p f (tree.ticked s (tree.attribute t))) p (prefix_fault f)
word_step c w p f s t (Some word.LoopInvariant) e = never_left_out (Step c w p f (tree.ticked s (tree.attribute t))) p (prefix_fault f)
word_step c w p f s t (Some word.LoopVariant) e = never_left_out (Step c w p f (tree.ticked s (tree.attribute t))) p (prefix_fault f)
word_step c w p f s t (Some word.Pre) e = never_left_out (Step c w p f (tree.ticked s (tree.attribute t))) p (prefix_fault f)
word_step c w p f s t (Some word.Post) e = never_left_out (Step c w p f (tree.ticked s (tree.attribute t))) p (prefix_fault f)
word_step c w p f s t (Some word.Global) e = never_left_out (Step c w p f (tree.ticked s (tree.attribute t))) p (prefix_fault f)
word_step c w p f s t (Some word.On) e = never_left_out (Step c w p f (tree.ticked s (tree.attribute t))) p (prefix_fault f)
word_step c w p f s t (Some word.Check) e = never_left_out (Step c w p f (tree.ticked s (tree.attribute t))) p (prefix_fault f)
word_step c w p f s t (Some word.Increases) e = never_left_out (Step c w p f (tree.ticked s (tree.attribute t))) p (prefix_fault f)
word_step c w p f s t (Some word.Decreases) e = never_left_out (Step c w p f (tree.ticked s (tree.attribute t))) p (prefix_fault f)
word_step c w p f s t (Some word.Input) e = never_left_out (Step c w p f (tree.ticked s (tree.attribute t))) p (prefix_fault f)
word_step c w p f s t (Some word.Output) e = never_left_out (Step c w p f (tree.ticked s (tree.attribute t))) p (prefix_fault f)
word_step c w p f s t (Some word.InOut) e = never_left_out (Step c w p f (tree.ticked s (tree.attribute t))) p (prefix_fault f)
word_step c w p f s t None e = never_left_out (Step c w p f (tree.ticked s (tree.attribute t))) p (prefix_fault f)

pub attribute_step : (c : Scope) (w : Want) (p : Place) (f : Prefix) (s t : Span) → Allows (attribute_by c w p f (c.place s.from) (word_of (c.name t.from))) (Step c w p f (tree.ticked s (tree.attribute t)))
attribute_step c w p f s t = word_step c w p f s t (word_of (c.name t.from)) refl
