-- Conversions.
use Rattle.std.proofs.Common.{◌≡◌, ap, subst, sym, ◌∙◌, refl, true≢false, ℕ, ℤ, Bool, true, false, ◌&&◌, ◌||◌, Option, Some, None, is_some}
use Rattle.std.specs.Prelude.{◌==◌, if◌then◌else◌}
use Rattle.std.proofs.lemmas.Bool.{eqb-true}
use Rattle.ada_values.specs.Scalars.{in_base, in_scalar}
use Rattle.ada_values.specs.Shapes.{fits, in_shape}
use Rattle.ada_values.specs.Value.{Val, truth, value}
use Rattle.ada_values.specs.declared.place.Place.{Place}
use Rattle.ada_values.specs.declared.scalars.Scalar.{Scalar}
use Rattle.ada_values.specs.declared.shapes.Shape.{Shape}
use Rattle.ada_values.specs.declared.shapes.Shape.TheVariants as shape
use Rattle.ada_values.specs.declared.values.Value.TheVariants as values
use Rattle.ada_values.proofs.Views.{value_Bool, value_Int}
use Rattle.front_codes.specs.declared.codes.Code.TheVariants.{L18, L29}
use Rattle.typed_units.specs.declared.expressions.Expr.{Expr, out-Expr}
use Rattle.typed_units.specs.declared.expressions.ExprNode.{ExprNode}
use Rattle.typed_units.specs.declared.expressions.ExprNode.TheVariants as node
use Rattle.typed_units.specs.declared.operators.Bounds.{Bounds}
use Rattle.typed_units.specs.declared.programs.Class.{Class}
use Rattle.typed_units.specs.declared.programs.Class.TheVariants as class
use Rattle.typed_units.specs.declared.programs.Program.{Program}
use Rattle.type_base.specs.Scope.{Scope}
use Rattle.type_base.specs.declared.seen.Seen.{Seen}
use Rattle.type_base.specs.declared.seen.Seen.TheVariants as seen
use Rattle.type_base.specs.declared.world.Discrete.{Discrete}
use Rattle.type_base.specs.declared.world.Form.{Form}
use Rattle.type_base.specs.declared.world.Form.TheVariants as form
use Rattle.type_base.specs.declared.world.World.{World}
use Rattle.type_base.specs.Demands.{bounds_at, check_in, check_of, includes, is_whole, known, known_in, made, refused, subtype_of}
use Rattle.type_base.specs.Demands as demands
use Rattle.type_base.specs.Lookups.{form_at, form_in, subtype_at, type_at}
use Rattle.type_base.specs.Standard.{boolean}
use Rattle.typing_rules.specs.Lookups.{seen_as, seen_by}
use Rattle.typing_rules.specs.Names.{conversion, converted, convertible, number_converted, of_same, static_or, typed_converted, universal_converted}
use Rattle.program_typing.specs.Expressions as rule
use Rattle.program_typing.specs.Expressions.{Converts, Frame, Gives, HasSubtype}
use Rattle.program_typing.specs.Subtypes as subtypes
use Rattle.program_typing.specs.Subtypes.{Has, IsSound, class_of, passes, shape_of}
use Rattle.program_typing.proofs.Nodes.{node_gives, node_made}
use Rattle.well_typed_programs.specs.Fits.{IsTyped, IsWell, WorldFits}
use Rattle.well_typed_programs.proofs.Fitting.{check_is, number_plain, plain_takes, is_array}
use Rattle.well_typed_programs.proofs.Operators.{whole_class}
use Rattle.well_typed_programs.proofs.Unary.{StaticIs, no_truth, static_is}
use Rattle.well_typed_programs.proofs.Worlds.{class_kept, class_there, made_is, none_is, number_there, some_is, both_true, sound_there, truth_in_shape, truth_number, is_boolean, type_in_program, type_itself, type_there, well_if, widened}

-- ---- an expression of a subtype

seen_by_is : (f : Frame) (w : World) (p : Place) (k : ℕ) (n : ExprNode Expr) (o : Option ℕ) → type_at w k ≡ o → ((t : ℕ) → type_at w k ≡ Some t → Gives f n k) → IsWell f w (seen_by p k n o)
seen_by_is f w p k n None e g = tt
seen_by_is f w p k n (Some t) e g = made_is f w p t k n e (g t e)

pub seen_as_is : (f : Frame) (c : Scope) (p : Place) (k : ℕ) (n : ExprNode Expr) → ((t : ℕ) → type_at c.world k ≡ Some t → Gives f n k) → IsWell f c.world (seen_as c p k n)
seen_as_is f c p k n g = seen_by_is f c.world p k n (type_at c.world k) refl g

pub convert_gives : (f : Frame) (w : World) (k j t u : ℕ) (x : Expr) → WorldFits f.program w → type_at w k ≡ Some t → type_at w j ≡ Some u → HasSubtype f x j → Converts f.program j k → Gives f (node.Convert (check_of w k x) x) k
convert_gives f w k j t u x h e g i v = subst (λ (b : Option Bounds). Gives f (node.Convert b x) k) (check_is f w k j t u x h e g i) (rule.conversion f x j k i v)

same_is : (f : Frame) (c : Scope) (p : Place) (k j u : ℕ) (x : Expr) → WorldFits f.program c.world → type_at c.world j ≡ Some u → HasSubtype f x j → Converts f.program j k → IsWell f c.world (of_same c p k x)
same_is f c p k j u x h g i v = seen_as_is f c p k (node.Convert (check_of c.world k x) x) (λ t e. convert_gives f c.world k j t u x h e g i v)

-- ---- static numbers

none_if : (b : Bool) (x : Bounds) (o : Option Bounds) → is_some o ≡ false → (if b then o else Some x) ≡ o → b ≡ true
none_if true x o n e = refl
none_if false x o n e = absurd (none_is o x n (sym e))

-- without a range check a static number lies in the subtype
in_subtype : (w : World) (k : ℕ) (d : Discrete) (s : Scalar) (x : Expr) (n : ℤ) → form_at w k ≡ Some (form.Number d s) → known w x ≡ Some (record { first = n; last = n }) → check_of w k x ≡ None → in_scalar s n ≡ true
in_subtype w k d s x n e g h =
    none_if (in_scalar s n) (record { first = s.lo; last = s.hi }) None refl
    (sym (ap (λ (o : Option Form). check_in (demands.bounds_in o) (known w x)) e ∙ ap (λ (o : Option Bounds). check_in (Some (record { first = s.lo; last = s.hi })) o) g) ∙ h)

pub int_in_shape : (p : Program) (w : World) (k : ℕ) (d : Discrete) (s : Scalar) (n : ℤ) → WorldFits p w → form_at w k ≡ Some (form.Number d s) → in_scalar s n ≡ true → in_shape p.shapes k (value (values.Int n)) ≡ true
int_in_shape p w k d s n h e i =
    ap (λ (o : Option Shape). fits p.shapes o (value (values.Int n))) (number_there p w k d s h e) ∙ ap (λ (v : Val). fits p.shapes (Some (shape.Number s)) v) (value_Int n) ∙ i

static_or_is : (f : Frame) (c : Scope) (p : Place) (k j u : ℕ) (x : Expr) (d : Discrete) (s : Scalar) (n : ℤ) (b : Option Bounds) → WorldFits f.program c.world → form_at c.world k ≡ Some (form.Number d s)
    → known c.world x ≡ Some (record { first = n; last = n }) → type_at c.world j ≡ Some u → HasSubtype f x j → Converts f.program j k → check_of c.world k x ≡ b → IsWell f c.world (static_or c p k x b (values.Int n))
static_or_is f c p k j u x d s n None h e y g i v o =
    seen_as_is f c p k (node.Static (values.Int n)) (λ t z. rule.static f k (values.Int n) (int_in_shape f.program c.world k d s n h e (in_subtype c.world k d s x n e y o)))
static_or_is f c p k j u x d s n (Some b) h e y g i v o =
    seen_as_is f c p k (node.Convert (Some b) x) (λ t z. subst (λ (a : Option Bounds). Gives f (node.Convert a x) k) o (convert_gives f c.world k j t u x h z g i v))

number_is : (f : Frame) (c : Scope) (p : Place) (k j u : ℕ) (x : Expr) (n : ℤ) (m : Option Form) → WorldFits f.program c.world → form_at c.world k ≡ m → known c.world x ≡ Some (record { first = n; last = n })
    → type_at c.world j ≡ Some u → HasSubtype f x j → Converts f.program j k → IsWell f c.world (number_converted c p k x n m)
number_is f c p k j u x n None h e y g i v = same_is f c p k j u x h g i v
number_is f c p k j u x n (Some form.Truth) h e y g i v = same_is f c p k j u x h g i v
number_is f c p k j u x n (Some (form.Array a b t)) h e y g i v = same_is f c p k j u x h g i v
number_is f c p k j u x n (Some (form.Record a b)) h e y g i v = same_is f c p k j u x h g i v
number_is f c p k j u x n (Some (form.Number d s)) h e y g i v =
    well_if f c.world (in_base s n) (static_or c p k x (check_of c.world k x) (values.Int n)) (refused L29 p)
    (λ b. static_or_is f c p k j u x d s n (check_of c.world k x) h e y g i v refl) tt

-- ---- universal numbers

-- a number in the base range of a subtype is one of its type
pub base_in_type : (p : Program) (w : World) (k t : ℕ) (d : Discrete) (s : Scalar) (n : ℤ) → WorldFits p w → type_at w k ≡ Some t → form_at w k ≡ Some (form.Number d s) → in_base s n ≡ true
    → in_shape p.shapes t (value (values.Int n)) ≡ true
base_in_type p w k t d s n h e g i =
    let z = sound_there p w k t h e in
    let same = some_is z.type t (sym z.of_type ∙ type_in_program p w k t h e) in
    let one : z.shape ≡ shape.Number s = some_is z.shape (shape.Number s) (sym z.of_shape ∙ number_there p w k d s h g) in
    let wide = widened z.type_shape z.shape s z.widens one in
    ap (λ (o : Option Shape). fits p.shapes o (value (values.Int n))) (ap (λ (j : ℕ). shape_of p j) (sym same) ∙ z.of_type_shape ∙ ap (λ (x : Shape). Some x) wide)
    ∙ ap (λ (v : Val). fits p.shapes (Some (shape.Number (record s { lo = s.base_lo; hi = s.base_hi }))) v) (value_Int n)
    ∙ i

universal_is : (f : Frame) (c : Scope) (p : Place) (k : ℕ) (q : Place) (n : ℤ) (o : Option ℕ) (m : Option Form) → WorldFits f.program c.world → type_at c.world k ≡ o → form_at c.world k ≡ m
    → IsWell f c.world (universal_converted c p k q n o m)
universal_is f c p k q n None m h e g = tt
universal_is f c p k q n (Some t) None h e g = tt
universal_is f c p k q n (Some t) (Some form.Truth) h e g = tt
universal_is f c p k q n (Some t) (Some (form.Array a b i)) h e g = tt
universal_is f c p k q n (Some t) (Some (form.Record a b)) h e g = tt
universal_is f c p k q n (Some t) (Some (form.Number d s)) h e g =
    let w = c.world in let pr = f.program in
    let x = made q t (node.Static (values.Int n)) in
    well_if f w (is_whole d) (number_converted c p k x n (Some (form.Number d s))) (refused L18 q)
    (λ whole. well_if f w (in_base s n) (static_or c p k x (check_of w k x) (values.Int n)) (refused L29 p)
    (λ b.
    let has = rule.has f q t (node.Static (values.Int n)) (rule.static f t (values.Int n) (base_in_type pr w k t d s n h e g b)) in
    let type_t = type_itself pr w k t h e in
    let integer_k = ap (λ (o : Option Class). passes subtypes.is_integer o) (class_there pr w k (form.Number d s) h g) ∙ whole_class d whole in
    let integer_t = ap (λ (o : Option Class). passes subtypes.is_integer o) (class_kept pr w k t h e) ∙ integer_k in
    static_or_is f c p k t t x d s n (check_of w k x) h g (ap (λ (y : ExprNode Expr). known_in w (subtype_of x) y) (node_made (record { place = q; subtype = t; node = node.Static (values.Int n) })))
    type_t has (rule.integers integer_t integer_k) refl) tt) tt

-- ---- typed operands

either : (a b : Bool) → a || b ≡ true → (a ≡ false → b ≡ true)
either true b e g = absurd (true≢false g)
either false b e g = e

-- the conversion is between these subtypes
within_one : (p : Program) (w : World) (k j t u : ℕ) → WorldFits p w → type_at w k ≡ Some t → type_at w j ≡ Some u → t == u ≡ true → is_array (class_of p k) ≡ false → Converts p j k
within_one p w k j t u h e g s a =
    let at : type_at w j ≡ Some t = g ∙ ap (λ (n : ℕ). Some n) (sym (eqb-true t u s)) in
    rule.within_type (record { type = t; first = type_in_program p w j t h at; second = type_in_program p w k t h e }) (plain_takes p w false k j t h e at a)

numbers_convert : (p : Program) (w : World) (k j t u : ℕ) (d e : Discrete) (s r : Scalar) (b : Bool) → WorldFits p w → type_at w k ≡ Some t → type_at w j ≡ Some u → form_at w k ≡ Some (form.Number d s) → form_at w u ≡ Some (form.Number e r)
    → t == u ≡ b → b || (is_whole d && is_whole e) ≡ true → Converts p j k
numbers_convert p w k j t u d e s r true h x y m n o a = within_one p w k j t u h x y o (ap is_array (class_there p w k (form.Number d s) h m) ∙ number_plain d)
numbers_convert p w k j t u d e s r false h x y m n o a =
    let z = both_true (is_whole d) (is_whole e) a in
    rule.integers
    (ap (λ (c : Option Class). passes subtypes.is_integer c) (sym (class_kept p w j u h y) ∙ class_there p w u (form.Number e r) h n) ∙ whole_class e z.1)
    (ap (λ (c : Option Class). passes subtypes.is_integer c) (class_there p w k (form.Number d s) h m) ∙ whole_class d z.0)

converts_by : (p : Program) (w : World) (k j t u : ℕ) (m n : Option Form) → WorldFits p w → type_at w k ≡ Some t → type_at w j ≡ Some u → form_at w k ≡ m → form_at w u ≡ n → convertible t u m n ≡ true → Converts p j k
converts_by p w k j t u (Some (form.Array i b l)) n h e g x y a = absurd (true≢false (sym a))
converts_by p w k j t u (Some (form.Number d s)) (Some (form.Number c r)) h e g x y a = numbers_convert p w k j t u d c s r (t == u) h e g x y refl a
converts_by p w k j t u (Some (form.Number d s)) (Some form.Truth) h e g x y a = within_one p w k j t u h e g a (ap is_array (class_there p w k (form.Number d s) h x) ∙ number_plain d)
converts_by p w k j t u (Some (form.Number d s)) (Some (form.Array i b l)) h e g x y a = within_one p w k j t u h e g a (ap is_array (class_there p w k (form.Number d s) h x) ∙ number_plain d)
converts_by p w k j t u (Some (form.Number d s)) (Some (form.Record i b)) h e g x y a = within_one p w k j t u h e g a (ap is_array (class_there p w k (form.Number d s) h x) ∙ number_plain d)
converts_by p w k j t u (Some (form.Number d s)) None h e g x y a = within_one p w k j t u h e g a (ap is_array (class_there p w k (form.Number d s) h x) ∙ number_plain d)
converts_by p w k j t u (Some form.Truth) n h e g x y a = within_one p w k j t u h e g a (ap is_array (class_there p w k form.Truth h x))
converts_by p w k j t u (Some (form.Record i b)) n h e g x y a = within_one p w k j t u h e g a (ap is_array (class_there p w k (form.Record i b) h x))
converts_by p w k j t u None n h e g x y a =
    let z = type_there (subtype_at w k) t e in absurd (none_is None (z.0).form refl (sym x ∙ ap (λ o. form_in o) z.1))

-- a static truth value is of Boolean alone, whatever it is converted to
truth_sound : (p : Program) (k : ℕ) (c : Class) (sh : Shape) (b : Bool) → IsSound p k c sh → fits p.shapes (Some sh) (truth b) ≡ true → c ≡ class.Boolean
truth_sound p k _ _ b (subtypes.truth z) e = refl
truth_sound p k _ _ b (subtypes.number c s x l h o) e = absurd (true≢false (sym e))
truth_sound p k _ _ b (subtypes.array i a x y z u v) e = absurd (true≢false (sym e))
truth_sound p k _ _ b (subtypes.record_of ids x) e = absurd (true≢false (sym e))

truth_class : (p : Program) (w : World) (j u : ℕ) (b : Bool) → WorldFits p w → type_at w j ≡ Some u → in_shape p.shapes j (value (values.Bool b)) ≡ true → class_of p j ≡ Some class.Boolean
truth_class p w j u b h e i =
    let z = sound_there p w j u h e in
    let plain = ap (λ (v : Val). fits p.shapes (Some z.shape) v) (sym (value_Bool b)) ∙ ap (λ (o : Option Shape). fits p.shapes o (value (values.Bool b))) (sym z.of_shape) ∙ i in
    z.of_class ∙ ap (λ (c : Class). Some c) (truth_sound p j z.class z.shape b z.sound plain)

boolean_only : (p : Program) (w : World) (k t : ℕ) → WorldFits p w → type_at w k ≡ Some t → class_of p k ≡ Some class.Boolean → k ≡ boolean
boolean_only p w k t h e c =
    let z = sound_there p w k t h e in truth_number p k z.class z.shape z.sound (ap is_boolean (some_is z.class class.Boolean (sym z.of_class ∙ c)))

converted_truth : (f : Frame) (w : World) (k j t u : ℕ) (b : Bool) → WorldFits f.program w → type_at w k ≡ Some t → type_at w j ≡ Some u → Converts f.program j k → in_shape f.program.shapes j (value (values.Bool b)) ≡ true
    → in_shape f.program.shapes k (value (values.Bool b)) ≡ true
converted_truth f w k j t u b h e g (rule.integers x y) i = absurd (no_truth f.program w j u b h g x i)
converted_truth f w k j t u b h e g (rule.positions x y z) i = absurd (no_truth f.program w j u b h g x i)
converted_truth f w k j t u b h e g (rule.within_type o y) i =
    let p = f.program in
    let tj : o.type ≡ u = some_is o.type u (sym o.first ∙ type_in_program p w j u h g) in
    let tk : o.type ≡ t = some_is o.type t (sym o.second ∙ type_in_program p w k t h e) in
    let same : class_of p k ≡ class_of p j = sym (class_kept p w k t h e) ∙ ap (λ (n : ℕ). class_of p n) (sym tk ∙ tj) ∙ class_kept p w j u h g in
    let zero_is = boolean_only p w k t h e (same ∙ truth_class p w j u b h g i) in
    subst (λ (n : ℕ). in_shape p.shapes n (value (values.Bool b)) ≡ true) (sym zero_is) (truth_in_shape p w b h)

converted_is : (f : Frame) (c : Scope) (p : Place) (k j u : ℕ) (x : Expr) (n : ExprNode Expr) → WorldFits f.program c.world → type_at c.world j ≡ Some u → HasSubtype f x j → Converts f.program j k → StaticIs f n j → (out-Expr x).node ≡ n
    → IsWell f c.world (converted c p k x n)
converted_is f c p k j u x (node.Static (values.Int n)) h g i v s e =
    number_is f c p k j u x n (form_at c.world k) h refl (ap (λ (y : ExprNode Expr). known_in c.world (subtype_of x) y) e) g i v
converted_is f c p k j u x (node.Static (values.Bool b)) h g i v s e =
    seen_as_is f c p k (node.Static (values.Bool b)) (λ t z. rule.static f k (values.Bool b) (converted_truth f c.world k j t u b h z g v s))
converted_is f c p k j u x n h g i v s e = same_is f c p k j u x h g i v

typed_is : (f : Frame) (c : Scope) (p : Place) (k : ℕ) (q : Place) (o : Option ℕ) (u : ℕ) (x : Expr) → WorldFits f.program c.world → type_at c.world k ≡ o → IsTyped f c.world u x → IsWell f c.world (typed_converted c p k q o u x)
typed_is f c p k q None u x h e z = tt
typed_is f c p k q (Some t) u x h e z =
    well_if f c.world (convertible t u (form_at c.world k) (form_at c.world u)) (converted c p k x (out-Expr x).node) (refused L18 q)
    (λ a. converted_is f c p k z.subtype u x (out-Expr x).node h z.of_type z.has
    (converts_by f.program c.world k z.subtype t u (form_at c.world k) (form_at c.world u) h e z.of_type refl refl a)
    (static_is f (out-Expr x).node z.subtype (node_gives f x z.subtype z.has)) refl) tt

pub conversion_is : (f : Frame) (c : Scope) (p : Place) (k : ℕ) (q : Place) (s : Seen) → WorldFits f.program c.world → IsWell f c.world s → IsWell f c.world (conversion c p k q s)
conversion_is f c p k q (seen.Refused r) h z = tt
conversion_is f c p k q seen.Unknown h z = tt
conversion_is f c p k q (seen.Number n) h z = universal_is f c p k q n (type_at c.world k) (form_at c.world k) h refl refl
conversion_is f c p k q (seen.Typed u x) h z = typed_is f c p k q (type_at c.world k) u x h refl z
