-- `'First`, `'Last` and `'Length` of arrays.
use Rattle.std.proofs.Common.{◌≡◌, ap, subst, sym, ◌∙◌, ℕ, Bool, true, false, Some}
use Rattle.ada_values.specs.Scalars.{in_base}
use Rattle.ada_values.specs.declared.place.Place.{Place}
use Rattle.ada_values.specs.declared.values.Value.TheVariants as values
use Rattle.front_codes.specs.declared.codes.Code.TheVariants.{TooWide}
use Rattle.typed_units.specs.declared.expressions.Expr.{Expr}
use Rattle.typed_units.specs.declared.expressions.ExprNode.TheVariants as node
use Rattle.typed_units.specs.declared.operators.Bounds.{Bounds}
use Rattle.type_base.specs.Scope.{Scope}
use Rattle.type_base.specs.declared.seen.Seen.TheVariants as seen
use Rattle.type_base.specs.declared.seen.Want.{Want}
use Rattle.type_base.specs.declared.world.World.{World}
use Rattle.type_base.specs.Demands.{made, refused, wanted_integer}
use Rattle.type_base.specs.Lookups.{type_at}
use Rattle.type_base.specs.Results.{universal}
use Rattle.typing_rules.specs.Attributes as bounded
use Rattle.typing_rules.specs.Attributes.{bound_at, bound_node, bound_of, length_at, length_of}
use Rattle.typing_rules.specs.Lookups.{number_or, size_of, type_of}
use Rattle.program_typing.specs.Expressions as rule
use Rattle.program_typing.specs.Expressions.{Frame, Gives, HasSubtype}
use Rattle.program_typing.specs.Subtypes as subtypes
use Rattle.program_typing.specs.Subtypes.{Has, passes}
use Rattle.well_typed_programs.specs.Fits.{GivesType, IndexFits, IsArrayOf, IsWell, PrefixFits, WorldFits}
use Rattle.well_typed_programs.proofs.Converting.{base_in_type, seen_as_is}
use Rattle.well_typed_programs.proofs.Joined.{wanted_integer_is, wanted_integer_whole}
use Rattle.well_typed_programs.proofs.Mapping.{type_of_class}
use Rattle.well_typed_programs.proofs.Objects.{array_there}
use Rattle.well_typed_programs.proofs.Operators.{ordered_class}
use Rattle.well_typed_programs.proofs.Worlds.{is_type, type_in_program, well_if}

inside : (w : World) (i : ℕ) (b : Bounds) (first : Bool) → (z : IndexFits w i b) → in_base z.scalar (bound_of first b) ≡ true
inside w i b true z = z.first
inside w i b false z = z.last

-- a bound that is known is of the index's type
known_gives : (f : Frame) (w : World) (i : ℕ) (b : Bounds) (first : Bool) → WorldFits f.program w → (z : IndexFits w i b) → Gives f (node.Static (values.Int (bound_of first b))) z.type
known_gives f w i b first h z = rule.static f z.type (values.Int (bound_of first b)) (base_in_type f.program w i z.type z.discrete z.scalar (bound_of first b) h z.of_type z.is (inside w i b first z))

read_gives : (f : Frame) (w : World) (i t : ℕ) (x : Expr) (first : Bool) → WorldFits f.program w → IsArrayOf f w i x → type_at w i ≡ Some t → Gives f (bound_node first x) t
read_gives f w i t x true h z e =
    let s = array_there f.program w z.subtype z.array h z.is in
    rule.first f x z.subtype z.array.index t s.shape z.has s.is (type_in_program f.program w z.array.index t h (subst (λ (k : ℕ). type_at w k ≡ Some t) (sym z.index) e))
read_gives f w i t x false h z e =
    let s = array_there f.program w z.subtype z.array h z.is in
    rule.last f x z.subtype z.array.index t s.shape z.has s.is (type_in_program f.program w z.array.index t h (subst (λ (k : ℕ). type_at w k ≡ Some t) (sym z.index) e))

-- the number of the index's type, where it is known
type_is : (w : World) (i t : ℕ) → type_at w i ≡ Some t → type_of w i ≡ t
type_is w i t e = ap number_or e

pub bound_is : (f : Frame) (c : Scope) (p : Place) (first : Bool) (g : bounded.Bounded) → WorldFits f.program c.world → PrefixFits f c.world g → IsWell f c.world (bound_at c p first g)
bound_is f c p first (bounded.static i b) h z =
    seen_as_is f c p (type_of c.world i) (node.Static (values.Int (bound_of first b)))
    (λ t e. subst (λ (n : ℕ). Gives f (node.Static (values.Int (bound_of first b))) n) (sym (type_is c.world i z.type z.of_type)) (known_gives f c.world i b first h z))
bound_is f c p first (bounded.known_bounds i b x) h z =
    let y = z.0 in
    let n = node.Static (values.Int (bound_of first b)) in
    let same = sym (type_is c.world i y.type y.of_type) in
    let ty = is_type f.program c.world i y.type h y.of_type in
    seen_as_is f c p (type_of c.world i) (node.Same (made p (type_of c.world i) n))
    (λ t e. subst (λ (j : ℕ). Gives f (node.Same (made p j n)) j) same
    (rule.plus f (made p y.type n) y.type y.type (rule.has f p y.type n (known_gives f c.world i b first h y)) ty
    (type_of_class f.program c.world i y.type y.discrete y.scalar subtypes.is_ordered h y.of_type y.is (ordered_class y.discrete))))
bound_is f c p first (bounded.of_value i x) h z =
    seen_as_is f c p (type_of c.world i) (bound_node first x) (λ t e. read_gives f c.world i (type_of c.world i) x first h z (z.of_type ∙ ap (λ (n : ℕ). Some n) (sym (type_is c.world i z.type z.of_type))))
bound_is f c p first bounded.no_array h z = tt
bound_is f c p first (bounded.unclear s) h z = z

length_gives : (f : Frame) (w : World) (v : Want) (q : Place) (i : ℕ) (x : Expr) → WorldFits f.program w → GivesType w v → IsArrayOf f w i x → Gives f (node.Length q x) (wanted_integer w v)
length_gives f w v q i x h g z =
    let s = array_there f.program w z.subtype z.array h z.is in
    rule.length_of f q x z.subtype z.array.index (wanted_integer w v) s.shape z.has s.is (is_type f.program w (wanted_integer w v) (wanted_integer w v) h (wanted_integer_is f.program w v h g)) (wanted_integer_whole f.program w v h)

pub length_is : (f : Frame) (c : Scope) (v : Want) (p q : Place) (g : bounded.Bounded) → WorldFits f.program c.world → GivesType c.world v → PrefixFits f c.world g → IsWell f c.world (length_at c v p q g)
length_is f c v p q (bounded.static i b) h g z = well_if f c.world (in_base universal (size_of b)) (seen.Number (size_of b)) (refused TooWide p) (λ e. tt) tt
length_is f c v p q (bounded.known_bounds i b x) h g z = seen_as_is f c p (wanted_integer c.world v) (node.Length q x) (λ t e. length_gives f c.world v q i x h g z.1)
length_is f c v p q (bounded.of_value i x) h g z = seen_as_is f c p (wanted_integer c.world v) (node.Length q x) (λ t e. length_gives f c.world v q i x h g z)
length_is f c v p q bounded.no_array h g z = tt
length_is f c v p q (bounded.unclear s) h g z = z
