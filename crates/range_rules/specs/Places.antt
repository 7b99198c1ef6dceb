-- Ranges and membership tests over the places of their bounds, in place of the bounds themselves.
use Rattle.std.specs.Prelude.{ℕ, ℤ, Bool, ◌==◌, if◌then◌else◌}
use Rattle.ada_values.specs.Scalars.{within}
use Rattle.ada_values.specs.declared.place.Place.{Place}
use Rattle.front_codes.specs.declared.codes.Code.{Code}
use Rattle.front_codes.specs.declared.codes.Code.TheVariants as code
use Rattle.typed_units.specs.declared.expressions.Expr.{Expr}
use Rattle.type_base.specs.Demands.{placed_number, refused}
use Rattle.type_base.specs.Results.{static_truth}
use Rattle.type_base.specs.Scope.{Scope}
use Rattle.type_base.specs.declared.seen.Seen.{Seen}
use Rattle.type_base.specs.declared.seen.Seen.TheVariants as seen
use Rattle.type_base.specs.declared.world.World.{World}
use Rattle.typing_rules.specs.declared.prefix.Between.{Between}
use Rattle.typing_rules.specs.declared.prefix.Found.{Found}
use Rattle.typing_rules.specs.declared.prefix.Found.TheVariants.{Refused, Unknown, Is}
use Rattle.typing_rules.specs.declared.prefix.Reach.{Reach}
use Rattle.typing_rules.specs.declared.prefix.Reach.TheVariants as reach
use Rattle.typing_rules.specs.Fits.{both, refused_beside}
use Rattle.typing_rules.specs.Lookups.{type_of}
use Rattle.typing_rules.specs.Ranges.{found_expr, member_number, member_of, reach_seen, same_truth}

-- a range of type t by its bounds
abbrev pub range_of : ℕ → Expr → Expr → Between
range_of t x y = record { subtype = t; low = x; high = y }

-- a range by two numbers at l and h, which take type t
abbrev pub numbers_placed : World → Code → ℕ → Place → Place → ℤ → ℤ → Found Between
numbers_placed w r t l h a b =
    both (range_of t) (found_expr (placed_number w r l l t a)) (found_expr (placed_number w r h h t b))

-- the bounds at l and h, where universal ones take type t: `Ranges.reach_in`
abbrev pub reach_placed : Scope → Code → ℕ → Place → Place → Reach → Found Between
reach_placed c r t l h (reach.Refused f) = Refused f
reach_placed c r t l h reach.Unknown = Unknown
reach_placed c r t l h (reach.Between b) = Is b
reach_placed c r t l h (reach.Numbers a b) = numbers_placed c.world r t l h a b

-- `Ranges.member_typed`
abbrev pub typed_placed : Scope → Place → Bool → Place → ℕ → Expr → Found Between → Seen
typed_placed c p is l t x (Refused f) = seen.Refused f
typed_placed c p is l t x Unknown = seen.Unknown
typed_placed c p is l t x (Is b) = if t == type_of c.world b.subtype then member_of p is x b else refused code.L7 l

-- a number at q, which takes the type of the range
abbrev pub number_placed : Scope → Place → Bool → Place → ℤ → Reach → Seen
number_placed c p is q n (reach.Refused f) = seen.Refused f
number_placed c p is q n reach.Unknown = seen.Unknown
number_placed c p is q n (reach.Numbers a b) = static_truth p (same_truth is (within a b n))
number_placed c p is q n (reach.Between b) = member_number p is b (placed_number c.world code.L7 q q (type_of c.world b.subtype) n)

-- the tested expression at q, and the range with bounds at l and h: `Ranges.member_by`
abbrev pub member_placed : Scope → Place → Bool → Place → Place → Place → Seen → Reach → Seen
member_placed c p is q l h (seen.Refused f) u = refused_beside f (reach_seen u)
member_placed c p is q l h seen.Unknown u = reach_seen u
member_placed c p is q l h (seen.Typed t x) u = typed_placed c p is l t x (reach_placed c code.L7 t l h u)
member_placed c p is q l h (seen.Number n) u = number_placed c p is q n u
