-- What the walk over an expression asks of its parts.
use Rattle.std.specs.Prelude.{ℕ, Bool, true, false, List, [], ◌∷◌, Option, Some, None}
use Rattle.type_base.specs.declared.world.Formal.{Formal}
use Rattle.type_base.specs.Scope.{Scope}
use Rattle.type_base.specs.Standard.{integer_base}
use Rattle.type_base.specs.declared.seen.Family.{Family}
use Rattle.type_base.specs.declared.seen.Family.TheVariants as family
use Rattle.type_base.specs.declared.seen.Want.{Want}
use Rattle.type_base.specs.declared.seen.Want.TheVariants as want
use Rattle.typing_rules.specs.Forms.{outer_want}
use Rattle.typing_rules.specs.Lookups.{Array}
use Rattle.typing_rules.specs.Ranges.{want_or, weaker}

-- whether what stands in parentheses after a function with these formals indexes its value
abbrev pub is_indexed : List Formal → Option Array → Bool
is_indexed [] (Some a) = true
is_indexed [] None = false
is_indexed (f ∷ fs) a = false

-- ---- what the context gives operands, by the type that the other one tells

abbrev pub left_want_by : Scope → Family → Want → Option ℕ → Want
left_want_by c family.Power w k = weaker c.world w
left_want_by c f w k = want_or (outer_want c f w) k

abbrev pub right_want_by : Scope → Family → Want → Option ℕ → Want
right_want_by c family.Power w k = want.Type integer_base
right_want_by c f w k = want_or (outer_want c f w) k
