-- Parts of objects.
use Rattle.std.specs.Prelude.{ℕ, [], ◌∷◌, ◌++◌}
use Rattle.typed_units.specs.declared.expressions.Expr.{Expr}
use Rattle.typed_units.specs.declared.expressions.Step.{Step}
use Rattle.typing_rules.specs.declared.prefix.Part.{Part}

-- a part of this subtype, by one more step
abbrev pub further : Part → ℕ → Step Expr → Part
further g k s = record g { subtype = k; target = record { place = g.target.place; object = g.target.object; path = g.target.path ++ (s ∷ []) } }
