-- What is asked of lists of parts.
use Rattle.std.specs.Prelude.{ℕ, Bool, true, false, ◌==◌, List, [], ◌∷◌, if◌then◌else◌}
use Rattle.type_base.specs.declared.world.Component.{Component}
use Rattle.typing_rules.specs.declared.hint.Hint.{Hint}
use Rattle.typing_rules.specs.declared.hint.Hint.TheVariants.{Nothing, Value}

abbrev pub has_some : {A : Type 0} → List A → Bool
has_some [] = false
has_some (x ∷ xs) = true

-- the subtype of the first component of this name
abbrev pub hint_among : List Component → ℕ → Hint
hint_among [] m = Nothing
hint_among (c ∷ cs) m = if c.name == m then Value c.subtype else hint_among cs m
