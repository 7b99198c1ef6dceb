-- How a choice is read.
use Rattle.std.specs.Prelude.{ℤ, Bool, true, false, List, [], ◌∷◌, ◌++◌}
use Rattle.ada_values.specs.declared.place.Place.{Place}
use Rattle.front_codes.specs.declared.codes.Code.{Code}
use Rattle.syntax_view.specs.Trees as tree
use Rattle.type_base.specs.declared.seen.Seen.{Seen}
use Rattle.type_base.specs.declared.seen.Seen.TheVariants as seen'
use Rattle.type_base.specs.declared.seen.Want.{Want}
use Rattle.type_base.specs.declared.world.World.{World}
use Rattle.type_base.specs.Scope.{Scope}
use Rattle.typing_rules.specs.declared.prefix.Between.{Between}
use Rattle.typing_rules.specs.declared.prefix.Found.{Found}
use Rattle.typing_rules.specs.declared.prefix.Found.TheVariants.{Refused, Unknown}
use Rattle.typing_rules.specs.Fits.{found_then}
use Rattle.typing_rules.specs.Lookups.{type_of}
use Rattle.statement_typing.specs.declared.parts.Spread.{Spread}
use Rattle.statement_typing.specs.Asked.{is_wanted, name_prefix}
use Rattle.statement_typing.specs.Checks.{unless}
use Rattle.statement_typing.specs.Choices.{choice_seen, is_range}

-- whether an expression is the name of a range
abbrev pub names_range : Scope → tree.Expr → Bool
names_range c (tree.at s (tree.name n)) = is_range (name_prefix c n)
names_range c e = false

-- whether a choice is a range
abbrev pub is_stretch : Scope → tree.Range → Bool
is_stretch c (tree.range e (tree.an_expr h)) = true
is_stretch c (tree.range e tree.no_expr) = names_range c e

-- a range that begins at p, of the type that the context gives
abbrev pub wanted_at : World → Code → Want → Place → Found Between → Found Between
wanted_at w r v p f = found_then f (λ b. unless (is_wanted v (type_of w b.subtype)) r p b)

-- a value for a selector of which nothing is known
abbrev pub value_alone : Seen → Found ℤ
value_alone (seen'.Refused f) = Refused f
value_alone s = Unknown

-- ---- the choices of alternatives, after some that have been read

abbrev pub with_choice : Scope → Want → List (Found Spread) → tree.Choice → List (Found Spread)
with_choice c w xs tree.other_values = xs
with_choice c w xs (tree.values r) = xs ++ choice_seen c w r ∷ []

abbrev pub spreads_after : Scope → Want → List (Found Spread) → List tree.Choice → List (Found Spread)
spreads_after c w xs [] = xs
spreads_after c w xs (k ∷ ks) = spreads_after c w (with_choice c w xs k) ks

abbrev pub all_spreads_after : Scope → Want → List (Found Spread) → tree.Alternatives → List (Found Spread)
all_spreads_after c w xs tree.no_alternatives = xs
all_spreads_after c w xs (tree.alternative ks ss as') = all_spreads_after c w (spreads_after c w xs ks) as'
