-- What has stood before, where the rules speak of the list of it.
use Rattle.std.specs.Prelude.{◌≡◌, ℕ, List}
use Rattle.std.specs.BTreeSet.{BTreeSet, contains}
use Rattle.std.specs.Ordering.{nat_cmp}
use Rattle.typed_units.specs.declared.programs.GlobalMode.{GlobalMode}
use Rattle.typed_units.specs.declared.programs.GlobalMode.TheVariants as mode
use Rattle.routine_rules.specs.declared.modes.Modes.{Modes}
use Rattle.routine_rules.specs.declared.standing.Standing as code
use Rattle.statement_typing.specs.Aspects.{has_aspect, has_global, has_mode}

-- the modes of a `Global`
abbrev pub HasModes : Modes → List GlobalMode → Type 0
HasModes s ms = (s.input ≡ has_mode mode.Input ms) × (s.output ≡ has_mode mode.Output ms) × (s.in_out ≡ has_mode mode.InOut ms)

-- the globals that it lists
abbrev pub HasGlobals : BTreeSet ℕ → List ℕ → Type 0
HasGlobals s gs = (g : ℕ) → contains nat_cmp s g ≡ has_global g gs

-- the aspects of a declaration, by their numbers
abbrev pub HasAspects : code.Standing → List ℕ → Type 0
HasAspects s ns = (s.pre ≡ has_aspect 1 ns) × (s.post ≡ has_aspect 2 ns) × (s.global ≡ has_aspect 3 ns) × (s.other ≡ has_aspect 0 ns)
