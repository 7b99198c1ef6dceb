-- Attributes that are functions, by what is seen of their argument. -- Ada RM 3.5, 3.5.5
use Rattle.std.specs.Prelude.{ℕ, true, false}
use Rattle.ada_values.specs.declared.place.Place.{Place}
use Rattle.front_codes.specs.declared.codes.Code.TheVariants as code
use Rattle.type_base.specs.Scope.{Scope}
use Rattle.type_base.specs.declared.seen.Seen.{Seen}
use Rattle.typing_rules.specs.declared.prefix.Mapping.{Mapping}
use Rattle.typing_rules.specs.declared.prefix.Mapping.TheVariants as mapping
use Rattle.typing_rules.specs.Attributes.{literal, next_value, position}
use Rattle.typing_rules.specs.Lookups.{type_of}
use Rattle.typing_rules.specs.Names.{of_type}

-- the tick stands at t, the argument at q
abbrev pub mapped_by : Scope → Place → Mapping → Place → ℕ → Place → Seen → Seen
mapped_by c p mapping.Succ t k q s = next_value c p true t k (of_type c code.L11 k q s)
mapped_by c p mapping.Pred t k q s = next_value c p false t k (of_type c code.L11 k q s)
mapped_by c p mapping.Pos t k q s = position c p (of_type c code.L11 k q s)
mapped_by c p mapping.Val t k q s = literal c p (type_of c.world k) q s
