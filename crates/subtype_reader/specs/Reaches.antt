-- Ranges of the type that the context gives, by what they reach over.
use Rattle.ada_values.specs.declared.place.Place.{Place}
use Rattle.front_codes.specs.declared.codes.Code.{Code}
use Rattle.type_base.specs.declared.seen.Want.{Want}
use Rattle.type_base.specs.Scope.{Scope}
use Rattle.typing_rules.specs.declared.prefix.Between.{Between}
use Rattle.typing_rules.specs.declared.prefix.Found.{Found}
use Rattle.typing_rules.specs.declared.prefix.Reach.{Reach}
use Rattle.typing_rules.specs.Fits.{found_then}
use Rattle.typing_rules.specs.Lookups.{type_of}
use Rattle.range_rules.specs.Places.{reach_placed}
use Rattle.statement_typing.specs.Asked.{is_wanted, number_type}
use Rattle.statement_typing.specs.Checks.{unless}

-- a range of the type that the context gives, whose bounds stand at l
abbrev pub of_type_wanted : Scope → Code → Want → Place → Between → Found Between
of_type_wanted c r w l b = unless (is_wanted w (type_of c.world b.subtype)) r l b

-- the range with bounds at l and h that reaches over this
abbrev pub range_of_want : Scope → Code → Want → Place → Place → Reach → Found Between
range_of_want c r w l h u = found_then (reach_placed c r (number_type w) l h u) (of_type_wanted c r w l)
