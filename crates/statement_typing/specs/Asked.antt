-- What declarations and statements ask of the rules of expressions: names, expressions and ranges in a context.
use Rattle.std.specs.Prelude.{ℕ, ◌==◌, Bool, true, List, ◌++◌}
use Rattle.ada_values.specs.declared.place.Place.{Place}
use Rattle.front_codes.specs.declared.codes.Code.{Code}
use Rattle.front_codes.specs.declared.codes.Refusal.{Refusal}
use Rattle.type_base.specs.declared.seen.Want.{Want}
use Rattle.type_base.specs.declared.seen.Want.TheVariants as want
use Rattle.type_base.specs.Scope.{Scope}
use Rattle.type_base.specs.Standard.{integer_base}
use Rattle.syntax_view.specs.Trees as tree
use Rattle.typing_rules.specs.declared.prefix.Between.{Between}
use Rattle.typing_rules.specs.declared.prefix.Found.{Found}
use Rattle.typing_rules.specs.declared.prefix.Prefix.{Prefix}
use Rattle.typing_rules.specs.Faults as broken
use Rattle.typing_rules.specs.Fits.{found_fault, found_then}
use Rattle.typing_rules.specs.Lookups.{type_of}
use Rattle.typing_rules.specs.Ranges.{reach_in, reach_of}
use Rattle.typing_rules.specs.Reading as reading
use Rattle.statement_typing.specs.Checks.{fault_after, unless}

abbrev pub place_of : Scope → tree.Expr → Place
place_of c (tree.at s n) = c.place s.from

abbrev pub item_place : Scope → tree.Item → Place
item_place c (tree.item s f) = c.place s.from

abbrev pub item_faults : Scope → Want → tree.Item → List Refusal
item_faults c w i = broken.faults_of c (reading.item c i) w

-- what a name is, without a context
abbrev pub name_prefix : Scope → tree.Name → Prefix
name_prefix c n = reading.name_seen c want.Free n

abbrev pub name_faults : Scope → tree.Name → List Refusal
name_faults c (tree.named s i ss) = broken.name_faults c want.Free (c.place s.from) i.from (reading.suffixes c ss)

-- what a rule demands of a name, where nothing is broken in that
abbrev pub fault_of_name : {A : Type 0} → Prefix → Found A → List Refusal
fault_of_name f x = broken.own_fault f (found_fault x)

-- ---- ranges, which are to be of the type that the context gives

-- universal bounds take the context's type, else Integer
abbrev pub number_type : Want → ℕ
number_type (want.Type t) = t
number_type _ = integer_base

abbrev pub range_between : Scope → Code → Want → tree.Range → Found Between
range_between c r w g = reach_in c r (number_type w) (reading.range c g) (reach_of c r w (reading.range c g))

abbrev pub is_wanted : Want → ℕ → Bool
is_wanted (want.Type t) u = t == u
is_wanted _ u = true

abbrev pub low_place : Scope → tree.Range → Place
low_place c (tree.range l h) = place_of c l

abbrev pub high_place : Scope → tree.Range → Place
high_place c (tree.range l tree.no_expr) = place_of c l
high_place c (tree.range l (tree.an_expr h)) = place_of c h

abbrev pub of_wanted : Scope → Code → Want → tree.Range → Between → Found Between
of_wanted c r w g b = unless (is_wanted w (type_of c.world b.subtype)) r (low_place c g) b

abbrev pub range_seen : Scope → Code → Want → tree.Range → Found Between
range_seen c r w g = found_then (range_between c r w g) (of_wanted c r w g)

abbrev pub range_faults : Scope → Code → Want → tree.Range → List Refusal
range_faults c r w g =
    broken.reach_faults c r w (reading.range c g)
    ++ broken.waits_for_reach (reach_of c r w (reading.range c g)) (found_fault (range_between c r w g))
    ++ fault_after (range_between c r w g) (range_seen c r w g)
