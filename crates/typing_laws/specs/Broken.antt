-- All broken rules of what is no expression by itself: names, targets, calls and ranges.
use Rattle.std.specs.Prelude.{ℕ, List, ◌++◌}
use Rattle.front_codes.specs.declared.codes.Code.{Code}
use Rattle.front_codes.specs.declared.codes.Refusal.{Refusal}
use Rattle.syntax_view.specs.Trees as tree
use Rattle.type_base.specs.Scope.{Scope}
use Rattle.type_base.specs.declared.seen.Want.{Want}
use Rattle.type_base.specs.declared.seen.Want.TheVariants as want
use Rattle.typing_rules.specs.declared.prefix.Between.{Between}
use Rattle.typing_rules.specs.declared.prefix.Found.{Found}
use Rattle.typing_rules.specs.Faults.{faults_of, own_fault, reach_faults, waits_for_reach}
use Rattle.typing_rules.specs.Faults as faults'
use Rattle.typing_rules.specs.Fits.{found_fault}
use Rattle.typing_rules.specs.Ranges.{reach_in, reach_of}
use Rattle.typing_rules.specs.Reading.{call_seen, item, name_seen, range, suffixes, target_seen}

-- what may stand where an expression is wanted in parentheses, in a context
abbrev pub item_faults : Scope → Want → tree.Item → List Refusal
item_faults c w i = faults_of c (item c i) w

-- a name, whatever it stands for
abbrev pub name_faults : Scope → Want → tree.Name → List Refusal
name_faults c w (tree.named s i ss) = faults'.name_faults c w (c.place s.from) i.from (suffixes c ss)

-- the target of an assignment -- L8
abbrev pub target_faults : Scope → tree.Name → List Refusal
target_faults c n = name_faults c want.Free n ++ own_fault (name_seen c want.Free n) (found_fault (target_seen c n))

-- a statement that is a name -- L12
abbrev pub call_faults : Scope → tree.Name → List Refusal
call_faults c n = name_faults c want.Free n ++ own_fault (name_seen c want.Free n) (found_fault (call_seen c n))

-- a range in a context, whose bounds are of type t where they are universal
abbrev pub range_in : Scope → Code → Want → ℕ → tree.Range → Found Between
range_in c r w t g = reach_in c r t (range c g) (reach_of c r w (range c g))

abbrev pub range_faults : Scope → Code → Want → ℕ → tree.Range → List Refusal
range_faults c r w t g = reach_faults c r w (range c g) ++ waits_for_reach (reach_of c r w (range c g)) (found_fault (range_in c r w t g))
