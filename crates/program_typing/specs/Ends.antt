-- How the statements of a function end: in `return`, an `if` with `else` or a `case` whose branches all end so, or a loop without a head
-- and without `exit`. -- L13, Ada RM 6.5
use Rattle.std.specs.Prelude.{Bool, true, false, not, ◌&&◌, ◌||◌}
use Rattle.typed_units.specs.Syntax as text
use Rattle.typed_units.specs.Syntax.{Ac, Alternatives, Branches, St, Sts}

abbrev mutual
  -- whether an exit of the loop whose statements these are stands in them
  pub has_exit : Sts → Bool
  has_exit text.done = false
  has_exit (text.then s ss) = exits s || has_exit ss

  pub exits : St → Bool
  exits (text.st p a) = exits_by a

  pub exits_by : Ac → Bool
  exits_by text.exit = true
  exits_by (text.exit_when e) = true
  exits_by (text.branch bs) = branches_exit bs
  exits_by (text.case_of e as') = alternatives_exit as'
  exits_by _ = false

  pub branches_exit : Branches → Bool
  branches_exit (text.otherwise ss) = has_exit ss
  branches_exit (text.when e ss bs) = has_exit ss || branches_exit bs

  pub alternatives_exit : Alternatives → Bool
  alternatives_exit text.no_alternatives = false
  alternatives_exit (text.alternative cs others ss as') = has_exit ss || alternatives_exit as'

abbrev mutual
  pub ends : Sts → Bool
  ends text.done = false
  ends (text.then s text.done) = returns s
  ends (text.then s ss) = ends ss

  pub returns : St → Bool
  returns (text.st p a) = returns_by a

  pub returns_by : Ac → Bool
  returns_by text.return = true
  returns_by (text.give fit e) = true
  returns_by (text.branch bs) = branches_end bs
  returns_by (text.case_of e as') = alternatives_end as'
  returns_by (text.loop n text.forever before group after) = not (has_exit before || has_exit after)
  returns_by _ = false

  pub branches_end : Branches → Bool
  branches_end (text.otherwise ss) = ends ss
  branches_end (text.when e ss bs) = ends ss && branches_end bs

  pub alternatives_end : Alternatives → Bool
  alternatives_end text.no_alternatives = true
  alternatives_end (text.alternative cs others ss as') = ends ss && alternatives_end as'
