-- How many nodes there are: one for each expression, statement, pragma of a loop's group, contract and subprogram, one for
-- what is passed for each parameter, for each index of an object that is assigned or passed, and for each association of an
-- aggregate.
use Rattle.std.specs.Prelude.{ℕ, suc, ◌+◌, List, [], ◌∷◌, Option, Some, None}
use Rattle.typed_units.specs.Syntax as text
use Rattle.typed_units.specs.Syntax.{Ex, Nd, St}

abbrev mutual
  pub count : Ex → ℕ
  count (text.at p s n) = suc (parts_count n)

  pub parts_count : Nd → ℕ
  parts_count (text.static v) = 0
  parts_count (text.read p m v) = 0
  parts_count (text.component k a) = count a
  parts_count (text.op1 o a) = count a
  parts_count (text.op2 o a b) = count a + count b
  parts_count (text.connect c a b) = count a + count b
  parts_count (text.member is a l h) = count a + count l + count h
  parts_count (text.call p q as') = actuals_count as'
  parts_count (text.aggregate c b as') = assocs_count as'
  parts_count (text.choose as') = arms_count as'
  parts_count (text.quantified q k l h p) = count l + count h + count p

  pub actuals_count : text.Actuals → ℕ
  actuals_count text.no_actuals = 0
  actuals_count (text.actual a rest) = suc (actual_count a + actuals_count rest)

  pub actual_count : text.Actual → ℕ
  actual_count (text.pass_in k f e) = count e
  actual_count (text.pass_out k t f) = target_count t
  actual_count (text.pass_in_out k t f g) = target_count t

  pub target_count : text.Target → ℕ
  target_count (text.target p v path) = path_count path

  pub path_count : text.Path → ℕ
  path_count text.here = 0
  path_count (text.to_component k n rest) = path_count rest
  path_count (text.to_item b c e rest) = suc (count e + path_count rest)

  pub arms_count : text.Arms → ℕ
  arms_count (text.other e) = count e
  arms_count (text.arm c g rest) = count c + count g + arms_count rest

  pub assocs_count : text.Assocs → ℕ
  assocs_count text.no_assocs = 0
  assocs_count (text.assoc bs o cs e rest) = suc (count e + assocs_count rest)

abbrev pub ways_count : List text.Way → ℕ
ways_count [] = 0
ways_count (w ∷ ws) = count w.value + ways_count ws

abbrev pub demand_count : text.Demand → ℕ
demand_count (text.invariant e) = count e
demand_count (text.variant ws) = ways_count ws

abbrev pub demands_count : List text.Demand → ℕ
demands_count [] = 0
demands_count (d ∷ ds) = suc (demand_count d + demands_count ds)

abbrev pub head_count : text.Head → ℕ
head_count text.forever = 0
head_count (text.while e) = count e
head_count (text.for r k l h) = count l + count h

abbrev mutual
  pub st_count : St → ℕ
  st_count (text.st p a) = suc (action_count a)

  pub action_count : text.Ac → ℕ
  action_count text.skip = 0
  action_count (text.assign t f e) = target_count t + count e
  action_count (text.invoke q as') = actuals_count as'
  action_count (text.branch bs) = branches_count bs
  action_count (text.case_of e as') = count e + alternatives_count as'
  action_count (text.loop k h before group after) = head_count h + sts_count before + demands_count group + sts_count after
  action_count text.exit = 0
  action_count (text.exit_when e) = count e
  action_count text.return = 0
  action_count (text.give f e) = count e
  action_count (text.assert e) = count e
  action_count (text.assume e) = count e

  pub sts_count : text.Sts → ℕ
  sts_count text.done = 0
  sts_count (text.then s rest) = st_count s + sts_count rest

  pub branches_count : text.Branches → ℕ
  branches_count (text.otherwise ss) = sts_count ss
  branches_count (text.when c ss rest) = count c + sts_count ss + branches_count rest

  pub alternatives_count : text.Alternatives → ℕ
  alternatives_count text.no_alternatives = 0
  alternatives_count (text.alternative cs o ss rest) = sts_count ss + alternatives_count rest

abbrev pub contract_count : Option Ex → ℕ
contract_count None = 0
contract_count (Some e) = suc (count e)

abbrev pub routine_count : text.Routine → ℕ
routine_count r = contract_count r.pre + contract_count r.post + sts_count r.opening + sts_count r.body

abbrev pub routines_count : List text.Routine → ℕ
routines_count [] = 0
routines_count (r ∷ rs) = suc (routine_count r + routines_count rs)
