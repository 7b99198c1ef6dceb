-- The numbers that the indexes of quantified expressions, the parameters of `for` loops and the loops of a subprogram have: each below
-- how many there are, and another than those around it. -- Ada RM 4.5.8, 5.5
use Rattle.std.specs.Prelude.{ℕ, Bool, true, false, not, ◌&&◌, ◌==◌, ◌||◌, nat_lt, List, [], ◌∷◌, Option, Some, None}
use Rattle.typed_units.specs.Syntax as text
use Rattle.typed_units.specs.Syntax.{Ac, Actual, Actuals, Alternatives, Arms, Assocs, Branches, Demand, Ex, Head, Nd, Path, St, Sts, Target, Way}

-- how many a subprogram has, and the numbers of those around
pub record Counts : Type 0 where
  pub turns : ℕ
  pub indexes : ℕ
  pub loops : ℕ
  pub turns_around : List ℕ
  pub indexes_around : List ℕ
  pub loops_around : List ℕ

abbrev pub is_around : ℕ → List ℕ → Bool
is_around n [] = false
is_around n (m ∷ ms) = (n == m) || is_around n ms

-- a number of a kind of which there are so many
abbrev pub is_fresh : ℕ → List ℕ → ℕ → Bool
is_fresh count around n = nat_lt n count && not (is_around n around)

abbrev pub in_index : Counts → ℕ → Counts
in_index c n = record c { indexes_around = n ∷ c.indexes_around }

abbrev pub in_loop : Counts → ℕ → Counts
in_loop c n = record c { loops_around = n ∷ c.loops_around }

abbrev mutual
  pub counted : Counts → Ex → Bool
  counted c (text.at p k n) = node_counted c n

  pub node_counted : Counts → Nd → Bool
  node_counted c (text.static v) = true
  node_counted c (text.read p m x) = true
  node_counted c (text.component k a) = counted c a
  node_counted c (text.op1 o a) = counted c a
  node_counted c (text.op2 o a b) = counted c a && counted c b
  node_counted c (text.connect o a b) = counted c a && counted c b
  node_counted c (text.member is a l h) = counted c a && counted c l && counted c h
  node_counted c (text.call p q as') = actuals_counted c as'
  node_counted c (text.aggregate k b as') = assocs_counted c as'
  node_counted c (text.choose as') = arms_counted c as'
  node_counted c (text.quantified q k l h e) = is_fresh c.indexes c.indexes_around k && counted c l && counted c h && counted (in_index c k) e

  pub actuals_counted : Counts → Actuals → Bool
  actuals_counted c text.no_actuals = true
  actuals_counted c (text.actual a rest) = actual_counted c a && actuals_counted c rest

  pub actual_counted : Counts → Actual → Bool
  actual_counted c (text.pass_in k fit e) = counted c e
  actual_counted c (text.pass_out k t fit) = target_counted c t
  actual_counted c (text.pass_in_out k t fit back) = target_counted c t

  pub target_counted : Counts → Target → Bool
  target_counted c (text.target p x path) = path_counted c path

  pub path_counted : Counts → Path → Bool
  path_counted c text.here = true
  path_counted c (text.to_component k n rest) = path_counted c rest
  path_counted c (text.to_item b checked e rest) = counted c e && path_counted c rest

  pub arms_counted : Counts → Arms → Bool
  arms_counted c (text.other e) = counted c e
  arms_counted c (text.arm g e rest) = counted c g && counted c e && arms_counted c rest

  pub assocs_counted : Counts → Assocs → Bool
  assocs_counted c text.no_assocs = true
  assocs_counted c (text.assoc bs others checks e rest) = counted c e && assocs_counted c rest

abbrev pub ways_counted : Counts → List Way → Bool
ways_counted c [] = true
ways_counted c (w ∷ ws) = counted c w.value && ways_counted c ws

abbrev pub demand_counted : Counts → Demand → Bool
demand_counted c (text.invariant e) = counted c e
demand_counted c (text.variant ws) = ways_counted c ws

abbrev pub demands_counted : Counts → List Demand → Bool
demands_counted c [] = true
demands_counted c (d ∷ ds) = demand_counted c d && demands_counted c ds

abbrev pub head_counted : Counts → Head → Bool
head_counted c text.forever = true
head_counted c (text.while e) = counted c e
head_counted c (text.for reversed k l h) = is_fresh c.turns c.turns_around k && counted c l && counted c h

-- what is around in the body of a loop
abbrev pub in_head : Counts → Head → Counts
in_head c (text.for reversed k l h) = record c { turns_around = k ∷ c.turns_around }
in_head c h = c

abbrev mutual
  pub st_counted : Counts → St → Bool
  st_counted c (text.st p a) = action_counted c a

  pub action_counted : Counts → Ac → Bool
  action_counted c text.skip = true
  action_counted c (text.assign t fit e) = target_counted c t && counted c e
  action_counted c (text.invoke q as') = actuals_counted c as'
  action_counted c (text.branch bs) = branches_counted c bs
  action_counted c (text.case_of e as') = counted c e && alternatives_counted c as'
  action_counted c (text.loop n h before group after) =
      is_fresh c.loops c.loops_around n && head_counted c h && sts_counted (in_head (in_loop c n) h) before
      && demands_counted (in_head (in_loop c n) h) group && sts_counted (in_head (in_loop c n) h) after
  action_counted c text.exit = true
  action_counted c (text.exit_when e) = counted c e
  action_counted c text.return = true
  action_counted c (text.give fit e) = counted c e
  action_counted c (text.assert e) = counted c e
  action_counted c (text.assume e) = counted c e

  pub sts_counted : Counts → Sts → Bool
  sts_counted c text.done = true
  sts_counted c (text.then s ss) = st_counted c s && sts_counted c ss

  pub branches_counted : Counts → Branches → Bool
  branches_counted c (text.otherwise ss) = sts_counted c ss
  branches_counted c (text.when e ss bs) = counted c e && sts_counted c ss && branches_counted c bs

  pub alternatives_counted : Counts → Alternatives → Bool
  alternatives_counted c text.no_alternatives = true
  alternatives_counted c (text.alternative cs others ss as') = sts_counted c ss && alternatives_counted c as'

abbrev pub contract_counted : Counts → Option Ex → Bool
contract_counted c None = true
contract_counted c (Some e) = counted c e

-- all of a subprogram that has so many
abbrev pub routine_counted : ℕ → ℕ → ℕ → text.Routine → Bool
routine_counted turns indexes loops r =
    let c : Counts = record { turns = turns; indexes = indexes; loops = loops; turns_around = []; indexes_around = []; loops_around = [] } in
    contract_counted c r.pre && contract_counted c r.post && sts_counted c r.opening && sts_counted c r.body
