-- How many nodes a list gains.
use Rattle.std.proofs.Common.{◌≡◌, arith, refl, ℕ, suc, ◌+◌, length, List, [], ◌∷◌, ◌++◌, Option, Some, None}
use Rattle.typed_units.specs.Syntax as text
use Rattle.typed_units.specs.Syntax.{Ex, Nd, St}
use Rattle.unit_nodes.specs.declared.node.Asked.{Asked}
use Rattle.unit_nodes.specs.declared.node.Asked.TheVariants as asked
use Rattle.unit_nodes.specs.Nodes.{Node, subprogram, pre, post, statement, demand, passed, item_index, association, expression, asked_of, onto, parts_onto, actuals_onto, actual_onto, target_onto, path_onto, arms_onto, assocs_onto, ways_onto, demand_onto, demands_onto, head_onto, st_onto, action_onto, sts_onto, branches_onto, alternatives_onto, pre_onto, post_onto, routine_onto, routines_onto, nodes_of}
use Rattle.unit_nodes.specs.Counts.{count, parts_count, actuals_count, actual_count, target_count, path_count, arms_count, assocs_count, ways_count, demand_count, demands_count, head_count, st_count, action_count, sts_count, branches_count, alternatives_count, contract_count, routine_count, routines_count}

pushed : (xs : List Node) (y : Node) → length (xs ++ y ∷ []) ≡ suc (length xs)
pushed [] y = refl
pushed (x ∷ xs) y = let h = pushed xs y in omega (arith, h)

then_one : (n : ℕ) (a b k m : ℕ) → a ≡ n + k → b ≡ a + m → b ≡ n + (k + m)
then_one n a b k m h i = omega (arith, h, i)

after_one : (n a b k : ℕ) → a ≡ suc n → b ≡ a + k → b ≡ n + suc k
after_one n a b k h i = omega (arith, h, i)

none : (n : ℕ) → n ≡ n + 0
none n = omega arith

mutual
  pub counted : (a : Asked) (xs : List Node) (e : Ex) → length (onto a xs e) ≡ length xs + count e
  counted a xs (text.at p s n) =
      let y = expression a (text.at p s n) in
      after_one (length xs) _ _ (parts_count n) (pushed xs y) (counted_parts (xs ++ y ∷ []) n)

  counted_parts : (xs : List Node) (n : Nd) → length (parts_onto xs n) ≡ length xs + parts_count n
  counted_parts xs (text.static v) = none (length xs)
  counted_parts xs (text.read p m v) = none (length xs)
  counted_parts xs (text.component k a) = counted asked.Component xs a
  counted_parts xs (text.op1 o a) = counted (asked_of o) xs a
  counted_parts xs (text.op2 o a b) = then_one (length xs) _ _ (count a) (count b) (counted asked.Whole xs a) (counted asked.Whole (onto asked.Whole xs a) b)
  counted_parts xs (text.connect c a b) = then_one (length xs) _ _ (count a) (count b) (counted asked.Whole xs a) (counted asked.Whole (onto asked.Whole xs a) b)
  counted_parts xs (text.member is a l h) =
      let ys = onto asked.Whole xs a in
      then_one (length xs) _ _ (count a + count l) (count h) (then_one (length xs) _ _ (count a) (count l) (counted asked.Whole xs a) (counted asked.Whole ys l)) (counted asked.Whole (onto asked.Whole ys l) h)
  counted_parts xs (text.call p q as') = counted_actuals q xs as'
  counted_parts xs (text.aggregate c b as') = counted_assocs xs as'
  counted_parts xs (text.choose as') = counted_arms xs as'
  counted_parts xs (text.quantified q k l h p) =
      let ys = onto asked.Whole xs l in
      then_one (length xs) _ _ (count l + count h) (count p) (then_one (length xs) _ _ (count l) (count h) (counted asked.Whole xs l) (counted asked.Whole ys h)) (counted asked.Whole (onto asked.Whole ys h) p)

  counted_actuals : (q : ℕ) (xs : List Node) (as' : text.Actuals) → length (actuals_onto q xs as') ≡ length xs + actuals_count as'
  counted_actuals q xs text.no_actuals = none (length xs)
  counted_actuals q xs (text.actual a rest) =
      let ys = xs ++ passed q a ∷ [] in
      after_one (length xs) _ _ (actual_count a + actuals_count rest) (pushed xs (passed q a))
      (then_one (length ys) _ _ (actual_count a) (actuals_count rest) (counted_actual ys a) (counted_actuals q (actual_onto ys a) rest))

  counted_actual : (xs : List Node) (a : text.Actual) → length (actual_onto xs a) ≡ length xs + actual_count a
  counted_actual xs (text.pass_in k f e) = counted asked.Whole xs e
  counted_actual xs (text.pass_out k t f) = counted_target xs t
  counted_actual xs (text.pass_in_out k t f g) = counted_target xs t

  counted_target : (xs : List Node) (t : text.Target) → length (target_onto xs t) ≡ length xs + target_count t
  counted_target xs (text.target p v path) = counted_path xs path

  counted_path : (xs : List Node) (path : text.Path) → length (path_onto xs path) ≡ length xs + path_count path
  counted_path xs text.here = none (length xs)
  counted_path xs (text.to_component k n rest) = counted_path xs rest
  counted_path xs (text.to_item b c e rest) =
      let ys = xs ++ item_index c e ∷ [] in
      after_one (length xs) _ _ (count e + path_count rest) (pushed xs (item_index c e))
      (then_one (length ys) _ _ (count e) (path_count rest) (counted asked.Whole ys e) (counted_path (onto asked.Whole ys e) rest))

  counted_arms : (xs : List Node) (as' : text.Arms) → length (arms_onto xs as') ≡ length xs + arms_count as'
  counted_arms xs (text.other e) = counted asked.Whole xs e
  counted_arms xs (text.arm c g rest) =
      let ys = onto asked.Whole xs c in
      then_one (length xs) _ _ (count c + count g) (arms_count rest) (then_one (length xs) _ _ (count c) (count g) (counted asked.Whole xs c) (counted asked.Whole ys g)) (counted_arms (onto asked.Whole ys g) rest)

  counted_assocs : (xs : List Node) (as' : text.Assocs) → length (assocs_onto xs as') ≡ length xs + assocs_count as'
  counted_assocs xs text.no_assocs = none (length xs)
  counted_assocs xs (text.assoc bs o cs e rest) =
      let ys = xs ++ association bs o cs e ∷ [] in
      after_one (length xs) _ _ (count e + assocs_count rest) (pushed xs (association bs o cs e))
      (then_one (length ys) _ _ (count e) (assocs_count rest) (counted asked.Whole ys e) (counted_assocs (onto asked.Whole ys e) rest))

counted_ways : (xs : List Node) (ws : List text.Way) → length (ways_onto xs ws) ≡ length xs + ways_count ws
counted_ways xs [] = none (length xs)
counted_ways xs (w ∷ ws) = then_one (length xs) _ _ (count w.value) (ways_count ws) (counted asked.Whole xs w.value) (counted_ways (onto asked.Whole xs w.value) ws)

counted_demand : (xs : List Node) (d : text.Demand) → length (demand_onto xs d) ≡ length xs + demand_count d
counted_demand xs (text.invariant e) = counted asked.Whole xs e
counted_demand xs (text.variant ws) = counted_ways xs ws

counted_demands : (xs : List Node) (ds : List text.Demand) → length (demands_onto xs ds) ≡ length xs + demands_count ds
counted_demands xs [] = none (length xs)
counted_demands xs (d ∷ ds) =
    let ys = xs ++ demand d ∷ [] in
    after_one (length xs) _ _ (demand_count d + demands_count ds) (pushed xs (demand d))
    (then_one (length ys) _ _ (demand_count d) (demands_count ds) (counted_demand ys d) (counted_demands (demand_onto ys d) ds))

counted_head : (xs : List Node) (h : text.Head) → length (head_onto xs h) ≡ length xs + head_count h
counted_head xs text.forever = none (length xs)
counted_head xs (text.while e) = counted asked.Whole xs e
counted_head xs (text.for r k l h) = then_one (length xs) _ _ (count l) (count h) (counted asked.Whole xs l) (counted asked.Whole (onto asked.Whole xs l) h)

mutual
  counted_st : (xs : List Node) (s : St) → length (st_onto xs s) ≡ length xs + st_count s
  counted_st xs (text.st p a) =
      let y = statement (text.st p a) in
      after_one (length xs) _ _ (action_count a) (pushed xs y) (counted_action (xs ++ y ∷ []) a)

  counted_action : (xs : List Node) (a : text.Ac) → length (action_onto xs a) ≡ length xs + action_count a
  counted_action xs text.skip = none (length xs)
  counted_action xs (text.assign t f e) = then_one (length xs) _ _ (target_count t) (count e) (counted_target xs t) (counted asked.Whole (target_onto xs t) e)
  counted_action xs (text.invoke q as') = counted_actuals q xs as'
  counted_action xs (text.branch bs) = counted_branches xs bs
  counted_action xs (text.case_of e as') = then_one (length xs) _ _ (count e) (alternatives_count as') (counted asked.Whole xs e) (counted_alternatives (onto asked.Whole xs e) as')
  counted_action xs (text.loop k h before group after) =
      let ys = head_onto xs h in
      let zs = sts_onto ys before in
      let ws = demands_onto zs group in
      then_one (length xs) _ _ (head_count h + sts_count before + demands_count group) (sts_count after)
      (then_one (length xs) _ _ (head_count h + sts_count before) (demands_count group)
      (then_one (length xs) _ _ (head_count h) (sts_count before) (counted_head xs h) (counted_sts ys before))
      (counted_demands zs group))
      (counted_sts ws after)
  counted_action xs text.exit = none (length xs)
  counted_action xs (text.exit_when e) = counted asked.Whole xs e
  counted_action xs text.return = none (length xs)
  counted_action xs (text.give f e) = counted asked.Whole xs e
  counted_action xs (text.assert e) = counted asked.Whole xs e
  counted_action xs (text.assume e) = counted asked.Whole xs e

  counted_sts : (xs : List Node) (ss : text.Sts) → length (sts_onto xs ss) ≡ length xs + sts_count ss
  counted_sts xs text.done = none (length xs)
  counted_sts xs (text.then s rest) = then_one (length xs) _ _ (st_count s) (sts_count rest) (counted_st xs s) (counted_sts (st_onto xs s) rest)

  counted_branches : (xs : List Node) (bs : text.Branches) → length (branches_onto xs bs) ≡ length xs + branches_count bs
  counted_branches xs (text.otherwise ss) = counted_sts xs ss
  counted_branches xs (text.when c ss rest) =
      let ys = onto asked.Whole xs c in
      then_one (length xs) _ _ (count c + sts_count ss) (branches_count rest) (then_one (length xs) _ _ (count c) (sts_count ss) (counted asked.Whole xs c) (counted_sts ys ss)) (counted_branches (sts_onto ys ss) rest)

  counted_alternatives : (xs : List Node) (as' : text.Alternatives) → length (alternatives_onto xs as') ≡ length xs + alternatives_count as'
  counted_alternatives xs text.no_alternatives = none (length xs)
  counted_alternatives xs (text.alternative cs o ss rest) = then_one (length xs) _ _ (sts_count ss) (alternatives_count rest) (counted_sts xs ss) (counted_alternatives (sts_onto xs ss) rest)

counted_pre : (xs : List Node) (c : Option Ex) → length (pre_onto xs c) ≡ length xs + contract_count c
counted_pre xs None = none (length xs)
counted_pre xs (Some e) = after_one (length xs) _ _ (count e) (pushed xs (pre e)) (counted asked.Whole (xs ++ pre e ∷ []) e)

counted_post : (xs : List Node) (c : Option Ex) → length (post_onto xs c) ≡ length xs + contract_count c
counted_post xs None = none (length xs)
counted_post xs (Some e) = after_one (length xs) _ _ (count e) (pushed xs (post e)) (counted asked.Whole (xs ++ post e ∷ []) e)

counted_routine : (xs : List Node) (r : text.Routine) → length (routine_onto xs r) ≡ length xs + routine_count r
counted_routine xs r =
    let ys = pre_onto xs r.pre in
    let zs = post_onto ys r.post in
    let ws = sts_onto zs r.opening in
    then_one (length xs) _ _ (contract_count r.pre + contract_count r.post + sts_count r.opening) (sts_count r.body)
    (then_one (length xs) _ _ (contract_count r.pre + contract_count r.post) (sts_count r.opening)
    (then_one (length xs) _ _ (contract_count r.pre) (contract_count r.post) (counted_pre xs r.pre) (counted_post ys r.post))
    (counted_sts zs r.opening))
    (counted_sts ws r.body)

counted_routines : (k : ℕ) (xs : List Node) (rs : List text.Routine) → length (routines_onto k xs rs) ≡ length xs + routines_count rs
counted_routines k xs [] = none (length xs)
counted_routines k xs (r ∷ rs) =
    let ys = xs ++ subprogram k ∷ [] in
    after_one (length xs) _ _ (routine_count r + routines_count rs) (pushed xs (subprogram k))
    (then_one (length ys) _ _ (routine_count r) (routines_count rs) (counted_routine ys r) (counted_routines (suc k) (routine_onto ys r) rs))

from_none : (a k : ℕ) → a ≡ 0 + k → a ≡ k
from_none a k h = omega (arith, h)

pub counted_program : (t : text.Text) → length (nodes_of t) ≡ routines_count t.routines
counted_program t = from_none _ _ (counted_routines 0 [] t.routines)
