-- The nodes of a typed program in the order of its text, each before its parts. Parts stand in the order of evaluation; the
-- nodes of a call's actuals, of an object's indexes and of an aggregate's associations stand where these are evaluated.
-- `onto xs x` is the list xs with the nodes of x after it.
use Rattle.std.specs.Prelude.{ℕ, suc, Bool, List, [], ◌∷◌, ◌++◌, Option, Some, None}
use Rattle.typed_units.specs.declared.operators.Bounds.{Bounds}
use Rattle.typed_units.specs.Syntax as text
use Rattle.typed_units.specs.Syntax.{Ex, Nd, St, Op1}
use Rattle.unit_nodes.specs.declared.node.Asked.{Asked}
use Rattle.unit_nodes.specs.declared.node.Asked.TheVariants as asked

pub data Node : Type 0 where
  -- the subprogram of that number begins
  subprogram : ℕ → Node
  -- the condition of a contract
  pre : Ex → Node
  post : Ex → Node
  statement : St → Node
  -- a pragma of a loop's group
  demand : text.Demand → Node
  -- what is passed in a call of the subprogram of that number
  passed : ℕ → text.Actual → Node
  -- the index of an item in an object that is assigned or passed, and whether there is an index check
  item_index : Bool → Ex → Node
  -- the association of an aggregate: its ranges, whether it is `others`, the checks, and the value
  association : List Bounds → Bool → List Bounds → Ex → Node
  -- an expression, and what is asked of it
  expression : Asked → Ex → Node

-- ---- expressions

abbrev pub asked_of : Op1 → Asked
asked_of text.first = asked.Bounds
asked_of text.last = asked.Bounds
asked_of (text.length_at p s) = asked.Bounds
asked_of (text.succ_at p s) = asked.Whole
asked_of (text.pred_at p s) = asked.Whole
asked_of text.same = asked.Whole
asked_of text.negation = asked.Whole
asked_of (text.unary o s p) = asked.Whole
asked_of (text.convert f) = asked.Whole

abbrev mutual
  pub onto : Asked → List Node → Ex → List Node
  onto a xs (text.at p s n) = parts_onto (xs ++ expression a (text.at p s n) ∷ []) n

  pub parts_onto : List Node → Nd → List Node
  parts_onto xs (text.static v) = xs
  parts_onto xs (text.read p m v) = xs
  parts_onto xs (text.component k a) = onto asked.Component xs a
  parts_onto xs (text.op1 o a) = onto (asked_of o) xs a
  parts_onto xs (text.op2 o a b) = onto asked.Whole (onto asked.Whole xs a) b
  parts_onto xs (text.connect c a b) = onto asked.Whole (onto asked.Whole xs a) b
  parts_onto xs (text.member is a l h) = onto asked.Whole (onto asked.Whole (onto asked.Whole xs a) l) h
  parts_onto xs (text.call p q as') = actuals_onto q xs as'
  parts_onto xs (text.aggregate c b as') = assocs_onto xs as'
  parts_onto xs (text.choose as') = arms_onto xs as'
  parts_onto xs (text.quantified q k l h p) = onto asked.Whole (onto asked.Whole (onto asked.Whole xs l) h) p

  -- actuals of a call of the subprogram q
  pub actuals_onto : ℕ → List Node → text.Actuals → List Node
  actuals_onto q xs text.no_actuals = xs
  actuals_onto q xs (text.actual a rest) = actuals_onto q (actual_onto (xs ++ passed q a ∷ []) a) rest

  pub actual_onto : List Node → text.Actual → List Node
  actual_onto xs (text.pass_in k f e) = onto asked.Whole xs e
  actual_onto xs (text.pass_out k t f) = target_onto xs t
  actual_onto xs (text.pass_in_out k t f g) = target_onto xs t

  -- the object itself is no node: it is seen in the statement or the actual that names it
  pub target_onto : List Node → text.Target → List Node
  target_onto xs (text.target p v path) = path_onto xs path

  pub path_onto : List Node → text.Path → List Node
  path_onto xs text.here = xs
  path_onto xs (text.to_component k n rest) = path_onto xs rest
  path_onto xs (text.to_item b c e rest) = path_onto (onto asked.Whole (xs ++ item_index c e ∷ []) e) rest

  pub arms_onto : List Node → text.Arms → List Node
  arms_onto xs (text.other e) = onto asked.Whole xs e
  arms_onto xs (text.arm c g as') = arms_onto (onto asked.Whole (onto asked.Whole xs c) g) as'

  pub assocs_onto : List Node → text.Assocs → List Node
  assocs_onto xs text.no_assocs = xs
  assocs_onto xs (text.assoc bs o cs e as') = assocs_onto (onto asked.Whole (xs ++ association bs o cs e ∷ []) e) as'

-- ---- statements

abbrev pub ways_onto : List Node → List text.Way → List Node
ways_onto xs [] = xs
ways_onto xs (w ∷ ws) = ways_onto (onto asked.Whole xs w.value) ws

abbrev pub demand_onto : List Node → text.Demand → List Node
demand_onto xs (text.invariant e) = onto asked.Whole xs e
demand_onto xs (text.variant ws) = ways_onto xs ws

abbrev pub demands_onto : List Node → List text.Demand → List Node
demands_onto xs [] = xs
demands_onto xs (d ∷ ds) = demands_onto (demand_onto (xs ++ demand d ∷ []) d) ds

abbrev pub head_onto : List Node → text.Head → List Node
head_onto xs text.forever = xs
head_onto xs (text.while e) = onto asked.Whole xs e
head_onto xs (text.for r k l h) = onto asked.Whole (onto asked.Whole xs l) h

abbrev mutual
  pub st_onto : List Node → St → List Node
  st_onto xs (text.st p a) = action_onto (xs ++ statement (text.st p a) ∷ []) a

  pub action_onto : List Node → text.Ac → List Node
  action_onto xs text.skip = xs
  action_onto xs (text.assign t f e) = onto asked.Whole (target_onto xs t) e
  action_onto xs (text.invoke q as') = actuals_onto q xs as'
  action_onto xs (text.branch bs) = branches_onto xs bs
  action_onto xs (text.case_of e as') = alternatives_onto (onto asked.Whole xs e) as'
  action_onto xs (text.loop k h before group after) = sts_onto (demands_onto (sts_onto (head_onto xs h) before) group) after
  action_onto xs text.exit = xs
  action_onto xs (text.exit_when e) = onto asked.Whole xs e
  action_onto xs text.return = xs
  action_onto xs (text.give f e) = onto asked.Whole xs e
  action_onto xs (text.assert e) = onto asked.Whole xs e
  action_onto xs (text.assume e) = onto asked.Whole xs e

  pub sts_onto : List Node → text.Sts → List Node
  sts_onto xs text.done = xs
  sts_onto xs (text.then s rest) = sts_onto (st_onto xs s) rest

  pub branches_onto : List Node → text.Branches → List Node
  branches_onto xs (text.otherwise ss) = sts_onto xs ss
  branches_onto xs (text.when c ss rest) = branches_onto (sts_onto (onto asked.Whole xs c) ss) rest

  pub alternatives_onto : List Node → text.Alternatives → List Node
  alternatives_onto xs text.no_alternatives = xs
  alternatives_onto xs (text.alternative cs o ss rest) = alternatives_onto (sts_onto xs ss) rest

-- ---- subprograms and programs

abbrev pub pre_onto : List Node → Option Ex → List Node
pre_onto xs None = xs
pre_onto xs (Some e) = onto asked.Whole (xs ++ pre e ∷ []) e

abbrev pub post_onto : List Node → Option Ex → List Node
post_onto xs None = xs
post_onto xs (Some e) = onto asked.Whole (xs ++ post e ∷ []) e

-- a subprogram in the order of its text: `Pre`, `Post`, the declarative part, the statements
abbrev pub routine_onto : List Node → text.Routine → List Node
routine_onto xs r = sts_onto (sts_onto (post_onto (pre_onto xs r.pre) r.post) r.opening) r.body

-- subprograms, which are numbered from k
abbrev pub routines_onto : ℕ → List Node → List text.Routine → List Node
routines_onto k xs [] = xs
routines_onto k xs (r ∷ rs) = routines_onto (suc k) (routine_onto (xs ++ subprogram k ∷ []) r) rs

-- the nodes of a program
abbrev pub nodes_of : text.Text → List Node
nodes_of t = routines_onto 0 [] t.routines
