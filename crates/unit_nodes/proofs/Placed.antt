-- What stands inside statements is among their nodes.
use Rattle.std.proofs.Common.{ℕ, suc, List, [], ◌∷◌, ◌++◌, Option, Some, None}
use Rattle.std.specs.Prelude.{option_to_list}
use Rattle.std.specs.List.{AllByRecursion, Contains}
use Rattle.std.proofs.lemmas.List.Elements.{All-contains, All-from_recursion, Contains-push}
use Rattle.typed_units.specs.Syntax as text
use Rattle.typed_units.specs.Syntax.{Ex, Nd, St}
use Rattle.unit_nodes.specs.declared.node.Asked.{Asked}
use Rattle.unit_nodes.specs.declared.node.Asked.TheVariants as asked
use Rattle.unit_nodes.specs.Nodes.{Node, demand, statement, expression, onto, target_onto, ways_onto, demand_onto, demands_onto, head_onto, st_onto, action_onto, sts_onto, branches_onto, alternatives_onto, subprogram, pre, post, pre_onto, post_onto, routine_onto, routines_onto, nodes_of}
use Rattle.unit_nodes.specs.Parts.{Inside, target_parts}
use Rattle.unit_nodes.specs.Inner.{ways_parts, demand_parts, demands_parts, head_parts, branches_parts, own_parts, listed, branches_bodies, alternatives_bodies, bodies, action_of, statements_of, conditions_of, Under, itself, deeper}
use Rattle.unit_nodes.proofs.Members.{Grows, Has, has_grows, contains_grows, Brought, shown_inside, kept, kept_actuals, kept_target, brings_actuals, brings_target}

-- ---- what holds of a list holds with the nodes of statements

kept_ways : (P : List Node → Type 0) (w : Grows P) (xs : List Node) (ws : List text.Way) → P xs → P (ways_onto xs ws)
kept_ways P w xs [] h = h
kept_ways P w xs (v ∷ ws) h = kept_ways P w (onto asked.Whole xs v.value) ws (kept P w asked.Whole xs v.value h)

kept_demand : (P : List Node → Type 0) (w : Grows P) (xs : List Node) (d : text.Demand) → P xs → P (demand_onto xs d)
kept_demand P w xs (text.invariant e) h = kept P w asked.Whole xs e h
kept_demand P w xs (text.variant ws) h = kept_ways P w xs ws h

kept_demands : (P : List Node → Type 0) (w : Grows P) (xs : List Node) (ds : List text.Demand) → P xs → P (demands_onto xs ds)
kept_demands P w xs [] h = h
kept_demands P w xs (d ∷ ds) h =
    let ys = xs ++ demand d ∷ [] in
    kept_demands P w (demand_onto ys d) ds (kept_demand P w ys d (w xs (demand d) h))

kept_head : (P : List Node → Type 0) (w : Grows P) (xs : List Node) (i : text.Head) → P xs → P (head_onto xs i)
kept_head P w xs text.forever h = h
kept_head P w xs (text.while e) h = kept P w asked.Whole xs e h
kept_head P w xs (text.for r k l u) h = kept P w asked.Whole (onto asked.Whole xs l) u (kept P w asked.Whole xs l h)

mutual
  kept_st : (P : List Node → Type 0) (w : Grows P) (xs : List Node) (s : St) → P xs → P (st_onto xs s)
  kept_st P w xs (text.st p a) h = kept_action P w (xs ++ statement (text.st p a) ∷ []) a (w xs (statement (text.st p a)) h)

  kept_action : (P : List Node → Type 0) (w : Grows P) (xs : List Node) (a : text.Ac) → P xs → P (action_onto xs a)
  kept_action P w xs text.skip h = h
  kept_action P w xs (text.assign t f e) h = kept P w asked.Whole (target_onto xs t) e (kept_target P w xs t h)
  kept_action P w xs (text.invoke q as') h = kept_actuals P w q xs as' h
  kept_action P w xs (text.branch bs) h = kept_branches P w xs bs h
  kept_action P w xs (text.case_of e as') h = kept_alternatives P w (onto asked.Whole xs e) as' (kept P w asked.Whole xs e h)
  kept_action P w xs (text.loop k i before group after) h =
      let ys = head_onto xs i in
      let zs = sts_onto ys before in
      kept_sts P w (demands_onto zs group) after (kept_demands P w zs group (kept_sts P w ys before (kept_head P w xs i h)))
  kept_action P w xs text.exit h = h
  kept_action P w xs (text.exit_when e) h = kept P w asked.Whole xs e h
  kept_action P w xs text.return h = h
  kept_action P w xs (text.give f e) h = kept P w asked.Whole xs e h
  kept_action P w xs (text.assert e) h = kept P w asked.Whole xs e h
  kept_action P w xs (text.assume e) h = kept P w asked.Whole xs e h

  kept_sts : (P : List Node → Type 0) (w : Grows P) (xs : List Node) (ss : text.Sts) → P xs → P (sts_onto xs ss)
  kept_sts P w xs text.done h = h
  kept_sts P w xs (text.then s rest) h = kept_sts P w (st_onto xs s) rest (kept_st P w xs s h)

  kept_branches : (P : List Node → Type 0) (w : Grows P) (xs : List Node) (bs : text.Branches) → P xs → P (branches_onto xs bs)
  kept_branches P w xs (text.otherwise ss) h = kept_sts P w xs ss h
  kept_branches P w xs (text.when c ss rest) h =
      let ys = onto asked.Whole xs c in
      kept_branches P w (sts_onto ys ss) rest (kept_sts P w ys ss (kept P w asked.Whole xs c h))

  kept_alternatives : (P : List Node → Type 0) (w : Grows P) (xs : List Node) (as' : text.Alternatives) → P xs → P (alternatives_onto xs as')
  kept_alternatives P w xs text.no_alternatives h = h
  kept_alternatives P w xs (text.alternative cs o ss rest) h = kept_alternatives P w (sts_onto xs ss) rest (kept_sts P w xs ss h)

-- ---- lists of parts

joined : {X : Type 0} (P : X → Type 0) (xs ys : List X) → AllByRecursion P xs → AllByRecursion P ys → AllByRecursion P (xs ++ ys)
joined P [] ys h k = k
joined P (x ∷ xs) ys h k = (h.0, joined P xs ys h.1 k)

passing : {X : Type 0} (P Q : X → Type 0) → ((x : X) → P x → Q x) → (xs : List X) → AllByRecursion P xs → AllByRecursion Q xs
passing P Q f [] h = tt
passing P Q f (x ∷ xs) h = (f x h.0, passing P Q f xs h.1)

-- ---- expressions of a statement

own_ways : (x : Ex) (xs : List Node) (ws : List text.Way) → AllByRecursion (Brought x (ways_onto xs ws)) (ways_parts ws)
own_ways x xs [] = tt
own_ways x xs (v ∷ ws) =
    ((λ s. kept_ways (Has x) (has_grows x) (onto asked.Whole xs v.value) ws (s asked.Whole xs)), own_ways x (onto asked.Whole xs v.value) ws)

own_demand : (x : Ex) (xs : List Node) (d : text.Demand) → AllByRecursion (Brought x (demand_onto xs d)) (demand_parts d)
own_demand x xs (text.invariant e) = ((λ s. s asked.Whole xs), tt)
own_demand x xs (text.variant ws) = own_ways x xs ws

own_demands : (x : Ex) (xs : List Node) (ds : List text.Demand) → AllByRecursion (Brought x (demands_onto xs ds)) (demands_parts ds)
own_demands x xs [] = tt
own_demands x xs (d ∷ ds) =
    let ys = xs ++ demand d ∷ [] in
    let zs = demand_onto ys d in
    joined (Brought x (demands_onto zs ds)) (demand_parts d) (demands_parts ds)
    (passing (Brought x zs) (Brought x (demands_onto zs ds)) (λ e f s. kept_demands (Has x) (has_grows x) zs ds (f s)) (demand_parts d) (own_demand x ys d))
    (own_demands x zs ds)

own_head : (x : Ex) (xs : List Node) (i : text.Head) → AllByRecursion (Brought x (head_onto xs i)) (head_parts i)
own_head x xs text.forever = tt
own_head x xs (text.while e) = ((λ s. s asked.Whole xs), tt)
own_head x xs (text.for r k l u) =
    ((λ s. kept (Has x) (has_grows x) asked.Whole (onto asked.Whole xs l) u (s asked.Whole xs)), ((λ s. s asked.Whole (onto asked.Whole xs l)), tt))

own_branches : (x : Ex) (xs : List Node) (bs : text.Branches) → AllByRecursion (Brought x (branches_onto xs bs)) (branches_parts bs)
own_branches x xs (text.otherwise ss) = tt
own_branches x xs (text.when c ss rest) =
    let ys = onto asked.Whole xs c in
    ((λ s. kept_branches (Has x) (has_grows x) (sts_onto ys ss) rest (kept_sts (Has x) (has_grows x) ys ss (s asked.Whole xs))), own_branches x (sts_onto ys ss) rest)

own : (x : Ex) (xs : List Node) (a : text.Ac) → AllByRecursion (Brought x (action_onto xs a)) (own_parts a)
own x xs text.skip = tt
own x xs (text.assign t f e) =
    let ys = target_onto xs t in
    joined (Brought x (onto asked.Whole ys e)) (target_parts t) (e ∷ [])
    (passing (Brought x ys) (Brought x (onto asked.Whole ys e)) (λ d g s. kept (Has x) (has_grows x) asked.Whole ys e (g s)) (target_parts t) (brings_target x xs t))
    ((λ s. s asked.Whole ys), tt)
own x xs (text.invoke q as') = brings_actuals x q xs as'
own x xs (text.branch bs) = own_branches x xs bs
own x xs (text.case_of e as') = ((λ s. kept_alternatives (Has x) (has_grows x) (onto asked.Whole xs e) as' (s asked.Whole xs)), tt)
own x xs (text.loop k i before group after) =
    let ys = head_onto xs i in
    let zs = sts_onto ys before in
    let us = demands_onto zs group in
    let vs = sts_onto us after in
    joined (Brought x vs) (head_parts i) (demands_parts group)
    (passing (Brought x ys) (Brought x vs)
    (λ d f s. kept_sts (Has x) (has_grows x) us after (kept_demands (Has x) (has_grows x) zs group (kept_sts (Has x) (has_grows x) ys before (f s))))
    (head_parts i) (own_head x xs i))
    (passing (Brought x us) (Brought x vs) (λ d f s. kept_sts (Has x) (has_grows x) us after (f s)) (demands_parts group) (own_demands x zs group))
own x xs text.exit = tt
own x xs (text.exit_when e) = ((λ s. s asked.Whole xs), tt)
own x xs text.return = tt
own x xs (text.give f e) = ((λ s. s asked.Whole xs), tt)
own x xs (text.assert e) = ((λ s. s asked.Whole xs), tt)
own x xs (text.assume e) = ((λ s. s asked.Whole xs), tt)

-- ---- statements in statements: what holds wherever a part's nodes stand holds with the whole

abbrev Led : (List Node → Type 0) → List Node → St → Type 0
Led P zs d = ((xs : List Node) → P (st_onto xs d)) → P zs

led_sts : (P : List Node → Type 0) (w : Grows P) (xs : List Node) (ss : text.Sts) → AllByRecursion (Led P (sts_onto xs ss)) (listed ss)
led_sts P w xs text.done = tt
led_sts P w xs (text.then s rest) = ((λ f. kept_sts P w (st_onto xs s) rest (f xs)), led_sts P w (st_onto xs s) rest)

led_branches : (P : List Node → Type 0) (w : Grows P) (xs : List Node) (bs : text.Branches) → AllByRecursion (Led P (branches_onto xs bs)) (branches_bodies bs)
led_branches P w xs (text.otherwise ss) = led_sts P w xs ss
led_branches P w xs (text.when c ss rest) =
    let ys = onto asked.Whole xs c in
    let zs = sts_onto ys ss in
    joined (Led P (branches_onto zs rest)) (listed ss) (branches_bodies rest)
    (passing (Led P zs) (Led P (branches_onto zs rest)) (λ d g f. kept_branches P w zs rest (g f)) (listed ss) (led_sts P w ys ss))
    (led_branches P w zs rest)

led_alternatives : (P : List Node → Type 0) (w : Grows P) (xs : List Node) (as' : text.Alternatives) → AllByRecursion (Led P (alternatives_onto xs as')) (alternatives_bodies as')
led_alternatives P w xs text.no_alternatives = tt
led_alternatives P w xs (text.alternative cs o ss rest) =
    let zs = sts_onto xs ss in
    joined (Led P (alternatives_onto zs rest)) (listed ss) (alternatives_bodies rest)
    (passing (Led P zs) (Led P (alternatives_onto zs rest)) (λ d g f. kept_alternatives P w zs rest (g f)) (listed ss) (led_sts P w xs ss))
    (led_alternatives P w zs rest)

led : (P : List Node → Type 0) (w : Grows P) (xs : List Node) (a : text.Ac) → AllByRecursion (Led P (action_onto xs a)) (bodies a)
led P w xs text.skip = tt
led P w xs (text.assign t f e) = tt
led P w xs (text.invoke q as') = tt
led P w xs (text.branch bs) = led_branches P w xs bs
led P w xs (text.case_of e as') = led_alternatives P w (onto asked.Whole xs e) as'
led P w xs (text.loop k i before group after) =
    let ys = head_onto xs i in
    let zs = sts_onto ys before in
    let us = demands_onto zs group in
    joined (Led P (sts_onto us after)) (listed before) (listed after)
    (passing (Led P zs) (Led P (sts_onto us after)) (λ d g f. kept_sts P w us after (kept_demands P w zs group (g f))) (listed before) (led_sts P w ys before))
    (led_sts P w us after)
led P w xs text.exit = tt
led P w xs (text.exit_when e) = tt
led P w xs text.return = tt
led P w xs (text.give f e) = tt
led P w xs (text.assert e) = tt
led P w xs (text.assume e) = tt

under : (P : List Node → Type 0) (w : Grows P) (x s : St) → Under x s → ((xs : List Node) → P (st_onto xs x)) → (xs : List Node) → P (st_onto xs s)
under P w x s itself f xs = f xs
under P w x s (deeper d p a c u) f xs =
    let ys = xs ++ statement (text.st p a) ∷ [] in
    All-contains (Led P (action_onto ys a)) (bodies a) d (All-from_recursion (Led P (action_onto ys a)) (bodies a) (led P w ys a)) c (under P w x d u f)

statement_itself : (x : St) (xs : List Node) → Contains (st_onto xs x) (statement x)
statement_itself (text.st p a) xs =
    let y = statement (text.st p a) in
    kept_action (λ zs. Contains zs y) (contains_grows y) (xs ++ y ∷ []) a (Contains-push xs y)

own_shown : (x e : Ex) (s : St) → Contains (own_parts (action_of s)) e → Inside x e → (xs : List Node) → Has x (st_onto xs s)
own_shown x e (text.st p a) c i xs =
    let ys = xs ++ statement (text.st p a) ∷ [] in
    All-contains (Brought x (action_onto ys a)) (own_parts a) e (All-from_recursion (Brought x (action_onto ys a)) (own_parts a) (own x ys a)) c (shown_inside x e i)

-- ---- subprograms

kept_pre : (P : List Node → Type 0) (w : Grows P) (xs : List Node) (c : Option Ex) → P xs → P (pre_onto xs c)
kept_pre P w xs None h = h
kept_pre P w xs (Some e) h = kept P w asked.Whole (xs ++ pre e ∷ []) e (w xs (pre e) h)

kept_post : (P : List Node → Type 0) (w : Grows P) (xs : List Node) (c : Option Ex) → P xs → P (post_onto xs c)
kept_post P w xs None h = h
kept_post P w xs (Some e) h = kept P w asked.Whole (xs ++ post e ∷ []) e (w xs (post e) h)

kept_routine : (P : List Node → Type 0) (w : Grows P) (xs : List Node) (r : text.Routine) → P xs → P (routine_onto xs r)
kept_routine P w xs r h =
    let ys = pre_onto xs r.pre in
    let zs = post_onto ys r.post in
    kept_sts P w (sts_onto zs r.opening) r.body (kept_sts P w zs r.opening (kept_post P w ys r.post (kept_pre P w xs r.pre h)))

kept_routines : (P : List Node → Type 0) (w : Grows P) (k : ℕ) (xs : List Node) (rs : List text.Routine) → P xs → P (routines_onto k xs rs)
kept_routines P w k xs [] h = h
kept_routines P w k xs (r ∷ rs) h =
    let ys = xs ++ subprogram k ∷ [] in
    kept_routines P w (suc k) (routine_onto ys r) rs (kept_routine P w ys r (w xs (subprogram k) h))

led_routine : (P : List Node → Type 0) (w : Grows P) (xs : List Node) (r : text.Routine) → AllByRecursion (Led P (routine_onto xs r)) (statements_of r)
led_routine P w xs r =
    let zs = post_onto (pre_onto xs r.pre) r.post in
    let us = sts_onto zs r.opening in
    joined (Led P (sts_onto us r.body)) (listed r.opening) (listed r.body)
    (passing (Led P us) (Led P (sts_onto us r.body)) (λ d g f. kept_sts P w us r.body (g f)) (listed r.opening) (led_sts P w zs r.opening))
    (led_sts P w us r.body)

pre_brings : (x : Ex) (xs : List Node) (c : Option Ex) → AllByRecursion (Brought x (pre_onto xs c)) (option_to_list c)
pre_brings x xs None = tt
pre_brings x xs (Some e) = ((λ s. s asked.Whole (xs ++ pre e ∷ [])), tt)

post_brings : (x : Ex) (xs : List Node) (c : Option Ex) → AllByRecursion (Brought x (post_onto xs c)) (option_to_list c)
post_brings x xs None = tt
post_brings x xs (Some e) = ((λ s. s asked.Whole (xs ++ post e ∷ [])), tt)

contracts_bring : (x : Ex) (xs : List Node) (r : text.Routine) → AllByRecursion (Brought x (routine_onto xs r)) (conditions_of r)
contracts_bring x xs r =
    let ys = pre_onto xs r.pre in
    let zs = post_onto ys r.post in
    let us = sts_onto zs r.opening in
    joined (Brought x (sts_onto us r.body)) (option_to_list r.pre) (option_to_list r.post)
    (passing (Brought x ys) (Brought x (sts_onto us r.body))
    (λ d f s. kept_sts (Has x) (has_grows x) us r.body (kept_sts (Has x) (has_grows x) zs r.opening (kept_post (Has x) (has_grows x) ys r.post (f s))))
    (option_to_list r.pre) (pre_brings x xs r.pre))
    (passing (Brought x zs) (Brought x (sts_onto us r.body))
    (λ d f s. kept_sts (Has x) (has_grows x) us r.body (kept_sts (Has x) (has_grows x) zs r.opening (f s)))
    (option_to_list r.post) (post_brings x ys r.post))

contract_shown : (x e : Ex) (r : text.Routine) → Contains (conditions_of r) e → Inside x e → (xs : List Node) → Has x (routine_onto xs r)
contract_shown x e r c i xs =
    All-contains (Brought x (routine_onto xs r)) (conditions_of r) e (All-from_recursion (Brought x (routine_onto xs r)) (conditions_of r) (contracts_bring x xs r)) c (shown_inside x e i)

-- ---- programs

abbrev Run : (List Node → Type 0) → List Node → text.Routine → Type 0
Run P zs r = ((xs : List Node) → P (routine_onto xs r)) → P zs

led_routines : (P : List Node → Type 0) (w : Grows P) (k : ℕ) (xs : List Node) (rs : List text.Routine) → AllByRecursion (Run P (routines_onto k xs rs)) rs
led_routines P w k xs [] = tt
led_routines P w k xs (r ∷ rs) =
    let ys = xs ++ subprogram k ∷ [] in
    ((λ f. kept_routines P w (suc k) (routine_onto ys r) rs (f ys)), led_routines P w (suc k) (routine_onto ys r) rs)

in_program : (P : List Node → Type 0) (w : Grows P) (t : text.Text) (r : text.Routine) → Contains t.routines r → ((xs : List Node) → P (routine_onto xs r)) → P (nodes_of t)
in_program P w t r c f =
    All-contains (Run P (nodes_of t)) t.routines r (All-from_recursion (Run P (nodes_of t)) t.routines (led_routines P w 0 [] t.routines)) c f

in_routine : (P : List Node → Type 0) (w : Grows P) (r : text.Routine) (d x : St) → Contains (statements_of r) d → Under x d → ((xs : List Node) → P (st_onto xs x)) → (xs : List Node) → P (routine_onto xs r)
in_routine P w r d x c u f xs =
    All-contains (Led P (routine_onto xs r)) (statements_of r) d (All-from_recursion (Led P (routine_onto xs r)) (statements_of r) (led_routine P w xs r)) c (under P w x d u f)

pub statements_shown : (t : text.Text) (r : text.Routine) (d x : St) → Contains t.routines r → Contains (statements_of r) d → Under x d → Contains (nodes_of t) (statement x)
statements_shown t r d x c h u =
    let P : List Node → Type 0 = λ zs. Contains zs (statement x) in
    in_program P (contains_grows (statement x)) t r c (in_routine P (contains_grows (statement x)) r d x h u (statement_itself x))

pub expressions_shown : (t : text.Text) (r : text.Routine) (d x : St) (e y : Ex) → Contains t.routines r → Contains (statements_of r) d → Under x d → Contains (own_parts (action_of x)) e → Inside y e → (b : Asked) × Contains (nodes_of t) (expression b y)
expressions_shown t r d x e y c h u o i =
    in_program (Has y) (has_grows y) t r c (in_routine (Has y) (has_grows y) r d x h u (own_shown y e x o i))

pub contracts_shown : (t : text.Text) (r : text.Routine) (e y : Ex) → Contains t.routines r → Contains (conditions_of r) e → Inside y e → (b : Asked) × Contains (nodes_of t) (expression b y)
contracts_shown t r e y c h i = in_program (Has y) (has_grows y) t r c (contract_shown y e r h i)
