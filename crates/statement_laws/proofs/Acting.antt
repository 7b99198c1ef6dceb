-- What is told of statements.
use Rattle.std.proofs.Common.{refl, List, [], ◌++◌, Option, Some, None, Bool, true, false}
use Rattle.std.specs.Prelude.{ℕ, map, ◌&&◌, if◌then◌else◌}
use Rattle.ada_text.specs.declared.token.Span.{Span}
use Rattle.ada_values.specs.declared.place.Place.{Place}
use Rattle.front_codes.specs.declared.codes.Code.TheVariants.{L8, L9, L13, L21, L22, L25}
use Rattle.front_codes.specs.declared.codes.Refusal.{Refusal}
use Rattle.name_numbers.specs.declared.words.Word.{Word}
use Rattle.name_numbers.specs.declared.words.Word.TheVariants as word
use Rattle.typed_units.specs.declared.expressions.Expr.{Expr}
use Rattle.typed_units.specs.declared.expressions.Fitted.{Fitted}
use Rattle.typed_units.specs.declared.statements.Action.{Action}
use Rattle.typed_units.specs.declared.statements.Action.TheVariants as action
use Rattle.typed_units.specs.declared.statements.Alternative.{Alternative}
use Rattle.typed_units.specs.declared.statements.Branch.{Branch}
use Rattle.typed_units.specs.declared.statements.Demand.TheVariants as demand
use Rattle.typed_units.specs.declared.statements.Head.TheVariants as head
use Rattle.typed_units.specs.declared.statements.Stmt.{Stmt, roll-Stmt}
use Rattle.type_base.specs.declared.seen.Want.{Want}
use Rattle.type_base.specs.declared.seen.Want.TheVariants as want
use Rattle.type_base.specs.Faults.{First}
use Rattle.type_base.specs.Scope.{Scope}
use Rattle.type_base.specs.Standard.{boolean}
use Rattle.syntax_view.specs.Trees as tree
use Rattle.typing_rules.specs.Fits.{both, fit, found_fault}
use Rattle.typing_rules.specs.Reading.{call_seen, faults, seen, target_seen}
use Rattle.typing_rules.specs.declared.prefix.Found.{Found}
use Rattle.typing_rules.specs.declared.prefix.Found.TheVariants.{Refused, Unknown, Is}
use Rattle.typing_rules.specs.declared.prefix.Part.{Part}
use Rattle.statement_typing.specs.Asked.{fault_of_name, name_faults, name_prefix, place_of, range_faults, range_seen}
use Rattle.statement_typing.specs.Checks.{added, all_of, and_also, broken, fault_in, refuse, unless}
use Rattle.statement_typing.specs.Subtypes.{heard, part, part_faults}
use Rattle.statement_typing.specs.Aspects.{condition}
use Rattle.statement_typing.specs.Pragmas.{checked, checked_faults, ways, ways_faults}
use Rattle.statement_typing.specs.declared.parts.Selected.{Selected}
use Rattle.statement_typing.specs.Choices.{choices_faults, choices_faults_in, cover, cover_faults, has_others, others_last, selector, selector_want, spreads_in}
use Rattle.statement_typing.specs.Statements.{a_value, action_at, action_faults, add_after, add_before, add_demand, alternative_of, alternatives_faults, alternatives_onto, another, Around, assignment, assignment_faults, before_group, in_group, after_group, body_faults, body_onto, Body, branches_faults, branches_onto, call_action, case_at, demand_faults, demand_of, empty, entry, exit_faults, exit_of, head_faults, in_loop, in_pragma, inside, invariant, invocation, invocation_faults, is_demand, may_stand, nothing, pragma_by, pragma_faults, return_faults, return_of, returned, returned_faults, Returns, Sort, sort_of, Stage, stage_after, stmt, stmt_faults, stmt_place, stmts, stmts_faults, stmts_onto, tested, tested_faults, value_for, value_for_faults, variant, with_demand, with_stmt}
use Rattle.typing_laws.proofs.Merging.{first_alone, first_joined}
use Rattle.typing_laws.proofs.Trees.{call_first, target_first}
use Rattle.statement_laws.proofs.Telling.{Told, told_both, told_broken, told_heard, told_in, told_part, told_range, told_with}
use Rattle.statement_laws.proofs.Definitions.{fit_hears, told_added}
use Rattle.statement_laws.proofs.Lists.{first_crossed, first_further, first_same, Within, within_both, within_itself, within_left, within_right}
use Rattle.statement_laws.proofs.Demands.{checked_told, condition_hears, ways_told}
use Rattle.statement_laws.proofs.Choosing.{all_told, choices_alone, cover_told, own_told, selector_hears, TogetherTold}

-- ---- statements without parts

pub tested_told : (c : Scope) (e : tree.Expr) → Told (tested c e) (tested_faults c e)
tested_told c e = told_part c (want.Type boolean) e (condition c.world L9 (place_of c e)) (condition_hears c.world L9 (place_of c e))

beside_unknown : (c : Scope) (e : tree.Expr) → Told (and_also {A = Fitted Expr} Unknown (heard (seen c want.Unknown e))) (faults c want.Unknown e)
beside_unknown c e = told_both (λ (x : Fitted Expr) y. x) Unknown (heard (seen c want.Unknown e)) [] (faults c want.Unknown e) refl (told_heard c want.Unknown e)

value_told : (c : Scope) (t : Found Part) (e : tree.Expr) → Told (value_for c t e) (value_for_faults c t e)
value_told c (Is g) e =
    told_part c (want.Subtype g.subtype) e (fit c.world L8 true g.subtype (place_of c e)) (fit_hears c.world L8 true g.subtype (place_of c e))
value_told c Unknown e = beside_unknown c e
value_told c (Refused f) e = beside_unknown c e

pub assignment_told : (c : Scope) (n : tree.Name) (e : tree.Expr) → Told (assignment c n e) (assignment_faults c n e)
assignment_told c (tree.named s i ss) e =
    let n = tree.named s i ss in
    told_both (λ (g : Part) f. action.Assign g.target f) (target_seen c n) (value_for c (target_seen c n) e)
    (name_faults c n ++ fault_of_name (name_prefix c n) (target_seen c n)) (value_for_faults c (target_seen c n) e)
    (target_first c n) (value_told c (target_seen c n) e)

pub invocation_told : (c : Scope) (n : tree.Name) → Told (invocation c n) (invocation_faults c n)
invocation_told c (tree.named s i ss) =
    let n = tree.named s i ss in
    told_with call_action (call_seen c n) (name_faults c n ++ fault_of_name (name_prefix c n) (call_seen c n)) (call_first c n)

returned_told : (c : Scope) (k : Found ℕ) (e : tree.Expr) → Told (returned c k e) (returned_faults c k e)
returned_told c (Is k) e = told_part c (want.Subtype k) e (fit c.world L13 false k (place_of c e)) (fit_hears c.world L13 false k (place_of c e))
returned_told c Unknown e = beside_unknown c e
returned_told c (Refused f) e = beside_unknown c e

pub return_told : (a : Around) (p : Place) (r : Returns) (e : Option tree.Expr) → Told (return_of a p r e) (return_faults a p r e)
return_told a p nothing None = refl
return_told a p nothing (Some e) =
    told_both (λ x y. x) (refuse {A = Action Stmt} L13 (place_of a.scope e)) (heard (seen a.scope want.Free e)) (broken L13 (place_of a.scope e)) (faults a.scope want.Free e)
    (told_broken L13 (place_of a.scope e)) (told_heard a.scope want.Free e)
return_told a p (a_value k) None = told_broken L13 p
return_told a p (a_value k) (Some e) = told_with action.Give (returned a.scope k e) (returned_faults a.scope k e) (returned_told a.scope k e)

pub exit_told : (a : Around) (p : Place) (e : Option tree.Expr) → Told (exit_of a p e) (exit_faults a p e)
exit_told a p None = told_with (λ b. action.Exit) (in_loop a.loop p) (fault_in (in_loop a.loop p)) (told_in (in_loop a.loop p))
exit_told a p (Some e) =
    told_both (λ b x. action.ExitWhen x) (in_loop a.loop p) (tested a.scope e) (fault_in (in_loop a.loop p)) (tested_faults a.scope e)
    (told_in (in_loop a.loop p)) (tested_told a.scope e)

misplaced : {B : Type 0} → (p : Place) (b : Found B) (fs : List Refusal) → Told b fs → Told (and_also {A = Action Stmt} (refuse L25 p) b) (broken L25 p ++ fs)
misplaced p b fs h = told_both (λ x y. x) (refuse {A = Action Stmt} L25 p) b (broken L25 p) fs (told_broken L25 p) h

pub pragma_told : (a : Around) (p : Place) (w : Option Word) (as' : tree.Args) → Told (pragma_by a p w as') (pragma_faults a p w as')
pragma_told a p (Some word.Assert) as' =
    told_with action.Assert (checked a.word (in_pragma a) p as') (checked_faults a.word (in_pragma a) p as') (checked_told a.word (in_pragma a) p as')
pragma_told a p (Some word.Assume) as' =
    told_with action.Assume (checked a.word (in_pragma a) p as') (checked_faults a.word (in_pragma a) p as') (checked_told a.word (in_pragma a) p as')
pragma_told a p (Some word.LoopInvariant) as' =
    misplaced p (checked a.word (in_pragma a) p as') (checked_faults a.word (in_pragma a) p as') (checked_told a.word (in_pragma a) p as')
pragma_told a p (Some word.LoopVariant) as' =
    misplaced p (ways a.word (in_pragma a) p as') (ways_faults a.word (in_pragma a) p as') (ways_told a.word (in_pragma a) p as')
pragma_told a p None as' = refl
pragma_told a p (Some word.SparkMode) as' = refl
pragma_told a p (Some word.Pure) as' = refl
pragma_told a p (Some word.Preelaborate) as' = refl
pragma_told a p (Some word.Pre) as' = refl
pragma_told a p (Some word.Post) as' = refl
pragma_told a p (Some word.Global) as' = refl
pragma_told a p (Some word.First) as' = refl
pragma_told a p (Some word.Last) as' = refl
pragma_told a p (Some word.Length) as' = refl
pragma_told a p (Some word.Succ) as' = refl
pragma_told a p (Some word.Pred) as' = refl
pragma_told a p (Some word.Pos) as' = refl
pragma_told a p (Some word.Val) as' = refl
pragma_told a p (Some word.Old) as' = refl
pragma_told a p (Some word.Result) as' = refl
pragma_told a p (Some word.LoopEntry) as' = refl
pragma_told a p (Some word.On) as' = refl
pragma_told a p (Some word.Check) as' = refl
pragma_told a p (Some word.Increases) as' = refl
pragma_told a p (Some word.Decreases) as' = refl
pragma_told a p (Some word.Input) as' = refl
pragma_told a p (Some word.Output) as' = refl
pragma_told a p (Some word.InOut) as' = refl

-- ---- loops

pub head_told : (c : Scope) (h : tree.LoopHead) → Told (entry c h).head (head_faults c h)
head_told c tree.forever = refl
head_told c (tree.while e) = told_with head.While (tested c e) (tested_faults c e) (tested_told c e)
head_told c (tree.for s b r) =
    told_with (λ x. head.For b (record { number = c.number s.from; subtype = x.subtype }) x.low x.high) (range_seen c L22 want.Free r) (range_faults c L22 want.Free r)
    (told_range c L22 want.Free r)

demand_told : (a : Around) (p : Place) (x : Sort) → Told (demand_of a p x) (demand_faults a p x)
demand_told a p (invariant as') =
    told_with demand.Invariant (checked a.word (in_pragma a) p as') (checked_faults a.word (in_pragma a) p as') (checked_told a.word (in_pragma a) p as')
demand_told a p (variant as') = told_with demand.Variant (ways a.word (in_pragma a) p as') (ways_faults a.word (in_pragma a) p as') (ways_told a.word (in_pragma a) p as')
demand_told a p another = refl

with_stmt_told : (t : Stage) (b : Found Body) (s : Found Stmt) (fs gs : List Refusal) → Told b fs → Told s gs → Told (with_stmt t b s) (fs ++ gs)
with_stmt_told before_group b s fs gs h i = told_both add_before b s fs gs h i
with_stmt_told (in_group v) b s fs gs h i = told_both add_after b s fs gs h i
with_stmt_told after_group b s fs gs h i = told_both add_after b s fs gs h i

-- a statement of a body, which is a demand or not
body_turn : (b : Bool) (x y : Found Body) (fs ds ss rest : List Refusal) → Told x ((fs ++ ds) ++ rest) → Told y ((fs ++ ss) ++ rest)
    → Told (if b then x else y) (fs ++ ((if b then ds else ss) ++ rest))
body_turn true x y fs ds ss rest h i = first_joined (found_fault x) fs ds rest h
body_turn false x y fs ds ss rest h i = first_joined (found_fault y) fs ss rest i

-- ---- case statements

-- where each part of the list is
selected_in : (ps cs ds as' : List Refusal) → Within ps (((ps ++ cs) ++ ds) ++ as')
selected_in ps cs ds as' = within_left ps ((ps ++ cs) ++ ds) as' (within_left ps (ps ++ cs) ds (within_left ps ps cs (within_itself ps)))

choices_in : (ps cs ds as' : List Refusal) → Within cs (((ps ++ cs) ++ ds) ++ as')
choices_in ps cs ds as' = within_left cs ((ps ++ cs) ++ ds) as' (within_left cs (ps ++ cs) ds (within_right cs ps cs (within_itself cs)))

together_in : (ps cs ds as' : List Refusal) → Within ds (((ps ++ cs) ++ ds) ++ as')
together_in ps cs ds as' = within_left ds ((ps ++ cs) ++ ds) as' (within_right ds (ps ++ cs) ds (within_itself ds))

-- what is told of the selector and the order, of the choices together, and of the alternatives, which tell what is broken in the choices again
case_same : (ps cs ds as' : List Refusal) (u : Option Refusal) → First u ((ps ++ (cs ++ ds)) ++ (cs ++ as')) → First u (((ps ++ cs) ++ ds) ++ as')
case_same ps cs ds as' u h =
    let from = (ps ++ (cs ++ ds)) ++ (cs ++ as') in
    let to = ((ps ++ cs) ++ ds) ++ as' in
    first_same u from to
    (within_both (ps ++ (cs ++ ds)) (cs ++ as') to
    (within_both ps (cs ++ ds) to (selected_in ps cs ds as') (within_both cs ds to (choices_in ps cs ds as') (together_in ps cs ds as')))
    (within_both cs as' to (choices_in ps cs ds as') (within_right as' ((ps ++ cs) ++ ds) as' (within_itself as'))))
    (within_both ((ps ++ cs) ++ ds) as' from
    (within_both (ps ++ cs) ds from
    (within_both ps cs from
    (within_left ps (ps ++ (cs ++ ds)) (cs ++ as') (within_left ps ps (cs ++ ds) (within_itself ps)))
    (within_left cs (ps ++ (cs ++ ds)) (cs ++ as') (within_right cs ps (cs ++ ds) (within_left cs cs ds (within_itself cs)))))
    (within_left ds (ps ++ (cs ++ ds)) (cs ++ as') (within_right ds ps (cs ++ ds) (within_right ds cs ds (within_itself ds)))))
    (within_right as' (ps ++ (cs ++ ds)) (cs ++ as') (within_right as' cs as' (within_itself as'))))
    h

case_own : (ps cs ds as' : List Refusal) (u : Option Refusal) → First u ((ps ++ ds) ++ (cs ++ as')) → First u (((ps ++ cs) ++ ds) ++ as')
case_own ps cs ds as' u h =
    let from = (ps ++ ds) ++ (cs ++ as') in
    let to = ((ps ++ cs) ++ ds) ++ as' in
    first_same u from to
    (within_both (ps ++ ds) (cs ++ as') to
    (within_both ps ds to (selected_in ps cs ds as') (together_in ps cs ds as'))
    (within_both cs as' to (choices_in ps cs ds as') (within_right as' ((ps ++ cs) ++ ds) as' (within_itself as'))))
    (within_both ((ps ++ cs) ++ ds) as' from
    (within_both (ps ++ cs) ds from
    (within_both ps cs from
    (within_left ps (ps ++ ds) (cs ++ as') (within_left ps ps ds (within_itself ps)))
    (within_right cs (ps ++ ds) (cs ++ as') (within_left cs cs as' (within_itself cs))))
    (within_left ds (ps ++ ds) (cs ++ as') (within_right ds ps ds (within_itself ds))))
    (within_right as' (ps ++ ds) (cs ++ as') (within_right as' cs as' (within_itself as'))))
    h

case_told : (p : Place) (s : Found Selected) (o c : Found Bool) (as' : Found (List (Alternative Stmt))) (ss os cs ds ls : List Refusal)
    → Told s ss → Told o os → TogetherTold c cs ds → Told as' (cs ++ ls) → Told (case_at p s o c as') ((((ss ++ os) ++ cs) ++ ds) ++ ls)
case_told p s o c as' ss os cs ds ls h i (all_told j) k =
    case_same (ss ++ os) cs ds ls (found_fault (case_at p s o c as'))
    (told_both (λ (x : Selected) ys. action.Case x.value ys) (and_also (and_also s o) c) as' ((ss ++ os) ++ (cs ++ ds)) (cs ++ ls)
    (told_both (λ x y. x) (and_also s o) c (ss ++ os) (cs ++ ds) (told_both (λ x y. x) s o ss os h i) j) k)
case_told p s o c as' ss os cs ds ls h i (own_told j) k =
    case_own (ss ++ os) cs ds ls (found_fault (case_at p s o c as'))
    (told_both (λ (x : Selected) ys. action.Case x.value ys) (and_also (and_also s o) c) as' ((ss ++ os) ++ ds) (cs ++ ls)
    (told_both (λ x y. x) (and_also s o) c (ss ++ os) ds (told_both (λ x y. x) s o ss os h i) j) k)

alternative_told : (c : Scope) (w : Want) (ks : List tree.Choice) (ss : Found (List Stmt)) (fs : List Refusal) → Told ss fs → Told (alternative_of c w ks ss) (choices_faults_in c w ks ++ fs)
alternative_told c w ks ss fs h =
    told_both (λ xs ys. record { choices = map (λ x. x.choice) xs; others = has_others ks; body = ys }) (all_of (spreads_in c w ks)) ss (choices_faults_in c w ks) fs
    (choices_alone c w ks (Is []) [] refl) h

no_alternatives_told : (done : Found (List (Alternative Stmt))) (cs ls : List Refusal) → Told done (cs ++ ls) → Told done ((cs ++ []) ++ (ls ++ []))
no_alternatives_told done cs ls h = first_crossed (found_fault done) cs ls [] [] (first_alone (found_fault done) (cs ++ ls) h)

-- ---- all trees

mutual
  pub stmt_told : (a : Around) (s : tree.Stmt) → Told (stmt a s) (stmt_faults a s)
  stmt_told a (tree.statement s x) =
      told_with (λ y. roll-Stmt (record { place = a.scope.place s.from; action = y })) (action_at a (a.scope.place s.from) s x) (action_faults a (a.scope.place s.from) s x)
      (action_told a (a.scope.place s.from) s x)

  action_told : (a : Around) (p : Place) (s : Span) (x : tree.Action) → Told (action_at a p s x) (action_faults a p s x)
  action_told a p s tree.skip = refl
  action_told a p s (tree.call n) = invocation_told a.scope n
  action_told a p s (tree.assign n e) = assignment_told a.scope n e
  action_told a p s (tree.branches bs ss) =
      told_both action.If (branches_onto a (Is []) bs) (stmts_onto a (Is []) ss) (branches_faults a bs) (stmts_faults a ss)
      (branches_told a bs (Is []) [] refl) (stmts_told a ss (Is []) [] refl)
  action_told a p s (tree.case_of e as') =
      let x = part a.scope want.Free e (selector a.scope e) in
      let w = selector_want x in
      case_told p x (unless (others_last as') L21 p true) (cover a.scope p x as') (alternatives_onto a w (Is []) as')
      (part_faults a.scope want.Free e (selector a.scope e)) (fault_in (unless (others_last as') L21 p true)) (choices_faults a.scope w as') (cover_faults a.scope p x as') (alternatives_faults a as')
      (told_part a.scope want.Free e (selector a.scope e) (selector_hears a.scope e)) (told_in (unless (others_last as') L21 p true)) (cover_told a.scope p x as')
      (alternatives_told a w as' (Is []) [] [] refl)
  action_told a p s (tree.loop h ss) =
      let b = inside a p (a.scope.number s.from) (entry a.scope h) in
      told_both (λ x (y : Body). action.Loop (record { number = a.scope.number s.from; head = x; before = y.before; group = y.group; after = y.after }))
      (entry a.scope h).head (body_onto b before_group (Is empty) ss) (head_faults a.scope h) (body_faults b before_group ss)
      (head_told a.scope h) (body_told b before_group ss (Is empty) [] refl)
  action_told a p s (tree.exit e) = exit_told a p e
  action_told a p s (tree.return e) = return_told a p a.returns e
  action_told a p s (tree.pragma_stmt q) = pragma_told a p (a.word q.name.from) q.args

  pub stmts_told : (a : Around) (ss : tree.Stmts) (done : Found (List Stmt)) (fs : List Refusal) → Told done fs → Told (stmts_onto a done ss) (fs ++ stmts_faults a ss)
  stmts_told a tree.no_stmts done fs h = first_alone (found_fault done) fs h
  stmts_told a (tree.stmts s ss) done fs h =
      first_joined (found_fault (stmts_onto a (added done (stmt a s)) ss)) fs (stmt_faults a s) (stmts_faults a ss)
      (stmts_told a ss (added done (stmt a s)) (fs ++ stmt_faults a s) (told_added done (stmt a s) fs (stmt_faults a s) h (stmt_told a s)))

  branches_told : (a : Around) (bs : tree.Branches) (done : Found (List (Branch Stmt))) (fs : List Refusal) → Told done fs → Told (branches_onto a done bs) (fs ++ branches_faults a bs)
  branches_told a tree.no_branches done fs h = first_alone (found_fault done) fs h
  branches_told a (tree.branch e ss bs) done fs h =
      first_joined (found_fault (branches_onto a done (tree.branch e ss bs))) fs (tested_faults a.scope e ++ stmts_faults a ss) (branches_faults a bs)
      (branches_told a bs (added done (both (λ x ys. record { condition = x; body = ys }) (tested a.scope e) (stmts_onto a (Is []) ss))) (fs ++ (tested_faults a.scope e ++ stmts_faults a ss))
      (told_added done (both (λ x ys. record { condition = x; body = ys }) (tested a.scope e) (stmts_onto a (Is []) ss)) fs (tested_faults a.scope e ++ stmts_faults a ss) h
      (told_both (λ x ys. record { condition = x; body = ys }) (tested a.scope e) (stmts_onto a (Is []) ss) (tested_faults a.scope e) (stmts_faults a ss)
      (tested_told a.scope e) (stmts_told a ss (Is []) [] refl))))

  alternatives_told : (a : Around) (w : Want) (as' : tree.Alternatives) (done : Found (List (Alternative Stmt))) (cs ls : List Refusal)
      → Told done (cs ++ ls) → Told (alternatives_onto a w done as') ((cs ++ choices_faults a.scope w as') ++ (ls ++ alternatives_faults a as'))
  alternatives_told a w tree.no_alternatives done cs ls h = no_alternatives_told done cs ls h
  alternatives_told a w (tree.alternative ks ss as') done cs ls h =
      let x = alternative_of a.scope w ks (stmts_onto a (Is []) ss) in
      let ds = choices_faults_in a.scope w ks in
      first_further (found_fault (alternatives_onto a w (added done x) as')) cs ds (choices_faults a.scope w as') ls (stmts_faults a ss) (alternatives_faults a as')
      (alternatives_told a w as' (added done x) (cs ++ ds) (ls ++ stmts_faults a ss)
      (first_crossed (found_fault (added done x)) cs ls ds (stmts_faults a ss)
      (told_added done x (cs ++ ls) (ds ++ stmts_faults a ss) h
      (alternative_told a.scope w ks (stmts_onto a (Is []) ss) (stmts_faults a ss) (stmts_told a ss (Is []) [] refl)))))

  pub body_told : (a : Around) (t : Stage) (ss : tree.Stmts) (done : Found Body) (fs : List Refusal) → Told done fs → Told (body_onto a t done ss) (fs ++ body_faults a t ss)
  body_told a t tree.no_stmts done fs h = first_alone (found_fault done) fs h
  body_told a t (tree.stmts s ss) done fs h =
      let later = stage_after t (sort_of a s) in
      let d = demand_of a (stmt_place a s) (sort_of a s) in
      let ds = demand_faults a (stmt_place a s) (sort_of a s) in
      body_turn (is_demand (sort_of a s) && may_stand t (sort_of a s)) (body_onto a later (with_demand done d) ss) (body_onto a later (with_stmt t done (stmt a s)) ss)
      fs ds (stmt_faults a s) (body_faults a later ss)
      (body_told a later ss (with_demand done d) (fs ++ ds) (told_both add_demand done d fs ds h (demand_told a (stmt_place a s) (sort_of a s))))
      (body_told a later ss (with_stmt t done (stmt a s)) (fs ++ stmt_faults a s) (with_stmt_told t done (stmt a s) fs (stmt_faults a s) h (stmt_told a s)))

pub all_statements : (a : Around) (ss : tree.Stmts) → Told (stmts a ss) (stmts_faults a ss)
all_statements a ss = stmts_told a ss (Is []) [] refl

pub whole_body : (a : Around) (t : Stage) (ss : tree.Stmts) → Told (body_onto a t (Is empty) ss) (body_faults a t ss)
whole_body a t ss = body_told a t ss (Is empty) [] refl
