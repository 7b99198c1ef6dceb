-- What is found of statements whose names are declared.
use Rattle.std.proofs.Common.{◌≡◌, refl, sym, ℕ, Bool, true, false, true≢false, List, [], Option, Some, None}
use Rattle.std.specs.Prelude.{map, ◌&&◌, if◌then◌else◌}
use Rattle.ada_text.specs.declared.token.Span.{Span}
use Rattle.ada_values.specs.declared.place.Place.{Place}
use Rattle.front_codes.specs.declared.codes.Code.TheVariants.{L8, L9, L13, L21, L22, L25}
use Rattle.front_codes.specs.declared.codes.Refusal.{Refusal}
use Rattle.name_numbers.specs.declared.words.Word.{Word}
use Rattle.name_numbers.specs.declared.words.Word.TheVariants as word
use Rattle.syntax_view.specs.Trees as tree
use Rattle.typed_units.specs.declared.statements.Action.{Action}
use Rattle.typed_units.specs.declared.statements.Action.TheVariants as action
use Rattle.typed_units.specs.declared.statements.Alternative.{Alternative}
use Rattle.typed_units.specs.declared.statements.Branch.{Branch}
use Rattle.typed_units.specs.declared.statements.Demand.TheVariants as demand
use Rattle.typed_units.specs.declared.statements.Head.{Head}
use Rattle.typed_units.specs.declared.statements.Head.TheVariants as head
use Rattle.typed_units.specs.declared.statements.Stmt.{Stmt, roll-Stmt}
use Rattle.type_base.specs.Demands as demands
use Rattle.type_base.specs.Scope.{Scope}
use Rattle.type_base.specs.declared.seen.Want.TheVariants as want
use Rattle.typing_rules.specs.Cases.{id, num}
use Rattle.typing_rules.specs.Fits.{both, fit, with_found}
use Rattle.typing_rules.specs.Reading.{call_seen, seen, target_seen}
use Rattle.typing_rules.specs.declared.prefix.Between.{Between}
use Rattle.typing_rules.specs.declared.prefix.Found.{Found}
use Rattle.typing_rules.specs.declared.prefix.Found.TheVariants.{Refused, Unknown, Is}
use Rattle.typing_rules.specs.declared.prefix.Part.{Part}
use Rattle.typing_laws.specs.Declared.{IsDeclared, IsSound, IsThere, NameDeclared}
use Rattle.typing_laws.proofs.KnownArguments.{fit_found}
use Rattle.typing_laws.proofs.KnownRanges.{BetweenFound}
use Rattle.typing_laws.proofs.Standing.{IsFound, both_found, with_found_found}
use Rattle.statement_typing.specs.Asked.{place_of, range_seen}
use Rattle.statement_typing.specs.Cases.{around, assign, between, loop_over}
use Rattle.statement_typing.specs.Checks.{added, all_of, and_also, refuse, unless}
use Rattle.statement_typing.specs.Choices.{cover, has_others, others_last, selector, selector_want, spreads_in}
use Rattle.statement_typing.specs.Pragmas.{checked, ways}
use Rattle.statement_typing.specs.Statements.{Around, Body, Loop, Returns, Sort, Stage, a_value, action_at, add_after, add_before, add_demand, after_group, alternative_of, alternatives_onto, another, assignment, before_group, body_onto, branches_onto, call_action, case_at, demand_of, empty, exit_of, in_group, in_loop, in_pragma, invariant, invocation, is_demand, loop_of, may_stand, nothing, pragma_by, return_of, returned, sort_of, sort_of_pragma, stage_after, stmt, stmt_place, stmts, stmts_onto, tested, value_for, variant, with_demand, with_stmt, with_turn}
use Rattle.statement_typing.specs.Subtypes.{heard, part}
use Rattle.statement_typing.specs.declared.parts.Selected.{Selected}
use Rattle.known_statements.specs.Declared.{ActionDeclared, AlternativesDeclared, ArgumentsDeclared, BranchesDeclared, ConditionDeclared, PragmaDeclared, ResultKnown, ReturnsKnown, StmtDeclared, StmtsDeclared, in_turn, within}
use Rattle.known_statements.specs.Declared as declared
use Rattle.known_statements.proofs.Asked.{PartFound, added_found, all_found, beside_found, call_found, range_there, refused_found, seen_known, target_there, tested_found, unless_found}
use Rattle.known_statements.proofs.Chosen.{SelectedFound, choices_found, cover_found, selector_there}
use Rattle.known_statements.proofs.Demanded.{checked_found, ways_found}

-- ---- statements without parts

assigned_found : (c : Scope) (t : Found Part) (e : tree.Expr) → IsSound c.world → PartFound c.world t → IsDeclared c e → IsFound {A = Action Stmt} (both (λ g f. action.Assign g.target f) t (value_for c t e))
assigned_found c (Is g) e sound h i =
    let s = seen c (want.Subtype g.subtype) e in
    both_found (λ (g : Part) f. action.Assign g.target f) (Is g) (fit c.world L8 true g.subtype (place_of c e) s) tt
    (fit_found c.world L8 true g.subtype (place_of c e) s sound h (seen_known c (want.Subtype g.subtype) e sound h i))
assigned_found c Unknown e sound h i = absurd h
assigned_found c (Refused f) e sound h i = refused_found (λ (g : Part) x. action.Assign g.target x) f (value_for c (Refused f) e)

assignment_found : (c : Scope) (n : tree.Name) (e : tree.Expr) → IsSound c.world → NameDeclared c n → IsDeclared c e → IsFound (assignment c n e)
assignment_found c n e sound h i = assigned_found c (target_seen c n) e sound (target_there c n sound h) i

invocation_found : (c : Scope) (n : tree.Name) → IsSound c.world → NameDeclared c n → IsFound (invocation c n)
invocation_found c n sound h = with_found_found call_action (call_seen c n) (call_found c n sound h)

returned_found : (c : Scope) (k : Found ℕ) (e : tree.Expr) → IsSound c.world → ResultKnown c.world k → IsDeclared c e → IsFound (returned c k e)
returned_found c (Is k) e sound h i =
    let s = seen c (want.Subtype k) e in
    fit_found c.world L13 false k (place_of c e) s sound h (seen_known c (want.Subtype k) e sound h i)
returned_found c Unknown e sound h i = absurd h
returned_found c (Refused f) e sound h i = absurd h

return_found : (a : Around) (p : Place) (r : Returns) (e : Option tree.Expr) → IsSound a.scope.world → ReturnsKnown a.scope.world r → ConditionDeclared a.scope e → IsFound (return_of a p r e)
return_found a p nothing None sound h i = tt
return_found a p nothing (Some e) sound h i =
    refused_found (λ (x : Action Stmt) y. x) (demands.broken L13 (place_of a.scope e)) (heard (seen a.scope want.Free e))
return_found a p (a_value k) None sound h i = tt
return_found a p (a_value k) (Some e) sound h i = with_found_found action.Give (returned a.scope k e) (returned_found a.scope k e sound h i)

in_loop_found : (l : Option Loop) (p : Place) → IsFound (in_loop l p)
in_loop_found None p = tt
in_loop_found (Some l) p = tt

exit_found : (a : Around) (p : Place) (e : Option tree.Expr) → IsSound a.scope.world → ConditionDeclared a.scope e → IsFound (exit_of a p e)
exit_found a p None sound h = with_found_found (λ b. action.Exit) (in_loop a.loop p) (in_loop_found a.loop p)
exit_found a p (Some e) sound h = both_found (λ b x. action.ExitWhen x) (in_loop a.loop p) (tested a.scope e) (in_loop_found a.loop p) (tested_found a.scope L9 e sound h)

misplaced : {B : Type 0} → (p : Place) (b : Found B) → IsFound (and_also {A = Action Stmt} (refuse L25 p) b)
misplaced p b = refused_found (λ (x : Action Stmt) y. x) (demands.broken L25 p) b

pub pragma_found : (a : Around) (p : Place) (w : Option Word) (as' : tree.Args) → IsSound a.scope.world → PragmaDeclared a w as' → IsFound (pragma_by a p w as')
pragma_found a p (Some word.Assert) as' sound h = with_found_found action.Assert (checked a.word (in_pragma a) p as') (checked_found a.word (in_pragma a) p as' sound h)
pragma_found a p (Some word.Assume) as' sound h = with_found_found action.Assume (checked a.word (in_pragma a) p as') (checked_found a.word (in_pragma a) p as' sound h)
pragma_found a p (Some word.LoopInvariant) as' sound h = misplaced p (checked a.word (in_pragma a) p as')
pragma_found a p (Some word.LoopVariant) as' sound h = misplaced p (ways a.word (in_pragma a) p as')
pragma_found a p None as' sound h = tt
pragma_found a p (Some word.SparkMode) as' sound h = tt
pragma_found a p (Some word.Pure) as' sound h = tt
pragma_found a p (Some word.Preelaborate) as' sound h = tt
pragma_found a p (Some word.Pre) as' sound h = tt
pragma_found a p (Some word.Post) as' sound h = tt
pragma_found a p (Some word.Global) as' sound h = tt
pragma_found a p (Some word.First) as' sound h = tt
pragma_found a p (Some word.Last) as' sound h = tt
pragma_found a p (Some word.Length) as' sound h = tt
pragma_found a p (Some word.Succ) as' sound h = tt
pragma_found a p (Some word.Pred) as' sound h = tt
pragma_found a p (Some word.Pos) as' sound h = tt
pragma_found a p (Some word.Val) as' sound h = tt
pragma_found a p (Some word.Old) as' sound h = tt
pragma_found a p (Some word.Result) as' sound h = tt
pragma_found a p (Some word.LoopEntry) as' sound h = tt
pragma_found a p (Some word.On) as' sound h = tt
pragma_found a p (Some word.Check) as' sound h = tt
pragma_found a p (Some word.Increases) as' sound h = tt
pragma_found a p (Some word.Decreases) as' sound h = tt
pragma_found a p (Some word.Input) as' sound h = tt
pragma_found a p (Some word.Output) as' sound h = tt
pragma_found a p (Some word.InOut) as' sound h = tt

-- ---- loops

abbrev SortDeclared : Around → Sort → Type 0
SortDeclared a (invariant as') = ArgumentsDeclared (in_pragma a) as'
SortDeclared a (variant as') = ArgumentsDeclared (in_pragma a) as'
SortDeclared a another = Unit {0}

pragma_declared : (a : Around) (w : Option Word) (as' : tree.Args) → PragmaDeclared a w as' → SortDeclared a (sort_of_pragma w as')
pragma_declared a (Some word.LoopInvariant) as' h = h
pragma_declared a (Some word.LoopVariant) as' h = h
pragma_declared a None as' h = tt
pragma_declared a (Some word.SparkMode) as' h = tt
pragma_declared a (Some word.Pure) as' h = tt
pragma_declared a (Some word.Preelaborate) as' h = tt
pragma_declared a (Some word.Assert) as' h = tt
pragma_declared a (Some word.Assume) as' h = tt
pragma_declared a (Some word.Pre) as' h = tt
pragma_declared a (Some word.Post) as' h = tt
pragma_declared a (Some word.Global) as' h = tt
pragma_declared a (Some word.First) as' h = tt
pragma_declared a (Some word.Last) as' h = tt
pragma_declared a (Some word.Length) as' h = tt
pragma_declared a (Some word.Succ) as' h = tt
pragma_declared a (Some word.Pred) as' h = tt
pragma_declared a (Some word.Pos) as' h = tt
pragma_declared a (Some word.Val) as' h = tt
pragma_declared a (Some word.Old) as' h = tt
pragma_declared a (Some word.Result) as' h = tt
pragma_declared a (Some word.LoopEntry) as' h = tt
pragma_declared a (Some word.On) as' h = tt
pragma_declared a (Some word.Check) as' h = tt
pragma_declared a (Some word.Increases) as' h = tt
pragma_declared a (Some word.Decreases) as' h = tt
pragma_declared a (Some word.Input) as' h = tt
pragma_declared a (Some word.Output) as' h = tt
pragma_declared a (Some word.InOut) as' h = tt

sort_declared : (a : Around) (s : tree.Stmt) → StmtDeclared a s → SortDeclared a (sort_of a s)
sort_declared a (tree.statement s (tree.pragma_stmt q)) h = pragma_declared a (a.word q.name.from) q.args h
sort_declared a (tree.statement s tree.skip) h = tt
sort_declared a (tree.statement s (tree.call n)) h = tt
sort_declared a (tree.statement s (tree.assign n e)) h = tt
sort_declared a (tree.statement s (tree.branches bs ss)) h = tt
sort_declared a (tree.statement s (tree.case_of e as')) h = tt
sort_declared a (tree.statement s (tree.loop tree.forever ss)) h = tt
sort_declared a (tree.statement s (tree.loop (tree.while e) ss)) h = tt
sort_declared a (tree.statement s (tree.loop (tree.for t b r) ss)) h = tt
sort_declared a (tree.statement s (tree.exit e)) h = tt
sort_declared a (tree.statement s (tree.return e)) h = tt

demand_found : (a : Around) (p : Place) (x : Sort) (b : Bool) → IsSound a.scope.world → SortDeclared a x → (is_demand x && b) ≡ true → IsFound (demand_of a p x)
demand_found a p (invariant as') b sound h e = with_found_found demand.Invariant (checked a.word (in_pragma a) p as') (checked_found a.word (in_pragma a) p as' sound h)
demand_found a p (variant as') b sound h e = with_found_found demand.Variant (ways a.word (in_pragma a) p as') (ways_found a.word (in_pragma a) p as' sound h)
demand_found a p another b sound h e = absurd (true≢false (sym e))

with_stmt_found : (t : Stage) (b : Found Body) (s : Found Stmt) → IsFound b → IsFound s → IsFound (with_stmt t b s)
with_stmt_found before_group b s h i = both_found add_before b s h i
with_stmt_found (in_group v) b s h i = both_found add_after b s h i
with_stmt_found after_group b s h i = both_found add_after b s h i

if_found : {A : Type 0} → (b : Bool) (x y : Found A) → (b ≡ true → IsFound x) → IsFound y → IsFound (if b then x else y)
if_found true x y h i = h refl
if_found false x y h i = i

-- a loop over a range has a body for the parameter of the range's subtype, and a refused range is told
turned_found : (a : Around) (p : Place) (n : ℕ) (t : Span) (b : Bool) (ss : tree.Stmts) (x : Found Between) → BetweenFound a.scope.world x
    → ((k : ℕ) → IsThere a.scope.world k → IsFound (body_onto (in_turn a n t.from k) before_group (Is empty) ss))
    → IsFound (loop_of n (with_found (λ o. head.For b (record { number = a.scope.number t.from; subtype = o.subtype }) o.low o.high) x)
    (body_onto (within a n (with_turn a.scope t x) (Some (a.scope.number t.from))) before_group (Is empty) ss))
turned_found a p n t b ss (Refused f) h i =
    refused_found (λ (x : Head) (y : Body). action.Loop (record { number = n; head = x; before = y.before; group = y.group; after = y.after })) f
    (body_onto (within a n (with_turn a.scope t (Refused f)) (Some (a.scope.number t.from))) before_group (Is empty) ss)
turned_found a p n t b ss Unknown h i = absurd h
turned_found a p n t b ss (Is r) h i =
    both_found (λ (x : Head) (y : Body). action.Loop (record { number = n; head = x; before = y.before; group = y.group; after = y.after }))
    (Is (head.For b (record { number = a.scope.number t.from; subtype = r.subtype }) r.low r.high))
    (body_onto (in_turn a n t.from r.subtype) before_group (Is empty) ss) tt (i r.subtype h)

looped_found : (n : ℕ) (h : Found Head) (b : Found Body) → IsFound h → IsFound b → IsFound (loop_of n h b)
looped_found n h b i j = both_found (λ (x : Head) (y : Body). action.Loop (record { number = n; head = x; before = y.before; group = y.group; after = y.after })) h b i j

-- ---- case statements

alternative_found : (c : Scope) (t : ℕ) (ks : List tree.Choice) (ss : Found (List Stmt)) → IsSound c.world → IsThere c.world t → declared.ChoicesDeclared c ks → IsFound ss → IsFound (alternative_of c (want.Type t) ks ss)
alternative_found c t ks ss sound h i j =
    let xs = spreads_in c (want.Type t) ks in
    both_found (λ xs ys. record { choices = map (λ x. x.choice) xs; others = has_others ks; body = ys }) (all_of xs) ss (all_found xs (choices_found c t ks sound h i)) j

case_refused : (p : Place) (f : Refusal) (o c : Found Bool) (as' : Found (List (Alternative Stmt))) → IsFound (case_at p (Refused f) o c as')
case_refused p f (Refused g) (Refused h) (Refused i) = tt
case_refused p f (Refused g) (Refused h) Unknown = tt
case_refused p f (Refused g) (Refused h) (Is zs) = tt
case_refused p f (Refused g) Unknown (Refused i) = tt
case_refused p f (Refused g) Unknown Unknown = tt
case_refused p f (Refused g) Unknown (Is zs) = tt
case_refused p f (Refused g) (Is y) (Refused i) = tt
case_refused p f (Refused g) (Is y) Unknown = tt
case_refused p f (Refused g) (Is y) (Is zs) = tt
case_refused p f Unknown (Refused h) (Refused i) = tt
case_refused p f Unknown (Refused h) Unknown = tt
case_refused p f Unknown (Refused h) (Is zs) = tt
case_refused p f Unknown Unknown (Refused i) = tt
case_refused p f Unknown Unknown Unknown = tt
case_refused p f Unknown Unknown (Is zs) = tt
case_refused p f Unknown (Is y) (Refused i) = tt
case_refused p f Unknown (Is y) Unknown = tt
case_refused p f Unknown (Is y) (Is zs) = tt
case_refused p f (Is x) (Refused h) (Refused i) = tt
case_refused p f (Is x) (Refused h) Unknown = tt
case_refused p f (Is x) (Refused h) (Is zs) = tt
case_refused p f (Is x) Unknown (Refused i) = tt
case_refused p f (Is x) Unknown Unknown = tt
case_refused p f (Is x) Unknown (Is zs) = tt
case_refused p f (Is x) (Is y) (Refused i) = tt
case_refused p f (Is x) (Is y) Unknown = tt
case_refused p f (Is x) (Is y) (Is zs) = tt

-- where the selector is refused, that is told, whatever is found of the alternatives
case_found : (a : Around) (p : Place) (s : Found Selected) (as' : tree.Alternatives) → IsSound a.scope.world → SelectedFound a.scope.world s → AlternativesDeclared a as'
    → ((t : ℕ) → IsThere a.scope.world t → IsFound (alternatives_onto a (want.Type t) (Is []) as'))
    → IsFound (case_at p s (unless (others_last as') L21 p true) (cover a.scope p s as') (alternatives_onto a (selector_want s) (Is []) as'))
case_found a p (Refused f) as' sound h i j =
    case_refused p f (unless (others_last as') L21 p true) (cover a.scope p (Refused f) as') (alternatives_onto a want.Unknown (Is []) as')
case_found a p Unknown as' sound h i j = absurd h
case_found a p (Is x) as' sound h i j =
    let o = unless (others_last as') L21 p true in
    let c = cover a.scope p (Is x) as' in
    both_found (λ (x : Selected) ys. action.Case x.value ys) (and_also (and_also (Is x) o) c) (alternatives_onto a (want.Type x.of) (Is []) as')
    (beside_found (and_also (Is x) o) c (beside_found (Is x) o tt (unless_found (others_last as') L21 p true)) (cover_found a p x as' sound h i)) (j x.of h.type)

-- ---- all statements

stmt_at_found : (p : Place) (x : Found (Action Stmt)) → IsFound x → IsFound (with_found (λ y. roll-Stmt (record { place = p; action = y })) x)
stmt_at_found p x h = with_found_found (λ y. roll-Stmt (record { place = p; action = y })) x h

mutual
  pub stmt_found : (a : Around) (s : tree.Stmt) → IsSound a.scope.world → ReturnsKnown a.scope.world a.returns → StmtDeclared a s → IsFound (stmt a s)
  stmt_found a (tree.statement s x) sound r h = stmt_at_found (a.scope.place s.from) (action_at a (a.scope.place s.from) s x) (action_found a (a.scope.place s.from) s x sound r h)

  action_found : (a : Around) (p : Place) (s : Span) (x : tree.Action) → IsSound a.scope.world → ReturnsKnown a.scope.world a.returns → ActionDeclared a s x → IsFound (action_at a p s x)
  action_found a p s tree.skip sound r h = tt
  action_found a p s (tree.call n) sound r h = invocation_found a.scope n sound h
  action_found a p s (tree.assign n e) sound r h = assignment_found a.scope n e sound h.0 h.1
  action_found a p s (tree.branches bs ss) sound r h =
      both_found action.If (branches_onto a (Is []) bs) (stmts_onto a (Is []) ss) (branches_found a bs (Is []) sound r h.0 tt) (stmts_found a ss (Is []) sound r h.1 tt)
  action_found a p s (tree.case_of e as') sound r h =
      case_found a p (part a.scope want.Free e (selector a.scope e)) as' sound (selector_there a.scope e sound h.0) h.1 (λ t i. alternatives_found a t as' (Is []) sound r i h.1 tt)
  action_found a p s (tree.loop tree.forever ss) sound r h =
      let n = a.scope.number s.from in
      let b = within a n a.scope None in
      looped_found n (Is head.Forever) (body_onto b before_group (Is empty) ss) tt (body_found b before_group ss (Is empty) sound r h tt)
  action_found a p s (tree.loop (tree.while e) ss) sound r h =
      let n = a.scope.number s.from in
      let b = within a n a.scope None in
      looped_found n (with_found head.While (tested a.scope e)) (body_onto b before_group (Is empty) ss)
      (with_found_found head.While (tested a.scope e) (tested_found a.scope L9 e sound h.0)) (body_found b before_group ss (Is empty) sound r h.1 tt)
  action_found a p s (tree.loop (tree.for t b g) ss) sound r h =
      let n = a.scope.number s.from in
      turned_found a p n t b ss (range_seen a.scope L22 want.Free g) (range_there a.scope L22 want.Free g sound tt h.0) (λ k i. body_found (in_turn a n t.from k) before_group ss (Is empty) sound r (h.1 k i) tt)
  action_found a p s (tree.exit e) sound r h = exit_found a p e sound h
  action_found a p s (tree.return e) sound r h = return_found a p a.returns e sound r h
  action_found a p s (tree.pragma_stmt q) sound r h = pragma_found a p (a.word q.name.from) q.args sound h

  pub stmts_found : (a : Around) (ss : tree.Stmts) (done : Found (List Stmt)) → IsSound a.scope.world → ReturnsKnown a.scope.world a.returns → StmtsDeclared a ss → IsFound done → IsFound (stmts_onto a done ss)
  stmts_found a tree.no_stmts done sound r h i = i
  stmts_found a (tree.stmts s ss) done sound r h i =
      stmts_found a ss (added done (stmt a s)) sound r h.1 (added_found done (stmt a s) i (stmt_found a s sound r h.0))

  branches_found : (a : Around) (bs : tree.Branches) (done : Found (List (Branch Stmt))) → IsSound a.scope.world → ReturnsKnown a.scope.world a.returns → BranchesDeclared a bs → IsFound done → IsFound (branches_onto a done bs)
  branches_found a tree.no_branches done sound r h i = i
  branches_found a (tree.branch e ss bs) done sound r h i =
      let b = both (λ x ys. record { condition = x; body = ys }) (tested a.scope e) (stmts_onto a (Is []) ss) in
      branches_found a bs (added done b) sound r h.1
      (added_found done b i (both_found (λ x ys. record { condition = x; body = ys }) (tested a.scope e) (stmts_onto a (Is []) ss) (tested_found a.scope L9 e sound h.0.0) (stmts_found a ss (Is []) sound r h.0.1 tt)))

  alternatives_found : (a : Around) (t : ℕ) (as' : tree.Alternatives) (done : Found (List (Alternative Stmt))) → IsSound a.scope.world → ReturnsKnown a.scope.world a.returns → IsThere a.scope.world t → AlternativesDeclared a as' → IsFound done
      → IsFound (alternatives_onto a (want.Type t) done as')
  alternatives_found a t tree.no_alternatives done sound r g h i = i
  alternatives_found a t (tree.alternative ks ss as') done sound r g h i =
      let x = alternative_of a.scope (want.Type t) ks (stmts_onto a (Is []) ss) in
      alternatives_found a t as' (added done x) sound r g h.1
      (added_found done x i (alternative_found a.scope t ks (stmts_onto a (Is []) ss) sound g h.0.0 (stmts_found a ss (Is []) sound r h.0.1 tt)))

  body_found : (a : Around) (t : Stage) (ss : tree.Stmts) (done : Found Body) → IsSound a.scope.world → ReturnsKnown a.scope.world a.returns → StmtsDeclared a ss → IsFound done → IsFound (body_onto a t done ss)
  body_found a t tree.no_stmts done sound r h i = i
  body_found a t (tree.stmts s ss) done sound r h i =
      let later = stage_after t (sort_of a s) in
      let d = demand_of a (stmt_place a s) (sort_of a s) in
      if_found (is_demand (sort_of a s) && may_stand t (sort_of a s)) (body_onto a later (with_demand done d) ss) (body_onto a later (with_stmt t done (stmt a s)) ss)
      (λ e. body_found a later ss (with_demand done d) sound r h.1 (both_found add_demand done d i (demand_found a (stmt_place a s) (sort_of a s) (may_stand t (sort_of a s)) sound (sort_declared a s h.0) e)))
      (body_found a later ss (with_stmt t done (stmt a s)) sound r h.1 (with_stmt_found t done (stmt a s) i (stmt_found a s sound r h.0)))

-- ---- in the words of the law

pub told : {A : Type 0} → (x : Found A) → IsFound x → declared.IsFound x
told (Refused f) h = tt
told Unknown h = absurd h
told (Is a) h = tt

pub statement_known : (a : Around) → IsSound a.scope.world → ReturnsKnown a.scope.world a.returns → (s : tree.Stmt) → StmtDeclared a s → declared.IsFound (stmt a s)
statement_known a sound r s h = told (stmt a s) (stmt_found a s sound r h)

pub statements_known : (a : Around) → IsSound a.scope.world → ReturnsKnown a.scope.world a.returns → (ss : tree.Stmts) → StmtsDeclared a ss → declared.IsFound (stmts a ss)
statements_known a sound r ss h = told (stmts a ss) (stmts_found a ss (Is []) sound r h tt)

-- a loop over a range with an assignment, in the worked cases
pub case_declared : StmtsDeclared (around nothing None) (loop_over 500 190 (between (num 300 1) (num 400 5)) (assign 160 (id 261)))
case_declared = (((tt, tt), (λ k i. (((record { subtype = _; is = refl }, tt), (record { subtype = _; is = refl }, tt)), tt))), tt)
