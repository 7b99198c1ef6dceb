-- Statements. -- L8, L9, L12, L13, L21, L22, L24, L25, Ada RM 5, 6.4, 6.5
use Rattle.std.specs.Prelude.{ℕ, Bool, true, false, not, Option, Some, None, List, [], ◌∷◌, ◌++◌, map, ◌&&◌, ◌||◌, if◌then◌else◌}
use Rattle.ada_values.specs.declared.place.Place.{Place}
use Rattle.ada_text.specs.declared.token.Span.{Span}
use Rattle.front_codes.specs.declared.codes.Code.TheVariants.{L8, L9, L13, L21, L22, L24, L25}
use Rattle.front_codes.specs.declared.codes.Refusal.{Refusal}
use Rattle.name_numbers.specs.declared.words.Word.{Word}
use Rattle.name_numbers.specs.declared.words.Word.TheVariants as word
use Rattle.typed_units.specs.declared.expressions.Expr.{Expr}
use Rattle.typed_units.specs.declared.expressions.Fitted.{Fitted}
use Rattle.typed_units.specs.declared.operators.Object.TheVariants as object
use Rattle.typed_units.specs.declared.statements.Action.{Action}
use Rattle.typed_units.specs.declared.statements.Action.TheVariants as action
use Rattle.typed_units.specs.declared.statements.Alternative.{Alternative}
use Rattle.typed_units.specs.declared.statements.Branch.{Branch}
use Rattle.typed_units.specs.declared.statements.Demand.{Demand}
use Rattle.typed_units.specs.declared.statements.Demand.TheVariants as demand
use Rattle.typed_units.specs.declared.statements.Head.{Head}
use Rattle.typed_units.specs.declared.statements.Head.TheVariants as head
use Rattle.typed_units.specs.declared.statements.Stmt.{Stmt, roll-Stmt}
use Rattle.type_base.specs.declared.seen.Moment.{Moment}
use Rattle.type_base.specs.declared.seen.Moment.TheVariants as moment
use Rattle.type_base.specs.declared.seen.Want.{Want}
use Rattle.type_base.specs.declared.seen.Want.TheVariants as want
use Rattle.type_base.specs.Scope.{Scope}
use Rattle.type_base.specs.Standard.{boolean}
use Rattle.syntax_view.specs.Trees as tree
use Rattle.typing_rules.specs.declared.prefix.Between.{Between}
use Rattle.typing_rules.specs.declared.prefix.Found.{Found}
use Rattle.typing_rules.specs.declared.prefix.Found.TheVariants.{Refused, Unknown, Is}
use Rattle.typing_rules.specs.declared.prefix.Part.{Part}
use Rattle.typing_rules.specs.Fits.{both, fit, with_found}
use Rattle.typing_rules.specs.Lookups.{with_parameter}
use Rattle.typing_rules.specs.declared.prefix.Call.{Call}
use Rattle.typing_rules.specs.Reading.{call_seen, faults, seen, target_seen}
use Rattle.statement_typing.specs.declared.parts.Selected.{Selected}
use Rattle.statement_typing.specs.Asked.{fault_of_name, name_faults, name_prefix, place_of, range_faults, range_seen}
use Rattle.statement_typing.specs.Checks.{added, all_of, and_also, broken, fault_in, refuse, unless}
use Rattle.statement_typing.specs.Subtypes.{heard, part, part_faults}
use Rattle.statement_typing.specs.Aspects.{condition}
use Rattle.statement_typing.specs.Pragmas.{checked, checked_faults, ways, ways_faults}
use Rattle.statement_typing.specs.Choices.{choices_faults, cover, cover_faults, has_others, others_last, selector, selector_want, spreads_in}

-- the innermost loop: its number, and that of its parameter
pub record Loop : Type 0 where
  pub number : ℕ
  pub parameter : Option ℕ

-- what a subprogram returns
pub data Returns : Type 0 where
  nothing : Returns
  a_value : Found ℕ → Returns

-- where statements stand
pub record Around : Type 0 where
  pub scope : Scope
  pub word : ℕ → Option Word
  pub returns : Returns
  pub loop : Option Loop

-- pragmas of a loop's body may name what an object was on entry to it
abbrev pub moment_in : Option Loop → Moment
moment_in None = moment.Elsewhere
moment_in (Some l) = moment.InLoop l.number l.parameter

abbrev pub in_pragma : Around → Scope
in_pragma a = record (a.scope) { moment = moment_in a.loop }

-- ---- conditions -- L9

abbrev pub tested : Scope → tree.Expr → Found Expr
tested c e = part c (want.Type boolean) e (condition c.world L9 (place_of c e))

abbrev pub tested_faults : Scope → tree.Expr → List Refusal
tested_faults c e = part_faults c (want.Type boolean) e (condition c.world L9 (place_of c e))

-- ---- assignments -- L8

abbrev pub value_for : Scope → Found Part → tree.Expr → Found (Fitted Expr)
value_for c (Is g) e = part c (want.Subtype g.subtype) e (fit c.world L8 true g.subtype (place_of c e))
value_for c Unknown e = and_also Unknown (heard (seen c want.Unknown e))
value_for c (Refused f) e = and_also Unknown (heard (seen c want.Unknown e))

abbrev pub value_for_faults : Scope → Found Part → tree.Expr → List Refusal
value_for_faults c (Is g) e = part_faults c (want.Subtype g.subtype) e (fit c.world L8 true g.subtype (place_of c e))
value_for_faults c Unknown e = faults c want.Unknown e
value_for_faults c (Refused f) e = faults c want.Unknown e

abbrev pub assignment : Scope → tree.Name → tree.Expr → Found (Action Stmt)
assignment c n e = both (λ g f. action.Assign g.target f) (target_seen c n) (value_for c (target_seen c n) e)

abbrev pub assignment_faults : Scope → tree.Name → tree.Expr → List Refusal
assignment_faults c n e = name_faults c n ++ fault_of_name (name_prefix c n) (target_seen c n) ++ value_for_faults c (target_seen c n) e

-- ---- procedure calls -- L10, L12

abbrev pub call_action : Call → Action Stmt
call_action k = action.Call k.routine k.arguments

abbrev pub invocation : Scope → tree.Name → Found (Action Stmt)
invocation c n = with_found call_action (call_seen c n)

abbrev pub invocation_faults : Scope → tree.Name → List Refusal
invocation_faults c n = name_faults c n ++ fault_of_name (name_prefix c n) (call_seen c n)

-- ---- return -- L13

abbrev pub returned : Scope → Found ℕ → tree.Expr → Found (Fitted Expr)
returned c (Is k) e = part c (want.Subtype k) e (fit c.world L13 false k (place_of c e))
returned c Unknown e = and_also Unknown (heard (seen c want.Unknown e))
returned c (Refused f) e = and_also Unknown (heard (seen c want.Unknown e))

abbrev pub returned_faults : Scope → Found ℕ → tree.Expr → List Refusal
returned_faults c (Is k) e = part_faults c (want.Subtype k) e (fit c.world L13 false k (place_of c e))
returned_faults c Unknown e = faults c want.Unknown e
returned_faults c (Refused f) e = faults c want.Unknown e

abbrev pub return_of : Around → Place → Returns → Option tree.Expr → Found (Action Stmt)
return_of a p nothing None = Is action.Return
return_of a p nothing (Some e) = and_also (refuse L13 (place_of a.scope e)) (heard (seen a.scope want.Free e))
return_of a p (a_value k) None = refuse L13 p
return_of a p (a_value k) (Some e) = with_found action.Give (returned a.scope k e)

abbrev pub return_faults : Around → Place → Returns → Option tree.Expr → List Refusal
return_faults a p nothing None = []
return_faults a p nothing (Some e) = broken L13 (place_of a.scope e) ++ faults a.scope want.Free e
return_faults a p (a_value k) None = broken L13 p
return_faults a p (a_value k) (Some e) = returned_faults a.scope k e

-- ---- exit -- L24, L9

abbrev pub in_loop : Option Loop → Place → Found Bool
in_loop None p = refuse L24 p
in_loop (Some l) p = Is true

abbrev pub exit_of : Around → Place → Option tree.Expr → Found (Action Stmt)
exit_of a p None = with_found (λ b. action.Exit) (in_loop a.loop p)
exit_of a p (Some e) = both (λ b x. action.ExitWhen x) (in_loop a.loop p) (tested a.scope e)

abbrev pub exit_faults : Around → Place → Option tree.Expr → List Refusal
exit_faults a p None = fault_in (in_loop a.loop p)
exit_faults a p (Some e) = fault_in (in_loop a.loop p) ++ tested_faults a.scope e

-- ---- pragmas; one of a loop's group that stands elsewhere is refused -- L9, L25

abbrev pub pragma_by : Around → Place → Option Word → tree.Args → Found (Action Stmt)
pragma_by a p (Some word.Assert) as' = with_found action.Assert (checked a.word (in_pragma a) p as')
pragma_by a p (Some word.Assume) as' = with_found action.Assume (checked a.word (in_pragma a) p as')
pragma_by a p (Some word.LoopInvariant) as' = and_also (refuse L25 p) (checked a.word (in_pragma a) p as')
pragma_by a p (Some word.LoopVariant) as' = and_also (refuse L25 p) (ways a.word (in_pragma a) p as')
pragma_by a p _ as' = Is action.Null

abbrev pub pragma_faults : Around → Place → Option Word → tree.Args → List Refusal
pragma_faults a p (Some word.Assert) as' = checked_faults a.word (in_pragma a) p as'
pragma_faults a p (Some word.Assume) as' = checked_faults a.word (in_pragma a) p as'
pragma_faults a p (Some word.LoopInvariant) as' = broken L25 p ++ checked_faults a.word (in_pragma a) p as'
pragma_faults a p (Some word.LoopVariant) as' = broken L25 p ++ ways_faults a.word (in_pragma a) p as'
pragma_faults a p _ as' = []

-- ---- loops -- L22, L9

-- what is before its body: the head, the scope of the body, and the parameter's number
pub record Entry : Type 0 where
  pub head : Found Head
  pub scope : Scope
  pub parameter : Option ℕ

abbrev pub with_turn : Scope → Span → Found Between → Scope
with_turn c s (Is r) = with_parameter c s.from r.subtype (object.Turn (c.number s.from))
with_turn c s Unknown = c
with_turn c s (Refused f) = c

abbrev pub entry : Scope → tree.LoopHead → Entry
entry c tree.forever = record { head = Is head.Forever; scope = c; parameter = None }
entry c (tree.while e) = record { head = with_found head.While (tested c e); scope = c; parameter = None }
entry c (tree.for s b r) = record {
  head = with_found (λ x. head.For b (record { number = c.number s.from; subtype = x.subtype }) x.low x.high) (range_seen c L22 want.Free r);
  scope = with_turn c s (range_seen c L22 want.Free r);
  parameter = Some (c.number s.from);
}

abbrev pub head_faults : Scope → tree.LoopHead → List Refusal
head_faults c tree.forever = []
head_faults c (tree.while e) = tested_faults c e
head_faults c (tree.for s b r) = range_faults c L22 want.Free r

-- the statements of a loop: those before its group, the group, and those after it
pub record Body : Type 0 where
  pub before : List Stmt
  pub group : List Demand
  pub after : List Stmt

abbrev pub empty : Body
empty = record { before = []; group = []; after = [] }

-- how far the statements are: before the group; in it, and whether it has a variant; after it
pub data Stage : Type 0 where
  before_group : Stage
  in_group : Bool → Stage
  after_group : Stage

-- what a pragma of the group demands
pub data Sort : Type 0 where
  invariant : tree.Args → Sort
  variant : tree.Args → Sort
  another : Sort

abbrev pub sort_of_pragma : Option Word → tree.Args → Sort
sort_of_pragma (Some word.LoopInvariant) as' = invariant as'
sort_of_pragma (Some word.LoopVariant) as' = variant as'
sort_of_pragma _ as' = another

abbrev pub sort_of : Around → tree.Stmt → Sort
sort_of a (tree.statement s (tree.pragma_stmt q)) = sort_of_pragma (a.word q.name.from) q.args
sort_of a (tree.statement s x) = another

abbrev pub stmt_place : Around → tree.Stmt → Place
stmt_place a (tree.statement s x) = a.scope.place s.from

abbrev pub demand_of : Around → Place → Sort → Found Demand
demand_of a p (invariant as') = with_found demand.Invariant (checked a.word (in_pragma a) p as')
demand_of a p (variant as') = with_found demand.Variant (ways a.word (in_pragma a) p as')
demand_of a p another = Unknown

abbrev pub demand_faults : Around → Place → Sort → List Refusal
demand_faults a p (invariant as') = checked_faults a.word (in_pragma a) p as'
demand_faults a p (variant as') = ways_faults a.word (in_pragma a) p as'
demand_faults a p another = []

abbrev pub is_demand : Sort → Bool
is_demand (invariant as') = true
is_demand (variant as') = true
is_demand another = false

abbrev pub is_variant : Sort → Bool
is_variant (invariant as') = false
is_variant (variant as') = true
is_variant another = false

-- whether a pragma may stand there: in the one group, which has one variant at most
abbrev pub may_stand : Stage → Sort → Bool
may_stand before_group x = true
may_stand (in_group b) x = not (b && is_variant x)
may_stand after_group x = false

abbrev pub has_variant : Stage → Sort → Bool
has_variant before_group x = is_variant x
has_variant (in_group b) x = b || is_variant x
has_variant after_group x = false

abbrev pub stage_after : Stage → Sort → Stage
stage_after after_group x = after_group
stage_after before_group x = if is_demand x then in_group (is_variant x) else before_group
stage_after (in_group b) x = if is_demand x then in_group (b || is_variant x) else after_group

abbrev pub add_demand : Body → Demand → Body
add_demand y x = record y { group = y.group ++ (x ∷ []) }

abbrev pub add_before : Body → Stmt → Body
add_before y x = record y { before = y.before ++ (x ∷ []) }

abbrev pub add_after : Body → Stmt → Body
add_after y x = record y { after = y.after ++ (x ∷ []) }

abbrev pub with_demand : Found Body → Found Demand → Found Body
with_demand b d = both add_demand b d

abbrev pub with_stmt : Stage → Found Body → Found Stmt → Found Body
with_stmt before_group b s = both add_before b s
with_stmt (in_group v) b s = both add_after b s
with_stmt after_group b s = both add_after b s

-- the body of a loop that begins at p
abbrev pub inside : Around → Place → ℕ → Entry → Around
inside a p n e = record a { scope = e.scope; loop = Some (record { number = n; parameter = e.parameter }) }

abbrev pub loop_of : ℕ → Found Head → Found Body → Found (Action Stmt)
loop_of n h b = both (λ x y. action.Loop (record { number = n; head = x; before = y.before; group = y.group; after = y.after })) h b

-- ---- how a function's statements end -- L13

abbrev mutual
  -- whether an exit of the loop whose statements these are stands in them
  pub has_exit : tree.Stmts → Bool
  has_exit tree.no_stmts = false
  has_exit (tree.stmts s ss) = exits s || has_exit ss

  pub exits : tree.Stmt → Bool
  exits (tree.statement s x) = exits_by x

  pub exits_by : tree.Action → Bool
  exits_by (tree.exit e) = true
  exits_by (tree.branches bs ss) = branches_exit bs || has_exit ss
  exits_by (tree.case_of e as') = alternatives_exit as'
  exits_by _ = false

  pub branches_exit : tree.Branches → Bool
  branches_exit tree.no_branches = false
  branches_exit (tree.branch e ss bs) = has_exit ss || branches_exit bs

  pub alternatives_exit : tree.Alternatives → Bool
  alternatives_exit tree.no_alternatives = false
  alternatives_exit (tree.alternative ks ss as') = has_exit ss || alternatives_exit as'

abbrev mutual
  pub ends : tree.Stmts → Bool
  ends tree.no_stmts = false
  ends (tree.stmts s tree.no_stmts) = returns s
  ends (tree.stmts s ss) = ends ss

  pub returns : tree.Stmt → Bool
  returns (tree.statement s x) = returns_by x

  pub returns_by : tree.Action → Bool
  returns_by (tree.return e) = true
  returns_by (tree.branches bs ss) = branches_end bs && ends ss
  returns_by (tree.case_of e as') = alternatives_end as'
  returns_by (tree.loop tree.forever ss) = not (has_exit ss)
  returns_by _ = false

  pub branches_end : tree.Branches → Bool
  branches_end tree.no_branches = true
  branches_end (tree.branch e ss bs) = ends ss && branches_end bs

  pub alternatives_end : tree.Alternatives → Bool
  alternatives_end tree.no_alternatives = true
  alternatives_end (tree.alternative ks ss as') = ends ss && alternatives_end as'

abbrev pub last_place : Scope → Place → tree.Stmts → Place
last_place c p tree.no_stmts = p
last_place c p (tree.stmts (tree.statement s x) ss) = last_place c (c.place s.from) ss

-- p is the place of the subprogram's name, for a list without statements
abbrev pub ended : Scope → Place → Returns → tree.Stmts → Found Bool
ended c p nothing ss = Is true
ended c p (a_value k) ss = unless (ends ss) L13 (last_place c p ss) true

-- ---- statements

abbrev pub stmt_at : Place → Found (Action Stmt) → Found Stmt
stmt_at p x = with_found (λ y. roll-Stmt (record { place = p; action = y })) x

abbrev pub case_at : Place → Found Selected → Found Bool → Found Bool → Found (List (Alternative Stmt)) → Found (Action Stmt)
case_at p s o c as' = both (λ x ys. action.Case x.value ys) (and_also (and_also s o) c) as'

abbrev pub alternative_of : Scope → Want → List tree.Choice → Found (List Stmt) → Found (Alternative Stmt)
alternative_of c w ks ss = both (λ xs ys. record { choices = map (λ x. x.choice) xs; others = has_others ks; body = ys }) (all_of (spreads_in c w ks)) ss

abbrev mutual
  pub stmt : Around → tree.Stmt → Found Stmt
  stmt a (tree.statement s x) = stmt_at (a.scope.place s.from) (action_at a (a.scope.place s.from) s x)

  -- an action that begins at p, with the span of its statement
  pub action_at : Around → Place → Span → tree.Action → Found (Action Stmt)
  action_at a p s tree.skip = Is action.Null
  action_at a p s (tree.call n) = invocation a.scope n
  action_at a p s (tree.assign n e) = assignment a.scope n e
  action_at a p s (tree.branches bs ss) = both action.If (branches_onto a (Is []) bs) (stmts_onto a (Is []) ss)
  action_at a p s (tree.case_of e as') =
      case_at p (part a.scope want.Free e (selector a.scope e)) (unless (others_last as') L21 p true) (cover a.scope p (part a.scope want.Free e (selector a.scope e)) as')
      (alternatives_onto a (selector_want (part a.scope want.Free e (selector a.scope e))) (Is []) as')
  action_at a p s (tree.loop h ss) =
      loop_of (a.scope.number s.from) (entry a.scope h).head (body_onto (inside a p (a.scope.number s.from) (entry a.scope h)) before_group (Is empty) ss)
  action_at a p s (tree.exit e) = exit_of a p e
  action_at a p s (tree.return e) = return_of a p a.returns e
  action_at a p s (tree.pragma_stmt q) = pragma_by a p (a.word q.name.from) q.args

  -- the statements of a list, after those done already
  pub stmts_onto : Around → Found (List Stmt) → tree.Stmts → Found (List Stmt)
  stmts_onto a done tree.no_stmts = done
  stmts_onto a done (tree.stmts s ss) = stmts_onto a (added done (stmt a s)) ss

  pub branches_onto : Around → Found (List (Branch Stmt)) → tree.Branches → Found (List (Branch Stmt))
  branches_onto a done tree.no_branches = done
  branches_onto a done (tree.branch e ss bs) =
      branches_onto a (added done (both (λ x ys. record { condition = x; body = ys }) (tested a.scope e) (stmts_onto a (Is []) ss))) bs

  pub alternatives_onto : Around → Want → Found (List (Alternative Stmt)) → tree.Alternatives → Found (List (Alternative Stmt))
  alternatives_onto a w done tree.no_alternatives = done
  alternatives_onto a w done (tree.alternative ks ss as') =
      alternatives_onto a w (added done (alternative_of a.scope w ks (stmts_onto a (Is []) ss))) as'

  pub body_onto : Around → Stage → Found Body → tree.Stmts → Found Body
  body_onto a t done tree.no_stmts = done
  body_onto a t done (tree.stmts s ss) =
      if is_demand (sort_of a s) && may_stand t (sort_of a s)
      then body_onto a (stage_after t (sort_of a s)) (with_demand done (demand_of a (stmt_place a s) (sort_of a s))) ss
      else body_onto a (stage_after t (sort_of a s)) (with_stmt t done (stmt a s)) ss

abbrev pub stmts : Around → tree.Stmts → Found (List Stmt)
stmts a ss = stmts_onto a (Is []) ss

abbrev mutual
  pub stmt_faults : Around → tree.Stmt → List Refusal
  stmt_faults a (tree.statement s x) = action_faults a (a.scope.place s.from) s x

  pub action_faults : Around → Place → Span → tree.Action → List Refusal
  action_faults a p s tree.skip = []
  action_faults a p s (tree.call n) = invocation_faults a.scope n
  action_faults a p s (tree.assign n e) = assignment_faults a.scope n e
  action_faults a p s (tree.branches bs ss) = branches_faults a bs ++ stmts_faults a ss
  action_faults a p s (tree.case_of e as') =
      part_faults a.scope want.Free e (selector a.scope e)
      ++ fault_in (unless (others_last as') L21 p true)
      ++ choices_faults a.scope (selector_want (part a.scope want.Free e (selector a.scope e))) as'
      ++ cover_faults a.scope p (part a.scope want.Free e (selector a.scope e)) as'
      ++ alternatives_faults a as'
  action_faults a p s (tree.loop h ss) = head_faults a.scope h ++ body_faults (inside a p (a.scope.number s.from) (entry a.scope h)) before_group ss
  action_faults a p s (tree.exit e) = exit_faults a p e
  action_faults a p s (tree.return e) = return_faults a p a.returns e
  action_faults a p s (tree.pragma_stmt q) = pragma_faults a p (a.word q.name.from) q.args

  pub stmts_faults : Around → tree.Stmts → List Refusal
  stmts_faults a tree.no_stmts = []
  stmts_faults a (tree.stmts s ss) = stmt_faults a s ++ stmts_faults a ss

  pub branches_faults : Around → tree.Branches → List Refusal
  branches_faults a tree.no_branches = []
  branches_faults a (tree.branch e ss bs) = tested_faults a.scope e ++ stmts_faults a ss ++ branches_faults a bs

  pub alternatives_faults : Around → tree.Alternatives → List Refusal
  alternatives_faults a tree.no_alternatives = []
  alternatives_faults a (tree.alternative ks ss as') = stmts_faults a ss ++ alternatives_faults a as'

  pub body_faults : Around → Stage → tree.Stmts → List Refusal
  body_faults a t tree.no_stmts = []
  body_faults a t (tree.stmts s ss) =
      (if is_demand (sort_of a s) && may_stand t (sort_of a s) then demand_faults a (stmt_place a s) (sort_of a s) else stmt_faults a s)
      ++ body_faults a (stage_after t (sort_of a s)) ss
