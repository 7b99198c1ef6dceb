-- Which typed statement a statement is by the rules of the language, a line a rule. -- Ada RM 5, 6.4, 6.5, 11.4.2; SPARK RM 5.5.3
use Rattle.std.specs.Prelude.{◌≡◌, ◌&&◌, ℕ, Bool, true, false, ◌++◌, List, [], ◌∷◌, map, Option, Some, None}
use Rattle.ada_text.specs.declared.token.Span.{Span}
use Rattle.ada_values.specs.declared.place.Place.{Place}
use Rattle.front_codes.specs.declared.codes.Code.TheVariants as code
use Rattle.name_numbers.specs.declared.words.Word.{Word}
use Rattle.name_numbers.specs.declared.words.Word.TheVariants as word
use Rattle.syntax_view.specs.Trees as tree
use Rattle.typed_units.specs.declared.expressions.Argument.{Argument}
use Rattle.typed_units.specs.declared.expressions.Expr.{Expr}
use Rattle.typed_units.specs.declared.expressions.Fitted.{Fitted}
use Rattle.typed_units.specs.declared.operators.Object.TheVariants as object
use Rattle.typed_units.specs.declared.statements.Action.{Action}
use Rattle.typed_units.specs.declared.statements.Action.TheVariants as action
use Rattle.typed_units.specs.declared.statements.Alternative.{Alternative}
use Rattle.typed_units.specs.declared.statements.Branch.{Branch}
use Rattle.typed_units.specs.declared.statements.Demand.{Demand}
use Rattle.typed_units.specs.declared.statements.Demand.TheVariants as demand
use Rattle.typed_units.specs.declared.statements.Head.{Head}
use Rattle.typed_units.specs.declared.statements.Head.TheVariants as head
use Rattle.typed_units.specs.declared.statements.Stmt.{Stmt, roll-Stmt}
use Rattle.typed_units.specs.declared.statements.Way.{Way}
use Rattle.type_base.specs.Scope.{Scope}
use Rattle.type_base.specs.declared.seen.Want.TheVariants as want
use Rattle.typing_rules.specs.declared.prefix.Between.{Between}
use Rattle.typing_rules.specs.declared.prefix.Found.TheVariants.{Is}
use Rattle.typing_rules.specs.declared.prefix.Part.{Part}
use Rattle.typing_rules.specs.Lookups.{with_parameter}
use Rattle.statement_typing.specs.declared.parts.Selected.{Selected}
use Rattle.statement_typing.specs.declared.parts.Spread.{Spread}
use Rattle.statement_typing.specs.Choices.{any_others, has_others, others_last}
use Rattle.statement_typing.specs.Statements.{Around, Body, Loop, Stage, add_after, add_before, add_demand, a_value, after_group, before_group, empty, entry, in_group, in_pragma, is_demand, may_stand, nothing, sort_of, stage_after}
use Rattle.typing_relations.specs.Obeys.{Condition}
use Rattle.statement_relations.specs.Asks.{AllChoose, Calls, Checks, Covers, IsFor, Ranges, Selects, Targets, Ways}

-- a pragma that is neither of these has no meaning for types
abbrev pub IsOther : Option Word → Type 0
IsOther (Some word.Assert) = ⊥
IsOther (Some word.Assume) = ⊥
IsOther (Some word.LoopInvariant) = ⊥
IsOther (Some word.LoopVariant) = ⊥
IsOther _ = Unit {0}

-- the head of a loop, and the scope of its body -- L9, L22
pub data Heads (c : Scope) : tree.LoopHead → Head → Scope → Type 0 where
  forever : Heads c tree.forever head.Forever c
  while : (e : tree.Expr) (x : Expr) → Condition c e x → Heads c (tree.while e) (head.While x) c
  -- the parameter has the range's subtype
  for : (s : Span) (b : Bool) (g : tree.Range) (r : Between) → Ranges c code.L22 want.Free g r
      → Heads c (tree.for s b g) (head.For b (record { number = c.number s.from; subtype = r.subtype }) r.low r.high) (with_parameter c s.from r.subtype (object.Turn (c.number s.from)))

-- a pragma of a loop's group -- L9, L25
pub data Demands (a : Around) : tree.Stmt → Demand → Type 0 where
  invariant : (s : Span) (q : tree.Pragma) (x : Expr) → a.word q.name.from ≡ Some word.LoopInvariant → Checks a.word (in_pragma a) q.args x
      → Demands a (tree.statement s (tree.pragma_stmt q)) (demand.Invariant x)
  variant : (s : Span) (q : tree.Pragma) (xs : List Way) → a.word q.name.from ≡ Some word.LoopVariant → Ways a.word (in_pragma a) [] q.args xs
      → Demands a (tree.statement s (tree.pragma_stmt q)) (demand.Variant xs)

mutual
  pub data Does : Around → tree.Stmt → Stmt → Type 0 where
    does : (a : Around) (s : Span) (x : tree.Action) (y : Action Stmt) → Acts a (a.scope.place s.from) s x y → Does a (tree.statement s x) (roll-Stmt (record { place = a.scope.place s.from; action = y }))

  -- an action that begins at a place, with the span of its statement
  pub data Acts : Around → Place → Span → tree.Action → Action Stmt → Type 0 where
    skips : (a : Around) (p : Place) (s : Span) → Acts a p s tree.skip action.Null
    -- L10, L11, L12
    calls : (a : Around) (p : Place) (s : Span) (n : tree.Name) (q : ℕ) (xs : List (Argument Expr)) → Calls a.scope n q xs → Acts a p s (tree.call n) (action.Call q xs)
    -- L8
    assigns : (a : Around) (p : Place) (s : Span) (n : tree.Name) (e : tree.Expr) (g : Part) (x : Fitted Expr) → Targets a.scope n g → IsFor a.scope true g.subtype e x
        → Acts a p s (tree.assign n e) (action.Assign g.target x)
    -- L9
    branches : (a : Around) (p : Place) (s : Span) (bs : tree.Branches) (ss : tree.Stmts) (xs : List (Branch Stmt)) (ys : List Stmt) → Branches a [] bs xs → AllDo a [] ss ys
        → Acts a p s (tree.branches bs ss) (action.If xs ys)
    -- L21
    selects : (a : Around) (p : Place) (s : Span) (e : tree.Expr) (as' : tree.Alternatives) (x : Selected) (ys : List (Alternative Stmt)) → Selects a.scope e x → others_last as' ≡ true
        → Covers a.scope x (any_others as') as' → Alternatives a x.of [] as' ys → Acts a p s (tree.case_of e as') (action.Case x.value ys)
    -- L22, L25
    loops : (a : Around) (p : Place) (s : Span) (h : tree.LoopHead) (ss : tree.Stmts) (x : Head) (c : Scope) (y : Body) → Heads a.scope h x c
        → Repeats (record a { scope = c; loop = Some (record { number = a.scope.number s.from; parameter = (entry a.scope h).parameter }) }) before_group empty ss y
        → Acts a p s (tree.loop h ss) (action.Loop (record { number = a.scope.number s.from; head = x; before = y.before; group = y.group; after = y.after }))
    -- L24
    exits : (a : Around) (p : Place) (s : Span) (l : Loop) → a.loop ≡ Some l → Acts a p s (tree.exit None) action.Exit
    -- L9, L24
    exits_when : (a : Around) (p : Place) (s : Span) (l : Loop) (e : tree.Expr) (x : Expr) → a.loop ≡ Some l → Condition a.scope e x → Acts a p s (tree.exit (Some e)) (action.ExitWhen x)
    -- L13
    returns : (a : Around) (p : Place) (s : Span) → a.returns ≡ nothing → Acts a p s (tree.return None) action.Return
    gives : (a : Around) (p : Place) (s : Span) (k : ℕ) (e : tree.Expr) (x : Fitted Expr) → a.returns ≡ a_value (Is k) → IsFor a.scope false k e x → Acts a p s (tree.return (Some e)) (action.Give x)
    -- L9
    asserts : (a : Around) (p : Place) (s : Span) (q : tree.Pragma) (x : Expr) → a.word q.name.from ≡ Some word.Assert → Checks a.word (in_pragma a) q.args x
        → Acts a p s (tree.pragma_stmt q) (action.Assert x)
    assumes : (a : Around) (p : Place) (s : Span) (q : tree.Pragma) (x : Expr) → a.word q.name.from ≡ Some word.Assume → Checks a.word (in_pragma a) q.args x
        → Acts a p s (tree.pragma_stmt q) (action.Assume x)
    -- L25: no pragma of a loop's group
    passes_over : (a : Around) (p : Place) (s : Span) (q : tree.Pragma) → IsOther (a.word q.name.from) → Acts a p s (tree.pragma_stmt q) action.Null

  -- statements, after those done
  pub data AllDo : Around → List Stmt → tree.Stmts → List Stmt → Type 0 where
    no_more : (a : Around) (xs : List Stmt) → AllDo a xs tree.no_stmts xs
    one_more : (a : Around) (xs ys : List Stmt) (s : tree.Stmt) (ss : tree.Stmts) (x : Stmt) → Does a s x → AllDo a (xs ++ (x ∷ [])) ss ys → AllDo a xs (tree.stmts s ss) ys

  -- conditions with their statements, after those done -- L9
  pub data Branches : Around → List (Branch Stmt) → tree.Branches → List (Branch Stmt) → Type 0 where
    no_branches : (a : Around) (xs : List (Branch Stmt)) → Branches a xs tree.no_branches xs
    one_branch : (a : Around) (xs ys : List (Branch Stmt)) (e : tree.Expr) (ss : tree.Stmts) (bs : tree.Branches) (x : Expr) (zs : List Stmt) → Condition a.scope e x → AllDo a [] ss zs
        → Branches a (xs ++ (record { condition = x; body = zs } ∷ [])) bs ys → Branches a xs (tree.branch e ss bs) ys

  -- alternatives for a selector of type t, after those done
  pub data Alternatives : Around → ℕ → List (Alternative Stmt) → tree.Alternatives → List (Alternative Stmt) → Type 0 where
    no_alternatives : (a : Around) (t : ℕ) (xs : List (Alternative Stmt)) → Alternatives a t xs tree.no_alternatives xs
    one_alternative : (a : Around) (t : ℕ) (xs ys : List (Alternative Stmt)) (ks : List tree.Choice) (ss : tree.Stmts) (as' : tree.Alternatives) (zs : List Spread) (us : List Stmt)
        → AllChoose a.scope t [] ks zs → AllDo a [] ss us
        → Alternatives a t (xs ++ (record { choices = map (λ z. z.choice) zs; others = has_others ks; body = us } ∷ [])) as' ys → Alternatives a t xs (tree.alternative ks ss as') ys

  -- the statements of a loop, after those done: its invariants and its variant are neighbours, with one variant at most -- L25
  pub data Repeats : Around → Stage → Body → tree.Stmts → Body → Type 0 where
    ended : (a : Around) (t : Stage) (y : Body) → Repeats a t y tree.no_stmts y
    demands : (a : Around) (t : Stage) (y z : Body) (s : tree.Stmt) (ss : tree.Stmts) (x : Demand) → (is_demand (sort_of a s) && may_stand t (sort_of a s)) ≡ true → Demands a s x
        → Repeats a (stage_after t (sort_of a s)) (add_demand y x) ss z → Repeats a t y (tree.stmts s ss) z
    before : (a : Around) (y z : Body) (s : tree.Stmt) (ss : tree.Stmts) (x : Stmt) → (is_demand (sort_of a s) && may_stand before_group (sort_of a s)) ≡ false → Does a s x
        → Repeats a (stage_after before_group (sort_of a s)) (add_before y x) ss z → Repeats a before_group y (tree.stmts s ss) z
    right_after : (a : Around) (b : Bool) (y z : Body) (s : tree.Stmt) (ss : tree.Stmts) (x : Stmt) → (is_demand (sort_of a s) && may_stand (in_group b) (sort_of a s)) ≡ false → Does a s x
        → Repeats a (stage_after (in_group b) (sort_of a s)) (add_after y x) ss z → Repeats a (in_group b) y (tree.stmts s ss) z
    later : (a : Around) (y z : Body) (s : tree.Stmt) (ss : tree.Stmts) (x : Stmt) → (is_demand (sort_of a s) && may_stand after_group (sort_of a s)) ≡ false → Does a s x
        → Repeats a (stage_after after_group (sort_of a s)) (add_after y x) ss z → Repeats a after_group y (tree.stmts s ss) z
