-- Which typed statements are well typed, a line a rule. -- Ada RM 5, 6.4, 6.5, 11.4.2; SPARK RM 5.5.3
use Rattle.std.specs.Prelude.{◌≡◌, ℕ, suc, Bool, true, false, ◌++◌, List, [], ◌∷◌, length, map, slice_get, Option, Some, None}
use Rattle.ada_values.specs.declared.place.Place.{Place}
use Rattle.choice_cover.specs.Cover.{AtMostOnce, EachOnce}
use Rattle.typed_units.specs.declared.expressions.Argument.{Argument}
use Rattle.typed_units.specs.declared.expressions.Expr.{Expr}
use Rattle.typed_units.specs.declared.expressions.Fitted.{Fitted}
use Rattle.typed_units.specs.declared.expressions.Target.{Target}
use Rattle.typed_units.specs.declared.operators.Bounds.{Bounds}
use Rattle.typed_units.specs.declared.operators.Counted.{Counted}
use Rattle.typed_units.specs.declared.operators.Object.TheVariants as object
use Rattle.typed_units.specs.declared.programs.Local.{Local}
use Rattle.typed_units.specs.declared.programs.Sub.{Sub}
use Rattle.typed_units.specs.declared.statements.Action.{Action}
use Rattle.typed_units.specs.declared.statements.Action.TheVariants as action
use Rattle.typed_units.specs.declared.statements.Alternative.{Alternative}
use Rattle.typed_units.specs.declared.statements.Branch.{Branch}
use Rattle.typed_units.specs.declared.statements.Choice.{Choice}
use Rattle.typed_units.specs.declared.statements.Choice.TheVariants as choice
use Rattle.typed_units.specs.declared.statements.Demand.{Demand}
use Rattle.typed_units.specs.declared.statements.Demand.TheVariants as demand
use Rattle.typed_units.specs.declared.statements.Direction.{Direction}
use Rattle.typed_units.specs.declared.statements.Head.{Head}
use Rattle.typed_units.specs.declared.statements.Head.TheVariants as head
use Rattle.typed_units.specs.declared.statements.Stmt.{Stmt, roll-Stmt}
use Rattle.typed_units.specs.declared.statements.Way.{Way}
use Rattle.program_typing.specs.Expressions.{Arguments, Bounded, FitsFor, Frame, HasSubtype, HasTarget, in_loop}
use Rattle.program_typing.specs.Standard.{boolean}
use Rattle.program_typing.specs.Subtypes.{Has, bounds_of, is_integer, is_ordered}

-- the innermost loop around: its number, and that of its parameter where it is a `for` loop
pub record Loop : Type 0 where
  pub number : ℕ
  pub parameter : Option ℕ

-- what a pragma may name: in a loop's body also what objects were on entry to it -- SPARK RM 5.5.3.1
abbrev pub in_pragma : Option Loop → Frame → Frame
in_pragma None f = f
in_pragma (Some l) f = record f { moment = in_loop l.number l.parameter }

abbrev pub with_turn : Counted → Frame → Frame
with_turn x f = record f { turns = x ∷ f.turns }

-- ---- loops

-- the head of a loop, the parameter that it has, and the frame of its body -- L9, L22
pub data Heads (f : Frame) : Head → Option ℕ → Frame → Type 0 where
  forever : Heads f head.Forever None f
  while : (x : Expr) → HasSubtype f x boolean → Heads f (head.While x) None f
  for : (reversed : Bool) (x : Counted) (l h : Expr) (i j : ℕ) → Has is_ordered f.program x.subtype → HasSubtype f l i → HasSubtype f h j
      → Bounded f.program x.subtype i → Bounded f.program x.subtype j → Heads f (head.For reversed x l h) (Some x.number) (with_turn x f)

-- the expressions of a loop variant are integers -- L25
pub data Ways (f : Frame) : List Way → Type 0 where
  no_ways : Ways f []
  one_way : (d : Direction) (x : Expr) (k : ℕ) (ws : List Way) → HasSubtype f x k → Has is_integer f.program k → Ways f ws → Ways f (record { direction = d; value = x } ∷ ws)

-- a loop's group, and whether it has a variant, of which there is one at most -- L9, L25
pub data Group (f : Frame) : Bool → List Demand → Type 0 where
  no_demands : (has : Bool) → Group f has []
  an_invariant : (has : Bool) (x : Expr) (ds : List Demand) → HasSubtype f x boolean → Group f has ds → Group f has (demand.Invariant x ∷ ds)
  the_variant : (ws : List Way) (ds : List Demand) → Ways f ws → Group f false ds → Group f true (demand.Variant ws ∷ ds)

-- ---- `case`

abbrev pub values_of : Choice → Bounds
values_of (choice.Value n) = record { first = n; last = n }
values_of (choice.Range b) = b

abbrev pub all_values : List (Alternative Stmt) → List Bounds
all_values [] = []
all_values (a ∷ as') = map values_of a.choices ++ all_values as'

-- `others` stands alone in the last alternative; whether there is one -- L21
pub data OthersLast : List (Alternative Stmt) → Bool → Type 0 where
  no_others : OthersLast [] false
  the_others : (ss : List Stmt) → OthersLast (record { choices = []; others = true; body = ss } ∷ []) true
  by_choices : (cs : List Choice) (ss : List Stmt) (as' : List (Alternative Stmt)) (others : Bool) → OthersLast as' others → OthersLast (record { choices = cs; others = false; body = ss } ∷ as') others

-- the choices have each value once, or `others` has the rest
pub data Chooses (b : Bounds) (ranges : List Bounds) : Bool → Type 0 where
  each_value : (others : Bool) → EachOnce b.first b.last ranges → Chooses b ranges others
  or_others : AtMostOnce b.first b.last ranges → Chooses b ranges true

-- the choices cover the values of the selector's subtype j, or those of its type -- L21, Ada RM 5.4
pub record Selects (f : Frame) (j : ℕ) (as' : List (Alternative Stmt)) : Type 0 where
  pub covered : ℕ
  pub subtype : Bounded f.program covered j
  pub bounds : Bounds
  pub of : bounds_of f.program covered ≡ Some bounds
  pub others : Bool
  pub last : OthersLast as' others
  pub chosen : Chooses bounds (all_values as') others

-- ---- the rules

mutual
  pub data Does : Frame → Option Loop → Stmt → Type 0 where
    does : (f : Frame) (l : Option Loop) (p : Place) (x : Action Stmt) → Acts f l x → Does f l (roll-Stmt (record { place = p; action = x }))

  pub data Acts : Frame → Option Loop → Action Stmt → Type 0 where
    skips : (f : Frame) (l : Option Loop) → Acts f l action.Null
    -- L8
    assigns : (f : Frame) (l : Option Loop) (t : Target Expr) (k : ℕ) (v : Fitted Expr) → HasTarget f t k → FitsFor f true k v → Acts f l (action.Assign t v)
    -- L10, L11, L12
    calls : (f : Frame) (l : Option Loop) (q : ℕ) (s : Sub) (xs : List (Argument Expr)) → slice_get f.program.subs q ≡ Some s → s.result ≡ None → Arguments f s.params [] xs → Acts f l (action.Call q xs)
    -- L9
    branches : (f : Frame) (l : Option Loop) (bs : List (Branch Stmt)) (ss : List Stmt) → Branches f l bs → AllDo f l ss → Acts f l (action.If bs ss)
    -- L21
    selects : (f : Frame) (l : Option Loop) (x : Expr) (j : ℕ) (as' : List (Alternative Stmt)) → HasSubtype f x j → Has is_ordered f.program j → Selects f j as' → Alternatives f l as' → Acts f l (action.Case x as')
    -- L22, L25; pragmas of the group stand in this loop
    loops : (f g : Frame) (l : Option Loop) (n : ℕ) (h : Head) (parameter : Option ℕ) (before after : List Stmt) (has_variant : Bool) (ds : List Demand) → Heads f h parameter g
        → AllDo g (Some (record { number = n; parameter = parameter })) before → Group (in_pragma (Some (record { number = n; parameter = parameter })) g) has_variant ds
        → AllDo g (Some (record { number = n; parameter = parameter })) after → Acts f l (action.Loop (record { number = n; head = h; before = before; group = ds; after = after }))
    -- L24, L9
    exits : (f : Frame) (l : Loop) → Acts f (Some l) action.Exit
    exits_when : (f : Frame) (l : Loop) (x : Expr) → HasSubtype f x boolean → Acts f (Some l) (action.ExitWhen x)
    -- L13
    returns : (f : Frame) (l : Option Loop) → f.result ≡ None → Acts f l action.Return
    gives : (f : Frame) (l : Option Loop) (k : ℕ) (v : Fitted Expr) → f.result ≡ Some k → FitsFor f false k v → Acts f l (action.Give v)
    -- L9
    asserts : (f : Frame) (l : Option Loop) (x : Expr) → HasSubtype (in_pragma l f) x boolean → Acts f l (action.Assert x)
    assumes : (f : Frame) (l : Option Loop) (x : Expr) → HasSubtype (in_pragma l f) x boolean → Acts f l (action.Assume x)

  pub data AllDo : Frame → Option Loop → List Stmt → Type 0 where
    no_more : (f : Frame) (l : Option Loop) → AllDo f l []
    one_more : (f : Frame) (l : Option Loop) (s : Stmt) (ss : List Stmt) → Does f l s → AllDo f l ss → AllDo f l (s ∷ ss)

  pub data Branches : Frame → Option Loop → List (Branch Stmt) → Type 0 where
    no_branches : (f : Frame) (l : Option Loop) → Branches f l []
    one_branch : (f : Frame) (l : Option Loop) (x : Expr) (ss : List Stmt) (bs : List (Branch Stmt)) → HasSubtype f x boolean → AllDo f l ss → Branches f l bs → Branches f l (record { condition = x; body = ss } ∷ bs)

  pub data Alternatives : Frame → Option Loop → List (Alternative Stmt) → Type 0 where
    no_alternatives : (f : Frame) (l : Option Loop) → Alternatives f l []
    one_alternative : (f : Frame) (l : Option Loop) (cs : List Choice) (others : Bool) (ss : List Stmt) (as' : List (Alternative Stmt)) → AllDo f l ss → Alternatives f l as'
        → Alternatives f l (record { choices = cs; others = others; body = ss } ∷ as')

-- ---- the declarative part -- L8, L9, L27

-- a pragma of a declarative part
pub data IsPragma : Action Stmt → Type 0 where
  passed_over : IsPragma action.Null
  assertion : (x : Expr) → IsPragma (action.Assert x)
  assumption : (x : Expr) → IsPragma (action.Assume x)

-- the initial value of local n is an assignment to it as a whole
abbrev pub initial : Place → ℕ → Fitted Expr → Stmt
initial p n v = roll-Stmt (record { place = p; action = action.Assign (record { place = p; object = object.Local n; path = [] }) v })

-- the initial values of the locals from n on, in their order, and pragmas; a constant has a value
pub data Opens (f : Frame) : ℕ → List Stmt → Type 0 where
  opened : Opens f (length f.locals) []
  without_value : (n : ℕ) (x : Local) (ss : List Stmt) → slice_get f.locals n ≡ Some x → x.constant ≡ false → Opens f (suc n) ss → Opens f n ss
  with_value : (n : ℕ) (x : Local) (p : Place) (v : Fitted Expr) (ss : List Stmt) → slice_get f.locals n ≡ Some x → FitsFor f true x.subtype v → Opens f (suc n) ss → Opens f n (initial p n v ∷ ss)
  with_pragma : (n : ℕ) (p : Place) (x : Action Stmt) (ss : List Stmt) → IsPragma x → Acts f None x → Opens f n ss → Opens f n (roll-Stmt (record { place = p; action = x }) ∷ ss)
