-- Sample programs that pin what a run starts with, and a program of two files.
use Rattle.std.specs.Prelude.{ℕ, List, [], ◌∷◌, Some, None, pos, negsuc, codes}
use Rattle.ada_values.specs.declared.place.Place.{Place}
use Rattle.ada_values.specs.declared.scalars.Scalar.{Scalar}
use Rattle.ada_values.specs.declared.shapes.Shape.{Shape}
use Rattle.ada_values.specs.declared.shapes.Shape.TheVariants as shape
use Rattle.typed_units.specs.declared.checks.CheckKind.{CheckKind}
use Rattle.typed_units.specs.declared.checks.SiteKey.{SiteKey}
use Rattle.typed_units.specs.declared.operators.Relation.TheVariants as relation
use Rattle.typed_units.specs.declared.programs.Class.TheVariants as class
use Rattle.typed_units.specs.declared.programs.Mode.{Mode}
use Rattle.typed_units.specs.declared.programs.Mode.TheVariants as mode
use Rattle.typed_units.specs.declared.expressions.Expr.{Expr, roll-Expr}
use Rattle.typed_units.specs.declared.expressions.ExprNode.{ExprNode}
use Rattle.typed_units.specs.declared.expressions.ExprNode.TheVariants as node
use Rattle.typed_units.specs.declared.operators.Object.TheVariants as object
use Rattle.typed_units.specs.declared.programs.Program.{Program}
use Rattle.typed_units.specs.declared.statements.Action.TheVariants as action
use Rattle.typed_units.specs.declared.statements.Stmt.{Stmt, roll-Stmt}
use Rattle.typed_units.specs.Syntax.{param, local, present, Ex, at, static, read, op2, binary, compare, Formal, Kind, Routine, Text, target, here, st, assign, invoke, pass_in, pass_out, actual, no_actuals, assert}
use Rattle.ada_values.specs.Scalars.{integer}
use Rattle.ada_values.specs.Value.{number}
use Rattle.ada_values.specs.declared.scalars.Op.TheVariants as op
use Rattle.ada_values.specs.declared.values.Value.{roll-Value}
use Rattle.ada_values.specs.declared.values.Value.TheOpen.{Value-F}
use Rattle.ada_semantics.specs.Cases.{procedure_of, with_post}

-- `type Small is range -5 .. 10;`
abbrev pub small : Scalar
small = record { lo = negsuc 4; hi = pos 10; base_lo = negsuc 127; base_hi = pos 127; modulus = None }

-- the base range of Small; Small; Boolean; `type Pair is array (1 .. 2) of Small;` `type Some_Smalls is array (Small range <>)
-- of Boolean;` and a record of a Small and a Boolean
abbrev pub shapes_of : List Shape
shapes_of =
    shape.Number (record small { lo = negsuc 127; hi = pos 127 })
    ∷ shape.Number small
    ∷ shape.Truth
    ∷ shape.Array (record { index = small; bounds = Some (pos 1, pos 2); item = 1 })
    ∷ shape.Array (record { index = small; bounds = None; item = 2 })
    ∷ shape.Record (1 ∷ 2 ∷ []) ∷ []

abbrev pub kinds_of : List Kind
kinds_of =
    record { of = 0; class = class.Signed }
    ∷ record { of = 0; class = class.Signed }
    ∷ record { of = 2; class = class.Boolean }
    ∷ record { of = 3; class = class.Array 1 }
    ∷ record { of = 4; class = class.Array 1 }
    ∷ record { of = 5; class = class.Record } ∷ []

abbrev pub formal_of : Mode → ℕ → Formal
formal_of m k = record { mode = m; subtype = k }

abbrev pub in_one : ℕ → List Formal
in_one k = formal_of mode.In k ∷ []

-- a procedure with these parameters that does nothing, in a program with these globals
abbrev pub idle : List Formal → Routine
idle ps = procedure_of ps []

abbrev pub with_globals_of : List ℕ → List Formal → Text
with_globals_of gs ps = record { shapes = shapes_of; kinds = kinds_of; globals = gs; routines = idle ps ∷ [] }

-- A place in the file of a number.
abbrev pub place_in : ℕ → ℕ → ℕ → Place
place_in f l c = record { file = f; line = l; column = c }

abbrev pub key_in : ℕ → ℕ → ℕ → CheckKind → SiteKey
key_in f l c k = record { place = place_in f l c; kind = k }

-- ---- a program of two files, the specification and the body of a package

--  1  package Two is
--  2     procedure Set (X : out Integer; V : in Integer) with Post => X > 0;
--  3     procedure Go (V : in Integer);
--  4  end Two;
abbrev pub post_of_set : Ex
post_of_set = at (place_in 0 2 65) 2 (op2 (compare relation.Greater)
    (at (place_in 0 2 65) 1 (read (place_in 0 2 65) present (param 0)))
    (at (place_in 0 2 69) 0 (static (number (pos 0)))))

--  1  package body Two is
--  2     procedure Set (X : out Integer; V : in Integer) is
--  3     begin
--  4        X := V;
--  5     end Set;
--  6     procedure Go (V : in Integer) is
--  7        L : Integer;
--  8     begin
--  9        Set (L, V);
-- 10        pragma Assert (L > 5);
-- 11     end Go;
-- 12  end Two;
abbrev pub two : Text
two = record {
  shapes = shape.Number integer ∷ shape.Number integer ∷ shape.Truth ∷ [];
  kinds = record { of = 0; class = class.Signed } ∷ record { of = 0; class = class.Signed } ∷ record { of = 2; class = class.Boolean } ∷ [];
  globals = [];
  routines =
      with_post post_of_set (procedure_of (formal_of mode.Out 1 ∷ formal_of mode.In 1 ∷ [])
      (st (place_in 1 4 7) (assign (target (place_in 1 4 7) (param 0) here) None (at (place_in 1 4 12) 1 (read (place_in 1 4 12) present (param 1)))) ∷ []))
      ∷ record (procedure_of (in_one 1)
      (st (place_in 1 9 7) (invoke 0
      (actual (pass_out 0 (target (place_in 1 9 12) (local 0) here) None)
      (actual (pass_in 1 None (at (place_in 1 9 15) 1 (read (place_in 1 9 15) present (param 0)))) no_actuals)))
      ∷ st (place_in 1 10 7) (assert (at (place_in 1 10 22) 2 (op2 (compare relation.Greater)
      (at (place_in 1 10 22) 1 (read (place_in 1 10 22) present (local 0)))
      (at (place_in 1 10 26) 0 (static (number (pos 5))))))) ∷ [])) { locals = 1 ∷ [] } ∷ [];
}

-- ---- a program in the types of the code, and the text that it is seen as

abbrev pub expr_at : Place → ℕ → ExprNode Expr → Expr
expr_at p k x = roll-Expr (record { place = p; subtype = k; node = x })

--  1  procedure Inc (X : in out Integer) is
--  2  begin
--  3     X := X + 1;
--  4  end Inc;
abbrev pub x_plus : Place
x_plus = place_in 0 3 9

abbrev pub plus_at : Place
plus_at = place_in 0 3 11

abbrev pub one_at : Place
one_at = place_in 0 3 13

abbrev pub assigned_at : Place
assigned_at = place_in 0 3 4

abbrev pub x_written : Expr
x_written = expr_at x_plus 1 (node.Read x_plus (object.Param 0))

abbrev pub one_written : Expr
one_written = expr_at one_at 0 (node.Static (roll-Value (Value-F.Int (pos 1))))

abbrev pub sum_written : Expr
sum_written = expr_at x_plus 0 (node.Binary plus_at op.Add x_written one_written)

abbrev pub integers_of : List Shape
integers_of = shape.Number integer ∷ shape.Number integer ∷ []

abbrev pub stmt_written : Stmt
stmt_written = roll-Stmt (record {
  place = assigned_at;
  action = action.Assign (record { place = assigned_at; object = object.Param 0; path = [] }) (record { bounds = None; value = sum_written });
})

abbrev pub inc_written : Program
inc_written = record {
  shapes = integers_of;
  types =
      record { name = None; of = 0; class = class.Signed }
      ∷ record { name = Some (codes "Integer"); of = 0; class = class.Signed } ∷ [];
  globals = [];
  subs = record {
    name = codes "Inc";
    place = place_in 0 1 11;
    params = record { name = codes "X"; mode = mode.InOut; subtype = 1 } ∷ [];
    result = None;
    pre = None;
    post = None;
    global = None;
    locals = [];
    turns = 0;
    indexes = 0;
    loops = 0;
    opening = [];
    body = stmt_written ∷ [];
  } ∷ [];
}

abbrev pub inc_routine : Routine
inc_routine = procedure_of (formal_of mode.InOut 1 ∷ []) (st assigned_at (assign (target assigned_at (param 0) here) None
    (at x_plus 0 (op2 (binary op.Add integer plus_at)
    (at x_plus 1 (read x_plus present (param 0)))
    (at one_at 0 (static (number (pos 1))))))) ∷ [])

abbrev pub inc_seen : Text
inc_seen = record {
  shapes = integers_of;
  kinds = record { of = 0; class = class.Signed } ∷ record { of = 0; class = class.Signed } ∷ [];
  globals = [];
  routines = inc_routine ∷ [];
}
