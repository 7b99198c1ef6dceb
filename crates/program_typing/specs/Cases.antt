-- Worked programs: one that is well typed, and some that aren't.
use Rattle.std.specs.Prelude.{ℕ, pos, true, List, [], ◌∷◌, map, Option, Some, None, codes}
use Rattle.ada_values.specs.declared.place.Place.{Place}
use Rattle.ada_values.specs.declared.scalars.Op.TheVariants as op
use Rattle.ada_values.specs.declared.values.Value.{roll-Value}
use Rattle.ada_values.specs.declared.values.Value.TheOpen.{Value-F}
use Rattle.ada_values.specs.declared.values.Value.TheVariants as value
use Rattle.typed_units.specs.declared.expressions.Expr.{Expr, roll-Expr}
use Rattle.typed_units.specs.declared.expressions.ExprNode.{ExprNode}
use Rattle.typed_units.specs.declared.expressions.ExprNode.TheVariants as node
use Rattle.typed_units.specs.declared.operators.Bounds.{Bounds}
use Rattle.typed_units.specs.declared.operators.Object.{Object}
use Rattle.typed_units.specs.declared.operators.Object.TheVariants as object
use Rattle.typed_units.specs.declared.programs.Mode.TheVariants as mode
use Rattle.typed_units.specs.declared.programs.Program.{Program}
use Rattle.typed_units.specs.declared.programs.Sub.{Sub}
use Rattle.typed_units.specs.declared.programs.Type as types
use Rattle.typed_units.specs.declared.statements.Action.TheVariants as action
use Rattle.typed_units.specs.declared.statements.Stmt.{Stmt, roll-Stmt}
use Rattle.program_typing.specs.Standard.{standard_kinds, standard_shapes}

abbrev pub place : ℕ → ℕ → Place
place l c = record { file = 0; line = l; column = c }

abbrev pub expr : ℕ → ℕ → ℕ → ExprNode Expr → Expr
expr l c k x = roll-Expr (record { place = place l c; subtype = k; node = x })

-- the subtypes of Standard, whose names don't matter
abbrev pub standard_types : List types.Type
standard_types = map (λ k. record { name = None; of = k.of; class = k.class }) standard_kinds

-- a procedure with a parameter X, `in out`, of Natural, and one statement; Natural is number 3
abbrev pub procedure : List Stmt → Sub
procedure body = record {
  name = codes "P";
  place = place 1 11;
  params = record { name = codes "X"; mode = mode.InOut; subtype = 3 } ∷ [];
  result = None;
  pre = None;
  post = None;
  global = None;
  locals = [];
  turns = 0;
  indexes = 0;
  loops = 0;
  opening = [];
  body = body;
}

abbrev pub program : List Stmt → Program
program body = record { shapes = standard_shapes; types = standard_types; globals = []; subs = procedure body ∷ [] }

abbrev pub assign : Object → Option Bounds → Expr → Stmt
assign x fit e = roll-Stmt (record { place = place 3 4; action = action.Assign (record { place = place 3 4; object = x; path = [] }) (record { bounds = fit; value = e }) })

abbrev pub x_read : Expr
x_read = expr 3 9 3 (node.Read (place 3 9) (object.Param 0))

-- X + 1, of Integer's type, number 1
abbrev pub x_plus_one : Expr
x_plus_one = expr 3 9 1 (node.Binary (place 3 11) op.Add x_read (expr 3 13 1 (node.Static (roll-Value (Value-F.Int (pos 1))))))

abbrev pub of_natural : Option Bounds
of_natural = Some (record { first = pos 0; last = pos 2147483647 })

--  1  procedure P (X : in out Natural) is
--  2  begin
--  3     X := X + 1;
--  4  end P;
abbrev pub increment : Program
increment = program (assign (object.Param 0) of_natural x_plus_one ∷ [])

-- the same without the range check of Natural
abbrev pub unchecked : Program
unchecked = program (assign (object.Param 0) None x_plus_one ∷ [])

-- X := True
abbrev pub truth_assigned : Program
truth_assigned = program (assign (object.Param 0) None (expr 3 9 0 (node.Static (value.Bool true))) ∷ [])

-- a target that is no parameter
abbrev pub no_such_object : Program
no_such_object = program (assign (object.Param 1) of_natural x_plus_one ∷ [])
