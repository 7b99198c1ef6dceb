-- Sample programs with calls and contracts.
use Rattle.std.specs.Prelude.{ℕ, true, [], ◌∷◌, Some, None, pos}
use Rattle.typed_units.specs.Syntax.{Var, param, local, global, answer, entry, present, Fit, Ex, read, call, no_actuals, actual, Actual, pass_in, pass_out, pass_in_out, to_item, st, skip, Routine, Text}
use Rattle.ada_semantics.specs.Cases.{ex, place, to, num, name, plus, minus, times, equal, greater, whole_of, part_of, set_to, call_of, claim, give_back, if_so, natural, by_in, by_out, by_in_out, procedure_of, function_of, with_pre, with_post, program, one}

-- an actual of mode `in`, `out` and `in out`, for the parameter k
abbrev pub passing : ℕ → Fit → Ex → Actual
passing k fit e = pass_in k fit e

abbrev pub getting : ℕ → ℕ → ℕ → Var → Fit → Actual
getting k l c x fit = pass_out k (whole_of l c x) fit

abbrev pub lending : ℕ → ℕ → ℕ → Var → Fit → Fit → Actual
lending k l c x inward back = pass_in_out k (whole_of l c x) inward back

-- a call of the function q with one argument
abbrev pub result_at : ℕ → ℕ → ℕ → Fit → Ex → Ex
result_at l c q fit e = ex (place l c) (call (place l c) q (actual (passing 0 fit e) no_actuals))

--  1  package body Lower is
--  2     procedure Low (N : in out Integer) is
--  3     begin
--  4        N := N - 1;
--  5     end Low;
--  6     procedure Go (V : in out Natural) is
--  7     begin
--  8        Low (V);
--  9     end Go;
-- 10  end Lower;
abbrev pub lower : Text
lower = program
    (procedure_of (by_in_out ∷ []) (set_to 4 7 (param 0) None (minus 4 14 (name 4 12 (param 0)) (num 4 16 1)) ∷ [])
    ∷ procedure_of (by_in_out ∷ []) (call_of 8 7 0 (lending 0 8 12 (param 0) None natural ∷ []) ∷ []) ∷ [])

--  1  package body Natural_Lower is
--  2     procedure Low (N : in out Natural) is
--  3     begin
--  4        N := N - 1;
--  5     end Low;
--  6     procedure Go (V : in out Integer) is
--  7     begin
--  8        Low (V);
--  9     end Go;
-- 10     procedure Show (N : in Natural) is
-- 11     begin
-- 12        null;
-- 13     end Show;
-- 14     procedure See (V : in Integer) is
-- 15     begin
-- 16        Show (V + 1);
-- 17     end See;
-- 18  end Natural_Lower;
abbrev pub natural_lower : Text
natural_lower = program
    (procedure_of (by_in_out ∷ []) (set_to 4 7 (param 0) natural (minus 4 14 (name 4 12 (param 0)) (num 4 16 1)) ∷ [])
    ∷ procedure_of (by_in_out ∷ []) (call_of 8 7 0 (lending 0 8 12 (param 0) natural None ∷ []) ∷ [])
    ∷ procedure_of (by_in ∷ []) (st (place 12 7) skip ∷ [])
    ∷ procedure_of (by_in ∷ []) (call_of 16 7 2 (passing 0 natural (plus 16 15 (name 16 13 (param 0)) (num 16 17 1)) ∷ []) ∷ []) ∷ [])

--  2     procedure Bump (X : out Integer) with Post => X > 0;   -- in the package's specification
--  1  package body Weak is
--  2     procedure Bump (X : out Integer) is
--  3     begin
--  4        X := 7;   -- or another number
--  5     end Bump;
--  6     procedure Caller is
--  7        V : Integer;
--  8     begin
--  9        Bump (V);
-- 10        pragma Assert (V = 7);
-- 11     end Caller;
-- 12  end Weak;
abbrev pub weak : ℕ → Text
weak x = program
    (with_post (greater (name 2 50 (param 0)) (num 2 54 0)) (procedure_of (by_out ∷ []) (set_to 4 7 (param 0) None (num 4 12 x) ∷ []))
    ∷ procedure_of [] (call_of 9 7 0 (getting 0 9 13 (local 0) None ∷ []) ∷ claim 10 7 (equal (name 10 22 (local 0)) (num 10 26 7)) ∷ []) ∷ [])

--  1  procedure Inc (X : in out Integer; D : in Integer) with Post => X = X'Old + 1 is
--  2  begin
--  3     X := X + D;
--  4  end Inc;
abbrev pub inc_by : Text
inc_by = one (with_post (equal (name 1 65 (param 0)) (plus 1 75 (ex (place 1 69) (read (place 1 69) entry (param 0))) (num 1 77 1)))
    (procedure_of (by_in_out ∷ by_in ∷ []) (set_to 3 4 (param 0) None (plus 3 11 (name 3 9 (param 0)) (name 3 13 (param 1))) ∷ [])))

--  1  function More (X, D : Integer) return Integer with Post => More'Result > X is
--  2  begin
--  3     return X + D;
--  4  end More;
abbrev pub more : Text
more = one (with_post (greater (ex (place 1 60) (read (place 1 60) present answer)) (name 1 74 (param 0)))
    (function_of (by_in ∷ by_in ∷ []) (give_back 3 4 None (plus 3 13 (name 3 11 (param 0)) (name 3 15 (param 1))) ∷ [])))

--  1  procedure Low (X : in Integer) with Pre => X + 1 > 0 is
--  2  begin
--  3     null;
--  4  end Low;
abbrev pub low : Text
low = one (with_pre (greater (plus 1 46 (name 1 44 (param 0)) (num 1 48 1)) (num 1 52 0)) (procedure_of (by_in ∷ []) (st (place 3 4) skip ∷ [])))

--  1  package body Guarded is
--  2     function Twice (X : Integer) return Integer is
--  3     begin
--  4        return 2 * X;
--  5     end Twice;
--  6     procedure Need (X : in Integer) with Pre => Twice (X) > 2 is
--  7     begin
--  8        null;
--  9     end Need;
-- 10     procedure Go (V : in Integer) is
-- 11     begin
-- 12        Need (V);
-- 13     end Go;
-- 14     function Half (X : Integer) return Integer with Pre => X > 0 is
-- 15     begin
-- 16        return X;
-- 17     end Half;
-- 18     procedure Ask (V : in Integer; R : out Integer) is
-- 19     begin
-- 20        R := 1 + Half (V);
-- 21     end Ask;
-- 22  end Guarded;
abbrev pub guarded : Text
guarded = program
    (function_of (by_in ∷ []) (give_back 4 7 None (times 4 16 (num 4 14 2) (name 4 18 (param 0))) ∷ [])
    ∷ with_pre (greater (result_at 6 48 0 None (name 6 55 (param 0))) (num 6 60 2)) (procedure_of (by_in ∷ []) (st (place 8 7) skip ∷ []))
    ∷ procedure_of (by_in ∷ []) (call_of 12 7 1 (passing 0 None (name 12 13 (param 0)) ∷ []) ∷ [])
    ∷ with_pre (greater (name 14 59 (param 0)) (num 14 63 0)) (function_of (by_in ∷ []) (give_back 16 7 None (name 16 14 (param 0)) ∷ []))
    ∷ procedure_of (by_in ∷ by_out ∷ []) (set_to 20 7 (param 1) None (plus 20 14 (num 20 12 1) (result_at 20 16 3 None (name 20 22 (param 0)))) ∷ []) ∷ [])

--  1  function Sum (N : Natural) return Natural is
--  2  begin
--  3     if N = 0 then
--  4        return 0;
--  5     end if;
--  6     return Sum (N - 1) + N;
--  7  end Sum;
abbrev pub sum : Text
sum = one (function_of (by_in ∷ [])
    (if_so 3 4 (equal (name 3 7 (param 0)) (num 3 11 0)) (give_back 4 7 None (num 4 14 0) ∷ []) []
    ∷ give_back 6 4 natural (plus 6 23 (result_at 6 11 0 natural (minus 6 18 (name 6 16 (param 0)) (num 6 20 1))) (name 6 25 (param 0))) ∷ []))

--  1  function F (X : Integer) return Integer is
--  2  begin
--  3     return F (X);
--  4  end F;
abbrev pub endless : Text
endless = one (function_of (by_in ∷ []) (give_back 3 4 None (result_at 3 11 0 None (name 3 14 (param 0))) ∷ []))

--  1  function Down (X : Integer) return Natural is
--  2  begin
--  3     return X - 1;
--  4  end Down;
abbrev pub down : Text
down = one (function_of (by_in ∷ []) (give_back 3 4 natural (minus 3 13 (name 3 11 (param 0)) (num 3 15 1)) ∷ []))

--  1  package body Count is   -- G : Integer in the package's specification
--  2     procedure Tick is
--  3     begin
--  4        G := G + 1;
--  5     end Tick;
--  6     procedure Both (R : out Integer) is
--  7     begin
--  8        Tick;
--  9        R := G;
-- 10        Tick;
-- 11     end Both;
-- 12  end Count;
abbrev pub count : Text
count = record {
  shapes = [];
  kinds = [];
  globals = 0 ∷ [];
  routines =
      procedure_of [] (set_to 4 7 (global 0) None (plus 4 14 (name 4 12 (global 0)) (num 4 16 1)) ∷ [])
      ∷ procedure_of (by_out ∷ []) (call_of 8 7 0 [] ∷ set_to 9 7 (param 0) None (name 9 12 (global 0)) ∷ call_of 10 7 0 [] ∷ []) ∷ [];
}

--  1  package body Order is
--  2     procedure Pair (A, B : in Natural; X, Y : out Integer) is
--  3     begin
--  4        X := A - 5;
--  5        Y := B - 5;
--  6     end Pair;
--  7     procedure Go (V, W : in Integer; P, Q : out Natural) is
--  8     begin
--  9        Pair (V, B => W, Y => Q, X => P);   -- or `Pair (V, W, P, Q);`
-- 10     end Go;
-- 11  end Order;
abbrev pub pair : Routine
pair = procedure_of (by_in ∷ by_in ∷ by_out ∷ by_out ∷ [])
    (set_to 4 7 (param 2) None (minus 4 14 (name 4 12 (param 0)) (num 4 16 5))
    ∷ set_to 5 7 (param 3) None (minus 5 14 (name 5 12 (param 1)) (num 5 16 5)) ∷ [])

abbrev pub named : Text
named = program (pair ∷ procedure_of (by_in ∷ by_in ∷ by_out ∷ by_out ∷ []) (call_of 9 7 0
    (passing 0 natural (name 9 13 (param 0)) ∷ passing 1 natural (name 9 21 (param 1))
    ∷ getting 3 9 29 (param 3) natural ∷ getting 2 9 37 (param 2) natural ∷ []) ∷ []) ∷ [])

abbrev pub positional : Text
positional = program (pair ∷ procedure_of (by_in ∷ by_in ∷ by_out ∷ by_out ∷ []) (call_of 9 7 0
    (passing 0 natural (name 9 13 (param 0)) ∷ passing 1 natural (name 9 16 (param 1))
    ∷ getting 2 9 19 (param 2) natural ∷ getting 3 9 22 (param 3) natural ∷ []) ∷ []) ∷ [])

--  1  package body Moved is   -- I : Integer in the package's specification
--  2     procedure Set (X : out Integer) is
--  3     begin
--  4        X := 7;
--  5        I := 3;
--  6     end Set;
--  7     procedure Go (A : in out Row) is   -- type Row is array (1 .. 3) of Integer
--  8     begin
--  9        Set (A (I));
-- 10     end Go;
-- 11  end Moved;
abbrev pub moved_index : Text
moved_index = record {
  shapes = [];
  kinds = [];
  globals = 0 ∷ [];
  routines =
      procedure_of (by_out ∷ []) (set_to 4 7 (param 0) None (num 4 12 7) ∷ set_to 5 7 (global 0) None (num 5 12 3) ∷ [])
      ∷ procedure_of (by_in_out ∷ []) (call_of 9 7 0
      (pass_out 0 (part_of 9 12 (param 0) (to_item (Some (to (pos 1) (pos 3))) true (name 9 15 (global 0)) ∷ [])) None ∷ []) ∷ []) ∷ [];
}
