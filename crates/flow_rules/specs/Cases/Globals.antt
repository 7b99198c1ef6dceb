-- Sample subprograms for the effects, F3 and F6.
use Rattle.std.specs.Prelude.{ℕ, [], ◌∷◌, List, None}
use Rattle.typed_units.specs.declared.programs.GlobalItem.{GlobalItem}
use Rattle.typed_units.specs.Syntax.{param, local, global, entry, read, op1, first, Routine, St}
use Rattle.ada_semantics.specs.Cases.{by_out, call_of, claim, ex, function_of, give_back, greater, name, num, place, plus, procedure_of, put_in, set_to, with_opening, with_post, with_pre}
use Rattle.ada_semantics.specs.Cases.Parts.{of_row, item_of}
use Rattle.flow_rules.specs.Headed.{Headed}
use Rattle.flow_rules.specs.declared.faults.Effects.{Effects}
use Rattle.flow_rules.specs.Cases.{effects, getting, head, head_with, lending, name_as, passing, result_of, row_type, text, with_headings}

-- the globals of the samples: N, M, both Integer, and A, a Row
abbrev pub n : ℕ
n = 0

abbrev pub m : ℕ
m = 1

abbrev pub a : ℕ
a = 2

-- a procedure with one statement in its third line
abbrev pub with_statement : St → Routine
with_statement s = procedure_of [] (s ∷ [])

-- `M := N;`
abbrev pub copies : Routine
copies = with_statement (set_to 3 4 (global m) None (name 3 9 (global n)))

-- `Get (N);`, where its parameter has the mode `out`, and `Step (N);`, where it is `in out`
abbrev pub gets : Routine
gets = with_statement (call_of 3 4 1 (getting 0 3 9 (global n) ∷ []))

abbrev pub steps : Routine
steps = with_statement (call_of 3 4 1 (lending 0 3 10 (global n) ∷ []))

-- `A (N) := 1;`
abbrev pub puts_item : Routine
puts_item = with_statement (put_in 3 4 (global a) (of_row (name 3 7 (global n)) ∷ []) None (num 3 13 1))

-- `pragma Assert (A (1) > 0);`
abbrev pub sees_item : Routine
sees_item = with_statement (claim 3 4 (greater (item_of (name 3 19 (global a)) (num 3 22 1)) (num 3 27 0)))

-- `pragma Assert (A'First > 0);`, and the same of a call, `F (N)'First`
abbrev pub sees_bounds : Routine
sees_bounds = with_statement (claim 3 4 (greater (ex (place 3 19) (op1 first (name_as row_type 3 19 (global a)))) (num 3 29 0)))

abbrev pub sees_bounds_of_call : Routine
sees_bounds_of_call = with_statement (claim 3 4 (greater (ex (place 3 19) (op1 first (result_of 3 19 1 (passing 0 (name 3 22 (global n)) ∷ [])))) (num 3 33 0)))

-- `Pre => N > 0, Post => M'Old > 0`, and a local `X : Integer := N;`
abbrev pub in_contracts : Routine
in_contracts = with_pre (greater (name 1 30 (global n)) (num 1 34 0))
    (with_post (greater (ex (place 1 45) (read (place 1 45) entry (global m))) (num 1 53 0)) (procedure_of [] []))

abbrev pub in_declarations : Routine
in_declarations = with_opening (set_to 2 4 (local 0) None (name 2 19 (global n)) ∷ []) (procedure_of [] [])

--  1  package body Chain is   -- N, M : Integer in the package's specification
--  2     procedure Set is
--  3     begin
--  4        N := 1;
--  5     end Set;
--  6     function Seen return Integer is
--  7     begin
--  8        return M;
--  9     end Seen;
-- 10     procedure Go with Pre => Seen > 0 is
-- 11     begin
-- 12        Set;
-- 13     end Go;
-- 14  end Chain;
abbrev pub chain : List Routine
chain =
    procedure_of [] (set_to 4 7 (global n) None (num 4 12 1) ∷ [])
    ∷ function_of [] (give_back 8 7 None (name 8 14 (global m)) ∷ [])
    ∷ with_pre (greater (result_of 10 29 1 []) (num 10 36 0)) (procedure_of [] (call_of 12 7 0 [] ∷ []))
    ∷ []

-- ---- F3

--  1  package body G is   -- N : Integer in the package's specification
--  2     function F return Integer is
--  3        L : Integer := 0;
--  4     begin
--  5        N := 1;   -- or another statement
--  6        return L;
--  7     end F;
--  8     procedure Set (X : out Integer) is
--  9     begin
-- 10        X := 1;
-- 11     end Set;
-- 12     procedure Hide is
-- 13     begin
-- 14        N := 1;
-- 15     end Hide;
-- 16  end G;
abbrev pub writing : St → Headed
writing s = with_headings (head 2 13 ∷ head 8 14 ∷ head 12 14 ∷ []) (text (0 ∷ [])
    (with_opening (set_to 3 7 (local 0) None (num 3 22 0) ∷ []) (function_of [] (s ∷ give_back 6 7 None (name 6 14 (local 0)) ∷ []))
    ∷ procedure_of (by_out ∷ []) (set_to 10 7 (param 0) None (num 10 12 1) ∷ [])
    ∷ procedure_of [] (set_to 14 7 (global 0) None (num 14 12 1) ∷ [])
    ∷ []))

-- with the globals that F writes
abbrev pub writing_effects : List ℕ → Effects
writing_effects written = effects ([] ∷ [] ∷ [] ∷ []) (written ∷ [] ∷ (0 ∷ []) ∷ [])

abbrev pub assigns_global : St
assigns_global = set_to 5 7 (global 0) None (num 5 12 1)

abbrev pub assigns_local : St
assigns_local = set_to 5 7 (local 0) None (num 5 12 1)

abbrev pub passes_global : St
passes_global = call_of 5 7 1 (getting 0 5 12 (global 0) ∷ [])

abbrev pub passes_local : St
passes_local = call_of 5 7 1 (getting 0 5 12 (local 0) ∷ [])

abbrev pub calls_a_writer : St
calls_a_writer = call_of 5 7 2 []

-- ---- F6

--  1  package body Copy_Out is   -- N, M, A in the package's specification
--  2     procedure Go with Global => .. is
--  3     begin
--  4        M := N;
--  5     end Go;
--  6  end Copy_Out;
abbrev pub stating : List GlobalItem → Headed
stating items = with_headings (head_with 2 14 2 22 items ∷ []) (text (0 ∷ 0 ∷ row_type ∷ [])
    (procedure_of [] (set_to 4 7 (global m) None (name 4 12 (global n)) ∷ []) ∷ []))

abbrev pub stating_effects : Effects
stating_effects = effects ((n ∷ []) ∷ []) ((m ∷ []) ∷ [])

-- the same where line 4 is `M := M + N;`
abbrev pub adding : List GlobalItem → Headed
adding items = with_headings (head_with 2 14 2 22 items ∷ []) (text (0 ∷ 0 ∷ row_type ∷ [])
    (procedure_of [] (set_to 4 7 (global m) None (plus 4 14 (name 4 12 (global m)) (name 4 16 (global n))) ∷ []) ∷ []))

abbrev pub adding_effects : Effects
adding_effects = effects ((n ∷ m ∷ []) ∷ []) ((m ∷ []) ∷ [])
