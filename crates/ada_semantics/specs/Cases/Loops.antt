-- Sample programs with loops.
use Rattle.std.specs.Prelude.{ℕ, Bool, false, [], ◌∷◌, None}
use Rattle.typed_units.specs.declared.operators.Relation.{Relation}
use Rattle.typed_units.specs.declared.operators.Relation.TheVariants as relation
use Rattle.typed_units.specs.declared.statements.Direction.{Direction}
use Rattle.typed_units.specs.declared.statements.Direction.TheVariants as direction
use Rattle.typed_units.specs.Syntax.{Var, param, local, turn, loop_entry, read, Way, st, skip, loop, forever, while, for, invariant, variant, done, exit, exit_when, Text}
use Rattle.ada_semantics.specs.Cases.{ex, place, num, flag, name, plus, minus, times, related, equal, less, greater, seq, set_to, claim, give_back, if_so, natural, by_in, by_out, by_in_out, procedure_of, function_of, with_opening, one}

--  1  procedure Climb (N : in Natural; S : out Natural) is
--  2     I : Natural := 0;
--  3  begin
--  4     S := 0;
--  5     while I < N loop
--  6        pragma Loop_Invariant (S = 0);
--  7        I := I + 1;
--  8        S := S + 1;
--  9     end loop;
-- 10  end Climb;
abbrev pub climb : Text
climb = one (with_opening (set_to 2 4 (local 0) None (num 2 19 0) ∷ []) (procedure_of (by_in ∷ by_out ∷ [])
    (set_to 4 4 (param 1) None (num 4 9 0)
    ∷ st (place 5 4) (loop 0 (while (less (name 5 10 (local 0)) (name 5 14 (param 0)))) done
    (invariant (equal (name 6 30 (param 1)) (num 6 34 0)) ∷ [])
    (seq (set_to 7 7 (local 0) natural (plus 7 14 (name 7 12 (local 0)) (num 7 16 1))
    ∷ set_to 8 7 (param 1) natural (plus 8 14 (name 8 12 (param 1)) (num 8 16 1)) ∷ [])))
    ∷ [])))

--  1  procedure Mid (A : in Natural; R : out Natural) is
--  2  begin
--  3     R := 0;
--  4     loop
--  5        exit when R = A;
--  6        R := R + 1;
--  7        pragma Loop_Invariant (R <= A);
--  8     end loop;
--  9  end Mid;
-- or with another relation in place of `<=`
abbrev pub mid : Relation → Text
mid r = one (procedure_of (by_in ∷ by_out ∷ [])
    (set_to 3 4 (param 1) None (num 3 9 0)
    ∷ st (place 4 4) (loop 0 forever
    (seq (st (place 5 7) (exit_when (equal (name 5 17 (param 1)) (name 5 21 (param 0))))
    ∷ set_to 6 7 (param 1) natural (plus 6 14 (name 6 12 (param 1)) (num 6 16 1)) ∷ []))
    (invariant (related r (name 7 30 (param 1)) (name 7 35 (param 0))) ∷ []) done)
    ∷ []))

--  1  procedure Never is
--  2  begin
--  3     for I in 5 .. 1 loop
--  4        pragma Assert (False);
--  5     end loop;
--  6  end Never;
abbrev pub never : Text
never = one (procedure_of [] (st (place 3 4) (loop 0 (for false 0 (num 3 13 5) (num 3 18 1)) done []
    (seq (claim 4 7 (flag 4 22 false) ∷ []))) ∷ []))

--  1  procedure Figure (S : out Integer) is
--  2  begin
--  3     S := 0;
--  4     for I in 1 .. 3 loop   -- or `for I in reverse 1 .. 3 loop`
--  5        S := 10 * S + I;
--  6     end loop;
--  7  end Figure;
abbrev pub digits : Bool → Text
digits reversed = one (procedure_of (by_out ∷ [])
    (set_to 3 4 (param 0) None (num 3 9 0)
    ∷ st (place 4 4) (loop 0 (for reversed 0 (num 4 13 1) (num 4 18 3)) done []
    (seq (set_to 5 7 (param 0) None (plus 5 19 (times 5 15 (num 5 12 10) (name 5 17 (param 0))) (name 5 21 (turn 0))) ∷ [])))
    ∷ []))

--  1  procedure Once (N : in out Integer; C : out Integer) is
--  2  begin
--  3     C := 0;
--  4     for I in 1 .. N loop
--  5        N := 0;
--  6        C := C + 1;
--  7     end loop;
--  8  end Once;
abbrev pub once : Text
once = one (procedure_of (by_in_out ∷ by_out ∷ [])
    (set_to 3 4 (param 1) None (num 3 9 0)
    ∷ st (place 4 4) (loop 0 (for false 0 (num 4 13 1) (name 4 18 (param 0))) done []
    (seq (set_to 5 7 (param 0) None (num 5 12 0) ∷ set_to 6 7 (param 1) None (plus 6 14 (name 6 12 (param 1)) (num 6 16 1)) ∷ [])))
    ∷ []))

--  1  function Root (N : Integer) return Integer is
--  2     I : Integer := 0;
--  3  begin
--  4     loop
--  5        exit when I * I >= N;
--  6        I := I + 1;
--  7     end loop;
--  8     return I;
--  9  end Root;
abbrev pub root : Text
root = one (with_opening (set_to 2 4 (local 0) None (num 2 19 0) ∷ []) (function_of (by_in ∷ [])
    (st (place 4 4) (loop 0 forever done []
    (seq (st (place 5 7) (exit_when (related relation.AtLeast (times 5 19 (name 5 17 (local 0)) (name 5 21 (local 0))) (name 5 26 (param 0))))
    ∷ set_to 6 7 (local 0) None (plus 6 14 (name 6 12 (local 0)) (num 6 16 1)) ∷ [])))
    ∷ give_back 8 4 None (name 8 11 (local 0)) ∷ [])))

--  1  function Above (N : Integer) return Integer is
--  2  begin
--  3     for I in 1 .. 10 loop
--  4        if I * I > N then
--  5           return I;
--  6        end if;
--  7     end loop;
--  8     return 0;
--  9  end Above;
abbrev pub above : Text
above = one (function_of (by_in ∷ [])
    (st (place 3 4) (loop 0 (for false 0 (num 3 13 1) (num 3 18 10)) done []
    (seq (if_so 4 7 (greater (times 4 12 (name 4 10 (turn 0)) (name 4 14 (turn 0))) (name 4 18 (param 0)))
    (give_back 5 10 None (name 5 17 (turn 0)) ∷ []) [] ∷ [])))
    ∷ give_back 8 4 None (num 8 11 0) ∷ []))

--  1  procedure Inner (C : out Integer) is
--  2  begin
--  3     C := 0;
--  4     for I in 1 .. 3 loop
--  5        for J in 1 .. 3 loop
--  6           if J = 2 then
--  7              exit;
--  8           end if;
--  9           C := C + 1;
-- 10       end loop;
-- 11    end loop;
-- 12  end Inner;
abbrev pub inner : Text
inner = one (procedure_of (by_out ∷ [])
    (set_to 3 4 (param 0) None (num 3 9 0)
    ∷ st (place 4 4) (loop 0 (for false 0 (num 4 13 1) (num 4 18 3)) done [] (seq
    (st (place 5 7) (loop 1 (for false 1 (num 5 16 1) (num 5 21 3)) done [] (seq
    (if_so 6 10 (equal (name 6 13 (turn 1)) (num 6 17 2)) (st (place 7 13) exit ∷ []) []
    ∷ set_to 9 10 (param 0) None (plus 9 17 (name 9 15 (param 0)) (num 9 19 1)) ∷ []))) ∷ [])))
    ∷ []))

--  1  procedure Stay is
--  2  begin
--  3     loop
--  4        null;
--  5     end loop;
--  6  end Stay;
abbrev pub stay : Text
stay = one (procedure_of [] (st (place 3 4) (loop 0 forever done [] (seq (st (place 4 7) skip ∷ []))) ∷ []))

--  1  procedure Sink (N, K : in Natural) is
--  2     I : Natural := N;
--  3  begin
--  4     while I > 0 loop
--  5        pragma Loop_Variant (Decreases => I);   -- or `Increases`
--  6        I := I - K;
--  7     end loop;
--  8  end Sink;
abbrev pub sink : Direction → Text
sink d = one (with_opening (set_to 2 4 (local 0) None (name 2 19 (param 0)) ∷ []) (procedure_of (by_in ∷ by_in ∷ [])
    (st (place 4 4) (loop 0 (while (greater (name 4 10 (local 0)) (num 4 14 0))) done
    (variant (record { direction = d; value = name 5 41 (local 0) } ∷ []) ∷ [])
    (seq (set_to 6 7 (local 0) natural (minus 6 14 (name 6 12 (local 0)) (name 6 16 (param 1))) ∷ []))) ∷ [])))

--  1  procedure Rise (N : in Natural) is
--  2     I : Natural := 0;
--  3  begin
--  4     while I < N loop
--  5        pragma Loop_Variant (Increases => I);
--  6        I := I + 1;
--  7     end loop;
--  8  end Rise;
abbrev pub rise : Text
rise = one (with_opening (set_to 2 4 (local 0) None (num 2 19 0) ∷ []) (procedure_of (by_in ∷ [])
    (st (place 4 4) (loop 0 (while (less (name 4 10 (local 0)) (name 4 14 (param 0)))) done
    (variant (record { direction = direction.Increases; value = name 5 41 (local 0) } ∷ []) ∷ [])
    (seq (set_to 6 7 (local 0) natural (plus 6 14 (name 6 12 (local 0)) (num 6 16 1)) ∷ []))) ∷ [])))

abbrev pub falls : ℕ → Var → Way
falls c x = record { direction = direction.Decreases; value = name 6 c x }

--  1  procedure Steps is
--  2     A : Integer := 2;
--  3     B : Integer := 2;
--  4  begin
--  5     while A > 0 loop
--  6        pragma Loop_Variant (Decreases => A, Decreases => B);   -- or with B before A
--  7        if B > 0 then
--  8           B := B - 1;
--  9        else
-- 10           A := A - 1;
-- 11           B := 2;
-- 12       end if;
-- 13    end loop;
-- 14  end Steps;
abbrev pub steps : Var → Var → Text
steps x y = one (with_opening (set_to 2 4 (local 0) None (num 2 19 2) ∷ set_to 3 4 (local 1) None (num 3 19 2) ∷ []) (procedure_of []
    (st (place 5 4) (loop 0 (while (greater (name 5 10 (local 0)) (num 5 14 0))) done
    (variant (falls 41 x ∷ falls 57 y ∷ []) ∷ [])
    (seq (if_so 7 7 (greater (name 7 10 (local 1)) (num 7 14 0))
    (set_to 8 10 (local 1) None (minus 8 17 (name 8 15 (local 1)) (num 8 19 1)) ∷ [])
    (set_to 10 10 (local 0) None (minus 10 17 (name 10 15 (local 0)) (num 10 19 1)) ∷ set_to 11 10 (local 1) None (num 11 15 2) ∷ []) ∷ []))) ∷ [])))

--  1  procedure Add (N : in Natural; K : in Integer; S : in out Integer) is
--  2  begin
--  3     for I in 1 .. N loop
--  4        pragma Loop_Invariant (S = S'Loop_Entry + I - 1);
--  5        S := S + K;
--  6     end loop;
--  7  end Add;
abbrev pub add : Text
add = one (procedure_of (by_in ∷ by_in ∷ by_in_out ∷ [])
    (st (place 3 4) (loop 0 (for false 0 (num 3 13 1) (name 3 18 (param 0))) done
    (invariant (equal (name 4 30 (param 2))
    (minus 4 51 (plus 4 47 (ex (place 4 34) (read (place 4 34) (loop_entry 0) (param 2))) (name 4 49 (turn 0))) (num 4 53 1))) ∷ [])
    (seq (set_to 5 7 (param 2) None (plus 5 14 (name 5 12 (param 2)) (name 5 16 (param 1))) ∷ []))) ∷ []))
