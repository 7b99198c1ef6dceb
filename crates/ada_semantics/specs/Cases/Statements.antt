-- Sample programs with statements.
use Rattle.std.specs.Prelude.{true, false, [], ◌∷◌, None, pos, negsuc}
use Rattle.ada_values.specs.Value.{number}
use Rattle.typed_units.specs.declared.statements.Choice.TheVariants as choice
use Rattle.typed_units.specs.Syntax.{param, local, static, st, case_of, alternative, no_alternatives, branch, when, otherwise, return, assume, Text}
use Rattle.ada_semantics.specs.Cases.{ex, place, to, num, name, minus, greater, equal, seq, set_to, claim, natural, by_in, by_out, procedure_of, with_opening, one}

--  1  procedure Same (X : in Integer; Y : in Integer) is
--  2  begin
--  3     pragma Assert (X = Y);
--  4     pragma Assert (X = Y);
--  5  end Same;
abbrev pub same : Text
same = one (procedure_of (by_in ∷ by_in ∷ [])
    (claim 3 4 (equal (name 3 19 (param 0)) (name 3 23 (param 1)))
    ∷ claim 4 4 (equal (name 4 19 (param 0)) (name 4 23 (param 1))) ∷ []))

--  1  procedure Kind (X : in Integer; R : out Integer) is
--  2  begin
--  3     case X is
--  4        when 1 | 3 .. 5 => R := 1;
--  5        when 2 => R := 2;
--  6        when others => R := 0;
--  7     end case;
--  8  end Kind;
abbrev pub kind_of : Text
kind_of = one (procedure_of (by_in ∷ by_out ∷ [])
    (st (place 3 4) (case_of (name 3 9 (param 0))
    (alternative (choice.Value (pos 1) ∷ choice.Range (to (pos 3) (pos 5)) ∷ []) false (seq (set_to 4 26 (param 1) None (num 4 31 1) ∷ []))
    (alternative (choice.Value (pos 2) ∷ []) false (seq (set_to 5 17 (param 1) None (num 5 22 2) ∷ []))
    (alternative [] true (seq (set_to 6 22 (param 1) None (num 6 27 0) ∷ []))
    no_alternatives)))) ∷ []))

--  1  procedure Sign (X : in Integer; R : out Integer) is
--  2  begin
--  3     if X > 0 then
--  4        R := 1;
--  5     elsif X = 0 then
--  6        R := 0;
--  7     else
--  8        R := -1;
--  9     end if;
-- 10  end Sign;
abbrev pub sign : Text
sign = one (procedure_of (by_in ∷ by_out ∷ [])
    (st (place 3 4) (branch
    (when (greater (name 3 7 (param 0)) (num 3 11 0)) (seq (set_to 4 7 (param 1) None (num 4 12 1) ∷ []))
    (when (equal (name 5 10 (param 0)) (num 5 14 0)) (seq (set_to 6 7 (param 1) None (num 6 12 0) ∷ []))
    (otherwise (seq (set_to 8 7 (param 1) None (ex (place 8 12) (static (number (negsuc 0)))) ∷ [])))))) ∷ []))

--  1  procedure Trust (X : in Integer) is
--  2  begin
--  3     pragma Assume (X > 0);
--  4     pragma Assert (X > 1);
--  5     return;
--  6     pragma Assert (X > 2);
--  7  end Trust;
abbrev pub trust : Text
trust = one (procedure_of (by_in ∷ [])
    (st (place 3 4) (assume (greater (name 3 19 (param 0)) (num 3 23 0)))
    ∷ claim 4 4 (greater (name 4 19 (param 0)) (num 4 23 1))
    ∷ st (place 5 4) return
    ∷ claim 6 4 (greater (name 6 19 (param 0)) (num 6 23 2)) ∷ []))

--  1  procedure Start (X : in Integer; Y : out Natural) is
--  2     A : Natural := X - 1;
--  3     pragma Assert (A > 1);
--  4     B : Natural := A - 2;
--  5  begin
--  6     Y := B;
--  7  end Start;
abbrev pub start : Text
start = one (with_opening
    (set_to 2 4 (local 0) natural (minus 2 21 (name 2 19 (param 0)) (num 2 23 1))
    ∷ claim 3 4 (greater (name 3 19 (local 0)) (num 3 23 1))
    ∷ set_to 4 4 (local 1) natural (minus 4 21 (name 4 19 (local 0)) (num 4 23 2)) ∷ [])
    (procedure_of (by_in ∷ by_out ∷ []) (set_to 6 4 (param 1) None (name 6 9 (local 1)) ∷ [])))

--  1  procedure Unsure (X : in Integer; Y : out Integer) is   -- refused, as T is read where it isn't set
--  2     T : Integer;
--  3  begin
--  4     if X > 0 then
--  5        T := X;
--  6     end if;
--  7     Y := T;
--  8  end Unsure;
abbrev pub unsure : Text
unsure = one (procedure_of (by_in ∷ by_out ∷ [])
    (st (place 4 4) (branch (when (greater (name 4 7 (param 0)) (num 4 11 0)) (seq (set_to 5 7 (local 0) None (name 5 12 (param 0)) ∷ [])) (otherwise (seq []))))
    ∷ set_to 7 4 (param 1) None (name 7 9 (local 0)) ∷ []))
