-- Sample programs on expressions.
use Rattle.std.specs.Prelude.{true, false, [], ◌∷◌, Some, None, pos, negsuc}
use Rattle.ada_values.specs.Scalars.{integer}
use Rattle.ada_values.specs.declared.scalars.Op.TheVariants as op
use Rattle.typed_units.specs.declared.operators.Connective.{Connective}
use Rattle.typed_units.specs.declared.operators.Quantifier.TheVariants as quantifier
use Rattle.typed_units.specs.declared.operators.Relation.TheVariants as relation
use Rattle.typed_units.specs.Syntax.{param, local, index, convert, succ_at, unary, member, choose, arm, other, quantified, Text}
use Rattle.ada_semantics.specs.Cases.{ex, place, short, byte, to, num, flag, name, prefix, parens, calc, plus, minus, over, related, equal, less, greater, both, set_to, claim, by_in, by_out, by_in_out, procedure_of, with_opening, one}

--  1  procedure Inc (X : in out Integer) is
--  2  begin
--  3     X := X + 1;
--  4  end Inc;
abbrev pub inc : Text
inc = one (procedure_of (by_in_out ∷ []) (set_to 3 4 (param 0) None (plus 3 11 (name 3 9 (param 0)) (num 3 13 1)) ∷ []))

--  1  procedure Back (X : in Integer; Y : out Integer) is
--  2  begin
--  3     Y := (X + 1) - 1;
--  4  end Back;
abbrev pub back : Text
back = one (procedure_of (by_in ∷ by_out ∷ [])
    (set_to 3 4 (param 1) None (minus 3 17 (parens 3 9 (plus 3 12 (name 3 10 (param 0)) (num 3 14 1))) (num 3 19 1)) ∷ []))

--  1  procedure Divide (A, B, Q, R, M : in Integer) is
--  2  begin
--  3     pragma Assert (A / B = Q);
--  4     pragma Assert (A rem B = R);
--  5     pragma Assert (A mod B = M);
--  6  end Divide;
abbrev pub divide : Text
divide = one (procedure_of (by_in ∷ by_in ∷ by_in ∷ by_in ∷ by_in ∷ [])
    (claim 3 4 (equal (over 3 21 (name 3 19 (param 0)) (name 3 23 (param 1))) (name 3 27 (param 2)))
    ∷ claim 4 4 (equal (calc op.Rem integer 4 21 (name 4 19 (param 0)) (name 4 25 (param 1))) (name 4 29 (param 3)))
    ∷ claim 5 4 (equal (calc op.Mod integer 5 21 (name 5 19 (param 0)) (name 5 25 (param 1))) (name 5 29 (param 4))) ∷ []))

--  1  procedure Wrap (N : in Integer) is
--  2     type B is mod 256;
--  3     C : constant B := 200;
--  4     X : B;
--  5  begin
--  6     X := B (N);
--  7     pragma Assert (C + 100 = 44);
--  8  end Wrap;
abbrev pub wrap : Text
wrap = one (with_opening (set_to 3 4 (local 0) None (num 3 22 200) ∷ []) (procedure_of (by_in ∷ [])
    (set_to 6 4 (local 1) None (prefix (convert (Some (to (pos 0) (pos 255)))) 6 9 (name 6 12 (param 0)))
    ∷ claim 7 4 (flag 7 19 true) ∷ [])))

--  1  procedure Modular (A : in B; S, D, M, N : out B) is   -- type B is mod 256
--  2  begin
--  3     S := A + 100;
--  4     D := 100 - A;
--  5     M := A * 3;
--  6     N := -A;
--  7  end Modular;
abbrev pub modular : Text
modular = one (procedure_of (by_in ∷ by_out ∷ by_out ∷ by_out ∷ by_out ∷ [])
    (set_to 3 4 (param 1) None (calc op.Add byte 3 11 (name 3 9 (param 0)) (num 3 13 100))
    ∷ set_to 4 4 (param 2) None (calc op.Sub byte 4 13 (num 4 9 100) (name 4 15 (param 0)))
    ∷ set_to 5 4 (param 3) None (calc op.Mul byte 5 11 (name 5 9 (param 0)) (num 5 13 3))
    ∷ set_to 6 4 (param 4) None (prefix (unary op.Neg byte (place 6 9)) 6 9 (name 6 10 (param 0))) ∷ []))

--  1  procedure Grow (X, D : in T; Y : out T) is   -- type T is range -100 .. 100, whose base range is -128 .. 127
--  2  begin
--  3     Y := X + D;
--  4  end Grow;
abbrev pub grow : Text
grow = one (procedure_of (by_in ∷ by_in ∷ by_out ∷ [])
    (set_to 3 4 (param 2) (Some (to (negsuc 99) (pos 100))) (calc op.Add short 3 11 (name 3 9 (param 0)) (name 3 13 (param 1))) ∷ []))

--  1  procedure Next (X : in T; Y : out T) is   -- type T is range -100 .. 100
--  2  begin
--  3     Y := T'Succ (X);
--  4  end Next;
abbrev pub next : Text
next = one (procedure_of (by_in ∷ by_out ∷ [])
    (set_to 3 4 (param 1) (Some (to (negsuc 99) (pos 100))) (prefix (succ_at (place 3 10) short) 3 9 (name 3 17 (param 0))) ∷ []))

--  1  procedure After (X : in Integer; Y : out Integer) is
--  2  begin
--  3     Y := Integer'Succ (X);
--  4  end After;
abbrev pub after : Text
after = one (procedure_of (by_in ∷ by_out ∷ [])
    (set_to 3 4 (param 1) None (prefix (succ_at (place 3 16) integer) 3 9 (name 3 23 (param 0))) ∷ []))

--  1  procedure Power (X, N : in Integer; Y : out Integer) is
--  2  begin
--  3     Y := X ** N;
--  4  end Power;
abbrev pub power : Text
power = one (procedure_of (by_in ∷ by_in ∷ by_out ∷ [])
    (set_to 3 4 (param 2) None (calc op.Pow integer 3 11 (name 3 9 (param 0)) (name 3 14 (param 1))) ∷ []))

--  1  procedure Size (X : in Integer; Y : out Integer) is
--  2  begin
--  3     Y := (if X > 0 then X else -X);
--  4  end Size;
abbrev pub size : Text
size = one (procedure_of (by_in ∷ by_out ∷ [])
    (set_to 3 4 (param 1) None (ex (place 3 9) (choose
    (arm (greater (name 3 13 (param 0)) (num 3 17 0)) (name 3 24 (param 0))
    (other (prefix (unary op.Neg integer (place 3 31)) 3 31 (name 3 32 (param 0))))))) ∷ []))

--  1  procedure Inside (X, N : in Integer; R, S : out Boolean) is
--  2  begin
--  3     R := X in 1 .. N;
--  4     S := X not in 1 .. N;
--  5  end Inside;
abbrev pub inside : Text
inside = one (procedure_of (by_in ∷ by_in ∷ by_out ∷ by_out ∷ [])
    (set_to 3 4 (param 2) None (ex (place 3 9) (member true (name 3 9 (param 0)) (num 3 14 1) (name 3 19 (param 1))))
    ∷ set_to 4 4 (param 3) None (ex (place 4 9) (member false (name 4 9 (param 0)) (num 4 18 1) (name 4 23 (param 1)))) ∷ []))

--  1  procedure Guard (X : in Integer; R : out Boolean) is
--  2  begin
--  3     R := X /= 0 and 10 / X > 1;
--  4  end Guard;
-- or with another word in place of `and`; the columns are those of `and`
abbrev pub guard : Connective → Text
guard c = one (procedure_of (by_in ∷ by_out ∷ [])
    (set_to 3 4 (param 1) None (both c (related relation.Differs (name 3 9 (param 0)) (num 3 14 0))
    (greater (over 3 23 (num 3 20 10) (name 3 25 (param 0))) (num 3 29 1))) ∷ []))

--  1  procedure Search (N : in Integer; A, S : out Boolean) is
--  2  begin
--  3     A := (for all I in 1 .. 5 => I < N);
--  4     S := (for some I in 1 .. 5 => I > N);
--  5  end Search;
abbrev pub search_both : Text
search_both = one (procedure_of (by_in ∷ by_out ∷ by_out ∷ [])
    (set_to 3 4 (param 1) None (ex (place 3 9) (quantified quantifier.All 0 (num 3 23 1) (num 3 28 5) (less (name 3 33 (index 0)) (name 3 37 (param 0)))))
    ∷ set_to 4 4 (param 2) None (ex (place 4 9) (quantified quantifier.Some 1 (num 4 24 1) (num 4 29 5) (greater (name 4 34 (index 1)) (name 4 38 (param 0))))) ∷ []))

--  1  procedure Empty (A, S : out Boolean) is
--  2  begin
--  3     A := (for all I in 5 .. 1 => False);
--  4     S := (for some I in 5 .. 1 => True);
--  5  end Empty;
abbrev pub empty_ranges : Text
empty_ranges = one (procedure_of (by_out ∷ by_out ∷ [])
    (set_to 3 4 (param 0) None (ex (place 3 9) (quantified quantifier.All 0 (num 3 23 5) (num 3 28 1) (flag 3 33 false)))
    ∷ set_to 4 4 (param 1) None (ex (place 4 9) (quantified quantifier.Some 1 (num 4 24 5) (num 4 29 1) (flag 4 34 true))) ∷ []))
