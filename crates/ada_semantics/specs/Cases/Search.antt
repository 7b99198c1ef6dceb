-- Binary search, as a larger sample; `type Arr is array (Positive range <>) of Integer`.
use Rattle.std.specs.Prelude.{ℕ, true, [], ◌∷◌, Some, None, pos}
use Rattle.ada_values.specs.Scalars.{integer, integer_last}
use Rattle.typed_units.specs.declared.operators.Connective.TheVariants as connective
use Rattle.typed_units.specs.declared.operators.Relation.TheVariants as relation
use Rattle.typed_units.specs.Syntax.{param, local, answer, present, Fit, Ex, read, op1, first, last, length_at, member, choose, arm, other, st, loop, while, invariant, branch, when, otherwise, done, Routine, Text}
use Rattle.ada_semantics.specs.Cases.{ex, place, to, num, flag, name, parens, plus, minus, over, related, equal, less, both, seq, set_to, give_back, if_so, natural, by_in, function_of, with_pre, with_post, one}
use Rattle.ada_semantics.specs.Cases.Parts.{item_of}

-- the range check of `Positive`
abbrev pub positive : Fit
positive = Some (to (pos 1) (pos integer_last))

abbrev pub first_of : ℕ → ℕ → Ex
first_of l c = ex (place l c) (op1 first (name l c (param 0)))

abbrev pub last_of : ℕ → ℕ → Ex
last_of l c = ex (place l c) (op1 last (name l c (param 0)))

abbrev pub result_at : ℕ → ℕ → Ex
result_at l c = ex (place l c) (read (place l c) present answer)

-- the contract, in the package's specification:
--  3     function Find (A : Arr; X : Integer) return Natural with
--  4       Pre  => A'Last < Positive'Last,
--  5       Post => (if Find'Result /= 0 then
--  6                  Find'Result in A'Range and then A (Find'Result) = X);
abbrev pub with_contract : Routine → Routine
with_contract r = with_pre (less (last_of 4 14) (num 4 23 2147483647)) (with_post
    (ex (place 5 14) (choose (arm (related relation.Differs (result_at 5 18) (num 5 33 0))
    (both connective.AndThen
    (ex (place 6 17) (member true (result_at 6 17) (first_of 6 32) (last_of 6 32)))
    (equal (item_of (name 6 49 (param 0)) (result_at 6 52)) (name 6 67 (param 1))))
    (other (flag 5 14 true)))))
    r)

--  1  package body Search is
--  2     function Find (A : Arr; X : Integer) return Natural is
--  3        Lo  : Positive;
--  4        Hi  : Natural;
--  5        Mid : Positive;
--  6     begin
--  7        if A'Length = 0 then
--  8           return 0;
--  9        end if;
-- 10        Lo := A'First;
-- 11        Hi := A'Last;
-- 12        while Lo <= Hi loop
-- 13           pragma Loop_Invariant (Lo >= A'First and then Hi <= A'Last);
-- 14           Mid := Lo + (Hi - Lo) / 2;
-- 15           if A (Mid) = X then
-- 16              return Mid;
-- 17           elsif A (Mid) < X then
-- 18              Lo := Mid + 1;
-- 19           else
-- 20              Hi := Mid - 1;
-- 21           end if;
-- 22        end loop;
-- 23        return 0;
-- 24     end Find;
-- 25  end Search;
abbrev pub find : Text
find = one (with_contract (function_of (by_in ∷ by_in ∷ [])
    (if_so 7 7 (equal (ex (place 7 10) (op1 (length_at (place 7 11) integer) (name 7 10 (param 0)))) (num 7 21 0)) (give_back 8 10 None (num 8 17 0) ∷ []) []
    ∷ set_to 10 7 (local 0) positive (first_of 10 13)
    ∷ set_to 11 7 (local 1) natural (last_of 11 13)
    ∷ st (place 12 7) (loop 0 (while (related relation.AtMost (name 12 13 (local 0)) (name 12 19 (local 1)))) done
    (invariant (both connective.AndThen
    (related relation.AtLeast (name 13 33 (local 0)) (first_of 13 39))
    (related relation.AtMost (name 13 56 (local 1)) (last_of 13 62))) ∷ [])
    (seq
    (set_to 14 10 (local 2) positive (plus 14 20 (name 14 17 (local 0))
    (over 14 32 (parens 14 22 (minus 14 26 (name 14 23 (local 1)) (name 14 28 (local 0)))) (num 14 34 2)))
    ∷ st (place 15 10) (branch
    (when (equal (item_of (name 15 13 (param 0)) (name 15 16 (local 2))) (name 15 23 (param 1))) (seq (give_back 16 13 None (name 16 20 (local 2)) ∷ []))
    (when (less (item_of (name 17 16 (param 0)) (name 17 19 (local 2))) (name 17 26 (param 1)))
    (seq (set_to 18 13 (local 0) positive (plus 18 23 (name 18 19 (local 2)) (num 18 25 1)) ∷ []))
    (otherwise (seq (set_to 20 13 (local 1) natural (minus 20 23 (name 20 19 (local 2)) (num 20 25 1)) ∷ [])))))) ∷ [])))
    ∷ give_back 23 7 None (num 23 14 0) ∷ [])))
