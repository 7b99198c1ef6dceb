-- Sample programs for F1 and F2.
use Rattle.std.specs.Prelude.{ℕ, List, [], ◌∷◌, None}
use Rattle.typed_units.specs.Syntax.{param, local, entry, read, Routine}
use Rattle.ada_semantics.specs.Cases.{by_in, by_out, ex, greater, if_so, name, num, place, procedure_of, put_in, set_to, with_opening, with_post}
use Rattle.ada_semantics.specs.Cases.Parts.{of_p, of_row}
use Rattle.flow_rules.specs.Headed.{Headed}
use Rattle.flow_rules.specs.declared.faults.Effects.{Effects}
use Rattle.flow_rules.specs.Cases.{effects, head, pair_type, row_type, text, with_headings}

abbrev pub with_locals : List ℕ → Routine → Routine
with_locals ss r = record r { locals = ss }

-- a procedure by itself, whose name stands in line 1
abbrev pub alone : Routine → Headed
alone r = with_headings (head 1 11 ∷ []) (text [] (r ∷ []))

abbrev pub no_effects : Effects
no_effects = effects ([] ∷ []) ([] ∷ [])

--  1  procedure Un (R : out Integer) is
--  2     T : Integer;
--  3  begin
--  4     R := T;
--  5  end Un;
abbrev pub un : Headed
un = alone (with_locals (0 ∷ []) (procedure_of (by_out ∷ []) (set_to 4 4 (param 0) None (name 4 9 (local 0)) ∷ [])))

--  1  procedure Set_First (R : out Integer) is
--  2     T : Integer := 0;
--  3  begin
--  4     R := T;
--  5  end Set_First;
abbrev pub set_first_routine : Routine
set_first_routine = with_opening (set_to 2 4 (local 0) None (num 2 19 0) ∷ []) (with_locals (0 ∷ []) (procedure_of (by_out ∷ []) (set_to 4 4 (param 0) None (name 4 9 (local 0)) ∷ [])))

abbrev pub set_first : Headed
set_first = alone set_first_routine

--  1  procedure Maybe (X : in Integer; R : out Integer) is
--  2     T : Integer;
--  3  begin
--  4     if X > 0 then
--  5        T := X;
--  6     end if;
--  7     R := T;
--  8  end Maybe;
abbrev pub maybe : Headed
maybe = alone (with_locals (0 ∷ []) (procedure_of (by_in ∷ by_out ∷ [])
    (if_so 4 4 (greater (name 4 7 (param 0)) (num 4 11 0)) (set_to 5 7 (local 0) None (name 5 12 (param 0)) ∷ []) []
    ∷ set_to 7 4 (param 1) None (name 7 9 (local 0)) ∷ [])))

--  1  procedure Half (R : out P) is
--  2  begin
--  3     R.A := 1;
--  4  end Half;
abbrev pub half : Headed
half = alone (record (procedure_of [] (put_in 3 4 (param 0) (of_p 0 ∷ []) None (num 3 11 1) ∷ [])) {
  formals = record by_out { subtype = pair_type } ∷ [];
})

--  1  procedure Item (R : out Row) is
--  2  begin
--  3     R (1) := 1;
--  4  end Item;
abbrev pub one_item : Headed
one_item = alone (record (procedure_of [] (put_in 3 4 (param 0) (of_row (num 3 7 1) ∷ []) None (num 3 13 1) ∷ [])) {
  formals = record by_out { subtype = row_type } ∷ [];
})

--  1  procedure Old (R : out Integer) with Post => R'Old > 0 is
--  2  begin
--  3     R := 1;
--  4  end Old;
abbrev pub old : Headed
old = alone (with_post (greater (ex (place 1 46) (read (place 1 46) entry (param 0))) (num 1 54 0))
    (procedure_of (by_out ∷ []) (set_to 3 4 (param 0) None (num 3 9 1) ∷ [])))
