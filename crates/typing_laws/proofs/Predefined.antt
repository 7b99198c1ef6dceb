-- The world in which Standard alone is declared is sound, and so is that of the worked cases.
use Rattle.std.proofs.Common.{◌≡◌, refl, ap, subst, ℕ, zero, suc, List, [], ◌∷◌, slice_get, Option, Some, None}
use Rattle.type_base.specs.declared.world.Routine.{Routine}
use Rattle.type_base.specs.declared.world.Subtype.{Subtype}
use Rattle.type_base.specs.declared.world.World.{World}
use Rattle.type_base.specs.Standard.{standard, standard_subtypes}
use Rattle.typing_rules.specs.Cases.{arg, call, id, name, scope}
use Rattle.typing_laws.specs.Declared.{IsDeclared, IsSound, IsWhole, ResultThere}
use Rattle.typing_laws.proofs.Standing.{no_some}

abbrev AllWhole : World → List Subtype → Type 0
AllWhole w [] = Unit {0}
AllWhole w (s ∷ ss) = IsWhole w s × AllWhole w ss

abbrev or_else : Subtype → Option Subtype → Subtype
or_else s (Some z) = z
or_else s None = s

whole_at : (w : World) (ss : List Subtype) → AllWhole w ss → (k : ℕ) (s : Subtype) → slice_get ss k ≡ Some s → IsWhole w s
whole_at w [] h k s e = no_some s e
whole_at w (z ∷ ss) h zero s e = subst (λ (x : Subtype). IsWhole w x) (ap (or_else s) e) h.0
whole_at w (z ∷ ss) h (suc k) s e = whole_at w ss h.1 k s e

all_whole : AllWhole standard standard_subtypes
all_whole = (
  record { type = record { subtype = _; is = refl }; sort = tt; parts = tt },
  (
    record { type = record { subtype = _; is = refl }; sort = tt; parts = tt },
    (
      record { type = record { subtype = _; is = refl }; sort = tt; parts = tt },
      (
        record { type = record { subtype = _; is = refl }; sort = tt; parts = tt },
        (
          record { type = record { subtype = _; is = refl }; sort = tt; parts = tt },
          (
            record { type = record { subtype = _; is = refl }; sort = tt; parts = tt },
            (record { type = record { subtype = _; is = refl }; sort = tt; parts = tt }, tt),
          ),
        ),
      ),
    ),
  ),
)

no_results : (q : ℕ) (r : Routine) → slice_get standard.routines q ≡ Some r → ResultThere standard r.result
no_results q r e = no_some r e

pub standard_sound : IsSound standard
standard_sound = record {
  standard = record { truth = refl; integer = _; integer_is = refl };
  subtypes = whole_at standard standard_subtypes all_whole;
  components = tt;
  formals = tt;
  results = no_results;
}

-- ---- the worked cases

abbrev AllResults : World → List Routine → Type 0
AllResults w [] = Unit {0}
AllResults w (r ∷ rs) = ResultThere w r.result × AllResults w rs

abbrev or_routine : Routine → Option Routine → Routine
or_routine r (Some z) = z
or_routine r None = r

result_at : (w : World) (rs : List Routine) → AllResults w rs → (q : ℕ) (r : Routine) → slice_get rs q ≡ Some r → ResultThere w r.result
result_at w [] h q r e = no_some r e
result_at w (z ∷ rs) h zero r e = subst (λ (x : Routine). ResultThere w x.result) (ap (or_routine r) e) h.0
result_at w (z ∷ rs) h (suc q) r e = result_at w rs h.1 q r e

cases_whole : AllWhole scope.world scope.world.subtypes
cases_whole = (
  record { type = record { subtype = _; is = refl }; sort = tt; parts = tt },
  (
    record { type = record { subtype = _; is = refl }; sort = tt; parts = tt },
    (
      record { type = record { subtype = _; is = refl }; sort = tt; parts = tt },
      (
        record { type = record { subtype = _; is = refl }; sort = tt; parts = tt },
        (
          record { type = record { subtype = _; is = refl }; sort = tt; parts = tt },
          (
            record { type = record { subtype = _; is = refl }; sort = tt; parts = tt },
            (
              record { type = record { subtype = _; is = refl }; sort = tt; parts = tt },
              (
                record { type = record { subtype = _; is = refl }; sort = tt; parts = tt },
                (
                  record { type = record { subtype = _; is = refl }; sort = tt; parts = tt },
                  (
                    record { type = record { subtype = _; is = refl }; sort = tt; parts = tt },
                    (
                      record { type = record { subtype = _; is = refl }; sort = tt; parts = tt },
                      (
                        record { type = record { subtype = _; is = refl }; sort = tt; parts = (record { subtype = _; is = refl }, record { subtype = _; is = refl }) },
                        (
                          record { type = record { subtype = _; is = refl }; sort = tt; parts = (record { subtype = _; is = refl }, record { subtype = _; is = refl }) },
                          (
                            record { type = record { subtype = _; is = refl }; sort = tt; parts = (record { subtype = _; is = refl }, record { subtype = _; is = refl }) },
                            (
                              record { type = record { subtype = _; is = refl }; sort = tt; parts = tt },
                              (
                                record { type = record { subtype = _; is = refl }; sort = tt; parts = tt },
                                (record { type = record { subtype = _; is = refl }; sort = tt; parts = tt }, tt),
                              ),
                            ),
                          ),
                        ),
                      ),
                    ),
                  ),
                ),
              ),
            ),
          ),
        ),
      ),
    ),
  ),
)

cases_results : AllResults scope.world scope.world.routines
cases_results = (record { subtype = _; is = refl }, (tt, (record { subtype = _; is = refl }, tt)))

pub cases_sound : IsSound scope.world
cases_sound = record {
  standard = record { truth = refl; integer = _; integer_is = refl };
  subtypes = whole_at scope.world scope.world.subtypes cases_whole;
  components = (record { subtype = _; is = refl }, (record { subtype = _; is = refl }, tt));
  formals = (record { subtype = _; is = refl }, (record { subtype = _; is = refl }, (record { subtype = _; is = refl }, tt)));
  results = result_at scope.world scope.world.routines cases_results;
}

-- an item of an array by a variable, in these cases
pub case_declared : IsDeclared scope (name 163 (call (arg 360 (id 360) ∷ []) ∷ []))
case_declared = (record { subtype = _; is = refl }, (((((record { subtype = _; is = refl }, tt), tt), tt), tt)))
