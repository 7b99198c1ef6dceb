-- What the flow rules look at: the text of a program, and of each subprogram the place of its name in its body and its stated
-- `Global`, which has the place of the aspect's name (SPARK RM 6.1.4).
use Rattle.std.specs.Prelude.{ℕ, Bool, true, false, cond, List, [], ◌∷◌, map, Option, Some, None, slice_get}
use Rattle.ada_values.specs.declared.place.Place.{Place}
use Rattle.typed_units.specs.declared.programs.GlobalAspect.{GlobalAspect}
use Rattle.typed_units.specs.declared.programs.GlobalItem.{GlobalItem}
use Rattle.typed_units.specs.declared.programs.GlobalMode.{GlobalMode}
use Rattle.typed_units.specs.declared.programs.GlobalMode.TheVariants as mode
use Rattle.typed_units.specs.declared.programs.Program.{Program}
use Rattle.typed_units.specs.declared.programs.Sub.{Sub}
use Rattle.typed_units.specs.Syntax.{Text}
use Rattle.typed_units.specs.View.{text_of}

pub record Heading : Type 0 where
  pub place : Place
  pub stated : Option GlobalAspect

-- a program, with a heading for each subprogram of its text
pub record Headed : Type 0 where
  pub text : Text
  pub headings : List Heading

abbrev pub heading : Sub → Heading
heading q = record { place = q.place; stated = q.global }

-- what the code's program is
abbrev pub headed : Program → Headed
headed p = record { text = text_of p; headings = map heading p.subs }

-- ---- stated globals

abbrev pub is_input : GlobalMode → Bool
is_input mode.Input = true
is_input mode.Output = false
is_input mode.InOut = false

abbrev pub is_output : GlobalMode → Bool
is_output mode.Input = false
is_output mode.Output = true
is_output mode.InOut = false

abbrev pub is_in_out : GlobalMode → Bool
is_in_out mode.Input = false
is_in_out mode.Output = false
is_in_out mode.InOut = true

-- the globals that are listed with such modes
abbrev pub listed : (GlobalMode → Bool) → List GlobalItem → List ℕ
listed such [] = []
listed such (i ∷ rest) = cond (such i.mode) (i.global ∷ listed such rest) (listed such rest)

-- the stated `Global` of the subprogram of that number
abbrev pub stated_in : Option Heading → Option GlobalAspect
stated_in None = None
stated_in (Some h) = h.stated

abbrev pub stated_at : List Heading → ℕ → Option GlobalAspect
stated_at hs k = stated_in (slice_get hs k)

abbrev pub outputs_of : Option GlobalAspect → List ℕ
outputs_of None = []
outputs_of (Some a) = listed is_output a.items

-- a written global without a stated `Global` counts as `In_Out` (SPARK RM 6.1.4)
abbrev pub in_outs_of : Option GlobalAspect → List ℕ → List ℕ
in_outs_of None written = written
in_outs_of (Some a) written = listed is_in_out a.items
