-- Soundness: no run of the program fails first at a check that a line of the report calls proved, and none fails at all where
-- the status says that all is proved.
use Rattle.std.specs.Prelude.{◌≡◌, ℕ, true, Option, Some, None, List, [], ◌∷◌, ◌++◌, Contains}
use Rattle.typed_units.specs.declared.checks.SiteKey.{SiteKey}
use Rattle.keeper_io.specs.Maps.{Map, entry_of}
use Rattle.ada_syntax.specs.declared.units.SourceUnit.{SourceUnit}
use Rattle.spark_reader.specs.Reads.{Reads}
use Rattle.first_form.specs.declared.form.FirstForm.{FirstForm}
use Rattle.first_form.specs.Tree.{form_of}
use Rattle.first_form.specs.Places.{first_unknown}
use Rattle.form_prover.specs.Sound.{NeverFailsAt}
use Rattle.gnat_report.specs.declared.rows.RowStatus.TheVariants as row
use Rattle.gnat_report.specs.Text.{row_line}
use Rattle.gnat_report.specs.Reading.{whole_lines, IsPlace}
use Rattle.gnatprove_core.specs.declared.status.Status.{Status}
use Rattle.gnatprove_core.specs.declared.status.Status.TheVariants.{Proved}
use Rattle.gnatprove_core.specs.Words.{files_of}

-- the bytes are the text of a tree that is of the form, and all names of the form are known
abbrev pub Accepted : List ℕ → FirstForm → Type 0
Accepted bytes f = (u : SourceUnit) × Reads bytes u × (form_of bytes u ≡ Some f) × (first_unknown f ≡ None)

-- a whole line of the text calls the check at this site proved
abbrev pub CallsProved : List ℕ → List ℕ → SiteKey → Type 0
CallsProved text name c = Contains (whole_lines text) (row_line (record { name = name; key = c; status = row.Proved }))

-- Whatever part of its answer a run wrote: where the keeper tells the file's bytes and they are accepted, a check that a
-- whole line calls proved is one at which no run fails first.
abbrev pub IsSound : Option Map → List (List ℕ) → Option (List ℕ) → Option (List ℕ) → Type 0
IsSound told words before after =
    (map : Map) (name bytes old text : List ℕ) (f : FirstForm) (c : SiteKey)
    → told ≡ Some map → before ≡ Some old → after ≡ Some (old ++ text)
    → files_of words ≡ Some (name ∷ []) → entry_of map name ≡ Some bytes → Accepted bytes f
    → c.place.file ≡ 0 → IsPlace c.place → CallsProved text name c → NeverFailsAt f c

-- Where the keeper tells the file's bytes and they are accepted, the status that all is proved says that no run fails at any
-- site.
abbrev pub IsComplete : Option Map → List (List ℕ) → Status → Type 0
IsComplete told words status =
    (map : Map) (name bytes : List ℕ) (f : FirstForm) (c : SiteKey)
    → told ≡ Some map → files_of words ≡ Some (name ∷ []) → entry_of map name ≡ Some bytes → Accepted bytes f → status ≡ Proved → NeverFailsAt f c
