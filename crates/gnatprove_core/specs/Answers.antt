-- What the program answers: a status, and the text that it writes.
use Rattle.std.specs.Prelude.{◌≡◌, ℕ, zero, suc, ◌+◌, ◌++◌, Bool, true, false, ◌⊎◌, nat_le, Option, Some, None, List, [], ◌∷◌, map, length, codes, if◌then◌else◌}
use Rattle.std.specs.List.{list_all}
use Rattle.std.specs.Io.KnownBytes.{append_known}
use Rattle.keeper_io.specs.Causes.{Rose}
use Rattle.keeper_io.specs.Maps.{Map, Holds}
use Rattle.keeper_io.specs.Pieces.{AddsPart}
use Rattle.name_resolver.specs.declared.files.SourceFile.{SourceFile}
use Rattle.front_codes.specs.declared.codes.Refusal.{Refusal}
use Rattle.front_codes.specs.Words.{word_of}
use Rattle.unit_front.specs.declared.files.NamedBytes.{NamedBytes}
use Rattle.unit_front.specs.declared.files.FrontRefusal.TheVariants as front
use Rattle.unit_front.specs.Reading.{texts_of}
use Rattle.unit_front.specs.Accepting.{AreTyped, AreUntyped}
use Rattle.typed_units.specs.declared.programs.Program.{Program}
use Rattle.first_form.specs.declared.form.FirstForm.{FirstForm}
use Rattle.first_form.specs.Tree.{form_of}
use Rattle.first_form.specs.Places.{first_unknown}
use Rattle.form_prover.specs.declared.rows.Row as prover
use Rattle.form_prover.specs.Program.{procedure_of, program_of}
use Rattle.form_prover.specs.Rows.{one_worker}
use Rattle.gnat_report.specs.declared.rows.Row.{Row}
use Rattle.gnat_report.specs.declared.rows.RowStatus.{RowStatus}
use Rattle.gnat_report.specs.declared.rows.RowStatus.TheVariants as row
use Rattle.gnat_report.specs.Text.{report_text_of}
use Rattle.gnatprove_core.specs.declared.status.Status.{Status}
use Rattle.gnatprove_core.specs.declared.status.Status.TheVariants.{Proved, Unproved, Refused, Usage, ReadFault, WriteFault, Starved, Limit}
use Rattle.gnatprove_core.specs.Words.{files_of}
use Rattle.gnatprove_core.specs.Texts.{usage_text, no_file_text, read_fault_text, limit_text, error_text}

-- ---- the report

abbrev pub row_status : Bool → RowStatus
row_status true = row.Proved
row_status false = row.Unproved

abbrev pub row_in : List ℕ → prover.Row → Row
row_in name r = record { name = name; key = r.site; status = row_status r.proved }

-- one worker's rows of the file's program
abbrev pub rows_of : FirstForm → List prover.Row
rows_of f = one_worker (program_of f) (procedure_of f)

-- Proved where every row is, else Unproved
abbrev pub status_of : List prover.Row → Status
status_of rows = if list_all (λ r. r.proved) rows then Proved else Unproved

abbrev pub Reports : List ℕ → FirstForm → Status → List ℕ → Type 0
Reports name f status text = (status ≡ status_of (rows_of f)) × (text ≡ report_text_of (map (row_in name) (rows_of f)))

-- ---- the file

-- a refusal of the file, at a place and with a code
abbrev pub Refuses : List ℕ → ℕ → ℕ → List ℕ → Status → List ℕ → Type 0
Refuses name line column code status text = (status ≡ Refused) × (text ≡ error_text name line column code)

-- a form with a name that is no parameter is refused at its start, and else the report is written
abbrev pub AnswersForm : List ℕ → FirstForm → Option (ℕ × ℕ) → Status → List ℕ → Type 0
AnswersForm name f (Some place) status text = Refuses name 1 1 (codes "NotBuilt") status text
AnswersForm name f None status text = Reports name f status text

-- a file that isn't of the form is refused at its start
abbrev pub AnswersTree : List ℕ → Option FirstForm → Status → List ℕ → Type 0
AnswersTree name None status text = Refuses name 1 1 (codes "NotBuilt") status text
AnswersTree name (Some f) status text = AnswersForm name f (first_unknown f) status text

-- ---- the files

-- the name of the file of this number; empty where there is none
abbrev pub name_at : List NamedBytes → ℕ → List ℕ
name_at [] k = []
name_at (g ∷ gs) zero = g.name
name_at (g ∷ gs) (suc k) = name_at gs k

-- the first refusal of the files
abbrev pub RefusesAt : List NamedBytes → Refusal → Status → List ℕ → Type 0
RefusesAt got r status text = Refuses (name_at got r.place.file) r.place.line r.place.column (word_of r.code) status text

-- what isn't of the form is refused at the start of the first file
abbrev pub AnswersTrees : List NamedBytes → List SourceFile → Status → List ℕ → Type 0
AnswersTrees (g ∷ []) (s ∷ []) status text = AnswersTree g.name (form_of g.bytes s.unit) status text
AnswersTrees got ss status text = Refuses (name_at got 0) 1 1 (codes "NotBuilt") status text

-- the files are refused, or they have trees and obey the rules of names and of types
abbrev pub AnswersRead : List NamedBytes → Status → List ℕ → Type 0
AnswersRead got status text =
    ((r : Refusal) × AreUntyped (texts_of got) (front.Refused r) × RefusesAt got r status text)
    ⊎ ((ss : List SourceFile) × (p : Program) × AreTyped (texts_of got) ss p × AnswersTrees got ss status text)

abbrev pub PassesLimit : List ℕ → Status → List ℕ → Type 0
PassesLimit quantity status text = (status ≡ Limit) × (text ≡ limit_text quantity)

-- the bytes of all files
abbrev pub source_bytes : List NamedBytes → ℕ
source_bytes [] = 0
source_bytes (g ∷ gs) = length g.bytes + source_bytes gs

abbrev pub most_source_bytes : ℕ
most_source_bytes = 1048576

abbrev pub most_files : ℕ
most_files = 64

abbrev pub AnswersSized : Bool → List NamedBytes → Status → List ℕ → Type 0
AnswersSized true got status text = AnswersRead got status text
AnswersSized false got status text = PassesLimit (codes "source bytes") status text

-- files that were got, of which there may be too many bytes
abbrev pub AnswersGot : List NamedBytes → Status → List ℕ → Type 0
AnswersGot got status text = AnswersSized (nat_le (source_bytes got) most_source_bytes) got status text

abbrev pub AnswersMissing : List ℕ → Status → List ℕ → Type 0
AnswersMissing name status text = (status ≡ Refused) × (text ≡ no_file_text name)

abbrev pub AnswersFault : List ℕ → Status → List ℕ → Type 0
AnswersFault name status text = (status ≡ ReadFault) × (text ≡ read_fault_text name)

abbrev pub with_file : List NamedBytes → List ℕ → List ℕ → List NamedBytes
with_file got name bytes = got ++ record { name = name; bytes = bytes } ∷ []

-- Files are got in order, after those that were got before; the first that can't be read, or that the keeper lacks, decides.
abbrev pub AnswersFrom : Option Map → List NamedBytes → List (List ℕ) → Status → List ℕ → Type 0
AnswersFrom told got [] status text = AnswersGot got status text
AnswersFrom told got (name ∷ names) status text =
    AnswersFault name status text
    ⊎ ((Holds told name None × AnswersMissing name status text)
    ⊎ ((bytes : List ℕ) × Holds told name (Some bytes) × AnswersFrom told (with_file got name bytes) names status text))

-- ---- the words

abbrev pub AnswersMany : Bool → Option Map → List (List ℕ) → Status → List ℕ → Type 0
AnswersMany true told names status text = AnswersFrom told [] names status text
AnswersMany false told names status text = PassesLimit (codes "files") status text

abbrev pub AnswersNamed : Option Map → Option (List (List ℕ)) → Status → List ℕ → Type 0
AnswersNamed told None status text = (status ≡ Usage) × (text ≡ usage_text)
AnswersNamed told (Some names) status text = AnswersMany (nat_le (length names) most_files) told names status text

-- the answer to the words, where the keeper holds what is told
abbrev pub Answers : Option Map → List (List ℕ) → Status → List ℕ → Type 0
Answers told words status text = AnswersNamed told (files_of words) status text

-- ---- the run

-- What a run wrote: nothing where there was no memory, a first part of its answer where a write failed, and else the
-- whole of the answer that has its status.
abbrev pub Ends : Option Map → List (List ℕ) → Status → Option (List ℕ) → Option (List ℕ) → Type 0
Ends told words Starved before after = after ≡ before
Ends told words WriteFault before after = (status : Status) × (text : List ℕ) × Answers told words status text × AddsPart before after text
Ends told words status before after = (text : List ℕ) × Answers told words status text × (after ≡ append_known before text)

-- What a run wrote whose answer was cut off by the sink: a first part of an answer, which is the line of a read fault only
-- where the keeper's count of faults rose.
abbrev pub IsCut : Option Map → List (List ℕ) → ℕ → ℕ → Option (List ℕ) → Option (List ℕ) → Type 0
IsCut told words faults later before after =
    (status : Status) × (text : List ℕ) × Answers told words status text × AddsPart before after text × (status ≡ ReadFault → Rose faults later)
