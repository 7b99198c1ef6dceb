-- What a row that is proved says of runs.
use Rattle.std.specs.Prelude.{◌≡◌, ℕ, true, List, Contains}
use Rattle.std.specs.List.{list_all}
use Rattle.ada_values.specs.Value.{Val}
use Rattle.typed_units.specs.declared.checks.SiteKey.{SiteKey}
use Rattle.ada_semantics.specs.Plain.{plain, fails, inputs_fit}
use Rattle.first_form.specs.declared.form.FirstForm.{FirstForm}
use Rattle.form_prover.specs.declared.rows.Row.{Row}
use Rattle.form_prover.specs.Program.{procedure_of, program_of}
use Rattle.form_prover.specs.Rows.{one_worker}

-- No run of the procedure, from inputs in their shapes and with any budget, fails first at the site of a row that is
-- reported proved.
abbrev pub ProvedRowsHold : Type 0
ProvedRowsHold =
    (f : FirstForm) (row : Row) → Contains (one_worker (program_of f) (procedure_of f)) row → row.proved ≡ true
    → (params globals : List Val) (n : ℕ) → inputs_fit (program_of f) (procedure_of f) params globals ≡ true
    → plain (program_of f) 0 params globals n ≡ fails row.site → ⊥

-- no run of the procedure, from inputs in their shapes and with any budget, fails at the site
abbrev pub NeverFailsAt : FirstForm → SiteKey → Type 0
NeverFailsAt f c =
    (params globals : List Val) (n : ℕ) → inputs_fit (program_of f) (procedure_of f) params globals ≡ true
    → plain (program_of f) 0 params globals n ≡ fails c → ⊥

-- A site at which some run of the procedure fails first has a row: the report leaves none out.
abbrev pub FailingSitesHaveRows : Type 0
FailingSitesHaveRows =
    (f : FirstForm) (c : SiteKey) (params globals : List Val) (n : ℕ) → inputs_fit (program_of f) (procedure_of f) params globals ≡ true
    → plain (program_of f) 0 params globals n ≡ fails c
    → (row : Row) × Contains (one_worker (program_of f) (procedure_of f)) row × (row.site ≡ c)

-- Where all rows are proved, no run of the procedure fails at any site.
abbrev pub AllProvedHold : Type 0
AllProvedHold = (f : FirstForm) → list_all (λ r. r.proved) (one_worker (program_of f) (procedure_of f)) ≡ true → (c : SiteKey) → NeverFailsAt f c
