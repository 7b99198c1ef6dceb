-- The lines that stand in place of a report.
use Rattle.std.specs.Prelude.{ℕ, List, ◌++◌, codes}
use Rattle.gnat_report.specs.Text.{place_text}

abbrev pub usage_text : List ℕ
usage_text = codes "gnatprove: usage\n"

abbrev pub no_file_text : List ℕ → List ℕ
no_file_text name = codes "gnatprove: no file: " ++ (name ++ codes "\n")

abbrev pub read_fault_text : List ℕ → List ℕ
read_fault_text name = codes "gnatprove: read fault: " ++ (name ++ codes "\n")

-- a quantity passed its limit
abbrev pub limit_text : List ℕ → List ℕ
limit_text quantity = codes "gnatprove: limit: " ++ (quantity ++ codes "\n")

-- a refusal, with its place and its code
abbrev pub error_text : List ℕ → ℕ → ℕ → List ℕ → List ℕ
error_text name line column code =
    name ++ (place_text (record { file = 0; line = line; column = column }) ++ (codes "error: " ++ (code ++ codes "\n")))
