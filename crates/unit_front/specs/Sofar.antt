-- What the code has found of the files that it has read; these serve the proof alone.
use Rattle.std.specs.Prelude.{◌≡◌, ℕ, List, [], ◌∷◌, ◌++◌, Option, Some, None}
use Rattle.front_codes.specs.declared.codes.Refusal.{Refusal}
use Rattle.unit_front.specs.declared.reading.FileRead.{FileRead}
use Rattle.unit_front.specs.declared.reading.FileRead.TheVariants.{Lexical, Syntactic, Tree}
use Rattle.unit_front.specs.declared.trees.Sofar.{Sofar}
use Rattle.unit_front.specs.Reading.{AreFiles, first_lexical, first_syntactic, else_refusal as else_of, trees}

abbrev pub else_refusal : Option Refusal → Option Refusal → Option Refusal
else_refusal = else_of

abbrev pub noted : Sofar → FileRead → Sofar
noted s (Lexical f) = record s { lexical = else_of s.lexical (Some f) }
noted s (Syntactic f) = record s { syntactic = else_of s.syntactic (Some f) }
noted s (Tree f) = record s { files = s.files ++ f ∷ [] }

abbrev pub refusal_in : Sofar → Option Refusal
refusal_in s = else_of s.lexical s.syntactic

-- what was found, and then these files, are all files
abbrev pub Leads : List (List ℕ) → Sofar → List FileRead → Type 0
Leads texts s gs =
    (fs : List FileRead) × AreFiles 0 texts fs
    × (first_lexical fs ≡ else_of s.lexical (first_lexical gs)) × (first_syntactic fs ≡ else_of s.syntactic (first_syntactic gs)) × (trees fs ≡ s.files ++ trees gs)

-- whatever the files from number k on are, what was found and then these are all files
unfoldable pub StillLeads : List (List ℕ) → Sofar → ℕ → List (List ℕ) → Type 0
StillLeads texts s k rest = (gs : List FileRead) → AreFiles k rest gs → Leads texts s gs

abbrev pub HaveLed : List (List ℕ) → Sofar → Type 0
HaveLed texts s = Leads texts s []
