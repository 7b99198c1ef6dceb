-- The names of a program: what its identifiers stand for, or its refusal.
use Rattle.std.specs.Prelude.{ℕ, List, [], ◌∷◌, map, slice_get, unwrap_or, Result, Ok, Err}
use Rattle.syntax_view.specs.View.{source_unit}
use Rattle.ada_values.specs.declared.place.Place.{Place}
use Rattle.front_codes.specs.declared.codes.Code.{Code}
use Rattle.front_codes.specs.declared.codes.Code.TheVariants as code
use Rattle.front_codes.specs.declared.codes.Refusal.{Refusal}
use Rattle.text_lines.specs.Lines.{place_in}
use Rattle.name_library.specs.declared.events.Event.{Event}
use Rattle.name_library.specs.declared.events.Ident.{Ident}
use Rattle.name_library.specs.declared.links.Fault.{Fault}
use Rattle.name_library.specs.declared.links.NameFault.{NameFault}
use Rattle.name_library.specs.declared.links.NameFault.TheVariants as rule
use Rattle.name_library.specs.declared.links.Spot.{Spot}
use Rattle.name_library.specs.declared.links.Usage.{Usage}
use Rattle.name_library.specs.Library.{library}
use Rattle.name_library.specs.Chains.{order}
use Rattle.name_numbers.specs.Numbers.{number_at, numbered}
use Rattle.name_events.specs.Events.{events}
use Rattle.name_rules.specs.declared.program.Answer.{Answer}
use Rattle.name_rules.specs.declared.program.Answer.TheVariants as answered
use Rattle.name_rules.specs.Faults.{answer}
use Rattle.name_resolver.specs.declared.files.SourceFile.{SourceFile}

abbrev pub texts_of : List SourceFile → List (List ℕ)
texts_of = map (λ f. f.text)

-- ---- what the files tell of names

unfoldable pub events_in : List Ident → SourceFile → List Event
events_in table f = events (number_at table) (source_unit f.unit)

-- of each file with its identifiers
abbrev pub all_events : List (List Ident) → List SourceFile → List (List Event)
all_events [] fs = []
all_events (t ∷ ts) [] = []
all_events (t ∷ ts) (f ∷ fs) = events_in t f ∷ all_events ts fs

abbrev pub events_of : List SourceFile → List (List Event)
events_of fs = all_events (numbered (texts_of fs)) fs

-- ---- refusals

abbrev pub code_of : NameFault → Code
code_of rule.UnknownName = code.UnknownName
code_of rule.AmbiguousName = code.AmbiguousName
code_of rule.Duplicate = code.Duplicate
code_of rule.Overloaded = code.Overloaded
code_of rule.WithCycle = code.WithCycle
code_of rule.MissingBody = code.MissingBody
code_of rule.SpecMismatch = code.SpecMismatch
code_of rule.LeftOut = code.LeftOut

-- the text of a file by its number
abbrev pub text_of : List SourceFile → ℕ → List ℕ
text_of fs n = unwrap_or (slice_get (texts_of fs) n) []

abbrev pub place_of : List SourceFile → Spot → Place
place_of fs p = place_in (text_of fs p.file) p.file p.at

abbrev pub refusal_of : List SourceFile → Fault → Refusal
refusal_of fs f = record { code = code_of f.rule; place = place_of fs f.spot }

-- ---- the answer

abbrev pub told : List SourceFile → Answer → Result (List Usage) Refusal
told fs (answered.Refused f) = Err (refusal_of fs f)
told fs (answered.Named us) = Ok us

unfoldable pub resolved_by : List SourceFile → List (List Event) → Result (List Usage) Refusal
resolved_by fs ess = told fs (answer ess)

-- what each identifier stands for, or the refusal of the first broken rule of names
abbrev pub resolved : List SourceFile → Result (List Usage) Refusal
resolved fs = resolved_by fs (events_of fs)

-- the files in an order in which each unit comes after what it depends on
unfoldable pub order_by : List (List Event) → List ℕ
order_by ess = order (library ess)
