-- The typed program of a program's files, or the first refusal.
use Rattle.std.specs.Prelude.{◌≡◌, ◌⊎◌, ℕ, List, map}
use Rattle.front_codes.specs.declared.codes.Refusal.{Refusal}
use Rattle.name_library.specs.declared.links.Usage.{Usage}
use Rattle.name_numbers.specs.Numbers.{numbered}
use Rattle.name_resolver.specs.declared.files.SourceFile.{SourceFile}
use Rattle.name_resolver.specs.Resolved as sources
use Rattle.name_resolver.specs.Resolved.{events_of, order_by}
use Rattle.statement_typing.specs.declared.parts.Answer.{Answer}
use Rattle.statement_typing.specs.declared.parts.Answer.TheVariants as answers
use Rattle.statement_typing.specs.Units.{answer}
use Rattle.text_lines.specs.Lines.{line_starts}
use Rattle.type_checker.specs.Sources.{files_of}
use Rattle.typed_units.specs.declared.programs.Program.{Program}
use Rattle.unit_front.specs.declared.files.FrontRefusal.{FrontRefusal}
use Rattle.unit_front.specs.declared.files.FrontRefusal.TheVariants as front
use Rattle.unit_front.specs.Naming.{AreNamed, AreRefused}

-- what the rules of types answer of files whose identifiers stand for this
abbrev pub typed_answer : List SourceFile → List Usage → Answer
typed_answer ss links = answer (files_of ss (numbered (sources.texts_of ss)) (map line_starts (sources.texts_of ss)) links) (order_by (events_of ss))

-- the texts have these trees, which obey all rules of names and of types, and this is the typed program
abbrev pub AreTyped : List (List ℕ) → List SourceFile → Program → Type 0
AreTyped texts ss p = (links : List Usage) × AreNamed texts ss links × (typed_answer ss links ≡ answers.Typed p)

-- of the texts this is the first refusal: one of their texts or of the rules of names, or where there is none, the first of all rules of
-- types that are broken
abbrev pub AreUntyped : List (List ℕ) → FrontRefusal → Type 0
AreUntyped texts (front.Refused f) =
    AreRefused texts (front.Refused f)
    ⊎ ((ss : List SourceFile) × (links : List Usage) × AreNamed texts ss links × (typed_answer ss links ≡ answers.Refused f))
AreUntyped texts front.Starved = Unit {0}
