-- What the names of a program's files stand for, or the first refusal.
use Rattle.std.specs.Prelude.{◌≡◌, ◌⊎◌, ℕ, List, Ok, Err}
use Rattle.front_codes.specs.declared.codes.Refusal.{Refusal}
use Rattle.name_library.specs.declared.links.Usage.{Usage}
use Rattle.name_resolver.specs.declared.files.SourceFile.{SourceFile}
use Rattle.name_resolver.specs.declared.refusals.NameRefusal.{NameRefusal}
use Rattle.name_resolver.specs.declared.refusals.NameRefusal.TheVariants as names
use Rattle.name_resolver.specs.Resolved.{resolved}
use Rattle.unit_front.specs.declared.files.FrontRefusal.{FrontRefusal}
use Rattle.unit_front.specs.declared.files.FrontRefusal.TheVariants as front
use Rattle.unit_front.specs.Reading.{HaveFirst, HaveTrees}

abbrev pub by_names : NameRefusal → FrontRefusal
by_names (names.Refused f) = front.Refused f
by_names names.Starved = front.Starved

-- the texts have these trees, and their identifiers stand for this
abbrev pub AreNamed : List (List ℕ) → List SourceFile → List Usage → Type 0
AreNamed texts ss links = HaveTrees texts ss × (resolved ss ≡ Ok links)

-- of the texts this is the first refusal: one of their texts, or where each has a tree, that of the rules of names
abbrev pub AreRefused : List (List ℕ) → FrontRefusal → Type 0
AreRefused texts (front.Refused f) = HaveFirst texts (front.Refused f) ⊎ ((ss : List SourceFile) × HaveTrees texts ss × (resolved ss ≡ Err f))
AreRefused texts front.Starved = Unit {0}
