-- The files of a program, and what a part of one is read by.
use Rattle.std.specs.Prelude.{ℕ, suc, Bool, Option, Some, None, List, [], ◌∷◌, ◌==◌, ◌&&◌, if◌then◌else◌}
use Rattle.ada_values.specs.declared.place.Place.{Place}
use Rattle.ada_text.specs.declared.token.Span.{Span}
use Rattle.name_library.specs.declared.links.Link.{Link}
use Rattle.name_library.specs.declared.links.Link.TheVariants as link
use Rattle.name_library.specs.declared.links.Spot.{Spot}
use Rattle.name_numbers.specs.declared.words.Word.{Word}
use Rattle.type_base.specs.declared.seen.Moment.{Moment}
use Rattle.type_base.specs.declared.world.World.{World}
use Rattle.type_base.specs.Scope.{Scope}
use Rattle.syntax_view.specs.Trees as tree

-- a file as the stage of names leaves it; functions of bytes speak of the identifier that begins there
pub record File : Type 0 where
  pub unit : tree.SourceUnit
  pub number : ℕ
  pub place : ℕ → Place
  pub link : ℕ → Option Link
  pub name : ℕ → ℕ
  -- the word that it is, where it names a pragma, an aspect, an attribute or a choice of these
  pub word : ℕ → Option Word
  -- its text
  pub spelled : ℕ → List ℕ

-- where declarations stand: their file; the subprogram whose body has them; the numbers of loop parameters, indexes and loops in
-- it; and the declaring identifiers of all globals and of all subprograms of the program, in the order of their numbers
pub record Home : Type 0 where
  pub file : File
  pub own : Option ℕ
  pub number : ℕ → ℕ
  pub globals : List Spot
  pub routines : List Spot

abbrev pub scope : Home → Moment → World → Scope
scope h m w = record {
  world = w;
  place = h.file.place;
  link = h.file.link;
  name = h.file.name;
  number = h.number;
  own = h.own;
  moment = m;
  parameters = [];
}

abbrev pub place_at : Home → Span → Place
place_at h s = h.file.place s.from

-- the declaring identifier of what an identifier at a byte declares: of two spellings it is the first
abbrev pub spot_by : ℕ → ℕ → Option Link → Spot
spot_by file at (Some (link.Declared s)) = s
spot_by file at (Some (link.Predefined n)) = record { file = file; at = at }
spot_by file at None = record { file = file; at = at }

abbrev pub spot_of : File → Span → Spot
spot_of f s = spot_by f.number s.from (f.link s.from)

abbrev pub same_spot : Spot → Spot → Bool
same_spot s t = s.file == t.file && s.at == t.at

-- the number of a place in a list
abbrev pub rank : List Spot → Spot → ℕ
rank [] s = 0
rank (t ∷ ts) s = if same_spot t s then 0 else suc (rank ts s)
