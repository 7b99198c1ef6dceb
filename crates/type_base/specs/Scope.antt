-- What the reading of a file's text goes by.
use Rattle.std.specs.Prelude.{ℕ, List, Option}
use Rattle.ada_values.specs.declared.place.Place.{Place}
use Rattle.name_library.specs.declared.links.Link.{Link}
use Rattle.type_base.specs.declared.seen.Parameter.{Parameter}
use Rattle.type_base.specs.declared.seen.Moment.{Moment}
use Rattle.type_base.specs.declared.world.World.{World}

pub record Scope : Type 0 where
  -- what is declared so far
  pub world : World
  -- the place of a byte
  pub place : ℕ → Place
  -- what the identifier at a byte stands for
  pub link : ℕ → Option Link
  -- the number of its name
  pub name : ℕ → ℕ
  -- the number, in its subprogram, of the loop parameter, the quantifier's index or the loop that begins at a byte
  pub number : ℕ → ℕ
  -- the subprogram whose text this is
  pub own : Option ℕ
  pub moment : Moment
  -- the parameters of the loops and the indexes of the quantified expressions around it, innermost first
  pub parameters : List Parameter
