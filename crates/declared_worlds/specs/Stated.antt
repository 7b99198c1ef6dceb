-- What identifiers stand for, where anything is known of that, is what stands in the world.
use Rattle.name_library.specs.declared.links.Link.{Link}
use Rattle.type_base.specs.declared.entities.Entity.{Entity}
use Rattle.type_base.specs.declared.entities.Entity.TheVariants as entity
use Rattle.type_base.specs.declared.world.World.{World}
use Rattle.type_base.specs.Standard.{linked}
use Rattle.typing_laws.specs.Declared.{IsStated}

-- A subprogram's number is its place among those of the program; a subprogram within another, which the rules of names refuse, is none of them.
abbrev pub StatedOrUnknown : World → Entity → Type 0
StatedOrUnknown w entity.Unknown = Unit {0}
StatedOrUnknown w (entity.Routine q) = Unit {0}
StatedOrUnknown w e = IsStated w e

-- an identifier of each link, of Standard's too
abbrev pub AllStated : World → Type 0
AllStated w = (l : Link) → StatedOrUnknown w (linked w l)
