-- The levels of the brackets that are open.
use Rattle.std.specs.Prelude.{List, [], ◌∷◌, ◌++◌, map, reverse}
use Rattle.term_reader.specs.Operators.{build}
use Rattle.term_reader.specs.Reads.{tree}
use Rattle.term_reader.specs.Trees.{Tree, Level, level}
use Rattle.term_reader.specs.declared.frames.Frame.{Frame}
use Rattle.term_reader.specs.declared.frames.Frames.{Frames}

abbrev pub level_of : Frame → Level
level_of f = level (build f.operator) (map tree f.parts)

-- the innermost first
abbrev pub levels : Frames → List Level
levels s = map level_of (reverse s.frames)

abbrev pub with_part : Level → Tree → Level
with_part (level o ts) t = level o (ts ++ t ∷ [])
