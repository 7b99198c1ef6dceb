use Rattle.std.proofs.Common.{◌≡◌, ◌≤◌, ◌++◌, List, drop, length}
use Rattle.ada_tree.specs.Moves.{takes}
use Rattle.ada_tree.specs.Trees.{parts_of}
use Rattle.ada_tree.specs.declared.weave.Move.{Move}
use Rattle.ada_tree.proofs.building.parts_of.Given as goal

-- the moves that are done, and their parts
abbrev pub invariant-loop-last : goal.invariant-loop-last
invariant-loop-last l =
    (l.left ≡ takes l.moves)
    × (l.left ≤ length l.tokens)
    × ((done : List Move) × (l.moves ++ done ≡ l.initial.moves) × (l.parts ≡ parts_of done (drop l.left l.tokens)))

abbrev pub decreases-loop-last : goal.decreases-loop-last
decreases-loop-last l = length l.moves
