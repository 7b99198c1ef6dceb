use Rattle.std.proofs.Common.{◌<◌, ◌≤◌, vec_len}
use Rattle.std.specs.Io.KnownBytes.{Consumes}
use Rattle.keeper_io.proofs.file_keeper.read_whole.Given as goal

-- the bytes are those that were read of the file
abbrev pub invariant-loop : goal.invariant-loop
invariant-loop g l =
    (0 < vec_len l.step)
    × (vec_len l.bytes ≤ l.most)
    × Consumes (g.F.Read.remaining l.initial.file) (g.F.Read.remaining l.file) l.bytes.items
