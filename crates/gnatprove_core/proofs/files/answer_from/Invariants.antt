use Rattle.std.proofs.Common.{◌≡◌, ◌+◌, length}
use Rattle.gnatprove_core.proofs.Getting.{Still}
use Rattle.gnatprove_core.proofs.files.answer_from.Given as goal

abbrev pub invariant-loop-names : goal.invariant-loop-names
invariant-loop-names g l =
    Still (g.K.Keeper.told l.initial.files) l.initial.names l.got l.names
    × (length l.got + length l.names ≡ length l.initial.names)
    × (g.K.Keeper.told l.files ≡ g.K.Keeper.told l.initial.files)
    × (g.K.Keeper.get_faults l.files ≡ g.K.Keeper.get_faults l.initial.files)
    × (g.K.Keeper.put_faults l.files ≡ g.K.Keeper.put_faults l.initial.files)

abbrev pub decreases-loop-names : goal.decreases-loop-names
decreases-loop-names g l = length l.names
