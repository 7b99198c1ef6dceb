use Rattle.gnatprove_core.proofs.Ending.{short_all}
use Rattle.gnatprove_core.proofs.Reading.{accepted_are_read}
use Rattle.gnatprove_core.proofs.program.answer_read.Goals as goal

pub accept-requires-clause-short : goal.accept-requires-clause-short
accept-requires-clause-short c = short_all c.args.files.now c.requires.short

pub returns-in-Ok : goal.returns-in-Ok
returns-in-Ok c =
    accepted_are_read c.args.files.now c.as_slice.result.now c.in-Ok.program.files c.in-Ok.program.program c.answer_trees.result
    c.in-Ok.ensures.typed c.as_slice.ensures c.answer_trees.ensures
