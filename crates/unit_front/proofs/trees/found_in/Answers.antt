use Rattle.std.proofs.Common.{length}
use Rattle.unit_front.specs.Reading.{texts_of}
use Rattle.unit_front.proofs.Leading.{ended, turn}
use Rattle.unit_front.proofs.trees.found_in.Goals as goal

pub loop-files-preserved : goal.loop-files-preserved
loop-files-preserved c =
    turn (texts_of c.args.files.now) (length c.args.files.now) c.loop-files.files.now c.loop-files.found c.note.new.self c.loop-files.number c.as_slice.result.now c.file-item.result
    c.in_ok-read_file.field-0 c.in-len1-up.len_at_least c.file-item.is c.as_slice.ensures c.in_ok-read_file.ensures c.in_ok-note.ensures c.loop-files.invariant

pub returns : goal.returns
returns c = ended (texts_of c.args.files.now) c.loop-files.found c.loop-files.number c.loop-files.files.now c.in_default.len_below c.loop-files.invariant.0
