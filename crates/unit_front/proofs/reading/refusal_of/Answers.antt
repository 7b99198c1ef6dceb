use Rattle.unit_front.proofs.Refusals.{refusals_are_told}
use Rattle.unit_front.proofs.reading.refusal_of.Goals as goal

pub code_of-requires : goal.code_of-requires
code_of-requires c = refusals_are_told c.args.text.now c.args.refusal c.requires.refused
