use Rattle.unit_front.proofs.reading.place_in.Goals as goal

pub returns-clause-place : goal.returns-clause-place
returns-clause-place c = c.place.ensures.place c.args.bytes.now c.requires

pub returns-clause-within : goal.returns-clause-within
returns-clause-within c = c.place.ensures.within c.args.bytes.now c.requires
