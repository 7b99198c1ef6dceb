use Rattle.sound_subtypes.proofs.Kept.{definition_is_sound, indicated_is_sound, object_subtype_is_sound}
use Rattle.sound_subtypes.proofs.laws.moduli_are_sound.Goals as goal

pub returns-clause-indications : goal.returns-clause-indications
returns-clause-indications c = indicated_is_sound

pub returns-clause-objects : goal.returns-clause-objects
returns-clause-objects c = object_subtype_is_sound

pub returns-clause-definitions : goal.returns-clause-definitions
returns-clause-definitions c = definition_is_sound
