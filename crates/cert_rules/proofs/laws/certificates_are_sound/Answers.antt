-- The whole is one induction over the lines.
use Rattle.cert_rules.proofs.Sound.{certificates-sound}
use Rattle.cert_rules.proofs.laws.certificates_are_sound.Goals as goal

pub returns : goal.returns
returns c = certificates-sound
