-- This follows from the proofs of the formats.
use Rattle.lldp.proofs.Sound.{message_sound}
use Rattle.lldp.proofs.law.formats_are_sound.Goals as goal

pub returns : goal.returns
returns c = message_sound
