-- This follows from the proofs of the formats.
use Rattle.services.proofs.Sound.{echo_sound}
use Rattle.services.proofs.law.echo_formats_are_sound.Goals as goal

pub returns : goal.returns
returns c = echo_sound
