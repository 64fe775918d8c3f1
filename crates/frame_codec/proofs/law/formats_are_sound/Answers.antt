-- This follows from the proofs of the formats.
use Rattle.frame_codec.proofs.Layers.{layers_sound, ethernet_sound}
use Rattle.frame_codec.proofs.law.formats_are_sound.Goals as goal

pub returns-clause-ethernet : goal.returns-clause-ethernet
returns-clause-ethernet c = ethernet_sound

pub returns-clause-layers : goal.returns-clause-layers
returns-clause-layers c = layers_sound
