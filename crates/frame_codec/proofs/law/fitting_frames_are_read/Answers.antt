-- This follows from the proofs of the formats.
use Rattle.frame_codec.proofs.Frames.{read_back}
use Rattle.frame_codec.proofs.Fitting.{datagram_is}
use Rattle.frame_codec.proofs.law.fitting_frames_are_read.Goals as goal

pub returns-clause-back : goal.returns-clause-back
returns-clause-back c = read_back

pub returns-clause-datagram : goal.returns-clause-datagram
returns-clause-datagram c = datagram_is
