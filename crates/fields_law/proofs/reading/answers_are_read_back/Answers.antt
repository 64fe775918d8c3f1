-- Each field at its place.
use Rattle.fields_law.proofs.ReadingAnswers.{end_is, entry_is, fack_is, freed_is}
use Rattle.fields_law.proofs.ReadingPacket.{no_call_is, reject_is}
use Rattle.fields_law.proofs.reading.answers_are_read_back.Goals as goal

pub returns : goal.returns
returns c = record { no_call = no_call_is; reject = reject_is; fack = fack_is; entry = entry_is; end = end_is; freed = freed_is }
