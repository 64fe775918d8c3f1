-- Each field at its place.
use Rattle.fields_law.proofs.ReadingRecords.{input_read, output_read}
use Rattle.fields_law.proofs.listing.elements_are_read_back.Goals as goal

pub returns : goal.returns
returns c = record { input = input_read; output = output_read }
