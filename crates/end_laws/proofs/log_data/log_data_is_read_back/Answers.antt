-- Each field at its place.
use Rattle.end_laws.proofs.LogReading.{read_back}
use Rattle.end_laws.proofs.log_data.log_data_is_read_back.Goals as goal

pub returns : goal.returns
returns c = read_back
