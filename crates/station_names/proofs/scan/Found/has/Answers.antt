-- The first label decides, and each text has one.
use Rattle.station_names.proofs.Labels.{some_labels}
use Rattle.station_names.proofs.scan.Found.has.Goals as goal

pub returns-in-PortForm : goal.returns-in-PortForm
returns-in-PortForm c = λ bytes found. rw c.in-PortForm.is (found.seen.port (some_labels bytes))
