-- Zeros at the places of the layout.
use Rattle.std.proofs.Common.{sym}
use Rattle.cyclic_data.proofs.Frames.{new_shown}
use Rattle.cyclic_data.proofs.received.ReceivedImage.start.Goals as goal

pub returns : goal.returns
returns c = new_shown _ _ c.start.new.self.octets c.args.layout.now (sym c.start.ensures.places) c.start.ensures.octets c.start.ensures.table
