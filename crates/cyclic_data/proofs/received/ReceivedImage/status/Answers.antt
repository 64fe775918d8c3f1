-- The status of the cell.
use Rattle.std.proofs.Common.{◌∙◌, refl}
use Rattle.cyclic_data.proofs.Taken.{status_seen}
use Rattle.cyclic_data.proofs.received.ReceivedImage.status.Goals as goal

pub returns : goal.returns
returns c =
    c.status.ensures ∙ status_seen c.self.inside.laid_out.octets c.args.kind c.args.slot c.args.subslot c.self.inside.laid_out.places.items _ refl c.self.inside.laid_out.data_length c.args.self.now c.self.view_is
