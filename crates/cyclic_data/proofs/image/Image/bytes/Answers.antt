-- The first octets of the image.
use Rattle.cyclic_data.proofs.Frames.{frame_of}
use Rattle.cyclic_data.proofs.EachOctet.{octets_are}
use Rattle.cyclic_data.proofs.image.Image.bytes.Goals as goal

pub returns-clause-value : goal.returns-clause-value
returns-clause-value c = octets_are c.self.inside.laid_out.data_length c.self.inside.laid_out.places.items c.self.inside.laid_out.octets c.args.self.now c.self.view_is c.self.invariant

pub returns-clause-frame : goal.returns-clause-frame
returns-clause-frame c = frame_of c.self.inside.laid_out.data_length c.self.inside.laid_out.places.items c.self.inside.laid_out.octets c.args.self.now c.self.view_is c.self.invariant
