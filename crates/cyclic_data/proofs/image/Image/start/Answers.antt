-- Zeros at the places of the layout.
use Rattle.std.proofs.Common.{sym}
use Rattle.cyclic_data.proofs.Frames.{new_image, new_shown}
use Rattle.cyclic_data.proofs.image.Image.start.Goals as goal

pub invariant_of-self : goal.invariant_of-self
invariant_of-self c = new_image _ _ c.start.new.self.octets c.start.ensures.octets c.start.ensures.table

pub returns : goal.returns
returns c = new_shown _ _ c.start.new.self.octets c.args.layout.now (sym c.start.ensures.places) c.start.ensures.octets c.start.ensures.table
