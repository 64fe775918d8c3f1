-- Each cell is what the frame holds at its place.
use Rattle.std.proofs.Common.{take, refl, ap, arith}
use Rattle.cyclic_data.specs.Image.{Shown}
use Rattle.cyclic_data.proofs.Taken.{state_taken}
use Rattle.cyclic_data.proofs.received.ReceivedImage.accept.Goals as goal

pub returns : goal.returns
returns c =
    state_taken c.self.inside.laid_out.data_length c.self.inside.laid_out.places.items c.self.inside.laid_out.octets c.write_at.new.octets c.args.octets.now
    (take c.self.inside.laid_out.data_length c.args.octets.now) c.args.self.now c.self.view_is c.self.invariant c.write_at.ensures refl
    (omega (arith, c.requires, ap (λ (s : Shown). s.data_length) c.self.view_is))
