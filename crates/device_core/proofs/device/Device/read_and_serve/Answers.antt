-- A request that cannot be read is refused.
use Rattle.std.proofs.Common.{ap, map, refl}
use Rattle.device_frames.specs.declared.note.Note.TheVariants.{Fault}
use Rattle.device_frames.specs.Heard.{Unreadable}
use Rattle.device_core.proofs.Steps.{refuses_steps}
use Rattle.device_core.proofs.device.Device.read_and_serve.Goals as goal

pub returns-in-Err-clause-steps : goal.returns-in-Err-clause-steps
returns-in-Err-clause-steps g c = rw (rw c.in-Err.is at c.read_request.ensures.exact)
    (refuses_steps g.F.Flash c.args.self.now Unreadable Fault _ _ c.requires.stored refl (ap (map (λ frame. frame.items)) c.requires.empty) refl)
