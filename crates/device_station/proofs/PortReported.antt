-- What is reported of a port.
use Rattle.std.proofs.Common.{◌≡◌, [], sym, ap, ◌∙◌}
use Rattle.device_station.specs.port.State.{State, IsNext, waiting, work_kind}
use Rattle.device_station.specs.declared.port.device.Work.{Work}
use Rattle.device_station.specs.declared.port.device.Work.TheVariants.{Nothing, Carry, Send}

-- The kind of the next piece of work.
pub kind_next : (port : State) (work : Work) → IsNext port work → work_kind work ≡ waiting port.calls port.frames
kind_next port Nothing idle = sym (ap (λ calls. waiting calls port.frames) idle.0 ∙ ap (waiting []) idle.1)
kind_next port (Carry call) next = sym (ap (λ calls. waiting calls port.frames) next.1)
kind_next port (Send frame) next = sym (ap (λ calls. waiting calls port.frames) next.0 ∙ ap (waiting []) next.1.1)
