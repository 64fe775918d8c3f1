-- Real-time data concerns nothing that is beside a controller.
use Rattle.std.proofs.Common.{Bool, refl, sym, ap}
use Rattle.std.specs.Prelude.{if◌then◌else◌}
use Rattle.services.specs.State.{frames_in}
use Rattle.controller_station.specs.Beside.{is_real_time, met, overheard}
use Rattle.controller_station.proofs.RealTime.{real_time_unanswered}
use Rattle.controller_station.proofs.beside.ControllerServices.hear.Goals as goal

pub returns-in-Some-clause-state : goal.returns-in-Some-clause-state
returns-in-Some-clause-state c =
    let beside = c.args.self.now in
    let bytes = c.args.bytes.now in
    sym (ap (λ (b : Bool). if b then beside else overheard (met beside bytes) bytes) (ap is_real_time c.in-Some.ensures.found))

pub returns-in-Some-clause-frames : goal.returns-in-Some-clause-frames
returns-in-Some-clause-frames c = rw c.requires.empty (sym (ap frames_in (real_time_unanswered c.args.self.now.ip c.args.bytes.now _ _ _ c.in-Some.ensures.found refl)))
