-- The frame of the services of the IP address, and LLDP after it.
use Rattle.std.proofs.Common.{◌++◌, ◌∷◌, ℕ, Bool, List, [], map, ap, ◌∙◌, append_assoc}
use Rattle.std.specs.Prelude.{if◌then◌else◌}
use Rattle.arrayvec.specs.ArrayVec.{ArrayVec}
use Rattle.lldp.specs.Announcement.{announcement}
use Rattle.lldp.specs.State.{is_sending}
use Rattle.services.specs.State as ip
use Rattle.controller_station.specs.Beside.{Beside, said_of}
use Rattle.controller_station.proofs.beside.ControllerServices.tick.Goals as goal

pub returns-clause-frames : goal.returns-clause-frames
returns-clause-frames c =
    let all = c.self.inside in
    let here : Beside = record { ip = all.ip; near = all.near; name = all.name } in
    let last : Bool → Beside → List (List ℕ) = λ b state. if b then announcement (said_of state) ∷ [] else [] in
    let with : ip.State → Beside = λ s. record here { ip = s } in
    let old = map (λ (frame : ArrayVec ℕ). frame.items) c.args.outbox.now.items in
    let new = map (λ (frame : ArrayVec ℕ). frame.items) c.tick.new.outbox.items in
    let sent = ip.frames_in (ip.sent_by_tick all.ip) in
    let due = is_sending all.near in
    c.announce_if.ensures
    ∙ (ap (λ (s : ip.State). new ++ last c.is_sending-announces.result (with s)) c.tick.ensures.state
    ∙ (ap (λ (b : Bool). new ++ last b here) c.is_sending-announces.ensures
    ∙ (ap (λ (frames : List (List ℕ)). frames ++ last due here) c.tick.ensures.frame
    ∙ (append_assoc old sent (last due here)
    ∙ ap (λ (s : Beside). old ++ (ip.frames_in (ip.sent_by_tick s.ip) ++ last (is_sending s.near) s)) c.self.view_is))))
