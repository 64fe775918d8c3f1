-- The frame of the services of the IP address, and LLDP after it.
use Rattle.std.proofs.Common.{◌++◌, ◌∷◌, ℕ, Bool, List, [], map, ap, ◌∙◌, append_assoc}
use Rattle.std.specs.Prelude.{if◌then◌else◌}
use Rattle.arrayvec.specs.ArrayVec.{ArrayVec}
use Rattle.lldp.specs.Announcement.{announcement}
use Rattle.services.specs.State as ip
use Rattle.device_station.specs.Serving.{Serving, announces, said_of}
use Rattle.device_station.proofs.device_services.DeviceServices.tick.Goals as goal

pub returns-clause-frames : goal.returns-clause-frames
returns-clause-frames c =
    let all = c.self.inside in
    let here : Serving = record { ip = all.ip; near = all.near; name = all.name; is_up = all.is_up; link = all.link; has_news = all.has_news; pieces = all.pieces } in
    let last : Bool → Serving → List (List ℕ) = λ b state. if b then announcement (said_of state) ∷ [] else [] in
    let with : ip.State → Serving = λ s. record here { ip = s } in
    let old = map (λ (frame : ArrayVec ℕ). frame.items) c.args.outbox.now.items in
    let new = map (λ (frame : ArrayVec ℕ). frame.items) c.tick.new.outbox.items in
    let sent = ip.frames_in (ip.sent_by_tick all.ip) in
    let due = announces c.args.self.now in
    c.announce_if.ensures
    ∙ (ap (λ (s : ip.State). new ++ last c.announces-announces.result (with s)) c.tick.ensures.state
    ∙ (ap (λ (b : Bool). new ++ last b here) c.announces-announces.ensures
    ∙ (ap (λ (frames : List (List ℕ)). frames ++ last due here) c.tick.ensures.frame
    ∙ (append_assoc old sent (last due here)
    ∙ ap (λ (s : Serving). old ++ (ip.frames_in (ip.sent_by_tick s.ip) ++ last due s)) c.self.view_is))))
