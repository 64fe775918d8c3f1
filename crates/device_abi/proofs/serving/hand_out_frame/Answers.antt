-- A frame of the device is handed out.
use Rattle.std.proofs.Common.{◌≡◌, ◌∙◌, ℕ, refl, ap, subst}
use Rattle.std.specs.Prelude.{option_map}
use Rattle.c_layout.specs.declared.op.Op.{Op}
use Rattle.device_abi.specs.Serves.{with_frame}
use Rattle.device_station.specs.port.State.{IsFirst}
use Rattle.device_station.specs.port.Served.{frames_of, waiting_both}
use Rattle.device_abi.proofs.Reported.{handed_frame}
use Rattle.device_abi.proofs.serving.hand_out_frame.Goals as goal

pub returns-in-Some : goal.returns-in-Some
returns-in-Some c =
    let port = c.args.port.now in
    let new = c.fetch_frame.follows.lender-at-none in
    let fetched = c.fetch_frame.follows.holds-at-none in
    let frame = c.in-Some.frame.now.items in
    let first = subst (λ r. IsFirst (frames_of port) (option_map (λ frame. frame.now.items) r)) c.in-Some.is fetched.0 in
    let asked : Op = record c.args.op.now { more = waiting_both new } in
    let told : c.tell_frame.new.op ≡ with_frame frame asked = c.tell_frame.ensures.reported ∙ ap (λ (m : ℕ). with_frame frame (record c.args.op.now { more = m })) fetched.2 in
    let handed = handed_frame port.port.calls (frames_of port) frame first.0 asked c.tell_frame.result.now c.tell_frame.new.op c.requires.calls first.1 c.tell_frame.ensures.octets told in
    ((refl, (λ _. tt), (handed, fetched.1)), tt)
