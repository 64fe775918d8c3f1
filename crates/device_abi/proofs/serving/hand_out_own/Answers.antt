-- A frame of the services is handed out, or nothing.
use Rattle.std.proofs.Common.{◌≡◌, ◌≤◌, ◌∙◌, ℕ, length, refl, ap, subst}
use Rattle.std.specs.Prelude.{IfSome, option_map}
use Rattle.c_layout.specs.declared.op.Op.{Op}
use Rattle.device_abi.specs.Serves.{with_frame, with_nothing}
use Rattle.device_station.specs.port.State.{IsFirst}
use Rattle.device_station.specs.port.Served.{frames_of, waiting_both}
use Rattle.device_abi.proofs.Reported.{handed_frame, handed_nothing}
use Rattle.device_abi.proofs.serving.hand_out_own.Goals as goal

pub tell_octets-requires : goal.tell_octets-requires
tell_octets-requires c = subst (λ r. IfSome r (λ octets. length octets.now ≤ 1518)) c.in-Some.is c.fetch_own.ensures.short

pub returns-in-Some : goal.returns-in-Some
returns-in-Some c =
    let port = c.args.port.now in
    let new = c.fetch_own.follows.lender-at-none in
    let fetched = c.fetch_own.follows.holds-at-none in
    let frame = c.in-Some.octets.now in
    let first = subst (λ r. IsFirst (frames_of port) (option_map (λ octets. octets.now) r)) c.in-Some.is fetched.0 in
    let asked : Op = record c.args.op.now { more = waiting_both new } in
    let told : c.tell_octets.new.op ≡ with_frame frame asked = c.tell_octets.ensures.reported ∙ ap (λ (m : ℕ). with_frame frame (record c.args.op.now { more = m })) fetched.2 in
    let handed = handed_frame port.port.calls (frames_of port) frame first.0 asked c.tell_octets.result.now c.tell_octets.new.op c.requires.calls first.1 c.tell_octets.ensures.octets told in
    ((refl, (λ _. tt), (handed, fetched.1)), tt)

pub returns-in-None : goal.returns-in-None
returns-in-None c =
    let port = c.args.port.now in
    let new = c.fetch_own.follows.lender-at-none in
    let fetched = c.fetch_own.follows.holds-at-none in
    let none = subst (λ r. IsFirst (frames_of port) (option_map (λ octets. octets.now) r)) c.in-None.is fetched.0 in
    let asked : Op = record c.args.op.now { more = waiting_both new } in
    let told = c.tell_nothing.ensures.reported ∙ ap (λ (m : ℕ). with_nothing (record c.args.op.now { more = m })) fetched.2 in
    let handed = handed_nothing port.port.calls (frames_of port) asked c.tell_nothing.result.now c.tell_nothing.new.op c.requires.calls none c.tell_nothing.ensures.octets told in
    ((refl, (λ _. tt), (handed, fetched.1)), tt)
