-- A datagram by its address, and then by its content.
use Rattle.std.proofs.Common.{◌≡◌, true, false, map, refl, sym, ap, ◌∙◌}
use Rattle.std.proofs.lemmas.Bool.{cond-true, cond-false}
use Rattle.rpc_core.specs.Call.{asked}
use Rattle.rpc_core.specs.Response.{answered}
use Rattle.device_frames.specs.declared.note.Note.TheVariants.{Fault, NotMine}
use Rattle.device_frames.specs.Heard.{Reported, Calls, Responds, Garbled, said_by}
use Rattle.device_core.specs.Handled.{is_running, handled_response, handled_said}
use Rattle.device_core.proofs.Handled.{response_asks_nothing}
use Rattle.device_core.proofs.Steps.{inactive_steps, refuses_steps}
use Rattle.device_core.proofs.device.Device.hear_datagram.Goals as goal

pub returns-then-not-is_running-clause-steps : goal.returns-then-not-is_running-clause-steps
returns-then-not-is_running-clause-steps g c =
    let here = c.args.self.now in
    let elsewhere : is_running here.live.values.running c.args.address ≡ false =
    rw (← c.self.view_is) (rw c.running.ensures at (sym c.is_running.ensures ∙ c.if-not-is_running.true)) in
    refuses_steps g.F.Flash here (Reported c.args.caller.now c.args.address (said_by c.args.body.now)) NotMine _ _ c.requires.stored
    (cond-false _ _ _ elsewhere) (ap (map (λ frame. frame.items)) c.requires.empty) refl

pub returns-in-Ok-clause-steps : goal.returns-in-Ok-clause-steps
unfolding said_by
returns-in-Ok-clause-steps g c =
    let here = c.args.self.now in
    let runs : is_running here.live.values.running c.args.address ≡ true =
    rw (← c.self.view_is) (rw c.running.ensures at (sym c.is_running.ensures ∙ c.if-not-is_running.false)) in
    let said : said_by c.args.body.now ≡ Calls (asked c.in-Ok.call) = rw c.in-Ok.ensures.exact refl in
    c.serve_call.ensures.steps (Reported c.args.caller.now c.args.address (said_by c.args.body.now))
    (cond-true _ _ _ runs ∙ ap (handled_said here.station here.live c.args.caller.now) said)

pub returns-in-Ok-read_response-clause-steps : goal.returns-in-Ok-read_response-clause-steps
unfolding said_by
returns-in-Ok-read_response-clause-steps g c =
    let here = c.args.self.now in
    let runs : is_running here.live.values.running c.args.address ≡ true =
    rw (← c.self.view_is) (rw c.running.ensures at (sym c.is_running.ensures ∙ c.if-not-is_running.false)) in
    let said : said_by c.args.body.now ≡ Responds (answered c.in-Ok-read_response.response) = rw (c.in-Err.ensures.exact, c.in-Ok-read_response.ensures.exact) refl in
    inactive_steps g.F.Flash here _ (Reported c.args.caller.now c.args.address (said_by c.args.body.now)) (handled_response here.station here.live (answered c.in-Ok-read_response.response)) _ _ c.requires.stored
    (cond-true _ _ _ runs ∙ ap (handled_said here.station here.live c.args.caller.now) said)
    (response_asks_nothing here.station here.live (answered c.in-Ok-read_response.response)) c.hear_response.ensures.state c.hear_response.ensures.frames c.hear_response.ensures.note c.hear_response.ensures.sendable

pub returns-in-Err-read_response-clause-steps : goal.returns-in-Err-read_response-clause-steps
unfolding said_by
returns-in-Err-read_response-clause-steps g c =
    let here = c.args.self.now in
    let runs : is_running here.live.values.running c.args.address ≡ true =
    rw (← c.self.view_is) (rw c.running.ensures at (sym c.is_running.ensures ∙ c.if-not-is_running.false)) in
    let said : said_by c.args.body.now ≡ Garbled = rw (c.in-Err.ensures.exact, c.in-Err-read_response.ensures.exact) refl in
    refuses_steps g.F.Flash here (Reported c.args.caller.now c.args.address (said_by c.args.body.now)) Fault _ _ c.requires.stored
    (cond-true _ _ _ runs ∙ ap (handled_said here.station here.live c.args.caller.now) said)
    (ap (map (λ frame. frame.items)) c.requires.empty) refl
