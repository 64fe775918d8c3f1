-- It may be the answer to an ApplicationReady, or, while data is exchanged, to that of a plug.
use Rattle.std.proofs.Common.{◌≡◌, true, false, sym, ap, subst, ◌∙◌}
use Rattle.std.proofs.lemmas.Bool.{cond-true, cond-false}
use Rattle.relations.specs.RelationState.{is_in_exchange}
use Rattle.device_core.specs.Behind.{CanSend, behind, frames_of, plug_responded, ready_responded, responded}
use Rattle.device_core.specs.Handled.{Handled}
use Rattle.device_core.specs.Machine.{end_of}
use Rattle.device_core.proofs.device.Device.hear_response.Goals as goal

pub returns-then-is_in_exchange-clause-state : goal.returns-then-is_in_exchange-clause-state
returns-then-is_in_exchange-clause-state g c =
    let old = c.args.self.now in
    let is : is_in_exchange old.live.rest.link ≡ true = sym c.is_in_exchange.ensures ∙ c.if-is_in_exchange.true in
    let one : responded old c.args.response.now ≡ plug_responded old c.args.response.now = cond-true _ _ _ is in
    c.hear_plug_response.ensures.state ∙ ap (behind old) (sym one)

pub returns-then-is_in_exchange-clause-frames : goal.returns-then-is_in_exchange-clause-frames
returns-then-is_in_exchange-clause-frames g c =
    let old = c.args.self.now in
    let is : is_in_exchange old.live.rest.link ≡ true = sym c.is_in_exchange.ensures ∙ c.if-is_in_exchange.true in
    let one : responded old c.args.response.now ≡ plug_responded old c.args.response.now = cond-true _ _ _ is in
    c.hear_plug_response.ensures.frames ∙ ap (frames_of old) (sym one)

pub returns-then-is_in_exchange-clause-sendable : goal.returns-then-is_in_exchange-clause-sendable
returns-then-is_in_exchange-clause-sendable g c =
    let old = c.args.self.now in
    let is : is_in_exchange old.live.rest.link ≡ true = sym c.is_in_exchange.ensures ∙ c.if-is_in_exchange.true in
    let one : responded old c.args.response.now ≡ plug_responded old c.args.response.now = cond-true _ _ _ is in
    subst (CanSend old) (sym one) c.hear_plug_response.ensures.sendable

pub returns-then-is_in_exchange-clause-note : goal.returns-then-is_in_exchange-clause-note
returns-then-is_in_exchange-clause-note g c =
    let old = c.args.self.now in
    let is : is_in_exchange old.live.rest.link ≡ true = sym c.is_in_exchange.ensures ∙ c.if-is_in_exchange.true in
    let one : responded old c.args.response.now ≡ plug_responded old c.args.response.now = cond-true _ _ _ is in
    c.hear_plug_response.ensures.note ∙ ap (λ (h : Handled). (end_of old.station old.live h).note) (sym one)

pub returns-clause-state : goal.returns-clause-state
returns-clause-state g c =
    let old = c.args.self.now in
    let is : is_in_exchange old.live.rest.link ≡ false = sym c.is_in_exchange.ensures ∙ c.if-is_in_exchange.false in
    let one : responded old c.args.response.now ≡ ready_responded old c.args.response.now = cond-false _ _ _ is in
    c.hear_ready_response.ensures.state ∙ ap (behind old) (sym one)

pub returns-clause-frames : goal.returns-clause-frames
returns-clause-frames g c =
    let old = c.args.self.now in
    let is : is_in_exchange old.live.rest.link ≡ false = sym c.is_in_exchange.ensures ∙ c.if-is_in_exchange.false in
    let one : responded old c.args.response.now ≡ ready_responded old c.args.response.now = cond-false _ _ _ is in
    c.hear_ready_response.ensures.frames ∙ ap (frames_of old) (sym one)

pub returns-clause-sendable : goal.returns-clause-sendable
returns-clause-sendable g c =
    let old = c.args.self.now in
    let is : is_in_exchange old.live.rest.link ≡ false = sym c.is_in_exchange.ensures ∙ c.if-is_in_exchange.false in
    let one : responded old c.args.response.now ≡ ready_responded old c.args.response.now = cond-false _ _ _ is in
    subst (CanSend old) (sym one) c.hear_ready_response.ensures.sendable

pub returns-clause-note : goal.returns-clause-note
returns-clause-note g c =
    let old = c.args.self.now in
    let is : is_in_exchange old.live.rest.link ≡ false = sym c.is_in_exchange.ensures ∙ c.if-is_in_exchange.false in
    let one : responded old c.args.response.now ≡ ready_responded old c.args.response.now = cond-false _ _ _ is in
    c.hear_ready_response.ensures.note ∙ ap (λ (h : Handled). (end_of old.station old.live h).note) (sym one)
