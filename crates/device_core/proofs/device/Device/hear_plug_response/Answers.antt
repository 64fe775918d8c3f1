-- An answer that does not count is refused; after one that counts the next call is sent.
use Rattle.std.proofs.Common.{◌≡◌, map, refl, sym, ap, ◌∙◌}
use Rattle.rpc_core.specs.Response.{answered}
use Rattle.relations.specs.declared.plugging.PlugAnswer.{PlugAnswer}
use Rattle.relations.specs.declared.plugging.PlugAnswer.TheVariants as to_plug
use Rattle.relations.specs.Plugging.{plug_answer_in}
use Rattle.device_frames.specs.Sent.{bytes_of}
use Rattle.device_core.specs.Handled.{handled_plug_answer}
use Rattle.device_core.specs.Machine.{end_of}
use Rattle.device_core.proofs.Changing.{plug_garbled, plug_unwanted}
use Rattle.device_core.proofs.Sendable.{none_sendable}
use Rattle.device_core.proofs.device.Device.hear_plug_response.Goals as goal

pub returns-in-NotWanted-clause-state : goal.returns-in-NotWanted-clause-state
returns-in-NotWanted-clause-state g c =
    let old = c.args.self.now in
    let response = answered c.args.response.now in
    let inside : plug_answer_in response c.self.inside.relation ≡ to_plug.NotWanted = sym c.hear_plug_ready.ensures.heard ∙ c.in-NotWanted.is in
    let is : plug_answer_in response old.live.rest.link ≡ to_plug.NotWanted = rw (← c.self.view_is) inside in
    let it = ap (λ (heard : PlugAnswer). end_of old.station old.live (handled_plug_answer old.live response heard)) is in
    rw it (rw (← c.self.view_is) (rw (c.hear_plug_ready.ensures.state, plug_unwanted response c.self.inside.relation inside) refl))

pub returns-in-NotWanted-clause-frames : goal.returns-in-NotWanted-clause-frames
returns-in-NotWanted-clause-frames g c =
    let old = c.args.self.now in
    let response = answered c.args.response.now in
    let inside : plug_answer_in response c.self.inside.relation ≡ to_plug.NotWanted = sym c.hear_plug_ready.ensures.heard ∙ c.in-NotWanted.is in
    let is : plug_answer_in response old.live.rest.link ≡ to_plug.NotWanted = rw (← c.self.view_is) inside in
    let it = ap (λ (heard : PlugAnswer). end_of old.station old.live (handled_plug_answer old.live response heard)) is in
    ap (map (λ frame. frame.items)) c.requires.empty ∙ sym (ap (λ e. map (bytes_of old.station.identity) e.sent) it)

pub returns-in-NotWanted-clause-sendable : goal.returns-in-NotWanted-clause-sendable
returns-in-NotWanted-clause-sendable g c =
    let old = c.args.self.now in
    let response = answered c.args.response.now in
    let inside : plug_answer_in response c.self.inside.relation ≡ to_plug.NotWanted = sym c.hear_plug_ready.ensures.heard ∙ c.in-NotWanted.is in
    let is : plug_answer_in response old.live.rest.link ≡ to_plug.NotWanted = rw (← c.self.view_is) inside in
    let it = ap (λ (heard : PlugAnswer). end_of old.station old.live (handled_plug_answer old.live response heard)) is in
    none_sendable old.station.identity _ (ap (λ e. e.sent) it)

pub returns-in-NotWanted-clause-note : goal.returns-in-NotWanted-clause-note
returns-in-NotWanted-clause-note g c =
    let old = c.args.self.now in
    let response = answered c.args.response.now in
    let inside : plug_answer_in response c.self.inside.relation ≡ to_plug.NotWanted = sym c.hear_plug_ready.ensures.heard ∙ c.in-NotWanted.is in
    let is : plug_answer_in response old.live.rest.link ≡ to_plug.NotWanted = rw (← c.self.view_is) inside in
    let it = ap (λ (heard : PlugAnswer). end_of old.station old.live (handled_plug_answer old.live response heard)) is in
    sym (ap (λ e. e.note) it)

pub returns-in-Garbled-clause-state : goal.returns-in-Garbled-clause-state
returns-in-Garbled-clause-state g c =
    let old = c.args.self.now in
    let response = answered c.args.response.now in
    let inside : plug_answer_in response c.self.inside.relation ≡ to_plug.Garbled = sym c.hear_plug_ready.ensures.heard ∙ c.in-Garbled.is in
    let is : plug_answer_in response old.live.rest.link ≡ to_plug.Garbled = rw (← c.self.view_is) inside in
    let it = ap (λ (heard : PlugAnswer). end_of old.station old.live (handled_plug_answer old.live response heard)) is in
    rw it (rw (← c.self.view_is) (rw (c.hear_plug_ready.ensures.state, plug_garbled response c.self.inside.relation inside) refl))

pub returns-in-Garbled-clause-frames : goal.returns-in-Garbled-clause-frames
returns-in-Garbled-clause-frames g c =
    let old = c.args.self.now in
    let response = answered c.args.response.now in
    let inside : plug_answer_in response c.self.inside.relation ≡ to_plug.Garbled = sym c.hear_plug_ready.ensures.heard ∙ c.in-Garbled.is in
    let is : plug_answer_in response old.live.rest.link ≡ to_plug.Garbled = rw (← c.self.view_is) inside in
    let it = ap (λ (heard : PlugAnswer). end_of old.station old.live (handled_plug_answer old.live response heard)) is in
    ap (map (λ frame. frame.items)) c.requires.empty ∙ sym (ap (λ e. map (bytes_of old.station.identity) e.sent) it)

pub returns-in-Garbled-clause-sendable : goal.returns-in-Garbled-clause-sendable
returns-in-Garbled-clause-sendable g c =
    let old = c.args.self.now in
    let response = answered c.args.response.now in
    let inside : plug_answer_in response c.self.inside.relation ≡ to_plug.Garbled = sym c.hear_plug_ready.ensures.heard ∙ c.in-Garbled.is in
    let is : plug_answer_in response old.live.rest.link ≡ to_plug.Garbled = rw (← c.self.view_is) inside in
    let it = ap (λ (heard : PlugAnswer). end_of old.station old.live (handled_plug_answer old.live response heard)) is in
    none_sendable old.station.identity _ (ap (λ e. e.sent) it)

pub returns-in-Garbled-clause-note : goal.returns-in-Garbled-clause-note
returns-in-Garbled-clause-note g c =
    let old = c.args.self.now in
    let response = answered c.args.response.now in
    let inside : plug_answer_in response c.self.inside.relation ≡ to_plug.Garbled = sym c.hear_plug_ready.ensures.heard ∙ c.in-Garbled.is in
    let is : plug_answer_in response old.live.rest.link ≡ to_plug.Garbled = rw (← c.self.view_is) inside in
    let it = ap (λ (heard : PlugAnswer). end_of old.station old.live (handled_plug_answer old.live response heard)) is in
    sym (ap (λ e. e.note) it)

pub returns-in-Confirmed-clause-state : goal.returns-in-Confirmed-clause-state
returns-in-Confirmed-clause-state g c =
    let old = c.args.self.now in
    let response = answered c.args.response.now in
    let inside : plug_answer_in response c.self.inside.relation ≡ to_plug.Confirmed = sym c.hear_plug_ready.ensures.heard ∙ c.in-Confirmed.is in
    let is : plug_answer_in response old.live.rest.link ≡ to_plug.Confirmed = rw (← c.self.view_is) inside in
    let it = ap (λ (heard : PlugAnswer). end_of old.station old.live (handled_plug_answer old.live response heard)) is in
    rw it (rw (← c.self.view_is) (rw (c.call_next.ensures.state, c.hear_plug_ready.ensures.state) refl))

pub returns-in-Confirmed-clause-frames : goal.returns-in-Confirmed-clause-frames
returns-in-Confirmed-clause-frames g c =
    let old = c.args.self.now in
    let response = answered c.args.response.now in
    let inside : plug_answer_in response c.self.inside.relation ≡ to_plug.Confirmed = sym c.hear_plug_ready.ensures.heard ∙ c.in-Confirmed.is in
    let is : plug_answer_in response old.live.rest.link ≡ to_plug.Confirmed = rw (← c.self.view_is) inside in
    let it = ap (λ (heard : PlugAnswer). end_of old.station old.live (handled_plug_answer old.live response heard)) is in
    rw it (rw (← c.self.view_is) (rw (c.requires.empty, c.hear_plug_ready.ensures.state) at c.call_next.ensures.frames))

pub returns-in-Confirmed-clause-sendable : goal.returns-in-Confirmed-clause-sendable
returns-in-Confirmed-clause-sendable g c =
    let old = c.args.self.now in
    let response = answered c.args.response.now in
    let inside : plug_answer_in response c.self.inside.relation ≡ to_plug.Confirmed = sym c.hear_plug_ready.ensures.heard ∙ c.in-Confirmed.is in
    let is : plug_answer_in response old.live.rest.link ≡ to_plug.Confirmed = rw (← c.self.view_is) inside in
    let it = ap (λ (heard : PlugAnswer). end_of old.station old.live (handled_plug_answer old.live response heard)) is in
    rw it (rw (← c.self.view_is) (rw c.hear_plug_ready.ensures.state at c.call_next.ensures.sendable))

pub returns-in-Confirmed-clause-note : goal.returns-in-Confirmed-clause-note
returns-in-Confirmed-clause-note g c =
    let old = c.args.self.now in
    let response = answered c.args.response.now in
    let inside : plug_answer_in response c.self.inside.relation ≡ to_plug.Confirmed = sym c.hear_plug_ready.ensures.heard ∙ c.in-Confirmed.is in
    let is : plug_answer_in response old.live.rest.link ≡ to_plug.Confirmed = rw (← c.self.view_is) inside in
    let it = ap (λ (heard : PlugAnswer). end_of old.station old.live (handled_plug_answer old.live response heard)) is in
    c.call_next.ensures.note ∙ sym (ap (λ e. e.note) it)

pub returns-in-Refused-clause-state : goal.returns-in-Refused-clause-state
returns-in-Refused-clause-state g c =
    let old = c.args.self.now in
    let response = answered c.args.response.now in
    let inside : plug_answer_in response c.self.inside.relation ≡ to_plug.Refused = sym c.hear_plug_ready.ensures.heard ∙ c.in-Refused.is in
    let is : plug_answer_in response old.live.rest.link ≡ to_plug.Refused = rw (← c.self.view_is) inside in
    let it = ap (λ (heard : PlugAnswer). end_of old.station old.live (handled_plug_answer old.live response heard)) is in
    rw it (rw (← c.self.view_is) (rw (c.call_next-in-Refused.ensures.state, c.hear_plug_ready.ensures.state) refl))

pub returns-in-Refused-clause-frames : goal.returns-in-Refused-clause-frames
returns-in-Refused-clause-frames g c =
    let old = c.args.self.now in
    let response = answered c.args.response.now in
    let inside : plug_answer_in response c.self.inside.relation ≡ to_plug.Refused = sym c.hear_plug_ready.ensures.heard ∙ c.in-Refused.is in
    let is : plug_answer_in response old.live.rest.link ≡ to_plug.Refused = rw (← c.self.view_is) inside in
    let it = ap (λ (heard : PlugAnswer). end_of old.station old.live (handled_plug_answer old.live response heard)) is in
    rw it (rw (← c.self.view_is) (rw (c.requires.empty, c.hear_plug_ready.ensures.state) at c.call_next-in-Refused.ensures.frames))

pub returns-in-Refused-clause-sendable : goal.returns-in-Refused-clause-sendable
returns-in-Refused-clause-sendable g c =
    let old = c.args.self.now in
    let response = answered c.args.response.now in
    let inside : plug_answer_in response c.self.inside.relation ≡ to_plug.Refused = sym c.hear_plug_ready.ensures.heard ∙ c.in-Refused.is in
    let is : plug_answer_in response old.live.rest.link ≡ to_plug.Refused = rw (← c.self.view_is) inside in
    let it = ap (λ (heard : PlugAnswer). end_of old.station old.live (handled_plug_answer old.live response heard)) is in
    rw it (rw (← c.self.view_is) (rw c.hear_plug_ready.ensures.state at c.call_next-in-Refused.ensures.sendable))

pub returns-in-Refused-clause-note : goal.returns-in-Refused-clause-note
returns-in-Refused-clause-note g c =
    let old = c.args.self.now in
    let response = answered c.args.response.now in
    let inside : plug_answer_in response c.self.inside.relation ≡ to_plug.Refused = sym c.hear_plug_ready.ensures.heard ∙ c.in-Refused.is in
    let is : plug_answer_in response old.live.rest.link ≡ to_plug.Refused = rw (← c.self.view_is) inside in
    let it = ap (λ (heard : PlugAnswer). end_of old.station old.live (handled_plug_answer old.live response heard)) is in
    c.call_next-in-Refused.ensures.note ∙ sym (ap (λ e. e.note) it)
