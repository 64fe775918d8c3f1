-- The application is ready: it is refused, or ApplicationReady is sent.
use Rattle.std.proofs.Common.{◌≡◌, true, false, map, refl, sym, ap, ◌∙◌}
use Rattle.relations.specs.RelationState.{is_preparing, phase_of}
use Rattle.device_frames.specs.Sent.{bytes_of}
use Rattle.device_core.proofs.Exchanged.{ready_counts, ready_refused}
use Rattle.device_core.proofs.Sendable.{none_sendable}
use Rattle.device_core.proofs.device.Device.get_ready.Goals as goal

pub returns-then-not-get_ready-clause-frames : goal.returns-then-not-get_ready-clause-frames
returns-then-not-get_ready-clause-frames g c =
    let old = c.args.self.now in
    let none : is_preparing (phase_of old.live.rest.link) ≡ false = rw (← c.self.view_is) (sym c.get_ready.ensures.done ∙ c.if-not-get_ready.true) in
    ap (map (λ frame. frame.items)) c.requires.empty ∙ sym (ap (λ e. map (bytes_of old.station.identity) e.sent) (ready_refused old.station old.live none))

pub returns-then-not-get_ready-clause-state : goal.returns-then-not-get_ready-clause-state
returns-then-not-get_ready-clause-state g c =
    let old = c.args.self.now in
    let none : is_preparing (phase_of old.live.rest.link) ≡ false = rw (← c.self.view_is) (sym c.get_ready.ensures.done ∙ c.if-not-get_ready.true) in
    rw (ready_refused old.station old.live none) (rw (← c.self.view_is) (rw (c.get_ready.ensures.refused c.if-not-get_ready.true) refl))

pub returns-then-not-get_ready-clause-note : goal.returns-then-not-get_ready-clause-note
returns-then-not-get_ready-clause-note g c =
    let old = c.args.self.now in
    let none : is_preparing (phase_of old.live.rest.link) ≡ false = rw (← c.self.view_is) (sym c.get_ready.ensures.done ∙ c.if-not-get_ready.true) in
    sym (ap (λ e. e.note) (ready_refused old.station old.live none))

pub returns-then-not-get_ready-clause-sendable : goal.returns-then-not-get_ready-clause-sendable
returns-then-not-get_ready-clause-sendable g c =
    let old = c.args.self.now in
    let none : is_preparing (phase_of old.live.rest.link) ≡ false = rw (← c.self.view_is) (sym c.get_ready.ensures.done ∙ c.if-not-get_ready.true) in
    none_sendable old.station.identity _ (ap (λ e. e.sent) (ready_refused old.station old.live none))

pub returns-clause-state : goal.returns-clause-state
returns-clause-state g c =
    let old = c.args.self.now in
    let waits : is_preparing (phase_of old.live.rest.link) ≡ true = rw (← c.self.view_is) (sym c.get_ready.ensures.done ∙ c.if-not-get_ready.false) in
    rw (ready_counts old.station old.live waits) (rw (← c.self.view_is) (rw c.get_ready.ensures.state refl))

pub returns-clause-frames : goal.returns-clause-frames
returns-clause-frames g c =
    let old = c.args.self.now in
    let waits : is_preparing (phase_of old.live.rest.link) ≡ true = rw (← c.self.view_is) (sym c.get_ready.ensures.done ∙ c.if-not-get_ready.false) in
    rw (ready_counts old.station old.live waits) (rw (← c.self.view_is) (rw (c.requires.empty, c.address-address.ensures.value, c.running.ensures, c.get_ready.ensures.state) at c.send_ready.ensures.frames))

pub returns-clause-note : goal.returns-clause-note
returns-clause-note g c =
    let old = c.args.self.now in
    let waits : is_preparing (phase_of old.live.rest.link) ≡ true = rw (← c.self.view_is) (sym c.get_ready.ensures.done ∙ c.if-not-get_ready.false) in
    sym (ap (λ e. e.note) (ready_counts old.station old.live waits))

pub returns-clause-sendable : goal.returns-clause-sendable
returns-clause-sendable g c =
    let old = c.args.self.now in
    let waits : is_preparing (phase_of old.live.rest.link) ≡ true = rw (← c.self.view_is) (sym c.get_ready.ensures.done ∙ c.if-not-get_ready.false) in
    rw (ready_counts old.station old.live waits) (rw (← c.self.view_is) (rw (c.address-address.ensures.value, c.running.ensures, c.get_ready.ensures.state) at c.send_ready.ensures.sendable))
