-- It waits for the application, or the event is refused.
use Rattle.std.proofs.Common.{◌≡◌, true, false, map, refl, sym, ap, ◌∙◌}
use Rattle.relations.specs.Plugging.{is_readied_in}
use Rattle.device_frames.specs.Sent.{bytes_of}
use Rattle.device_core.proofs.Changing.{ready_called, ready_refused}
use Rattle.device_core.proofs.Sendable.{none_sendable}
use Rattle.device_core.proofs.device.Device.get_ready_at.Goals as goal

pub returns-then-not-get_ready_at-clause-state : goal.returns-then-not-get_ready_at-clause-state
returns-then-not-get_ready_at-clause-state g c =
    let old = c.args.self.now in
    let none : is_readied_in c.args.slot c.args.subslot old.live.rest.link ≡ false = rw (← c.self.view_is) (sym c.get_ready_at.ensures.done ∙ c.if-not-get_ready_at.true) in
    let it = ready_refused old.station old.live c.args.slot c.args.subslot none in
    rw it (rw (← c.self.view_is) (rw (c.get_ready_at.ensures.same c.if-not-get_ready_at.true) refl))

pub returns-then-not-get_ready_at-clause-frames : goal.returns-then-not-get_ready_at-clause-frames
returns-then-not-get_ready_at-clause-frames g c =
    let old = c.args.self.now in
    let none : is_readied_in c.args.slot c.args.subslot old.live.rest.link ≡ false = rw (← c.self.view_is) (sym c.get_ready_at.ensures.done ∙ c.if-not-get_ready_at.true) in
    let it = ready_refused old.station old.live c.args.slot c.args.subslot none in
    ap (map (λ frame. frame.items)) c.requires.empty ∙ sym (ap (λ e. map (bytes_of old.station.identity) e.sent) it)

pub returns-then-not-get_ready_at-clause-sendable : goal.returns-then-not-get_ready_at-clause-sendable
returns-then-not-get_ready_at-clause-sendable g c =
    let old = c.args.self.now in
    let none : is_readied_in c.args.slot c.args.subslot old.live.rest.link ≡ false = rw (← c.self.view_is) (sym c.get_ready_at.ensures.done ∙ c.if-not-get_ready_at.true) in
    let it = ready_refused old.station old.live c.args.slot c.args.subslot none in
    none_sendable old.station.identity _ (ap (λ e. e.sent) it)

pub returns-then-not-get_ready_at-clause-note : goal.returns-then-not-get_ready_at-clause-note
returns-then-not-get_ready_at-clause-note g c =
    let old = c.args.self.now in
    let none : is_readied_in c.args.slot c.args.subslot old.live.rest.link ≡ false = rw (← c.self.view_is) (sym c.get_ready_at.ensures.done ∙ c.if-not-get_ready_at.true) in
    let it = ready_refused old.station old.live c.args.slot c.args.subslot none in
    sym (ap (λ e. e.note) it)

pub returns-clause-state : goal.returns-clause-state
returns-clause-state g c =
    let old = c.args.self.now in
    let is : is_readied_in c.args.slot c.args.subslot old.live.rest.link ≡ true = rw (← c.self.view_is) (sym c.get_ready_at.ensures.done ∙ c.if-not-get_ready_at.false) in
    let it = ready_called old.station old.live c.args.slot c.args.subslot is in
    rw it (rw (← c.self.view_is) (rw (c.call_next.ensures.state, c.get_ready_at.ensures.state) refl))

pub returns-clause-frames : goal.returns-clause-frames
returns-clause-frames g c =
    let old = c.args.self.now in
    let is : is_readied_in c.args.slot c.args.subslot old.live.rest.link ≡ true = rw (← c.self.view_is) (sym c.get_ready_at.ensures.done ∙ c.if-not-get_ready_at.false) in
    let it = ready_called old.station old.live c.args.slot c.args.subslot is in
    rw it (rw (← c.self.view_is) (rw (c.requires.empty, c.get_ready_at.ensures.state) at c.call_next.ensures.frames))

pub returns-clause-sendable : goal.returns-clause-sendable
returns-clause-sendable g c =
    let old = c.args.self.now in
    let is : is_readied_in c.args.slot c.args.subslot old.live.rest.link ≡ true = rw (← c.self.view_is) (sym c.get_ready_at.ensures.done ∙ c.if-not-get_ready_at.false) in
    let it = ready_called old.station old.live c.args.slot c.args.subslot is in
    rw it (rw (← c.self.view_is) (rw c.get_ready_at.ensures.state at c.call_next.ensures.sendable))

pub returns-clause-note : goal.returns-clause-note
returns-clause-note g c =
    let old = c.args.self.now in
    let is : is_readied_in c.args.slot c.args.subslot old.live.rest.link ≡ true = rw (← c.self.view_is) (sym c.get_ready_at.ensures.done ∙ c.if-not-get_ready_at.false) in
    let it = ready_called old.station old.live c.args.slot c.args.subslot is in
    c.call_next.ensures.note ∙ sym (ap (λ e. e.note) it)
