-- An alarm is refused, or sent.
use Rattle.std.proofs.Common.{◌≡◌, true, false, map, is_some, refl, sym, ap, ◌∙◌}
use Rattle.relations.specs.Exchanged.{raised_to}
use Rattle.device_frames.specs.Sent.{bytes_of}
use Rattle.device_core.proofs.Exchanged.{notice_leaves, notice_refused, notice_raised}
use Rattle.device_core.proofs.Sendable.{none_sendable}
use Rattle.device_core.proofs.device.Device.raise.Goals as goal

pub returns-then-not-raise-clause-frames : goal.returns-then-not-raise-clause-frames
returns-then-not-raise-clause-frames g c =
    let old = c.args.self.now in
    let flow = raised_to old.live.rest.real.modules.items c.args.slot c.args.subslot c.args.octets.now old.live.rest.link in
    let none : is_some flow ≡ false = rw (← c.self.view_is) (sym c.raise.ensures.done ∙ c.if-not-raise.true) in
    ap (map (λ frame. frame.items)) c.requires.empty ∙ sym (ap (λ e. map (bytes_of old.station.identity) e.sent) (notice_refused old.station old.live flow none))

pub returns-then-not-raise-clause-state : goal.returns-then-not-raise-clause-state
returns-then-not-raise-clause-state g c =
    let old = c.args.self.now in
    let flow = raised_to old.live.rest.real.modules.items c.args.slot c.args.subslot c.args.octets.now old.live.rest.link in
    let none : is_some flow ≡ false = rw (← c.self.view_is) (sym c.raise.ensures.done ∙ c.if-not-raise.true) in
    rw (notice_leaves old.station old.live flow none) (rw (← c.self.view_is) (rw c.raise.ensures.state refl))

pub returns-clause-state : goal.returns-clause-state
returns-clause-state g c =
    let old = c.args.self.now in
    let flow = raised_to old.live.rest.real.modules.items c.args.slot c.args.subslot c.args.octets.now old.live.rest.link in
    let some : is_some flow ≡ true = rw (← c.self.view_is) (sym c.raise.ensures.done ∙ c.if-not-raise.false) in
    rw (notice_raised old.station old.live flow some) (rw (← c.self.view_is) (rw c.raise.ensures.state refl))

pub returns-clause-frames : goal.returns-clause-frames
returns-clause-frames g c =
    let old = c.args.self.now in
    let flow = raised_to old.live.rest.real.modules.items c.args.slot c.args.subslot c.args.octets.now old.live.rest.link in
    let some : is_some flow ≡ true = rw (← c.self.view_is) (sym c.raise.ensures.done ∙ c.if-not-raise.false) in
    rw (notice_raised old.station old.live flow some) (rw (← c.self.view_is) (rw (c.requires.empty, c.raise.ensures.state) at c.send_alarm.ensures.frames))

pub returns-clause-note : goal.returns-clause-note
returns-clause-note g c =
    let old = c.args.self.now in
    let flow = raised_to old.live.rest.real.modules.items c.args.slot c.args.subslot c.args.octets.now old.live.rest.link in
    let some : is_some flow ≡ true = rw (← c.self.view_is) (sym c.raise.ensures.done ∙ c.if-not-raise.false) in
    sym (ap (λ e. e.note) (notice_raised old.station old.live flow some))

pub returns-then-not-raise-clause-sendable : goal.returns-then-not-raise-clause-sendable
returns-then-not-raise-clause-sendable g c =
    let old = c.args.self.now in
    let flow = raised_to old.live.rest.real.modules.items c.args.slot c.args.subslot c.args.octets.now old.live.rest.link in
    let none : is_some flow ≡ false = rw (← c.self.view_is) (sym c.raise.ensures.done ∙ c.if-not-raise.true) in
    none_sendable old.station.identity _ (ap (λ e. e.sent) (notice_refused old.station old.live flow none))

pub returns-clause-sendable : goal.returns-clause-sendable
returns-clause-sendable g c =
    let old = c.args.self.now in
    let flow = raised_to old.live.rest.real.modules.items c.args.slot c.args.subslot c.args.octets.now old.live.rest.link in
    let some : is_some flow ≡ true = rw (← c.self.view_is) (sym c.raise.ensures.done ∙ c.if-not-raise.false) in
    rw (notice_raised old.station old.live flow some) (rw (← c.self.view_is) (rw c.raise.ensures.state at c.send_alarm.ensures.sendable))
