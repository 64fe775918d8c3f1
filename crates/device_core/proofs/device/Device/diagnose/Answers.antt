-- A diagnosis is refused, or accepted and reported.
use Rattle.std.proofs.Common.{◌≡◌, true, false, map, is_some, refl, sym, ap, ◌∙◌}
use Rattle.diagnosis.specs.Existing.{changed}
use Rattle.device_frames.specs.Sent.{bytes_of}
use Rattle.device_core.specs.Handled.{may_be_diagnosed}
use Rattle.device_core.proofs.Diagnosed.{diagnosed_made, diagnosed_none, diagnosed_none_rest, diagnosed_refused}
use Rattle.device_core.proofs.Sendable.{none_sendable}
use Rattle.device_core.proofs.device.Device.diagnose.Goals as goal

pub returns-then-not-may_be_diagnosed-clause-state : goal.returns-then-not-may_be_diagnosed-clause-state
returns-then-not-may_be_diagnosed-clause-state g c =
    let old = c.args.self.now in
    let none : may_be_diagnosed old.station old.live c.args.change.now ≡ false = sym c.may_be_diagnosed.ensures ∙ c.if-not-may_be_diagnosed.true in
    rw (diagnosed_refused old.station old.live c.args.change.now none) refl

pub returns-then-not-may_be_diagnosed-clause-frames : goal.returns-then-not-may_be_diagnosed-clause-frames
returns-then-not-may_be_diagnosed-clause-frames g c =
    let old = c.args.self.now in
    let none : may_be_diagnosed old.station old.live c.args.change.now ≡ false = sym c.may_be_diagnosed.ensures ∙ c.if-not-may_be_diagnosed.true in
    ap (map (λ frame. frame.items)) c.requires ∙ sym (ap (λ e. map (bytes_of old.station.identity) e.sent) (diagnosed_refused old.station old.live c.args.change.now none))

pub returns-then-not-may_be_diagnosed-clause-sendable : goal.returns-then-not-may_be_diagnosed-clause-sendable
returns-then-not-may_be_diagnosed-clause-sendable g c =
    let old = c.args.self.now in
    let none : may_be_diagnosed old.station old.live c.args.change.now ≡ false = sym c.may_be_diagnosed.ensures ∙ c.if-not-may_be_diagnosed.true in
    none_sendable old.station.identity _ (ap (λ e. e.sent) (diagnosed_refused old.station old.live c.args.change.now none))

pub returns-then-not-may_be_diagnosed-clause-note : goal.returns-then-not-may_be_diagnosed-clause-note
returns-then-not-may_be_diagnosed-clause-note g c =
    let old = c.args.self.now in
    let none : may_be_diagnosed old.station old.live c.args.change.now ≡ false = sym c.may_be_diagnosed.ensures ∙ c.if-not-may_be_diagnosed.true in
    sym (ap (λ e. e.note) (diagnosed_refused old.station old.live c.args.change.now none))

pub returns-then-not-change-clause-state : goal.returns-then-not-change-clause-state
returns-then-not-change-clause-state g c =
    let old = c.args.self.now in
    let may : may_be_diagnosed old.station old.live c.args.change.now ≡ true = sym c.may_be_diagnosed.ensures ∙ c.if-not-may_be_diagnosed.false in
    let none : is_some (changed c.args.change.now old.live.rest.diagnoses) ≡ false = rw (← c.self.view_is) (sym c.change.ensures.done ∙ c.if-not-change.true) in
    rw (diagnosed_none_rest old.station old.live c.args.change.now may none) (rw (← c.self.view_is) (rw c.change.ensures.state refl))

pub returns-then-not-change-clause-frames : goal.returns-then-not-change-clause-frames
returns-then-not-change-clause-frames g c =
    let old = c.args.self.now in
    let may : may_be_diagnosed old.station old.live c.args.change.now ≡ true = sym c.may_be_diagnosed.ensures ∙ c.if-not-may_be_diagnosed.false in
    let none : is_some (changed c.args.change.now old.live.rest.diagnoses) ≡ false = rw (← c.self.view_is) (sym c.change.ensures.done ∙ c.if-not-change.true) in
    ap (map (λ frame. frame.items)) c.requires ∙ sym (ap (λ e. map (bytes_of old.station.identity) e.sent) (diagnosed_none old.station old.live c.args.change.now may none))

pub returns-then-not-change-clause-sendable : goal.returns-then-not-change-clause-sendable
returns-then-not-change-clause-sendable g c =
    let old = c.args.self.now in
    let may : may_be_diagnosed old.station old.live c.args.change.now ≡ true = sym c.may_be_diagnosed.ensures ∙ c.if-not-may_be_diagnosed.false in
    let none : is_some (changed c.args.change.now old.live.rest.diagnoses) ≡ false = rw (← c.self.view_is) (sym c.change.ensures.done ∙ c.if-not-change.true) in
    none_sendable old.station.identity _ (ap (λ e. e.sent) (diagnosed_none old.station old.live c.args.change.now may none))

pub returns-then-not-change-clause-note : goal.returns-then-not-change-clause-note
returns-then-not-change-clause-note g c =
    let old = c.args.self.now in
    let may : may_be_diagnosed old.station old.live c.args.change.now ≡ true = sym c.may_be_diagnosed.ensures ∙ c.if-not-may_be_diagnosed.false in
    let none : is_some (changed c.args.change.now old.live.rest.diagnoses) ≡ false = rw (← c.self.view_is) (sym c.change.ensures.done ∙ c.if-not-change.true) in
    sym (ap (λ e. e.note) (diagnosed_none old.station old.live c.args.change.now may none))

pub returns-clause-state : goal.returns-clause-state
returns-clause-state g c =
    let old = c.args.self.now in
    let may : may_be_diagnosed old.station old.live c.args.change.now ≡ true = sym c.may_be_diagnosed.ensures ∙ c.if-not-may_be_diagnosed.false in
    let some : is_some (changed c.args.change.now old.live.rest.diagnoses) ≡ true = rw (← c.self.view_is) (sym c.change.ensures.done ∙ c.if-not-change.false) in
    rw (diagnosed_made old.station old.live c.args.change.now may some) (rw (← c.self.view_is) (rw (c.diagnose-is_sent.ensures.state, c.change.ensures.state) refl))

pub returns-clause-frames : goal.returns-clause-frames
returns-clause-frames g c =
    let old = c.args.self.now in
    let may : may_be_diagnosed old.station old.live c.args.change.now ≡ true = sym c.may_be_diagnosed.ensures ∙ c.if-not-may_be_diagnosed.false in
    let some : is_some (changed c.args.change.now old.live.rest.diagnoses) ≡ true = rw (← c.self.view_is) (sym c.change.ensures.done ∙ c.if-not-change.false) in
    rw (diagnosed_made old.station old.live c.args.change.now may some) (rw (← c.self.view_is) (rw (c.requires, c.diagnose-is_sent.ensures.sent, c.diagnose-is_sent.ensures.state, c.change.ensures.state) at c.send_low_alarm.ensures.frames))

pub returns-clause-sendable : goal.returns-clause-sendable
returns-clause-sendable g c =
    let old = c.args.self.now in
    let may : may_be_diagnosed old.station old.live c.args.change.now ≡ true = sym c.may_be_diagnosed.ensures ∙ c.if-not-may_be_diagnosed.false in
    let some : is_some (changed c.args.change.now old.live.rest.diagnoses) ≡ true = rw (← c.self.view_is) (sym c.change.ensures.done ∙ c.if-not-change.false) in
    rw (diagnosed_made old.station old.live c.args.change.now may some) (rw (← c.self.view_is) (rw (c.diagnose-is_sent.ensures.sent, c.diagnose-is_sent.ensures.state, c.change.ensures.state) at c.send_low_alarm.ensures.sendable))

pub returns-clause-note : goal.returns-clause-note
returns-clause-note g c =
    let old = c.args.self.now in
    let may : may_be_diagnosed old.station old.live c.args.change.now ≡ true = sym c.may_be_diagnosed.ensures ∙ c.if-not-may_be_diagnosed.false in
    let some : is_some (changed c.args.change.now old.live.rest.diagnoses) ≡ true = rw (← c.self.view_is) (sym c.change.ensures.done ∙ c.if-not-change.false) in
    sym (ap (λ e. e.note) (diagnosed_made old.station old.live c.args.change.now may some))
