-- Data with an AlarmAck of low priority, or a frame that cannot be read.
use Rattle.std.proofs.Common.{◌≡◌, true, false, if◌then◌else◌, ap, map, refl, subst, sym, ◌∙◌}
use Rattle.relations.specs.Diagnosed.{has_sent_low}
use Rattle.device_frames.specs.declared.note.Note.TheVariants.{Fault}
use Rattle.device_frames.specs.Heard.{LowConfirms, Unreadable, heard_low}
use Rattle.device_core.specs.Handled.{Refuses, handled_low}
use Rattle.device_core.specs.Steps.{Steps}
use Rattle.device_core.proofs.Handled.{low_asks_nothing}
use Rattle.device_core.proofs.Steps.{inactive_steps, refuses_steps}
use Rattle.device_core.proofs.device.Device.read_low_confirm.Goals as goal

pub returns-then-not-has_sent_low-clause-steps : goal.returns-then-not-has_sent_low-clause-steps
returns-then-not-has_sent_low-clause-steps g c =
    let old = c.args.self.now in
    let source = c.args.source in
    let header = c.in-Ok.header in
    let message = c.in-Ok.message in
    let said = ap (heard_low source) (sym c.read_low_message.ensures ∙ c.in-Ok.is) in
    let unsent : has_sent_low old.live.rest.link ≡ false =
    sym (ap (λ s. has_sent_low s.live.rest.link) c.self.view_is) ∙ sym c.has_sent_low.ensures ∙ c.if-not-has_sent_low.true in
    subst (λ heard. Steps g.F.Flash old heard (map (λ frame. frame.items) c.args.outbox.now.items) Fault old) (sym said)
    (refuses_steps g.F.Flash old (LowConfirms source header message) Fault _ _ c.requires.stored
    (ap (λ sent. if sent then handled_low old.station old.live source header message else Refuses Fault) unsent) (ap (map (λ frame. frame.items)) c.requires.empty) refl)

pub returns-else-not-has_sent_low-clause-steps : goal.returns-else-not-has_sent_low-clause-steps
returns-else-not-has_sent_low-clause-steps g c =
    let old = c.args.self.now in
    let source = c.args.source in
    let header = c.in-Ok.header in
    let message = c.in-Ok.message in
    let said = ap (heard_low source) (sym c.read_low_message.ensures ∙ c.in-Ok.is) in
    let sent : has_sent_low old.live.rest.link ≡ true =
    sym (ap (λ s. has_sent_low s.live.rest.link) c.self.view_is) ∙ sym c.has_sent_low.ensures ∙ c.if-not-has_sent_low.false in
    subst (λ heard. Steps g.F.Flash old heard (map (λ frame. frame.items) c.hear_low.new.outbox.items) c.hear_low.result c.hear_low.new.self) (sym said)
    (inactive_steps g.F.Flash old _ (LowConfirms source header message) (handled_low old.station old.live source header message) _ _ c.requires.stored
    (ap (λ sent. if sent then handled_low old.station old.live source header message else Refuses Fault) sent) (low_asks_nothing old.station old.live source header message)
    c.hear_low.ensures.state c.hear_low.ensures.frames c.hear_low.ensures.note c.hear_low.ensures.sendable)

pub returns-in-Err-clause-steps : goal.returns-in-Err-clause-steps
returns-in-Err-clause-steps g c =
    let said = ap (heard_low c.args.source) (sym c.read_low_message.ensures ∙ c.in-Err.is) in
    subst (λ heard. Steps g.F.Flash c.args.self.now heard (map (λ frame. frame.items) c.args.outbox.now.items) Fault c.args.self.now) (sym said)
    (refuses_steps g.F.Flash c.args.self.now Unreadable Fault _ _ c.requires.stored refl (ap (map (λ frame. frame.items)) c.requires.empty) refl)
