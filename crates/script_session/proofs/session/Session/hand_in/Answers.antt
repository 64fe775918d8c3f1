use Rattle.std.proofs.Common.{ℕ, subst, sym}
use Rattle.arrayvec.specs.ArrayVec.{ArrayVec}
use Rattle.device_frames.specs.declared.event.Event.TheVariants.{Frame}
use Rattle.std.specs.Prelude.{OnOk}
use Rattle.script_session.specs.Said.{event_answer}
use Rattle.script_session.specs.Session.{Are, IsObeyed}
use Rattle.script_session.proofs.session.Session.hand_in.Goals as goal

pub returns-clause-obeys : goal.returns-clause-obeys
returns-clause-obeys c network are =
    let ends = subst (Are network) (sym c.self.view_is) are in
    subst
    (λ (octets : ArrayVec ℕ). OnOk c.answered.result (IsObeyed (event_answer network (Frame octets)) (record { power = c.answered.new.power; other = c.answered.new.other }) c.args.text.now.items c.answered.new.text.items))
    c.of.ensures.value (c.answered.ensures.obeys network ends.0 ends.1)
