-- An alarm frame, and the turn that begins after it.
use Rattle.controller_core.specs.Machine.{alarmed}
use Rattle.controller_core.proofs.FewSent.{alarmed_few, room_is}
use Rattle.controller_core.proofs.Turning.{frames_are, state_is}
use Rattle.controller_core.proofs.controller.Controller.take_alarm.Goals as goal

pub go_on_turn-requires : goal.go_on_turn-requires
go_on_turn-requires c =
    let old = c.args.self.now in
    record { room = room_is c.hear_alarm.new.outbox old.setup (alarmed old.live c.args.source c.args.under c.args.header.now c.args.notice.now).sent c.hear_alarm.ensures.frames (alarmed_few old.setup old.live c.args.source c.args.under c.args.header.now c.args.notice.now) }

pub returns-clause-state : goal.returns-clause-state
returns-clause-state c =
    let old = c.args.self.now in
    state_is old c.hear_alarm.new.self _ c.can_begin-could.result (alarmed old.live c.args.source c.args.under c.args.header.now c.args.notice.now) c.can_begin-could.ensures
    c.hear_alarm.ensures.state c.go_on_turn.ensures.state

pub returns-clause-frames : goal.returns-clause-frames
returns-clause-frames c =
    let old = c.args.self.now in
    frames_are old c.hear_alarm.new.self c.can_begin-could.result (alarmed old.live c.args.source c.args.under c.args.header.now c.args.notice.now) _ _ c.can_begin-could.ensures
    c.hear_alarm.ensures.state c.hear_alarm.ensures.frames c.go_on_turn.ensures.frames
