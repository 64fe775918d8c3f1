-- A call, and the turn that begins after it.
use Rattle.rpc_core.specs.Call.{asked}
use Rattle.controller_messages.specs.PlugRequests.{plug_ready_in}
use Rattle.controller_core.specs.Machine.{plug_called}
use Rattle.controller_core.proofs.FewSent.{called_few, room_is}
use Rattle.controller_core.proofs.Turning.{frames_are, state_is}
use Rattle.controller_core.proofs.controller.Controller.take_other_call.Goals as goal

pub go_on_turn-requires : goal.go_on_turn-requires
go_on_turn-requires c =
    let old = c.args.self.now in
    record {
      room = room_is c.hear_plug_call.new.outbox old.setup (plug_called old.setup old.live c.args.caller.now (asked c.args.call.now) (plug_ready_in (asked c.args.call.now))).sent c.hear_plug_call.ensures.frames
          (called_few old.setup old.live c.args.caller.now (asked c.args.call.now) (plug_ready_in (asked c.args.call.now)));
    }

pub returns-clause-state : goal.returns-clause-state
returns-clause-state c =
    let old = c.args.self.now in
    state_is old c.hear_plug_call.new.self _ c.can_begin-could.result (plug_called old.setup old.live c.args.caller.now (asked c.args.call.now) (plug_ready_in (asked c.args.call.now))) c.can_begin-could.ensures
    c.hear_plug_call.ensures.state c.go_on_turn.ensures.state

pub returns-clause-frames : goal.returns-clause-frames
returns-clause-frames c =
    let old = c.args.self.now in
    frames_are old c.hear_plug_call.new.self c.can_begin-could.result (plug_called old.setup old.live c.args.caller.now (asked c.args.call.now) (plug_ready_in (asked c.args.call.now))) _ _ c.can_begin-could.ensures
    c.hear_plug_call.ensures.state c.hear_plug_call.ensures.frames c.go_on_turn.ensures.frames
