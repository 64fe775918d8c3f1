-- A response, and the turn that begins after it.
use Rattle.rpc_core.specs.Response.{answered}
use Rattle.controller_core.specs.Machine.{responded}
use Rattle.controller_core.proofs.FewSent.{responded_few, room_is}
use Rattle.controller_core.proofs.Turning.{frames_are, state_is}
use Rattle.controller_core.proofs.controller.Controller.take_response.Goals as goal

pub go_on_turn-requires : goal.go_on_turn-requires
go_on_turn-requires c =
    let old = c.args.self.now in
    record { room = room_is c.hear_response.new.outbox old.setup (responded old.setup old.live (answered c.args.response.now) old.live.asked).sent c.hear_response.ensures.frames (responded_few old.setup old.live (answered c.args.response.now) old.live.asked) }

pub returns-clause-state : goal.returns-clause-state
returns-clause-state c =
    let old = c.args.self.now in
    state_is old c.hear_response.new.self _ c.can_begin-could.result (responded old.setup old.live (answered c.args.response.now) old.live.asked) c.can_begin-could.ensures
    c.hear_response.ensures.state c.go_on_turn.ensures.state

pub returns-clause-frames : goal.returns-clause-frames
returns-clause-frames c =
    let old = c.args.self.now in
    frames_are old c.hear_response.new.self c.can_begin-could.result (responded old.setup old.live (answered c.args.response.now) old.live.asked) _ _ c.can_begin-could.ensures
    c.hear_response.ensures.state c.hear_response.ensures.frames c.go_on_turn.ensures.frames
