-- A reject or a fault, and the turn that begins after it.
use Rattle.std.proofs.Common.{List, ℕ, map, ap, ◌∙◌}
use Rattle.arrayvec.specs.ArrayVec.{ArrayVec as Items}
use Rattle.controller_core.specs.Machine.{refused}
use Rattle.controller_core.proofs.FewSent.{refused_none}
use Rattle.controller_core.proofs.Turning.{frames_are, state_is}
use Rattle.controller_core.proofs.controller.Controller.take_refusal.Goals as goal

pub returns-clause-state : goal.returns-clause-state
returns-clause-state c =
    let old = c.args.self.now in
    state_is old c.hear_refusal.new.self _ c.can_begin-could.result (refused old.setup old.live c.args.refusal.now old.live.asked) c.can_begin-could.ensures
    c.hear_refusal.ensures c.go_on_turn.ensures.state

pub returns-clause-frames : goal.returns-clause-frames
returns-clause-frames c =
    let old = c.args.self.now in
    frames_are old c.hear_refusal.new.self c.can_begin-could.result (refused old.setup old.live c.args.refusal.now old.live.asked) _ _ c.can_begin-could.ensures
    c.hear_refusal.ensures (ap (λ (frames : List (Items ℕ)). map (λ (frame : Items ℕ). frame.items) frames) c.requires.empty ∙ refused_none old.setup old.live c.args.refusal.now old.live.asked) c.go_on_turn.ensures.frames
