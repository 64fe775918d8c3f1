-- A unit with which the request is due again: the turn of a place begins that can.
use Rattle.std.proofs.Common.{Bool, true, map, sym, ap, ◌∙◌}
use Rattle.controller_messages.specs.Sent.{bytes_of}
use Rattle.controller_core.specs.Machine.{begun_turn, gone_on, later, turn_due}
use Rattle.controller_core.specs.stored.State.{Controlling, with_live}
use Rattle.controller_core.proofs.controller.Controller.go_on_ticking.Goals as goal

pub returns-then-pass-clause-state : goal.returns-then-pass-clause-state
returns-then-pass-clause-state c =
    let old = c.args.self.now in
    c.ask_again.ensures.state
    ∙ (ap (λ (m : Controlling). with_live m (gone_on (begun_turn m.setup m.live) true).live) c.pass.ensures.state
    ∙ ap (λ (b : Bool). with_live old (gone_on (turn_due old.setup b (later old.live)) b).live) (sym c.if-pass.true ∙ c.pass.ensures.again))

pub returns-then-pass-clause-frames : goal.returns-then-pass-clause-frames
returns-then-pass-clause-frames c =
    let old = c.args.self.now in
    c.ask_again.ensures.frames
    ∙ (ap (λ (m : Controlling). map (bytes_of m.setup) (gone_on (begun_turn m.setup m.live) true).sent) c.pass.ensures.state
    ∙ ap (λ (b : Bool). map (bytes_of old.setup) (gone_on (turn_due old.setup b (later old.live)) b).sent) (sym c.if-pass.true ∙ c.pass.ensures.again))
