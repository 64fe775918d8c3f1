-- The next frame is fetched.
use Rattle.std.proofs.Common.{List, ℕ, sym, ap, subst, ◌∙◌}
use Rattle.controller_station.specs.Served.{in_order}
use Rattle.controller_abi.specs.State.{IsKnown, advanced}
use Rattle.controller_abi.specs.contracts.port.Port.{the_view}
use Rattle.controller_abi.proofs.Leaps.{known_on}
use Rattle.controller_abi.proofs.Left.{taken}
use Rattle.controller_abi.proofs.port.Port.advance.Goals as goal

pub returns-then-self-len : goal.returns-then-self-len
returns-then-self-len c =
    let port = c.self.inside in
    ap (λ left. record (the_view port) { frames = left }) (taken port.frames_past (in_order port.outbox)) ∙ ap advanced c.self.view_is

pub invariant_of-self : goal.invariant_of-self
invariant_of-self c =
    let port = c.self.inside in
    subst (λ (frames : List (List ℕ)). IsKnown port.due (record (the_view port) { frames = frames })) (sym (taken port.frames_past (in_order port.outbox)))
    (known_on port.due (the_view port) c.self.invariant)
