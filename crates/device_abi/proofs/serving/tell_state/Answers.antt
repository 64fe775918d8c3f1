-- Phase and lamp, or why they are not reported.
use Rattle.std.proofs.Common.{ℕ, ap, refl, ◌∙◌}
use Rattle.relations.specs.RelationState.{phase_of}
use Rattle.device_abi.specs.Serves.{phase_number}
use Rattle.device_abi.proofs.serving.tell_state.Goals as goal

pub returns-in-Ok : goal.returns-in-Ok
returns-in-Ok c =
    let op = c.args.op.now in
    let reached : ℕ = phase_number (phase_of c.args.port.now.port.device.live.rest.link) in
    let phase = c.number_of_phase-op.ensures ∙ ap phase_number c.requires in
    rw c.in-Ok.ensures.0 (refl, ap (λ (n : ℕ). record op { phase = n; lamp = c.in-Ok.lamp }) phase ∙ ap (λ (n : ℕ). record op { phase = reached; lamp = n }) c.in-Ok.ensures.1)

pub returns-in-Err : goal.returns-in-Err
returns-in-Err c = rw c.in-Err.ensures (c.number.ensures, refl)
