-- A frame of the device is handed out if it is the only work, or any piece.
use Rattle.std.proofs.Common.{refl}
use Rattle.device_abi.proofs.serving.hand_out.Goals as goal

pub hand_out_only-requires-clause-calls : goal.hand_out_only-requires-clause-calls
hand_out_only-requires-clause-calls c = c.sends.ensures.calls c.if-sends.true

pub hand_out_only-requires-clause-own : goal.hand_out_only-requires-clause-own
hand_out_only-requires-clause-own c = c.sends.ensures.own c.if-sends.true

pub hand_out_only-requires-clause-frames : goal.hand_out_only-requires-clause-frames
hand_out_only-requires-clause-frames c = c.sends.ensures.frames c.if-sends.true

pub returns-then-sends : goal.returns-then-sends
returns-then-sends c =
    let handed = c.hand_out_only.follows.holds-at-none in
    ((refl, (λ _. tt), rw (c.sends.ensures.open c.if-sends.true) (refl, handed.0, handed.1)), tt)
