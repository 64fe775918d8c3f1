-- Cyclic data is accepted in silence, while no alarm is open, or it is another frame.
use Rattle.std.proofs.Common.{ℕ, Ok, sym, ap, subst, take, ◌∙◌}
use Rattle.device_frames.specs.declared.event.Event.TheVariants.{Frame}
use Rattle.device_frames.specs.declared.note.Note.TheVariants.{Done}
use Rattle.device_station.specs.port.Served.{Served}
use Rattle.device_abi.specs.Serves.{IsEvent}
use Rattle.device_abi.proofs.Confirming.{heard_without}
use Rattle.device_abi.proofs.serving.frame.Goals as goal

pub returns-then-take_cyclic : goal.returns-then-take_cyclic
returns-then-take_cyclic c =
    let op = c.args.op.now in
    let heard = c.take_cyclic.ensures.taken c.if-take_cyclic.true in
    heard_without c.args.port.now _ op c.silent.result c.take_cyclic.new.self c.silent.new.op (c.take_cyclic.ensures.closed c.if-take_cyclic.true)
    (Ok Done, heard.0, c.silent.ensures.answer, c.silent.ensures.reported ∙ ap (λ (n : ℕ). record op { note = 0; work = n; confirmed = 0 }) (sym heard.1))

pub returns : goal.returns
returns c =
    subst (λ (s : Served). IsEvent s (Frame (record { items = take 1519 c.args.given.now })) c.args.op.now c.hear.result c.hear.new.port c.hear.new.op)
    (c.take_cyclic.ensures.left c.if-take_cyclic.false) c.hear.ensures
