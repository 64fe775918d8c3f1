-- A unit of time of what is asked: it is refused with the unit with which that is due.
use Rattle.std.proofs.Common.{◌≡◌, false, refl, sym, arith}
use Rattle.std.proofs.lemmas.List.{append-nil}
use Rattle.arrayvec.specs.ArrayVec.{array_vec_len}
use Rattle.frame_codec.specs.Outbox.{boxed}
use Rattle.asked_records.specs.Asked.{due_in, is_over}
use Rattle.device_core.proofs.Counting.{over_not}
use Rattle.device_core.proofs.Leaping.{none_late, waits_on}
use Rattle.device_core.proofs.device.Device.count_asked.Goals as goal

pub returns-clause-state : goal.returns-clause-state
returns-clause-state g c =
    let old = c.args.self.now in
    let count = array_vec_len c.args.outbox.now in
    let is : c.due_in.result ≡ due_in old.live.rest.asked = rw (← c.self.view_is) c.due_in.ensures.value in
    let going : is_over old.live.rest.asked ≡ false = over_not old.live.rest.asked (λ due. omega (arith, due, is, c.if-due_in-eq1.false)) in
    rw (waits_on count old.live.rest.asked going, none_late count old.live.rest.asked going) (rw (← c.self.view_is) (rw c.tick.ensures.state refl))

pub returns-clause-frames : goal.returns-clause-frames
returns-clause-frames g c =
    let old = c.args.self.now in
    let count = array_vec_len c.args.outbox.now in
    let is : c.due_in.result ≡ due_in old.live.rest.asked = rw (← c.self.view_is) c.due_in.ensures.value in
    let going : is_over old.live.rest.asked ≡ false = over_not old.live.rest.asked (λ due. omega (arith, due, is, c.if-due_in-eq1.false)) in
    rw (none_late count old.live.rest.asked going) (sym (append-nil (boxed c.args.outbox.now)))

pub returns-clause-sendable : goal.returns-clause-sendable
returns-clause-sendable g c =
    let old = c.args.self.now in
    let count = array_vec_len c.args.outbox.now in
    let is : c.due_in.result ≡ due_in old.live.rest.asked = rw (← c.self.view_is) c.due_in.ensures.value in
    let going : is_over old.live.rest.asked ≡ false = over_not old.live.rest.asked (λ due. omega (arith, due, is, c.if-due_in-eq1.false)) in
    rw (none_late count old.live.rest.asked going) tt
