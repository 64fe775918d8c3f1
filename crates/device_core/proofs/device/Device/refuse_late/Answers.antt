-- The call is refused, if there is room for its response.
use Rattle.std.proofs.Common.{◌≡◌, true, false, None, Some, refl, sym, ap, ◌∙◌, arith}
use Rattle.std.proofs.lemmas.Bool.{ne_eqb}
use Rattle.std.proofs.lemmas.List.{append-nil}
use Rattle.arrayvec.specs.ArrayVec.{array_vec_len}
use Rattle.frame_codec.specs.Outbox.{boxed}
use Rattle.asked_records.specs.Asked.{is_over, question_in}
use Rattle.device_core.specs.Asking.{is_full, late_in}
use Rattle.device_core.proofs.Counting.{goes_if, late_if, none_full, one_asked, over_at, waits_full}
use Rattle.device_core.proofs.device.Device.refuse_late.Goals as goal

pub returns-then-len-eq4-clause-state : goal.returns-then-len-eq4-clause-state
returns-then-len-eq4-clause-state g c =
    let asked = c.args.self.now.live.rest.asked in
    let count = array_vec_len c.args.outbox.now in
    let over : is_over asked ≡ true = over_at asked c.requires.due in
    let all : count ≡ 4 = sym c.len.ensures.value ∙ c.if-len-eq4.true in
    let full : is_full count ≡ true = ap is_full all in
    rw (waits_full count asked over full, none_full count asked over full) refl

pub returns-then-len-eq4-clause-frames : goal.returns-then-len-eq4-clause-frames
returns-then-len-eq4-clause-frames g c =
    let asked = c.args.self.now.live.rest.asked in
    let count = array_vec_len c.args.outbox.now in
    let over : is_over asked ≡ true = over_at asked c.requires.due in
    let all : count ≡ 4 = sym c.len.ensures.value ∙ c.if-len-eq4.true in
    let full : is_full count ≡ true = ap is_full all in
    rw (none_full count asked over full) (sym (append-nil (boxed c.args.outbox.now)))

pub returns-then-len-eq4-clause-sendable : goal.returns-then-len-eq4-clause-sendable
returns-then-len-eq4-clause-sendable g c =
    let asked = c.args.self.now.live.rest.asked in
    let count = array_vec_len c.args.outbox.now in
    let over : is_over asked ≡ true = over_at asked c.requires.due in
    let all : count ≡ 4 = sym c.len.ensures.value ∙ c.if-len-eq4.true in
    let full : is_full count ≡ true = ap is_full all in
    rw (none_full count asked over full) tt

pub returns-in_default-clause-state : goal.returns-in_default-clause-state
returns-in_default-clause-state g c =
    let none : question_in c.self.inside.asked ≡ None = rw c.in_default.is at (sym c.question.ensures.value) in
    absurd (one_asked c.self.inside.asked (rw (← c.self.view_is) at c.requires.due) none)

pub returns-in_default-clause-frames : goal.returns-in_default-clause-frames
returns-in_default-clause-frames g c =
    let none : question_in c.self.inside.asked ≡ None = rw c.in_default.is at (sym c.question.ensures.value) in
    absurd (one_asked c.self.inside.asked (rw (← c.self.view_is) at c.requires.due) none)

pub returns-in_default-clause-sendable : goal.returns-in_default-clause-sendable
returns-in_default-clause-sendable g c =
    let none : question_in c.self.inside.asked ≡ None = rw c.in_default.is at (sym c.question.ensures.value) in
    absurd (one_asked c.self.inside.asked (rw (← c.self.view_is) at c.requires.due) none)

pub refuse-requires : goal.refuse-requires
refuse-requires g c = omega (arith, c.len.ensures.value, c.len.ensures.most, c.if-len-eq4.false)

pub returns-clause-state : goal.returns-clause-state
returns-clause-state g c =
    let old = c.args.self.now in
    let asked = old.live.rest.asked in
    let count = array_vec_len c.args.outbox.now in
    let over : is_over asked ≡ true = over_at asked c.requires.due in
    let room : is_full count ≡ false = ne_eqb count 4 (λ all. omega (arith, all, c.len.ensures.value, c.if-len-eq4.false)) in
    let inside : question_in c.self.inside.asked ≡ Some c.in-Some.question.now = rw c.in-Some.is at (sym c.question.ensures.value) in
    let found : question_in asked ≡ Some c.in-Some.question.now = rw (← c.self.view_is) inside in
    let one : late_in count asked ≡ Some c.in-Some.question.now = late_if count asked over room ∙ found in
    let kept = rw (c.address-address.ensures.value, c.running.ensures) at c.refuse.ensures.kept in
    rw (goes_if count asked room, one) (rw (← c.self.view_is) (rw (c.tick.ensures.state, kept) refl))

pub returns-clause-frames : goal.returns-clause-frames
returns-clause-frames g c =
    let old = c.args.self.now in
    let asked = old.live.rest.asked in
    let count = array_vec_len c.args.outbox.now in
    let over : is_over asked ≡ true = over_at asked c.requires.due in
    let room : is_full count ≡ false = ne_eqb count 4 (λ all. omega (arith, all, c.len.ensures.value, c.if-len-eq4.false)) in
    let inside : question_in c.self.inside.asked ≡ Some c.in-Some.question.now = rw c.in-Some.is at (sym c.question.ensures.value) in
    let found : question_in asked ≡ Some c.in-Some.question.now = rw (← c.self.view_is) inside in
    let one : late_in count asked ≡ Some c.in-Some.question.now = late_if count asked over room ∙ found in
    let frames = rw (c.address-address.ensures.value, c.running.ensures) at c.refuse.ensures.frames in
    rw one (rw (← c.self.view_is) frames)

pub returns-clause-sendable : goal.returns-clause-sendable
returns-clause-sendable g c =
    let old = c.args.self.now in
    let asked = old.live.rest.asked in
    let count = array_vec_len c.args.outbox.now in
    let over : is_over asked ≡ true = over_at asked c.requires.due in
    let room : is_full count ≡ false = ne_eqb count 4 (λ all. omega (arith, all, c.len.ensures.value, c.if-len-eq4.false)) in
    let inside : question_in c.self.inside.asked ≡ Some c.in-Some.question.now = rw c.in-Some.is at (sym c.question.ensures.value) in
    let found : question_in asked ≡ Some c.in-Some.question.now = rw (← c.self.view_is) inside in
    let one : late_in count asked ≡ Some c.in-Some.question.now = late_if count asked over room ∙ found in
    let sendable = rw (c.address-address.ensures.value, c.running.ensures) at c.refuse.ensures.sendable in
    rw one (rw (← c.self.view_is) sendable)
