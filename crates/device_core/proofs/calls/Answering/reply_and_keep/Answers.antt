-- The response is sent and kept, unless a later call of its activity was answered.
use Rattle.std.proofs.Common.{◌≡◌, List, ℕ, true, false, refl, sym, ap, ◌∙◌}
use Rattle.std.proofs.lemmas.List.{append-nil}
use Rattle.frame_codec.specs.Outbox.{boxed}
use Rattle.rpc_core.specs.Cache.{looked, kept_more}
use Rattle.device_frames.specs.Sent.{bytes_of}
use Rattle.device_core.specs.Asking.{is_new, kept_reply, reply_to}
use Rattle.device_core.proofs.Counting.{kept_unless, kept_when, last_sent}
use Rattle.device_core.proofs.calls.Answering.reply_and_keep.Goals as goal

pub returns-then-not-is_new-clause-frames : goal.returns-then-not-is_new-clause-frames
returns-then-not-is_new-clause-frames c =
    let header = c.args.question.now.header in
    let none : is_new (looked header.activity header.sequence c.args.self.now.kept) ≡ false =
    ap is_new c.look.ensures.reported ∙ (sym c.is_new.ensures ∙ c.if-not-is_new.true) in
    rw none (sym (append-nil (boxed c.args.outbox.now)))

pub returns-then-not-is_new-clause-sendable : goal.returns-then-not-is_new-clause-sendable
returns-then-not-is_new-clause-sendable c =
    let header = c.args.question.now.header in
    let none : is_new (looked header.activity header.sequence c.args.self.now.kept) ≡ false =
    ap is_new c.look.ensures.reported ∙ (sym c.is_new.ensures ∙ c.if-not-is_new.true) in
    rw none tt

pub returns-then-not-is_new-clause-kept : goal.returns-then-not-is_new-clause-kept
returns-then-not-is_new-clause-kept c =
    let question = c.args.question.now in
    let kept = c.args.self.now.kept in
    let none : is_new (looked question.header.activity question.header.sequence kept) ≡ false =
    ap is_new c.look.ensures.reported ∙ (sym c.is_new.ensures ∙ c.if-not-is_new.true) in
    let answer = reply_to c.args.address question c.args.status c.args.self.now.blocks.items in
    sym (kept_unless (kept_reply c.args.identity.now question answer) kept (looked question.header.activity question.header.sequence kept) refl none)

pub returns-clause-frames : goal.returns-clause-frames
returns-clause-frames c =
    let header = c.args.question.now.header in
    let some : is_new (looked header.activity header.sequence c.args.self.now.kept) ≡ true =
    ap is_new c.look.ensures.reported ∙ (sym c.is_new.ensures ∙ c.if-not-is_new.false) in
    rw some c.send_reply.ensures.frames

pub returns-clause-sendable : goal.returns-clause-sendable
returns-clause-sendable c =
    let header = c.args.question.now.header in
    let some : is_new (looked header.activity header.sequence c.args.self.now.kept) ≡ true =
    ap is_new c.look.ensures.reported ∙ (sym c.is_new.ensures ∙ c.if-not-is_new.false) in
    rw some (c.send_reply.ensures.sendable, tt)

pub returns-clause-kept : goal.returns-clause-kept
returns-clause-kept c =
    let question = c.args.question.now in
    let identity = c.args.identity.now in
    let kept = c.args.self.now.kept in
    let some : is_new (looked question.header.activity question.header.sequence kept) ≡ true =
    ap is_new c.look.ensures.reported ∙ (sym c.is_new.ensures ∙ c.if-not-is_new.false) in
    let answer = reply_to c.args.address question c.args.status c.args.self.now.blocks.items in
    let sent = c.send_reply.ensures.frames in
    let is = last_sent c.send_reply.new.outbox.items c.args.outbox.now.items (bytes_of identity answer) c.index-as_slice-place.result c.len-place.result sent
    c.len-place.ensures.value (rw c.as_slice.ensures.value at c.index-as_slice-place.is) in
    c.keep.ensures ∙ (ap (λ (frame : List ℕ). kept_more 4 (record { activity = question.header.activity; sequence = question.header.sequence; frame = frame }) kept) is
    ∙ sym (kept_when (kept_reply identity question answer) kept (looked question.header.activity question.header.sequence kept) refl some))
