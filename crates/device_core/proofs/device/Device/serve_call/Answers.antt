-- A call by its operation, its blocks and the result of the cache.
use Rattle.std.proofs.Common.{◌≡◌, true, false, [], ◌∷◌, map, Some, None, Err, refl, sym, ap, ◌∙◌}
use Rattle.rpc_core.specs.Call.{asked}
use Rattle.rpc_core.specs.Cache.{looked, new, again, old}
use Rattle.records.specs.status.Operation.{operation_of}
use Rattle.records.specs.declared.status.call_fault.CallFault.TheVariants.{Arguments}
use Rattle.device_frames.specs.declared.note.Note.TheVariants.{Fault, OldCall}
use Rattle.device_frames.specs.Sent.{Again}
use Rattle.device_core.specs.Asking.{is_kept, looked_if}
use Rattle.device_core.specs.Handled.{answer_from, handled_blocks, handled_call, handled_looked}
use Rattle.device_core.specs.Log.{arguments_log, with_log}
use Rattle.device_core.proofs.Steps.{moves_steps, refuses_steps}
use Rattle.device_core.proofs.device.Device.serve_call.Goals as goal

pub returns-in_default-clause-steps : goal.returns-in_default-clause-steps
returns-in_default-clause-steps g c = λ heard is.
    let here = c.args.self.now in
    let none : operation_of c.args.call.now.header.operation ≡ None = sym c.of.ensures ∙ c.in_default.is in
    refuses_steps g.F.Flash here heard Fault _ _ c.requires.stored
    (is ∙ ap (handled_call here.station here.live c.args.caller.now (asked c.args.call.now)) none) (ap (map (λ frame. frame.items)) c.requires.empty) refl

pub returns-in_default-blocks-clause-steps : goal.returns-in_default-blocks-clause-steps
returns-in_default-blocks-clause-steps g c = λ heard is.
    let here = c.args.self.now in
    let caller = c.args.caller.now in
    let call = asked c.args.call.now in
    let operation = c.in-Some.operation in
    let some : operation_of c.args.call.now.header.operation ≡ Some operation = sym c.of.ensures ∙ c.in-Some.is in
    let none : call.blocks ≡ None = rw c.in_default-blocks.is refl in
    moves_steps g.F.Flash here _ heard (with_log (arguments_log operation) here.live.rest)
    (answer_from here.live.values.running.suite.address caller call operation (Err Arguments) ∷ []) _ _ c.requires.stored
    (is ∙ ap (handled_call here.station here.live caller call) some ∙ ap (handled_blocks here.station here.live caller call operation) none)
    c.refuse_arguments.ensures.state c.refuse_arguments.ensures.frames c.refuse_arguments.ensures.note (c.refuse_arguments.ensures.sendable, tt)

pub returns-in-Again-clause-steps : goal.returns-in-Again-clause-steps
returns-in-Again-clause-steps g c = λ heard is.
    let here = c.args.self.now in
    let caller = c.args.caller.now in
    let call = asked c.args.call.now in
    let operation = c.in-Some.operation in
    let frame = c.in-Again.frame.now.items in
    let some : operation_of c.args.call.now.header.operation ≡ Some operation = sym c.of.ensures ∙ c.in-Some.is in
    let counted : call.blocks ≡ Some c.in-Some-blocks.blocks.now = rw c.in-Some-blocks.is refl in
    let is_stored : is_kept here.station.options operation ≡ true = rw (← c.self.view_is) (sym c.is_kept.ensures ∙ c.if-not-is_kept.false) in
    let found : looked call.header.activity call.header.sequence here.live.rest.calls ≡ again frame =
    rw (← c.self.view_is) (rw c.in-Again.is at c.look.ensures.reported) in
    let reported : looked_if (is_kept here.station.options operation) call.header.activity call.header.sequence here.live.rest.calls ≡ again frame = rw is_stored found in
    moves_steps g.F.Flash here _ heard here.live.rest (Again frame ∷ []) _ _ c.requires.stored
    (is ∙ ap (handled_call here.station here.live caller call) some ∙ ap (handled_blocks here.station here.live caller call operation) counted
    ∙ ap (handled_looked here.station here.live caller call c.in-Some-blocks.blocks.now operation) reported)
    refl (rw (c.put_copy.ensures.items, c.requires.empty) refl) refl (tt, tt)

pub returns-in-Old-clause-steps : goal.returns-in-Old-clause-steps
returns-in-Old-clause-steps g c = λ heard is.
    let here = c.args.self.now in
    let caller = c.args.caller.now in
    let call = asked c.args.call.now in
    let operation = c.in-Some.operation in
    let some : operation_of c.args.call.now.header.operation ≡ Some operation = sym c.of.ensures ∙ c.in-Some.is in
    let counted : call.blocks ≡ Some c.in-Some-blocks.blocks.now = rw c.in-Some-blocks.is refl in
    let is_stored : is_kept here.station.options operation ≡ true = rw (← c.self.view_is) (sym c.is_kept.ensures ∙ c.if-not-is_kept.false) in
    let found : looked call.header.activity call.header.sequence here.live.rest.calls ≡ old =
    rw (← c.self.view_is) (rw c.in-Old.is at c.look.ensures.reported) in
    let reported : looked_if (is_kept here.station.options operation) call.header.activity call.header.sequence here.live.rest.calls ≡ old = rw is_stored found in
    refuses_steps g.F.Flash here heard OldCall _ _ c.requires.stored
    (is ∙ ap (handled_call here.station here.live caller call) some ∙ ap (handled_blocks here.station here.live caller call operation) counted
    ∙ ap (handled_looked here.station here.live caller call c.in-Some-blocks.blocks.now operation) reported)
    (ap (map (λ frame. frame.items)) c.requires.empty) refl

pub returns-in-New-clause-steps : goal.returns-in-New-clause-steps
returns-in-New-clause-steps g c = λ heard is.
    let here = c.args.self.now in
    let caller = c.args.caller.now in
    let call = asked c.args.call.now in
    let operation = c.in-Some.operation in
    let some : operation_of c.args.call.now.header.operation ≡ Some operation = sym c.of.ensures ∙ c.in-Some.is in
    let counted : call.blocks ≡ Some c.in-Some-blocks.blocks.now = rw c.in-Some-blocks.is refl in
    let is_stored : is_kept here.station.options operation ≡ true = rw (← c.self.view_is) (sym c.is_kept.ensures ∙ c.if-not-is_kept.false) in
    let found : looked call.header.activity call.header.sequence here.live.rest.calls ≡ new =
    rw (← c.self.view_is) (rw c.in-New.is at c.look.ensures.reported) in
    let reported : looked_if (is_kept here.station.options operation) call.header.activity call.header.sequence here.live.rest.calls ≡ new = rw is_stored found in
    c.serve_unanswered-in-New.ensures.steps heard
    (is ∙ ap (handled_call here.station here.live caller call) some ∙ ap (handled_blocks here.station here.live caller call operation) counted
    ∙ ap (handled_looked here.station here.live caller call c.in-Some-blocks.blocks.now operation) reported)

-- A call whose answer is not stored.
pub returns-then-not-is_kept-clause-steps : goal.returns-then-not-is_kept-clause-steps
returns-then-not-is_kept-clause-steps g c = λ heard is.
    let here = c.args.self.now in
    let caller = c.args.caller.now in
    let call = asked c.args.call.now in
    let operation = c.in-Some.operation in
    let some : operation_of c.args.call.now.header.operation ≡ Some operation = sym c.of.ensures ∙ c.in-Some.is in
    let counted : call.blocks ≡ Some c.in-Some-blocks.blocks.now = rw c.in-Some-blocks.is refl in
    let is_sent : is_kept here.station.options operation ≡ false = rw (← c.self.view_is) (sym c.is_kept.ensures ∙ c.if-not-is_kept.true) in
    let reported : looked_if (is_kept here.station.options operation) call.header.activity call.header.sequence here.live.rest.calls ≡ new = rw is_sent refl in
    c.serve_unanswered.ensures.steps heard
    (is ∙ ap (handled_call here.station here.live caller call) some ∙ ap (handled_blocks here.station here.live caller call operation) counted
    ∙ ap (handled_looked here.station here.live caller call c.in-Some-blocks.blocks.now operation) reported)
