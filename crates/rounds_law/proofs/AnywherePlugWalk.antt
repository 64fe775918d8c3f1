-- A call of a controller after a plug at a device, by all that it can do there.
use Rattle.std.proofs.Common.{◌≡◌, ◌==◌, ℕ, Bool, true, false, List, [], ◌∷◌, Option, Some, None, Result, Ok, Err, refl, sym, ap, subst, ◌∙◌}
use Rattle.std.specs.Prelude.{if◌then◌else◌, nat_lt, slice_get}
use Rattle.std.proofs.lemmas.Bool.{cond_both}
use Rattle.wire.specs.Codec.{◌>>=◌}
use Rattle.connect_blocks.specs.declared.control.ControlBlock.{ControlBlock}
use Rattle.connect_blocks.specs.declared.plug_control.PlugControlBlock.{PlugControlBlock}
use Rattle.connect_blocks.specs.PlugControl.{plug_control}
use Rattle.block_codec.specs.declared.block.Block.TheVariants as is
use Rattle.block_codec.specs.Block.{block_bytes}
use Rattle.frame_codec.specs.declared.udp.Caller.{Caller}
use Rattle.rpc_core.specs.Cache.{Kept, again, kept_of, looked, new, old, reported_by}
use Rattle.rpc_core.specs.Call.{Asked as Call}
use Rattle.record_blocks.specs.declared.write_record.IodWriteReq.{IodWriteReq}
use Rattle.records.specs.declared.status.call_fault.CallFault.{CallFault}
use Rattle.records.specs.declared.status.operation.Operation.{Operation}
use Rattle.records.specs.declared.status.operation.Operation.TheVariants.{Control, Write}
use Rattle.records.specs.status.Operation.{operation_of}
use Rattle.records.specs.declared.writes.taken.TakenRecord.{TakenRecord}
use Rattle.records.specs.declared.writes.write.Effect.{Effect}
use Rattle.records.specs.declared.writes.writing.Writing.{Writing}
use Rattle.records.specs.declared.writes.writing.Writing.TheVariants.{Each, One}
use Rattle.records.specs.writes.Answer.{answer_of}
use Rattle.records.specs.writes.Asked.{writing_of}
use Rattle.asked_records.specs.Asked.{is_repeat}
use Rattle.relations.specs.Calls.{done_of}
use Rattle.relations.specs.Phases.{Named, Parameterized, Records, Took, answered, keeping, taking, updated}
use Rattle.relations.specs.Plugging.{is_plug_control, plug_end_answer, plug_end_in}
use Rattle.relations.specs.Plugging.{ended_by as plug_ended_by}
use Rattle.relations.specs.RelationState.{uuid_of}
use Rattle.device_frames.specs.declared.note.Note.{Note}
use Rattle.device_frames.specs.Heard.{Calls}
use Rattle.device_frames.specs.Sent.{Again}
use Rattle.device_core.specs.State.{Live, Station}
use Rattle.device_core.specs.Asking.{Asking as Question, asking_of, is_kept, looked_if}
use Rattle.device_core.specs.Handled.{Handled, Moves, Refuses, handled_asking, handled_call, handled_effect, handled_looked, handled_new}
use Rattle.device_core.specs.Handled.{handled_said, handled_unanswered, handled_write, kept_answer, partner_of, ready_behind, served}
use Rattle.device_core.specs.Modules.{call_after, calling_after}
use Rattle.controller_messages.specs.declared.plug_request.PlugRequest.{PlugRequest}
use Rattle.controller_messages.specs.declared.plug_request.PlugStep.{PlugStep}
use Rattle.controller_messages.specs.declared.plug_request.PlugStep.TheVariants.{PrmEnd, Record}
use Rattle.controller_messages.specs.declared.setup.Setup.{Setup}
use Rattle.controller_messages.specs.PlugRequests.{plug_blocks, plug_call, plug_end, plug_operation, plug_write_blocks}
use Rattle.end_laws.specs.turns.Turns.{chosen_in}
use Rattle.rounds_law.proofs.AnywherePlugBlocks.{IsPlain, plug_end_refused}

pub is_write : operation_of 3 ≡ Some Write
unfolding operation_of
is_write = refl

pub is_control : operation_of 4 ≡ Some Control
unfolding operation_of
is_control = refl

module _ (setup : Setup) (station : Station) (live : Live) (caller : Caller) (request : PlugRequest) where
  -- The call, and the blocks of a Write and of PrmEnd.
  abbrev call : Call
  call = plug_call setup request

  abbrev write_blocks : ℕ → List ℕ
  write_blocks number = plug_write_blocks setup request (slice_get setup.plan.records.items number)

  abbrev pub end_blocks : List ℕ
  end_blocks = (plug_control 0x0111).write (plug_end setup request.number) []

  -- A PrmEnd after a plug with this outcome.
  abbrev pub ends_by : Result PlugControlBlock CallFault → Handled
  ends_by ended =
      let link = updated (answered (Named (partner_of caller)) ended) (plug_ended_by station.options.ready_by_application ended live.rest.link) in
      served station live caller (plug_call setup request) Control (plug_end_answer ended) (calling_after ended link)
      (call_after ended live.values.running.suite.address link)

  -- It is dropped; it repeats the call that is asked; it is answered again; it is refused; its record is kept, and a controller finds nothing of a
  -- Connect in the response; or it ends the parameters of a place.
  pub record Walks (P : Handled → Type 0) : Type 0 where
    pub refuses : (why : Note) → P (Refuses why)
    pub silent : P (Moves live.rest [])
    pub repeats : (kept : Kept) → kept_of setup.activity live.rest.calls ≡ Some kept → P (Moves live.rest (Again kept.frame ∷ []))
    pub denies : (operation : Operation) → is_kept station.options operation ≡ true → (refusal : CallFault) → P (served station live caller (plug_call setup request) operation (Err refusal) live.rest.link [])
    pub keeps : (header : IodWriteReq) → chosen_in (answer_of header) ≡ None → (parameter : TakenRecord) (records : Records)
        → keeping parameter live.rest.link ≡ Ok records
        → P (served station live caller (plug_call setup request) Write (Ok (answer_of header))
        (updated (Named (partner_of caller)) (updated (Took records) live.rest.link)) [])
    pub ends : (one : PlugControlBlock) → plug_end_in end_blocks live.rest.link ≡ Ok one → is_plug_control end_blocks live.rest.link ≡ true
        → P (ends_by (Ok one))

  module _ (plain : (number : ℕ) → request.step ≡ Record number → IsPlain (writing_of (uuid_of live.rest.link) live.rest.real (write_blocks number)))
      (unasked : (number : ℕ) → request.step ≡ Record number
      → asking_of live.rest.real station.named (uuid_of live.rest.link) caller call (write_blocks number) Write ≡ Ok None)
      (P : Handled → Type 0) (walks : Walks P) where
    kept_so : (header : IodWriteReq) → chosen_in (answer_of header) ≡ None → (parameter : TakenRecord) (kept : Result Records CallFault)
        → keeping parameter live.rest.link ≡ kept
        → P (served station live caller call Write (kept_answer header kept)
        (updated (answered (Named (partner_of caller)) kept) (updated (taking kept) live.rest.link)) [])
    kept_so header none parameter (Ok records) e = walks.keeps header none parameter records e
    kept_so header none parameter (Err refusal) e = walks.denies Write refl refusal

    writing_so : (writing : Result Writing CallFault) → IsPlain writing → P (handled_write station live caller call writing)
    writing_so (Err refusal) plain_so = walks.denies Write refl refusal
    writing_so (Ok (One write)) plain_so =
        subst (λ (effect : Effect). P (handled_effect station live caller call write.request effect)) (sym plain_so.1)
        (kept_so write.request plain_so.2 plain_so.0 (keeping plain_so.0 live.rest.link) refl)
    writing_so (Ok (Each header entries)) plain_so = absurd plain_so

    new_write : (number : ℕ) → request.step ≡ Record number → P (handled_new station live caller call (write_blocks number) Write)
    new_write number step =
        subst (λ (asking : Result (Option Question) CallFault). P (handled_asking station live caller call (write_blocks number) Write asking))
        (sym (unasked number step))
        (writing_so (writing_of (uuid_of live.rest.link) live.rest.real (write_blocks number)) (plain number step))

    ended_so : is_plug_control end_blocks live.rest.link ≡ true → (ended : Result PlugControlBlock CallFault) → plug_end_in end_blocks live.rest.link ≡ ended
        → P (ends_by ended)
    ended_so told (Ok one) e = walks.ends one e told
    ended_so told (Err refusal) e = walks.denies Control refl refusal

    abbrev parameters_by : Result ControlBlock CallFault → Handled
    parameters_by ended =
        let by_application = station.options.ready_by_application in
        let link = updated (answered (Named (partner_of caller)) ended) (updated (answered (Parameterized by_application) ended) live.rest.link) in
        served station live caller call Control (ended >>= λ block. Ok (block_bytes (is.PrmEndRes (done_of block)))) link
        (ready_behind by_application live.values.running.suite.address link ended)

    new_end : P (handled_new station live caller call end_blocks Control)
    new_end =
        let refused = plug_end_refused live.rest.link (plug_end setup request.number) in
        cond_both (is_plug_control end_blocks live.rest.link) _ _ P
        (λ told. ended_so told (plug_end_in end_blocks live.rest.link) refl)
        (λ told. subst (λ (ended : Result ControlBlock CallFault). P (parameters_by ended)) (sym refused.1) (walks.denies Control refl refused.0))

    looked_so : (blocks : List ℕ) (operation : Operation) → P (handled_new station live caller call blocks operation)
        → P (handled_looked station live caller call blocks operation (looked setup.activity request.sequence live.rest.calls))
    looked_so blocks operation is_new = by_kept (kept_of setup.activity live.rest.calls) refl
      where
        by_repeat : (is_asked : Bool) → P (if is_asked then Moves live.rest [] else handled_new station live caller call blocks operation)
        by_repeat true = walks.silent
        by_repeat false = is_new

        unanswered : P (handled_unanswered station live caller call blocks operation)
        unanswered = by_repeat (is_repeat setup.activity request.sequence live.rest.asked)

        by_number : (kept : Kept) → kept_of setup.activity live.rest.calls ≡ Some kept → (same less : Bool)
            → P (handled_looked station live caller call blocks operation (if same then again kept.frame else (if less then old else new)))
        by_number kept found true less = walks.repeats kept found
        by_number kept found false true = walks.refuses _
        by_number kept found false false = unanswered

        by_kept : (found : Option Kept) → kept_of setup.activity live.rest.calls ≡ found
            → P (handled_looked station live caller call blocks operation (reported_by request.sequence found))
        by_kept None e = unanswered
        by_kept (Some kept) e = by_number kept e (request.sequence == kept.sequence) (nat_lt request.sequence kept.sequence)

    said_so : (operation : Operation) → operation_of call.header.operation ≡ Some operation → is_kept station.options operation ≡ true
        → P (handled_looked station live caller call (plug_blocks setup request request.step) operation (looked setup.activity request.sequence live.rest.calls))
        → P (handled_said station live caller (Calls call))
    said_so operation names kept fine =
        subst (λ (o : Option Operation). P (handled_call station live caller call o)) (sym names)
        (subst (λ (b : Bool). P (handled_looked station live caller call (plug_blocks setup request request.step) operation
        (looked_if b setup.activity request.sequence live.rest.calls))) (sym kept) fine)

    blocks_are : (step : PlugStep) → request.step ≡ step → plug_blocks setup request step ≡ plug_blocks setup request request.step
    blocks_are step e = ap (λ (s : PlugStep). plug_blocks setup request s) (sym e)

    -- So it is with each such call.
    pub walk : P (handled_said station live caller (Calls (plug_call setup request)))
    walk = by_step request.step refl
      where
        by_step : (step : PlugStep) → request.step ≡ step → P (handled_said station live caller (Calls call))
        by_step (Record number) e =
            said_so Write (ap (λ (s : PlugStep). operation_of (plug_operation s)) e ∙ is_write) refl
            (looked_so (plug_blocks setup request request.step) Write
            (subst (λ (b : List ℕ). P (handled_new station live caller call b Write)) (blocks_are (Record number) e) (new_write number e)))
        by_step PrmEnd e =
            said_so Control (ap (λ (s : PlugStep). operation_of (plug_operation s)) e ∙ is_control) refl
            (looked_so (plug_blocks setup request request.step) Control
            (subst (λ (b : List ℕ). P (handled_new station live caller call b Control)) (blocks_are PrmEnd e) new_end))
