-- What a device without a relation does with the calls of a controller.
use Rattle.std.proofs.Common.{◌≡◌, ◌&&◌, ℕ, Bool, true, false, List, [], ◌∷◌, Option, Some, None, Result, Ok, Err, refl, sym, ap, subst, ◌∙◌}
use Rattle.std.specs.Prelude.{if◌then◌else◌, not, nat_eq}
use Rattle.std.specs.Cmp.Lexicographic.{pointwise, same_text}
use Rattle.pn_values.specs.IpSuite.{is_zero}
use Rattle.pn_values.specs.declared.identity.Identity.{Identity}
use Rattle.pn_values.specs.declared.real.Real.{Real}
use Rattle.frame_codec.specs.declared.udp.Caller.{Caller}
use Rattle.wire.specs.Codec.{◌>>=◌}
use Rattle.wire.specs.Checks.{or_fault}
use Rattle.rpc_core.specs.Call.{Asked as Call}
use Rattle.asked_records.specs.Asked.{AskedState}
use Rattle.rpc_core.specs.Cache.{Reported as Looked, kept_of, kept_more}
use Rattle.rpc_core.specs.Response.{is_done}
use Rattle.connect_blocks.specs.declared.control.ControlBlock.{ControlBlock}
use Rattle.block_codec.specs.declared.block.Block.{Block}
use Rattle.block_codec.specs.declared.block.Block.TheVariants as is
use Rattle.block_codec.specs.Block.{block_bytes, in_iod_write_req}
use Rattle.record_blocks.specs.declared.write_record.IodWriteReq.{IodWriteReq}
use Rattle.records.specs.declared.status.call_fault.CallFault.{CallFault}
use Rattle.records.specs.declared.status.call_fault.CallFault.TheVariants as fault
use Rattle.records.specs.declared.status.operation.Operation.{Operation}
use Rattle.records.specs.declared.status.operation.Operation.TheVariants.{Control, Release, Write}
use Rattle.records.specs.declared.writes.writing.Writing.{Writing}
use Rattle.records.specs.declared.writes.writing.Writing.TheVariants.{Each, One}
use Rattle.records.specs.calls.Naming.{in_relation}
use Rattle.records.specs.calls.Single.{single_of}
use Rattle.records.specs.status.Status.{status_of}
use Rattle.records.specs.writes.Asked.{handled_writing, several_of, writing_of}
use Rattle.records.specs.writes.Handled.{handled_request, targeted}
use Rattle.records.specs.writes.Several.{is_several}
use Rattle.block_codec.specs.declared.block_type.BlockType.TheVariants as kind
use Rattle.settings_journal.specs.settings_store.Machine.{Outcome}
use Rattle.relations.specs.Calls.{control_block, done_of, in_started, named_of, prm_end_of, release_of}
use Rattle.relations.specs.Plugging.{is_plug_control}
use Rattle.relations.specs.Phases.{Ended, Named, Parameterized, answered, updated}
use Rattle.relations.specs.RelationState.{RelationState, uuid_of}
use Rattle.device_frames.specs.declared.note.Note.TheVariants as note
use Rattle.device_frames.specs.Heard.{Calls, Heard, Reported, heard_of}
use Rattle.device_frames.specs.Sendable.{AreSendable}
use Rattle.device_frames.specs.Sent.{Sent, bytes_of}
use Rattle.device_core.specs.State.{Live, Rest, Station}
use Rattle.device_core.specs.Log.{but_rest, release_log, with_log}
use Rattle.device_core.specs.Asking.{Asking, asking_of, asking_write, is_kept, left_asked, looked_if, released_by, write_within}
use Rattle.device_core.specs.Handled.{Handled, Moves, Refuses, answer_from, handled_asking, handled_call, handled_looked, handled_new}
use Rattle.device_core.specs.Handled.{handled_said, handled_write}
use Rattle.device_core.specs.Handled.{handled_plug_end, is_running, kept_behind, kept_for, partner_of, ready_behind, served}
use Rattle.device_core.specs.Machine.{Stepped, handled_step, heard_step}
use Rattle.controller_messages.specs.declared.setup.Setup.{Setup}
use Rattle.controller_messages.specs.declared.request.Request.{Request}
use Rattle.controller_messages.specs.declared.request.Request.TheVariants as asks
use Rattle.controller_messages.specs.Requests.{blocks_of, call_for, sequence_of}
use Rattle.controller_messages.specs.Requests.{operation_of as operation_in}
use Rattle.records.specs.status.Operation.{operation_of}
use Rattle.end_laws.specs.hearing.Hearing.{comes}
use Rattle.end_laws.specs.hearing.Stations.{IsCalled}
use Rattle.both_ends.specs.startup.answer.Answer.{caller_of}
use Rattle.rounds_law.specs.Path.{AsksNothing, device_step, request_to}
use Rattle.rounds_law.specs.Abandoned.{Denies, IsNewCall, IsOfRelation, is_reached}
use Rattle.rounds_law.proofs.AgainKept.{none_more}
use Rattle.rounds_law.proofs.AgainVain.{Keeps}
use Rattle.rounds_law.proofs.AskedUnits.{unasked_new}
use Rattle.rounds_law.proofs.DeviceCallingSteps.{kept_first, later_new, step_is}
use Rattle.rounds_law.proofs.Choices.{where_not}
use Rattle.rounds_law.proofs.NeverBusy.{never_busy}

-- ---- no relation is named

-- a check that fails
abbrev Fails : {A : Type 0} → Result A CallFault → Type 0
Fails result = (why : CallFault) × (result ≡ Err why)

named_none : (uuid : List ℕ) → in_relation None uuid ≡ Err fault.UnknownRelation
unfolding in_relation
named_none uuid = refl

request_fails : (real : Real) (request : IodWriteReq) (behind : List ℕ) → (is_list : Bool)
    → Fails (if is_list
    then (several_of None request behind >>= λ entries. Ok (Each request entries))
    else (handled_request None real request behind >>= λ write. Ok (One write)))
unfolding several_of handled_request targeted in_relation
request_fails real request behind true = (fault.UnknownRelation, refl)
request_fails real request behind false = (fault.UnknownRelation, refl)

block_fails : (real : Real) (behind : List ℕ) (read : Result IodWriteReq CallFault) → Fails (read >>= λ request. handled_writing None real request behind)
block_fails real behind (Ok request) = request_fails real request behind (is_several request)
block_fails real behind (Err why) = (why, refl)

write_fails : (real : Real) (blocks : List ℕ) → Fails (writing_of None real blocks)
unfolding writing_of
write_fails real blocks = by_read (single_of kind.IodWriteReq blocks)
  where
    by_read : (read : Result (Block × List ℕ) CallFault)
        → Fails (read >>= λ x. or_fault fault.BlockForm (in_iod_write_req x.0) >>= λ request. handled_writing None real request x.1)
    by_read (Ok x) = block_fails real x.1 (or_fault fault.BlockForm (in_iod_write_req x.0))
    by_read (Err why) = (why, refl)

relation_fails : (behind : List ℕ) (read : Result IodWriteReq CallFault)
    → Fails {A = IodWriteReq × List ℕ} (read >>= λ write. in_relation None write.header.ar_uuid >>= λ _. Ok (write, behind))
unfolding in_relation
relation_fails behind (Ok write) = (fault.UnknownRelation, refl)
relation_fails behind (Err why) = (why, refl)

within_fails : (blocks : List ℕ) → Fails (write_within None blocks)
unfolding write_within
within_fails blocks = by_read (single_of kind.IodWriteReq blocks)
  where
    by_read : (read : Result (Block × List ℕ) CallFault)
        → Fails {A = IodWriteReq × List ℕ}
        (read >>= λ x. or_fault fault.BlockForm (in_iod_write_req x.0) >>= λ write. in_relation None write.header.ar_uuid >>= λ _. Ok (write, x.1))
    by_read (Ok x) = relation_fails x.1 (or_fault fault.BlockForm (in_iod_write_req x.0))
    by_read (Err why) = (why, refl)

-- so it asks the application nothing
unasked_write : (station : Station) (live : Live) (caller : Caller) (call : Call) (blocks : List ℕ) → live.rest.link ≡ None
    → asking_of live.rest.real station.named (uuid_of live.rest.link) caller call blocks Write ≡ Ok None
unasked_write station live caller call blocks none =
    ap (λ (l : Option RelationState). asking_write live.rest.real station.named caller call (write_within (uuid_of l) blocks)) none
    ∙ ap (λ (r : Result (IodWriteReq × List ℕ) CallFault). asking_write live.rest.real station.named caller call r) (within_fails blocks).1

ended_fails : (blocks : List ℕ) → Fails (prm_end_of None blocks)
unfolding prm_end_of
ended_fails blocks = by_block (control_block kind.PrmEnd blocks)
  where
    by_block : (read : Result ControlBlock CallFault)
        → Fails (read >>= λ block. named_of None block 1 >>= λ u. in_started None >>= λ v. Ok block)
    by_block (Ok block) = (fault.UnknownRelation, refl)
    by_block (Err why) = (why, refl)

pub released_fails : (blocks : List ℕ) → Fails (release_of None blocks)
unfolding release_of
released_fails blocks = by_block (control_block kind.Release blocks)
  where
    by_block : (read : Result ControlBlock CallFault) → Fails (read >>= λ block. named_of None block 4 >>= λ u. Ok block)
    by_block (Ok block) = (fault.UnknownRelation, refl)
    by_block (Err why) = (why, refl)

-- ---- a call is answered negatively

-- What is done with a call that is refused: its answer is stored and sent, and there is still no relation.
record IsRefusedAt (station : Station) (live : Live) (caller : Caller) (call : Call) (operation : Operation) (what : Handled) : Type 0 where
  why : CallFault
  rest : Rest
  calls : rest.calls ≡ live.rest.calls
  asked : rest.asked ≡ live.rest.asked
  moves : what
      ≡ Moves
      (kept_behind station.identity rest call (answer_from live.values.running.suite.address caller call operation (Err why)) None)
      (answer_from live.values.running.suite.address caller call operation (Err why) ∷ [])

-- a Write
write_refused : (station : Station) (live : Live) (caller : Caller) (call : Call) (blocks : List ℕ) → live.rest.link ≡ None
    → IsRefusedAt station live caller call Write (handled_new station live caller call blocks Write)
write_refused station live caller call blocks none =
    let fails = write_fails live.rest.real blocks in
    record {
      why = fails.0;
      rest = live.rest;
      calls = refl;
      asked = refl;
      moves = ap (λ (asking : Result (Option Asking) CallFault). handled_asking station live caller call blocks Write asking)
          (unasked_write station live caller call blocks none)
          ∙ (ap (λ (l : Option RelationState). handled_write station live caller call (writing_of (uuid_of l) live.rest.real blocks)) none
          ∙ (ap (λ (r : Result Writing CallFault). handled_write station live caller call r) fails.1
          ∙ ap (λ (l : Option RelationState). served station live caller call Write (Err fails.0) l []) none));
    }

-- PrmEnd
abbrev ended_with : Station → Live → Caller → Call → List ℕ → Option RelationState → Result ControlBlock CallFault → Handled
ended_with station live caller call blocks before ended =
    let by_application = station.options.ready_by_application in
    let link = updated (answered (Named (partner_of caller)) ended) (updated (answered (Parameterized by_application) ended) before) in
    served station live caller call Control (ended >>= λ block. Ok (block_bytes (is.PrmEndRes (done_of block)))) link
    (ready_behind by_application live.values.running.suite.address link ended)

ended_refused : (station : Station) (live : Live) (caller : Caller) (call : Call) (blocks : List ℕ) → live.rest.link ≡ None
    → IsRefusedAt station live caller call Control (handled_new station live caller call blocks Control)
ended_refused station live caller call blocks none =
    let fails = ended_fails blocks in
    record {
      why = fails.0;
      rest = live.rest;
      calls = refl;
      asked = refl;
      moves = ap (λ (l : Option RelationState). if is_plug_control blocks l then handled_plug_end station live caller call blocks
          else ended_with station live caller call blocks l (prm_end_of l blocks)) none
          ∙ ap (λ (r : Result ControlBlock CallFault). ended_with station live caller call blocks None r) fails.1;
    }

-- Release
abbrev released_with : Station → Live → Caller → Call → Option RelationState → Option RelationState → Result ControlBlock CallFault → Handled
released_with station live caller call named before ended =
    let answer = ended >>= λ block. Ok (block_bytes (is.ReleaseRes (done_of block))) in
    let asked = left_asked (released_by answer (uuid_of named)) live.rest.asked in
    served station (but_rest live (record (with_log (release_log (uuid_of named) answer) live.rest) { asked = asked })) caller call Release answer
    (updated (answered Ended ended) before) []

released_refused : (station : Station) (live : Live) (caller : Caller) (call : Call) (blocks : List ℕ) → live.rest.link ≡ None
    → IsRefusedAt station live caller call Release (handled_new station live caller call blocks Release)
released_refused station live caller call blocks none =
    let fails = released_fails blocks in
    record {
      why = fails.0;
      rest = live.rest;
      calls = refl;
      asked = refl;
      moves = ap (λ (l : Option RelationState). released_with station live caller call l l (release_of l blocks)) none
          ∙ ap (λ (r : Result ControlBlock CallFault). released_with station live caller call None None r) fails.1;
    }

-- Each of these calls has an operation, and is refused.
record IsRefusedCall (setup : Setup) (station : Station) (live : Live) (caller : Caller) (request : Request) : Type 0 where
  operation : Operation
  operates : operation_of (operation_in request) ≡ Some operation
  stored : is_kept station.options operation ≡ true
  refused : IsRefusedAt station live caller (call_for setup request) operation
      (handled_new station live caller (call_for setup request) (blocks_of setup request) operation)

call_refused : (setup : Setup) (station : Station) (live : Live) (caller : Caller) (request : Request) → IsOfRelation request
    → live.rest.link ≡ None → IsRefusedCall setup station live caller request
unfolding operation_of
call_refused setup station live caller asks.Identify of none = absurd of
call_refused setup station live caller asks.Address of none = absurd of
call_refused setup station live caller asks.Connect of none = absurd of
call_refused setup station live caller (asks.Write number) of none = record {
  operation = Write;
  operates = refl;
  stored = refl;
  refused = write_refused station live caller (call_for setup (asks.Write number)) (blocks_of setup (asks.Write number)) none;
}
call_refused setup station live caller (asks.WriteAfter number tries) of none = record {
  operation = Write;
  operates = refl;
  stored = refl;
  refused = write_refused station live caller (call_for setup (asks.WriteAfter number tries)) (blocks_of setup (asks.WriteAfter number tries)) none;
}
call_refused setup station live caller asks.PrmEnd of none = record {
  operation = Control;
  operates = refl;
  stored = refl;
  refused = ended_refused station live caller (call_for setup asks.PrmEnd) (blocks_of setup asks.PrmEnd) none;
}
call_refused setup station live caller (asks.PrmEndAfter tries) of none = record {
  operation = Control;
  operates = refl;
  stored = refl;
  refused = ended_refused station live caller (call_for setup (asks.PrmEndAfter tries)) (blocks_of setup (asks.PrmEndAfter tries)) none;
}
call_refused setup station live caller (asks.Release sequence) of none = record {
  operation = Release;
  operates = refl;
  stored = refl;
  refused = released_refused station live caller (call_for setup (asks.Release sequence)) (blocks_of setup (asks.Release sequence)) none;
}

-- Each of them is a call.
pub called_of : (request : Request) → IsOfRelation request → IsCalled request
called_of asks.Identify of = absurd of
called_of asks.Address of = absurd of
called_of asks.Connect of = absurd of
called_of (asks.Write number) of = tt
called_of (asks.WriteAfter number tries) of = tt
called_of asks.PrmEnd of = tt
called_of (asks.PrmEndAfter tries) of = tt
called_of (asks.Release sequence) of = tt

-- ---- the address

-- The running address is the plan's.
runs_at : (running address : List ℕ) → (pointwise nat_eq address running && not (is_zero address)) ≡ true → address ≡ running
runs_at running address is = by_test (pointwise nat_eq address running) refl is
  where
    by_test : (same : Bool) → pointwise nat_eq address running ≡ same → (same && not (is_zero address)) ≡ true → address ≡ running
    by_test true e is = same_text address running (sym e)
    by_test false e is = absurd cc

-- ---- a step

module _ (setup : Setup) (identity : Identity) (outcomes : List Outcome) (station : Station) (live : Live) (request : Request)
    (hears : heard_of station.identity (comes (request_to setup identity request))
    ≡ Reported (caller_of setup.plan.controller) setup.plan.station.suite.address (Calls (call_for setup request))) where
  abbrev caller : Caller
  caller = caller_of setup.plan.controller

  abbrev call : Call
  call = call_for setup request

  pub denied : IsOfRelation request → station.identity ≡ identity → live.rest.link ≡ None → AsksNothing live
      → IsNewCall setup (sequence_of setup.plan request) live → is_reached setup live ≡ true
      → ((operation : Operation) (refusal : CallFault) → is_done (status_of operation refusal) ≡ false)
      → AreSendable identity (device_step outcomes station live (request_to setup identity request)).sent
      → Denies setup identity request live (device_step outcomes station live (request_to setup identity request))
  denied of same none nothing unheard reached negative sendable =
      let found = call_refused setup station live caller request of none in
      let operation = found.operation in
      let refusal = found.refused in
      let address = live.values.running.suite.address in
      let sent = answer_from address caller call operation (Err refusal.why) in
      let here = answer_from setup.plan.station.suite.address caller call operation (Err refusal.why) in
      let handles = ap (λ (o : Option Operation). handled_call station live caller call o) found.operates
      ∙ (ap (λ (kept : Bool). handled_looked station live caller call (blocks_of setup request) operation
      (looked_if kept setup.activity (sequence_of setup.plan request) live.rest.calls)) found.stored
      ∙ (ap (λ (l : Looked). handled_looked station live caller call (blocks_of setup request) operation l) unheard
      ∙ (unasked_new station live caller call (blocks_of setup request) operation nothing ∙ refusal.moves))) in
      let stepped = step_is outcomes station live (request_to setup identity request) caller setup.plan.station.suite.address (Calls call)
      (kept_behind station.identity refusal.rest call sent None) (sent ∷ []) hears reached handles in
      let message : sent ≡ here = ap (λ (a : List ℕ). answer_from a caller call operation (Err refusal.why))
      (sym (runs_at live.values.running.suite.address setup.plan.station.suite.address reached)) in
      let kept = kept_for station.identity call sent in
      subst (λ (step : Stepped). Denies setup identity request live step) (sym stepped) (record {
        octets = bytes_of station.identity sent;
        frames = refl;
        denial = record {
          status = status_of operation refusal.why;
          negative = negative operation refusal.why;
          fits = (subst (λ (messages : List Sent). AreSendable identity messages)
              (ap (λ (step : Stepped). step.sent) stepped ∙ ap (λ (s : Sent). s ∷ []) message) sendable).0.1;
          frame = ap (λ (s : Sent). bytes_of station.identity s) message ∙ ap (λ (i : Identity). bytes_of i here) same;
        };
        ready = never_busy operation refusal.why;
        values = refl;
        unrelated = refl;
        unasked = ap (λ (a : AskedState). a.standing) refusal.asked ∙ nothing;
        newer = λ later less. later_new setup.activity later (kept_more 4 kept refusal.rest.calls) kept (kept_first kept refusal.rest.calls) less;
        uncalled = λ activity other free.
            none_more activity kept refusal.rest.calls other (ap (kept_of activity) refusal.calls ∙ free);
      })

  pub unreached : is_reached setup live ≡ false → Keeps live (device_step outcomes station live (request_to setup identity request))
  unfolding heard_step handled_step
  unreached away =
      let handles = where_not (is_running live.values.running setup.plan.station.suite.address) (handled_said station live caller (Calls call))
      (Refuses note.NotMine) away in
      subst (λ (h : Heard). Keeps live (heard_step outcomes station live h)) (sym hears)
      (subst (λ (what : Handled). Keeps live (handled_step outcomes station live what)) (sym handles) (refl, refl))
