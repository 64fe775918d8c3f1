-- Which Write is new to the device, and that a Write leaves the records of a place whose parameters ended.
use Rattle.std.proofs.Common.{◌≡◌, ◌⊎◌, inl, inr, ◌<◌, ◌≤◌, ◌++◌, ◌==◌, ℕ, zero, suc, Bool, true, false, List, [], ◌∷◌, length, map, Option, Some, None, option_map, refl, sym, ap, subst, ◌∙◌, append-nil, arith}
use Rattle.std.specs.Prelude.{unwrap_or}
use Rattle.std.specs.List.{AllByRecursion}
use Rattle.std.proofs.lemmas.Bool.{eqb-true, ne_eqb}
use Rattle.settings_journal.specs.settings_store.Machine.{Outcome}
use Rattle.frame_codec.specs.declared.udp.Caller.{Caller}
use Rattle.record_blocks.specs.declared.alarm_notification.AlarmNotification.{AlarmNotification}
use Rattle.rpc_core.specs.Cache.{kept_of}
use Rattle.rpc_core.specs.Call.{Asked as Call}
use Rattle.block_codec.specs.declared.block.Block.TheVariants as variant
use Rattle.block_codec.specs.Writable.{CanBeWritten}
use Rattle.diagnosis.specs.World.{IsPrefixOf}
use Rattle.records.specs.declared.status.operation.Operation.{Operation}
use Rattle.records.specs.declared.status.operation.Operation.TheVariants as operation
use Rattle.records.specs.status.Operation.{operation_of}
use Rattle.records.specs.declared.writes.taken.TakenRecord.{TakenRecord}
use Rattle.records.specs.writes.Asked.{writing_of}
use Rattle.relations.specs.RelationState.{RelationState, uuid_of}
use Rattle.device_frames.specs.declared.event.Event.TheVariants.{Frame}
use Rattle.device_frames.specs.Heard.{Calls, Heard, Reported, heard_of}
use Rattle.device_core.specs.State.{Live, Station}
use Rattle.device_core.specs.Machine.{heard_step}
use Rattle.controller_messages.specs.declared.plug_request.PlugRequest.{PlugRequest}
use Rattle.controller_messages.specs.declared.plug_request.PlugStep.{PlugStep}
use Rattle.controller_messages.specs.declared.plug_request.PlugStep.TheVariants.{Record, PrmEnd}
use Rattle.controller_messages.specs.declared.record_request.RecordRequest.{RecordRequest}
use Rattle.controller_messages.specs.declared.record_request.RecordService.{RecordService}
use Rattle.controller_messages.specs.declared.record_request.RecordService.TheVariants as service
use Rattle.controller_messages.specs.declared.request.Request.{Request as Asking}
use Rattle.controller_messages.specs.PlugRequests.{plug_call, plug_operation}
use Rattle.controller_messages.specs.RecordRequests.{record_blocks, record_call, service_operation, written_of}
use Rattle.controller_messages.specs.Sent.{Sent, Requests, Accesses, Parametrizes, Agrees, Cycles, Confirms, Replies, Ends, bytes_of}
use Rattle.controller_core.specs.declared.stored.state.State.{State}
use Rattle.controller_core.specs.declared.stored.state.State.TheVariants.{Looking, Addressing, Connecting, Writing as InWriting, Ending, Waiting, Exchanging, Ended}
use Rattle.controller_core.specs.stored.State.{Controlling}
use Rattle.network_world.specs.World.{is_ended}
use Rattle.end_laws.specs.hearing.Stations.{IsRecordCall, IsSetup}
use Rattle.end_laws.specs.sending.Addressed.{IsAimed}
use Rattle.end_laws.specs.sending.Sized.{IsPlugging, IsWaiting}
use Rattle.end_laws.specs.both.Small as small
use Rattle.end_laws.specs.both.Small.{Ask, Rules, ToDevice}
use Rattle.end_laws.specs.both.Steps.{IsNew}
use Rattle.end_laws.specs.controller.Small.{IsInStep}
use Rattle.end_laws.specs.device.Small.{IsPlanned, IsPlannedCall, Planned, heard_as, kept_in, number_in, written_by}
use Rattle.end_laws.specs.device.Small as device
use Rattle.both_ends.specs.startup.Played.{ArePlaced, IsParameter, IsPlaced}
use Rattle.both_ends.specs.startup.View.{is_planned, rules_of, taken_for}
use Rattle.plug_ends.specs.Places.{taken_at}
use Rattle.plug_ends.specs.Plugged.{IsElsewhere}
use Rattle.plug_ends.specs.Taken.{IsWriteOf, TakesOne, hears_plug, taken_in}
use Rattle.plug_ends.specs.Told.{LastPlug}
use Rattle.plug_ends.proofs.AskedKinds.{IsStarting}
use Rattle.plug_ends.proofs.AskedLists.{last_upper, last_was, plug_here, was_more}
use Rattle.plug_ends.proofs.AskedWords.{HearsEnd, IsEndedAt, WasPlug}
use Rattle.plug_ends.proofs.CallsRuns.{Held, IsTied, all_at}
use Rattle.plug_ends.proofs.CallsTurns.{none_some, present_of, some_same}
use Rattle.plug_ends.proofs.CallsWorlds.{new_kept}
use Rattle.plug_ends.proofs.DeviceGoes.{TakesRecords}
use Rattle.plug_ends.proofs.PluggedDevice.{PluggedSo, frame_call}
use Rattle.plug_ends.proofs.PluggedLists.{IsRecordAt, IsStepAt}
use Rattle.plug_ends.proofs.PluggedState.{HasEnd, IsKnownWrite, IsNewIn, IsWriteBy, Joined, WasIn}
use Rattle.plug_ends.proofs.PluggedWorlds.{present_as}
use Rattle.plug_ends.proofs.Written.{any_came, plain_rules}
use Rattle.plug_ends.proofs.PluggedWrites.{other_more, writes_elsewhere}

-- ---- lists of frames

pub in_more : (sent more : List (List ℕ)) (frame : List ℕ) → WasIn sent frame → WasIn (sent ++ more) frame
in_more [] more frame (number, e) = absurd (none_some frame e)
in_more (x ∷ sent) more frame (zero, e) = (zero, e)
in_more (x ∷ sent) more frame (suc number, e) = later (in_more sent more frame (number, e))
  where
    later : WasIn (sent ++ more) frame → WasIn (x ∷ (sent ++ more)) frame
    later it = (suc it.0, it.1)

pub split_in : (sent more : List (List ℕ)) (frame : List ℕ) → WasIn (sent ++ more) frame → WasIn sent frame ⊎ WasIn more frame
split_in [] more frame it = inr it
split_in (x ∷ sent) more frame (zero, e) = inl (zero, e)
split_in (x ∷ sent) more frame (suc number, e) = later (split_in sent more frame (number, e))
  where
    later : WasIn sent frame ⊎ WasIn more frame → WasIn (x ∷ sent) frame ⊎ WasIn more frame
    later (inl it) = inl (suc it.0, it.1)
    later (inr it) = inr it

-- ---- the start-up

beginning : (plan : _) (phase : State) (asked : Option Asking) (request : Asking) → IsInStep plan phase asked → asked ≡ Some request → is_ended phase ≡ false
    → IsStarting phase
beginning plan Looking asked request step is going = tt
beginning plan Addressing asked request step is going = tt
beginning plan Connecting asked request step is going = tt
beginning plan InWriting asked request step is going = tt
beginning plan Ending asked request step is going = tt
beginning plan Waiting asked request step is going = tt
beginning plan Exchanging asked request step is going = absurd (none_some request (sym step ∙ is))
beginning plan (Ended cause) asked request step is going = absurd (true_false going)
  where
    true_false : true ≡ false → ⊥
    true_false e = absurd cc

-- ---- what is known in a state

pub record Known (c : Controlling) (station : Station) (sent : List (List ℕ)) (alarms : List AlarmNotification) (slot subslot : ℕ) : Type 0 where
  pub request : (request : PlugRequest) → c.live.access.plug ≡ Some request → WasPlug request.slot request.subslot request.number alarms
  pub ends : (frame : List ℕ) (number : ℕ) → WasIn sent frame → HearsEnd station.identity frame number
      → (at : ℕ) × (below : ℕ) × IsEndedAt alarms c.live at below number
  pub starts : IsStarting c.live.phase → (frame : List ℕ) (number : ℕ) → WasIn sent frame → HearsEnd station.identity frame number → ⊥
  pub unwritten : (request : RecordRequest) → c.live.access.waiting ≡ Some request → IsElsewhere slot subslot request
  pub aimed : IsAimed c.live

module _ (slot subslot : ℕ) (c : Controlling) (station : Station) (live : Live) (sent : List (List ℕ)) (alarms raised : List AlarmNotification)
    (prefix : IsPrefixOf alarms raised)
    (held : Held c station live sent) (was : Joined slot subslot c station live sent raised) (known : Known c station sent alarms slot subslot) where
  in_raised : (at below other : ℕ) → WasPlug at below other alarms → WasPlug at below other raised
  in_raised at below other plug = subst (λ (xs : List AlarmNotification). WasPlug at below other xs) prefix.1 (was_more at below other alarms prefix.0 plug)

  some_frame : (message : Option Sent) (frame : List ℕ) → option_map (bytes_of c.setup) message ≡ Some frame → (m : Sent) × (message ≡ Some m) × (bytes_of c.setup m ≡ frame)
  some_frame None frame e = absurd (none_some frame e)
  some_frame (Some m) frame e = (m, refl, some_same _ _ e)

  -- a call that is new, and ends neither parameters nor the relation, is the one that waits
  pub present_new : is_ended c.live.phase ≡ false → (frame : List ℕ) → WasIn sent frame → (fresh : IsNewIn c.setup station live frame)
      → (fresh.ask ≡ small.Parameterized → ⊥) → (fresh.ask ≡ small.Releases → ⊥) → (m : Sent) × (present_of c.live ≡ Some m) × (bytes_of c.setup m ≡ frame)
  present_new going frame there fresh no_end no_release =
      by_calls ((all_at _ sent held.holds.frames there.0 frame there.1).calls fresh.sequence fresh.ask fresh.is fresh.new)
    where
      by_calls : (fresh.ask ≡ small.Parameterized) ⊎ ((held.last ≡ Some frame) ⊎ ((fresh.ask ≡ small.Releases) × (is_ended c.live.phase ≡ true)))
          → (m : Sent) × (present_of c.live ≡ Some m) × (bytes_of c.setup m ≡ frame)
      by_calls (inl e) = absurd (no_end e)
      by_calls (inr (inl e)) = by_tie (held.tie going)
        where
          by_tie : IsTied c station held.last → (m : Sent) × (present_of c.live ≡ Some m) × (bytes_of c.setup m ≡ frame)
          by_tie (inl none) = absurd (none_some frame (sym none ∙ e))
          by_tie (inr tied) = some_frame (present_of c.live) frame (sym tied.0 ∙ e)
      by_calls (inr (inr e)) = absurd (no_release e.0)

  pub writes_known : (frame : List ℕ) → WasIn sent frame → (fresh : IsNewIn c.setup station live frame) → (fresh.ask ≡ small.Parameterized → ⊥)
      → (fresh.ask ≡ small.Releases → ⊥) → IsKnownWrite slot subslot raised c.setup station sent frame
  writes_known frame there fresh no_end no_release = by_ended (is_ended c.live.phase) refl
    where
      by_present : is_ended c.live.phase ≡ false → (m : Sent) × (present_of c.live ≡ Some m) × (bytes_of c.setup m ≡ frame)
          → IsKnownWrite slot subslot raised c.setup station sent frame
      by_present going it = record { message = it.0; is = sym it.2; by = by_message it.0 (present_as c.live it.0 it.1) }
        where
          by_message : (m : Sent) → Rattle.plug_ends.proofs.PluggedWorlds.IsPresentAs c.live m → IsWriteBy slot subslot raised c.setup station sent m
          by_message (Requests to request) is = known.starts (beginning c.setup.plan c.live.phase c.live.asked request held.steady.asked is going)
          by_message (Accesses to request octets) is = (
            subst (λ (mac : Rattle.pn_values.specs.declared.mac.Mac.Mac). Rattle.frame_codec.specs.Sendable.IsMac mac) (sym is.3) known.aimed.device,
            subst (λ (all : List ℕ). IsRecordCall request all) (sym is.2)
                (subst (λ (waiting : Option RecordRequest). IsWaiting waiting c.live.access.octets) is.0 known.aimed.access.0),
            known.unwritten request is.0,
          )
          by_message (Parametrizes to request) is = (
            subst (λ (mac : Rattle.pn_values.specs.declared.mac.Mac.Mac). Rattle.frame_codec.specs.Sendable.IsMac mac) (sym is.2) known.aimed.device,
            subst (λ (plug : Option PlugRequest). IsPlugging plug) is.1 known.aimed.access.1,
            was.own request is.1,
            in_raised request.slot request.subslot request.number (known.request request is.1),
            λ slot_is subslot_is number step_is other_frame other other_there hears.
                let end = known.ends other_frame other other_there hears in (
                  end.0,
                  end.1,
                  in_raised end.0 end.1 other end.2.plug,
                  λ at below. end.2.request request is.1 (slot_is ∙ sym at) (subslot_is ∙ sym below) (record { number = number; is = step_is }),
                ),
          )
          by_message (Agrees caller answer) is = absurd is
          by_message (Cycles route shown counter) is = absurd is
          by_message (Confirms route priority header ack) is = absurd is
          by_message (Replies route priority header) is = absurd is
          by_message (Ends route header reason) is = absurd is

      by_ended : (b : Bool) → is_ended c.live.phase ≡ b → IsKnownWrite slot subslot raised c.setup station sent frame
      by_ended true e = was.late e frame there fresh no_end no_release
      by_ended false e = by_present e (present_new e frame there fresh no_end no_release)

-- ---- a Write at the device

-- the Write that is heard is a call, which ends neither parameters nor the relation
pub record IsWriteCall (planned : Planned) (call : Call) : Type 0 where
  pub ask : Ask
  pub is : device.said_to planned (Calls call) ≡ small.Call call.header.sequence ask
  pub no_end : ask ≡ small.Parameterized → ⊥
  pub no_release : ask ≡ small.Releases → ⊥

write_call : (planned : Planned) (call : Call) → operation_of call.header.operation ≡ Some operation.Write → IsWriteCall planned call
write_call planned call asks = by_test (planned call.header.sequence (unwrap_or call.blocks [])) refl
  where
    said : (b : Bool) → planned call.header.sequence (unwrap_or call.blocks []) ≡ b
        → device.said_to planned (Calls call) ≡ written_by b call.header.sequence (number_in (unwrap_or call.blocks []))
    said b e =
        ap (λ (which : Option Operation). device.asked_by planned call.header.sequence (unwrap_or call.blocks []) which) asks
        ∙ ap (λ (x : Bool). written_by x call.header.sequence (number_in (unwrap_or call.blocks []))) e

    by_test : (b : Bool) → planned call.header.sequence (unwrap_or call.blocks []) ≡ b → IsWriteCall planned call
    by_test true e = record { ask = _; is = said true e; no_end = λ f. absurd cc; no_release = λ f. absurd cc }
    by_test false e = record { ask = _; is = said false e; no_end = λ f. absurd cc; no_release = λ f. absurd cc }

same_call : (one other : Caller) (here there : List ℕ) (call asked_call : Call) → Reported one here (Calls call) ≡ Reported other there (Calls asked_call)
    → call ≡ asked_call
same_call one other here there call asked_call e = cc

read_write : operation_of 2 ≡ Some operation.Write → ⊥
unfolding operation_of
read_write e = absurd cc

pub control_write : operation_of 4 ≡ Some operation.Write → ⊥
unfolding operation_of
control_write e = absurd cc

module _ (so : PluggedSo) (slot subslot : ℕ) (c : Controlling) (station : Station) (live : Live) (sent : List (List ℕ)) (outcomes : List Outcome) (heard : Heard)
    (good : IsSetup c.setup) (planned : IsPlanned (rules_of c.setup station) c.setup.activity station.named live.rest.real heard)
    (placed : ArePlaced c.setup.plan.records.items) (parameters : AllByRecursion IsParameter c.setup.plan.records.items) where
  abbrev after : Live
  after = (heard_step outcomes station live heard).live

  module _ (write : TakesRecords live heard live.rest.link after.rest.link) (frame : List ℕ)
      (from : heard ≡ heard_of station.identity (Frame (record { items = frame }))) where
    plan : IsPlannedCall (rules_of c.setup station) c.setup.activity station.named live.rest.real write.call
    plan = subst (λ (h : Heard). IsPlanned (rules_of c.setup station) c.setup.activity station.named live.rest.real h) write.came.is planned

    asked : IsWriteCall (is_planned c.setup) write.call
    asked = write_call (is_planned c.setup) write.call write.came.asks

    small_is : heard_as (is_planned c.setup) heard ≡ small.Call write.call.header.sequence asked.ask
    small_is = ap (λ (h : Heard). heard_as (is_planned c.setup) h) write.came.is ∙ asked.is

    -- it is new
    pub write_fresh : IsNewIn c.setup station live frame
    write_fresh = record {
      sequence = write.call.header.sequence;
      ask = asked.ask;
      is = ap (λ (h : Heard). heard_as (is_planned c.setup) h) (sym from) ∙ small_is;
      new = subst (λ (activity : List ℕ). IsNew write.call.header.sequence (option_map kept_in (kept_of activity live.rest.calls))) plan.own
          (new_kept write.call.header.activity write.call.header.sequence live.rest.calls write.came.fresh);
    }

    pub write_no_end : write_fresh.ask ≡ small.Parameterized → ⊥
    unfolding asked write_fresh
    write_no_end e = asked.no_end e

    pub write_no_release : write_fresh.ask ≡ small.Releases → ⊥
    unfolding asked write_fresh
    write_no_release e = asked.no_release e

    module _ (link next : RelationState) (before_is : live.rest.link ≡ Some link) (after_is : after.rest.link ≡ Some next)
        (since : taken_at slot subslot next.taken ≡ taken_at slot subslot link.taken ++ taken_at slot subslot write.values)
        (raised : List AlarmNotification) (number : ℕ) (last : LastPlug slot subslot number raised)
        (ended : HasEnd slot subslot station sent number) where
      abbrev Same : Type 0
      Same = taken_at slot subslot next.taken ≡ taken_at slot subslot link.taken

      -- ---- of the application, elsewhere

      elsewhere : (request : RecordRequest) (octets : List ℕ) → IsRecordCall request octets → IsElsewhere slot subslot request
          → write.call ≡ record_call c.setup request octets → Same
      elsewhere request octets can other is = by_service request.service refl
        where
          asks : operation_of (service_operation request.service) ≡ Some operation.Write
          asks = ap (λ (call : Call). operation_of call.header.operation) (sym is) ∙ write.came.asks

          blocks_are : write.blocks ≡ record_blocks c.setup request octets request.service
          blocks_are = some_same write.blocks (record_blocks c.setup request octets request.service)
              (sym write.came.counted ∙ ap (λ (call : Call). call.blocks) is)

          can_write : CanBeWritten (variant.IodWriteReq (written_of c.setup request (length octets)))
          can_write =
              let few = can.1 in
              record {
                header = record {
                  seq_number = Rattle.std.proofs.Math.Nat.mod-lt request.sequence (omega arith);
                  ar_uuid = good.ar;
                  api = omega arith;
                  slot_number = other.slot_sized;
                  subslot_number = other.subslot_sized;
                  index = other.index_sized;
                  record_data_length = omega (arith, few);
                };
              }

          by_service : (s : RecordService) → request.service ≡ s → Same
          by_service service.Read e = absurd (read_write (ap (λ (x : RecordService). operation_of (service_operation x)) (sym e) ∙ asks))
          by_service service.Write e =
              since
              ∙ (ap (λ (xs : List TakenRecord). taken_at slot subslot link.taken ++ xs)
              (writes_elsewhere so.read live.rest.real (written_of c.setup request (length octets)) octets refl can_write slot subslot
              (λ slot_is subslot_is. other.other (record { writes = e; slot_is = slot_is; subslot_is = subslot_is }))
              (uuid_of live.rest.link) write.writing write.values
              (subst (λ (blocks : List ℕ). writing_of (uuid_of live.rest.link) live.rest.real blocks ≡ Rattle.std.proofs.Common.Ok write.writing)
              (blocks_are ∙ ap (λ (x : RecordService). record_blocks c.setup request octets x) e) write.judged) write.are)
              ∙ append-nil (taken_at slot subslot link.taken))

      -- ---- a record of the plan, elsewhere

      record_of : (step : PlugStep) → operation_of (plug_operation step) ≡ Some operation.Write → (n : ℕ) × (step ≡ Record n)
      record_of (Record n) e = (n, refl)
      record_of PrmEnd e = absurd (control_write e)

      other_place : (request : PlugRequest) (n : ℕ) → request.step ≡ Record n → IsRecordAt c.setup.plan request.slot request.subslot n
          → (request.slot ≡ slot → request.subslot ≡ subslot → ⊥) → (caller : Caller) (address : List ℕ) → heard ≡ hears_plug c.setup caller address request → Same
      other_place request n step_is own apart caller address is =
          by_came (subst (λ (h : Heard). (taken_in (heard_step outcomes station live h).live.rest.link ≡ taken_in live.rest.link)
          ⊎ TakesOne (taken_for own.entry) live.rest.link (heard_step outcomes station live h).live.rest.link) (sym is)
          (any_came so.read so.undone so.turns c.setup good request own.entry entry_is (plain_rules c.setup) refl outcomes station live caller address))
        where
          entry_is : IsWriteOf c.setup request own.entry
          entry_is = record {
            number = n;
            step = step_is;
            is = own.is;
            slot = own.slot_is;
            subslot = own.subslot_is;
            placed = all_at IsPlaced c.setup.plan.records.items placed n own.entry own.is;
            parameter = all_at IsParameter c.setup.plan.records.items parameters n own.entry own.is;
          }

          before_taken : taken_in live.rest.link ≡ Some link.taken
          before_taken = ap (λ (l : Option RelationState). taken_in l) before_is

          after_taken : taken_in after.rest.link ≡ Some next.taken
          after_taken = ap (λ (l : Option RelationState). taken_in l) after_is

          by_came : (taken_in after.rest.link ≡ taken_in live.rest.link) ⊎ TakesOne (taken_for own.entry) live.rest.link after.rest.link → Same
          by_came (inl same) =
              ap (λ (xs : List TakenRecord). taken_at slot subslot xs) (some_same next.taken link.taken (sym after_taken ∙ (same ∙ before_taken)))
          by_came (inr one) =
              let before_one : one.link.taken ≡ link.taken =
              some_same one.link.taken link.taken (sym (ap (λ (l : Option RelationState). taken_in l) one.was) ∙ before_taken) in
              ap (λ (xs : List TakenRecord). taken_at slot subslot xs)
              (some_same next.taken (one.link.taken ++ taken_for own.entry ∷ []) (sym after_taken ∙ one.becomes)
              ∙ ap (λ (xs : List TakenRecord). xs ++ taken_for own.entry ∷ []) before_one)
              ∙ other_more slot subslot link.taken (taken_for own.entry)
              (λ slot_is subslot_is. apart (own.slot_is ∙ slot_is) (own.subslot_is ∙ subslot_is))

      -- ---- any of them

      not_both : (one other : ℕ) → one < other → other ≤ one → ⊥
      not_both one other less most = omega (arith, less, most)

      pub same_since : IsKnownWrite slot subslot raised c.setup station sent frame → Same
      same_since it = by_message it.message it.is it.by
        where
          by_message : (m : Sent) → frame ≡ bytes_of c.setup m → IsWriteBy slot subslot raised c.setup station sent m → Same
          by_message (Requests to request) is none = absurd (none ended.0 number ended.1 ended.2)
          by_message (Accesses to request octets) is by =
              let there : heard ≡ heard_of station.identity (Frame (record { items = bytes_of c.setup (Accesses to request octets) })) =
              from ∙ ap (λ (octets : List ℕ). heard_of station.identity (Frame (record { items = octets }))) is in
              let call = frame_call so station.identity c.setup to (record_call c.setup request octets) good by.0
              (so.fine.heard.record_can c.setup request octets good by.1) (is_planned c.setup) write.call.header.sequence asked.ask
              (ap (λ (h : Heard). heard_as (is_planned c.setup) h) (sym there) ∙ small_is) in
              elsewhere request octets by.1 by.2
              (same_call write.caller call.caller write.came.address call.address write.call (record_call c.setup request octets) (sym write.came.is ∙ (there ∙ call.is)))
          by_message (Parametrizes to request) is by =
              let there : heard ≡ heard_of station.identity (Frame (record { items = bytes_of c.setup (Parametrizes to request) })) =
              from ∙ ap (λ (octets : List ℕ). heard_of station.identity (Frame (record { items = octets }))) is in
              let call = frame_call so station.identity c.setup to (plug_call c.setup request) good by.0
              (so.fine.heard.plug_call_can c.setup request good by.1) (is_planned c.setup) write.call.header.sequence asked.ask
              (ap (λ (h : Heard). heard_as (is_planned c.setup) h) (sym there) ∙ small_is) in
              let same : write.call ≡ plug_call c.setup request =
              same_call write.caller call.caller write.came.address call.address write.call (plug_call c.setup request) (sym write.came.is ∙ (there ∙ call.is)) in
              let which = record_of request.step (ap (λ (x : Call). operation_of x.header.operation) (sym same) ∙ write.came.asks) in
              by_place call.caller call.address (there ∙ call.is) which.0 which.1
              (subst (λ (step : PlugStep). IsStepAt c.setup.plan request.slot request.subslot step) which.1 by.2)
              (request.slot == slot) refl (request.subslot == subslot) refl
            where
              here : request.slot ≡ slot → request.subslot ≡ subslot → (n : ℕ) → request.step ≡ Record n → Same
              here slot_is subslot_is n step_is =
                  let before = by.4 slot_is subslot_is n step_is ended.0 number ended.1 ended.2 in
                  let place = plug_here before.0 before.1 slot subslot number raised before.2 (last_was slot subslot number raised last) in
                  let plug : WasPlug slot subslot request.number raised =
                  subst (λ (s : ℕ). WasPlug s subslot request.number raised) slot_is
                  (subst (λ (s : ℕ). WasPlug request.slot s request.number raised) subslot_is by.3) in
                  absurd (not_both number request.number (before.3 place.0 place.1) (last_upper slot subslot number request.number raised last plug))

              by_place : (caller : Caller) (address : List ℕ) → heard ≡ hears_plug c.setup caller address request → (n : ℕ) → request.step ≡ Record n
                  → IsRecordAt c.setup.plan request.slot request.subslot n → (b : Bool) → (request.slot == slot) ≡ b → (d : Bool) → (request.subslot == subslot) ≡ d → Same
              by_place caller address e n step_is own true f true g = here (eqb-true request.slot slot f) (eqb-true request.subslot subslot g) n step_is
              by_place caller address e n step_is own false f d g =
                  other_place request n step_is own (λ slot_is subslot_is. true_false (sym (Rattle.std.proofs.lemmas.Bool.eq-eqb request.slot slot slot_is) ∙ f))
                  caller address e
                where
                  true_false : true ≡ false → ⊥
                  true_false h = absurd cc
              by_place caller address e n step_is own true f false g =
                  other_place request n step_is own (λ slot_is subslot_is. true_false (sym (Rattle.std.proofs.lemmas.Bool.eq-eqb request.subslot subslot subslot_is) ∙ g))
                  caller address e
                where
                  true_false : true ≡ false → ⊥
                  true_false h = absurd cc
          by_message (Agrees caller answer) is by = absurd by
          by_message (Cycles route shown counter) is by = absurd by
          by_message (Confirms route priority header ack) is by = absurd by
          by_message (Replies route priority header) is by = absurd by
          by_message (Ends route header reason) is by = absurd by
