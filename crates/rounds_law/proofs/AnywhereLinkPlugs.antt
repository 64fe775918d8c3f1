-- What a call of a controller after a plug does to a relation of a device, and what the device sends then.
use Rattle.std.proofs.Common.{◌≡◌, ◌⊎◌, inl, inr, ◌-◌, ◌≤◌, ◌<◌, ◌&&◌, ◌++◌, ℕ, suc, Bool, true, false, List, [], ◌∷◌, length, map, Option, Some, None}
use Rattle.std.proofs.Common.{Result, Ok, Err, refl, sym, ap, subst, ◌∙◌, arith}
use Rattle.std.specs.Prelude.{if◌then◌else◌, nat_lt}
use Rattle.std.specs.List.{AllByRecursion}
use Rattle.std.proofs.lemmas.Bool.{and_parts, false≢true, ltb-true}
use Rattle.std.proofs.lemmas.List.{length-append}
use Rattle.flash_model.specs.declared.flash.Flash.{Ghosts as Flash}
use Rattle.wire.proofs.Fields.{ok_is}
use Rattle.pn_values.specs.declared.identity.Identity.{Identity}
use Rattle.pn_values.specs.declared.mac.Mac.{Mac}
use Rattle.settings_journal.specs.settings_store.Machine.{Outcome}
use Rattle.frame_codec.specs.declared.udp.Caller.{Caller}
use Rattle.connect_blocks.specs.declared.plug_control.PlugControlBlock.{PlugControlBlock}
use Rattle.cyclic_data.specs.declared.exchange.route.Route.{Route}
use Rattle.records.specs.declared.status.call_fault.CallFault.{CallFault}
use Rattle.records.specs.declared.status.call_fault.CallFault.TheVariants as fault
use Rattle.records.specs.declared.writes.taken.TakenRecord.{TakenRecord}
use Rattle.records.specs.writes.Taken.{keep_of}
use Rattle.relations.specs.Passed.{PassedOn, passed_more}
use Rattle.relations.specs.Phases.{Named, Records, Took, keeping, kept_in, restarted, updated, with_records}
use Rattle.relations.specs.Plugging.{begins_as_plug_end, calling_next, is_calling, is_plug_control, plug_ready_of}
use Rattle.relations.specs.Plugging.{ended_by as plug_ended_by}
use Rattle.relations.specs.RelationState.{RelationState, is_exchanging}
use Rattle.relations.specs.Timers.{is_timed, limit_of}
use Rattle.relations.specs.declared.phase.Partner.{Partner}
use Rattle.relations.specs.declared.phase.Phase.{Phase}
use Rattle.relations.specs.declared.phase.Phase.TheVariants.{Awaiting, Exchanging as in_exchange, Preparing, Started}
use Rattle.relations.specs.declared.plugging.PlugReady.{PlugReady}
use Rattle.device_frames.specs.declared.note.Note.TheVariants as note
use Rattle.device_frames.specs.Heard.{Calls, Heard, Reported, heard_of as device_hears}
use Rattle.device_frames.specs.Relation.{plug_call_in, plug_calls, where_due}
use Rattle.device_frames.specs.Sendable.{AreSendable, IsSendable}
use Rattle.device_frames.specs.Sent.{Sent as Message, IdentifyAnswer, GetAnswer, SetAnswer, ArpReply, CallAnswer, Again, ReadyCall, PlugReadyCall, Exchanges}
use Rattle.device_frames.specs.Sent.{Ends as EndsWith, bytes_of}
use Rattle.device_core.specs.State.{Live, State, Station}
use Rattle.device_core.specs.Handled.{Handled, Refuses, handled, handled_said, is_running, partner_of}
use Rattle.device_core.specs.Machine.{handled_step, heard_step}
use Rattle.controller_messages.specs.declared.plug_request.PlugRequest.{PlugRequest}
use Rattle.controller_messages.specs.declared.setup.Setup.{Setup}
use Rattle.controller_messages.specs.Heard.{heard_of}
use Rattle.controller_messages.specs.Heard.{Cyclic as Comes}
use Rattle.controller_messages.specs.PlugRequests.{plug_call}
use Rattle.controller_messages.specs.Sent.{Sent, Requests, Accesses, Parametrizes, Agrees, Cycles, Confirms, Replies, Ends, bytes_of as controller_bytes}
use Rattle.controller_core.specs.stored.State.{Controlling}
use Rattle.end_laws.specs.hearing.Hearing.{comes}
use Rattle.end_laws.specs.sending.Messages.{CanBeSent}
use Rattle.both_ends.specs.startup.answer.Answer.{caller_of}
use Rattle.rounds_law.specs.Again.{units_left}
use Rattle.rounds_law.specs.Anywhere.{AllLast, IsAnyDevice, IsNoData, IsUntold}
use Rattle.rounds_law.specs.AnywhereFrames.{HasWay, IsOfPlug, IsOwn}
use Rattle.rounds_law.proofs.AnywhereDeviceAnswers.{CallLaws}
use Rattle.rounds_law.proofs.AnywhereDeviceCalls.{plain_at, unasked_at}
use Rattle.rounds_law.proofs.AnywhereDeviceHears.{IsHeardAs, message_heard, message_said}
use Rattle.rounds_law.proofs.AnywhereDeviceLaw.{DeviceLaws, calls}
use Rattle.rounds_law.proofs.AnywhereLinkCyclic.{not_data, udp_no_data}
use Rattle.rounds_law.proofs.AnywhereLinkHears.{IsNoPlug}
use Rattle.rounds_law.proofs.AnywhereLinkLaws.{ReadLaws}
use Rattle.rounds_law.proofs.AnywhereLinkMoved.{IsNow, as_before, no_more}
use Rattle.rounds_law.proofs.AnywhereParts.{Accepts, Hears, IsLong, IsOfExchange, LinkGoesOn, room_of}
use Rattle.rounds_law.proofs.AnywherePlugWalk.{Walks, end_blocks, walk}
use Rattle.rounds_law.proofs.Choices.{and_false}

-- ---- a frame with such a call

-- A call of the controller after a plug.
pub record IsPlugOwn (setup : Setup) (octets : List ℕ) : Type 0 where
  pub device : Mac
  pub request : PlugRequest
  pub frame : octets ≡ controller_bytes setup (Parametrizes device request)
  pub sendable : CanBeSent setup (Parametrizes device request)
  pub way : IsOfPlug setup request

pub data_or_plug : (setup : Setup) (route : Route) (octets : List ℕ) → IsOwn setup (IsOfExchange route) octets
    → IsOwn setup (IsNoPlug route) octets ⊎ IsPlugOwn setup octets
data_or_plug setup route octets own = by_message own.message own.frame own.sendable own.way own.is
  where
    by_message : (message : Sent) → octets ≡ controller_bytes setup message → CanBeSent setup message → HasWay setup message → IsOfExchange route message
        → IsOwn setup (IsNoPlug route) octets ⊎ IsPlugOwn setup octets
    by_message (Requests device request) frame can way is = absurd is
    by_message (Accesses device request blocks) frame can way is = absurd is
    by_message (Parametrizes device request) frame can way is =
        inr (record { device = device; request = request; frame = frame; sendable = can; way = way })
    by_message (Agrees caller answer) frame can way is =
        inl (record { message = Agrees caller answer; frame = frame; sendable = can; way = way; is = is })
    by_message (Cycles sent shown counter) frame can way is =
        inl (record { message = Cycles sent shown counter; frame = frame; sendable = can; way = way; is = is })
    by_message (Confirms sent priority header ack) frame can way is =
        inl (record { message = Confirms sent priority header ack; frame = frame; sendable = can; way = way; is = is })
    by_message (Replies sent priority header) frame can way is =
        inl (record { message = Replies sent priority header; frame = frame; sendable = can; way = way; is = is })
    by_message (Ends sent header reason) frame can way is =
        inl (record { message = Ends sent header reason; frame = frame; sendable = can; way = way; is = is })

-- ---- what the device does

module _ (setup next : Setup) (identity : Identity) (silence : ℕ) (station : Station) (live : Live) (laws : CallLaws setup next silence station)
    (before : IsAnyDevice setup next identity silence station live) (request : PlugRequest) (of : IsOfPlug setup request) where
  abbrev caller : Caller
  caller = caller_of setup.plan.controller

  abbrev said : Heard
  said = Reported (caller_of setup.plan.controller) setup.plan.station.suite.address (Calls (plug_call setup request))

  -- What holds of each thing that the call can do holds of what is heard.
  pub said_at : (P : Handled → Type 0) → Walks setup station live caller request P → (address : List ℕ)
      → P (handled station live (Reported caller address (Calls (plug_call setup request))))
  said_at P walks address = by_test (is_running live.values.running address)
    where
      by_test : (runs : Bool) → P (if runs then handled_said station live caller (Calls (plug_call setup request)) else Refuses note.NotMine)
      by_test true =
          walk setup station live caller request (plain_at setup next identity silence station laws live before request of)
          (unasked_at setup next identity silence station laws live before request of) P walks
      by_test false = walks.refuses note.NotMine

  heard_so : (P : Handled → Type 0) → Walks setup station live caller request P → (heard : Heard) → IsHeardAs heard said → P (handled station live heard)
  heard_so P walks heard (inl is) =
      subst (λ (h : Heard). P (handled station live h)) (sym is) (said_at P walks setup.plan.station.suite.address)
  heard_so P walks heard (inr is) = subst (λ (h : Heard). P (handled station live h)) (sym is) (walks.refuses note.NotMine)

  module _ (outcomes : List Outcome) where
    -- ---- without a relation

    abbrev IsNone : Handled → Type 0
    IsNone what = (handled_step outcomes station live what).live.rest.link ≡ None

    module _ (none : live.rest.link ≡ None) where
      none_kept : (parameter : TakenRecord) (records : Records) → keeping parameter live.rest.link ≡ Ok records → ⊥
      none_kept parameter records e = never (sym (ap (λ (l : Option RelationState). keeping parameter l) none) ∙ e)
        where
          never : (let r : Result Records CallFault = Err fault.UnknownRelation in r) ≡ Ok records → ⊥
          never f = absurd cc

      none_told : is_plug_control (end_blocks setup station live caller request) live.rest.link ≡ true → ⊥
      none_told e =
          false≢true (sym (ap (λ (l : Option RelationState). is_plug_control (end_blocks setup station live caller request) l) none) ∙ e)

      none_walks : Walks setup station live caller request IsNone
      unfolding handled_step
      none_walks = record {
        refuses = λ why. none;
        silent = none;
        repeats = λ kept found. none;
        denies = λ operation kept refusal. none;
        keeps = λ header unchosen parameter records e. absurd (none_kept parameter records e);
        ends = λ one e told. absurd (none_told told);
      }

      pub plug_unrelated : (heard : Heard) → IsHeardAs heard said → (heard_step outcomes station live heard).live.rest.link ≡ None
      unfolding heard_step
      plug_unrelated heard is = heard_so IsNone none_walks heard is

    -- ---- with one

    module _ (route : Route) (link : RelationState) (has : live.rest.link ≡ Some link) where
      abbrev IsNowBy : Handled → Type 0
      IsNowBy what = IsNow setup route link (handled_step outcomes station live what).live.rest.link

      untold : setup.plan.parameters_after_plug ≡ true → IsUntold link
      untold = (subst (AllLast setup silence) has before.lasts).untold

      stays : IsNow setup route link live.rest.link
      stays = subst (IsNow setup route link) (sym has)
          (as_before setup route link link refl refl refl (no_more (units_left link)) (λ keyed timed. no_more (room_of link)))

      -- While data is exchanged the units depend on the data hold time alone.
      untimed_units : (timed : Bool) (limit one other left : ℕ) → timed ≡ false → (if timed then limit - one else left) ≤ (if timed then limit - other else left)
      untimed_units true limit one other left e = absurd (false≢true (sym e))
      untimed_units false limit one other left e = no_more left

      not_exchanging : (phase : Phase) → is_timed phase ≡ true → is_exchanging phase ≡ false
      not_exchanging Started e = refl
      not_exchanging Preparing e = refl
      not_exchanging Awaiting e = refl
      not_exchanging in_exchange e = absurd (false≢true e)

      less_room : (taken : List TakenRecord) (one : TakenRecord) → length taken < 64 → suc (64 - length (taken ++ one ∷ [])) ≤ 64 - length taken
      less_room taken one few = let longer = length-append taken (one ∷ []) in omega (arith, few, longer)

      more_kept : (passed : PassedOn) (taken : List TakenRecord) (parameter : TakenRecord) (records : Records)
          → kept_in passed (keep_of parameter taken) ≡ Ok records → suc (64 - length records.taken) ≤ 64 - length taken
      unfolding keep_of
      more_kept passed taken parameter records e = by_test (nat_lt (length taken) 64) refl e
        where
          by_test : (b : Bool) → nat_lt (length taken) 64 ≡ b
              → kept_in passed (if b then Ok (taken ++ parameter ∷ []) else Err fault.TooManyRecords) ≡ Ok records
              → suc (64 - length records.taken) ≤ 64 - length taken
          by_test true few f =
              subst (λ (l : List TakenRecord). suc (64 - length l) ≤ 64 - length taken) (taken_is f)
              (less_room taken parameter (ltb-true (length taken) 64 few))
            where
              taken_is : (let r : Result Records CallFault = Ok (record { taken = taken ++ parameter ∷ []; passed = passed }) in r) ≡ Ok records
                  → taken ++ parameter ∷ [] ≡ records.taken
              taken_is g = ap (λ (r : Records). r.taken) (ok_is (record { taken = taken ++ parameter ∷ []; passed = passed }) records g)
          by_test false few f = absurd cc

      -- Before data is exchanged a record takes room.
      kept_room : (parameter : TakenRecord) (records : Records) → keeping parameter (Some link) ≡ Ok records → is_timed link.phase ≡ true
          → suc (64 - length records.taken) ≤ room_of link
      kept_room parameter records e timed =
          more_kept link.passed link.taken parameter records
          (sym (ap (λ (b : Bool). if b then Ok (record { taken = link.taken; passed = passed_more parameter link.passed })
          else kept_in link.passed (keep_of parameter link.taken))
          (ap (λ (b : Bool). link.options.records_passed_on && b) (not_exchanging link.phase timed) ∙ and_false link.options.records_passed_on)) ∙ e)

      less : (n m : ℕ) → suc n ≤ m → n ≤ m
      less n m e = omega (arith, e)

      keeps_so : (source : Partner) (parameter : TakenRecord) (records : Records) → keeping parameter (Some link) ≡ Ok records
          → IsNow setup route link (updated (Named source) (updated (Took records) (Some link)))
      keeps_so source parameter records e = by_timer (is_timed link.phase) refl
        where
          later : RelationState
          later = restarted source (with_records records link)

          goes : LinkGoesOn setup link later
          goes = record {
            route = refl;
            limit = refl;
            room = λ keyed timed. less (room_of later) (room_of link) (kept_room parameter records e timed);
          }

          by_timer : (timed : Bool) → is_timed link.phase ≡ timed → IsNow setup route link (Some later)
          by_timer true timed = inr (later, refl, goes, inr (inr (inr (of.keyed, timed, refl, kept_room parameter records e timed))))
          by_timer false timed = inr (
            later,
            refl,
            goes,
            inl (
              refl,
              untimed_units (is_timed link.phase) (limit_of link) later.inactive link.inactive
                  (link.flow.cyclic.hearing.limit - link.flow.cyclic.hearing.held) timed,
            ),
          )

      told_by : (blocks : List ℕ) → is_plug_control blocks (Some link) ≡ true → link.plugs.has_told ≡ true
      told_by blocks e = (and_parts link.plugs.has_told (begins_as_plug_end blocks) e).0

      ends_so : (source : Partner) (by_application : Bool) (one : PlugControlBlock) (blocks : List ℕ) → is_plug_control blocks (Some link) ≡ true
          → IsNow setup route link (calling_next (updated (Named source) (plug_ended_by by_application (Ok one) (Some link))))
      ends_so source by_application one blocks told = by_timer (is_timed link.phase) refl
        where
          by_timer : (timed : Bool) → is_timed link.phase ≡ timed
              → IsNow setup route link (calling_next (updated (Named source) (plug_ended_by by_application (Ok one) (Some link))))
          by_timer true timed = absurd (false≢true (sym (untold of.keyed timed).1 ∙ told_by blocks told))
          by_timer false timed = inr (
            _,
            refl,
            record { route = refl; limit = refl; room = λ keyed later. no_more (room_of link) },
            inl (
              refl,
              untimed_units (is_timed link.phase) (limit_of link) _ link.inactive
                  (link.flow.cyclic.hearing.limit - link.flow.cyclic.hearing.held) timed,
            ),
          )

      now_walks : Walks setup station live caller request IsNowBy
      unfolding handled_step
      now_walks = record {
        refuses = λ why. stays;
        silent = stays;
        repeats = λ kept found. stays;
        denies = λ operation kept refusal. stays;
        keeps = λ header unchosen parameter records e.
            subst (λ (l : Option RelationState). IsNow setup route link (updated (Named (partner_of caller)) (updated (Took records) l))) (sym has)
            (keeps_so (partner_of caller) parameter records
            (subst (λ (l : Option RelationState). keeping parameter l ≡ Ok records) has e));
        ends = λ one e told.
            subst (λ (l : Option RelationState). IsNow setup route link
            (calling_next (updated (Named (partner_of caller)) (plug_ended_by station.options.ready_by_application (Ok one) l)))) (sym has)
            (ends_so (partner_of caller) station.options.ready_by_application one (end_blocks setup station live caller request)
            (subst (λ (l : Option RelationState). is_plug_control (end_blocks setup station live caller request) l ≡ true) has told));
      }

      pub plug_went : (heard : Heard) → IsHeardAs heard said → IsNow setup route link (heard_step outcomes station live heard).live.rest.link
      unfolding heard_step
      plug_went heard is = heard_so IsNowBy now_walks heard is

    -- ---- what is sent

    -- A response, the call of a plug, or a stored answer.
    abbrev IsAnswering : Message → Type 0
    IsAnswering (CallAnswer to address answer) = Unit {0}
    IsAnswering (PlugReadyCall address ready) = Unit {0}
    IsAnswering (Again frame) = IsNoData (heard_of setup.plan.controller frame)
    IsAnswering (IdentifyAnswer asker running xid) = ⊥
    IsAnswering (GetAnswer asker running alias asked) = ⊥
    IsAnswering (SetAnswer asker asked answers) = ⊥
    IsAnswering (ArpReply asker address target) = ⊥
    IsAnswering (ReadyCall address ready) = ⊥
    IsAnswering (EndsWith farewell) = ⊥
    IsAnswering (Exchanges way frame) = ⊥

    abbrev AreAnswering : Handled → Type 0
    AreAnswering what = AllByRecursion IsAnswering (handled_step outcomes station live what).sent

    call_answering : (address : List ℕ) (ready : Option PlugReady) → AllByRecursion IsAnswering (plug_call_in address ready)
    call_answering address None = tt
    call_answering address (Some ready) = (tt, tt)

    due_answering : (is_due : Bool) (sent : List Message) → AllByRecursion IsAnswering sent → AllByRecursion IsAnswering (where_due is_due sent)
    due_answering true sent all = all
    due_answering false sent all = tt

    answer_walks : Walks setup station live caller request AreAnswering
    unfolding handled_step
    answer_walks = record {
      refuses = λ why. tt;
      silent = tt;
      repeats = λ kept found. (before.answers of.keyed kept found, tt);
      denies = λ operation kept refusal. (tt, tt);
      keeps = λ header unchosen parameter records e. (tt, tt);
      ends = λ one e told.
          let named = updated (Named (partner_of caller)) (plug_ended_by station.options.ready_by_application (Ok one) live.rest.link) in (
            tt,
            due_answering (is_calling named) (plug_calls live.values.running.suite.address (calling_next named))
                (call_answering live.values.running.suite.address (plug_ready_of (calling_next named))),
          );
    }

    plug_answering : (heard : Heard) → IsHeardAs heard said → AllByRecursion IsAnswering (heard_step outcomes station live heard).sent
    unfolding heard_step
    plug_answering heard is = heard_so AreAnswering answer_walks heard is

    -- A controller hears no cyclic frame in it.
    module _ (reads : ReadLaws) where
      answering_no_data : (message : Message) → IsAnswering message → IsSendable station.identity message
          → IsNoData (heard_of setup.plan.controller (bytes_of station.identity message))
      answering_no_data (CallAnswer to address answer) is can = udp_no_data reads setup.plan.controller to.mac station.identity.mac _ _ _ can.0
      answering_no_data (PlugReadyCall address ready) is can = udp_no_data reads setup.plan.controller ready.partner.mac station.identity.mac _ _ _ can
      answering_no_data (Again frame) is can = is
      answering_no_data message is can = absurd is

      all_no_data : (sent : List Message) → AllByRecursion IsAnswering sent → AreSendable station.identity sent
          → AllByRecursion (λ octets. IsNoData (heard_of setup.plan.controller octets)) (map (bytes_of station.identity) sent)
      all_no_data [] all can = tt
      all_no_data (message ∷ sent) all can = (answering_no_data message all.0 can.0, all_no_data sent all.1 can.1)

      pub plug_no_data : (heard : Heard) → IsHeardAs heard said → AreSendable station.identity (heard_step outcomes station live heard).sent
          → AllByRecursion (λ octets. IsNoData (heard_of setup.plan.controller octets)) (heard_step outcomes station live heard).frames
      unfolding heard_step handled_step
      plug_no_data heard is can = all_no_data (heard_step outcomes station live heard).sent (plug_answering heard is) can

-- ---- the parts

-- No controller of this set-up accepts one of these frames.
pub refuse_all : (setup : Setup) (controller : Controlling) → controller.setup ≡ setup → (frames : List (List ℕ))
    → AllByRecursion (λ octets. IsNoData (heard_of setup.plan.controller octets)) frames
    → AllByRecursion (λ frame. Accepts controller frame → ⊥) frames
refuse_all setup controller same [] all = tt
refuse_all setup controller same (octets ∷ frames) all = (
  λ accepts. not_data (heard_of setup.plan.controller octets) accepts.source accepts.frame_id accepts.body all.0
      (subst (λ (s : Setup). heard_of s.plan.controller octets ≡ Comes accepts.source accepts.frame_id accepts.body) same accepts.heard),
  refuse_all setup controller same frames all.1,
)

module _ {F : Type 0} {S : ℕ} (as_flash : Flash F S) (setup next : Setup) (identity : Identity) (silence : ℕ) (parts : DeviceLaws setup identity)
    (long : IsLong as_flash setup next identity silence) (before after : State F) (octets : List ℕ) (frames : List (List ℕ))
    (goes : Hears as_flash before octets frames after) (device : IsAnyDevice setup next identity silence before.station before.live)
    (own : IsPlugOwn setup octets) where
  call_laws : CallLaws setup next silence before.station
  call_laws = calls as_flash setup next identity silence parts long before.station before.live device

  heard_as : IsHeardAs (device_hears before.station.identity (comes octets)) (message_said setup (Parametrizes own.device own.request))
  heard_as =
      subst (λ (o : List ℕ). IsHeardAs (device_hears before.station.identity (comes o)) (message_said setup (Parametrizes own.device own.request)))
      (sym own.frame)
      (message_heard parts.hears setup before.station.identity long.real (Parametrizes own.device own.request) own.sendable own.way)

  -- No cyclic frame of the device is accepted.
  pub plug_refused : ReadLaws → (controller : Controlling) → controller.setup ≡ setup → AllByRecursion (λ frame. Accepts controller frame → ⊥) frames
  plug_refused reads controller same =
      refuse_all setup controller same frames
      (subst (AllByRecursion (λ frame. IsNoData (heard_of setup.plan.controller frame))) (sym goes.steps.frames)
      (plug_no_data setup next identity silence before.station before.live call_laws device own.request own.way goes.steps.outcomes reads
      (device_hears before.station.identity (comes octets)) heard_as goes.steps.sendable))

  -- Without a relation the device gets no relation by it.
  pub plug_none : before.live.rest.link ≡ None → after.live.rest.link ≡ None
  plug_none none =
      ap (λ (l : Live). l.rest.link) goes.steps.live
      ∙ plug_unrelated setup next identity silence before.station before.live call_laws device own.request own.way goes.steps.outcomes none
      (device_hears before.station.identity (comes octets)) heard_as

  -- A relation goes on.
  pub plug_some : (route : Route) (link : RelationState) → before.live.rest.link ≡ Some link → IsNow setup route link after.live.rest.link
  plug_some route link has =
      subst (IsNow setup route link) (sym (ap (λ (l : Live). l.rest.link) goes.steps.live))
      (plug_went setup next identity silence before.station before.live call_laws device own.request own.way goes.steps.outcomes route link has
      (device_hears before.station.identity (comes octets)) heard_as)
