-- One step of a device in any state: the device is in some state again, and what it answers is fit.
use Rattle.std.proofs.Common.{◌≡◌, inl, inr, ◌<◌, ◌+◌, ℕ, Bool, true, false, List, [], ◌∷◌, Some, None, is_some, Ok}
use Rattle.std.proofs.Common.{refl, sym, ap, subst, ◌∙◌, arith}
use Rattle.std.specs.Prelude.{if◌then◌else◌}
use Rattle.std.specs.List.{AllByRecursion}
use Rattle.flash_model.specs.declared.flash.Flash.{Ghosts as Flash}
use Rattle.pn_values.specs.IpSuite.{is_suite}
use Rattle.pn_values.specs.declared.identity.Identity.{Identity}
use Rattle.settings_journal.specs.settings_store.Machine.{Outcome}
use Rattle.connect_blocks.specs.ArBlock.{is_some_uuid}
use Rattle.block_codec.specs.declared.block.Block.{Block}
use Rattle.block_codec.specs.declared.block.Block.TheVariants as is
use Rattle.block_codec.specs.Block.{block_bytes, block_of, front}
use Rattle.block_codec.specs.Writable.{CanBeWritten}
use Rattle.frame_codec.specs.declared.udp.Caller.{Caller}
use Rattle.rpc_core.specs.Response.{is_done}
use Rattle.rpc_core.specs.Call.{Asked as Call}
use Rattle.dcp_core.specs.Identify.{matches}
use Rattle.module_diff.specs.Diff.{diff_of}
use Rattle.records.specs.declared.status.call_fault.CallFault.{CallFault}
use Rattle.records.specs.declared.status.operation.Operation.{Operation}
use Rattle.records.specs.status.Status.{status_of}
use Rattle.pn_alarms.specs.Abort.{status_of as abort_status}
use Rattle.cyclic_data.specs.exchange.Frames.{cyclic_body}
use Rattle.pn_alarms.specs.declared.message.Notice.TheVariants as notice
use Rattle.pn_alarms.specs.declared.pdu.Header.{Header}
use Rattle.pn_alarms.specs.declared.pdu.PduType.{PduType}
use Rattle.pn_alarms.specs.declared.pdu.PduType.TheVariants as pdu
use Rattle.diagnosis.specs.declared.reports.priority.Priority.{Priority}
use Rattle.diagnosis.specs.declared.reports.priority.Priority.TheVariants.{High, Low}
use Rattle.plans.specs.Connect.{connect_of}
use Rattle.relations.specs.Calls.{done_of}
use Rattle.relations.specs.Connect.{connect_within}
use Rattle.relations.specs.Numbers.{endpoint_of}
use Rattle.relations.specs.declared.options.DeviceOptions.{DeviceOptions}
use Rattle.device_frames.specs.declared.note.Note.TheVariants as note
use Rattle.device_frames.specs.Heard.{Asks, Calls, Elsewhere, Heard, Reported, Responds, Said, Ticks, heard_of}
use Rattle.device_frames.specs.Sendable.{AreSendable}
use Rattle.device_frames.specs.Sent.{IdentifyAnswer}
use Rattle.device_core.specs.Local.{OnlyPullsAndPlugsChangeModules}
use Rattle.device_core.specs.State.{Live, State, Station, alias_in}
use Rattle.device_core.specs.Handled.{Handled, Moves, Refuses, Sets, handled, handled_said, is_running}
use Rattle.device_core.specs.Machine.{handled_step, heard_step}
use Rattle.controller_messages.specs.declared.request.Request.{Request}
use Rattle.controller_messages.specs.declared.request.Request.TheVariants as asks
use Rattle.controller_messages.specs.declared.setup.Setup.{Setup}
use Rattle.controller_messages.specs.PlugRequests.{plug_call}
use Rattle.controller_messages.specs.Requests.{address_asked, call_for, control_of, identify_asked}
use Rattle.controller_messages.specs.Sent.{Sent, Requests, Accesses, Parametrizes, Agrees, Cycles, Confirms, Replies, Ends, bytes_of as controller_bytes}
use Rattle.controller_messages.specs.Sent.{end_pdu}
use Rattle.controller_core.specs.Machine.{opening_of}
use Rattle.controller_core.specs.stored.State.{Controlling}
use Rattle.end_laws.specs.hearing.Hearing.{comes, padded}
use Rattle.end_laws.specs.hearing.Stations.{IsDevice, IsNumbered, IsSetup}
use Rattle.end_laws.specs.sending.Messages.{CanBeSent}
use Rattle.both_ends.specs.startup.Played.{ArePlaced}
use Rattle.both_ends.specs.startup.answer.Answer.{AcceptsInterval, IsAllThere, answer_blocks, caller_of}
use Rattle.both_ends.specs.startup.request.Request.{no_rows, request_for}
use Rattle.rounds_law.specs.Anywhere.{ChoosesWell, IsAnyDevice}
use Rattle.rounds_law.specs.Path.{IsSized}
use Rattle.rounds_law.specs.AnywhereFrames.{IsAnything, IsOwn}
use Rattle.rounds_law.specs.Rounds.{Goes}
use Rattle.rounds_law.proofs.AgainUnset.{asks_unset}
use Rattle.rounds_law.proofs.AnywhereDeviceAnswers.{CallLaws}
use Rattle.rounds_law.proofs.AnywhereDeviceCalls.{connect_said, plug_said, prm_end_again_said, prm_end_said, release_said, write_again_said, write_said}
use Rattle.rounds_law.proofs.AnywhereDeviceExchange.{alarm_fine, cyclic_fine, low_confirm_fine, low_reply_fine, response_fine, unit_fine}
use Rattle.rounds_law.proofs.AnywhereDeviceFine.{IsFine, fine_after, fine_sized, stored_before}
use Rattle.rounds_law.proofs.PlanKept.{IsUnsaid, handled_stays}
use Rattle.rounds_law.proofs.AnywhereDeviceHears.{HearsLaws, IsHeardAs, message_heard, message_said, replied_said, request_said}
use Rattle.rounds_law.proofs.AnywhereDeviceReleased.{released_or, response_unchosen}
use Rattle.rounds_law.proofs.AnywhereDeviceSays.{IsSizedIfPlug, SaysLaws}
use Rattle.rounds_law.proofs.AnywhereDeviceSets.{set_after, set_sized}
use Rattle.rounds_law.proofs.AnywhereDeviceWrites.{all_quiet, all_unasked}
use Rattle.rounds_law.proofs.AnywhereLinkIgnored.{answer_ignored}
use Rattle.rounds_law.proofs.AnywhereParts.{DeviceFound, DeviceFrame, DeviceUnit, HasWay, Hears, IsLong}
use Rattle.rounds_law.proofs.AnywherePlugBlocks.{plug_plain, plug_unasked}
use Rattle.rounds_law.proofs.SearchingDevice.{found_so, some_name}
use Rattle.rounds_law.proofs.SearchingSizes.{asks_suite}
use Rattle.rounds_law.proofs.WriteListed.{AreBlocksLong, AreBlocksRead, AreFit}
use Rattle.rounds_law.proofs.WriteTaken.{fit_each}

-- ---- the laws of the crates below

-- What follows from the clauses of functions below for these stations.
pub record DeviceLaws (setup : Setup) (identity : Identity) : Type 0 where
  pub modules : OnlyPullsAndPlugsChangeModules
  pub hears : HearsLaws
  pub says : SaysLaws
  pub negative : (operation : Operation) (refusal : CallFault) → is_done (status_of operation refusal) ≡ false
  pub whole : (number : ℕ) → number < 14336 → IsAllThere (answer_blocks setup identity number) (0xC000 + number) (endpoint_of number)
  pub same : diff_of (request_for setup.plan setup.ar).expected setup.plan.real.modules.items ≡ no_rows
  pub own : (options : DeviceOptions) → is_some_uuid setup.ar ≡ true → AcceptsInterval options setup.plan
      → connect_within options setup.plan.controller.mac None (connect_of setup.plan setup.ar) ≡ Ok (request_for setup.plan setup.ar)
  pub block_read : AreBlocksRead
  pub block_alone : (block : Block) → CanBeWritten block → block_of (block_bytes block) ≡ front block []
  pub block_long : AreBlocksLong
  pub placed : ArePlaced setup.plan.records.items
  pub suite : is_suite setup.plan.station.suite ≡ true

module _ {F : Type 0} {S : ℕ} (as_flash : Flash F S) (setup next : Setup) (identity : Identity) (silence : ℕ) (laws : DeviceLaws setup identity) where
  -- ---- a step in which no call of the flash fails

  -- what it is, and what it sends
  record IsStep (before after : State F) (heard : Heard) (frames : List (List ℕ)) : Type 0 where
    station : after.station ≡ before.station
    live : after.live ≡ (heard_step [] before.station before.live heard).live
    sent : frames ≡ (heard_step [] before.station before.live heard).frames
    sendable : AreSendable before.station.identity (heard_step [] before.station before.live heard).sent

  step_of : (before after : State F) (heard : Heard) (frames : List (List ℕ)) → Goes as_flash before heard frames after → IsStep before after heard frames
  step_of before after heard frames goes =
      let none = goes.steps.inactive goes.unfailed in
      record {
        station = goes.steps.same;
        live = goes.steps.live ∙ ap (λ (o : List Outcome). (heard_step o before.station before.live heard).live) none;
        sent = goes.steps.frames ∙ ap (λ (o : List Outcome). (heard_step o before.station before.live heard).frames) none;
        sendable = subst (λ (o : List Outcome). AreSendable before.station.identity (heard_step o before.station before.live heard).sent)
            none goes.steps.sendable;
      }

  -- it goes on
  abbrev Going : Station → Live → List (List ℕ) → Type 0
  Going station live frames = IsAnyDevice setup next identity silence station live × AllByRecursion (ChoosesWell setup) frames

  step_goes : (before after : State F) (heard : Heard) (frames : List (List ℕ)) → IsStep before after heard frames
      → Going before.station (heard_step [] before.station before.live heard).live (heard_step [] before.station before.live heard).frames
      → Going after.station after.live frames
  step_goes before after heard frames step going = rw (step.station, step.live, step.sent) going

  -- ---- the premises of the calls

  module _ (long : IsLong as_flash setup next identity silence) (station : Station) (live : Live)
      (before : IsAnyDevice setup next identity silence station live) where
    device : IsDevice station.identity
    device = subst IsDevice (sym before.of_device) long.of_device

    fits : AreFit setup.plan.real setup.plan.records.items
    fits = fit_each setup.plan.real setup.plan.records.items long.can.can_meet.records laws.placed long.real.plan.short_records long.can.records

    pub calls : CallLaws setup next silence station
    calls = record {
      says = laws.says;
      good = long.real;
      device = device;
      other = long.starts.calls;
      ignored = λ caller address answer can other. answer_ignored
          (record { responses = laws.says.response }) next station.identity caller address answer device can other;
      negative = laws.negative;
      whole = λ number few. subst (λ (i : Identity). IsAllThere (answer_blocks setup i number) (0xC000 + number) (endpoint_of number)) (sym before.of_device)
          (laws.whole number few);
      same = laws.same;
      accepted = laws.own station.options long.can.can_meet.named before.of_plan.interval;
      quiet = λ number small standing. all_quiet laws.block_read laws.block_long setup long.real.ar long.real.plan.few_records
          setup.plan.real fits station.named number standing;
      unasked = λ number small standing caller call. all_unasked laws.block_read laws.block_long setup long.real.ar long.real.plan.few_records
          setup.plan.real fits station.named before.of_plan.names number standing caller call;
      plain = λ request of number step standing. plug_plain laws.block_read laws.block_alone laws.block_long setup long.real.ar setup.plan.real request
          of number step fits standing;
      plug_unasked = λ request of number step standing caller call. plug_unasked laws.block_read laws.block_alone laws.block_long setup long.real.ar
          setup.plan.real request of number step fits station.named standing caller call;
      released = λ link. released_or laws.block_long link (control_of setup 4) (laws.block_alone (is.Release (control_of setup 4))
          (record { ar_uuid = long.real.ar; session_key = omega arith; control_command = omega arith; control_block_properties = omega arith }));
      unchosen = response_unchosen (done_of (control_of setup 4)) (laws.block_alone (is.ReleaseRes (done_of (control_of setup 4)))
          (record { ar_uuid = long.real.ar; session_key = omega arith; control_command = omega arith; control_block_properties = omega arith }, refl));
      active = long.active;
      holds = long.holds;
    }

    abbrev Fine : Handled → Type 0
    Fine what = IsFine setup next identity silence station live what

    abbrev IsGoing : Handled → Type 0
    IsGoing what = AreSendable station.identity (handled_step [] station live what).sent
        → Going station (handled_step [] station live what).live (handled_step [] station live what).frames
        × AllByRecursion IsSizedIfPlug (handled_step [] station live what).sent

    fine_goes : (heard : Heard) → IsUnsaid heard → Fine (handled station live heard) → IsGoing (handled station live heard)
    fine_goes heard unsaid fine can = (
      fine_after setup next identity silence station laws.says long.real device live (handled station live heard) before
          (handled_stays laws.modules [] station live heard unsaid) fine can,
      fine_sized setup next identity silence station live (handled station live heard) fine,
    )

    -- ---- what a message says

    datagram_fine : (caller : Caller) (address : List ℕ) (said : Said) → Fine (handled_said station live caller said)
        → Fine (handled station live (Reported caller address said))
    datagram_fine caller address said fine = by_test (is_running live.values.running address)
      where
        by_test : (running : Bool) → Fine (if running then handled_said station live caller said else Refuses note.NotMine)
        by_test true = fine
        by_test false = tt

    identify_fine : Fine (handled station live (Asks setup.plan.controller.mac (identify_asked setup.plan)))
    identify_fine = by_test (matches station.identity live.values.running (alias_in live.rest.peer) (identify_asked setup.plan))
      where
        by_test : (matched : Bool)
            → Fine (if matched then Moves live.rest (IdentifyAnswer setup.plan.controller.mac live.values.running 1 ∷ []) else Refuses note.Filter)
        by_test true = (before.lasts, λ can. stored_before setup next identity silence station live before, (tt, tt), before.asked)
        by_test false = tt

    suite_sized : IsSized setup.plan.station.suite
    suite_sized = record { address = long.real.station; mask = long.real.mask; gateway = long.real.gateway }

    address_goes : IsGoing (Sets setup.plan.controller.mac (address_asked setup.plan) (is_some live.rest.link))
    address_goes = by_relation (is_some live.rest.link)
      where
        by_relation : (related : Bool) → IsGoing (Sets setup.plan.controller.mac (address_asked setup.plan) related)
        by_relation true can = (
          set_after setup next identity silence station live true before laws.says long.real device
              (inr (asks_unset setup.plan.station.suite suite_sized laws.suite)) can,
          set_sized setup next identity silence station live true before,
        )
        by_relation false can = (
          set_after setup next identity silence station live false before laws.says long.real device
              (inl (asks_suite setup.plan.station.suite suite_sized laws.suite)) can,
          set_sized setup next identity silence station live false before,
        )

    call_goes : (call : Call) → Fine (handled_said station live (caller_of setup.plan.controller) (Calls call))
        → IsGoing (handled station live (Reported (caller_of setup.plan.controller) setup.plan.station.suite.address (Calls call)))
    call_goes call fine =
        fine_goes (Reported (caller_of setup.plan.controller) setup.plan.station.suite.address (Calls call)) tt
        (datagram_fine (caller_of setup.plan.controller) setup.plan.station.suite.address (Calls call) fine)

    request_goes : (request : Request) → IsNumbered request → IsGoing (handled station live (request_said setup request))
    request_goes asks.Identify numbered = fine_goes (Asks setup.plan.controller.mac (identify_asked setup.plan)) tt identify_fine
    request_goes asks.Address numbered = address_goes
    request_goes asks.Connect numbered = call_goes (call_for setup asks.Connect) (connect_said setup next identity silence station calls live before)
    request_goes (asks.Write number) numbered =
        call_goes (call_for setup (asks.Write number)) (write_said setup next identity silence station calls live before number numbered)
    request_goes asks.PrmEnd numbered = call_goes (call_for setup asks.PrmEnd) (prm_end_said setup next identity silence station calls live before)
    request_goes (asks.WriteAfter number tries) numbered =
        call_goes (call_for setup (asks.WriteAfter number tries)) (write_again_said setup next identity silence station calls live before number tries numbered.0)
    request_goes (asks.PrmEndAfter tries) numbered =
        call_goes (call_for setup (asks.PrmEndAfter tries)) (prm_end_again_said setup next identity silence station calls live before tries)
    request_goes (asks.Release sequence) numbered =
        call_goes (call_for setup (asks.Release sequence)) (release_said setup next identity silence station calls live before sequence)

    reply_fine : (priority : Priority) (header : Header) (kind : PduType) → Fine (handled station live (replied_said setup priority header kind))
    reply_fine High header pdu.Ack = alarm_fine setup next identity silence station live before setup.plan.controller.mac header (notice.Ack header.ack_number)
    reply_fine Low header pdu.Ack =
        low_reply_fine setup next identity silence station live before setup.plan.controller.mac header (notice.Ack header.ack_number)
    reply_fine priority header pdu.Nack = alarm_fine setup next identity silence station live before setup.plan.controller.mac header notice.Nack
    reply_fine priority header pdu.Data = tt
    reply_fine priority header pdu.Error = tt

    reply_unsaid : (priority : Priority) (header : Header) (kind : PduType) → IsUnsaid (replied_said setup priority header kind)
    reply_unsaid High header pdu.Ack = tt
    reply_unsaid Low header pdu.Ack = tt
    reply_unsaid priority header pdu.Nack = tt
    reply_unsaid priority header pdu.Data = tt
    reply_unsaid priority header pdu.Error = tt

    message_goes : (message : Sent) → CanBeSent setup message → HasWay setup message → IsGoing (handled station live (message_said setup message))
    message_goes (Requests to request) can way = request_goes request can.1
    message_goes (Accesses to request octets) can way = absurd way
    message_goes (Parametrizes to request) can way =
        call_goes (plug_call setup request) (plug_said setup next identity silence station calls live before request way)
    message_goes (Agrees caller answer) can way =
        fine_goes (message_said setup (Agrees caller answer)) tt
        (datagram_fine (caller_of setup.plan.controller) caller.endpoint.address (Responds answer)
        (response_fine setup next identity silence station live before answer))
    message_goes (Cycles route shown counter) can way =
        fine_goes (message_said setup (Cycles route shown counter)) tt
        (cyclic_fine setup next identity silence station live before setup.plan.controller.mac route.sent_id
        (padded setup.plan.controller.mac route.partner (Some route.sent_tag) route.sent_id (cyclic_body shown counter)))
    message_goes (Confirms route High header ack) can way =
        fine_goes (message_said setup (Confirms route High header ack)) tt
        (alarm_fine setup next identity silence station live before setup.plan.controller.mac header (notice.Data header.send_number ack))
    message_goes (Confirms route Low header ack) can way =
        fine_goes (message_said setup (Confirms route Low header ack)) tt
        (low_confirm_fine setup next identity silence station live before setup.plan.controller.mac header (notice.Data header.send_number ack))
    message_goes (Replies route priority header) can way =
        fine_goes (message_said setup (Replies route priority header)) (reply_unsaid priority header header.kind) (reply_fine priority header header.kind)
    message_goes (Ends route header reason) can way =
        fine_goes (message_said setup (Ends route header reason)) tt
        (alarm_fine setup next identity silence station live before setup.plan.controller.mac
        (end_pdu header reason).header (notice.Abort (abort_status reason)))

    -- what the step of what is heard is
    abbrev IsHeardGoing : Heard → Type 0
    IsHeardGoing heard = AreSendable station.identity (heard_step [] station live heard).sent
        → Going station (heard_step [] station live heard).live (heard_step [] station live heard).frames
        × AllByRecursion IsSizedIfPlug (heard_step [] station live heard).sent

    step_heard : (heard : Heard) → IsGoing (handled station live heard) → IsHeardGoing heard
    unfolding heard_step
    step_heard heard going = going

    heard_goes : (heard : Heard) (message : Sent) → CanBeSent setup message → HasWay setup message → IsHeardAs heard (message_said setup message) → IsHeardGoing heard
    heard_goes heard message can way (inl is) = subst IsHeardGoing (sym is) (step_heard (message_said setup message) (message_goes message can way))
    heard_goes heard message can way (inr is) = subst IsHeardGoing (sym is) (step_heard Elsewhere (fine_goes Elsewhere tt tt))

    unit_goes : IsHeardGoing Ticks
    unit_goes = step_heard Ticks (fine_goes Ticks tt (unit_fine setup next identity silence station calls live before))

  -- ---- the parts

  pub device_frame : DeviceFrame as_flash setup next identity silence
  device_frame = λ long before after octets frames goes device own.
      let heard = heard_of before.station.identity (comes octets) in
      let step = step_of before after heard frames goes in
      let hears = subst (λ (o : List ℕ). IsHeardAs (heard_of before.station.identity (comes o)) (message_said setup own.message)) (sym own.frame)
      (message_heard laws.hears setup before.station.identity long.real own.message own.sendable own.way) in
      step_goes before after heard frames step
      (heard_goes long before.station before.live device heard own.message own.sendable own.way hears step.sendable).0

  pub device_unit : DeviceUnit as_flash setup next identity silence
  device_unit = λ long before after frames goes device.
      let step = step_of before after Ticks frames goes in
      step_goes before after Ticks frames step (unit_goes long before.station before.live device step.sendable).0

  -- ---- the calls of plugs that are sent

  -- They are of their sizes.
  abbrev pub AreSizedPlugs : (before : State F) (heard : Heard) (outcomes : List Outcome) → Type 0
  AreSizedPlugs before heard outcomes = AllByRecursion IsSizedIfPlug (heard_step outcomes before.station before.live heard).sent

  pub frame_sized : IsLong as_flash setup next identity silence → (before after : State F) (octets : List ℕ) (frames : List (List ℕ))
      → (goes : Hears as_flash before octets frames after) → IsAnyDevice setup next identity silence before.station before.live
      → IsOwn setup IsAnything octets → AreSizedPlugs before (heard_of before.station.identity (comes octets)) goes.steps.outcomes
  frame_sized long before after octets frames goes device own =
      let heard = heard_of before.station.identity (comes octets) in
      let step = step_of before after heard frames goes in
      let hears = subst (λ (o : List ℕ). IsHeardAs (heard_of before.station.identity (comes o)) (message_said setup own.message)) (sym own.frame)
      (message_heard laws.hears setup before.station.identity long.real own.message own.sendable own.way) in
      subst (AreSizedPlugs before heard) (sym (goes.steps.inactive goes.unfailed))
      (heard_goes long before.station before.live device heard own.message own.sendable own.way hears step.sendable).1

  pub unit_sized : IsLong as_flash setup next identity silence → (before after : State F) (frames : List (List ℕ))
      → (goes : Goes as_flash before Ticks frames after) → IsAnyDevice setup next identity silence before.station before.live
      → AreSizedPlugs before Ticks goes.steps.outcomes
  unit_sized long before after frames goes device =
      let step = step_of before after Ticks frames goes in
      subst (AreSizedPlugs before Ticks) (sym (goes.steps.inactive goes.unfailed))
      (unit_goes long before.station before.live device step.sendable).1

  opening_heard : IsSetup setup → (one : Identity) (controller : Controlling) → controller.setup ≡ setup
      → heard_of one (comes (opening_of controller)) ≡ Asks setup.plan.controller.mac (identify_asked setup.plan)
  unfolding opening_of
  opening_heard good one controller same =
      ap (λ (s : Setup). heard_of one (comes (controller_bytes s (Requests controller.live.device asks.Identify)))) same
      ∙ laws.hears.identify one setup controller.live.device good

  pub device_found : DeviceFound as_flash setup next identity silence
  device_found = λ long controller same before after frames goes device.
      let heard = heard_of before.station.identity (comes (opening_of controller)) in
      let step = step_of before after heard frames goes in
      let found = found_so setup identity [] before.station before.live heard (opening_heard long.real before.station.identity controller same)
      device.of_device device.named (some_name setup.plan.station.name long.real.plan.good.named) in
      (step.live ∙ found.0, step.sent ∙ found.1)
