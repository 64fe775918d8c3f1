-- What a controller hears as ApplicationReady of its relation is one, at fixed places.
use Rattle.std.proofs.Common.{◌≡◌, ◌⊎◌, inl, inr, ◌<◌, ℕ, true, List, [], ◌∷◌, drop, length, map, Some, option_map, refl, sym, ap, subst, ◌∙◌, arith}
use Rattle.std.specs.List.{AllByRecursion}
use Rattle.frame_codec.specs.Calls.{calls_at}
use Rattle.rpc_core.specs.declared.header.CallHeader.{CallHeader}
use Rattle.rpc_core.specs.declared.interface.Interface.TheVariants.{Controller as controllers}
use Rattle.rpc_core.specs.Cache.{kept_of}
use Rattle.rpc_core.specs.Sendable.{CanBeCalled, IsUuid}
use Rattle.connect_blocks.specs.declared.control.ControlBlock.{ControlBlock}
use Rattle.block_codec.specs.declared.block.Block.TheVariants as is
use Rattle.block_codec.specs.Block.{block_bytes}
use Rattle.connects.specs.requests.Request.{Request}
use Rattle.relations.specs.declared.ready.Ready.{Ready}
use Rattle.relations.specs.Ready.{ready_of}
use Rattle.relations.specs.RelationState.{RelationState}
use Rattle.device_frames.specs.Heard.{Heard}
use Rattle.device_frames.specs.Sendable.{AreSendable, IsSendable}
use Rattle.device_frames.specs.Sent.{Sent, IdentifyAnswer, GetAnswer, SetAnswer, ArpReply, CallAnswer, Again, ReadyCall, PlugReadyCall, Ends, Exchanges, bytes_of}
use Rattle.device_core.specs.State.{Live, Station}
use Rattle.controller_messages.specs.declared.setup.Setup.{Setup}
use Rattle.controller_messages.specs.Heard.{heard_of as controller_hears}
use Rattle.end_laws.specs.both.Small as small
use Rattle.end_laws.specs.both.Small.{ToController}
use Rattle.end_laws.specs.controller.Small.{said_to}
use Rattle.end_laws.specs.device.Owed.{IsOfKept, IsOwed}
use Rattle.end_laws.specs.device.Small.{kept_in}
use Rattle.end_laws.specs.hearing.Stations.{IsDevice, IsSetup, ready_call}
use Rattle.both_ends.specs.startup.request.Request.{request_for}
use Rattle.both_ends.proofs.StartupGiven.{HeardSo}
use Rattle.both_ends.proofs.StartupHeard.{IsKnownHeard, IsMetAs, IsPlans, known_activity}
use Rattle.startup_octets.specs.StartUp.{is_of}
use Rattle.startup_octets.proofs.Blocks.{IsBlockOf, ready_read}
use Rattle.startup_octets.proofs.DeviceTurn.{of_call}
use Rattle.startup_octets.proofs.Frames.{AreCallsRead, call_written}

module _ (so : HeardSo) (calls_read : AreCallsRead) (setup : Setup) (station : Station) (good : IsSetup setup) (real : IsDevice station.identity)
    (apart : station.identity.mac ≡ setup.plan.controller.mac → ⊥) where
  -- ApplicationReady of the relation of the plan can be sent as a call.
  ready_can : (link : RelationState) (ready : Ready) → link.request ≡ request_for setup.plan setup.ar → ready.header ≡ (ready_of link).header → ready.block ≡ (ready_of link).block
      → CanBeCalled controllers (ready_call ready)
  ready_can link ready made header block =
      let object : IsUuid ready.header.object = ap (λ (h : CallHeader). length h.object) header ∙ ap (λ (r : Request). length r.ar.object) made in
      let activity : IsUuid ready.header.activity = ap (λ (h : CallHeader). length h.activity) header ∙ (ap (λ (r : Request). length r.ar.uuid) made ∙ good.ar) in
      so.ready_can ready
      (record {
        object = object;
        interface = ap (λ (h : CallHeader). length h.interface) header;
        activity = activity;
        sequence = subst (λ (n : ℕ). n < 4294967296) (sym (ap (λ (h : CallHeader). h.sequence) header)) (omega arith);
        operation = subst (λ (n : ℕ). n < 65536) (sym (ap (λ (h : CallHeader). h.operation) header)) (omega arith);
      })
      (ap (λ (h : CallHeader). h.interface) header)
      (ap (λ (b : ControlBlock). length b.ar_uuid) block ∙ (ap (λ (r : Request). length r.ar.uuid) made ∙ good.ar))

  ready_is : (address : List ℕ) (link : RelationState) (ready : Ready) → link.request ≡ request_for setup.plan setup.ar → ready.header ≡ (ready_of link).header → ready.block ≡ (ready_of link).block
      → IsSendable station.identity (ReadyCall address ready) → is_of 4 0x0112 setup.ar (drop 42 (bytes_of station.identity (ReadyCall address ready))) ≡ true
  ready_is address link ready made header block can =
      let named : ready.block.ar_uuid ≡ setup.ar = ap (λ (b : ControlBlock). b.ar_uuid) block ∙ ap (λ (r : Request). r.ar.uuid) made in
      let wide : length ready.block.ar_uuid ≡ 16 = ap length named ∙ good.ar in
      let it = call_written calls_read controllers station.identity.mac ready.partner.mac (calls_at address) (calls_at ready.partner.address) (ready_call ready) real can.destination
      can.content.0.0 can.content.1.0 (ready_can link ready made header block) in
      of_call setup.ar (drop 42 (bytes_of station.identity (ReadyCall address ready))) (block_bytes (is.ApplicationReady ready.block)) 4 0x0112 (it.operation ∙ ap (λ (h : CallHeader). h.operation) header) (it.blocks (block_bytes (is.ApplicationReady ready.block)) refl)
      (subst (λ l. IsBlockOf 0x0112 l (block_bytes (is.ApplicationReady ready.block))) named (ready_read ready.block wide))

  -- If the controller hears it, the frame is one.
  abbrev pub IsReadyIf : List ℕ → Type 0
  IsReadyIf frame = said_to setup (controller_hears setup.plan.controller frame) ≡ small.Readies → is_of 4 0x0112 setup.ar (drop 42 frame) ≡ true

  other_says : (frame : List ℕ) (says : ToController) → (says ≡ small.Readies → ⊥)
      → (said_to setup (controller_hears setup.plan.controller frame) ≡ small.Nothing) ⊎ (said_to setup (controller_hears setup.plan.controller frame) ≡ says) → IsReadyIf frame
  other_says frame says other (inl nothing) readies = absurd (let e = sym nothing ∙ readies in cc)
  other_says frame says other (inr is) readies = absurd (other (sym is ∙ readies))

  no_nothing : small.Nothing ≡ small.Readies → ⊥
  no_nothing e = cc

  module _ (heard : Heard) (live : Live) (known : IsKnownHeard setup heard) (plans : IsPlans so setup station good real apart live.rest.link)
      (kept_fine : (answer : small.Kept) → option_map kept_in (kept_of setup.activity live.rest.calls) ≡ Some answer
      → said_to setup (controller_hears setup.plan.controller answer.frame) ≡ small.Readies → ⊥) where
    again_fine : (frame : List ℕ) → IsOfKept heard live frame → IsReadyIf frame
    again_fine frame owed readies =
        let activity : owed.call.header.activity ≡ setup.activity = known_activity setup owed.caller owed.call (subst (λ (h : Heard). IsKnownHeard setup h) owed.is known) in
        let there = ap (option_map kept_in) (ap (λ a. kept_of a live.rest.calls) (sym activity) ∙ owed.there) in
        absurd (kept_fine (kept_in owed.kept) there (ap (λ f. said_to setup (controller_hears setup.plan.controller f)) owed.same ∙ readies))

    message_ready : (message : Sent) → IsOwed heard live message → IsMetAs so setup station good real apart message → IsSendable station.identity message → IsReadyIf (bytes_of station.identity message)
    message_ready (Again frame) owed met can = again_fine frame owed
    message_ready (CallAnswer caller address answer) owed met can = other_says _ _ (λ e. absurd cc) met.says_at_most
    message_ready (ReadyCall address ready) owed met can = λ readies. ready_is address owed.link ready (plans owed.link owed.is) owed.header owed.block can
    message_ready (PlugReadyCall address ready) owed met can = other_says _ small.Nothing no_nothing met.says_at_most
    message_ready (IdentifyAnswer asker running xid) owed met can = other_says _ small.Nothing no_nothing met.says_at_most
    message_ready (GetAnswer asker running alias request) owed met can = other_says _ small.Nothing no_nothing met.says_at_most
    message_ready (SetAnswer asker request answers) owed met can = other_says _ small.Nothing no_nothing met.says_at_most
    message_ready (ArpReply asker address target) owed met can = other_says _ small.Nothing no_nothing met.says_at_most
    message_ready (Ends farewell) owed met can = other_says _ small.Nothing no_nothing met.says_at_most
    message_ready (Exchanges route frame) owed met can = other_says _ small.Nothing no_nothing met.says_at_most

    pub messages_ready : (messages : List Sent) → AllByRecursion (IsOwed heard live) messages → AllByRecursion (IsMetAs so setup station good real apart) messages
        → AreSendable station.identity messages → AllByRecursion IsReadyIf (map (bytes_of station.identity) messages)
    messages_ready [] owed met can = tt
    messages_ready (message ∷ messages) owed met can = (message_ready message owed.0 met.0 can.0, messages_ready messages owed.1 met.1 can.1)
