-- A controller without an established relation ignores what a device sends with its units for an earlier relation.
use Rattle.std.proofs.Common.{◌≡◌, ◌⊎◌, inl, inr, ◌==◌, ◌&&◌, ◌++◌, ◌<◌, ◌%◌, ℕ, Bool, true, false, List, [], length}
use Rattle.std.proofs.Common.{arith, Option, Some, None, Result, Ok, Err, refl, sym, ap, subst, ◌∙◌}
use Rattle.std.specs.Prelude.{nat_eq, replicate, if◌then◌else◌}
use Rattle.std.specs.Cmp.Lexicographic.{pointwise, same_text}
use Rattle.pn_values.specs.declared.identity.Identity.{Identity}
use Rattle.pn_values.specs.declared.mac.Mac.{Mac}
use Rattle.wire.specs.Formats.{big_bytes}
use Rattle.wire.specs.blocks.Fields.{number_bytes, octet_bytes, zeros}
use Rattle.wire.specs.declared.blocks.fault.BlockFault.{BlockFault}
use Rattle.frame_codec.specs.declared.fault.FrameFault.{FrameFault}
use Rattle.frame_codec.specs.declared.udp.Caller.{Caller}
use Rattle.frame_codec.specs.FrameId.{is_alarm as is_alarm_id, is_cyclic}
use Rattle.frame_codec.specs.Frame.{frame_bytes, frame_of, padding_of}
use Rattle.frame_codec.specs.Meaning.{Meaning, RealTime}
use Rattle.frame_codec.specs.Sendable.{CanBeSent, IsMac, carrying}
use Rattle.rpc_core.specs.declared.interface.Interface.TheVariants.{Controller as controllers}
use Rattle.rpc_core.specs.Interface.{interface_uuid}
use Rattle.rpc_core.specs.Call.{Asked as Call}
use Rattle.rpc_core.specs.Sendable.{CanBeCalled, IsHeader, IsUuid}
use Rattle.connect_blocks.specs.declared.control.ControlBlock.{ControlBlock}
use Rattle.connect_blocks.specs.declared.plug_control.PlugControlBlock.{PlugControlBlock}
use Rattle.connect_blocks.specs.PlugControl.{plug_control}
use Rattle.block_codec.specs.declared.block.Block.{Block}
use Rattle.block_codec.specs.declared.block.Block.TheVariants as is
use Rattle.block_codec.specs.Block.{block_bytes, block_of}
use Rattle.block_codec.specs.Writable.{CanBeWritten}
use Rattle.pn_alarms.specs.declared.fault.AlarmFault.{AlarmFault}
use Rattle.pn_alarms.specs.declared.pdu.Header.{Header}
use Rattle.diagnosis.specs.reports.Message.{ToController, alarm_of}
use Rattle.cyclic_data.specs.exchange.Received.{behind_frame}
use Rattle.relations.specs.declared.plugging.PlugReady.{PlugReady}
use Rattle.relations.specs.declared.ready.Ready.{Ready}
use Rattle.relations.specs.exchange.Frames.{Inputs, Notifies, Reports}
use Rattle.plans.specs.declared.parts.Controller.{Controller}
use Rattle.device_frames.specs.Sendable.{IsSendable}
use Rattle.device_frames.specs.Sent.{Sent, ReadyCall, PlugReadyCall, Ends, Exchanges, bytes_of, plug_ready_frame, ready_frame}
use Rattle.controller_messages.specs.declared.setup.Setup.{Setup}
use Rattle.controller_messages.specs.Heard.{Heard, Alarms, Answers, Calls, Cyclic, Nothing, Refuses, Responds}
use Rattle.controller_messages.specs.Heard.{heard_alarm, heard_content, heard_of, heard_read, heard_real_time}
use Rattle.controller_messages.specs.PlugRequests.{is_plug_ready, plug_ready_block, plug_ready_in}
use Rattle.controller_messages.specs.Sent.{calls_at}
use Rattle.controller_core.specs.start_up.Answers.{is_ready, ready_block, ready_in}
use Rattle.controller_core.specs.stored.Alarms.{is_alarm}
use Rattle.controller_core.specs.stored.State.{Live}
use Rattle.controller_core.specs.Machine.{after_turn, called, can_begin, noticed, plug_called, readied, step_of, stepped, stays, turned}
use Rattle.end_laws.specs.hearing.Hearing.{mine_reported}
use Rattle.end_laws.specs.hearing.Stations.{IsAddress, IsDevice, plug_ready_call, ready_call}
use Rattle.rounds_law.specs.Path.{IsIgnored}
use Rattle.rounds_law.proofs.AlarmOctets.{two_low}
use Rattle.rounds_law.proofs.Choices.{where_not, where_so}
use Rattle.rounds_law.proofs.PlaceTurns.{unchanged, uncalled_by}

-- ---- what is ignored

-- A call that is no ApplicationReady of this relation.
pub record IsOther (setup : Setup) (call : Call) : Type 0 where
  pub block : ControlBlock
  pub is : ready_in call ≡ Some block
  pub other : block.ar_uuid ≡ setup.ar → ⊥

-- Or it is one for a plug, and not of this relation either.
pub record IsOtherPlug (setup : Setup) (call : Call) : Type 0 where
  pub unready : ready_in call ≡ None
  pub block : PlugControlBlock
  pub is : plug_ready_in call ≡ Some block
  pub other : block.ar_uuid ≡ setup.ar → ⊥

-- It is no ApplicationReady of this relation.
abbrev pub IsNotReady : Setup → Call → Type 0
IsNotReady setup call = IsOther setup call ⊎ IsOtherPlug setup call

abbrev pub IsQuiet : Setup → Heard → Type 0
IsQuiet setup Nothing = Unit {0}
IsQuiet setup (Answers source answer) = ⊥
IsQuiet setup (Responds response) = ⊥
IsQuiet setup (Refuses refusal) = ⊥
IsQuiet setup (Calls caller call) = IsNotReady setup call
IsQuiet setup (Cyclic source frame_id body) = Unit {0}
IsQuiet setup (Alarms source under header notice) = Unit {0}

not_ready : (setup : Setup) (block : ControlBlock) → (block.ar_uuid ≡ setup.ar → ⊥) → is_ready setup block ≡ false
not_ready setup block other = by_test (pointwise nat_eq block.ar_uuid setup.ar) refl
  where
    by_test : (same : Bool) → pointwise nat_eq block.ar_uuid setup.ar ≡ same → is_ready setup block ≡ false
    by_test true e = absurd (other (same_text block.ar_uuid setup.ar (sym e)))
    by_test false e = ap (λ (b : Bool). b && block.session_key == 1) e

no_plug_of_it : (setup : Setup) (block : PlugControlBlock) → (block.ar_uuid ≡ setup.ar → ⊥) → is_plug_ready setup block ≡ false
no_plug_of_it setup block other = by_test (pointwise nat_eq block.ar_uuid setup.ar) refl
  where
    by_test : (same : Bool) → pointwise nat_eq block.ar_uuid setup.ar ≡ same → is_plug_ready setup block ≡ false
    by_test true e = absurd (other (same_text block.ar_uuid setup.ar (sym e)))
    by_test false e = ap (λ (b : Bool). b && (block.session_key == 1 && block.control_command == 2)) e

called_quiet : (setup : Setup) (live : Live) (caller : Caller) (call : Call) → IsNotReady setup call
    → called setup live caller call (ready_in call) ≡ stays live
called_quiet setup live caller call (inl other) =
    ap (λ (o : Option ControlBlock). called setup live caller call o) other.is
    ∙ ap (λ (b : Bool). if b then readied live caller call other.block live.phase else stays live) (not_ready setup other.block other.other)
called_quiet setup live caller call (inr other) =
    ap (λ (o : Option ControlBlock). called setup live caller call o) other.unready
    ∙ (ap (λ (o : Option PlugControlBlock). after_turn setup (can_begin live) (plug_called setup live caller call o)) other.is
    ∙ (ap (after_turn setup (can_begin live)) (uncalled_by setup live caller call other.block (no_plug_of_it setup other.block other.other))
    ∙ unchanged setup live))

turned_quiet : (setup : Setup) (live : Live) (heard : Heard) → live.stands ≡ false → IsQuiet setup heard → turned setup live heard ≡ stays live
turned_quiet setup live Nothing unrelated quiet = refl
turned_quiet setup live (Answers source answer) unrelated quiet = absurd quiet
turned_quiet setup live (Responds response) unrelated quiet = absurd quiet
turned_quiet setup live (Refuses refusal) unrelated quiet = absurd quiet
turned_quiet setup live (Calls caller call) unrelated quiet = called_quiet setup live caller call quiet
turned_quiet setup live (Cyclic source frame_id body) unrelated quiet =
    ap (λ (b : Bool). stays (if b then record live { cyclic = behind_frame live.cyclic source frame_id body } else live)) unrelated
turned_quiet setup live (Alarms source under header notice) unrelated quiet =
    ap (λ (b : Bool). after_turn setup (can_begin live) (if b && is_alarm live.cyclic.route source header then noticed live under notice else stays live))
    unrelated ∙ unchanged setup live

pub ignored : (setup : Setup) (octets : List ℕ) → IsQuiet setup (heard_of setup.plan.controller octets) → IsIgnored setup octets
unfolding step_of
ignored setup octets quiet = λ controller same unrelated.
    ap (λ (s : Setup). stepped controller (turned s controller.live (heard_of s.plan.controller octets))) same
    ∙ ap (stepped controller) (turned_quiet setup controller.live (heard_of setup.plan.controller octets) unrelated quiet)

-- ---- frames of real-time data

-- A FrameID of cyclic frames or of alarms.
abbrev pub IsExchanged : ℕ → Type 0
IsExchanged frame_id = (is_cyclic frame_id ≡ true) ⊎ ((is_cyclic frame_id ≡ false) × (is_alarm_id frame_id ≡ true))

alarm_quiet : (setup : Setup) (source : Mac) (frame_id : ℕ) (read : Result (Header × ToController) AlarmFault)
    → IsQuiet setup (heard_alarm source frame_id read)
alarm_quiet setup source frame_id (Ok x) = tt
alarm_quiet setup source frame_id (Err fault) = tt

real_time_quiet : (setup : Setup) (source : Mac) (frame_id : ℕ) (body : List ℕ) → IsExchanged frame_id → IsQuiet setup (heard_real_time source frame_id body)
unfolding heard_real_time
real_time_quiet setup source frame_id body (inl cyclic) =
    subst (IsQuiet setup) (sym (where_so (is_cyclic frame_id) (Cyclic source frame_id body) _ cyclic)) tt
real_time_quiet setup source frame_id body (inr other) =
    subst (IsQuiet setup) (sym (where_not (is_cyclic frame_id) (Cyclic source frame_id body) _ other.0
    ∙ where_so (is_alarm_id frame_id) (heard_alarm source frame_id (alarm_of body)) _ other.1))
    (alarm_quiet setup source frame_id (alarm_of body))

module _ (real_time : (destination source : Mac) (tag : Option ℕ) (frame_id : ℕ) (body : List ℕ)
    → CanBeSent (carrying destination source tag (RealTime frame_id body))
    → frame_of (frame_bytes (carrying destination source tag (RealTime frame_id body)))
    ≡ Ok (carrying destination source tag (RealTime frame_id (body ++ padding_of (carrying destination source tag (RealTime frame_id body)))))) where
  pub exchange_quiet : (setup : Setup) (destination source : Mac) (tag : ℕ) (frame_id : ℕ) (body : List ℕ) → IsExchanged frame_id
      → CanBeSent (carrying destination source (Some tag) (RealTime frame_id body))
      → IsQuiet setup (heard_of setup.plan.controller (frame_bytes (carrying destination source (Some tag) (RealTime frame_id body))))
  unfolding heard_of
  exchange_quiet setup destination source tag frame_id body exchanged can =
      subst (λ (r : Result Meaning FrameFault). IsQuiet setup (heard_read setup.plan.controller r))
      (sym (real_time destination source (Some tag) frame_id body can))
      (either (pointwise nat_eq destination.octets setup.plan.controller.mac.octets))
    where
      padded : List ℕ
      padded = body ++ padding_of (carrying destination source (Some tag) (RealTime frame_id body))

      either : (own : Bool) → IsQuiet setup (if own then heard_content setup.plan.controller.address source (RealTime frame_id padded) else Nothing)
      either true = real_time_quiet setup source frame_id padded exchanged
      either false = tt

-- ---- ApplicationReady of another relation

-- The laws of the crates below.
pub record HeardLaws : Type 0 where
  pub real_time : (destination source : Mac) (tag : Option ℕ) (frame_id : ℕ) (body : List ℕ)
      → CanBeSent (carrying destination source tag (RealTime frame_id body))
      → frame_of (frame_bytes (carrying destination source tag (RealTime frame_id body)))
      ≡ Ok (carrying destination source tag (RealTime frame_id (body ++ padding_of (carrying destination source tag (RealTime frame_id body)))))
  pub ready : (mine : Controller) (identity : Identity) (address : List ℕ) (ready : Ready)
      → IsDevice identity → IsMac ready.partner.mac → IsAddress ready.partner.address → IsAddress address → CanBeCalled controllers (ready_call ready)
      → heard_of mine (ready_frame identity address ready)
      ≡ mine_reported mine ready.partner.mac (calls_at ready.partner.address)
      (Calls (record { mac = identity.mac; endpoint = calls_at address }) (ready_call ready))
  pub ready_can : (ready : Ready) → IsHeader ready.header → ready.header.interface ≡ interface_uuid controllers
      → IsUuid ready.block.ar_uuid → CanBeCalled controllers (ready_call ready)
  pub plug : (mine : Controller) (identity : Identity) (address : List ℕ) (ready : PlugReady)
      → IsDevice identity → IsMac ready.partner.mac → IsAddress ready.partner.address → IsAddress address → CanBeCalled controllers (plug_ready_call ready)
      → heard_of mine (plug_ready_frame identity address ready)
      ≡ mine_reported mine ready.partner.mac (calls_at ready.partner.address)
      (Calls (record { mac = identity.mac; endpoint = calls_at address }) (plug_ready_call ready))
  pub plug_can : (ready : PlugReady) → IsHeader ready.header → ready.header.interface ≡ interface_uuid controllers
      → IsUuid ready.block.ar_uuid → CanBeCalled controllers (plug_ready_call ready)
  pub plug_other : (ready : PlugReady) → ready_in (plug_ready_call ready) ≡ None
  pub plug_back : (kind : ℕ) (block : PlugControlBlock) (tail : List ℕ) → (plug_control kind).Fits block
      → (plug_control kind).read ((plug_control kind).write block tail) ≡ Ok (block, tail)
  pub block_read : (block : Block) → CanBeWritten block → block_of (block_bytes block) ≡ Ok (block, [])

-- What is known of it.
pub record IsReadyOfOther (setup : Setup) (ready : Ready) : Type 0 where
  pub mac : IsMac ready.partner.mac
  pub address : IsAddress ready.partner.address
  pub header : IsHeader ready.header
  pub interface : ready.header.interface ≡ interface_uuid controllers
  pub operation : ready.header.operation ≡ 4
  pub block : CanBeWritten (is.ApplicationReady ready.block)
  pub uuid : IsUuid ready.block.ar_uuid
  pub other : ready.block.ar_uuid ≡ setup.ar → ⊥

-- What is known of one for a plug.
pub record IsPlugCall (setup : Setup) (ready : PlugReady) : Type 0 where
  pub mac : IsMac ready.partner.mac
  pub address : IsAddress ready.partner.address
  pub header : IsHeader ready.header
  pub interface : ready.header.interface ≡ interface_uuid controllers
  pub operation : ready.header.operation ≡ 4
  pub uuid : IsUuid ready.block.ar_uuid
  pub key : ready.block.session_key < 65536
  pub command : ready.block.control_command < 65536
  pub properties : ready.block.control_block_properties < 65536
  pub other : ready.block.ar_uuid ≡ setup.ar → ⊥

-- Of the number of the alarm two octets are sent.
abbrev cut : PlugControlBlock → PlugControlBlock
cut block = record block { alarm_sequence_number = block.alarm_sequence_number % 65536 }

-- The octets of the block, given those of this number.
abbrev with_number : PlugControlBlock → List ℕ → List ℕ
with_number block number =
    big_bytes 2 0x0113 ++ (big_bytes 2 28 ++ (big_bytes 1 1 ++ (big_bytes 1 0 ++ (replicate 2 0 ++ (block.ar_uuid
    ++ (big_bytes 2 block.session_key ++ (number ++ (big_bytes 2 block.control_command ++ (big_bytes 2 block.control_block_properties ++ [])))))))))

octets_are : (block : PlugControlBlock) → (plug_control 0x0113).write block [] ≡ with_number block (big_bytes 2 block.alarm_sequence_number)
unfolding plug_control number_bytes octet_bytes zeros
octets_are block = refl

cut_written : (block : PlugControlBlock) → (plug_control 0x0113).write (cut block) [] ≡ (plug_control 0x0113).write block []
cut_written block = octets_are (cut block) ∙ (ap (with_number block) (two_low block.alarm_sequence_number) ∙ sym (octets_are block))

cut_fits : (block : PlugControlBlock) → length block.ar_uuid ≡ 16 → block.session_key < 65536 → block.control_command < 65536
    → block.control_block_properties < 65536 → (plug_control 0x0113).Fits (cut block)
unfolding plug_control
cut_fits block sixteen key command properties =
    let number : block.alarm_sequence_number % 65536 < 65536 = omega arith in (
      (refl, omega arith),
      (
        (refl, omega arith),
        (
          (refl, omega arith),
          (
            (refl, omega arith),
            (tt, (sixteen, (omega (arith, key), (omega (arith, number), (omega (arith, command), omega (arith, properties)))))),
          ),
        ),
      ),
    )

reported_quiet : (setup : Setup) (destination : Mac) (address : List ℕ) (caller : Caller) (call : Call) → IsNotReady setup call
    → IsQuiet setup (mine_reported setup.plan.controller destination (calls_at address) (Calls caller call))
reported_quiet setup destination address caller call other =
    outer (pointwise nat_eq destination.octets setup.plan.controller.mac.octets) (pointwise nat_eq address setup.plan.controller.address && true)
  where
    outer : (own to : Bool) → IsQuiet setup (if own then (if to then Calls caller call else Nothing) else Nothing)
    outer true true = other
    outer true false = tt
    outer false to = tt

ready_quiet : HeardLaws → (setup : Setup) (identity : Identity) (address : List ℕ) (ready : Ready)
    → IsDevice identity → IsAddress address → IsReadyOfOther setup ready
    → IsQuiet setup (heard_of setup.plan.controller (ready_frame identity address ready))
ready_quiet laws setup identity address ready device sized known =
    subst (IsQuiet setup) (sym (laws.ready setup.plan.controller identity address ready device known.mac known.address sized
    (laws.ready_can ready known.header known.interface known.uuid)))
    (reported_quiet setup ready.partner.mac ready.partner.address (record { mac = identity.mac; endpoint = calls_at address }) (ready_call ready) (inl (record {
      block = ready.block;
      is = ap (λ (n : ℕ). if n == 4 then ready_block (block_of (block_bytes (is.ApplicationReady ready.block))) else None) known.operation
          ∙ ap (λ (r : Result (Block × List ℕ) BlockFault). ready_block r) (laws.block_read (is.ApplicationReady ready.block) known.block);
      other = known.other;
    })))

plug_quiet : HeardLaws → (setup : Setup) (identity : Identity) (address : List ℕ) (ready : PlugReady)
    → IsDevice identity → IsAddress address → IsPlugCall setup ready
    → IsQuiet setup (heard_of setup.plan.controller (plug_ready_frame identity address ready))
plug_quiet laws setup identity address ready device sized known =
    subst (IsQuiet setup) (sym (laws.plug setup.plan.controller identity address ready device known.mac known.address sized
    (laws.plug_can ready known.header known.interface known.uuid)))
    (reported_quiet setup ready.partner.mac ready.partner.address (record { mac = identity.mac; endpoint = calls_at address }) (plug_ready_call ready)
    (inr (record {
      unready = laws.plug_other ready;
      block = cut ready.block;
      is = ap (λ (n : ℕ). if n == 4 then plug_ready_block ((plug_control 0x0113).read ((plug_control 0x0113).write ready.block [])) else None) known.operation
          ∙ (ap (λ (octets : List ℕ). plug_ready_block ((plug_control 0x0113).read octets)) (sym (cut_written ready.block))
          ∙ ap (λ (r : Result (PlugControlBlock × List ℕ) BlockFault). plug_ready_block r)
          (laws.plug_back 0x0113 (cut ready.block) [] (cut_fits ready.block known.uuid known.key known.command known.properties)));
      other = known.other;
    })))

-- ---- all messages of a unit

-- A message of a unit for an earlier relation: its ERR, an alarm again, ApplicationReady again, also that of a plug, or inputs.
abbrev pub IsOfUnit : Setup → Sent → Type 0
IsOfUnit setup (Ends farewell) = Unit {0}
IsOfUnit setup (Exchanges route (Inputs state inputs counter)) = is_cyclic route.sent_id ≡ true
IsOfUnit setup (Exchanges route (Notifies header alarm)) = Unit {0}
IsOfUnit setup (Exchanges route (Reports tag header alarm)) = Unit {0}
IsOfUnit setup (ReadyCall address ready) = IsReadyOfOther setup ready
IsOfUnit setup (PlugReadyCall address ready) = IsPlugCall setup ready
IsOfUnit setup message = ⊥

pub unit_ignored : HeardLaws → (setup : Setup) (identity : Identity) (message : Sent) → IsDevice identity → IsOfUnit setup message → IsSendable identity message
    → IsIgnored setup (bytes_of identity message)
unit_ignored laws setup identity (Ends farewell) device of can =
    ignored setup (bytes_of identity (Ends farewell))
    (exchange_quiet laws.real_time setup farewell.initiator identity.mac farewell.tag _ _ (inr (refl, refl)) can)
unit_ignored laws setup identity (Exchanges route (Inputs state inputs counter)) device of can =
    ignored setup (bytes_of identity (Exchanges route (Inputs state inputs counter)))
    (exchange_quiet laws.real_time setup route.partner identity.mac route.sent_tag _ _ (inl of) can)
unit_ignored laws setup identity (Exchanges route (Notifies header alarm)) device of can =
    ignored setup (bytes_of identity (Exchanges route (Notifies header alarm)))
    (exchange_quiet laws.real_time setup route.partner identity.mac route.alarm_tag _ _ (inr (refl, refl)) can)
unit_ignored laws setup identity (Exchanges route (Reports tag header alarm)) device of can =
    ignored setup (bytes_of identity (Exchanges route (Reports tag header alarm)))
    (exchange_quiet laws.real_time setup route.partner identity.mac tag _ _ (inr (refl, refl)) can)
unit_ignored laws setup identity (ReadyCall address ready) device of can =
    ignored setup (bytes_of identity (ReadyCall address ready)) (ready_quiet laws setup identity address ready device can.content.0.0 of)
unit_ignored laws setup identity (PlugReadyCall address ready) device of can =
    ignored setup (bytes_of identity (PlugReadyCall address ready)) (plug_quiet laws setup identity address ready device can.content.0.0 of)
unit_ignored laws setup identity message device of can = absurd of
