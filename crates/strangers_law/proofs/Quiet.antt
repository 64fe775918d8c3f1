-- What a device does at the frame of a quiet stranger: it stays as it is.
use Rattle.std.proofs.Common.{◌≡◌, ◌==◌, ◌&&◌, ◌||◌, ◌+◌, ◌*◌, ℕ, Bool, true, false, not, nat_eq, nat_le, List, [], ◌∷◌, ◌++◌, length, drop, take, map, if◌then◌else◌, Option, Some, None, is_some, Result, Ok, Err, refl, sym, ap, subst, ◌∙◌}
use Rattle.std.proofs.lemmas.Bool.{and_parts, cond_both, cond-false}
use Rattle.std.specs.Cmp.Lexicographic.{pointwise}
use Rattle.std.specs.List.{AllByRecursion, list_any}
use Rattle.byteorder.specs.Endian.{big_number}
use Rattle.pn_values.specs.declared.mac.Mac.{Mac}
use Rattle.pn_values.specs.declared.identity.Identity.{Identity}
use Rattle.pn_values.specs.declared.set_item.SetItem.{SetItem}
use Rattle.pn_values.specs.declared.set_item.SetItem.TheVariants.{Ask, Signal, Answer}
use Rattle.pn_values.specs.declared.set_item.BlockError.{BlockError}
use Rattle.pn_values.specs.IpSuite.{is_suite}
use Rattle.station_names.specs.Valid.{is_station_name}
use Rattle.flash_model.specs.declared.flash.Flash.{Ghosts as Flash}
use Rattle.frame_codec.specs.declared.arp.Arp.{Arp}
use Rattle.frame_codec.specs.declared.fault.FrameFault.{FrameFault}
use Rattle.frame_codec.specs.declared.udp.Caller.{Caller}
use Rattle.frame_codec.specs.Calls.{call_port}
use Rattle.frame_codec.specs.FrameId.{is_alarm, is_cyclic}
use Rattle.frame_codec.specs.Frame.{frame_of}
use Rattle.frame_codec.specs.Meaning.{Content, Meaning, ArpPacket, RealTime, UdpDatagram}
use Rattle.frame_codec.proofs.Frames.{frame_takes}
use Rattle.dcp_core.specs.declared.request.DcpFault.{DcpFault}
use Rattle.dcp_core.specs.declared.request.Service.{Service}
use Rattle.dcp_core.specs.declared.request.Service.TheVariants as service
use Rattle.dcp_core.specs.Identify.{matches}
use Rattle.dcp_core.specs.Reading.{request_of}
use Rattle.dcp_core.specs.Request.{Asked, AskedBlock}
use Rattle.dcp_core.specs.declared.kind.Kind.{Kind}
use Rattle.dcp_core.specs.declared.kind.Kind.TheVariants as block_kind
use Rattle.dcp_core.specs.Kinds.{option_of, suboption_of}
use Rattle.dcp_core.specs.Set.{item_of, plan_of, suite_in, value_in}
use Rattle.dcp_core.proofs.Sound.{request_takes}
use Rattle.rpc_core.specs.declared.fault.RpcFault.{RpcFault}
use Rattle.rpc_core.specs.declared.interface.Interface.TheVariants.{Device}
use Rattle.rpc_core.specs.Call.{Asked as Called, call_of}
use Rattle.rpc_core.specs.Response.{Answered, response_of}
use Rattle.rpc_core.proofs.Sound.{call_behind, call_takes}
use Rattle.cyclic_data.specs.declared.exchange.received.Received.{Received}
use Rattle.cyclic_data.specs.declared.exchange.received.Received.TheVariants as received
use Rattle.cyclic_data.specs.exchange.Received.{is_of_partner}
use Rattle.pn_alarms.specs.declared.fault.AlarmFault.{AlarmFault}
use Rattle.pn_alarms.specs.declared.message.Notice.TheVariants as message
use Rattle.pn_alarms.specs.declared.pdu.Header.{Header}
use Rattle.pn_alarms.specs.Message.{ToDevice, message_of}
use Rattle.diagnosis.specs.declared.reports.priority.Priority.{Priority}
use Rattle.diagnosis.specs.declared.reports.priority.Priority.TheVariants.{High, Low}
use Rattle.diagnosis.specs.reports.Priority.{priority_of}
use Rattle.diagnosis.specs.reports.Message.{low_message_of}
use Rattle.relations.specs.declared.hearing.ReadyAnswer.TheVariants as to_ready
use Rattle.relations.specs.Diagnosed.{has_sent_low}
use Rattle.relations.specs.Exchanged.{received_by, receiving}
use Rattle.relations.specs.Phases.{updated}
use Rattle.relations.specs.Plugging.{plug_answer_in}
use Rattle.relations.specs.Ready.{answer_of as ready_answer, is_wanted}
use Rattle.relations.specs.RelationState.{RelationState, is_alarm_of, is_awaiting, is_in_exchange}
use Rattle.device_frames.specs.declared.event.Event.TheVariants.{Frame}
use Rattle.device_frames.specs.Heard.{Heard, Unreadable, Elsewhere, Asks, Resolves, Reported, Cyclic, Alarms, LowReplies, LowConfirms, Said, Calls, Responds, Garbled}
use Rattle.device_frames.specs.Heard.{broadcast, heard_alarm, heard_content, heard_frame, heard_low, heard_of, heard_reply, heard_request, is_own, is_taken, said_by, said_else, said_first}
use Rattle.device_frames.specs.Sent.{Sent, IdentifyAnswer, GetAnswer, SetAnswer, ArpReply, CallAnswer, Again, ReadyCall, PlugReadyCall, Ends, Exchanges, bytes_of}
use Rattle.device_frames.specs.Sendable.{AreSendable, IsSendable}
use Rattle.settings_journal.specs.settings_store.Machine.{Outcome, carried, rest_of}
use Rattle.settings_journal.specs.settings_store.Carries.{OneByOne}
use Rattle.settings_journal.specs.settings_store.State as store
use Rattle.device_core.specs.State.{Live, Rest, State, Station, alias_in, store_of}
use Rattle.device_core.specs.Handled.{Handled, Refuses, Sets, Writes, WritesEach, Moves, handled, handled_alarm, handled_answer, handled_low, handled_plug_answer, handled_received, handled_request, handled_said, is_request, is_running}
use Rattle.device_core.specs.Asking.{ended_by, left_asked}
use Rattle.device_core.specs.Log.{err_log, with_log}
use Rattle.device_core.specs.Machine.{farewell_at, farewells_at, handled_step, heard_step, is_signal, items_in, lamp_after, link_after, resets}
use Rattle.device_core.specs.Steps.{Steps}
use Rattle.device_frames.specs.declared.note.Note.{Note}
use Rattle.octets_law.specs.Octets.{dcp_blocks, is_dcp, number, part, untagged}
use Rattle.octets_law.proofs.Bare.{IsBare, bare_of}
use Rattle.octets_law.proofs.CallPlaces.{call_placed}
use Rattle.octets_law.proofs.CallReads.{tested}
use Rattle.octets_law.proofs.FrameSteps.{frame_timely, frame_to}
use Rattle.octets_law.proofs.SetHeard.{IsSetRead, IsTimely, KindOf, set_read}
use Rattle.octets_law.proofs.SetItems.{AreRead}
use Rattle.strangers_law.specs.Quiet.{IsQuietAt, IsReturned, heard_in, belongs_in, is_asking, is_call, is_quiet_stranger, is_setting}
use Rattle.strangers_law.specs.Device.{marks_of}
use Rattle.strangers_law.specs.Strange.{Marks, is_alarm_of as is_alarm_in, is_cyclic_of, is_datagram, is_reset, same}
use Rattle.strangers_law.proofs.Harmless.{IsHarmless, IsQuiet}
use Rattle.strangers_law.proofs.Hearing.{holds, neither, second, strange_harmless}
use Rattle.strangers_law.proofs.Marked.{sender_of}
use Rattle.strangers_law.proofs.Ports.{datagram_is}
use Rattle.strangers_law.proofs.Remaining.{quiet_carried, quiet_resets}
use Rattle.strangers_law.proofs.Sending.{PacketsAreRead, RealTimeIsRead}
use Rattle.strangers_law.proofs.Unnamed.{plug_unwanted}

-- ---- Bools

either_left : (b : Bool) → b || false ≡ true → b ≡ true
either_left true is = refl
either_left false is = absurd cc

all_three : (a b c : Bool) → a ≡ true → b ≡ true → c ≡ true → a && b && c ≡ true
all_three a b c p q r = rw (p, q, r) refl

clash : (b : Bool) → b ≡ false → b ≡ true → ⊥
clash false other is = absurd cc
clash true other is = absurd cc

nor : (a b : Bool) → not a && not b ≡ true → (a ≡ false) × (b ≡ false)
nor false false is = (refl, refl)
nor true b is = absurd cc
nor false true is = absurd cc

-- ---- a Set that is refused

-- An item that is refused.
abbrev IsDenied : SetItem → Type 0
IsDenied (Ask command) = ⊥
IsDenied Signal = ⊥
IsDenied (Answer error) = Unit {0}

-- While a relation exists each item of a Set is; without one there is no such Set.
abbrev AreDenied : Option RelationState → Asked → Type 0
AreDenied None request = ⊥
AreDenied (Some link) request = AllByRecursion IsDenied (plan_of true request)

kind_denied : (kind : Kind) (contents : List ℕ) (read : ℕ) → read ≡ option_of kind * 256 + suboption_of kind → (read == 0x0505 || read == 0x0506) ≡ false → (read == 0x0503) ≡ false
    → IsDenied (item_of true kind contents)
kind_denied block_kind.NameOfStation contents read is calm dark =
    cond_both (nat_le 2 (length contents) && ((length contents == 2) || is_station_name (value_in contents))) _ _ IsDenied (λ _. tt) (λ _. tt)
kind_denied block_kind.IpSuite contents read is calm dark = cond_both ((length contents == 14) && is_suite (suite_in (value_in contents))) _ _ IsDenied (λ _. tt) (λ _. tt)
kind_denied block_kind.Signal contents read is calm dark = absurd (clash (read == 0x0503) dark (holds read 0x0503 is))
kind_denied block_kind.FactoryReset contents read is calm dark = absurd (clash (read == 0x0505) (neither (read == 0x0505) (read == 0x0506) calm).0 (holds read 0x0505 is))
kind_denied block_kind.ResetToFactory contents read is calm dark = absurd (clash (read == 0x0506) (neither (read == 0x0505) (read == 0x0506) calm).1 (holds read 0x0506 is))
kind_denied block_kind.MacAddress contents read is calm dark = tt
kind_denied block_kind.StationType contents read is calm dark = tt
kind_denied block_kind.DeviceId contents read is calm dark = tt
kind_denied block_kind.DeviceRole contents read is calm dark = tt
kind_denied block_kind.DeviceOptions contents read is calm dark = tt
kind_denied block_kind.AliasName contents read is calm dark = tt
kind_denied block_kind.DeviceInstance contents read is calm dark = tt
kind_denied block_kind.Response contents read is calm dark = tt
kind_denied block_kind.All contents read is calm dark = tt
kind_denied (block_kind.Other option suboption) contents read is calm dark = tt

denied_items : (blocks : List AskedBlock) (reads : List (ℕ × List ℕ)) → AreRead blocks reads → list_any (λ (read : ℕ × List ℕ). read.0 == 0x0505 || read.0 == 0x0506) reads ≡ false
    → list_any (λ (read : ℕ × List ℕ). read.0 == 0x0503) reads ≡ false → AllByRecursion IsDenied (map (λ (block : AskedBlock). item_of true block.kind block.contents) blocks)
denied_items [] [] read calm dark = tt
denied_items [] (one ∷ reads) read calm dark = absurd read
denied_items (block ∷ blocks) [] read calm dark = absurd read
denied_items (block ∷ blocks) (one ∷ reads) read calm dark =
    let first = neither (one.0 == 0x0505 || one.0 == 0x0506) _ calm in
    let second = neither (one.0 == 0x0503) _ dark in
    (kind_denied block.kind block.contents one.0 read.0.0 first.0 second.0, denied_items blocks reads read.1 first.1 second.1)

set_denied : (station : List ℕ) (link : Option RelationState) (frame : List ℕ) (request : Asked) → same (take 6 frame) station ≡ true → is_asking station link frame ≡ false
    → belongs_in station link frame ≡ false → IsSetRead frame request → AreDenied link request
unfolding plan_of
set_denied station None frame request own quiet strange read =
    clash (is_dcp 0xFEFD 4 0 frame) (neither (is_dcp 0xFEFD 4 0 frame) (is_call frame) (second (same (take 6 frame) station) _ quiet own)).0 read.kind
set_denied station (Some link) frame request own quiet strange read =
    let marks : Marks = marks_of link in
    let dark = second (is_dcp 0xFEFD 4 0 frame) _ (neither (is_setting (Some link) frame) (is_call frame) (second (same (take 6 frame) station) _ quiet own)).0 read.kind in
    let three = neither (is_cyclic_of marks frame || is_alarm_in marks frame || is_reset frame) _ (second (same (take 6 frame) station) _ strange own) in
    let two = neither (is_cyclic_of marks frame || is_alarm_in marks frame) (is_reset frame) three.0 in
    denied_items request.blocks (dcp_blocks frame) read.blocks (second (is_dcp 0xFEFD 4 0 frame) _ two.1 read.kind) dark

-- ---- what is heard

-- It asks nothing of the settings that is not refused, and calls nothing. What is answered came from this station.
abbrev IsUnasking : Option RelationState → List ℕ → Heard → Type 0
IsUnasking link asker (Asks source request) = (source.octets ≡ asker) × (request.service ≡ service.Set → AreDenied link request)
IsUnasking link asker (Resolves source packet) = source.octets ≡ asker
IsUnasking link asker (Reported caller address (Calls call)) = ⊥
IsUnasking link asker (Reported caller address (Responds response)) = Unit {0}
IsUnasking link asker (Reported caller address Garbled) = Unit {0}
IsUnasking link asker (Cyclic source frame_id body) = Unit {0}
IsUnasking link asker (Alarms source header told) = Unit {0}
IsUnasking link asker (LowReplies source header told) = Unit {0}
IsUnasking link asker (LowConfirms source header told) = Unit {0}
IsUnasking link asker Unreadable = Unit {0}
IsUnasking link asker Elsewhere = Unit {0}
IsUnasking link asker heard = ⊥

module _ (identity : Identity) (link : Option RelationState) (bytes : List ℕ) (meaning : Meaning) (bare : IsBare bytes meaning)
    (sender : part 6 6 (untagged bytes) ≡ meaning.source.octets) (quiet : is_asking identity.mac.octets link (untagged bytes) ≡ false)
    (strange : belongs_in identity.mac.octets link (untagged bytes) ≡ false) where
  abbrev Unasking : Heard → Type 0
  Unasking heard = IsUnasking link (part 6 6 (untagged bytes)) heard

  -- A frame to this device goes to its MAC address by its octets, and is no call.
  own_to : is_own identity meaning.destination ≡ true → same (take 6 (untagged bytes)) identity.mac.octets ≡ true
  own_to own = ap (λ l. pointwise nat_eq l identity.mac.octets) (frame_to bytes meaning bare) ∙ own

  no_call : is_own identity meaning.destination ≡ true → is_call (untagged bytes) ≡ false
  no_call own =
      (neither (is_setting link (untagged bytes)) (is_call (untagged bytes)) (second (same (take 6 (untagged bytes)) identity.mac.octets) _ quiet (own_to own))).1

  request_unasking : (id : ℕ) (body : List ℕ) → IsTimely (untagged bytes) id body → is_taken identity meaning.destination id ≡ true
      → (read : Result Asked DcpFault) → request_of id body ≡ read → Unasking (heard_request meaning.source read)
  request_unasking id body it taken (Err why) is = tt
  request_unasking id body it taken (Ok request) is =
      (sym sender, λ set. by_kind (subst (λ s. KindOf id (untagged bytes) s request) set (set_read (untagged bytes) body id request it (request_takes id body request is))))
    where
      by_kind : KindOf id (untagged bytes) service.Set request → AreDenied link request
      by_kind kind =
          let own : is_own identity meaning.destination ≡ true = either_left (is_own identity meaning.destination) (subst (λ n. is_taken identity meaning.destination n ≡ true) kind.0 taken) in
          set_denied identity.mac.octets link (untagged bytes) request (own_to own) quiet strange kind.1

  alarm_unasking : (id : ℕ) (body : List ℕ) (read : Result (Header × ToDevice) AlarmFault) → Unasking (heard_alarm meaning.source id body read)
  alarm_unasking id body (Ok x) = by_reply (priority_of id) x.0 x.1
    where
      by_reply : (priority : Priority) (said : Header) (told : ToDevice) → Unasking (heard_reply meaning.source priority said told)
      by_reply Low said (message.Ack number) = tt
      by_reply Low said (message.Data number ack) = tt
      by_reply Low said message.Nack = tt
      by_reply Low said (message.Abort status) = tt
      by_reply High said told = tt
  alarm_unasking id body (Err why) = by_low (low_message_of body)
    where
      by_low : (read : Result (Header × ToDevice) AlarmFault) → Unasking (heard_low meaning.source read)
      by_low (Err why) = tt
      by_low (Ok x) = tt

  real_unasking : (id : ℕ) (body : List ℕ) → meaning.content ≡ RealTime id body → Unasking (heard_content identity meaning.destination meaning.source (RealTime id body))
  real_unasking id body is =
      let it = frame_timely bytes meaning id body bare is in
      cond_both (is_taken identity meaning.destination id) _ _ Unasking (λ taken. request_unasking id body it taken (request_of id body) refl)
      (λ _. cond_both (is_own identity meaning.destination && is_alarm id) _ _ Unasking (λ taken. alarm_unasking id body (message_of body))
      (λ _. cond_both (is_own identity meaning.destination && is_cyclic id) _ _ Unasking (λ _. tt) (λ _. tt)))

  said_unasking : (caller : Caller) (address body more : List ℕ) → (number 0 2 (body ++ more) ≡ 0x0400 → ⊥) → Unasking (Reported caller address (said_by body))
  unfolding said_by
  said_unasking caller address body more none = by_call (call_of Device body) refl
    where
      by_response : (read : Result Answered RpcFault) → Unasking (Reported caller address (said_else read))
      by_response (Err why) = tt
      by_response (Ok response) = tt

      by_call : (read : Result Called RpcFault) → call_of Device body ≡ read → Unasking (Reported caller address (said_first read (response_of body)))
      by_call (Err why) is = by_response (response_of body)
      by_call (Ok call) is = none (call_placed Device (body ++ more) call (call_behind Device body more call (call_takes Device body call is))).kind

  content_unasking : (content : Content) → meaning.content ≡ content → Unasking (heard_content identity meaning.destination meaning.source content)
  content_unasking (RealTime id body) is = real_unasking id body is
  content_unasking (ArpPacket packet) is =
      cond_both (is_own identity meaning.destination || pointwise nat_eq meaning.destination.octets broadcast) _ _ Unasking (λ _. sym sender) (λ _. tt)
  content_unasking (UdpDatagram from to body) is =
      let it = datagram_is bytes meaning from to body bare is in
      cond_both (is_own identity meaning.destination && to.port == call_port) _ _ Unasking
      (λ taken. said_unasking (record { mac = meaning.source; endpoint = from }) to.address body it.more (λ kind.
      clash (is_call (untagged bytes)) (no_call (and_parts _ _ taken).0)
      (all_three (is_datagram (untagged bytes)) (number 36 2 (untagged bytes) == 34964) (number 0 2 (drop 42 (untagged bytes)) == 0x0400)
      it.protocol (holds _ 34964 (it.port ∙ tested to.port call_port (and_parts _ _ taken).1)) (holds _ 0x0400 (ap (big_number 2) it.is ∙ kind)))))
      (λ _. tt)

frame_unasking : (identity : Identity) (link : Option RelationState) (bytes : List ℕ) → is_asking identity.mac.octets link (untagged bytes) ≡ false
    → belongs_in identity.mac.octets link (untagged bytes) ≡ false → (read : Result Meaning FrameFault) → frame_of bytes ≡ read
    → IsUnasking link (part 6 6 (untagged bytes)) (heard_frame identity read)
frame_unasking identity link bytes quiet strange (Err why) is = tt
frame_unasking identity link bytes quiet strange (Ok meaning) is =
    let spelled = (frame_takes bytes meaning is).spelled in
    content_unasking identity link bytes meaning (bare_of bytes meaning spelled) (sender_of bytes meaning spelled) quiet strange meaning.content refl

pub unasking : (identity : Identity) (link : Option RelationState) (bytes : List ℕ) → is_asking identity.mac.octets link (untagged bytes) ≡ false
    → belongs_in identity.mac.octets link (untagged bytes) ≡ false → IsUnasking link (part 6 6 (untagged bytes)) (heard_of identity (Frame (record { items = bytes })))
unfolding heard_of
unasking identity link bytes quiet strange = frame_unasking identity link bytes quiet strange (frame_of bytes) refl

-- ---- what is done

-- A message that answers this station.
abbrev IsFor : List ℕ → Sent → Type 0
IsFor asker (IdentifyAnswer to running xid) = to.octets ≡ asker
IsFor asker (GetAnswer to running alias request) = to.octets ≡ asker
IsFor asker (SetAnswer to request answers) = to.octets ≡ asker
IsFor asker (ArpReply to address target) = to.octets ≡ asker
IsFor asker (CallAnswer caller address answer) = ⊥
IsFor asker (Again frame) = ⊥
IsFor asker (ReadyCall address ready) = ⊥
IsFor asker (PlugReadyCall address ready) = ⊥
IsFor asker (Ends farewell) = ⊥
IsFor asker (Exchanges route frame) = ⊥

-- What is asked of the settings is refused, the rest is the same, and only this station is answered.
abbrev Stays : List ℕ → Live → Handled → Type 0
Stays asker live (Refuses note) = Unit {0}
Stays asker live (Sets to request in_operation) = (to.octets ≡ asker) × AllByRecursion IsDenied (plan_of in_operation request)
Stays asker live (Writes caller address call header value) = ⊥
Stays asker live (WritesEach caller address call header judged) = ⊥
Stays asker live (Moves rest sent) = (rest ≡ live.rest) × AllByRecursion (IsFor asker) sent

-- What is heard belongs to no relation.
abbrev IsForeign : Option RelationState → Heard → Type 0
IsForeign None heard = Unit {0}
IsForeign (Some link) heard = IsHarmless link heard

module _ (asker : List ℕ) (station : Station) (live : Live) where
  abbrev Leaves : Handled → Type 0
  Leaves what = Stays asker live what

  denied_in : (request : Asked) (link : Option RelationState) → AreDenied link request → AllByRecursion IsDenied (plan_of (is_some link) request)
  denied_in request None denied = absurd denied
  denied_in request (Some link) denied = denied

  request_stays : (source : Mac) (asked : Service) (request : Asked) → source.octets ≡ asker → (asked ≡ service.Set → AreDenied live.rest.link request)
      → Leaves (handled_request station live source asked request)
  request_stays source service.Identify request from denied =
      cond_both (matches station.identity live.values.running (alias_in live.rest.peer) request) _ _ Leaves (λ _. (refl, (from, tt))) (λ _. tt)
  request_stays source service.Get request from denied = (refl, (from, tt))
  request_stays source service.Set request from denied = (from, denied_in request live.rest.link (denied refl))

  arp_stays : (source : Mac) (packet : Arp) → source.octets ≡ asker → Leaves (handled station live (Resolves source packet))
  arp_stays source packet from =
      cond_both (is_request packet.operation && is_running live.values.running packet.target.address) _ _ Leaves (λ _. (refl, (from, tt))) (λ _. tt)

  response_stays : (caller : Caller) (address : List ℕ) (response : Answered) → IsForeign live.rest.link (Reported caller address (Responds response))
      → Leaves (handled_said station live caller (Responds response))
  unfolding ready_answer
  response_stays caller address response other =
      cond_both (is_in_exchange live.rest.link) _ _ Leaves (λ _. by_plug live.rest.link other) (λ _. by_link live.rest.link other)
    where
      by_plug : (link : Option RelationState) → IsForeign link (Reported caller address (Responds response)) → Leaves (handled_plug_answer live response (plug_answer_in response link))
      by_plug None other = tt
      by_plug (Some link) other = subst (λ answer. Leaves (handled_plug_answer live response answer)) (sym (plug_unwanted response link other)) tt

      not_all : (a b c : Bool) → b ≡ false → a && (b && c) ≡ false
      not_all true false c is = refl
      not_all false false c is = refl
      not_all a true c is = absurd cc

      by_link : (link : Option RelationState) → IsForeign link (Reported caller address (Responds response)) → Leaves (handled_answer station live (ready_answer response link))
      by_link None other = tt
      by_link (Some link) other =
          let unwanted : ready_answer response (Some link) ≡ to_ready.NotWanted = cond-false (is_wanted response link) _ _
          (not_all (is_awaiting link.phase) (pointwise nat_eq response.header.activity link.request.ar.uuid) _ other) in
          subst (λ answer. Leaves (handled_answer station live answer)) (sym unwanted) tt

  said_stays : (caller : Caller) (address : List ℕ) (said : Said) → IsUnasking live.rest.link asker (Reported caller address said) → IsForeign live.rest.link (Reported caller address said)
      → Leaves (handled_said station live caller said)
  said_stays caller address (Calls call) none other = absurd none
  said_stays caller address (Responds response) none other = response_stays caller address response other
  said_stays caller address Garbled none other = tt

  cyclic_stays : (source : Mac) (frame_id : ℕ) (body : List ℕ) (link : Option RelationState) → live.rest.link ≡ link → IsForeign link (Cyclic source frame_id body)
      → Leaves (handled station live (Cyclic source frame_id body))
  cyclic_stays source frame_id body link is other =
      subst (λ (r : Received). Leaves (handled_received live r (updated (receiving source frame_id body live.rest.link) live.rest.link)))
      (sym (ap (received_by source frame_id body) is ∙ foreign link other)) tt
    where
      foreign : (link : Option RelationState) → IsForeign link (Cyclic source frame_id body) → received_by source frame_id body link ≡ received.Foreign
      foreign None other = refl
      foreign (Some link) other = cond-false (is_of_partner link.flow.cyclic.route source frame_id) _ _ other

  -- An alarm frame is of no relation.
  unrelated : (source : Mac) (header : Header) (told : ToDevice) (link : Option RelationState) → IsForeign link (Alarms source header told)
      → is_alarm_of source header.destination header.source link ≡ false
  unrelated source header told None other = refl
  unrelated source header told (Some link) other = other

  alarm_stays : (source : Mac) (header : Header) (told : ToDevice) → is_alarm_of source header.destination header.source live.rest.link ≡ false
      → Leaves (handled_alarm live source header told)
  alarm_stays source header told other = subst Leaves (sym (cond-false (is_alarm_of source header.destination header.source live.rest.link) _ _ other)) tt

  low_stays : (source : Mac) (header : Header) (told : ToDevice) → is_alarm_of source header.destination header.source live.rest.link ≡ false
      → Leaves (handled_low station live source header told)
  low_stays source header told other = subst Leaves (sym (cond-false (is_alarm_of source header.destination header.source live.rest.link) _ _ other)) tt

  low_unrelated : (source : Mac) (header : Header) (told : ToDevice) (link : Option RelationState) → IsForeign link (LowReplies source header told)
      → is_alarm_of source header.destination header.source link ≡ false
  low_unrelated source header told None other = refl
  low_unrelated source header told (Some link) other = other

  confirm_unrelated : (source : Mac) (header : Header) (told : ToDevice) (link : Option RelationState) → IsForeign link (LowConfirms source header told)
      → is_alarm_of source header.destination header.source link ≡ false
  confirm_unrelated source header told None other = refl
  confirm_unrelated source header told (Some link) other = other

  pub stays : (heard : Heard) → IsUnasking live.rest.link asker heard → IsForeign live.rest.link heard → Leaves (handled station live heard)
  stays (Asks source request) none other = request_stays source request.service request none.0 none.1
  stays (Resolves source packet) none other = arp_stays source packet none
  stays (Reported caller address said) none other =
      cond_both (is_running live.values.running address) _ _ Leaves (λ _. said_stays caller address said none other) (λ _. tt)
  stays (Cyclic source frame_id body) none other = cyclic_stays source frame_id body live.rest.link refl other
  stays (Alarms source header told) none other = alarm_stays source header told (unrelated source header told live.rest.link other)
  stays (LowReplies source header told) none other =
      let foreign = low_unrelated source header told live.rest.link other in
      cond_both (has_sent_low live.rest.link) _ _ Leaves (λ _. low_stays source header told foreign) (λ _. alarm_stays source header told foreign)
  stays (LowConfirms source header told) none other =
      let foreign = confirm_unrelated source header told live.rest.link other in
      cond_both (has_sent_low live.rest.link) _ _ Leaves (λ _. low_stays source header told foreign) (λ _. tt)
  stays Unreadable none other = tt
  stays Elsewhere none other = tt
  stays heard none other = absurd none

-- ---- the step

denied_quiet : (items : List SetItem) → AllByRecursion IsDenied items → AllByRecursion IsQuiet items
denied_quiet [] denied = tt
denied_quiet (Ask command ∷ items) denied = absurd denied.0
denied_quiet (Signal ∷ items) denied = absurd denied.0
denied_quiet (Answer error ∷ items) denied = (tt, denied_quiet items denied.1)

denied_dark : (items : List SetItem) → AllByRecursion IsDenied items → list_any is_signal items ≡ false
denied_dark [] denied = refl
denied_dark (Ask command ∷ items) denied = absurd denied.0
denied_dark (Signal ∷ items) denied = absurd denied.0
denied_dark (Answer error ∷ items) denied = denied_dark items denied.1

-- The rest after a Set.
abbrev set_rest : ℕ → Bool → Rest → Rest
set_rest lamp ends rest = with_log (err_log (farewell_at ends rest.link)) (record rest {
  lamp = lamp;
  link = link_after ends rest.link;
  asked = left_asked (ended_by (farewell_at ends rest.link)) rest.asked;
})

stays_live : (asker : List ℕ) (outcomes : List Outcome) (station : Station) (live : Live) (what : Handled) → Stays asker live what → (handled_step outcomes station live what).live ≡ live
unfolding handled_step
stays_live asker outcomes station live (Refuses note) stays = refl
stays_live asker outcomes station live (Sets to request in_operation) stays =
    let items : List SetItem = plan_of in_operation request in
    let answers : List BlockError = (carried outcomes live.values items).answers in
    ap (λ v. record { values = v; rest = set_rest (lamp_after live.rest.lamp items) (resets items answers) live.rest }) (quiet_carried outcomes live.values items (denied_quiet items stays.1))
    ∙ ap (λ ends. record { values = live.values; rest = set_rest (lamp_after live.rest.lamp items) ends live.rest }) (quiet_resets items answers (denied_quiet items stays.1))
    ∙ ap (λ flashes. record { values = live.values; rest = set_rest (if flashes then 96000 else live.rest.lamp) false live.rest }) (denied_dark items stays.1)
stays_live asker outcomes station live (Writes caller address call header value) stays = absurd stays
stays_live asker outcomes station live (WritesEach caller address call header judged) stays = absurd stays
stays_live asker outcomes station live (Moves rest sent) stays = ap (λ rest. record live { rest = rest }) stays.0

-- The settings and their flash stay as they are.
same_store : {F : Type 0} (old new : store.State F) → new.flash ≡ old.flash → new.values ≡ old.values → new ≡ old
same_store old new flash values = ap (λ f. record { flash = f; values = new.values }) flash ∙ ap (λ v. record { flash = old.flash; values = v }) values

denied_store : {F : Type 0} {S : ℕ} (as_flash : Flash F S) (outcomes : List Outcome) (old : store.State F) (items : List SetItem) (new : store.State F) → AllByRecursion IsDenied items
    → OneByOne as_flash outcomes old items new → new ≡ old
denied_store as_flash outcomes old [] new denied placed = placed
denied_store as_flash outcomes old (Ask command ∷ items) new denied placed = absurd denied.0
denied_store as_flash outcomes old (Signal ∷ items) new denied placed = absurd denied.0
denied_store as_flash outcomes old (Answer error ∷ items) new denied (between, one, others) =
    denied_store as_flash (rest_of outcomes) between items new denied.1 others ∙ same_store old between (one.untouched refl) one.values

stays_store : {F : Type 0} {S : ℕ} (as_flash : Flash F S) (outcomes : List Outcome) (asker : List ℕ) (live : Live) (old new : store.State F) (what : Handled) → Stays asker live what
    → OneByOne as_flash outcomes old (items_in what) new → new ≡ old
stays_store as_flash outcomes asker live old new (Refuses note) stays placed = placed
stays_store as_flash outcomes asker live old new (Sets to request in_operation) stays placed = denied_store as_flash outcomes old (plan_of in_operation request) new stays.1 placed
stays_store as_flash outcomes asker live old new (Writes caller address call header value) stays placed = absurd stays
stays_store as_flash outcomes asker live old new (WritesEach caller address call header judged) stays placed = absurd stays
stays_store as_flash outcomes asker live old new (Moves rest sent) stays placed = placed

stays_sent : (asker : List ℕ) (outcomes : List Outcome) (station : Station) (live : Live) (what : Handled) → Stays asker live what
    → AllByRecursion (IsFor asker) (handled_step outcomes station live what).sent
unfolding handled_step
stays_sent asker outcomes station live (Refuses note) stays = tt
stays_sent asker outcomes station live (Sets to request in_operation) stays =
    let items : List SetItem = plan_of in_operation request in
    let answers : List BlockError = (carried outcomes live.values items).answers in
    subst (λ ends. AllByRecursion (IsFor asker) (farewells_at ends live.rest.link ++ SetAnswer to request answers ∷ []))
    (sym (quiet_resets items answers (denied_quiet items stays.1))) (stays.0, tt)
stays_sent asker outcomes station live (Writes caller address call header value) stays = absurd stays
stays_sent asker outcomes station live (WritesEach caller address call header judged) stays = absurd stays
stays_sent asker outcomes station live (Moves rest sent) stays = stays.1

quiet_stays : (station : Station) (live : Live) (octets : List ℕ) → is_quiet_stranger station.identity.mac.octets live.rest.link (untagged octets) ≡ true
    → Stays (part 6 6 (untagged octets)) live (handled station live (heard_of station.identity (Frame (record { items = octets }))))
quiet_stays station live octets quiet =
    let both = nor (is_asking station.identity.mac.octets live.rest.link (untagged octets)) (belongs_in station.identity.mac.octets live.rest.link (untagged octets)) quiet in
    stays (part 6 6 (untagged octets)) station live (heard_of station.identity (Frame (record { items = octets }))) (unasking station.identity live.rest.link octets both.0 both.1) (foreign live.rest.link both.1)
  where
    foreign : (link : Option RelationState) → belongs_in station.identity.mac.octets link (untagged octets) ≡ false
        → IsForeign link (heard_of station.identity (Frame (record { items = octets })))
    foreign None other = tt
    foreign (Some link) other = strange_harmless station.identity link (Frame (record { items = octets })) other

-- ---- a step of a device

same_state : {F : Type 0} (old new : State F) → new.flash ≡ old.flash → new.station ≡ old.station → new.live ≡ old.live → new ≡ old
same_state old new flash station live =
    ap (λ f. record { flash = f; station = new.station; live = new.live }) flash ∙ ap (λ s. record { flash = old.flash; station = s; live = new.live }) station
    ∙ ap (λ l. record { flash = old.flash; station = old.station; live = l }) live

pub leaves_devices : {F : Type 0} {S : ℕ} (as_flash : Flash F S) (old new : State F) (octets : List ℕ) (sent : List (List ℕ)) (said : Note)
    → Steps as_flash old (heard_in old.station.identity octets) sent said new → IsQuietAt old octets → new ≡ old
unfolding heard_step
leaves_devices as_flash old new octets sent said steps quiet =
    let heard : Heard = heard_of old.station.identity (Frame (record { items = octets })) in
    let stays = quiet_stays old.station old.live octets quiet in
    let live = steps.live ∙ stays_live (part 6 6 (untagged octets)) steps.outcomes old.station old.live (handled old.station old.live heard) stays in
    let stored : store_of new ≡ store_of old =
    stays_store as_flash steps.outcomes (part 6 6 (untagged octets)) old.live (store_of old) (store_of new) (handled old.station old.live heard) stays steps.placed in
    same_state old new (ap (λ s. s.flash) stored) steps.same live

-- ---- what is sent

module _ (identity : Identity) (real_time : RealTimeIsRead) (packets : PacketsAreRead) (asker : List ℕ) where
  read_to : (frame : List ℕ) (meaning : Meaning) → frame_of frame ≡ Ok meaning → take 6 (untagged frame) ≡ meaning.destination.octets
  read_to frame meaning read = frame_to frame meaning (bare_of frame meaning (frame_takes frame meaning read).spelled)

  sent_back : (message : Sent) → IsFor asker message → IsSendable identity message → take 6 (untagged (bytes_of identity message)) ≡ asker
  sent_back (IdentifyAnswer to running xid) is can = read_to _ _ (real_time to identity.mac None 65279 _ can) ∙ is
  sent_back (GetAnswer to running alias request) is can = read_to _ _ (real_time to identity.mac None 65277 _ can) ∙ is
  sent_back (SetAnswer to request answers) is can = read_to _ _ (real_time to identity.mac None 65277 _ can) ∙ is
  sent_back (ArpReply to address target) is can = read_to _ _ (packets to identity.mac None _ can) ∙ is
  sent_back (CallAnswer caller address answer) is can = absurd is
  sent_back (Again frame) is can = absurd is
  sent_back (ReadyCall address ready) is can = absurd is
  sent_back (PlugReadyCall address ready) is can = absurd is
  sent_back (Ends farewell) is can = absurd is
  sent_back (Exchanges route frame) is can = absurd is

  all_back : (messages : List Sent) → AllByRecursion (IsFor asker) messages → AreSendable identity messages
      → AllByRecursion (λ frame. take 6 (untagged frame) ≡ asker) (map (bytes_of identity) messages)
  all_back [] are can = tt
  all_back (message ∷ messages) are can = (sent_back message are.0 can.0, all_back messages are.1 can.1)

step_frames : (outcomes : List Outcome) (station : Station) (live : Live) (heard : Heard)
    → (heard_step outcomes station live heard).frames ≡ map (bytes_of station.identity) (heard_step outcomes station live heard).sent
unfolding heard_step handled_step
step_frames outcomes station live heard = refl

step_sent : (asker : List ℕ) (outcomes : List Outcome) (station : Station) (live : Live) (heard : Heard) → Stays asker live (handled station live heard)
    → AllByRecursion (IsFor asker) (heard_step outcomes station live heard).sent
unfolding heard_step
step_sent asker outcomes station live heard stays = stays_sent asker outcomes station live (handled station live heard) stays

pub answers_senders : {F : Type 0} {S : ℕ} (as_flash : Flash F S) → RealTimeIsRead → PacketsAreRead → (old new : State F) (octets : List ℕ) (sent : List (List ℕ)) (said : Note)
    → Steps as_flash old (heard_in old.station.identity octets) sent said new → IsQuietAt old octets → AllByRecursion (IsReturned octets) sent
answers_senders as_flash real_time packets old new octets sent said steps quiet =
    let heard : Heard = heard_of old.station.identity (Frame (record { items = octets })) in
    subst (AllByRecursion (IsReturned octets)) (sym (steps.frames ∙ step_frames steps.outcomes old.station old.live heard))
    (all_back old.station.identity real_time packets (part 6 6 (untagged octets)) (heard_step steps.outcomes old.station old.live heard).sent
    (step_sent (part 6 6 (untagged octets)) steps.outcomes old.station old.live heard (quiet_stays old.station old.live octets quiet)) steps.sendable)
