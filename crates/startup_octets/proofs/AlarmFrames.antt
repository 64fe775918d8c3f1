-- Which frames of the two ends carry an alarm or an AlarmAck of high priority.
use Rattle.std.proofs.Common.{◌≡◌, ◌⊎◌, inl, inr, ◌==◌, ◌&&◌, ◌||◌, ℕ, Bool, true, false, List, [], ◌∷◌, ◌++◌, length, map, Some, None, refl, ap, ◌∙◌}
use Rattle.std.specs.List.{AllByRecursion}
use Rattle.byteorder.specs.Endian.{big_bytes}
use Rattle.pn_values.specs.declared.mac.Mac.{Mac}
use Rattle.pn_values.specs.declared.identity.Identity.{Identity}
use Rattle.frame_codec.specs.declared.udp.Endpoint.{Endpoint}
use Rattle.frame_codec.specs.Frame.{datagram, padding_of}
use Rattle.frame_codec.specs.Meaning.{RealTime, UdpDatagram}
use Rattle.frame_codec.specs.Sendable.{IsMac, carrying}
use Rattle.dcp_core.specs.Writing.{request_bytes}
use Rattle.record_blocks.specs.declared.alarm_ack.AlarmAck.{AlarmAck}
use Rattle.record_blocks.specs.declared.alarm_notification.AlarmNotification.{AlarmNotification}
use Rattle.block_codec.specs.declared.block.Block.TheVariants as is
use Rattle.block_codec.specs.Block.{block_bytes, fields_of, kind_of}
use Rattle.block_codec.specs.Kinds.{number_of}
use Rattle.block_codec.proofs.Sound.{block_parts}
use Rattle.pn_alarms.specs.declared.pdu.Header.{Header}
use Rattle.pn_alarms.specs.declared.pdu.PduType.{PduType}
use Rattle.pn_alarms.specs.declared.pdu.PduType.TheVariants.{Ack, Data, Nack}
use Rattle.pn_alarms.specs.Format.{flags_of, frame_id_of, header, kind, octet_of, pdu, pdu_bytes}
use Rattle.diagnosis.specs.declared.reports.priority.Priority.{Priority}
use Rattle.diagnosis.specs.declared.reports.priority.Priority.TheVariants.{High, Low}
use Rattle.diagnosis.specs.reports.Report.{ack_bytes}
use Rattle.cyclic_data.specs.declared.exchange.route.Route.{Route}
use Rattle.cyclic_data.specs.exchange.Frames.{plain_frame, tagged_frame}
use Rattle.relations.specs.exchange.Frames.{Notifies}
use Rattle.device_frames.specs.Sent.{Exchanges, bytes_of as device_bytes}
use Rattle.controller_messages.specs.declared.request.Request.{Request}
use Rattle.controller_messages.specs.declared.request.Request.TheVariants as asks
use Rattle.controller_messages.specs.declared.setup.Setup.{Setup}
use Rattle.controller_messages.specs.Requests.{address_asked, identify_asked}
use Rattle.controller_messages.specs.Sent.{Sent, Requests, Accesses, Parametrizes, Agrees, Cycles, Confirms, Replies, Ends, bytes_of, identify_multicast, tag_of}
use Rattle.end_laws.specs.hearing.Stations.{IsSetup}
use Rattle.end_laws.specs.sending.Messages.{CanBeSent}
use Rattle.octets_law.specs.Octets.{number, untagged}
use Rattle.octets_law.proofs.SetFrames.{six}
use Rattle.startup_octets.specs.Alarms.{any_carries, carries}
use Rattle.startup_octets.proofs.Frames.{datagram_is, plain_is, tagged_is}

-- ---- the places of a frame

-- What is read after the EtherType of PROFINET.
abbrev real_time_carries : ℕ → List ℕ → Bool
real_time_carries type rest = number 0 2 rest == 0xFC01 && (number 6 1 rest == 0x11 && number 14 2 rest == type)

tagged_places : (type : ℕ) (to from rest padding : List ℕ) (tag : ℕ) → length to ≡ 6 → length from ≡ 6
    → carries type (untagged ((to ++ (from ++ (0x81 ∷ 0x00 ∷ (big_bytes 2 tag ++ (0x88 ∷ 0x92 ∷ rest))))) ++ padding)) ≡ real_time_carries type (rest ++ padding)
tagged_places type to from rest padding tag t f =
    six (λ to. carries type (untagged ((to ++ (from ++ (0x81 ∷ 0x00 ∷ (big_bytes 2 tag ++ (0x88 ∷ 0x92 ∷ rest))))) ++ padding)) ≡ real_time_carries type (rest ++ padding)) to t (λ a b c d e g.
    six (λ from. carries type (untagged (((a ∷ b ∷ c ∷ d ∷ e ∷ g ∷ []) ++ (from ++ (0x81 ∷ 0x00 ∷ (big_bytes 2 tag ++ (0x88 ∷ 0x92 ∷ rest))))) ++ padding)) ≡ real_time_carries type (rest ++ padding)) from f (λ h i j k l m. refl))

plain_places : (type : ℕ) (to from rest padding : List ℕ) → length to ≡ 6 → length from ≡ 6
    → carries type (untagged ((to ++ (from ++ (0x88 ∷ 0x92 ∷ rest))) ++ padding)) ≡ real_time_carries type (rest ++ padding)
plain_places type to from rest padding t f =
    six (λ to. carries type (untagged ((to ++ (from ++ (0x88 ∷ 0x92 ∷ rest))) ++ padding)) ≡ real_time_carries type (rest ++ padding)) to t (λ a b c d e g.
    six (λ from. carries type (untagged (((a ∷ b ∷ c ∷ d ∷ e ∷ g ∷ []) ++ (from ++ (0x88 ∷ 0x92 ∷ rest))) ++ padding)) ≡ real_time_carries type (rest ++ padding)) from f (λ h i j k l m. refl))

internet_places : (type : ℕ) (to from rest padding : List ℕ) → length to ≡ 6 → length from ≡ 6
    → carries type (untagged ((to ++ (from ++ (0x08 ∷ 0x00 ∷ rest))) ++ padding)) ≡ false
internet_places type to from rest padding t f =
    six (λ to. carries type (untagged ((to ++ (from ++ (0x08 ∷ 0x00 ∷ rest))) ++ padding)) ≡ false) to t (λ a b c d e g.
    six (λ from. carries type (untagged (((a ∷ b ∷ c ∷ d ∷ e ∷ g ∷ []) ++ (from ++ (0x08 ∷ 0x00 ∷ rest))) ++ padding)) ≡ false) from f (λ h i j k l m. refl))

datagram_carries : (type : ℕ) (source destination : Mac) (from to : Endpoint) (body : List ℕ) → IsMac source → IsMac destination
    → carries type (untagged (plain_frame source destination (UdpDatagram from to body))) ≡ false
datagram_carries type source destination from to body s d =
    ap (λ (l : List ℕ). carries type (untagged l)) (datagram_is source destination from to body)
    ∙ internet_places type destination.octets source.octets (datagram.write (UdpDatagram from to body)) (padding_of (carrying destination source None (UdpDatagram from to body))) d s

plain_carries : (type : ℕ) (source destination : Mac) (id : ℕ) (body : List ℕ) → IsMac source → IsMac destination
    → carries type (untagged (plain_frame source destination (RealTime id body)))
    ≡ real_time_carries type ((big_bytes 2 id ++ body) ++ padding_of (carrying destination source None (RealTime id body)))
plain_carries type source destination id body s d =
    ap (λ (l : List ℕ). carries type (untagged l)) (plain_is source destination id body)
    ∙ plain_places type destination.octets source.octets (big_bytes 2 id ++ body) (padding_of (carrying destination source None (RealTime id body))) d s

tagged_carries : (type : ℕ) (source destination : Mac) (tag id : ℕ) (body : List ℕ) → IsMac source → IsMac destination
    → carries type (untagged (tagged_frame source destination tag (RealTime id body)))
    ≡ real_time_carries type ((big_bytes 2 id ++ body) ++ padding_of (carrying destination source (Some tag) (RealTime id body)))
tagged_carries type source destination tag id body s d =
    ap (λ (l : List ℕ). carries type (untagged l)) (tagged_is source destination tag id body)
    ∙ tagged_places type destination.octets source.octets (big_bytes 2 id ++ body) (padding_of (carrying destination source (Some tag) (RealTime id body))) tag d s

-- ---- PDUs

-- The octets of a PDU: its header of ten octets, VarPartLen, and its body.
abbrev pdu_octets : Header → PduType → List ℕ → List ℕ
pdu_octets h type body =
    big_bytes 2 h.destination ++ (big_bytes 2 h.source ++ (big_bytes 1 (octet_of type) ++ (big_bytes 1 (flags_of type) ++ (big_bytes 2 h.send_number ++ (big_bytes 2 h.ack_number
    ++ (big_bytes 2 (length body) ++ (body ++ [])))))))

pdu_is : (h : Header) (type : PduType) (body : List ℕ) → h.kind ≡ type → pdu_bytes (record { header = h; body = body }) ≡ pdu_octets h type body
unfolding pdu_bytes pdu header kind
pdu_is h type body e = rw e refl

abbrev block_octets : ℕ → ℕ → List ℕ → List ℕ
block_octets type size fields = big_bytes 2 type ++ (big_bytes 2 size ++ fields)

-- Data of high priority whose block has this type.
data_carries : (type size : ℕ) (h : Header) (fields padding : List ℕ) → real_time_carries type ((big_bytes 2 0xFC01 ++ pdu_octets h Data (block_octets type size fields)) ++ padding) ≡ (number 0 2 (big_bytes 2 type) == type)
data_carries type size h fields padding = refl

no_data : (type : ℕ) (h : Header) (body padding : List ℕ) (which : PduType) → (which ≡ Ack) ⊎ (which ≡ Nack) → real_time_carries type ((big_bytes 2 0xFC01 ++ pdu_octets h which body) ++ padding) ≡ false
no_data type h body padding which (inl ack) = rw ack refl
no_data type h body padding which (inr nack) = rw nack refl

low_carries : (type : ℕ) (rest padding : List ℕ) → real_time_carries type ((big_bytes 2 0xFE01 ++ rest) ++ padding) ≡ false
low_carries type rest padding = refl

alarm_block_is : (alarm : AlarmNotification) → block_bytes (is.AlarmNotification alarm)
    ≡ block_octets 0x0001 ((fields_of (kind_of (is.AlarmNotification alarm))).size (is.AlarmNotification alarm)) ((fields_of (kind_of (is.AlarmNotification alarm))).write (is.AlarmNotification alarm))
unfolding number_of
alarm_block_is alarm = block_parts (is.AlarmNotification alarm)

ack_block_is : (ack : AlarmAck) → block_bytes (is.AlarmAck ack)
    ≡ block_octets 0x8001 ((fields_of (kind_of (is.AlarmAck ack))).size (is.AlarmAck ack)) ((fields_of (kind_of (is.AlarmAck ack))).write (is.AlarmAck ack))
unfolding number_of
ack_block_is ack = block_parts (is.AlarmAck ack)

-- A tagged frame of data of high priority.
data_frame : (type size : ℕ) (source destination : Mac) (tag : ℕ) (h : Header) (body fields : List ℕ) → IsMac source → IsMac destination → h.kind ≡ Data → body ≡ block_octets type size fields
    → (number 0 2 (big_bytes 2 type) == type) ≡ true → carries type (untagged (tagged_frame source destination tag (RealTime 0xFC01 (pdu_bytes (record { header = h; body = body }))))) ≡ true
data_frame type size source destination tag h body fields s d e block same =
    let bytes : List ℕ = pdu_bytes (record { header = h; body = body }) in
    let padding : List ℕ = padding_of (carrying destination source (Some tag) (RealTime 0xFC01 bytes)) in
    tagged_carries type source destination tag 0xFC01 bytes s d
    ∙ (ap (λ (l : List ℕ). real_time_carries type ((big_bytes 2 0xFC01 ++ l) ++ padding)) (pdu_is h Data body e ∙ ap (λ (l : List ℕ). pdu_octets h Data l) block)
    ∙ (data_carries type size h fields padding ∙ same))

-- A tagged frame of low priority.
low_frame : (type : ℕ) (source destination : Mac) (tag : ℕ) (body : List ℕ) → IsMac source → IsMac destination → carries type (untagged (tagged_frame source destination tag (RealTime 0xFE01 body))) ≡ false
low_frame type source destination tag body s d =
    tagged_carries type source destination tag 0xFE01 body s d ∙ low_carries type body (padding_of (carrying destination source (Some tag) (RealTime 0xFE01 body)))

-- The device's alarm.
pub alarm_carries : (identity : Identity) (route : Route) (h : Header) (alarm : AlarmNotification) → IsMac identity.mac → IsMac route.partner → h.kind ≡ Data
    → carries 0x0001 (untagged (device_bytes identity (Exchanges route (Notifies h alarm)))) ≡ true
alarm_carries identity route h alarm s d e =
    data_frame 0x0001 _ identity.mac route.partner route.alarm_tag h (block_bytes (is.AlarmNotification alarm)) _ s d e (alarm_block_is alarm) refl

-- ---- the messages of a controller

pub ack_carries : (setup : Setup) (route : Route) (h : Header) (ack : AlarmAck) → IsMac setup.plan.controller.mac → IsMac route.partner → h.kind ≡ Data
    → carries 0x8001 (untagged (bytes_of setup (Confirms route High h ack))) ≡ true
ack_carries setup route h ack s d e =
    ap (λ k. carries 0x8001 (untagged (tagged_frame setup.plan.controller.mac route.partner (tag_of route High) (RealTime (frame_id_of k) (pdu_bytes (record { header = h; body = block_bytes (is.AlarmAck ack) })))))) e
    ∙ data_frame 0x8001 _ setup.plan.controller.mac route.partner (tag_of route High) h (block_bytes (is.AlarmAck ack)) _ s d e (ack_block_is ack) refl

pub low_ack_carries : (setup : Setup) (route : Route) (h : Header) (ack : AlarmAck) → IsMac setup.plan.controller.mac → IsMac route.partner
    → carries 0x8001 (untagged (bytes_of setup (Confirms route Low h ack))) ≡ false
low_ack_carries setup route h ack s d =
    low_frame 0x8001 setup.plan.controller.mac route.partner (tag_of route Low) (pdu_bytes (record { header = h; body = ack_bytes Low ack })) s d

pub reply_carries : (setup : Setup) (route : Route) (priority : Priority) (h : Header) → IsMac setup.plan.controller.mac → IsMac route.partner → (h.kind ≡ Ack) ⊎ (h.kind ≡ Nack)
    → carries 0x8001 (untagged (bytes_of setup (Replies route priority h))) ≡ false
reply_carries setup route Low h s d e = low_frame 0x8001 setup.plan.controller.mac route.partner (tag_of route Low) (pdu_bytes (record { header = h; body = [] })) s d
reply_carries setup route High h s d e =
    let bytes : List ℕ = pdu_bytes (record { header = h; body = [] }) in
    let id_is : frame_id_of h.kind ≡ 0xFC01 = same_id h.kind e in
    ap (λ id. carries 0x8001 (untagged (tagged_frame setup.plan.controller.mac route.partner (tag_of route High) (RealTime id bytes)))) id_is
    ∙ (tagged_carries 0x8001 setup.plan.controller.mac route.partner (tag_of route High) 0xFC01 bytes s d
    ∙ (ap (λ (l : List ℕ). real_time_carries 0x8001 ((big_bytes 2 0xFC01 ++ l) ++ padding_of (carrying route.partner setup.plan.controller.mac (Some (tag_of route High)) (RealTime 0xFC01 bytes)))) (pdu_is h h.kind [] refl)
    ∙ no_data 0x8001 h [] (padding_of (carrying route.partner setup.plan.controller.mac (Some (tag_of route High)) (RealTime 0xFC01 bytes))) h.kind e))
  where
    same_id : (k : PduType) → (k ≡ Ack) ⊎ (k ≡ Nack) → frame_id_of k ≡ 0xFC01
    same_id k (inl ack) = rw ack refl
    same_id k (inr nack) = rw nack refl

-- Requests and answers to calls.
abbrev pub IsDull : Sent → Type 0
IsDull (Requests device request) = Unit {0}
IsDull (Accesses device request octets) = Unit {0}
IsDull (Parametrizes device request) = Unit {0}
IsDull (Agrees caller answer) = Unit {0}
IsDull message = ⊥

multicast_six : IsMac identify_multicast
unfolding identify_multicast
multicast_six = refl

request_carries : (setup : Setup) (device : Mac) (request : Request) → IsMac setup.plan.controller.mac → IsMac device → carries 0x8001 (untagged (bytes_of setup (Requests device request))) ≡ false
request_carries setup device asks.Identify s d = plain_carries 0x8001 setup.plan.controller.mac identify_multicast 0xFEFE (request_bytes (identify_asked setup.plan)) s multicast_six
request_carries setup device asks.Address s d = plain_carries 0x8001 setup.plan.controller.mac device 0xFEFD (request_bytes (address_asked setup.plan)) s d
request_carries setup device asks.Connect s d = datagram_carries 0x8001 setup.plan.controller.mac device _ _ _ s d
request_carries setup device (asks.Write number) s d = datagram_carries 0x8001 setup.plan.controller.mac device _ _ _ s d
request_carries setup device asks.PrmEnd s d = datagram_carries 0x8001 setup.plan.controller.mac device _ _ _ s d
request_carries setup device (asks.WriteAfter number tries) s d = datagram_carries 0x8001 setup.plan.controller.mac device _ _ _ s d
request_carries setup device (asks.PrmEndAfter tries) s d = datagram_carries 0x8001 setup.plan.controller.mac device _ _ _ s d
request_carries setup device (asks.Release sequence) s d = datagram_carries 0x8001 setup.plan.controller.mac device _ _ _ s d

dull_carries : (setup : Setup) (message : Sent) → IsSetup setup → CanBeSent setup message → IsDull message → carries 0x8001 (untagged (bytes_of setup message)) ≡ false
dull_carries setup (Requests device request) good can dull = request_carries setup device request good.mac can.0
dull_carries setup (Accesses device request octets) good can dull = datagram_carries 0x8001 setup.plan.controller.mac device _ _ _ good.mac can.0
dull_carries setup (Parametrizes device request) good can dull = datagram_carries 0x8001 setup.plan.controller.mac device _ _ _ good.mac can.0
dull_carries setup (Agrees caller answer) good can dull = datagram_carries 0x8001 setup.plan.controller.mac caller.mac _ _ _ good.mac can.0.mac
dull_carries setup (Cycles route shown counter) good can dull = absurd dull
dull_carries setup (Confirms route priority h ack) good can dull = absurd dull
dull_carries setup (Replies route priority h) good can dull = absurd dull
dull_carries setup (Ends route h reason) good can dull = absurd dull

pub none_of : (a b : Bool) → a ≡ false → b ≡ false → a || b ≡ false
none_of a b one other = ap (λ x. x || b) one ∙ other

pub dull_none : (setup : Setup) (messages : List Sent) → IsSetup setup → AllByRecursion (CanBeSent setup) messages → AllByRecursion IsDull messages → any_carries 0x8001 (map (bytes_of setup) messages) ≡ false
dull_none setup [] good can dull = refl
dull_none setup (message ∷ messages) good can dull =
    none_of (carries 0x8001 (untagged (bytes_of setup message))) (any_carries 0x8001 (map (bytes_of setup) messages)) (dull_carries setup message good can.0 dull.0) (dull_none setup messages good can.1 dull.1)
