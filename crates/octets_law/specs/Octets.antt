-- What the octets of a frame or of a call ask of a device, and how the octets of the frames that it sends answer that.
-- Everything is read at fixed places: a frame of Ethernet from its first octet, without its VLAN tag; a call from the
-- first octet of its datagram.
use Rattle.std.specs.Prelude.{◌+◌, ◌-◌, ◌*◌, ◌/◌, ◌%◌, ◌==◌, ◌&&◌, ◌||◌, ℕ, zero, suc, Bool, true, false, not, nat_eq, nat_le, List, [], ◌∷◌, ◌++◌, map, take, drop, zip, flat_map, filter_map, length, Option, Some, None, if◌then◌else◌}
use Rattle.std.specs.Cmp.Lexicographic.{pointwise}
use Rattle.byteorder.specs.Endian.{big_number, little_number}
use Rattle.rpc_core.specs.Fields.{turned}
use Rattle.pn_values.specs.declared.mac.Mac.{Mac}
use Rattle.pn_values.specs.declared.im_value.ImValue.TheVariants.{Im1, Im2, Im3, Im4}
use Rattle.pn_values.specs.declared.command.Command.{Command}
use Rattle.pn_values.specs.declared.command.Command.TheVariants.{SetName, SetIp, SetIm, ResetApplication, ResetCommunication, ResetAll}
use Rattle.device_frames.specs.declared.event.Event.{Event}
use Rattle.device_frames.specs.declared.event.Event.TheVariants.{Frame, Call as Joined}

-- The number in n octets at a place, the highest octet first.
abbrev pub number : ℕ → ℕ → List ℕ → ℕ
number place size octets = big_number size (drop place octets)

-- n octets at a place.
abbrev pub part : ℕ → ℕ → List ℕ → List ℕ
part place size octets = take size (drop place octets)

-- ---- DCP (IEC 61158-6-10, 4.3): EtherType 12, FrameID 14, ServiceID 16, ServiceType 17, Xid 18, DCPDataLength 24, blocks 26

-- Whether a frame has this FrameID, ServiceID and ServiceType.
abbrev pub is_dcp : ℕ → ℕ → ℕ → List ℕ → Bool
is_dcp id service type frame = number 12 2 frame == 0x8892 && number 14 2 frame == id && number 16 1 frame == service && number 17 1 frame == type

-- Blocks: Option and Suboption as one number, and the contents, with their length before them. The next block is at an
-- even place.
abbrev pub blocks_in : ℕ → List ℕ → List (ℕ × List ℕ)
blocks_in (suc most) (first ∷ behind) =
    let octets = first ∷ behind in
    (number 0 2 octets, part 4 (number 2 2 octets) octets) ∷ blocks_in most (drop (4 + (number 2 2 octets + 1) / 2 * 2) octets)
blocks_in most octets = []

-- The blocks of a DCP frame, by its DCPDataLength.
abbrev pub dcp_blocks : List ℕ → List (ℕ × List ℕ)
dcp_blocks frame = blocks_in 16 (part 26 (number 24 2 frame) frame)

-- Whether these are at most n blocks of a Set: each has a BlockQualifier, and all octets that its length counts. The
-- last octet of padding may be missing.
abbrev pub are_whole : ℕ → List ℕ → Bool
are_whole most [] = true
are_whole zero (first ∷ behind) = false
are_whole (suc most) (first ∷ behind) =
    let size = number 2 2 (first ∷ behind) in
    nat_le 2 size && nat_le (4 + size) (length (first ∷ behind)) && are_whole most (drop (4 + (size + 1) / 2 * 2) (first ∷ behind))

-- Whether a Set is whole: a frame of at most 1,514 octets, with all octets that DCPDataLength counts, which are at most 16
-- whole blocks.
abbrev pub is_whole : List ℕ → Bool
is_whole set = nat_le (length set) 1514 && nat_le (26 + number 24 2 set) (length set) && are_whole 16 (part 26 (number 24 2 set) set)

-- The command of a block of a Set. Its contents begin with the BlockQualifier: bit 0 says permanent, the bits above it are
-- the mode of ResetToFactory.
abbrev pub command_in : ℕ × List ℕ → Option Command
command_in block =
    let qualifier = number 0 2 block.1 in
    let value = drop 2 block.1 in
    if block.0 == 0x0202 then Some (SetName (qualifier % 2 == 1) value)
    else if block.0 == 0x0102 then Some (SetIp (qualifier % 2 == 1) (record { address = part 0 4 value; mask = part 4 4 value; gateway = part 8 4 value }))
    else if block.0 == 0x0505 then Some ResetAll
    else if block.0 == 0x0506 && qualifier / 2 == 1 then Some ResetApplication
    else if block.0 == 0x0506 && qualifier / 2 == 2 then Some ResetCommunication
    else None

-- The BlockErrors with which a frame answers a Set, one for each of its blocks; none if it is no answer to it. Each is
-- after the Option and the Suboption that it is about.
abbrev pub block_errors : List ℕ → List ℕ → List ℕ
block_errors set frame =
    if is_dcp 0xFEFD 4 1 frame && number 18 4 frame == number 18 4 set
    then map (λ block. number 2 1 block.1) (dcp_blocks frame)
    else []

-- ---- calls (C706, 12.5; IEC 61158-6-10, 4.10): version 0, packet type 1, byte order 4, activity 40, sequence 64, operation 68,
-- ArgsMaximum or PNIOStatus 80, ArgsLength 84, blocks 100

-- A number of a call, in the byte order of the call.
abbrev pub in_order : ℕ → ℕ → List ℕ → ℕ
in_order place size call = if number 4 1 call / 16 == 1 then little_number size (drop place call) else number place size call

-- The activity of a call: 16 octets, as they are with the highest octet first.
abbrev pub activity_of : List ℕ → List ℕ
activity_of call = if number 4 1 call / 16 == 1 then turned (part 40 16 call) else part 40 16 call

-- What names a call: its sequence number and its activity.
abbrev pub called : List ℕ → List ℕ
called call = in_order 64 4 call ∷ activity_of call

-- Whether the counts of a call's blocks are right: Offset 92 is 0, ActualCount 96 equals ArgsLength, and the length of the
-- body 74 counts them all.
abbrev pub is_counted : List ℕ → Bool
is_counted call = in_order 92 4 call == 0 && in_order 84 4 call == in_order 96 4 call && nat_le (20 + in_order 84 4 call) (in_order 74 2 call)

-- The blocks of a call.
abbrev pub args_of : List ℕ → List ℕ
args_of call = part 100 (in_order 84 4 call) call

-- ---- records (IEC 61158-6-10, 5.2.3): a header of 64 octets, with slot and subslot 28, index 34, RecordDataLength 36; and the
-- octets of the record, of which I&M1 to I&M4 have 6 before the text

-- The command of a record: I&M1 to I&M4 of slot 0, subslot 1.
abbrev pub text_in : List ℕ → Option Command
text_in record_octets =
    let text = part 70 (number 36 4 record_octets - 6) record_octets in
    let index = number 34 2 record_octets in
    if not (number 28 4 record_octets == 1) then None
    else if index == 0xAFF1 then Some (SetIm (Im1 text))
    else if index == 0xAFF2 then Some (SetIm (Im2 text))
    else if index == 0xAFF3 then Some (SetIm (Im3 text))
    else if index == 0xAFF4 then Some (SetIm (Im4 text))
    else None

-- Records one after another, each at a place that is a multiple of 4.
abbrev pub texts_in : ℕ → List ℕ → List (Option Command)
texts_in (suc most) (first ∷ behind) =
    let octets = first ∷ behind in
    text_in octets ∷ texts_in most (drop (64 + (number 36 4 octets + 3) / 4 * 4) octets)
texts_in most octets = []

-- What the blocks of a Write ask for: one record, or the header of a list (index 0xE040), which asks for nothing, and the
-- records of the list.
abbrev pub written_by : List ℕ → List (Option Command)
written_by blocks = if number 34 2 blocks == 0xE040 then None ∷ texts_in 16 (drop 64 blocks) else text_in blocks ∷ []

-- PNIOStatus of answered records, each in a header of 64 octets.
abbrev pub statuses_in : ℕ → List ℕ → List ℕ
statuses_in (suc most) (first ∷ behind) = number 44 4 (first ∷ behind) ∷ statuses_in most (drop 64 (first ∷ behind))
statuses_in most octets = []

-- Whether a frame is a response to a call: version 4 and packet type 2 in a datagram. The octets of the response begin after 14 of Ethernet, 20 of
-- IPv4 and 8 of UDP.
abbrev pub is_response : List ℕ → Bool
is_response frame = number 12 2 frame == 0x0800 && number 0 2 (drop 42 frame) == 0x0402

-- The statuses with which a frame answers a call: of the call, and of each record of a list; none if it is no answer to it.
abbrev pub statuses : List ℕ → List ℕ → List ℕ
statuses call frame =
    if is_response frame && pointwise nat_eq (called (drop 42 frame)) (called call)
    then number 80 4 (drop 42 frame) ∷ statuses_in 16 (drop 64 (args_of (drop 42 frame))) else []

-- ---- events

-- What asks something of a device: a Set, a call, or nothing that could change its settings.
pub data Asking : Type 0 where
  Set : (frame : List ℕ) → Asking
  Call : (call : List ℕ) → Asking
  Nothing : Asking

-- A frame without its VLAN tag.
abbrev pub untagged : List ℕ → List ℕ
untagged frame = if number 12 2 frame == 0x8100 then take 12 frame ++ drop 16 frame else frame

-- What octets ask of a device that are the body of a datagram: a call, if they are a request of DCE/RPC (version 4, packet
-- type 0).
abbrev pub calling : List ℕ → Asking
calling call = if number 0 2 call == 0x0400 then Call call else Nothing

-- What a frame without a tag asks of the device with this MAC address: a Set of DCP, a call, or nothing.
abbrev pub asking_in : Mac → List ℕ → Asking
asking_in mac frame =
    if not (pointwise nat_eq (take 6 frame) mac.octets) then Nothing
    else if is_dcp 0xFEFD 4 0 frame then Set frame
    else if number 12 2 frame == 0x0800 then calling (drop 42 frame)
    else Nothing

-- Of the frames those to this station, and the calls that were joined of fragments.
abbrev pub asking_of : Mac → Event → Asking
asking_of mac (Frame frame) = asking_in mac (untagged frame.items)
asking_of mac (Joined caller address call) = calling call.items
asking_of mac event = Nothing

-- The command of each block or record.
abbrev pub commands_in : Asking → List (Option Command)
commands_in (Set frame) = map command_in (dcp_blocks frame)
commands_in (Call call) = if in_order 68 2 call == 3 then written_by (args_of call) else []
commands_in Nothing = []

-- The numbers with which a frame answers them.
abbrev pub answers_in : Asking → List ℕ → List ℕ
answers_in (Set set) frame = block_errors set frame
answers_in (Call call) frame = statuses call frame
answers_in Nothing frame = []

-- Each of them, with the number with which the frames that were sent answer it.
abbrev pub fates : Asking → List (List ℕ) → List (Option Command × ℕ)
fates asking sent = zip (commands_in asking) (flat_map (answers_in asking) sent)

-- The commands that are confirmed: 0.
abbrev pub confirmed : Asking → List (List ℕ) → List Command
confirmed asking sent = filter_map (λ one. if one.1 == 0 then one.0 else None) (fates asking sent)

-- The commands that a fault of the device stopped: BlockError 5, or PNIOStatus DF 80 B5 05.
abbrev pub faulted : Asking → List (List ℕ) → List Command
faulted asking sent = filter_map (λ one. if one.1 == 5 || one.1 == 0xDF80B505 then one.0 else None) (fates asking sent)
