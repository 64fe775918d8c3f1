-- What a device owes to a call, read at fixed places.
use Rattle.std.specs.Prelude.{◌≡◌, ◌⊎◌, ◌+◌, ◌-◌, ◌/◌, ◌%◌, ◌==◌, ◌&&◌, ℕ, Bool, true, false, flat_map, length, nat_eq, nat_le, nat_lt, List, [], ◌∷◌, drop, take, Some, None, is_some, if◌then◌else◌}
use Rattle.std.specs.Cmp.Lexicographic.{pointwise}
use Rattle.pn_values.specs.IpSuite.{is_zero}
use Rattle.pn_values.specs.declared.mac.Mac.{Mac}
use Rattle.frame_codec.specs.Sum.{ones_sum_of}
use Rattle.rpc_core.specs.Fields.{turned}
use Rattle.rpc_core.specs.Interface.{interface_uuid}
use Rattle.rpc_core.specs.declared.interface.Interface.TheVariants.{Device}
use Rattle.rpc_core.specs.Cache.{Kept, looked, new}
use Rattle.asked_records.specs.Asked.{AskedState, due_in, is_repeat, question_in}
use Rattle.asked_records.specs.Names.{named_at}
use Rattle.asked_records.specs.Questions.{is_implicit}
use Rattle.asked_records.specs.declared.names.RecordName.{RecordName}
use Rattle.asked_records.specs.declared.question.Question.{Question}
use Rattle.relations.specs.declared.options.DeviceOptions.{DeviceOptions}
use Rattle.device_frames.specs.declared.event.Event.{Event}
use Rattle.device_frames.specs.declared.event.Event.TheVariants.{Frame, Call as Joined}
use Rattle.octets_law.specs.Octets.{args_of, called, in_order, is_response, number, part, statuses}

-- An identifier of a call, in the byte order of the call.
abbrev pub identifier : ℕ → List ℕ → List ℕ
identifier place call = if number 4 1 call / 16 == 1 then turned (part place 16 call) else part place 16 call

-- Whether octets are a whole call to a device (C706, 12.5): version 4, packet type 0, no fragment, a known byte order, the interface of devices
-- 24, FragmentNumber 76 and authentication 78 are 0, all octets of the body are there (its length 74), and the counts of the blocks are right.
abbrev pub is_whole_call : List ℕ → Bool
is_whole_call call =
    (number 0 1 call == 4) && (number 1 1 call == 0) && (number 2 1 call / 4 % 2 == 0) && nat_lt (number 4 1 call / 16) 2
    && pointwise nat_eq (identifier 24 call) (interface_uuid Device) && (in_order 76 2 call == 0) && (number 78 1 call == 0)
    && nat_le (80 + in_order 74 2 call) (length call) && nat_le (20 + in_order 84 4 call) (in_order 74 2 call)
    && (in_order 92 4 call == 0) && (in_order 84 4 call == in_order 96 4 call)

-- Whether a frame without a tag is a datagram to the port of calls, 34964: IPv4 with a header of 20 octets and a right checksum, no fragment, UDP
-- without a checksum, and all octets that its lengths 16 and 38 count are there.
abbrev pub is_datagram : List ℕ → Bool
is_datagram frame =
    (number 12 2 frame == 0x0800) && (number 14 1 frame == 0x45) && (number 20 2 frame % 0x4000 == 0) && (number 23 1 frame == 17)
    && (ones_sum_of (part 14 20 frame) == 65535) && (number 36 2 frame == 34964) && (number 40 2 frame == 0) && nat_le 8 (number 38 2 frame)
    && nat_le (20 + number 38 2 frame) (number 16 2 frame) && nat_le (14 + number 16 2 frame) (length frame) && nat_le (length frame) 1514

-- The call that an event has for a device of this MAC address at this IP address: of a frame to both that is a whole datagram, its body; or a call
-- that was joined of fragments.
abbrev pub IsFor : Mac → List ℕ → Event → List ℕ → Type 0
IsFor mac address (Frame frame) call =
    (take 6 frame.items ≡ mac.octets) × (part 30 4 frame.items ≡ address) × (is_datagram frame.items ≡ true) × (call ≡ part 42 (number 38 2 frame.items - 8) frame.items)
IsFor mac address (Joined caller to octets) call = (to ≡ address) × (call ≡ octets.items)
IsFor mac address event call = ⊥

-- Whether the blocks of a Write are one record that one of these names has: slot 28, subslot 30 and index 34 of its header. A list has
-- index 0xE040.
abbrev pub is_named : List RecordName → List ℕ → Bool
is_named named blocks = is_some (named_at (number 28 2 blocks) (number 30 2 blocks) (number 34 2 blocks) named)

-- The frames that are sent at an event answer the call, with a status of its own and those of its records.
abbrev pub AreAnswers : List ℕ → List (List ℕ) → Type 0
AreAnswers call sent = (status : ℕ) × (records : List ℕ) × (flat_map (statuses call) sent ≡ status ∷ records)

-- A call that is asked no longer is refused as busy: one frame answers it, with PNIOStatus DE 80 C2 00.
pub record IsRefused (question : Question) (sent : List (List ℕ)) : Type 0 where
  pub frame : List ℕ
  pub alone : sent ≡ frame ∷ []
  pub is : is_response frame ≡ true
  pub name : called (drop 42 frame) ≡ question.header.sequence ∷ question.header.activity
  pub busy : number 80 4 (drop 42 frame) ≡ 0xDE80C200

-- The call that was asked is displaced, with the option `asks_own_first`: it is a Read Implicit.
pub record IsDisplaced (options : DeviceOptions) (asked : AskedState) (sent : List (List ℕ)) : Type 0 where
  pub own_first : options.asks_own_first ≡ true
  pub question : Question
  pub was : question_in asked ≡ Some question
  pub implicit : is_implicit question.request ≡ true
  pub refused : IsRefused question sent

-- The call is asked of the application now: nothing is sent yet but the refusal of a call that it displaces, and it is refused with the 64,000th
-- unit from now on if it is not answered before.
pub record IsAskedNow (options : DeviceOptions) (call : List ℕ) (before : AskedState) (sent : List (List ℕ)) (asked : AskedState) : Type 0 where
  pub silent : (sent ≡ []) ⊎ IsDisplaced options before sent
  pub asks : is_repeat (identifier 40 call) (in_order 64 4 call) asked ≡ true
  pub due : due_in asked ≡ 64000

-- A Write (operation 3) that is whole, and has the address of a device: its activity has no stored answer to this or a later call, and
-- it is no repeat of the call that the application is asked.
pub record IsNewWrite (mac : Mac) (address : List ℕ) (stored : List Kept) (asked : AskedState) (event : Event) (call : List ℕ) : Type 0 where
  pub for : IsFor mac address event call
  pub address_is : is_zero address ≡ false
  pub whole : is_whole_call call ≡ true
  pub operation : in_order 68 2 call ≡ 3
  pub fresh : looked (identifier 40 call) (in_order 64 4 call) stored ≡ new
  pub once : is_repeat (identifier 40 call) (in_order 64 4 call) asked ≡ false

-- A Read Implicit (operation 5) that is whole, and has the address of a device that does not store the answers to these: it is no repeat of the call
-- that the application is asked.
pub record IsRead (options : DeviceOptions) (mac : Mac) (address : List ℕ) (asked : AskedState) (event : Event) (call : List ℕ) : Type 0 where
  pub not_kept : options.reads_not_kept ≡ true
  pub for : IsFor mac address event call
  pub address_is : is_zero address ≡ false
  pub whole : is_whole_call call ≡ true
  pub operation : in_order 68 2 call ≡ 5
  pub once : is_repeat (identifier 40 call) (in_order 64 4 call) asked ≡ false

-- What a device owes to such a Write: the frames that are sent at the event answer it. One of a record that the station names can also
-- be asked of its application; all others are answered at once, and so are all Writes to a station that names no records, of whose
-- application nothing is asked. To such a Read Implicit it owes an answer whatever was answered before, or it asks its application.
pub record IsOwed (options : DeviceOptions) (mac : Mac) (address : List ℕ) (named : List RecordName) (stored : List Kept) (asked : AskedState) (event : Event)
    (sent : List (List ℕ)) (later : AskedState) : Type 0 where
  pub write : (call : List ℕ) → IsNewWrite mac address stored asked event call → is_named named (args_of call) ≡ false → AreAnswers call sent
  pub named_write : (call : List ℕ) → IsNewWrite mac address stored asked event call → is_named named (args_of call) ≡ true
      → AreAnswers call sent ⊎ IsAskedNow options call asked sent later
  pub read : (call : List ℕ) → IsRead options mac address asked event call → AreAnswers call sent ⊎ IsAskedNow options call asked sent later
  pub unasked : named ≡ [] → question_in asked ≡ None → question_in later ≡ None
