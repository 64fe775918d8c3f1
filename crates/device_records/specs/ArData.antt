-- ARData: the relations of a device, with the last frames of each (IEC 61158-6-10, 5.2.3).
use Rattle.std.specs.Prelude.{◌+◌, ◌-◌, ◌*◌, ◌%◌, ◌++◌, ℕ, List, [], ◌∷◌, length, nat_lt, replicate, Option, Some, None, if◌then◌else◌}
use Rattle.wire.specs.Formats.{big_bytes}
use Rattle.connect_blocks.specs.Iocr.{number_of_class}
use Rattle.connects.specs.declared.requests.parts.Iocr.{Iocr}
use Rattle.connects.specs.requests.Request.{Request}
use Rattle.cyclic_data.specs.declared.status.StationState.{StationState}
use Rattle.cyclic_data.specs.declared.tail.CyclicTail.{CyclicTail}
use Rattle.cyclic_data.specs.Tail.{cyclic_tail}
use Rattle.cyclic_data.specs.declared.exchange.route.Route.{Route}
use Rattle.cyclic_data.specs.exchange.Cyclic.{Cyclic}
use Rattle.cyclic_data.specs.exchange.Frames.{tail_at}
use Rattle.cyclic_data.specs.exchange.Process.{taken_tail}
use Rattle.device_records.specs.Elements.{block_of}

-- CycleCounter of the last frame of inputs, if one was sent: they are sent each interval, counted from the answer to the
-- Connect, and CycleCounter is the units since the start of the device, modulo 65,536.
abbrev pub last_sent : ℕ → ℕ → ℕ → Option ℕ
last_sent began units interval =
    if nat_lt (units - began) interval then None else Some ((units - (units - began) % interval) % 65536)

-- The fields after its data, zeros before the first one. DataStatus is that of the frame: what it said of the station.
abbrev pub sent_tail : Option ℕ → StationState → CyclicTail
sent_tail (Some counter) state_sent = tail_at state_sent counter
sent_tail None state_sent = record { counter = 0; data_status = record { 0 = 0 }; transfer_status = 0 }

-- A communication relation of cyclic frames: IOCRType, IOCRProperties, FrameID, CycleCounter, DataStatus and TransferStatus of
-- the last frame, and the UDP ports of both stations, 0x8892.
abbrev pub iocr_bytes : ℕ → Iocr → ℕ → CyclicTail → List ℕ
iocr_bytes type iocr frame_id tail = big_bytes 2 type ++ big_bytes 4 (number_of_class iocr.class) ++ big_bytes 2 frame_id
    ++ cyclic_tail.write tail [] ++ 0x88 ∷ 0x92 ∷ 0x88 ∷ 0x92 ∷ []

-- Both, in the order in which they were asked for, with the FrameIDs of this route.
abbrev pub iocrs_bytes : Request → Route → CyclicTail → CyclicTail → List ℕ
iocrs_bytes request route sent taken = if request.input_first
    then iocr_bytes 1 request.input route.sent_id sent ++ iocr_bytes 2 request.output route.taken_id taken
    else iocr_bytes 2 request.output route.taken_id taken ++ iocr_bytes 1 request.input route.sent_id sent

-- ARUUID, ARType 1, ARProperties, CMInitiatorObjectUUID, StationNameLength and CMInitiatorStationName.
abbrev pub ar_bytes : Request → List ℕ
ar_bytes request = request.ar.uuid ++ big_bytes 2 1 ++ big_bytes 4 request.ar.properties ++ request.ar.object
    ++ big_bytes 2 (length request.ar.name.items) ++ request.ar.name.items

-- AlarmCRType 1, the endpoints of alarms of the device and of the controller, ParameterServerObjectUUID and
-- ParameterServerStationName, which are empty, NumberOfAPIs 1, and API 0.
abbrev pub alarm_bytes : Request → ℕ → List ℕ
alarm_bytes request endpoint =
    big_bytes 2 1 ++ big_bytes 2 endpoint ++ big_bytes 2 request.alarm.reference ++ replicate 18 0 ++ 0 ∷ 1 ∷ 0 ∷ 0 ∷ 0 ∷ 0 ∷ []

-- The relation with this Connect, this cyclic data, this beginning, and this endpoint of the device: NumberOfIOCRs 2.
abbrev pub relation_bytes : ℕ → Request → Cyclic → ℕ → StationState → ℕ → List ℕ
relation_bytes units request cyclic began state_sent endpoint = ar_bytes request ++ big_bytes 2 2
    ++ iocrs_bytes request cyclic.route (sent_tail (last_sent began units (request.input.send_clock_factor * request.input.reduction_ratio)) state_sent) (taken_tail cyclic)
    ++ alarm_bytes request endpoint

-- ARData, of version 1.0: NumberOfARs, and the relation, if there is one, which has 104 octets and its station name.
unfoldable pub ar_data : ℕ → Option (Request × Cyclic × ℕ × StationState × ℕ) → List ℕ
ar_data units None = block_of 0x0018 (big_bytes 2 0)
ar_data units (Some parts) = big_bytes 2 0x0018 ++ big_bytes 2 (2 + (2 + (104 + length parts.0.ar.name.items))) ++ 1 ∷ 0 ∷ 0 ∷ 1
    ∷ relation_bytes units parts.0 parts.1 parts.2 parts.3 parts.4
