-- ARData as a reader finds it (IEC 61158-6-10, 5.2.3).
use Rattle.std.specs.Prelude.{◌≡◌, ◌+◌, ◌^◌, ◌<◌, ◌≤◌, ℕ, List, [], ◌∷◌, drop, length, replicate, if◌then◌else◌}
use Rattle.connect_blocks.specs.declared.iocr.RtClass.{RtClass}
use Rattle.connect_blocks.specs.declared.iocr.RtClass.TheVariants.{Class1, Class2}
use Rattle.connects.specs.declared.requests.parts.Iocr.{Iocr}
use Rattle.connects.specs.requests.Request.{Request}
use Rattle.cyclic_data.specs.declared.exchange.route.Route.{Route}
use Rattle.cyclic_data.specs.declared.tail.CyclicTail.{CyclicTail}
use Rattle.end_laws.specs.log_data.Reading.{number_at, octets_at}

-- RT_CLASS_1 and RT_CLASS_2 in IOCRProperties.RTClass.
abbrev pub rt_class : RtClass → ℕ
rt_class Class1 = 1
rt_class Class2 = 2

-- A communication relation: IOCRType, IOCRProperties, FrameID; CycleCounter, DataStatus and TransferStatus of its last frame; CMInitiatorUDPRTPort and
-- CMResponderUDPRTPort.
pub record IsIocr (octets : List ℕ) (type_of : ℕ) (iocr : Iocr) (frame_id : ℕ) (tail : CyclicTail) : Type 0 where
  pub type_is : number_at 0 2 octets ≡ type_of
  pub properties : number_at 2 4 octets ≡ rt_class iocr.class
  pub id_is : number_at 6 2 octets ≡ frame_id
  pub cycle_counter : number_at 8 2 octets ≡ tail.counter
  pub data_status : number_at 10 1 octets ≡ tail.data_status.0
  pub transfer_status : number_at 11 1 octets ≡ tail.transfer_status
  pub initiator_port : number_at 12 2 octets ≡ 0x8892
  pub responder_port : number_at 14 2 octets ≡ 0x8892

-- NumberOfIOCRs 2, and the input (IOCRType 1) and the output (2) in the order of the Connect, with the FrameIDs of the exchange; AlarmCRType 1,
-- LocalAlarmReference of the device, RemoteAlarmReference of the controller; ParameterServerObjectUUID 0, its StationNameLength 0; NumberOfAPIs 1, API 0.
pub record AreRelations (octets : List ℕ) (request : Request) (route : Route) (sent taken : CyclicTail) (endpoint : ℕ) : Type 0 where
  pub iocrs : number_at 0 2 octets ≡ 2
  pub input : IsIocr (drop (if request.input_first then 2 else 18) octets) 1 request.input route.sent_id sent
  pub output : IsIocr (drop (if request.input_first then 18 else 2) octets) 2 request.output route.taken_id taken
  pub alarm_type : number_at 34 2 octets ≡ 1
  pub local_reference : number_at 36 2 octets ≡ endpoint
  pub remote_reference : number_at 38 2 octets ≡ request.alarm.reference
  pub parameter_server : octets_at 40 16 octets ≡ replicate 16 0
  pub parameter_server_name : number_at 56 2 octets ≡ 0
  pub apis : number_at 58 2 octets ≡ 1
  pub api : number_at 60 4 octets ≡ 0
  pub end : length octets ≡ 64

-- ARData of version 1.0: BlockType 0x0018; BlockLength, which counts what follows it; NumberOfARs 1; ARUUID, ARType 1 (IOCARSingle), ARProperties,
-- CMInitiatorObjectUUID, and CMInitiatorStationName after its length.
pub record IsArData (octets : List ℕ) (request : Request) (route : Route) (sent taken : CyclicTail) (endpoint : ℕ) : Type 0 where
  pub kind : number_at 0 2 octets ≡ 0x0018
  pub size : number_at 2 2 octets + 4 ≡ length octets
  pub version : octets_at 4 2 octets ≡ 1 ∷ 0 ∷ []
  pub count : number_at 6 2 octets ≡ 1
  pub uuid : octets_at 8 16 octets ≡ request.ar.uuid
  pub type_is : number_at 24 2 octets ≡ 1
  pub properties : number_at 26 4 octets ≡ request.ar.properties
  pub object : octets_at 30 16 octets ≡ request.ar.object
  pub name_length : number_at 46 2 octets ≡ length request.ar.name.items
  pub name : octets_at 48 (length request.ar.name.items) octets ≡ request.ar.name.items
  pub relations : AreRelations (drop (48 + length request.ar.name.items) octets) request route sent taken endpoint

-- ARData of a device without a relation: NumberOfARs 0.
pub record IsEmptyArData (octets : List ℕ) : Type 0 where
  pub kind : number_at 0 2 octets ≡ 0x0018
  pub size : number_at 2 2 octets + 4 ≡ length octets
  pub version : octets_at 4 2 octets ≡ 1 ∷ 0 ∷ []
  pub count : number_at 6 2 octets ≡ 0

-- The fields of a Connect have their sizes.
pub record IsRequest (request : Request) : Type 0 where
  pub uuid : length request.ar.uuid ≡ 16
  pub properties : request.ar.properties < 256 ^ 4
  pub object : length request.ar.object ≡ 16
  pub name : length request.ar.name.items ≤ 240
  pub alarm : request.alarm.reference < 65536

-- So have the FrameIDs of the exchange, and the endpoint of the device.
pub record AreNumbers (route : Route) (endpoint : ℕ) : Type 0 where
  pub sent : route.sent_id < 65536
  pub taken : route.taken_id < 65536
  pub endpoint_fits : endpoint < 65536

-- The fields after the data of a cyclic frame have their sizes.
pub record IsTail (tail : CyclicTail) : Type 0 where
  pub counter : tail.counter < 65536
  pub data_status : tail.data_status.0 < 256
  pub transfer_status : tail.transfer_status < 256
