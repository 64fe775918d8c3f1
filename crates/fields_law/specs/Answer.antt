-- The blocks of the answer to a Connect as a reader finds them (IEC 61158-6-10, 5.2.4.2, 5.2.4.4, 5.2.4.8).
use Rattle.std.specs.Prelude.{◌≡◌, ◌+◌, ◌<◌, ℕ, List, drop, length, if◌then◌else◌}
use Rattle.pn_values.specs.declared.mac.Mac.{Mac}
use Rattle.connect_blocks.specs.declared.iocr.RtClass.{RtClass}
use Rattle.connect_blocks.specs.declared.iocr.RtClass.TheVariants.{Class1, Class2}
use Rattle.connects.specs.declared.requests.parts.Iocr.{Iocr}
use Rattle.connects.specs.requests.Request.{Request}
use Rattle.end_laws.specs.log_data.Reading.{number_at, octets_at}
use Rattle.fields_law.specs.Port.{IsBlock}

-- ARBlockRes, BlockType 0x8101: ARType 1, ARUUID and SessionKey of the Connect, CMResponderMacAdd, CMResponderUDPRTPort 0x8892.
pub record IsRelationAnswer (octets : List ℕ) (request : Request) (own : Mac) : Type 0 where
  pub block : IsBlock octets 0x8101
  pub ar_type : number_at 6 2 octets ≡ 1
  pub ar_uuid : octets_at 8 16 octets ≡ request.ar.uuid
  pub session_key : number_at 24 2 octets ≡ request.ar.session_key
  pub mac : octets_at 26 6 octets ≡ own.octets
  pub port : number_at 32 2 octets ≡ 0x8892

-- IOCRBlockRes, BlockType 0x8102: IOCRType, IOCRReference, FrameID.
pub record IsCyclicAnswer (octets : List ℕ) (type_of : ℕ) (asked : Iocr) (frame_id : ℕ) : Type 0 where
  pub block : IsBlock octets 0x8102
  pub type_is : number_at 6 2 octets ≡ type_of
  pub reference : number_at 8 2 octets ≡ asked.reference
  pub id_is : number_at 10 2 octets ≡ frame_id

-- AlarmCRBlockRes, BlockType 0x8103: AlarmCRType 1, LocalAlarmReference of the device, MaxAlarmDataLength 200.
pub record IsAlarmAnswer (octets : List ℕ) (endpoint : ℕ) : Type 0 where
  pub block : IsBlock octets 0x8103
  pub type_is : number_at 6 2 octets ≡ 1
  pub reference : number_at 8 2 octets ≡ endpoint
  pub data_length : number_at 10 2 octets ≡ 200

-- The first FrameID of a class, and the FrameID of outputs in a relation with this number: the one that was asked for, unless the choice was left to the
-- device.
abbrev pub first_id : RtClass → ℕ
first_id Class1 = 0xC000
first_id Class2 = 0x8000

-- The FrameID of outputs.
abbrev pub outputs_id : ℕ → Iocr → ℕ
outputs_id number asked = if asked.device_chooses then first_id asked.class + number else asked.frame_id

-- The whole answer in a relation with this number: the relation, inputs and outputs in the order of the Connect, alarms with the endpoint after the
-- number, and from place 70 on the ModuleDiffBlock, if there is one.
pub record IsConnectAnswer (octets : List ℕ) (request : Request) (own : Mac) (number : ℕ) (differing : List ℕ) : Type 0 where
  pub relation : IsRelationAnswer (octets_at 0 34 octets) request own
  pub inputs : IsCyclicAnswer (octets_at (if request.input_first then 34 else 46) 12 octets) 1 request.input request.input.frame_id
  pub outputs : IsCyclicAnswer (octets_at (if request.input_first then 46 else 34) 12 octets) 2 request.output (outputs_id number request.output)
  pub alarms : IsAlarmAnswer (octets_at 58 12 octets) (number + 1)
  pub differing_is : drop 70 octets ≡ differing

-- The fields of a Connect, and the numbers of the device, have their sizes.
pub record IsSizedAnswer (request : Request) (own : Mac) (number : ℕ) : Type 0 where
  pub ar_uuid : length request.ar.uuid ≡ 16
  pub session_key : request.ar.session_key < 65536
  pub mac : length own.octets ≡ 6
  pub input_reference : request.input.reference < 65536
  pub input_id : request.input.frame_id < 65536
  pub output_reference : request.output.reference < 65536
  pub output_id : request.output.frame_id < 65536
  pub number_fits : number < 14336
