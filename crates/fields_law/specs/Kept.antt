-- What a device keeps of the blocks of a Connect, by the places of the fields (IEC 61158-6-10, 5.2.4.1, 5.2.4.3, 5.2.4.7).
use Rattle.std.specs.Prelude.{◌≡◌, ℕ, List, length}
use Rattle.connects.specs.declared.requests.parts.AlarmCr.{AlarmCr}
use Rattle.connects.specs.declared.requests.parts.Ar.{Ar}
use Rattle.connects.specs.declared.requests.parts.Iocr.{Iocr}
use Rattle.end_laws.specs.log_data.Reading.{number_at, octets_at}
use Rattle.fields_law.specs.Relation.{rt_class}

-- Of an ARBlockReq: ARUUID, SessionKey, CMInitiatorMacAdd, CMInitiatorObjectUUID, ARProperties, CMInitiatorActivityTimeoutFactor, and the name.
pub record IsKeptRelation (octets : List ℕ) (kept : Ar) : Type 0 where
  pub uuid : octets_at 8 16 octets ≡ kept.uuid
  pub session_key : number_at 24 2 octets ≡ kept.session_key
  pub initiator : octets_at 26 6 octets ≡ kept.initiator.octets
  pub object : octets_at 32 16 octets ≡ kept.object
  pub properties : number_at 48 4 octets ≡ kept.properties
  pub timeout : number_at 52 2 octets ≡ kept.timeout_factor
  pub name : octets_at 58 (length kept.name.items) octets ≡ kept.name.items

-- Of an IOCRBlockReq: IOCRReference, RTClass, SendClockFactor, ReductionRatio, DataHoldFactor (not WatchdogFactor) and IOCRTagHeader.
pub record IsKeptCyclic (octets : List ℕ) (kept : Iocr) : Type 0 where
  pub reference : number_at 8 2 octets ≡ kept.reference
  pub class : number_at 12 4 octets ≡ rt_class kept.class
  pub send_clock_factor : number_at 20 2 octets ≡ kept.send_clock_factor
  pub reduction_ratio : number_at 22 2 octets ≡ kept.reduction_ratio
  pub data_hold_factor : number_at 34 2 octets ≡ kept.data_hold_factor
  pub tag_header : number_at 36 2 octets ≡ kept.tag

-- Of an AlarmCRBlockReq: RTATimeoutFactor, RTARetries, LocalAlarmReference, and the headers of both tags.
pub record IsKeptAlarm (octets : List ℕ) (kept : AlarmCr) : Type 0 where
  pub timeout_factor : number_at 14 2 octets ≡ kept.timeout_factor
  pub retries : number_at 16 2 octets ≡ kept.retries
  pub reference : number_at 18 2 octets ≡ kept.reference
  pub tag_high : number_at 22 2 octets ≡ kept.tag_high
  pub tag_low : number_at 24 2 octets ≡ kept.tag_low
