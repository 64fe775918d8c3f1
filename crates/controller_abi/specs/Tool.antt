-- What a host asks of a tool, and what it finds afterwards. `asked` is the operation as the host wrote it, `reported` as the
-- host finds it. A refused operation changes nothing.
use Rattle.std.specs.Prelude.{◌≡◌, ◌+◌, ◌*◌, ◌==◌, ◌||◌, nat_lt, ℕ, zero, suc, Bool, true, false, List, [], length, Option, Some, None, Result, Ok, Err, if◌then◌else◌}
use Rattle.rpc_core.specs.declared.response.Status.{Status}
use Rattle.station_names.specs.Valid.{is_station_name}
use Rattle.plans.specs.declared.parts.Controller.{Controller}
use Rattle.c_layout.specs.declared.op.Op.{Op}
use Rattle.c_layout.specs.Reported.{with_octets}
use Rattle.commissioning.specs.declared.naming.Unnamed.{Unnamed}
use Rattle.commissioning.specs.declared.naming.Unnamed.TheVariants as why
use Rattle.commissioning.specs.declared.record.RecordPlace.{RecordPlace}
use Rattle.commissioning.specs.declared.record.Target.{Target}
use Rattle.commissioning.specs.Asked.{IsHeardAs, alias_asked, identify_multicast, name_asked}
use Rattle.commissioning.specs.Named.{why_unnamed}
use Rattle.commissioning.specs.declared.search.Search.{Search}
use Rattle.commissioning.specs.Place.{IsTidy, Place, Nobody, One, place_of}
use Rattle.commissioning.specs.Record.{IsCallTo, read_asked}
use Rattle.controller_abi.specs.declared.reading.WrittenTarget.{WrittenTarget}
use Rattle.controller_abi.specs.declared.tool.WrittenTool.{WrittenTool}

-- The tool as a controller without a name.
abbrev pub tool_in : WrittenTool → Controller
tool_in written = record { name = []; mac = record { octets = written.mac }; address = written.address }

-- The station that a tool reads from, as C wrote it.
abbrev pub target_in : WrittenTarget → Target
target_in written = record { mac = record { octets = written.mac }; address = written.address; vendor_id = written.vendor_id; device_id = written.device_id }

-- The number of the request after one with this number: the numbers of 32 bits, one after another, and then again from 0 on.
abbrev pub next_number : ℕ → ℕ
next_number xid = if xid == 4294967295 then 0 else xid + 1

-- The number after this many more requests.
abbrev pub number_after : ℕ → ℕ → ℕ
number_after zero number = number
number_after (suc more) number = number_after more (next_number number)

-- The tool after one more request.
abbrev pub further : WrittenTool → WrittenTool
further written = record written { xid = next_number written.xid }

-- ---- who is at a place

-- The frame that asks which station has this name by its place, with the tool's next number. The search begins: nobody answered yet, and only
-- answers with that number will count.
pub record IsFound (written : WrittenTool) (alias : List ℕ) (asked : Op) (answer : ℕ) (next : WrittenTool) (search : Search) (reported : Op) : Type 0 where
  pub answered : answer ≡ 0
  pub counted : next ≡ further written
  pub frame : List ℕ
  pub handed : reported ≡ with_octets frame asked
  pub asks : IsHeardAs frame (record { octets = written.mac }) identify_multicast (alias_asked next.xid alias)
  pub number : search.xid ≡ next.xid
  pub place : place_of search ≡ Nobody
  pub tidy : IsTidy search

-- What a search begins with, or that its name is no name by a place.
abbrev pub IsFindIf : Bool → WrittenTool → Search → List ℕ → Op → ℕ → WrittenTool → Search → Op → Type 0
IsFindIf true written search alias asked answer next begun reported = (answer ≡ 8) × (next ≡ written) × (begun ≡ search) × (reported ≡ asked)
IsFindIf false written search alias asked answer next begun reported = IsFound written alias asked answer next begun reported

-- 8 for a name that is empty or has more than 511 octets.
abbrev pub IsFind : WrittenTool → Search → List ℕ → Op → ℕ → WrittenTool → Search → Op → Type 0
IsFind written search alias asked answer next begun reported =
    IsFindIf (length alias == 0 || nat_lt 511 (length alias)) written search alias asked answer next begun reported

-- ---- the name for it

-- Why no station gets a name: nobody answered, more than one, it has a name, or it does not tell.
abbrev pub why_number : Unnamed → ℕ
why_number why.Nobody = 28
why_number why.Several = 29
why_number why.Named = 30
why_number why.Untold = 31

-- The frame that gives the name to the only station that answered, with the tool's next number.
pub record IsGiven (written : WrittenTool) (place : Place) (text : List ℕ) (asked : Op) (answer : ℕ) (next : WrittenTool) (reported : Op) : Type 0 where
  pub answered : answer ≡ 0
  pub counted : next ≡ further written
  pub station : List ℕ
  pub alone : place ≡ One station (Some [])
  pub frame : List ℕ
  pub handed : reported ≡ with_octets frame asked
  pub sets : IsHeardAs frame (record { octets = written.mac }) (record { octets = station }) (name_asked next.xid text)

-- What the Set of a name does, if a search found one nameless station; else why not.
abbrev pub IsNamed : Option Unnamed → WrittenTool → Place → List ℕ → Op → ℕ → WrittenTool → Op → Type 0
IsNamed None written place text asked answer next reported = IsGiven written place text asked answer next reported
IsNamed (Some why) written place text asked answer next reported = (answer ≡ why_number why) × (next ≡ written) × (reported ≡ asked)

-- What the Set of a name does if the text is a station name.
abbrev pub IsNameIf : Bool → WrittenTool → Place → List ℕ → Op → ℕ → WrittenTool → Op → Type 0
IsNameIf true written place text asked answer next reported = IsNamed (why_unnamed place) written place text asked answer next reported
IsNameIf false written place text asked answer next reported = (answer ≡ 41) × (next ≡ written) × (reported ≡ asked)

-- 41 for a text that is no station name.
abbrev pub IsName : WrittenTool → Place → List ℕ → Op → ℕ → WrittenTool → Op → Type 0
IsName written place text asked answer next reported = IsNameIf (is_station_name text) written place text asked answer next reported

-- What the station answered: its BlockError; 27 if the frame is no answer of it.
abbrev pub IsOutcome : Option ℕ → Op → ℕ → Op → Type 0
IsOutcome (Some error) asked answer reported = (answer ≡ 0) × (reported ≡ record asked { block_error = error })
IsOutcome None asked answer reported = (answer ≡ 27) × (reported ≡ asked)

-- ---- records

-- The index of a record, if it is a number of 16 bits.
abbrev pub index_in : ℕ → Option ℕ
index_in index = if nat_lt index 65536 then Some index else None

-- The frame that reads this record of the station.
pub record IsReadAt (place : RecordPlace) (written : WrittenTool) (target : WrittenTarget) (activity : List ℕ) (asked reported : Op) : Type 0 where
  pub frame : List ℕ
  pub handed : reported ≡ with_octets frame asked
  pub asks : IsCallTo frame (tool_in written) (target_in target) (read_asked (target_in target) activity place)

-- 9 if the slot, the subslot or the index is no number of 16 bits.
abbrev pub IsRead : Option (ℕ × ℕ) → Option ℕ → WrittenTool → WrittenTarget → List ℕ → Op → ℕ → Op → Type 0
IsRead (Some place) (Some index) written target activity asked answer reported =
    (answer ≡ 0) × IsReadAt (record { slot = place.0; subslot = place.1; index = index }) written target activity asked reported
IsRead (Some place) None written target activity asked answer reported = (answer ≡ 9) × (reported ≡ asked)
IsRead None index written target activity asked answer reported = (answer ≡ 9) × (reported ≡ asked)

-- A status as a number: its first octet is the highest.
abbrev pub status_number : Status → ℕ
status_number status = ((status.code * 256 + status.decode) * 256 + status.code1) * 256 + status.code2

-- The record, or the status with which it was refused.
abbrev pub with_record : Result (List ℕ) Status → Op → Op
with_record (Ok octets) asked = with_octets octets (record asked { status = 0 })
with_record (Err status) asked = record asked { status = status_number status }

-- What the station answered; 27 if the frame is no answer to this read.
abbrev pub IsRecord : Option (Result (List ℕ) Status) → Op → ℕ → Op → Type 0
IsRecord (Some told) asked answer reported = (answer ≡ 0) × (reported ≡ with_record told asked)
IsRecord None asked answer reported = (answer ≡ 27) × (reported ≡ asked)
