-- Read: a record is read within a relation.
use Rattle.std.specs.Prelude.{ℕ, Bool, false, List, Option, Some, Result, Ok, Err, if◌then◌else◌}
use Rattle.pn_values.specs.declared.identity.Identity.{Identity}
use Rattle.pn_values.specs.declared.real.Real.{Real}
use Rattle.pn_values.specs.declared.settings.Settings.{Settings}
use Rattle.wire.specs.Codec.{◌>>=◌}
use Rattle.record_blocks.specs.declared.read_record.IodReadReq.{IodReadReq}
use Rattle.im_records.specs.Indices.{is_module_diff, record_with}
use Rattle.im_records.specs.Records.{record_of}
use Rattle.records.specs.declared.status.call_fault.CallFault.{CallFault}
use Rattle.records.specs.calls.Naming.{in_relation, is_relation}
use Rattle.records.specs.reads.Handled.{request_of}

-- The record that a request names if the ModuleDiffBlock of the relation is `differing`: that block exists at each place,
-- and the other records are those of a Read Implicit.
abbrev pub record_within : List ℕ → IodReadReq → Identity → Real → Settings → Option (List ℕ)
record_within differing request identity real settings =
    if is_module_diff (record_with request.header.index) then Some differing
    else record_of request.header.index request.header.slot_number request.header.subslot_number identity real settings

-- The IODReadReqHeader of a call while this relation is active; ARUUID is checked directly after the block.
unfoldable pub request_within : Option (List ℕ) → List ℕ → Result IodReadReq CallFault
request_within standing blocks = request_of blocks >>= λ request. in_relation standing request.header.ar_uuid >>= λ _. Ok request

-- Whether the IODReadReqHeader of a call names the active relation.
abbrev pub is_named : Option (List ℕ) → Result IodReadReq CallFault → Bool
is_named standing (Ok request) = is_relation standing request.header.ar_uuid
is_named standing (Err _) = false

-- Whether the octets of a Read name the active relation.
unfoldable pub names_relation : Option (List ℕ) → List ℕ → Bool
names_relation standing blocks = is_named standing (request_of blocks)
