-- Read: a record is read within a relation. Read Implicit: a record is read by anybody.
use Rattle.std.specs.Prelude.{ℕ, true, false, List, Result}
use Rattle.pn_values.specs.declared.identity.Identity.{Identity}
use Rattle.pn_values.specs.declared.real.Real.{Real}
use Rattle.pn_values.specs.declared.settings.Settings.{Settings}
use Rattle.wire.specs.Codec.{◌>>=◌}
use Rattle.im_records.specs.Records.{record_of}
use Rattle.records.specs.declared.status.call_fault.CallFault.{CallFault}
use Rattle.records.specs.reads.Handled.{request_of}
use Rattle.records.specs.reads.Listing.{served}
use Rattle.records.specs.reads.Within.{record_within, request_within}
use Rattle.relations.specs.Phases.{differing_in}
use Rattle.relations.specs.RelationState.{uuid_of}
use Rattle.device_records.specs.Own.{own_of}
use Rattle.device_records.specs.Sources.{Known}

-- The blocks of the response to a call of a Read, or why it is refused.
unfoldable pub relation_read : Known → Identity → Real → Settings → List ℕ → Result (List ℕ) CallFault
relation_read known identity real settings blocks = request_within (uuid_of known.link) blocks
    >>= λ request. served true real (own_of true known real request) request (record_within (differing_in real.modules.items known.link) request identity real settings)

-- The blocks of the response to a Read Implicit, or why it is refused; ARUUID is ignored.
unfoldable pub implicit_read : Known → Identity → Real → Settings → List ℕ → Result (List ℕ) CallFault
implicit_read known identity real settings blocks = request_of blocks
    >>= λ request. served false real (own_of false known real request) request
    (record_of request.header.index request.header.slot_number request.header.subslot_number identity real settings)
