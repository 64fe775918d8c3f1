-- PNIOStatus (IEC 61158-6-10, 5.2.6): the result of a call.
use Rattle.std.specs.Prelude.{ℕ}
use Rattle.rpc_core.specs.declared.response.Status.{Status}
use Rattle.records.specs.declared.status.operation.Operation.{Operation}
use Rattle.records.specs.declared.status.call_fault.CallFault.{CallFault}
use Rattle.records.specs.declared.status.call_fault.CallFault.TheVariants as fault
use Rattle.records.specs.status.Operation.{code_of}

-- The call succeeded.
abbrev pub done : Status
done = record { code = 0; decode = 0; code1 = 0; code2 = 0 }

-- ErrorDecode 0x81, PNIO: a field of this kind of block is faulty.
abbrev pub faulty : Operation → ℕ → ℕ → Status
faulty operation kind field = record { code = code_of operation; decode = 0x81; code1 = kind; code2 = field }

-- ErrorDecode 0x81, PNIO, and ErrorCode1 0x40, CMRPC: the form of the call is wrong.
abbrev pub cm_rpc : Operation → ℕ → Status
cm_rpc operation which = faulty operation 0x40 which

-- ErrorDecode 0x80, PNIORW: the record cannot be read or written in this way.
abbrev pub access : Operation → ℕ → ℕ → Status
access operation class which = record { code = code_of operation; decode = 0x80; code1 = class; code2 = which }

-- The status of a call of this operation that is refused for this fault.
unfoldable pub status_of : Operation → CallFault → Status
-- Args length invalid.
status_of operation fault.Arguments = cm_rpc operation 0
status_of operation fault.BlockHeader = cm_rpc operation 0
status_of operation fault.BlockForm = cm_rpc operation 0
-- Unknown blocks.
status_of operation fault.BlockType = cm_rpc operation 1
status_of operation fault.BlockMissing = cm_rpc operation 1
-- IOCR missing.
status_of operation fault.IocrMissing = cm_rpc operation 2
-- Wrong AlarmCRBlock count.
status_of operation fault.AlarmCrMissing = cm_rpc operation 3
status_of operation fault.AlarmCrRepeated = cm_rpc operation 3
-- Out of AR resources.
status_of operation fault.OtherRelationExists = cm_rpc operation 4
status_of operation fault.TooManyModules = cm_rpc operation 4
status_of operation fault.TooManySubmodules = cm_rpc operation 4
-- AR UUID unknown.
status_of operation fault.UnknownRelation = cm_rpc operation 5
status_of operation fault.UnknownSession = cm_rpc operation 5
-- State conflict.
status_of operation fault.RelationExists = cm_rpc operation 6
status_of operation fault.ControlCommand = cm_rpc operation 6
status_of operation fault.Phase = cm_rpc operation 6
-- Faulty ARBlockReq, IOCRBlockReq, ExpectedSubmoduleBlockReq and AlarmCRBlockReq.
status_of operation (fault.ArField field) = faulty operation 1 field
status_of operation (fault.IocrField field) = faulty operation 2 field
status_of operation (fault.ExpectedField field) = faulty operation 3 field
status_of operation (fault.AlarmCrField field) = faulty operation 4 field
-- In an IOCRBlockReq, FrameOffset is field 24, SubslotNumber 23 and NumberOfIODataObjects 21.
status_of operation fault.LayoutOutside = faulty operation 2 24
status_of operation fault.LayoutOverlap = faulty operation 2 24
status_of operation fault.LayoutUnknown = faulty operation 2 23
status_of operation fault.LayoutMissing = faulty operation 2 21
-- Invalid index, write length error, invalid slot or subslot, invalid area, state conflict, access denied.
status_of operation fault.Index = access operation 0xB0 0
status_of operation fault.WriteLength = access operation 0xB1 0
status_of operation fault.Place = access operation 0xB2 0
status_of operation fault.Api = access operation 0xB4 0
status_of operation fault.JournalExhausted = access operation 0xB5 4
status_of operation fault.FlashFault = access operation 0xB5 5
status_of operation fault.TooManyRecords = access operation 0xB5 6
status_of operation fault.Access = access operation 0xB6 0
