-- No status of a fault is that of a call that succeeded, because its ErrorCode is not 0.
use Rattle.std.proofs.Common.{◌≡◌, false, refl}
use Rattle.rpc_core.specs.declared.response.Status.{Status}
use Rattle.rpc_core.specs.Response.{is_done}
use Rattle.records.specs.declared.status.call_fault.CallFault.{CallFault}
use Rattle.records.specs.declared.status.call_fault.CallFault.TheVariants as fault
use Rattle.records.specs.declared.status.operation.Operation.{Operation}
use Rattle.records.specs.declared.status.operation.Operation.TheVariants.{Connect, Release, Read, Write, Control, ReadImplicit}
use Rattle.records.specs.status.Operation.{code_of}
use Rattle.records.specs.status.Status.{status_of}

-- The ErrorCode is that of the operation.
coded : (operation : Operation) (why : CallFault) → (status_of operation why).code ≡ code_of operation
unfolding status_of
coded operation fault.Arguments = refl
coded operation fault.BlockHeader = refl
coded operation fault.BlockForm = refl
coded operation fault.BlockType = refl
coded operation fault.BlockMissing = refl
coded operation fault.IocrMissing = refl
coded operation fault.AlarmCrMissing = refl
coded operation fault.AlarmCrRepeated = refl
coded operation fault.OtherRelationExists = refl
coded operation fault.TooManyModules = refl
coded operation fault.TooManySubmodules = refl
coded operation fault.UnknownRelation = refl
coded operation fault.UnknownSession = refl
coded operation fault.RelationExists = refl
coded operation fault.ControlCommand = refl
coded operation fault.Phase = refl
coded operation (fault.ArField field) = refl
coded operation (fault.IocrField field) = refl
coded operation (fault.ExpectedField field) = refl
coded operation (fault.AlarmCrField field) = refl
coded operation fault.LayoutOutside = refl
coded operation fault.LayoutOverlap = refl
coded operation fault.LayoutUnknown = refl
coded operation fault.LayoutMissing = refl
coded operation fault.Index = refl
coded operation fault.WriteLength = refl
coded operation fault.Place = refl
coded operation fault.Api = refl
coded operation fault.JournalExhausted = refl
coded operation fault.FlashFault = refl
coded operation fault.TooManyRecords = refl
coded operation fault.Access = refl

-- A status whose ErrorCode is that of an operation is not the status of success.
failed : (status : Status) (operation : Operation) → status.code ≡ code_of operation → is_done status ≡ false
failed status Connect e = rw e refl
failed status Release e = rw e refl
failed status Read e = rw e refl
failed status Write e = rw e refl
failed status Control e = rw e refl
failed status ReadImplicit e = rw e refl

pub not_done : (operation : Operation) (why : CallFault) → is_done (status_of operation why) ≡ false
not_done operation why = failed (status_of operation why) operation (coded operation why)
