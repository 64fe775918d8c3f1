-- A Connect to a device with options.
use Rattle.std.proofs.Common.{◌≡◌, ℕ, Bool, true, false, cond, List, Option, Result, Ok, Err}
use Rattle.records.specs.declared.status.call_fault.CallFault.{CallFault}
use Rattle.records.specs.declared.status.call_fault.CallFault.TheVariants as fault
use Rattle.connects.specs.requests.Pieces.{pieces_of}
use Rattle.connects.specs.requests.Request.{Request}
use Rattle.connects.specs.requests.Handled.{any_short, request_within}
use Rattle.pn_values.specs.declared.mac.Mac.{Mac}
use Rattle.relations.specs.declared.options.DeviceOptions.{DeviceOptions}
use Rattle.relations.specs.RelationState.{RelationState, uuid_of}
use Rattle.relations.specs.Connect.{connect_of, connect_within, is_foreign}

-- one that is accepted is accepted without the smallest interval, and asks for the same
unlimited_as : (short : Bool) (read : Result Request CallFault) (request : Request) → cond short (Err (fault.IocrField 10)) read ≡ Ok request → read ≡ Ok request
unlimited_as true read request e = absurd cc
unlimited_as false read request e = e

-- nor does it matter who sent it
own_as : (foreign : Bool) (read : Result Request CallFault) (request : Request) → cond foreign (Err (fault.ArField 7)) read ≡ Ok request → read ≡ Ok request
own_as true read request e = absurd cc
own_as false read request e = e

pub unlimited : (options : DeviceOptions) (source : Mac) (link : Option RelationState) (blocks : List ℕ) (request : Request) → connect_within options source link blocks ≡ Ok request
    → connect_of link blocks ≡ Ok request
unfolding request_within
unlimited options source link blocks request e =
    let read = own_as (is_foreign options source link blocks) (request_within options.smallest_interval (uuid_of link) blocks) request e in
    unlimited_as (any_short options.smallest_interval (uuid_of link) (pieces_of blocks)) (connect_of link blocks) request read
