-- The entry of a lookup's answer, and the answers that have one or none (C706, appendices L and O).
use Rattle.std.specs.Prelude.{ℕ, Bool, List, [], ◌∷◌, ◌++◌}
use Rattle.std.specs.Int.{w16, to_be_bytes}
use Rattle.pn_values.specs.declared.identity.Identity.{Identity}
use Rattle.rpc_core.specs.call_headers.Call.{in_order}
use Rattle.rpc_core.specs.call_headers.Unserved.{sent_uuid}
use Rattle.rpc_services.specs.endpoint_mapper.Annotation.{annotation}
use Rattle.rpc_services.specs.endpoint_mapper.Lookup.{no_handle}

-- a number of four octets in the caller's byte order
abbrev pub long : Bool → ℕ → List ℕ
long little number = (in_order little 4).write number []

-- The object UUID of a device: DEA00000-6C97-11D1-8271, then its instance, DeviceID and VendorID.
unfoldable pub object_of : Identity → List ℕ
object_of identity =
    (0xDE ∷ 0xA0 ∷ 0x00 ∷ 0x00 ∷ 0x6C ∷ 0x97 ∷ 0x11 ∷ 0xD1 ∷ 0x82 ∷ 0x71 ∷ [])
    ++ to_be_bytes w16 identity.instance ++ to_be_bytes w16 identity.device_id ++ to_be_bytes w16 identity.vendor_id

-- the object UUID as it is sent in this byte order
abbrev pub sent_object : Bool → Identity → List ℕ
sent_object little identity = sent_uuid little (object_of identity)

-- The handle that an answer with the entry tells: attributes 0, and the object UUID. It never is that of a lookup that begins.
abbrev pub told_handle : Bool → Identity → List ℕ
told_handle little identity = long little 0 ++ sent_object little identity

-- The floors of the tower up to the address, in little-endian order: the device interface in version 1, the transfer syntax
-- NDR (8A885D04-1CEB-11C9-9FE8-08002B104860) in version 2, connectionless RPC, UDP port 34964, and IP.
abbrev pub floors : List ℕ
floors =
    0x05 ∷ 0x00
    ∷ 0x13 ∷ 0x00 ∷ 0x0D ∷ 0x01 ∷ 0x00 ∷ 0xA0 ∷ 0xDE ∷ 0x97 ∷ 0x6C ∷ 0xD1 ∷ 0x11 ∷ 0x82 ∷ 0x71 ∷ 0x00 ∷ 0xA0 ∷ 0x24 ∷ 0x42 ∷ 0xDF ∷ 0x7D ∷ 0x01 ∷ 0x00
    ∷ 0x02 ∷ 0x00 ∷ 0x00 ∷ 0x00
    ∷ 0x13 ∷ 0x00 ∷ 0x0D ∷ 0x04 ∷ 0x5D ∷ 0x88 ∷ 0x8A ∷ 0xEB ∷ 0x1C ∷ 0xC9 ∷ 0x11 ∷ 0x9F ∷ 0xE8 ∷ 0x08 ∷ 0x00 ∷ 0x2B ∷ 0x10 ∷ 0x48 ∷ 0x60 ∷ 0x02 ∷ 0x00
    ∷ 0x02 ∷ 0x00 ∷ 0x00 ∷ 0x00
    ∷ 0x01 ∷ 0x00 ∷ 0x0A ∷ 0x02 ∷ 0x00 ∷ 0x00 ∷ 0x00
    ∷ 0x01 ∷ 0x00 ∷ 0x08 ∷ 0x02 ∷ 0x00 ∷ 0x88 ∷ 0x94
    ∷ 0x01 ∷ 0x00 ∷ 0x09 ∷ 0x04 ∷ 0x00
    ∷ []

-- the number of entries, MaxEntries, the offset 0, and the number of entries again
unfoldable pub counts : Bool → ℕ → ℕ → List ℕ
counts little count most = long little count ++ long little most ++ long little 0 ++ long little count

-- the object, a reference to the tower, the offset and length of the annotation, and the annotation
unfoldable pub entry : Bool → Identity → List ℕ
entry little identity = sent_object little identity ++ long little 3 ++ long little 0 ++ long little 64 ++ annotation identity

-- the length of the tower twice, the tower with the address, and an octet of padding
unfoldable pub tower : Bool → List ℕ → List ℕ
tower little address = long little 75 ++ long little 75 ++ floors ++ address ++ 0 ∷ []

-- The body of an answer with the entry: 216 octets, with the status 0.
unfoldable pub found : Bool → Identity → List ℕ → ℕ → List ℕ
found little identity address most =
    told_handle little identity ++ counts little 1 most ++ entry little identity ++ tower little address ++ long little 0

-- The body of an answer without an entry: the lookup ended, with the status `ept_s_not_registered`.
unfoldable pub ended : Bool → ℕ → List ℕ
ended little most = no_handle ++ counts little 0 most ++ long little 0x16C9A0D6

-- The body of the answer to a handle that is freed.
unfoldable pub freed : Bool → List ℕ
freed little = no_handle ++ long little 0
