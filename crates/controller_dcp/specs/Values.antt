-- What a controller tells of itself by DCP (IEC 61158-6-10, 4.3.1.4).
use Rattle.std.specs.Prelude.{ℕ, List, [], ◌∷◌, ◌++◌, Option, Some, None}
use Rattle.std.specs.Int.{w16, to_be_bytes}
use Rattle.dcp_core.specs.declared.kind.Kind.{Kind}
use Rattle.dcp_core.specs.declared.kind.Kind.TheVariants.{MacAddress, IpSuite, StationType, NameOfStation, DeviceId, DeviceRole, DeviceOptions, DeviceInstance}
use Rattle.dcp_core.specs.Bytes.{block_bytes}
use Rattle.plans.specs.declared.parts.Parts.{Parts}
use Rattle.plans.specs.Identity.{OwnIdentity}

-- the IP suite: the controller's own address, and mask and gateway of the project
abbrev pub suite_of : Parts → List ℕ
suite_of parts = parts.controller.address ++ parts.station.suite.mask ++ parts.station.suite.gateway

-- VendorID and DeviceID
abbrev pub ids_of : OwnIdentity → List ℕ
ids_of own = to_be_bytes w16 own.vendor_id ++ to_be_bytes w16 own.device_id

-- 2/4: an IO controller
abbrev pub role : List ℕ
role = 2 ∷ 0 ∷ []

-- 2/5: the options that a controller knows: 1/1, 1/2, 2/1 to 2/5 and 2/7
abbrev pub known_options : List ℕ
known_options = 1 ∷ 1 ∷ 1 ∷ 2 ∷ 2 ∷ 1 ∷ 2 ∷ 2 ∷ 2 ∷ 3 ∷ 2 ∷ 4 ∷ 2 ∷ 5 ∷ 2 ∷ 7 ∷ []

-- 2/7: the first instance
abbrev pub instance_number : List ℕ
instance_number = 0 ∷ 1 ∷ []

-- the value of a kind, if a controller has it: it has no name by its place, and no control
abbrev pub value_of : Parts → OwnIdentity → Kind → Option (List ℕ)
value_of parts own MacAddress = Some parts.controller.mac.octets
value_of parts own IpSuite = Some (suite_of parts)
value_of parts own StationType = Some own.station_type
value_of parts own NameOfStation = Some parts.controller.name
value_of parts own DeviceId = Some (ids_of own)
value_of parts own DeviceRole = Some role
value_of parts own DeviceOptions = Some known_options
value_of parts own DeviceInstance = Some instance_number
value_of parts own _ = None

-- BlockInfo: 1 for the IP suite, since a controller has an address; else 0
abbrev pub info_of : Kind → List ℕ
info_of IpSuite = 0 ∷ 1 ∷ []
info_of kind = 0 ∷ 0 ∷ []

-- a block of a response: BlockInfo and the value; no block for a kind without a value
abbrev pub valued : Parts → OwnIdentity → Kind → List ℕ
valued parts own kind = elim (value_of parts own kind) [ Some value ↦ block_bytes kind (info_of kind ++ value) | None ↦ [] ]

-- the most octets that the block of a kind takes: a name has at most 240 octets, a type of station 25
abbrev pub most_of : Kind → ℕ
most_of NameOfStation = 247
most_of kind = 32
