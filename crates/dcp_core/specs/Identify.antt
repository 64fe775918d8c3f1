-- Which Identify requests a station responds to, and with what (IEC 61158-6-10, 4.3.2.3).
use Rattle.std.specs.Prelude.{◌==◌, ◌&&◌, ℕ, Bool, false, nat_lt, nat_eq, List, [], ◌∷◌, ◌++◌, length, if◌then◌else◌, Option, Some, None}
use Rattle.std.specs.Cmp.Lexicographic.{pointwise}
use Rattle.std.specs.List.{list_all}
use Rattle.std.specs.Int.{w16, to_be_bytes}
use Rattle.pn_values.specs.declared.identity.Identity.{Identity}
use Rattle.pn_values.specs.declared.settings.Settings.{Settings}
use Rattle.pn_values.specs.IpSuite.{Suite}
use Rattle.dcp_core.specs.declared.kind.Kind.{Kind}
use Rattle.dcp_core.specs.declared.kind.Kind.TheVariants.{MacAddress, IpSuite, StationType, NameOfStation, DeviceId, DeviceRole, DeviceOptions, AliasName, DeviceInstance, All}
use Rattle.dcp_core.specs.Request.{Asked}
use Rattle.dcp_core.specs.Bytes.{block_bytes, answer_bytes}

-- address, mask and gateway
abbrev pub suite_bytes : Suite → List ℕ
suite_bytes suite = suite.address ++ suite.mask ++ suite.gateway

-- 2/5: the options that the device knows: 1/1, 1/2, 2/1 to 2/5, 2/7 and 5/3 to 5/6
abbrev pub known_options : List ℕ
known_options = 1 ∷ 1 ∷ 1 ∷ 2 ∷ 2 ∷ 1 ∷ 2 ∷ 2 ∷ 2 ∷ 3 ∷ 2 ∷ 4 ∷ 2 ∷ 5 ∷ 2 ∷ 7 ∷ 5 ∷ 3 ∷ 5 ∷ 4 ∷ 5 ∷ 5 ∷ 5 ∷ 6 ∷ []

-- the value of a kind at a station with this name by its place, if it has one, and if the value can be read
abbrev pub value_of : Identity → Settings → Option (List ℕ) → Kind → Option (List ℕ)
value_of identity settings alias MacAddress = Some identity.mac.octets
value_of identity settings alias IpSuite = Some (suite_bytes settings.suite)
value_of identity settings alias StationType = Some identity.station_type.items
value_of identity settings alias NameOfStation = Some settings.name
value_of identity settings alias DeviceId = Some (to_be_bytes w16 identity.vendor_id ++ to_be_bytes w16 identity.device_id)
value_of identity settings alias DeviceRole = Some (1 ∷ 0 ∷ [])
value_of identity settings alias DeviceOptions = Some known_options
value_of identity settings alias AliasName = alias
value_of identity settings alias DeviceInstance = Some (to_be_bytes w16 identity.instance)
value_of identity settings alias _ = None

-- whether the value exists and is this one
abbrev pub is_value : Option (List ℕ) → List ℕ → Bool
is_value (Some value) contents = pointwise nat_eq value contents
is_value None contents = false

-- Whether a block of an Identify request matches: FF/FF without contents, or a kind that can be matched by its value.
-- No station matches an empty name, and the options that a device knows cannot be matched. A station without a name by its
-- place matches none.
abbrev pub kind_matches : Identity → Settings → Option (List ℕ) → Kind → List ℕ → Bool
kind_matches identity settings alias All contents = length contents == 0
kind_matches identity settings alias NameOfStation contents = nat_lt 0 (length contents) && pointwise nat_eq settings.name contents
kind_matches identity settings alias DeviceOptions contents = false
kind_matches identity settings alias kind contents = is_value (value_of identity settings alias kind) contents

-- whether the station responds: the request has at least one block, and each block matches
unfoldable pub matches : Identity → Settings → Option (List ℕ) → Asked → Bool
matches identity settings alias request = nat_lt 0 (length request.blocks) && list_all (λ block. kind_matches identity settings alias block.kind block.contents) request.blocks

-- BlockInfo of the IP suite: whether an address is set
abbrev pub suite_info : List ℕ → List ℕ
suite_info octets = if list_all (λ octet. octet == 0) octets then 0 ∷ 0 ∷ [] else 0 ∷ 1 ∷ []

-- BlockInfo of a value: 0 except for the IP suite
abbrev pub info_of : Settings → Kind → List ℕ
info_of settings IpSuite = suite_info (suite_bytes settings.suite)
info_of settings kind = 0 ∷ 0 ∷ []

-- a block of a response: BlockInfo and the value; no block for a kind without a value
abbrev pub valued : Identity → Settings → Option (List ℕ) → Kind → List ℕ
valued identity settings alias kind = elim (value_of identity settings alias kind) [ Some value ↦ block_bytes kind (info_of settings kind ++ value) | None ↦ [] ]

-- the block of the name by the place, if there is one
abbrev pub named_block : Option (List ℕ) → List ℕ
named_block alias = elim alias [ Some value ↦ block_bytes AliasName (0 ∷ 0 ∷ value) | None ↦ [] ]

-- the most bytes that the block of a kind takes: a name has at most 240 bytes, a name by the place 511, a station type 25
abbrev pub most_of : Kind → ℕ
most_of NameOfStation = 247
most_of AliasName = 518
most_of kind = 32

-- The response to an Identify: what follows the FrameID. It does not tell the name by the place.
unfoldable pub identify_bytes : Identity → Settings → ℕ → List ℕ
identify_bytes identity settings xid = answer_bytes 5 xid
    (valued identity settings None StationType ++ valued identity settings None NameOfStation ++ valued identity settings None DeviceId
    ++ valued identity settings None DeviceRole ++ valued identity settings None DeviceOptions ++ valued identity settings None DeviceInstance
    ++ valued identity settings None IpSuite)
