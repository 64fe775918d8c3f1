-- Which DCP requests a controller answers, and with what follows the FrameID (IEC 61158-6-10, 4.3.2).
use Rattle.std.specs.Prelude.{◌==◌, ◌&&◌, ℕ, Bool, false, nat_lt, nat_eq, List, ◌++◌, [], length, map, Option, Some, None}
use Rattle.std.specs.Cmp.Lexicographic.{pointwise}
use Rattle.std.specs.List.{flat_map, list_all}
use Rattle.pn_values.specs.declared.set_item.BlockError.{BlockError}
use Rattle.pn_values.specs.declared.set_item.BlockError.TheVariants as error
use Rattle.dcp_core.specs.declared.kind.Kind.{Kind}
use Rattle.dcp_core.specs.declared.kind.Kind.TheVariants.{All, IpSuite, StationType, NameOfStation, DeviceId, DeviceRole, DeviceOptions, DeviceInstance}
use Rattle.dcp_core.specs.Request.{Asked, AskedBlock}
use Rattle.dcp_core.specs.Kinds.{blame}
use Rattle.dcp_core.specs.Bytes.{answer_bytes, response_bytes}
use Rattle.dcp_core.specs.Get.{firsts_of}
use Rattle.dcp_core.specs.Set.{set_bytes}
use Rattle.plans.specs.declared.parts.Parts.{Parts}
use Rattle.plans.specs.Identity.{OwnIdentity}
use Rattle.controller_dcp.specs.Values.{valued, value_of}

-- ---- Identify

-- the value exists and is this one
abbrev pub is_value : Option (List ℕ) → List ℕ → Bool
is_value (Some value) contents = pointwise nat_eq contents value
is_value None contents = false

-- Whether a block matches: FF/FF without contents, or a kind by its value. The options that a controller knows cannot be matched.
abbrev pub kind_matches : Parts → OwnIdentity → Kind → List ℕ → Bool
kind_matches parts own All contents = length contents == 0
kind_matches parts own DeviceOptions contents = false
kind_matches parts own kind contents = is_value (value_of parts own kind) contents

-- whether the controller answers: the request has at least one block, and each block matches
unfoldable pub matches : Parts → OwnIdentity → Asked → Bool
matches parts own request = nat_lt 0 (length request.blocks) && list_all (λ block. kind_matches parts own block.kind block.contents) request.blocks

-- the answer to an Identify
unfoldable pub identify_bytes : Parts → OwnIdentity → ℕ → List ℕ
identify_bytes parts own xid = answer_bytes 5 xid
    (valued parts own StationType ++ valued parts own NameOfStation ++ valued parts own DeviceId ++ valued parts own DeviceRole
    ++ valued parts own DeviceOptions ++ valued parts own DeviceInstance ++ valued parts own IpSuite)

-- ---- Get

-- the value asked for, or the error that says why it has no value: the option or the suboption is unknown
abbrev pub got : Parts → OwnIdentity → Kind → List ℕ
got parts own kind = elim (value_of parts own kind) [
  | Some value ↦ valued parts own kind
  | None ↦ response_bytes kind (blame kind)
]

-- the answer to a Get: each pair at its first place
unfoldable pub get_bytes : Parts → OwnIdentity → Asked → List ℕ
get_bytes parts own request =
    answer_bytes 3 request.xid (flat_map (got parts own) (firsts_of [] (map (λ block. block.kind) request.blocks)))

-- ---- Set

-- Why a block of a Set is refused: name and address are those of the plan (local reasons), and all else is unknown or cannot be set.
abbrev pub refusal : Kind → BlockError
refusal IpSuite = error.Local
refusal NameOfStation = error.Local
refusal kind = blame kind

-- the refusals of blocks, in order
abbrev pub refusals : List AskedBlock → List BlockError
refusals blocks = map (λ block. refusal block.kind) blocks

-- the answer to a Set: each block is refused
abbrev pub refused_bytes : Asked → List ℕ
refused_bytes request = set_bytes request (refusals request.blocks)
