-- The requests that can be written, and their bytes.
use Rattle.std.specs.Prelude.{◌≡◌, ◌≤◌, ◌<◌, ℕ, List, [], length, sum_by}
use Rattle.std.specs.List.{AllByRecursion}
use Rattle.dcp_core.specs.declared.kind.Kind.{Kind}
use Rattle.dcp_core.specs.declared.request.Service.{Service}
use Rattle.dcp_core.specs.declared.request.Service.TheVariants.{Get, Set, Identify}
use Rattle.dcp_core.specs.Kinds.{kind_of, option_of, suboption_of}
use Rattle.dcp_core.specs.Request.{Asked, AskedBlock}
use Rattle.dcp_core.specs.Format.{block_of, frame_id_of, header_and_data}

-- a kind that has a name goes by it; Option and Suboption take one byte each
abbrev pub IsNamed : Kind → Type 0
IsNamed kind = (kind_of (option_of kind) (suboption_of kind) ≡ kind) × (option_of kind < 256) × (suboption_of kind < 256)

-- a block that can be written: a pair of a Get has no contents, and a block of a Set begins with a BlockQualifier of two bytes
abbrev pub IsWritable : Service → AskedBlock → Type 0
IsWritable Get block = IsNamed block.kind × (block.contents ≡ [])
IsWritable Set block = IsNamed block.kind × (2 ≤ length block.contents)
IsWritable Identify block = IsNamed block.kind

-- how many bytes the blocks take
abbrev pub blocks_size : Asked → ℕ
blocks_size asked = sum_by (block_of asked.service).size asked.blocks

-- a request that can be written: its blocks can, and take at most 1,488 bytes, so that they fit a frame
abbrev pub IsRequestable : Asked → Type 0
IsRequestable asked = AllByRecursion (IsWritable asked.service) asked.blocks × (blocks_size asked ≤ 1488)

-- the bytes that are sent for a request, after the FrameID of its service
unfoldable pub request_bytes : Asked → List ℕ
request_bytes asked = (header_and_data (frame_id_of asked.service)).write asked []
