-- The contents of a DCP request, as the standard names them.
use Rattle.std.specs.Prelude.{ℕ, List, map}
use Rattle.dcp_core.specs.declared.kind.Kind.{Kind}
use Rattle.dcp_core.specs.declared.request.Service.{Service}
use Rattle.dcp_core.specs.declared.request.Block.{Block}
use Rattle.dcp_core.specs.declared.request.Request.{Request}

-- a block or pair
pub record AskedBlock : Type 0 where
  pub kind : Kind
  pub contents : List ℕ

-- a request
pub record Asked : Type 0 where
  pub service : Service
  pub xid : ℕ
  pub blocks : List AskedBlock

-- the contents of a block, independent of its place in memory
abbrev pub asked_block : Block → AskedBlock
asked_block block = record { kind = block.kind; contents = block.contents.now }

-- the contents of a request, independent of its place in memory
abbrev pub asked : Request → Asked
asked request = record { service = request.service; xid = request.xid; blocks = map asked_block request.blocks.items }
