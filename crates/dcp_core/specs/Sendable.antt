-- Which DCP requests can be sent.
use Rattle.std.specs.Prelude.{◌≤◌, ◌<◌, length}
use Rattle.dcp_core.specs.Request.{Asked}
use Rattle.dcp_core.specs.Writing.{IsRequestable}

-- a request that can be sent: its kinds go by their names, it has at most 16 blocks, which fit a frame, and Xid has
-- four octets
pub record CanBeAsked (asked : Asked) : Type 0 where
  pub named : IsRequestable asked
  pub few : length asked.blocks ≤ 16
  pub xid : asked.xid < 4294967296
