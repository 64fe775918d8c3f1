-- Which calls and responses can be sent: each field has its size, and there are at most 1,372 octets of blocks.
use Rattle.std.specs.Prelude.{◌≡◌, ◌≤◌, ◌<◌, ℕ, List, length, Some}
use Rattle.rpc_core.specs.declared.header.CallHeader.{CallHeader}
use Rattle.rpc_core.specs.declared.interface.Interface.{Interface}
use Rattle.rpc_core.specs.declared.response.Status.{Status}
use Rattle.rpc_core.specs.Call.{Asked}
use Rattle.rpc_core.specs.Interface.{interface_uuid}
use Rattle.rpc_core.specs.Response.{Answered}

-- an identifier has 16 octets
abbrev pub IsUuid : List ℕ → Type 0
IsUuid octets = length octets ≡ 16

-- the fields of a header have their sizes
pub record IsHeader (header : CallHeader) : Type 0 where
  pub object : IsUuid header.object
  pub interface : IsUuid header.interface
  pub activity : IsUuid header.activity
  pub sequence : header.sequence < 4294967296
  pub operation : header.operation < 65536

-- a status has four octets
pub record IsStatus (status : Status) : Type 0 where
  pub code : status.code < 256
  pub decode : status.decode < 256
  pub code1 : status.code1 < 256
  pub code2 : status.code2 < 256

-- a call to this interface that can be sent; it has blocks
pub record CanBeCalled (interface : Interface) (call : Asked) : Type 0 where
  pub header : IsHeader call.header
  pub named : call.header.interface ≡ interface_uuid interface
  pub maximum : call.args_maximum < 4294967296
  pub blocks : List ℕ
  pub whole : call.blocks ≡ Some blocks
  pub few : length blocks ≤ 1372

-- a response that can be sent
pub record CanBeAnswered (response : Answered) : Type 0 where
  pub header : IsHeader response.header
  pub status : IsStatus response.status
  pub maximum : response.maximum_count < 4294967296
  pub few : length response.blocks ≤ 1372
