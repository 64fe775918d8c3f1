-- The contents of a DCP response, as the standard names them.
use Rattle.std.specs.Prelude.{ℕ, Bool, List}
use Rattle.dcp_core.specs.declared.kind.Kind.{Kind}
use Rattle.dcp_core.specs.declared.request.Service.{Service}
use Rattle.dcp_core.specs.declared.response.Outcome.{Outcome}

-- a block
pub data AnsweredBlock : Type 0 where
  -- a value of a kind, after its BlockInfo
  reported : Kind → ℕ → List ℕ → AnsweredBlock
  -- the outcome of a block of a Set, or of a pair of a Get
  came_out : Kind → Outcome → AnsweredBlock

-- a response
pub record Answered : Type 0 where
  pub service : Service
  pub is_supported : Bool
  pub xid : ℕ
  pub blocks : List AnsweredBlock
