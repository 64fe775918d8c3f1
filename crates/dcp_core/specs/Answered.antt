-- The contents of a response, independent of its place in memory, and tests of them.
use Rattle.std.specs.Prelude.{◌&&◌, ℕ, Bool, true, false, List, [], ◌∷◌, if◌then◌else◌, Option, Some, None}
use Rattle.std.specs.List.{list_all}
use Rattle.pn_values.specs.declared.set_item.BlockError.TheVariants as error
use Rattle.dcp_core.specs.declared.kind.Kind.{Kind}
use Rattle.dcp_core.specs.declared.response.Outcome.{Outcome}
use Rattle.dcp_core.specs.declared.response.Outcome.TheVariants.{Known}
use Rattle.dcp_core.specs.declared.response.ResponseBlock.{ResponseBlock}
use Rattle.dcp_core.specs.declared.response.ResponseBlock.TheVariants as given
use Rattle.dcp_core.specs.declared.response.ResponseBlocks.{ResponseBlocks}
use Rattle.dcp_core.specs.declared.response.Response.{Response}
use Rattle.dcp_core.specs.Kinds.{is_same}
use Rattle.dcp_core.specs.Response.{Answered, AnsweredBlock, reported, came_out}
use Rattle.dcp_core.specs.Every.{values_in}
use Rattle.dcp_core.specs.Answer.{answer_block}

-- the contents of a block, independent of its place in memory
abbrev pub answered_block : ResponseBlock → AnsweredBlock
answered_block (given.Value kind info value) = reported kind info value.now
answered_block (given.Outcome kind outcome) = came_out kind outcome

-- the blocks that are still to come
unfoldable pub blocks_left : ResponseBlocks → List AnsweredBlock
blocks_left blocks = values_in answer_block blocks.bytes.now

-- the contents of a response, independent of its place in memory
abbrev pub answered : Response → Answered
answered response = record {
  service = response.service;
  is_supported = response.is_supported;
  xid = response.xid;
  blocks = blocks_left response.blocks;
}

-- the first value of a kind
abbrev pub value_among : Kind → List AnsweredBlock → Option (List ℕ)
value_among kind [] = None
value_among kind (reported found info value ∷ blocks) = if is_same kind found then Some value else value_among kind blocks
value_among kind (came_out found outcome ∷ blocks) = value_among kind blocks

-- whether an outcome is success
abbrev pub is_done : Outcome → Bool
is_done (Known error.Done) = true
is_done outcome = false

-- whether a block reports success or has a value
abbrev pub is_positive : AnsweredBlock → Bool
is_positive (reported kind info value) = true
is_positive (came_out kind outcome) = is_done outcome

-- whether a response is positive: the service is supported, and no block or pair was refused
abbrev pub is_agreed : Answered → Bool
is_agreed said = said.is_supported && list_all is_positive said.blocks
