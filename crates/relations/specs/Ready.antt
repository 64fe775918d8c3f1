-- ApplicationReady, and the answers to it (IEC 61158-6-10, 5.2.4.5).
use Rattle.std.specs.Prelude.{◌==◌, ◌&&◌, ℕ, Bool, nat_eq, List, Option, Some, None, Result, Ok, Err, if◌then◌else◌}
use Rattle.std.specs.Cmp.Lexicographic.{pointwise}
use Rattle.rpc_core.specs.declared.interface.Interface.TheVariants.{Controller}
use Rattle.rpc_core.specs.declared.header.CallHeader.{CallHeader}
use Rattle.rpc_core.specs.Interface.{interface_uuid}
use Rattle.rpc_core.specs.Response.{Answered, is_done}
use Rattle.wire.specs.declared.blocks.fault.BlockFault.{BlockFault}
use Rattle.block_codec.specs.declared.block.Block.{Block}
use Rattle.block_codec.specs.Block.{block_of, in_application_ready_res}
use Rattle.connect_blocks.specs.declared.control.ControlBlock.{ControlBlock}
use Rattle.pn_alarms.specs.declared.abort.Abort.TheVariants.{Other}
use Rattle.relations.specs.declared.hearing.ReadyAnswer.{ReadyAnswer}
use Rattle.relations.specs.declared.hearing.ReadyAnswer.TheVariants as heard
use Rattle.relations.specs.declared.ready.Ready.{Ready}
use Rattle.relations.specs.RelationState.{RelationState, is_awaiting}
use Rattle.relations.specs.Farewells.{farewell_of}
use Rattle.relations.specs.Phases.{Handled, Confirmed, Ended, Unmoved}

-- The call: the ARUUID as activity, sequence 0, operation 4, Control. It goes to the object and the station that asked
-- for the relation.
abbrev pub ready_of : RelationState → Ready
ready_of link = record {
  partner = link.partner;
  header = record {
    object = link.request.ar.object;
    interface = interface_uuid Controller;
    activity = link.request.ar.uuid;
    sequence = 0;
    operation = 4;
  };
  block = record {
    ar_uuid = link.request.ar.uuid;
    session_key = link.request.ar.session_key;
    control_command = 2;
    control_block_properties = 0;
  };
}

-- ---- the answer

-- It is the answer to that call.
abbrev pub is_answer_to : List ℕ → CallHeader → Bool
is_answer_to uuid header = pointwise nat_eq header.activity uuid && (header.sequence == 0 && header.operation == 4)

-- The relation waits for it.
abbrev pub is_wanted : Answered → RelationState → Bool
is_wanted response link = is_awaiting link.phase && is_answer_to link.request.ar.uuid response.header

-- Its block: the first one, if it is the answer to ApplicationReady and its ControlCommand is Done.
abbrev pub confirmed_block : Result (Block × List ℕ) BlockFault → Option ControlBlock
confirmed_block (Ok x) = in_application_ready_res x.0
confirmed_block (Err fault) = None

-- A positive answer confirms ApplicationReady if its block names the relation.
abbrev pub confirmed_by : List ℕ → Option ControlBlock → ReadyAnswer
confirmed_by uuid None = heard.Garbled
confirmed_by uuid (Some block) = if pointwise nat_eq block.ar_uuid uuid then heard.Confirmed else heard.NotWanted

-- What a response to ApplicationReady means in this relation: not awaited, a confirmation, or a refusal that ends it.
abbrev pub answer_in : Answered → RelationState → ReadyAnswer
answer_in response link =
    if is_wanted response link
    then (if is_done response.status then confirmed_by link.request.ar.uuid (confirmed_block (block_of response.blocks)) else heard.Refused (farewell_of Other link))
    else heard.NotWanted

-- What an answer means to a device.
unfoldable pub answer_of : Answered → Option RelationState → ReadyAnswer
answer_of response None = heard.NotWanted
answer_of response (Some link) = answer_in response link

-- What it does to the relation.
abbrev pub handled_by : ReadyAnswer → Handled
handled_by heard.NotWanted = Unmoved
handled_by heard.Garbled = Unmoved
handled_by heard.Confirmed = Confirmed
handled_by (heard.Refused farewell) = Ended
