-- The device's response to the Connect of a plan, and what its controller makes of it.
use Rattle.std.proofs.Common.{◌≡◌, ◌==◌, ◌&&◌, ◌||◌, ◌+◌, ◌++◌, ℕ, Bool, true, false, not, List, [], ◌∷◌, Option, Some, None, Result, Ok, append_assoc, append-nil, refl, sym, ap, subst, ◌∙◌}
use Rattle.std.specs.Prelude.{if◌then◌else◌, is_some}
use Rattle.std.proofs.lemmas.Cmp.{nat_list_eq_equiv}
use Rattle.pn_values.specs.declared.identity.Identity.{Identity}
use Rattle.pn_values.specs.declared.real.Real.{Real}
use Rattle.connect_blocks.specs.declared.ar_block.ArBlockRes.{ArBlockRes}
use Rattle.connect_blocks.specs.declared.iocr.IocrBlockRes.{IocrBlockRes}
use Rattle.block_codec.specs.declared.block.Block.TheVariants as is
use Rattle.block_codec.specs.Block.{block_bytes}
use Rattle.rpc_core.specs.declared.header.CallHeader.{CallHeader}
use Rattle.plans.specs.declared.parts.Controller.{Controller}
use Rattle.plan_places.specs.Places.{next_waiting}
use Rattle.wire.specs.blocks.modules.Lists.{Listed}
use Rattle.connect_blocks.specs.declared.module_diff.DiffModule.{DiffModule}
use Rattle.connect_blocks.specs.declared.module_diff.DiffSubmodule.{DiffSubmodule}
use Rattle.module_diff.specs.Diff.{diff_of}
use Rattle.records.specs.declared.status.call_fault.CallFault.{CallFault}
use Rattle.records.specs.declared.status.operation.Operation.TheVariants.{Connect}
use Rattle.records.specs.status.Status.{done}
use Rattle.connects.specs.requests.Request.{Request}
use Rattle.rpc_core.specs.Response.{Answered, answer_to}
use Rattle.wire.specs.Codec.{◌>>=◌}
use Rattle.relations.specs.declared.options.DeviceOptions.{DeviceOptions}
use Rattle.relations.specs.RelationState.{RelationState}
use Rattle.relations.specs.Phases.{differing_octets, updated}
use Rattle.device_core.specs.State.{Station, station_named}
use Rattle.connects.specs.answers.AlarmRelation.{alarm_relation}
use Rattle.relations.specs.Numbers.{endpoint_of}
use Rattle.relations.specs.Connect.{alarm_answer, connect_answer, connect_blocks, connect_within, differing_of, making}
use Rattle.both_ends.specs.startup.request.Request.{no_rows, request_for}
use Rattle.device_core.specs.Handled.{Moves, answer_from, counted_by, kept_behind, number_now, partner_of, starting_of}
use Rattle.device_core.specs.Log.{connect_log, with_log}
use Rattle.device_frames.specs.Sent.{bytes_of, response_frame}
use Rattle.controller_messages.specs.declared.setup.Setup.{Setup}
use Rattle.controller_messages.specs.declared.request.Request.{Request as Asking}
use Rattle.controller_messages.specs.declared.request.Request.TheVariants as asks
use Rattle.controller_messages.specs.Access.{is_free}
use Rattle.controller_messages.specs.Heard.{Heard, Responds, heard_of}
use Rattle.controller_messages.specs.Requests.{blocks_of, call_for, header_of, writing_from}
use Rattle.controller_core.specs.declared.stored.event.Event.TheVariants.{Frame}
use Rattle.controller_core.specs.stored.State.{Live as Controls, phase_for}
use Rattle.controller_core.specs.start_up.Answers.{is_answer}
use Rattle.controller_core.specs.Machine.{Turn, after_turn, begun_turn, can_begin, connected, decided, is_exchanging, placed, plugs_of, responded, standing, stays, turn_of, turned, writing}
use Rattle.both_ends.specs.startup.answer.Answer.{AnswersSo, IsAllThere, answer_blocks, answer_frame, caller_of, chosen_with}

-- ---- at the device

pub answers_so : (setup : Setup) (identity : Identity) → AnswersSo setup identity
answers_so setup identity given options named device none plugged =
    let station : Station = station_named identity given options named in
    let call = call_for setup asks.Connect in
    let caller = caller_of setup.plan.controller in
    let blocks = blocks_of setup asks.Connect in
    let address = device.values.running.suite.address in
    let link = device.rest.link in
    let number = number_now station device in
    let answer = connect_answer identity device.rest.real options number caller.mac link blocks in
    let logged = counted_by answer (with_log (connect_log blocks answer) device.rest) in
    let rest = kept_behind identity logged call (answer_from address caller call Connect answer)
    (updated (making device.rest.real (partner_of caller) options (starting_of station device) (connect_within options caller.mac link blocks)) link) in (
      rest,
      ap (λ (l : Option RelationState). Moves rest (answer_from address caller call Connect (connect_answer identity device.rest.real options number caller.mac l blocks) ∷ [])) none
          ∙ ap (λ (real : Real). Moves rest (answer_from address caller call Connect (connect_answer identity real options number caller.mac None blocks) ∷ [])) plugged,
    )

-- if the device reads the plan's request and no module differs, it responds with these blocks
blocks_by : (setup : Setup) (identity : Identity) (options : DeviceOptions) (number : ℕ) → connect_within options setup.plan.controller.mac None (blocks_of setup asks.Connect) ≡ Ok (request_for setup.plan setup.ar)
    → diff_of (request_for setup.plan setup.ar).expected setup.plan.real.modules.items ≡ no_rows
    → connect_answer identity setup.plan.real options number setup.plan.controller.mac None (blocks_of setup asks.Connect) ≡ Ok (answer_blocks setup identity number)
blocks_by setup identity options number read same =
    ap (λ (r : Result Request CallFault). r >>= λ request. Ok (connect_blocks identity number request (differing_of request setup.plan.real))) read
    ∙ ap (λ (rows : Listed DiffModule DiffSubmodule). Ok (connect_blocks identity number (request_for setup.plan setup.ar) (differing_octets rows))) same

-- the frame is that of this response
pub frame_by : (setup : Setup) (identity : Identity) (options : DeviceOptions) (number : ℕ) (address : List ℕ) → connect_within options setup.plan.controller.mac None (blocks_of setup asks.Connect) ≡ Ok (request_for setup.plan setup.ar)
    → diff_of (request_for setup.plan setup.ar).expected setup.plan.real.modules.items ≡ no_rows
    → answer_frame setup identity options number address
    ≡ response_frame identity (caller_of setup.plan.controller) address (answer_to (call_for setup asks.Connect) done (answer_blocks setup identity number))
frame_by setup identity options number address read same =
    ap (λ (r : Result (List ℕ) CallFault). bytes_of identity (answer_from address (caller_of setup.plan.controller) (call_for setup asks.Connect) Connect r))
    (blocks_by setup identity options number read same)

-- ---- its blocks

abbrev relation_of : Setup → Identity → ArBlockRes
relation_of setup identity = record { ar_uuid = setup.ar; session_key = 1; cm_responder_mac_add = identity.mac }

abbrev input_of : IocrBlockRes
input_of = record { iocr_type = 1; iocr_reference = 1; frame_id = 0xC001 }

abbrev output_of : ℕ → IocrBlockRes
output_of number = record { iocr_type = 2; iocr_reference = 2; frame_id = 0xC000 + number }

-- the blocks are these
blocks_are : (setup : Setup) (identity : Identity) (number : ℕ) → answer_blocks setup identity number
    ≡ block_bytes (is.ArBlockRes (relation_of setup identity)) ++ (block_bytes (is.IocrBlockRes input_of) ++ block_bytes (is.IocrBlockRes (output_of number))) ++ alarm_answer number ++ []
unfolding connect_blocks
blocks_are setup identity number = refl

pub all_there : (setup : Setup) (identity : Identity) (number : ℕ)
    → IsAllThere (block_bytes (is.ArBlockRes (relation_of setup identity)) ++ (block_bytes (is.IocrBlockRes input_of) ++ block_bytes (is.IocrBlockRes (output_of number))) ++ alarm_answer number ++ []) (0xC000 + number) (endpoint_of number)
    → IsAllThere (answer_blocks setup identity number) (0xC000 + number) (endpoint_of number)
all_there setup identity number there = subst (λ (blocks : List ℕ). IsAllThere blocks (0xC000 + number) (endpoint_of number)) (sym (blocks_are setup identity number)) there

one_behind_another : (a b c d : List ℕ) → ((a ++ b) ++ c) ++ d ≡ ((a ++ (b ++ c)) ++ d) ++ []
one_behind_another a b c d = ap (λ (front : List ℕ). front ++ d) (append_assoc a b c) ∙ sym (append-nil ((a ++ (b ++ c)) ++ d))

-- the blocks as they are written, with this alarm endpoint
pub blocks_written : (setup : Setup) (identity : Identity) (number endpoint : ℕ) → endpoint ≡ endpoint_of number
    → ((block_bytes (is.ArBlockRes (relation_of setup identity)) ++ block_bytes (is.IocrBlockRes input_of)) ++ block_bytes (is.IocrBlockRes (output_of number)))
    ++ alarm_relation.write (record { local_alarm_reference = endpoint; max_alarm_data_length = 200 }) []
    ≡ answer_blocks setup identity number
blocks_written setup identity number endpoint same =
    ap (λ (reference : ℕ). ((block_bytes (is.ArBlockRes (relation_of setup identity)) ++ block_bytes (is.IocrBlockRes input_of)) ++ block_bytes (is.IocrBlockRes (output_of number)))
    ++ alarm_relation.write (record { local_alarm_reference = reference; max_alarm_data_length = 200 }) []) same
    ∙ (one_behind_another (block_bytes (is.ArBlockRes (relation_of setup identity))) (block_bytes (is.IocrBlockRes input_of)) (block_bytes (is.IocrBlockRes (output_of number))) (alarm_answer number)
    ∙ sym (blocks_are setup identity number))

-- ---- at the controller

-- a positive response with this header and these blocks
abbrev pub done_with : CallHeader → List ℕ → Answered
done_with header blocks = record { header = header; status = done; maximum_count = 1372; blocks = blocks }

-- the frame is heard as the response that it was made of
pub heard_as_made : (setup : Setup) (identity : Identity) (options : DeviceOptions) (number : ℕ) (address blocks : List ℕ) (controller : Controller) (header : CallHeader)
    → connect_within options setup.plan.controller.mac None (blocks_of setup asks.Connect) ≡ Ok (request_for setup.plan setup.ar)
    → diff_of (request_for setup.plan setup.ar).expected setup.plan.real.modules.items ≡ no_rows
    → controller ≡ setup.plan.controller → header ≡ header_of setup asks.Connect → blocks ≡ answer_blocks setup identity number
    → heard_of controller (response_frame identity (caller_of controller) address (done_with header blocks)) ≡ Responds (done_with header blocks)
    → heard_of setup.plan.controller (answer_frame setup identity options number address) ≡ Responds (answer_to (call_for setup asks.Connect) done (answer_blocks setup identity number))
heard_as_made setup identity options number address blocks controller header read same at of these heard =
    let answer = ap (λ (h : CallHeader). done_with h blocks) of ∙ ap (λ (b : List ℕ). done_with (header_of setup asks.Connect) b) these in
    let one = subst (λ (c : Controller). heard_of c (response_frame identity (caller_of c) address (done_with header blocks)) ≡ Responds (done_with header blocks)) at heard in
    ap (heard_of setup.plan.controller) (frame_by setup identity options number address read same)
    ∙ subst (λ (a : Answered). heard_of setup.plan.controller (response_frame identity (caller_of setup.plan.controller) address a) ≡ Responds a) answer one

-- the controller made this call
is_its_answer : (setup : Setup) → is_answer setup asks.Connect (call_for setup asks.Connect).header ≡ true
is_its_answer setup = ap (λ (is : Bool). is && 0 == 0) (nat_list_eq_equiv.refl setup.activity)

where_so : {A : Type 0} (is : Bool) (x y : A) → is ≡ true → (if is then x else y) ≡ x
where_so is x y e = ap (λ (b : Bool). if b then x else y) e

-- no turn of a place begins with the records of the start-up
not_yet : (request : Asking) → is_exchanging (phase_for request) ≡ false
not_yet asks.Identify = refl
not_yet asks.Address = refl
not_yet asks.Connect = refl
not_yet (asks.Write number) = refl
not_yet asks.PrmEnd = refl
not_yet (asks.Release sequence) = refl
not_yet (asks.WriteAfter number tries) = refl
not_yet (asks.PrmEndAfter tries) = refl

none_begins : (setup : Setup) (could : Bool) (turn : Turn) → can_begin turn.live ≡ false → after_turn setup could turn ≡ turn
none_begins setup could turn none = by_tests could (can_begin turn.live) none
  where
    by_tests : (a b : Bool) → b ≡ false
        → (if a || not b then turn else record { live = begun_turn setup turn.live; sent = turn.sent ++ plugs_of (begun_turn setup turn.live) }) ≡ turn
    by_tests true b e = refl
    by_tests false false e = refl
    by_tests false true e = absurd cc

-- the controller goes on
pub goes_on : (setup : Setup) (live : Controls) (octets blocks : List ℕ) (number : ℕ) → IsAllThere blocks (0xC000 + number) (endpoint_of number)
    → heard_of setup.plan.controller octets ≡ Responds (answer_to (call_for setup asks.Connect) done blocks) → live.asked ≡ Some asks.Connect
    → turn_of setup live (Frame (record { items = octets })) ≡ writing setup (writing_from setup.plan 0) (standing setup (placed setup blocks live) (chosen_with number))
goes_on setup live octets blocks number there heard asked =
    let answer = answer_to (call_for setup asks.Connect) done blocks in
    let written = writing setup (writing_from setup.plan 0) (standing setup (placed setup blocks live) (chosen_with number)) in
    let goes : responded setup live answer live.asked ≡ written =
    ap (λ (a : Option Asking). responded setup live answer a) asked
    ∙ (where_so (is_answer setup asks.Connect answer.header) (decided setup live answer asks.Connect) (stays live) (is_its_answer setup)
    ∙ ap (connected setup live blocks) there) in
    ap (λ (h : Heard). turned setup live h) heard
    ∙ (ap (λ (t : Turn). after_turn setup (can_begin live) t) goes
    ∙ none_begins setup (can_begin live) written
    (ap (λ (b : Bool). b && (is_free written.live.access && is_some (next_waiting written.live.places))) (not_yet (writing_from setup.plan 0))))
