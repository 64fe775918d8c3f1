-- The outcome of a call, from the function that handles it.
use Rattle.std.proofs.Common.{◌≡◌, ℕ, false, List, [], map, Result, Ok, Err, IfErr, IfOk, OnOk, IsOk, refl, sym, ap, ◌∙◌}
use Rattle.flash_model.specs.declared.flash.Flash.{Ghosts as Flash}
use Rattle.settings_journal.specs.settings_store.Carries.{Holds}
use Rattle.records.specs.declared.status.operation.Operation.{Operation}
use Rattle.records.specs.declared.status.call_fault.CallFault.{CallFault}
use Rattle.record_blocks.specs.declared.write_record.IodWriteReq.{IodWriteReq}
use Rattle.records.specs.writes.Answer.{answer_of}
use Rattle.rpc_core.specs.Call.{Asked as Call}
use Rattle.relations.specs.Phases.{Handled as Moving, Records, answered}
use Rattle.frame_codec.specs.declared.udp.Caller.{Caller}
use Rattle.device_frames.specs.Heard.{Heard}
use Rattle.device_frames.specs.Sendable.{AreSendable}
use Rattle.device_frames.specs.Sent.{bytes_of}
use Rattle.device_frames.specs.declared.note.Note.{Note}
use Rattle.device_core.specs.State.{State, with_rest}
use Rattle.device_core.specs.Handled.{came_with, handled, handled_own, kept_answer}
use Rattle.device_core.specs.Machine.{end_of}
use Rattle.device_core.specs.Steps.{Steps}
use Rattle.device_core.proofs.Machine.{is_asking}
use Rattle.device_core.proofs.Steps.{inactive_steps}

-- A parameter record that is kept, or not: how it is answered, and what it does to the relation.
pub kept_as : (came : Result (Unit {0}) CallFault) (kept : Result Records CallFault) (header : IodWriteReq)
    → OnOk came (IsOk kept) → IfErr came (λ fault. kept ≡ Err fault) → came_with came (answer_of header) ≡ kept_answer header kept
kept_as (Ok it) (Ok taken) header is refused = refl
kept_as (Ok it) (Err fault) header is refused = cc
kept_as (Err fault) (Ok taken) header is refused = cc
kept_as (Err fault) (Err other) header is refused = cc

pub kept_moving : (moving : Moving) (came : Result (Unit {0}) CallFault) (kept : Result Records CallFault)
    → OnOk came (IsOk kept) → IfErr came (λ fault. kept ≡ Err fault) → answered moving came ≡ answered moving kept
kept_moving moving (Ok it) (Ok taken) is refused = refl
kept_moving moving (Ok it) (Err fault) is refused = cc
kept_moving moving (Err fault) (Ok taken) is refused = cc
kept_moving moving (Err fault) (Err other) is refused = refl

-- The blocks of an answer are the specified ones.
pub came_as : (came : Result (Unit {0}) CallFault) (answer : Result (List ℕ) CallFault) (blocks : List ℕ)
    → IfOk came (λ _. answer ≡ Ok blocks) → IfErr came (λ fault. (answer ≡ Err fault) × (blocks ≡ [])) → came_with came blocks ≡ answer
came_as (Ok it) answer blocks done refused = sym done
came_as (Err fault) answer blocks done refused = sym refused.0

-- The same for a Write by its outcome.
pub same_moving : (moving : Moving) (came : Result (Unit {0}) CallFault) (blocks : List ℕ) → answered moving (came_with came blocks) ≡ answered moving came
same_moving moving (Ok it) blocks = refl
same_moving moving (Err fault) blocks = refl

-- A new call that the device answers by itself, of an operation that asks nothing of the settings.
pub new_steps : {F : Type 0} {S : ℕ} (as_flash : Flash F S) (old new : State F) (caller : Caller) (call : Call) (blocks : List ℕ) (asks operation : Operation)
    (frames : List (List ℕ)) (said : Note) → Holds (as_flash.image old.flash) old.live.values → asks ≡ operation
    → is_asking (handled_own old.station old.live caller call blocks operation) ≡ false
    → new ≡ with_rest old (end_of old.station old.live (handled_own old.station old.live caller call blocks operation)).rest
    → frames ≡ map (bytes_of old.station.identity) (end_of old.station old.live (handled_own old.station old.live caller call blocks operation)).sent
    → said ≡ (end_of old.station old.live (handled_own old.station old.live caller call blocks operation)).note
    → AreSendable old.station.identity (end_of old.station old.live (handled_own old.station old.live caller call blocks operation)).sent
    → (heard : Heard) → handled old.station old.live heard ≡ handled_own old.station old.live caller call blocks asks → Steps as_flash old heard frames said new
new_steps as_flash old new caller call blocks asks operation frames said holds asks_so none is frames_are note_is sendable heard handled_so =
    inactive_steps as_flash old new heard (handled_own old.station old.live caller call blocks operation) frames said holds
    (handled_so ∙ ap (handled_own old.station old.live caller call blocks) asks_so) none is frames_are note_is sendable
