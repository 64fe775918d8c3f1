-- A step of a Write, from the blocks of its call and the statuses of its answer.
use Rattle.std.proofs.Common.{◌≡◌, ℕ, List, [], ◌∷◌, length, drop, flat_map, Option, Result, Ok, Err, refl, ap, subst, ◌∙◌}
use Rattle.pn_values.specs.declared.mac.Mac.{Mac}
use Rattle.pn_values.specs.declared.real.Real.{Real}
use Rattle.pn_values.specs.declared.im_value.ImValue.{ImValue}
use Rattle.pn_values.specs.declared.command.Command.TheVariants.{SetIm}
use Rattle.pn_values.specs.declared.set_item.SetItem.TheVariants.{Ask}
use Rattle.pn_values.specs.declared.set_item.BlockError.{BlockError}
use Rattle.pn_values.specs.declared.set_item.BlockError.TheVariants as error
use Rattle.rpc_core.specs.Call.{Asked as Call}
use Rattle.record_blocks.specs.declared.write_record.IodWriteReq.{IodWriteReq}
use Rattle.records.specs.declared.status.call_fault.CallFault.{CallFault}
use Rattle.records.specs.declared.status.operation.Operation.TheVariants.{Write as Writing}
use Rattle.records.specs.declared.writes.taken.TakenRecord.{TakenRecord}
use Rattle.records.specs.declared.writes.write.Effect.TheVariants.{Stores, Keeps}
use Rattle.records.specs.declared.writes.write.Write.{Write}
use Rattle.records.specs.declared.writes.writing.Writing.TheVariants.{One}
use Rattle.records.specs.status.Status.{status_of}
use Rattle.records.specs.writes.Answer.{number_of}
use Rattle.records.specs.writes.Asked.{writing_of}
use Rattle.relations.specs.Phases.{Records}
use Rattle.frame_codec.specs.declared.udp.Caller.{Caller}
use Rattle.settings_journal.specs.settings_store.Machine.{Outcome, carried}
use Rattle.device_frames.specs.declared.event.Event.{Event}
use Rattle.device_core.specs.State.{Live, Station}
use Rattle.device_core.specs.Handled.{Writes, kept_answer, outcome_of}
use Rattle.device_core.specs.Machine.{Stepped, first_answer, handled_step, written_as}
use Rattle.octets_law.specs.Octets.{answers_in, asking_of, commands_in, statuses_in, written_by}
use Rattle.octets_law.specs.Bridge.{Bridges}
use Rattle.octets_law.proofs.WriteAnswers.{one_read}
use Rattle.octets_law.proofs.WriteCalls.{IsAsked, one_asked, one_wide}
use Rattle.octets_law.proofs.WriteFaults.{IsPlainIn, plain_not, writing_plain}
use Rattle.octets_law.proofs.WriteMarks.{other_fault}
use Rattle.octets_law.proofs.WriteSteps.{kept_write, refused_write, written_one}

-- An answer to one record has one status.
text_answer : (header : IodWriteReq) (answer : BlockError) → length header.header.ar_uuid ≡ 16 → statuses_in 16 (drop 64 (outcome_of Writing (written_as header answer)).1) ≡ []
text_answer header error.Done wide = one_read header wide
text_answer header error.Exhausted wide = refl
text_answer header error.Local wide = refl
text_answer header error.Option wide = refl
text_answer header error.Suboption wide = refl
text_answer header error.Value wide = refl
text_answer header error.InOperation wide = refl

kept_statuses : (header : IodWriteReq) (kept : Result Records CallFault) → length header.header.ar_uuid ≡ 16 → statuses_in 16 (drop 64 (outcome_of Writing (kept_answer header kept)).1) ≡ []
kept_statuses header (Ok records) wide = one_read header wide
kept_statuses header (Err why) wide = refl

-- A Write of an I&M text.
pub write_step : (mac : Mac) (names : List (List ℕ)) (outcomes : List Outcome) (station : Station) (live : Live) (event : Event) (caller : Caller) (address : List ℕ) (call : Call)
    (write : Write) (value : ImValue) (standing : Option (List ℕ)) (real : Real) (blocks : List ℕ)
    → writing_of standing real blocks ≡ Ok (One write) → write.effect ≡ Stores value → commands_in (asking_of mac event) ≡ written_by blocks
    → flat_map (answers_in (asking_of mac event)) (handled_step outcomes station live (Writes caller address call write.request value)).frames
    ≡ number_of (outcome_of Writing (written_as write.request (first_answer (carried outcomes live.values (Ask (SetIm value) ∷ [])).answers))).0
    ∷ statuses_in 16 (drop 64 (outcome_of Writing (written_as write.request (first_answer (carried outcomes live.values (Ask (SetIm value) ∷ [])).answers))).1)
    → Bridges mac names event live.values (handled_step outcomes station live (Writes caller address call write.request value))
write_step mac names outcomes station live event caller address call write value standing real blocks is effect reads told =
    let answer : BlockError = first_answer (carried outcomes live.values (Ask (SetIm value) ∷ [])).answers in
    written_one mac names outcomes station live event caller address call write.request value
    (reads ∙ subst (λ e. IsAsked e (written_by blocks)) effect (one_asked standing real blocks write is))
    (told ∙ ap (λ l. number_of (outcome_of Writing (written_as write.request answer)).0 ∷ l) (text_answer write.request answer (one_wide standing real blocks write is)))

-- A Write of a parameter record.
pub kept_step : (mac : Mac) (names : List (List ℕ)) (event : Event) (live : Live) (step : Stepped) (write : Write) (parameter : TakenRecord) (kept : Result Records CallFault)
    (standing : Option (List ℕ)) (real : Real) (blocks : List ℕ)
    → writing_of standing real blocks ≡ Ok (One write) → write.effect ≡ Keeps parameter → step.accepted ≡ [] → commands_in (asking_of mac event) ≡ written_by blocks
    → flat_map (answers_in (asking_of mac event)) step.frames
    ≡ number_of (outcome_of Writing (kept_answer write.request kept)).0 ∷ statuses_in 16 (drop 64 (outcome_of Writing (kept_answer write.request kept)).1)
    → Bridges mac names event live.values step
kept_step mac names event live step write parameter kept standing real blocks is effect none reads told =
    let asked : IsAsked (Keeps parameter) (written_by blocks) = subst (λ e. IsAsked e (written_by blocks)) effect (one_asked standing real blocks write is) in
    kept_write mac names event live step (number_of (outcome_of Writing (kept_answer write.request kept)).0) asked.0 none (reads ∙ asked.1)
    (told ∙ ap (λ l. number_of (outcome_of Writing (kept_answer write.request kept)).0 ∷ l) (kept_statuses write.request kept (one_wide standing real blocks write is)))

-- A Write that is refused.
pub refused_step : (mac : Mac) (names : List (List ℕ)) (event : Event) (live : Live) (step : Stepped) (standing : Option (List ℕ)) (real : Real) (blocks : List ℕ) (why : CallFault)
    → writing_of standing real blocks ≡ Err why → step.accepted ≡ []
    → flat_map (answers_in (asking_of mac event)) step.frames ≡ number_of (status_of Writing why) ∷ statuses_in 16 (drop 64 [])
    → Bridges mac names event live.values step
refused_step mac names event live step standing real blocks why is none told =
    refused_write mac names event live step (number_of (status_of Writing why)) none (other_fault why (plain_not why (subst IsPlainIn is (writing_plain standing real blocks)))) told
