-- A step of a Write, with the command of its call and the statuses of its answer.
use Rattle.std.proofs.Common.{◌≡◌, ℕ, List, [], ◌∷◌, take, zip, flat_map, filter_map, Option, Some, None, Ok, refl, sym, ap, subst, ◌∙◌, inl}
use Rattle.pn_values.specs.declared.mac.Mac.{Mac}
use Rattle.pn_values.specs.declared.im_value.ImValue.{ImValue}
use Rattle.pn_values.specs.declared.command.Command.{Command}
use Rattle.pn_values.specs.declared.command.Command.TheVariants.{SetIm}
use Rattle.pn_values.specs.declared.set_item.SetItem.TheVariants.{Ask}
use Rattle.pn_values.specs.declared.set_item.BlockError.{BlockError}
use Rattle.rpc_core.specs.Call.{Asked as Call}
use Rattle.record_blocks.specs.declared.write_record.IodWriteReq.{IodWriteReq}
use Rattle.records.specs.declared.status.operation.Operation.TheVariants.{Write as Writing}
use Rattle.records.specs.declared.writes.write.Effect.TheVariants.{Stores}
use Rattle.records.specs.writes.Answer.{number_of}
use Rattle.frame_codec.specs.declared.udp.Caller.{Caller}
use Rattle.settings_journal.specs.settings_store.Machine.{Outcome, carried}
use Rattle.device_frames.specs.declared.event.Event.{Event}
use Rattle.device_core.specs.State.{Live, Station}
use Rattle.device_core.specs.Several.{Judged, texts_in}
use Rattle.device_core.specs.Handled.{Handled, Writes, WritesEach, outcome_of}
use Rattle.device_core.specs.Machine.{Stepped, first_answer, handled_step, items_in, statuses_of, written_as}
use Rattle.octets_law.specs.Octets.{answers_in, asking_of, commands_in, confirmed, faulted, fates}
use Rattle.octets_law.specs.Bridge.{Bridges}
use Rattle.octets_law.specs.Headline.{AreAmong}
use Rattle.octets_law.proofs.Bridged.{first_fault}
use Rattle.octets_law.proofs.Marks.{AreMatched, accepted_among, fives, fives_none, marks, zeros, zeros_done}
use Rattle.octets_law.proofs.Quiet.{quiet_bridged}
use Rattle.octets_law.proofs.WriteMarks.{AreWritten, IsOther, among_written, asked_in, fates_of, fives_written, none_fives, none_zeros, numbers, other_fives, other_zeros, texts_matched, texts_stored, zeros_written}

-- A step whose confirmed commands, and those that a fault stopped, are those of its items, read so.
told_bridged : (mac : Mac) (names : List (List ℕ)) (outcomes : List Outcome) (station : Station) (live : Live) (event : Event) (what : Handled) (reads : List (Option Command))
    → AreMatched (items_in what) reads
    → confirmed (asking_of mac event) (handled_step outcomes station live what).frames ≡ zeros (marks reads (carried outcomes live.values (items_in what)).answers)
    → faulted (asking_of mac event) (handled_step outcomes station live what).frames ≡ fives (marks reads (carried outcomes live.values (items_in what)).answers)
    → ((some : List Command) → AreAmong some (filter_map (λ read. read) reads) → AreAmong some (filter_map (λ command. command) (commands_in (asking_of mac event))))
    → Bridges mac names event live.values (handled_step outcomes station live what)
unfolding handled_step
told_bridged mac names outcomes station live event what reads matched done stopped among = record {
  confirms = inl (zeros_done outcomes live.values (items_in what) reads matched ∙ sym done);
  no_fault = λ fine. inl (stopped ∙ fives_none outcomes live.values (items_in what) reads matched fine);
  fault = λ front last parts undone. ap (take 1) stopped ∙ first_fault outcomes live.values (items_in what) reads matched front last parts undone;
  among = among _ (accepted_among outcomes live.values (items_in what) reads matched);
}

-- ---- a list of records

-- The records are read as what each asks for, and the statuses of the answer are theirs.
pub written_each : (mac : Mac) (names : List (List ℕ)) (outcomes : List Outcome) (station : Station) (live : Live) (event : Event) (caller : Caller) (address : List ℕ) (call : Call)
    (header : IodWriteReq) (judged : List Judged) (texts : List (Option Command))
    → commands_in (asking_of mac event) ≡ None ∷ texts → AreWritten judged texts
    → flat_map (answers_in (asking_of mac event)) (handled_step outcomes station live (WritesEach caller address call header judged)).frames
    ≡ 0 ∷ numbers (statuses_of judged (carried outcomes live.values (texts_in judged)).answers live.rest.link)
    → Bridges mac names event live.values (handled_step outcomes station live (WritesEach caller address call header judged))
written_each mac names outcomes station live event caller address call header judged texts reads written answered =
    let what : Handled = WritesEach caller address call header judged in
    let answers : List BlockError = (carried outcomes live.values (texts_in judged)).answers in
    let stored = texts_stored outcomes live.values judged in
    let told : fates (asking_of mac event) (handled_step outcomes station live what).frames ≡ (None, 0) ∷ fates_of texts judged answers live.rest.link =
    ap (λ c. zip c (flat_map (answers_in (asking_of mac event)) (handled_step outcomes station live what).frames)) reads ∙ ap (zip (None ∷ texts)) answered in
    told_bridged mac names outcomes station live event what (asked_in (texts_in judged)) (texts_matched judged)
    (ap zeros told ∙ zeros_written judged texts answers live.rest.link written stored)
    (ap fives told ∙ none_fives 0 (fates_of texts judged answers live.rest.link) ∙ fives_written judged texts answers live.rest.link written stored)
    (λ some among. subst (λ c. AreAmong some (filter_map (λ command. command) c)) (sym reads) (among_written judged texts written some among))

-- ---- one text

-- The record is read as its text, and the status of the answer is its own.
pub written_one : (mac : Mac) (names : List (List ℕ)) (outcomes : List Outcome) (station : Station) (live : Live) (event : Event) (caller : Caller) (address : List ℕ) (call : Call)
    (header : IodWriteReq) (value : ImValue)
    → commands_in (asking_of mac event) ≡ Some (SetIm value) ∷ []
    → flat_map (answers_in (asking_of mac event)) (handled_step outcomes station live (Writes caller address call header value)).frames
    ≡ number_of (outcome_of Writing (written_as header (first_answer (carried outcomes live.values (Ask (SetIm value) ∷ [])).answers))).0 ∷ []
    → Bridges mac names event live.values (handled_step outcomes station live (Writes caller address call header value))
written_one mac names outcomes station live event caller address call header value reads answered =
    let what : Handled = Writes caller address call header value in
    let judged : List Judged = (header, Ok (record { request = header; effect = Stores value })) ∷ [] in
    let texts : List (Option Command) = Some (SetIm value) ∷ [] in
    let answers : List BlockError = (carried outcomes live.values (texts_in judged)).answers in
    let stored = texts_stored outcomes live.values judged in
    let written : AreWritten judged texts = (refl, tt) in
    let told : fates (asking_of mac event) (handled_step outcomes station live what).frames ≡ fates_of texts judged answers live.rest.link =
    ap (λ c. zip c (flat_map (answers_in (asking_of mac event)) (handled_step outcomes station live what).frames)) reads ∙ ap (zip texts) answered in
    told_bridged mac names outcomes station live event what texts (texts_matched judged)
    (ap zeros told ∙ zeros_written judged texts answers live.rest.link written stored)
    (ap fives told ∙ fives_written judged texts answers live.rest.link written stored)
    (λ some among. subst (λ c. AreAmong some (filter_map (λ command. command) c)) (sym reads) (among_written judged texts written some among))

-- ---- a Write that asks nothing of the settings

single_zeros : (commands : List (Option Command)) (number : ℕ) → IsOther number → zeros (zip commands (number ∷ [])) ≡ []
single_zeros [] number other = refl
single_zeros (one ∷ []) number other = other_zeros one number [] other
single_zeros (one ∷ two ∷ commands) number other = other_zeros one number [] other

single_fives : (commands : List (Option Command)) (number : ℕ) → IsOther number → fives (zip commands (number ∷ [])) ≡ []
single_fives [] number other = refl
single_fives (one ∷ []) number other = other_fives one number [] other
single_fives (one ∷ two ∷ commands) number other = other_fives one number [] other

-- It is refused, for another fault than one of the flash.
pub refused_write : (mac : Mac) (names : List (List ℕ)) (event : Event) (live : Live) (step : Stepped) (number : ℕ) → step.accepted ≡ [] → IsOther number
    → flat_map (answers_in (asking_of mac event)) step.frames ≡ number ∷ [] → Bridges mac names event live.values step
refused_write mac names event live step number none other answered =
    let commands : List (Option Command) = commands_in (asking_of mac event) in
    let told : fates (asking_of mac event) step.frames ≡ zip commands (number ∷ []) = ap (zip commands) answered in
    quiet_bridged mac names event live step none (ap zeros told ∙ single_zeros commands number other) (ap fives told ∙ single_fives commands number other)

silent_zeros : (commands : List (Option Command)) (number : ℕ) → zeros (zip (None ∷ commands) (number ∷ [])) ≡ []
silent_zeros [] number = none_zeros number []
silent_zeros (one ∷ commands) number = none_zeros number []

silent_fives : (commands : List (Option Command)) (number : ℕ) → fives (zip (None ∷ commands) (number ∷ [])) ≡ []
silent_fives [] number = none_fives number []
silent_fives (one ∷ commands) number = none_fives number []

-- Its one record is a parameter.
pub kept_write : (mac : Mac) (names : List (List ℕ)) (event : Event) (live : Live) (step : Stepped) (number : ℕ) (behind : List (Option Command)) → step.accepted ≡ []
    → commands_in (asking_of mac event) ≡ None ∷ behind → flat_map (answers_in (asking_of mac event)) step.frames ≡ number ∷ [] → Bridges mac names event live.values step
kept_write mac names event live step number behind none reads answered =
    let told : fates (asking_of mac event) step.frames ≡ zip (None ∷ behind) (number ∷ []) =
    ap (λ c. zip c (flat_map (answers_in (asking_of mac event)) step.frames)) reads ∙ ap (zip (None ∷ behind)) answered in
    quiet_bridged mac names event live step none (ap zeros told ∙ silent_zeros behind number) (ap fives told ∙ silent_fives behind number)
