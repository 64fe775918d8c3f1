-- A step is bridged if its commands are read as they are, and their answers too; and a step that asks nothing.
use Rattle.std.proofs.Common.{◌≡◌, ℕ, Bool, true, false, List, [], ◌∷◌, ◌++◌, map, take, zip, flat_map, filter_map, Option, refl, sym, ap, subst, ◌∙◌, inl}
use Rattle.pn_values.specs.declared.mac.Mac.{Mac}
use Rattle.pn_values.specs.declared.command.Command.{Command}
use Rattle.pn_values.specs.declared.set_item.SetItem.{SetItem}
use Rattle.dcp_core.specs.Bytes.{error_number}
use Rattle.settings_journal.specs.settings_store.State.{Values}
use Rattle.settings_journal.specs.settings_store.Machine.{Outcome, Accepted, Carried, carried, commands_of}
use Rattle.settings_journal.proofs.SettingsStoreMachine.{failed_all}
use Rattle.device_frames.specs.declared.event.Event.{Event}
use Rattle.device_frames.specs.Heard.{heard_of}
use Rattle.device_core.specs.State.{Live, Station}
use Rattle.device_core.specs.Machine.{Stepped, items_of, step_of}
use Rattle.octets_law.specs.Octets.{answers_in, asking_of, commands_in, fates}
use Rattle.octets_law.specs.Bridge.{Bridges, done_in}
use Rattle.octets_law.specs.Headline.{AreAmong}
use Rattle.octets_law.proofs.Marks.{AreMatched, accepted_among, fives, fives_first, fives_none, marks, not_empty, zeros, zeros_done}
use Rattle.octets_law.proofs.Split.{step_accepted, step_values}

no_front : (values : Values) (outcomes : List Outcome) (items : List SetItem) (front : List Accepted) (last : Accepted) → values.has_failed ≡ true
    → (carried outcomes values items).accepted ≡ front ++ last ∷ [] → ⊥
no_front values outcomes items front last failed parts = not_empty front last (sym (ap (λ (r : Carried). r.accepted) (failed_all outcomes values items failed)) ∙ parts)

pub first_fault : (outcomes : List Outcome) (values : Values) (items : List SetItem) (reads : List (Option Command)) → AreMatched items reads
    → (front : List Accepted) (last : Accepted) → (carried outcomes values items).accepted ≡ front ++ last ∷ [] → last.is_done ≡ false
    → take 1 (fives (marks reads (carried outcomes values items).answers)) ≡ last.command ∷ []
first_fault outcomes values items reads matched front last parts undone = by_case values.has_failed refl
  where
    by_case : (failed : Bool) → values.has_failed ≡ failed → take 1 (fives (marks reads (carried outcomes values items).answers)) ≡ last.command ∷ []
    by_case true is = absurd (no_front values outcomes items front last is parts)
    by_case false is = fives_first outcomes values items reads matched is front last parts undone

-- A step whose items are read as commands, and whose frames answer them.
pub bridged : (mac : Mac) (names : List (List ℕ)) (outcomes : List Outcome) (station : Station) (live : Live) (event : Event)
    → AreMatched (items_of station live (heard_of station.identity event)) (commands_in (asking_of mac event))
    → flat_map (answers_in (asking_of mac event)) (step_of outcomes station live event).frames
    ≡ map error_number (carried outcomes live.values (items_of station live (heard_of station.identity event))).answers
    → Bridges mac names event live.values (step_of outcomes station live event)
bridged mac names outcomes station live event matched answered =
    let items : List SetItem = items_of station live (heard_of station.identity event) in
    let reads : List (Option Command) = commands_in (asking_of mac event) in
    let step : Stepped = step_of outcomes station live event in
    let result : Carried = carried outcomes live.values items in
    let accepted : step.accepted ≡ result.accepted = step_accepted outcomes station live event in
    let values : step.live.values ≡ result.values = step_values outcomes station live event in
    let told : fates (asking_of mac event) step.frames ≡ marks reads result.answers = ap (zip reads) answered in
    record {
      confirms = inl (ap done_in accepted ∙ zeros_done outcomes live.values items reads matched ∙ sym (ap zeros told));
      no_fault = λ fine. inl (ap fives told ∙ fives_none outcomes live.values items reads matched (sym (ap (λ (v : Values). v.has_failed) values) ∙ fine));
      fault = λ front last parts undone.
          ap (λ l. take 1 (fives l)) told ∙ first_fault outcomes live.values items reads matched front last (sym accepted ∙ parts) undone;
      among = subst (λ l. AreAmong (commands_of l) (filter_map (λ read. read) reads)) (sym accepted) (accepted_among outcomes live.values items reads matched);
    }
