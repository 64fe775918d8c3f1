-- One step, from the calls that its items made to the flash.
use Rattle.std.proofs.Common.{◌≡◌, ◌≤◌, ◌++◌, false, [], length, map, sym, ap, subst, ◌∙◌, arith}
use Rattle.std.proofs.lemmas.List.{map-append}
use Rattle.device_core.specs.Machine.{items_of, handled_step, heard_step, step_of}
use Rattle.device_core.specs.State.{State, store_of}
use Rattle.device_frames.specs.Heard.{heard_of}
use Rattle.device_frames.specs.declared.event.Event.{Event}
use Rattle.settings_journal.specs.Cut.{all_carried_out}
use Rattle.settings_journal.specs.settings_store.Carries.{OneByOne, Holds, Stretch}
use Rattle.device_station.specs.recorded.Record.{call_in, entry_of, image_of, record_of}
use Rattle.device_station.specs.recorded.Laws.{IsImage-of}
use Rattle.device_station.specs.declared.recorded.flash.RecordedFlash.{RecordedFlash}
use Rattle.device_station.specs.recording.Calls.{sum_of}
use Rattle.device_station.specs.recording.Recorded.{Records}
use Rattle.device_station.proofs.RecordingFew.{few_of_commands, few_of_items, short_of_commands}
use Rattle.device_station.proofs.RecordingBytes.{HasAll}
use Rattle.device_station.proofs.RecordingHeld.{all_held, long_of, read_back}
use Rattle.device_station.proofs.RecordingLegal.{are_legal}
use Rattle.device_station.proofs.RecordingPlaced.{after_image, as_recorded, items_calls, last_calls}

pub step_records : (old new : State (RecordedFlash 4096)) (event : Event) → Holds (image_of old.flash) old.live.values → old.live.values.has_failed ≡ false
    → length (items_of old.station old.live (heard_of old.station.identity event)) ≤ 16
    → OneByOne as_recorded [] (store_of old) (items_of old.station old.live (heard_of old.station.identity event)) (store_of new)
    → Stretch as_recorded (store_of old) (step_of [] old.station old.live event).accepted (store_of new) → new.live.values.has_failed ≡ false → Records old (step_of [] old.station old.live event).accepted new
unfolding heard_step handled_step
step_records old new event holds going asks placed stretch goes =
    let all = items_calls (store_of old) (store_of new) (items_of old.station old.live (heard_of old.station.identity event)) placed going holds in
    let is = all.asked.1 all.writes in
    let accepts = few_of_items old.live.values (items_of old.station old.live (heard_of old.station.identity event)) in
    let commits = few_of_commands (image_of old.flash) old.live.values.stored old.live.values.room _ all.calls all.of_commands in
    let few : length all.calls ≤ 48 = omega (arith, asks, accepts, commits) in
    let octets = short_of_commands (image_of old.flash) old.live.values.stored old.live.values.room _ all.calls all.of_commands in
    let short : sum_of all.calls ≤ 7008 = omega (arith, asks, accepts, octets) in
    let kept = last_calls (record_of old.flash) all.calls few in
    let image : image_of new.flash ≡ all_carried_out (image_of old.flash) all.calls = ap (λ r. r.image) is ∙ after_image (record_of old.flash) all.calls in
    let held = all_held (image_of old.flash) old.live.values.stored old.live.values.room _ all.calls (long_of (image_of old.flash) (IsImage-of old.flash)) all.of_commands all.asked.0 (omega (arith, asks, accepts)) all.paid in
    record {
      calls = all.calls;
      of_commands = all.of_commands;
      record_is = is;
      few = few;
      short = short;
      last = (
        map (call_in (image_of new.flash)) kept.0,
        ap (map (call_in (image_of new.flash))) (ap (λ r. r.recent) is ∙ kept.1) ∙ map-append (call_in (image_of new.flash)) kept.0 (map entry_of all.calls)
            ∙ ap (λ l. map (call_in (image_of new.flash)) kept.0 ++ l) (read_back (image_of new.flash) all.calls all.writes (subst (λ i. HasAll i all.calls) (sym image) held)),
      );
      image = image;
      made = stretch.made goes;
      starts = stretch.holds goes;
      left = stretch.safe.left;
      legal = are_legal _ (image_of old.flash) old.live.values.stored old.live.values.room _ all.calls (IsImage-of old.flash).first_size all.of_commands;
    }
