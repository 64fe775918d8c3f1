-- Units of time that pass at once: none calls the flash.
use Rattle.std.proofs.Common.{◌≡◌, ◌++◌, ℕ, zero, suc, false, List, [], refl, sym, ap, subst, ◌∙◌, arith}
use Rattle.std.proofs.lemmas.List.{append-nil}
use Rattle.settings_journal.specs.settings_store.State.{Values}
use Rattle.settings_journal.specs.Image.{LeftByDevice, StartsWith}
use Rattle.settings_journal.specs.settings_store.Legal.{made_of}
use Rattle.settings_journal.specs.settings_store.Machine.{Accepted}
use Rattle.device_frames.specs.declared.event.Event.{Event}
use Rattle.device_frames.specs.declared.event.Event.TheVariants.{Tick}
use Rattle.device_frames.specs.declared.note.Note.{Note}
use Rattle.device_frames.specs.Heard.{heard_of}
use Rattle.device_core.specs.Leaps.{NoneSends, OnlyTheLastSends, ticks_of}
use Rattle.device_core.specs.Machine.{handled_step, heard_step, step_of}
use Rattle.device_core.specs.State.{Live, State, Station}
use Rattle.device_core.specs.Steps.{IsQuietStep}
use Rattle.device_station.specs.recorded.Record.{image_of, recalled, record_of}
use Rattle.device_station.specs.recorded.Laws.{IsImage-of}
use Rattle.device_station.specs.declared.recorded.flash.RecordedFlash.{RecordedFlash}
use Rattle.device_station.specs.recording.Calls.{AreLegal, CallsOf}
use Rattle.device_station.specs.recording.Leaps.{PassesAll, PassesOne, StepsAlone}
use Rattle.device_station.proofs.RecordingLegal.{are_legal}

-- A step that asks nothing of the settings, and sends nothing.
pub quiet_alone : {S : ℕ} (old new : State (RecordedFlash S)) (event : Event) (said : Note) → StartsWith (image_of old.flash) old.live.values.stored old.live.values.room
    → IsQuietStep old event said new → StepsAlone old event [] said new
quiet_alone {S} old new event said starts quiet =
    let accepted = (step_of [] old.station old.live event).accepted in
    let stored = old.live.values.stored in
    let there : StartsWith (image_of new.flash) old.live.values.stored old.live.values.room =
    subst (λ (f : RecordedFlash S). StartsWith (image_of f) old.live.values.stored old.live.values.room) (sym quiet.flash) starts in
    record {
      exact = quiet.exact;
      records = record {
        calls = [];
        of_commands = subst (λ (a : List Accepted). CallsOf (image_of old.flash) stored old.live.values.room a []) (sym quiet.none) (refl, starts);
        record_is = ap record_of quiet.flash;
        few = omega arith;
        short = omega arith;
        last = (recalled new.flash, sym (append-nil (recalled new.flash)));
        image = ap image_of quiet.flash;
        made = ap (λ (v : Values). v.stored) quiet.values ∙ ap (λ (a : List Accepted). made_of a stored) (sym quiet.none);
        starts = subst (λ (v : Values). StartsWith (image_of new.flash) v.stored v.room) (sym quiet.values) there;
        left = λ left. subst (λ (f : RecordedFlash S). LeftByDevice (image_of f)) (sym quiet.flash) left;
        legal = subst (λ (a : List Accepted). AreLegal S (image_of old.flash) stored a []) (sym quiet.none)
            (are_legal _ (image_of old.flash) stored old.live.values.room [] [] (IsImage-of old.flash).first_size (refl, starts));
      };
      none = refl;
    }

abbrev with_live : {S : ℕ} → State (RecordedFlash S) → Live → State (RecordedFlash S)
with_live device live = record device { live = live }

-- A unit of time changes no setting.
tick_keeps : (station : Station) (live : Live) → (step_of [] station live Tick).live.values ≡ live.values
unfolding heard_of heard_step handled_step
tick_keeps station live = refl

ticks_keep : (station : Station) (live : Live) (units : ℕ) → (ticks_of units station live).live.values ≡ live.values
ticks_keep station live zero = refl
ticks_keep station live (suc units) = tick_keeps station (ticks_of units station live).live ∙ ticks_keep station live units

-- The flash starts with the stored settings of these values.
abbrev StartsAs : {S : ℕ} → RecordedFlash S → Values → Type 0
StartsAs flash values = StartsWith (image_of flash) values.stored values.room

passes_one : {S : ℕ} (old : State (RecordedFlash S)) (sent : List (List ℕ)) → StartsAs old.flash old.live.values → sent ≡ (step_of [] old.station old.live Tick).frames
    → PassesOne old sent (with_live old (step_of [] old.station old.live Tick).live)
unfolding heard_of heard_step handled_step
passes_one old sent starts frames = record {
  exact = record { same = refl; live = refl; frames = frames; note = refl };
  records = record {
    calls = [];
    of_commands = (refl, starts);
    record_is = refl;
    few = omega arith;
    short = omega arith;
    last = (recalled old.flash, sym (append-nil (recalled old.flash)));
    image = refl;
    made = refl;
    starts = starts;
    left = λ left. left;
    legal = are_legal _ (image_of old.flash) old.live.values.stored old.live.values.room [] [] (IsImage-of old.flash).first_size (refl, starts);
  };
  none = refl;
}

pub passes_all : {S : ℕ} (old : State (RecordedFlash S)) (units : ℕ) → StartsAs old.flash old.live.values → OnlyTheLastSends units old.station old.live
    → PassesAll units old (ticks_of units old.station old.live).frames (with_live old (ticks_of units old.station old.live).live)
passes_all old zero starts last = (refl, refl)
passes_all {S} old (suc units) starts last =
    let before = ticks_of units old.station old.live in
    let between = with_live old before.live in
    let quiet : before.frames ≡ [] = last units (omega arith) in
    let earlier = passes_all old units starts (λ first sooner. last first (omega (arith, sooner))) in
    let there : StartsAs between.flash between.live.values = subst (StartsAs old.flash) (sym (ticks_keep old.station old.live units)) starts in (
      between,
      subst (λ (f : List (List ℕ)). PassesAll units old f between) quiet earlier,
      passes_one between (before.frames ++ (step_of [] old.station before.live Tick).frames) there (ap (λ (f : List (List ℕ)). f ++ (step_of [] old.station before.live Tick).frames) quiet),
    )

-- The same of units of which none sends.
pub passes_quietly : {S : ℕ} (old : State (RecordedFlash S)) (units : ℕ) → StartsAs old.flash old.live.values → NoneSends units old.station old.live
    → PassesAll units old [] (with_live old (ticks_of units old.station old.live).live)
passes_quietly old units starts none =
    subst (λ (f : List (List ℕ)). PassesAll units old f (with_live old (ticks_of units old.station old.live).live)) (none units (omega arith))
    (passes_all old units starts (λ before few. none before (omega (arith, few))))

pub goes_on : (station : Station) (live : Live) (units : ℕ) → live.values.has_failed ≡ false → (ticks_of units station live).live.values.has_failed ≡ false
goes_on station live units going = ap (λ (v : Values). v.has_failed) (ticks_keep station live units) ∙ going

-- Of one unit only the last one sends.
none_before : (before : ℕ) (station : Station) (live : Live) → before ≡ zero → (ticks_of before station live).frames ≡ []
none_before before station live is = ap (λ (n : ℕ). (ticks_of n station live).frames) is

pub only_one : (station : Station) (live : Live) → OnlyTheLastSends 1 station live
only_one station live before few = none_before before station live (omega (arith, few))
