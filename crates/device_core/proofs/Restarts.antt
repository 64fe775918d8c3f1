-- A cycle and the start after it, from a start, a run and a start.
use Rattle.std.proofs.Common.{rules, ◌≡◌, ℕ, false, List, [], Result, Ok, Err, IsOk, IfOk, IfErr, MatchResult, refl, sym, ap, subst, ◌∙◌, inl, inr}
use Rattle.flash_model.specs.Image.{Image}
use Rattle.flash_model.specs.declared.flash.Flash.{Ghosts as Flash}
use Rattle.pn_values.specs.declared.settings.Settings.{Settings}
use Rattle.settings_journal.specs.declared.journal.BootFault.{BootFault}
use Rattle.settings_journal.specs.declared.journal.BootFault.TheVariants.{FlashFault, Foreign}
use Rattle.settings_journal.specs.Commit.{HasBootCause}
use Rattle.settings_journal.specs.Image.{StartsWith, IsForeign, LeftByDevice}
use Rattle.settings_journal.specs.settings_store.Legal.{CrashSafe, LegalEnd}
use Rattle.settings_journal.specs.settings_store.Machine.{Accepted}
use Rattle.settings_journal.specs.settings_store.Carries.{IsCaused}
use Rattle.relations.specs.Exchanged.{output_in}
use Rattle.device_frames.specs.declared.event.Event.{Event}
use Rattle.device_core.specs.State.{Station, State, Live}
use Rattle.device_core.specs.Steps.{AnswersBy, IsIdentified, Runs}
use Rattle.device_core.specs.Cycle.{started, cycle_of, Cycled, IsMadeOf, IsStarted, Restarts, Refuses, RefusesAfter}
use Rattle.device_frames.specs.Heard.{heard_of}
use Rattle.relations.specs.Outputs.{output_of}
use Rattle.device_core.specs.Machine.{step_of}
use Rattle.device_core.proofs.Steps.{same_state, identify_heard}

-- A device with these running settings answers Identify with them.
answers_by : (station : Station) (live : Live) → live.values.running ≡ live.values.stored → AnswersBy station live.values.stored live
answers_by station live runs outcomes event asker request is identify =
    subst (λ settings. IsIdentified station.identity settings live asker request (step_of outcomes station live event)) runs
    (identify_heard outcomes station live (heard_of station.identity event) asker request is identify)

-- A device that started on a flash.
is_started_from : {F : Type 0} {S : ℕ} (as_flash : Flash F S) (station : Station) (flash : F) (device : State F) → device.station ≡ station
    → device.live ≡ started station.real device.live.values.stored device.live.values.room → StartsWith (as_flash.image flash) device.live.values.stored device.live.values.room → as_flash.image device.flash ≡ as_flash.image flash
    → IsStarted as_flash station device
is_started_from as_flash station flash device station_is fresh starts image_is = record {
  station_is = station_is;
  nothing_else = fresh;
  starts = subst (λ i. StartsWith i device.live.values.stored device.live.values.room) (sym image_is) starts;
  answers = answers_by station device.live (ap (λ l. l.values.running) fresh);
  shows = λ slot subslot. ap (λ (live : Live). output_of station.real slot subslot (output_in slot subslot live.rest.link)) fresh;
}

-- The same if the start may be refused.
pub is_started_if : {F : Type 0} {S : ℕ} (as_flash : Flash F S) (station : Station) (ran : State F) (flash : F) (again : Result (State F) (BootFault × F)) → ran.station ≡ station
    → IfOk again (λ device. device.station ≡ ran.station)
    → IfOk again (λ device. device.live ≡ started station.real device.live.values.stored device.live.values.room)
    → IfOk again (λ device. StartsWith (as_flash.image flash) device.live.values.stored device.live.values.room)
    → MatchResult again (λ device. as_flash.image device.flash ≡ as_flash.image flash) (λ refused. as_flash.image refused.1 ≡ as_flash.image flash)
    → IfOk again (IsStarted as_flash station)
is_started_if as_flash station ran flash (Ok again) is_station same fresh starts image_is =
    is_started_from as_flash station flash again (same ∙ is_station) fresh starts image_is
is_started_if as_flash station ran flash (Err refused) is_station same fresh starts image_is = tt

-- A start on a legal end has what its commands make of the first settings.
ends_made : (station : Station) (image : Image) (accepted : List Accepted) (first : Settings) (live : Live)
    → ((settings : Settings) (room : ℕ) → StartsWith image settings room → live ≡ started station.real settings room) → LegalEnd image accepted first → IsMadeOf accepted first live.values.stored
ends_made station image accepted first live known (inl boots) = inl (ap (λ l. l.values.stored) (known _ boots.0 boots.1))
ends_made station image accepted first live known (inr less) =
    inr (less.front, less.last, less.parts, less.not_done, ap (λ l. l.values.stored) (known _ less.boots.0 less.boots.1))

-- A device that started with these settings.
device_of : {F : Type 0} → F → Station → Settings → ℕ → State F
device_of flash station first room = record { flash = flash; station = station; live = started station.real first room }

-- A run from a start is a cycle.
cycled_from : {F : Type 0} {S : ℕ} (as_flash : Flash F S) (station : Station) (flash begun : F) (first : Settings) (room : ℕ)
    (events : List Event) (before now : List (List ℕ)) (ran : State F) → as_flash.image begun ≡ as_flash.image flash → as_flash.failures begun ≡ as_flash.failures flash → as_flash.asked flash [] begun
    → (runs : Runs as_flash (device_of begun station first room) events before now ran)
    → Cycled as_flash station flash first room events before now runs.outcomes ran.flash
unfolding device_of
cycled_from as_flash station flash begun first room events before now ran same_image same_failures inactive runs =
    let end = cycle_of runs.outcomes station first room events in
    let values : ran.live.values ≡ end.live.values = ap (λ l. l.values) runs.live in
    record {
      begun = begun;
      begins = (same_image, same_failures, inactive);
      caused = subst (λ n. IsCaused n (as_flash.failures ran.flash) (started station.real first room).values end.live.values) same_failures
          (subst (λ v. IsCaused (as_flash.failures begun) (as_flash.failures ran.flash) (started station.real first room).values v) values runs.stretch.caused);
      inactive = λ fine. runs.inactive (ap (λ v. v.has_failed) values ∙ fine);
      placed = runs.placed;
      handed_on = runs.frames;
      safe = subst (λ i. CrashSafe false first end.accepted i (as_flash.image ran.flash)) same_image runs.stretch.safe;
      untouched = runs.stretch.untouched;
    }

-- The run of this device.
run_from : {F : Type 0} {S : ℕ} (as_flash : Flash F S) (station : Station) (first : Settings) (room : ℕ) (events : List Event)
    (before now : List (List ℕ)) (begun ran : State F) → begun.live ≡ started station.real first room → begun.station ≡ station
    → Runs as_flash begun events before now ran → Runs as_flash (device_of begun.flash station first room) events before now ran
unfolding device_of
run_from as_flash station first room events before now begun ran live is_station run =
    subst (λ s. Runs as_flash s events before now ran) (same_state begun (device_of begun.flash station first room) refl is_station live) run

pub cycle_restarts : {F : Type 0} {S : ℕ} (as_flash : Flash F S) (power_up : F → F → Type 0) (station : Station) (flash : F) (first : Settings) (room : ℕ)
    (events : List Event) (before now : List (List ℕ)) (begun ran : State F) (back : F) (again : State F)
    → begun.live ≡ started station.real first room → begun.station ≡ station → as_flash.image begun.flash ≡ as_flash.image flash → as_flash.failures begun.flash ≡ as_flash.failures flash → as_flash.asked flash [] begun.flash
    → LeftByDevice (as_flash.image flash) → Runs as_flash begun events before now ran → power_up ran.flash back → as_flash.image back ≡ as_flash.image ran.flash
    → ((settings : Settings) (room : ℕ) → StartsWith (as_flash.image back) settings room → again.live ≡ started station.real settings room)
    → again.live ≡ started station.real again.live.values.stored again.live.values.room → StartsWith (as_flash.image back) again.live.values.stored again.live.values.room
    → again.station ≡ ran.station → as_flash.image again.flash ≡ as_flash.image back → as_flash.failures again.flash ≡ as_flash.failures back → as_flash.asked back [] again.flash
    → Restarts as_flash power_up station flash first room events before now again
unfolding device_of
cycle_restarts as_flash power_up station flash first room events before now begun ran back again live is_station same_image same_failures inactive left run powered kept known fresh starts same_station image_is failures_is none_asked =
    let runs = run_from as_flash station first room events before now begun ran live is_station run in
    let cycled = cycled_from as_flash station flash begun.flash first room events before now ran same_image same_failures inactive runs in
    let end = cycle_of runs.outcomes station first room events in
    let values = ap (λ l. l.values) runs.live in
    record {
      outcomes = runs.outcomes;
      lost = ran.flash;
      back = back;
      powered = powered;
      cycled = cycled;
      has = ends_made station (as_flash.image back) _ first again.live known (subst (λ i. LegalEnd i end.accepted first) (sym kept) (cycled.safe.legal refl left));
      clean = λ fine.
          known end.live.values.stored end.live.values.room
          (subst (λ i. StartsWith i end.live.values.stored end.live.values.room) (sym kept)
          (subst (λ v. StartsWith (as_flash.image ran.flash) v.stored v.room) values (runs.stretch.holds (ap (λ v. v.has_failed) values ∙ fine))));
      is_started = is_started_from as_flash station back again (same_station ∙ runs.same) fresh starts image_is;
      left = subst LeftByDevice (sym (image_is ∙ kept)) (cycled.safe.left left);
      same = (image_is ∙ kept, failures_is, none_asked);
    }

-- The same if the start may be refused.
pub restarts_if : {F : Type 0} {S : ℕ} (as_flash : Flash F S) (power_up : F → F → Type 0) (station : Station) (flash : F) (first : Settings) (room : ℕ)
    (events : List Event) (before now : List (List ℕ)) (begun ran : State F) (back : F) (again : Result (State F) (BootFault × F))
    → begun.live ≡ started station.real first room → begun.station ≡ station → as_flash.image begun.flash ≡ as_flash.image flash → as_flash.failures begun.flash ≡ as_flash.failures flash → as_flash.asked flash [] begun.flash
    → LeftByDevice (as_flash.image flash) → Runs as_flash begun events before now ran → power_up ran.flash back → as_flash.image back ≡ as_flash.image ran.flash
    → ((settings : Settings) (room : ℕ) → StartsWith (as_flash.image back) settings room → MatchResult again (λ device. device.live ≡ started station.real settings room) (λ refused. refused.0 ≡ FlashFault))
    → IfOk again (λ device. device.live ≡ started station.real device.live.values.stored device.live.values.room)
    → IfOk again (λ device. StartsWith (as_flash.image back) device.live.values.stored device.live.values.room)
    → IfOk again (λ device. device.station ≡ ran.station)
    → MatchResult again (λ device. as_flash.image device.flash ≡ as_flash.image back) (λ refused. as_flash.image refused.1 ≡ as_flash.image back)
    → MatchResult again (λ device. as_flash.failures device.flash ≡ as_flash.failures back) (λ refused. HasBootCause refused.0 (as_flash.failures back) (as_flash.failures refused.1))
    → MatchResult again (λ device. as_flash.asked back [] device.flash) (λ refused. as_flash.asked back [] refused.1)
    → IfOk again (λ device. Restarts as_flash power_up station flash first room events before now device)
restarts_if as_flash power_up station flash first room events before now begun ran back (Ok again) live is_station same_image same_failures inactive left run powered kept known fresh starts same image_is cause none_asked =
    cycle_restarts as_flash power_up station flash first room events before now begun ran back again live is_station same_image same_failures inactive left run powered kept
    known fresh starts same image_is cause none_asked
restarts_if as_flash power_up station flash first room events before now begun ran back (Err refused) live is_station same_image same_failures inactive left run powered kept known fresh starts same image_is cause none_asked = tt

-- A start that is refused, from what the start returns.
pub refuses_from : {F : Type 0} {S : ℕ} (as_flash : Flash F S) (flash : F) (fault : BootFault) (left : F)
    → HasBootCause fault (as_flash.failures flash) (as_flash.failures left) → as_flash.image left ≡ as_flash.image flash → as_flash.asked flash [] left → (fault ≡ Foreign → IsForeign (as_flash.image flash)) → Refuses as_flash flash fault left
refuses_from as_flash flash fault left cause same none_asked foreign = record {
  cause = cause;
  same = same;
  none_asked = none_asked;
  foreign = λ is. subst IsForeign (sym same) (foreign is);
}

-- A start after the cycle that is refused.
pub refused_if : {F : Type 0} {S : ℕ} (as_flash : Flash F S) (power_up : F → F → Type 0) (station : Station) (flash : F) (events : List Event)
    (before now : List (List ℕ)) (begun ran : State F) (back : F) (again : Result (State F) (BootFault × F))
    → begun.live ≡ started station.real begun.live.values.stored begun.live.values.room → begun.station ≡ station
    → StartsWith (as_flash.image flash) begun.live.values.stored begun.live.values.room → as_flash.image begun.flash ≡ as_flash.image flash → as_flash.failures begun.flash ≡ as_flash.failures flash → as_flash.asked flash [] begun.flash
    → Runs as_flash begun events before now ran → power_up ran.flash back → as_flash.image back ≡ as_flash.image ran.flash
    → IfErr again (λ refused. refused.0 ≡ Foreign → IsForeign (as_flash.image back))
    → MatchResult again (λ device. as_flash.image device.flash ≡ as_flash.image back) (λ refused. as_flash.image refused.1 ≡ as_flash.image back)
    → MatchResult again (λ device. as_flash.failures device.flash ≡ as_flash.failures back) (λ refused. HasBootCause refused.0 (as_flash.failures back) (as_flash.failures refused.1))
    → MatchResult again (λ device. as_flash.asked back [] device.flash) (λ refused. as_flash.asked back [] refused.1)
    → IfErr again (λ refused. RefusesAfter as_flash power_up station flash events before now refused.0 refused.1)
refused_if as_flash power_up station flash events before now begun ran back (Ok again) live is_station starts same_image same_failures inactive run powered kept foreign same cause none_asked = tt
refused_if as_flash power_up station flash events before now begun ran back (Err refused) live is_station starts same_image same_failures inactive run powered kept foreign same cause none_asked =
    let runs = run_from as_flash station _ _ events before now begun ran live is_station run in
    record {
      first = begun.live.values.stored;
      room = begun.live.values.room;
      outcomes = runs.outcomes;
      lost = ran.flash;
      back = back;
      starts = starts;
      cycled = cycled_from as_flash station flash begun.flash _ _ events before now ran same_image same_failures inactive runs;
      powered = powered;
      kept = kept;
      refuses = refuses_from as_flash back refused.0 refused.1 cause same none_asked foreign;
    }

pub never_refused : {F : Type 0} (is_reliable : F → Type 0) (again : Result (State F) (BootFault × F))
    → MatchResult again (λ device. is_reliable device.flash) (λ refused. is_reliable refused.1 × (refused.0 ≡ Foreign)) → IfErr again (λ refused. refused.0 ≡ FlashFault) → IsOk again
never_refused is_reliable (Ok again) reliable left = search rules
never_refused is_reliable (Err refused) reliable left = let foreign = reliable.1 in cc
