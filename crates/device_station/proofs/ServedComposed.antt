-- What the functions of a port with services do, put together from their parts.
use Rattle.std.proofs.Common.{◌≡◌, ◌-◌, ◌<◌, ◌≤◌, ℕ, zero, suc, Bool, true, false, List, [], Option, Some, None, Ok, refl, sym, ap, subst, ◌∙◌, arith, inr}
use Rattle.arrayvec.specs.ArrayVec.{ArrayVec}
use Rattle.settings_journal.specs.settings_store.State.{Values}
use Rattle.device_core.specs.Leaps.{live_due_in}
use Rattle.device_core.specs.State.{Station}
use Rattle.device_frames.specs.declared.event.Event.{Event}
use Rattle.device_frames.specs.declared.event.Event.TheVariants.{Application, Frame}
use Rattle.device_frames.specs.declared.local.Local.TheVariants.{Input}
use Rattle.device_frames.specs.declared.note.Note.{Note}
use Rattle.device_frames.specs.declared.note.Note.TheVariants.{Done}
use Rattle.device_station.specs.Beside.{ConflictsAreNoticed, has_any, is_dropped}
use Rattle.device_station.specs.Leaps.{QuietUnitsAreTicks, QuietUnitsBringNoNews, QuietUnitsCount, QuietUnitsCountDown}
use Rattle.device_station.specs.Serving.{Serving, knows, serving_ticks}
use Rattle.pn_values.specs.declared.settings.Settings.{Settings}
use Rattle.std.specs.Cmp.Lexicographic.{pointwise}
use Rattle.std.specs.Prelude.{◌≢◌, ◌&&◌, nat_eq}
use Rattle.device_station.specs.declared.port.refusal.Refusal.TheVariants.{HasWork}
use Rattle.device_station.specs.port.State.{State, barred}
use Rattle.device_station.specs.port.Steps.{Passes, Takes, Ticks}
use Rattle.device_station.specs.port.Pace.{AreCalm, HasNoNews, IsPaced, TicksBesideAny, caught_up, soonest}
use Rattle.device_station.specs.port.Served.{Served, barred_both, due_with}
use Rattle.device_station.specs.port.ServedSteps.{AnswersBoth, GivesAny, IsBeside, IsNoticed, PassesBoth, StepsBoth, TellsBoth, TellsPortAny, TicksBoth}
use Rattle.device_station.proofs.ServedBarring.{barred_alone, free_fetched}
use Rattle.device_station.proofs.ServedHearing.{KnowsOf, OnlyConflicts, app_steps, seen_same, silent_values, steps_silent}
use Rattle.device_station.proofs.ServedLeft.{same_address}
use Rattle.device_station.proofs.ServedPacing.{calm_both, calm_news, caught_zero, due_soonest, resting_of}
use Rattle.device_station.proofs.ServedSilent.{dropped_step, input_step}
use Rattle.device_station.proofs.ServedTelling.{quiet_free, tells_first, tells_none, tells_whole}
use Rattle.device_station.proofs.ServedTicking.{at, ticks_any, ticks_kept}

-- ---- units of time in which the services have no part

pub passed_paced : (units rest limit : ℕ) (old new : State) (services : Option Serving) (frames : List (List ℕ)) → units < rest → IsPaced rest limit old.device.live.values services frames
    → Ticks units old new → IsPaced (rest - units) limit new.device.live.values services frames
passed_paced units rest limit old new services frames few paced ticks =
    let resting = resting_of rest limit old.device.live.values services frames (omega (arith, few)) paced in
    inr (record {
      some = omega (arith, few);
      inside = omega (arith, few, resting.inside);
      fetched = resting.fetched;
      calm = subst (λ (v : Values). AreCalm limit v services) (sym (ticks_kept units old new ticks).1) resting.calm;
    })

pub ticks_calm : QuietUnitsAreTicks → QuietUnitsCount → QuietUnitsBringNoNews → (units rest limit : ℕ) (serves : Bool) (old new : State) (services : Option Serving) (frames : List (List ℕ)) → units < rest
    → IsPaced rest limit old.device.live.values services frames → Ticks units old new
    → TicksBoth units (at serves old (caught_up (limit - rest) services) frames) (at serves new (caught_up (limit - (rest - units)) services) frames)
ticks_calm quiet counts news units rest limit serves old new services frames few paced ticks =
    let resting = resting_of rest limit old.device.live.values services frames (omega (arith, few)) paced in
    let all = calm_both quiet counts news units rest limit serves old new services few resting.inside resting.calm ticks in
    subst (λ (f : List (List ℕ)). TicksBoth units (at serves old (caught_up (limit - rest) services) f) (at serves new (caught_up (limit - (rest - units)) services) f)) (sym resting.fetched) all

pub passes_calm : QuietUnitsAreTicks → QuietUnitsCount → QuietUnitsBringNoNews → (units rest limit : ℕ) (serves : Bool) (old new : State) (services : Option Serving) (frames : List (List ℕ)) → units < rest
    → IsPaced rest limit old.device.live.values services frames → Ticks units old new
    → PassesBoth (at serves old (caught_up (limit - rest) services) frames) units 0 (at serves new (caught_up (limit - (rest - units)) services) frames)
passes_calm quiet counts news units rest limit serves old new services frames few paced ticks =
    let all : units ≡ units - 0 = omega arith in
    record {
      few = omega arith;
      ticks = subst (λ (n : ℕ). TicksBoth n (at serves old (caught_up (limit - rest) services) frames) (at serves new (caught_up (limit - (rest - units)) services) frames)) all
          (ticks_calm quiet counts news units rest limit serves old new services frames few paced ticks);
      stops = λ left. absurd (left refl);
    }

-- Some of them may remain if the device has sent something.
pub passes_left : QuietUnitsAreTicks → QuietUnitsCount → QuietUnitsBringNoNews → (units left rest limit : ℕ) (serves : Bool) (old new : State) (services : Option Serving) (frames : List (List ℕ)) → units < rest
    → IsPaced rest limit old.device.live.values services frames → Passes old units left new
    → PassesBoth (at serves old (caught_up (limit - rest) services) frames) units left (at serves new (caught_up (limit - (rest - (units - left))) services) frames)
passes_left quiet counts news units left rest limit serves old new services frames few paced passes =
    let resting = resting_of rest limit old.device.live.values services frames (omega (arith, few)) paced in
    record {
      few = passes.few;
      ticks = ticks_calm quiet counts news (units - left) rest limit serves old new services frames (omega (arith, few)) paced passes.ticks;
      stops = λ some. barred_alone (at serves new (caught_up (limit - (rest - (units - left))) services) frames) resting.fetched ∙ passes.stops some;
    }

pub passes_on : (units left : ℕ) (old now new : Served) → left ≤ units → TicksBoth (units - left) old now → new ≡ now → (left ≢ 0 → barred_both now ≡ Some HasWork) → PassesBoth old units left new
passes_on units left old now new few ticks same stops =
    let passes : PassesBoth old units left now = record { few = few; ticks = ticks; stops = stops } in
    subst (λ (s : Served). PassesBoth old units left s) (sym same) passes

-- What is due of both then.
pub due_calm : QuietUnitsCount → QuietUnitsCountDown → QuietUnitsBringNoNews → (said due rest limit : ℕ) (port : State) (services : Option Serving) (frames : List (List ℕ)) → said ≡ soonest due rest services
    → due ≡ live_due_in port.device.live → 0 < rest → IsPaced rest limit port.device.live.values services frames → said ≡ due_with (caught_up (limit - rest) services) port.device.live
due_calm counts down news said due rest limit port services frames says is some paced =
    let resting = resting_of rest limit port.device.live.values services frames some paced in
    says ∙ due_soonest counts down news due rest limit port.device.live services is some resting.inside resting.calm

-- ---- the neighbour is reported to the device

pub tells_calm : QuietUnitsCount → QuietUnitsBringNoNews → (rest limit : ℕ) (serves : Bool) (port : State) (services : Option Serving) (frames : List (List ℕ)) → 0 < rest
    → IsPaced rest limit port.device.live.values services frames
    → TellsBoth (at serves port (caught_up (limit - rest) services) frames) (at serves port (caught_up (limit - rest) services) frames)
tells_calm counts news rest limit serves port services frames some paced =
    let resting = resting_of rest limit port.device.live.values services frames some paced in
    tells_none (at serves port (caught_up (limit - rest) services) frames) (calm_news counts news rest limit port.device.live.values services some resting.inside resting.calm)

pub leapt_both : (units : ℕ) (serves : Bool) (old told new : State) (services now after : Option Serving) (frames sent : List (List ℕ)) → 0 < units → barred_both (at serves old services frames) ≡ None
    → TellsPortAny services old told now → HasNoNews now → Ticks units told new → TicksBesideAny units new.device.station.identity new.device.live.values now after sent
    → TicksBoth units (at serves old services frames) (at serves new (caught_up 0 after) sent)
leapt_both units serves old told new services now after frames sent some free tells none ticks beside =
    let fetched = (free_fetched (at serves old services frames) free).1 in
    let count : units ≡ suc (units - 1) = omega (arith, some) in
    let whole : TellsBoth (at serves old services frames) (at serves told now frames) = tells_whole (at serves old services frames) told now tells in
    let own : TicksBoth units (at serves told now frames) (at serves new after sent) =
    subst (λ (f : List (List ℕ)). TicksBoth units (at serves told now f) (at serves new after sent)) (sym fetched) (ticks_any units (units - 1) serves told new now after sent count ticks beside none) in
    let first : TicksBoth (suc (units - 1)) (at serves old services frames) (at serves new after sent) =
    tells_first (units - 1) (at serves old services frames) (at serves told now frames) (at serves new after sent) whole free none
    (subst (λ (n : ℕ). TicksBoth n (at serves told now frames) (at serves new after sent)) count own) in
    subst (λ (o : Option Serving). TicksBoth units (at serves old services frames) (at serves new o sent)) (caught_zero 0 after refl)
    (subst (λ (n : ℕ). TicksBoth n (at serves old services frames) (at serves new after sent)) (sym count) first)

-- ---- services that know the settings

kept_name : (units : ℕ) (state : Serving) → (serving_ticks units state).name ≡ state.name
kept_name zero state = refl
kept_name (suc units) state = kept_name units state

still_known : (units : ℕ) (state : Serving) (running : Settings) → knows state running ≡ true → knows (serving_ticks units state) running ≡ true
still_known units state running same =
    ap (λ (address : List ℕ). pointwise nat_eq running.suite.address address && pointwise nat_eq running.name (serving_ticks units state).name) (same_address units state)
    ∙ (ap (λ (name : List ℕ). pointwise nat_eq running.suite.address state.ip.address && pointwise nat_eq running.name name) (kept_name units state) ∙ same)

knows_calm : (behind limit : ℕ) (values : Values) (services : Option Serving) → AreCalm limit values services → KnowsOf (caught_up behind services) values
knows_calm behind limit values None calm = tt
knows_calm behind limit values (Some state) calm = (calm.power, still_known behind state values.running calm.seen)

pub knows_paced : (rest limit : ℕ) (values : Values) (services : Option Serving) (frames : List (List ℕ)) → 0 < rest → IsPaced rest limit values services frames
    → KnowsOf (caught_up (limit - rest) services) values
knows_paced rest limit values services frames some paced = knows_calm (limit - rest) limit values services (resting_of rest limit values services frames some paced).calm

-- ---- an input, in which services that rest have no part

pub input_paced : (rest limit : ℕ) (old new : State) (services : Option Serving) (frames : List (List ℕ)) (slot subslot : ℕ) (value : ArrayVec ℕ) (note : Note)
    → Takes old (Application (Input slot subslot value)) note new → IsPaced rest limit old.device.live.values services frames → IsPaced rest limit new.device.live.values services frames
input_paced rest limit old new services frames slot subslot value note takes paced =
    subst (λ (v : Values). IsPaced rest limit v services frames)
    (sym (ap (λ l. l.values) takes.exact.live ∙ input_step old.device.station old.device.live slot subslot value)) paced

pub input_calm : QuietUnitsCount → QuietUnitsBringNoNews → (rest limit : ℕ) (serves : Bool) (old new : State) (services : Option Serving) (frames : List (List ℕ)) (slot subslot : ℕ) (value : ArrayVec ℕ) (note : Note)
    → 0 < rest → IsPaced rest limit old.device.live.values services frames → barred old ≡ None → Takes old (Application (Input slot subslot value)) note new
    → AnswersBoth (at serves old (caught_up (limit - rest) services) frames) (Application (Input slot subslot value)) (Ok note) (at serves new (caught_up (limit - rest) services) frames)
input_calm counts news rest limit serves old new services frames slot subslot value note some paced free takes =
    let now = caught_up (limit - rest) services in
    let mid = at serves old now frames in
    let fetched = (resting_of rest limit old.device.live.values services frames some paced).fetched in
    let ready = barred_alone mid fetched ∙ free in
    let known = knows_paced rest limit new.device.live.values services frames some (input_paced rest limit old new services frames slot subslot value note takes paced) in (
      ready,
      record {
        between = mid;
        tells = tells_calm counts news rest limit serves old services frames some paced;
        free = ready;
        steps = app_steps serves old new now now frames (Application (Input slot subslot value)) note tt fetched takes (seen_same now new.device.live.values known);
      },
    )

-- ---- frames

pub noticed_of : ConflictsAreNoticed → (old new : State) (bytes : ArrayVec ℕ) (note : Note) (services : Option Serving) → Takes old (Frame bytes) note new → IsNoticed new services bytes.items note
noticed_of noticed old new bytes note services takes dropped silent state is =
    noticed [] old.device.station old.device.live state (Frame bytes) (sym (ap is_dropped takes.exact.note) ∙ dropped) (sym (ap has_any takes.exact.frames) ∙ silent)

-- A frame that was accepted in silence.
pub silent_answers : QuietUnitsCount → QuietUnitsBringNoNews → ConflictsAreNoticed → OnlyConflicts → (rest limit : ℕ) (serves : Bool) (old new : State) (services : Option Serving) (frames : List (List ℕ)) (bytes : ArrayVec ℕ)
    → 0 < rest → IsPaced rest limit old.device.live.values services frames → barred old ≡ None → Takes old (Frame bytes) Done new → new.frames ≡ []
    → AnswersBoth (at serves old (caught_up (limit - rest) services) frames) (Frame bytes) (Ok Done) (at serves new (caught_up (limit - rest) services) frames)
silent_answers counts news noticed counted rest limit serves old new services frames bytes some paced open_now takes none =
    let before = at serves old (caught_up (limit - rest) services) frames in
    let fetched = (resting_of rest limit old.device.live.values services frames some paced).fetched in
    let free = barred_alone before fetched ∙ open_now in (
      free,
      record {
        between = before;
        tells = tells_calm counts news rest limit serves old services frames some paced;
        free = free;
        steps = steps_silent noticed counted before new bytes takes none fetched (knows_paced rest limit old.device.live.values services frames some paced);
      },
    )

-- A step that drops its event leaves no work.
pub dropped_free : (old new : State) (event : Event) (note : Note) → Takes old event note new → is_dropped note ≡ true → barred new ≡ None
dropped_free old new event note takes dropped =
    let none = dropped_step old.device.station old.device.live event (sym (ap is_dropped takes.exact.note) ∙ dropped) in
    quiet_free old new event note takes none.1 none.0

-- Cyclic data that is accepted in silence, or not, and then nothing changes.
pub cyclic_paced : (taken : Bool) (rest limit : ℕ) (old new : State) (services : Option Serving) (frames : List (List ℕ)) (bytes : ArrayVec ℕ)
    → (taken ≡ true → Takes old (Frame bytes) Done new) → new.frames ≡ [] → (taken ≡ false → new ≡ old) → IsPaced rest limit old.device.live.values services frames
    → IsPaced rest limit new.device.live.values services frames
cyclic_paced true rest limit old new services frames bytes takes none kept paced =
    subst (λ (v : Values). IsPaced rest limit v services frames) (sym (silent_values old new (Frame bytes) Done (takes refl) none)) paced
cyclic_paced false rest limit old new services frames bytes takes none kept paced =
    subst (λ (p : State). IsPaced rest limit p.device.live.values services frames) (sym (kept refl)) paced

-- What the services do beside the step of the port, and the step with the call that the frame completed.
pub frame_steps : (behind : ℕ) (serves : Bool) (old middle new : State) (services after : Option Serving) (frames sent : List (List ℕ)) (event : Event) (said note : Note) → Takes old event said middle
    → IsBeside (caught_up behind services) middle.device.station.identity middle.device.live.values said event after sent note
    → GivesAny (caught_up behind services) middle.device.live.values said event middle new
    → StepsBoth (at serves old (caught_up behind services) frames) event note (at serves new (caught_up 0 after) sent)
frame_steps behind serves old middle new services after frames sent event said note takes beside gives =
    let own : IsBeside (caught_up behind services) old.device.station.identity middle.device.live.values said event after sent note =
    subst (λ (s : Station). IsBeside (caught_up behind services) s.identity middle.device.live.values said event after sent note) takes.exact.same beside in
    record {
      said = said;
      middle = middle;
      alone = takes;
      serves = refl;
      beside = subst (λ (o : Option Serving). IsBeside (caught_up behind services) old.device.station.identity middle.device.live.values said event o sent note) (caught_zero 0 after refl) own;
      gives = gives;
    }
