-- A port while units of time pass at once.
use Rattle.std.proofs.Common.{◌≡◌, ◌+◌, ◌-◌, ◌<◌, ◌≤◌, ℕ, zero, suc, List, [], Option, Some, None, option_map, refl, sym, ap, subst, ◌∙◌, arith}
use Rattle.flash_model.specs.Calls.{Call}
use Rattle.device_frames.specs.declared.event.Event.{Event}
use Rattle.device_frames.specs.declared.note.Note.{Note}
use Rattle.device_frames.specs.declared.note.Note.TheVariants.{Done}
use Rattle.device_core.specs.State as device
use Rattle.device_core.specs.State.{Live}
use Rattle.device_core.specs.Steps.{IsExactStep}
use Rattle.device_station.specs.declared.recorded.flash.RecordedFlash.{RecordedFlash}
use Rattle.device_station.specs.declared.port.stage.Stage.{Stage}
use Rattle.device_station.specs.declared.port.stage.Stage.TheVariants.{Booted}
use Rattle.device_station.specs.port.State.{State, IsKnown}
use Rattle.device_core.specs.Steady.{IsSteadyAt}
use Rattle.relations.specs.declared.steady.Steady.{Steady}
use Rattle.device_station.specs.port.Steps.{Takes, Ticks}
use Rattle.device_station.specs.recording.Leaps.{PassesAll, StepsAlone}

abbrev at : device.State (RecordedFlash 4096) → Stage → List Call → List (List ℕ) → State
at now stage calls frames = record { device = now; stage = stage; calls = calls; frames = frames }

-- The port after these units, if it had no work before.
pub passed : (units : ℕ) (old : State) (now : device.State (RecordedFlash 4096)) (frames : List (List ℕ)) → old.stage ≡ Booted → old.calls ≡ [] → old.frames ≡ []
    → PassesAll units old.device frames now → Ticks units old (at now Booted [] frames)
passed zero old now frames booted no_calls no_frames passes =
    ap (λ (d : device.State (RecordedFlash 4096)). at d Booted [] frames) passes.0
    ∙ (ap (at old.device Booted []) (passes.1 ∙ sym no_frames)
    ∙ (ap (λ (s : Stage). at old.device s [] old.frames) (sym booted) ∙ ap (λ (c : List Call). at old.device old.stage c old.frames) (sym no_calls)))
passed (suc units) old now frames booted no_calls no_frames passes = (
  at passes.0 Booted [] [],
  Done,
  passed units old passes.0 [] booted no_calls no_frames passes.1,
  refl,
  record { exact = passes.2.exact; records = passes.2.records; calls = sym passes.2.none; stage = refl },
)

-- The same of a port whose stage and work are known.
pub passed_at : (units : ℕ) (old : State) (now : device.State (RecordedFlash 4096)) (stage : Stage) (calls : List Call) (shown frames : List (List ℕ))
    → old.stage ≡ Booted → old.calls ≡ [] → old.frames ≡ [] → stage ≡ Booted → calls ≡ [] → shown ≡ frames
    → PassesAll units old.device frames now → Ticks units old (at now stage calls shown)
passed_at units old now stage calls shown frames booted no_calls no_frames is_booted none same passes =
    subst (λ (s : Stage). Ticks units old (at now s calls shown)) (sym is_booted)
    (subst (λ (c : List Call). Ticks units old (at now Booted c shown)) (sym none)
    (subst (λ (f : List (List ℕ)). Ticks units old (at now Booted [] f)) (sym same) (passed units old now frames booted no_calls no_frames passes)))

-- An event that made no call and sent nothing, at a port whose stage and work are known.
pub stepped_at : (old : State) (event : Event) (said : Note) (now : device.State (RecordedFlash 4096)) (stage : Stage) (calls : List Call) (frames : List (List ℕ))
    → stage ≡ Booted → calls ≡ [] → frames ≡ [] → StepsAlone old.device event [] said now → Takes old event said (at now stage calls frames)
stepped_at old event said now stage calls frames booted none idle alone = record {
  exact = subst (λ (f : List (List ℕ)). IsExactStep old.device event f said now) (sym idle) alone.exact;
  records = alone.records;
  calls = none ∙ sym alone.none;
  stage = booted;
}

-- What is known stays known if the device stays so, and no flash call remains.
pub known_later : (steady : Steady) (old new : Live) (stage : Stage) (calls left : List Call) → ((s : Steady) → IsSteadyAt s old → IsSteadyAt s new) → left ≡ []
    → IsKnown steady old stage calls → IsKnown steady new stage left
known_later steady old new stage calls left later none known is = (later steady (known is).0, (known is).1, none)

-- Nothing is known.
pub unknown : (steady : Steady) (live : Live) (stage : Stage) (calls : List Call) → steady.inputs ≡ 0 → IsKnown steady live stage calls
unknown steady live stage calls none some = absurd (omega (arith, none, some))

-- Units that passed after others.
pub ticks_on : (units more : ℕ) (old between new : State) → Ticks units old between → Ticks more between new → Ticks (more + units) old new
ticks_on units zero old between new ticks same =
    let none : units ≡ zero + units = omega arith in
    subst (λ (s : State). Ticks (zero + units) old s) (sym same) (subst (λ (n : ℕ). Ticks n old between) none ticks)
ticks_on units (suc more) old between new ticks last =
    let one : suc (more + units) ≡ suc more + units = omega arith in
    subst (λ (n : ℕ). Ticks n old new) one (last.0, last.1, ticks_on units more old between last.0 ticks last.2, last.3, last.4)
