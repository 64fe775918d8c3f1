-- A port while only the timers of an exchange run.
use Rattle.std.proofs.Common.{◌≡◌, ◌-◌, ◌<◌, ◌≤◌, Bool, true, false, not, List, [], ◌∷◌, ℕ, zero, suc, length, Option, Some, None, is_some, refl, sym, ap, subst, ◌∙◌, arith}
use Rattle.flash_model.specs.Calls.{Call}
use Rattle.relations.specs.declared.steady.Steady.{Steady}
use Rattle.relations.specs.RelationState.{RelationState}
use Rattle.relations.specs.Steady.{IsSteady}
use Rattle.device_core.specs.Leaps.{live_due_in}
use Rattle.device_core.specs.OpenAlarm.{has_open_alarm}
use Rattle.device_core.specs.State as device
use Rattle.device_station.specs.declared.port.device.Passed.{Passed}
use Rattle.device_station.specs.declared.recorded.flash.RecordedFlash.{RecordedFlash}
use Rattle.device_station.specs.port.State.{State, IsKnown, has_some}
use Rattle.device_station.specs.port.Steps.{Glides, Sends, Ticks}
use Rattle.device_station.specs.recording.Leaps.{PassesAll}
use Rattle.device_station.proofs.PortLeaps.{passed_at}
use Rattle.device_station.proofs.PortStages.{free_at, working_at}

-- No process alarm is open.
pub closed_of : (steady : Steady) (link : Option RelationState) → IsSteady steady link → has_open_alarm link ≡ false
closed_of steady None is = refl
closed_of steady (Some link) is = ap is_some is.runs.calm.closed

pub not_so : (test : Bool) → not test ≡ true → test ≡ false
not_so true is = cc is
not_so false is = refl

pub no_frames : (frames : List (List ℕ)) → has_some frames ≡ false → frames ≡ []
no_frames [] none = refl
no_frames (frame ∷ frames) none = cc none

pub one_there : (frames : List (List ℕ)) → length frames ≡ 1 → has_some frames ≡ true
one_there [] one = absurd (omega (arith, one))
one_there (frame ∷ frames) one = refl

-- Units with which nothing is due.
pub glides_at : (steady : Steady) (units due : ℕ) (old : State) (now : device.State (RecordedFlash 4096)) (calls : List Call) → units < steady.inputs
    → IsKnown steady old.device.live old.stage old.calls → has_some old.frames ≡ false → calls ≡ old.calls → PassesAll units old.device [] now
    → live_due_in old.device.live ≡ steady.inputs → live_due_in now.live ≡ due
    → Glides old units due (record { device = now; stage = old.stage; calls = calls; frames = old.frames })
glides_at steady units due old now calls few known none same passes before after =
    let is = known (omega (arith, few)) in
    let idle = no_frames old.frames none in
    let left = same ∙ is.2 in
    record {
      free = free_at old.stage old.calls old.frames is.1 is.2 none;
      ticks = passed_at units old now old.stage calls old.frames [] is.1 is.2 idle is.1 left idle passes;
      few = omega (arith, few, before);
      due = sym after;
      after = free_at old.stage calls old.frames is.1 left none;
      closed = closed_of steady old.device.live.rest.link is.0.relation;
    }

-- Units up to the first that sends inputs: their frame is the work after them.
pub sends_at : (steady : Steady) (units due : ℕ) (old : State) (now : device.State (RecordedFlash 4096)) (calls : List Call) (frames : List (List ℕ)) → 0 < steady.inputs
    → steady.inputs ≤ units → IsKnown steady old.device.live old.stage old.calls → has_some old.frames ≡ false → calls ≡ old.calls
    → PassesAll steady.inputs old.device frames now → length frames ≡ 1 → due ≡ live_due_in now.live
    → Sends old units (record { left = units - steady.inputs; due = due }) (record { device = now; stage = old.stage; calls = calls; frames = frames })
sends_at steady units due old now calls frames some many known none same passes one after =
    let is = known some in
    let idle = no_frames old.frames none in
    let left = same ∙ is.2 in
    let busy = one_there frames one in
    let count : steady.inputs ≡ units - (units - steady.inputs) = omega (arith, many) in
    record {
      free = free_at old.stage old.calls old.frames is.1 is.2 none;
      passes = record {
        few = omega arith;
        ticks = subst (λ (n : ℕ). Ticks n old (record { device = now; stage = old.stage; calls = calls; frames = frames })) count
            (passed_at steady.inputs old now old.stage calls frames frames is.1 is.2 idle is.1 left refl passes);
        stops = λ remains. working_at old.stage calls frames is.1 left busy;
      };
      due = after;
      calls = left;
      frames = busy;
      closed = closed_of steady old.device.live.rest.link is.0.relation;
    }
