-- A station and the frames of strangers.
use Rattle.std.proofs.Common.{◌≡◌, ◌≢◌, ◌⊎◌, ℕ, Bool, true, false, List, Option, Some, None, refl, sym, ap, subst, ◌∙◌}
use Rattle.std.proofs.lemmas.Bool.{cond_both}
use Rattle.std.specs.List.{AllByRecursion}
use Rattle.flash_model.specs.declared.flash.Flash.{Ghosts as Flash}
use Rattle.relations.specs.RelationState.{RelationState}
use Rattle.device_frames.specs.declared.event.Event.{Event}
use Rattle.device_frames.specs.declared.event.Event.TheVariants.{Frame}
use Rattle.device_frames.specs.declared.note.Note.{Note}
use Rattle.device_frames.specs.declared.note.Note.TheVariants.{Done, NotMine, Fault, Filter, OldCall, NoRelation, StaleCycle, Refused}
use Rattle.device_frames.specs.Heard.{heard_of}
use Rattle.device_core.specs.State.{Live, Station}
use Rattle.device_core.specs.State as device
use Rattle.device_core.specs.Machine.{handled_step, heard_step}
use Rattle.device_station.specs.Beside.{is_dropped, joined_beside, joined_by}
use Rattle.device_station.specs.Leaps.{told_at, told_if}
use Rattle.device_station.specs.Serving.{Serving}
use Rattle.device_station.specs.State.{Frames, State}
use Rattle.device_station.specs.Steps.{DeviceSteps, Gives, StationSteps}
use Rattle.strangers_law.specs.Device.{AreAnswers, IsIn, IsLeft, IsNoExchange, IsStrange, frames_stored}
use Rattle.strangers_law.specs.Station.{IsKept, IsStrangeOrNone, LeavesServed, LeavesStations, completing}
use Rattle.strangers_law.proofs.Controllers.{leaves_controllers}
use Rattle.strangers_law.proofs.Floods.{step_left, step_silent}
use Rattle.strangers_law.proofs.Sending.{DatagramsAreRead, PacketsAreRead, RealTimeIsRead, ResponsesAreRead}

kept_of : (old new : Live) → IsLeft old new → IsKept old new
kept_of old new left = record { values = left.values; link = left.link; units = left.units; is_running = left.is_running; statuses = left.statuses; diagnoses = left.diagnoses; made = left.made; real = left.real }

kept_both : (a b c : Live) → IsKept a b → IsKept b c → IsKept a c
kept_both a b c one two = record {
  values = two.values ∙ one.values;
  link = two.link ∙ one.link;
  units = two.units ∙ one.units;
  is_running = two.is_running ∙ one.is_running;
  statuses = two.statuses ∙ one.statuses;
  diagnoses = two.diagnoses ∙ one.diagnoses;
  made = two.made ∙ one.made;
  real = two.real ∙ one.real;
}

kept_same : (a b : Live) → b ≡ a → IsKept a b
kept_same a b is = subst (IsKept a) (sym is) (record { values = refl; link = refl; units = refl; is_running = refl; statuses = refl; diagnoses = refl; made = refl; real = refl })

-- ---- the neighbour

told_kept : (station : Station) (live : Live) (services : Serving) (news : Bool) → IsKept live (told_if news station live services).live
unfolding heard_of heard_step handled_step
told_kept station live services true = record { values = refl; link = refl; units = refl; is_running = refl; statuses = refl; diagnoses = refl; made = refl; real = refl }
told_kept station live services false = record { values = refl; link = refl; units = refl; is_running = refl; statuses = refl; diagnoses = refl; made = refl; real = refl }

told_calls : (station : Station) (live : Live) (services : Serving) (news : Bool) → (told_if news station live services).live.rest.calls ≡ live.rest.calls
unfolding heard_of heard_step handled_step
told_calls station live services true = refl
told_calls station live services false = refl

told_completing : (station : Station) (live : Live) (services : Serving) (news : Bool) (event : Event) → completing (told_if news station live services).services event ≡ completing services event
told_completing station live services true (Frame frame) = refl
told_completing station live services false (Frame frame) = refl
told_completing station live services news event = refl

-- ---- a call that an event completes

dropped_undone : (note : Note) → is_dropped note ≡ true → note ≢ Done
dropped_undone NotMine is e = cc
dropped_undone Fault is e = cc
dropped_undone Done is e = cc
dropped_undone Filter is e = cc
dropped_undone OldCall is e = cc
dropped_undone NoRelation is e = cc
dropped_undone StaleCycle is e = cc
dropped_undone Refused is e = cc

record IsCompleted (services : Serving) (note : Note) (event call : Event) : Type 0 where
  dropped : is_dropped note ≡ true
  is : completing services event ≡ Some call

completed_by : (lost : Bool) (services : Serving) (note : Note) (event call : Event) → joined_by lost services note event ≡ Some call → IsCompleted services note event call
completed_by true services note (Frame frame) call e = absurd cc
completed_by false services note (Frame frame) call e =
    cond_both (is_dropped note) _ _ (λ (found : Option Event). found ≡ Some call → IsCompleted services note (Frame frame) call)
    (λ dropped e. record { dropped = dropped; is = e }) (λ _ e. absurd cc) e
completed_by lost services note event call e = absurd cc

-- ---- the step

module _ {F : Type 0} {S : ℕ} (as_flash : Flash F S) (real_time : RealTimeIsRead) (packets : PacketsAreRead) (datagrams : DatagramsAreRead) (responses : ResponsesAreRead) where
  abbrev Leaves : device.State F → device.State F → List (List ℕ) → Type 0
  Leaves old new sent = IsKept old.live new.live × AreAnswers old.live sent

  alone_leaves : (old new : device.State F) (link : RelationState) (event : Event) (sent : List (List ℕ)) (said : Note) → DeviceSteps as_flash old event sent said new
      → old.live.rest.link ≡ Some link → IsStrange old.station link event → Leaves old new sent
  alone_leaves old new link event sent said steps exists strange = (
    kept_of old.live new.live (step_left as_flash old new link event sent said steps.steps exists strange),
    step_silent as_flash old new link event sent said real_time packets datagrams responses steps.steps exists strange,
  )

  -- A step at a device that knows its neighbour.
  steps_leave : (old new : State F) (link : RelationState) (event : Event) (frames : Frames) (said : Note) → StationSteps as_flash old event frames said new
      → old.device.live.rest.link ≡ Some link → IsStrange old.device.station link event → IsStrangeOrNone old.device.station link (completing old.services event)
      → Leaves old.device new.device frames.device
  steps_leave old new link event frames said steps exists strange completes =
      by_joined (joined_beside old.services steps.middle.live.values steps.note event) refl steps.gives
    where
      first : Leaves old.device steps.middle steps.first
      first = alone_leaves old.device steps.middle link event steps.first steps.note steps.alone exists strange

      by_joined : (joined : Option Event) → joined_beside old.services steps.middle.live.values steps.note event ≡ joined
          → Gives as_flash joined steps.middle steps.first frames.device new.device → Leaves old.device new.device frames.device
      by_joined None is gives = (
        subst (λ (d : device.State F). IsKept old.device.live d.live) (sym gives.0) first.0,
        subst (AreAnswers old.device.live) (sym gives.1) first.1,
      )
      by_joined (Some call) is gives =
          let it = completed_by steps.middle.live.values.is_lost old.services steps.note event call is in
          let same : steps.middle ≡ old.device = (steps.alone.refused (dropped_undone steps.note it.dropped)).0 in
          alone_leaves old.device new.device link call frames.device gives.1
          (subst (λ (d : device.State F). DeviceSteps as_flash d call frames.device gives.1 new.device) same gives.2) exists
          (subst (IsStrangeOrNone old.device.station link) it.is completes)

  pub station_leaves : LeavesStations as_flash
  station_leaves old new link event frames said takes exists strange =
      let live : Live = (told_at old.device.station old.device.live old.services).live in
      let kept : IsKept old.device.live live = told_kept old.device.station old.device.live old.services old.services.has_news in
      let live_is : takes.between.device.live ≡ live = ap (λ (d : device.State F). d.live) takes.ready.device in
      let station_is : takes.between.device.station ≡ old.device.station = ap (λ (d : device.State F). d.station) takes.ready.device in
      let between : IsKept old.device.live takes.between.device.live = subst (IsKept old.device.live) (sym live_is) kept in
      let calls : takes.between.device.live.rest.calls ≡ old.device.live.rest.calls =
      ap (λ (l : Live). l.rest.calls) live_is ∙ told_calls old.device.station old.device.live old.services old.services.has_news in
      let same : completing takes.between.services event ≡ completing old.services event =
      ap (λ s. completing s event) takes.ready.services ∙ told_completing old.device.station old.device.live old.services old.services.has_news event in
      let step = steps_leave takes.between new link event frames said takes.steps (between.link ∙ exists) (subst (λ (s : Station). IsStrange s link event) (sym station_is) strange.0)
      (subst (λ (s : Station). IsStrangeOrNone s link (completing takes.between.services event)) (sym station_is)
      (subst (IsStrangeOrNone old.device.station link) (sym same) strange.1)) in
      (kept_both old.device.live takes.between.device.live new.device.live between step.0, answers_as takes.between.device.live old.device.live calls frames.device step.1)
    where
      answers_as : (one other : Live) → one.rest.calls ≡ other.rest.calls → (sent : List (List ℕ)) → AreAnswers one sent → AreAnswers other sent
      answers_as one other is sent are = subst (λ calls. AllByRecursion (λ frame. IsNoExchange frame ⊎ IsIn frame (frames_stored calls)) sent) is are

pub leaves_served : LeavesServed
leaves_served served event strange =
    let same = leaves_controllers served.controller event strange in (ap (λ s. s.controller) same, ap (λ s. s.frames) same)
