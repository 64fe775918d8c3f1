-- What a run does, from what its steps do.
use Rattle.std.proofs.Common.{◌≡◌, ◌+◌, ◌<◌, length, arith, ℕ, Bool, true, false, List, [], ◌∷◌, ◌++◌, if◌then◌else◌, refl, sym, ap, subst, ◌∙◌, inl, inr, append_assoc}
use Rattle.std.proofs.lemmas.List.{append-nil}
use Rattle.std.proofs.lemmas.Bool.{cond-true}
use Rattle.flash_model.specs.declared.flash.Flash.{Ghosts as Flash}
use Rattle.settings_journal.specs.settings_store.Carries.{OneByOne, Holds, Stretch}
use Rattle.settings_journal.specs.settings_store.State as store
use Rattle.settings_journal.specs.settings_store.Machine.{Accepted}
use Rattle.device_frames.specs.declared.event.Event.{Event}
use Rattle.device_core.specs.State.{State, store_of}
use Rattle.device_frames.specs.Heard.{Heard, heard_of}
use Rattle.device_frames.specs.Sendable.{AreSendable}
use Rattle.device_core.specs.Machine.{Ran, Stepped, items_of, heard_step, step_of, run_of}
use Rattle.device_frames.specs.declared.note.Note.{Note}
use Rattle.device_core.specs.Steps.{Steps, HandsOn, Runs, IsExactStep, IsExactRun, TakesRoom}
use Rattle.device_core.proofs.Machine.{then_step, joined, joined_inactive, run_joined}
use Rattle.device_core.proofs.Placed.{placed_more}
use Rattle.device_core.proofs.Steps.{no_stretch}

-- No event.
pub no_run : {F : Type 0} {S : ℕ} (as_flash : Flash F S) (state : State F) (taken : List (List ℕ)) → Holds (as_flash.image state.flash) state.live.values
    → Runs as_flash state [] taken taken state
no_run as_flash state taken holds = record {
  outcomes = [];
  same = refl;
  live = refl;
  frames = sym (append-nil taken);
  inactive = λ _. refl;
  placed = refl;
  stretch = no_stretch as_flash (store_of state) holds;
  after_loss = λ _. refl;
}

-- If no commit failed in both parts together, none failed in either.
none_in_both : (a b c : Bool) → (a ≡ true → b ≡ true) → (b ≡ true → c ≡ true) → c ≡ a → (b ≡ a) × (c ≡ b)
none_in_both true b c one two same = (one refl, same ∙ sym (one refl))
none_in_both false true c one two same = let failed : c ≡ true = two refl in cc
none_in_both false false c one two same = (refl, same)

-- One more event.
pub run_more : {F : Type 0} {S : ℕ} (as_flash : Flash F S) (old mid new : State F) (events : List Event) (event : Event) (before between now : List (List ℕ))
    → Runs as_flash old events before between mid → HandsOn as_flash mid (heard_of mid.station.identity event) between now new
    → Runs as_flash old (events ++ event ∷ []) before now new
unfolding then_step
run_more as_flash old mid new events event before between now run on =
    let step = on.steps in
    let ran : Ran = run_of run.outcomes old.station old.live events in
    let one : Stepped = step_of step.outcomes old.station ran.live event in
    let is : heard_step step.outcomes mid.station mid.live (heard_of mid.station.identity event) ≡ one =
    ap (λ i. heard_step step.outcomes i mid.live (heard_of i.identity event)) run.same ∙ ap (λ l. step_of step.outcomes old.station l event) run.live in
    let all = run_joined run.outcomes step.outcomes old.station old.live events event in
    let live : new.live ≡ one.live = step.live ∙ ap (λ s. s.live) is in
    let sent : on.sent ≡ one.frames = step.frames ∙ ap (λ s. s.frames) is in
    record {
      outcomes = joined run.outcomes events step.outcomes;
      same = step.same ∙ run.same;
      live = live ∙ sym (ap (λ r. r.live) all);
      frames = on.handed_on
          ∙ ap (λ f. between ++ f) (ap (λ l. if l.values.is_lost then [] else on.sent) live ∙ ap (λ f. if one.live.values.is_lost then [] else f) sent)
          ∙ ap (λ t. t ++ (if one.live.values.is_lost then [] else one.frames)) run.frames
          ∙ append_assoc before ran.frames _ ∙ ap (λ f. before ++ f) (sym (ap (λ r. r.frames) all));
      inactive = λ same.
          let neither = none_in_both _ _ _ (λ failed. (run.stretch.stays_failed failed).0) (λ failed. (step.stretch.stays_failed failed).0) same in
          joined_inactive run.outcomes events step.outcomes (run.inactive neither.0) (step.inactive neither.1);
      placed = placed_more as_flash run.outcomes step.outcomes old.station old.flash mid.flash new.flash old.live events event run.placed (
        (subst (λ v. OneByOne as_flash step.outcomes (record { flash = mid.flash; values = ran.live.values }) (items_of old.station ran.live (heard_of old.station.identity event)) (record { flash = new.flash; values = v }))
            (ap (λ l. l.values) live)
            (subst (λ l. OneByOne as_flash step.outcomes (record { flash = mid.flash; values = l.values }) (items_of old.station l (heard_of old.station.identity event)) (store_of new)) run.live
            (subst (λ i. OneByOne as_flash step.outcomes (store_of mid) (items_of i mid.live (heard_of i.identity event)) (store_of new)) run.same step.placed))),
        subst (λ s. AreSendable old.station.identity s.sent) is
            (subst (λ i. AreSendable i.identity (heard_step step.outcomes mid.station mid.live (heard_of mid.station.identity event)).sent) run.same step.sendable),
      );
      stretch = subst (λ a. Stretch as_flash (store_of old) a (store_of new)) (ap (λ s. ran.accepted ++ s.accepted) is ∙ sym (ap (λ r. r.accepted) all))
          (step.continues (store_of old) ran.accepted run.stretch);
      after_loss = λ lost.
          on.handed_on ∙ ap (λ f. between ++ f) (cond-true _ _ _ (step.stretch.stays_lost (run.stretch.stays_lost lost))) ∙ append-nil between ∙ run.after_loss lost;
    }

-- A run without outcomes.
exact_run : {F : Type 0} {S : ℕ} (as_flash : Flash F S) (old new : State F) (events : List Event) (before now : List (List ℕ))
    → (runs : Runs as_flash old events before now new) → runs.outcomes ≡ [] → IsExactRun old events before now new
exact_run as_flash old new events before now runs none = record {
  same = runs.same;
  live = runs.live ∙ ap (λ o. (run_of o old.station old.live events).live) none;
  frames = runs.frames ∙ ap (λ o. before ++ (run_of o old.station old.live events).frames) none;
}

-- No flash call failed in a stretch, and so no commit did.
no_failure : {F : Type 0} {S : ℕ} (as_flash : Flash F S) (first now : store.State F) (accepted : List Accepted)
    → Stretch as_flash first accepted now → as_flash.failures now.flash ≡ as_flash.failures first.flash → as_flash.failures first.flash < 18446744073709551615 → now.values.has_failed ≡ first.values.has_failed
no_failure as_flash first now accepted stretch same below = elim stretch.caused [
  | inl inactive ↦ inactive.1
  | inr fault ↦ absurd (grind (arith, fault.0))
]

-- No commit failed until the end of a stretch, and so none in it.
no_fault : {F : Type 0} {S : ℕ} (as_flash : Flash F S) (first now : store.State F) (accepted : List Accepted)
    → Stretch as_flash first accepted now → now.values.has_failed ≡ false → now.values.has_failed ≡ first.values.has_failed
no_fault as_flash first now accepted stretch fine = elim stretch.caused [
  | inl inactive ↦ inactive.1
  | inr fault ↦ absurd (cc)
]

-- A step without outcomes.
exact_step : {F : Type 0} {S : ℕ} (as_flash : Flash F S) (old new : State F) (heard : Heard) (event : Event) (frames : List (List ℕ)) (said : Note)
    → heard ≡ heard_of old.station.identity event → (steps : Steps as_flash old heard frames said new) → steps.outcomes ≡ [] → IsExactStep old event frames said new
exact_step as_flash old new heard event frames said is steps none = record {
  same = steps.same;
  live = steps.live ∙ ap (λ o. (heard_step o old.station old.live heard).live) none ∙ ap (λ h. (heard_step [] old.station old.live h).live) is;
  frames = steps.frames ∙ ap (λ o. (heard_step o old.station old.live heard).frames) none ∙ ap (λ h. (heard_step [] old.station old.live h).frames) is;
  note = steps.note ∙ ap (λ o. (heard_step o old.station old.live heard).note) none ∙ ap (λ h. (heard_step [] old.station old.live h).note) is;
}

-- If no flash call failed.
pub step_quietly : {F : Type 0} {S : ℕ} (as_flash : Flash F S) (old new : State F) (heard : Heard) (event : Event) (frames : List (List ℕ)) (said : Note)
    → heard ≡ heard_of old.station.identity event → Steps as_flash old heard frames said new → as_flash.failures new.flash ≡ as_flash.failures old.flash → as_flash.failures old.flash < 18446744073709551615
    → IsExactStep old event frames said new
step_quietly as_flash old new heard event frames said is steps same below = exact_step as_flash old new heard event frames said is steps
    (steps.inactive (no_failure as_flash (store_of old) (store_of new) _ steps.stretch same below))

pub step_finely : {F : Type 0} {S : ℕ} (as_flash : Flash F S) (old new : State F) (heard : Heard) (event : Event) (frames : List (List ℕ)) (said : Note)
    → heard ≡ heard_of old.station.identity event → Steps as_flash old heard frames said new → new.live.values.has_failed ≡ false → IsExactStep old event frames said new
step_finely as_flash old new heard event frames said is steps fine = exact_step as_flash old new heard event frames said is steps
    (steps.inactive (no_fault as_flash (store_of old) (store_of new) _ steps.stretch fine))

pub run_quietly : {F : Type 0} {S : ℕ} (as_flash : Flash F S) (old new : State F) (events : List Event) (before now : List (List ℕ))
    → Runs as_flash old events before now new → as_flash.failures new.flash ≡ as_flash.failures old.flash → as_flash.failures old.flash < 18446744073709551615 → IsExactRun old events before now new
run_quietly as_flash old new events before now runs same below = exact_run as_flash old new events before now runs
    (runs.inactive (no_failure as_flash (store_of old) (store_of new) _ runs.stretch same below))

pub run_finely : {F : Type 0} {S : ℕ} (as_flash : Flash F S) (old new : State F) (events : List Event) (before now : List (List ℕ))
    → Runs as_flash old events before now new → new.live.values.has_failed ≡ false → IsExactRun old events before now new
run_finely as_flash old new events before now runs fine = exact_run as_flash old new events before now runs
    (runs.inactive (no_fault as_flash (store_of old) (store_of new) _ runs.stretch fine))

pub run_takes_room : {F : Type 0} {S : ℕ} (as_flash : Flash F S) (old new : State F) (events : List Event) (before now : List (List ℕ))
    → Runs as_flash old events before now new → new.live.values.has_failed ≡ false → TakesRoom old events new
run_takes_room as_flash old new events before now runs fine =
    let none : runs.outcomes ≡ [] = runs.inactive (no_fault as_flash (store_of old) (store_of new) _ runs.stretch fine) in
    subst (λ o. new.live.values.room + length (run_of o old.station old.live events).accepted ≡ old.live.values.room) none (runs.stretch.room fine)
