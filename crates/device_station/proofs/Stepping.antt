-- A step of a station, of the step of its device and what the services do beside it.
use Rattle.std.proofs.Common.{◌≡◌, ◌≢◌, ℕ, Bool, true, false, Option, Some, None, List, [], refl, sym, ap, subst, ◌∙◌}
use Rattle.std.specs.Prelude.{if◌then◌else◌}
use Rattle.settings_journal.specs.settings_store.State.{Values}
use Rattle.flash_model.specs.declared.flash.Flash.{Ghosts as Flash}
use Rattle.pn_values.specs.declared.identity.Identity.{Identity}
use Rattle.device_frames.specs.declared.event.Event.{Event}
use Rattle.device_frames.specs.declared.event.Event.TheVariants.{Frame, Call, Tick, Neighbour, Application}
use Rattle.device_frames.specs.declared.note.Note.{Note}
use Rattle.device_frames.specs.declared.note.Note.TheVariants.{Done, NotMine, Fault, Filter, OldCall, NoRelation, StaleCycle, Refused}
use Rattle.device_core.specs.State as device
use Rattle.device_station.specs.Serving.{Serving, completed, observed, piece_in}
use Rattle.device_station.specs.Beside.{Beside, beside, event_beside, idle, is_dropped, joined_beside, joined_by, joined_from, joined_of, observing}
use Rattle.device_station.specs.Steps.{DeviceSteps, Gives, StationSteps, station_of}

abbrev made : Serving → List (List ℕ) → Note → Beside
made state frames said = record { services = state; sent = frames; note = said }

if_true : (b : Bool) (one other : Beside) → b ≡ true → (if b then one else other) ≡ one
if_true b one other e = rw e refl

if_false : (b : Bool) (one other : Beside) → b ≡ false → (if b then one else other) ≡ other
if_false b one other e = rw e refl

-- Power was lost: the services do nothing.
pub idle_beside : (identity : Identity) (state : Serving) (values : Values) (note : Note) (event : Event) → values.is_lost ≡ true
    → idle state note ≡ beside identity state values note event
idle_beside identity state values note event lost =
    sym (if_true values.is_lost (idle state note) (observing values.running (event_beside identity state note event)) lost)

pub idle_silent : (identity : Identity) (state : Serving) (values : Values) (note : Note) (event : Event) (frames : List (List ℕ)) → frames ≡ [] → values.is_lost ≡ true
    → made state frames note ≡ beside identity state values note event
idle_silent identity state values note event frames none lost = ap (λ (f : List (List ℕ)). made state f note) none ∙ idle_beside identity state values note event lost

-- The services do their part, and then see the running settings.
pub observed_beside : (own identity : Identity) (state mid seen : Serving) (values : Values) (note said : Note) (event : Event) (frames : List (List ℕ)) → identity ≡ own → values.is_lost ≡ false
    → mid ≡ (event_beside identity state note event).services → frames ≡ (event_beside identity state note event).sent → said ≡ (event_beside identity state note event).note
    → seen ≡ observed mid values.running
    → record { services = seen; sent = frames; note = said } ≡ beside own state values note event
observed_beside own identity state mid seen values note said event frames same there knows sends says sees =
    let running = values.running in
    let after = event_beside identity state note event in
    let is : beside own state values note event ≡ observing running after =
    ap (λ (i : Identity). beside i state values note event) (sym same) ∙ if_false values.is_lost (idle state note) (observing running after) there in
    ap (λ (s : Serving). made s frames said) (sees ∙ ap (λ (s : Serving). observed s running) knows)
    ∙ (ap (λ (f : List (List ℕ)). made (observed after.services running) f said) sends
    ∙ (ap (made (observed after.services running) after.sent) says ∙ sym is))

-- ---- calls in fragments

pub not_done : (note : Note) → is_dropped note ≡ true → note ≢ Done
not_done NotMine dropped = λ e. cc
not_done Fault dropped = λ e. cc
not_done Done dropped = λ e. cc
not_done Filter dropped = λ e. cc
not_done OldCall dropped = λ e. cc
not_done NoRelation dropped = λ e. cc
not_done StaleCycle dropped = λ e. cc
not_done Refused dropped = λ e. cc

-- a frame that the device dropped, if there is a call
dropped_if : (b : Bool) (other : Option Event) (call : Event) → Some call ≡ (if b then other else None) → b ≡ true
dropped_if true other call e = refl
dropped_if false other call e = absurd cc

there_if : (b : Bool) (other : Option Event) (call : Event) → Some call ≡ (if b then None else other) → Some call ≡ other
there_if true other call e = absurd cc
there_if false other call e = e

joined_dropped : (is_lost : Bool) (state : Serving) (note : Note) (event call : Event) → Some call ≡ joined_by is_lost state note event → is_dropped note ≡ true
joined_dropped is_lost state note (Frame bytes) call e =
    dropped_if (is_dropped note) (completed (piece_in state bytes.items)) call (there_if is_lost (joined_from state note bytes.items) call e)
joined_dropped is_lost state note (Call caller address octets) call e = absurd cc
joined_dropped is_lost state note Tick call e = absurd cc
joined_dropped is_lost state note (Application local) call e = absurd cc
joined_dropped is_lost state note (Neighbour neighbour) call e = absurd cc

-- no call is completed in a step in which power was lost
none_joined : (state : Serving) (note : Note) (event : Event) → ◌≡◌ {A = Option Event} None (joined_by true state note event)
none_joined state note (Frame bytes) = refl
none_joined state note (Call caller address octets) = refl
none_joined state note Tick = refl
none_joined state note (Application local) = refl
none_joined state note (Neighbour neighbour) = refl

pub none_lost : (state : Serving) (values : Values) (note : Note) (event : Event) → values.is_lost ≡ true → ◌≡◌ {A = Option Event} None (joined_beside state values note event)
none_lost state values note event lost =
    none_joined state note event ∙ ap (λ (b : Bool). joined_by b state note event) (sym lost)

-- what the services made of an event beside a device that has power
pub joined_there : (state : Serving) (values : Values) (note : Note) (event : Event) (joined : Option Event) → values.is_lost ≡ false → joined ≡ joined_of state note event
    → joined ≡ joined_beside state values note event
joined_there state values note event joined there same = same ∙ ap (λ (b : Bool). joined_by b state note event) (sym there)

-- A step of a station, of the step of its device, what the services do beside it, and the step in which the device is given a call.
pub station_steps : {F : Type 0} {S : ℕ} (as_flash : Flash F S) (old middle new : device.State F) (event : Event) (first sent frames : List (List ℕ)) (note said : Note) (state after : Serving)
    → DeviceSteps as_flash old event first note middle → made after frames said ≡ beside old.station.identity state middle.live.values note event
    → Gives as_flash (joined_beside state middle.live.values note event) middle first sent new
    → StationSteps as_flash (station_of old state) event (record { device = sent; services = frames }) said (station_of new after)
station_steps as_flash old middle new event first sent frames note said state after alone is gives = record {
  middle = middle;
  first = first;
  note = note;
  alone = alone;
  knows = ap (λ (b : Beside). b.services) is;
  sends = ap (λ (b : Beside). b.sent) is;
  says = ap (λ (b : Beside). b.note) is;
  gives = gives;
}

-- no call was completed
pub none_given : {F : Type 0} {S : ℕ} (as_flash : Flash F S) (joined : Option Event) (new : device.State F) (sent : List (List ℕ)) → None ≡ joined → Gives as_flash joined new sent sent new
none_given as_flash joined new sent none = subst (λ (j : Option Event). Gives as_flash j new sent sent new) none (refl, refl)

-- a call was completed: the device dropped its last fragment, and sent nothing
pub call_given : {F : Type 0} {S : ℕ} (as_flash : Flash F S) (old middle new : device.State F) (event call : Event) (first sent : List (List ℕ)) (note said : Note) (state : Serving)
    → DeviceSteps as_flash old event first note middle → Some call ≡ joined_beside state middle.live.values note event → DeviceSteps as_flash middle call sent said new
    → Gives as_flash (joined_beside state middle.live.values note event) middle first sent new
call_given as_flash old middle new event call first sent note said state alone joined given =
    let dropped = joined_dropped middle.live.values.is_lost state note event call joined in
    subst (λ (j : Option Event). Gives as_flash j middle first sent new) joined ((alone.refused (not_done note dropped)).1, said, given)
