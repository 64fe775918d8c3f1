-- What the services do beside an event.
use Rattle.std.proofs.Common.{◌≡◌, ℕ, Bool, true, false, List, [], Option, Some, None, refl, sym, ap, subst, ◌∙◌}
use Rattle.std.specs.Prelude.{◌&&◌, nat_eq, if◌then◌else◌}
use Rattle.std.specs.Cmp.Lexicographic.{pointwise, same_text}
use Rattle.arrayvec.specs.ArrayVec.{ArrayVec}
use Rattle.pn_values.specs.declared.identity.Identity.{Identity}
use Rattle.pn_values.specs.declared.settings.Settings.{Settings}
use Rattle.settings_journal.specs.settings_store.State.{Values}
use Rattle.services.specs.State as ip
use Rattle.services.specs.Answer as ip_answer
use Rattle.device_frames.specs.declared.event.Event.{Event}
use Rattle.device_frames.specs.declared.event.Event.TheVariants.{Frame, Call, Tick, Neighbour, Application}
use Rattle.device_frames.specs.declared.note.Note.{Note}
use Rattle.device_frames.specs.declared.note.Note.TheVariants.{Done}
use Rattle.device_core.specs.Machine.{step_of}
use Rattle.device_core.specs.State.{Live}
use Rattle.device_station.specs.Beside.{Beside, ConflictsAreNoticed, beside, event_beside, has_any, heard_beside, idle, is_accepted, is_dropped, observing}
use Rattle.device_station.specs.Serving.{Serving, disputes, knows, observed, overheard}
use Rattle.device_station.specs.port.State.{State}
use Rattle.device_station.specs.port.Steps.{Takes}
use Rattle.device_station.specs.port.Served.{Served}
use Rattle.device_station.specs.port.ServedSteps.{GivesAny, GivesPort, IsBeside, IsOfApplication, StepsBoth, seen_by}
use Rattle.device_station.proofs.ServedSilent.{silent_step}

-- ---- services that know the running settings

both_parts : (one other : Bool) → (one && other) ≡ true → (one ≡ true) × (other ≡ true)
both_parts true true e = (refl, refl)
both_parts true false e = absurd cc
both_parts false other e = absurd cc

pub observed_same : (state : Serving) (running : Settings) → knows state running ≡ true → observed state running ≡ state
observed_same state running same =
    let parts = both_parts (pointwise nat_eq running.suite.address state.ip.address) (pointwise nat_eq running.name state.name) same in
    let with_name : List ℕ → Serving = λ name. record state { ip = ip.observed state.ip running.suite.address; name = name } in
    ap with_name (same_text running.name state.name (sym parts.1)) ∙ rw parts.0 refl

-- ---- a frame that the device accepted in silence

done_anyway : (b : Bool) → Done ≡ (if b then Done else Done)
done_anyway true = refl
done_anyway false = refl

abbrev silent_by : Bool → Identity → Serving → Settings → List ℕ → Beside
silent_by is_lost identity state running octets = if is_lost then idle state Done else observing running (heard_beside identity state Done octets)

silent_of : (is_lost : Bool) (identity : Identity) (state : Serving) (running : Settings) (octets : List ℕ) → is_lost ≡ false → knows state running ≡ true → overheard state octets ≡ state
    → (state ≡ (silent_by is_lost identity state running octets).services) × ([] ≡ (silent_by is_lost identity state running octets).sent)
    × (Done ≡ (silent_by is_lost identity state running octets).note)
silent_of true identity state running octets power seen same = cc power
silent_of false identity state running octets power seen same = (
  sym (ap (λ (s : Serving). observed s running) same ∙ observed_same state running seen),
  refl,
  done_anyway (is_accepted identity state Done octets),
)

-- Which services know the settings.
abbrev pub KnowsOf : Option Serving → Values → Type 0
KnowsOf None values = Unit {0}
KnowsOf (Some state) values = (values.is_lost ≡ false) × (knows state values.running ≡ true)

abbrev pub OnlyConflicts : Type 0
OnlyConflicts = (state : ip.State) (bytes : List ℕ) → ip_answer.disputes state bytes ≡ false → ip_answer.heard state bytes ≡ state

beside_silent : OnlyConflicts → (services : Option Serving) (identity : Identity) (values : Values) (bytes : ArrayVec ℕ) → KnowsOf services values
    → ((state : Serving) → services ≡ Some state → disputes state bytes.items ≡ false) → IsBeside services identity values Done (Frame bytes) services [] Done
beside_silent counted None identity values bytes known quiet = (refl, refl, refl)
beside_silent counted (Some state) identity values bytes known quiet =
    let same : overheard state bytes.items ≡ state = ap (λ (s : ip.State). let o : Serving = record state { ip = s } in o) (counted state.ip bytes.items (quiet state refl)) in
    let is = silent_of values.is_lost identity state values.running bytes.items known.0 known.1 same in
    (ap (λ (s : Serving). let o : Option Serving = Some s in o) is.0, is.1, is.2)

-- It completes no call.
no_call_by : (b : Bool) (port : State) → GivesPort (if b then (let o : Option Event = None in o) else None) port port
no_call_by true port = refl
no_call_by false port = refl

gives_done : (services : Option Serving) (values : Values) (bytes : ArrayVec ℕ) (port : State) → GivesAny services values Done (Frame bytes) port port
gives_done None values bytes port = refl
gives_done (Some state) values bytes port = no_call_by values.is_lost port

-- Only a frame that the device dropped completes a call.
pub joined_dropped : (is_lost dropped : Bool) (known : Option Event) (call : Event) → Some call ≡ (if is_lost then None else (if dropped then known else None)) → dropped ≡ true
joined_dropped true dropped known call joined = cc joined
joined_dropped false true known call joined = refl
joined_dropped false false known call joined = cc joined

-- The step of the device keeps the settings.
pub silent_values : (old new : State) (event : Event) (note : Note) → Takes old event note new → new.frames ≡ [] → new.device.live.values ≡ old.device.live.values
silent_values old new event note takes none =
    ap (λ (l : Live). l.values) takes.exact.live
    ∙ silent_step old.device.station old.device.live event (sym (ap has_any takes.exact.frames) ∙ ap has_any none)

pub steps_silent : ConflictsAreNoticed → OnlyConflicts → (old : Served) (new : State) (bytes : ArrayVec ℕ) → Takes old.port (Frame bytes) Done new → new.frames ≡ [] → old.frames ≡ []
    → KnowsOf old.services old.port.device.live.values → StepsBoth old (Frame bytes) Done (record old { port = new })
steps_silent noticed counted old new bytes takes none fetched known =
    let station = old.port.device.station in
    let live = old.port.device.live in
    let step = step_of [] station live (Frame bytes) in
    let same = silent_values old.port new (Frame bytes) Done takes none in
    let quiet : (state : Serving) → old.services ≡ Some state → disputes state bytes.items ≡ false =
    λ state is. noticed [] station live state (Frame bytes) (sym (ap is_dropped takes.exact.note)) (sym (ap has_any takes.exact.frames) ∙ ap has_any none) in
    let own = beside_silent counted old.services station.identity new.device.live.values bytes (subst (λ (v : Values). KnowsOf old.services v) (sym same) known) quiet in
    record {
      said = Done;
      middle = new;
      alone = takes;
      serves = refl;
      beside = subst (λ (f : List (List ℕ)). IsBeside old.services station.identity new.device.live.values Done (Frame bytes) old.services f Done) (sym fetched) own;
      gives = gives_done old.services new.device.live.values bytes new;
    }

-- ---- an event of the application

-- Nothing but the settings concerns the services.
idle_event : (identity : Identity) (state : Serving) (note : Note) (event : Event) → IsOfApplication event → event_beside identity state note event ≡ idle state note
idle_event identity state note (Frame bytes) wrong = absurd wrong
idle_event identity state note (Call caller address octets) is = refl
idle_event identity state note Tick wrong = absurd wrong
idle_event identity state note (Application local) is = refl
idle_event identity state note (Neighbour peer) is = refl

gives_app : (services : Option Serving) (values : Values) (note : Note) (event : Event) (port : State) → IsOfApplication event → GivesAny services values note event port port
gives_app None values note event port is = refl
gives_app (Some state) values note (Frame bytes) port wrong = absurd wrong
gives_app (Some state) values note (Call caller address octets) port is = refl
gives_app (Some state) values note Tick port wrong = absurd wrong
gives_app (Some state) values note (Application local) port is = refl
gives_app (Some state) values note (Neighbour peer) port is = refl

abbrev seen_one : Bool → Settings → Serving → Serving
seen_one is_lost running state = if is_lost then state else observed state running

seen_option : (is_lost : Bool) (running : Settings) (state : Serving)
    → (if is_lost then Some state else Some (observed state running)) ≡ Some (seen_one is_lost running state)
seen_option true running state = refl
seen_option false running state = refl

app_services : (is_lost : Bool) (running : Settings) (state : Serving) (note : Note)
    → (seen_one is_lost running state ≡ (if is_lost then idle state note else observing running (idle state note)).services)
    × ([] ≡ (if is_lost then idle state note else observing running (idle state note)).sent)
    × (note ≡ (if is_lost then idle state note else observing running (idle state note)).note)
app_services true running state note = (refl, refl, refl)
app_services false running state note = (refl, refl, refl)

pub beside_app : (services after : Option Serving) (identity : Identity) (values : Values) (note : Note) (event : Event) → IsOfApplication event → after ≡ seen_by values services
    → IsBeside services identity values note event after [] note
beside_app None after identity values note event is seen = (seen ∙ none_seen values.is_lost, refl, refl)
  where
    none_seen : (b : Bool) → (if b then (let o : Option Serving = None in o) else None) ≡ None
    none_seen true = refl
    none_seen false = refl
beside_app (Some state) after identity values note event is seen =
    let all : beside identity state values note event ≡ (if values.is_lost then idle state note else observing values.running (idle state note)) =
    ap (λ (b : Beside). if values.is_lost then idle state note else observing values.running b) (idle_event identity state note event is) in
    let own = app_services values.is_lost values.running state note in (
      seen ∙ (seen_option values.is_lost values.running state ∙ ap (λ (s : Serving). let o : Option Serving = Some s in o) (own.0 ∙ ap (λ (b : Beside). b.services) (sym all))),
      own.1 ∙ ap (λ (b : Beside). b.sent) (sym all),
      own.2 ∙ ap (λ (b : Beside). b.note) (sym all),
    )

-- Services that know the settings see nothing new.
pub seen_same : (services : Option Serving) (values : Values) → KnowsOf services values → services ≡ seen_by values services
seen_same None values known = none_seen values.is_lost
  where
    none_seen : (b : Bool) → (let o : Option Serving = None in o) ≡ (if b then None else None)
    none_seen true = refl
    none_seen false = refl
seen_same (Some state) values known =
    ap (λ (s : Serving). let o : Option Serving = Some s in o) (sym (observed_same state values.running known.1))
    ∙ ap (λ (b : Bool). if b then Some state else Some (observed state values.running)) (sym known.0)

pub app_steps : (serves : Bool) (old new : State) (services after : Option Serving) (frames : List (List ℕ)) (event : Event) (note : Note) → IsOfApplication event → frames ≡ [] → Takes old event note new
    → after ≡ seen_by new.device.live.values services
    → StepsBoth (record { port = old; serves = serves; services = services; frames = frames }) event note (record { port = new; serves = serves; services = after; frames = frames })
app_steps serves old new services after frames event note is none takes seen = record {
  said = note;
  middle = new;
  alone = takes;
  serves = refl;
  beside = subst (λ (f : List (List ℕ)). IsBeside services old.device.station.identity new.device.live.values note event after f note) (sym none)
      (beside_app services after old.device.station.identity new.device.live.values note event is seen);
  gives = gives_app services new.device.live.values note event new is;
}
