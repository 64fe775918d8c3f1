-- What the services send beside a step.
use Rattle.std.proofs.Common.{◌≡◌, ◌≢◌, ◌≤◌, ◌||◌, ◌&&◌, ◌++◌, ◌∷◌, length, arith, ℕ, Bool, true, false, List, [], Option, Some, None, is_some, refl, sym, ap, subst, ◌∙◌, inl, inr}
use Rattle.std.specs.Prelude.{if◌then◌else◌}
use Rattle.flash_model.specs.declared.flash.Flash.{Ghosts as Flash}
use Rattle.pn_values.specs.declared.identity.Identity.{Identity}
use Rattle.device_frames.specs.declared.event.Event.{Event}
use Rattle.device_frames.specs.declared.event.Event.TheVariants.{Frame, Call, Tick, Neighbour, Application}
use Rattle.device_frames.specs.declared.note.Note.{Note}
use Rattle.device_frames.specs.declared.note.Note.TheVariants.{Done}
use Rattle.device_frames.specs.Heard.{Ticks, heard_of}
use Rattle.device_core.specs.State as device
use Rattle.device_core.specs.Machine.{handled_step, heard_step}
use Rattle.device_core.specs.Steps.{Steps}
use Rattle.pn_values.specs.declared.settings.Settings.{Settings}
use Rattle.services.specs.State.{frames_in}
use Rattle.services.specs.State as ip
use Rattle.device_station.specs.Serving.{Completes, Other, Piece, Serving, Taken, announces, answer_by, answered, completed, disputes, heard, is_piece, meets, overheard, piece_in, replied, said_of, sent_by_tick, takes}
use Rattle.lldp.specs.Announcement.{announcement}
use Rattle.device_station.specs.State.{State, Frames, no_frames}
use Rattle.settings_journal.specs.settings_store.State.{Values}
use Rattle.device_station.specs.Beside.{Beside, answer_beside, event_beside, heard_beside, idle, is_dropped, joined_beside, joined_by, joined_from, observing}
use Rattle.device_station.specs.Leaps.{tick_beside}
use Rattle.device_station.specs.Steps.{AtMostOne, Gives, IsSparing, StationSteps}
use Rattle.device_station.proofs.Stepping.{not_done}

at_most_one : (frame : Option (List ℕ)) → AtMostOne (frames_in frame)
at_most_one None = inl refl
at_most_one (Some frame) = inr (frame, refl)

-- the services beside a step in which power was lost or not
abbrev with_power : Bool → Identity → Serving → Settings → Note → Event → Beside
with_power is_lost identity state running note event = if is_lost then idle state note else observing running (event_beside identity state note event)

-- a tick sends at most one frame of the IP address, and LLDP
both_few : (frame : Option (List ℕ)) (b : Bool) (other : List ℕ) → length (frames_in frame ++ (if b then other ∷ [] else [])) ≤ 2
both_few None true other = omega arith
both_few None false other = omega arith
both_few (Some frame) true other = omega arith
both_few (Some frame) false other = omega arith

at_most_two : (state : Serving) → length (sent_by_tick state) ≤ 2
at_most_two state = both_few (ip.sent_by_tick state.ip) (announces state) (announcement (said_of state))

tick_few_by : (is_lost : Bool) (identity : Identity) (state : Serving) (running : Settings) → length (with_power is_lost identity state running Done Tick).sent ≤ 2
tick_few_by true identity state running = omega arith
tick_few_by false identity state running = at_most_two state

pub tick_few : (identity : Identity) (values : Values) (state : Serving) → length (tick_beside identity values state).sent ≤ 2
tick_few identity values state = tick_few_by values.is_lost identity state values.running

-- ---- at most one frame

few_frames : (frame : Option (List ℕ)) → length (frames_in frame) ≤ 1
few_frames None = omega arith
few_frames (Some frame) = omega arith

-- The services answer a frame by at most one.
pub heard_few : (identity : Identity) (state : Serving) (note : Note) (bytes : List ℕ) → length (heard_beside identity state note bytes).sent ≤ 1
heard_few identity state note bytes = few_frames (answer_beside identity state note bytes)

-- They do not answer one that completes a call.
alone_by : (dropped : Bool) (piece : Piece) (reply : Option (List ℕ)) (call : Event) → Some call ≡ (if dropped then completed piece else None)
    → frames_in (if dropped then answer_by piece reply else None) ≡ []
alone_by false piece reply call e = refl
alone_by true Other reply call e = absurd cc
alone_by true (Taken own) reply call e = absurd cc
alone_by true (Completes other) reply call e = refl

pub joined_alone : (identity : Identity) (state : Serving) (note : Note) (bytes : List ℕ) (call : Event) → Some call ≡ joined_from state note bytes
    → (heard_beside identity state note bytes).sent ≡ []
joined_alone identity state note bytes call e = alone_by (is_dropped note) (piece_in state bytes) (replied identity state bytes) call e

-- They only count a frame that the device did not drop, if it is a conflict.
undropped_by : (dropped disputed taken : Bool) (after other : Serving) (answer : Option (List ℕ)) (note : Note) → dropped ≡ false
    → ◌≡◌ {A = Beside} (record {
      services = if dropped then after else other;
      sent = frames_in (if dropped then answer else None);
      note = if is_some (if dropped then answer else None) || (disputed || (dropped && taken)) then Done else note;
    }) (record { services = other; sent = []; note = if disputed then Done else note })
undropped_by true disputed taken after other answer note kept = cc kept
undropped_by false true taken after other answer note kept = refl
undropped_by false false taken after other answer note kept = refl

pub undropped_beside : (identity : Identity) (state : Serving) (note : Note) (bytes : List ℕ) → is_dropped note ≡ false
    → heard_beside identity state note bytes ≡ record { services = overheard state bytes; sent = []; note = if disputes state bytes then Done else note }
undropped_beside identity state note bytes kept =
    undropped_by (is_dropped note) (disputes state bytes) (takes state bytes) (heard state bytes) (overheard state bytes) (answered identity state bytes) note kept

pub undropped_call : (state : Serving) (note : Note) (bytes : List ℕ) → is_dropped note ≡ false → ◌≡◌ {A = Option Event} None (joined_from state note bytes)
undropped_call state note bytes kept = rw kept refl

sparing_frame : (b : Bool) (answer : Option (List ℕ)) (frames : Frames) → frames.services ≡ frames_in (if b then answer else None)
    → (b ≡ true → frames.device ≡ []) → (bytes : _) → IsSparing (Frame bytes) frames
sparing_frame true answer frames e silent bytes = inr (silent refl, subst AtMostOne (sym e) (at_most_one answer))
sparing_frame false answer frames e silent bytes = inl e

sparing_by : (is_lost : Bool) (identity : Identity) (state : Serving) (running : Settings) (note : Note) (event : Event) (frames : Frames)
    → frames.services ≡ (with_power is_lost identity state running note event).sent → (note ≢ Done → frames.device ≡ []) → IsSparing event frames
sparing_by true identity state running note (Frame bytes) frames e silent = inl e
sparing_by true identity state running note (Call caller address octets) frames e silent = e
sparing_by true identity state running note Tick frames e silent = rw e (omega arith)
sparing_by true identity state running note (Application local) frames e silent = e
sparing_by true identity state running note (Neighbour neighbour) frames e silent = e
sparing_by false identity state running note (Frame bytes) frames e silent =
    sparing_frame (is_dropped note) (answered identity state bytes.items) frames e (λ dropped. silent (not_done note dropped)) bytes
sparing_by false identity state running note (Call caller address octets) frames e silent = e
sparing_by false identity state running note Tick frames e silent = subst (λ (f : List (List ℕ)). length f ≤ 2) (sym e) (at_most_two state)
sparing_by false identity state running note (Application local) frames e silent = e
sparing_by false identity state running note (Neighbour neighbour) frames e silent = e

-- ---- power that was lost

lost_by : (is_lost : Bool) (identity : Identity) (state after : Serving) (running : Settings) (note : Note) (event : Event) (sent : List (List ℕ))
    → after ≡ (with_power is_lost identity state running note event).services → sent ≡ (with_power is_lost identity state running note event).sent → is_lost ≡ true → (sent ≡ []) × (after ≡ state)
lost_by true identity state after running note event sent e f lost = (f, e)
lost_by false identity state after running note event sent e f lost = absurd cc

-- ---- a note that is not 'done'

-- the note of a tick
ticks_done : {F : Type 0} {S : ℕ} (as_flash : Flash F S) (old new : device.State F) (sent : List (List ℕ)) (said : Note) → Steps as_flash old Ticks sent said new → said ≡ Done
unfolding heard_step handled_step
ticks_done as_flash old new sent said steps = steps.note

tick_done : {F : Type 0} {S : ℕ} (as_flash : Flash F S) (old new : device.State F) (sent : List (List ℕ)) (said : Note) → Steps as_flash old (heard_of old.station.identity Tick) sent said new → said ≡ Done
unfolding heard_of
tick_done as_flash old new sent said steps = ticks_done as_flash old new sent said steps

same_frames : (frames : Frames) → frames.device ≡ [] → frames.services ≡ [] → frames ≡ no_frames
same_frames frames device services = ap (λ d. record { device = d; services = frames.services }) device ∙ ap (λ s. record { device = []; services = s }) services

none_by : (answer : Option (List ℕ)) (disputed : Bool) (said note : Note) → said ≡ (if is_some answer || disputed then Done else note) → said ≢ Done
    → (frames_in answer ≡ []) × (note ≢ Done)
none_by None true said note e refused = absurd (refused e)
none_by None false said note e refused = (refl, λ done. refused (e ∙ done))
none_by (Some frame) disputed said note e refused = absurd (refused e)

refused_by : (is_lost : Bool) (identity : Identity) (state : Serving) (running : Settings) (note said : Note) (event : Event) (sent : List (List ℕ))
    → sent ≡ (with_power is_lost identity state running note event).sent → said ≡ (with_power is_lost identity state running note event).note → said ≢ Done
    → (event ≡ Tick → note ≡ Done) → (sent ≡ []) × (note ≢ Done)
refused_by true identity state running note said event sent e f refused tick = (e, λ done. refused (f ∙ done))
refused_by false identity state running note said (Frame bytes) sent e f refused tick =
    let n = none_by (answer_beside identity state note bytes.items) (disputes state bytes.items || (is_dropped note && takes state bytes.items)) said note f refused in
    (e ∙ n.0, n.1)
refused_by false identity state running note said (Call caller address octets) sent e f refused tick = (e, λ done. refused (f ∙ done))
refused_by false identity state running note said Tick sent e f refused tick = absurd (refused (f ∙ tick refl))
refused_by false identity state running note said (Application local) sent e f refused tick = (e, λ done. refused (f ∙ done))
refused_by false identity state running note said (Neighbour neighbour) sent e f refused tick = (e, λ done. refused (f ∙ done))

-- ---- a call that was completed

-- the services send nothing
sparing_none : (event : Event) (frames : Frames) → frames.services ≡ [] → IsSparing event frames
sparing_none (Frame bytes) frames none = inl none
sparing_none (Call caller address octets) frames none = none
sparing_none Tick frames none = rw none (omega arith)
sparing_none (Application local) frames none = none
sparing_none (Neighbour neighbour) frames none = none

-- what the services do with the frame that completes it
record IsQuiet (after : Beside) : Type 0 where
  silent : after.sent ≡ []
  done : after.note ≡ Done

accepted : (disputed met : Bool) → (disputed || (met || true)) ≡ true
accepted true met = refl
accepted false true = refl
accepted false false = refl

done_if : (b : Bool) (note : Note) → b ≡ true → (if b then Done else note) ≡ Done
done_if b note e = rw e refl

abbrev heard_as : Bool → Piece → Option (List ℕ) → Bool → Bool → Serving → Note → Beside
heard_as dropped piece reply disputed met after note = record {
  services = after;
  sent = frames_in (if dropped then answer_by piece reply else None);
  note = if is_some (if dropped then answer_by piece reply else None) || (disputed || (dropped && (met || is_piece piece))) then Done else note;
}

frame_quiet : (dropped : Bool) (piece : Piece) (reply : Option (List ℕ)) (disputed met : Bool) (after : Serving) (note : Note) (call : Event)
    → Some call ≡ (if dropped then completed piece else None) → IsQuiet (heard_as dropped piece reply disputed met after note)
frame_quiet true Other reply disputed met after note call e = absurd cc
frame_quiet true (Taken own) reply disputed met after note call e = absurd cc
frame_quiet true (Completes other) reply disputed met after note call e =
    record { silent = refl; done = done_if (disputed || (met || true)) note (accepted disputed met) }
frame_quiet false piece reply disputed met after note call e = absurd cc

step_quiet : (is_lost : Bool) (identity : Identity) (state : Serving) (running : Settings) (note : Note) (event call : Event)
    → Some call ≡ joined_by is_lost state note event → IsQuiet (with_power is_lost identity state running note event)
step_quiet true identity state running note (Frame bytes) call e = absurd cc
step_quiet false identity state running note (Frame bytes) call e =
    let quiet = frame_quiet (is_dropped note) (piece_in state bytes.items) (replied identity state bytes.items) (disputes state bytes.items) (meets state bytes.items)
    (event_beside identity state note (Frame bytes)).services note call e in
    record { silent = quiet.silent; done = quiet.done }
step_quiet is_lost identity state running note (Call caller address octets) call e = absurd cc
step_quiet is_lost identity state running note Tick call e = absurd cc
step_quiet is_lost identity state running note (Application local) call e = absurd cc
step_quiet is_lost identity state running note (Neighbour neighbour) call e = absurd cc

-- ---- a step

-- what is known of a step whose event completed a call, or not
record Facts {F : Type 0} (old : State F) (event : Event) (frames : Frames) (said : Note) (new : State F) (middle : device.State F) : Type 0 where
  spares : IsSparing event frames
  silent : new.device.live.values.is_lost ≡ true → frames.services ≡ []
  none : said ≢ Done → (frames ≡ no_frames) × (new.device ≡ old.device)

module _ {F : Type 0} {S : ℕ} (as_flash : Flash F S) (old new : State F) (event : Event) (frames : Frames) (said : Note) (steps : StationSteps as_flash old event frames said new) where
  unmoved : steps.middle.live.values.is_lost ≡ true → (frames.services ≡ []) × (new.services ≡ old.services)
  unmoved is_lost = lost_by steps.middle.live.values.is_lost old.device.station.identity old.services new.services steps.middle.live.values.running steps.note event frames.services
      steps.knows steps.sends is_lost

  turned_down : said ≢ Done → (steps.first ≡ []) × (frames.services ≡ []) × (steps.middle ≡ old.device)
  turned_down is_refused =
      let n = refused_by steps.middle.live.values.is_lost old.device.station.identity old.services steps.middle.live.values.running steps.note said event frames.services steps.sends steps.says is_refused
      (λ is. tick_done as_flash old.device steps.middle steps.first steps.note
      (subst (λ (e : Event). Steps as_flash old.device (heard_of old.device.station.identity e) steps.first steps.note steps.middle) is steps.alone.steps)) in
      let device = steps.alone.refused n.1 in
      (device.1, n.0, device.0)

  facts_by : (joined : Option Event) → joined ≡ joined_beside old.services steps.middle.live.values steps.note event → Gives as_flash joined steps.middle steps.first frames.device new.device
      → Facts old event frames said new steps.middle
  facts_by None is gives = record {
    spares = sparing_by steps.middle.live.values.is_lost old.device.station.identity old.services steps.middle.live.values.running steps.note event frames steps.sends
        (λ refused. gives.1 ∙ (steps.alone.refused refused).1);
    silent = λ lost. (unmoved (sym (ap (λ (d : device.State F). d.live.values.is_lost) gives.0) ∙ lost)).0;
    none = λ refused. let n = turned_down refused in (same_frames frames (gives.1 ∙ n.0) n.1, gives.0 ∙ n.2);
  }
  facts_by (Some call) is gives =
      let quiet = step_quiet steps.middle.live.values.is_lost old.device.station.identity old.services steps.middle.live.values.running steps.note event call is in
      let silent = steps.sends ∙ quiet.silent in
      record { spares = sparing_none event frames silent; silent = λ lost. silent; none = λ refused. absurd (refused (steps.says ∙ quiet.done)) }

  facts : Facts old event frames said new steps.middle
  facts = facts_by (joined_beside old.services steps.middle.live.values steps.note event) refl steps.gives

  pub sparing : IsSparing event frames
  sparing = facts.spares

  pub lost : new.device.live.values.is_lost ≡ true → (frames.services ≡ []) × (steps.middle.live.values.is_lost ≡ true → new.services ≡ old.services)
  lost is_lost = (facts.silent is_lost, λ early. (unmoved early).1)

  pub refused : said ≢ Done → (frames ≡ no_frames) × (new.device ≡ old.device)
  refused is_refused = facts.none is_refused
