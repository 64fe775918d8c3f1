-- The step in which its neighbour is reported to the device.
use Rattle.std.proofs.Common.{◌≡◌, ℕ, suc, Bool, true, false, Option, option_map, List, [], refl, sym, ap, subst, ◌∙◌, arith}
use Rattle.flash_model.specs.declared.flash.Flash.{Ghosts as Flash}
use Rattle.settings_journal.specs.settings_store.Machine.{Outcome}
use Rattle.lldp.specs.declared.neighbour.Neighbour.{Neighbour}
use Rattle.lldp.specs.Peer.{Peer}
use Rattle.device_frames.specs.declared.event.Event.{Event}
use Rattle.device_frames.specs.declared.event.Event.TheVariants.{Neighbour as Meets}
use Rattle.device_frames.specs.declared.note.Note.{Note}
use Rattle.device_frames.specs.declared.note.Note.TheVariants.{Done}
use Rattle.device_frames.specs.Heard.{Met, heard_of}
use Rattle.device_core.specs.Machine.{Stepped, handled_step, heard_step, step_of}
use Rattle.device_core.specs.State.{Live, Station}
use Rattle.device_core.specs.State as device
use Rattle.device_station.specs.Leaps.{Leapt, OnlyTheLastMeets, OnlyTheLastOfPlain, OnlyTheLastSends, due_beside, plain_ticks, ticks_of, told_at, told_if}
use Rattle.device_station.proofs.Leaping.{told_last, told_ticks}
use Rattle.device_station.specs.Serving.{Serving, as_neighbour, news_in, told}
use Rattle.device_station.specs.State.{State}
use Rattle.device_station.specs.Steps.{DeviceSteps, IsReady, Tells, TellsIf}

-- The device sends nothing, and takes note.
record IsQuiet (step : Stepped) : Type 0 where
  silent : step.frames ≡ []
  done : step.note ≡ Done

met_quiet : (outcomes : List Outcome) (station : Station) (live : Live) (peer : Option Peer) → IsQuiet (heard_step outcomes station live (Met peer))
unfolding heard_step handled_step
met_quiet outcomes station live peer = record { silent = refl; done = refl }

event_quiet : (outcomes : List Outcome) (station : Station) (live : Live) (neighbour : Option Neighbour)
    → IsQuiet (heard_step outcomes station live (heard_of station.identity (Meets neighbour)))
unfolding heard_of
event_quiet outcomes station live neighbour = met_quiet outcomes station live _

-- The state after it, whatever outcomes there are: nothing is asked of the flash.
met_accepts : (outcomes : List Outcome) (station : Station) (live : Live) (neighbour : Option Neighbour)
    → (heard_step outcomes station live (heard_of station.identity (Meets neighbour))).accepted ≡ []
unfolding heard_of heard_step handled_step
met_accepts outcomes station live neighbour = refl

met_live : (outcomes : List Outcome) (station : Station) (live : Live) (neighbour : Option Neighbour)
    → (heard_step outcomes station live (heard_of station.identity (Meets neighbour))).live ≡ (step_of [] station live (Meets neighbour)).live
unfolding heard_of heard_step handled_step
met_live outcomes station live neighbour = refl

same_state : {F : Type 0} (new old : device.State F) (live : Live) → new.flash ≡ old.flash → new.station ≡ old.station → new.live ≡ live → new ≡ record old { live = live }
same_state {F} new old live flash station now =
    ap (λ (f : F). let it : device.State F = record { flash = f; station = new.station; live = new.live } in it) flash
    ∙ (ap (λ (s : Station). let it : device.State F = record { flash = old.flash; station = s; live = new.live } in it) station
    ∙ ap (λ (l : Live). let it : device.State F = record { flash = old.flash; station = old.station; live = l } in it) now)

telling : {F : Type 0} {S : ℕ} (as_flash : Flash F S) (old new : device.State F) (neighbour : Option Neighbour) (sent : List (List ℕ)) (said : Note)
    → DeviceSteps as_flash old (Meets neighbour) sent said new → DeviceSteps as_flash old (Meets neighbour) [] Done new
telling as_flash old new neighbour sent said steps =
    let quiet = event_quiet steps.steps.outcomes old.station old.live neighbour in
    subst (λ (f : List (List ℕ)). DeviceSteps as_flash old (Meets neighbour) f Done new) (steps.steps.frames ∙ quiet.silent)
    (subst (λ (n : Note). DeviceSteps as_flash old (Meets neighbour) sent n new) (steps.steps.note ∙ quiet.done) steps)

pub told_by : {F : Type 0} {S : ℕ} (as_flash : Flash F S) (old new : device.State F) (state : Serving) (event : Event) (sent : List (List ℕ)) (said : Note)
    → event ≡ news_in state → DeviceSteps as_flash old event sent said new → DeviceSteps as_flash old (news_in state) [] Done new
told_by as_flash old new state event sent said is steps =
    telling as_flash old new (option_map as_neighbour state.near.known) sent said (subst (λ (e : Event). DeviceSteps as_flash old e sent said new) is steps)

exactly : {F : Type 0} {S : ℕ} (as_flash : Flash F S) (old new : device.State F) (neighbour : Option Neighbour) (sent : List (List ℕ)) (said : Note)
    → DeviceSteps as_flash old (Meets neighbour) sent said new → new ≡ record old { live = (step_of [] old.station old.live (Meets neighbour)).live }
exactly as_flash old new neighbour sent said steps =
    same_state new old (step_of [] old.station old.live (Meets neighbour)).live
    (steps.steps.stretch.untouched (met_accepts steps.steps.outcomes old.station old.live neighbour)) steps.steps.same
    (steps.steps.live ∙ met_live steps.steps.outcomes old.station old.live neighbour)

pub exact_by : {F : Type 0} {S : ℕ} (as_flash : Flash F S) (old new : device.State F) (state : Serving) (event : Event) (sent : List (List ℕ)) (said : Note)
    → event ≡ news_in state → DeviceSteps as_flash old event sent said new → new ≡ record old { live = (step_of [] old.station old.live (news_in state)).live }
exact_by {F} as_flash old new state event sent said is steps =
    exactly as_flash old new (option_map as_neighbour state.near.known) sent said (subst (λ (e : Event). DeviceSteps as_flash old e sent said new) is steps)

-- ---- what is reported

pub tells_news : {F : Type 0} {S : ℕ} (as_flash : Flash F S) (old new : State F) → old.services.has_news ≡ true
    → DeviceSteps as_flash old.device (news_in old.services) [] Done new.device
    → new.device ≡ record old.device { live = (step_of [] old.device.station old.device.live (news_in old.services)).live }
    → new.services ≡ told old.services → Tells as_flash old new
tells_news as_flash old new news alone state services =
    subst (λ (b : Bool). TellsIf as_flash b old new) (sym news) (alone, state, services)

pub tells_none : {F : Type 0} {S : ℕ} (as_flash : Flash F S) (state : State F) → state.services.has_news ≡ false → Tells as_flash state state
tells_none as_flash state none = subst (λ (b : Bool). TellsIf as_flash b state state) (sym none) refl

state_by : {F : Type 0} {S : ℕ} (as_flash : Flash F S) (b : Bool) (old new : State F) → TellsIf as_flash b old new
    → (new.device ≡ record old.device { live = (told_if b old.device.station old.device.live old.services).live })
    × (new.services ≡ (told_if b old.device.station old.device.live old.services).services)
state_by as_flash true old new tells = (tells.1, tells.2)
state_by {F} as_flash false old new tells = (ap (λ (s : State F). s.device) tells, ap (λ (s : State F). s.services) tells)

pub is_ready : {F : Type 0} {S : ℕ} (as_flash : Flash F S) (old new : State F) → Tells as_flash old new → IsReady old new
is_ready as_flash old new tells = let is = state_by as_flash old.services.has_news old new tells in record { device = is.0; services = is.1 }

-- What is due does not depend on the neighbour that the device knows.
due_if : (b : Bool) (station : Station) (live : Live) (state : Serving)
    → due_beside (told_if b station live state).live (told_if b station live state).services ≡ due_beside live state
unfolding heard_of heard_step handled_step
due_if true station live state = refl
due_if false station live state = refl

pub told_due : {F : Type 0} {S : ℕ} (as_flash : Flash F S) (old new : State F) → Tells as_flash old new
    → due_beside new.device.live new.services ≡ due_beside old.device.live old.services
told_due {F} as_flash old new tells =
    let is = state_by as_flash old.services.has_news old new tells in
    ap (λ (d : device.State F). due_beside d.live new.services) is.0
    ∙ (ap (due_beside (told_at old.device.station old.device.live old.services).live) is.1
    ∙ due_if old.services.has_news old.device.station old.device.live old.services)

-- ---- units at a device to which its neighbour is reported first

-- what units do at a device that knows its neighbour
pub record Plain {F : Type 0} (units : ℕ) (old : device.State F) (state : Serving) (new : device.State F) (after : Serving) (sent : List (List ℕ)) : Type 0 where
  pub device : new ≡ record old { live = (plain_ticks units old.station old.live state).live }
  pub services : after ≡ (plain_ticks units old.station old.live state).services
  pub frames : sent ≡ (plain_ticks units old.station old.live state).frames
  pub last : OnlyTheLastOfPlain units old.station old.live state
  pub quiet : OnlyTheLastMeets units old.station old.live state

-- what they do at any
pub record Elapsed {F : Type 0} (units : ℕ) (old : device.State F) (state : Serving) (new : device.State F) (after : Serving) (sent : List (List ℕ)) : Type 0 where
  pub device : new ≡ record old { live = (ticks_of units old.station old.live state).live }
  pub services : after ≡ (ticks_of units old.station old.live state).services
  pub frames : sent ≡ (ticks_of units old.station old.live state).frames
  pub last : OnlyTheLastSends units old.station old.live state

elapsed_at : {F : Type 0} (units : ℕ) (old : device.State F) (state : Serving) (new : device.State F) (after : Serving) (sent : List (List ℕ))
    → (let ready = told_at old.station old.live state in Plain (suc units) (record old { live = ready.live }) ready.services new after sent)
    → Elapsed (suc units) old state new after sent
elapsed_at {F} units old state new after sent plain =
    let is = told_ticks units old.station old.live state plain.quiet in
    record {
      device = plain.device ∙ ap (λ (l : Leapt). let it : device.State F = record old { live = l.live } in it) (sym is);
      services = plain.services ∙ ap (λ (l : Leapt). l.services) (sym is);
      frames = plain.frames ∙ ap (λ (l : Leapt). l.frames) (sym is);
      last = told_last units old.station old.live state plain.quiet plain.last;
    }

pub elapsed : {F : Type 0} {S : ℕ} (as_flash : Flash F S) (units before : ℕ) (old mid : State F) (new : device.State F) (after : Serving) (sent : List (List ℕ))
    → units ≡ suc before → Tells as_flash old mid → Plain units mid.device mid.services new after sent → Elapsed units old.device old.services new after sent
elapsed {F} as_flash units before old mid new after sent count tells plain =
    let is = state_by as_flash old.services.has_news old mid tells in
    let ready = told_at old.device.station old.device.live old.services in
    subst (λ (n : ℕ). Elapsed n old.device old.services new after sent) (sym count)
    (elapsed_at before old.device old.services new after sent
    (subst (λ (n : ℕ). Plain n (record old.device { live = ready.live }) ready.services new after sent) count
    (subst (λ (d : device.State F). Plain units d ready.services new after sent) is.0
    (subst (λ (s : Serving). Plain units mid.device s new after sent) is.1 plain))))

pub none_elapsed : {F : Type 0} (units : ℕ) (old : device.State F) (state : Serving) (new : device.State F) (after : Serving) (sent : List (List ℕ))
    → units ≡ 0 → Plain units old state new after sent → Elapsed units old state new after sent
none_elapsed units old state new after sent none plain =
    subst (λ (n : ℕ). Elapsed n old state new after sent) (sym none)
    (let zeros = subst (λ (n : ℕ). Plain n old state new after sent) none plain in
    record { device = zeros.device; services = zeros.services; frames = zeros.frames; last = λ before sooner. absurd (omega (arith, sooner)) })
