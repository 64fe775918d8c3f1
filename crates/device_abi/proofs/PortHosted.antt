-- The state of a host from operation to operation.
use Rattle.std.proofs.Common.{◌≡◌, ℕ, Bool, true, false, List, [], ◌∷◌, ◌++◌, length, refl, sym, ap, subst, ◌∙◌, inl, inr, append_assoc, arith, Result, Ok, Err, Option, Some, None, ◌+◌, ◌<◌, take, get_or}
use Rattle.std.specs.Prelude.{if◌then◌else◌, drop, flat_map, IsOk, OnOk}
use Rattle.std.proofs.lemmas.Grind.{flat_map-append}
use Rattle.std.proofs.lemmas.List.{append-nil, take-append-drop, take_more}
use Rattle.std.proofs.lemmas.Bool.{false≢true}
use Rattle.flash_model.specs.Calls.{Call}
use Rattle.flash_model.specs.Image.{Image, IsImage}
use Rattle.settings_journal.specs.Cut.{CutOff, all_carried_out, carried_out}
use Rattle.settings_journal.specs.Image.{LeftByDevice, StartsWith}
use Rattle.device_station.specs.recorded.Record.{image_of}
use Rattle.device_frames.specs.declared.event.Event.{Event}
use Rattle.device_frames.specs.declared.note.Note.{Note}
use Rattle.device_core.specs.Cycle.{started}
use Rattle.device_core.specs.Machine.{run_of, step_of}
use Rattle.device_core.specs.State.{Live, Station}
use Rattle.device_station.specs.Beside.{joined_beside}
use Rattle.device_station.specs.Leaps.{Leapt, told_if}
use Rattle.device_station.specs.Runs.{call_of}
use Rattle.device_station.specs.Serving.{Serving, news_in}
use Rattle.device_station.specs.State.{in_order, of_device}
use Rattle.device_abi.specs.Host.{Begun, Ends, GoesOn, HandsIn, Hosted, IsFresh, IsOpen, Keeps, Performs, Stands, Stores, Turn, UnderWay, after, begun_by, events_of, frames_by, heard, hosted, hosted_from, then_hosted, turn_of}
use Rattle.device_station.specs.port.Served.{Served, IsFetched, advanced_both, advanced_from, barred_both, frames_of}
use Rattle.device_station.specs.port.ServedSteps.{GivesAny, GivesPort, IsBeside, StepsBoth, TakesBoth, TellsIf, TellsOf}
use Rattle.device_station.specs.port.State.{State, advanced_by, barred_by, has_work}
use Rattle.device_station.specs.port.Steps.{Takes}
use Rattle.device_abi.specs.declared.host.Operation.{Operation}
use Rattle.device_abi.specs.declared.host.Operation.TheVariants as operation
use Rattle.device_station.specs.declared.port.stage.Stage.TheVariants.{Booted}
use Rattle.device_abi.proofs.HostDevice.{Goes, goes_none, goes_on, live_of, not_begun, run_append, whole}
use Rattle.device_abi.proofs.HostDevice.{frames_of as frames_ran}
use Rattle.device_abi.proofs.HostFree.{free_fetched, free_idle}

-- ---- one event after others

abbrev then_turn : Hosted → Turn → Hosted
then_turn before turn = record { heard = before.heard ++ turn.heard; turns = before.turns ++ turn.sent ∷ []; services = turn.services }

-- The turn after these.
abbrev next_turn : Station → Live → Hosted → Event → Turn
next_turn station live before event = turn_of station (run_of [] station live before.heard).live before.services event

hosted_one : (turn : Turn) → then_hosted turn (record { heard = []; turns = []; services = turn.services }) ≡ then_turn (record { heard = []; turns = []; services = turn.services }) turn
hosted_one turn = ap (λ h. let o : Hosted = record { heard = h; turns = turn.sent ∷ []; services = turn.services } in o) (append-nil turn.heard)

hosted_two : (turn last : Turn) (more : Hosted) → then_hosted turn (then_turn more last) ≡ then_turn (then_hosted turn more) last
hosted_two turn last more =
    ap (λ h. let o : Hosted = record { heard = h; turns = turn.sent ∷ (more.turns ++ last.sent ∷ []); services = last.services } in o) (sym (append_assoc turn.heard more.heard last.heard))

pub hosted_behind : (station : Station) (live : Live) (services : Option Serving) (events : List Event) (event : Event)
    → hosted_from station live services (events ++ event ∷ []) ≡ then_turn (hosted_from station live services events) (next_turn station live (hosted_from station live services events) event)
hosted_behind station live services [] event = hosted_one (turn_of station live services event)
hosted_behind station live services (one ∷ events) event =
    let turn = turn_of station live services one in
    let ran = run_of [] station live turn.heard in
    let more = hosted_from station ran.live turn.services events in
    let there : (run_of [] station live (turn.heard ++ more.heard)).live ≡ (run_of [] station ran.live more.heard).live =
    ap (λ r. r.live) (run_append station live turn.heard more.heard) ∙ live_of ran (run_of [] station ran.live more.heard) in
    ap (then_hosted turn) (hosted_behind station ran.live turn.services events event)
    ∙ hosted_two turn (next_turn station ran.live more event) more
    ∙ ap (λ l. then_turn (then_hosted turn more) (turn_of station l more.services event)) (sym there)

pub hosted_more : (begun : Begun) (events : List Event) (event : Event)
    → hosted begun (events ++ event ∷ []) ≡ then_turn (hosted begun events) (turn_of begun.station (after begun (heard begun events)).live (hosted begun events).services event)
unfolding hosted after
hosted_more begun events event = hosted_behind begun.station (started begun.station.real begun.first begun.room) begun.services events event

-- ---- the frames of the device are those of a run of the device alone

device_frames : (station : Station) (live : Live) (services : Option Serving) (event : Event)
    → (turn_of station live services event).sent.device ≡ (run_of [] station live (turn_of station live services event).heard).frames
unfolding turn_of
device_frames station live None event = refl
device_frames station live (Some state) event = refl

alone_from : (station : Station) (live : Live) (services : Option Serving) (events : List Event)
    → flat_map of_device (hosted_from station live services events).turns ≡ (run_of [] station live (hosted_from station live services events).heard).frames
alone_from station live services [] = refl
alone_from station live services (event ∷ events) =
    let turn = turn_of station live services event in
    let ran = run_of [] station live turn.heard in
    let more = hosted_from station ran.live turn.services events in
    ap (λ f. f ++ flat_map of_device more.turns) (device_frames station live services event)
    ∙ ap (λ f. ran.frames ++ f) (alone_from station ran.live turn.services events)
    ∙ sym (ap (λ r. r.frames) (run_append station live turn.heard more.heard) ∙ frames_ran ran (run_of [] station ran.live more.heard))

alone_in : (begun : Begun) (events : List Event) → flat_map of_device (hosted begun events).turns ≡ (after begun (heard begun events)).frames
unfolding hosted after
alone_in begun events = alone_from begun.station (started begun.station.real begun.first begun.room) begun.services events

-- ---- the point at which a host is cut off

-- The remaining calls are cut off.
cut : (begun : Begun) (events : List Event) (now : List (List ℕ)) (calls : List Call) (chip torn : Image) → UnderWay begun events now calls chip → IsImage 4096 torn → CutOff chip calls torn → Ends begun events now torn
cut begun events now calls chip torn under sized off = record {
  answered = under.earlier;
  under_way = under.last ∷ [];
  missed = [];
  are = under.are ∙ sym (append-nil (under.earlier ++ under.last ∷ []));
  one = omega arith;
  unsent = [];
  frames = append-nil now ∙ under.sent;
  alone = alone_in begun under.earlier;
  stores = subst (λ e. Stores begun (heard begun under.earlier) (heard begun e) torn) under.are (under.cut torn sized off);
}

-- All calls are carried out.
ends_whole : (begun : Begun) (events : List Event) (now : List (List ℕ)) (port : Served) (chip : Image) → Stands begun events now port chip → port.port.calls ≡ [] → Ends begun events now chip
ends_whole begun events now port chip s none = record {
  answered = events;
  under_way = [];
  missed = [];
  are = sym (append-nil (events ++ []) ∙ append-nil events);
  one = omega arith;
  unsent = frames_of port;
  frames = s.frames;
  alone = alone_in begun events;
  stores = subst (λ e. Stores begun (heard begun events) (heard begun e) chip) (sym (append-nil events)) (whole begun (heard begun events) port.port chip s.keeps none);
}

pub fetched_frames : (port : Served) → IsFetched port → frames_of port ≡ []
fetched_frames port idle = ap (λ f. f ++ port.frames) idle.0.1 ∙ idle.1

-- Between two operations.
ends_by : (begun : Begun) (events : List Event) (now : List (List ℕ)) (port : Served) (chip : Image) (calls : List Call) → port.port.calls ≡ calls → IsImage 4096 chip → Stands begun events now port chip
    → (ends : Ends begun events now chip) × (ends.missed ≡ []) × (IsFetched port → (ends.under_way ≡ []) × (ends.unsent ≡ []))
unfolding ends_whole cut
ends_by begun events now port chip [] e sized s = (ends_whole begun events now port chip s e, refl, λ idle. (refl, fetched_frames port idle))
ends_by begun events now port chip (call ∷ calls) e sized s =
    let under : UnderWay begun events now (call ∷ calls) chip = subst (λ c. IsOpen begun events now c chip) e s.opened in
    (cut begun events now (call ∷ calls) chip chip under sized (inl (not_begun chip call)), refl, λ idle. absurd (let f = sym e ∙ idle.0.0 in cc))

pub ends_at : (begun : Begun) (events : List Event) (now : List (List ℕ)) (port : Served) (chip : Image) → IsImage 4096 chip → Stands begun events now port chip
    → (ends : Ends begun events now chip) × (ends.missed ≡ []) × (IsFetched port → (ends.under_way ≡ []) × (ends.unsent ≡ []))
ends_at begun events now port chip sized s = ends_by begun events now port chip port.port.calls refl sized s

-- Events that it missed.
pub ends_more : (begun : Begun) (events more : List Event) (now : List (List ℕ)) (chip : Image) → Ends begun events now chip → Ends begun (events ++ more) now chip
ends_more begun events more now chip ends = record {
  answered = ends.answered;
  under_way = ends.under_way;
  missed = ends.missed ++ more;
  are = ap (λ l. l ++ more) ends.are ∙ append_assoc (ends.answered ++ ends.under_way) ends.missed more;
  one = ends.one;
  unsent = ends.unsent;
  frames = ends.frames;
  alone = ends.alone;
  stores = ends.stores;
}

-- ---- a piece of work

-- It goes on, or it is cut off.
abbrev pub Worked : {E : Type 0} → Result (Unit {0}) E → Begun → List Event → List (List ℕ) → Served → Image → Type 0
Worked (Ok done) begun events now port chip = Stands begun events now port chip
Worked (Err fault) begun events now port chip = Ends begun events now chip

still_open : (begun : Begun) (events : List Event) (now : List (List ℕ)) (call : Call) (calls : List Call) (chip : Image) → UnderWay begun events now (call ∷ calls) chip → IsOpen begun events now calls (carried_out chip call)
still_open begun events now call [] chip under = tt
still_open begun events now call (next ∷ calls) chip under = record {
  earlier = under.earlier;
  last = under.last;
  are = under.are;
  sent = under.sent;
  cut = λ torn sized off. under.cut torn sized (inr off);
}

module _ (begun : Begun) (events : List Event) (sent : List (List ℕ)) (port : Served) (chip : Image) (s : Stands begun events sent port chip) where
  under_of : (calls : List Call) → port.port.calls ≡ calls → IsOpen begun events sent calls chip
  under_of calls e = subst (λ c. IsOpen begun events sent c chip) e s.opened

  -- The next call is carried out.
  call_done : (call : Call) (calls : List Call) → port.port.calls ≡ call ∷ calls → Stands begun events sent (record port { port = record port.port { calls = calls } }) (carried_out chip call)
  call_done call calls e = record {
    keeps = record {
      stage = s.keeps.stage;
      station = s.keeps.station;
      live = s.keeps.live;
      power = s.keeps.power;
      image = s.keeps.image ∙ ap (all_carried_out chip) e;
      left = s.keeps.left;
      stored = s.keeps.stored;
      boots = s.keeps.boots;
    };
    services = s.services;
    frames = s.frames;
    opened = still_open begun events sent call calls chip (under_of (call ∷ calls) e);
  }

  -- The next frame is sent: this port has the rest.
  frame_done : (rest : Served) (frame : List ℕ) (frames : List (List ℕ)) → port.port.calls ≡ [] → frames_of port ≡ frame ∷ frames → frames_of rest ≡ frames
      → rest.port.device ≡ port.port.device → rest.port.stage ≡ port.port.stage → rest.port.calls ≡ [] → rest.services ≡ port.services → Stands begun events (sent ++ frame ∷ []) rest chip
  frame_done rest frame frames none e is device stage still services = record {
    keeps = record {
      stage = stage ∙ s.keeps.stage;
      station = ap (λ d. d.station) device ∙ s.keeps.station;
      live = ap (λ d. d.live) device ∙ s.keeps.live;
      power = ap (λ d. d.live.values.is_lost) device ∙ s.keeps.power;
      image = ap (λ d. image_of d.flash) device ∙ s.keeps.image ∙ ap (all_carried_out chip) (none ∙ sym still);
      left = subst (λ d. LeftByDevice (image_of d.flash)) (sym device) s.keeps.left;
      stored = ap (λ d. d.live.values.stored) device ∙ s.keeps.stored;
      boots = subst (λ d. StartsWith (image_of d.flash) d.live.values.stored d.live.values.room) (sym device) s.keeps.boots;
    };
    services = services ∙ s.services;
    frames = append_assoc sent (frame ∷ []) (frames_of rest) ∙ ap (λ f. sent ++ frame ∷ f) is ∙ ap (λ f. sent ++ f) (sym e) ∙ s.frames;
    opened = subst (λ c. IsOpen begun events (sent ++ frame ∷ []) c chip) (sym still) tt;
  }

  as_stands : (new between : Served) (chip_then chip_is : Image) (now now_is : List (List ℕ)) → new ≡ between → chip_then ≡ chip_is → now ≡ now_is → Stands begun events now_is between chip_is → Stands begun events now new chip_then
  as_stands new between chip_then chip_is now now_is a b c stands =
      subst (λ n. Stands begun events n new chip_then) (sym c) (subst (λ i. Stands begun events now_is new i) (sym b) (subst (λ p. Stands begun events now_is p chip_is) (sym a) stands))

  -- The first frame, by the frames of the device and of the services.
  sent_by : (frames own : List (List ℕ)) (frame : List ℕ) (more : List (List ℕ)) → port.port.calls ≡ [] → port.port.frames ≡ frames → port.frames ≡ own → frames ++ own ≡ frame ∷ more
      → Stands begun events (sent ++ frame ∷ []) (advanced_from port [] frames) chip
  sent_by [] own frame more none e f all =
      frame_done (advanced_from port [] []) frame more none (ap (λ l. l ++ port.frames) e ∙ f ∙ all) (ap (λ l. l ++ drop 1 port.frames) e ∙ ap (drop 1) f ∙ ap (drop 1) all) refl refl none refl
  sent_by (one ∷ frames) own frame more none e f all =
      let on : advanced_from port [] (one ∷ frames) ≡ record port { port = record port.port { frames = frames } } =
      ap (λ c. let o : Served = record port { port = advanced_by port.port c } in o) none ∙ ap (λ l. let o : Served = record port { port = record port.port { frames = drop 1 l } } in o) e in
      subst (λ p. Stands begun events (sent ++ frame ∷ []) p chip) (sym on)
      (frame_done (record port { port = record port.port { frames = frames } }) frame more none (ap (λ l. l ++ port.frames) e ∙ ap (λ l. (one ∷ frames) ++ l) f ∙ all)
      (ap (λ l. frames ++ l) f ∙ ap (drop 1) all) refl refl none refl)

  on_call : (call : Call) (calls : List Call) → port.port.calls ≡ call ∷ calls → advanced_both port ≡ record port { port = record port.port { calls = calls } }
  on_call call calls e = ap (λ c. advanced_from port c port.port.frames) e ∙ ap (λ c. let o : Served = record port { port = advanced_by port.port c } in o) e

  on_frame : port.port.calls ≡ [] → advanced_both port ≡ advanced_from port [] port.port.frames
  on_frame e = ap (λ c. advanced_from port c port.port.frames) e

  nothing_by : (frames own : List (List ℕ)) → port.port.frames ≡ frames → port.frames ≡ own → frames ++ own ≡ [] → advanced_from port [] port.port.frames ≡ port
  nothing_by [] own e f all =
      ap (advanced_from port []) e ∙ ap (λ l. let o : Served = record port { frames = drop 1 l } in o) (f ∙ all) ∙ sym (ap (λ l. let o : Served = record port { frames = l } in o) (f ∙ all))
  nothing_by (one ∷ frames) own e f all = cc all

  worked_by : {E : Type 0} (calls : List Call) (frames : List (List ℕ)) (result : Result (Unit {0}) E) (new : Served) (chip_then : Image) (now : List (List ℕ)) → port.port.calls ≡ calls → frames_of port ≡ frames
      → IsImage 4096 chip_then → Performs calls frames chip sent result chip_then now → OnOk result (new ≡ advanced_both port) → Worked result begun events now new chip_then
  worked_by (call ∷ calls) frames (Ok done) new chip_then now e f sized is on =
      as_stands new (record port { port = record port.port { calls = calls } }) chip_then (carried_out chip call) now sent (on ∙ on_call call calls e) is.0 is.1 (call_done call calls e)
  worked_by (call ∷ calls) frames (Err fault) new chip_then now e f sized is on =
      subst (λ n. Ends begun events n chip_then) (sym is.1) (cut begun events sent (call ∷ calls) chip chip_then (under_of (call ∷ calls) e) sized (inl is.0))
  worked_by [] (frame ∷ frames) (Ok done) new chip_then now e f sized is on =
      as_stands new (advanced_from port [] port.port.frames) chip_then chip now (sent ++ frame ∷ []) (on ∙ on_frame e) is.1 is.2 (sent_by port.port.frames port.frames frame frames e refl refl f)
  worked_by [] [] (Ok done) new chip_then now e f sized is on =
      as_stands new port chip_then chip now sent (on ∙ on_frame e ∙ nothing_by port.port.frames port.frames refl refl f) is.1 is.2 s
  worked_by [] (frame ∷ frames) (Err fault) new chip_then now e f sized is on = absurd (false≢true is.0)
  worked_by [] [] (Err fault) new chip_then now e f sized is on = absurd (false≢true is.0)

  pub worked : {E : Type 0} (result : Result (Unit {0}) E) (new : Served) (chip_then : Image) (now : List (List ℕ)) → IsImage 4096 chip_then
      → (port.port.stage ≡ Booted → Performs port.port.calls (frames_of port) chip sent result chip_then now) → OnOk result (new ≡ advanced_both port) → Worked result begun events now new chip_then
  worked result new chip_then now sized is on = worked_by port.port.calls (frames_of port) result new chip_then now refl refl sized (is s.keeps.stage) on

goes_by : {E : Type 0} (begun : Begun) (events : List Event) (result : Result (Unit {0}) E) (now : List (List ℕ)) (port : Served) (chip : Image) → Worked result begun events now port chip → GoesOn result begun events [] now port chip
goes_by begun events (Ok done) now port chip w = subst (λ e. Stands begun e now port chip) (sym (append-nil events)) w
goes_by begun events (Err fault) now port chip w = w

-- A piece of work is an operation without an event.
pub went_on : {E : Type 0} (begun : Begun) (events : List Event) (sent : List (List ℕ)) (port : Served) (chip : Image) → Stands begun events sent port chip → (result : Result (Unit {0}) E) (new : Served) (chip_then : Image) (now : List (List ℕ))
    → IsImage 4096 chip_then → (port.port.stage ≡ Booted → Performs port.port.calls (frames_of port) chip sent result chip_then now) → OnOk result (new ≡ advanced_both port) → GoesOn result begun events [] now new chip_then
went_on begun events sent port chip s result new chip_then now sized is on = goes_by begun events result now new chip_then (worked begun events sent port chip s result new chip_then now sized is on)

-- ---- an event

-- What an event did: the steps of the device, and the services.
pub record Turned (begun : Begun) (told : List Event) (turn : Turn) (new : Served) (chip : Image) : Type 0 where
  pub goes : Goes begun told turn.heard new.port chip
  pub services : new.services ≡ turn.services
  pub device : new.port.frames ≡ turn.sent.device
  pub own : new.frames ≡ turn.sent.services

module _ (begun : Begun) (told : List Event) (port : Served) (chip : Image) (k : Keeps begun told port.port chip) (idle : IsFetched port) where
  -- The neighbour is reported to the device, or not.
  told_goes : (b : Bool) (state : Serving) (between : Served) → port.services ≡ Some state → TellsIf b port state between
      → Goes begun told (if b then news_in state ∷ [] else []) between.port chip
      × (between.services ≡ Some (told_if b begun.station (after begun told).live state).services)
      × (between.port.device.live ≡ (told_if b begun.station (after begun told).live state).live)
  told_goes true state between is tells = (
    goes_on begun told [] port.port chip (goes_none begun told port.port chip k idle.0) idle.0 (news_in state) _ between.port tells.takes,
    tells.services,
    tells.takes.exact.live ∙ ap (λ t. (step_of [] t port.port.device.live (news_in state)).live) k.station ∙ ap (λ l. (step_of [] begun.station l (news_in state)).live) k.live,
  )
  told_goes false state between is tells = (
    subst (λ p. Goes begun told [] p.port chip) (sym tells) (goes_none begun told port.port chip k idle.0),
    ap (λ p. p.services) tells ∙ is,
    ap (λ p. p.port.device.live) tells ∙ k.live,
  )

  -- The device is given a call, or not.
  given_goes : (joined : Option Event) (heard : List Event) (middle new : State) → Goes begun told heard middle chip → GivesPort joined middle new → Goes begun told (heard ++ call_of joined) new chip
  given_goes None heard middle new goes gives =
      subst (λ h. Goes begun told h new chip) (sym (append-nil heard)) (subst (λ p. Goes begun told heard p chip) (sym gives) goes)
  given_goes (Some call) heard middle new goes gives = goes_on begun told heard middle chip goes (free_idle middle gives.0) call gives.1 new gives.2

  -- The step of an event after that, and the services beside it.
  event_goes : (state : Serving) (ready : Leapt) (news : List Event) (event : Event) (note : Note) (between new : Served) → Goes begun told news between.port chip → between.services ≡ Some ready.services
      → between.port.device.live ≡ ready.live → barred_both between ≡ None → StepsBoth between event note new
      → (let step = step_of [] begun.station ready.live event in
      Goes begun told (news ++ event ∷ call_of (joined_beside ready.services step.live.values step.note event)) new.port chip
      × IsBeside (Some ready.services) begun.station.identity step.live.values step.note event new.services new.frames note)
  event_goes state ready news event note between new goes services live free steps =
      let step = step_of [] begun.station ready.live event in
      let same : step_of [] between.port.device.station between.port.device.live event ≡ step =
      ap (λ t. step_of [] t between.port.device.live event) goes.keeps.station ∙ ap (λ l. step_of [] begun.station l event) live in
      let values : steps.middle.device.live.values ≡ step.live.values = ap (λ l. l.values) (steps.alone.exact.live ∙ ap (λ x. x.live) same) in
      let said : steps.said ≡ step.note = steps.alone.exact.note ∙ ap (λ x. x.note) same in
      let one = goes_on begun told news between.port chip goes (free_fetched between free).0 event steps.said steps.middle steps.alone in
      let gives : GivesAny (Some ready.services) step.live.values step.note event steps.middle new.port =
      subst (λ n. GivesAny (Some ready.services) step.live.values n event steps.middle new.port) said
      (subst (λ v. GivesAny (Some ready.services) v steps.said event steps.middle new.port) values (subst (λ o. GivesAny o steps.middle.device.live.values steps.said event steps.middle new.port) services steps.gives)) in
      let joined = joined_beside ready.services step.live.values step.note event in
      let all = given_goes joined (news ++ event ∷ []) steps.middle new.port one gives in (
        subst (λ h. Goes begun told h new.port chip) (append_assoc news (event ∷ []) (call_of joined)) all,
        subst (λ n. IsBeside (Some ready.services) begun.station.identity step.live.values n event new.services new.frames note) said
            (subst (λ v. IsBeside (Some ready.services) begun.station.identity v steps.said event new.services new.frames note) values
            (subst (λ (t : Station). IsBeside (Some ready.services) t.identity steps.middle.device.live.values steps.said event new.services new.frames note) goes.keeps.station
            (subst (λ o. IsBeside o between.port.device.station.identity steps.middle.device.live.values steps.said event new.services new.frames note) services steps.beside))),
      )

  turned_by : (services : Option Serving) (event : Event) (note : Note) (between new : Served) → port.services ≡ services → TellsOf services port between → barred_both between ≡ None → StepsBoth between event note new
      → Turned begun told (turn_of begun.station (after begun told).live services event) new chip
  unfolding turn_of
  turned_by None event note between new is same free steps =
      let start = goes_none begun told port.port chip k idle.0 in
      let alone : Takes port.port event steps.said steps.middle = subst (λ p. Takes p.port event steps.said steps.middle) same steps.alone in
      let none : between.services ≡ None = ap (λ p. p.services) same ∙ is in
      let one = goes_on begun told [] port.port chip start idle.0 event steps.said steps.middle alone in
      let beside = subst (λ o. IsBeside o between.port.device.station.identity steps.middle.device.live.values steps.said event new.services new.frames note) none steps.beside in
      let gives : new.port ≡ steps.middle = subst (λ o. GivesAny o steps.middle.device.live.values steps.said event steps.middle new.port) none steps.gives in
      let goes = subst (λ p. Goes begun told (event ∷ []) p chip) (sym gives) one in
      record { goes = goes; services = beside.0; device = goes.frames; own = beside.1 }
  turned_by (Some state) event note between new is tells free steps =
      let first = told_goes state.has_news state between is tells in
      let ready = told_if state.has_news begun.station (after begun told).live state in
      let both = event_goes state ready (if state.has_news then news_in state ∷ [] else []) event note between new first.0 first.1 first.2 free steps in
      record { goes = both.0; services = both.1.0; device = both.0.frames; own = both.1.1 }

  turned : (event : Event) (note : Note) (new : Served) → TakesBoth port event note new → Turned begun told (turn_of begun.station (after begun told).live port.services event) new chip
  turned event note new takes = turned_by port.services event note takes.between new refl takes.tells takes.free takes.steps

open_of : (begun : Begun) (events : List Event) (event : Event) (now : List (List ℕ)) (calls : List Call) (chip : Image) → now ≡ begun.sent ++ frames_by begun events
    → ((torn : Image) → IsImage 4096 torn → CutOff chip calls torn → Stores begun (heard begun events) (heard begun (events ++ event ∷ [])) torn) → IsOpen begun (events ++ event ∷ []) now calls chip
open_of begun events event now [] chip sent cut = tt
open_of begun events event now (call ∷ calls) chip sent cut = record { earlier = events; last = event; are = refl; sent = sent; cut = cut }

module _ (begun : Begun) (events : List Event) (now : List (List ℕ)) (port : Served) (chip : Image) (s : Stands begun events now port chip) (idle : IsFetched port) (event : Event) where
  -- What was sent is all that the events before it sent.
  all_sent : now ≡ begun.sent ++ frames_by begun events
  all_sent = sym (append-nil now) ∙ ap (λ f. now ++ f) (sym (fetched_frames port idle)) ∙ s.frames

  stands_by : (turn : Turn) (new : Served) → hosted begun (events ++ event ∷ []) ≡ then_turn (hosted begun events) turn → Turned begun (heard begun events) turn new chip → Stands begun (events ++ event ∷ []) now new chip
  stands_by turn new more turned =
      let told = heard begun events in
      let heard_is : told ++ turn.heard ≡ heard begun (events ++ event ∷ []) = sym (ap (λ h. h.heard) more) in
      let turns_are : frames_by begun (events ++ event ∷ []) ≡ frames_by begun events ++ in_order turn.sent =
      ap (λ h. flat_map in_order h.turns) more ∙ flat_map-append in_order (hosted begun events).turns (turn.sent ∷ [])
      ∙ ap (λ f. frames_by begun events ++ f) (append-nil (in_order turn.sent)) in
      let frames_are : frames_of new ≡ in_order turn.sent = ap (λ f. f ++ new.frames) turned.device ∙ ap (λ f. turn.sent.device ++ f) turned.own in
      record {
        keeps = subst (λ t. Keeps begun t new.port chip) heard_is turned.goes.keeps;
        services = turned.services ∙ sym (ap (λ h. h.services) more);
        frames = ap (λ n. n ++ frames_of new) all_sent ∙ append_assoc begun.sent (frames_by begun events) (frames_of new)
            ∙ ap (λ f. begun.sent ++ (frames_by begun events ++ f)) frames_are ∙ ap (λ f. begun.sent ++ f) (sym turns_are);
        opened = open_of begun events event now new.port.calls chip all_sent
            (λ torn sized off. subst (λ t. Stores begun told t torn) heard_is (turned.goes.cut torn sized off));
      }

  taken : (note : Note) (new : Served) → TakesBoth port event note new → Stands begun (events ++ event ∷ []) now new chip
  taken note new takes =
      let told = heard begun events in
      stands_by (turn_of begun.station (after begun told).live (hosted begun events).services event) new (hosted_more begun events event)
      (subst (λ o. Turned begun told (turn_of begun.station (after begun told).live o event) new chip) s.services (turned begun told port chip s.keeps idle event note new takes))

  free : barred_both port ≡ None
  free =
      ap (λ t. barred_by t (has_work port.port.calls (frames_of port))) s.keeps.stage ∙ ap (λ c. barred_by Booted (has_work c (frames_of port))) idle.0.0
      ∙ ap (λ f. barred_by Booted (has_work [] f)) (fetched_frames port idle)

  handed_by : (new : Served) → HandsIn port event new → Stands begun (events ++ event ∷ []) now new chip
  handed_by new (inl takes) = taken takes.1.0 new takes.1.1
  handed_by new (inr refused) = absurd (refused.0 free)

pub handed_in : (begun : Begun) (events : List Event) (now : List (List ℕ)) (port : Served) (chip : Image) → Stands begun events now port chip → IsFetched port → (event : Event) (new : Served) → HandsIn port event new
    → Stands begun (events ++ event ∷ []) now new chip
handed_in begun events now port chip s idle event new takes = handed_by begun events now port chip s idle event new takes

-- ---- a start, and operations in order

pub stands_fresh : (port : Served) (chip : Image) (sent : List (List ℕ)) → IsFresh port chip → Stands (begun_by port sent) [] sent port chip
unfolding after hosted
stands_fresh port chip sent f = record {
  keeps = record {
    stage = f.stage;
    station = refl;
    live = f.live;
    power = ap (λ l. l.values.is_lost) f.live;
    image = f.holds ∙ sym (ap (all_carried_out chip) f.idle.0.0);
    left = subst LeftByDevice (sym f.holds) f.left;
    stored = refl;
    boots = subst (λ i. StartsWith i port.port.device.live.values.stored port.port.device.live.values.room) (sym f.holds) f.starts;
  };
  services = refl;
  frames = ap (λ l. sent ++ l) (fetched_frames port f.idle);
  opened = subst (λ c. IsOpen (begun_by port sent) [] sent c chip) (sym f.idle.0.0) tt;
}

pub events_append : (front back : List Operation) → events_of (front ++ back) ≡ events_of front ++ events_of back
events_append [] back = refl
events_append (operation.Happens event ∷ front) back = ap (λ l. event ∷ l) (events_append front back)
events_append (operation.Works ∷ front) back = events_append front back

-- The operations so far, and the remaining ones.
pub events_split : (so_far : ℕ) (operations : List Operation) → events_of operations ≡ events_of (take so_far operations) ++ events_of (drop so_far operations)
events_split so_far operations = ap events_of (sym (take-append-drop so_far operations)) ∙ events_append (take so_far operations) (drop so_far operations)

pub events_more : (so_far : ℕ) (operations : List Operation) (operation : Operation) → so_far < length operations → operation ≡ get_or operations so_far operation
    → events_of (take (so_far + 1) operations) ≡ events_of (take so_far operations) ++ events_of (operation ∷ [])
events_more so_far operations operation low is =
    ap events_of (take_more operations so_far operation low ∙ ap (λ o. take so_far operations ++ o ∷ []) (sym is)) ∙ events_append (take so_far operations) (operation ∷ [])

-- The host was cut off in an operation, and missed those after it.
pub ends_in : (begun : Begun) (so_far : ℕ) (operations : List Operation) (now : List (List ℕ)) (chip : Image) → Ends begun (events_of (take so_far operations)) now chip → Ends begun (events_of operations) now chip
ends_in begun so_far operations now chip ends =
    subst (λ e. Ends begun e now chip) (sym (events_split so_far operations)) (ends_more begun (events_of (take so_far operations)) (events_of (drop so_far operations)) now chip ends)

-- No work remains.
pub rests : {E : Type 0} (port : Served) (chip : Image) (sent : List (List ℕ)) (result : Result (Unit {0}) E) → IsFetched port → IsOk result
    → Performs port.port.calls (frames_of port) chip sent result chip sent
rests port chip sent result none ok =
    subst (λ c. Performs c (frames_of port) chip sent result chip sent) (sym none.0.0) (subst (λ l. Performs [] l chip sent result chip sent) (sym (fetched_frames port none)) (ok, refl, refl))

-- A frame is sent.
pub sends : {E : Type 0} (port : Served) (chip : Image) (sent now : List (List ℕ)) (frame items : List ℕ) (result : Result (Unit {0}) E) → port.port.calls ≡ [] → ((rest : List (List ℕ)) × (frames_of port ≡ frame ∷ rest))
    → items ≡ frame → IsOk result → now ≡ sent ++ items ∷ [] → Performs port.port.calls (frames_of port) chip sent result chip now
sends port chip sent now frame items result none first same ok is =
    subst (λ c. Performs c (frames_of port) chip sent result chip now) (sym none)
    (subst (λ l. Performs [] l chip sent result chip now) (sym first.1) (ok, refl, is ∙ ap (λ f. sent ++ f ∷ []) same))

-- Less work remains after a piece of it.
smaller_by : (calls : List Call) (frames own : List (List ℕ)) (port : Served) → port.port.calls ≡ calls → port.port.frames ≡ frames → port.frames ≡ own → has_work calls (frames ++ own) ≡ true
    → length (advanced_from port calls frames).port.calls + length (frames_of (advanced_from port calls frames)) < length port.port.calls + length (frames_of port)
smaller_by (call ∷ calls) frames own port e f o some =
    let on = ap (advanced_by port.port) e in
    let less = ap length e in
    let now = ap (λ p. length p.calls) on in
    let same = ap (λ p. length (p.frames ++ port.frames)) on in
    omega (arith, less, now, same)
smaller_by [] (frame ∷ frames) own port e f o some =
    let on = ap (advanced_by port.port) e ∙ ap (λ l. let p : State = record port.port { frames = drop 1 l } in p) f in
    let less = ap (λ l. length (l ++ port.frames)) f in
    let now = ap (λ p. length (p.frames ++ port.frames)) on in
    let same = ap (λ p. length p.calls) on in
    omega (arith, less, now, same)
smaller_by [] [] (one ∷ own) port e f o some =
    let before = ap (λ l. length (l ++ port.frames)) f in
    let all = ap length o in
    let now = ap (λ l. length (l ++ drop 1 port.frames)) f in
    let less = ap (λ l. length (drop 1 l)) o in
    omega (arith, before, all, now, less)
smaller_by [] [] [] port e f o some = cc some

pub smaller : (port new : Served) → has_work port.port.calls (frames_of port) ≡ true → new ≡ advanced_both port
    → length new.port.calls + length (frames_of new) < length port.port.calls + length (frames_of port)
smaller port new some is =
    subst (λ p. length p.port.calls + length (frames_of p) < length port.port.calls + length (frames_of port)) (sym is) (smaller_by port.port.calls port.port.frames port.frames port refl refl refl some)
