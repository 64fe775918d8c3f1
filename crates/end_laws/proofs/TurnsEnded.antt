-- What a controller that ended receives, and what it sends.
use Rattle.std.proofs.Common.{◌≡◌, ◌⊎◌, inl, inr, ◌==◌, ◌&&◌, ◌++◌, ℕ, Bool, true, false, List, [], ◌∷◌, length, map, Option, Some, None, refl, sym, ap, subst, ◌∙◌}
use Rattle.std.specs.Prelude.{if◌then◌else◌, nat_lt}
use Rattle.std.proofs.lemmas.Bool.{false≢true}
use Rattle.std.specs.List.{AllByRecursion}
use Rattle.pn_values.specs.declared.mac.Mac.{Mac}
use Rattle.controller_messages.specs.declared.plug_request.PlugRequest.{PlugRequest}
use Rattle.controller_messages.specs.declared.record_request.RecordRequest.{RecordRequest}
use Rattle.controller_messages.specs.declared.record_request.RecordService.{RecordService}
use Rattle.controller_messages.specs.declared.record_request.RecordService.TheVariants as service
use Rattle.controller_messages.specs.declared.setup.Setup.{Setup}
use Rattle.controller_messages.specs.declared.request.Request.{Request}
use Rattle.controller_messages.specs.declared.request.Request.TheVariants as asks
use Rattle.controller_messages.specs.Heard.{Heard, heard_of}
use Rattle.controller_messages.specs.RecordRequests.{most_record_octets}
use Rattle.controller_messages.specs.Sent.{bytes_of}
use Rattle.pn_alarms.specs.Sending.{due}
use Rattle.controller_core.specs.declared.stored.event.Event.{Event}
use Rattle.controller_core.specs.declared.stored.event.Event.TheVariants.{Frame, Tick, Give, Status, Read, Write, Stop}
use Rattle.controller_core.specs.declared.stored.state.Cause.{Cause}
use Rattle.controller_core.specs.declared.stored.state.Cause.TheVariants.{NoProgress}
use Rattle.controller_core.specs.declared.stored.state.State.{State}
use Rattle.controller_core.specs.declared.stored.state.State.TheVariants.{Looking, Addressing, Ending, Waiting, Exchanging, Ended}
use Rattle.controller_core.specs.stored.State.{Controlling, Live, is_limited, with_live}
use Rattle.controller_messages.specs.Access.{is_free}
use Rattle.controller_core.specs.Machine.{Turn, accessing, exchange_later, flowed, brought, gone_on, is_again, is_exchanging, later, quit, request_for, requested, requests_of, stays, step_of, stopped, ticked, turned, written}
use Rattle.controller_core.specs.Machine.{where_due as sent_where_due}
use Rattle.controller_core.specs.start_up.Requests.{end_after, write_after}
use Rattle.end_laws.specs.turns.Runs.{frames_of}
use Rattle.end_laws.specs.turns.Ended.{CountsUnits, DropsWhatComes, HasEnded, IsReleased, IsDropped, IsOnlySet, IsSilent, KeepsItsCause, RepeatsItsRelease, is_unit, may_release, release_in, release_of, where_due}
use Rattle.end_laws.specs.turns.Turns.{Hears, Passes, Gets, GetsStatus, IsEnd, IsKind, IsReported, Kind, Rests, Connects, Addresses, Ends, Releases, Relates, Writes, Skips, Tries, Waits, Forgets, Begins, Repeats, Follows, Takes, IsAcked, Gives, GivesStatus, Asks, IsReplied, IsPlugAnswered, IsPlugReadied, Flows, Breaks, Idles, turn_by}
use Rattle.end_laws.proofs.TurnsBeside.{still_is, unit_begun}
use Rattle.end_laws.proofs.TurnsOneTurn.{is_over, is_release, not_over, turn_is, unreported, write_going, end_going, tried_going}
use Rattle.end_laws.proofs.TurnsWhole.{reached_on, whole_end}

-- ---- a frame

-- It is dropped, or is the response to the Release.
abbrev IsUnmoved : Setup → Live → Heard → Turn → Type 0
IsUnmoved setup live heard turn = (turn ≡ stays live) ⊎ (IsReleased setup live heard × (turn ≡ stays (record live { asked = None })))

module _ (setup : Setup) (live : Live) (heard : Heard) (cause : Cause) (h : IsEnd setup.plan cause live) where
  -- No other request than the Release is active.
  unasked : (request : Request) → is_release request ≡ false → live.asked ≡ Some request → ⊥
  unasked request other stood = unreported setup.plan request cause other (subst (λ (o : Option Request). IsReported setup.plan cause o) stood h.asked)

  -- It is in no other phase.
  other_phase : (phase : State) → is_over phase ≡ false → live.phase ≡ phase → ⊥
  other_phase phase stands is = not_over phase cause stands (sym is ∙ h.phase)

  either_phase : (one other : State) → is_over one ≡ false → is_over other ≡ false → (live.phase ≡ one) ⊎ (live.phase ≡ other) → ⊥
  either_phase one other stands too (inl is) = other_phase one stands is
  either_phase one other stands too (inr is) = other_phase other too is

  up_not : live.stands ≡ true → ⊥
  up_not up = false≢true (sym h.down ∙ up)

  same_heard : (other : Heard) → Hears heard ≡ Hears other → other ≡ heard
  same_heard other e = cc

  not_gets : (slot subslot : ℕ) (value : List ℕ) → Hears heard ≡ Gets slot subslot value → ⊥
  not_gets slot subslot value e = cc

  not_status : (slot subslot : ℕ) (is_good : Bool) → Hears heard ≡ GetsStatus slot subslot is_good → ⊥
  not_status slot subslot is_good e = cc

  none_waits : (request : RecordRequest) → None ≡ Some request → ⊥
  none_waits request e = cc

  none_plugged : (request : PlugRequest) → None ≡ Some request → ⊥
  none_plugged request e = cc

  not_passes : Hears heard ≡ Passes → ⊥
  not_passes e = cc

  unmoved_by : (kind : Kind) → IsKind setup live (Hears heard) kind → IsUnmoved setup live heard (turn_by setup live kind)
  unmoved_by Rests holds = inl refl
  unmoved_by (Connects source) holds = absurd (either_phase Looking Addressing refl refl holds.seeking)
  unmoved_by (Addresses source) holds = absurd (either_phase Looking Addressing refl refl holds.0.seeking)
  unmoved_by (Ends mine refusal refused units) holds = absurd (holds.0 cause h)
  unmoved_by (Releases mine refusal refused units) holds = absurd (holds.0 cause h)
  unmoved_by (Relates places chosen) holds = absurd (unasked asks.Connect refl holds.0.stood)
  unmoved_by (Writes number tries) holds = absurd (unasked (write_after number tries) (write_going number tries) holds.0.stood)
  unmoved_by (Skips number tries refused status) holds = absurd (unasked (write_after number tries) (write_going number tries) holds.stood)
  unmoved_by (Tries next status) holds = absurd (unasked holds.request (tried_going holds.request next holds.tries) holds.stood)
  unmoved_by (Waits tries) holds = absurd (unasked (end_after tries) (end_going tries) holds.stood)
  unmoved_by Forgets holds = inr (subst (λ (other : Heard). IsReleased setup live other) (same_heard holds.0 holds.1) holds.2, refl)
  unmoved_by (Begins caller call block) holds = absurd (either_phase Ending Waiting refl refl holds.0)
  unmoved_by (Repeats caller call block) holds = absurd (other_phase Exchanging refl holds.0)
  unmoved_by (Follows source frame_id body) holds = absurd (up_not holds)
  unmoved_by (Takes number report) holds = absurd (up_not holds.0)
  unmoved_by (IsAcked priority number) holds = absurd (up_not holds.0)
  unmoved_by (Gives slot subslot value) holds = absurd (not_gets slot subslot value holds)
  unmoved_by (GivesStatus slot subslot is_good) holds = absurd (not_status slot subslot is_good holds)
  unmoved_by (Asks request octets) holds = absurd (other_phase Exchanging refl holds.0)
  unmoved_by (IsReplied refusal access) holds = absurd (none_waits holds.3 (sym h.idle ∙ holds.4))
  unmoved_by (IsPlugAnswered refusal refused waited places access) holds = absurd (none_plugged holds.4 (sym h.plug ∙ holds.5))
  unmoved_by (IsPlugReadied caller call block) holds = absurd (other_phase Exchanging refl holds.0)
  unmoved_by Flows holds = absurd (not_passes holds.0)
  unmoved_by (Breaks reason) holds = absurd (not_passes holds.0)
  unmoved_by Idles holds = absurd (not_passes holds.0)

heard_as : (setup : Setup) (live : Live) (heard : Heard) (cause : Cause) → IsEnd setup.plan cause live → IsUnmoved setup live heard (turned setup live heard)
heard_as setup live heard cause h =
    let turn = turn_is setup live (Hears heard) in
    subst (λ (t : Turn). IsUnmoved setup live heard t) (sym turn.is) (unmoved_by setup live heard cause h turn.kind turn.holds)

-- ---- a stop and a unit

stopped_as : (setup : Setup) (live : Live) (cause : Cause) → live.phase ≡ Ended cause → stopped setup live live.phase ≡ stays live
stopped_as setup live cause e = ap (λ (phase : State). stopped setup live phase) e

-- A request of the application is dropped.
requested_as : (setup : Setup) (live : Live) (cause : Cause) (kind : RecordService) (slot subslot index : ℕ) (octets : List ℕ) → live.phase ≡ Ended cause
    → requested setup live kind slot subslot index octets ≡ stays live
requested_as setup live cause kind slot subslot index octets e =
    ap (λ (phase : State). if is_exchanging phase && is_free live.access
    then accessing (request_for setup live kind slot subslot index) octets live else stays live) e

written_as : (setup : Setup) (live : Live) (cause : Cause) (slot subslot index : ℕ) (octets : List ℕ) → live.phase ≡ Ended cause
    → written setup live slot subslot index octets ≡ stays live
written_as setup live cause slot subslot index octets e = by_length (nat_lt most_record_octets (length octets))
  where
    by_length : (is : Bool) → (if is then stays live else requested setup live service.Write slot subslot index octets) ≡ stays live
    by_length true = refl
    by_length false = requested_as setup live cause service.Write slot subslot index octets e

-- A unit of a controller that has no relation.
abbrev unit_of : Live → Turn
unit_of live = record { live = later live; sent = sent_where_due (is_again live) (requests_of live.device live.asked) }

no_unit : true ≡ false → ⊥
no_unit e = cc

-- It has no patience.
unlimited : (cause : Cause) (phase : State) → phase ≡ Ended cause → is_limited phase ≡ false
unlimited cause phase e = ap (λ (p : State). is_limited p) e

not_spent : (limited is_last : Bool) → limited ≡ false → (limited && is_last) ≡ false
not_spent true is_last e = absurd (no_unit e)
not_spent false is_last e = refl

exchanging_over : (live : Live) (cause : Cause) → live.phase ≡ Ended cause → live.phase ≡ Exchanging → ⊥
exchanging_over live cause phase exchanges = not_over Exchanging cause refl (sym exchanges ∙ phase)

-- The rest of a unit without a relation.
gone_as : (live : Live) → live.stands ≡ false → gone_on (later live) (is_again live) ≡ unit_of live
gone_as live down =
    ap (λ (is : Bool). if is then flowed (exchange_later (later live)) (due live.alarms.sending) (due live.low_alarms.sending) (is_again live) (brought live) (brought live).ending else unit_of live) down

ticked_as : (setup : Setup) (live : Live) (cause : Cause) → live.phase ≡ Ended cause → live.stands ≡ false → ticked setup live ≡ unit_of live
ticked_as setup live cause phase down =
    ap (λ (is : Bool). if is then quit setup NoProgress (later live) live.phase else gone_on (unit_begun setup live) (is_again live))
    (not_spent (is_limited live.phase) (live.left == 1) (unlimited cause live.phase phase))
    ∙ (ap (λ (next : Live). gone_on next (is_again live)) (still_is setup live (exchanging_over live cause phase)) ∙ gone_as live down)

unit_frames : (setup : Setup) (device : Mac) (asked : Option Request) (is : Bool) (cause : Cause) → IsReported setup.plan cause asked
    → map (bytes_of setup) (sent_where_due is (requests_of device asked)) ≡ where_due is (release_in setup device asked)
unit_frames setup device None true cause reported = refl
unit_frames setup device None false cause reported = refl
unit_frames setup device (Some (asks.Release sequence)) true cause reported = refl
unit_frames setup device (Some (asks.Release sequence)) false cause reported = refl
unit_frames setup device (Some request) is cause reported = absurd reported

unit_frames_of : (setup : Setup) (live : Live) (cause : Cause) → IsEnd setup.plan cause live
    → map (bytes_of setup) (ticked setup live).sent ≡ where_due (is_again live) (release_in setup live.device live.asked)
unit_frames_of setup live cause h =
    ap (λ (turn : Turn). map (bytes_of setup) turn.sent) (ticked_as setup live cause h.phase h.down) ∙ unit_frames setup live.device live.asked (is_again live) cause h.asked

-- ---- one event

frame_drops : (setup : Setup) (live : Live) (heard : Heard) (turn : Turn) → IsUnmoved setup live heard turn
    → (map (bytes_of setup) turn.sent ≡ []) × ((turn.live ≡ live) ⊎ (IsReleased setup live heard × (turn.live ≡ record live { asked = None })))
frame_drops setup live heard turn (inl e) = (ap (λ (t : Turn). map (bytes_of setup) t.sent) e, inl (ap (λ (t : Turn). t.live) e))
frame_drops setup live heard turn (inr x) = (ap (λ (t : Turn). map (bytes_of setup) t.sent) x.1, inr (x.0, ap (λ (t : Turn). t.live) x.1))

drops : (controller : Controlling) (cause : Cause) (event : Event) → IsEnd controller.setup.plan cause controller.live → is_unit event ≡ false
    → ((step_of controller event).frames ≡ []) × IsDropped controller.setup event controller.live (step_of controller event).controller.live
unfolding step_of
drops controller cause (Frame bytes) h other =
    let heard = heard_of controller.setup.plan.controller bytes.items in
    frame_drops controller.setup controller.live heard (turned controller.setup controller.live heard) (heard_as controller.setup controller.live heard cause h)
drops controller cause Tick h other = absurd (no_unit other)
drops controller cause (Give slot subslot value) h other = (refl, refl)
drops controller cause (Status slot subslot is_good) h other = (refl, refl)
drops controller cause (Read slot subslot index) h other =
    let stays_so = requested_as controller.setup controller.live cause service.Read slot subslot index [] h.phase in (
      ap (λ (t : Turn). map (bytes_of controller.setup) t.sent) stays_so,
      ap (λ (t : Turn). t.live) stays_so,
    )
drops controller cause (Write slot subslot index octets) h other =
    let stays_so = written_as controller.setup controller.live cause slot subslot index octets.items h.phase in (
      ap (λ (t : Turn). map (bytes_of controller.setup) t.sent) stays_so,
      ap (λ (t : Turn). t.live) stays_so,
    )
drops controller cause Stop h other =
    let stays_so = stopped_as controller.setup controller.live cause h.phase in (
      ap (λ (t : Turn). map (bytes_of controller.setup) t.sent) stays_so,
      ap (λ (t : Turn). t.live) stays_so,
    )

units : (controller : Controlling) (cause : Cause) → IsEnd controller.setup.plan cause controller.live
    → ((step_of controller Tick).controller ≡ with_live controller (later controller.live))
    × ((step_of controller Tick).frames ≡ where_due (is_again controller.live) (release_of controller))
unfolding step_of
units controller cause h = (
  ap (λ (t : Turn). with_live controller t.live) (ticked_as controller.setup controller.live cause h.phase h.down),
  unit_frames_of controller.setup controller.live cause h,
)

-- ---- what an event leaves

-- The phase is kept, and so is the active Release, unless it is no longer active.
record IsLeft (setup : Setup) (before after : Live) : Type 0 where
  phase : after.phase ≡ before.phase
  release : (release_in setup after.device after.asked ≡ release_in setup before.device before.asked) ⊎ (release_in setup after.device after.asked ≡ None)

same_left : (setup : Setup) (before after : Live) → after ≡ before → IsLeft setup before after
same_left setup before after e =
    record { phase = ap (λ (live : Live). live.phase) e; release = inl (ap (λ (live : Live). release_in setup live.device live.asked) e) }

frame_left : (setup : Setup) (heard : Heard) (before after : Live) → (after ≡ before) ⊎ (IsReleased setup before heard × (after ≡ record before { asked = None }))
    → IsLeft setup before after
frame_left setup heard before after (inl e) = same_left setup before after e
frame_left setup heard before after (inr x) =
    record { phase = ap (λ (live : Live). live.phase) x.1; release = inr (ap (λ (live : Live). release_in setup live.device live.asked) x.1) }

later_left : (controller : Controlling) (after : Controlling) → after ≡ with_live controller (later controller.live) → IsLeft controller.setup controller.live after.live
later_left controller after e = record {
  phase = ap (λ (c : Controlling). c.live.phase) e;
  release = inl (ap (λ (c : Controlling). release_in controller.setup c.live.device c.live.asked) e);
}

given_left : (setup : Setup) (before after : Live) → IsOnlySet before after → IsLeft setup before after
given_left setup before after e =
    record { phase = ap (λ (live : Live). live.phase) e; release = inl (ap (λ (live : Live). release_in setup live.device live.asked) e) }

left : (controller : Controlling) (cause : Cause) (event : Event) → IsEnd controller.setup.plan cause controller.live
    → IsLeft controller.setup controller.live (step_of controller event).controller.live
left controller cause (Frame bytes) h =
    frame_left controller.setup (heard_of controller.setup.plan.controller bytes.items) controller.live (step_of controller (Frame bytes)).controller.live
    (drops controller cause (Frame bytes) h refl).1
left controller cause Tick h = later_left controller (step_of controller Tick).controller (units controller cause h).0
left controller cause (Give slot subslot value) h =
    given_left controller.setup controller.live (step_of controller (Give slot subslot value)).controller.live (drops controller cause (Give slot subslot value) h refl).1
left controller cause (Status slot subslot is_good) h =
    given_left controller.setup controller.live (step_of controller (Status slot subslot is_good)).controller.live (drops controller cause (Status slot subslot is_good) h refl).1
left controller cause (Read slot subslot index) h =
    same_left controller.setup controller.live (step_of controller (Read slot subslot index)).controller.live (drops controller cause (Read slot subslot index) h refl).1
left controller cause (Write slot subslot index octets) h =
    same_left controller.setup controller.live (step_of controller (Write slot subslot index octets)).controller.live (drops controller cause (Write slot subslot index octets) h refl).1
left controller cause Stop h = same_left controller.setup controller.live (step_of controller Stop).controller.live (drops controller cause Stop h refl).1

ended_on : (controller : Controlling) (cause : Cause) (event : Event) → HasEnded cause controller → HasEnded cause (step_of controller event).controller
ended_on controller cause event h = record {
  reached = reached_on controller event h.reached;
  phase = (left controller cause event (whole_end cause controller h)).phase ∙ h.phase;
}

-- ---- what is sent

due_are : (is : Bool) (release : Option (List ℕ)) → AllByRecursion (λ frame. Some frame ≡ release) (where_due is release)
due_are is None = tt
due_are true (Some frame) = (refl, tt)
due_are false (Some frame) = tt

none_are : (release : Option (List ℕ)) (frames : List (List ℕ)) → frames ≡ [] → AllByRecursion (λ frame. Some frame ≡ release) frames
none_are release frames e = subst (λ (xs : List (List ℕ)). AllByRecursion (λ frame. Some frame ≡ release) xs) (sym e) tt

sent_are : (controller : Controlling) (cause : Cause) (event : Event) → IsEnd controller.setup.plan cause controller.live
    → AllByRecursion (λ frame. Some frame ≡ release_of controller) (step_of controller event).frames
sent_are controller cause (Frame bytes) h = none_are (release_of controller) (step_of controller (Frame bytes)).frames (drops controller cause (Frame bytes) h refl).0
sent_are controller cause Tick h =
    subst (λ (xs : List (List ℕ)). AllByRecursion (λ frame. Some frame ≡ release_of controller) xs) (sym (units controller cause h).1)
    (due_are (is_again controller.live) (release_of controller))
sent_are controller cause (Give slot subslot value) h =
    none_are (release_of controller) (step_of controller (Give slot subslot value)).frames (drops controller cause (Give slot subslot value) h refl).0
sent_are controller cause (Status slot subslot is_good) h =
    none_are (release_of controller) (step_of controller (Status slot subslot is_good)).frames (drops controller cause (Status slot subslot is_good) h refl).0
sent_are controller cause (Read slot subslot index) h =
    none_are (release_of controller) (step_of controller (Read slot subslot index)).frames (drops controller cause (Read slot subslot index) h refl).0
sent_are controller cause (Write slot subslot index octets) h =
    none_are (release_of controller) (step_of controller (Write slot subslot index octets)).frames (drops controller cause (Write slot subslot index octets) h refl).0
sent_are controller cause Stop h = none_are (release_of controller) (step_of controller Stop).frames (drops controller cause Stop h refl).0

some_none : (frame : List ℕ) → Some frame ≡ None → ⊥
some_none frame e = cc

-- Frames of a Release that is still active, or of none.
carried : (release before : Option (List ℕ)) (frames : List (List ℕ)) → (release ≡ before) ⊎ (release ≡ None)
    → AllByRecursion (λ frame. Some frame ≡ release) frames → AllByRecursion (λ frame. Some frame ≡ before) frames
carried release before [] same all = tt
carried release before (frame ∷ frames) (inl e) all = (all.0 ∙ e, carried release before frames (inl e) all.1)
carried release before (frame ∷ frames) (inr e) all = absurd (some_none frame (all.0 ∙ e))

all_behind : (release : Option (List ℕ)) (xs ys : List (List ℕ)) → AllByRecursion (λ frame. Some frame ≡ release) xs → AllByRecursion (λ frame. Some frame ≡ release) ys
    → AllByRecursion (λ frame. Some frame ≡ release) (xs ++ ys)
all_behind release [] ys all more = more
all_behind release (x ∷ xs) ys all more = (all.0, all_behind release xs ys all.1 more)

all_sent : (events : List Event) (controller : Controlling) (cause : Cause) → HasEnded cause controller
    → AllByRecursion (λ frame. Some frame ≡ release_of controller) (frames_of events controller)
unfolding step_of
all_sent [] controller cause h = tt
all_sent (event ∷ events) controller cause h =
    let end = whole_end cause controller h in
    let next = (step_of controller event).controller in
    all_behind (release_of controller) (step_of controller event).frames (frames_of events next)
    (sent_are controller cause event end)
    (carried (release_of next) (release_of controller) (frames_of events next) (left controller cause event end).release
    (all_sent events next cause (ended_on controller cause event h)))

none_stands : (setup : Setup) (device : Mac) (asked : Option Request) (cause : Cause) → may_release setup.plan cause ≡ false → IsReported setup.plan cause asked → release_in setup device asked ≡ None
none_stands setup device (Some (asks.Release sequence)) cause other reported = absurd (no_unit (sym reported ∙ other))
none_stands setup device asked cause other reported = refl

none_sent : (release : Option (List ℕ)) (frames : List (List ℕ)) → release ≡ None → AllByRecursion (λ frame. Some frame ≡ release) frames → frames ≡ []
none_sent release [] e all = refl
none_sent release (frame ∷ frames) e all = absurd (some_none frame (all.0 ∙ e))

-- ---- the law

pub keeps_its_cause : KeepsItsCause
keeps_its_cause controller cause [] h = h
keeps_its_cause controller cause (event ∷ events) h = keeps_its_cause (step_of controller event).controller cause events (ended_on controller cause event h)

pub repeats_its_release : RepeatsItsRelease
repeats_its_release controller cause events h = all_sent events controller cause h

pub is_silent : IsSilent
is_silent controller cause events h other =
    none_sent (release_of controller) (frames_of events controller)
    (none_stands controller.setup controller.live.device controller.live.asked cause other (whole_end cause controller h).asked)
    (all_sent events controller cause h)

pub drops_what_comes : DropsWhatComes
drops_what_comes controller cause event h other = drops controller cause event (whole_end cause controller h) other

pub counts_units : CountsUnits
counts_units controller cause h = units controller cause (whole_end cause controller h)
