-- The moves of a world, the call that its controller makes, and the numbers of all calls.
use Rattle.std.proofs.Common.{◌≡◌, ◌⊎◌, inl, inr, ◌<◌, ◌≤◌, ◌+◌, ◌%◌, ◌++◌, ℕ, Bool, true, false, List, [], ◌∷◌, map, Option, Some, None, option_map, refl, sym, ap, subst, ◌∙◌, arith}
use Rattle.std.specs.Prelude.{slice_get, nat_lt}
use Rattle.std.specs.List.{AllByRecursion}
use Rattle.std.proofs.Math.Nat.{mod-eq_of_lt, mod-lt}
use Rattle.std.proofs.lemmas.Bool.{lt-ltb, ltb-true}
use Rattle.lldp.specs.Views.{peer_as}
use Rattle.flash_model.specs.declared.flash.Flash.{Ghosts as Flash}
use Rattle.pn_values.specs.declared.mac.Mac.{Mac}
use Rattle.frame_codec.specs.declared.udp.Caller.{Caller}
use Rattle.frame_codec.specs.Sendable.{IsMac}
use Rattle.connects.specs.requests.Request.{Request}
use Rattle.records.specs.declared.writes.taken.TakenRecord.{TakenRecord}
use Rattle.plans.specs.declared.parts.Parts.{Parts}
use Rattle.device_frames.specs.declared.event.Event.TheVariants.{Frame}
use Rattle.device_frames.specs.Heard.{Applied, Heard, Met, Reported, Said, Ticks, heard_of}
use Rattle.device_core.specs.State.{Live, Station}
use Rattle.controller_messages.specs.declared.plug_request.PlugRequest.{PlugRequest}
use Rattle.controller_messages.specs.declared.record_request.RecordRequest.{RecordRequest}
use Rattle.controller_messages.specs.declared.request.Request.{Request as Asking}
use Rattle.controller_messages.specs.declared.request.Request.TheVariants as asks
use Rattle.controller_messages.specs.declared.setup.Setup.{Setup}
use Rattle.controller_messages.specs.Access.{call_number}
use Rattle.controller_messages.specs.Heard.{heard_of as heard_by}
use Rattle.controller_messages.specs.Requests.{sequence_of, write_count}
use Rattle.controller_messages.specs.Sent.{Sent, Requests, Accesses, Parametrizes, Agrees, Cycles, Confirms, Replies, Ends, bytes_of}
use Rattle.controller_core.specs.declared.stored.event.Event.{Event}
use Rattle.controller_core.specs.declared.stored.event.Event.TheVariants as controller
use Rattle.controller_core.specs.declared.stored.state.State.{State}
use Rattle.controller_core.specs.declared.stored.state.State.TheVariants.{Looking, Addressing, Connecting, Writing, Ending, Waiting, Exchanging, Ended}
use Rattle.controller_core.specs.stored.State.{Controlling, Live as ControllerLive}
use Rattle.network_world.specs.declared.moves.End.TheVariants.{Device, Controller}
use Rattle.network_world.specs.declared.moves.Move.{Move}
use Rattle.network_world.specs.declared.moves.Move.TheVariants as move
use Rattle.network_world.specs.World.{at_controller, AtDevice, Comes, Delivers, Happens, is_ended, is_skipped, World}
use Rattle.end_laws.specs.sending.Addressed.{IsAimedAt, IsEventFrom}
use Rattle.end_laws.specs.hearing.Stations.{IsPlugCall}
use Rattle.end_laws.specs.both.Small as small
use Rattle.controller_core.specs.start_up.Requests.{end_after, write_after}
use Rattle.end_laws.specs.both.Small.{Ask, Reply, Rules, ToDevice}
use Rattle.end_laws.specs.both.Steps.{DeviceSteps, GoesBy, IsDull, IsReady}
use Rattle.end_laws.specs.controller.Small.{IsCounted, IsInStep, IsSteady, MayWait, said_in, tries_in}
use Rattle.end_laws.specs.device.Small as device
use Rattle.both_ends.specs.startup.View.{IsMeant, IsMeantAtController, IsMeantAtDevice, IsSaidAs, rules_of}
use Rattle.plug_ends.specs.Calls.{WasSent}
use Rattle.plug_ends.proofs.CallsFine.{Both, FineSo}
use Rattle.plug_ends.proofs.CallsFrames.{Covers, idle_call, nothing_answers}
use Rattle.plug_ends.proofs.CallsHeard.{IsFineAt, fine_from, fine_unrefused}
use Rattle.plug_ends.proofs.CallsRuns.{all_at, all_both, all_map, heard_said, kept_for, number_said, plain_said}
use Rattle.plug_ends.proofs.CallsTurns.{IsAsked, IsUnrefused, none_some, number_in, present_by, present_of, requested_is, some_same, plugged_is, waiting_is}
use Rattle.plug_ends.proofs.ToldRuns.{HeardWith}
use Rattle.plug_ends.proofs.PluggedNumbers.{Counts, IsAccessMade, IsPlugMade, IsSameOr, IsTryMade, Numbers}

-- ---- moves

-- What is heard comes in a frame that was sent, or is no call and no response.
abbrev pub IsFrom : {F : Type 0} → World F → Heard → Type 0
IsFrom world heard =
    ((frame : List ℕ) × WasSent world frame × (heard ≡ heard_of world.device.station.identity (Frame (record { items = frame }))))
    ⊎ ((caller : Caller) (address : List ℕ) (said : Said) → heard ≡ Reported caller address said → ⊥)

-- The device hears something.
pub record DeviceMoved {F : Type 0} {S : ℕ} (as_flash : Flash F S) (before : World F) (one : Move) (after : World F) : Type 0 where
  pub heard : Heard
  pub by : HeardWith before one heard
  pub meant : IsMeantAtDevice before heard
  pub made : AtDevice as_flash before heard after
  pub from : IsFrom before heard

-- The controller handles an event.
pub record ControllerMoved {F : Type 0} (before after : World F) : Type 0 where
  pub event : Event
  pub meant : IsMeantAtController before event
  pub from : IsEventFrom before.device.station.identity.mac before.controller.setup event
  pub unrefused : IsUnrefused before.controller.setup event
  pub covers : (number : ℕ) (reply : Reply) → said_in before.controller.setup (heard_by before.controller.setup.plan.controller) event ≡ small.Answers number reply
      → Covers number (kept_for before.controller.setup before.device.live)
  pub happens : after ≡ at_controller before event

abbrev pub Moved : {F : Type 0} {S : ℕ} → Flash F S → World F → Move → World F → Type 0
Moved as_flash before one after = (after ≡ before) ⊎ (DeviceMoved as_flash before one after ⊎ ControllerMoved before after)

module _ (so : FineSo) (setup : Setup) {F : Type 0} {S : ℕ} (as_flash : Flash F S) (before after : World F) (both : Both so setup before) where
  no_tick : (caller : Caller) (address : List ℕ) (said : Said) → Ticks ≡ Reported caller address said → ⊥
  no_tick caller address said e = absurd cc

  by_device : (one : Move) (heard : Heard) → HeardWith before one heard → IsFrom before heard → IsMeantAtDevice before heard → AtDevice as_flash before heard after
      → Moved as_flash before one after
  by_device one heard by from meant made = inr (inl (record { heard = heard; by = by; meant = meant; made = made; from = from }))

  abbrev IsCovered : Event → Type 0
  IsCovered event = (number : ℕ) (reply : Reply)
      → said_in before.controller.setup (heard_by before.controller.setup.plan.controller) event ≡ small.Answers number reply
      → Covers number (kept_for before.controller.setup before.device.live)

  nothing_said : (number : ℕ) (reply : Reply) → small.Nothing ≡ small.Answers number reply
      → Covers number (kept_for before.controller.setup before.device.live)
  nothing_said number reply e = absurd (nothing_answers number reply e)

  by_controller : (one : Move) (event : Event) → IsEventFrom before.device.station.identity.mac before.controller.setup event
      → IsUnrefused before.controller.setup event → IsCovered event → IsMeantAtController before event → after ≡ at_controller before event
      → Moved as_flash before one after
  by_controller one event from unrefused covers meant happens =
      inr (inr (record { event = event; meant = meant; from = from; unrefused = unrefused; covers = covers; happens = happens }))

  comes_to_device : (number : ℕ) (frame : List ℕ) → slice_get before.sent number ≡ Some frame → (skipped : Bool)
      → IsMeantAtDevice before (heard_of before.device.station.identity (Frame (record { items = frame })))
      → Comes as_flash skipped before Device frame after → Moved as_flash before (move.Deliver Device number) after
  comes_to_device number frame there true meant happens = inl happens
  comes_to_device number frame there false meant happens =
      by_device (move.Deliver Device number) _ (frame, there, refl) (inl (frame, record { number = number; is = there }, refl)) meant happens

  to_device : (number : ℕ) (found : Option (List ℕ)) → slice_get before.sent number ≡ found
      → ((frame : List ℕ) → found ≡ Some frame → IsMeantAtDevice before (heard_of before.device.station.identity (Frame (record { items = frame }))))
      → Delivers as_flash found before Device after → Moved as_flash before (move.Deliver Device number) after
  to_device number None there meant happens = inl happens
  to_device number (Some frame) there meant happens =
      comes_to_device number frame there (is_skipped before.device before.controller Device frame) (meant frame refl) happens

  comes_to_controller : (one : Move) (frame : List ℕ) → IsFineAt before.controller.setup before.device.station.identity frame
      → IsCovered (controller.Frame (record { items = frame })) → (skipped : Bool)
      → IsMeantAtController before (controller.Frame (record { items = frame })) → Comes as_flash skipped before Controller frame after
      → Moved as_flash before one after
  comes_to_controller one frame fine covers true meant happens = inl happens
  comes_to_controller one frame fine covers false meant happens =
      let heard = heard_by before.controller.setup.plan.controller frame in
      by_controller one (controller.Frame (record { items = frame })) (fine_from before.device.station.identity.mac heard fine)
      (λ refusal e. fine_unrefused before.device.station.identity.mac heard fine refusal e) covers meant happens

  to_controller : (number : ℕ) (found : Option (List ℕ)) → slice_get before.sent number ≡ found
      → ((frame : List ℕ) → found ≡ Some frame → IsMeantAtController before (controller.Frame (record { items = frame })))
      → Delivers as_flash found before Controller after → Moved as_flash before (move.Deliver Controller number) after
  to_controller number None there meant happens = inl happens
  to_controller number (Some frame) there meant happens =
      comes_to_controller (move.Deliver Controller number) frame
      (all_at (IsFineAt before.controller.setup before.device.station.identity) before.sent both.fine.frames number frame there)
      (all_at _ before.sent both.held.holds.frames number frame there).answers
      (is_skipped before.device before.controller Controller frame) (meant frame refl) happens

  pub moved : (one : Move) → IsMeant before one → Happens as_flash before one after → Moved as_flash before one after
  moved (move.Deliver Device number) meant happens = to_device number (slice_get before.sent number) refl meant happens
  moved (move.Deliver Controller number) meant happens = to_controller number (slice_get before.sent number) refl meant happens
  moved (move.Tick Device) meant happens = by_device (move.Tick Device) Ticks refl (inr no_tick) meant happens
  moved (move.Tick Controller) meant happens = by_controller (move.Tick Controller) controller.Tick tt tt nothing_said meant happens
  moved (move.Application local) meant happens =
      by_device (move.Application local) (Applied local) refl (inr (λ caller address said e. absurd cc)) meant happens
  moved (move.Neighbour neighbour) meant happens =
      by_device (move.Neighbour neighbour) (Met (option_map peer_as neighbour)) refl (inr (λ caller address said e. absurd cc)) meant happens
  moved (move.Give slot subslot value) meant happens =
      by_controller (move.Give slot subslot value) (controller.Give slot subslot value) tt tt nothing_said meant happens
  moved (move.OutputStatus slot subslot is_good) meant happens =
      by_controller (move.OutputStatus slot subslot is_good) (controller.Status slot subslot is_good) tt tt nothing_said meant happens
  moved (move.Read slot subslot index) meant happens =
      by_controller (move.Read slot subslot index) (controller.Read slot subslot index) tt tt nothing_said meant happens
  moved (move.Write slot subslot index octets) meant happens =
      by_controller (move.Write slot subslot index octets) (controller.Write slot subslot index octets) tt tt nothing_said meant happens
  moved move.Stop meant happens = by_controller move.Stop controller.Stop tt tt nothing_said meant happens

-- ---- the call that waits

abbrev pub IsPresentAs : ControllerLive → Sent → Type 0
IsPresentAs live (Requests to request) = live.asked ≡ Some request
IsPresentAs live (Accesses to request octets) =
    (live.access.waiting ≡ Some request) × (live.access.plug ≡ None) × (octets ≡ live.access.octets) × (to ≡ live.device)
IsPresentAs live (Parametrizes to request) = (live.asked ≡ None) × (live.access.plug ≡ Some request) × (to ≡ live.device)
IsPresentAs live message = ⊥

pub present_as : (live : ControllerLive) (message : Sent) → present_of live ≡ Some message → IsPresentAs live message
present_as live message e = by_asked live.asked refl e
  where
    by_waiting : (waiting : Option RecordRequest) → live.access.waiting ≡ waiting → live.access.plug ≡ None
        → present_by live.device None None live.access.octets waiting ≡ Some message → IsPresentAs live message
    by_waiting None f g is = absurd (none_some message is)
    by_waiting (Some request) f g is =
        subst (λ (m : Sent). IsPresentAs live m) (some_same (Accesses live.device request live.access.octets) message is) (f, g, refl, refl)

    by_plug : (plug : Option PlugRequest) → live.access.plug ≡ plug → live.asked ≡ None
        → present_by live.device None plug live.access.octets live.access.waiting ≡ Some message → IsPresentAs live message
    by_plug None f g is = by_waiting live.access.waiting refl f is
    by_plug (Some request) f g is = subst (λ (m : Sent). IsPresentAs live m) (some_same (Parametrizes live.device request) message is) (g, f, refl)

    by_asked : (asked : Option Asking) → live.asked ≡ asked
        → present_by live.device asked live.access.plug live.access.octets live.access.waiting ≡ Some message → IsPresentAs live message
    by_asked None f is = by_plug live.access.plug refl f is
    by_asked (Some request) f is = subst (λ (m : Sent). IsPresentAs live m) (some_same (Requests live.device request) message is) f

-- a request of the start-up has a number below the next one of a request beside the exchange, and few calls were made
pub step_number : (plan : Parts) (phase : State) (calls : ℕ) (asked : Option Asking) (request : Asking) → IsInStep plan phase asked
    → IsCounted phase asked calls → asked ≡ Some request → is_ended phase ≡ false
    → (sequence_of plan request < write_count plan + 2 + calls) × (calls < 65536)
step_number plan phase calls asked request step counted is going = by_phase phase step counted going
  where
    IsBelow : Asking → Type 0
    IsBelow r = (sequence_of plan r < write_count plan + 2 + calls) × (calls < 65536)

    AreCounted : Type 0
    AreCounted = (calls ≡ tries_in asked) × (calls < 65536)

    below : (other : Asking) → asked ≡ Some other → (calls ≡ tries_in (Some other) → sequence_of plan other < write_count plan + 2 + calls) → AreCounted
        → IsBelow request
    below other same less c = subst IsBelow (some_same other request (sym same ∙ is)) (less (c.0 ∙ ap tries_in same), c.1)

    write_below : (number : ℕ) (tries : Option ℕ) → asked ≡ Some (write_after number tries) → number < write_count plan → AreCounted → IsBelow request
    write_below number None same less = below (asks.Write number) same (λ c. omega (arith, less))
    write_below number (Some tries) same less = below (asks.WriteAfter number tries) same (λ c. omega (arith, less, c))

    end_below : (tries : Option ℕ) → asked ≡ Some (end_after tries) → AreCounted → IsBelow request
    end_below None same = below asks.PrmEnd same (λ c. omega arith)
    end_below (Some tries) same = below (asks.PrmEndAfter tries) same (λ c. omega (arith, c))

    true_false : true ≡ false → ⊥
    true_false e = absurd cc

    by_phase : (p : State) → IsInStep plan p asked → IsCounted p asked calls → is_ended p ≡ false → IsBelow request
    by_phase Looking same c g = below asks.Identify same (λ e. omega arith) c
    by_phase Addressing same c g = below asks.Address same (λ e. omega arith) c
    by_phase Connecting same c g = below asks.Connect same (λ e. omega arith) c
    by_phase Writing same c g = write_below same.0 same.1 same.3 same.2 c
    by_phase Ending same c g = end_below same.0 same.1 c
    by_phase Waiting same c g = absurd (none_some request (sym same ∙ is))
    by_phase Exchanging same c g = absurd (none_some request (sym same ∙ is))
    by_phase (Ended cause) same c g = absurd (true_false g)

-- while a request after a plug waits, none of the start-up does, and the controller has not ended
pub beside_alone : (plan : Parts) (live : ControllerLive) (request : PlugRequest) → IsSteady plan live → live.access.plug ≡ Some request
    → (live.asked ≡ None) × (is_ended live.phase ≡ false)
beside_alone plan live request steady is = by_phase live.phase steady.asked steady.plug
  where
    none : live.access.plug ≡ None → (live.asked ≡ None) × (is_ended live.phase ≡ false)
    none e = absurd (none_some request (sym e ∙ is))

    by_phase : (p : State) → IsInStep plan p live.asked → MayWait p live.access.plug → (live.asked ≡ None) × (is_ended p ≡ false)
    by_phase Looking step wait = absurd (none_some request (sym wait ∙ is))
    by_phase Addressing step wait = absurd (none_some request (sym wait ∙ is))
    by_phase Connecting step wait = absurd (none_some request (sym wait ∙ is))
    by_phase Writing step wait = absurd (none_some request (sym wait ∙ is))
    by_phase Ending step wait = absurd (none_some request (sym wait ∙ is))
    by_phase Waiting step wait = absurd (none_some request (sym wait ∙ is))
    by_phase Exchanging step wait = (step, refl)
    by_phase (Ended cause) step wait = absurd (none_some request (sym wait ∙ is))

-- ---- numbers

-- A frame that is the call of this request.
pub record IsPlugFrame (setup : Setup) (request : PlugRequest) (frame : List ℕ) : Type 0 where
  pub to : Mac
  pub mac : IsMac to
  pub can : IsPlugCall request
  pub is : frame ≡ bytes_of setup (Parametrizes to request)

abbrev pub next_of : Controlling → ℕ
next_of c = call_number c.setup.plan c.live.access.calls

-- Each call that is made is below a bound, and each before the request after a plug that waits below its own number.
abbrev pub IsNumberedIn : Controlling → ℕ → ℕ → Type 0
IsNumberedIn c bound number = (number < bound) × ((request : PlugRequest) → c.live.access.plug ≡ Some request → number < request.sequence)

abbrev pub IsNumberedFrame : Rules TakenRecord Request → Controlling → ℕ → List ℕ → Type 0
IsNumberedFrame rules c bound frame = (sequence : ℕ) (ask : Ask) → rules.to_device frame ≡ small.Call sequence ask
    → (sequence < bound)
    × ((request : PlugRequest) → c.live.access.plug ≡ Some request → (sequence < request.sequence) ⊎ IsPlugFrame c.setup request frame)

-- The call that waits has the last number.
abbrev pub IsLast : Controlling → Type 0
IsLast c = (message : Sent) × (present_of c.live ≡ Some message) × (number_in c.setup.plan message ≡ 4294967295)

pub record Numbered (c : Controlling) (station : Station) (live : Live) (sent : List (List ℕ)) : Type 0 where
  pub bound : ℕ
  pub least : write_count c.setup.plan + 2 ≤ bound
  pub most : bound ≤ 4294967296
  pub frames : AllByRecursion (IsNumberedFrame (rules_of c.setup station) c bound) sent
  pub kept : (answer : small.Kept) → kept_for c.setup live ≡ Some answer → answer.sequence < bound
  pub question : (sequence : ℕ) → (device.small_of c.setup.activity live).asked ≡ Some sequence → IsNumberedIn c bound sequence
  pub waiting : (request : RecordRequest) → c.live.access.waiting ≡ Some request → request.sequence < bound
  pub plug : (request : PlugRequest) → c.live.access.plug ≡ Some request → request.sequence < bound
  pub next : (next_of c ≡ bound) ⊎ ((next_of c ≡ 0) × IsLast c)

all_joined : {A : Type 0} (P : A → Type 0) (one other : List A) → AllByRecursion P one → AllByRecursion P other → AllByRecursion P (one ++ other)
all_joined P [] other first second = second
all_joined P (x ∷ one) other first second = (first.0, all_joined P one other first.1 second)

all_to : {A : Type 0} (P Q : A → Type 0) → ((x : A) → P x → Q x) → (xs : List A) → AllByRecursion P xs → AllByRecursion Q xs
all_to P Q to [] all = tt
all_to P Q to (x ∷ xs) all = (to x all.0, all_to P Q to xs all.1)

-- ---- the frames of a device say nothing to a device

module _ (rules : Rules TakenRecord Request) where
  abbrev pub IsIdle : List ℕ → Type 0
  IsIdle frame = rules.to_device frame ≡ small.Idle

  other_idle : (after : small.Device TakenRecord Request) (frame : List ℕ) → IsDull rules frame ⊎ IsReady rules after frame → IsIdle frame
  other_idle after frame (inl dull) = dull.0
  other_idle after frame (inr ready) = ready.to_device

  pub steps_idle : (heard : ToDevice) (before after : small.Device TakenRecord Request) (frames : List (List ℕ)) → DeviceSteps rules heard before after frames
      → ((answer : small.Kept) → before.kept ≡ Some answer → IsIdle answer.frame) → AllByRecursion IsIdle frames
  steps_idle heard before after frames steps kept = by_steps heard steps
    where
      are : (fs : List (List ℕ)) → frames ≡ fs → AllByRecursion IsIdle fs → AllByRecursion IsIdle frames
      are fs same all = subst (λ (xs : List (List ℕ)). AllByRecursion IsIdle xs) (sym same) all

      others : (fs : List (List ℕ)) → AllByRecursion (λ f. IsDull rules f ⊎ IsReady rules after f) fs → AllByRecursion IsIdle fs
      others fs all = all_to (λ f. IsDull rules f ⊎ IsReady rules after f) IsIdle (other_idle after) fs all

      goes : GoesBy rules before after frames → AllByRecursion IsIdle frames
      goes it = others frames it.sent

      by_steps : (what : ToDevice) → DeviceSteps rules what before after frames → AllByRecursion IsIdle frames
      by_steps (small.Call sequence ask) (inl it) = are _ it.sent (it.to_device, others it.others it.readies)
      by_steps (small.Call sequence ask) (inr (inl it)) = are _ it.sent (kept it.kept it.has, tt)
      by_steps (small.Call sequence ask) (inr (inr (inl it))) = are _ it.1 tt
      by_steps (small.Call sequence ask) (inr (inr (inr it))) = are _ it.silent tt
      by_steps small.Confirms (inl it) = all_to (IsDull rules) IsIdle (λ frame dull. dull.0) frames it.dull
      by_steps small.Confirms (inr it) = goes it
      by_steps small.Idle (inl it) = goes it
      by_steps small.Idle (inr it) = are _ it.sent (all_joined IsIdle it.others (it.frame ∷ []) (others it.others it.dull) (it.to_device, tt))

-- ---- a step of the device

module _ (c : Controlling) (station : Station) (before after : Live) (sent frames : List (List ℕ)) (heard : ToDevice)
    (steps : DeviceSteps (rules_of c.setup station) heard (device.small_of c.setup.activity before) (device.small_of c.setup.activity after) frames)
    (idle : AllByRecursion (IsIdle (rules_of c.setup station)) frames)
    (was : Numbered c station before sent)
    (called : (sequence : ℕ) (ask : Ask) → heard ≡ small.Call sequence ask → sequence < was.bound)
    (asked : (sequence : ℕ) → (device.small_of c.setup.activity after).asked ≡ Some sequence
    → ((device.small_of c.setup.activity before).asked ≡ Some sequence) ⊎ IsNumberedIn c was.bound sequence) where
  kept_numbered : (what : ToDevice) → heard ≡ what
      → DeviceSteps (rules_of c.setup station) what (device.small_of c.setup.activity before) (device.small_of c.setup.activity after) frames
      → (answer : small.Kept) → kept_for c.setup after ≡ Some answer → answer.sequence < was.bound
  kept_numbered what e it answer is = by_steps what e it
    where
      same : kept_for c.setup after ≡ kept_for c.setup before → answer.sequence < was.bound
      same f = was.kept answer (sym f ∙ is)

      stored : (sequence : ℕ) (frame : List ℕ) → kept_for c.setup after ≡ Some (record { sequence = sequence; frame = frame }) → sequence < was.bound
          → answer.sequence < was.bound
      stored sequence frame f below =
          subst (λ (k : small.Kept). k.sequence < was.bound) (some_same (record { sequence = sequence; frame = frame }) answer (sym f ∙ is)) below

      by_steps : (w : ToDevice) → heard ≡ w
          → DeviceSteps (rules_of c.setup station) w (device.small_of c.setup.activity before) (device.small_of c.setup.activity after) frames
          → answer.sequence < was.bound
      by_steps (small.Call sequence ask) f (inl one) = stored sequence one.frame one.keeps (called sequence ask f)
      by_steps (small.Call sequence ask) f (inr (inl one)) = same (ap (λ (d : small.Device TakenRecord Request). d.kept) one.unchanged)
      by_steps (small.Call sequence ask) f (inr (inr (inl one))) = same (ap (λ (d : small.Device TakenRecord Request). d.kept) one.0)
      by_steps (small.Call sequence ask) f (inr (inr (inr one))) = same (ap (λ (d : small.Device TakenRecord Request). d.kept) one.becomes)
      by_steps small.Confirms f (inl one) = same (ap (λ (d : small.Device TakenRecord Request). d.kept) one.becomes)
      by_steps small.Confirms f (inr one) = same one.keeps
      by_steps small.Idle f (inl one) = same one.keeps
      by_steps small.Idle f (inr one) = stored one.sequence one.frame one.keeps (was.question one.sequence one.asked).0

  idle_numbered : (frame : List ℕ) → IsIdle (rules_of c.setup station) frame → IsNumberedFrame (rules_of c.setup station) c was.bound frame
  idle_numbered frame none sequence ask e = absurd (idle_call sequence ask (sym none ∙ e))

  pub device_numbered : Numbered c station after (sent ++ frames)
  device_numbered = record {
    bound = was.bound;
    least = was.least;
    most = was.most;
    frames = all_joined (IsNumberedFrame (rules_of c.setup station) c was.bound) sent frames was.frames
        (all_to (IsIdle (rules_of c.setup station)) (IsNumberedFrame (rules_of c.setup station) c was.bound) idle_numbered frames idle);
    kept = kept_numbered heard refl steps;
    question = λ sequence is. by_asked sequence (asked sequence is);
    waiting = was.waiting;
    plug = was.plug;
    next = was.next;
  }
    where
      by_asked : (sequence : ℕ) → ((device.small_of c.setup.activity before).asked ≡ Some sequence) ⊎ IsNumberedIn c was.bound sequence → IsNumberedIn c was.bound sequence
      by_asked sequence (inl old) = was.question sequence old
      by_asked sequence (inr now) = now

-- ---- a step of the controller

-- while a request of the application waits, none of the start-up does
access_alone : (plan : Parts) (live : ControllerLive) (request : RecordRequest) → IsSteady plan live → live.access.waiting ≡ Some request → live.asked ≡ None
access_alone plan live request steady is = by_phase live.phase steady.asked steady.waiting
  where
    by_phase : (p : State) → IsInStep plan p live.asked → MayWait p live.access.waiting → live.asked ≡ None
    by_phase Looking step wait = absurd (none_some request (sym wait ∙ is))
    by_phase Addressing step wait = absurd (none_some request (sym wait ∙ is))
    by_phase Connecting step wait = absurd (none_some request (sym wait ∙ is))
    by_phase Writing step wait = absurd (none_some request (sym wait ∙ is))
    by_phase Ending step wait = absurd (none_some request (sym wait ∙ is))
    by_phase Waiting step wait = absurd (none_some request (sym wait ∙ is))
    by_phase Exchanging step wait = step
    by_phase (Ended cause) step wait = absurd (none_some request (sym wait ∙ is))

-- the call that waits is not one that was made with the number 0
pub not_first : (plan : Parts) (live : ControllerLive) (request : PlugRequest) → IsSteady plan live → live.access.plug ≡ Some request → request.sequence ≡ 0
    → (message : Sent) → present_of live ≡ Some message → number_in plan message ≡ 4294967295 → ⊥
not_first plan live request steady is first message present last = by_message message refl (present_as live message present)
  where
    zero_last : (number : ℕ) → number ≡ 0 → number ≡ 4294967295 → ⊥
    zero_last number e f = omega (arith, e, f)

    by_message : (m : Sent) → m ≡ message → IsPresentAs live m → ⊥
    by_message (Requests to other) same it = none_some other (sym (beside_alone plan live request steady is).0 ∙ it)
    by_message (Accesses to other octets) same it = none_some request (sym it.1 ∙ is)
    by_message (Parametrizes to other) same it =
        zero_last request.sequence first (ap (λ (r : PlugRequest). r.sequence) (some_same request other (sym is ∙ it.1))
        ∙ (ap (λ (x : Sent). number_in plan x) same ∙ last))
    by_message (Agrees caller answer) same it = it
    by_message (Cycles route shown counter) same it = it
    by_message (Confirms route priority header ack) same it = it
    by_message (Replies route priority header) same it = it
    by_message (Ends route header reason) same it = it

not_first_access : (plan : Parts) (live : ControllerLive) (request : RecordRequest) → IsSteady plan live → live.access.waiting ≡ Some request → live.access.plug ≡ None
    → request.sequence ≡ 0 → (message : Sent) → present_of live ≡ Some message → number_in plan message ≡ 4294967295 → ⊥
not_first_access plan live request steady is none first message present last = by_message message refl (present_as live message present)
  where
    zero_last : (number : ℕ) → number ≡ 0 → number ≡ 4294967295 → ⊥
    zero_last number e f = omega (arith, e, f)

    by_message : (m : Sent) → m ≡ message → IsPresentAs live m → ⊥
    by_message (Requests to other) same it = none_some other (sym (access_alone plan live request steady is) ∙ it)
    by_message (Accesses to other octets) same it =
        zero_last request.sequence first (ap (λ (r : RecordRequest). r.sequence) (some_same request other (sym is ∙ it.0))
        ∙ (ap (λ (x : Sent). number_in plan x) same ∙ last))
    by_message (Parametrizes to other) same it = none_some other (sym none ∙ it.1)
    by_message (Agrees caller answer) same it = it
    by_message (Cycles route shown counter) same it = it
    by_message (Confirms route priority header ack) same it = it
    by_message (Replies route priority header) same it = it
    by_message (Ends route header reason) same it = it

module _ (setup : Setup) (station : Station) (mac : Mac) (before after : Controlling) (live : Live) (sent : List (List ℕ))
    (messages : List Sent) (before_of : before.setup ≡ setup) (after_of : after.setup ≡ setup) (was : Numbered before station live sent)
    (steady : IsSteady setup.plan after.live) (going : is_ended after.live.phase ≡ false) (numbers : Counts setup before.live after.live)
    (few : write_count setup.plan + 65538 < 4294967295)
    (said : AllByRecursion (IsSaidAs setup station) messages) (made : AllByRecursion (IsAsked after.live) messages)
    (aimed : AllByRecursion (IsAimedAt mac) messages)
    (stays : (message : Sent) → present_of before.live ≡ Some message → number_in before.setup.plan message ≡ 4294967295
    → present_of after.live ≡ Some message) where
  some_or : {A : Type 0} (one other : Option A) (value : A) → IsSameOr one other → other ≡ Some value → one ≡ Some value
  some_or one other value (inl same) e = sym same ∙ e
  some_or one other value (inr none) e = absurd (none_some value (sym none ∙ e))

  next_after : next_of after ≡ call_number setup.plan after.live.access.calls
  next_after = ap (λ (s : Setup). call_number s.plan after.live.access.calls) after_of

  -- with a bound that is the same or more
  module _ (bound : ℕ) (later : was.bound ≤ bound) (most : bound ≤ 4294967296)
      (waits : (request : RecordRequest) → after.live.access.waiting ≡ Some request → request.sequence < bound)
      (plugs : (request : PlugRequest) → after.live.access.plug ≡ Some request → request.sequence < bound)
      (fresh : (request : PlugRequest) → after.live.access.plug ≡ Some request → (before.live.access.plug ≡ Some request) ⊎ (was.bound ≤ request.sequence))
      (next : (next_of after ≡ bound) ⊎ ((next_of after ≡ 0) × IsLast after)) where
    below : (number : ℕ) → number < was.bound → number < bound
    below number less = omega (arith, less, later)

    under : (number other : ℕ) → number < was.bound → was.bound ≤ other → number < other
    under number other less at_least = omega (arith, less, at_least)

    plugs_of : (P : PlugRequest → Type 0) (number : ℕ) → number < was.bound → ((request : PlugRequest) → before.live.access.plug ≡ Some request → P request)
        → ((request : PlugRequest) → number < request.sequence → P request) → (request : PlugRequest) → after.live.access.plug ≡ Some request → P request
    plugs_of P number less old now request e = by_fresh (fresh request e)
      where
        by_fresh : (before.live.access.plug ≡ Some request) ⊎ (was.bound ≤ request.sequence) → P request
        by_fresh (inl waited) = old request waited
        by_fresh (inr at_least) = now request (under number request.sequence less at_least)

    numbered_in : (number : ℕ) → IsNumberedIn before was.bound number → IsNumberedIn after bound number
    numbered_in number is = (
      below number is.0,
      plugs_of (λ (request : PlugRequest). number < request.sequence) number is.0 is.1 (λ request less. less),
    )

    old_frame : (frame : List ℕ) → IsNumberedFrame (rules_of before.setup station) before was.bound frame
        → IsNumberedFrame (rules_of after.setup station) after bound frame
    old_frame frame is sequence ask e =
        let old = is sequence ask (ap (λ (s : Setup). (rules_of s station).to_device frame) (before_of ∙ sym after_of) ∙ e) in (
          below sequence old.0,
          plugs_of (λ (request : PlugRequest). (sequence < request.sequence) ⊎ IsPlugFrame after.setup request frame) sequence old.0
              (λ request waited. subst (λ (s : Setup). (sequence < request.sequence) ⊎ IsPlugFrame s request frame) (before_of ∙ sym after_of) (old.1 request waited))
              (λ request less. inl less),
        )

    abbrev Now : Sent → Type 0
    Now message = IsSaidAs setup station message × (IsAsked after.live message × IsAimedAt mac message)

    least_now : write_count setup.plan + 2 ≤ bound
    least_now =
        let least : write_count setup.plan + 2 ≤ was.bound = subst (λ (s : Setup). write_count s.plan + 2 ≤ was.bound) before_of was.least in
        omega (arith, least, later)

    -- a request of the start-up has a number below the next one, which is the bound then
    start_below : (request : Asking) → after.live.asked ≡ Some request → sequence_of setup.plan request < bound
    start_below request is = by_next next
      where
        small : (sequence_of setup.plan request < write_count setup.plan + 2 + after.live.access.calls) × (after.live.access.calls < 65536)
        small = step_number setup.plan after.live.phase after.live.access.calls after.live.asked request steady.asked steady.calls is going

        next_is : next_of after ≡ write_count setup.plan + 2 + after.live.access.calls
        next_is = next_after ∙ mod-eq_of_lt (omega (arith, small.1, few))

        by_next : (next_of after ≡ bound) ⊎ ((next_of after ≡ 0) × IsLast after) → sequence_of setup.plan request < bound
        by_next (inl same) = subst (λ (n : ℕ). sequence_of setup.plan request < n) (sym next_is ∙ same) small.0
        by_next (inr last) = absurd (is_none (sym last.0 ∙ next_is))
          where
            is_none : 0 ≡ write_count setup.plan + 2 + after.live.access.calls → ⊥
            is_none e = absurd (omega (arith, e))

    none_waits : (request : Asking) → after.live.asked ≡ Some request → (other : PlugRequest) → after.live.access.plug ≡ Some other → ⊥
    none_waits request e other f = none_some request (sym (beside_alone setup.plan after.live other steady f).0 ∙ e)

    abbrev Below : Sent → ℕ → Type 0
    Below message sequence =
        (sequence < bound)
        × ((request : PlugRequest) → after.live.access.plug ≡ Some request
        → (sequence < request.sequence) ⊎ IsPlugFrame after.setup request (bytes_of setup message))

    new_frame : (message : Sent) → Now message → IsNumberedFrame (rules_of after.setup station) after bound (bytes_of setup message)
    new_frame message now sequence ask e = by_asked now.1.0
      where
        says : Rattle.both_ends.specs.startup.View.says_to_device setup message ≡ small.Call sequence ask
        says = heard_said setup station message now.0 sequence ask
            (ap (λ (s : Setup). (rules_of s station).to_device (bytes_of setup message)) (sym after_of) ∙ e)

        is_number : sequence ≡ number_in setup.plan message
        is_number = number_said setup message sequence ask says

        same_below : (number : ℕ) → sequence ≡ number → number < bound → sequence < bound
        same_below number same less = omega (arith, same, less)

        by_message : (m : Sent) → m ≡ message → IsPresentAs after.live m → Below message sequence
        by_message (Requests to request) same is = (
          same_below (sequence_of setup.plan request) (is_number ∙ ap (λ (x : Sent). number_in setup.plan x) (sym same)) (start_below request is),
          λ other f. absurd (none_waits request is other f),
        )
        by_message (Accesses to request octets) same is = (
          same_below request.sequence (is_number ∙ ap (λ (x : Sent). number_in setup.plan x) (sym same)) (waits request is.0),
          λ other f. absurd (none_some other (sym is.1 ∙ f)),
        )
        by_message (Parametrizes to request) same is =
            let towards = subst (λ (x : Sent). IsAimedAt mac x) (sym same) now.1.1 in (
              same_below request.sequence (is_number ∙ ap (λ (x : Sent). number_in setup.plan x) (sym same)) (plugs request is.1),
              λ other f. inr (subst (λ (r : PlugRequest). IsPlugFrame after.setup r (bytes_of setup message)) (some_same request other (sym is.1 ∙ f)) (record {
                to = to;
                mac = towards.0;
                can = towards.1;
                is = ap (λ (x : Sent). bytes_of setup x) (sym same) ∙ ap (λ (s : Setup). bytes_of s (Parametrizes to request)) (sym after_of);
              })),
            )
        by_message (Agrees caller answer) same is = absurd is
        by_message (Cycles route shown counter) same is = absurd is
        by_message (Confirms route priority header ack) same is = absurd is
        by_message (Replies route priority header) same is = absurd is
        by_message (Ends route header reason) same is = absurd is

        by_asked : IsAsked after.live message → Below message sequence
        by_asked (inl present) = by_message message refl (present_as after.live message present)
        by_asked (inr plain) = absurd (plain_said setup message plain sequence ask says)

    with_bound : Numbered after station live (sent ++ map (bytes_of setup) messages)
    with_bound = record {
      bound = bound;
      least = subst (λ (s : Setup). write_count s.plan + 2 ≤ bound) (sym after_of) least_now;
      most = most;
      frames = all_joined (IsNumberedFrame (rules_of after.setup station) after bound) sent (map (bytes_of setup) messages)
          (all_to (IsNumberedFrame (rules_of before.setup station) before was.bound) (IsNumberedFrame (rules_of after.setup station) after bound) old_frame sent was.frames)
          (all_map (λ m. IsSaidAs setup station m × (IsAsked after.live m × IsAimedAt mac m)) (IsNumberedFrame (rules_of after.setup station) after bound)
          (bytes_of setup) new_frame messages
          (all_both (IsSaidAs setup station) (λ m. IsAsked after.live m × IsAimedAt mac m) messages said
          (all_both (IsAsked after.live) (IsAimedAt mac) messages made aimed)));
      kept = λ answer e. below answer.sequence (was.kept answer (ap (λ (s : Setup). kept_for s live) (before_of ∙ sym after_of) ∙ e));
      question = λ sequence e. numbered_in sequence
          (was.question sequence (ap (λ (s : Setup). (device.small_of s.activity live).asked) (before_of ∙ sym after_of) ∙ e));
      waiting = waits;
      plug = plugs;
      next = next;
    }

  -- ---- the bound

  abbrev number_before : ℕ
  number_before = call_number setup.plan before.live.access.calls

  next_before : next_of before ≡ number_before
  next_before = ap (λ (s : Setup). call_number s.plan before.live.access.calls) before_of

  same_bound : was.bound ≤ was.bound
  same_bound = omega arith

  -- the numbers go on after the next one, or begin at 0 again
  number_few : number_before < 4294967296
  number_few = mod-lt (write_count setup.plan + 2 + before.live.access.calls) (omega arith)

  goes_on : after.live.access.calls ≡ (before.live.access.calls + 1) % 4294967296 → ((number_before + 1 < 4294967296) × (next_of after ≡ number_before + 1)) ⊎ ((number_before ≡ 4294967295) × (next_of after ≡ 0))
  goes_on e = by_less (nat_lt (number_before + 1) 4294967296) refl
    where
      sum_is : (count calls : ℕ) → (count + 2 + ((calls + 1) % 4294967296)) % 4294967296 ≡ ((count + 2 + calls) % 4294967296 + 1) % 4294967296
      sum_is count calls = omega arith

      after_is : next_of after ≡ (number_before + 1) % 4294967296
      after_is = next_after ∙ (ap (λ (calls : ℕ). call_number setup.plan calls) e ∙ sum_is (write_count setup.plan) before.live.access.calls)

      over : (n : ℕ) → n < 4294967296 → (n + 1 < 4294967296 → ⊥) → n ≡ 4294967295
      over n few not_less = omega (arith, few, not_less)

      at_zero : (n : ℕ) → n ≡ 4294967295 → (n + 1) % 4294967296 ≡ 0
      at_zero n f = omega (arith, f)

      by_less : (b : Bool) → nat_lt (number_before + 1) 4294967296 ≡ b
          → ((number_before + 1 < 4294967296) × (next_of after ≡ number_before + 1)) ⊎ ((number_before ≡ 4294967295) × (next_of after ≡ 0))
      by_less true f =
          let less = ltb-true (number_before + 1) 4294967296 f in
          inl (less, after_is ∙ mod-eq_of_lt less)
      by_less false f =
          let last = over number_before number_few (λ less. false_true_bool (sym f ∙ lt-ltb (number_before + 1) 4294967296 less)) in
          inr (last, after_is ∙ at_zero number_before last)
        where
          false_true_bool : false ≡ true → ⊥
          false_true_bool g = absurd cc

  from_zero : (number : ℕ) → next_of before ≡ 0 → number ≡ number_before → number ≡ 0
  from_zero number e f = f ∙ (sym next_before ∙ e)

  made_bound : (number : ℕ) → number ≡ number_before → next_of before ≡ was.bound → was.bound ≤ number
  made_bound number e f =
      let same : number ≡ was.bound = e ∙ (sym next_before ∙ f) in
      omega (arith, same)

  one_later : (number : ℕ) → number ≡ number_before → number < number_before + 1
  one_later number e = omega (arith, e)

  bound_later : next_of before ≡ was.bound → was.bound ≤ number_before + 1
  bound_later f =
      let same : number_before ≡ was.bound = sym next_before ∙ f in
      omega (arith, same)

  few_more : number_before + 1 ≤ 4294967296
  few_more =
      let few = number_few in
      omega (arith, few)

  old_later : (number : ℕ) → next_of before ≡ was.bound → number < was.bound → number < number_before + 1
  old_later number f less =
      let at_most = bound_later f in
      omega (arith, less, at_most)

  -- the calls of a start-up are few
  try_number : (one : IsTryMade before.live after.live)
      → (sequence_of setup.plan one.request < write_count setup.plan + 2 + after.live.access.calls) × (after.live.access.calls < 65536)
  try_number one = step_number setup.plan after.live.phase after.live.access.calls after.live.asked one.request steady.asked steady.calls one.asked going

  few_calls : IsTryMade before.live after.live → write_count setup.plan + 2 + after.live.access.calls < 4294967296
  few_calls one =
      let number = try_number one in
      omega (arith, number.1, few)

  small_try : (one : IsTryMade before.live after.live) → sequence_of setup.plan one.request < 4294967295
  small_try one =
      let number = try_number one in
      omega (arith, number.0, number.1, few)

  -- the next number after the one that was made
  next_made : after.live.access.calls ≡ (before.live.access.calls + 1) % 4294967296
      → (message : Sent) → present_of after.live ≡ Some message → number_in setup.plan message ≡ number_before
      → (next_of after ≡ number_before + 1) ⊎ ((next_of after ≡ 0) × IsLast after)
  next_made e message present number = by_on (goes_on e)
    where
      by_on : ((number_before + 1 < 4294967296) × (next_of after ≡ number_before + 1)) ⊎ ((number_before ≡ 4294967295) × (next_of after ≡ 0))
          → (next_of after ≡ number_before + 1) ⊎ ((next_of after ≡ 0) × IsLast after)
      by_on (inl more) = inl more.1
      by_on (inr last) = inr (last.1, (message, present, ap (λ (s : Setup). number_in s.plan message) after_of ∙ (number ∙ last.0)))

  pub controller_numbered : Numbered after station live (sent ++ map (bytes_of setup) messages)
  controller_numbered = by_counts numbers
    where
      last_stays : IsLast before → IsLast after
      last_stays it = (it.0, stays it.0 it.1 it.2, ap (λ (s : Setup). number_in s.plan it.0) (after_of ∙ sym before_of) ∙ it.2)

      last_number : (it : IsLast before) → number_in setup.plan it.0 ≡ 4294967295
      last_number it = ap (λ (s : Setup). number_in s.plan it.0) (sym before_of) ∙ it.2

      none_next : after.live.access.calls ≡ before.live.access.calls → (next_of before ≡ was.bound) ⊎ ((next_of before ≡ 0) × IsLast before)
          → (next_of after ≡ was.bound) ⊎ ((next_of after ≡ 0) × IsLast after)
      none_next e (inl same) = inl (next_after ∙ (ap (λ (calls : ℕ). call_number setup.plan calls) e ∙ (sym next_before ∙ same)))
      none_next e (inr last) = inr (next_after ∙ (ap (λ (calls : ℕ). call_number setup.plan calls) e ∙ (sym next_before ∙ last.0)), last_stays last.1)

      by_plug : (one : IsPlugMade setup before.live.access after.live.access) → (next_of before ≡ was.bound) ⊎ ((next_of before ≡ 0) × IsLast before)
          → Numbered after station live (sent ++ map (bytes_of setup) messages)
      by_plug one (inr last) =
          absurd (not_first setup.plan after.live one.request steady one.plug (from_zero one.request.sequence last.0 one.sequence) last.1.0
          (stays last.1.0 last.1.1 last.1.2) (last_number last.1))
      by_plug one (inl same) =
          with_bound (number_before + 1) (bound_later same) few_more
          (λ request e. old_later request.sequence same (was.waiting request (some_or before.live.access.waiting after.live.access.waiting request one.waiting e)))
          (λ request e. subst (λ (r : PlugRequest). r.sequence < number_before + 1) (some_same one.request request (sym one.plug ∙ e))
          (one_later one.request.sequence one.sequence))
          (λ request e. inr (subst (λ (r : PlugRequest). was.bound ≤ r.sequence) (some_same one.request request (sym one.plug ∙ e))
          (made_bound one.request.sequence one.sequence same)))
          (next_made one.calls (Parametrizes after.live.device one.request)
          (plugged_is after.live one.request (beside_alone setup.plan after.live one.request steady one.plug).0 one.plug) one.sequence)

      by_access : (one : IsAccessMade setup before.live.access after.live.access) → (next_of before ≡ was.bound) ⊎ ((next_of before ≡ 0) × IsLast before)
          → Numbered after station live (sent ++ map (bytes_of setup) messages)
      by_access one (inr last) =
          absurd (not_first_access setup.plan after.live one.request steady one.waiting one.none (from_zero one.request.sequence last.0 one.sequence) last.1.0
          (stays last.1.0 last.1.1 last.1.2) (last_number last.1))
      by_access one (inl same) =
          with_bound (number_before + 1) (bound_later same) few_more
          (λ request e. subst (λ (r : RecordRequest). r.sequence < number_before + 1) (some_same one.request request (sym one.waiting ∙ e))
          (one_later one.request.sequence one.sequence))
          (λ request e. absurd (none_some request (sym one.none ∙ e)))
          (λ request e. absurd (none_some request (sym one.none ∙ e)))
          (next_made one.calls (Accesses after.live.device one.request after.live.access.octets)
          (waiting_is after.live one.request (access_alone setup.plan after.live one.request steady one.waiting) one.none one.waiting) one.sequence)

      -- the next try of a call of the start-up has the number that was the next one
      by_try : IsTryMade before.live after.live → (next_of before ≡ was.bound) ⊎ ((next_of before ≡ 0) × IsLast before)
          → Numbered after station live (sent ++ map (bytes_of setup) messages)
      by_try one (inr last) = absurd (not_small (sequence_of setup.plan one.request) (small_try one) try_last)
        where
          try_last : sequence_of setup.plan one.request ≡ 4294967295
          try_last =
              ap (λ (m : Sent). number_in setup.plan m)
              (some_same (Requests after.live.device one.request) last.1.0 (sym (requested_is after.live one.request one.asked) ∙ stays last.1.0 last.1.1 last.1.2))
              ∙ last_number last.1

          not_small : (number : ℕ) → number < 4294967295 → number ≡ 4294967295 → ⊥
          not_small number less same = omega (arith, less, same)
      by_try one (inl same) =
          with_bound (number_before + 1) (bound_later same) few_more
          (λ request e. old_later request.sequence same (was.waiting request (sym one.waiting ∙ e)))
          (λ request e. old_later request.sequence same (was.plug request (sym one.plug ∙ e)))
          (λ request e. inl (sym one.plug ∙ e))
          (by_on (goes_on one.calls))
        where
          no_wrap : (number : ℕ) → number ≡ 0 → number ≡ write_count setup.plan + 2 + after.live.access.calls → ⊥
          no_wrap number e f = omega (arith, e, f)

          by_on : ((number_before + 1 < 4294967296) × (next_of after ≡ number_before + 1)) ⊎ ((number_before ≡ 4294967295) × (next_of after ≡ 0))
              → (next_of after ≡ number_before + 1) ⊎ ((next_of after ≡ 0) × IsLast after)
          by_on (inl more) = inl more.1
          by_on (inr over) = absurd (no_wrap (next_of after) over.1 (next_after ∙ mod-eq_of_lt (few_calls one)))

      by_numbers : Numbers setup before.live.access after.live.access → Numbered after station live (sent ++ map (bytes_of setup) messages)
      by_numbers (inl none) =
          with_bound was.bound same_bound was.most
          (λ request e. was.waiting request (some_or before.live.access.waiting after.live.access.waiting request none.waiting e))
          (λ request e. was.plug request (some_or before.live.access.plug after.live.access.plug request none.plug e))
          (λ request e. inl (some_or before.live.access.plug after.live.access.plug request none.plug e))
          (none_next none.calls was.next)
      by_numbers (inr (inl one)) = by_plug one was.next
      by_numbers (inr (inr one)) = by_access one was.next

      by_counts : Counts setup before.live after.live → Numbered after station live (sent ++ map (bytes_of setup) messages)
      by_counts (inl made) = by_numbers made
      by_counts (inr one) = by_try one was.next
