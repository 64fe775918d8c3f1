-- A controller that writes the next record, or ends the parameters.
use Rattle.std.proofs.Common.{◌≡◌, ◌≤◌, ◌<◌, ◌+◌, ◌/◌, ◌⊎◌, inl, inr, ℕ, Bool, true, false, cond, nat_lt, List, [], ◌∷◌, length, map, None, refl, sym, ap, Some}
use Rattle.std.proofs.Common.{subst, ◌∙◌, arith}
use Rattle.pn_values.specs.declared.identity.Identity.{Identity}
use Rattle.pn_values.specs.declared.mac.Mac.{Mac}
use Rattle.plans.specs.declared.parts.Parts.{Parts}
use Rattle.plans.specs.Plan.{IsPlan}
use Rattle.controller_messages.specs.declared.request.Request.{Request}
use Rattle.controller_messages.specs.declared.request.Request.TheVariants as asks
use Rattle.controller_messages.specs.declared.setup.ControllerOptions.{ControllerOptions}
use Rattle.controller_messages.specs.declared.setup.Setup.{Setup}
use Rattle.controller_messages.specs.Requests.{write_count, writing_from}
use Rattle.controller_messages.specs.Sent.{Requests, bytes_of}
use Rattle.controller_core.specs.declared.stored.event.Event.TheVariants.{Frame}
use Rattle.controller_core.specs.declared.stored.state.State.{State}
use Rattle.controller_core.specs.declared.stored.state.State.TheVariants.{Connecting, Writing}
use Rattle.controller_core.specs.Machine.{Stepped, Turn, placed, standing, stepped, step_of, turn_of, writing}
use Rattle.controller_core.specs.stored.State.{Controlling, Live, left_in, patience_in, phase_for}
use Rattle.both_ends.specs.startup.answer.Answer.{chosen_with}
use Rattle.rounds_law.specs.Path.{AllAnswered, Asks, AsksNext, controller_step, hold_of, route_to}
use Rattle.rounds_law.specs.Start.{IsPatient}

-- ---- a step

-- a turn of a controller of this set-up, as a step
abbrev pub step_by : Setup → Turn → Stepped
step_by setup turn = record { controller = record { setup = setup; live = turn.live }; frames = map (bytes_of setup) turn.sent }

pub step_is : (setup : Setup) (controller : Controlling) (octets : List ℕ) (turn : Turn) → controller.setup ≡ setup
    → turn_of setup controller.live (Frame (record { items = octets })) ≡ turn → controller_step controller octets ≡ step_by setup turn
unfolding step_of
step_is setup controller octets turn of_setup is =
    let event = Frame (record { items = octets }) in
    ap (λ (s : Setup). stepped (record { setup = s; live = controller.live }) (turn_of s controller.live event)) of_setup
    ∙ ap (λ (t : Turn). step_by setup t) is

-- ---- patience

-- there are no more Writes than records
pub few_by : (is_list : Bool) (count : ℕ) → count ≤ 32 → cond is_list ((count + 9) / 10) count ≤ 32
few_by true count few = omega (arith, few)
few_by false count few = few

pub count_few : (plan : Parts) → IsPlan plan → write_count plan ≤ 32
count_few plan is = few_by plan.multiple_write (length plan.records.items) is.few_records

-- the patience with a phase in which records are written, or the parameters are ended, is that of the options
patience_is : (options : ControllerOptions) (number : ℕ) (writes : Bool)
    → patience_in options (phase_for (cond writes (asks.Write number) asks.PrmEnd)) ≡ options.patience
patience_is options number true = refl
patience_is options number false = refl

-- this many units are fewer than the patience, if there is one
abbrev pub IsWithin : ℕ → ℕ → Type 0
IsWithin spare left = (left ≡ 0) ⊎ (spare < left)

within_patience : (plan : Parts) (options : ControllerOptions) (spare : ℕ) → spare ≤ write_count plan + 2 → IsPatient plan options
    → IsWithin spare options.patience
within_patience plan options spare few (inl none) = inl none
within_patience plan options spare few (inr long) = inr (omega (arith, few, long))

-- after the Connect
pub within_first : (plan : Parts) (options : ControllerOptions) (left spare number : ℕ) (before : State) → before ≡ Connecting → spare ≤ write_count plan + 2
    → IsPatient plan options
    → IsWithin spare (left_in options left before (phase_for (writing_from plan number)))
within_first plan options left spare number before is few patient =
    subst (λ (p : State). IsWithin spare (left_in options left p (phase_for (writing_from plan number)))) (sym is)
    (subst (IsWithin spare) (sym (patience_is options number (nat_lt number (write_count plan)))) (within_patience plan options spare few patient))

-- after a Write: all Writes have one patience
within_by : (plan : Parts) (options : ControllerOptions) (left spare number : ℕ) (writes : Bool) → spare ≤ write_count plan + 2 → IsPatient plan options
    → IsWithin spare left
    → IsWithin spare (left_in options left Writing (phase_for (cond writes (asks.Write number) asks.PrmEnd)))
within_by plan options left spare number true few patient within = within
within_by plan options left spare number false few patient within = within_patience plan options spare few patient

pub within_next : (plan : Parts) (options : ControllerOptions) (left spare number : ℕ) (before : State) → before ≡ Writing → spare ≤ write_count plan + 2
    → IsPatient plan options
    → IsWithin spare left → IsWithin spare (left_in options left before (phase_for (writing_from plan number)))
within_next plan options left spare number before is few patient within =
    subst (λ (p : State). IsWithin spare (left_in options left p (phase_for (writing_from plan number)))) (sym is)
    (within_by plan options left spare number (nat_lt number (write_count plan)) few patient within)

-- ---- the next request

-- the relation is established with this device, and nothing else waits
pub record IsRelated (setup : Setup) (serial : ℕ) (device : Mac) (live : Live) : Type 0 where
  pub of_device : live.device ≡ device
  pub established : live.stands ≡ true
  pub few : serial < 14336
  pub route : live.cyclic.route ≡ route_to device serial
  pub high : live.alarms.sending.waiting ≡ None
  pub low : live.low_alarms.sending.waiting ≡ None
  pub low_limit : 3200 ≤ live.low_alarms.sending.limit
  pub alone : AllAnswered live.access
  pub unbegun : live.cyclic.begun ≡ false
  pub limit : live.cyclic.hearing.limit ≡ hold_of setup.plan

pub related_asks : (serial : ℕ) (setup : Setup) (device : Mac) (phase : State) (request : Request) (spare : ℕ) (controller : Controlling)
    → Asks setup device phase request (Some serial) spare controller → IsRelated setup serial device controller.live
related_asks serial setup device phase request spare controller it = record {
  of_device = it.of_device;
  established = it.established;
  few = it.route.0;
  route = it.route.1;
  high = it.high;
  low = it.low;
  low_limit = it.low_limit;
  alone = it.alone;
  unbegun = it.unbegun;
  limit = it.limit;
}

pub related_first : (serial : ℕ) → serial < 14336 → (setup : Setup) (device : Mac) (phase : State) (request : Request) (spare : ℕ) (controller : Controlling)
    (blocks : List ℕ) → Asks setup device phase request None spare controller
    → IsRelated setup serial device (standing setup (placed setup blocks controller.live) (chosen_with serial))
related_first serial small setup device phase request spare controller blocks it = record {
  of_device = it.of_device;
  established = refl;
  few = small;
  route = ap (λ (d : Mac). route_to d serial) it.of_device;
  high = it.high;
  low = it.low;
  low_limit = it.low_limit;
  alone = it.alone;
  unbegun = it.unbegun;
  limit = it.limit;
}

pub asks_next : (serial : ℕ) (setup : Setup) (identity : Identity) (request : Request) (spare : ℕ) (live : Live) → IsRelated setup serial identity.mac live → spare < 31999
    → IsWithin spare (left_in setup.options live.left live.phase (phase_for request))
    → AsksNext setup identity (phase_for request) request (Some serial) spare (step_by setup (writing setup request live))
asks_next serial setup identity request spare live related few within = record {
  asks = record {
    of_setup = refl;
    in_phase = refl;
    asked = refl;
    of_device = related.of_device;
    unrepeated = omega (arith, few);
    patient = within;
    established = related.established;
    route = (related.few, related.route);
    high = related.high;
    low = related.low;
    low_limit = related.low_limit;
    alone = related.alone;
    unbegun = related.unbegun;
    limit = related.limit;
  };
  frames = ap (λ (d : Mac). bytes_of setup (Requests d request) ∷ []) related.of_device;
}

-- the controller after a frame by which it goes on
pub asks_after : (serial : ℕ) (setup : Setup) (identity : Identity) (request : Request) (spare : ℕ) (controller : Controlling) (octets : List ℕ) (live : Live)
    → controller.setup ≡ setup
    → turn_of setup controller.live (Frame (record { items = octets })) ≡ writing setup request live → IsRelated setup serial identity.mac live → spare < 31999
    → IsWithin spare (left_in setup.options live.left live.phase (phase_for request))
    → AsksNext setup identity (phase_for request) request (Some serial) spare (controller_step controller octets)
asks_after serial setup identity request spare controller octets live of_setup is related few within =
    subst (λ (step : Stepped). AsksNext setup identity (phase_for request) request (Some serial) spare step)
    (sym (step_is setup controller octets (writing setup request live) of_setup is))
    (asks_next serial setup identity request spare live related few within)
