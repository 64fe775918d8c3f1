-- The outcome of lines that are valid only at some times, of units of time, and of frames that wait.
use Rattle.std.proofs.Common.{◌≡◌, ◌⊎◌, inl, inr, ℕ, List, ◌++◌, codes, Bool, true, false, Option, Some, None, Result, Ok, OnOk, IsErr, MatchResult, length, is_some, option_map, replicate, append_assoc, refl, sym, ap, subst, ◌∙◌}
use Rattle.std.proofs.lemmas.Bool.{false≢true}
use Rattle.std.proofs.lemmas.Result.{on_ok_weaker}
use Rattle.plans.specs.declared.parts.Parts.{Parts}
use Rattle.configurator.specs.declared.fault.PlanFault.{PlanFault}
use Rattle.configurator.specs.declared.fault.PlanFault.TheVariants.{OutOfMemory}
use Rattle.configurator.specs.Planned.{IsPlanOf, IsRefused}
use Rattle.device_frames.specs.declared.note.Note.TheVariants.{Done}
use Rattle.device_frames.specs.declared.event.Event.TheVariants as event
use Rattle.controller_core.specs.declared.stored.event.Event.{Event as ControllerEvent}
use Rattle.controller_core.specs.stored.State.{Controlling}
use Rattle.script_lines.specs.Show.{controller_shown}
use Rattle.script_lines.specs.Text.{moved_line, note_line, printed}
use Rattle.script_session.specs.declared.power.Power.{Power}
use Rattle.script_session.specs.declared.power.Power.TheVariants.{On}
use Rattle.script_session.specs.Ends.{Hears, IsRightFor, Network, Other, Running, Starts, arrived_at, device_run, frames_for_device, may_request, printed_for, ticked_by, with_ends, with_plan, with_sent}
use Rattle.script_session.specs.Power.{Held, IsRunning}
use Rattle.script_session.specs.Said.{config_outcome, deliver_answer, deliver_outcome, handed_over, heard_outcome, record_outcome, start_outcome, tick_answer}
use Rattle.script_session.specs.Session.{Comes, IsDone, IsHandedOver, IsObeyed, IsRunOf, IsWithoutPlan, Obeys}
use Rattle.script_session.proofs.Obeying.{always_obeys}

-- ---- a catalogue

-- The outcome for a catalogue that is refused.
pub config_refused : (plans : List ℕ → Option Parts) (network : Network) (catalogue : List ℕ) (fault : PlanFault) → IsRightFor plans catalogue → IsRefused catalogue fault → (fault ≡ OutOfMemory) ⊎ IsWithoutPlan (config_outcome network catalogue (plans catalogue)) fault
config_refused plans network catalogue fault right refused = elim (right.refused fault refused) [
  | inl memory ↦ inl memory
  | inr none ↦ rw none (inr refused)
]

-- The outcome for a catalogue that has a plan.
pub config_planned : {E : Type 0} (plans : List ℕ → Option Parts) (network : Network) (catalogue : List ℕ) (plan : Parts) (power : Power) (far other : Other) (before now : List ℕ) (done : Result (Unit {0}) E) (result : Result Bool PlanFault) → IsRightFor plans catalogue → IsPlanOf catalogue plan → IsRunning network.station power → far ≡ network.other → other ≡ with_plan far plan
    → OnOk done (now ≡ before ++ printed (codes "plan ok")) → MatchResult result (λ is. (is ≡ true) × (done ≡ Ok tt)) (λ fault. (fault ≡ OutOfMemory) × IsErr done)
    → Obeys (config_outcome network catalogue (plans catalogue)) (record { power = power; other = other }) before now result
config_planned plans network catalogue plan power far other before now done result right is runs same made text given =
    rw (right.planned plan is) (always_obeys (record { network = with_ends network.station (with_plan network.other plan); text = printed (codes "plan ok") }) (record { power = power; other = other }) before now done result
    (on_ok_weaker done (λ t. record { runs = runs; waits = made ∙ ap (λ o. with_plan o plan) same; text = t }) text) given)

-- ---- a controller

-- The start of a controller depends only on the other end.
start_is : (network : Network) (far other : Other) (ar activity : List ℕ) (started : Bool) → far ≡ network.other → Starts far.plan far ar activity other started → Starts network.other.plan network.other ar activity other started
start_is network far other ar activity started same = subst (λ o. Starts o.plan o ar activity other started) same

start_none : (plan : Option Parts) (network : Network) (far other : Other) (ar activity : List ℕ) (held : Held) (before now : List ℕ) → Starts plan far ar activity other false → Comes (start_outcome network ar activity plan) held before now false
start_none None network far other ar activity held before now starts = refl
start_none (Some plan) network far other ar activity held before now starts = absurd (false≢true starts.0)

start_some : (plan : Option Parts) (network : Network) (other : Other) (ar activity : List ℕ) (power : Power) (before now : List ℕ) → Starts plan network.other ar activity other true → IsRunning network.station power → now ≡ before ++ controller_shown other.controller
    → Comes (start_outcome network ar activity plan) (record { power = power; other = other }) before now true
start_some None network other ar activity power before now starts runs text = absurd (false≢true (sym starts))
start_some (Some plan) network other ar activity power before now starts runs text =
    (refl, record { runs = runs; waits = starts.1; text = text ∙ ap (λ o. before ++ controller_shown o.controller) starts.1 })

pub start_refused : (network : Network) (far other : Other) (ar activity : List ℕ) (held : Held) (before now : List ℕ) → far ≡ network.other → Starts far.plan far ar activity other false → Comes (start_outcome network ar activity network.other.plan) held before now false
start_refused network far other ar activity held before now same starts = start_none network.other.plan network network.other other ar activity held before now (start_is network far other ar activity false same starts)

pub start_answered : (network : Network) (far other : Other) (ar activity : List ℕ) (power : Power) (before now : List ℕ) → far ≡ network.other → Starts far.plan far ar activity other true → IsRunning network.station power → now ≡ before ++ controller_shown other.controller
    → Comes (start_outcome network ar activity network.other.plan) (record { power = power; other = other }) before now true
start_answered network far other ar activity power before now same starts = start_some network.other.plan network other ar activity power before now (start_is network far other ar activity true same starts)

-- ---- an event of the controller's application

hear_is : (network : Network) (far other : Other) (event : ControllerEvent) (heard : Bool) → far ≡ network.other → Hears far.controller far event other heard → Hears network.other.controller network.other event other heard
hear_is network far other event heard same = subst (λ o. Hears o.controller o event other heard) same

hear_none : (controller : Option Controlling) (network : Network) (far other : Other) (event : ControllerEvent) (held : Held) (before now : List ℕ) → Hears controller far event other false → Comes (heard_outcome network event controller) held before now false
hear_none None network far other event held before now hears = refl
hear_none (Some controller) network far other event held before now hears = absurd (false≢true hears.0)

hear_some : (controller : Option Controlling) (network : Network) (other : Other) (event : ControllerEvent) (power : Power) (before now : List ℕ) → Hears controller network.other event other true → IsRunning network.station power → now ≡ before ++ controller_shown other.controller
    → Comes (heard_outcome network event controller) (record { power = power; other = other }) before now true
hear_some None network other event power before now hears runs text = absurd (false≢true (sym hears))
hear_some (Some controller) network other event power before now hears runs text =
    (refl, record { runs = runs; waits = hears.1; text = text ∙ ap (λ o. before ++ controller_shown o.controller) hears.1 })

pub hear_refused : (network : Network) (far other : Other) (event : ControllerEvent) (held : Held) (before now : List ℕ) → far ≡ network.other → Hears far.controller far event other false → Comes (heard_outcome network event network.other.controller) held before now false
hear_refused network far other event held before now same hears = hear_none network.other.controller network network.other other event held before now (hear_is network far other event false same hears)

pub hear_answered : (network : Network) (far other : Other) (event : ControllerEvent) (power : Power) (before now : List ℕ) → far ≡ network.other → Hears far.controller far event other true → IsRunning network.station power → now ≡ before ++ controller_shown other.controller
    → Comes (heard_outcome network event network.other.controller) (record { power = power; other = other }) before now true
hear_answered network far other event power before now same hears = hear_some network.other.controller network other event power before now (hear_is network far other event true same hears)

-- A request that is not refused is an event of the controller's application like any other.
pub record_passes : (network : Network) (event : ControllerEvent) (fits : Bool) (controller : Option Controlling) → fits ≡ true → option_map may_request controller ≡ Some true → record_outcome network event fits controller ≡ heard_outcome network event controller
record_passes network event fits None fit may = cc may
record_passes network event fits (Some controller) fit may =
    let can : may_request controller ≡ true = cc may in rw (fit, can) refl

-- ---- frames that wait are handed over

deliver_none : (controller : Option Controlling) (network : Network) (held : Held) (before now : List ℕ) → is_some controller ≡ false → Comes (deliver_outcome network controller) held before now false
deliver_none None network held before now none = refl
deliver_none (Some controller) network held before now none = absurd (false≢true (sym none))

deliver_some : (controller : Option Controlling) (network : Network) (held : Held) (before now : List ℕ) → is_some controller ≡ true → IsObeyed (deliver_answer network) held before now → Comes (deliver_outcome network controller) held before now true
deliver_some None network held before now some obeyed = absurd (false≢true some)
deliver_some (Some controller) network held before now some obeyed = (refl, obeyed)

pub deliver_refused : (network : Network) (far : Other) (held : Held) (before now : List ℕ) → far ≡ network.other → is_some far.controller ≡ false → Comes (deliver_outcome network network.other.controller) held before now false
deliver_refused network far held before now same none = deliver_none network.other.controller network held before now (subst (λ o. is_some o.controller ≡ false) same none)

pub deliver_answered : (network : Network) (far : Other) (held : Held) (before now : List ℕ) → far ≡ network.other → is_some far.controller ≡ true → IsObeyed (deliver_answer network) held before now → Comes (deliver_outcome network network.other.controller) held before now true
deliver_answered network far held before now same some obeyed = deliver_some network.other.controller network held before now (subst (λ o. is_some o.controller ≡ true) same some) obeyed

-- All frames that waited were handed over: to the device, and then to the controller.
pub delivered : (network : Network) (device : Running) (far between after : Other) (to_device to_controller : ℕ) (before middle now : List ℕ) → far ≡ network.other
    → IsHandedOver (device_run network.station (frames_for_device far.to_device)) device far between to_device
    → to_controller ≡ length between.to_controller → after ≡ arrived_at between.controller between
    → middle ≡ before ++ moved_line to_device to_controller → now ≡ middle ++ controller_shown after.controller
    → IsDone (deliver_answer network) device after before now
delivered network device far between after to_device to_controller before middle now same over count arrived line shown =
    let run = device_run network.station (frames_for_device network.other.to_device) in
    let same_run : device_run network.station (frames_for_device far.to_device) ≡ run = ap (λ o. device_run network.station (frames_for_device o.to_device)) same in
    let between_is : between ≡ handed_over network.other run = over.waits ∙ ap (λ o. handed_over o (device_run network.station (frames_for_device o.to_device))) same in
    let after_is : after ≡ arrived_at network.other.controller (handed_over network.other run) = arrived ∙ ap (λ o. arrived_at o.controller o) between_is in
    let delivered = ap (λ o. moved_line (length o.to_device) to_controller) same in
    record {
      runs = subst (λ r. IsRunning r.station (On device)) same_run over.runs;
      waits = after_is;
      text = shown ∙ ap (λ t. t ++ controller_shown after.controller) line ∙ append_assoc before _ _
          ∙ ap (λ n. before ++ (moved_line n to_controller ++ controller_shown after.controller)) over.delivered_is
          ∙ ap (λ o. before ++ (moved_line (length o.to_device) to_controller ++ controller_shown after.controller)) same
          ∙ ap (λ n. before ++ (moved_line (length network.other.to_device) n ++ controller_shown after.controller)) (count ∙ ap (λ o. length o.to_controller) between_is)
          ∙ ap (λ o. before ++ (moved_line (length network.other.to_device) (length (handed_over network.other run).to_controller) ++ controller_shown o.controller)) after_is;
    }

-- ---- units of time

pub ticks_obeyed : (network : Network) (units : ℕ) (device : Running) (far between after : Other) (before middle now : List ℕ) → far ≡ network.other
    → IsRunOf (device_run network.station (replicate units event.Tick)) device far between before middle
    → after ≡ ticked_by between.controller between units → now ≡ middle ++ note_line Done
    → IsObeyed (tick_answer network units) (record { power = On device; other = after }) before now
ticks_obeyed network units device far between after before middle now same run ticked noted =
    let frames = (device_run network.station (replicate units event.Tick)).frames in
    let between_is : between ≡ with_sent network.other frames = run.waits ∙ ap (λ o. with_sent o frames) same in
    record {
      runs = run.runs;
      waits = ticked ∙ ap (λ o. ticked_by o.controller o units) between_is;
      text = noted ∙ ap (λ t. t ++ note_line Done) run.text ∙ append_assoc before _ _ ∙ ap (λ o. before ++ (printed_for o.controller frames ++ note_line Done)) same;
    }
