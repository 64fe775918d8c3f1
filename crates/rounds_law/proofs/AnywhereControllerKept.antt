-- What holds of a controller in any state: its state, its timers and the sizes of what it stores.
use Rattle.std.proofs.Common.{◌≡◌, inl, inr, ◌≤◌, ◌<◌, ◌+◌, ◌==◌, ℕ, Bool, true, false, Option, Some, None, if◌then◌else◌, refl, sym, subst, ◌∙◌, arith}
use Rattle.std.proofs.lemmas.Bool.{eqb-false, eqb-true}
use Rattle.std.proofs.lemmas.Option.{none-some, same_Some}
use Rattle.pn_values.specs.declared.mac.Mac.{Mac}
use Rattle.frame_codec.specs.Sendable.{IsMac}
use Rattle.record_blocks.specs.declared.alarm_ack.AlarmAck.{AlarmAck}
use Rattle.record_blocks.specs.declared.alarm_notification.AlarmNotification.{AlarmNotification}
use Rattle.pn_alarms.specs.declared.receiver.Taken.{Taken}
use Rattle.pn_alarms.specs.declared.receiver.Taken.TheVariants.{New, Again, Refused}
use Rattle.pn_alarms.specs.Controller.{confirmed, with_ack, with_data}
use Rattle.pn_alarms.specs.Ends.{ControllerEnd}
use Rattle.pn_alarms.specs.Numbers.{is_last, next_number}
use Rattle.pn_alarms.specs.Sending.{Sending}
use Rattle.diagnosis.specs.declared.reports.priority.Priority.{Priority}
use Rattle.diagnosis.specs.declared.reports.priority.Priority.TheVariants.{High, Low}
use Rattle.diagnosis.specs.declared.reports.report.Report.{Report}
use Rattle.cyclic_data.specs.declared.exchange.route.Route.{Route}
use Rattle.cyclic_data.specs.exchange.Cyclic.{Cyclic}
use Rattle.cyclic_data.specs.exchange.Units.{cyclic_later}
use Rattle.plans.specs.declared.parts.Parts.{Parts}
use Rattle.controller_messages.specs.declared.request.Request.{Request}
use Rattle.controller_messages.specs.declared.request.Request.TheVariants as asks
use Rattle.controller_messages.specs.declared.setup.Setup.{Setup}
use Rattle.controller_core.specs.declared.stored.state.Cause.{Cause}
use Rattle.controller_core.specs.declared.stored.state.State.{State}
use Rattle.controller_core.specs.declared.stored.state.State.TheVariants.{Looking, Addressing, Connecting, Writing, Ending, Waiting, Exchanging, Ended}
use Rattle.controller_core.specs.stored.Alarms.{ack_of, kept_alarm}
use Rattle.controller_core.specs.stored.State.{Live, phase_for}
use Rattle.controller_core.specs.Machine.{acking, behind_ack, behind_data, confirming, end_of, exchange_later, first, flow_later, is_again}
use Rattle.controller_core.specs.Machine.{keeping, later, over, released, taken, with_end}
use Rattle.controller_core.specs.start_up.Requests.{end_after, write_after}
use Rattle.end_laws.specs.sending.Sized.{AreFew, IsShort}
use Rattle.end_laws.specs.controller.Small.{IsInStep}
use Rattle.rounds_law.proofs.AnywhereControllerSizes.{next_short, sequence_few}
use Rattle.rounds_law.specs.Path.{hold_of}
use Rattle.rounds_law.proofs.ControllerPassingParts.{limit_later}

-- ---- what holds

-- In these states its relation is established.
abbrev pub stands_in : State → Bool
stands_in Looking = false
stands_in Addressing = false
stands_in Connecting = false
stands_in Writing = true
stands_in Ending = true
stands_in Waiting = true
stands_in Exchanging = true
stands_in (Ended cause) = false

-- While it exchanges data, its data hold time runs.
abbrev pub Runs : State → Bool → Type 0
Runs Exchanging begun = begun ≡ true
Runs phase begun = Unit {0}

-- The numbers of the alarms of a priority have two octets.
abbrev pub IsShortEnd : ControllerEnd → Type 0
IsShortEnd end = IsShort end.sending.last × IsShort end.seen

-- The route and the data hold time of the plan: each has its size, except the numbers that the device chooses.
pub record OfPlanBy (setup : Setup) (route : Route) (limit data_length : ℕ) : Type 0 where
  pub limit_is : limit ≡ hold_of setup.plan
  pub partner : IsMac route.partner
  pub tag : route.sent_tag < 65536
  pub alarm_tag : route.alarm_tag < 65536
  pub few : data_length ≤ 1440

-- The same, of cyclic data.
abbrev pub IsOfPlan : Setup → Cyclic → Type 0
IsOfPlan setup cyclic = OfPlanBy setup cyclic.route cyclic.hearing.limit cyclic.shown.data_length

-- What holds of these parts of a state, in any state that events lead to.
pub record KeptBy (setup : Setup) (phase : State) (station : Mac) (request : Option Request) (units : ℕ) (is_up begun : Bool)
    (route : Route) (limit data_length : ℕ) (one other : ControllerEnd) : Type 0 where
  pub device : IsMac station
  pub asked : AreFew request
  pub waited : units < 32000
  pub stands : is_up ≡ stands_in phase
  pub runs : Runs phase begun
  pub cyclic : OfPlanBy setup route limit data_length
  pub high : IsShortEnd one
  pub low : IsShortEnd other

-- The same, with this cyclic data.
abbrev pub KeptWith : Setup → State → Mac → Option Request → ℕ → Bool → Cyclic → ControllerEnd → ControllerEnd → Type 0
KeptWith setup phase station request units is_up exchange one other =
    KeptBy setup phase station request units is_up exchange.begun exchange.route exchange.hearing.limit exchange.shown.data_length one other

-- What holds of the state of a controller.
abbrev pub IsKept : Setup → Live → Type 0
IsKept setup live = KeptWith setup live.phase live.device live.asked live.waited live.stands live.cyclic live.alarms live.low_alarms

-- ---- requests

pub stands_for : (request : Request) → true ≡ stands_in (phase_for request)
stands_for (asks.Write number) = refl
stands_for (asks.WriteAfter number tries) = refl
stands_for request = refl

pub runs_for : (request : Request) (begun : Bool) → Runs (phase_for request) begun
runs_for (asks.Write number) begun = tt
runs_for (asks.WriteAfter number tries) begun = tt
runs_for request begun = tt

-- The state of a request that waits.
abbrev pub PhaseOf : Request → State → Type 0
PhaseOf asks.Identify phase = phase ≡ Looking
PhaseOf asks.Address phase = phase ≡ Addressing
PhaseOf asks.Connect phase = phase ≡ Connecting
PhaseOf (asks.Write number) phase = phase ≡ Writing
PhaseOf asks.PrmEnd phase = phase ≡ Ending
PhaseOf (asks.Release sequence) phase = Unit {0}
PhaseOf (asks.WriteAfter number tries) phase = phase ≡ Writing
PhaseOf (asks.PrmEndAfter tries) phase = phase ≡ Ending

-- That of a Write, and of PrmEnd.
write_in : (number : ℕ) (tries : Option ℕ) → PhaseOf (write_after number tries) Writing
write_in number None = refl
write_in number (Some tries) = refl

end_in : (tries : Option ℕ) → PhaseOf (end_after tries) Ending
end_in None = refl
end_in (Some tries) = refl

pub written_in : (number : ℕ) (tries : Option ℕ) (phase : State) → PhaseOf (write_after number tries) phase → phase ≡ Writing
written_in number None phase is = is
written_in number (Some tries) phase is = is

pub ended_in : (tries : Option ℕ) (phase : State) → PhaseOf (end_after tries) phase → phase ≡ Ending
ended_in None phase is = is
ended_in (Some tries) phase is = is

pub asked_in : (plan : Parts) (phase : State) (asked : Option Request) (request : Request) → IsInStep plan phase asked → asked ≡ Some request
    → PhaseOf request phase
asked_in plan Looking asked request is e = subst (λ (r : Request). PhaseOf r Looking) (same_Some asks.Identify request (sym is ∙ e)) refl
asked_in plan Addressing asked request is e = subst (λ (r : Request). PhaseOf r Addressing) (same_Some asks.Address request (sym is ∙ e)) refl
asked_in plan Connecting asked request is e = subst (λ (r : Request). PhaseOf r Connecting) (same_Some asks.Connect request (sym is ∙ e)) refl
asked_in plan Writing asked request is e = subst (λ (r : Request). PhaseOf r Writing) (same_Some (write_after is.0 is.1) request (sym is.3 ∙ e)) (write_in is.0 is.1)
asked_in plan Ending asked request is e = subst (λ (r : Request). PhaseOf r Ending) (same_Some (end_after is.0) request (sym is.1 ∙ e)) (end_in is.0)
asked_in plan Waiting asked request is e = absurd (none-some request (sym is ∙ e))
asked_in plan Exchanging asked request is e = absurd (none-some request (sym is ∙ e))
asked_in plan (Ended cause) asked request (inl is) e = absurd (none-some request (sym is ∙ e))
asked_in plan (Ended cause) asked request (inr is) e =
    subst (λ (r : Request). PhaseOf r (Ended cause)) (same_Some (asks.Release is.0) request (sym is.1 ∙ e)) tt

-- ---- alarms

with_end_kept : (setup : Setup) (live : Live) (priority : Priority) (end : ControllerEnd) → IsKept setup live → IsShortEnd end
    → IsKept setup (with_end live priority end)
with_end_kept setup live High end is short = record {
  device = is.device;
  asked = is.asked;
  waited = is.waited;
  stands = is.stands;
  runs = is.runs;
  cyclic = is.cyclic;
  high = short;
  low = is.low;
}
with_end_kept setup live Low end is short = record {
  device = is.device;
  asked = is.asked;
  waited = is.waited;
  stands = is.stands;
  runs = is.runs;
  cyclic = is.cyclic;
  high = is.high;
  low = short;
}

pub end_kept : (setup : Setup) (live : Live) (priority : Priority) → IsKept setup live → IsShortEnd (end_of live priority)
end_kept setup live High is = is.high
end_kept setup live Low is = is.low

seen_if : (number : ℕ) (seen : Option ℕ) (b : Bool) → (number == next_number seen) ≡ b → IsShort seen → IsShort (if b then Some number else seen)
seen_if number seen true same short = subst (λ (n : ℕ). n < 65536) (sym (eqb-true number (next_number seen) same)) (next_short seen short)
seen_if number seen false other short = short

pub data_kept : (setup : Setup) (live : Live) (priority : Priority) (number : ℕ) → IsKept setup live → IsKept setup (behind_data live priority number)
data_kept setup live priority number is =
    let short = end_kept setup live priority is in
    let seen = (end_of live priority).seen in
    with_end_kept setup live priority (with_data (end_of live priority) number) is (short.0, seen_if number seen (number == next_number seen) refl short.1)

acking_kept : (setup : Setup) (live : Live) (priority : Priority) (ack : AlarmAck) → IsKept setup live → IsKept setup (acking live priority ack)
acking_kept setup live priority ack is =
    let short = end_kept setup live priority is in
    with_end_kept setup live priority (confirmed (end_of live priority) ack) is (next_short (end_of live priority).sending.last short.0, short.1)

keeping_kept : (setup : Setup) (live : Live) (priority : Priority) (alarm : AlarmNotification) (structure : Option ℕ) → IsKept setup live
    → IsKept setup (keeping live priority alarm structure)
keeping_kept setup live High alarm structure is = is
keeping_kept setup live Low alarm structure is = is

pub confirming_kept : (setup : Setup) (live : Live) (report : Report) → IsKept setup live → IsKept setup (confirming live report)
confirming_kept setup live report is =
    keeping_kept setup (acking live report.priority (ack_of report.notification)) report.priority (kept_alarm report.notification) report.user_structure
    (acking_kept setup live report.priority (ack_of report.notification) is)

pub taken_kept : (setup : Setup) (live : Live) (report : Report) (as_what : Taken) → IsKept setup live → IsKept setup (taken live report as_what).live
taken_kept setup live report New is = confirming_kept setup live report is
taken_kept setup live report Again is = is
taken_kept setup live report Refused is = is

last_if : (is_it : Bool) (one other : Sending) → IsShort one.last → IsShort other.last → IsShort (if is_it then one else other).last
last_if true one other first second = first
last_if false one other first second = second

pub acked_kept : (setup : Setup) (live : Live) (priority : Priority) (number : ℕ) → IsKept setup live → IsKept setup (behind_ack live priority number)
acked_kept setup live priority number is =
    let short = end_kept setup live priority is in
    let sending = (end_of live priority).sending in
    with_end_kept setup live priority (with_ack (end_of live priority) number) is
    (last_if (is_last sending.last number) _ sending short.0 short.0, short.1)

-- ---- ends and units

pub over_kept : (setup : Setup) (cause : Cause) (live : Live) → IsKept setup live → IsKept setup (over cause live)
over_kept setup cause live is = record {
  device = is.device;
  asked = tt;
  waited = omega arith;
  stands = refl;
  runs = tt;
  cyclic = is.cyclic;
  high = is.high;
  low = is.low;
}

pub released_kept : (setup : Setup) (cause : Cause) (live : Live) → IsKept setup live → IsKept setup (released setup cause live).live
released_kept setup cause live is = record {
  device = is.device;
  asked = sequence_few setup.plan live.access.calls live.asked is.asked;
  waited = omega arith;
  stands = refl;
  runs = tt;
  cyclic = is.cyclic;
  high = is.high;
  low = is.low;
}

waited_on : (waited : ℕ) (is_again : Bool) → (waited + 1 == 32000) ≡ is_again → waited < 32000 → (if is_again then 0 else waited + 1) < 32000
waited_on waited true same few = omega arith
waited_on waited false other few = omega (arith, few, eqb-false (waited + 1) 32000 other)

later_of_plan : (setup : Setup) (cyclic : Cyclic) → IsOfPlan setup cyclic → IsOfPlan setup (cyclic_later cyclic)
later_of_plan setup cyclic is = record {
  limit_is = limit_later cyclic.begun cyclic.hearing ∙ is.limit_is;
  partner = is.partner;
  tag = is.tag;
  alarm_tag = is.alarm_tag;
  few = is.few;
}

pub later_kept : (setup : Setup) (live : Live) → IsKept setup live → IsKept setup (later live)
later_kept setup live is = record {
  device = is.device;
  asked = is.asked;
  waited = waited_on live.waited (is_again live) refl is.waited;
  stands = is.stands;
  runs = is.runs;
  cyclic = is.cyclic;
  high = is.high;
  low = is.low;
}

-- The exchange passes a unit.
pub exchange_kept : (setup : Setup) (live : Live) → IsKept setup live → IsKept setup (exchange_later live)
exchange_kept setup live is = record {
  device = is.device;
  asked = is.asked;
  waited = is.waited;
  stands = is.stands;
  runs = is.runs;
  cyclic = later_of_plan setup live.cyclic is.cyclic;
  high = is.high;
  low = is.low;
}

pub flow_kept : (setup : Setup) (live : Live) → IsKept setup live → IsKept setup (flow_later live)
flow_kept setup live is = record {
  device = is.device;
  asked = is.asked;
  waited = waited_on live.waited (is_again live) refl is.waited;
  stands = is.stands;
  runs = is.runs;
  cyclic = later_of_plan setup live.cyclic is.cyclic;
  high = is.high;
  low = is.low;
}
