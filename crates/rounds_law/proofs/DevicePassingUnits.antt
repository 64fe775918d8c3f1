-- What a unit of time does to a device.
use Rattle.std.proofs.Common.{◌≡◌, ◌+◌, ◌≤◌, ◌<◌, ◌&&◌, ◌++◌, ℕ, suc, Bool, true, false, List, [], ◌∷◌, map, Option, Some, None, refl, sym, ap, subst, ◌∙◌}
use Rattle.std.specs.List.{AllByRecursion}
use Rattle.pn_values.specs.declared.identity.Identity.{Identity}
use Rattle.settings_journal.specs.settings_store.Machine.{Outcome}
use Rattle.records.specs.declared.writes.taken.TakenRecord.{TakenRecord}
use Rattle.cyclic_data.specs.declared.status.StationState.{StationState}
use Rattle.cyclic_data.specs.Image.{Shown}
use Rattle.cyclic_data.specs.declared.exchange.route.Route.{Route}
use Rattle.pn_alarms.specs.Device.{end_later}
use Rattle.pn_alarms.specs.Ends.{DeviceEnd}
use Rattle.relations.specs.exchange.Flow.{state_of}
use Rattle.relations.specs.declared.phase.Phase.{Phase}
use Rattle.relations.specs.exchange.Frames.{Inputs}
use Rattle.relations.specs.exchange.Opening.{route_of as inputs_route}
use Rattle.relations.specs.exchange.Units.{repeated_of, tick_of}
use Rattle.relations.specs.RelationState.{RelationState}
use Rattle.relations.specs.Timers.{due_by, is_again, is_plug_again, is_timed, unit_later}
use Rattle.device_frames.specs.Heard.{Ticks}
use Rattle.device_frames.specs.Relation.{alarms_of, due_frames, inputs_of, low_alarms_of, plug_calls, ready_calls, where_due}
use Rattle.device_frames.specs.Sent.{Exchanges as device_exchanges, Sent, bytes_of}
use Rattle.device_core.specs.State.{Live, Station, counter_of, units_after}
use Rattle.device_core.specs.Handled.{Handled}
use Rattle.device_core.specs.Machine.{Stepped, handled_step, heard_step}
use Rattle.controller_messages.specs.declared.setup.Setup.{Setup}
use Rattle.both_ends.specs.startup.request.Request.{request_for}
use Rattle.rounds_law.specs.Path.{Exchanges, HasRelation, IsFree, IsInputs, hold_of}
use Rattle.rounds_law.proofs.AskedUnits.{quiet_unit, ticked_at, unit_goes, unit_link, unit_values}
use Rattle.rounds_law.proofs.DevicePassingTimers.{active_more, calm_later, held_more, limit_later, no_alarm}
use Rattle.rounds_law.proofs.DevicePassingTimers.{no_plug, not_again, stays_before, stays_later, waited_more, waits_more}

-- ---- without a relation

pub free_unit : (setup : Setup) (outcomes : List Outcome) (station : Station) (live : Live) → IsFree setup live
    → ((heard_step outcomes station live Ticks).frames ≡ []) × ((heard_step outcomes station live Ticks).live.values ≡ live.values)
    × IsFree setup (heard_step outcomes station live Ticks).live
unfolding heard_step handled_step
free_unit setup outcomes station live free =
    subst (λ (what : Handled). ((handled_step outcomes station live what).frames ≡ []) × ((handled_step outcomes station live what).live.values ≡ live.values)
    × IsFree setup (handled_step outcomes station live what).live) (sym (quiet_unit station live free.unasked))
    (subst (λ (l : Option RelationState). ((handled_step outcomes station live (ticked_at live l)).frames ≡ [])
    × ((handled_step outcomes station live (ticked_at live l)).live.values ≡ live.values)
    × IsFree setup (handled_step outcomes station live (ticked_at live l)).live) (sym free.unrelated)
    (refl, refl, record { unrelated = refl; unasked = free.unasked; uncalled = free.uncalled }))

-- ---- before data is exchanged

only_cyclic : (alarm high low ready plug cyclic : Bool) (highs lows readies plugs inputs : List Sent) → alarm ≡ false → ready ≡ false → plug ≡ false
    → where_due (alarm && high) highs
    ++ (where_due (alarm && low) lows ++ (where_due ready readies ++ (where_due plug plugs ++ where_due cyclic inputs))) ≡ where_due cyclic inputs
only_cyclic false high low false false cyclic highs lows readies plugs inputs none unready unplugged = refl
only_cyclic true high low ready plug cyclic highs lows readies plugs inputs none unready unplugged = absurd cc
only_cyclic false high low true plug cyclic highs lows readies plugs inputs none unready unplugged = absurd cc
only_cyclic false high low false true cyclic highs lows readies plugs inputs none unready unplugged = absurd cc

pub all_inputs : (serial : ℕ) (setup : Setup) (identity : Identity) (route : Route) (state : StationState) (inputs : Shown) (counter : ℕ) (due : Bool)
    → route ≡ inputs_route serial (request_for setup.plan setup.ar)
    → AllByRecursion (IsInputs setup identity) (map (bytes_of identity) (where_due due (device_exchanges route (Inputs state inputs counter) ∷ [])))
all_inputs serial setup identity route state inputs counter true same = (
  record {
    serial = serial;
    state = state;
    inputs = inputs;
    counter = counter;
    frame = ap (λ (r : Route). bytes_of identity (device_exchanges r (Inputs state inputs counter))) same;
  },
  tt,
)
all_inputs serial setup identity route state inputs counter false same = tt

pub relation_unit : (serial : ℕ) (setup : Setup) (identity : Identity) (outcomes : List Outcome) (station : Station) (live : Live)
    (phase : Phase) (taken : List TakenRecord) (last age : ℕ)
    → station.identity ≡ identity → is_timed phase ≡ true → age < 31000 → HasRelation setup serial phase taken last age live
    → AllByRecursion (IsInputs setup identity) (heard_step outcomes station live Ticks).frames
    × ((heard_step outcomes station live Ticks).live.values ≡ live.values)
    × HasRelation setup serial phase taken last (suc age) (heard_step outcomes station live Ticks).live
unfolding handled_step
relation_unit serial setup identity outcomes station live phase taken last age same timed few before =
    let link = before.link in
    let later = unit_later link in
    let counter = counter_of (units_after 1 live.rest.units) in
    let inputs = inputs_of counter (Some later.flow) in
    let address = live.values.running.suite.address in
    let only = only_cyclic (tick_of link.flow).is_alarm (repeated_of link.flow).high (repeated_of link.flow).low (is_again link) (is_plug_again link)
    (tick_of link.flow).is_cyclic (alarms_of (Some later.flow)) (low_alarms_of (Some later.flow)) (ready_calls address (Some later))
    (plug_calls address (Some later)) inputs (no_alarm link.flow before.calm) (not_again link phase age before.in_phase before.waited few)
    (no_plug link (ap is_timed before.in_phase ∙ timed)) in
    unit_goes (λ (step : Stepped). AllByRecursion (IsInputs setup identity) step.frames × (step.live.values ≡ live.values)
    × HasRelation setup serial phase taken last (suc age) step.live) outcomes station live link None before.unasked before.has
    (stays_before setup link phase age before.request before.in_phase timed before.active few) (
      subst (λ (i : Identity). AllByRecursion (IsInputs setup identity) (map (bytes_of i) (due_frames address counter (due_by link None) (Some later))))
          (sym same)
          (subst (λ (sent : List Sent). AllByRecursion (IsInputs setup identity) (map (bytes_of identity) sent)) (sym only)
          (all_inputs serial setup identity later.flow.cyclic.route (state_of later.flow) later.flow.cyclic.shown counter (tick_of link.flow).is_cyclic
          before.numbered.route)),
      refl,
      record {
        link = later;
        has = refl;
        in_phase = before.in_phase;
        request = before.request;
        partner = before.partner;
        taken_all = before.taken_all;
        active = active_more link age before.active;
        waited = waited_more link phase age before.in_phase before.waited;
        calm = record {
          high = calm_later link.flow.alarms.sender.sending before.calm.high;
          low = calm_later link.flow.low.alarms.sender.sending before.calm.low;
        };
        numbered = record { few = before.numbered.few; route = before.numbered.route; endpoint = before.numbered.endpoint };
        unbegun = before.unbegun;
        limit = limit_later link.flow.cyclic.begun link.flow.cyclic.hearing ∙ before.limit;
        low_limit = before.low_limit;
        low_new = ap (λ (e : DeviceEnd). end_later e) before.low_new;
        kept = before.kept;
        answered = before.answered;
        number = before.number;
        unasked = before.unasked;
      },
    )

-- ---- while data is exchanged

pub exchange_unit : (serial : ℕ) (setup : Setup) (outcomes : List Outcome) (station : Station) (live : Live) (age : ℕ) → age + 2 ≤ hold_of setup.plan → age < 3000
    → Exchanges setup serial age live
    → ((heard_step outcomes station live Ticks).live.values ≡ live.values) × Exchanges setup serial (suc age) (heard_step outcomes station live Ticks).live
exchange_unit serial setup outcomes station live age holds few before =
    let link = before.link in
    let stays = stays_later link age (hold_of setup.plan) before.in_phase before.limit before.held_few before.high before.low before.low_limit holds few in (
      unit_values outcomes station live,
      record {
        link = unit_later link;
        has = unit_link outcomes station live link None before.has stays;
        in_phase = before.in_phase;
        request = before.request;
        limit = limit_later link.flow.cyclic.begun link.flow.cyclic.hearing ∙ before.limit;
        numbered = record { few = before.numbered.few; route = before.numbered.route; endpoint = before.numbered.endpoint };
        held_few = held_more link.flow.cyclic.begun link.flow.cyclic.hearing age before.held_few;
        high = calm_later link.flow.alarms.sender.sending before.high;
        low = waits_more link.flow.low.alarms.sender.sending link.flow.low.alarms.sender.sending.waiting age before.low;
        low_limit = before.low_limit;
      },
    )
