-- A unit of time at a device that waits for the answer to ApplicationReady.
use Rattle.std.proofs.Common.{◌≡◌, ◌+◌, ◌*◌, ◌≤◌, ◌<◌, ◌==◌, ◌&&◌, ◌++◌, ℕ, Bool, true, false, nat_le, List, [], ◌∷◌, map, Some, None, refl, ap, ap₂}
use Rattle.std.proofs.Common.{◌∙◌, arith}
use Rattle.std.specs.Prelude.{if◌then◌else◌}
use Rattle.std.proofs.lemmas.Bool.Decides.{nat_tests}
use Rattle.pn_values.specs.declared.identity.Identity.{Identity}
use Rattle.connects.specs.requests.Request.{Request}
use Rattle.records.specs.declared.writes.taken.TakenRecord.{TakenRecord}
use Rattle.settings_journal.specs.settings_store.Machine.{Outcome}
use Rattle.pn_alarms.specs.declared.abort.Abort.TheVariants.{Activity}
use Rattle.relations.specs.exchange.Flow.{state_of}
use Rattle.relations.specs.declared.phase.Phase.{Phase}
use Rattle.relations.specs.declared.phase.Phase.TheVariants.{Awaiting}
use Rattle.relations.specs.declared.phase.Partner.{Partner}
use Rattle.relations.specs.exchange.Units.{repeated_of, tick_of}
use Rattle.relations.specs.Farewells.{farewell_of}
use Rattle.relations.specs.Ready.{ready_of}
use Rattle.relations.specs.RelationState.{RelationState, is_awaiting}
use Rattle.relations.specs.Timers.{due_by, ending_of, inactive_later, is_again, is_plug_again, is_timed, limit_of, unit_later, waited_later}
use Rattle.device_frames.specs.Heard.{Ticks}
use Rattle.device_frames.specs.Relation.{alarms_of, due_frames, inputs_of, low_alarms_of, plug_calls, ready_calls, where_due}
use Rattle.device_frames.specs.Sent.{Sent, bytes_of, farewell_frame, ready_frame}
use Rattle.device_core.specs.State.{Live, Station, counter_of, units_after}
use Rattle.device_core.specs.Machine.{Stepped, handled_step, heard_step}
use Rattle.controller_messages.specs.declared.setup.Setup.{Setup}
use Rattle.rounds_law.specs.Path.{HasRelation, IsAddressed, readied_frame}
use Rattle.rounds_law.specs.Repeating.{AsksInTime, Awaits, completes, counts_on}
use Rattle.rounds_law.proofs.DevicePassingTimers.{calm_later, no_alarm, no_plug}
use Rattle.rounds_law.proofs.AskedUnits.{unit_goes}
use Rattle.rounds_law.proofs.DevicePassingUnits.{all_inputs}

-- ---- the activity timer

not_over : (limit inactive : ℕ) → inactive + 1 < limit → nat_le limit (inactive + 1) ≡ false
not_over limit inactive h = grind (arith, nat_tests)

is_over : (limit inactive : ℕ) → limit ≤ inactive + 1 → nat_le limit (inactive + 1) ≡ true
is_over limit inactive h = grind (arith, nat_tests)

-- ---- what is sent

no_alarms : (alarm high low ready plug : Bool) (highs lows readies plugs inputs : List Sent) → alarm ≡ false → plug ≡ false
    → where_due (alarm && high) highs ++ (where_due (alarm && low) lows ++ (where_due ready readies ++ (where_due plug plugs ++ inputs)))
    ≡ where_due ready readies ++ inputs
no_alarms false high low ready false highs lows readies plugs inputs none unplugged = refl
no_alarms true high low ready plug highs lows readies plugs inputs none unplugged = absurd cc
no_alarms false high low ready true highs lows readies plugs inputs none unplugged = absurd cc

ready_first : (identity : Identity) (address octets : List ℕ) (link : RelationState) (again : Bool) (inputs : List Sent)
    → ready_frame identity address (ready_of link) ≡ octets
    → map (bytes_of identity) (where_due again (ready_calls address (Some link)) ++ inputs)
    ≡ (if again then octets ∷ [] else []) ++ map (bytes_of identity) inputs
ready_first identity address octets link true inputs is = ap (λ (frame : List ℕ). frame ∷ map (bytes_of identity) inputs) is
ready_first identity address octets link false inputs is = refl

module _ (setup : Setup) (identity : Identity) (outcomes : List Outcome) (station : Station) (live : Live) (waited inactive : ℕ)
    (serial : ℕ) (before : Awaits setup serial waited inactive live) where
  abbrev pub link : RelationState
  link = before.link

  abbrev pub later : RelationState
  later = unit_later link

  limit_is : limit_of link ≡ 1920000
  limit_is = ap (λ (r : Request). r.ar.timeout_factor * 3200) before.request

  again_is : is_again link ≡ completes waited
  again_is = ap₂ (λ (p : Phase) (n : ℕ). is_awaiting p && (n + 1 == 32000)) before.in_phase before.waits

  pub waited_is : waited_later link ≡ counts_on waited
  waited_is =
      ap₂ (λ (p : Phase) (n : ℕ). if is_awaiting p && (n + 1 == 32000) then 0 else (if is_awaiting p then n + 1 else n)) before.in_phase before.waits

  pub inactive_is : inactive_later link ≡ inactive + 1
  inactive_is = ap₂ (λ (p : Phase) (n : ℕ). if is_timed p then n + 1 else n) before.in_phase before.runs

  ready_is : IsAddressed setup live → ready_frame identity live.values.running.suite.address (ready_of later) ≡ readied_frame setup identity
  ready_is addressed =
      ap (λ suite. ready_frame identity suite.address (ready_of later)) addressed.suite
      ∙ ap₂ (λ (p : Partner) (r : Request). ready_frame identity setup.plan.station.suite.address (ready_of (record later { partner = p; request = r })))
      before.partner before.request

  pub stays : inactive + 1 < 1920000 → ending_of link ≡ None
  stays few =
      rw (ap is_timed before.in_phase) (rw (not_over (limit_of link) link.inactive (omega (arith, limit_is, before.runs, few))) refl)

  abbrev counter : ℕ
  counter = counter_of (units_after 1 live.rest.units)

  abbrev inputs : List Sent
  inputs = where_due (tick_of link.flow).is_cyclic (inputs_of counter (Some later.flow))

  frames_are : IsAddressed setup live
      → map (bytes_of identity) (due_frames live.values.running.suite.address counter (due_by link None) (Some later))
      ≡ (if completes waited then readied_frame setup identity ∷ [] else []) ++ map (bytes_of identity) inputs
  frames_are addressed =
      let address = live.values.running.suite.address in
      ap (λ (sent : List Sent). map (bytes_of identity) sent)
      (no_alarms (tick_of link.flow).is_alarm (repeated_of link.flow).high (repeated_of link.flow).low (is_again link) (is_plug_again link)
      (alarms_of (Some later.flow)) (low_alarms_of (Some later.flow)) (ready_calls address (Some later)) (plug_calls address (Some later)) inputs
      (no_alarm link.flow before.calm) (no_plug link (ap is_timed before.in_phase)))
      ∙ (ready_first identity address (readied_frame setup identity) later (is_again link) inputs (ready_is addressed)
      ∙ ap (λ (again : Bool). (if again then readied_frame setup identity ∷ [] else []) ++ map (bytes_of identity) inputs) again_is)

  pub awaiting_unit : station.identity ≡ identity → IsAddressed setup live → inactive + 1 < 1920000
      → AsksInTime setup serial identity waited inactive live (heard_step outcomes station live Ticks)
  unfolding handled_step
  awaiting_unit same addressed few =
      let address = live.values.running.suite.address in
      unit_goes (λ (step : Stepped). AsksInTime setup serial identity waited inactive live step) outcomes station live link None before.unasked before.has
      (stays few)
      (record {
        inputs = map (bytes_of identity) inputs;
        are_inputs =
            all_inputs serial setup identity later.flow.cyclic.route (state_of later.flow) later.flow.cyclic.shown counter (tick_of link.flow).is_cyclic
            before.numbered.route;
        frames =
            ap (λ (i : Identity). map (bytes_of i) (due_frames address counter (due_by link None) (Some later))) same ∙ frames_are addressed;
        values = refl;
        awaits = record {
          link = later;
          has = refl;
          in_phase = before.in_phase;
          request = before.request;
          partner = before.partner;
          calm = record {
            high = calm_later link.flow.alarms.sender.sending before.calm.high;
            low = calm_later link.flow.low.alarms.sender.sending before.calm.low;
          };
          numbered = record { few = before.numbered.few; route = before.numbered.route; endpoint = before.numbered.endpoint };
          waits = waited_is;
          runs = inactive_is;
          unasked = before.unasked;
        };
      })

  ends : 1920000 ≤ inactive + 1 → ending_of link ≡ Some Activity
  ends long =
      rw (ap is_timed before.in_phase) (rw (is_over (limit_of link) link.inactive (omega (arith, limit_is, before.runs, long))) refl)

  pub last_unit : station.identity ≡ identity → 1920000 ≤ inactive + 1
      → ((heard_step outcomes station live Ticks).frames ≡ farewell_frame identity (farewell_of Activity link) ∷ [])
      × ((heard_step outcomes station live Ticks).live.rest.link ≡ None)
  unfolding handled_step
  last_unit same long =
      unit_goes (λ (step : Stepped). (step.frames ≡ farewell_frame identity (farewell_of Activity link) ∷ []) × (step.live.rest.link ≡ None))
      outcomes station live link (Some Activity) before.unasked before.has (ends long)
      (ap (λ (i : Identity). farewell_frame i (farewell_of Activity link) ∷ []) same, refl)

-- A relation whose PrmEnd was just answered.
pub just_ended : (serial : ℕ) (setup : Setup) (taken : List TakenRecord) (last : ℕ) (live : Live) → HasRelation setup serial Awaiting taken last 0 live → Awaits setup serial 0 0 live
just_ended serial setup taken last live is = record {
  link = is.link;
  has = is.has;
  in_phase = is.in_phase;
  request = is.request;
  partner = is.partner;
  calm = is.calm;
  numbered = is.numbered;
  waits = omega (arith, is.waited);
  runs = omega (arith, is.active);
  unasked = is.unasked;
}
