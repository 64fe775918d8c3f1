-- What a unit does at a device with any relation: its settings stay, and what it sends is ignored by a controller that has no relation yet.
use Rattle.std.proofs.Common.{◌≡◌, ◌⊎◌, inl, inr, ◌++◌, ℕ, Bool, true, false, List, [], ◌∷◌, map, Option, Some, None, refl, sym, ap, subst, ◌∙◌, arith}
use Rattle.std.specs.Prelude.{option_map}
use Rattle.std.specs.List.{AllByRecursion}
use Rattle.flash_model.specs.declared.flash.Flash.{Ghosts as Flash}
use Rattle.pn_values.specs.declared.identity.Identity.{Identity}
use Rattle.settings_journal.specs.settings_store.Machine.{Outcome}
use Rattle.pn_alarms.specs.declared.abort.Abort.{Abort}
use Rattle.pn_alarms.specs.declared.pdu.PduType.TheVariants.{Data}
use Rattle.record_blocks.specs.declared.alarm_notification.AlarmNotification.{AlarmNotification}
use Rattle.expected_places.specs.declared.calls.PlugCall.{PlugCall}
use Rattle.relations.specs.exchange.Flow.{Flow}
use Rattle.relations.specs.exchange.Diagnosis.{low_header_of}
use Rattle.relations.specs.exchange.Frames.{Notifies, Reports}
use Rattle.relations.specs.exchange.Notices.{header_of}
use Rattle.relations.specs.Plugging.{ready_for}
use Rattle.relations.specs.Ready.{ready_of}
use Rattle.relations.specs.RelationState.{RelationState, uuid_of}
use Rattle.rpc_core.specs.Cache.{Kept}
use Rattle.relations.specs.Timers.{due_by, ending_of, is_timed, unit_later}
use Rattle.device_frames.specs.Heard.{Ticks}
use Rattle.device_frames.specs.Relation.{alarms_of, due_frames, frames_in, inputs_of, low_alarms_of, plug_call_in, plug_calls, ready_calls, where_due}
use Rattle.device_frames.specs.Sendable.{AreSendable}
use Rattle.device_frames.specs.Sent.{Sent, bytes_of}
use Rattle.device_core.specs.State.{Live, State, Station, counter_of, units_after}
use Rattle.device_core.specs.Machine.{Stepped, handled_step, heard_step}
use Rattle.controller_messages.specs.declared.setup.Setup.{Setup}
use Rattle.end_laws.specs.device.Orderly.{IsNumberedCall}
use Rattle.end_laws.specs.hearing.Stations.{IsDevice}
use Rattle.rounds_law.specs.Anywhere.{AllLast, IsQuestionOf, Lasts}
use Rattle.rounds_law.specs.Path.{IsIgnored}
use Rattle.rounds_law.specs.Rounds.{Goes}
use Rattle.rounds_law.proofs.AgainUnits.{no_relation_unit}
use Rattle.rounds_law.proofs.AskedUnits.{IsLate, late_at, late_of, unit_link, unit_sends, unit_values}
use Rattle.rounds_law.proofs.AnywhereAsked.{ends_quiet, others_of, unrelated_asked}
use Rattle.rounds_law.proofs.AnywhereBesideEarly.{IsFarewell, IsIgnoredEarly, IsOfUnit, UnitLaws, farewells_ignored, messages_early}
use Rattle.rounds_law.proofs.AnywhereDeviceSays.{IsSizedReady}
use Rattle.rounds_law.proofs.AnywhereParted.{there_or_not}
use Rattle.rounds_law.proofs.AnywherePlugs.{later_numbered}

-- ---- what is sent

module _ (laws : UnitLaws) (setup : Setup) (identity : Identity) where
  abbrev IsSaid : Sent → Type 0
  IsSaid message = IsOfUnit laws setup identity message

  all_both : (one other : List Sent) → AllByRecursion IsSaid one → AllByRecursion IsSaid other → AllByRecursion IsSaid (one ++ other)
  all_both [] other ones others = others
  all_both (x ∷ one) other ones others = (ones.0, all_both one other ones.1 others)

  all_due : (is_due : Bool) (sent : List Sent) → AllByRecursion IsSaid sent → AllByRecursion IsSaid (where_due is_due sent)
  all_due true sent all = all
  all_due false sent all = tt

  alarm_said : (flow : Flow) (standing : Option AlarmNotification)
      → AllByRecursion IsSaid (frames_in flow.cyclic.route (option_map (Notifies (header_of flow Data)) standing))
  alarm_said flow None = tt
  alarm_said flow (Some alarm) = (tt, tt)

  low_said : (flow : Flow) (standing : Option AlarmNotification)
      → AllByRecursion IsSaid (frames_in flow.cyclic.route (option_map (Reports flow.low.tag (low_header_of flow Data)) standing))
  low_said flow None = tt
  low_said flow (Some alarm) = (tt, tt)

  calls_said : (address : List ℕ) (before : Setup) (silence : ℕ) (link : RelationState) → Lasts before silence link → (standing : Option PlugCall) → IsNumberedCall standing
      → AllByRecursion IsSaid (plug_call_in address (option_map (ready_for link) standing))
  calls_said address before silence link lasts None few = tt
  calls_said address before silence link lasts (Some call) few = (
    record {
      header = record { object = lasts.object; interface = refl; activity = lasts.named; sequence = few; operation = omega arith };
      interface = refl;
      uuid = lasts.named;
    },
    tt,
  )

  -- What it sends, and what stays. If the relation is over, its ERR is all that is sent.
  record Passes (live : Live) (step : Stepped) : Type 0 where
    said : AllByRecursion IsSaid step.sent
    values : step.live.values ≡ live.values
    over : step.live.rest.link ≡ None → AllByRecursion (IsFarewell laws setup identity) step.sent

  module _ (before : Setup) (silence : ℕ) (outcomes : List Outcome) (station : Station) (live : Live) (link : RelationState) (lasts : Lasts before silence link)
      (has : live.rest.link ≡ Some link) (asked : IsQuestionOf before setup (uuid_of live.rest.link) live.rest.asked.standing) where
    late_said : (sent : List Sent) (stored : List Kept)
        → IsLate station.identity live.values.running.suite.address live.rest.asked.standing live.rest.calls sent stored → AllByRecursion IsSaid sent
    late_said sent stored (inl (none, same)) = subst (AllByRecursion IsSaid) (sym none) tt
    late_said sent stored (inr (one, is_asked, is, kept)) =
        subst (AllByRecursion IsSaid) (sym is)
        ((others_of before setup (uuid_of live.rest.link) live.rest.asked.standing one is_asked asked).0, tt)

    due_said : AllByRecursion IsSaid (due_frames live.values.running.suite.address (counter_of (units_after 1 live.rest.units)) (due_by link None)
        (Some (unit_later link)))
    due_said =
        let later = unit_later link in
        let called = later_numbered (is_timed link.phase) link.plugs lasts.called in
        let due = due_by link None in
        let address = live.values.running.suite.address in
        let counter = counter_of (units_after 1 live.rest.units) in
        let sized : IsSizedReady (ready_of later) = record {
          header = record { object = lasts.object; interface = refl; activity = lasts.named; sequence = omega arith; operation = omega arith };
          interface = refl;
          uuid = lasts.named;
        } in
        all_both (where_due due.is_alarm (alarms_of (Some later.flow))) _
        (all_due due.is_alarm _ (alarm_said later.flow later.flow.alarms.sender.standing))
        (all_both (where_due due.is_low (low_alarms_of (Some later.flow))) _
        (all_due due.is_low _ (low_said later.flow later.flow.low.alarms.sender.standing))
        (all_both (where_due due.is_ready (ready_calls address (Some later))) _ (all_due due.is_ready _ (sized, tt))
        (all_both (where_due due.is_plug_ready (plug_calls address (Some later))) _
        (all_due due.is_plug_ready _ (calls_said address before silence link lasts later.plugs.calls.standing called.1))
        (all_due due.is_cyclic (inputs_of counter (Some later.flow)) (lasts.inputs, tt)))))

    passes_by : (ending : Option Abort) → ending_of link ≡ ending → Passes live (heard_step outcomes station live Ticks)
    passes_by (Some reason) is =
        let address = live.values.running.suite.address in
        let counter = counter_of (units_after 1 live.rest.units) in
        let sends = unit_sends outcomes station live link (Some reason) has is
        ∙ ap (λ (late : List Sent). due_frames address counter (due_by link (Some reason)) None ++ late)
        (ends_quiet before setup station live link reason has is asked) in
        record {
          said = subst (AllByRecursion IsSaid) (sym sends) (tt, tt);
          values = unit_values outcomes station live;
          over = λ none. subst (AllByRecursion (IsFarewell laws setup identity)) (sym sends) (tt, tt);
        }
    passes_by None is =
        record {
          said = subst (AllByRecursion IsSaid) (sym (unit_sends outcomes station live link None has is))
              (all_both _ (late_at station live) due_said (late_said (late_at station live) _ (late_of station live)));
          values = unit_values outcomes station live;
          over = λ none. absurd (still (sym none ∙ unit_link outcomes station live link None has is));
        }
      where
        still : None ≡ Some (unit_later link) → ⊥
        still bad = absurd cc

    passes : Passes live (heard_step outcomes station live Ticks)
    passes = passes_by (ending_of link) refl

  -- ---- the unit of a device

  -- After a unit: what was sent, and what stays.
  pub record UnitPassed {F : Type 0} (before : State F) (frames : List (List ℕ)) (after : State F) : Type 0 where
    pub early : AllByRecursion (IsIgnoredEarly setup) frames
    pub over : after.live.rest.link ≡ None → AllByRecursion (IsIgnored setup) frames
    pub of_station : after.station ≡ before.station
    pub values : after.live.values ≡ before.live.values

  frames_are : (outcomes : List Outcome) (station : Station) (live : Live)
      → (heard_step outcomes station live Ticks).frames ≡ map (bytes_of station.identity) (heard_step outcomes station live Ticks).sent
  unfolding heard_step handled_step
  frames_are outcomes station live = refl

  module _ {F : Type 0} {S : ℕ} (as_flash : Flash F S) (real : IsDevice identity) (earlier : Setup) where
    related : (silence : ℕ) (before : State F) (frames : List (List ℕ)) (after : State F) → Goes as_flash before Ticks frames after
        → before.station.identity ≡ identity → (link : RelationState) → before.live.rest.link ≡ Some link → Lasts earlier silence link
        → IsQuestionOf earlier setup (uuid_of before.live.rest.link) before.live.rest.asked.standing
        → UnitPassed before frames after
    related silence before frames after goes own link has lasts asked =
        let step = heard_step goes.steps.outcomes before.station before.live Ticks in
        let pass = passes earlier silence goes.steps.outcomes before.station before.live link lasts has asked in
        let can = subst (λ (i : Identity). AreSendable i step.sent) own goes.steps.sendable in
        let are : frames ≡ map (bytes_of identity) step.sent =
        goes.steps.frames ∙ (frames_are goes.steps.outcomes before.station before.live ∙ ap (λ (i : Identity). map (bytes_of i) step.sent) own) in
        record {
          early = subst (AllByRecursion (IsIgnoredEarly setup)) (sym are) (messages_early laws setup identity step.sent real pass.said can);
          over = λ none. subst (AllByRecursion (IsIgnored setup)) (sym are)
              (farewells_ignored laws setup identity step.sent (pass.over (ap (λ (l : Live). l.rest.link) (sym goes.steps.live) ∙ none)) can);
          of_station = goes.steps.same;
          values = ap (λ (l : Live). l.values) goes.steps.live ∙ pass.values;
        }

    unrelated : (before : State F) (frames : List (List ℕ)) (after : State F) → Goes as_flash before Ticks frames after
        → before.live.rest.link ≡ None → IsQuestionOf earlier setup (uuid_of before.live.rest.link) before.live.rest.asked.standing
        → UnitPassed before frames after
    unrelated before frames after goes none asked =
        let law = no_relation_unit goes.steps.outcomes before.station before.live none
        (unrelated_asked earlier setup before.live.rest.link before.live.rest.asked.standing none asked) in
        let nothing : frames ≡ [] = goes.steps.frames ∙ law.0 in
        record {
          early = subst (AllByRecursion (IsIgnoredEarly setup)) (sym nothing) tt;
          over = λ none. subst (AllByRecursion (IsIgnored setup)) (sym nothing) tt;
          of_station = goes.steps.same;
          values = ap (λ (l : Live). l.values) goes.steps.live ∙ law.1;
        }

    -- A unit at a device with any relation, or none.
    pub unit_passed : (silence : ℕ) (before : State F) (frames : List (List ℕ)) (after : State F) → Goes as_flash before Ticks frames after
        → before.station.identity ≡ identity → AllLast earlier silence before.live.rest.link
        → IsQuestionOf earlier setup (uuid_of before.live.rest.link) before.live.rest.asked.standing → UnitPassed before frames after
    unit_passed silence before frames after goes own lasts asked = by_link (there_or_not before.live.rest.link)
      where
        by_link : (before.live.rest.link ≡ None) ⊎ ((state : RelationState) × (before.live.rest.link ≡ Some state)) → UnitPassed before frames after
        by_link (inl none) = unrelated before frames after goes none asked
        by_link (inr is) = related silence before frames after goes own is.0 is.1 (subst (AllLast earlier silence) is.1 lasts) asked
