-- A Set of the IP suite at a device in any state: it has the suite afterwards, or its settings are as before.
use Rattle.std.proofs.Common.{◌≡◌, ◌⊎◌, inl, inr, ◌≤◌, ◌==◌, ℕ, Bool, true, false, List, [], ◌∷◌, map, Option, Some, None, refl, sym, subst}
use Rattle.std.specs.Prelude.{if◌then◌else◌}
use Rattle.std.specs.List.{AllByRecursion}
use Rattle.pn_values.specs.declared.command.Command.TheVariants.{SetIp}
use Rattle.pn_values.specs.declared.identity.Identity.{Identity}
use Rattle.pn_values.specs.declared.mac.Mac.{Mac}
use Rattle.pn_values.specs.declared.set_item.BlockError.{BlockError}
use Rattle.pn_values.specs.declared.set_item.BlockError.TheVariants as error
use Rattle.pn_values.specs.declared.set_item.SetItem.{SetItem}
use Rattle.pn_values.specs.declared.set_item.SetItem.TheVariants.{Answer, Ask}
use Rattle.settings_journal.specs.settings_store.Machine.{Carried, Pass, accepted, answered, carried}
use Rattle.settings_journal.specs.settings_store.State.{Values}
use Rattle.dcp_core.specs.Request.{Asked}
use Rattle.dcp_core.specs.Set.{plan_of}
use Rattle.relations.specs.RelationState.{RelationState, uuid_of}
use Rattle.device_frames.specs.Sendable.{AreSendable}
use Rattle.device_frames.specs.Sent.{SetAnswer, bytes_of}
use Rattle.device_core.specs.State.{Live, Station}
use Rattle.device_core.specs.Asking.{ended_by, left_asked}
use Rattle.device_core.specs.Handled.{Sets}
use Rattle.device_core.specs.Machine.{Stepped, farewell_at, farewells_at, finished, handled_step, link_after, resets}
use Rattle.controller_messages.specs.declared.setup.Setup.{Setup}
use Rattle.controller_messages.specs.Requests.{address_asked}
use Rattle.end_laws.specs.hearing.Stations.{IsDevice, IsSetup}
use Rattle.rounds_law.specs.Anywhere.{AllLast, IsAnyDevice, IsQuestionOf}
use Rattle.rounds_law.specs.Path.{IsAddressed, IsNamed, IsSized}
use Rattle.rounds_law.specs.Start.{CanBeAddressed}
use Rattle.rounds_law.proofs.AnywhereAsked.{left_so}
use Rattle.rounds_law.proofs.AnywhereDeviceExchange.{both_fit, farewells_fit}
use Rattle.rounds_law.proofs.AnywhereDeviceFine.{GoesOn}
use Rattle.rounds_law.proofs.AnywhereDeviceSays.{IsFitting, IsSizedIfPlug, SaysLaws, all_fit, all_sized}

-- ---- the settings

-- The name, and the IP suite or the room for it.
record AreGood (setup : Setup) (values : Values) : Type 0 where
  name : values.running.name ≡ setup.plan.station.name
  sized : IsSized values.running.suite
  addressed : (values.running.suite ≡ setup.plan.station.suite) ⊎ ((values.has_failed ≡ false) × (1 ≤ values.room))

good_before : (setup : Setup) (live : Live) → IsNamed setup live → IsSized live.values.running.suite → IsAddressed setup live ⊎ CanBeAddressed live
    → AreGood setup live.values
good_before setup live named sized (inl is) = record { name = named.name; sized = sized; addressed = inl is.suite }
good_before setup live named sized (inr can) = record { name = named.name; sized = sized; addressed = inr (can.unfailed, can.room) }

-- the command is carried out, or the settings are as before
commit_good : (setup : Setup) (values : Values) → IsSized setup.plan.station.suite → AreGood setup values → (failed empty : Bool)
    → AreGood setup (if failed then answered error.Local values else (if empty then answered error.Exhausted values
    else accepted Pass values (SetIp false setup.plan.station.suite))).values
commit_good setup values sized before true empty = before
commit_good setup values sized before false true = before
commit_good setup values sized before false false = record { name = before.name; sized = sized; addressed = inl refl }

items_good : (setup : Setup) (values : Values) → IsSized setup.plan.station.suite → AreGood setup values → (items : List SetItem)
    → (items ≡ Ask (SetIp false setup.plan.station.suite) ∷ []) ⊎ (items ≡ Answer error.InOperation ∷ [])
    → AreGood setup (carried [] values items).values
items_good setup values sized before items (inl is) =
    subst (λ (l : List SetItem). AreGood setup (carried [] values l).values) (sym is)
    (commit_good setup values sized before values.has_failed (values.room == 0))
items_good setup values sized before items (inr is) = subst (λ (l : List SetItem). AreGood setup (carried [] values l).values) (sym is) before

-- ---- the Set

module _ (setup next : Setup) (identity : Identity) (silence : ℕ) (station : Station) (live : Live) (in_operation : Bool)
    (before : IsAnyDevice setup next identity silence station live) where
  abbrev request : Asked
  request = address_asked setup.plan

  abbrev mac : Mac
  mac = setup.plan.controller.mac

  abbrev step : Carried → Stepped
  step settled =
      let end = finished station.identity live.rest (Sets mac request in_operation) settled.answers in
      record {
        live = record { values = settled.values; rest = end.rest };
        sent = end.sent;
        frames = map (bytes_of station.identity) end.sent;
        note = end.note;
        accepted = settled.accepted;
      }

  link_lasts : (ends : Bool) → AllLast setup silence (link_after ends live.rest.link)
  link_lasts true = tt
  link_lasts false = before.lasts

  -- a relation that ends drops what it asked
  asked_after : (ends : Bool) (link : Option RelationState) → live.rest.link ≡ link
      → IsQuestionOf setup next (uuid_of (link_after ends live.rest.link)) (left_asked (ended_by (farewell_at ends live.rest.link)) live.rest.asked).standing
  asked_after false link has = before.asked
  asked_after true None has =
      subst (λ (l : Option RelationState). IsQuestionOf setup next None (left_asked (ended_by (farewell_at true l)) live.rest.asked).standing) (sym has)
      (subst (λ (l : Option RelationState). IsQuestionOf setup next (uuid_of l) live.rest.asked.standing) has before.asked)
  asked_after true (Some link) has =
      subst (λ (l : Option RelationState). IsQuestionOf setup next None (left_asked (ended_by (farewell_at true l)) live.rest.asked).standing) (sym has)
      (left_so setup next (Some link.request.ar.uuid) None live.rest.asked
      (subst (λ (l : Option RelationState). IsQuestionOf setup next (uuid_of l) live.rest.asked.standing) has before.asked))

  sent_fit : (answers : List BlockError) → AllByRecursion (IsFitting setup) (finished station.identity live.rest (Sets mac request in_operation) answers).sent
  sent_fit answers =
      both_fit setup (farewells_at (resets (plan_of in_operation request) answers) live.rest.link) (SetAnswer mac request answers ∷ [])
      (farewells_fit setup (farewell_at (resets (plan_of in_operation request) answers) live.rest.link)) (tt, tt)

  device_after : (settled : Carried) → AreGood setup settled.values → IsAnyDevice setup next identity silence station (step settled).live
  device_after settled good = record {
    of_device = before.of_device;
    of_plan = before.of_plan;
    named = record { name = good.name };
    sized = good.sized;
    addressed = addressed_so good.addressed;
    lasts = link_lasts (resets (plan_of in_operation request) settled.answers);
    stored = before.stored;
    stored_other = before.stored_other;
    answers = before.answers;
    uncalled_next = before.uncalled_next;
    asked = asked_after (resets (plan_of in_operation request) settled.answers) live.rest.link refl;
  }
    where
      addressed_so : (settled.values.running.suite ≡ setup.plan.station.suite) ⊎ ((settled.values.has_failed ≡ false) × (1 ≤ settled.values.room))
          → IsAddressed setup (step settled).live ⊎ CanBeAddressed (step settled).live
      addressed_so (inl is) = inl (record { suite = is })
      addressed_so (inr can) = inr (record { unfailed = can.0; room = can.1 })

  pub set_sized : AllByRecursion IsSizedIfPlug
      (handled_step [] station live (Sets setup.plan.controller.mac (address_asked setup.plan) in_operation)).sent
  unfolding handled_step
  set_sized =
      let answers = (carried [] live.values (plan_of in_operation request)).answers in
      all_sized setup (finished station.identity live.rest (Sets mac request in_operation) answers).sent (sent_fit answers)

  pub set_after : SaysLaws → IsSetup setup → IsDevice station.identity
      → (plan_of in_operation (address_asked setup.plan) ≡ Ask (SetIp false setup.plan.station.suite) ∷ [])
      ⊎ (plan_of in_operation (address_asked setup.plan) ≡ Answer error.InOperation ∷ [])
      → AreSendable station.identity (handled_step [] station live (Sets setup.plan.controller.mac (address_asked setup.plan) in_operation)).sent
      → GoesOn setup next identity silence station (handled_step [] station live (Sets setup.plan.controller.mac (address_asked setup.plan) in_operation)).live
      (handled_step [] station live (Sets setup.plan.controller.mac (address_asked setup.plan) in_operation)).frames
  unfolding handled_step
  set_after laws good device items can =
      let settled = carried [] live.values (plan_of in_operation request) in
      let sized : IsSized setup.plan.station.suite = record { address = good.station; mask = good.mask; gateway = good.gateway } in (
        device_after settled
            (items_good setup live.values sized (good_before setup live before.named before.sized before.addressed) (plan_of in_operation request) items),
        all_fit laws setup station.identity good device (finished station.identity live.rest (Sets mac request in_operation) settled.answers).sent
            (sent_fit settled.answers) can,
      )
