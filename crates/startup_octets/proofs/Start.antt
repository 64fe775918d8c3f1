-- The law of a start-up in octets, from the start of a set-up and a device that can meet.
use Rattle.std.proofs.Common.{◌≡◌, ◌⊎◌, inl, inr, ℕ, zero, suc, false, List, [], ◌∷◌, ◌++◌, length, drop, map, Option, Some, None, Ok, refl, sym, ap, subst, ◌∙◌}
use Rattle.std.proofs.lemmas.List.{append-nil}
use Rattle.std.specs.Prelude.{slice_get, unwrap_or}
use Rattle.flash_model.specs.declared.flash.Flash.{Ghosts as Flash}
use Rattle.pn_values.specs.declared.identity.Identity.{Identity}
use Rattle.rpc_core.specs.Cache.{kept_of}
use Rattle.connects.specs.requests.Handled.{request_of}
use Rattle.plans.specs.Connect.{connect_of}
use Rattle.plans.specs.declared.parts.PlanRecord.{PlanRecord}
use Rattle.device_frames.specs.Heard.{Heard}
use Rattle.device_core.specs.State.{Station}
use Rattle.controller_messages.specs.declared.setup.Setup.{Setup}
use Rattle.controller_core.specs.declared.stored.event.Event.{Event}
use Rattle.controller_core.specs.Machine.{first as first_live, step_of}
use Rattle.network_world.specs.declared.moves.End.TheVariants.{Device, Controller}
use Rattle.network_world.specs.declared.moves.Move.{Move}
use Rattle.network_world.specs.declared.moves.Move.TheVariants as move
use Rattle.network_world.specs.World.{AreMade, at_controller, AtDevice, Happens, World}
use Rattle.end_laws.specs.hearing.Stations.{IsDevice, IsSetup}
use Rattle.end_laws.specs.both.Small as small
use Rattle.end_laws.specs.both.StartUp.{Begins as BeginsSmall}
use Rattle.end_laws.specs.both.Steps.{records_of}
use Rattle.both_ends.specs.startup.request.Request.{request_for}
use Rattle.both_ends.specs.startup.Played.{ArePlaced, AreUnnamed, Begins, CanMeet}
use Rattle.both_ends.specs.startup.View.{AreThePlans, is_planned, rules_of, taken_for, view_of}
use Rattle.both_ends.proofs.StartupKnown.{CanStart, first_in_step, holds_first, starts_small}
use Rattle.both_ends.proofs.StartupPlanned.{count_few}
use Rattle.both_ends.proofs.StartupRuns.{delivered, rules_at}
use Rattle.startup_octets.specs.StartUp.{AreDelivered, AreStartUps, IsIn}
use Rattle.startup_octets.specs.Played.{came_by, records_for, seen_of, turns_of}
use Rattle.startup_octets.proofs.Along.{AreGood, Laws, PointAt, along, good_start_ups}
use Rattle.startup_octets.proofs.Exact.{written_of}
use Rattle.startup_octets.proofs.PlugEnds.{idle_no_end}
use Rattle.startup_octets.proofs.Points.{dropped, each_so}
use Rattle.startup_octets.proofs.DeviceTurn.{IsEarly}

-- ---- frames come only if they were sent

in_slice : (sent : List (List ℕ)) (number : ℕ) (frame : List ℕ) → slice_get sent number ≡ Some frame → IsIn frame sent
in_slice [] number frame there = absurd cc
in_slice (one ∷ sent) zero frame there = inl (let e : one ≡ frame = cc in sym e)
in_slice (one ∷ sent) (suc number) frame there = inr (in_slice sent number frame there)

came_sent : (sent : List (List ℕ)) (found : Option (List ℕ)) → ((frame : List ℕ) → found ≡ Some frame → IsIn frame sent) → (unwrap_or found [] ≡ []) ⊎ IsIn (unwrap_or found []) sent
came_sent sent None so = inl refl
came_sent sent (Some frame) so = inr (so frame refl)

came_by_sent : (sent : List (List ℕ)) (one : Move) → (came_by sent one ≡ []) ⊎ IsIn (came_by sent one) sent
came_by_sent sent (move.Deliver end number) = came_sent sent (slice_get sent number) (in_slice sent number)
came_by_sent sent one = inl refl

module _ {F : Type 0} {S : ℕ} (as_flash : Flash F S) where
  -- What is sent follows what was sent before.
  abbrev pub IsMore : World F → World F → Type 0
  IsMore before after = (frames : List (List ℕ)) × (after.sent ≡ before.sent ++ frames)

  same_more : (before after : World F) → after ≡ before → IsMore before after
  same_more before after same = ([], ap (λ (w : World F). w.sent) same ∙ sym (append-nil before.sent))

  device_more : (before after : World F) (heard : Heard) → AtDevice as_flash before heard after → IsMore before after
  device_more before after heard made = (made.hears.frames, made.hears.behind)

  controller_more : (before after : World F) (event : Event) → after ≡ at_controller before event → IsMore before after
  controller_more before after event made = ((step_of before.controller event).frames, ap (λ (w : World F). w.sent) made)

  pub more : (before after : World F) (one : Move) → Happens as_flash before one after → IsMore before after
  more before after (move.Deliver Device number) happens =
      delivered as_flash before after Device (IsMore before after) (slice_get before.sent number) happens (same_more before after) (λ frame there comes. device_more before after _ comes)
  more before after (move.Deliver Controller number) happens =
      delivered as_flash before after Controller (IsMore before after) (slice_get before.sent number) happens (same_more before after) (λ frame there comes. controller_more before after _ comes)
  more before after (move.Tick Device) happens = device_more before after _ happens
  more before after (move.Application local) happens = device_more before after _ happens
  more before after (move.Neighbour neighbour) happens = device_more before after _ happens
  more before after one happens = controller_more before after _ happens

  pub more_dropped : (before after : World F) → IsMore before after → after.sent ≡ before.sent ++ drop (length before.sent) after.sent
  more_dropped before after it = it.1 ∙ ap (λ (l : List (List ℕ)). before.sent ++ l) (sym (ap (drop (length before.sent)) it.1 ∙ dropped before.sent it.0))

  pub all_delivered : (first : World F) (run : List (Move × World F)) → AreMade as_flash first run → AreDelivered first.sent (turns_of first.sent (seen_of run))
  all_delivered first [] made = tt
  all_delivered first (one ∷ run) made = (
    came_by_sent first.sent one.0,
    subst (λ (l : List (List ℕ)). AreDelivered l (turns_of one.1.sent (seen_of run))) (more_dropped first one.1 (more first one.1 one.0 made.0)) (all_delivered one.1 run made.1),
  )

-- ---- the start

records_are : (records : List PlanRecord) → map written_of (map taken_for records) ≡ records_for records
records_are [] = refl
records_are (entry ∷ records) = ap (λ l. written_of (taken_for entry) ∷ l) (records_are records)

module _ (laws : Laws) {F : Type 0} (setup : Setup) (identity : Identity) (good : IsSetup setup) (real : IsDevice identity) (can : CanMeet setup identity) (placed : ArePlaced setup.plan.records.items)
    (connect : request_of None (connect_of setup.plan setup.ar) ≡ Ok (request_for setup.plan setup.ar)) (plans : (station : Station) → AreThePlans setup station)
    (strict : setup.plan.continue_on_refused_record ≡ false) (first : World F) (begins : Begins setup identity first) where
  can_start : CanStart first.controller.setup first.device.station
  can_start = subst (λ (s : Setup). CanStart s first.device.station) (sym begins.of_setup) (record {
    setup_is = good;
    good = record { connect = connect; few = count_few setup.plan good.plan.few_records; short = good.plan.short_records; records = can.records; placed = placed; named = good.ar };
    device_is = subst (λ (i : Identity). IsDevice i) (sym begins.of_device) real;
    unnamed = begins.unnamed;
    apart = subst (λ (i : Identity). i.mac ≡ setup.plan.controller.mac → ⊥) (sym begins.of_device) can.apart;
  })

  own_begins : Begins first.controller.setup identity first
  own_begins = record {
    of_setup = refl;
    of_device = begins.of_device;
    made = begins.made ∙ ap (λ (s : Setup). first_live s.plan) (sym begins.of_setup);
    opened = begins.opened;
    uncalled = subst (λ (s : Setup). kept_of s.activity first.device.live.rest.calls ≡ None) (sym begins.of_setup) begins.uncalled;
    unrelated = begins.unrelated;
    unasked = begins.unasked;
    unnamed = subst (λ (s : Setup). AreUnnamed first.device.station.named s.plan.records.items) (sym begins.of_setup) begins.unnamed;
  }

  begun : BeginsSmall (rules_at first) (view_of first)
  begun = starts_small laws.so laws.goes setup identity good real can placed connect first begins

  no_seeking : (now : small.Controller) → now ≡ small.Seeking → now ≡ small.Exchanges → ⊥
  no_seeking now seeking exchanges = let e = sym seeking ∙ exchanges in cc

  no_kept : (answer : small.Kept) → (view_of first).device.kept ≡ Some answer → ⊥
  no_kept answer is = let e = sym begun.uncalled ∙ is in cc

  point : PointAt laws first [] [] first
  point = record {
    seen = refl;
    traced = each_so _ _ first.sent (λ frame dull. inl dull.0) begun.dull;
    fine = λ answer is. absurd (no_kept answer is);
    named = λ answer is. absurd (no_kept answer is);
    asked = λ sequence is. let e = sym begun.unasked ∙ is in absurd cc;
    history = inl (record {
      unready = each_so _ _ first.sent (λ frame dull ready. let e = sym dull.1 ∙ ready in absurd cc) begun.dull;
      idle = no_seeking (view_of first).controller begun.seeking;
      unawaited = tt;
      no_access = each_so _ _ first.sent (λ frame dull sequence call. let e = sym dull.0 ∙ call in absurd cc) begun.dull;
      unended = each_so _ _ first.sent (λ frame dull. idle_no_end first.controller.setup first.device.station.identity (is_planned first.controller.setup) frame dull.0) begun.dull;
      unasked = begun.unasked;
      early = subst (IsEarly first.device.station.identity.mac first.controller.setup.ar []) (sym begins.unrelated) tt;
    });
  }

  pub start_ups : {S : ℕ} (as_flash : Flash F S) (run : List (Move × World F)) → AreMade as_flash first run
      → AreStartUps identity.mac setup.ar (records_for setup.plan.records.items) (turns_of first.sent (seen_of run))
  start_ups as_flash run made =
      let same : map written_of (records_of (rules_at first)) ≡ records_for setup.plan.records.items =
      ap (λ (s : Setup). map written_of (records_of (rules_of s first.device.station))) begins.of_setup
      ∙ ap (map written_of) (plans first.device.station) ∙ records_are setup.plan.records.items in
      let good = along laws first as_flash begun (ap (λ (s : Setup). s.plan.continue_on_refused_record) begins.of_setup ∙ strict) (records_for setup.plan.records.items) same [] [] first refl refl refl tt can_start
      (holds_first laws.so laws.goes first identity own_begins can_start) (first_in_step laws.so laws.goes first identity own_begins can_start) point run made in
      good_start_ups identity.mac setup.ar (records_for setup.plan.records.items) (turns_of first.sent (seen_of run))
      (subst (λ (i : Identity). AreGood i.mac setup.ar (records_for setup.plan.records.items) [] (turns_of first.sent (seen_of run))) begins.of_device
      (subst (λ (s : Setup). AreGood first.device.station.identity.mac s.ar (records_for setup.plan.records.items) [] (turns_of first.sent (seen_of run))) begins.of_setup good))
