-- A place of the relation of a device over any moves of its world: how far it is, and what was reported of it.
use Rattle.std.proofs.Common.{◌≡◌, ◌⊎◌, inl, inr, ◌++◌, ◌≤◌, ℕ, Bool, true, false, cond, List, [], ◌∷◌, length, Option, Some, None, option_map, refl, sym, ap, subst, ◌∙◌, append-nil, append_assoc}
use Rattle.std.proofs.Common.{arith}
use Rattle.std.specs.Prelude.{slice_get, unwrap_or}
use Rattle.std.specs.List.{AllByRecursion}
use Rattle.std.proofs.lemmas.List.{length-append}
use Rattle.lldp.specs.Views.{peer_as}
use Rattle.flash_model.specs.declared.flash.Flash.{Ghosts as Flash}
use Rattle.pn_values.specs.declared.identity.Identity.{Identity}
use Rattle.pn_values.specs.declared.real.RealModule.{RealModule}
use Rattle.record_blocks.specs.declared.alarm_notification.AlarmNotification.{AlarmNotification}
use Rattle.rpc_core.specs.Cache.{Kept as Answer}
use Rattle.records.specs.declared.status.operation.Operation.{Operation}
use Rattle.diagnosis.specs.declared.diagnosis.Diagnosis.{Diagnosis}
use Rattle.diagnosis.specs.declared.reports.priority.Priority.TheVariants.{Low as low_priority}
use Rattle.connects.specs.requests.Request.{Request}
use Rattle.wire.specs.blocks.modules.Lists.{Listed}
use Rattle.connect_blocks.specs.declared.module_diff.DiffModule.{DiffModule}
use Rattle.connect_blocks.specs.declared.module_diff.DiffSubmodule.{DiffSubmodule}
use Rattle.module_diff.specs.Diff.{wanted_in}
use Rattle.expected_places.specs.declared.place.ExpectedPlace.{ExpectedPlace}
use Rattle.expected_places.specs.declared.place.Step.{Step}
use Rattle.expected_places.specs.declared.place.Step.TheVariants.{Settled}
use Rattle.expected_places.specs.Places.{is_for, place_at}
use Rattle.relations.specs.declared.options.DeviceOptions.{DeviceOptions}
use Rattle.relations.specs.declared.phase.Partner.{Partner}
use Rattle.relations.specs.exchange.Marks.{Starting}
use Rattle.relations.specs.Diagnosed.{diagnosing}
use Rattle.relations.specs.Phases.{made_of, updated}
use Rattle.relations.specs.Plugging.{modules_changing}
use Rattle.relations.specs.RelationState.{RelationState}
use Rattle.device_frames.specs.declared.event.Event.TheVariants.{Frame}
use Rattle.device_frames.specs.Heard.{Applied, Heard, Met, Ticks, heard_of}
use Rattle.device_frames.specs.Sent.{Sent}
use Rattle.device_core.specs.State.{Live, State}
use Rattle.device_core.specs.Machine.{heard_step}
use Rattle.controller_messages.specs.declared.setup.Setup.{Setup}
use Rattle.network_world.specs.declared.moves.End.TheVariants.{Device, Controller}
use Rattle.network_world.specs.declared.moves.Move.{Move}
use Rattle.network_world.specs.declared.moves.Move.TheVariants as move
use Rattle.network_world.specs.World.{AreMade, AtDevice, Comes, Delivers, Happens, World, is_skipped, last_world}
use Rattle.end_laws.specs.both.Small as small
use Rattle.end_laws.specs.device.Small.{heard_as}
use Rattle.end_laws.specs.device.Small as ends
use Rattle.end_laws.specs.device.Turn.{Changes, Makes}
use Rattle.end_laws.specs.hearing.Stations.{IsSetup}
use Rattle.both_ends.specs.startup.Played.{AreMeant, Begins, CanMeet}
use Rattle.both_ends.specs.startup.View.{IsMeant, IsMeantAtDevice, is_planned, rules_of}
use Rattle.both_ends.specs.exchange.Over.{number_in, reported_by, reported_over, reported_with, taken_over, taken_with}
use Rattle.both_ends.specs.exchange.Sized.{AreSizedModules, NoneIsAtZero}
use Rattle.both_ends.specs.exchange.Told.{AreSizedMoves, IsSizedMove}
use Rattle.both_ends.proofs.ExchangeFollows.{kept_at, unlinked_new}
use Rattle.both_ends.proofs.ExchangeKeys.{KeysSo}
use Rattle.both_ends.proofs.ExchangeLaw.{DeviceSo, FollowsAt, alone_so, delivered_device, early_at, first_follows, in_at, makes_so, modules_in, one_follows, turn_at}
use Rattle.both_ends.proofs.ExchangeLowTied.{reported_over_is, reported_same}
use Rattle.both_ends.proofs.ExchangeMessages.{HearsSo}
use Rattle.both_ends.proofs.ExchangeStated.{modules_so}
use Rattle.both_ends.proofs.ExchangeTurns.{IsSameOr, IsTurn, way_of}
use Rattle.plug_ends.specs.Places.{step_at, step_in}
use Rattle.plug_ends.specs.Told.{AreNumberedFrom}
use Rattle.plug_ends.proofs.DeviceGoes.{IsMade, LinkGoes, step_link_goes}
use Rattle.plug_ends.proofs.DeviceRuns.{IsSettled, all_settled, opened_called}
use Rattle.plug_ends.proofs.ToldGoes.{Goes, ToldAt, low_goes, step_told}
use Rattle.plug_ends.proofs.ToldPlaces.{HasTold}
use Rattle.plug_ends.proofs.ToldQueue.{Waits}

some_is : {A : Type 0} (x y : A) → Some x ≡ Some y → x ≡ y
some_is x y e = cc

none_some : {A : Type 0} {x : A} → ◌≡◌ {A = Option A} None (Some x) → ⊥
none_some e = absurd cc

-- ---- a device

-- What is plugged, what was reported, and a place of its relation.
pub record ToldLive (slot subslot : ℕ) (live : Live) (raised : List AlarmNotification) : Type 0 where
  pub none : NoneIsAtZero live.rest.real.modules.items
  pub numbers : AreNumberedFrom 0 raised
  pub told : (link : RelationState) → live.rest.link ≡ Some link → ToldAt slot subslot raised link

-- ---- a relation begins

settled_found : (slot subslot : ℕ) (places : List ExpectedPlace) → AllByRecursion IsSettled places → (step : Step) → step_at slot subslot places ≡ Some step → step ≡ Settled
settled_found slot subslot [] all step e = absurd (none_some e)
settled_found slot subslot (place ∷ places) all step e = by_for (is_for slot subslot place) (λ f. settled_found slot subslot places all.1 step f) e
  where
    by_for : (b : Bool) → (step_at slot subslot places ≡ Some step → step ≡ Settled)
        → option_map (λ (p : ExpectedPlace). p.step) (cond b (Some place) (place_at slot subslot places)) ≡ Some step → step ≡ Settled
    by_for true rest f = sym (some_is place.step step f) ∙ all.0
    by_for false rest f = rest f

module _ (slot subslot : ℕ) (request : Request) (partner : Partner) (rows : Listed DiffModule DiffSubmodule) (options : DeviceOptions) (starting : Starting) where
  abbrev made_link : RelationState
  made_link = made_of request partner rows options starting

  made_settled : (step : Step) → step_in slot subslot made_link ≡ Some step → step ≡ Settled
  made_settled step e =
      settled_found slot subslot made_link.plugs.places (all_settled rows (wanted_in request.expected.modules.items request.expected.submodules.items)) step e

  made_told : ToldAt slot subslot [] made_link
  made_told = record {
    called = opened_called request.expected rows;
    specifier = refl;
    waits = λ step e. subst (λ (s : Step). Waits slot subslot s []) (sym (made_settled step e)) refl;
    told = λ step e. subst (λ (s : Step). HasTold slot subslot s []) (sym (made_settled step e)) (λ some. absurd cc);
  }

-- ---- a step of a device

module _ (laws : KeysSo) (slot subslot : ℕ) (live : Live) (heard : Heard) (after : Option RelationState) (real : List RealModule) (calls : List Answer)
    (diagnoses later : List Diagnosis) (sent : List Sent) (raised : List AlarmNotification) (told : ToldLive slot subslot live raised)
    (few : length (raised ++ reported_by live.rest.link after) ≤ 2048)
    (unmade : Makes calls live.rest.link heard after sent → (live.rest.link ≡ None) × (raised ≡ []))
    (unlinked : IsMade live heard after → live.rest.link ≡ None)
    (turn : IsTurn live.rest.real.modules.items real calls diagnoses later live.rest.link heard after sent) (goes : LinkGoes live heard live.rest.link after) where
  -- What is reported then, a place of the relation after the step, and what becomes of it.
  pub record Stepped : Type 0 where
    pub numbers : AreNumberedFrom 0 (raised ++ reported_by live.rest.link after)
    pub told_then : (link : RelationState) → after ≡ Some link → ToldAt slot subslot (raised ++ reported_by live.rest.link after) link
    pub goes_then : Goes slot subslot live heard live.rest.link after raised (reported_by live.rest.link after)

  silent_numbers : reported_by live.rest.link after ≡ [] → AreNumberedFrom 0 (raised ++ reported_by live.rest.link after)
  silent_numbers silent =
      subst (λ (xs : List AlarmNotification). AreNumberedFrom 0 xs) (sym (ap (λ (xs : List AlarmNotification). raised ++ xs) silent ∙ append-nil raised)) told.numbers

  gone_so : after ≡ None → Stepped
  gone_so over =
      let silent = reported_over_is live.rest.link after over in
      record {
        numbers = silent_numbers silent;
        told_then = λ link is. absurd (none_some (sym over ∙ is));
        goes_then = inr (inr (inr (inr (inr (inr (inr (inr (record { over = over; silent = silent }))))))));
      }

  made_so : live.rest.link ≡ None → Makes calls live.rest.link heard after sent → Stepped
  made_so none makes =
      let next = made_of makes.request makes.partner makes.rows makes.options makes.starting in
      let silent : reported_by live.rest.link after ≡ [] =
      reported_same live.rest.link after (ap (λ (l : Option RelationState). number_in l) makes.made ∙ sym (ap (λ (l : Option RelationState). number_in l) none)) in
      let empty : raised ++ reported_by live.rest.link after ≡ [] =
      ap (λ (xs : List AlarmNotification). raised ++ xs) silent ∙ (append-nil raised ∙ (unmade makes).1) in
      record {
        numbers = silent_numbers silent;
        told_then = λ link is.
            subst (λ (xs : List AlarmNotification). ToldAt slot subslot xs link) (sym empty)
            (subst (λ (l : RelationState). ToldAt slot subslot [] l) (some_is next link (sym makes.made ∙ is))
            (made_told slot subslot makes.request makes.partner makes.rows makes.options makes.starting));
        goes_then = inr (inr (inr (inr (inr (inr (inr (inl (record {
          next = next;
          was = none;
          is = makes.made;
          empty = (unmade makes).1;
          silent = silent;
          step = made_settled slot subslot makes.request makes.partner makes.rows makes.options makes.starting;
          taken = refl;
        }))))))));
      }

  -- There was no relation.
  module _ (none : live.rest.link ≡ None) where
    no_link : (l : RelationState) → live.rest.link ≡ Some l → Stepped
    no_link l e = absurd (none_some (sym none ∙ e))

    stays_none : IsSameOr live.rest.link after → Stepped
    stays_none (inl same) = gone_so (by_after after (same ∙ ap (λ (l : Option RelationState). option_map way_of l) none))
      where
        by_after : (o : Option RelationState) → option_map way_of o ≡ None → o ≡ None
        by_after None e = refl
        by_after (Some l) e = absurd cc
    stays_none (inr gone) = gone_so gone

    none_so : IsTurn live.rest.real.modules.items real calls diagnoses later live.rest.link heard after sent → Stepped
    none_so (inl stays) = stays_none stays.link
    none_so (inr (inl makes)) = made_so none makes
    none_so (inr (inr (inl raises))) = no_link raises.link raises.was
    none_so (inr (inr (inr (inl acked)))) = no_link acked.link acked.was
    none_so (inr (inr (inr (inr (inl came))))) = no_link came.link came.was
    none_so (inr (inr (inr (inr (inr (inl passes)))))) = no_link passes.link passes.was
    none_so (inr (inr (inr (inr (inr (inr (inl acked))))))) = no_link acked.link acked.was
    none_so (inr (inr (inr (inr (inr (inr (inr (inl came)))))))) = no_link came.link came.was
    none_so (inr (inr (inr (inr (inr (inr (inr (inr (inl begins))))))))) = no_link begins.link begins.was
    none_so (inr (inr (inr (inr (inr (inr (inr (inr (inr (inl changes)))))))))) =
        gone_so (changes.becomes ∙ ap (λ (l : Option RelationState). updated (diagnosing live.rest.real.modules.items changes.change later l) l) none)
    none_so (inr (inr (inr (inr (inr (inr (inr (inr (inr (inr changes)))))))))) =
        gone_so (changes.becomes ∙ ap (λ (l : Option RelationState). modules_changing real changes.made later l) none)

  -- The relation goes on.
  on_so : (link next : RelationState) → live.rest.link ≡ Some link → after ≡ Some next → Stepped
  on_so link next was is =
      let low = low_goes live heard live.rest.link after link next was is real calls diagnoses later sent (λ makes. none_some (sym (unmade makes).0 ∙ was)) turn in
      let step = step_told laws live heard live.rest.link after link next was is raised told.none few told.numbers (λ it. none_some (sym (unlinked it) ∙ was)) slot subslot
      (told.told link was) low goes in
      record {
        numbers = step.numbers;
        told_then = λ l e. subst (λ (k : RelationState). ToldAt slot subslot (raised ++ reported_by live.rest.link after) k) (some_is next l (sym is ∙ e)) step.told;
        goes_then = step.goes;
      }

  by_both : (o p : Option RelationState) → live.rest.link ≡ o → after ≡ p → Stepped
  by_both None p e f = none_so e turn
  by_both (Some link) None e f = gone_so f
  by_both (Some link) (Some next) e f = on_so link next e f

  pub live_told : Stepped
  live_told = by_both live.rest.link after refl refl

-- ---- worlds

-- The alarms of its first move are among those of a run.
pub first_few : (raised now later : List AlarmNotification) → length (raised ++ (now ++ later)) ≤ 2048 → length (raised ++ now) ≤ 2048
first_few raised now later few =
    let all : length ((raised ++ now) ++ later) ≤ 2048 = subst (λ (xs : List AlarmNotification). length xs ≤ 2048) (sym (append_assoc raised now later)) few in
    let long = length-append (raised ++ now) later in
    omega (arith, all, long)

module _ {F : Type 0} where
  -- The alarms of a relation, and a place of it.
  pub record Telling (slot subslot : ℕ) (w : World F) (raised taken : List AlarmNotification) : Type 0 where
    pub follows : FollowsAt low_priority w raised taken
    pub told : ToldLive slot subslot w.device.live raised

  -- What the device hears with a move.
  abbrev pub HeardWith : World F → Move → Heard → Type 0
  HeardWith w (move.Deliver Device number) heard =
      (octets : List ℕ) × (slice_get w.sent number ≡ Some octets) × (heard ≡ heard_of w.device.station.identity (Frame (record { items = octets })))
  HeardWith w (move.Tick Device) heard = heard ≡ Ticks
  HeardWith w (move.Application local) heard = heard ≡ Applied local
  HeardWith w (move.Neighbour neighbour) heard = heard ≡ Met (option_map peer_as neighbour)
  HeardWith w other heard = ⊥

  -- The device hears something, and this becomes of a place.
  pub record HearsNow (slot subslot : ℕ) {S : ℕ} (as_flash : Flash F S) (before : World F) (one : Move) (after : World F) (raised : List AlarmNotification) : Type 0 where
    pub heard : Heard
    pub from : HeardWith before one heard
    pub made : AtDevice as_flash before heard after
    pub goes : Goes slot subslot before.device.live heard before.device.live.rest.link after.device.live.rest.link raised (reported_with before after)

  -- Nothing happens at the device, or it hears something.
  abbrev pub MoveGoes : (slot subslot : ℕ) {S : ℕ} (as_flash : Flash F S) (before : World F) (one : Move) (after : World F) (raised : List AlarmNotification) → Type 0
  MoveGoes slot subslot as_flash before one after raised =
      ((after.device ≡ before.device) × (reported_with before after ≡ [])) ⊎ HearsNow slot subslot as_flash before one after raised

  -- What a move makes of it.
  pub record Moved (slot subslot : ℕ) {S : ℕ} (as_flash : Flash F S) (before : World F) (one : Move) (after : World F) (raised : List AlarmNotification) : Type 0 where
    pub told : ToldLive slot subslot after.device.live (raised ++ reported_with before after)
    pub goes : MoveGoes slot subslot as_flash before one after raised

  module _ (so : DeviceSo) (hears : HearsSo) {S : ℕ} (as_flash : Flash F S) (before after : World F) (raised taken : List AlarmNotification) (slot subslot : ℕ)
      (telling : Telling slot subslot before raised taken) (few : length (raised ++ reported_with before after) ≤ 2048) where
    abbrev live : Live
    live = before.device.live

    abbrev setup : Setup
    setup = before.controller.setup

    -- nothing happens at the device
    rests_told : (one : Move) → after.device ≡ before.device → Moved slot subslot as_flash before one after raised
    rests_told one same =
        let silent : reported_with before after ≡ [] =
        reported_same live.rest.link after.device.live.rest.link (ap (λ (d : State F). number_in d.live.rest.link) same) in
        record {
          told = subst (λ (xs : List AlarmNotification). ToldLive slot subslot after.device.live xs) (sym (ap (λ (xs : List AlarmNotification). raised ++ xs) silent ∙ append-nil raised))
              (subst (λ (d : State F). ToldLive slot subslot d.live raised) (sym same) telling.told);
          goes = inl (same, silent);
        }

    -- What is reported, the place, and what becomes of it.
    pub record Heard_so (heard : Heard) (next : Live) : Type 0 where
      pub told : ToldLive slot subslot next (raised ++ reported_by live.rest.link next.rest.link)
      pub goes : Goes slot subslot live heard live.rest.link next.rest.link raised (reported_by live.rest.link next.rest.link)

    -- the device hears something
    hears_told : (heard : Heard) → ((sequence : ℕ) → heard_as (is_planned setup) heard ≡ small.Call sequence small.Connects → sequence ≡ 0)
        → ((sequence : ℕ) → heard_as (is_planned setup) heard ≡ small.Call sequence small.Accesses → kept_at setup live ≡ None → ⊥)
        → AtDevice as_flash before heard after → IsMeantAtDevice before heard → Heard_so heard after.device.live
    hears_told heard first late made meant =
        let station = before.device.station in
        let outcomes = made.hears.steps.outcomes in
        let step = heard_step outcomes station live heard in
        let turn = turn_at low_priority so hears as_flash before after raised taken telling.follows heard outcomes meant in
        let acts = so.turns (rules_of setup station) setup.activity outcomes station live heard meant.planned in
        let small_few : length (raised ++ reported_by live.rest.link step.live.rest.link) ≤ 2048 =
        subst (λ (l : Live). length (raised ++ reported_by live.rest.link l.rest.link) ≤ 2048) made.hears.steps.live few in
        let stepped = live_told so.keys slot subslot live heard step.live.rest.link step.live.rest.real.modules.items live.rest.calls live.rest.diagnoses step.live.rest.diagnoses step.sent
        raised telling.told small_few
        (λ makes. (
          alone_so low_priority so hears as_flash before after raised taken telling.follows heard first late made meant step.live.rest.link step.sent makes,
          telling.follows.unraised
              (makes_so low_priority so hears as_flash before after raised taken telling.follows heard first late made meant step.live.rest.link step.sent makes).0,
        ))
        (λ it. (unlinked_new low_priority setup station live before.controller.live before.sent raised taken telling.follows heard meant.planned first late it.caller it.came.address it.call
        it.came.is
        (first it.call.header.sequence (ap (heard_as (is_planned setup)) it.came.is
        ∙ ap (λ (o : Option Operation). ends.asked_by (is_planned setup) it.call.header.sequence (unwrap_or it.call.blocks []) o) it.came.asks)) it.came.fresh).0)
        turn (step_link_goes station live outcomes heard) in
        subst (λ (l : Live). Heard_so heard l) (sym made.hears.steps.live) (record {
          told = record {
            none = none_then heard step.live.rest.real.modules.items (modules_in station live heard step.live.rest step.sent acts);
            numbers = stepped.numbers;
            told = stepped.told_then;
          };
          goes = stepped.goes_then;
        })
      where
        none_then : {diagnoses later : List Diagnosis} {old new : Option RelationState} {messages : List Sent} (what : Heard) (now : List RealModule)
            → (now ≡ live.rest.real.modules.items) ⊎ Changes live.rest.real.modules.items now diagnoses later old what new messages → NoneIsAtZero now
        none_then what now (inl same) = subst (λ (modules : List RealModule). NoneIsAtZero modules) (sym same) telling.told.none
        none_then what now (inr changes) = (modules_so live.rest.real.modules.items now what changes.made changes.is changes.modules).none telling.told.none

    idle_told : (heard : Heard) → heard_as (is_planned setup) heard ≡ small.Idle → AtDevice as_flash before heard after → IsMeantAtDevice before heard → Heard_so heard after.device.live
    idle_told heard idle made meant =
        hears_told heard (λ sequence e. absurd (idle_connect sequence (sym idle ∙ e))) (λ sequence e none. absurd (idle_access sequence (sym idle ∙ e))) made meant
      where
        idle_connect : (sequence : ℕ) → small.Idle ≡ small.Call sequence small.Connects → ⊥
        idle_connect sequence e = absurd cc

        idle_access : (sequence : ℕ) → small.Idle ≡ small.Call sequence small.Accesses → ⊥
        idle_access sequence e = absurd cc

    heard_told : (one : Move) (heard : Heard) → HeardWith before one heard → AtDevice as_flash before heard after → IsMeantAtDevice before heard → Heard_so heard after.device.live
    heard_told (move.Deliver Device number) heard from made meant =
        hears_told heard
        (λ sequence e. (in_at low_priority so hears as_flash before after raised taken telling.follows number from.0 from.1).first sequence
        (ap (heard_as (is_planned setup)) (sym from.2) ∙ e))
        (λ sequence e unkept. (early_at low_priority so hears as_flash before after raised taken telling.follows number from.0 from.1 unkept).0 sequence
        (ap (heard_as (is_planned setup)) (sym from.2) ∙ e)) made meant
    heard_told (move.Tick Device) heard from made meant = idle_told heard (ap (heard_as (is_planned setup)) from) made meant
    heard_told (move.Application local) heard from made meant = idle_told heard (ap (heard_as (is_planned setup)) from) made meant
    heard_told (move.Neighbour neighbour) heard from made meant = idle_told heard (ap (heard_as (is_planned setup)) from) made meant
    heard_told (move.Deliver Controller number) heard from made meant = absurd from
    heard_told (move.Tick Controller) heard from made meant = absurd from
    heard_told (move.Give slot_of subslot_of value) heard from made meant = absurd from
    heard_told (move.OutputStatus slot_of subslot_of is_good) heard from made meant = absurd from
    heard_told (move.Read slot_of subslot_of index) heard from made meant = absurd from
    heard_told (move.Write slot_of subslot_of index octets) heard from made meant = absurd from
    heard_told move.Stop heard from made meant = absurd from

    -- What becomes of a place with what the device hears.
    pub device_goes : (one : Move) (heard : Heard) → HeardWith before one heard → AtDevice as_flash before heard after → IsMeantAtDevice before heard
        → Goes slot subslot before.device.live heard before.device.live.rest.link after.device.live.rest.link raised (reported_with before after)
    device_goes one heard from made meant = (heard_told one heard from made meant).goes

    moved_by : (one : Move) (heard : Heard) → HeardWith before one heard → AtDevice as_flash before heard after → IsMeantAtDevice before heard
        → Moved slot subslot as_flash before one after raised
    moved_by one heard from made meant =
        let so_far = heard_told one heard from made meant in
        record { told = so_far.told; goes = inr (record { heard = heard; from = from; made = made; goes = so_far.goes }) }

    comes_told : (number : ℕ) (octets : List ℕ) → slice_get before.sent number ≡ Some octets → (skipped : Bool)
        → IsMeantAtDevice before (heard_of before.device.station.identity (Frame (record { items = octets }))) → Comes as_flash skipped before Device octets after
        → Moved slot subslot as_flash before (move.Deliver Device number) after raised
    comes_told number octets there true meant comes = rests_told (move.Deliver Device number) (ap (λ (w : World F). w.device) comes)
    comes_told number octets there false meant comes =
        moved_by (move.Deliver Device number) (heard_of before.device.station.identity (Frame (record { items = octets }))) (octets, there, refl) comes meant

    delivered_told : (number : ℕ) (octets : Option (List ℕ)) → slice_get before.sent number ≡ octets
        → ((frame : List ℕ) → octets ≡ Some frame → IsMeantAtDevice before (heard_of before.device.station.identity (Frame (record { items = frame }))))
        → Delivers as_flash octets before Device after → Moved slot subslot as_flash before (move.Deliver Device number) after raised
    delivered_told number None there meant comes = rests_told (move.Deliver Device number) (ap (λ (w : World F). w.device) comes)
    delivered_told number (Some octets) there meant comes =
        comes_told number octets there (is_skipped before.device before.controller Device octets) (meant octets refl) comes

    pub one_moved : (one : Move) → Happens as_flash before one after → IsMeant before one → Moved slot subslot as_flash before one after raised
    one_moved (move.Deliver Device number) happens meant = delivered_told number (slice_get before.sent number) refl meant happens
    one_moved (move.Deliver Controller number) happens meant =
        rests_told (move.Deliver Controller number)
        (delivered_device low_priority so hears as_flash before after raised taken telling.follows (slice_get before.sent number) happens)
    one_moved (move.Tick Device) happens meant = moved_by (move.Tick Device) Ticks refl happens meant
    one_moved (move.Tick Controller) happens meant = rests_told (move.Tick Controller) (ap (λ (w : World F). w.device) happens)
    one_moved (move.Application local) happens meant = moved_by (move.Application local) (Applied local) refl happens meant
    one_moved (move.Neighbour neighbour) happens meant = moved_by (move.Neighbour neighbour) (Met (option_map peer_as neighbour)) refl happens meant
    one_moved (move.Give slot_of subslot_of value) happens meant = rests_told (move.Give slot_of subslot_of value) (ap (λ (w : World F). w.device) happens)
    one_moved (move.OutputStatus slot_of subslot_of is_good) happens meant = rests_told (move.OutputStatus slot_of subslot_of is_good) (ap (λ (w : World F). w.device) happens)
    one_moved (move.Read slot_of subslot_of index) happens meant = rests_told (move.Read slot_of subslot_of index) (ap (λ (w : World F). w.device) happens)
    one_moved (move.Write slot_of subslot_of index octets) happens meant = rests_told (move.Write slot_of subslot_of index octets) (ap (λ (w : World F). w.device) happens)
    one_moved move.Stop happens meant = rests_told move.Stop (ap (λ (w : World F). w.device) happens)

    -- A move, with the alarms.
    pub one_telling : (one : Move) → Happens as_flash before one after → IsMeant before one → IsSizedMove one
        → Telling slot subslot after (raised ++ reported_with before after) (taken ++ taken_with low_priority before one) × MoveGoes slot subslot as_flash before one after raised
    one_telling one happens meant sized =
        let moved = one_moved one happens meant in (
          record {
            follows = one_follows low_priority so hears as_flash before after raised taken telling.follows one happens meant sized;
            told = moved.told;
          },
          moved.goes,
        )

  -- ---- any run

  pub run_telling : DeviceSo → HearsSo → {S : ℕ} (as_flash : Flash F S) (slot subslot : ℕ) (w : World F) (raised taken : List AlarmNotification) → Telling slot subslot w raised taken
      → (run : List (Move × World F)) → AreMade as_flash w run → AreMeant w run → AreSizedMoves run → length (raised ++ reported_over w run) ≤ 2048
      → Telling slot subslot (last_world w run) (raised ++ reported_over w run) (taken ++ taken_over low_priority w run)
  run_telling so hears as_flash slot subslot w raised taken is [] made meant sized few =
      subst (λ (xs : List AlarmNotification). Telling slot subslot w xs (taken ++ [])) (sym (append-nil raised))
      (subst (λ (xs : List AlarmNotification). Telling slot subslot w raised xs) (sym (append-nil taken)) is)
  run_telling so hears as_flash slot subslot w raised taken is (one ∷ run) made meant sized few =
      let now = reported_with w one.1 in
      let next = (one_telling so hears as_flash w one.1 raised taken slot subslot is (first_few raised now (reported_over one.1 run) few) one.0 made.0 meant.0 sized.0).0 in
      let all = run_telling so hears as_flash slot subslot one.1 (raised ++ now) (taken ++ taken_with low_priority w one.0) next run made.1 meant.1 sized.1
      (subst (λ (xs : List AlarmNotification). length xs ≤ 2048) (sym (append_assoc raised now (reported_over one.1 run))) few) in
      subst (λ (xs : List AlarmNotification). Telling slot subslot (last_world one.1 run) xs (taken ++ (taken_with low_priority w one.0 ++ taken_over low_priority one.1 run))) (append_assoc raised now (reported_over one.1 run))
      (subst (λ (xs : List AlarmNotification). Telling slot subslot (last_world one.1 run) ((raised ++ now) ++ reported_over one.1 run) xs)
      (append_assoc taken (taken_with low_priority w one.0) (taken_over low_priority one.1 run)) all)

  -- ---- from the start

  pub first_telling : DeviceSo → HearsSo → (setup : Setup) (identity : Identity) → IsSetup setup → CanMeet setup identity → (first : World F) → Begins setup identity first
      → AreSizedModules first.device.live.rest.real.modules.items → NoneIsAtZero first.device.live.rest.real.modules.items → (slot subslot : ℕ)
      → Telling slot subslot first [] []
  first_telling so hears setup identity good can first begins real none slot subslot = record {
    follows = first_follows low_priority so hears setup identity good can first begins real;
    told = record {
      none = none;
      numbers = tt;
      told = λ link is. absurd (none_some (sym begins.unrelated ∙ is));
    };
  }
