-- Over any run of worlds, what the device reported of its places, and what the controller accepted, lead to what both know of them.
use Rattle.std.proofs.Common.{◌≡◌, ◌++◌, ◌<◌, ◌≤◌, ℕ, Bool, true, false, List, [], ◌∷◌, length, map, Option, Some, None, option_map, refl, sym, ap, subst, ◌∙◌, append-nil, append_assoc}
use Rattle.std.specs.Prelude.{is_some, slice_get}
use Rattle.std.specs.List.{AllByRecursion}
use Rattle.std.proofs.lemmas.Bool.{false≢true}
use Rattle.lldp.specs.Views.{peer_as}
use Rattle.flash_model.specs.declared.flash.Flash.{Ghosts as Flash}
use Rattle.pn_values.specs.declared.identity.Identity.{Identity}
use Rattle.pn_values.specs.declared.real.RealModule.{RealModule}
use Rattle.record_blocks.specs.declared.alarm_notification.AlarmNotification.{AlarmNotification}
use Rattle.rpc_core.specs.Cache.{Kept as Answer, kept_of}
use Rattle.module_diff.specs.Diff.{diff_of, is_listed}
use Rattle.diagnosis.specs.declared.diagnosis.Change.{Change}
use Rattle.relations.specs.Plugging.{rows_now}
use Rattle.relations.specs.RelationState.{RelationState}
use Rattle.diagnosis.specs.declared.reports.priority.Priority.TheVariants.{Low as low_priority}
use Rattle.device_frames.specs.declared.event.Event.TheVariants.{Frame}
use Rattle.device_frames.specs.declared.local.Local.TheVariants as local
use Rattle.device_frames.specs.Heard.{Heard, Ticks, Applied, Met, heard_of}
use Rattle.device_core.specs.State.{State, Live}
use Rattle.device_core.specs.Machine.{heard_step}
use Rattle.controller_messages.specs.declared.setup.Setup.{Setup}
use Rattle.network_world.specs.declared.moves.End.TheVariants.{Device, Controller}
use Rattle.network_world.specs.declared.moves.Move.{Move}
use Rattle.network_world.specs.declared.moves.Move.TheVariants as move
use Rattle.network_world.specs.World.{AreMade, at_controller, AtDevice, Comes, Delivers, Happens, is_skipped, last_world, World}
use Rattle.end_laws.specs.both.Small as small
use Rattle.end_laws.specs.device.Small.{heard_as, kept_in, link_of}
use Rattle.end_laws.specs.device.Turn.{change_heard}
use Rattle.end_laws.specs.hearing.Stations.{IsSetup}
use Rattle.end_laws.specs.turns.Alarms.{AreAllTaken}
use Rattle.both_ends.specs.startup.Played.{AreMeant, Begins, CanMeet}
use Rattle.both_ends.specs.startup.View.{IsMeant, IsMeantAtController, IsMeantAtDevice, is_planned, rules_of}
use Rattle.both_ends.specs.startup.request.Request.{request_for}
use Rattle.both_ends.specs.exchange.Sized.{AreSizedModules, NoneIsAtZero}
use Rattle.both_ends.proofs.ExchangeEarly.{IsEarlyFrame}
use Rattle.both_ends.proofs.ExchangeFollows.{IsIn, kept_at}
use Rattle.both_ends.proofs.ExchangeKnown.{ElsewhereSo}
use Rattle.both_ends.proofs.ExchangeKnows.{Knows, knows_on}
use Rattle.both_ends.proofs.ExchangeLaw.{DeviceSo, FollowsAt, IsOfFrame, alone_so, delivered_device, early_at, first_follows, in_at, lacks_none, makes_so, modules_in, of_frame, one_follows, opening_asks, turn_at}
use Rattle.connects.specs.requests.Request.{Request}
use Rattle.plan_places.specs.declared.place.PlaceState.{PlaceState}
use Rattle.plan_places.specs.declared.place.PlaceState.TheVariants.{There}
use Rattle.plan_places.specs.Places.{state_at}
use Rattle.both_ends.proofs.ExchangeOwn.{is_expected}
use Rattle.both_ends.proofs.ExchangeLists.{each_at, none_some}
use Rattle.both_ends.proofs.ExchangeLowTied.{reported_same}
use Rattle.both_ends.proofs.ExchangeMade.{stated_made}
use Rattle.both_ends.proofs.ExchangeMessages.{HearsSo, other_mac}
use Rattle.both_ends.proofs.ExchangeOpening.{asks_unheard}
use Rattle.both_ends.specs.exchange.Over.{reported_by, reported_over, reported_with, taken_over, taken_with}
use Rattle.both_ends.specs.exchange.Told.{AreKnown, AreSizedMoves, IsSizedMove, change_in}
use Rattle.controller_core.specs.declared.stored.event.Event.{Event}
use Rattle.controller_core.specs.declared.stored.event.Event.TheVariants as event
use Rattle.controller_core.specs.stored.State.{Controlling, Live as ControllerLive, with_live}
use Rattle.controller_core.specs.Machine.{opening_of, step_of, turn_of}
use Rattle.controller_messages.specs.Heard as controller
use Rattle.controller_messages.specs.Heard.{heard_of as heard_by}
use Rattle.controller_messages.specs.Requests.{identify_asked}
use Rattle.controller_messages.specs.Sent as said
use Rattle.diagnosis.specs.declared.queue.QueuedAlarm.{QueuedAlarm}
use Rattle.diagnosis.specs.declared.queue.LowChange.{LowChange}
use Rattle.both_ends.specs.exchange.Over.{taken_from, taken_in}
use Rattle.places_law.specs.Agreed.{AreAgreed, ArePluggedApart, AreThePlaces, AreUntouched, is_amiss, is_in_plan}
use Rattle.places_law.proofs.PlacesAnswered.{AreTelling, IsClearAt, TellsIn, TellsSo, clear_later, device_clear, device_telling, later_at, later_telling, said_telling}
use Rattle.places_law.proofs.PlacesChanged.{all_seen, changes_after}
use Rattle.places_law.proofs.PlacesOctets.{BlocksSo}
use Rattle.places_law.proofs.PlacesPlugged.{ArePlaced, placed_on}
use Rattle.places_law.proofs.PlacesSeen.{amiss_in, amiss_is, known_amiss, known_by, known_none, known_of, planned_expected, state_as, there_is, there_of}
use Rattle.places_law.proofs.PlacesShown.{IsShown, event_shown, first_shown, heard_shown, shown_on}

-- ---- a move

-- the error of a change is that of the event
error_is : (slot subslot channel error : ℕ) (appears : Bool) (change : Change) → Applied (local.Diagnosis slot subslot channel error appears) ≡ change_heard change → change.diagnosis.error ≡ error
error_is slot subslot channel error appears change e = cc

abbrev IsSmall : Heard → Type 0
IsSmall heard = (change : Change) → heard ≡ change_heard change → change.diagnosis.error < 65536

framed_small : (heard : Heard) → IsOfFrame heard → IsSmall heard
framed_small heard is change e = absurd (subst (λ (h : Heard). IsOfFrame h) e is)

-- a step of the controller
controller_is : (old : Controlling) (one : Event) → (step_of old one).controller ≡ with_live old (turn_of old.setup old.live one).live
unfolding step_of
controller_is old one = refl

-- what differed from what the Connect of a plan expects, while these modules were plugged
abbrev rows_at : Setup → List RealModule → ℕ → ℕ → Bool
rows_at setup at slot subslot = is_listed slot subslot (diff_of (request_for setup.plan setup.ar).expected at)

frames_are : (old : Controlling) (one : Event) → (step_of old one).frames ≡ map (said.bytes_of old.setup) (turn_of old.setup old.live one).sent
unfolding step_of
frames_are old one = refl

module _ {F : Type 0} where
  abbrev pub KnowsAt : Type 0 → World F → List AlarmNotification → Type 0
  KnowsAt Apart w raised = Knows Apart w.device.live.rest.real.modules.items w.device.live.rest.link w.device.live.rest.diagnoses raised

  -- in a world: what is clear once its relation was made, and what each frame tells
  abbrev ClearAt : World F → List RealModule → Type 0
  ClearAt w at = IsClearAt w.controller.setup w.device.live at

  abbrev TellingAt : World F → List RealModule → Type 0
  TellingAt w at = AreTelling w.controller.setup w.device.live w.sent at

  abbrev PlacedAt : World F → List RealModule → List AlarmNotification → Type 0
  PlacedAt w at raised = ArePlaced (rows_at w.controller.setup at) w.device.live.rest.real.modules.items w.device.live.rest.link raised

  -- ---- which end changes with a move

  module _ {S : ℕ} (as_flash : Flash F S) (before after : World F) where
    same_world : after ≡ before → after.controller ≡ before.controller
    same_world same = ap (λ (w : World F). w.controller) same

    device_came : (octets : List ℕ) (skipped : Bool) → Comes as_flash skipped before Device octets after → after.controller ≡ before.controller
    device_came octets true comes = same_world comes
    device_came octets false comes = comes.controller

    device_delivered : (octets : Option (List ℕ)) → Delivers as_flash octets before Device after → after.controller ≡ before.controller
    device_delivered None comes = same_world comes
    device_delivered (Some octets) comes = device_came octets (is_skipped before.device before.controller Device octets) comes

    -- the set-up stays
    steps_setup : (one : Event) → after ≡ at_controller before one → after.controller.setup ≡ before.controller.setup
    steps_setup one happens = ap (λ (c : Controlling). c.setup) (ap (λ (w : World F). w.controller) happens ∙ controller_is before.controller one)

    comes_setup : (octets : List ℕ) (skipped : Bool) → Comes as_flash skipped before Controller octets after → after.controller.setup ≡ before.controller.setup
    comes_setup octets true comes = ap (λ (w : World F). w.controller.setup) comes
    comes_setup octets false comes = steps_setup (event.Frame (record { items = octets })) comes

    delivered_setup : (octets : Option (List ℕ)) → Delivers as_flash octets before Controller after → after.controller.setup ≡ before.controller.setup
    delivered_setup None comes = ap (λ (w : World F). w.controller.setup) comes
    delivered_setup (Some octets) comes = comes_setup octets (is_skipped before.device before.controller Controller octets) comes

    one_setup : (one : Move) → Happens as_flash before one after → after.controller.setup ≡ before.controller.setup
    one_setup (move.Deliver Device number) happens = ap (λ (c : Controlling). c.setup) (device_delivered (slice_get before.sent number) happens)
    one_setup (move.Deliver Controller number) happens = delivered_setup (slice_get before.sent number) happens
    one_setup (move.Tick Device) happens = ap (λ (c : Controlling). c.setup) happens.controller
    one_setup (move.Tick Controller) happens = steps_setup event.Tick happens
    one_setup (move.Application local) happens = ap (λ (c : Controlling). c.setup) happens.controller
    one_setup (move.Neighbour neighbour) happens = ap (λ (c : Controlling). c.setup) happens.controller
    one_setup (move.Give slot subslot value) happens = steps_setup (event.Give slot subslot value) happens
    one_setup (move.OutputStatus slot subslot is_good) happens = steps_setup (event.Status slot subslot is_good) happens
    one_setup (move.Read slot subslot index) happens = steps_setup (event.Read slot subslot index) happens
    one_setup (move.Write slot subslot index octets) happens = steps_setup (event.Write slot subslot index octets) happens
    one_setup move.Stop happens = steps_setup event.Stop happens

  -- ---- what frames tell

  -- what becomes of it with a move
  record Telling (before after : World F) (at later : List RealModule) : Type 0 where
    clear : ClearAt before at → ClearAt after later
    telling : TellingAt after later

  abbrev later_of : World F → List RealModule → List RealModule
  later_of w at = later_at (kept_at w.controller.setup w.device.live) w.device.live.rest.real.modules.items at

  module _ (so : DeviceSo) (hears : HearsSo) (blocks : BlocksSo) {S : ℕ} (as_flash : Flash F S) (before after : World F) (raised taken : List AlarmNotification)
      (follows : FollowsAt low_priority before raised taken) (planned : AreSizedModules before.controller.setup.plan.real.modules.items) (at : List RealModule) (told : TellingAt before at) where
    -- nothing happens
    rests_tells : after ≡ before → Telling before after at (later_of before at)
    rests_tells same =
        subst (λ (w : World F). Telling before w at (later_of before at)) (sym same) (record {
          clear = clear_later before.controller.setup before.device.live before.device.live.rest.real.modules.items at;
          telling = later_telling so hears blocks as_flash before after raised taken follows planned at told;
        })

    -- the device hears something
    hears_tells : (heard : Heard) → ((sequence : ℕ) → heard_as (is_planned before.controller.setup) heard ≡ small.Call sequence small.Connects → sequence ≡ 0)
        → ((sequence : ℕ) → heard_as (is_planned before.controller.setup) heard ≡ small.Call sequence small.Accesses → kept_at before.controller.setup before.device.live ≡ None → ⊥)
        → AtDevice as_flash before heard after → IsMeantAtDevice before heard → Telling before after at (later_of before at)
    hears_tells heard first late made meant =
        let setup = before.controller.setup in
        let step = heard_step made.hears.steps.outcomes before.device.station before.device.live heard in record {
          clear = λ clear. subst (λ (c : Controlling). IsClearAt c.setup after.device.live (later_of before at)) (sym made.controller)
              (subst (λ (l : Live). IsClearAt setup l (later_of before at)) (sym made.hears.steps.live)
              (device_clear so hears blocks as_flash before after raised taken follows planned heard late first made meant at told clear));
          telling = subst (λ (c : Controlling). AreTelling c.setup after.device.live after.sent (later_of before at)) (sym made.controller)
              (subst (λ (l : Live). AreTelling setup l after.sent (later_of before at)) (sym made.hears.steps.live)
              (subst (λ (frames : List (List ℕ)). AreTelling setup step.live frames (later_of before at))
              (sym (made.hears.behind ∙ ap (λ (frames : List (List ℕ)). before.sent ++ frames) made.hears.steps.frames))
              (device_telling so hears blocks as_flash before after raised taken follows planned heard late first made meant at told)));
        }

    idle_tells : (heard : Heard) → heard_as (is_planned before.controller.setup) heard ≡ small.Idle
        → AtDevice as_flash before heard after → IsMeantAtDevice before heard → Telling before after at (later_of before at)
    idle_tells heard idle made meant =
        hears_tells heard (λ sequence e. absurd (idle_connect sequence (sym idle ∙ e))) (λ sequence e none. absurd (idle_access sequence (sym idle ∙ e))) made meant
      where
        idle_connect : (sequence : ℕ) → small.Idle ≡ small.Call sequence small.Connects → ⊥
        idle_connect sequence e = absurd cc

        idle_access : (sequence : ℕ) → small.Idle ≡ small.Call sequence small.Accesses → ⊥
        idle_access sequence e = absurd cc

    -- the controller goes on with this event
    goes_tells : (one : Event) → IsMeantAtController before one → after ≡ at_controller before one → Telling before after at (later_of before at)
    goes_tells one meant happens =
        let setup = before.controller.setup in
        let live = before.device.live in
        let turn = turn_of setup before.controller.live one in
        subst (λ (w : World F). Telling before w at (later_of before at)) (sym happens) (record {
          clear = λ clear. subst (λ (c : Controlling). IsClearAt c.setup live (later_of before at)) (sym (controller_is before.controller one))
              (clear_later setup live live.rest.real.modules.items at clear);
          telling = subst (λ (c : Controlling). AreTelling c.setup live (before.sent ++ (step_of before.controller one).frames) (later_of before at)) (sym (controller_is before.controller one))
              (subst (λ (frames : List (List ℕ)). AreTelling setup live (before.sent ++ frames) (later_of before at)) (sym (frames_are before.controller one))
              (said_telling so hears blocks as_flash before after raised taken follows planned (later_of before at) turn.sent meant
              (later_telling so hears blocks as_flash before after raised taken follows planned at told)));
        })

    comes_tells : (octets : List ℕ) (skipped : Bool) → IsIn low_priority before.controller.setup before.device.station.identity follows.relation octets
        → (kept_at before.controller.setup before.device.live ≡ None → IsEarlyFrame before.controller.setup before.device.station octets)
        → IsMeantAtDevice before (heard_of before.device.station.identity (Frame (record { items = octets }))) → Comes as_flash skipped before Device octets after
        → Telling before after at (later_of before at)
    comes_tells octets true is early meant comes = rests_tells comes
    comes_tells octets false is early meant comes =
        hears_tells (heard_of before.device.station.identity (Frame (record { items = octets }))) is.first (λ sequence e unkept. (early unkept).0 sequence e) comes meant

    delivered_tells : (octets : Option (List ℕ))
        → ((frame : List ℕ) → octets ≡ Some frame → IsIn low_priority before.controller.setup before.device.station.identity follows.relation frame)
        → ((frame : List ℕ) → octets ≡ Some frame → kept_at before.controller.setup before.device.live ≡ None → IsEarlyFrame before.controller.setup before.device.station frame)
        → ((frame : List ℕ) → octets ≡ Some frame → IsMeantAtDevice before (heard_of before.device.station.identity (Frame (record { items = frame }))))
        → Delivers as_flash octets before Device after → Telling before after at (later_of before at)
    delivered_tells None is early meant comes = rests_tells comes
    delivered_tells (Some octets) is early meant comes =
        comes_tells octets (is_skipped before.device before.controller Device octets) (is octets refl) (early octets refl) (meant octets refl) comes

    arrives_tells : (octets : List ℕ) (skipped : Bool) → IsMeantAtController before (event.Frame (record { items = octets })) → Comes as_flash skipped before Controller octets after
        → Telling before after at (later_of before at)
    arrives_tells octets true meant comes = rests_tells comes
    arrives_tells octets false meant comes = goes_tells (event.Frame (record { items = octets })) meant comes

    away_tells : (octets : Option (List ℕ)) → ((frame : List ℕ) → octets ≡ Some frame → IsMeantAtController before (event.Frame (record { items = frame })))
        → Delivers as_flash octets before Controller after → Telling before after at (later_of before at)
    away_tells None meant comes = rests_tells comes
    away_tells (Some octets) meant comes = arrives_tells octets (is_skipped before.device before.controller Controller octets) (meant octets refl) comes

    one_tells : (one : Move) → Happens as_flash before one after → IsMeant before one → Telling before after at (later_of before at)
    one_tells (move.Deliver Device number) happens meant =
        delivered_tells (slice_get before.sent number) (λ frame there. in_at low_priority so hears as_flash before after raised taken follows number frame there)
        (λ frame there. early_at low_priority so hears as_flash before after raised taken follows number frame there) meant happens
    one_tells (move.Deliver Controller number) happens meant = away_tells (slice_get before.sent number) meant happens
    one_tells (move.Tick Device) happens meant = idle_tells Ticks refl happens meant
    one_tells (move.Tick Controller) happens meant = goes_tells event.Tick meant happens
    one_tells (move.Application local) happens meant = idle_tells (Applied local) refl happens meant
    one_tells (move.Neighbour neighbour) happens meant = idle_tells (Met (option_map peer_as neighbour)) refl happens meant
    one_tells (move.Give slot subslot value) happens meant = goes_tells (event.Give slot subslot value) meant happens
    one_tells (move.OutputStatus slot subslot is_good) happens meant = goes_tells (event.Status slot subslot is_good) meant happens
    one_tells (move.Read slot subslot index) happens meant = goes_tells (event.Read slot subslot index) meant happens
    one_tells (move.Write slot subslot index octets) happens meant = goes_tells (event.Write slot subslot index octets) meant happens
    one_tells move.Stop happens meant = goes_tells event.Stop meant happens

  -- the alarms and the diagnoses of a relation, and its places
  record Held (Apart : Type 0) (w : World F) (at : List RealModule) (raised : List AlarmNotification) : Type 0 where
    knows : KnowsAt Apart w raised
    placed : PlacedAt w at raised

  module _ (so : DeviceSo) (hears : HearsSo) (elsewhere : ElsewhereSo) (Apart : Type 0) (alone : Apart) {S : ℕ} (as_flash : Flash F S) (before after : World F) (raised taken : List AlarmNotification)
      (follows : FollowsAt low_priority before raised taken) (at : List RealModule) (held : Held Apart before at raised) where
    -- until the device answered a call it has no relation, so any first places will do
    placed_later : PlacedAt before (later_of before at) raised
    placed_later = by_kept (kept_at before.controller.setup before.device.live) refl
      where
        by_kept : (o : Option small.Kept) → kept_at before.controller.setup before.device.live ≡ o → PlacedAt before (later_at o before.device.live.rest.real.modules.items at) raised
        by_kept None e = record {
          apart = held.placed.apart;
          placed = λ l is. absurd (follows.linked (link_of l) (ap (λ (o : Option RelationState). option_map link_of o) is) e);
        }
        by_kept (Some kept) e = held.placed

    -- nothing happens at the device
    rests_held : after.device ≡ before.device → after.controller.setup ≡ before.controller.setup → Held Apart after (later_of before at) (raised ++ reported_with before after)
    rests_held same still = record {
      knows = subst (λ (d : State F). Knows Apart d.live.rest.real.modules.items d.live.rest.link d.live.rest.diagnoses (raised ++ reported_by before.device.live.rest.link d.live.rest.link)) (sym same)
          (subst (λ (xs : List AlarmNotification). KnowsAt Apart before xs) (sym silent) held.knows);
      placed = subst (λ (setup : Setup). ArePlaced (rows_at setup (later_of before at)) after.device.live.rest.real.modules.items after.device.live.rest.link (raised ++ reported_with before after)) (sym still)
          (subst (λ (d : State F).
          ArePlaced (rows_at before.controller.setup (later_of before at)) d.live.rest.real.modules.items d.live.rest.link (raised ++ reported_by before.device.live.rest.link d.live.rest.link)) (sym same)
          (subst (λ (xs : List AlarmNotification). PlacedAt before (later_of before at) xs) (sym silent) placed_later));
    }
      where
        silent : raised ++ reported_by before.device.live.rest.link before.device.live.rest.link ≡ raised
        silent = ap (λ (xs : List AlarmNotification). raised ++ xs) (reported_same before.device.live.rest.link before.device.live.rest.link refl) ∙ append-nil raised

    -- the device hears something
    hears_held : (heard : Heard) → IsSmall heard → ((sequence : ℕ) → heard_as (is_planned before.controller.setup) heard ≡ small.Call sequence small.Connects → sequence ≡ 0)
        → ((sequence : ℕ) → heard_as (is_planned before.controller.setup) heard ≡ small.Call sequence small.Accesses → kept_at before.controller.setup before.device.live ≡ None → ⊥)
        → AtDevice as_flash before heard after → IsMeantAtDevice before heard → Held Apart after (later_of before at) (raised ++ reported_with before after)
    hears_held heard is_small first late made meant =
        let live = before.device.live in
        let station = before.device.station in
        let outcomes = made.hears.steps.outcomes in
        let step = heard_step outcomes station live heard in
        let link = step.live.rest.link in
        let turn = turn_at low_priority so hears as_flash before after raised taken follows heard outcomes meant in
        let acts = so.turns (rules_of before.controller.setup station) before.controller.setup.activity outcomes station live heard meant.planned in
        record {
          knows = subst (λ (l : Live). Knows Apart l.rest.real.modules.items l.rest.link l.rest.diagnoses (raised ++ reported_by live.rest.link l.rest.link)) (sym made.hears.steps.live)
              (knows_on so.keys elsewhere Apart live.rest.real.modules.items live.rest.link live.rest.diagnoses raised held.knows live.rest.calls heard link step.live.rest.real.modules.items step.live.rest.diagnoses step.sent is_small
              (λ makes. (
                alone_so low_priority so hears as_flash before after raised taken follows heard first late made meant link step.sent makes,
                follows.unraised (makes_so low_priority so hears as_flash before after raised taken follows heard first late made meant link step.sent makes).0,
                stated_made station live heard step.live.rest step.sent (alone_so low_priority so hears as_flash before after raised taken follows heard first late made meant link step.sent makes) acts.does,
              )) turn (modules_in station live heard step.live.rest step.sent acts) acts.diagnoses);
          placed = subst (λ (c : Controlling). ArePlaced (rows_at c.setup (later_of before at)) after.device.live.rest.real.modules.items after.device.live.rest.link (raised ++ reported_with before after))
              (sym made.controller)
              (subst (λ (l : Live). ArePlaced (rows_at before.controller.setup (later_of before at)) l.rest.real.modules.items l.rest.link (raised ++ reported_by live.rest.link l.rest.link)) (sym made.hears.steps.live)
              (placed_on Apart alone (rows_at before.controller.setup (later_of before at)) live.rest.real.modules.items live.rest.link live.rest.diagnoses raised held.knows placed_later live.rest.calls heard link
              step.live.rest.real.modules.items step.live.rest.diagnoses step.sent
              (λ makes.
              let first_call = makes_so low_priority so hears as_flash before after raised taken follows heard first late made meant link step.sent makes in (
                alone_so low_priority so hears as_flash before after raised taken follows heard first late made meant link step.sent makes,
                follows.unraised first_call.0,
                λ slot subslot.
                    ap (λ (o : Option small.Kept). rows_at before.controller.setup (later_at o live.rest.real.modules.items at) slot subslot) first_call.0
                    ∙ ap (λ (r : Request). is_listed slot subslot (diff_of r.expected live.rest.real.modules.items)) (sym first_call.1),
              )) turn (modules_in station live heard step.live.rest step.sent acts)));
        }

    idle_held : (heard : Heard) → IsSmall heard → heard_as (is_planned before.controller.setup) heard ≡ small.Idle
        → AtDevice as_flash before heard after → IsMeantAtDevice before heard → Held Apart after (later_of before at) (raised ++ reported_with before after)
    idle_held heard is_small idle made meant =
        hears_held heard is_small (λ sequence e. absurd (idle_connect sequence (sym idle ∙ e))) (λ sequence e none. absurd (idle_access sequence (sym idle ∙ e))) made meant
      where
        idle_connect : (sequence : ℕ) → small.Idle ≡ small.Call sequence small.Connects → ⊥
        idle_connect sequence e = absurd cc

        idle_access : (sequence : ℕ) → small.Idle ≡ small.Call sequence small.Accesses → ⊥
        idle_access sequence e = absurd cc

    comes_held : (octets : List ℕ) (skipped : Bool) → IsIn low_priority before.controller.setup before.device.station.identity follows.relation octets
        → (kept_at before.controller.setup before.device.live ≡ None → IsEarlyFrame before.controller.setup before.device.station octets)
        → IsMeantAtDevice before (heard_of before.device.station.identity (Frame (record { items = octets }))) → Comes as_flash skipped before Device octets after
        → Held Apart after (later_of before at) (raised ++ reported_with before after)
    comes_held octets true is early meant comes = rests_held (ap (λ (w : World F). w.device) comes) (ap (λ (w : World F). w.controller.setup) comes)
    comes_held octets false is early meant comes =
        let heard = heard_of before.device.station.identity (Frame (record { items = octets })) in
        hears_held heard (framed_small heard (of_frame before.device.station.identity octets)) is.first (λ sequence e unkept. (early unkept).0 sequence e) comes meant

    delivered_held : (octets : Option (List ℕ))
        → ((frame : List ℕ) → octets ≡ Some frame → IsIn low_priority before.controller.setup before.device.station.identity follows.relation frame)
        → ((frame : List ℕ) → octets ≡ Some frame → kept_at before.controller.setup before.device.live ≡ None → IsEarlyFrame before.controller.setup before.device.station frame)
        → ((frame : List ℕ) → octets ≡ Some frame → IsMeantAtDevice before (heard_of before.device.station.identity (Frame (record { items = frame }))))
        → Delivers as_flash octets before Device after → Held Apart after (later_of before at) (raised ++ reported_with before after)
    delivered_held None is early meant comes = rests_held (ap (λ (w : World F). w.device) comes) (ap (λ (w : World F). w.controller.setup) comes)
    delivered_held (Some octets) is early meant comes = comes_held octets (is_skipped before.device before.controller Device octets) (is octets refl) (early octets refl) (meant octets refl) comes

    away_held : (octets : Option (List ℕ)) → Delivers as_flash octets before Controller after → Held Apart after (later_of before at) (raised ++ reported_with before after)
    away_held octets comes =
        rests_held (delivered_device low_priority so hears as_flash before after raised taken follows octets comes) (delivered_setup as_flash before after octets comes)

    one_held : (one : Move) → Happens as_flash before one after → IsMeant before one → IsSizedMove one → Held Apart after (later_of before at) (raised ++ reported_with before after)
    one_held (move.Deliver Device number) happens meant sized =
        delivered_held (slice_get before.sent number) (λ frame there. in_at low_priority so hears as_flash before after raised taken follows number frame there)
        (λ frame there. early_at low_priority so hears as_flash before after raised taken follows number frame there) meant happens
    one_held (move.Deliver Controller number) happens meant sized = away_held (slice_get before.sent number) happens
    one_held (move.Tick Device) happens meant sized = idle_held Ticks (λ change e. absurd cc) refl happens meant
    one_held (move.Application (local.Diagnosis slot subslot channel error appears)) happens meant sized =
        idle_held (Applied (local.Diagnosis slot subslot channel error appears))
        (λ change e. subst (λ (n : ℕ). n < 65536) (sym (error_is slot subslot channel error appears change e)) sized) refl happens meant
    one_held (move.Application other) happens meant sized = idle_held (Applied other) (λ change e. absurd cc) refl happens meant
    one_held (move.Neighbour neighbour) happens meant sized = idle_held (Met (option_map peer_as neighbour)) (λ change e. absurd cc) refl happens meant
    one_held other happens meant sized = rests_held (ap (λ (w : World F). w.device) happens) (one_setup as_flash before after other happens)

  -- ---- the controller

  module _ (Clear : Type 0) (so : DeviceSo) (hears : HearsSo) {S : ℕ} (as_flash : Flash F S) (before after : World F) (raised taken : List AlarmNotification)
      (follows : FollowsAt low_priority before raised taken) (told : AllByRecursion (TellsIn Clear before.controller.setup) before.sent)
      (shown : IsShown Clear before.controller.setup taken before.controller.live) where
    -- nothing happens at the controller
    rests_shown : after.controller ≡ before.controller → IsShown Clear after.controller.setup (taken ++ []) after.controller.live
    rests_shown same =
        subst (λ (c : Controlling). IsShown Clear c.setup (taken ++ []) c.live) (sym same) (subst (λ (xs : List AlarmNotification). IsShown Clear before.controller.setup xs before.controller.live) (sym (append-nil taken)) shown)

    -- the controller goes on with this event
    goes_shown : (one : Event) (now : List AlarmNotification) → IsShown Clear before.controller.setup now (turn_of before.controller.setup before.controller.live one).live
        → after.controller ≡ (step_of before.controller one).controller → IsShown Clear after.controller.setup now after.controller.live
    goes_shown one now is made = subst (λ (c : Controlling). IsShown Clear c.setup now c.live) (sym (made ∙ controller_is before.controller one)) is

    comes_shown : (octets : List ℕ) (skipped : Bool) → IsIn low_priority before.controller.setup before.device.station.identity follows.relation octets → TellsIn Clear before.controller.setup octets
        → Comes as_flash skipped before Controller octets after → IsShown Clear after.controller.setup (taken ++ taken_in low_priority skipped before.controller octets) after.controller.live
    comes_shown octets true is tells comes = rests_shown (same_world as_flash before after comes)
    comes_shown octets false is tells comes =
        goes_shown (event.Frame (record { items = octets })) (taken ++ taken_in low_priority false before.controller octets)
        (heard_shown Clear before.controller.setup taken before.device.station.identity.mac before.controller.live (heard_by before.controller.setup.plan.controller octets) is.good tells shown)
        (ap (λ (w : World F). w.controller) comes)

    delivered_shown : (octets : Option (List ℕ))
        → ((frame : List ℕ) → octets ≡ Some frame → IsIn low_priority before.controller.setup before.device.station.identity follows.relation frame)
        → ((frame : List ℕ) → octets ≡ Some frame → TellsIn Clear before.controller.setup frame) → Delivers as_flash octets before Controller after → IsShown Clear after.controller.setup (taken ++ taken_from low_priority before octets) after.controller.live
    delivered_shown None is tells comes = rests_shown (same_world as_flash before after comes)
    delivered_shown (Some octets) is tells comes =
        comes_shown octets (is_skipped before.device before.controller Controller octets) (is octets refl) (tells octets refl) comes

    event_goes : (one : Event) → IsShown Clear before.controller.setup taken (turn_of before.controller.setup before.controller.live one).live → after.controller ≡ (step_of before.controller one).controller
        → IsShown Clear after.controller.setup (taken ++ []) after.controller.live
    event_goes one is made = goes_shown one (taken ++ []) (subst (λ (xs : List AlarmNotification). IsShown Clear before.controller.setup xs (turn_of before.controller.setup before.controller.live one).live) (sym (append-nil taken)) is) made

    one_shown : (one : Move) → Happens as_flash before one after → IsShown Clear after.controller.setup (taken ++ taken_with low_priority before one) after.controller.live
    one_shown (move.Deliver Device number) happens = rests_shown (device_delivered as_flash before after (slice_get before.sent number) happens)
    one_shown (move.Deliver Controller number) happens =
        delivered_shown (slice_get before.sent number) (λ frame there. in_at low_priority so hears as_flash before after raised taken follows number frame there)
        (λ frame there. each_at (TellsIn Clear before.controller.setup) before.sent number frame told there) happens
    one_shown (move.Tick Device) happens = rests_shown happens.controller
    one_shown (move.Tick Controller) happens =
        event_goes event.Tick (event_shown Clear before.controller.setup taken before.controller.live event.Tick tt shown) (ap (λ (w : World F). w.controller) happens)
    one_shown (move.Application local) happens = rests_shown happens.controller
    one_shown (move.Neighbour neighbour) happens = rests_shown happens.controller
    one_shown (move.Give slot subslot value) happens =
        event_goes (event.Give slot subslot value) (event_shown Clear before.controller.setup taken before.controller.live (event.Give slot subslot value) tt shown) (ap (λ (w : World F). w.controller) happens)
    one_shown (move.OutputStatus slot subslot is_good) happens =
        event_goes (event.Status slot subslot is_good) (event_shown Clear before.controller.setup taken before.controller.live (event.Status slot subslot is_good) tt shown)
        (ap (λ (w : World F). w.controller) happens)
    one_shown (move.Read slot subslot index) happens =
        event_goes (event.Read slot subslot index) (event_shown Clear before.controller.setup taken before.controller.live (event.Read slot subslot index) tt shown) (ap (λ (w : World F). w.controller) happens)
    one_shown (move.Write slot subslot index octets) happens =
        event_goes (event.Write slot subslot index octets) (event_shown Clear before.controller.setup taken before.controller.live (event.Write slot subslot index octets) tt shown)
        (ap (λ (w : World F). w.controller) happens)
    one_shown move.Stop happens =
        event_goes event.Stop (event_shown Clear before.controller.setup taken before.controller.live event.Stop tt shown) (ap (λ (w : World F). w.controller) happens)

  -- ---- any run

  -- the alarms of a relation, what its frames tell, and what its controller says of the places
  record Showing (w : World F) (raised taken : List AlarmNotification) : Type 0 where
    follows : FollowsAt low_priority w raised taken
    planned : AreSizedModules w.controller.setup.plan.real.modules.items
    at : List RealModule
    telling : TellingAt w at
    shown : IsShown (ClearAt w at) w.controller.setup taken w.controller.live

  -- and how its places are
  record Agreeing (Apart : Type 0) (w : World F) (raised taken : List AlarmNotification) : Type 0 where
    showing : Showing w raised taken
    held : Held Apart w showing.at raised

  module _ (so : DeviceSo) (hears : HearsSo) (blocks : BlocksSo) {S : ℕ} (as_flash : Flash F S) where
    one_shows : (w next : World F) (raised taken : List AlarmNotification) → Showing w raised taken → (one : Move) → Happens as_flash w one next → IsMeant w one → IsSizedMove one
        → Showing next (raised ++ reported_with w next) (taken ++ taken_with low_priority w one)
    one_shows w next raised taken is one made meant sized =
        let told = one_tells so hears blocks as_flash w next raised taken is.follows is.planned is.at is.telling one made meant in record {
          follows = one_follows low_priority so hears as_flash w next raised taken is.follows one made meant sized;
          planned = subst (λ (setup : Setup). AreSizedModules setup.plan.real.modules.items) (sym (one_setup as_flash w next one made)) is.planned;
          at = later_of w is.at;
          telling = told.telling;
          shown = shown_on (ClearAt w is.at) (ClearAt next (later_of w is.at)) told.clear next.controller.setup (taken ++ taken_with low_priority w one) next.controller.live
              (one_shown (ClearAt w is.at) so hears as_flash w next raised taken is.follows is.telling.frames is.shown one made);
        }

    -- the set-up is that of the first world
    run_shows : (w : World F) (raised taken : List AlarmNotification) → Showing w raised taken
        → (run : List (Move × World F)) → AreMade as_flash w run → AreMeant w run → AreSizedMoves run
        → Showing (last_world w run) (raised ++ reported_over w run) (taken ++ taken_over low_priority w run) × ((last_world w run).controller.setup ≡ w.controller.setup)
    run_shows w raised taken is [] made meant sized = (
      subst (λ (xs : List AlarmNotification). Showing w xs (taken ++ [])) (sym (append-nil raised))
          (subst (λ (xs : List AlarmNotification). Showing w raised xs) (sym (append-nil taken)) is),
      refl,
    )
    run_shows w raised taken is (one ∷ run) made meant sized =
        let now = reported_with w one.1 in
        let next = one_shows w one.1 raised taken is one.0 made.0 meant.0 sized.0 in
        let all = run_shows one.1 (raised ++ now) (taken ++ taken_with low_priority w one.0) next run made.1 meant.1 sized.1 in (
          subst (λ (xs : List AlarmNotification). Showing (last_world one.1 run) xs (taken ++ (taken_with low_priority w one.0 ++ taken_over low_priority one.1 run))) (append_assoc raised now (reported_over one.1 run))
              (subst (λ (xs : List AlarmNotification). Showing (last_world one.1 run) ((raised ++ now) ++ reported_over one.1 run) xs)
              (append_assoc taken (taken_with low_priority w one.0) (taken_over low_priority one.1 run)) all.0),
          all.1 ∙ one_setup as_flash w one.1 one.0 made.0,
        )

    run_agrees : ElsewhereSo → (Apart : Type 0) → Apart → (w : World F) (raised taken : List AlarmNotification) → Agreeing Apart w raised taken
        → (run : List (Move × World F)) → AreMade as_flash w run → AreMeant w run → AreSizedMoves run → Agreeing Apart (last_world w run) (raised ++ reported_over w run) (taken ++ taken_over low_priority w run)
    unfolding one_shows
    run_agrees elsewhere Apart alone w raised taken is [] made meant sized =
        subst (λ (xs : List AlarmNotification). Agreeing Apart w xs (taken ++ [])) (sym (append-nil raised))
        (subst (λ (xs : List AlarmNotification). Agreeing Apart w raised xs) (sym (append-nil taken)) is)
    run_agrees elsewhere Apart alone w raised taken is (one ∷ run) made meant sized =
        let now = reported_with w one.1 in
        let next : Agreeing Apart one.1 (raised ++ now) (taken ++ taken_with low_priority w one.0) = record {
          showing = one_shows w one.1 raised taken is.showing one.0 made.0 meant.0 sized.0;
          held = one_held so hears elsewhere Apart alone as_flash w one.1 raised taken is.showing.follows is.showing.at is.held one.0 made.0 meant.0 sized.0;
        } in
        let all = run_agrees elsewhere Apart alone one.1 (raised ++ now) (taken ++ taken_with low_priority w one.0) next run made.1 meant.1 sized.1 in
        subst (λ (xs : List AlarmNotification). Agreeing Apart (last_world one.1 run) xs (taken ++ (taken_with low_priority w one.0 ++ taken_over low_priority one.1 run))) (append_assoc raised now (reported_over one.1 run))
        (subst (λ (xs : List AlarmNotification). Agreeing Apart (last_world one.1 run) ((raised ++ now) ++ reported_over one.1 run) xs) (append_assoc taken (taken_with low_priority w one.0) (taken_over low_priority one.1 run)) all)

  -- ---- from the start

  first_knows : (setup : Setup) (identity : Identity) (first : World F) → Begins setup identity first → AreKnown first.device.live.rest.diagnoses
      → KnowsAt (NoneIsAtZero first.device.live.rest.real.modules.items) first []
  first_knows setup identity first begins known = record {
    known = known;
    none = λ none. none;
    begins = λ l is. absurd (none_some l first.device.live.rest.link begins.unrelated is);
    stated = λ l is. absurd (none_some l first.device.live.rest.link begins.unrelated is);
    before = λ l is off. absurd (none_some l first.device.live.rest.link begins.unrelated is);
    told = λ l is on. absurd (none_some l first.device.live.rest.link begins.unrelated is);
  }

  module _ (so : DeviceSo) (hears : HearsSo) (blocks : BlocksSo) (setup : Setup) (identity : Identity) (good : IsSetup setup) (planned : AreSizedModules setup.plan.real.modules.items)
      (can : CanMeet setup identity) {S : ℕ} (as_flash : Flash F S)
      (first : World F) (run : List (Move × World F)) (begins : Begins setup identity first) (real : AreSizedModules first.device.live.rest.real.modules.items)
      (made : AreMade as_flash first run) (sized : AreSizedMoves run) (meant : AreMeant first run) where
    abbrev modules : List RealModule
    modules = first.device.live.rest.real.modules.items

    -- the controller does not hear its opening frame
    unheard : heard_by first.controller.setup.plan.controller (opening_of first.controller) ≡ controller.Nothing
    unheard =
        asks_unheard first.device.station.identity first.controller.setup (opening_of first.controller) first.controller.setup.plan.controller.mac (identify_asked first.controller.setup.plan)
        (opening_asks hears.identify first.device.station.identity first.controller (subst (λ (s : Setup). IsSetup s) (sym begins.of_setup) good))
        (other_mac first.device.station.identity.mac first.controller.setup.plan.controller.mac
        (subst (λ (s : Setup). first.device.station.identity.mac ≡ s.plan.controller.mac → ⊥) (sym begins.of_setup)
        (subst (λ (i : Identity). i.mac ≡ setup.plan.controller.mac → ⊥) (sym begins.of_device) can.apart)))

    first_tells : TellingAt first modules
    first_tells = record {
      again = λ kept is. absurd (none_some kept (kept_at first.controller.setup first.device.live)
          (ap (λ (o : Option Answer). option_map kept_in o) (subst (λ (s : Setup). kept_of s.activity first.device.live.rest.calls ≡ None) (sym begins.of_setup) begins.uncalled)) is);
      frames = subst (λ (frames : List (List ℕ)). AllByRecursion (TellsIn (ClearAt first modules) first.controller.setup) frames) (sym begins.opened)
          (subst (λ (h : controller.Heard). TellsSo (ClearAt first modules) first.controller.setup h) (sym unheard) tt, tt);
    }

    first_shows : Showing first [] []
    first_shows = record {
      follows = first_follows low_priority so hears setup identity good can first begins real;
      planned = subst (λ (s : Setup). AreSizedModules s.plan.real.modules.items) (sym begins.of_setup) planned;
      at = modules;
      telling = first_tells;
      shown = subst (λ (l : ControllerLive). IsShown (ClearAt first modules) first.controller.setup [] l) (sym begins.made) (first_shown (ClearAt first modules) first.controller.setup setup.plan);
    }

    showing_so : Showing (last_world first run) (reported_over first run) (taken_over low_priority first run) × ((last_world first run).controller.setup ≡ first.controller.setup)
    showing_so = run_shows so hears blocks as_flash first [] [] first_shows run made meant sized

    -- the set-up of the controller
    setup_is : (last_world first run).controller.setup ≡ setup
    setup_is = showing_so.1 ∙ begins.of_setup

    -- its places are those of the plan
    pub places_so : (last_world first run).controller.live.stands ≡ true → AreThePlaces setup.plan.real.modules.items (last_world first run).controller.live.places
    places_so up slot subslot =
        there_of (is_in_plan (last_world first run).controller.setup.plan.real.modules.items) (last_world first run).controller.live.places (showing_so.0.shown.sees up).own slot subslot
        ∙ ap (λ (s : Setup). is_in_plan s.plan.real.modules.items slot subslot) setup_is

    module _ (elsewhere : ElsewhereSo) (known : AreKnown first.device.live.rest.diagnoses) (none : NoneIsAtZero first.device.live.rest.real.modules.items)
        (apart : ArePluggedApart first.device.live.rest.real.modules.items) where
      agreeing_so : Agreeing (NoneIsAtZero first.device.live.rest.real.modules.items) (last_world first run) (reported_over first run) (taken_over low_priority first run)
      agreeing_so =
          run_agrees so hears blocks as_flash elsewhere (NoneIsAtZero first.device.live.rest.real.modules.items) none first [] [] (record {
            showing = first_shows;
            held = record {
              knows = first_knows setup identity first begins known;
              placed = record { apart = apart; placed = λ l is. absurd (none_some l first.device.live.rest.link begins.unrelated is) };
            };
          }) run made meant sized

      -- each is plugged once
      pub apart_so : ArePluggedApart (last_world first run).device.live.rest.real.modules.items
      apart_so = agreeing_so.held.placed.apart

      module _ (all_law : AreAllTaken) (few : length (reported_over first run) ≤ 32768) (link : RelationState) (is : (last_world first run).device.live.rest.link ≡ Some link)
          (unsent : link.flow.low.alarms.sender.standing ≡ None) (empty : link.flow.low.waiting ≡ []) (up : (last_world first run).controller.live.stands ≡ true) where
        abbrev last : World F
        last = last_world first run

        abbrev alarms : List AlarmNotification
        alarms = reported_over first run

        accepted : taken_over low_priority first run ≡ alarms
        accepted = lacks_none low_priority last alarms (taken_over low_priority first run) agreeing_so.showing.follows all_law few link is unsent

        -- what the controller knows is what was reported
        known_so : (slot subslot : ℕ) (state : PlaceState) → state_at slot subslot last.controller.live.places ≡ Some state → known_of state ≡ known_by alarms slot subslot None
        known_so slot subslot state found =
            let seen = agreeing_so.showing.shown.sees up in
            state_as (λ s ss. known_by (taken_over low_priority first run) s ss None) last.controller.live.places slot subslot state seen.are found
            ∙ ap (λ (xs : List AlarmNotification). known_by xs slot subslot None) accepted

        -- where none is unacknowledged and none waits, both ends agree of each place
        pub agreed_so : AreAgreed last.device.live.rest.real.modules.items link last.controller.live.places
        agreed_so slot subslot state found =
            let all = agreeing_so in
            let placed = all.held.placed.placed link is in
            let seen = all.showing.shown.sees up in
            let there : is_expected link.request.expected slot subslot ≡ true =
            ap (λ (r : Request). is_expected r.expected slot subslot) (all.showing.follows.sized link is).same
            ∙ (planned_expected last.controller.setup.plan.real.modules.items slot subslot
            ∙ (sym (there_of (is_in_plan last.controller.setup.plan.real.modules.items) last.controller.live.places seen.own slot subslot) ∙ ap (λ (o : Option PlaceState). is_some o) found)) in
            amiss_is state
            ∙ (ap (λ (o : Option Bool). amiss_in o) (known_so slot subslot state found)
            ∙ (known_amiss alarms slot subslot None
            ∙ (all_seen placed.changes alarms placed.reports slot subslot false
            ∙ (ap (λ (xs : List LowChange). changes_after xs slot subslot false) (sym (append-nil placed.changes))
            ∙ (ap (λ (ws : List QueuedAlarm). changes_after (placed.changes ++ map change_in ws) slot subslot false) (sym empty)
            ∙ (ap (λ (b : Bool). changes_after (placed.changes ++ map change_in link.flow.low.waiting) slot subslot b) (sym (seen.clear.1 slot subslot)) ∙ placed.are slot subslot there))))))

        -- and a place of which nothing was reported is there
        pub untouched_so : AreUntouched setup.plan.real.modules.items last.device.live.rest.real.modules.items link alarms last.controller.live.places
        untouched_so slot subslot planned_so unreported = by_found (state_at slot subslot last.controller.live.places) refl
          where
            by_found : (o : Option PlaceState) → state_at slot subslot last.controller.live.places ≡ o
                → (state_at slot subslot last.controller.live.places ≡ Some There) × (is_listed slot subslot (rows_now last.device.live.rest.real.modules.items link) ≡ false)
            by_found None e = absurd (false≢true (ap (λ (o : Option PlaceState). is_some o) (sym e) ∙ (places_so up slot subslot ∙ planned_so)))
            by_found (Some state) e =
                let there = there_is state (known_so slot subslot state e ∙ known_none alarms slot subslot unreported) in
                (e ∙ ap (λ (s : PlaceState). Some s) there, sym (agreed_so slot subslot state e) ∙ ap is_amiss there)
