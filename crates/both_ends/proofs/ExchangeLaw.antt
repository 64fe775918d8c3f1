-- Over any run of worlds, the accepted alarms of either priority are a prefix of the raised ones.
use Rattle.std.proofs.Common.{◌≡◌, ◌⊎◌, inl, inr, ◌==◌, ◌&&◌, ◌||◌, ◌++◌, ◌≤◌, ◌+◌, ℕ, Bool, true, false, List, [], ◌∷◌, map, length, Option, Some, None, option_map, Result, Ok, Err, refl, sym, ap, subst, ◌∙◌, append-nil, append_assoc, arith}
use Rattle.std.specs.Prelude.{nat_eq, slice_get}
use Rattle.std.specs.Cmp.Lexicographic.{pointwise}
use Rattle.std.specs.List.{AllByRecursion}
use Rattle.lldp.specs.Views.{peer_as}
use Rattle.std.proofs.lemmas.List.{length-append}
use Rattle.flash_model.specs.declared.flash.Flash.{Ghosts as Flash}
use Rattle.settings_journal.specs.settings_store.Machine.{Outcome}
use Rattle.pn_values.specs.declared.identity.Identity.{Identity}
use Rattle.pn_values.specs.declared.mac.Mac.{Mac}
use Rattle.frame_codec.specs.declared.fault.FrameFault.{FrameFault}
use Rattle.frame_codec.specs.FrameId.{is_alarm, is_cyclic}
use Rattle.frame_codec.specs.Frame.{frame_of}
use Rattle.frame_codec.specs.Meaning.{ArpPacket, Content, Meaning, RealTime, UdpDatagram}
use Rattle.dcp_core.specs.declared.request.DcpFault.{DcpFault}
use Rattle.dcp_core.specs.Reading.{request_of}
use Rattle.dcp_core.specs.Request.{Asked}
use Rattle.pn_alarms.specs.declared.fault.AlarmFault.{AlarmFault}
use Rattle.pn_alarms.specs.declared.pdu.Header.{Header}
use Rattle.pn_alarms.specs.Message.{ToDevice, message_of}
use Rattle.record_blocks.specs.declared.alarm_notification.AlarmNotification.{AlarmNotification}
use Rattle.rpc_core.specs.Cache.{Kept as Answer, kept_of}
use Rattle.connects.specs.requests.Request.{Request}
use Rattle.records.specs.declared.writes.taken.TakenRecord.{TakenRecord}
use Rattle.relations.specs.RelationState.{RelationState}
use Rattle.relations.specs.Exchanged.{raised_to}
use Rattle.device_frames.specs.declared.event.Event.TheVariants.{Frame}
use Rattle.pn_values.specs.declared.real.Real.{Real}
use Rattle.pn_values.specs.declared.real.RealModule.{RealModule}
use Rattle.diagnosis.specs.declared.reports.priority.Priority.{Priority}
use Rattle.diagnosis.specs.declared.reports.priority.Priority.TheVariants.{High, Low}
use Rattle.record_blocks.specs.declared.alarm_ack.AlarmAck.{AlarmAck}
use Rattle.diagnosis.specs.declared.diagnosis.Diagnosis.{Diagnosis}
use Rattle.diagnosis.specs.reported.Reported.{nothing_reported}
use Rattle.pn_alarms.specs.Ends.{DeviceEnd}
use Rattle.both_ends.specs.startup.request.Request.{request_for}
use Rattle.device_frames.specs.Sent.{Sent as DeviceSent}
use Rattle.device_frames.specs.declared.local.Local.TheVariants as local
use Rattle.device_frames.specs.Heard.{Heard, Ticks, Elsewhere, Asks, Resolves, Cyclic, Applied, Met, broadcast, heard_alarm, heard_content, heard_frame, heard_of, heard_request, is_own, is_taken}
use Rattle.device_core.specs.State.{State, Station, Live, Rest}
use Rattle.device_core.specs.Machine.{heard_step}
use Rattle.controller_messages.specs.declared.request.Request.TheVariants as asks
use Rattle.controller_messages.specs.declared.setup.Setup.{Setup}
use Rattle.controller_messages.specs.Heard as controller
use Rattle.controller_messages.specs.Heard.{heard_of as heard_by}
use Rattle.controller_messages.specs.Requests.{identify_asked}
use Rattle.controller_messages.specs.Sent as said
use Rattle.end_laws.specs.hearing.Hearing.{comes}
use Rattle.end_laws.specs.hearing.Stations.{IsSetup}
use Rattle.controller_core.specs.declared.stored.event.Event.{Event}
use Rattle.controller_core.specs.declared.stored.event.Event.TheVariants as event
use Rattle.controller_core.specs.stored.State.{Controlling, Live as ControllerLive, with_live}
use Rattle.controller_core.specs.Machine.{first as first_live, opening_of, step_of, turn_of, turned}
use Rattle.end_laws.specs.turns.Alarms.{AreAllTaken, AreTakenInOrder, LackAtMostTheLast, ListsWhatIsReported, Relation, ShowsTheLast, after_reports, last_of, shown_of, start}
use Rattle.diagnosis.specs.World.{IsPrefixOf}
use Rattle.network_world.specs.declared.moves.End.TheVariants.{Device, Controller}
use Rattle.network_world.specs.declared.moves.Move.{Move}
use Rattle.network_world.specs.declared.moves.Move.TheVariants as move
use Rattle.network_world.specs.World.{AreMade, at_controller, AtDevice, Comes, Delivers, Happens, is_skipped, last_world, World}
use Rattle.end_laws.specs.both.Small as small
use Rattle.end_laws.specs.both.Small.{Rules}
use Rattle.end_laws.specs.both.Steps.{DeviceSteps}
use Rattle.end_laws.specs.device.Orderly.{IsOrderlyIn}
use Rattle.end_laws.specs.device.Turn.{Changes, IsRaise, Makes, Turn, alarm_heard}
use Rattle.end_laws.specs.device.Small.{IsAskedOwn, IsHeardAs, IsPlanned, Planned, heard_as, kept_in, link_of, small_of}
use Rattle.both_ends.specs.startup.Played.{AreMeant, Begins, CanMeet}
use Rattle.end_laws.specs.controller.Small.{said_to}
use Rattle.both_ends.specs.startup.View.{IsMeant, IsMeantAtController, IsMeantAtDevice, is_planned, rules_of}
use Rattle.asked_records.specs.declared.question.Question.{Question}
use Rattle.both_ends.proofs.StartupAsked.{OwnsSo, first_own}
use Rattle.both_ends.proofs.ExchangeEarly.{IsEarlyAt, IsEarlyFrame}
use Rattle.both_ends.proofs.ExchangeOutputsTurns.{KindsSo}
use Rattle.end_laws.specs.sending.Messages.{CanBeSent as CanBeSaid}
use Rattle.end_laws.specs.sending.Sized.{IsLive, IsSized, IsSizedEvent}
use Rattle.both_ends.specs.exchange.Sized.{AreSizedModules}
use Rattle.both_ends.specs.exchange.Told.{AreSizedMoves, IsSizedMove}
use Rattle.both_ends.proofs.ExchangeRelated.{IsRight, response_right}
use Rattle.both_ends.proofs.ExchangeMade.{stated_made}
use Rattle.both_ends.proofs.ExchangeServed.{all_served}
use Rattle.both_ends.proofs.ExchangeStated.{IsSizedHeard, change_sized}
use Rattle.both_ends.proofs.ExchangeWell.{all_well}
use Rattle.both_ends.proofs.ExchangePlaced.{IsEventOf, IsOf, IsPlaced, event_placed, first_placed}
use Rattle.both_ends.proofs.ExchangeReported.{IsGood, IsWell, ack_in, alarm_in, noted_at, reported_at}
use Rattle.both_ends.proofs.ExchangeMessages.{HearsSo, all_noted, all_ready, all_reported, both_sized, other_mac}
use Rattle.both_ends.proofs.ExchangeKeys.{KeysSo}
use Rattle.both_ends.proofs.ExchangeSizes.{turn_sized}
use Rattle.both_ends.specs.exchange.Over.{IsOneOfTheLastTwo, number_in, raised_in, raised_over, raised_with, reported_by, reported_over, reported_with, taken_by, taken_from, taken_in, taken_over, taken_with}
use Rattle.both_ends.proofs.ExchangeOpening.{asks_unheard}
use Rattle.both_ends.proofs.ExchangeLists.{each_at, holds_if, none_some}
use Rattle.both_ends.proofs.ExchangeTurns.{IsTurn, as_alarms, end_at}
use Rattle.both_ends.proofs.ExchangeHeardAlarm.{alarm_holds}
use Rattle.both_ends.proofs.ExchangeLowTied.{low_turn_on, reported_same}
use Rattle.both_ends.proofs.ExchangeTied.{Goes, IsFresh, IsHeard, IsSaid, IsTied, IsUnraised, raise_on, turn_on}
use Rattle.both_ends.proofs.ExchangeFollows.{Follows, IsEventIn, IsIn, controller_follows, device_follows, kept_at, makes_fresh, later_asked, makes_planned, plain_asked, taken_at, unlinked, unlinked_new}

-- ---- what a controller hears of its device

of_device : (setup : Setup) (mac : Mac) (heard : controller.Heard) → IsGood mac heard → IsWell setup heard → IsOf setup mac heard
of_device setup mac (controller.Answers source answer) good fit = good.0
of_device setup mac (controller.Responds response) good fit = fit
of_device setup mac (controller.Refuses refusal) good fit = tt
of_device setup mac (controller.Calls caller call) good fit = good.0
of_device setup mac other good fit = tt

-- the controller keeps its sizes after what it hears
module _ (goes_sized : (setup : Setup) (live : ControllerLive) (one : Event) → IsSetup setup → IsLive live → IsSizedEvent setup one → IsRight setup (turn_of setup live one))
    (setup : Setup) (live : ControllerLive) (mac : Mac) (good : IsSetup setup) (lives : IsLive live) where
  right_by : (octets : List ℕ) (heard : controller.Heard) → heard_by setup.plan.controller octets ≡ heard → IsSized heard → IsRight setup (turned setup live heard)
  right_by octets heard e sized =
      subst (λ (h : controller.Heard). IsRight setup (turned setup live h)) e
      (goes_sized setup live (event.Frame (record { items = octets })) good lives (subst (λ (h : controller.Heard). IsSized h) (sym e) sized))

  heard_right : (octets : List ℕ) (heard : controller.Heard) → heard_by setup.plan.controller octets ≡ heard → IsGood mac heard → IsWell setup heard → IsRight setup (turned setup live heard)
  heard_right octets (controller.Answers source answer) e is fit = right_by octets (controller.Answers source answer) e is.1
  heard_right octets (controller.Responds response) e is fit = response_right setup good live response lives fit
  heard_right octets (controller.Refuses refusal) e is fit = right_by octets (controller.Refuses refusal) e tt
  heard_right octets (controller.Calls caller call) e is fit = right_by octets (controller.Calls caller call) e (is.1, is.2, is.3)
  heard_right octets (controller.Alarms source under header reported) e is fit = right_by octets (controller.Alarms source under header reported) e is.0
  heard_right octets controller.Nothing e is fit = right_by octets controller.Nothing e tt
  heard_right octets (controller.Cyclic source frame_id body) e is fit = right_by octets (controller.Cyclic source frame_id body) e tt

-- ---- a frame is nothing that the application says

abbrev pub IsOfFrame : Heard → Type 0
IsOfFrame (Applied local) = ⊥
IsOfFrame other = Unit {0}

framed_request : (source : Mac) (read : Result Asked DcpFault) → IsOfFrame (heard_request source read)
framed_request source (Ok request) = tt
framed_request source (Err fault) = tt

framed_alarm : (source : Mac) (frame_id : ℕ) (body : List ℕ) (read : Result (Header × ToDevice) AlarmFault) → IsOfFrame (heard_alarm source frame_id body read)
framed_alarm = alarm_holds IsOfFrame (λ source header message. tt) (λ source header message. tt) (λ source header message. tt) tt

framed_content : (identity : Identity) (destination source : Mac) (content : Content) → IsOfFrame (heard_content identity destination source content)
framed_content identity destination source (RealTime frame_id body) =
    holds_if IsOfFrame (is_taken identity destination frame_id) (heard_request source (request_of frame_id body)) _ (framed_request source (request_of frame_id body))
    (holds_if IsOfFrame (is_own identity destination && is_alarm frame_id) (heard_alarm source frame_id body (message_of body)) _ (framed_alarm source frame_id body (message_of body))
    (holds_if IsOfFrame (is_own identity destination && is_cyclic frame_id) (Cyclic source frame_id body) Elsewhere tt tt))
framed_content identity destination source (ArpPacket packet) =
    holds_if IsOfFrame (is_own identity destination || pointwise nat_eq destination.octets broadcast) (Resolves source packet) Elsewhere tt tt
framed_content identity destination source (UdpDatagram from to body) =
    holds_if IsOfFrame (is_own identity destination && to.port == 34964) _ Elsewhere tt tt

framed_read : (identity : Identity) (read : Result Meaning FrameFault) → IsOfFrame (heard_frame identity read)
framed_read identity (Ok meaning) = framed_content identity meaning.destination meaning.source meaning.content
framed_read identity (Err fault) = tt

pub of_frame : (identity : Identity) (octets : List ℕ) → IsOfFrame (heard_of identity (Frame (record { items = octets })))
unfolding heard_of
of_frame identity octets = framed_read identity (frame_of octets)

pub framed_sized : (heard : Heard) → IsOfFrame heard → IsSizedHeard heard
framed_sized (Applied local) is = absurd is
framed_sized other is = tt

unraised : (heard : Heard) → IsOfFrame heard → IsUnraised heard
unraised (Applied local) is = absurd is
unraised other is = tt

-- ---- the laws of the crates below

pub record DeviceSo : Type 0 where
  pub begins_sized : (setup : Setup) → IsSetup setup → IsLive (first_live setup.plan)
  pub goes_sized : (setup : Setup) (controlling : ControllerLive) (one : Event) → IsSetup setup → IsLive controlling → IsSizedEvent setup one
      → IsLive (turn_of setup controlling one).live × AllByRecursion (CanBeSaid setup) (turn_of setup controlling one).sent
  pub goes_on : (rules : Rules TakenRecord Request) (activity : List ℕ) (outcomes : List Outcome) (station : Station) (live : Live) (heard : Heard)
      → IsOrderlyIn live.rest.link → IsAskedOwn activity live.rest.asked → IsPlanned rules activity station.named live.rest.real heard
      → AllByRecursion (IsHeardAs rules station.identity) (heard_step outcomes station live heard).sent
      → DeviceSteps rules (heard_as rules.is_planned heard) (small_of activity live) (small_of activity (heard_step outcomes station live heard).live) (heard_step outcomes station live heard).frames
  pub kinds : KindsSo
  pub turns : (rules : Rules TakenRecord Request) (activity : List ℕ) (outcomes : List Outcome) (station : Station) (live : Live) (heard : Heard)
      → IsPlanned rules activity station.named live.rest.real heard
      → Turn station live heard (heard_step outcomes station live heard).live.rest (heard_step outcomes station live heard).sent
  pub owns : OwnsSo
  pub keys : KeysSo
  pub raises : (outcomes : List Outcome) (station : Station) (live : Live) (slot subslot : ℕ) (octets : List ℕ)
      → IsRaise live.rest.real.modules.items live.rest.link slot subslot octets (heard_step outcomes station live (alarm_heard slot subslot octets)).live.rest.link
      (heard_step outcomes station live (alarm_heard slot subslot octets)).sent

-- a step of the controller
controller_is : (old : Controlling) (one : Event) → (step_of old one).controller ≡ with_live old (turn_of old.setup old.live one).live
unfolding step_of
controller_is old one = refl

frames_are : (old : Controlling) (one : Event) → (step_of old one).frames ≡ map (said.bytes_of old.setup) (turn_of old.setup old.live one).sent
unfolding step_of
frames_are old one = refl

-- ---- a turn of the device

-- the modules after it
module _ (station : Station) (live : Live) (heard : Heard) (after : Rest) (sent : List DeviceSent) (turn : Turn station live heard after sent) where
  pub modules_in : (after.real.modules.items ≡ live.rest.real.modules.items)
      ⊎ Changes live.rest.real.modules.items after.real.modules.items live.rest.diagnoses after.diagnoses live.rest.link heard after.link sent
  modules_in = by_modules turn.modules
    where
      by_modules : (after.real ≡ live.rest.real) ⊎ Changes live.rest.real.modules.items after.real.modules.items live.rest.diagnoses after.diagnoses live.rest.link heard after.link sent
          → (after.real.modules.items ≡ live.rest.real.modules.items)
          ⊎ Changes live.rest.real.modules.items after.real.modules.items live.rest.diagnoses after.diagnoses live.rest.link heard after.link sent
      by_modules (inl same) = inl (ap (λ (r : Real). r.modules.items) same)
      by_modules (inr changes) = inr changes

  pub modules_sized : IsSizedHeard heard → AreSizedModules live.rest.real.modules.items → AreSizedModules after.real.modules.items
  modules_sized fits real = by_modules modules_in
    where
      by_modules : (after.real.modules.items ≡ live.rest.real.modules.items)
          ⊎ Changes live.rest.real.modules.items after.real.modules.items live.rest.diagnoses after.diagnoses live.rest.link heard after.link sent → AreSizedModules after.real.modules.items
      by_modules (inl same) = subst (λ (modules : List RealModule). AreSizedModules modules) (sym same) real
      by_modules (inr changes) = (change_sized live.rest.real.modules.items after.real.modules.items heard changes.made real fits changes.is changes.modules).modules

-- which alarms are raised with a turn, apart from those that the application raises
abbrev told_in : Priority → Option RelationState → Option RelationState → List AlarmNotification
told_in High before after = []
told_in Low before after = reported_by before after

-- what a device hears raises no alarm of high priority
abbrev IsCalmFor : Priority → Heard → Type 0
IsCalmFor High heard = IsUnraised heard
IsCalmFor Low heard = Unit {0}

calm_for : (priority : Priority) (heard : Heard) → IsUnraised heard → IsCalmFor priority heard
calm_for High heard is = is
calm_for Low heard is = tt

goes_in : (priority : Priority) (setup : Setup) (r : Relation) (real now : List RealModule) (calls : List Answer) (diagnoses later : List Diagnosis) (before : Option RelationState) (heard : Heard) (after : Option RelationState) (messages : List DeviceSent)
    → IsTied priority r before → IsHeard priority r.reported (ack_in priority (reported_at heard)) → IsCalmFor priority heard → IsFresh priority setup r calls before heard after messages
    → (Makes calls before heard after messages → before ≡ None) → IsTurn real now calls diagnoses later before heard after messages → Goes priority setup r before after messages (told_in priority before after)
goes_in High setup r real now calls diagnoses later before heard after messages tied is calm fresh alone turn = turn_on setup r real before tied now calls diagnoses later heard after messages is calm fresh turn
goes_in Low setup r real now calls diagnoses later before heard after messages tied is calm fresh alone turn = low_turn_on setup r real before tied now calls diagnoses later heard after messages is fresh alone turn

-- an alarm that the application raises
abbrev alarm_told : Priority → List RealModule → ℕ → ℕ → List ℕ → Option RelationState → Option RelationState → List AlarmNotification
alarm_told High real slot subslot octets before after = raised_in (raised_to real slot subslot octets before)
alarm_told Low real slot subslot octets before after = reported_by before after

alarm_goes : (priority : Priority) (setup : Setup) (r : Relation) (real now : List RealModule) (calls : List Answer) (diagnoses later : List Diagnosis) (before : Option RelationState) (slot subslot : ℕ) (octets : List ℕ) (after : Option RelationState) (messages : List DeviceSent)
    → IsTied priority r before → IsFresh priority setup r calls before (alarm_heard slot subslot octets) after messages → (Makes calls before (alarm_heard slot subslot octets) after messages → before ≡ None)
    → IsTurn real now calls diagnoses later before (alarm_heard slot subslot octets) after messages → IsRaise real before slot subslot octets after messages
    → Goes priority setup r before after messages (alarm_told priority real slot subslot octets before after)
alarm_goes High setup r real now calls diagnoses later before slot subslot octets after messages tied fresh alone turn raise = raise_on setup r real before tied slot subslot octets after messages raise
alarm_goes Low setup r real now calls diagnoses later before slot subslot octets after messages tied fresh alone turn raise =
    low_turn_on setup r real before tied now calls diagnoses later (alarm_heard slot subslot octets) after messages tt fresh alone turn

module _ {F : Type 0} where
  -- the alarms of a priority that are raised with a move
  abbrev pub now_at : Priority → World F → Move → World F → List AlarmNotification
  now_at High before one after = raised_with before one
  now_at Low before one after = reported_with before after

  -- and over a run
  abbrev pub raised_all : Priority → World F → List (Move × World F) → List AlarmNotification
  raised_all priority before [] = []
  raised_all priority before (one ∷ run) = now_at priority before one.0 one.1 ++ raised_all priority one.1 run

  pub high_all : (w : World F) (run : List (Move × World F)) → raised_all High w run ≡ raised_over w run
  high_all w [] = refl
  high_all w (one ∷ run) = ap (λ (xs : List AlarmNotification). raised_with w one.0 ++ xs) (high_all one.1 run)

  pub low_all : (w : World F) (run : List (Move × World F)) → raised_all Low w run ≡ reported_over w run
  low_all w [] = refl
  low_all w (one ∷ run) = ap (λ (xs : List AlarmNotification). reported_with w one.1 ++ xs) (low_all one.1 run)

  told_is : (priority : Priority) (before : World F) (one : Move) (after : World F) → raised_with before one ≡ []
      → told_in priority before.device.live.rest.link after.device.live.rest.link ≡ now_at priority before one after
  told_is High before one after none = sym none
  told_is Low before one after none = refl

  still_none : (priority : Priority) (before : World F) (one : Move) (after : World F) → raised_with before one ≡ [] → after.device ≡ before.device → now_at priority before one after ≡ []
  still_none High before one after none same = none
  still_none Low before one after none same =
      reported_same before.device.live.rest.link after.device.live.rest.link (ap (λ (d : State F). number_in d.live.rest.link) same)

  alarm_is : (priority : Priority) (before : World F) (one : Move) (slot subslot : ℕ) (octets : List ℕ) (after : World F)
      → raised_with before one ≡ raised_in (raised_to before.device.live.rest.real.modules.items slot subslot octets before.device.live.rest.link)
      → alarm_told priority before.device.live.rest.real.modules.items slot subslot octets before.device.live.rest.link after.device.live.rest.link ≡ now_at priority before one after
  alarm_is High before one slot subslot octets after e = sym e
  alarm_is Low before one slot subslot octets after e = refl

  -- a world, as the alarms of a relation of which these were raised and these accepted
  abbrev pub FollowsAt : Priority → World F → List AlarmNotification → List AlarmNotification → Type 0
  FollowsAt priority w raised taken = Follows priority w.controller.setup w.device.station w.device.live w.controller.live w.sent raised taken

  raised_none : (priority : Priority) (w : World F) (raised taken : List AlarmNotification) → FollowsAt priority w raised taken → FollowsAt priority w (raised ++ []) taken
  raised_none priority w raised taken follows = subst (λ (xs : List AlarmNotification). FollowsAt priority w xs taken) (sym (append-nil raised)) follows

  taken_none : (priority : Priority) (w : World F) (raised taken : List AlarmNotification) → FollowsAt priority w raised taken → FollowsAt priority w raised (taken ++ [])
  taken_none priority w raised taken follows = subst (λ (xs : List AlarmNotification). FollowsAt priority w raised xs) (sym (append-nil taken)) follows

  module _ (priority : Priority) (so : DeviceSo) (hears : HearsSo) {S : ℕ} (as_flash : Flash F S) (before after : World F) (raised taken : List AlarmNotification)
      (follows : FollowsAt priority before raised taken) where
    abbrev setup : Setup
    setup = before.controller.setup

    abbrev station : Station
    station = before.device.station

    abbrev live : Live
    live = before.device.live

    same_follows : after ≡ before → FollowsAt priority after raised taken
    same_follows same = subst (λ (w : World F). FollowsAt priority w raised taken) (sym same) follows

    -- ---- the device

    pub turn_at : (heard : Heard) (outcomes : List Outcome) → IsMeantAtDevice before heard
        → IsTurn live.rest.real.modules.items (heard_step outcomes station live heard).live.rest.real.modules.items live.rest.calls live.rest.diagnoses (heard_step outcomes station live heard).live.rest.diagnoses live.rest.link heard (heard_step outcomes station live heard).live.rest.link (heard_step outcomes station live heard).sent
    turn_at heard outcomes meant =
        as_alarms live.rest.real.modules.items (heard_step outcomes station live heard).live.rest.real.modules.items live.rest.calls live.rest.diagnoses (heard_step outcomes station live heard).live.rest.diagnoses live.rest.link heard _ _ (so.turns (rules_of setup station) setup.activity outcomes station live heard meant.planned).is

    module _ (heard : Heard) (first : (sequence : ℕ) → heard_as (is_planned setup) heard ≡ small.Call sequence small.Connects → sequence ≡ 0)
        (late : (sequence : ℕ) → heard_as (is_planned setup) heard ≡ small.Call sequence small.Accesses → kept_at setup live ≡ None → ⊥)
        (made : AtDevice as_flash before heard after) (meant : IsMeantAtDevice before heard) where
      pub makes_so : (link : Option RelationState) (messages : List DeviceSent) (makes : Makes live.rest.calls live.rest.link heard link messages) → (kept_at setup live ≡ None) × (makes.request ≡ request_for setup.plan setup.ar)
      makes_so link messages makes = makes_planned priority setup station live before.controller.live before.sent raised taken follows heard meant.planned first late link messages makes

      pub alone_so : (link : Option RelationState) (messages : List DeviceSent) → Makes live.rest.calls live.rest.link heard link messages → live.rest.link ≡ None
      alone_so link messages makes =
          unlinked priority setup station live before.controller.live before.sent raised taken follows heard meant.planned first late live.rest.link refl (makes_so link messages makes).0

      fresh_so : (link : Option RelationState) (messages : List DeviceSent) → IsFresh priority setup follows.relation live.rest.calls live.rest.link heard link messages
      fresh_so link messages = makes_fresh priority setup station live before.controller.live before.sent raised taken follows heard meant.planned first late link messages

      device_on : IsSizedHeard heard → (now : List AlarmNotification)
          → ((outcomes : List Outcome) → after.device.live ≡ (heard_step outcomes station live heard).live
          → Goes priority setup follows.relation live.rest.link (heard_step outcomes station live heard).live.rest.link (heard_step outcomes station live heard).sent now)
          → FollowsAt priority after (raised ++ now) taken
      device_on fits now goes =
          let heard_it = made.hears in
          let outcomes = heard_it.steps.outcomes in
          let step = heard_step outcomes station live heard in
          let rules = rules_of setup station in
          let acts = so.turns rules setup.activity outcomes station live heard meant.planned in
          let turn = turn_sized so.keys station.identity setup.plan setup.ar follows.apart live.rest.real.modules.items step.live.rest.real.modules.items live.rest.calls live.rest.diagnoses step.live.rest.diagnoses live.rest.link heard step.live.rest.link step.sent
          fits follows.real follows.sized
          (λ makes. (
            (makes_so step.live.rest.link step.sent makes).1,
            stated_made station live heard step.live.rest step.sent (alone_so step.live.rest.link step.sent makes) acts.does,
          ))
          (modules_in station live heard step.live.rest step.sent acts) (turn_at heard outcomes meant) in
          let heard_so = meant.sent outcomes heard_it.steps.sendable in
          let owes = acts.owed in
          let own = so.owns rules setup.activity outcomes station live heard meant.planned follows.own in
          let serves = all_served setup station live heard step.live.rest step.sent meant.planned
          (unlinked_new priority setup station live before.controller.live before.sent raised taken follows heard meant.planned first late)
          (later_asked priority setup station live before.controller.live before.sent raised taken follows heard meant.planned first late)
          (plain_asked priority setup station live before.controller.live before.sent raised taken follows heard meant.planned first late) acts.does in
          let all : Follows priority setup station step.live before.controller.live (before.sent ++ step.frames) (raised ++ now) taken =
          device_follows priority setup station live before.controller.live before.sent raised taken follows heard meant.planned first late outcomes now
          (so.goes_on rules setup.activity outcomes station live heard follows.orderly follows.own meant.planned heard_so) owes
          heard_so (all_noted hears setup station.identity step.sent heard_it.steps.sendable turn.messages
          (all_ready hears setup station.identity follows.good heard live step.sent follows.sized follows.orderly owes))
          (all_well hears setup station follows.good live step.sent heard_it.steps.sendable heard_so serves)
          (goes outcomes heard_it.steps.live) (modules_sized station live heard step.live.rest step.sent acts fits follows.real) turn.link (acts.orderly follows.orderly) own in
          subst (λ (c : Controlling). Follows priority c.setup after.device.station after.device.live c.live after.sent (raised ++ now) taken) (sym made.controller)
          (subst (λ (s : Station). Follows priority setup s after.device.live before.controller.live after.sent (raised ++ now) taken) (sym heard_it.steps.same)
          (subst (λ (l : Live). Follows priority setup station l before.controller.live after.sent (raised ++ now) taken) (sym heard_it.steps.live)
          (subst (λ (frames : List (List ℕ)). Follows priority setup station step.live before.controller.live frames (raised ++ now) taken)
          (sym (heard_it.behind ∙ ap (λ (frames : List (List ℕ)). before.sent ++ frames) heard_it.steps.frames)) all)))

    -- anything but an alarm that the application raises
    device_hears : (one : Move) → raised_with before one ≡ [] → (heard : Heard) → IsSizedHeard heard → IsUnraised heard → IsHeard priority follows.relation.reported (ack_in priority (reported_at heard))
        → ((sequence : ℕ) → heard_as (is_planned setup) heard ≡ small.Call sequence small.Connects → sequence ≡ 0)
        → ((sequence : ℕ) → heard_as (is_planned setup) heard ≡ small.Call sequence small.Accesses → kept_at setup live ≡ None → ⊥)
        → AtDevice as_flash before heard after → IsMeantAtDevice before heard → FollowsAt priority after (raised ++ now_at priority before one after) taken
    device_hears one none heard fits unraised is first late made meant =
        subst (λ (now : List AlarmNotification). FollowsAt priority after (raised ++ now) taken) (told_is priority before one after none)
        (device_on heard first late made meant fits (told_in priority live.rest.link after.device.live.rest.link) (λ outcomes same.
        subst (λ (l : Live). Goes priority setup follows.relation live.rest.link (heard_step outcomes station live heard).live.rest.link (heard_step outcomes station live heard).sent (told_in priority live.rest.link l.rest.link)) (sym same)
        (goes_in priority setup follows.relation live.rest.real.modules.items (heard_step outcomes station live heard).live.rest.real.modules.items live.rest.calls live.rest.diagnoses (heard_step outcomes station live heard).live.rest.diagnoses live.rest.link heard (heard_step outcomes station live heard).live.rest.link (heard_step outcomes station live heard).sent
        follows.tied is (calm_for priority heard unraised) (fresh_so heard first late made meant _ _) (alone_so heard first late made meant _ _) (turn_at heard outcomes meant))))

    pub never_first : (sequence : ℕ) → small.Idle ≡ small.Call sequence small.Connects → sequence ≡ 0
    never_first sequence e = absurd cc

    pub never_late : (sequence : ℕ) → small.Idle ≡ small.Call sequence small.Accesses → kept_at setup live ≡ None → ⊥
    never_late sequence e none = absurd cc

    device_raises : (one : Move) (slot subslot : ℕ) (octets : List ℕ) → raised_with before one ≡ raised_in (raised_to live.rest.real.modules.items slot subslot octets live.rest.link)
        → AtDevice as_flash before (alarm_heard slot subslot octets) after → IsMeantAtDevice before (alarm_heard slot subslot octets)
        → FollowsAt priority after (raised ++ now_at priority before one after) taken
    device_raises one slot subslot octets raises made meant =
        let heard = alarm_heard slot subslot octets in
        let real = live.rest.real.modules.items in
        subst (λ (now : List AlarmNotification). FollowsAt priority after (raised ++ now) taken) (alarm_is priority before one slot subslot octets after raises)
        (device_on heard never_first never_late made meant tt
        (alarm_told priority real slot subslot octets live.rest.link after.device.live.rest.link) (λ outcomes same.
        subst (λ (l : Live). Goes priority setup follows.relation live.rest.link (heard_step outcomes station live heard).live.rest.link (heard_step outcomes station live heard).sent
        (alarm_told priority real slot subslot octets live.rest.link l.rest.link)) (sym same)
        (alarm_goes priority setup follows.relation real (heard_step outcomes station live heard).live.rest.real.modules.items live.rest.calls live.rest.diagnoses (heard_step outcomes station live heard).live.rest.diagnoses live.rest.link slot subslot octets (heard_step outcomes station live heard).live.rest.link
        (heard_step outcomes station live heard).sent follows.tied (fresh_so heard never_first never_late made meant _ _)
        (alone_so heard never_first never_late made meant _ _) (turn_at heard outcomes meant) (so.raises outcomes station live slot subslot octets))))

    pub early_at : (number : ℕ) (octets : List ℕ) → slice_get before.sent number ≡ Some octets → kept_at setup live ≡ None → IsEarlyFrame setup station octets
    early_at number octets there none = each_at (IsEarlyFrame setup station) before.sent number octets (follows.early none).1 there

    pub in_at : (number : ℕ) (octets : List ℕ) → slice_get before.sent number ≡ Some octets → IsIn priority setup station.identity follows.relation octets
    in_at number octets there = each_at (IsIn priority setup station.identity follows.relation) before.sent number octets follows.frames there

    -- nothing happens at the device
    rests_at : (one : Move) → raised_with before one ≡ [] → after.device ≡ before.device → FollowsAt priority after raised taken → FollowsAt priority after (raised ++ now_at priority before one after) taken
    rests_at one none same all =
        subst (λ (now : List AlarmNotification). FollowsAt priority after (raised ++ now) taken) (sym (still_none priority before one after none same)) (raised_none priority after raised taken all)

    same_device : after ≡ before → after.device ≡ before.device
    same_device same = ap (λ (w : World F). w.device) same

    comes_to_device : (one : Move) → raised_with before one ≡ [] → (octets : List ℕ) (skipped : Bool) → IsIn priority setup station.identity follows.relation octets → (kept_at setup live ≡ None → IsEarlyFrame setup station octets)
        → IsMeantAtDevice before (heard_of station.identity (Frame (record { items = octets }))) → Comes as_flash skipped before Device octets after
        → FollowsAt priority after (raised ++ now_at priority before one after) taken
    comes_to_device one none octets true is early meant comes = rests_at one none (same_device comes) (same_follows comes)
    comes_to_device one none octets false is early meant comes =
        device_hears one none (heard_of station.identity (Frame (record { items = octets }))) (framed_sized _ (of_frame station.identity octets)) (unraised _ (of_frame station.identity octets)) is.reported is.first (λ sequence e unkept. (early unkept).0 sequence e) comes meant

    delivered_to_device : (one : Move) → raised_with before one ≡ [] → (octets : Option (List ℕ))
        → ((frame : List ℕ) → octets ≡ Some frame → IsIn priority setup station.identity follows.relation frame)
        → ((frame : List ℕ) → octets ≡ Some frame → kept_at setup live ≡ None → IsEarlyFrame setup station frame)
        → ((frame : List ℕ) → octets ≡ Some frame → IsMeantAtDevice before (heard_of station.identity (Frame (record { items = frame }))))
        → Delivers as_flash octets before Device after → FollowsAt priority after (raised ++ now_at priority before one after) taken
    delivered_to_device one none None is early meant comes = rests_at one none (same_device comes) (same_follows comes)
    delivered_to_device one none (Some octets) is early meant comes =
        comes_to_device one none octets (is_skipped before.device before.controller Device octets) (is octets refl) (early octets refl) (meant octets refl) comes

    -- ---- the controller

    controller_on : (one : Event) (now : List AlarmNotification) → IsEventIn priority setup station live before.controller.live before.sent raised taken follows one
        → taken_at priority setup station live before.controller.live before.sent raised taken follows one ≡ now
        → IsMeantAtController before one → (IsRight setup (turn_of setup before.controller.live one) × IsEventOf setup station.identity.mac follows.apart one) → after ≡ at_controller before one → FollowsAt priority after raised (taken ++ now)
    controller_on one now is takes meant fit made =
        let turn = turn_of setup before.controller.live one in
        let sized = fit.0 in
        let placed = event_placed setup station.identity.mac follows.apart before.controller.live one fit.1 follows.placed in
        let there : World F = record { device = before.device; controller = with_live before.controller turn.live; sent = before.sent ++ map (said.bytes_of setup) turn.sent } in
        let same : after ≡ there =
        made ∙ (ap (λ (c : Controlling). record { device = before.device; controller = c; sent = before.sent ++ (step_of before.controller one).frames }) (controller_is before.controller one)
        ∙ ap (λ (frames : List (List ℕ)). record { device = before.device; controller = with_live before.controller turn.live; sent = before.sent ++ frames }) (frames_are before.controller one)) in
        let sayable = both_sized setup turn.sent sized.1 placed.sent in
        let all : FollowsAt priority there raised (taken ++ taken_at priority setup station live before.controller.live before.sent raised taken follows one) =
        controller_follows priority setup station live before.controller.live before.sent raised taken follows so.kinds one is meant (all_reported hears setup station.identity follows.good follows.apart turn.sent sayable)
        sized.0 placed.live in
        subst (λ (w : World F). FollowsAt priority w raised (taken ++ now)) (sym same) (subst (λ (xs : List AlarmNotification). FollowsAt priority there raised (taken ++ xs)) takes all)

    comes_to_controller : (octets : List ℕ) (skipped : Bool) → IsIn priority setup station.identity follows.relation octets → (kept_at setup live ≡ None → IsEarlyFrame setup station octets)
        → IsMeantAtController before (event.Frame (record { items = octets }))
        → Comes as_flash skipped before Controller octets after → FollowsAt priority after raised (taken ++ taken_in priority skipped before.controller octets)
    comes_to_controller octets true is early meant comes = taken_none priority after raised taken (same_follows comes)
    comes_to_controller octets false is early meant comes =
        controller_on (event.Frame (record { items = octets })) (taken_by priority before.controller.live (heard_by setup.plan.controller octets)) (is.noted, is.good, early)
        (ap (λ (l : ControllerLive). taken_by priority l (heard_by setup.plan.controller octets)) follows.same) meant (
          heard_right so.goes_sized setup before.controller.live station.identity.mac follows.good follows.lives octets (heard_by setup.plan.controller octets) refl is.good is.well,
          of_device setup station.identity.mac (heard_by setup.plan.controller octets) is.good is.well,
        ) comes

    delivered_to_controller : (octets : Option (List ℕ))
        → ((frame : List ℕ) → octets ≡ Some frame → IsIn priority setup station.identity follows.relation frame)
        → ((frame : List ℕ) → octets ≡ Some frame → kept_at setup live ≡ None → IsEarlyFrame setup station frame)
        → ((frame : List ℕ) → octets ≡ Some frame → IsMeantAtController before (event.Frame (record { items = frame })))
        → Delivers as_flash octets before Controller after → FollowsAt priority after raised (taken ++ taken_from priority before octets)
    delivered_to_controller None is early meant comes = taken_none priority after raised taken (same_follows comes)
    delivered_to_controller (Some octets) is early meant comes =
        comes_to_controller octets (is_skipped before.device before.controller Controller octets) (is octets refl) (early octets refl) (meant octets refl) comes

    -- a frame for the controller leaves the device as it is
    pub delivered_device : (octets : Option (List ℕ)) → Delivers as_flash octets before Controller after → after.device ≡ before.device
    delivered_device None comes = same_device comes
    delivered_device (Some octets) comes = by_skip (is_skipped before.device before.controller Controller octets) comes
      where
        by_skip : (b : Bool) → Comes as_flash b before Controller octets after → after.device ≡ before.device
        by_skip true comes_so = same_device comes_so
        by_skip false comes_so = ap (λ (w : World F). w.device) comes_so

    -- ---- any move

    -- an event at the device, of its application or of time
    device_event : (one : Move) → raised_with before one ≡ [] → taken_with priority before one ≡ [] → (heard : Heard) → IsSizedHeard heard → IsUnraised heard → ack_in priority (reported_at heard) ≡ None
        → ((planned : Planned) → heard_as planned heard ≡ small.Idle)
        → AtDevice as_flash before heard after → IsMeantAtDevice before heard → FollowsAt priority after (raised ++ now_at priority before one after) (taken ++ taken_with priority before one)
    device_event one none takes heard fits unraised unsaid idle happens meant =
        subst (λ (xs : List AlarmNotification). FollowsAt priority after (raised ++ now_at priority before one after) (taken ++ xs)) (sym takes)
        (taken_none priority after (raised ++ now_at priority before one after) taken
        (device_hears one none heard fits unraised (subst (λ (o : Option (ℕ × AlarmAck)). IsHeard priority follows.relation.reported o) (sym unsaid) tt)
        (λ sequence e. absurd (idle_connect sequence (sym (idle (is_planned setup)) ∙ e))) (λ sequence e unkept. absurd (idle_access sequence (sym (idle (is_planned setup)) ∙ e)))
        happens meant))
      where
        idle_connect : (sequence : ℕ) → small.Idle ≡ small.Call sequence small.Connects → ⊥
        idle_connect sequence e = absurd cc

        idle_access : (sequence : ℕ) → small.Idle ≡ small.Call sequence small.Accesses → ⊥
        idle_access sequence e = absurd cc

    -- an event at the controller, of its application or of time
    controller_event : (one : Move) (which : Event) → raised_with before one ≡ [] → taken_with priority before one ≡ [] → IsEventIn priority setup station live before.controller.live before.sent raised taken follows which
        → taken_at priority setup station live before.controller.live before.sent raised taken follows which ≡ [] → IsMeantAtController before which
        → (IsRight setup (turn_of setup before.controller.live which) × IsEventOf setup station.identity.mac follows.apart which) → after ≡ at_controller before which
        → FollowsAt priority after (raised ++ now_at priority before one after) (taken ++ taken_with priority before one)
    controller_event one which none takes is none_taken meant fit happens =
        subst (λ (xs : List AlarmNotification). FollowsAt priority after (raised ++ now_at priority before one after) (taken ++ xs)) (sym takes)
        (subst (λ (now : List AlarmNotification). FollowsAt priority after (raised ++ now) (taken ++ [])) (sym (still_none priority before one after none (ap (λ (w : World F). w.device) happens)))
        (raised_none priority after raised (taken ++ []) (controller_on which [] is none_taken meant fit happens)))

    pub one_follows : (one : Move) → Happens as_flash before one after → IsMeant before one → IsSizedMove one
        → FollowsAt priority after (raised ++ now_at priority before one after) (taken ++ taken_with priority before one)
    one_follows (move.Deliver Device number) happens meant sized =
        taken_none priority after (raised ++ now_at priority before (move.Deliver Device number) after) taken
        (delivered_to_device (move.Deliver Device number) refl (slice_get before.sent number) (λ frame there. in_at number frame there) (λ frame there. early_at number frame there) meant happens)
    one_follows (move.Deliver Controller number) happens meant sized =
        subst (λ (now : List AlarmNotification). FollowsAt priority after (raised ++ now) (taken ++ taken_from priority before (slice_get before.sent number)))
        (sym (still_none priority before (move.Deliver Controller number) after refl (delivered_device (slice_get before.sent number) happens)))
        (raised_none priority after raised (taken ++ taken_from priority before (slice_get before.sent number))
        (delivered_to_controller (slice_get before.sent number) (λ frame there. in_at number frame there) (λ frame there. early_at number frame there) meant happens))
    one_follows (move.Tick Device) happens meant sized = device_event (move.Tick Device) refl refl Ticks tt tt refl (λ planned. refl) happens meant
    one_follows (move.Tick Controller) happens meant sized =
        controller_event (move.Tick Controller) event.Tick refl refl tt refl meant (so.goes_sized setup before.controller.live event.Tick follows.good follows.lives tt, tt) happens
    one_follows (move.Application (local.Alarm slot subslot octets)) happens meant sized =
        taken_none priority after _ taken (device_raises (move.Application (local.Alarm slot subslot octets)) slot subslot octets.items refl happens meant)
    one_follows (move.Application (local.Plug slot ident part)) happens meant sized =
        device_event (move.Application (local.Plug slot ident part)) refl refl (Applied (local.Plug slot ident part))
        sized tt refl (λ planned. refl) happens meant
    one_follows (move.Application other) happens meant sized =
        device_event (move.Application other) refl refl (Applied other) tt tt refl (λ planned. refl) happens meant
    one_follows (move.Neighbour neighbour) happens meant sized =
        device_event (move.Neighbour neighbour) refl refl (Met (option_map peer_as neighbour)) tt tt refl (λ planned. refl) happens meant
    one_follows (move.Give slot subslot value) happens meant sized =
        controller_event (move.Give slot subslot value) (event.Give slot subslot value) refl refl tt refl meant
        (so.goes_sized setup before.controller.live (event.Give slot subslot value) follows.good follows.lives tt, tt) happens
    one_follows (move.OutputStatus slot subslot is_good) happens meant sized =
        controller_event (move.OutputStatus slot subslot is_good) (event.Status slot subslot is_good) refl refl tt refl meant
        (so.goes_sized setup before.controller.live (event.Status slot subslot is_good) follows.good follows.lives tt, tt) happens
    one_follows (move.Read slot subslot index) happens meant sized =
        controller_event (move.Read slot subslot index) (event.Read slot subslot index) refl refl tt refl meant
        (so.goes_sized setup before.controller.live (event.Read slot subslot index) follows.good follows.lives tt, tt) happens
    one_follows (move.Write slot subslot index octets) happens meant sized =
        controller_event (move.Write slot subslot index octets) (event.Write slot subslot index octets) refl refl tt refl meant
        (so.goes_sized setup before.controller.live (event.Write slot subslot index octets) follows.good follows.lives tt, tt) happens
    one_follows move.Stop happens meant sized =
        controller_event move.Stop event.Stop refl refl tt refl meant (so.goes_sized setup before.controller.live event.Stop follows.good follows.lives tt, tt) happens

  -- ---- any run

  pub run_follows : (priority : Priority) → DeviceSo → HearsSo → {S : ℕ} (as_flash : Flash F S) (w : World F) (raised taken : List AlarmNotification) → FollowsAt priority w raised taken
      → (run : List (Move × World F)) → AreMade as_flash w run → AreSizedMoves run → AreMeant w run
      → FollowsAt priority (last_world w run) (raised ++ raised_all priority w run) (taken ++ taken_over priority w run)
  run_follows priority so hears as_flash w raised taken follows [] made sized meant = taken_none priority w (raised ++ []) taken (raised_none priority w raised taken follows)
  run_follows priority so hears as_flash w raised taken follows (one ∷ run) made sized meant =
      let next = one_follows priority so hears as_flash w one.1 raised taken follows one.0 made.0 meant.0 sized.0 in
      let now = now_at priority w one.0 one.1 in
      let all = run_follows priority so hears as_flash one.1 (raised ++ now) (taken ++ taken_with priority w one.0) next run made.1 sized.1 meant.1 in
      subst (λ (xs : List AlarmNotification). FollowsAt priority (last_world one.1 run) xs (taken ++ (taken_with priority w one.0 ++ taken_over priority one.1 run))) (append_assoc raised now (raised_all priority one.1 run))
      (subst (λ (xs : List AlarmNotification). FollowsAt priority (last_world one.1 run) ((raised ++ now) ++ raised_all priority one.1 run) xs) (append_assoc taken (taken_with priority w one.0) (taken_over priority one.1 run)) all)

  -- ---- the start

  pub begins_so : (priority : Priority) → DeviceSo → (setup : Setup) (identity : Identity) (first : World F) → Begins setup identity first → IsSetup first.controller.setup
      → (first.device.station.identity.mac ≡ first.controller.setup.plan.controller.mac → ⊥) → AreSizedModules first.device.live.rest.real.modules.items
      → (source : Mac) (request : Asked) → heard_of first.device.station.identity (Frame (record { items = opening_of first.controller })) ≡ Asks source request
      → FollowsAt priority first [] []
  begins_so priority so setup identity first begins good apart real source request asks_it = record {
    lives = subst (λ (l : ControllerLive). IsLive l) (sym (begins.made ∙ ap (λ (s : Setup). first_live s.plan) (sym begins.of_setup))) (so.begins_sized first.controller.setup good);
    placed = subst (λ (l : ControllerLive). IsPlaced first.device.station.identity.mac l) (sym (begins.made ∙ ap (λ (s : Setup). first_live s.plan) (sym begins.of_setup))) (first_placed first.controller.setup first.device.station.identity.mac apart first.controller.setup.plan);
    good = good;
    apart = apart;
    real = real;
    sized = λ l is. absurd (none_some l first.device.live.rest.link begins.unrelated is);
    orderly = subst (λ (l : Option RelationState). IsOrderlyIn l) (sym begins.unrelated) tt;
    own = first_own first.controller.setup.activity first.device.live.rest.asked begins.unasked;
    unasked = λ none. ap (λ (o : Option Question). option_map (λ q. q.header.sequence) o) begins.unasked;
    relation = start first.controller.setup;
    moves = [];
    made = refl;
    quiet = tt;
    same = sym (begins.made ∙ ap (λ (s : Setup). first_live s.plan) (sym begins.of_setup));
    raises = refl;
    takes = refl;
    tied = λ l is. absurd (none_some l first.device.live.rest.link begins.unrelated is);
    unmade = λ none. refl;
    unraised = λ none. refl;
    linked = λ l is. absurd (none_some l (small_of first.controller.setup.activity first.device.live).link (ap (λ (o : Option RelationState). option_map link_of o) begins.unrelated) is);
    again = λ answer is. absurd (none_some answer (kept_at first.controller.setup first.device.live) (ap (λ (kept : Option Answer). option_map kept_in kept) (subst (λ (s : Setup). kept_of s.activity first.device.live.rest.calls ≡ None) (sym begins.of_setup) begins.uncalled)) is);
    early = λ none. (
      subst (λ (l : ControllerLive). IsEarlyAt l) (sym (begins.made ∙ ap (λ (s : Setup). first_live s.plan) (sym begins.of_setup))) (record { phase = refl; waiting = refl; plug = refl }),
      subst (λ (frames : List (List ℕ)). AllByRecursion (IsEarlyFrame first.controller.setup first.device.station) frames) (sym begins.opened) (
        (
          λ sequence e. idle_access sequence (ap (heard_as (is_planned first.controller.setup)) (sym asks_it) ∙ e),
          λ e. nothing_readies (ap (said_to first.controller.setup) (sym unheard) ∙ e),
        ),
        tt,
      ),
    );
    frames = subst (λ (frames : List (List ℕ)). AllByRecursion (IsIn priority first.controller.setup first.device.station.identity (start first.controller.setup)) frames) (sym begins.opened) (
      record {
        noted = subst (λ (h : controller.Heard). IsSaid [] (alarm_in priority (noted_at h))) (sym unheard) tt;
        good = subst (λ (h : controller.Heard). IsGood first.device.station.identity.mac h) (sym unheard) tt;
        reported = subst (λ (h : Heard). IsHeard priority [] (ack_in priority (reported_at h))) (sym asks_it) tt;
        first = λ sequence e. absurd (idle_call sequence (ap (heard_as (is_planned first.controller.setup)) (sym asks_it) ∙ e));
        well = subst (λ (h : controller.Heard). IsWell first.controller.setup h) (sym unheard) tt;
      },
      tt,
    );
  }
    where
      idle_call : (sequence : ℕ) → small.Idle ≡ small.Call sequence small.Connects → ⊥
      idle_call sequence e = absurd cc

      idle_access : (sequence : ℕ) → small.Idle ≡ small.Call sequence small.Accesses → ⊥
      idle_access sequence e = absurd cc

      nothing_readies : small.Nothing ≡ small.Readies → ⊥
      nothing_readies e = absurd cc

      unheard : heard_by first.controller.setup.plan.controller (opening_of first.controller) ≡ controller.Nothing
      unheard = asks_unheard first.device.station.identity first.controller.setup (opening_of first.controller) source request asks_it
          (other_mac first.device.station.identity.mac first.controller.setup.plan.controller.mac apart)

  -- ---- what follows from the invariant

  module _ (priority : Priority) (w : World F) (raised taken : List AlarmNotification) (follows : FollowsAt priority w raised taken) where
    pub in_order : AreTakenInOrder → length raised ≤ 32768 → IsPrefixOf taken raised
    in_order law =
        subst (λ (xs : List AlarmNotification). length xs ≤ 32768 → IsPrefixOf taken xs) follows.raises
        (subst (λ (xs : List AlarmNotification). length follows.relation.alarms.sent ≤ 32768 → IsPrefixOf xs follows.relation.alarms.sent) follows.takes
        (subst (λ (r : Relation). length r.alarms.sent ≤ 32768 → IsPrefixOf r.alarms.taken r.alarms.sent) follows.made (law priority w.controller.setup follows.moves)))

    pub lacks_one : LackAtMostTheLast → length raised ≤ 32768 → length raised ≤ length taken + 1
    lacks_one law =
        subst (λ (xs : List AlarmNotification). length xs ≤ 32768 → length xs ≤ length taken + 1) follows.raises
        (subst (λ (xs : List AlarmNotification). length follows.relation.alarms.sent ≤ 32768 → length follows.relation.alarms.sent ≤ length xs + 1) follows.takes
        (subst (λ (r : Relation). length r.alarms.sent ≤ 32768 → length r.alarms.sent ≤ length r.alarms.taken + 1) follows.made (law priority w.controller.setup follows.moves)))

    -- none is missing if the device has a relation with no unconfirmed alarm
    pub lacks_none : AreAllTaken → length raised ≤ 32768 → (link : RelationState) → w.device.live.rest.link ≡ Some link → (end_at priority link).sender.standing ≡ None → taken ≡ raised
    lacks_none law few link is none =
        sym follows.takes
        ∙ (subst (λ (r : Relation). length r.alarms.sent ≤ 32768 → r.device.sender.standing ≡ None → r.alarms.taken ≡ r.alarms.sent) follows.made (law priority w.controller.setup follows.moves)
        (subst (λ (xs : List AlarmNotification). length xs ≤ 32768) (sym follows.raises) few) (ap (λ (d : DeviceEnd). d.sender.standing) (sym (follows.tied link is)) ∙ none)
        ∙ follows.raises)

    pub shows : ShowsTheLast → shown_of priority w.controller.live ≡ last_of taken
    shows law =
        ap (λ (l : ControllerLive). shown_of priority l) (sym follows.same)
        ∙ (subst (λ (r : Relation). shown_of priority r.live ≡ last_of r.alarms.taken) follows.made (law priority w.controller.setup follows.moves)
        ∙ ap (λ (xs : List AlarmNotification). last_of xs) follows.takes)

  -- the list of a controller whose relation is established
  pub lists : ListsWhatIsReported → (w : World F) (raised taken : List AlarmNotification) → FollowsAt Low w raised taken → w.controller.live.stands ≡ true
      → w.controller.live.diagnosis ≡ after_reports taken nothing_reported
  lists law w raised taken follows up =
      ap (λ (l : ControllerLive). l.diagnosis) (sym follows.same)
      ∙ (subst (λ (r : Relation). r.live.stands ≡ true → r.live.diagnosis ≡ after_reports r.alarms.taken nothing_reported) follows.made (law w.controller.setup follows.moves follows.quiet)
      (ap (λ (l : ControllerLive). l.stands) follows.same ∙ up)
      ∙ ap (λ (xs : List AlarmNotification). after_reports xs nothing_reported) follows.takes)

-- ---- the opening frame

opening_is : (controlling : Controlling) → opening_of controlling ≡ said.bytes_of controlling.setup (said.Requests controlling.live.device asks.Identify)
unfolding opening_of
opening_is controlling = refl

pub opening_asks : ((identity : Identity) (setup : Setup) (to : Mac) → IsSetup setup
    → heard_of identity (comes (said.bytes_of setup (said.Requests to asks.Identify))) ≡ Asks setup.plan.controller.mac (identify_asked setup.plan))
    → (identity : Identity) (controlling : Controlling) → IsSetup controlling.setup
    → heard_of identity (Frame (record { items = opening_of controlling })) ≡ Asks controlling.setup.plan.controller.mac (identify_asked controlling.setup.plan)
opening_asks law identity controlling good =
    ap (λ (octets : List ℕ). heard_of identity (comes octets)) (opening_is controlling) ∙ law identity controlling.setup controlling.live.device good

-- ---- from the start

module _ {F : Type 0} where
  pub first_follows : (priority : Priority) → DeviceSo → HearsSo → (setup : Setup) (identity : Identity) → IsSetup setup → CanMeet setup identity
      → (first : World F) → Begins setup identity first → AreSizedModules first.device.live.rest.real.modules.items → FollowsAt priority first [] []
  first_follows priority so hears setup identity good can first begins real =
      let own : IsSetup first.controller.setup = subst (λ (s : Setup). IsSetup s) (sym begins.of_setup) good in
      let apart : first.device.station.identity.mac ≡ first.controller.setup.plan.controller.mac → ⊥ =
      subst (λ (s : Setup). first.device.station.identity.mac ≡ s.plan.controller.mac → ⊥) (sym begins.of_setup)
      (subst (λ (i : Identity). i.mac ≡ setup.plan.controller.mac → ⊥) (sym begins.of_device) can.apart) in
      begins_so priority so setup identity first begins own apart real first.controller.setup.plan.controller.mac (identify_asked first.controller.setup.plan)
      (opening_asks hears.identify first.device.station.identity first.controller own)

  pub follows_so : (priority : Priority) → DeviceSo → HearsSo → (setup : Setup) (identity : Identity) → IsSetup setup → CanMeet setup identity → {S : ℕ} (as_flash : Flash F S)
      → (first : World F) (run : List (Move × World F)) → Begins setup identity first → AreSizedModules first.device.live.rest.real.modules.items
      → AreMade as_flash first run → AreSizedMoves run → AreMeant first run
      → FollowsAt priority (last_world first run) (raised_all priority first run) (taken_over priority first run)
  follows_so priority so hears setup identity good can as_flash first run begins real made sized meant =
      run_follows priority so hears as_flash first [] [] (first_follows priority so hears setup identity good can first begins real) run made sized meant

  pub high_so : DeviceSo → HearsSo → (setup : Setup) (identity : Identity) → IsSetup setup → CanMeet setup identity → {S : ℕ} (as_flash : Flash F S)
      → (first : World F) (run : List (Move × World F)) → Begins setup identity first → AreSizedModules first.device.live.rest.real.modules.items
      → AreMade as_flash first run → AreSizedMoves run → AreMeant first run
      → FollowsAt High (last_world first run) (raised_over first run) (taken_over High first run)
  high_so so hears setup identity good can as_flash first run begins real made sized meant =
      subst (λ (xs : List AlarmNotification). FollowsAt High (last_world first run) xs (taken_over High first run)) (high_all first run)
      (follows_so High so hears setup identity good can as_flash first run begins real made sized meant)

-- ---- the last of the raised alarms

-- a prefix that lacks at most the last item is the whole list, or all but the last item
front_is : (raised taken : List AlarmNotification) → IsPrefixOf taken raised → length raised ≤ length taken + 1
    → (taken ≡ raised) ⊎ ((last : AlarmNotification) × (raised ≡ taken ++ last ∷ []))
front_is raised taken front lacks = by_rest front.0 front.1
  where
    by_rest : (rest : List AlarmNotification) → taken ++ rest ≡ raised → (taken ≡ raised) ⊎ ((last : AlarmNotification) × (raised ≡ taken ++ last ∷ []))
    by_rest [] e = inl (sym (append-nil taken) ∙ e)
    by_rest (last ∷ []) e = inr (last, sym e)
    by_rest (one ∷ two ∷ rest) e = absurd (omega (arith, lacks, ap length (sym e), length-append taken (one ∷ two ∷ rest)))

pub last_shown : (raised taken : List AlarmNotification) (shown : Option AlarmNotification) → IsPrefixOf taken raised → length raised ≤ length taken + 1 → shown ≡ last_of taken
    → IsOneOfTheLastTwo raised shown
last_shown raised taken shown front lacks is = by_front (front_is raised taken front lacks)
  where
    by_front : (taken ≡ raised) ⊎ ((last : AlarmNotification) × (raised ≡ taken ++ last ∷ [])) → IsOneOfTheLastTwo raised shown
    by_front (inl all) = inl (is ∙ ap (λ (xs : List AlarmNotification). last_of xs) all)
    by_front (inr but) = inr (taken, but.0, but.1, is)
