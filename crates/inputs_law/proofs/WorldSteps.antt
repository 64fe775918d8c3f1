-- Each move of a world gives and shows inputs as the small machines do, with the ends exchanged.
use Rattle.std.proofs.Common.{◌≡◌, ◌⊎◌, inl, inr, ◌==◌, ◌&&◌, ◌||◌, ◌++◌, ℕ, Bool, false, List, [], ◌∷◌, map, Option, Some, None, option_map, Result, Ok, Err, refl, sym, ap, subst, ◌∙◌}
use Rattle.std.specs.Prelude.{slice_get, nat_eq}
use Rattle.std.specs.Cmp.Lexicographic.{pointwise}
use Rattle.std.specs.List.{AllByRecursion}
use Rattle.lldp.specs.Views.{peer_as}
use Rattle.flash_model.specs.declared.flash.Flash.{Ghosts as Flash}
use Rattle.wire.specs.Codec.{IsSound, IsSoundWhole}
use Rattle.pn_values.specs.declared.identity.Identity.{Identity}
use Rattle.pn_values.specs.declared.mac.Mac.{Mac}
use Rattle.frame_codec.specs.declared.fault.FrameFault.{FrameFault}
use Rattle.frame_codec.specs.FrameId.{is_alarm, is_cyclic}
use Rattle.frame_codec.specs.Meaning.{Content, RealTime, ArpPacket, UdpDatagram, Meaning}
use Rattle.frame_codec.specs.Frame.{ethernet, frame_of, layers}
use Rattle.dcp_core.specs.declared.request.DcpFault.{DcpFault}
use Rattle.dcp_core.specs.Reading.{request_of as read_request}
use Rattle.dcp_core.specs.Request.{Asked}
use Rattle.rpc_core.specs.Cache.{Kept as Answer, kept_of}
use Rattle.record_blocks.specs.declared.alarm_notification.AlarmNotification.{AlarmNotification}
use Rattle.records.specs.declared.status.call_fault.CallFault.{CallFault}
use Rattle.records.specs.declared.status.operation.Operation.{Operation}
use Rattle.records.specs.declared.status.operation.Operation.TheVariants as operation
use Rattle.pn_alarms.specs.declared.fault.AlarmFault.{AlarmFault}
use Rattle.pn_alarms.specs.declared.pdu.Header.{Header}
use Rattle.pn_alarms.specs.Message.{ToDevice, message_of}
use Rattle.diagnosis.specs.declared.reports.priority.Priority.TheVariants.{High}
use Rattle.cyclic_data.specs.declared.place.Place.{Place}
use Rattle.cyclic_data.specs.declared.place.PlaceKind.{PlaceKind}
use Rattle.cyclic_data.specs.declared.place.PlaceKind.TheVariants.{Data, Iocs}
use Rattle.cyclic_data.specs.Image.{Cell, Shown as Image, octets_of, with_frame}
use Rattle.connects.specs.requests.Handled.{request_of}
use Rattle.connects.specs.requests.Request.{Request}
use Rattle.relations.specs.declared.exchange.statuses.InputStatus.{InputStatus}
use Rattle.relations.specs.exchange.Frames.{Inputs, Notifies, Replies, Reports, RepliesLow}
use Rattle.relations.specs.exchange.Marks.{iops_by}
use Rattle.relations.specs.exchange.Statuses.{is_bad}
use Rattle.relations.specs.Connect.{connect_of, rows_of}
use Rattle.relations.specs.declared.options.DeviceOptions.{DeviceOptions}
use Rattle.module_diff.specs.declared.changes.Affected.{Affected}
use Rattle.module_diff.specs.Diff.{wanted_in}
use Rattle.expected_places.specs.Machine.{PlugState, opened as plugs_opened}
use Rattle.expected_places.specs.Places.{opened_places}
use Rattle.relations.specs.RelationState.{RelationState}
use Rattle.settings_journal.specs.settings_store.Machine.{Outcome}
use Rattle.device_frames.specs.declared.event.Event.TheVariants.{Frame}
use Rattle.device_frames.specs.declared.local.Local.TheVariants as local
use Rattle.device_frames.specs.Heard.{Heard, Ticks, Applied, Met, Elsewhere, Resolves, Reported, Calls, Cyclic, broadcast, heard_alarm, heard_content, heard_frame, heard_of, heard_request, is_own, is_taken}
use Rattle.device_frames.specs.Sent.{Sent, CallAnswer, Again, Exchanges, bytes_of as bytes_sent}
use Rattle.device_frames.specs.Sendable.{AreSendable, IsSendable}
use Rattle.device_core.specs.State.{Live, Rest, Station}
use Rattle.device_core.specs.Handled.{kept_for, starting_of}
use Rattle.device_core.specs.Machine.{handled_step, heard_step}
use Rattle.controller_messages.specs.declared.setup.Setup.{Setup}
use Rattle.controller_messages.specs.Sent.{Sent as Message, bytes_of}
use Rattle.controller_core.specs.declared.stored.event.Event.{Event}
use Rattle.controller_core.specs.declared.stored.event.Event.TheVariants as controller
use Rattle.controller_core.specs.stored.State.{Controlling, Live as ControllerLive, with_live}
use Rattle.controller_core.specs.Machine.{step_of, turn_of}
use Rattle.network_world.specs.declared.moves.End.TheVariants.{Device, Controller}
use Rattle.network_world.specs.declared.moves.Move.{Move}
use Rattle.network_world.specs.declared.moves.Move.TheVariants as move
use Rattle.network_world.specs.World.{World, AtDevice, Delivers, Happens, at_controller}
use Rattle.end_laws.specs.both.Small as small
use Rattle.end_laws.specs.both.Outputs.{BringsNone, GivesAtController, Outputs, Shown, Shows, ShowsAtDevice, ShowsBehind}
use Rattle.end_laws.specs.device.Owed.{IsOwed}
use Rattle.end_laws.specs.hearing.Stations.{IsSetup}
use Rattle.end_laws.specs.device.Small.{IsPlanned, IsPlannedAs, IsPlannedCall}
use Rattle.end_laws.specs.device.Turn.{Answers, Makes, Turn, input_heard}
use Rattle.end_laws.specs.turns.Turns.{came_by}
use Rattle.both_ends.specs.startup.request.Request.{expected_of, request_for}
use Rattle.both_ends.specs.startup.View.{IsMeant, IsMeantAtDevice, move_of, rules_of}
use Rattle.both_ends.specs.exchange.Told.{IsSizedMove}
use Rattle.both_ends.proofs.StartupEach.{each_of}
use Rattle.both_ends.proofs.ExchangeHeardAlarm.{alarm_holds}
use Rattle.both_ends.proofs.ExchangeLaw.{DeviceSo, FollowsAt, one_follows}
use Rattle.both_ends.proofs.ExchangeLists.{holds_if}
use Rattle.both_ends.proofs.ExchangeMessages.{HearsSo}
use Rattle.both_ends.proofs.ExchangeOutputsOneFrame.{other_mac}
use Rattle.both_ends.proofs.ExchangeOutputsBrings.{IsAddressed}
use Rattle.both_ends.proofs.ExchangeOutputsShows.{AreKept, kept_at, more_kept, none_kept}
use Rattle.both_ends.proofs.ExchangeOutputsSix.{six_event}
use Rattle.both_ends.proofs.ExchangeOutputsTurns.{IsKept, IsSaid, KindsSo, turn_tells}
use Rattle.both_ends.proofs.ExchangeOutputsWorlds.{TurnsSo}
use Rattle.both_ends.proofs.StartupRuns.{controller_is, delivered}
use Rattle.inputs_law.specs.Shown.{brought_by, has_accepted, zeros_for}
use Rattle.inputs_law.specs.Given.{cell_for, heard_with, places_for, plugs_of, renewed_in}
use Rattle.inputs_law.proofs.BroughtFrames.{BringsNow, IsKnown, all_bring, all_said_silent, answer_silent}
use Rattle.inputs_law.proofs.ControllerShows.{IsShowing, ShowsIn, brought_with, inputs_of, turn_shows}
use Rattle.inputs_law.proofs.DeviceProvides.{IsStep as IsDeviceStep, step_provides, step_said}
use Rattle.inputs_law.proofs.DeviceSends.{AreOfImage, IsOfImage, image_in, link_sent, step_opens, turn_alone}
use Rattle.inputs_law.proofs.GivenCells.{Provided, Values, all_same, cell_of_kind, cells_of, mark_of_kind, provided_in}
use Rattle.inputs_law.proofs.GivenChanges.{changed_sends, left_others, renew_if, restate_all, restated_sends, shut_sends}
use Rattle.inputs_law.proofs.GivenValues.{IsFresh, first_others, first_values, own_all, provided_by, renewed_values, said_in, sends_by, sends_first, sends_of, values_by, values_same}
use Rattle.inputs_law.proofs.InputsPlaced.{ArePlaced, all_settled}
use Rattle.inputs_law.proofs.PlacesShut.{AreEven, even_settled}

frames_are : (old : Controlling) (event : Event) → (step_of old event).frames ≡ map (bytes_of old.setup) (turn_of old.setup old.live event).sent
unfolding step_of
frames_are old event = refl

step_frames : (outcomes : List Outcome) (station : Station) (live : Live) (heard : Heard) → map (bytes_sent station.identity) (heard_step outcomes station live heard).sent ≡ (heard_step outcomes station live heard).frames
unfolding heard_step handled_step
step_frames outcomes station live heard = refl

some_is : {A : Type 0} (x y : A) → Some x ≡ Some y → x ≡ y
some_is x y e = cc

none_some : {A : Type 0} {P : Type 0} (y : A) → None ≡ Some y → P
none_some y e = absurd (no_some e)
  where
    no_some : None ≡ Some y → ⊥
    no_some e = cc

-- ---- a frame is nothing that the application says

abbrev IsOfFrame : Heard → Type 0
IsOfFrame (Applied local) = ⊥
IsOfFrame other = Unit {0}

framed_request : (source : Mac) (read : Result Asked DcpFault) → IsOfFrame (heard_request source read)
framed_request source (Ok request) = tt
framed_request source (Err fault) = tt

framed_alarm : (source : Mac) (frame_id : ℕ) (body : List ℕ) (read : Result (Header × ToDevice) AlarmFault) → IsOfFrame (heard_alarm source frame_id body read)
framed_alarm = alarm_holds IsOfFrame (λ source header message. tt) (λ source header message. tt) (λ source header message. tt) tt

framed_content : (identity : Identity) (destination source : Mac) (content : Content) → IsOfFrame (heard_content identity destination source content)
framed_content identity destination source (RealTime frame_id body) =
    holds_if IsOfFrame (is_taken identity destination frame_id) (heard_request source (read_request frame_id body)) _ (framed_request source (read_request frame_id body))
    (holds_if IsOfFrame (is_own identity destination && is_alarm frame_id) (heard_alarm source frame_id body (message_of body)) _ (framed_alarm source frame_id body (message_of body))
    (holds_if IsOfFrame (is_own identity destination && is_cyclic frame_id) (Cyclic source frame_id body) Elsewhere tt tt))
framed_content identity destination source (ArpPacket packet) =
    holds_if IsOfFrame (is_own identity destination || pointwise nat_eq destination.octets broadcast) (Resolves source packet) Elsewhere tt tt
framed_content identity destination source (UdpDatagram from to body) =
    holds_if IsOfFrame (is_own identity destination && to.port == 34964) _ Elsewhere tt tt

framed_read : (identity : Identity) (read : Result Meaning FrameFault) → IsOfFrame (heard_frame identity read)
framed_read identity (Ok meaning) = framed_content identity meaning.destination meaning.source meaning.content
framed_read identity (Err fault) = tt

of_frame : (identity : Identity) (octets : List ℕ) → IsOfFrame (heard_of identity (Frame (record { items = octets })))
unfolding heard_of
of_frame identity octets = framed_read identity (frame_of octets)

-- ---- what was given and said after a move

-- of a device with this relation afterwards, and with this one before: without a relation there are no inputs
abbrev pub values_after : Option RelationState → Option RelationState → Rest → Heard → Values → Values
values_after None before rest heard values = first_values (said_in rest heard values.statuses)
values_after (Some next) None rest heard values = first_values (said_in rest heard values.statuses)
values_after (Some next) (Some link) rest heard values = values_by rest heard values

said_same : (rest : Rest) (heard : Heard) (values : Values) → (values_by rest heard values).statuses ≡ said_in rest heard values.statuses
said_same rest (Applied (local.Input slot subslot value)) values = refl
said_same rest (Applied (local.Status slot subslot is_good)) values = refl
said_same rest other values = refl

frame_said : (rest : Rest) (heard : Heard) (statuses : List InputStatus) → IsOfFrame heard → said_in rest heard statuses ≡ statuses
frame_said rest (Applied local) statuses is = absurd is
frame_said rest other statuses is = refl

frame_values : (rest : Rest) (heard : Heard) (values : Values) → IsOfFrame heard → values_by rest heard values ≡ values_by rest Elsewhere values
frame_values rest (Applied local) values is = absurd is
frame_values rest other values is = refl

pub frame_after : (next before : Option RelationState) (rest : Rest) (heard : Heard) (values : Values) → IsOfFrame heard
    → values_after next before rest heard values ≡ values_after next before rest Elsewhere values
frame_after None before rest heard values is = ap (λ (s : List InputStatus). first_values s) (frame_said rest heard values.statuses is)
frame_after (Some next) None rest heard values is = ap (λ (s : List InputStatus). first_values s) (frame_said rest heard values.statuses is)
frame_after (Some next) (Some link) rest heard values is = frame_values rest heard values is

-- ---- a device

module _ (setup : Setup) (station : Station) where
  abbrev pub BringsNothing : List ℕ → Type 0
  BringsNothing frame = brought_by setup station.identity frame ≡ None

  abbrev pub AreKeptSilent : List Answer → Type 0
  AreKeptSilent calls = AreKept BringsNothing setup.activity calls

  -- no response is stored for the activity of this set-up
  pub none_silent : (calls : List Answer) → kept_of setup.activity calls ≡ None → AreKeptSilent calls
  none_silent calls none = none_kept BringsNothing setup.activity calls none

  abbrev begins_bad : Bool
  begins_bad = station.options.inputs_begin_bad

  -- A relation sends what was given in it, and its places that are listed twice are touched as the first of them.
  pub record Sends (values : Values) (link : RelationState) : Type 0 where
    pub others : Place → Bool
    pub is : provided_in link.flow ≡ sends_of link.plugs station.options.inputs_begin_bad (zeros_for setup).data_length (places_for setup) others values
    pub begin_bad : link.options.inputs_begin_bad ≡ station.options.inputs_begin_bad
    pub even : AreEven link.plugs.places

  -- The image of what was given and said, in a relation with these places.
  abbrev pub image_with : PlugState → Values → Image
  image_with plugs values = record {
    data_length = (zeros_for setup).data_length;
    cells = map (λ place. cell_for place.kind station plugs values.statuses place (values.given place)) (places_for setup);
  }

  cell_as : (plugs : PlugState) (others : Place → Bool) (kind : PlaceKind) (place : Place) (given : Option (List ℕ)) (statuses : List InputStatus)
      → cell_of_kind plugs begins_bad others kind place given (iops_by (mark_of_kind plugs begins_bad others kind place given (is_bad place.slot place.subslot statuses)))
      ≡ cell_for kind station plugs statuses place given
  cell_as plugs others Data place given statuses = refl
  cell_as plugs others Iocs place given statuses = refl

  cells_as : (plugs : PlugState) (others : Place → Bool) (values : Values) (places : List Place)
      → cells_of plugs begins_bad others values places ≡ map (λ place. cell_for place.kind station plugs values.statuses place (values.given place)) places
  cells_as plugs others values [] = refl
  cells_as plugs others values (place ∷ places) =
      ap (λ (c : Cell). c ∷ cells_of plugs begins_bad others values places) (cell_as plugs others place.kind place (values.given place) values.statuses)
      ∙ ap (λ (cs : List Cell). cell_for place.kind station plugs values.statuses place (values.given place) ∷ cs) (cells_as plugs others values places)

  pub images_same : (plugs : PlugState) (values other : Values) → ((place : Place) → values.given place ≡ other.given place) → values.statuses ≡ other.statuses
      → image_with plugs values ≡ image_with plugs other
  images_same plugs values other given statuses = ap (λ (cs : List Cell). let i : Image = record { data_length = (zeros_for setup).data_length; cells = cs } in i) (all_same _ _ (places_for setup) (each_is (places_for setup)))
    where
      each_is : (places : List Place) → AllByRecursion (λ (place : Place). cell_for place.kind station plugs values.statuses place (values.given place) ≡ cell_for place.kind station plugs other.statuses place (other.given place)) places
      each_is [] = tt
      each_is (place ∷ places) = (
        ap (λ (g : Option (List ℕ)). cell_for place.kind station plugs values.statuses place g) (given place) ∙ ap (λ (s : List InputStatus). cell_for place.kind station plugs s place (other.given place)) statuses,
        each_is places,
      )

  pub record Provides (values : Values) (rest : Rest) : Type 0 where
    pub statuses : rest.statuses ≡ values.statuses
    pub sends : (link : RelationState) → rest.link ≡ Some link → Sends values link

  -- the relation, if there is one, sends this image
  pub image_fits : (values : Values) (rest : Rest) → Provides values rest → image_in (image_with (plugs_of rest.link) values) rest.link ≡ image_with (plugs_of rest.link) values
  image_fits values rest provides = by_link rest.link refl
    where
      by_link : (link : Option RelationState) → rest.link ≡ link → image_in (image_with (plugs_of link) values) link ≡ image_with (plugs_of link) values
      by_link None none = refl
      by_link (Some link) is =
          let sends = provides.sends link is in
          ap (λ (p : Provided). p.shown) sends.is
          ∙ ap (λ (cs : List Cell). let i : Image = record { data_length = (zeros_for setup).data_length; cells = cs } in i) (cells_as link.plugs sends.others values (places_for setup))

  -- without a relation no value is given
  abbrev pub IsUnrelated : Values → Rest → Type 0
  IsUnrelated values rest = rest.link ≡ None → (place : Place) → values.given place ≡ None

  pub image_still : (plugs : PlugState) (values : Values) (rest : Rest) → IsUnrelated values rest → image_with plugs (values_after rest.link rest.link rest Elsewhere values) ≡ image_with plugs values
  image_still plugs values rest unrelated = by_link rest.link refl
    where
      by_link : (link : Option RelationState) → rest.link ≡ link → image_with plugs (values_after link link rest Elsewhere values) ≡ image_with plugs values
      by_link None none = images_same plugs (first_values values.statuses) values (λ place. sym (unrelated none place)) refl
      by_link (Some link) is = images_same plugs (values_by rest Elsewhere values) values (λ place. refl) refl

  pub provides_same : (values other : Values) (rest : Rest) → ((place : Place) → values.given place ≡ other.given place) → values.statuses ≡ other.statuses → Provides values rest → Provides other rest
  provides_same values other rest given statuses provides = record {
    statuses = provides.statuses ∙ statuses;
    sends = λ link is.
        let sends = provides.sends link is in record {
          others = sends.others;
          is = sends.is ∙ values_same link.plugs begins_bad (zeros_for setup).data_length (places_for setup) sends.others values other given statuses;
          begin_bad = sends.begin_bad;
          even = sends.even;
        };
  }

  -- nothing happens at the device
  pub provides_still : (values : Values) (rest : Rest) → Provides values rest → Provides (values_after rest.link rest.link rest Elsewhere values) rest
  provides_still values rest provides = by_link rest.link refl
    where
      by_link : (link : Option RelationState) → rest.link ≡ link → Provides (values_after link link rest Elsewhere values) rest
      by_link None none = record { statuses = provides.statuses; sends = λ link is. none_some link (sym none ∙ is) }
      by_link (Some link) was = provides_same values (values_by rest Elsewhere values) rest (λ place. refl) refl provides

module _ (sound : IsSound ethernet) (setup : Setup) (station : Station) (there : ArePlaced setup) where
  module _ (live : Live) (values : Values) (provides : Provides setup station values live.rest) (heard : Heard)
      (planned : IsPlanned (rules_of setup station) setup.activity station.named live.rest.real heard) (outcomes : List Outcome)
      (turn : Turn station live heard (heard_step outcomes station live heard).live.rest (heard_step outcomes station live heard).sent) where
    abbrev after : Rest
    after = (heard_step outcomes station live heard).live.rest

    abbrev sent : List Sent
    sent = (heard_step outcomes station live heard).sent

    abbrev begin_bad : Bool
    begin_bad = station.options.inputs_begin_bad

    abbrev many : ℕ
    many = (zeros_for setup).data_length

    abbrev places : List Place
    places = places_for setup

    -- what a relation with these places sends
    abbrev sends : PlugState → (Place → Bool) → Values → Provided
    sends plugs others now = sends_of plugs begin_bad many places others now

    -- something is pulled or plugged, or a place is released
    renewed_sends : (link : RelationState) (plugs : PlugState) (others : Place → Bool) (affected : Option Affected)
        → (later : Place → Bool) × (restate_all plugs (renew_if affected begin_bad (sends link.plugs others values)) ≡ sends plugs later (renewed_values affected values))
    renewed_sends link plugs others None = (
      others,
      restated_sends begin_bad many places (own_all link.plugs begin_bad many places there.once) link.plugs plugs others values
          ∙ values_same plugs begin_bad many places others values (renewed_values None values) (λ place. refl) refl,
    )
    renewed_sends link plugs others (Some affected) = (
      left_others begin_bad many places (own_all link.plugs begin_bad many places there.once) (Some affected) others,
      changed_sends begin_bad many places (own_all link.plugs begin_bad many places there.once) affected link.plugs plugs others values,
    )

    -- a relation that goes on
    sends_on : (link next : RelationState) → Sends setup station values link → IsDeviceStep live.rest heard link next → Sends setup station (values_by live.rest heard values) next
    sends_on link next before (inl gives) =
        let goes = gives.goes before.even in record {
          others = before.others;
          is = gives.is
              ∙ (ap (λ (s : List InputStatus). provided_by live.rest.real.modules.items s heard (provided_in link.flow)) provides.statuses
              ∙ (ap (λ (p : Provided). provided_by live.rest.real.modules.items values.statuses heard p) before.is
              ∙ (sends_by link.plugs begin_bad many places there.once live.rest before.others values heard gives.none
              ∙ shut_sends begin_bad many places (own_all link.plugs begin_bad many places there.once) link.plugs next.plugs before.others (values_by live.rest heard values) goes.shut)));
          begin_bad = ap (λ (o : DeviceOptions). o.inputs_begin_bad) gives.options ∙ before.begin_bad;
          even = goes.even;
        }
    sends_on link next before (inr restates) =
        let goes = restates.goes (restates.even before.even) in
        let affected = renewed_in live.rest heard in
        let renewed = renewed_sends link restates.plugs before.others affected in record {
          others = renewed.0;
          is = restates.is
              ∙ (ap (λ (b : Bool). restate_all restates.plugs (renew_if affected b (provided_in link.flow))) before.begin_bad
              ∙ (ap (λ (p : Provided). restate_all restates.plugs (renew_if affected begin_bad p)) before.is
              ∙ (renewed.1
              ∙ (ap (λ (v : Values). sends restates.plugs renewed.0 v) (sym (restates.values values))
              ∙ shut_sends begin_bad many places (own_all link.plugs begin_bad many places there.once) restates.plugs next.plugs renewed.0 (values_by live.rest heard values) goes.shut))));
          begin_bad = ap (λ (o : DeviceOptions). o.inputs_begin_bad) restates.options ∙ before.begin_bad;
          even = goes.even;
        }

    goes_on : (link next : RelationState) → live.rest.link ≡ Some link → after.link ≡ Some next → Sends setup station (values_by live.rest heard values) next
    goes_on link next was is = sends_on link next (provides.sends link was) (step_provides outcomes station live link heard next was is)

    -- a relation that begins is that of the plan
    asked_of : Makes live.rest.calls live.rest.link heard after.link sent → live.rest.link ≡ None → (next : RelationState) → after.link ≡ Some next → next.request ≡ request_for setup.plan setup.ar
    asked_of makes none next is =
        let plan : IsPlannedCall (rules_of setup station) setup.activity station.named live.rest.real makes.call =
        subst (λ (h : Heard). IsPlanned (rules_of setup station) setup.activity station.named live.rest.real h) makes.is planned in
        let asks : IsPlannedAs (rules_of setup station) station.named live.rest.real makes.call.header.sequence plan.blocks (Some operation.Connect) =
        subst (λ (o : Option Operation). IsPlannedAs (rules_of setup station) station.named live.rest.real makes.call.header.sequence plan.blocks o) makes.connects plan.asks in
        let same : plan.blocks ≡ makes.blocks = some_is plan.blocks makes.blocks (sym plan.counted ∙ makes.counted) in
        ap (λ (l : RelationState). l.request) (sym (some_is _ next (sym makes.made ∙ is)))
        ∙ same_ok makes.request (request_for setup.plan setup.ar)
        (sym (sym (ap (λ (l : Option RelationState). connect_of l makes.blocks) none) ∙ makes.read) ∙ (ap (λ (b : List ℕ). request_of None b) (sym same) ∙ asks))
      where
        same_ok : (x y : Request) → ◌≡◌ {A = Result Request CallFault} (Ok x) (Ok y) → x ≡ y
        same_ok x y e = cc

    -- this turn, if no relation exists before it
    abbrev alone : live.rest.link ≡ None → ((shown : Image) → AreOfImage shown sent) × ((next : RelationState) → after.link ≡ Some next → Makes live.rest.calls live.rest.link heard after.link sent)
    alone none = turn_alone live.rest.real.modules.items after.real.modules.items live.rest.calls live.rest.diagnoses after.diagnoses heard live.rest.link after.link sent none turn.is

    begins : (next : RelationState) → live.rest.link ≡ None → after.link ≡ Some next → Sends setup station (first_values (said_in live.rest heard values.statuses)) next
    begins next none is =
        let makes = (alone none).1 next is in
        let starting = starting_of station live in
        let asked = asked_of makes none next is in
        let rows = rows_of next.request live.rest.real in
        let opens = step_opens outcomes station live heard next after.link sent none is makes in
        let plugs_are : next.plugs ≡ plugs_opened (expected_of setup.plan.real.modules.items) rows = opens.plugs ∙ ap (λ (r : Request). plugs_opened r.expected rows) asked in
        let fresh : IsFresh next.plugs begin_bad many places there.once rows places =
        subst (λ (p : PlugState). IsFresh p begin_bad many places there.once rows places) (sym plugs_are) (there.fresh rows) in
        let said : said_in live.rest heard values.statuses ≡ live.rest.statuses = ap (λ (h : Heard). said_in live.rest h values.statuses) makes.is ∙ sym provides.statuses in
        subst (λ (s : List InputStatus). Sends setup station (first_values s) next) (sym said) (record {
          others = first_others next.plugs begin_bad many places there.once rows starting refl fresh;
          is = opens.sends
              ∙ sends_first next.plugs begin_bad many places there.once rows starting refl fresh next.request
              (ap (λ (r : Request). r.input.layout.data_length) asked) (ap (λ (r : Request). r.input.layout.places) asked);
          begin_bad = ap (λ (o : DeviceOptions). o.inputs_begin_bad) opens.options;
          even = subst (λ (p : PlugState). AreEven p.places) (sym opens.plugs)
              (even_settled (opened_places next.request.expected rows) (all_settled rows (wanted_in next.request.expected.modules.items next.request.expected.submodules.items)));
        })

    pub provides_on : Provides setup station (values_after after.link live.rest.link live.rest heard values) after
    provides_on = by_links after.link live.rest.link refl refl
      where
        said : after.statuses ≡ said_in live.rest heard values.statuses
        said = step_said outcomes station live heard ∙ ap (λ (s : List InputStatus). said_in live.rest heard s) provides.statuses

        by_links : (next link : Option RelationState) → after.link ≡ next → live.rest.link ≡ link → Provides setup station (values_after next link live.rest heard values) after
        by_links None link gone was = record { statuses = said; sends = λ next is. none_some next (sym gone ∙ is) }
        by_links (Some now) None there none = record { statuses = said; sends = λ next is. begins next none is }
        by_links (Some now) (Some link) there was = record { statuses = said ∙ sym (said_same live.rest heard values); sends = λ next is. goes_on link next was is }

    -- an input makes no relation
    pub input_makes_none : (slot subslot : ℕ) (value : List ℕ) → heard ≡ input_heard slot subslot value → live.rest.link ≡ None → (next : RelationState) → after.link ≡ Some next → ⊥
    input_makes_none slot subslot value given none next is =
        let makes = (alone none).1 next is in
        apart makes.caller makes.address makes.call (sym given ∙ makes.is)
      where
        apart : (caller : _) (address : _) (call : _) → input_heard slot subslot value ≡ Reported caller address (Calls call) → ⊥
        apart caller address call e = cc

    -- ---- what is sent

    abbrev shown_then : Image
    shown_then = image_with setup station (plugs_of after.link) (values_after after.link live.rest.link live.rest heard values)

    images : AreOfImage shown_then sent
    images = by_link live.rest.link refl
      where
        by_link : (link : Option RelationState) → live.rest.link ≡ link → AreOfImage shown_then sent
        by_link None none = (alone none).0 shown_then
        by_link (Some link) was =
            subst (λ (i : Image). AreOfImage i sent) (image_fits setup station (values_after after.link live.rest.link live.rest heard values) after provides_on) (link_sent shown_then outcomes station live link heard was)

    one_known : AreKeptSilent setup station live.rest.calls → (shown : Image) (message : Sent) → IsOfImage shown message → IsOwed heard live message → IsKnown setup station.identity sound shown message
    one_known silent shown (Exchanges route (Inputs state inputs counter)) is owed = is
    one_known silent shown (Again frame) is owed =
        let plan : IsPlannedCall (rules_of setup station) setup.activity station.named live.rest.real owed.call =
        subst (λ (h : Heard). IsPlanned (rules_of setup station) setup.activity station.named live.rest.real h) owed.is planned in
        subst (λ (f : List ℕ). BringsNothing setup station f) owed.same
        (kept_at (BringsNothing setup station) setup.activity live.rest.calls silent owed.kept (ap (λ (a : List ℕ). kept_of a live.rest.calls) (sym plan.own) ∙ owed.there))
    one_known silent shown (Exchanges route (Notifies header alarm)) is owed = tt
    one_known silent shown (Exchanges route (Replies header)) is owed = tt
    one_known silent shown (Exchanges route (Reports tag header alarm)) is owed = tt
    one_known silent shown (Exchanges route (RepliesLow tag header)) is owed = tt
    one_known silent shown other is owed = tt

    all_known : AreKeptSilent setup station live.rest.calls → (shown : Image) (messages : List Sent) → AreOfImage shown messages → AllByRecursion (IsOwed heard live) messages → AllByRecursion (IsKnown setup station.identity sound shown) messages
    all_known silent shown [] is owed = tt
    all_known silent shown (message ∷ messages) is owed = (one_known silent shown message is.0 owed.0, all_known silent shown messages is.1 owed.1)

    brings_then : AreKeptSilent setup station live.rest.calls → AreSendable station.identity sent → AllByRecursion (BringsNow setup station.identity shown_then) (map (bytes_sent station.identity) sent)
    brings_then silent can = all_bring setup station.identity sound shown_then refl sent can (all_known silent shown_then sent images turn.owed)

    pub frames_bring : AreKeptSilent setup station live.rest.calls → AreSendable station.identity sent
        → AllByRecursion (BringsNow setup station.identity shown_then) (heard_step outcomes station live heard).frames
    frames_bring silent can = subst (λ (frames : List (List ℕ)). AllByRecursion (BringsNow setup station.identity shown_then) frames) (step_frames outcomes station live heard) (brings_then silent can)

    pub calls_silent : AreKeptSilent setup station live.rest.calls → AreSendable station.identity sent → AreKeptSilent setup station after.calls
    calls_silent silent can = by_answers turn.answers
      where
        by_answers : (after.calls ≡ live.rest.calls) ⊎ Answers station.identity live.rest.calls after.calls sent → AreKeptSilent setup station after.calls
        by_answers (inl same) = subst (λ (c : List Answer). AreKeptSilent setup station c) (sym same) silent
        by_answers (inr answers) =
            let answer = CallAnswer answers.caller answers.address answers.answer in
            let one : IsSendable station.identity answer =
            each_of (IsSendable station.identity) answers.first answer answers.others
            (subst (λ (messages : List Sent). AreSendable station.identity messages) answers.sends can) in
            subst (λ (c : List Answer). AreKeptSilent setup station c) (sym answers.keeps)
            (more_kept (BringsNothing setup station) setup.activity (kept_for station.identity answers.call answer) live.rest.calls
            (λ own. answer_silent setup station.identity sound answers.caller answers.address answers.answer one) silent)

-- ---- worlds

-- a move, with the ends exchanged
abbrev pub mirrored : small.Move → small.Move
mirrored (small.ComesToDevice number) = small.ComesToController number
mirrored (small.ComesToController number) = small.ComesToDevice number
mirrored small.AtDevice = small.AtController
mirrored small.AtController = small.AtDevice

abbrev pub rules_for : Setup → Identity → Outputs Image Image
rules_for setup identity = record {
  zeros = zeros_for setup;
  shown_by = λ octets. with_frame octets (zeros_for setup);
  octets_of = octets_of;
  brought_by = λ octets. brought_by setup identity octets;
}

abbrev pub seen_as : Setup → ControllerLive → Image → List (List ℕ) → Shown Image Image
seen_as setup live given sent = record { accepted = has_accepted live; outputs = inputs_of setup live; given = given; sent = sent }

abbrev pub seen : {F : Type 0} → World F → Values → Shown Image Image
seen w values = seen_as w.controller.setup w.controller.live (image_with w.controller.setup w.device.station (plugs_of w.device.live.rest.link) values) w.sent

shows_as : (setup : Setup) (identity : Identity) (brought : Option (List ℕ)) (before next : ControllerLive) (given now : Image) (frames all : List (List ℕ)) → ShowsIn setup brought before next
    → Shows (rules_for setup identity) brought (seen_as setup before given frames) (seen_as setup next now all)
shows_as setup identity brought before next given now frames all (inl same) = inl same
shows_as setup identity brought before next given now frames all (inr (inl none)) = inr (inl none)
shows_as setup identity brought before next given now frames all (inr (inr accepts)) =
    inr (inr (record { octets = accepts.octets; brings = accepts.brings; accepted = accepts.accepted; shown = accepts.shown }))

all_addressed : (shown : Image) (sent : List Message) → AllByRecursion (IsSaid shown) sent → AllByRecursion IsAddressed sent
all_addressed shown [] all = tt
all_addressed shown (message ∷ sent) all = (all.0.1, all_addressed shown sent all.1)

module _ (turns : TurnsSo) (kinds : KindsSo) (so : DeviceSo) (hears : HearsSo) (sound : IsSound ethernet) (whole : IsSoundWhole layers) (there : (setup : Setup) → IsSetup setup → ArePlaced setup) {F : Type 0} where
  abbrev pub rules_at : World F → Outputs Image Image
  rules_at w = rules_for w.controller.setup w.device.station.identity

  abbrev pub ProvidesAt : World F → Values → Type 0
  ProvidesAt w values = Provides w.controller.setup w.device.station values w.device.live.rest

  -- the stored responses bring nothing, the controller sends to stations, and shows what it accepted; and the addresses and
  -- the partner are as in the law of alarms
  pub record Holds (w : World F) : Type 0 where
    pub silent : AreKeptSilent w.controller.setup w.device.station w.device.live.rest.calls
    pub many : ℕ
    pub kept : IsKept many w.controller.live
    pub showing : IsShowing w.controller.setup w.controller.live
    pub raised : List AlarmNotification
    pub taken : List AlarmNotification
    pub follows : FollowsAt High w raised taken

  -- what becomes of a world
  pub record Refines (before after : World F) (heard : Heard) (values : Values) (steps : Type 0) : Type 0 where
    pub is : steps
    pub setup : after.controller.setup ≡ before.controller.setup
    pub station : after.device.station ≡ before.device.station
    pub provides : ProvidesAt after (values_after after.device.live.rest.link before.device.live.rest.link before.device.live.rest heard values)
    pub silent : AreKeptSilent after.controller.setup after.device.station after.device.live.rest.calls
    pub many : ℕ
    pub kept : IsKept many after.controller.live
    pub showing : IsShowing after.controller.setup after.controller.live

  module _ (before after : World F) (holds : Holds before) (values : Values) (provides : ProvidesAt before values)
      (unrelated : IsUnrelated before.controller.setup before.device.station values before.device.live.rest) where
    abbrev setup : Setup
    setup = before.controller.setup

    abbrev station : Station
    station = before.device.station

    abbrev rules : Outputs Image Image
    rules = rules_at before

    -- what was given and said in a world that comes next
    abbrev values_to : World F → Heard → Values
    values_to w heard = values_after w.device.live.rest.link before.device.live.rest.link before.device.live.rest heard values

    -- the places of the relation before
    abbrev plugs : PlugState
    plugs = plugs_of before.device.live.rest.link

    apart : pointwise nat_eq setup.plan.controller.mac.octets station.identity.mac.octets ≡ false
    apart = other_mac setup.plan.controller.mac station.identity.mac (λ e. holds.follows.apart (sym e))

    -- ---- a step of the controller

    controller_steps : (event : Event) → after ≡ at_controller before event
        → Refines before after Elsewhere values (ShowsAtDevice rules (brought_with setup kinds station.identity before.controller.live holds.follows.placed.partner (came_by setup event)) (seen before values) (seen after (values_to after Elsewhere)))
    controller_steps event is =
        let live = before.controller.live in
        let turn = turn_of setup live event in
        let now : World F = record { device = before.device; controller = with_live before.controller turn.live; sent = before.sent ++ map (bytes_of setup) turn.sent } in
        let becomes : after ≡ now =
        is ∙ (ap (λ (c : Controlling). record { device = before.device; controller = c; sent = before.sent ++ (step_of before.controller event).frames }) (controller_is before.controller event)
        ∙ ap (λ (frames : List (List ℕ)). record { device = before.device; controller = with_live before.controller turn.live; sent = before.sent ++ frames }) (frames_are before.controller event)) in
        let tells = turn_tells holds.many kinds setup live event (six_event whole setup event) holds.kept in
        let shows = turn_shows setup kinds station.identity live holds.follows.placed.partner event holds.showing in
        let brought = brought_with setup kinds station.identity live holds.follows.placed.partner (came_by setup event) in
        subst (λ (w : World F). Refines before w Elsewhere values (ShowsAtDevice rules brought (seen before values) (seen w (values_to w Elsewhere)))) (sym becomes) (record {
          is = record {
            shows = shows_as setup station.identity brought live turn.live (image_with setup station plugs values) (image_with setup station plugs (values_to before Elsewhere)) before.sent (before.sent ++ map (bytes_of setup) turn.sent) shows.shows;
            given = image_still setup station plugs values before.device.live.rest unrelated;
            frames = map (bytes_of setup) turn.sent;
            none = all_said_silent setup station.identity sound apart holds.follows.good.mac turn.sent (all_addressed turn.live.cyclic.shown turn.sent tells.reported);
            behind = refl;
          };
          setup = refl;
          station = refl;
          provides = provides_still setup station values before.device.live.rest provides;
          silent = holds.silent;
          many = holds.many;
          kept = tells.kept;
          showing = shows.showing;
        })

    -- ---- a step of the device

    device_steps : {S : ℕ} (as_flash : Flash F S) (heard : Heard) → IsMeantAtDevice before heard → AtDevice as_flash before heard after
        → Refines before after heard values (GivesAtController rules (seen before values) (seen after (values_to after heard)))
    device_steps as_flash heard meant made =
        let hears_it = made.hears in
        let outcomes = hears_it.steps.outcomes in
        let live = before.device.live in
        let turn = turns (rules_of setup station) setup.activity outcomes station live heard meant.planned in
        let brings = subst (λ (l : Live). AllByRecursion (BringsNow setup station.identity (image_with setup station (plugs_of l.rest.link) (values_after l.rest.link live.rest.link live.rest heard values))) (heard_step outcomes station live heard).frames) (sym hears_it.steps.live)
        (frames_bring sound setup station (there setup holds.follows.good) live values provides heard meant.planned outcomes turn holds.silent hears_it.steps.sendable) in
        record {
          is = record {
            accepted = ap (λ (c : Controlling). has_accepted c.live) made.controller;
            outputs = ap (λ (c : Controlling). inputs_of c.setup c.live) made.controller;
            frames = hears_it.frames;
            brings = subst (λ (c : Controlling). AllByRecursion (λ frame. BringsNone rules frame ⊎ (rules.brought_by frame ≡ Some (octets_of (image_with c.setup after.device.station (plugs_of after.device.live.rest.link) (values_to after heard))))) hears_it.frames) (sym made.controller)
                (subst (λ (s : Station). AllByRecursion (λ frame. BringsNone rules frame ⊎ (rules.brought_by frame ≡ Some (octets_of (image_with setup s (plugs_of after.device.live.rest.link) (values_to after heard))))) hears_it.frames) (sym hears_it.steps.same)
                (subst (λ (frames : List (List ℕ)). AllByRecursion (BringsNow setup station.identity (image_with setup station (plugs_of after.device.live.rest.link) (values_to after heard))) frames) (sym hears_it.steps.frames) brings));
            behind = hears_it.behind;
          };
          setup = ap (λ (c : Controlling). c.setup) made.controller;
          station = hears_it.steps.same;
          provides = subst (λ (c : Controlling). Provides c.setup after.device.station (values_to after heard) after.device.live.rest) (sym made.controller)
              (subst (λ (s : Station). Provides setup s (values_to after heard) after.device.live.rest) (sym hears_it.steps.same)
              (subst (λ (l : Live). Provides setup station (values_after l.rest.link live.rest.link live.rest heard values) l.rest) (sym hears_it.steps.live)
              (provides_on sound setup station (there setup holds.follows.good) live values provides heard meant.planned outcomes turn)));
          silent = subst (λ (c : Controlling). AreKeptSilent c.setup after.device.station after.device.live.rest.calls) (sym made.controller)
              (subst (λ (s : Station). AreKeptSilent setup s after.device.live.rest.calls) (sym hears_it.steps.same)
              (subst (λ (l : Live). AreKeptSilent setup station l.rest.calls) (sym hears_it.steps.live)
              (calls_silent sound setup station (there setup holds.follows.good) live values provides heard meant.planned outcomes turn holds.silent hears_it.steps.sendable)));
          many = holds.many;
          kept = subst (λ (c : Controlling). IsKept holds.many c.live) (sym made.controller) holds.kept;
          showing = subst (λ (c : Controlling). IsShowing c.setup c.live) (sym made.controller) holds.showing;
        }

    -- an input makes no relation
    pub unmade_by : {S : ℕ} (as_flash : Flash F S) (slot subslot : ℕ) (value : List ℕ) → IsMeantAtDevice before (input_heard slot subslot value) → AtDevice as_flash before (input_heard slot subslot value) after
        → before.device.live.rest.link ≡ None → after.device.live.rest.link ≡ None
    unmade_by as_flash slot subslot value meant made none =
        let outcomes = made.hears.steps.outcomes in
        let heard = input_heard slot subslot value in
        let turn = turns (rules_of setup station) setup.activity outcomes station before.device.live heard meant.planned in
        ap (λ (l : Live). l.rest.link) made.hears.steps.live
        ∙ by_link (heard_step outcomes station before.device.live heard).live.rest.link
        (λ next is. input_makes_none sound setup station (there setup holds.follows.good) before.device.live values provides heard meant.planned outcomes turn slot subslot value refl none next is)
      where
        by_link : (link : Option RelationState) → ((next : RelationState) → link ≡ Some next → ⊥) → link ≡ None
        by_link None unmade = refl
        by_link (Some next) unmade = absurd (unmade next refl)

    -- ---- moves

    rests : (Does : Type 0) → after ≡ before → Refines before after Elsewhere values ((seen after (values_to after Elsewhere) ≡ seen before values) ⊎ Does)
    rests Does same = subst (λ (w : World F). Refines before w Elsewhere values ((seen w (values_to w Elsewhere) ≡ seen before values) ⊎ Does)) (sym same) (record {
      is = inl (ap (λ (i : Image). seen_as setup before.controller.live i before.sent) (image_still setup station plugs values before.device.live.rest unrelated));
      setup = refl;
      station = refl;
      provides = provides_still setup station values before.device.live.rest provides;
      silent = holds.silent;
      many = holds.many;
      kept = holds.kept;
      showing = holds.showing;
    })

    does : (heard : Heard) (Same Does More : Type 0) → (Does → More) → Refines before after heard values Does → Refines before after heard values (Same ⊎ More)
    does heard Same Does More more refines = record {
      is = inr (more refines.is);
      setup = refines.setup;
      station = refines.station;
      provides = refines.provides;
      silent = refines.silent;
      many = refines.many;
      kept = refines.kept;
      showing = refines.showing;
    }

    -- a frame gives no input
    framed : (heard : Heard) → IsOfFrame heard → Refines before after heard values (GivesAtController rules (seen before values) (seen after (values_to after heard)))
        → Refines before after Elsewhere values (GivesAtController rules (seen before values) (seen after (values_to after Elsewhere)))
    framed heard is refines = record {
      is = subst (λ (v : Values). GivesAtController rules (seen before values) (seen after v)) (frame_after after.device.live.rest.link before.device.live.rest.link before.device.live.rest heard values is) refines.is;
      setup = refines.setup;
      station = refines.station;
      provides = subst (λ (v : Values). ProvidesAt after v) (frame_after after.device.live.rest.link before.device.live.rest.link before.device.live.rest heard values is) refines.provides;
      silent = refines.silent;
      many = refines.many;
      kept = refines.kept;
      showing = refines.showing;
    }

    module _ {S : ℕ} (as_flash : Flash F S) where
      abbrev IsStep : Move → Type 0
      IsStep one = Refines before after (heard_with one) values (ShowsBehind rules (seen before values) (mirrored (move_of one)) (seen after (values_to after (heard_with one))))

      to_device : (number : ℕ) → ((frame : List ℕ) → slice_get before.sent number ≡ Some frame → IsMeantAtDevice before (heard_of station.identity (Frame (record { items = frame }))))
          → Delivers as_flash (slice_get before.sent number) before Device after → IsStep (move.Deliver Device number)
      to_device number meant happens = delivered as_flash before after Device (IsStep (move.Deliver Device number)) (slice_get before.sent number) happens
          (λ same. rests _ same)
          (λ frame is comes. does Elsewhere _ _ _ (λ steps. steps)
          (framed (heard_of station.identity (Frame (record { items = frame }))) (of_frame station.identity frame) (device_steps as_flash (heard_of station.identity (Frame (record { items = frame }))) (meant frame is) comes)))

      to_controller : (number : ℕ) → Delivers as_flash (slice_get before.sent number) before Controller after → IsStep (move.Deliver Controller number)
      to_controller number happens = delivered as_flash before after Controller (IsStep (move.Deliver Controller number)) (slice_get before.sent number) happens
          (λ same. rests _ same)
          (λ frame is comes. does Elsewhere _ _ _ (λ steps. record { frame = frame; there = is; steps = steps }) (controller_steps (controller.Frame (record { items = frame })) comes))

      at_device_else : (heard : Heard) → IsOfFrame heard → IsMeantAtDevice before heard → AtDevice as_flash before heard after
          → Refines before after Elsewhere values ((seen after (values_to after Elsewhere) ≡ seen before values) ⊎ GivesAtController rules (seen before values) (seen after (values_to after Elsewhere)))
      at_device_else heard is meant happens = does Elsewhere _ _ _ (λ steps. steps) (framed heard is (device_steps as_flash heard meant happens))

      at_controller_so : (event : Event) → after ≡ at_controller before event → brought_with setup kinds station.identity before.controller.live holds.follows.placed.partner (came_by setup event) ≡ None
          → Refines before after Elsewhere values ((seen after (values_to after Elsewhere) ≡ seen before values) ⊎ ShowsAtDevice rules None (seen before values) (seen after (values_to after Elsewhere)))
      at_controller_so event happens none = does Elsewhere _ _ _ (λ steps. subst (λ (b : Option (List ℕ)). ShowsAtDevice rules b (seen before values) (seen after (values_to after Elsewhere))) none steps) (controller_steps event happens)

      happens_shows : (one : Move) → IsMeant before one → Happens as_flash before one after → IsStep one
      happens_shows (move.Deliver Device number) meant happens = to_device number meant happens
      happens_shows (move.Deliver Controller number) meant happens = to_controller number happens
      happens_shows (move.Tick Device) meant happens = at_device_else Ticks tt meant happens
      happens_shows (move.Tick Controller) meant happens = at_controller_so controller.Tick happens refl
      happens_shows (move.Application local) meant happens = does (Applied local) _ _ _ (λ steps. steps) (device_steps as_flash (Applied local) meant happens)
      happens_shows (move.Neighbour neighbour) meant happens = at_device_else (Met (option_map peer_as neighbour)) tt meant happens
      happens_shows (move.Give slot subslot value) meant happens = at_controller_so (controller.Give slot subslot value) happens refl
      happens_shows (move.OutputStatus slot subslot is_good) meant happens = at_controller_so (controller.Status slot subslot is_good) happens refl
      happens_shows (move.Read slot subslot index) meant happens = at_controller_so (controller.Read slot subslot index) happens refl
      happens_shows (move.Write slot subslot index octets) meant happens = at_controller_so (controller.Write slot subslot index octets) happens refl
      happens_shows move.Stop meant happens = at_controller_so controller.Stop happens refl

      -- a move, and what holds after it
      pub step_holds : (one : Move) → IsMeant before one → IsSizedMove one → Happens as_flash before one after → IsStep one × Holds after
      step_holds one meant sized happens =
          let step = happens_shows one meant happens in (
            step,
            record {
              silent = step.silent;
              many = step.many;
              kept = step.kept;
              showing = step.showing;
              raised = _;
              taken = _;
              follows = one_follows High so hears as_flash before after holds.raised holds.taken holds.follows one happens meant sized;
            },
          )
