-- A device accepts the cyclic frames that are acceptable, and no others.
use Rattle.std.proofs.Common.{◌≡◌, ap, ◌+◌, ◌==◌, ◌&&◌, ◌||◌, ℕ, Bool, true, false, nat_eq, List, [], drop, take, Option, Some, Result, Ok, Err, refl, sym, subst, ◌∙◌, arith}
use Rattle.std.specs.Prelude.{if◌then◌else◌}
use Rattle.std.proofs.lemmas.Bool.{and_parts}
use Rattle.std.specs.Cmp.Lexicographic.{pointwise}
use Rattle.arrayvec.specs.ArrayVec.{ArrayVec}
use Rattle.flash_model.specs.declared.flash.Flash.{Ghosts as Flash}
use Rattle.pn_values.specs.declared.identity.Identity.{Identity}
use Rattle.pn_values.specs.declared.mac.Mac.{Mac}
use Rattle.frame_codec.specs.declared.arp.Arp.{Arp}
use Rattle.frame_codec.specs.declared.fault.FrameFault.{FrameFault}
use Rattle.frame_codec.specs.declared.udp.Caller.{Caller}
use Rattle.frame_codec.specs.FrameId.{is_alarm, is_cyclic}
use Rattle.frame_codec.specs.Meaning.{ArpPacket, Content, Meaning, RealTime, UdpDatagram}
use Rattle.frame_codec.specs.Frame.{frame_of}
use Rattle.frame_codec.specs.Calls.{call_port}
use Rattle.dcp_core.specs.declared.request.DcpFault.{DcpFault}
use Rattle.dcp_core.specs.Reading.{request_of}
use Rattle.dcp_core.specs.Request.{Asked}
use Rattle.pn_alarms.specs.declared.fault.AlarmFault.{AlarmFault}
use Rattle.pn_alarms.specs.declared.message.Notice.TheVariants as notice
use Rattle.pn_alarms.specs.declared.pdu.Header.{Header}
use Rattle.pn_alarms.specs.Message.{ToDevice, message_of}
use Rattle.diagnosis.specs.declared.reports.priority.Priority.{Priority}
use Rattle.diagnosis.specs.declared.reports.priority.Priority.TheVariants.{High, Low}
use Rattle.diagnosis.specs.reports.Message.{low_message_of}
use Rattle.diagnosis.specs.reports.Priority.{priority_of}
use Rattle.cyclic_data.specs.declared.exchange.received.Received.{Received}
use Rattle.cyclic_data.specs.declared.exchange.received.Received.TheVariants.{Taken}
use Rattle.cyclic_data.specs.Timing.{Hearing, held_on}
use Rattle.cyclic_data.specs.exchange.Cyclic.{Cyclic as CyclicEnd}
use Rattle.relations.specs.exchange.Received.{behind_frame, received_as}
use Rattle.relations.specs.Exchanged.{receiving_as}
use Rattle.relations.specs.Phases.{updated, with_flow}
use Rattle.relations.specs.RelationState.{RelationState}
use Rattle.device_frames.specs.declared.event.Event.{Event}
use Rattle.device_frames.specs.declared.event.Event.TheVariants.{Frame, Call as Joined, Tick, Neighbour, Application}
use Rattle.device_frames.specs.declared.local.Local.TheVariants as local
use Rattle.device_frames.specs.declared.note.Note.{Note}
use Rattle.device_frames.specs.declared.note.Note.TheVariants.{Done}
use Rattle.device_frames.specs.Heard.{Alarms, Asks, Cyclic, Elsewhere, Heard, LowConfirms, LowReplies, Reported, Resolves, Said, Unreadable, broadcast, heard_alarm, heard_content, heard_frame, heard_low, heard_of, heard_reply, heard_request, identify_multicast, is_own, is_taken, said_by}
use Rattle.settings_journal.specs.settings_store.Machine.{Outcome}
use Rattle.device_core.specs.State.{Live, State, Station}
use Rattle.device_core.specs.Handled.{handled_received}
use Rattle.device_core.specs.Machine.{Stepped, handled_step, heard_step}
use Rattle.device_core.specs.Steps.{Steps}
use Rattle.field_words.specs.Cyclic.{IsAcceptable, IsCyclic, frame_id_in}
use Rattle.field_words.specs.Octets.{part_at, type_place}
use Rattle.end_laws.specs.device.Exchange.{IsUnaccepted, is_unit}
use Rattle.end_laws.specs.cyclic.Ends.{got_at}
use Rattle.end_laws.specs.cyclic.Device.{IsExchanging, IsNoAcceptable, accepted_at, consumer_at, held_then, linked, running_after}
use Rattle.end_laws.proofs.HearingChoices.{cyclic_chosen, holds_if, no_alarm, no_get_set, no_identify}
use Rattle.end_laws.proofs.DeviceExchange.{Follows, hearing_of, running_then, step_does, waiting_on}
use Rattle.end_laws.proofs.CyclicPlaces.{IsOpened, mac_of, read_is_there, there_is_read}
use Rattle.end_laws.proofs.CyclicAccepting.{acceptable, accepts, octets_same, same_octets}

-- ---- what is heard

-- A frame of cyclic data to this device.
pub device_hears : (identity : Identity) (frame : List ℕ) → take 6 frame ≡ identity.mac.octets → IsCyclic frame → IsOpened frame
    → heard_frame identity (frame_of frame) ≡ Cyclic (mac_of (part_at 6 6 frame)) (frame_id_in frame) (drop (type_place frame + 4) frame)
device_hears identity frame to cyclic opened =
    let source = mac_of (part_at 6 6 frame) in
    let id = frame_id_in frame in
    let body = drop (type_place frame + 4) frame in
    let own = is_own identity (mac_of (take 6 frame)) in
    ap (λ (r : Result Meaning FrameFault). heard_frame identity r) opened.is
    ∙ (cyclic_chosen own (pointwise nat_eq (take 6 frame) identify_multicast) (id == 65277) (id == 65278) (is_alarm id) (is_cyclic id)
    (heard_request source (request_of id body)) (heard_alarm source id body (message_of body)) (Cyclic source id body) Elsewhere
    (no_get_set id cyclic.id) (no_identify id cyclic.id) (no_alarm id cyclic.id) cyclic.id
    ∙ ap (λ (b : Bool). if b then Cyclic source id body else Elsewhere)
    (subst (λ (l : List ℕ). pointwise nat_eq (take 6 frame) l ≡ true) to (same_octets (take 6 frame))))

-- What holds of everything that a device hears of frames, but for cyclic frames.
pub record Others (Holds : Heard → Type 0) : Type 0 where
  pub unreadable : Holds Unreadable
  pub elsewhere : Holds Elsewhere
  pub asks : (source : Mac) (request : Asked) → Holds (Asks source request)
  pub resolves : (asker : Mac) (packet : Arp) → Holds (Resolves asker packet)
  pub reports : (caller : Caller) (address : List ℕ) (said : Said) → Holds (Reported caller address said)
  pub alarms : (source : Mac) (header : Header) (said : ToDevice) → Holds (Alarms source header said)
  pub low_replies : (source : Mac) (header : Header) (said : ToDevice) → Holds (LowReplies source header said)
  pub low_confirms : (source : Mac) (header : Header) (said : ToDevice) → Holds (LowConfirms source header said)

module _ (Holds : Heard → Type 0) (others : Others Holds) where
  request_holds : (source : Mac) (read : Result Asked DcpFault) → Holds (heard_request source read)
  request_holds source (Ok request) = others.asks source request
  request_holds source (Err fault) = others.unreadable

  reply_holds : (source : Mac) (priority : Priority) (header : Header) (said : ToDevice) → Holds (heard_reply source priority header said)
  reply_holds source High header (notice.Ack number) = others.alarms source header (notice.Ack number)
  reply_holds source High header (notice.Data number ack) = others.alarms source header (notice.Data number ack)
  reply_holds source High header notice.Nack = others.alarms source header notice.Nack
  reply_holds source High header (notice.Abort status) = others.alarms source header (notice.Abort status)
  reply_holds source Low header (notice.Ack number) = others.low_replies source header (notice.Ack number)
  reply_holds source Low header (notice.Data number ack) = others.alarms source header (notice.Data number ack)
  reply_holds source Low header notice.Nack = others.alarms source header notice.Nack
  reply_holds source Low header (notice.Abort status) = others.alarms source header (notice.Abort status)

  low_holds : (source : Mac) (read : Result (Header × ToDevice) AlarmFault) → Holds (heard_low source read)
  low_holds source (Ok x) = others.low_confirms source x.0 x.1
  low_holds source (Err fault) = others.unreadable

  alarm_holds : (source : Mac) (id : ℕ) (body : List ℕ) (read : Result (Header × ToDevice) AlarmFault) → Holds (heard_alarm source id body read)
  alarm_holds source id body (Ok x) = reply_holds source (priority_of id) x.0 x.1
  alarm_holds source id body (Err fault) = low_holds source (low_message_of body)

  module _ (identity : Identity) (read : Result Meaning FrameFault)
      (cyclic : (meaning : Meaning) (id : ℕ) (body : List ℕ) → read ≡ Ok meaning → meaning.content ≡ RealTime id body → is_own identity meaning.destination ≡ true
      → is_cyclic id ≡ true → Holds (Cyclic meaning.source id body)) where
    cyclic_holds : (meaning : Meaning) (id : ℕ) (body : List ℕ) → read ≡ Ok meaning → meaning.content ≡ RealTime id body → (b : Bool)
        → (is_own identity meaning.destination && is_cyclic id) ≡ b → Holds (if b then Cyclic meaning.source id body else Elsewhere)
    cyclic_holds meaning id body found content false is = others.elsewhere
    cyclic_holds meaning id body found content true is =
        let parts = and_parts (is_own identity meaning.destination) (is_cyclic id) is in
        cyclic meaning id body found content parts.0 parts.1

    content_holds : (meaning : Meaning) → read ≡ Ok meaning → (content : Content) → meaning.content ≡ content → Holds (heard_content identity meaning.destination meaning.source content)
    content_holds meaning found (ArpPacket packet) content =
        holds_if Holds (is_own identity meaning.destination || pointwise nat_eq meaning.destination.octets broadcast) _ _ (others.resolves meaning.source packet) others.elsewhere
    content_holds meaning found (UdpDatagram from to body) content =
        holds_if Holds (is_own identity meaning.destination && to.port == call_port) _ _
        (others.reports (record { mac = meaning.source; endpoint = from }) to.address (said_by body)) others.elsewhere
    content_holds meaning found (RealTime id body) content =
        holds_if Holds (is_taken identity meaning.destination id) _ _ (request_holds meaning.source (request_of id body))
        (holds_if Holds (is_own identity meaning.destination && is_alarm id) _ _ (alarm_holds meaning.source id body (message_of body))
        (cyclic_holds meaning id body found content (is_own identity meaning.destination && is_cyclic id) refl))

    frame_holds : (found : Result Meaning FrameFault) → read ≡ found → Holds (heard_frame identity found)
    frame_holds (Ok meaning) found = content_holds meaning found meaning.content refl
    frame_holds (Err fault) found = others.unreadable

    pub heard_holds : Holds (heard_frame identity read)
    heard_holds = frame_holds read refl

-- A frame is no unit, and says nothing of whether the application runs.
abbrev IsBeside : Heard → Type 0
IsBeside heard = (is_unit heard ≡ false) × ((was : Bool) → running_then heard was ≡ was)

frame_beside : (identity : Identity) (read : Result Meaning FrameFault) → IsBeside (heard_frame identity read)
frame_beside identity read = heard_holds IsBeside (record {
  unreadable = (refl, λ was. refl);
  elsewhere = (refl, λ was. refl);
  asks = λ source request. (refl, λ was. refl);
  resolves = λ asker packet. (refl, λ was. refl);
  reports = λ caller address said. (refl, λ was. refl);
  alarms = λ source header said. (refl, λ was. refl);
  low_replies = λ source header said. (refl, λ was. refl);
  low_confirms = λ source header said. (refl, λ was. refl);
}) identity read (λ meaning id body found content own cyclic. (refl, λ was. refl))

module _ (link : RelationState) where
  abbrev Plain : Heard → Type 0
  Plain heard = IsUnaccepted heard (Some link)

  -- What is no acceptable frame is not accepted.
  pub unaccepted : (station : Station) (event : Event) → IsNoAcceptable station link event → Plain (heard_of station.identity event)
  unfolding heard_of
  unaccepted station (Frame frame) none = heard_holds Plain (record {
    unreadable = tt;
    elsewhere = tt;
    asks = λ source request. tt;
    resolves = λ asker packet. tt;
    reports = λ caller address said. tt;
    alarms = λ source header said. tt;
    low_replies = λ source header said. tt;
    low_confirms = λ source header said. tt;
  }) station.identity (frame_of frame.items) (λ meaning id body found content own cyclic taken.
      none (acceptable station.identity.mac.octets link.flow.cyclic frame.items meaning.source id body meaning (read_is_there frame.items meaning id body found content) refl
      (octets_same meaning.destination.octets station.identity.mac.octets own) cyclic taken))
  unaccepted station (Joined caller address octets) none = tt
  unaccepted station Tick none = tt
  unaccepted station (Neighbour neighbour) none = tt
  unaccepted station (Application said) none = tt

-- Whether the application runs, by the event.
runs_by : (identity : Identity) (event : Event) (was : Bool) → running_then (heard_of identity event) was ≡ running_after event was
unfolding heard_of
runs_by identity (Frame frame) was = (frame_beside identity (frame_of frame.items)).1 was
runs_by identity (Joined caller address octets) was = refl
runs_by identity Tick was = refl
runs_by identity (Neighbour neighbour) was = refl
runs_by identity (Application (local.Input slot subslot value)) was = refl
runs_by identity (Application (local.Alarm slot subslot octets)) was = refl
runs_by identity (Application (local.Status slot subslot is_good)) was = refl
runs_by identity (Application (local.Pull slot subslot)) was = refl
runs_by identity (Application (local.PullModule slot)) was = refl
runs_by identity (Application (local.Plug slot ident part)) was = refl
runs_by identity (Application (local.ReadyAt slot subslot)) was = refl
runs_by identity (Application (local.Diagnosis slot subslot channel error appears)) was = refl
runs_by identity (Application local.Ready) was = refl
runs_by identity (Application (local.ProviderState is_running)) was = refl
runs_by identity (Application (local.Answer number octets)) was = refl
runs_by identity (Application (local.Written number)) was = refl
runs_by identity (Application (local.Refuse number code1 code2)) was = refl

-- The units since the last accepted frame, by the event.
held_by : (identity : Identity) (event : Event) (hearing : Hearing) → (if is_unit (heard_of identity event) then held_on hearing else hearing).held ≡ held_then event hearing.limit hearing.held
unfolding heard_of
held_by identity (Frame frame) hearing = ap (λ (b : Bool). (if b then held_on hearing else hearing).held) (frame_beside identity (frame_of frame.items)).0
held_by identity (Joined caller address octets) hearing = refl
held_by identity Tick hearing = refl
held_by identity (Neighbour neighbour) hearing = refl
held_by identity (Application said) hearing = refl

-- ---- the step with an accepted frame

pub linked_is : (link : RelationState) (live : Live) → live.rest.link ≡ Some link → live ≡ linked link live
linked_is link live is = ap (λ (l : Option RelationState). record live { rest = record live.rest { link = l } }) is

-- The step with a frame that is accepted.
abbrev taken_step : Live → RelationState → Mac → ℕ → List ℕ → Stepped
taken_step live link source id body =
    record { live = linked (with_flow (behind_frame link.flow source id body) link) live; sent = []; frames = []; note = Done; accepted = [] }

steps_taken : (outcomes : List Outcome) (station : Station) (live : Live) (link : RelationState) (source : Mac) (id : ℕ) (body : List ℕ)
    → received_as link.flow source id body ≡ Taken → heard_step outcomes station (linked link live) (Cyclic source id body) ≡ taken_step live link source id body
unfolding heard_step handled_step
steps_taken outcomes station live link source id body is =
    ap (λ (what : Received). handled_step outcomes station (linked link live)
    (handled_received (linked link live) what (updated (receiving_as what (behind_frame link.flow source id body)) (Some link)))) is

-- ---- one step

module _ {F : Type 0} {S : ℕ} (as_flash : Flash F S) (old new : State F) (event : Event) (sent : List (List ℕ)) (said : Note)
    (steps : Steps as_flash old (heard_of old.station.identity event) sent said new) (link : RelationState) (exists : old.live.rest.link ≡ Some link) where
  -- An acceptable frame.
  pub record AcceptsAt (frame : List ℕ) : Type 0 where
    pub live : new.live ≡ linked (accepted_at frame link) old.live
    pub silent : sent ≡ []

  pub accepts_at : (frame : ArrayVec ℕ) → event ≡ Frame frame → IsAcceptable (consumer_at old.station link) frame.items → AcceptsAt frame.items
  unfolding heard_of
  accepts_at frame is able =
      let octets = frame.items in
      let source = mac_of (part_at 6 6 octets) in
      let id = frame_id_in octets in
      let body = drop (type_place octets + 4) octets in
      let opened = there_is_read octets able.cyclic.type (omega (arith, able.whole)) able.short in
      let heard : heard_of old.station.identity event ≡ Cyclic source id body =
      ap (λ (e : Event). heard_of old.station.identity e) is ∙ device_hears old.station.identity octets able.destination able.cyclic opened in
      let accepted = accepts old.station.identity.mac.octets link.flow.cyclic octets source id body refl refl refl able in
      let step : heard_step steps.outcomes old.station old.live (heard_of old.station.identity event) ≡ taken_step old.live link source id body =
      ap (λ (h : Heard). heard_step steps.outcomes old.station old.live h) heard
      ∙ (ap (λ (l : Live). heard_step steps.outcomes old.station l (Cyclic source id body)) (linked_is link old.live exists)
      ∙ steps_taken steps.outcomes old.station old.live link source id body accepted.received) in
      record {
        live = steps.live ∙ (ap (λ (s : Stepped). s.live) step
            ∙ ap (λ (c : CyclicEnd). linked (record link { flow = record link.flow { cyclic = c } }) old.live) accepted.behind);
        silent = steps.frames ∙ ap (λ (s : Stepped). s.frames) step;
      }

  module _ (next : RelationState) (becomes : new.live.rest.link ≡ Some next) where
    follows : Follows old.live link (heard_of old.station.identity event) next.flow
    follows =
        (step_does steps.outcomes old.station old.live link (heard_of old.station.identity event) exists).follows next
        (ap (λ (l : Live). l.rest.link) (sym steps.live) ∙ becomes)

    -- Any other event.
    pub leaves_at : IsNoAcceptable old.station link event → got_at next.flow.cyclic ≡ got_at link.flow.cyclic
    leaves_at none = follows.receives (unaccepted link old.station event none)

    -- The units since the last accepted frame, while data is exchanged.
    pub holds_at : IsExchanging link → IsNoAcceptable old.station link event
        → next.flow.cyclic.hearing.held ≡ held_then event link.flow.cyclic.hearing.limit link.flow.cyclic.hearing.held
    holds_at exchanging none =
        let heard = heard_of old.station.identity event in
        ap (λ (p : Bool × Hearing). p.1.held) (follows.hears exchanging.0 (unaccepted link old.station event none))
        ∙ (by_unit (is_unit heard) ∙ held_by old.station.identity event link.flow.cyclic.hearing)
      where
        by_unit : (b : Bool) → (if b then waiting_on (hearing_of link.flow.cyclic) else hearing_of link.flow.cyclic).1.held
            ≡ (if b then held_on link.flow.cyclic.hearing else link.flow.cyclic.hearing).held
        by_unit true = ap (λ (b : Bool). (if b then held_on link.flow.cyclic.hearing else link.flow.cyclic.hearing).held) exchanging.1
        by_unit false = refl

    -- Whether the application runs.
    pub runs_at : next.flow.is_running ≡ running_after event link.flow.is_running
    runs_at = follows.runs ∙ runs_by old.station.identity event link.flow.is_running
