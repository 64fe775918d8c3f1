-- A step of a frame of real time.
use Rattle.std.proofs.Common.{◌≡◌, ◌<◌, ◌==◌, ◌&&◌, ◌||◌, ◌^◌, ℕ, Bool, true, false, not, nat_eq, List, [], ◌++◌, take, is_some, Result, Ok, Err, refl, sym, ap, subst, ◌∙◌, arith}
use Rattle.std.proofs.lemmas.Bool.{and_parts, cond_both, cond-false, cond-true, false_from_ne_true, or_left}
use Rattle.std.specs.Cmp.Lexicographic.{pointwise}
use Rattle.byteorder.specs.Endian.{big_number}
use Rattle.pn_values.specs.declared.mac.Mac.{Mac}
use Rattle.frame_codec.specs.Frame.{arp, datagram, real_time}
use Rattle.frame_codec.specs.FrameId.{is_alarm, is_cyclic}
use Rattle.frame_codec.specs.Meaning.{Meaning, RealTime}
use Rattle.dcp_core.specs.declared.request.DcpFault.{DcpFault}
use Rattle.dcp_core.specs.declared.request.Service.{Service}
use Rattle.dcp_core.specs.declared.request.Service.TheVariants as service
use Rattle.dcp_core.specs.Reading.{IsRequest, request_of}
use Rattle.dcp_core.specs.Request.{Asked}
use Rattle.dcp_core.proofs.Sound.{request_takes}
use Rattle.settings_journal.specs.settings_store.Machine.{Outcome}
use Rattle.device_frames.specs.declared.event.Event.{Event}
use Rattle.device_frames.specs.declared.note.Note.{Note}
use Rattle.device_frames.specs.Heard.{Heard, Ticks, Unreadable, Elsewhere, Asks, Resolves, Reported, Cyclic, Alarms, LowReplies, LowConfirms, Met, Applied, heard_alarm, heard_content, heard_low, heard_of, heard_reply, heard_request, is_own, is_taken}
use Rattle.pn_alarms.specs.declared.fault.AlarmFault.{AlarmFault}
use Rattle.pn_alarms.specs.declared.message.Notice.TheVariants as message
use Rattle.pn_alarms.specs.declared.pdu.Header.{Header}
use Rattle.pn_alarms.specs.Message.{ToDevice, message_of}
use Rattle.diagnosis.specs.declared.reports.priority.Priority.{Priority}
use Rattle.diagnosis.specs.declared.reports.priority.Priority.TheVariants.{High, Low}
use Rattle.diagnosis.specs.reports.Priority.{priority_of}
use Rattle.diagnosis.specs.reports.Message.{low_message_of}
use Rattle.device_frames.specs.Sendable.{AreSendable}
use Rattle.device_core.specs.State.{Live, Station}
use Rattle.device_core.specs.Handled.{Refuses, Sets, handled, handled_request}
use Rattle.device_core.specs.Machine.{handled_step, heard_step, step_of}
use Rattle.octets_law.specs.Bridge.{Bridges}
use Rattle.octets_law.specs.Octets.{Nothing, Set, asking_in, asking_of, commands_in, is_dcp, number, untagged}
use Rattle.octets_law.proofs.Asked.{IsSuch}
use Rattle.octets_law.proofs.Bare.{IsBare}
use Rattle.octets_law.proofs.CallReads.{tested}
use Rattle.octets_law.proofs.Datagrams.{IsArp, IsInternet, IsRealTime, Kind, kind_under}
use Rattle.octets_law.proofs.Items.{IsOther, IsStill, identify_still, other_still}
use Rattle.octets_law.proofs.Operations.{IsOfKind}
use Rattle.octets_law.proofs.Later.{NoCall}
use Rattle.octets_law.proofs.Quiet.{moved_bridged, refused_bridged}
use Rattle.octets_law.proofs.SetFrames.{take_front}
use Rattle.octets_law.proofs.SetHeard.{IsTimely, KindOf, set_read, timely}
use Rattle.octets_law.proofs.SetSteps.{set_step}
use Rattle.octets_law.proofs.Tracks.{IsUncalled, Tracks, refused_tracked, uncalled_tracked}

-- ---- what is heard, and its step

-- The outcome of what is heard is a refusal.
pub silent_bridged : (mac : Mac) (names : List (List ℕ)) (outcomes : List Outcome) (station : Station) (live : Live) (event : Event) (why : Note)
    → handled station live (heard_of station.identity event) ≡ Refuses why → Bridges mac names event live.values (step_of outcomes station live event)
unfolding heard_step
silent_bridged mac names outcomes station live event why is =
    subst (λ what. Bridges mac names event live.values (handled_step outcomes station live what)) (sym is) (refused_bridged mac names event outcomes station live why)

-- Nothing is asked of the settings, and nothing is read of the event that could.
pub still_bridged : (mac : Mac) (names : List (List ℕ)) (outcomes : List Outcome) (station : Station) (live : Live) (event : Event)
    → IsStill (handled station live (heard_of station.identity event)) → commands_in (asking_of mac event) ≡ [] → Bridges mac names event live.values (step_of outcomes station live event)
unfolding heard_step
still_bridged mac names outcomes station live event still nothing =
    moved_bridged mac names event outcomes station live (handled station live (heard_of station.identity event)) still nothing

-- What is sent at a step can be sent, and the call that the application is asked before it has the operation of its request.
abbrev pub CanStep : List Outcome → Station → Live → Event → Type 0
CanStep outcomes station live event = AreSendable station.identity (step_of outcomes station live event).sent × IsSuch IsOfKind live.rest.asked

-- What is said of a step.
abbrev pub IsSaid : List (List ℕ) → List Outcome → Station → Live → Event → Type 0
IsSaid names outcomes station live event =
    Bridges station.identity.mac names event live.values (step_of outcomes station live event) × Tracks station.options station.identity.mac event live (step_of outcomes station live event)

pub silent_said : (names : List (List ℕ)) (outcomes : List Outcome) (station : Station) (live : Live) (event : Event) (why : Note)
    → handled station live (heard_of station.identity event) ≡ Refuses why → IsSaid names outcomes station live event
unfolding heard_step
silent_said names outcomes station live event why is = (
  silent_bridged station.identity.mac names outcomes station live event why is,
  subst (λ what. Tracks station.options station.identity.mac event live (handled_step outcomes station live what)) (sym is) (refused_tracked station.identity.mac event outcomes station live why),
)

-- What is heard asks nothing of the settings and is no call, and the octets ask for nothing.
pub nothing_said : (names : List (List ℕ)) (outcomes : List Outcome) (station : Station) (live : Live) (event : Event) (heard : Heard) → heard_of station.identity event ≡ heard
    → IsStill (handled station live heard) → NoCall heard → asking_of station.identity.mac event ≡ Nothing
    → CanStep outcomes station live event
    → IsSaid names outcomes station live event
nothing_said names outcomes station live event heard is stays none nothing can = (
  still_bridged station.identity.mac names outcomes station live event (subst (λ h. IsStill (handled station live h)) (sym is) stays) (ap commands_in nothing),
  uncalled_tracked station.identity.mac outcomes station live event can.1 (subst NoCall (sym is) none) (subst IsUncalled (sym nothing) tt) can.0,
)

pub other_no_call : (station : Station) (live : Live) (heard : Heard) → IsOther station live heard → NoCall heard
other_no_call station live (Asks asker request) other = tt
other_no_call station live (Reported caller address said) other = absurd other
other_no_call station live (Resolves asker packet) other = tt
other_no_call station live (Alarms source header message) other = tt
other_no_call station live (LowReplies source header message) other = tt
other_no_call station live (LowConfirms source header message) other = tt
other_no_call station live (Cyclic source frame_id body) other = tt
other_no_call station live (Applied local) other = tt
other_no_call station live (Met peer) other = tt
other_no_call station live Ticks other = tt
other_no_call station live Unreadable other = tt
other_no_call station live Elsewhere other = tt

-- The same of what is neither a DCP request nor in a datagram.
pub other_said : (names : List (List ℕ)) (outcomes : List Outcome) (station : Station) (live : Live) (event : Event) (heard : Heard) → heard_of station.identity event ≡ heard
    → IsOther station live heard → asking_of station.identity.mac event ≡ Nothing → CanStep outcomes station live event
    → IsSaid names outcomes station live event
other_said names outcomes station live event heard is other nothing can =
    nothing_said names outcomes station live event heard is (other_still station live heard other) (other_no_call station live heard other) nothing can

-- ---- a frame of real time

pub frame_timely : (bytes : List ℕ) (meaning : Meaning) (id : ℕ) (body : List ℕ) → IsBare bytes meaning → meaning.content ≡ RealTime id body → IsTimely (untagged bytes) id body
unfolding real_time arp datagram
frame_timely bytes meaning id body bare content = by_kind (kind_under (big_number 2 bare.type) bare.rest meaning.content bare.content)
  where
    same_id : (a b : ℕ) (one other : List ℕ) → RealTime a one ≡ RealTime b other → a ≡ b
    same_id a b one other e = cc

    same_body : (a b : ℕ) (one other : List ℕ) → RealTime a one ≡ RealTime b other → one ≡ other
    same_body a b one other e = cc

    by_kind : Kind (big_number 2 bare.type) bare.rest meaning.content → IsTimely (untagged bytes) id body
    by_kind (IsArp type spells) = absurd (let e = spells.1 ∙ content in cc)
    by_kind (IsInternet type spells) = absurd (let e = spells.1 ∙ content in cc)
    by_kind (IsRealTime type spells) =
        let spelled = spells.2 in
        let octets = spelled.1 in
        let is : spells.0.0 ≡ id = same_id _ _ _ _ (spells.1 ∙ content) in
        let behind : spelled.0 ≡ body = spelled.2 ∙ same_body _ _ _ _ (spells.1 ∙ content) in
        subst (λ l. IsTimely l id body)
        (sym (bare.is ∙ ap (λ l. meaning.destination.octets ++ (bare.source ++ (bare.type ++ l))) (octets.2 ∙ ap (λ l. octets.0 ++ l) behind)))
        (timely meaning.destination.octets bare.source bare.type octets.0 body id bare.to bare.from bare.two octets.1 type (sym is ∙ octets.3))

-- The stations of a frame stand at its front.
pub frame_to : (bytes : List ℕ) (meaning : Meaning) → IsBare bytes meaning → take 6 (untagged bytes) ≡ meaning.destination.octets
frame_to bytes meaning bare =
    ap (take 6) bare.is ∙ subst (λ n. take n (meaning.destination.octets ++ (bare.source ++ (bare.type ++ bare.rest))) ≡ meaning.destination.octets) bare.to
    (take_front meaning.destination.octets _)

-- What is asked of a frame of real time is a Set or nothing.
abbrev pub is_to : Mac → List ℕ → Bool
is_to mac frame = pointwise nat_eq (take 6 frame) mac.octets

timely_nothing : (mac : Mac) (frame : List ℕ) (id : ℕ) (body : List ℕ) → IsTimely frame id body → (is_to mac frame ≡ true → is_dcp 0xFEFD 4 0 frame ≡ false) → asking_in mac frame ≡ Nothing
timely_nothing mac frame id body it other =
    cond_both (not (is_to mac frame)) _ _ (λ a. a ≡ Nothing) (λ _. refl)
    (λ own. cond_both (is_dcp 0xFEFD 4 0 frame) _ _ (λ a. a ≡ Nothing) (λ is. absurd (let e = other (is_own_of (is_to mac frame) own) in cc))
    (λ _. cond_both (number 12 2 frame == 0x0800) _ _ (λ a. a ≡ Nothing) (λ is. absurd (let t = it.ether_type in let e = tested _ 0x0800 is in omega arith)) (λ _. refl)))
  where
    is_own_of : (b : Bool) → not b ≡ false → b ≡ true
    is_own_of true e = refl
    is_own_of false e = absurd cc

timely_set : (mac : Mac) (frame : List ℕ) → is_to mac frame ≡ true → is_dcp 0xFEFD 4 0 frame ≡ true → asking_in mac frame ≡ Set frame
timely_set mac frame own is = cond-false (not (is_to mac frame)) _ _ (ap not own) ∙ cond-true (is_dcp 0xFEFD 4 0 frame) _ _ is

-- ---- what is heard of a frame of real time

reply_other : (station : Station) (live : Live) (source : Mac) (priority : Priority) (header : Header) (told : ToDevice) → IsOther station live (heard_reply source priority header told)
reply_other station live source Low header (message.Ack number) = tt
reply_other station live source Low header (message.Data number ack) = tt
reply_other station live source Low header message.Nack = tt
reply_other station live source Low header (message.Abort status) = tt
reply_other station live source High header told = tt

low_other : (station : Station) (live : Live) (source : Mac) (read : Result (Header × ToDevice) AlarmFault) → IsOther station live (heard_low source read)
low_other station live source (Ok x) = tt
low_other station live source (Err fault) = tt

alarm_other : (station : Station) (live : Live) (source : Mac) (id : ℕ) (body : List ℕ) (read : Result (Header × ToDevice) AlarmFault) → IsOther station live (heard_alarm source id body read)
alarm_other station live source id body (Ok x) = reply_other station live source (priority_of id) x.0 x.1
alarm_other station live source id body (Err fault) = low_other station live source (low_message_of body)

pub dcp_id : (id service type : ℕ) (frame : List ℕ) → is_dcp id service type frame ≡ true → (number 14 2 frame ≡ id) × (number 16 1 frame ≡ service)
dcp_id id service type frame is =
    let three = (and_parts _ _ is).0 in let two = (and_parts _ _ three).0 in
    (tested _ id (and_parts _ _ two).1, tested _ service (and_parts _ _ three).1)

or_false : (b : Bool) → b || false ≡ true → b ≡ true
or_false true is = refl
or_false false is = absurd cc

module _ (names : List (List ℕ)) (outcomes : List Outcome) (station : Station) (live : Live) (bytes : List ℕ) (event : Event)
    (asks : asking_of station.identity.mac event ≡ asking_in station.identity.mac (untagged bytes))
    (can : CanStep outcomes station live event)
    (destination source : Mac) (id : ℕ) (body : List ℕ) (front : take 6 (untagged bytes) ≡ destination.octets) (it : IsTimely (untagged bytes) id body)
    (small : number 18 4 (untagged bytes) < 2 ^ 32) where
  abbrev Goal : Type 0
  Goal = IsSaid names outcomes station live event

  own_is : is_to station.identity.mac (untagged bytes) ≡ is_own station.identity destination
  own_is = ap (λ l. pointwise nat_eq l station.identity.mac.octets) front

  nothing : (is_to station.identity.mac (untagged bytes) ≡ true → is_dcp 0xFEFD 4 0 (untagged bytes) ≡ false) → asking_of station.identity.mac event ≡ Nothing
  nothing other = asks ∙ timely_nothing station.identity.mac (untagged bytes) id body it other

  -- A frame that is not read as a request is no Set.
  untaken : is_taken station.identity destination id ≡ false → asking_of station.identity.mac event ≡ Nothing
  untaken not = nothing (λ own. false_from_ne_true (is_dcp 0xFEFD 4 0 (untagged bytes)) (λ is.
      let same : id ≡ 0xFEFD = sym it.id ∙ (dcp_id 0xFEFD 4 0 (untagged bytes) is).0 in
      let e : is_taken station.identity destination 0xFEFD ≡ false = subst (λ n. is_taken station.identity destination n ≡ false) same not in
      let o : is_own station.identity destination ≡ true = sym own_is ∙ own in
      let t : is_taken station.identity destination 0xFEFD ≡ true = or_left (is_own station.identity destination) _ o in cc))

  handled_can : AreSendable station.identity (handled_step outcomes station live (handled station live (heard_of station.identity event))).sent
  unfolding heard_step
  handled_can = can.0

  -- A request of DCP that was read.
  request_step : (request : Asked) → heard_of station.identity event ≡ Asks source request → is_taken station.identity destination id ≡ true → IsRequest id body request → Goal
  request_step request heard taken spells = by_service request.service refl (set_read (untagged bytes) body id request it spells)
    where
      outcome : (s : Service) → request.service ≡ s → handled station live (heard_of station.identity event) ≡ handled_request station live source s request
      outcome s is = ap (handled station live) heard ∙ ap (λ s. handled_request station live source s request) is

      other : (s : Service) → request.service ≡ s → IsStill (handled_request station live source s request)
          → (is_dcp 0xFEFD 4 0 (untagged bytes) ≡ true → ⊥) → Goal
      other s is stays never =
          nothing_said names outcomes station live event (Asks source request) heard (subst IsStill (sym (ap (λ s. handled_request station live source s request) is)) stays) tt
          (nothing (λ _. false_from_ne_true (is_dcp 0xFEFD 4 0 (untagged bytes)) never)) can

      by_service : (s : Service) → request.service ≡ s → KindOf id (untagged bytes) s request → Goal
      by_service service.Get is kind = other service.Get is refl (λ dcp. let e = (dcp_id 0xFEFD 4 0 (untagged bytes) dcp).1 in let k = kind in omega arith)
      by_service service.Identify is kind = other service.Identify is (identify_still station live source request)
          (λ dcp. let e = (dcp_id 0xFEFD 4 0 (untagged bytes) dcp).0 in let k = kind in let i = it.id in omega arith)
      by_service service.Set is kind =
          let own : is_own station.identity destination ≡ true = or_false (is_own station.identity destination) (subst (λ n. is_taken station.identity destination n ≡ true) kind.0 taken) in
          let set : asking_of station.identity.mac event ≡ Set (untagged bytes) = asks ∙ timely_set station.identity.mac (untagged bytes) (own_is ∙ own) kind.1.kind in (
            set_step station.identity.mac names outcomes station live event source request (is_some live.rest.link) (untagged bytes) (outcome service.Set is)
                set kind.1 (subst (λ n. n < 2 ^ 32) kind.1.xid small)
                (subst (λ what. AreSendable station.identity (handled_step outcomes station live what).sent) (outcome service.Set is) handled_can),
            uncalled_tracked station.identity.mac outcomes station live event can.1 (subst NoCall (sym heard) tt) (subst IsUncalled (sym set) tt) can.0,
          )

  -- A frame of real time.
  pub real_step : heard_of station.identity event ≡ heard_content station.identity destination source (RealTime id body) → Goal
  real_step =
      cond_both (is_taken station.identity destination id) _ _ (λ h. heard_of station.identity event ≡ h → Goal) (λ taken heard. by_request (request_of id body) refl taken heard)
      (λ not. cond_both (is_own station.identity destination && is_alarm id) _ _ (λ h. heard_of station.identity event ≡ h → Goal)
      (λ _ heard. other_said names outcomes station live event _ heard (alarm_other station live source id body (message_of body)) (untaken not) can)
      (λ _. cond_both (is_own station.identity destination && is_cyclic id) _ _ (λ h. heard_of station.identity event ≡ h → Goal)
      (λ _ heard. other_said names outcomes station live event (Cyclic source id body) heard tt (untaken not) can)
      (λ _ heard. other_said names outcomes station live event Elsewhere heard tt (untaken not) can)))
    where
      by_request : (read : Result Asked DcpFault) → request_of id body ≡ read → is_taken station.identity destination id ≡ true → heard_of station.identity event ≡ heard_request source read → Goal
      by_request (Ok request) is taken heard = request_step request heard taken (request_takes id body request is)
      by_request (Err fault) is taken heard = silent_said names outcomes station live event _ (ap (handled station live) heard)
