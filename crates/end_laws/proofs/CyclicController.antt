-- A controller accepts the cyclic frames that are acceptable, and no others, and what it sends is of the independent words.
use Rattle.std.proofs.Common.{◌≡◌, ◌⊎◌, inl, inr, ap, ◌+◌, ◌==◌, ℕ, Bool, true, false, nat_eq, List, [], drop, take, Option, Some, None, Result, Ok, Err, refl, subst, ◌∙◌, arith}
use Rattle.std.specs.Prelude.{if◌then◌else◌}
use Rattle.std.specs.Cmp.Lexicographic.{pointwise}
use Rattle.arrayvec.specs.ArrayVec.{ArrayVec}
use Rattle.pn_values.specs.declared.mac.Mac.{Mac}
use Rattle.frame_codec.specs.declared.udp.Caller.{Caller}
use Rattle.dcp_core.specs.declared.request.DcpFault.{DcpFault}
use Rattle.dcp_core.specs.Response.{Answered}
use Rattle.rpc_core.specs.declared.fault.RpcFault.{RpcFault}
use Rattle.rpc_core.specs.declared.interface.Interface.TheVariants.{Controller as controllers}
use Rattle.rpc_core.specs.Call.{Asked as Call, call_of}
use Rattle.rpc_core.specs.Response.{Answered as Response, response_of}
use Rattle.pn_alarms.specs.declared.fault.AlarmFault.{AlarmFault}
use Rattle.pn_alarms.specs.declared.pdu.Header.{Header}
use Rattle.diagnosis.specs.declared.reports.priority.Priority.{Priority}
use Rattle.diagnosis.specs.reports.Priority.{priority_of}
use Rattle.controller_messages.specs.declared.refusal.Refusal.{Refusal}
use Rattle.controller_messages.specs.Refusal.{refusal_of}
use Rattle.frame_codec.specs.declared.fault.FrameFault.{FrameFault}
use Rattle.frame_codec.specs.FrameId.{is_alarm, is_cyclic}
use Rattle.frame_codec.specs.Meaning.{ArpPacket, Content, Meaning, RealTime, UdpDatagram}
use Rattle.frame_codec.specs.Frame.{frame_of}
use Rattle.dcp_core.specs.Answer.{answer_of}
use Rattle.cyclic_data.specs.declared.tail.CyclicTail.{CyclicTail}
use Rattle.cyclic_data.specs.declared.tail.ShortFrame.{ShortFrame}
use Rattle.cyclic_data.specs.declared.exchange.received.Received.TheVariants.{Foreign, Stale, Taken}
use Rattle.cyclic_data.specs.Tail.{cyclic_of}
use Rattle.cyclic_data.specs.exchange.Cyclic.{Cyclic as CyclicEnd}
use Rattle.cyclic_data.specs.exchange.Received.{behind_frame, received_as, received_in}
use Rattle.plans.specs.declared.parts.Controller.{Controller}
use Rattle.controller_messages.specs.Heard.{Answers, Calls, Cyclic as Comes, Alarms, Heard, Nothing, Refuses, Responds, heard_alarm, heard_answer, heard_body, heard_call, heard_content, heard_first, heard_of, heard_read, heard_real_time, heard_refusal, heard_response, is_to}
use Rattle.controller_core.specs.declared.stored.event.Event.{Event}
use Rattle.controller_core.specs.declared.stored.event.Event.TheVariants.{Frame, Tick, Give, Status as Rate, Read, Write, Stop}
use Rattle.controller_core.specs.stored.State.{Controlling}
use Rattle.controller_core.specs.Machine.{Turn, stays, step_of, stepped, turned}
use Rattle.diagnosis.specs.reports.Message.{ToController, alarm_of}
use Rattle.field_words.specs.Cyclic.{IsAcceptable, IsCyclic, frame_id_in}
use Rattle.field_words.specs.Octets.{part_at, type_place}
use Rattle.end_laws.specs.cyclic.Ends.{got_at}
use Rattle.end_laws.specs.cyclic.Controller.{IsNoneFor, accepted_in, consumer_in}
use Rattle.end_laws.specs.turns.Turns.{AsksRead, AsksWrite, Gets, GetsStatus, Halts, Hears, Passes}
use Rattle.end_laws.proofs.HearingChoices.{holds_if}
use Rattle.end_laws.proofs.TurnsInputs.{Goes, GoesBy, IsZeroed, Keeps, came_goes}
use Rattle.end_laws.proofs.CyclicPlaces.{IsOpened, mac_of, read_is_there, there_is_read}
use Rattle.end_laws.proofs.CyclicAccepting.{acceptable, accepts, octets_same, same_octets}

-- ---- what is heard

-- A frame of cyclic data to this controller.
controller_hears : (controller : Controller) (frame : List ℕ) → take 6 frame ≡ controller.mac.octets → IsCyclic frame → IsOpened frame
    → heard_read controller (frame_of frame) ≡ Comes (mac_of (part_at 6 6 frame)) (frame_id_in frame) (drop (type_place frame + 4) frame)
unfolding heard_real_time
controller_hears controller frame to cyclic opened =
    let source = mac_of (part_at 6 6 frame) in
    let id = frame_id_in frame in
    let body = drop (type_place frame + 4) frame in
    ap (λ (r : Result Meaning FrameFault). heard_read controller r) opened.is
    ∙ (ap (λ (b : Bool). if b then heard_real_time source id body else Nothing)
    (subst (λ (l : List ℕ). pointwise nat_eq (take 6 frame) l ≡ true) to (same_octets (take 6 frame)))
    ∙ ap (λ (b : Bool). if b then Comes source id body else
    (if is_alarm id then heard_alarm source id (alarm_of body)
    else if id == 0xFEFD then heard_answer source (answer_of id body)
    else if id == 0xFEFF then heard_answer source (answer_of id body)
    else Nothing)) cyclic.id)

-- What holds of everything that a controller hears of frames, but for cyclic frames.
record Others (Holds : Heard → Type 0) : Type 0 where
  nothing : Holds Nothing
  answers : (source : Mac) (answer : Answered) → Holds (Answers source answer)
  responds : (response : Response) → Holds (Responds response)
  refuses : (refusal : Refusal) → Holds (Refuses refusal)
  calls : (caller : Caller) (call : Call) → Holds (Calls caller call)
  alarms : (source : Mac) (under : Priority) (header : Header) (notice : ToController) → Holds (Alarms source under header notice)

module _ (Holds : Heard → Type 0) (others : Others Holds) where
  answer_holds : (source : Mac) (read : Result Answered DcpFault) → Holds (heard_answer source read)
  answer_holds source (Ok answer) = others.answers source answer
  answer_holds source (Err fault) = others.nothing

  alarm_holds : (source : Mac) (id : ℕ) (read : Result (Header × ToController) AlarmFault) → Holds (heard_alarm source id read)
  alarm_holds source id (Ok x) = others.alarms source (priority_of id) x.0 x.1
  alarm_holds source id (Err fault) = others.nothing

  refusal_holds : (read : Result Refusal RpcFault) → Holds (heard_refusal read)
  refusal_holds (Ok refusal) = others.refuses refusal
  refusal_holds (Err fault) = others.nothing

  response_holds : (response : Result Response RpcFault) (refusal : Result Refusal RpcFault) → Holds (heard_response response refusal)
  response_holds (Ok response) refusal = others.responds response
  response_holds (Err fault) refusal = refusal_holds refusal

  call_holds : (caller : Caller) (call : Call) (blocks : Option (List ℕ)) → Holds (heard_call caller call blocks)
  call_holds caller call (Some blocks) = others.calls caller call
  call_holds caller call None = others.nothing

  first_holds : (caller : Caller) (call : Result Call RpcFault) (response : Result Response RpcFault) (refusal : Result Refusal RpcFault) → Holds (heard_first caller call response refusal)
  first_holds caller (Ok call) response refusal = call_holds caller call call.blocks
  first_holds caller (Err fault) response refusal = response_holds response refusal

  module _ (controller : Controller) (read : Result Meaning FrameFault)
      (cyclic : (meaning : Meaning) (id : ℕ) (body : List ℕ) → read ≡ Ok meaning → meaning.content ≡ RealTime id body
      → pointwise nat_eq meaning.destination.octets controller.mac.octets ≡ true → is_cyclic id ≡ true → Holds (Comes meaning.source id body)) where
    data_holds : (meaning : Meaning) (id : ℕ) (body : List ℕ) → read ≡ Ok meaning → meaning.content ≡ RealTime id body
        → pointwise nat_eq meaning.destination.octets controller.mac.octets ≡ true → (b : Bool) → is_cyclic id ≡ b
        → Holds (if b then Comes meaning.source id body
        else if is_alarm id then heard_alarm meaning.source id (alarm_of body)
        else if id == 0xFEFD then heard_answer meaning.source (answer_of id body)
        else if id == 0xFEFF then heard_answer meaning.source (answer_of id body)
        else Nothing)
    data_holds meaning id body found content own true is = cyclic meaning id body found content own is
    data_holds meaning id body found content own false is =
        holds_if Holds (is_alarm id) _ _ (alarm_holds meaning.source id (alarm_of body))
        (holds_if Holds (id == 0xFEFD) _ _ (answer_holds meaning.source (answer_of id body))
        (holds_if Holds (id == 0xFEFF) _ _ (answer_holds meaning.source (answer_of id body)) others.nothing))

    content_holds : (meaning : Meaning) → read ≡ Ok meaning → pointwise nat_eq meaning.destination.octets controller.mac.octets ≡ true
        → (content : Content) → meaning.content ≡ content → Holds (heard_content controller.address meaning.source content)
    unfolding heard_real_time heard_body
    content_holds meaning found own (ArpPacket packet) content = others.nothing
    content_holds meaning found own (UdpDatagram from to body) content =
        holds_if Holds (is_to controller.address to) _ _
        (first_holds (record { mac = meaning.source; endpoint = from }) (call_of controllers body) (response_of body) (refusal_of body)) others.nothing
    content_holds meaning found own (RealTime id body) content = data_holds meaning id body found content own (is_cyclic id) refl

    frame_holds : (found : Result Meaning FrameFault) → read ≡ found → Holds (heard_read controller found)
    frame_holds (Err fault) found = others.nothing
    frame_holds (Ok meaning) found = by_own (pointwise nat_eq meaning.destination.octets controller.mac.octets) refl
      where
        by_own : (b : Bool) → pointwise nat_eq meaning.destination.octets controller.mac.octets ≡ b
            → Holds (if b then heard_content controller.address meaning.source meaning.content else Nothing)
        by_own true own = content_holds meaning found own meaning.content refl
        by_own false own = others.nothing

    heard_holds : Holds (heard_read controller read)
    heard_holds = frame_holds read refl

-- ---- a frame that is accepted

-- The turn with it.
pub accepts_in : (old : Controlling) (frame : ArrayVec ℕ) → old.live.stands ≡ true → IsAcceptable (consumer_in old) frame.items
    → step_of old (Frame frame) ≡ record { controller = accepted_in frame.items old; frames = [] }
unfolding step_of heard_of
accepts_in old frame up able =
    let octets = frame.items in
    let source = mac_of (part_at 6 6 octets) in
    let id = frame_id_in octets in
    let body = drop (type_place octets + 4) octets in
    let opened = there_is_read octets able.cyclic.type (omega (arith, able.whole)) able.short in
    let heard = controller_hears old.setup.plan.controller octets able.destination able.cyclic opened in
    let accepted = accepts old.setup.plan.controller.mac.octets old.live.cyclic octets source id body refl refl refl able in
    ap (λ (h : Heard). stepped old (turned old.setup old.live h)) heard
    ∙ (ap (λ (b : Bool). stepped old (stays (if b then record old.live { cyclic = behind_frame old.live.cyclic source id body } else old.live))) up
    ∙ ap (λ (c : CyclicEnd). stepped old (stays (record old.live { cyclic = c }))) accepted.behind)

-- ---- any other event

module _ (old : Controlling) where
  -- What was received stays, if the relation is established afterwards.
  abbrev Stays : Turn → Type 0
  Stays turn = turn.live.stands ≡ true → got_at turn.live.cyclic ≡ got_at old.live.cyclic

  not_both : (b : Bool) → b ≡ true → b ≡ false → ⊥
  not_both b is other = cc

  goes_stays : (turn : Turn) → Goes old.setup old.live turn → Stays turn
  goes_stays turn goes up = by_way goes.either_so
    where
      by_way : Keeps old.setup old.live turn.live ⊎ IsZeroed old.setup old.live turn.live → got_at turn.live.cyclic ≡ got_at old.live.cyclic
      by_way (inl k) = k.received
      by_way (inr z) = absurd (not_both turn.live.stands up z.1)

  -- The case of a cyclic frame that is not acceptable.
  came_stays : (source : Mac) (id : ℕ) (body : List ℕ) (turn : Turn) → (received_as old.live.cyclic source id body ≡ Taken → ⊥) → GoesBy old.setup old.live (Hears (Comes source id body)) turn → Stays turn
  came_stays source id body turn none (inl so) up = goes_stays turn (record { either_so = so }) up
  came_stays source id body turn none (inr takes) up =
      absurd (none
      (ap (λ (b : Bool). if b then received_in old.live.cyclic (cyclic_of old.live.cyclic.taken.data_length body) else Foreign) takes.own
      ∙ (ap (λ (r : Result (List ℕ × CyclicTail) ShortFrame). received_in old.live.cyclic r) takes.read
      ∙ ap (λ (b : Bool). if b then Taken else Stale) takes.newer)))

  abbrev HeardStays : Heard → Type 0
  HeardStays heard = Stays (turned old.setup old.live heard)

  pub leaves_in : (event : Event) → IsNoneFor old event → (step_of old event).controller.live.stands ≡ true
      → got_at (step_of old event).controller.live.cyclic ≡ got_at old.live.cyclic
  unfolding step_of heard_of
  leaves_in (Frame frame) none = heard_holds HeardStays (record {
    nothing = goes_stays _ (came_goes old.setup old.live (Hears Nothing));
    answers = λ source answer. goes_stays _ (came_goes old.setup old.live (Hears (Answers source answer)));
    responds = λ response. goes_stays _ (came_goes old.setup old.live (Hears (Responds response)));
    refuses = λ refusal. goes_stays _ (came_goes old.setup old.live (Hears (Refuses refusal)));
    calls = λ caller call. goes_stays _ (came_goes old.setup old.live (Hears (Calls caller call)));
    alarms = λ source under header notice. goes_stays _ (came_goes old.setup old.live (Hears (Alarms source under header notice)));
  }) old.setup.plan.controller (frame_of frame.items) (λ meaning id body found content own cyclic.
      came_stays meaning.source id body (turned old.setup old.live (Comes meaning.source id body)) (λ taken.
      none (acceptable old.setup.plan.controller.mac.octets old.live.cyclic frame.items meaning.source id body meaning (read_is_there frame.items meaning id body found content) refl
      (octets_same meaning.destination.octets old.setup.plan.controller.mac.octets own) cyclic taken)) (came_goes old.setup old.live (Hears (Comes meaning.source id body))))
  leaves_in Tick none = goes_stays _ (came_goes old.setup old.live Passes)
  leaves_in (Give slot subslot value) none = goes_stays _ (came_goes old.setup old.live (Gets slot subslot value.items))
  leaves_in (Rate slot subslot is_good) none = goes_stays _ (came_goes old.setup old.live (GetsStatus slot subslot is_good))
  leaves_in (Read slot subslot index) none = goes_stays _ (came_goes old.setup old.live (AsksRead slot subslot index))
  leaves_in (Write slot subslot index octets) none = goes_stays _ (came_goes old.setup old.live (AsksWrite slot subslot index octets.items))
  leaves_in Stop none = goes_stays _ (came_goes old.setup old.live Halts)
