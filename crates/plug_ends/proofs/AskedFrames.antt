-- What the device hears in the frames of both ends: a PrmEnd after a plug, and the confirmation of its ApplicationReady, are messages of the
-- controller; it hears no call and no response in its own frames.
use Rattle.std.proofs.Common.{◌≡◌, ◌⊎◌, inl, inr, ◌<◌, ◌==◌, ◌&&◌, ◌||◌, ℕ, Bool, true, false, cond, List, [], ◌∷◌, length, map, Option, Some, None, Result, Ok, Err}
use Rattle.std.proofs.Common.{refl, sym, ap, subst, ◌∙◌, arith}
use Rattle.std.specs.Prelude.{if◌then◌else◌, nat_eq}
use Rattle.std.specs.List.{AllByRecursion}
use Rattle.std.specs.Cmp.Lexicographic.{pointwise, same_text}
use Rattle.std.proofs.lemmas.Bool.{and_parts, eqb-true}
use Rattle.wire.specs.Codec.{◌>>=◌}
use Rattle.wire.specs.declared.blocks.fault.BlockFault.{BlockFault}
use Rattle.wire.specs.declared.blocks.fault.BlockFault.TheVariants.{Field}
use Rattle.wire.proofs.Fields.{bind_ok, ok_is}
use Rattle.pn_values.specs.declared.identity.Identity.{Identity}
use Rattle.pn_values.specs.declared.mac.Mac.{Mac}
use Rattle.frame_codec.specs.declared.arp.Arp.{Arp}
use Rattle.frame_codec.specs.declared.arp.ArpOperation.TheVariants.{Reply}
use Rattle.frame_codec.specs.declared.arp.Holder.{Holder}
use Rattle.frame_codec.specs.declared.udp.Caller.{Caller}
use Rattle.frame_codec.specs.Frame.{frame_bytes}
use Rattle.frame_codec.specs.Meaning.{RealTime}
use Rattle.frame_codec.specs.Sendable.{IsHolder, IsMac, IsTag, carrying}
use Rattle.rpc_core.specs.declared.interface.Interface.TheVariants.{Controller as controllers, Device as devices}
use Rattle.rpc_core.specs.Call.{Asked as Call}
use Rattle.rpc_core.specs.Response.{Answered as Response, is_done}
use Rattle.rpc_core.specs.Sendable.{CanBeAnswered, CanBeCalled}
use Rattle.connect_blocks.specs.declared.control.ControlBlock.{ControlBlock}
use Rattle.connect_blocks.specs.declared.plug_control.PlugControlBlock.{PlugControlBlock}
use Rattle.connect_blocks.specs.PlugControl.{plug_control, plug_ready_res}
use Rattle.cyclic_data.specs.declared.exchange.route.Route.{Route}
use Rattle.diagnosis.specs.declared.reports.priority.Priority.{Priority}
use Rattle.diagnosis.specs.declared.reports.priority.Priority.TheVariants.{High, Low}
use Rattle.plans.specs.declared.parts.Controller.{Controller}
use Rattle.plans.specs.Connect.{alarm_block}
use Rattle.plans.specs.Numbers.{session_number}
use Rattle.records.specs.declared.status.operation.Operation.TheVariants.{Control}
use Rattle.records.specs.status.Operation.{operation_of}
use Rattle.asked_records.specs.Asked.{AskedState, question_in}
use Rattle.asked_records.specs.declared.question.Question.{Question}
use Rattle.expected_places.specs.declared.calls.PlugCall.{PlugCall}
use Rattle.relations.specs.declared.plugging.PlugAnswer.TheVariants as answer_is
use Rattle.relations.specs.declared.plugging.PlugReady.{PlugReady}
use Rattle.relations.specs.declared.ready.Ready.{Ready}
use Rattle.relations.specs.Plugging.{answer_to, answer_to_call, block_in, done_block, plug_confirmed, plug_end_in, plug_named, plug_told}
use Rattle.relations.specs.Plugging.{is_plug_answer as is_answer_to_plug}
use Rattle.relations.specs.RelationState.{RelationState}
use Rattle.device_frames.specs.Heard.{Calls, Elsewhere, Garbled, Heard, Reported, Resolves, Responds, broadcast, heard_of, is_own}
use Rattle.device_frames.specs.Sendable.{IsSendable}
use Rattle.device_frames.specs.Sent.{Sent, IdentifyAnswer, GetAnswer, SetAnswer, ArpReply, CallAnswer, Again, ReadyCall, PlugReadyCall, Ends}
use Rattle.device_frames.specs.Sent.{Exchanges, bytes_of, plug_ready_frame, ready_frame, response_frame}
use Rattle.device_core.specs.State.{Live}
use Rattle.controller_messages.specs.declared.plug_request.PlugRequest.{PlugRequest}
use Rattle.controller_messages.specs.declared.plug_request.PlugStep.{PlugStep}
use Rattle.controller_messages.specs.declared.plug_request.PlugStep.TheVariants.{Record, PrmEnd}
use Rattle.controller_messages.specs.declared.record_request.RecordService.{RecordService}
use Rattle.controller_messages.specs.declared.record_request.RecordService.TheVariants as service
use Rattle.controller_messages.specs.declared.request.Request.TheVariants as asks
use Rattle.controller_messages.specs.declared.setup.Setup.{Setup}
use Rattle.controller_messages.specs.PlugRequests.{is_plug_ready, plug_answer, plug_blocks, plug_call, plug_done, plug_end, plug_operation}
use Rattle.controller_messages.specs.RecordRequests.{record_call, service_operation}
use Rattle.controller_messages.specs.Requests.{blocks_of, call_for}
use Rattle.controller_messages.specs.Sent as said
use Rattle.controller_messages.specs.Sent.{answer_frame, call_frame, calls_at, identify_multicast, ready_answer, tag_of}
use Rattle.end_laws.specs.hearing.Hearing.{IsUnreported, all_hears, comes, own_reported}
use Rattle.end_laws.specs.hearing.Stations.{IsAddress, IsCaller, IsDevice, IsSetup, plug_ready_call, ready_call}
use Rattle.end_laws.specs.sending.Addressed.{IsAimedAt, IsDirection}
use Rattle.end_laws.specs.device.Orderly.{IsOrderlyIn}
use Rattle.end_laws.specs.device.Owed.{IsAnswering, IsAskedLater, IsAsking, IsOfKept, IsOwed, IsReplying}
use Rattle.plug_ends.proofs.AskedBlocks.{IsSized, end_type, number_read, ready_type, type_read}
use Rattle.plug_ends.proofs.AskedWords.{HearsDone, HearsEnd}
use Rattle.plug_ends.proofs.CallsHeard.{HeardSo, IsPlans, plug_can_be, ready_can_be}

-- ---- what is heard

-- neither a call nor a response
abbrev pub IsQuiet : Heard → Type 0
IsQuiet (Reported caller address (Calls call)) = ⊥
IsQuiet (Reported caller address (Responds response)) = ⊥
IsQuiet heard = Unit {0}

-- a call is one of this station
abbrev pub IsCalledBy : Mac → Heard → Type 0
IsCalledBy mac (Reported caller address (Calls call)) = caller.mac ≡ mac
IsCalledBy mac heard = Unit {0}

abbrev pub IsQuietAt : Identity → List ℕ → Type 0
IsQuietAt identity frame = IsQuiet (heard_of identity (comes frame))

abbrev pub IsCalledAt : Mac → Identity → List ℕ → Type 0
IsCalledAt mac identity frame = IsCalledBy mac (heard_of identity (comes frame))

quiet_heard_called : (mac : Mac) (heard : Heard) → IsQuiet heard → IsCalledBy mac heard
quiet_heard_called mac (Reported caller address (Calls call)) quiet = absurd quiet
quiet_heard_called mac (Reported caller address (Responds response)) quiet = tt
quiet_heard_called mac (Reported caller address Garbled) quiet = tt
quiet_heard_called mac heard quiet = tt

pub quiet_called : (mac : Mac) (identity : Identity) (frame : List ℕ) → IsQuietAt identity frame → IsCalledAt mac identity frame
quiet_called mac identity frame quiet = quiet_heard_called mac (heard_of identity (comes frame)) quiet

unreported_quiet : (heard : Heard) → IsUnreported heard → IsQuiet heard
unreported_quiet (Reported caller address reported) un = absurd un
unreported_quiet heard un = tt

-- what the application asks of its controller's calls is one of this station
abbrev pub IsAskedBy : Mac → AskedState → Type 0
IsAskedBy mac asked = (question : Question) → question_in asked ≡ Some question → question.caller.mac ≡ mac

pub asked_later : (mac : Mac) (heard : Heard) (before after : AskedState) → IsCalledBy mac heard → IsAskedBy mac before → IsAskedLater heard before after
    → IsAskedBy mac after
asked_later mac heard before after called was later question e = by_case (later question e)
  where
    by_case : (question_in before ≡ Some question) ⊎ IsAsking heard question → question.caller.mac ≡ mac
    by_case (inl same) = was question same
    by_case (inr asks) = subst (λ (h : Heard). IsCalledBy mac h) asks.is called

-- ---- no call and no response in what is heard so

pub quiet_end : (identity : Identity) (frame : List ℕ) (number : ℕ) → IsQuietAt identity frame → HearsEnd identity frame number → ⊥
quiet_end identity frame number quiet hears = subst (λ (h : Heard). IsQuiet h) hears.is quiet

pub quiet_done : (identity : Identity) (frame : List ℕ) (number : ℕ) → IsQuietAt identity frame → HearsDone identity frame number → ⊥
quiet_done identity frame number quiet hears = subst (λ (h : Heard). IsQuiet h) hears.is quiet

-- ---- what is read of blocks

-- What is accepted as PrmEnd after a plug is read so.
pub record IsReadAs (kind : ℕ) (blocks : List ℕ) (number : ℕ) : Type 0 where
  pub x : PlugControlBlock × List ℕ
  pub is : (plug_control kind).read blocks ≡ Ok x
  pub number_is : x.0.alarm_sequence_number ≡ number

block_ok : (read : Result (PlugControlBlock × List ℕ) BlockFault) (block : PlugControlBlock) → block_in read ≡ Ok block
    → (x : PlugControlBlock × List ℕ) × (read ≡ Ok x) × (x.0 ≡ block)
block_ok (Ok x) block e = (x, refl, ok_is x.0 block e)
block_ok (Err fault) block e = absurd cc

end_read : (blocks : List ℕ) (link : Option RelationState) (block : PlugControlBlock) → plug_end_in blocks link ≡ Ok block
    → IsReadAs 0x0111 blocks block.alarm_sequence_number
unfolding plug_end_in
end_read blocks link block e =
    let first = bind_ok (block_in ((plug_control 0x0111).read blocks)) (λ b. plug_named link b >>= λ _. plug_told link b >>= λ _. Ok b) block e in
    let second = bind_ok (plug_named link first.0) (λ _. plug_told link first.0 >>= λ _. Ok first.0) block first.2 in
    let third = bind_ok (plug_told link first.0) (λ _. Ok first.0) block second.2 in
    let read = block_ok ((plug_control 0x0111).read blocks) first.0 first.1 in
    record {
      x = read.0;
      is = read.1;
      number_is = ap (λ (b : PlugControlBlock). b.alarm_sequence_number) (read.2 ∙ ok_is first.0 block third.2);
    }

-- What confirms an ApplicationReady is read so.
done_ok : (read : Result (PlugControlBlock × List ℕ) BlockFault) (block : PlugControlBlock) → done_block read ≡ Some block
    → (x : PlugControlBlock × List ℕ) × (read ≡ Ok x) × (x.0 ≡ block)
done_ok (Ok x) block e = (x, refl, cc)
done_ok (Err fault) block e = absurd cc

confirmed_ok : (uuid : List ℕ) (call : PlugCall) (block : Option PlugControlBlock) → plug_confirmed uuid call block ≡ answer_is.Confirmed
    → (b : PlugControlBlock) × (block ≡ Some b) × (b.alarm_sequence_number ≡ call.number)
confirmed_ok uuid call None e = absurd cc
confirmed_ok uuid call (Some block) e = by_test (pointwise nat_eq block.ar_uuid uuid && block.alarm_sequence_number == call.number) refl e
  where
    by_test : (b : Bool) → (pointwise nat_eq block.ar_uuid uuid && block.alarm_sequence_number == call.number) ≡ b
        → (if b then answer_is.Confirmed else answer_is.NotWanted) ≡ answer_is.Confirmed
        → (found : PlugControlBlock) × (Some block ≡ Some found) × (found.alarm_sequence_number ≡ call.number)
    by_test true f g = (
      block,
      refl,
      eqb-true block.alarm_sequence_number call.number (and_parts (pointwise nat_eq block.ar_uuid uuid) (block.alarm_sequence_number == call.number) f).1,
    )
    by_test false f g = absurd cc

done_read : (uuid : List ℕ) (call : PlugCall) (response : Response) → answer_to_call uuid call response ≡ answer_is.Confirmed
    → IsReadAs 0x8113 response.blocks call.number
done_read uuid call response e = by_tests (is_answer_to_plug uuid call response.header) (is_done response.status) e
  where
    found : plug_confirmed uuid call (done_block (plug_ready_res.read response.blocks)) ≡ answer_is.Confirmed → IsReadAs 0x8113 response.blocks call.number
    found f =
        let confirmed = confirmed_ok uuid call (done_block (plug_ready_res.read response.blocks)) f in
        let read = done_ok (plug_ready_res.read response.blocks) confirmed.0 confirmed.1 in
        let inner = bind_ok ((plug_control 0x8113).read response.blocks) _ read.0 read.1 in
        record {
          x = inner.0;
          is = inner.1;
          number_is = ap (λ (b : PlugControlBlock). b.alarm_sequence_number) (same inner.0 read.0 inner.2 ∙ read.2) ∙ confirmed.2;
        }
      where
        same : (x y : PlugControlBlock × List ℕ)
            → ◌≡◌ {A = Result (PlugControlBlock × List ℕ) BlockFault} (if x.0.control_command == 8 then Ok x else Err (Field 8)) (Ok y) → x.0 ≡ y.0
        same x y g = by_command (x.0.control_command == 8) g
          where
            by_command : (b : Bool) → ◌≡◌ {A = Result (PlugControlBlock × List ℕ) BlockFault} (if b then Ok x else Err (Field 8)) (Ok y) → x.0 ≡ y.0
            by_command true h = ap (λ (p : PlugControlBlock × List ℕ). p.0) (ok_is x y h)
            by_command false h = absurd cc

    by_tests : (answers positive : Bool)
        → (if answers then (if positive then plug_confirmed uuid call (done_block (plug_ready_res.read response.blocks)) else answer_is.Refused)
        else answer_is.NotWanted) ≡ answer_is.Confirmed → IsReadAs 0x8113 response.blocks call.number
    by_tests true true f = found f
    by_tests true false f = absurd cc
    by_tests false positive f = absurd cc

pub hears_done_read : (identity : Identity) (frame : List ℕ) (number : ℕ) (hears : HearsDone identity frame number)
    → IsReadAs 0x8113 hears.response.blocks number
hears_done_read identity frame number hears =
    subst (λ (n : ℕ). IsReadAs 0x8113 hears.response.blocks n) hears.number_is
    (done_read hears.link.request.ar.uuid hears.call hears.response (confirms hears.link.plugs.calls.standing hears.active hears.confirms))
  where
    confirms : (standing : Option PlugCall) → standing ≡ Some hears.call
        → answer_to hears.link.request.ar.uuid standing hears.response ≡ answer_is.Confirmed
        → answer_to_call hears.link.request.ar.uuid hears.call hears.response ≡ answer_is.Confirmed
    confirms standing e f =
        ap (λ (o : Option PlugCall). answer_to hears.link.request.ar.uuid o hears.response) (sym e) ∙ f

-- ---- messages of the controller

-- A PrmEnd after the plug with this number.
pub record IsEndOf (message : said.Sent) (number : ℕ) : Type 0 where
  pub to : Mac
  pub request : PlugRequest
  pub is : message ≡ said.Parametrizes to request
  pub step : request.step ≡ PrmEnd
  pub number_is : request.number ≡ number

-- An answer to a call, of which this block is read.
pub record IsDoneOf (message : said.Sent) (number : ℕ) : Type 0 where
  pub caller : Caller
  pub answer : Response
  pub is : message ≡ said.Agrees caller answer
  pub read : IsReadAs 0x8113 answer.blocks number

-- the numbers of its plugs are small
abbrev pub IsSmallIn : said.Sent → Type 0
IsSmallIn (said.Parametrizes to request) = request.number < 65536
IsSmallIn message = Unit {0}

-- the laws of the crates below
pub record FramesSo : Type 0 where
  pub heard : HeardSo
  pub unreported : (identity : Identity) (destination source : Mac) (tag : Option ℕ) (frame_id : ℕ) (body : List ℕ) → IsMac destination → IsMac source
      → IsTag tag → IsUnreported (heard_of identity (comes (frame_bytes (carrying destination source tag (RealTime frame_id body)))))
  pub call : (identity : Identity) (setup : Setup) (to : Mac) (call : Call) → IsSetup setup → IsMac to → CanBeCalled devices call
      → heard_of identity (comes (call_frame setup to call))
      ≡ own_reported identity setup.plan.controller.mac to (calls_at setup.plan.controller.address) (calls_at setup.plan.station.suite.address) (Calls call)
  pub agreed : (identity : Identity) (setup : Setup) (caller : Caller) (answer : Response) → IsSetup setup → IsCaller caller → CanBeAnswered answer
      → heard_of identity (comes (answer_frame setup caller answer))
      ≡ own_reported identity setup.plan.controller.mac caller.mac (calls_at setup.plan.controller.address) caller.endpoint (Responds answer)
  pub response : (other identity : Identity) (caller : Caller) (address : List ℕ) (answer : Response)
      → IsDevice identity → IsCaller caller → IsAddress address → CanBeAnswered answer
      → heard_of other (comes (response_frame identity caller address answer))
      ≡ own_reported other identity.mac caller.mac (calls_at address) caller.endpoint (Responds answer)
  pub ready : (other identity : Identity) (address : List ℕ) (ready : Ready)
      → IsDevice identity → IsMac ready.partner.mac → IsAddress ready.partner.address → IsAddress address → CanBeCalled controllers (ready_call ready)
      → heard_of other (comes (ready_frame identity address ready))
      ≡ own_reported other identity.mac ready.partner.mac (calls_at address) (calls_at ready.partner.address) Garbled
  pub plug : (other identity : Identity) (address : List ℕ) (ready : PlugReady)
      → IsDevice identity → IsMac ready.partner.mac → IsAddress ready.partner.address → IsAddress address → CanBeCalled controllers (plug_ready_call ready)
      → heard_of other (comes (plug_ready_frame identity address ready))
      ≡ own_reported other identity.mac ready.partner.mac (calls_at address) (calls_at ready.partner.address) Garbled
  pub packet : (other identity : Identity) (asker : Mac) (address : List ℕ) (target : Holder)
      → IsDevice identity → IsMac asker → IsAddress address → IsHolder target
      → heard_of other (comes (bytes_of identity (ArpReply asker address target)))
      ≡ all_hears other asker (Resolves identity.mac (record { operation = Reply; sender = record { mac = identity.mac; address = address }; target = target }))
  pub read_back : (kind : ℕ) (block : PlugControlBlock) (tail : List ℕ) → (plug_control kind).Fits block
      → (plug_control kind).read ((plug_control kind).write block tail) ≡ Ok (block, tail)

same_mac : (one other : Mac) → one.octets ≡ other.octets → one ≡ other
same_mac one other e = ap (λ (octets : List ℕ). record { octets = octets }) e

other_mac : (one other : Mac) → (one ≡ other → ⊥) → pointwise nat_eq one.octets other.octets ≡ false
other_mac one other apart = by_test (pointwise nat_eq one.octets other.octets) refl
  where
    by_test : (b : Bool) → pointwise nat_eq one.octets other.octets ≡ b → b ≡ false
    by_test true e = absurd (apart (same_mac one other (same_text one.octets other.octets (sym e))))
    by_test false e = refl

-- a datagram to another station
elsewhere_quiet : (b port : Bool) (heard : Heard) → b ≡ false → IsQuiet (cond (b && port) heard Elsewhere)
elsewhere_quiet true port heard e = absurd cc
elsewhere_quiet false port heard e = tt

garbled_quiet : (b : Bool) (caller : Caller) (address : List ℕ) → IsQuiet (cond b (Reported caller address Garbled) Elsewhere)
garbled_quiet true caller address = tt
garbled_quiet false caller address = tt

resolves_quiet : (b : Bool) (asker : Mac) (arp : Arp) → IsQuiet (cond b (Resolves asker arp) Elsewhere)
resolves_quiet true asker arp = tt
resolves_quiet false asker arp = tt

-- what is reported to this device
call_is : (b : Bool) (source : Caller) (to : List ℕ) (call found : Call) (caller : Caller) (address : List ℕ)
    → cond b (Reported source to (Calls call)) Elsewhere ≡ Reported caller address (Calls found) → call ≡ found
call_is true source to call found caller address e = cc
call_is false source to call found caller address e = absurd cc

answer_same : (b : Bool) (source : Caller) (to : List ℕ) (answer found : Response) (caller : Caller) (address : List ℕ)
    → cond b (Reported source to (Responds answer)) Elsewhere ≡ Reported caller address (Responds found) → answer ≡ found
answer_same true source to answer found caller address e = cc
answer_same false source to answer found caller address e = absurd cc

no_answer : (b : Bool) (source : Caller) (to : List ℕ) (call : Call) (found : Response) (caller : Caller) (address : List ℕ)
    → cond b (Reported source to (Calls call)) Elsewhere ≡ Reported caller address (Responds found) → ⊥
no_answer true source to call found caller address e = absurd cc
no_answer false source to call found caller address e = absurd cc

no_call : (b : Bool) (source : Caller) (to : List ℕ) (answer : Response) (found : Call) (caller : Caller) (address : List ℕ)
    → cond b (Reported source to (Responds answer)) Elsewhere ≡ Reported caller address (Calls found) → ⊥
no_call true source to answer found caller address e = absurd cc
no_call false source to answer found caller address e = absurd cc

called_so : (b : Bool) (source : Caller) (to : List ℕ) (call : Call) → IsCalledBy source.mac (cond b (Reported source to (Calls call)) Elsewhere)
called_so true source to call = refl
called_so false source to call = tt

answers_so : (mac : Mac) (b : Bool) (source : Caller) (to : List ℕ) (answer : Response)
    → IsCalledBy mac (cond b (Reported source to (Responds answer)) Elsewhere)
answers_so mac true source to answer = tt
answers_so mac false source to answer = tt

-- which calls are a Control
abbrev IsControl : ℕ → Type 0
IsControl operation = operation_of operation ≡ Some Control

no_connect : IsControl 0 → ⊥
unfolding operation_of
no_connect e = absurd cc

no_release : IsControl 1 → ⊥
unfolding operation_of
no_release e = absurd cc

no_read : IsControl 2 → ⊥
unfolding operation_of
no_read e = absurd cc

no_write : IsControl 3 → ⊥
unfolding operation_of
no_write e = absurd cc

no_service : (kind : RecordService) → IsControl (service_operation kind) → ⊥
no_service service.Read e = no_read e
no_service service.Write e = no_write e

some_is : {A : Type 0} (x y : A) → Some x ≡ Some y → x ≡ y
some_is x y e = cc

start_end : ◌≡◌ {A = ℕ} 0x0110 0x0111 → ⊥
start_end e = omega (arith, e)

start_done : ◌≡◌ {A = ℕ} 0x8112 0x8113 → ⊥
start_done e = omega (arith, e)

module _ (so : FramesSo) (setup : Setup) (identity : Identity) (good : IsSetup setup) (real : IsDevice identity) where
  abbrev mine : Controller
  mine = setup.plan.controller

  abbrev Says : said.Sent → Heard
  Says message = heard_of identity (comes (said.bytes_of setup message))

  multicast_six : IsMac identify_multicast
  unfolding identify_multicast
  multicast_six = refl

  tag_sized : (route : Route) (priority : Priority) → IsDirection route → tag_of route priority < 65536
  tag_sized route High aimed = aimed.alarm_tag
  tag_sized route Low aimed = omega arith

  data_quiet : (destination source : Mac) (tag : Option ℕ) (frame_id : ℕ) (body : List ℕ) → IsMac destination → IsMac source → IsTag tag
      → IsQuietAt identity (frame_bytes (carrying destination source tag (RealTime frame_id body)))
  data_quiet destination source tag frame_id body one other tagged =
      unreported_quiet _ (so.unreported identity destination source tag frame_id body one other tagged)

  -- ---- of the controller

  -- it says a call, or a response, or neither
  pub record SaysCall (frame : List ℕ) (call : Call) : Type 0 where
    pub is_to : Bool
    pub source : Caller
    pub to : List ℕ
    pub mac_is : source.mac ≡ setup.plan.controller.mac
    pub is : heard_of identity (comes frame) ≡ cond is_to (Reported source to (Calls call)) Elsewhere

  says_call : (to : Mac) (call : Call) → IsMac to → CanBeCalled devices call → SaysCall (call_frame setup to call) call
  says_call to call six can = record {
    is_to = is_own identity to && (calls_at setup.plan.station.suite.address).port == 34964;
    source = record { mac = setup.plan.controller.mac; endpoint = calls_at setup.plan.controller.address };
    to = (calls_at setup.plan.station.suite.address).address;
    mac_is = refl;
    is = so.call identity setup to call good six can;
  }

  abbrev Mine : List ℕ → Type 0
  Mine frame = IsCalledAt setup.plan.controller.mac identity frame

  call_mine : (frame : List ℕ) (call : Call) → SaysCall frame call → Mine frame
  call_mine frame call says =
      subst (λ (h : Heard). IsCalledBy setup.plan.controller.mac h) (sym says.is)
      (subst (λ (mac : Mac). IsCalledBy mac (cond says.is_to (Reported says.source says.to (Calls call)) Elsewhere)) says.mac_is
      (called_so says.is_to says.source says.to call))

  pub said_mine : (message : said.Sent) → IsAimedAt identity.mac message → Mine (said.bytes_of setup message)
  said_mine (said.Requests to asks.Identify) aimed =
      quiet_called mine.mac identity _ (data_quiet identify_multicast mine.mac None _ _ multicast_six good.mac tt)
  said_mine (said.Requests to asks.Address) aimed = quiet_called mine.mac identity _ (data_quiet to mine.mac None _ _ aimed.0 good.mac tt)
  said_mine (said.Requests to asks.Connect) aimed =
      call_mine _ _ (says_call to (call_for setup asks.Connect) aimed.0 (so.heard.call_can setup asks.Connect good tt tt))
  said_mine (said.Requests to (asks.Write number)) aimed =
      call_mine _ _ (says_call to (call_for setup (asks.Write number)) aimed.0 (so.heard.call_can setup (asks.Write number) good tt aimed.1))
  said_mine (said.Requests to asks.PrmEnd) aimed =
      call_mine _ _ (says_call to (call_for setup asks.PrmEnd) aimed.0 (so.heard.call_can setup asks.PrmEnd good tt tt))
  said_mine (said.Requests to (asks.WriteAfter number tries)) aimed =
      call_mine _ _ (says_call to (call_for setup (asks.WriteAfter number tries)) aimed.0 (so.heard.call_can setup (asks.WriteAfter number tries) good tt aimed.1))
  said_mine (said.Requests to (asks.PrmEndAfter tries)) aimed =
      call_mine _ _ (says_call to (call_for setup (asks.PrmEndAfter tries)) aimed.0 (so.heard.call_can setup (asks.PrmEndAfter tries) good tt aimed.1))
  said_mine (said.Requests to (asks.Release sequence)) aimed =
      call_mine _ _ (says_call to (call_for setup (asks.Release sequence)) aimed.0 (so.heard.call_can setup (asks.Release sequence) good tt aimed.1))
  said_mine (said.Accesses to request octets) aimed =
      call_mine _ _ (says_call to (record_call setup request octets) aimed.0 (so.heard.record_can setup request octets good aimed.1))
  said_mine (said.Parametrizes to request) aimed =
      call_mine _ _ (says_call to (plug_call setup request) aimed.0 (so.heard.plug_call_can setup request good aimed.1))
  said_mine (said.Agrees caller answer) aimed =
      subst (λ (h : Heard). IsCalledBy setup.plan.controller.mac h) (sym (so.agreed identity setup caller answer good aimed.1 aimed.2))
      (answers_so setup.plan.controller.mac (is_own identity caller.mac && caller.endpoint.port == 34964) _ _ answer)
  said_mine (said.Cycles route shown counter) aimed =
      quiet_called mine.mac identity _ (data_quiet route.partner mine.mac (Some route.sent_tag) _ _ aimed.partner good.mac aimed.sent_tag)
  said_mine (said.Confirms route priority header ack) aimed =
      quiet_called mine.mac identity _
      (data_quiet route.partner mine.mac (Some (tag_of route priority)) _ _ aimed.partner good.mac (tag_sized route priority aimed))
  said_mine (said.Replies route priority header) aimed =
      quiet_called mine.mac identity _
      (data_quiet route.partner mine.mac (Some (tag_of route priority)) _ _ aimed.partner good.mac (tag_sized route priority aimed))
  said_mine (said.Ends route header reason) aimed =
      quiet_called mine.mac identity _ (data_quiet route.partner mine.mac (Some alarm_block.tag_header_low) _ _ aimed.partner good.mac (omega arith))

  -- ---- PrmEnd after a plug

  heard_call : (frame : List ℕ) (call : Call) (number : ℕ) → SaysCall frame call → (hears : HearsEnd identity frame number) → call ≡ hears.call
  heard_call frame call number says hears =
      call_is says.is_to says.source says.to call hears.call hears.caller hears.address (sym says.is ∙ hears.is)

  other_end : (frame : List ℕ) (call : Call) (number : ℕ) → SaysCall frame call → (IsControl call.header.operation → ⊥) → HearsEnd identity frame number → ⊥
  other_end frame call number says other hears =
      other (ap (λ (c : Call). operation_of c.header.operation) (heard_call frame call number says hears) ∙ hears.asks)

  read_end : (frame : List ℕ) (call : Call) (blocks : List ℕ) (number : ℕ) → call.blocks ≡ Some blocks → SaysCall frame call
      → HearsEnd identity frame number → IsReadAs 0x0111 blocks number
  read_end frame call blocks number counted says hears =
      let same : hears.blocks ≡ blocks =
      some_is hears.blocks blocks (sym hears.counted ∙ (ap (λ (c : Call). c.blocks) (sym (heard_call frame call number says hears)) ∙ counted)) in
      subst (λ (n : ℕ). IsReadAs 0x0111 blocks n) hears.number_is
      (subst (λ (bytes : List ℕ). IsReadAs 0x0111 bytes hears.block.alarm_sequence_number) same (end_read hears.blocks hears.link hears.block hears.read))

  data_end : (frame : List ℕ) (number : ℕ) → IsQuietAt identity frame → HearsEnd identity frame number → ⊥
  data_end frame number quiet hears = quiet_end identity frame number quiet hears

  plugged_end : (to : Mac) (request : PlugRequest) (number : ℕ) → request.number < 65536 → SaysCall (said.bytes_of setup (said.Parametrizes to request)) (plug_call setup request)
      → HearsEnd identity (said.bytes_of setup (said.Parametrizes to request)) number → IsEndOf (said.Parametrizes to request) number
  plugged_end to request number small says hears = by_step request.step refl
    where
      asks_control : IsControl (plug_operation request.step)
      asks_control = ap (λ (c : Call). operation_of c.header.operation) (heard_call _ (plug_call setup request) number says hears) ∙ hears.asks

      sized : IsSized (plug_end setup request.number)
      sized = record { ar_uuid = good.ar; session_key = omega arith; number = small; command = omega arith }

      by_step : (step : PlugStep) → request.step ≡ step → IsEndOf (said.Parametrizes to request) number
      by_step (Record which) e = absurd (no_write (ap (λ (s : PlugStep). operation_of (plug_operation s)) (sym e) ∙ asks_control))
      by_step PrmEnd e =
          let read = read_end _ (plug_call setup request) (plug_blocks setup request PrmEnd) number
          (ap (λ (s : PlugStep). Some (plug_blocks setup request s)) e) says hears in
          record {
            to = to;
            request = request;
            is = refl;
            step = e;
            number_is = sym (number_read 0x0111 (omega arith) (so.read_back 0x0111) (plug_end setup request.number) sized read.x read.is) ∙ read.number_is;
          }

  pub said_end : (message : said.Sent) (number : ℕ) → IsAimedAt identity.mac message → IsSmallIn message
      → HearsEnd identity (said.bytes_of setup message) number → IsEndOf message number
  said_end (said.Requests to asks.Identify) number aimed small hears =
      absurd (data_end _ number (data_quiet identify_multicast mine.mac None _ _ multicast_six good.mac tt) hears)
  said_end (said.Requests to asks.Address) number aimed small hears =
      absurd (data_end _ number (data_quiet to mine.mac None _ _ aimed.0 good.mac tt) hears)
  said_end (said.Requests to asks.Connect) number aimed small hears =
      absurd (other_end _ _ number (says_call to (call_for setup asks.Connect) aimed.0 (so.heard.call_can setup asks.Connect good tt tt)) no_connect hears)
  said_end (said.Requests to (asks.Write which)) number aimed small hears =
      absurd (other_end _ _ number (says_call to (call_for setup (asks.Write which)) aimed.0 (so.heard.call_can setup (asks.Write which) good tt aimed.1)) no_write hears)
  said_end (said.Requests to asks.PrmEnd) number aimed small hears =
      let read = read_end _ (call_for setup asks.PrmEnd) (blocks_of setup asks.PrmEnd) number refl
      (says_call to (call_for setup asks.PrmEnd) aimed.0 (so.heard.call_can setup asks.PrmEnd good tt tt)) hears in
      absurd (start_end (sym (end_type _) ∙ type_read 0x0111 (blocks_of setup asks.PrmEnd) read.x read.is))
  said_end (said.Requests to (asks.WriteAfter which tries)) number aimed small hears =
      absurd (other_end _ _ number (says_call to (call_for setup (asks.WriteAfter which tries)) aimed.0
      (so.heard.call_can setup (asks.WriteAfter which tries) good tt aimed.1)) no_write hears)
  said_end (said.Requests to (asks.PrmEndAfter tries)) number aimed small hears =
      let read = read_end _ (call_for setup (asks.PrmEndAfter tries)) (blocks_of setup (asks.PrmEndAfter tries)) number refl
      (says_call to (call_for setup (asks.PrmEndAfter tries)) aimed.0 (so.heard.call_can setup (asks.PrmEndAfter tries) good tt aimed.1)) hears in
      absurd (start_end (sym (end_type _) ∙ type_read 0x0111 (blocks_of setup (asks.PrmEndAfter tries)) read.x read.is))
  said_end (said.Requests to (asks.Release sequence)) number aimed small hears =
      absurd (other_end _ _ number (says_call to (call_for setup (asks.Release sequence)) aimed.0 (so.heard.call_can setup (asks.Release sequence) good tt aimed.1))
      no_release hears)
  said_end (said.Accesses to request octets) number aimed small hears =
      absurd (other_end _ _ number (says_call to (record_call setup request octets) aimed.0 (so.heard.record_can setup request octets good aimed.1))
      (no_service request.service) hears)
  said_end (said.Parametrizes to request) number aimed small hears =
      plugged_end to request number small (says_call to (plug_call setup request) aimed.0 (so.heard.plug_call_can setup request good aimed.1)) hears
  said_end (said.Agrees caller answer) number aimed small hears =
      absurd (no_call (is_own identity caller.mac && caller.endpoint.port == 34964) _ _ answer hears.call hears.caller hears.address
      (sym (so.agreed identity setup caller answer good aimed.1 aimed.2) ∙ hears.is))
  said_end (said.Cycles route shown counter) number aimed small hears =
      absurd (data_end _ number (data_quiet route.partner mine.mac (Some route.sent_tag) _ _ aimed.partner good.mac aimed.sent_tag) hears)
  said_end (said.Confirms route priority header ack) number aimed small hears =
      absurd (data_end _ number (data_quiet route.partner mine.mac (Some (tag_of route priority)) _ _ aimed.partner good.mac (tag_sized route priority aimed)) hears)
  said_end (said.Replies route priority header) number aimed small hears =
      absurd (data_end _ number (data_quiet route.partner mine.mac (Some (tag_of route priority)) _ _ aimed.partner good.mac (tag_sized route priority aimed)) hears)
  said_end (said.Ends route header reason) number aimed small hears =
      absurd (data_end _ number (data_quiet route.partner mine.mac (Some alarm_block.tag_header_low) _ _ aimed.partner good.mac (omega arith)) hears)

  -- ---- the answer to an ApplicationReady

  call_done : (frame : List ℕ) (call : Call) (number : ℕ) → SaysCall frame call → HearsDone identity frame number → ⊥
  call_done frame call number says hears =
      no_answer says.is_to says.source says.to call hears.response hears.caller hears.address (sym says.is ∙ hears.is)

  data_done : (frame : List ℕ) (number : ℕ) → IsQuietAt identity frame → HearsDone identity frame number → ⊥
  data_done frame number quiet hears = quiet_done identity frame number quiet hears

  pub said_done : (message : said.Sent) (number : ℕ) → IsAimedAt identity.mac message → HearsDone identity (said.bytes_of setup message) number
      → IsDoneOf message number
  said_done (said.Requests to asks.Identify) number aimed hears =
      absurd (data_done _ number (data_quiet identify_multicast mine.mac None _ _ multicast_six good.mac tt) hears)
  said_done (said.Requests to asks.Address) number aimed hears =
      absurd (data_done _ number (data_quiet to mine.mac None _ _ aimed.0 good.mac tt) hears)
  said_done (said.Requests to asks.Connect) number aimed hears =
      absurd (call_done _ _ number (says_call to (call_for setup asks.Connect) aimed.0 (so.heard.call_can setup asks.Connect good tt tt)) hears)
  said_done (said.Requests to (asks.Write which)) number aimed hears =
      absurd (call_done _ _ number (says_call to (call_for setup (asks.Write which)) aimed.0 (so.heard.call_can setup (asks.Write which) good tt aimed.1)) hears)
  said_done (said.Requests to asks.PrmEnd) number aimed hears =
      absurd (call_done _ _ number (says_call to (call_for setup asks.PrmEnd) aimed.0 (so.heard.call_can setup asks.PrmEnd good tt tt)) hears)
  said_done (said.Requests to (asks.WriteAfter which tries)) number aimed hears =
      absurd (call_done _ _ number (says_call to (call_for setup (asks.WriteAfter which tries)) aimed.0
      (so.heard.call_can setup (asks.WriteAfter which tries) good tt aimed.1)) hears)
  said_done (said.Requests to (asks.PrmEndAfter tries)) number aimed hears =
      absurd (call_done _ _ number (says_call to (call_for setup (asks.PrmEndAfter tries)) aimed.0
      (so.heard.call_can setup (asks.PrmEndAfter tries) good tt aimed.1)) hears)
  said_done (said.Requests to (asks.Release sequence)) number aimed hears =
      absurd (call_done _ _ number (says_call to (call_for setup (asks.Release sequence)) aimed.0 (so.heard.call_can setup (asks.Release sequence) good tt aimed.1)) hears)
  said_done (said.Accesses to request octets) number aimed hears =
      absurd (call_done _ _ number (says_call to (record_call setup request octets) aimed.0 (so.heard.record_can setup request octets good aimed.1)) hears)
  said_done (said.Parametrizes to request) number aimed hears =
      absurd (call_done _ _ number (says_call to (plug_call setup request) aimed.0 (so.heard.plug_call_can setup request good aimed.1)) hears)
  said_done (said.Agrees caller answer) number aimed hears = record {
    caller = caller;
    answer = answer;
    is = refl;
    read = subst (λ (response : Response). IsReadAs 0x8113 response.blocks number)
        (sym (answer_same (is_own identity caller.mac && caller.endpoint.port == 34964) _ _ answer hears.response hears.caller hears.address
        (sym (so.agreed identity setup caller answer good aimed.1 aimed.2) ∙ hears.is)))
        (hears_done_read identity _ number hears);
  }
  said_done (said.Cycles route shown counter) number aimed hears =
      absurd (data_done _ number (data_quiet route.partner mine.mac (Some route.sent_tag) _ _ aimed.partner good.mac aimed.sent_tag) hears)
  said_done (said.Confirms route priority header ack) number aimed hears =
      absurd (data_done _ number (data_quiet route.partner mine.mac (Some (tag_of route priority)) _ _ aimed.partner good.mac (tag_sized route priority aimed)) hears)
  said_done (said.Replies route priority header) number aimed hears =
      absurd (data_done _ number (data_quiet route.partner mine.mac (Some (tag_of route priority)) _ _ aimed.partner good.mac (tag_sized route priority aimed)) hears)
  said_done (said.Ends route header reason) number aimed hears =
      absurd (data_done _ number (data_quiet route.partner mine.mac (Some alarm_block.tag_header_low) _ _ aimed.partner good.mac (omega arith)) hears)

  -- the number in the answer to an ApplicationReady of a plug is that of the plug, and the answer to that of the start-up has none
  pub confirms_number : (call : Call) (block : PlugControlBlock) (number : ℕ) → is_plug_ready setup block ≡ true → block.alarm_sequence_number < 65536
      → IsReadAs 0x8113 (plug_answer call block).blocks number → block.alarm_sequence_number ≡ number
  confirms_number call block number right small read =
      let both = and_parts (pointwise nat_eq block.ar_uuid setup.ar) (block.session_key == session_number && block.control_command == 2) right in
      let session : block.session_key ≡ session_number =
      eqb-true block.session_key session_number (and_parts (block.session_key == session_number) (block.control_command == 2) both.1).0 in
      let sized : IsSized (plug_done block) = record {
        ar_uuid = ap (λ (uuid : List ℕ). length uuid) (same_text block.ar_uuid setup.ar (sym both.0)) ∙ good.ar;
        session_key = subst (λ (n : ℕ). n < 65536) (sym session) (omega arith);
        number = small;
        command = omega arith;
      } in
      sym (number_read 0x8113 (omega arith) (so.read_back 0x8113) (plug_done block) sized read.x read.is) ∙ read.number_is

  pub start_no_number : (call : Call) (block : ControlBlock) (number : ℕ) → IsReadAs 0x8113 (ready_answer call block).blocks number → ⊥
  start_no_number call block number read =
      start_done (sym (ready_type _) ∙ type_read 0x8113 (ready_answer call block).blocks read.x read.is)

  -- ---- of the device

  module _ (apart : identity.mac ≡ setup.plan.controller.mac → ⊥) (heard : Heard) (live : Live) (called : IsCalledBy setup.plan.controller.mac heard)
      (asked : IsAskedBy setup.plan.controller.mac live.rest.asked) (plans : IsPlans setup live.rest.link) (orderly : IsOrderlyIn live.rest.link)
      (kept : (frame : List ℕ) → IsOfKept heard live frame → IsQuietAt identity frame) where
    caller_mine : (caller : Caller) (answer : Response) → IsAnswering heard caller answer ⊎ IsReplying live caller answer
        → caller.mac ≡ setup.plan.controller.mac
    caller_mine caller answer (inl answering) = subst (λ (h : Heard). IsCalledBy setup.plan.controller.mac h) answering.is called
    caller_mine caller answer (inr replying) = ap (λ (c : Caller). c.mac) replying.own ∙ asked replying.question replying.is

    message_quiet : (message : Sent) → IsOwed heard live message → IsSendable identity message → IsQuietAt identity (bytes_of identity message)
    message_quiet (Again frame) owed can = kept frame owed
    message_quiet (IdentifyAnswer asker running xid) owed can = data_quiet asker identity.mac None _ _ can.destination real tt
    message_quiet (GetAnswer asker running alias request) owed can = data_quiet asker identity.mac None _ _ can.destination real tt
    message_quiet (SetAnswer asker request answers) owed can = data_quiet asker identity.mac None _ _ can.destination real tt
    message_quiet (ArpReply asker address target) owed can =
        subst (λ (h : Heard). IsQuiet h) (sym (so.packet identity identity asker address target real can.destination can.content.0.1 can.content.1))
        (resolves_quiet (is_own identity asker || pointwise nat_eq asker.octets broadcast) _ _)
    message_quiet (CallAnswer caller address answer) owed can =
        subst (λ (h : Heard). IsQuiet h)
        (sym (so.response identity identity caller address answer real (record { mac = can.0.destination; endpoint = can.0.content.1 }) can.0.content.0.0 can.1))
        (elsewhere_quiet (is_own identity caller.mac) (caller.endpoint.port == 34964) _
        (other_mac caller.mac identity.mac (λ same. apart (sym same ∙ caller_mine caller answer owed))))
    message_quiet (ReadyCall address ready) owed can =
        subst (λ (h : Heard). IsQuiet h)
        (sym (so.ready identity identity address ready real can.destination can.content.1.0 can.content.0.0
        (ready_can_be so.heard setup identity good real owed.link ready (plans owed.link owed.is) owed.header owed.block)))
        (garbled_quiet (is_own identity ready.partner.mac && (calls_at ready.partner.address).port == 34964) _ _)
    message_quiet (PlugReadyCall address ready) owed can =
        subst (λ (h : Heard). IsQuiet h)
        (sym (so.plug identity identity address ready real can.destination can.content.1.0 can.content.0.0
        (plug_can_be so.heard setup identity good real owed.link owed.call ready (plans owed.link owed.is) (owed.sequence orderly) owed.header owed.block)))
        (garbled_quiet (is_own identity ready.partner.mac && (calls_at ready.partner.address).port == 34964) _ _)
    message_quiet (Ends farewell) owed can = data_quiet farewell.initiator identity.mac (Some farewell.tag) _ _ can.destination real can.tag
    message_quiet (Exchanges route frame) owed can = data_quiet route.partner identity.mac (Some _) _ _ can.destination real can.tag

    pub messages_quiet : (messages : List Sent) → AllByRecursion (IsOwed heard live) messages → AllByRecursion (IsSendable identity) messages
        → AllByRecursion (IsQuietAt identity) (map (bytes_of identity) messages)
    messages_quiet [] owed can = tt
    messages_quiet (message ∷ messages) owed can = (message_quiet message owed.0 can.0, messages_quiet messages owed.1 can.1)
