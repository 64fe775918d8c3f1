-- A controller that has no relation yet ignores what a device sends with its units for a relation of any controller.
use Rattle.std.proofs.Common.{◌≡◌, ◌⊎◌, inl, inr, ◌&&◌, ◌++◌, ℕ, nat_eq, Bool, true, false, List, [], ◌∷◌, map, Option, Some, None, Result, Ok, Err}
use Rattle.std.proofs.Common.{refl, sym, ap, subst, ◌∙◌}
use Rattle.std.specs.Prelude.{if◌then◌else◌}
use Rattle.std.specs.List.{AllByRecursion}
use Rattle.std.specs.Cmp.Lexicographic.{pointwise}
use Rattle.pn_values.specs.declared.identity.Identity.{Identity}
use Rattle.pn_values.specs.declared.mac.Mac.{Mac}
use Rattle.frame_codec.specs.declared.fault.FrameFault.{FrameFault}
use Rattle.frame_codec.specs.declared.udp.Caller.{Caller}
use Rattle.frame_codec.specs.FrameId.{is_alarm as is_alarm_id, is_cyclic}
use Rattle.frame_codec.specs.Frame.{frame_bytes, frame_of, padding_of}
use Rattle.frame_codec.specs.Meaning.{Meaning, RealTime}
use Rattle.frame_codec.specs.Sendable.{CanBeSent, IsMac, carrying}
use Rattle.rpc_core.specs.declared.interface.Interface.TheVariants.{Controller as controllers}
use Rattle.rpc_core.specs.Interface.{interface_uuid}
use Rattle.rpc_core.specs.Call.{Asked as Call}
use Rattle.rpc_core.specs.Response.{Answered}
use Rattle.rpc_core.specs.Sendable.{CanBeAnswered, CanBeCalled, IsHeader, IsUuid}
use Rattle.connect_blocks.specs.declared.control.ControlBlock.{ControlBlock}
use Rattle.pn_alarms.specs.declared.fault.AlarmFault.{AlarmFault}
use Rattle.pn_alarms.specs.declared.pdu.Header.{Header}
use Rattle.diagnosis.specs.reports.Message.{ToController, alarm_of}
use Rattle.cyclic_data.specs.exchange.Received.{behind_frame}
use Rattle.relations.specs.declared.plugging.PlugReady.{PlugReady}
use Rattle.relations.specs.declared.ready.Ready.{Ready}
use Rattle.relations.specs.exchange.Frames.{Inputs, Notifies, Reports}
use Rattle.plans.specs.declared.parts.Controller.{Controller}
use Rattle.device_frames.specs.Sendable.{AreSendable, IsSendable}
use Rattle.device_frames.specs.Sent.{Sent, CallAnswer, ReadyCall, PlugReadyCall, Ends, Exchanges, bytes_of, plug_ready_frame, ready_frame, response_frame}
use Rattle.controller_messages.specs.declared.setup.Setup.{Setup}
use Rattle.controller_messages.specs.Heard.{Heard, Alarms, Answers, Calls, Cyclic, Nothing, Refuses, Responds}
use Rattle.controller_messages.specs.Heard.{heard_alarm, heard_content, heard_of, heard_read, heard_real_time}
use Rattle.controller_messages.specs.Sent.{calls_at}
use Rattle.controller_core.specs.declared.stored.state.State.{State}
use Rattle.controller_core.specs.declared.stored.state.State.TheVariants.{Addressing, Connecting, Looking}
use Rattle.controller_messages.specs.PlugRequests.{plug_ready_in}
use Rattle.controller_core.specs.start_up.Answers.{is_ready, ready_in}
use Rattle.controller_core.specs.stored.Alarms.{is_alarm}
use Rattle.controller_core.specs.stored.State.{Controlling, Live}
use Rattle.controller_core.specs.Machine.{Stepped, after_turn, called, can_begin, is_exchanging, noticed, readied, step_of, stepped, stays, turned}
use Rattle.end_laws.specs.hearing.Hearing.{mine_reported}
use Rattle.end_laws.specs.hearing.Stations.{IsAddress, IsCaller, IsDevice, plug_ready_call, ready_call}
use Rattle.rounds_law.specs.Path.{IsIgnored, controller_step}
use Rattle.rounds_law.proofs.AgainIgnored as again
use Rattle.rounds_law.proofs.AnywhereLinkIgnored.{answer_ignored}
use Rattle.rounds_law.proofs.AnywhereDeviceSays.{IsSizedPlug, IsSizedReady}
use Rattle.rounds_law.proofs.Choices.{where_not, where_so}
use Rattle.rounds_law.proofs.PlaceTurns.{uncalled, unchanged}
use Rattle.rounds_law.proofs.CompositionLists.{Kept, keep}

-- ---- what is ignored

-- The controller looks for its station, sets the IP suite, or asks for its relation.
abbrev pub IsEarly : State → Type 0
IsEarly Looking = Unit {0}
IsEarly Addressing = Unit {0}
IsEarly Connecting = Unit {0}
IsEarly phase = ⊥

-- A controller that does so, without an established relation, ignores this frame.
abbrev pub IsIgnoredEarly : Setup → List ℕ → Type 0
IsIgnoredEarly setup octets = (controller : Controlling) → controller.setup ≡ setup → controller.live.stands ≡ false → IsEarly controller.live.phase
    → controller_step controller octets ≡ record { controller = controller; frames = [] }

pub early_of : (setup : Setup) (octets : List ℕ) → IsIgnored setup octets → IsIgnoredEarly setup octets
early_of setup octets ignored = λ controller same unrelated early. ignored controller same unrelated

pub all_early : (setup : Setup) (frames : List (List ℕ)) → AllByRecursion (IsIgnored setup) frames → AllByRecursion (IsIgnoredEarly setup) frames
all_early setup [] all = tt
all_early setup (octets ∷ frames) all = (early_of setup octets all.0, all_early setup frames all.1)

-- Such a controller after frames that it ignores.
pub ignore_early : (setup : Setup) (Is : Controlling → Type 0)
    → ((controller : Controlling) → Is controller
    → (controller.setup ≡ setup) × (controller.live.stands ≡ false) × IsEarly controller.live.phase)
    → (before : Controlling) (frames more : List (List ℕ)) → AllByRecursion (IsIgnoredEarly setup) frames → Is before → Kept Is before frames more
ignore_early setup Is early before frames more all is = keep Is (IsIgnoredEarly setup) (λ controller octets ignored at.
    let so = ignored controller (early controller at).0 (early controller at).1 (early controller at).2 in
    (ap (λ (s : Stepped). s.frames) so, subst (λ (s : Stepped). Is s.controller) (sym so) at)) before frames more all is

-- What is heard changes nothing: cyclic frames, alarms, and ApplicationReady.
abbrev pub IsQuiet : Heard → Type 0
IsQuiet Nothing = Unit {0}
IsQuiet (Answers source answer) = ⊥
IsQuiet (Responds response) = ⊥
IsQuiet (Refuses refusal) = ⊥
IsQuiet (Calls caller call) = Unit {0}
IsQuiet (Cyclic source frame_id body) = Unit {0}
IsQuiet (Alarms source under header notice) = Unit {0}

readied_early : (live : Live) (caller : Caller) (call : Call) (block : ControlBlock) (phase : State) → IsEarly phase
    → readied live caller call block phase ≡ stays live
readied_early live caller call block Looking early = refl
readied_early live caller call block Addressing early = refl
readied_early live caller call block Connecting early = refl
readied_early live caller call block phase early = absurd early

unexchanging : (phase : State) → IsEarly phase → is_exchanging phase ≡ false
unexchanging Looking early = refl
unexchanging Addressing early = refl
unexchanging Connecting early = refl
unexchanging phase early = absurd early

called_early : (setup : Setup) (live : Live) (caller : Caller) (call : Call) (found : Option ControlBlock) → IsEarly live.phase
    → called setup live caller call found ≡ stays live
called_early setup live caller call None early =
    ap (after_turn setup (can_begin live)) (uncalled setup live caller call (plug_ready_in call) (unexchanging live.phase early)) ∙ unchanged setup live
called_early setup live caller call (Some block) early = by_test (is_ready setup block)
  where
    by_test : (is : Bool) → (if is then readied live caller call block live.phase else stays live) ≡ stays live
    by_test true = readied_early live caller call block live.phase early
    by_test false = refl

turned_early : (setup : Setup) (live : Live) (heard : Heard) → live.stands ≡ false → IsEarly live.phase → IsQuiet heard → turned setup live heard ≡ stays live
turned_early setup live Nothing unrelated early quiet = refl
turned_early setup live (Answers source answer) unrelated early quiet = absurd quiet
turned_early setup live (Responds response) unrelated early quiet = absurd quiet
turned_early setup live (Refuses refusal) unrelated early quiet = absurd quiet
turned_early setup live (Calls caller call) unrelated early quiet = called_early setup live caller call (ready_in call) early
turned_early setup live (Cyclic source frame_id body) unrelated early quiet =
    ap (λ (b : Bool). stays (if b then record live { cyclic = behind_frame live.cyclic source frame_id body } else live)) unrelated
turned_early setup live (Alarms source under header notice) unrelated early quiet =
    ap (λ (b : Bool). after_turn setup (can_begin live) (if b && is_alarm live.cyclic.route source header then noticed live under notice else stays live))
    unrelated ∙ unchanged setup live

ignored_early : (setup : Setup) (octets : List ℕ) → IsQuiet (heard_of setup.plan.controller octets) → IsIgnoredEarly setup octets
unfolding step_of
ignored_early setup octets quiet = λ controller same unrelated early.
    ap (λ (s : Setup). stepped controller (turned s controller.live (heard_of s.plan.controller octets))) same
    ∙ ap (stepped controller) (turned_early setup controller.live (heard_of setup.plan.controller octets) unrelated early quiet)

-- ---- frames of real-time data

-- A FrameID of cyclic frames or of alarms.
abbrev IsExchanged : ℕ → Type 0
IsExchanged frame_id = (is_cyclic frame_id ≡ true) ⊎ ((is_cyclic frame_id ≡ false) × (is_alarm_id frame_id ≡ true))

alarm_quiet : (source : Mac) (frame_id : ℕ) (read : Result (Header × ToController) AlarmFault) → IsQuiet (heard_alarm source frame_id read)
alarm_quiet source frame_id (Ok x) = tt
alarm_quiet source frame_id (Err fault) = tt

real_time_quiet : (source : Mac) (frame_id : ℕ) (body : List ℕ) → IsExchanged frame_id → IsQuiet (heard_real_time source frame_id body)
unfolding heard_real_time
real_time_quiet source frame_id body (inl cyclic) =
    subst IsQuiet (sym (where_so (is_cyclic frame_id) (Cyclic source frame_id body) _ cyclic)) tt
real_time_quiet source frame_id body (inr other) =
    subst IsQuiet (sym (where_not (is_cyclic frame_id) (Cyclic source frame_id body) _ other.0
    ∙ where_so (is_alarm_id frame_id) (heard_alarm source frame_id (alarm_of body)) _ other.1))
    (alarm_quiet source frame_id (alarm_of body))

-- The laws of the crates below: frames that can be sent are read as they are written, and responses and ApplicationReady are heard as they
-- were said.
pub record UnitLaws : Type 0 where
  pub real_time : (destination source : Mac) (tag : Option ℕ) (frame_id : ℕ) (body : List ℕ)
      → CanBeSent (carrying destination source tag (RealTime frame_id body))
      → frame_of (frame_bytes (carrying destination source tag (RealTime frame_id body)))
      ≡ Ok (carrying destination source tag (RealTime frame_id (body ++ padding_of (carrying destination source tag (RealTime frame_id body)))))
  pub responses : (mine : Controller) (identity : Identity) (caller : Caller) (address : List ℕ) (answer : Answered)
      → IsDevice identity → IsCaller caller → IsAddress address → CanBeAnswered answer
      → heard_of mine (response_frame identity caller address answer) ≡ mine_reported mine caller.mac caller.endpoint (Responds answer)
  pub ready : (mine : Controller) (identity : Identity) (address : List ℕ) (ready : Ready)
      → IsDevice identity → IsMac ready.partner.mac → IsAddress ready.partner.address → IsAddress address → CanBeCalled controllers (ready_call ready)
      → heard_of mine (ready_frame identity address ready)
      ≡ mine_reported mine ready.partner.mac (calls_at ready.partner.address)
      (Calls (record { mac = identity.mac; endpoint = calls_at address }) (ready_call ready))
  pub ready_can : (ready : Ready) → IsHeader ready.header → ready.header.interface ≡ interface_uuid controllers
      → IsUuid ready.block.ar_uuid → CanBeCalled controllers (ready_call ready)
  pub plug : (mine : Controller) (identity : Identity) (address : List ℕ) (ready : PlugReady)
      → IsDevice identity → IsMac ready.partner.mac → IsAddress ready.partner.address → IsAddress address → CanBeCalled controllers (plug_ready_call ready)
      → heard_of mine (plug_ready_frame identity address ready)
      ≡ mine_reported mine ready.partner.mac (calls_at ready.partner.address)
      (Calls (record { mac = identity.mac; endpoint = calls_at address }) (plug_ready_call ready))
  pub plug_can : (ready : PlugReady) → IsHeader ready.header → ready.header.interface ≡ interface_uuid controllers
      → IsUuid ready.block.ar_uuid → CanBeCalled controllers (plug_ready_call ready)

module _ (laws : UnitLaws) (setup : Setup) (identity : Identity) where
  exchange_quiet : (destination : Mac) (tag : ℕ) (frame_id : ℕ) (body : List ℕ) → IsExchanged frame_id
      → CanBeSent (carrying destination identity.mac (Some tag) (RealTime frame_id body))
      → IsQuiet (heard_of setup.plan.controller (frame_bytes (carrying destination identity.mac (Some tag) (RealTime frame_id body))))
  unfolding heard_of
  exchange_quiet destination tag frame_id body exchanged can =
      subst (λ (r : Result Meaning FrameFault). IsQuiet (heard_read setup.plan.controller r))
      (sym (laws.real_time destination identity.mac (Some tag) frame_id body can))
      (either (pointwise nat_eq destination.octets setup.plan.controller.mac.octets))
    where
      padded : List ℕ
      padded = body ++ padding_of (carrying destination identity.mac (Some tag) (RealTime frame_id body))

      either : (own : Bool) → IsQuiet (if own then heard_content setup.plan.controller.address identity.mac (RealTime frame_id padded) else Nothing)
      either true = real_time_quiet identity.mac frame_id padded exchanged
      either false = tt

  -- ---- ApplicationReady

  reported_quiet : (destination : Mac) (address : List ℕ) (caller : Caller) (call : Call)
      → IsQuiet (mine_reported setup.plan.controller destination (calls_at address) (Calls caller call))
  reported_quiet destination address caller call =
      outer (pointwise nat_eq destination.octets setup.plan.controller.mac.octets) (pointwise nat_eq address setup.plan.controller.address && true)
    where
      outer : (own to : Bool) → IsQuiet (if own then (if to then Calls caller call else Nothing) else Nothing)
      outer true true = tt
      outer true false = tt
      outer false to = tt

  ready_quiet : (address : List ℕ) (ready : Ready) → IsDevice identity → IsSizedReady ready → IsSendable identity (ReadyCall address ready)
      → IsQuiet (heard_of setup.plan.controller (ready_frame identity address ready))
  ready_quiet address ready device sized can =
      subst IsQuiet (sym (laws.ready setup.plan.controller identity address ready device can.destination can.content.1.0 can.content.0.0
      (laws.ready_can ready sized.header sized.interface sized.uuid)))
      (reported_quiet ready.partner.mac ready.partner.address (record { mac = identity.mac; endpoint = calls_at address }) (ready_call ready))

  plug_quiet : (address : List ℕ) (ready : PlugReady) → IsDevice identity → IsSizedPlug ready → IsSendable identity (PlugReadyCall address ready)
      → IsQuiet (heard_of setup.plan.controller (plug_ready_frame identity address ready))
  plug_quiet address ready device sized can =
      subst IsQuiet (sym (laws.plug setup.plan.controller identity address ready device can.destination can.content.1.0 can.content.0.0
      (laws.plug_can ready sized.header sized.interface sized.uuid)))
      (reported_quiet ready.partner.mac ready.partner.address (record { mac = identity.mac; endpoint = calls_at address }) (plug_ready_call ready))

  -- ---- all messages of a unit

  -- A message of a unit: its ERR, an alarm again, ApplicationReady again, also that of a plug, inputs, or the refusal of a call of another start.
  abbrev pub IsOfUnit : Sent → Type 0
  IsOfUnit (Ends farewell) = Unit {0}
  IsOfUnit (Exchanges route (Inputs state inputs counter)) = is_cyclic route.sent_id ≡ true
  IsOfUnit (Exchanges route (Notifies header alarm)) = Unit {0}
  IsOfUnit (Exchanges route (Reports tag header alarm)) = Unit {0}
  IsOfUnit (ReadyCall address ready) = IsSizedReady ready
  IsOfUnit (PlugReadyCall address ready) = IsSizedPlug ready
  IsOfUnit (CallAnswer caller address answer) = answer.header.activity ≡ setup.activity → ⊥
  IsOfUnit message = ⊥

  message_early : (message : Sent) → IsDevice identity → IsOfUnit message → IsSendable identity message → IsIgnoredEarly setup (bytes_of identity message)
  message_early (Ends farewell) device of can =
      ignored_early setup (bytes_of identity (Ends farewell)) (exchange_quiet farewell.initiator farewell.tag _ _ (inr (refl, refl)) can)
  message_early (Exchanges route (Inputs state inputs counter)) device of can =
      ignored_early setup (bytes_of identity (Exchanges route (Inputs state inputs counter)))
      (exchange_quiet route.partner route.sent_tag _ _ (inl of) can)
  message_early (Exchanges route (Notifies header alarm)) device of can =
      ignored_early setup (bytes_of identity (Exchanges route (Notifies header alarm)))
      (exchange_quiet route.partner route.alarm_tag _ _ (inr (refl, refl)) can)
  message_early (Exchanges route (Reports tag header alarm)) device of can =
      ignored_early setup (bytes_of identity (Exchanges route (Reports tag header alarm)))
      (exchange_quiet route.partner tag _ _ (inr (refl, refl)) can)
  message_early (ReadyCall address ready) device of can =
      ignored_early setup (bytes_of identity (ReadyCall address ready)) (ready_quiet address ready device of can)
  message_early (PlugReadyCall address ready) device of can =
      ignored_early setup (bytes_of identity (PlugReadyCall address ready)) (plug_quiet address ready device of can)
  message_early (CallAnswer caller address answer) device of can =
      early_of setup (bytes_of identity (CallAnswer caller address answer))
      (answer_ignored (record { responses = laws.responses }) setup identity caller address answer device can of)
  message_early message device of can = absurd of

  pub messages_early : (sent : List Sent) → IsDevice identity → AllByRecursion IsOfUnit sent → AreSendable identity sent
      → AllByRecursion (IsIgnoredEarly setup) (map (bytes_of identity) sent)
  messages_early [] device of can = tt
  messages_early (message ∷ sent) device of can = (message_early message device of.0 can.0, messages_early sent device of.1 can.1)

  -- ---- without a relation

  -- The ERR of a relation that has just ended is ignored in each phase.
  abbrev pub IsFarewell : Sent → Type 0
  IsFarewell (Ends farewell) = Unit {0}
  IsFarewell message = ⊥

  farewell_ignored : (message : Sent) → IsFarewell message → IsSendable identity message → IsIgnored setup (bytes_of identity message)
  farewell_ignored (Ends farewell) is can =
      again.ignored setup (bytes_of identity (Ends farewell))
      (again.exchange_quiet laws.real_time setup farewell.initiator identity.mac farewell.tag _ _ (inr (refl, refl)) can)
  farewell_ignored message is can = absurd is

  pub farewells_ignored : (sent : List Sent) → AllByRecursion IsFarewell sent → AreSendable identity sent
      → AllByRecursion (IsIgnored setup) (map (bytes_of identity) sent)
  farewells_ignored [] are can = tt
  farewells_ignored (message ∷ sent) are can = (farewell_ignored message are.0 can.0, farewells_ignored sent are.1 can.1)
