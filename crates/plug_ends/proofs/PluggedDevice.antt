-- The Write of a record after a plug at the device: what it answers grants the record only if the relation accepted it.
use Rattle.std.proofs.Common.{◌≡◌, ◌⊎◌, inl, inr, ◌<◌, ◌++◌, ◌==◌, ◌&&◌, ℕ, Bool, true, false, List, [], ◌∷◌, Option, Some, None, option_map, refl, sym, ap, subst, ◌∙◌, arith}
use Rattle.std.specs.Prelude.{if◌then◌else◌, nat_eq}
use Rattle.std.specs.List.{AllByRecursion}
use Rattle.std.specs.Cmp.Lexicographic.{pointwise}
use Rattle.settings_journal.specs.settings_store.Machine.{Outcome}
use Rattle.pn_values.specs.declared.mac.Mac.{Mac}
use Rattle.pn_values.specs.declared.identity.Identity.{Identity}
use Rattle.frame_codec.specs.declared.udp.Caller.{Caller}
use Rattle.frame_codec.specs.declared.udp.Endpoint.{Endpoint}
use Rattle.frame_codec.specs.Sendable.{IsMac}
use Rattle.rpc_core.specs.Cache.{Kept as Answer, kept_of}
use Rattle.rpc_core.specs.Call.{Asked as Call}
use Rattle.rpc_core.specs.Response.{Answered as Response, is_done}
use Rattle.rpc_core.specs.Sendable.{CanBeCalled}
use Rattle.rpc_core.specs.declared.interface.Interface.TheVariants.{Device as devices}
use Rattle.block_codec.specs.declared.block.Block.{Block}
use Rattle.block_codec.specs.Block.{block_bytes, block_of, front}
use Rattle.block_codec.specs.Writable.{CanBeWritten}
use Rattle.connects.specs.requests.Request.{Request}
use Rattle.records.specs.declared.status.call_fault.CallFault.{CallFault}
use Rattle.records.specs.declared.status.operation.Operation.{Operation}
use Rattle.records.specs.status.Operation.{operation_of}
use Rattle.records.specs.status.Status.{status_of}
use Rattle.records.specs.declared.writes.taken.TakenRecord.{TakenRecord}
use Rattle.plans.specs.declared.parts.Controller.{Controller}
use Rattle.asked_records.specs.Asked.{question_in}
use Rattle.asked_records.specs.declared.question.Question.{Question}
use Rattle.relations.specs.RelationState.{RelationState, passes_on}
use Rattle.device_frames.specs.declared.event.Event.TheVariants.{Frame}
use Rattle.device_frames.specs.Heard.{Calls, Elsewhere, Heard, Reported, Said, heard_of, is_own}
use Rattle.device_frames.specs.Sendable.{AreSendable, IsSendable}
use Rattle.device_frames.specs.Sent.{Sent, IdentifyAnswer, GetAnswer, SetAnswer, ArpReply, CallAnswer, Again, ReadyCall, PlugReadyCall, Ends, Exchanges, bytes_of}
use Rattle.device_core.specs.State.{Live, Station}
use Rattle.device_core.specs.Machine.{handled_step, heard_step}
use Rattle.controller_messages.specs.declared.plug_request.PlugRequest.{PlugRequest}
use Rattle.controller_messages.specs.declared.plug_request.PlugStep.{PlugStep}
use Rattle.controller_messages.specs.declared.plug_request.PlugStep.TheVariants.{Record}
use Rattle.controller_messages.specs.declared.setup.Setup.{Setup}
use Rattle.controller_messages.specs.Heard as controller
use Rattle.controller_messages.specs.Heard.{heard_of as heard_by, is_to}
use Rattle.controller_messages.specs.PlugRequests.{plug_blocks, plug_call, plug_operation}
use Rattle.controller_messages.specs.Sent.{call_frame, calls_at}
use Rattle.controller_core.specs.stored.State.{Controlling}
use Rattle.end_laws.specs.hearing.Hearing.{mine_reported, own_reported}
use Rattle.end_laws.specs.hearing.Stations.{IsDevice, IsSetup}
use Rattle.end_laws.specs.both.Small as small
use Rattle.end_laws.specs.both.Small.{Ask, Reply, Rules, ToController, ToDevice}
use Rattle.end_laws.specs.both.Steps.{DeviceSteps, IsDull, IsNew, IsReady, SaysAtMost}
use Rattle.end_laws.specs.device.Owed.{IsOwed}
use Rattle.end_laws.specs.device.Small.{IsHeardAs, IsPlanned, IsPlannedCall, Planned, heard_as, kept_in, link_of, written_by}
use Rattle.end_laws.specs.device.Small as device
use Rattle.end_laws.specs.device.Turn.{Turn}
use Rattle.both_ends.specs.startup.Played.{AreUnnamed, ArePlaced, IsParameter, IsPlaced, IsUnnamed}
use Rattle.both_ends.specs.startup.View.{is_planned, rules_of, taken_for}
use Rattle.plug_ends.specs.Taken.{IsPositive, IsWriteOf, TakesOne, hears_plug, taken_in}
use Rattle.plug_ends.proofs.CallsFine.{FineSo, kept_after}
use Rattle.plug_ends.proofs.CallsFrames.{answers_same, idle_call, nothing_answers, readies_answers}
use Rattle.plug_ends.proofs.CallsRuns.{all_at, all_both, all_map, kept_for}
use Rattle.plug_ends.proofs.CallsTurns.{some_same}
use Rattle.plug_ends.proofs.PluggedLists.{IsRecordAt}
use Rattle.plug_ends.proofs.PluggedState.{Grants, WasIn, grants_answers}
use Rattle.plug_ends.proofs.PluggedWorlds.{IsPlugFrame, Numbered}
use Rattle.plug_ends.proofs.Written.{any_came, plain_rules, positive_so, unasked_so}

-- the laws of the crates below
pub record PluggedSo : Type 0 where
  pub fine : FineSo
  pub read : (block : Block) (rest : List ℕ) → CanBeWritten block → block_of (block_bytes block ++ rest) ≡ front block rest
  pub undone : (which : Operation) (why : CallFault) → is_done (status_of which why) ≡ false
  pub turns : (rules : Rules TakenRecord Request) (activity : List ℕ) (outcomes : List Outcome) (station : Station) (live : Live) (heard : Heard)
      → IsPlanned rules activity station.named live.rest.real heard
      → Turn station live heard (heard_step outcomes station live heard).live.rest (heard_step outcomes station live heard).sent
  pub call_at_device : (identity : Identity) (setup : Setup) (to : Mac) (call : Call) → IsSetup setup → IsMac to → CanBeCalled devices call
      → heard_of identity (Frame (record { items = call_frame setup to call }))
      ≡ own_reported identity setup.plan.controller.mac to (calls_at setup.plan.controller.address) (calls_at setup.plan.station.suite.address) (Calls call)

-- ---- what is heard

pub unreported_idle : (planned : Planned) (heard : Heard) → ((caller : Caller) (address : List ℕ) (said : Said) → heard ≡ Reported caller address said → ⊥)
    → heard_as planned heard ≡ small.Idle
unreported_idle planned (Reported caller address said) un = absurd (un caller address said refl)
unreported_idle planned heard un = refl

-- a call that is heard in a frame of the controller
pub record IsHeardCall (heard : Heard) (call : Call) : Type 0 where
  pub caller : Caller
  pub address : List ℕ
  pub is : heard ≡ Reported caller address (Calls call)

pub frame_call : (so : PluggedSo) (identity : Identity) (setup : Setup) (to : Mac) (call : Call) → IsSetup setup → IsMac to → CanBeCalled devices call
    → (planned : Planned) (sequence : ℕ) (ask : Ask)
    → heard_as planned (heard_of identity (Frame (record { items = call_frame setup to call }))) ≡ small.Call sequence ask
    → IsHeardCall (heard_of identity (Frame (record { items = call_frame setup to call }))) call
frame_call so identity setup to call good mac can planned sequence ask e =
    subst (λ (h : Heard). IsHeardCall h call) (sym there)
    (by_test (is_own identity to && (calls_at setup.plan.station.suite.address).port == 34964) (sym (ap (λ (h : Heard). heard_as planned h) there) ∙ e))
  where
    there : heard_of identity (Frame (record { items = call_frame setup to call }))
        ≡ own_reported identity setup.plan.controller.mac to (calls_at setup.plan.controller.address) (calls_at setup.plan.station.suite.address) (Calls call)
    there = so.call_at_device identity setup to call good mac can

    by_test : (b : Bool) → heard_as planned (if b
        then Reported (record { mac = setup.plan.controller.mac; endpoint = calls_at setup.plan.controller.address })
        (calls_at setup.plan.station.suite.address).address (Calls call) else Elsewhere) ≡ small.Call sequence ask
        → IsHeardCall (if b
        then Reported (record { mac = setup.plan.controller.mac; endpoint = calls_at setup.plan.controller.address })
        (calls_at setup.plan.station.suite.address).address (Calls call) else Elsewhere) call
    by_test true f = record { caller = _; address = _; is = refl }
    by_test false f = absurd (idle_call sequence ask f)

-- the Write of a record is a call, and no end of parameters
pub plug_small : (setup : Setup) (caller : Caller) (address : List ℕ) (request : PlugRequest) (number : ℕ) → request.step ≡ Record number → (planned : Planned)
    → (ask : Ask) × (heard_as planned (hears_plug setup caller address request) ≡ small.Call request.sequence ask)
unfolding operation_of
plug_small setup caller address request number is planned =
    let blocks = plug_blocks setup request request.step in
    let asked = by_test (planned request.sequence blocks) (device.number_in blocks) in (
      asked.0,
      ap (λ (step : PlugStep). device.asked_by planned request.sequence (plug_blocks setup request request.step) (operation_of (plug_operation step))) is
          ∙ asked.1,
    )
  where
    by_test : (b : Bool) (write : ℕ) → (ask : Ask) × (written_by b request.sequence write ≡ small.Call request.sequence ask)
    by_test true write = (_, refl)
    by_test false write = (_, refl)

-- a controller hears its own response alone
response_is : (mine : Controller) (mac : Mac) (endpoint : Endpoint) (answer response : Response)
    → mine_reported mine mac endpoint (controller.Responds answer) ≡ controller.Responds response → answer ≡ response
response_is mine mac endpoint answer response e = by_tests (pointwise nat_eq mac.octets mine.mac.octets) (is_to mine.address endpoint) e
  where
    by_tests : (b d : Bool) → (if b then (if d then controller.Responds answer else controller.Nothing) else controller.Nothing) ≡ controller.Responds response
        → answer ≡ response
    by_tests true true f = cc
    by_tests true false f = absurd cc
    by_tests false d f = absurd cc

pub longer : {A : Type 0} (xs : List A) (x : A) → xs ≡ xs ++ x ∷ [] → ⊥
longer [] x e = absurd cc
longer {A} (y ∷ xs) x e = longer xs x (rest e)
  where
    rest : y ∷ xs ≡ y ∷ (xs ++ x ∷ []) → xs ≡ xs ++ x ∷ []
    rest f = cc

-- the records of a relation, as a start-up sees it
abbrev taken_of : Option (small.RelationState TakenRecord Request) → Option (List TakenRecord)
taken_of link = option_map (λ (l : small.RelationState TakenRecord Request). l.taken) link

-- ---- one step of the device, while the Write of a record waits

module _ (so : PluggedSo) (c : Controlling) (station : Station) (live : Live) (sent : List (List ℕ)) (outcomes : List Outcome) (heard : Heard)
    (good : IsSetup c.setup) (real : IsDevice station.identity) (planned : IsPlanned (rules_of c.setup station) c.setup.activity station.named live.rest.real heard)
    (meant : AllByRecursion (IsHeardAs (rules_of c.setup station) station.identity) (heard_step outcomes station live heard).sent)
    (sendable : AreSendable station.identity (heard_step outcomes station live heard).sent)
    (steps : DeviceSteps (rules_of c.setup station) (heard_as (is_planned c.setup) heard) (device.small_of c.setup.activity live)
    (device.small_of c.setup.activity (heard_step outcomes station live heard).live) (heard_step outcomes station live heard).frames)
    (from : ((frame : List ℕ) × WasIn sent frame × (heard ≡ heard_of station.identity (Frame (record { items = frame }))))
    ⊎ ((caller : Caller) (address : List ℕ) (said : Said) → heard ≡ Reported caller address said → ⊥))
    (numbered : Numbered c station live sent) (keeps : (link : RelationState) → live.rest.link ≡ Some link → passes_on link ≡ false)
    (request : PlugRequest) (waits : c.live.access.plug ≡ Some request) (number : ℕ) (step_is : request.step ≡ Record number)
    (own : IsRecordAt c.setup.plan request.slot request.subslot number) (placed : ArePlaced c.setup.plan.records.items)
    (parameters : AllByRecursion IsParameter c.setup.plan.records.items) (unnamed : AreUnnamed station.named c.setup.plan.records.items) where
  abbrev rules : Rules TakenRecord Request
  rules = rules_of c.setup station

  abbrev after : Live
  after = (heard_step outcomes station live heard).live

  abbrev kept : Option small.Kept
  kept = kept_for c.setup live

  entry_of : IsWriteOf c.setup request own.entry
  entry_of = record {
    number = number;
    step = step_is;
    is = own.is;
    slot = own.slot_is;
    subslot = own.subslot_is;
    placed = all_at IsPlaced c.setup.plan.records.items placed number own.entry own.is;
    parameter = all_at IsParameter c.setup.plan.records.items parameters number own.entry own.is;
  }

  -- the relation accepted it
  abbrev pub OneMore : Type 0
  OneMore = TakesOne (taken_for own.entry) live.rest.link after.rest.link

  -- it is the call that waits
  pub record IsItsCall : Type 0 where
    pub caller : Caller
    pub address : List ℕ
    pub is : heard ≡ hears_plug c.setup caller address request

  pub its_call : (frame : List ℕ) → IsPlugFrame c.setup request frame → heard ≡ heard_of station.identity (Frame (record { items = frame })) → (sequence : ℕ) (ask : Ask)
      → heard_as (is_planned c.setup) heard ≡ small.Call sequence ask → IsItsCall
  its_call frame plug e sequence ask f =
      let there : heard ≡ heard_of station.identity (Frame (record { items = call_frame c.setup plug.to (plug_call c.setup request) })) =
      e ∙ ap (λ (octets : List ℕ). heard_of station.identity (Frame (record { items = octets }))) plug.is in
      let call = frame_call so station.identity c.setup plug.to (plug_call c.setup request) good plug.mac
      (so.fine.heard.plug_call_can c.setup request good plug.can) (is_planned c.setup) sequence ask
      (ap (λ (h : Heard). heard_as (is_planned c.setup) h) (sym there) ∙ f) in
      record { caller = call.caller; address = call.address; is = there ∙ call.is }

  abbrev CallOf : Call → Type 0
  CallOf call = call.header.activity ≡ c.setup.activity

  -- each call that is heard has a number below that of the one that waits, or is that one
  called : (sequence : ℕ) (ask : Ask) → heard_as (is_planned c.setup) heard ≡ small.Call sequence ask → (sequence < request.sequence) ⊎ IsItsCall
  called sequence ask e = by_from from
    where
      by_number : (frame : List ℕ) → heard ≡ heard_of station.identity (Frame (record { items = frame }))
          → (sequence < request.sequence) ⊎ IsPlugFrame c.setup request frame → (sequence < request.sequence) ⊎ IsItsCall
      by_number frame f (inl less) = inl less
      by_number frame f (inr plug) = inr (its_call frame plug f sequence ask e)

      by_from : ((frame : List ℕ) × WasIn sent frame × (heard ≡ heard_of station.identity (Frame (record { items = frame }))))
          ⊎ ((caller : Caller) (address : List ℕ) (said : Said) → heard ≡ Reported caller address said → ⊥) → (sequence < request.sequence) ⊎ IsItsCall
      by_from (inl it) =
          by_number it.0 it.2
          ((all_at _ sent numbered.frames it.1.0 it.0 it.1.1 sequence ask (ap (λ (h : Heard). heard_as (is_planned c.setup) h) (sym it.2) ∙ e)).1 request waits)
      by_from (inr un) = absurd (idle_call sequence ask (sym (unreported_idle (is_planned c.setup) heard un) ∙ e))

  -- what a frame that grants it shows
  abbrev OldKept : List ℕ → Type 0
  OldKept frame = (answer : small.Kept) × (kept ≡ Some answer) × (answer.frame ≡ frame)

  abbrev pub Shows : List ℕ → Type 0
  Shows frame = Grants c.setup request.sequence frame → (OneMore × IsNew request.sequence kept) ⊎ OldKept frame

  says_other : (says : ToController) (frame : List ℕ) → ((reply : Reply) → says ≡ small.Answers request.sequence reply → ⊥) → SaysAtMost rules says frame → Shows frame
  says_other says frame apart (inl none) grants = absurd
      (nothing_answers request.sequence _ (sym none ∙ grants_answers c.setup request.sequence frame grants))
  says_other says frame apart (inr is) grants = absurd (apart _ (sym is ∙ grants_answers c.setup request.sequence frame grants))

  other_shows : (frame : List ℕ) → IsDull rules frame ⊎ IsReady rules (device.small_of c.setup.activity after) frame → Shows frame
  other_shows frame (inl dull) = says_other small.Nothing frame (λ reply e. nothing_answers request.sequence reply e) (inl dull.1)
  other_shows frame (inr ready) = says_other small.Readies frame (λ reply e. readies_answers request.sequence reply e) ready.to_controller

  -- ---- the messages, if it is the call that waits

  module _ (call : IsItsCall) (is_new : IsNew request.sequence kept) where
    positives : AllByRecursion (λ message. IsPositive message → OneMore) (heard_step outcomes station live heard).sent
    positives =
        subst (λ (h : Heard). AllByRecursion (λ message. IsPositive message → TakesOne (taken_for own.entry) live.rest.link
        (heard_step outcomes station live h).live.rest.link) (heard_step outcomes station live h).sent) (sym call.is)
        (positive_so so.read so.undone so.turns c.setup good request own.entry entry_of (plain_rules c.setup) refl outcomes station live call.caller call.address keeps)

    owed : AllByRecursion (IsOwed heard live) (heard_step outcomes station live heard).sent
    owed = so.fine.owed rules c.setup.activity outcomes station live heard planned

    abbrev Each : Sent → Type 0
    Each message = IsHeardAs rules station.identity message × (IsSendable station.identity message × (IsOwed heard live message × (IsPositive message → OneMore)))

    nothing_says : (reply : Reply) → small.Nothing ≡ small.Answers request.sequence reply → ⊥
    nothing_says reply e = nothing_answers request.sequence reply e

    message_shows : (message : Sent) → Each message → Shows (bytes_of station.identity message)
    message_shows (CallAnswer caller address answer) each = λ grants.
        let can = each.1.0 in
        let heard_it = so.fine.heard.response c.setup.plan.controller station.identity caller address answer real
        (record { mac = can.0.destination; endpoint = can.0.content.1 }) can.0.content.0.0 can.1 in
        let same : answer ≡ grants.response =
        response_is c.setup.plan.controller caller.mac caller.endpoint answer grants.response (sym heard_it ∙ grants.hears) in
        inl (each.1.1.1 (ap (λ (r : Response). is_done r.status) same ∙ grants.done), is_new)
    message_shows (Again frame) each = λ grants.
        let it = each.1.1.0 in
        let plan : IsPlannedCall rules c.setup.activity station.named live.rest.real it.call =
        subst (λ (h : Heard). IsPlanned rules c.setup.activity station.named live.rest.real h) it.is planned in
        inr (
          kept_in it.kept,
          ap (λ (k : Option Answer). option_map kept_in k) (ap (λ (activity : List ℕ). kept_of activity live.rest.calls) (sym plan.own) ∙ it.there),
          it.same,
        )
    message_shows (ReadyCall address ready) each =
        says_other small.Readies _ (λ reply e. readies_answers request.sequence reply e) each.0.1
    message_shows (PlugReadyCall address ready) each = says_other small.Nothing _ nothing_says each.0.1
    message_shows (IdentifyAnswer asker running xid) each = says_other small.Nothing _ nothing_says each.0.1
    message_shows (GetAnswer asker running alias asked) each = says_other small.Nothing _ nothing_says each.0.1
    message_shows (SetAnswer asker asked answers) each = says_other small.Nothing _ nothing_says each.0.1
    message_shows (ArpReply asker address target) each = says_other small.Nothing _ nothing_says each.0.1
    message_shows (Ends farewell) each = says_other small.Nothing _ nothing_says each.0.1
    message_shows (Exchanges route frame) each = says_other small.Nothing _ nothing_says each.0.1

    all_show : AllByRecursion Shows (heard_step outcomes station live heard).frames
    unfolding heard_step handled_step
    all_show =
        all_map (λ m. IsHeardAs rules station.identity m × (IsSendable station.identity m × (IsOwed heard live m × (IsPositive m → OneMore)))) Shows (bytes_of station.identity) message_shows (heard_step outcomes station live heard).sent
        (all_both (IsHeardAs rules station.identity)
        (λ m. IsSendable station.identity m × (IsOwed heard live m × (IsPositive m → OneMore))) (heard_step outcomes station live heard).sent meant
        (all_both (IsSendable station.identity) (λ m. IsOwed heard live m × (IsPositive m → OneMore)) (heard_step outcomes station live heard).sent sendable
        (all_both (IsOwed heard live) (λ m. IsPositive m → OneMore) (heard_step outcomes station live heard).sent owed positives)))

  -- ---- all frames

  all_joined : (P : List ℕ → Type 0) (one other : List (List ℕ)) → AllByRecursion P one → AllByRecursion P other → AllByRecursion P (one ++ other)
  all_joined P [] other first second = second
  all_joined P (x ∷ one) other first second = (first.0, all_joined P one other first.1 second)

  all_to : (P Q : List ℕ → Type 0) → ((x : List ℕ) → P x → Q x) → (xs : List (List ℕ)) → AllByRecursion P xs → AllByRecursion Q xs
  all_to P Q to [] all = tt
  all_to P Q to (x ∷ xs) all = (to x all.0, all_to P Q to xs all.1)

  not_less : (one other : ℕ) → one < other → one ≡ other → ⊥
  not_less one other less same = omega (arith, less, same)

  answer_number : (sequence : ℕ) (reply : Reply) (frame : List ℕ) → SaysAtMost rules (small.Answers sequence reply) frame → Grants c.setup request.sequence frame
      → sequence ≡ request.sequence
  answer_number sequence reply frame (inl none) grants = absurd
      (nothing_answers request.sequence _ (sym none ∙ grants_answers c.setup request.sequence frame grants))
  answer_number sequence reply frame (inr is) grants =
      answers_same sequence request.sequence reply _ (sym is ∙ grants_answers c.setup request.sequence frame grants)

  abbrev Frames : List (List ℕ) → Type 0
  Frames frames = AllByRecursion Shows frames

  abbrev frames : List (List ℕ)
  frames = (heard_step outcomes station live heard).frames

  abbrev Steps : ToDevice → Type 0
  Steps what = DeviceSteps rules what (device.small_of c.setup.activity live) (device.small_of c.setup.activity after) frames

  pub frames_show : Frames (heard_step outcomes station live heard).frames
  frames_show = by_steps (heard_as (is_planned c.setup) heard) refl steps
    where
      are : (fs : List (List ℕ)) → frames ≡ fs → Frames fs → Frames frames
      are fs same all = subst (λ (xs : List (List ℕ)). Frames xs) (sym same) all

      others : (fs : List (List ℕ)) → AllByRecursion (λ f. IsDull rules f ⊎ IsReady rules (device.small_of c.setup.activity after) f) fs → Frames fs
      others fs all = all_to (λ f. IsDull rules f ⊎ IsReady rules (device.small_of c.setup.activity after) f) Shows other_shows fs all

      dull_shows : (frame : List ℕ) → IsDull rules frame → Shows frame
      dull_shows frame dull = other_shows frame (inl dull)

      by_steps : (what : ToDevice) → heard_as (is_planned c.setup) heard ≡ what → Steps what → Frames frames
      by_steps (small.Call sequence ask) e (inl it) = are _ it.sent (first, others it.others it.readies)
        where
          first : Shows it.frame
          first grants =
              let same = answer_number sequence it.reply it.frame it.to_controller grants in
              by_called same (called sequence ask e)
            where
              by_called : sequence ≡ request.sequence → (sequence < request.sequence) ⊎ IsItsCall → (OneMore × IsNew request.sequence kept) ⊎ OldKept it.frame
              by_called same (inl less) = absurd (not_less sequence request.sequence less same)
              by_called same (inr call) =
                  (subst (λ (xs : List (List ℕ)). Frames xs) it.sent (all_show call (subst (λ (n : ℕ). IsNew n kept) same it.new))).0 grants
      by_steps (small.Call sequence ask) e (inr (inl it)) = are _ it.sent ((λ grants. inr (it.kept, it.has, refl)), tt)
      by_steps (small.Call sequence ask) e (inr (inr (inl it))) = are _ it.1 tt
      by_steps (small.Call sequence ask) e (inr (inr (inr it))) = are _ it.silent tt
      by_steps small.Confirms e (inl it) = all_to (IsDull rules) Shows dull_shows frames it.dull
      by_steps small.Confirms e (inr it) = others frames it.sent
      by_steps small.Idle e (inl it) = others frames it.sent
      by_steps small.Idle e (inr it) = are _ it.sent (all_joined Shows it.others (it.frame ∷ []) (others it.others it.dull) (last, tt))
        where
          last : Shows it.frame
          last grants = absurd (not_less it.sequence request.sequence ((numbered.question it.sequence it.asked).1 request waits)
              (answer_number it.sequence it.reply it.frame it.to_controller grants))

  pub kept_shows : (answer : small.Kept) → kept_for c.setup after ≡ Some answer → Shows answer.frame
  kept_shows =
      kept_after rules Shows (heard_as (is_planned c.setup) heard) (device.small_of c.setup.activity live) (device.small_of c.setup.activity after)
      (heard_step outcomes station live heard).frames steps (λ answer e grants. inr (answer, e, refl)) frames_show

  -- ---- it is carried out

  -- its records are the same, or one more
  pub came : IsItsCall → (taken_in after.rest.link ≡ taken_in live.rest.link) ⊎ OneMore
  came call =
      subst (λ (h : Heard). (taken_in (heard_step outcomes station live h).live.rest.link ≡ taken_in live.rest.link)
      ⊎ TakesOne (taken_for own.entry) live.rest.link (heard_step outcomes station live h).live.rest.link) (sym call.is)
      (any_came so.read so.undone so.turns c.setup good request own.entry entry_of (plain_rules c.setup) refl outcomes station live call.caller call.address)

  -- once the relation accepted it, it is not new any more
  pub not_new : IsItsCall → OneMore → IsNew request.sequence (kept_for c.setup after) → ⊥
  not_new call more = by_steps (heard_as (is_planned c.setup) heard) refl steps
    where
      asked : (ask : Ask) × (heard_as (is_planned c.setup) heard ≡ small.Call request.sequence ask)
      asked =
          let it = plug_small c.setup call.caller call.address request number step_is (is_planned c.setup) in
          (it.0, ap (λ (h : Heard). heard_as (is_planned c.setup) h) call.is ∙ it.1)

      same_call : (one other : ℕ) (ask other_ask : Ask) → small.Call one ask ≡ small.Call other other_ask → one ≡ other
      same_call one other ask other_ask e = cc

      confirms_call : (sequence : ℕ) (ask : Ask) → small.Confirms ≡ small.Call sequence ask → ⊥
      confirms_call sequence ask e = absurd cc

      number_of : (sequence : ℕ) (ask : Ask) → heard_as (is_planned c.setup) heard ≡ small.Call sequence ask → sequence ≡ request.sequence
      number_of sequence ask e = same_call sequence request.sequence ask asked.0 (sym e ∙ asked.1)

      -- nothing changed
      taken_small : (link : Option RelationState) → taken_of (option_map link_of link) ≡ taken_in link
      taken_small None = refl
      taken_small (Some link) = refl

      same_link : (device.small_of c.setup.activity after).link ≡ (device.small_of c.setup.activity live).link → ⊥
      same_link e =
          let same : taken_in after.rest.link ≡ taken_in live.rest.link =
          sym (taken_small after.rest.link) ∙ (ap taken_of e ∙ taken_small live.rest.link) in
          longer more.link.taken (taken_for own.entry)
          (some_same more.link.taken (more.link.taken ++ taken_for own.entry ∷ [])
          (sym (ap (λ (l : Option RelationState). taken_in l) more.was) ∙ (sym same ∙ more.becomes)))

      later : (sequence : ℕ) (frame : List ℕ) → kept_for c.setup after ≡ Some (record { sequence = sequence; frame = frame }) → sequence ≡ request.sequence
          → IsNew request.sequence (kept_for c.setup after) → ⊥
      later sequence frame e same is_new = not_less sequence request.sequence (subst (λ (k : Option small.Kept). IsNew request.sequence k) e is_new) same

      by_steps : (what : ToDevice) → heard_as (is_planned c.setup) heard ≡ what
          → DeviceSteps rules what (device.small_of c.setup.activity live) (device.small_of c.setup.activity after) (heard_step outcomes station live heard).frames
          → IsNew request.sequence (kept_for c.setup after) → ⊥
      by_steps (small.Call sequence ask) e (inl it) is_new = later sequence it.frame it.keeps (number_of sequence ask e) is_new
      by_steps (small.Call sequence ask) e (inr (inl it)) is_new =
          later it.kept.sequence it.kept.frame (ap (λ (d : small.Device TakenRecord Request). d.kept) it.unchanged ∙ it.has) (it.same ∙ number_of sequence ask e) is_new
      by_steps (small.Call sequence ask) e (inr (inr (inl it))) is_new = same_link (ap (λ (d : small.Device TakenRecord Request). d.link) it.0)
      by_steps (small.Call sequence ask) e (inr (inr (inr it))) is_new = same_link (ap (λ (d : small.Device TakenRecord Request). d.link) it.becomes)
      by_steps small.Confirms e it is_new = absurd (confirms_call request.sequence asked.0 (sym e ∙ asked.1))
      by_steps small.Idle e it is_new = absurd (idle_call request.sequence asked.0 (sym e ∙ asked.1))

  -- it is not asked of the application
  pub unasked : IsItsCall → (question : Question) → question_in after.rest.asked ≡ Some question → question_in live.rest.asked ≡ Some question
  unasked call =
      subst (λ (h : Heard). (question : Question) → question_in (heard_step outcomes station live h).live.rest.asked ≡ Some question
      → question_in live.rest.asked ≡ Some question) (sym call.is)
      (unasked_so so.read so.undone so.turns c.setup good request own.entry entry_of (plain_rules c.setup) refl outcomes station live call.caller call.address
      (all_at (IsUnnamed station.named) c.setup.plan.records.items unnamed.records number own.entry own.is))
