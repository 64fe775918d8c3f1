-- Each positive response to the Connect that is in a network is that of the relation of its device: if no module differs in it, nothing
-- that the Connect expects differed as the relation was made.
use Rattle.std.proofs.Common.{◌≡◌, ◌⊎◌, inl, inr, ◌==◌, ◌&&◌, ◌++◌, ◌<◌, ℕ, Bool, true, false, cond, List, [], ◌∷◌, map, Option, Some, None, option_map, Result, Ok, Err, refl, sym, ap, subst, ◌∙◌, arith}
use Rattle.std.specs.Prelude.{nat_eq, nat_lt, unwrap_or}
use Rattle.std.specs.List.{AllByRecursion}
use Rattle.std.specs.Cmp.Lexicographic.{pointwise}
use Rattle.std.proofs.lemmas.Bool.{and_parts, eqb-true, false≢true, ltb-true}
use Rattle.flash_model.specs.declared.flash.Flash.{Ghosts as Flash}
use Rattle.settings_journal.specs.settings_store.Machine.{Outcome}
use Rattle.pn_values.specs.declared.real.RealModule.{RealModule}
use Rattle.frame_codec.specs.declared.udp.Caller.{Caller}
use Rattle.record_blocks.specs.declared.alarm_notification.AlarmNotification.{AlarmNotification}
use Rattle.rpc_core.specs.Cache.{kept_of}
use Rattle.rpc_core.specs.Response.{Answered as Response, answer_to, is_done}
use Rattle.records.specs.declared.status.call_fault.CallFault.{CallFault}
use Rattle.records.specs.declared.status.operation.Operation.{Operation}
use Rattle.records.specs.declared.status.operation.Operation.TheVariants as operation
use Rattle.records.specs.status.Operation.{operation_of}
use Rattle.records.specs.declared.writes.taken.TakenRecord.{TakenRecord}
use Rattle.diagnosis.specs.declared.reports.priority.Priority.TheVariants.{Low as low_priority}
use Rattle.connects.specs.requests.Request.{Request}
use Rattle.relations.specs.RelationState.{RelationState}
use Rattle.relations.specs.Connect.{connect_blocks, connect_of, differing_of}
use Rattle.device_frames.specs.Heard.{Heard}
use Rattle.device_frames.specs.Sendable.{IsSendable}
use Rattle.device_frames.specs.Sent.{CallAnswer, Sent, bytes_of}
use Rattle.device_core.specs.State.{Live, Rest, Station}
use Rattle.device_core.specs.Handled.{answer_from, outcome_of}
use Rattle.device_core.specs.Machine.{handled_step, heard_step}
use Rattle.controller_messages.specs.declared.request.Request.TheVariants as asks
use Rattle.controller_messages.specs.declared.setup.Setup.{Setup}
use Rattle.controller_messages.specs.Heard as controller
use Rattle.controller_messages.specs.Heard.{heard_of as heard_by, is_to}
use Rattle.controller_messages.specs.Requests.{write_count, writing_blocks}
use Rattle.controller_messages.specs.Sent as said
use Rattle.controller_core.specs.start_up.Answers.{is_answer}
use Rattle.network_world.specs.World.{AtDevice, World}
use Rattle.end_laws.specs.both.Small as small
use Rattle.end_laws.specs.both.Small.{Reply, Rules, ToDevice, reply_of}
use Rattle.end_laws.specs.both.Steps.{DeviceSteps, IsAnswered, IsDull, IsNew, IsReady, SaysAtMost}
use Rattle.end_laws.specs.controller.Small.{said_to}
use Rattle.end_laws.specs.device.Does.{Does, IsEffect, IsUncalled, Serves, readied_from}
use Rattle.end_laws.specs.device.Small.{IsPlanned, IsPlannedAs, IsPlannedCall, asked_by, heard_as, kept_in, number_in, small_of, written_by}
use Rattle.end_laws.specs.hearing.Stations.{IsCaller, IsDevice}
use Rattle.both_ends.specs.startup.View.{IsMeantAtDevice, IsSaidAs, is_planned, rules_of}
use Rattle.both_ends.specs.exchange.Sized.{AreSizedModules}
use Rattle.both_ends.proofs.ExchangeFollows.{kept_at, unlinked}
use Rattle.both_ends.proofs.ExchangeLaw.{DeviceSo, FollowsAt}
use Rattle.both_ends.proofs.ExchangeLists.{each_behind, each_on, holds_if, none_some, some_is}
use Rattle.both_ends.proofs.ExchangeMessages.{HearsSo}
use Rattle.places_law.proofs.PlacesOctets.{BlocksSo, IsClear, Tells, answer_tells, empty_tells}

-- ---- what a controller hears

-- A positive response to its Connect tells this.
abbrev pub TellsSo : Type 0 → Setup → controller.Heard → Type 0
TellsSo Clear setup (controller.Responds response) = is_answer setup asks.Connect response.header ≡ true → is_done response.status ≡ true → Tells Clear response.blocks
TellsSo Clear setup other = Unit {0}

-- If it is in a frame.
abbrev pub TellsIn : Type 0 → Setup → List ℕ → Type 0
TellsIn Clear setup frame = TellsSo Clear setup (heard_by setup.plan.controller frame)

module _ (setup : Setup) where
  said_answer : (response : Response) → is_answer setup asks.Connect response.header ≡ true
      → said_to setup (controller.Responds response) ≡ small.Answers 0 (reply_of response)
  said_answer response is =
      let parts = and_parts (pointwise nat_eq response.header.activity setup.activity) (response.header.sequence == 0) is in
      ap (λ (b : Bool). cond b (small.Answers response.header.sequence (reply_of response)) small.Nothing) parts.0
      ∙ ap (λ (n : ℕ). small.Answers n (reply_of response)) (eqb-true response.header.sequence 0 parts.1)

  -- what is no response to the first call tells nothing
  unanswered : (Clear : Type 0) (heard : controller.Heard) → ((reply : Reply) → said_to setup heard ≡ small.Answers 0 reply → ⊥) → TellsSo Clear setup heard
  unanswered Clear (controller.Responds response) other = λ is done. absurd (other (reply_of response) (said_answer response is))
  unanswered Clear another other = tt

  tells_on : (Clear Next : Type 0) → (Clear → Next) → (heard : controller.Heard) → TellsSo Clear setup heard → TellsSo Next setup heard
  tells_on Clear Next on (controller.Responds response) tells = λ is done found e all same. let told = tells is done found e all same in (on told.0, told.1)
  tells_on Clear Next on another tells = tt

-- ---- the frames of a step of the device

nothing_answers : (reply : Reply) → small.Nothing ≡ small.Answers 0 reply → ⊥
nothing_answers reply e = absurd cc

readies_answers : (reply : Reply) → small.Readies ≡ small.Answers 0 reply → ⊥
readies_answers reply e = absurd cc

number_answers : (sequence : ℕ) (reply other : Reply) → small.Answers sequence reply ≡ small.Answers 0 other → sequence ≡ 0
number_answers sequence reply other e = cc

module _ (rules : Rules TakenRecord Request) (heard : ToDevice) (before after : small.Device TakenRecord Request) (frames : List (List ℕ)) (P : List ℕ → Type 0)
    (dull : (frame : List ℕ) → ((reply : Reply) → rules.to_controller frame ≡ small.Answers 0 reply → ⊥) → P frame)
    (again : (kept : small.Kept) → before.kept ≡ Some kept → P kept.frame) where
  -- a response to a later call
  later_dull : (frame : List ℕ) (sequence : ℕ) (reply : Reply) → 0 < sequence → SaysAtMost rules (small.Answers sequence reply) frame → P frame
  later_dull frame sequence reply past says = dull frame (λ other e. by_saying other e says)
    where
      by_saying : (other : Reply) → rules.to_controller frame ≡ small.Answers 0 other → SaysAtMost rules (small.Answers sequence reply) frame → ⊥
      by_saying other e (inl none) = nothing_answers other (sym none ∙ e)
      by_saying other e (inr same) = let zero_is = number_answers sequence reply other (sym same ∙ e) in absurd (omega (arith, zero_is, past))

  one_dull : (frame : List ℕ) → IsDull rules frame ⊎ IsReady rules after frame → P frame
  one_dull frame (inl is) = dull frame (λ reply e. nothing_answers reply (sym is.1 ∙ e))
  one_dull frame (inr is) = dull frame (λ reply e. by_saying reply e is.to_controller)
    where
      by_saying : (reply : Reply) → rules.to_controller frame ≡ small.Answers 0 reply → SaysAtMost rules small.Readies frame → ⊥
      by_saying reply e (inl none) = nothing_answers reply (sym none ∙ e)
      by_saying reply e (inr same) = readies_answers reply (sym same ∙ e)

  each_dull : (those : List (List ℕ)) → AllByRecursion (λ frame. IsDull rules frame ⊎ IsReady rules after frame) those → AllByRecursion P those
  each_dull those all = each_on (λ frame. IsDull rules frame ⊎ IsReady rules after frame) P those one_dull all

  -- the frames of a step, given that of the first response
  frames_so : (before.kept ≡ None → before.asked ≡ None)
      → (before.kept ≡ None → (sequence : ℕ) (ask : small.Ask) (answered : IsAnswered rules sequence ask before after frames) → heard ≡ small.Call sequence ask → P answered.frame)
      → DeviceSteps rules heard before after frames → AllByRecursion P frames
  frames_so unasked first steps = by_heard heard refl steps
    where
      by_kept : (sequence : ℕ) (ask : small.Ask) (answered : IsAnswered rules sequence ask before after frames) → heard ≡ small.Call sequence ask
          → (o : Option small.Kept) → before.kept ≡ o → P answered.frame
      by_kept sequence ask answered is None e = first e sequence ask answered is
      by_kept sequence ask answered is (Some kept) e =
          let new : kept.sequence < sequence = subst (λ (o : Option small.Kept). IsNew sequence o) e answered.new in
          later_dull answered.frame sequence answered.reply (omega (arith, new)) answered.to_controller

      reply_dull : (sequence : ℕ) (reply : Reply) (frame : List ℕ) → before.asked ≡ Some sequence → IsNew sequence before.kept
          → SaysAtMost rules (small.Answers sequence reply) frame → (o : Option small.Kept) → before.kept ≡ o → P frame
      reply_dull sequence reply frame asked fresh says None e = absurd (none_some sequence before.asked (unasked e) asked)
      reply_dull sequence reply frame asked fresh says (Some kept) e =
          let new : kept.sequence < sequence = subst (λ (o : Option small.Kept). IsNew sequence o) e fresh in
          later_dull frame sequence reply (omega (arith, new)) says

      by_heard : (h : ToDevice) → heard ≡ h → DeviceSteps rules h before after frames → AllByRecursion P frames
      by_heard (small.Call sequence ask) is (inl answered) =
          subst (λ (fs : List (List ℕ)). AllByRecursion P fs) (sym answered.sent)
          (by_kept sequence ask answered is before.kept refl, each_dull answered.others answered.readies)
      by_heard (small.Call sequence ask) is (inr (inl repeats)) = subst (λ (fs : List (List ℕ)). AllByRecursion P fs) (sym repeats.sent) (again repeats.kept repeats.has, tt)
      by_heard (small.Call sequence ask) is (inr (inr (inl rests))) = subst (λ (fs : List (List ℕ)). AllByRecursion P fs) (sym rests.1) tt
      by_heard (small.Call sequence ask) is (inr (inr (inr questions))) = subst (λ (fs : List (List ℕ)). AllByRecursion P fs) (sym questions.silent) tt
      by_heard small.Confirms is (inl confirms) = each_on (IsDull rules) P frames (λ frame dull_so. one_dull frame (inl dull_so)) confirms.dull
      by_heard small.Confirms is (inr goes) = each_dull frames goes.sent
      by_heard small.Idle is (inl goes) = each_dull frames goes.sent
      by_heard small.Idle is (inr replies) =
          subst (λ (fs : List (List ℕ)). AllByRecursion P fs) (sym replies.sent)
          (each_behind P replies.others (replies.frame ∷ []) (each_dull replies.others replies.dull)
          (reply_dull replies.sequence replies.reply replies.frame replies.asked replies.new replies.to_controller before.kept refl, tt))

  -- the response that is stored then
  kept_so : AllByRecursion P frames → DeviceSteps rules heard before after frames → (kept : small.Kept) → after.kept ≡ Some kept → P kept.frame
  kept_so all steps kept is = by_heard heard steps
    where
      by_frame : (sequence : ℕ) (frame : List ℕ) → after.kept ≡ Some (record { sequence = sequence; frame = frame }) → P frame → P kept.frame
      by_frame sequence frame keeps so = subst (λ (k : small.Kept). P k.frame) (some_is (record { sequence = sequence; frame = frame }) kept (sym keeps ∙ is)) so

      last_of : (others : List (List ℕ)) (frame : List ℕ) → AllByRecursion P (others ++ frame ∷ []) → P frame
      last_of [] frame those = those.0
      last_of (other ∷ others) frame those = last_of others frame those.1

      by_heard : (h : ToDevice) → DeviceSteps rules h before after frames → P kept.frame
      by_heard (small.Call sequence ask) (inl answered) =
          let those : AllByRecursion P (answered.frame ∷ answered.others) = subst (λ (fs : List (List ℕ)). AllByRecursion P fs) answered.sent all in
          by_frame sequence answered.frame answered.keeps those.0
      by_heard (small.Call sequence ask) (inr (inl repeats)) = again kept (ap (λ (d : small.Device TakenRecord Request). d.kept) (sym repeats.unchanged) ∙ is)
      by_heard (small.Call sequence ask) (inr (inr (inl rests))) = again kept (ap (λ (d : small.Device TakenRecord Request). d.kept) (sym rests.0) ∙ is)
      by_heard (small.Call sequence ask) (inr (inr (inr questions))) = again kept (ap (λ (d : small.Device TakenRecord Request). d.kept) (sym questions.becomes) ∙ is)
      by_heard small.Confirms (inl confirms) = again kept (ap (λ (d : small.Device TakenRecord Request). d.kept) (sym confirms.becomes) ∙ is)
      by_heard small.Confirms (inr goes) = again kept (sym goes.keeps ∙ is)
      by_heard small.Idle (inl goes) = again kept (sym goes.keeps ∙ is)
      by_heard small.Idle (inr replies) =
          by_frame replies.sequence replies.frame replies.keeps (last_of replies.others replies.frame (subst (λ (fs : List (List ℕ)). AllByRecursion P fs) replies.sent all))

-- a response that is stored stays, or another one is
none_before : (rules : Rules TakenRecord Request) (heard : ToDevice) (before after : small.Device TakenRecord Request) (frames : List (List ℕ))
    → DeviceSteps rules heard before after frames → after.kept ≡ None → before.kept ≡ None
none_before rules (small.Call sequence ask) before after frames (inl answered) none = absurd (none_some _ after.kept none answered.keeps)
none_before rules (small.Call sequence ask) before after frames (inr (inl repeats)) none = ap (λ (d : small.Device TakenRecord Request). d.kept) (sym repeats.unchanged) ∙ none
none_before rules (small.Call sequence ask) before after frames (inr (inr (inl rests))) none = ap (λ (d : small.Device TakenRecord Request). d.kept) (sym rests.0) ∙ none
none_before rules (small.Call sequence ask) before after frames (inr (inr (inr questions))) none = ap (λ (d : small.Device TakenRecord Request). d.kept) (sym questions.becomes) ∙ none
none_before rules small.Confirms before after frames (inl confirms) none = ap (λ (d : small.Device TakenRecord Request). d.kept) (sym confirms.becomes) ∙ none
none_before rules small.Confirms before after frames (inr goes) none = sym goes.keeps ∙ none
none_before rules small.Idle before after frames (inl goes) none = sym goes.keeps ∙ none
none_before rules small.Idle before after frames (inr replies) none = absurd (none_some _ after.kept none replies.keeps)

-- ---- the invariant

-- The modules that were plugged as the device was about to answer the first call of this controller; before that, any.
abbrev pub later_at : Option small.Kept → List RealModule → List RealModule → List RealModule
later_at None now at = now
later_at (Some kept) now at = at

-- The device answered a call, and nothing that the Connect expects differed.
abbrev pub IsClearAt : Setup → Live → List RealModule → Type 0
IsClearAt setup live at = (kept_at setup live ≡ None → ⊥) × IsClear setup at

-- Each frame that was sent, and the response that is stored, tell so.
pub record AreTelling (setup : Setup) (live : Live) (sent : List (List ℕ)) (at : List RealModule) : Type 0 where
  pub again : (kept : small.Kept) → kept_at setup live ≡ Some kept → TellsIn (IsClearAt setup live at) setup kept.frame
  pub frames : AllByRecursion (TellsIn (IsClearAt setup live at) setup) sent

module _ (setup : Setup) (live : Live) (now at : List RealModule) where
  pub clear_later : IsClearAt setup live at → IsClearAt setup live (later_at (kept_at setup live) now at)
  clear_later clear = (clear.0, by_kept (kept_at setup live) refl)
    where
      by_kept : (o : Option small.Kept) → kept_at setup live ≡ o → IsClear setup (later_at o now at)
      by_kept None e = absurd (clear.0 e)
      by_kept (Some kept) e = clear.1

-- it tells what follows
telling_on : (setup : Setup) (live next : Live) (sent : List (List ℕ)) (at later : List RealModule) → kept_at setup next ≡ kept_at setup live → (IsClearAt setup live at → IsClearAt setup next later)
    → AreTelling setup live sent at → AreTelling setup next sent later
telling_on setup live next sent at later same on telling = record {
  again = λ kept is. tells_on setup (IsClearAt setup live at) (IsClearAt setup next later) on (heard_by setup.plan.controller kept.frame) (telling.again kept (sym same ∙ is));
  frames = each_on (TellsIn (IsClearAt setup live at) setup) (TellsIn (IsClearAt setup next later) setup) sent
      (λ frame is. tells_on setup (IsClearAt setup live at) (IsClearAt setup next later) on (heard_by setup.plan.controller frame) is) telling.frames;
}

-- ---- the first response

nil_cons : (x : List ℕ) (xs : List (List ℕ)) → [] ≡ x ∷ xs → ⊥
nil_cons x xs e = absurd cc

same_head : (x y : List ℕ) (xs ys : List (List ℕ)) → x ∷ xs ≡ y ∷ ys → x ≡ y
same_head x y xs ys e = cc

ok_is : {A B : Type 0} (x y : A) → ◌≡◌ {A = Result A B} (Ok x) (Ok y) → x ≡ y
ok_is x y e = cc

confirms_call : (sequence : ℕ) (ask : small.Ask) → small.Confirms ≡ small.Call sequence ask → ⊥
confirms_call sequence ask e = absurd cc

idle_call : (sequence : ℕ) (ask : small.Ask) → small.Idle ≡ small.Call sequence ask → ⊥
idle_call sequence ask e = absurd cc

module _ {F : Type 0} (so : DeviceSo) (hears : HearsSo) (blocks_so : BlocksSo) {S : ℕ} (as_flash : Flash F S) (before after : World F) (raised taken : List AlarmNotification)
    (follows : FollowsAt low_priority before raised taken) (planned_sized : AreSizedModules before.controller.setup.plan.real.modules.items) where
  abbrev setup : Setup
  setup = before.controller.setup

  abbrev station : Station
  station = before.device.station

  abbrev live : Live
  live = before.device.live

  abbrev rules : Rules TakenRecord Request
  rules = rules_of setup station

  abbrev modules : List RealModule
  modules = live.rest.real.modules.items

  -- a response that the device sends
  response_tells : (Clear : Type 0) (caller : Caller) (address : List ℕ) (answer : Response) → IsSendable station.identity (CallAnswer caller address answer)
      → TellsSo Clear setup (controller.Responds answer) → TellsIn Clear setup (bytes_of station.identity (CallAnswer caller address answer))
  response_tells Clear caller address answer can tells =
      let calls : IsCaller caller = record { mac = can.0.destination; endpoint = can.0.content.1 } in
      subst (λ (h : controller.Heard). TellsSo Clear setup h)
      (sym (hears.response_at_controller setup.plan.controller station.identity caller address answer can.0.source calls can.0.content.0.0 can.1))
      (holds_if (TellsSo Clear setup) (pointwise nat_eq caller.mac.octets setup.plan.controller.mac.octets) (cond (is_to setup.plan.controller.address caller.endpoint) (controller.Responds answer) controller.Nothing)
      controller.Nothing (holds_if (TellsSo Clear setup) (is_to setup.plan.controller.address caller.endpoint) (controller.Responds answer) controller.Nothing tells tt) tt)

  module _ (heard : Heard) (late : (sequence : ℕ) → heard_as (is_planned setup) heard ≡ small.Call sequence small.Accesses → kept_at setup live ≡ None → ⊥)
      (first : (sequence : ℕ) → heard_as (is_planned setup) heard ≡ small.Call sequence small.Connects → sequence ≡ 0)
      (made : AtDevice as_flash before heard after) (meant : IsMeantAtDevice before heard) where
    abbrev outcomes : List Outcome
    outcomes = made.hears.steps.outcomes

    abbrev next : Live
    next = (heard_step outcomes station live heard).live

    abbrev messages : List Sent
    messages = (heard_step outcomes station live heard).sent

    abbrev frames : List (List ℕ)
    frames = (heard_step outcomes station live heard).frames

    frames_are : frames ≡ map (bytes_of station.identity) messages
    unfolding heard_step handled_step
    frames_are = refl

    steps : DeviceSteps rules (heard_as (is_planned setup) heard) (small_of setup.activity live) (small_of setup.activity next) frames
    steps = so.goes_on rules setup.activity outcomes station live heard follows.orderly follows.own meant.planned (meant.sent outcomes made.hears.steps.sendable)

    module _ (unkept : kept_at setup live ≡ None) where
      unrelated : live.rest.link ≡ None
      unrelated = unlinked low_priority setup station live before.controller.live before.sent raised taken follows heard meant.planned first late live.rest.link refl unkept

      abbrev Clear : Type 0
      Clear = IsClear setup modules

      written_zero : (sequence : ℕ) (octets : List ℕ) → sequence ≡ 0
          → written_by (is_planned setup sequence octets) sequence (number_in octets) ≡ small.Call sequence small.Accesses
      written_zero sequence octets zero_is =
          ap (λ (b : Bool). written_by b sequence (number_in octets))
          (none_earlier (nat_lt (number_in octets) (write_count setup.plan)) (pointwise nat_eq octets (writing_blocks setup (number_in octets)))
          (nat_lt (number_in octets) sequence) (λ e. let below = ltb-true (number_in octets) sequence e in absurd (omega (arith, below, zero_is))))
        where
          none_earlier : (a b c : Bool) → (c ≡ true → ⊥) → (a && (b && c)) ≡ false
          none_earlier true true true never = absurd (never refl)
          none_earlier true true false never = refl
          none_earlier true false c never = refl
          none_earlier false b c never = refl

      -- the blocks of a response to the first call, by its outcome and its operation
      outcome_tells : (caller : Caller) (sequence : ℕ) (octets : List ℕ) (outcome : Result (List ℕ) CallFault) (which : Operation) (link : Option RelationState) → sequence ≡ 0
          → heard_as (is_planned setup) heard ≡ asked_by (is_planned setup) sequence octets (Some which)
          → IsPlannedAs rules station.named live.rest.real sequence octets (Some which) → IsDevice station.identity
          → IsEffect station live.rest.real caller octets outcome which live.rest.link link → Tells Clear (outcome_of which outcome).1
      outcome_tells caller sequence octets (Err why) which link zero_is is plan six effect = empty_tells Clear
      outcome_tells caller sequence octets (Ok blocks) operation.Connect link zero_is is plan six effect =
          let request_is : effect.request ≡ rules.request = ok_is effect.request rules.request (sym effect.read ∙ (ap (λ (l : Option RelationState). connect_of l octets) unrelated ∙ plan)) in
          subst (λ (those : List ℕ). Tells Clear those) (sym effect.answer)
          (subst (λ (request : Request). Tells Clear (connect_blocks station.identity effect.starting.number request (differing_of request live.rest.real))) (sym request_is)
          (answer_tells blocks_so setup station.identity follows.good six effect.starting.number effect.numbered.few live.rest.real follows.real planned_sized))
      outcome_tells caller sequence octets (Ok blocks) operation.Read link zero_is is plan six effect = absurd (late sequence is unkept)
      outcome_tells caller sequence octets (Ok blocks) operation.Write link zero_is is plan six effect = absurd (late sequence (is ∙ written_zero sequence octets zero_is) unkept)
      outcome_tells caller sequence octets (Ok blocks) operation.ReadImplicit link zero_is is plan six effect = absurd plan
      outcome_tells caller sequence octets (Ok blocks) operation.Control link zero_is is plan six (inl effect) = absurd (none_some effect.link live.rest.link unrelated effect.was)
      outcome_tells caller sequence octets (Ok blocks) operation.Control link zero_is is plan six (inr effect) = absurd (none_some effect.link live.rest.link unrelated effect.was)
      outcome_tells caller sequence octets (Ok blocks) operation.Release link zero_is is plan six effect = absurd (none_some effect.link live.rest.link unrelated effect.was)

      module _ (sequence : ℕ) (ask : small.Ask) (answered : IsAnswered rules sequence ask (small_of setup.activity live) (small_of setup.activity next) frames)
          (is : heard_as (is_planned setup) heard ≡ small.Call sequence ask) where
        frames_of : (those : List Sent) → messages ≡ those → map (bytes_of station.identity) those ≡ answered.frame ∷ answered.others
        frames_of those e = ap (λ (sent : List Sent). map (bytes_of station.identity) sent) (sym e) ∙ (sym frames_are ∙ answered.sent)

        -- the first of them is this response
        one_tells : (caller : Caller) (address : List ℕ) (answer : Response) (more : List Sent) → messages ≡ CallAnswer caller address answer ∷ more
            → TellsSo Clear setup (controller.Responds answer) → TellsIn Clear setup answered.frame
        one_tells caller address answer more e tells =
            let can : AllByRecursion (IsSendable station.identity) (CallAnswer caller address answer ∷ more) =
            subst (λ (sent : List Sent). AllByRecursion (IsSendable station.identity) sent) e made.hears.steps.sendable in
            subst (λ (frame : List ℕ). TellsIn Clear setup frame)
            (same_head (bytes_of station.identity (CallAnswer caller address answer)) answered.frame (map (bytes_of station.identity) more) answered.others (frames_of (CallAnswer caller address answer ∷ more) e))
            (response_tells Clear caller address answer can.0 tells)

        call_tells : Serves station live heard next.rest messages → TellsIn Clear setup answered.frame
        call_tells it =
            let came = outcome_of it.which it.outcome in
            let can : AllByRecursion (IsSendable station.identity) (answer_from live.values.running.suite.address it.caller it.call it.which it.outcome ∷ readied_from live.values.running.suite.address it.ready) =
            subst (λ (sent : List Sent). AllByRecursion (IsSendable station.identity) sent) it.sends made.hears.steps.sendable in
            one_tells it.caller live.values.running.suite.address (answer_to it.call came.0 came.1) (readied_from live.values.running.suite.address it.ready) it.sends
            (λ answers done. outcome_tells it.caller it.call.header.sequence it.blocks it.outcome it.which next.rest.link
            (eqb-true it.call.header.sequence 0 (and_parts (pointwise nat_eq it.call.header.activity setup.activity) (it.call.header.sequence == 0) answers).1)
            (ap (heard_as (is_planned setup)) it.is ∙ (ap (λ (b : Option (List ℕ)). asked_by (is_planned setup) it.call.header.sequence (unwrap_or b []) (operation_of it.call.header.operation)) it.counted
            ∙ ap (λ (o : Option Operation). asked_by (is_planned setup) it.call.header.sequence it.blocks o) it.asks))
            planned can.0.0.source it.effect)
          where
            plan : IsPlannedCall rules setup.activity station.named live.rest.real it.call
            plan = subst (λ (h : Heard). IsPlanned rules setup.activity station.named live.rest.real h) it.is meant.planned

            planned : IsPlannedAs rules station.named live.rest.real it.call.header.sequence it.blocks (Some it.which)
            planned = subst (λ (o : Option Operation). IsPlannedAs rules station.named live.rest.real it.call.header.sequence it.blocks o) it.asks
                (subst (λ (b : List ℕ). IsPlannedAs rules station.named live.rest.real it.call.header.sequence b (operation_of it.call.header.operation))
                (some_is plan.blocks it.blocks (sym plan.counted ∙ it.counted)) plan.asks)

        pub first_tells : Does station live heard next.rest messages → TellsIn Clear setup answered.frame
        first_tells (inl it) = absurd (nil_cons answered.frame answered.others (frames_of [] it.silent))
        first_tells (inr (inl it)) = absurd (subst (λ (h : ToDevice). IsUncalled h) is (it.uncalled (is_planned setup)))
        first_tells (inr (inr (inl it))) = absurd (confirms_call sequence ask (sym (it.confirms (is_planned setup)) ∙ is))
        first_tells (inr (inr (inr (inl it)))) =
            absurd (none_some _ (kept_at setup next) (ap (λ (r : Rest). option_map kept_in (kept_of setup.activity r.calls)) it.same ∙ unkept) answered.keeps)
        first_tells (inr (inr (inr (inr (inl it))))) = call_tells it
        first_tells (inr (inr (inr (inr (inr (inl it)))))) = absurd (nil_cons answered.frame answered.others (frames_of [] it.silent))
        first_tells (inr (inr (inr (inr (inr (inr (inl it))))))) =
            one_tells it.new_call.caller live.values.running.suite.address _ [] it.sends (λ answers done. empty_tells Clear)
        first_tells (inr (inr (inr (inr (inr (inr (inr (inr it)))))))) = absurd (false≢true (sym (follows.own it.question it.asked).1 ∙ it.implicit))
        first_tells (inr (inr (inr (inr (inr (inr (inr (inl it)))))))) = absurd (idle_call sequence ask (sym (it.idle (is_planned setup)) ∙ is))

    -- ---- a step of the device

    module _ (at : List RealModule) (telling : AreTelling setup live before.sent at) where
      abbrev later : List RealModule
      later = later_at (kept_at setup live) modules at

      pub device_clear : IsClearAt setup live at → IsClearAt setup next later
      device_clear clear =
          let on = clear_later setup live modules at clear in
          (λ none. on.0 (none_before rules (heard_as (is_planned setup) heard) (small_of setup.activity live) (small_of setup.activity next) frames steps none), on.1)

      abbrev P : List ℕ → Type 0
      P = TellsIn (IsClearAt setup next later) setup

      on_frame : (frame : List ℕ) → TellsIn (IsClearAt setup live at) setup frame → P frame
      on_frame frame tells = tells_on setup (IsClearAt setup live at) (IsClearAt setup next later) device_clear (heard_by setup.plan.controller frame) tells

      dull : (frame : List ℕ) → ((reply : Reply) → rules.to_controller frame ≡ small.Answers 0 reply → ⊥) → P frame
      dull frame other = unanswered setup (IsClearAt setup next later) (heard_by setup.plan.controller frame) other

      again : (kept : small.Kept) → kept_at setup live ≡ Some kept → P kept.frame
      again kept is = on_frame kept.frame (telling.again kept is)

      first_so : kept_at setup live ≡ None → (sequence : ℕ) (ask : small.Ask) (answered : IsAnswered rules sequence ask (small_of setup.activity live) (small_of setup.activity next) frames)
          → heard_as (is_planned setup) heard ≡ small.Call sequence ask → P answered.frame
      first_so unkept sequence ask answered is =
          tells_on setup (IsClear setup modules) (IsClearAt setup next later)
          (λ clear. (λ none. none_some _ (kept_at setup next) none answered.keeps, subst (λ (o : Option small.Kept). IsClear setup (later_at o modules at)) (sym unkept) clear))
          (heard_by setup.plan.controller answered.frame)
          (first_tells unkept sequence ask answered is (so.turns rules setup.activity outcomes station live heard meant.planned).does)

      new_frames : AllByRecursion P frames
      new_frames =
          frames_so rules (heard_as (is_planned setup) heard) (small_of setup.activity live) (small_of setup.activity next) frames P dull again follows.unasked first_so steps

      pub device_telling : AreTelling setup next (before.sent ++ frames) later
      device_telling = record {
        again = λ kept is. kept_so rules (heard_as (is_planned setup) heard) (small_of setup.activity live) (small_of setup.activity next) frames P dull again new_frames steps kept is;
        frames = each_behind P before.sent frames (each_on (TellsIn (IsClearAt setup live at) setup) P before.sent on_frame telling.frames) new_frames;
      }

  -- ---- a turn of the controller

  -- a controller hears nothing in what it sends itself
  pub said_telling : (at : List RealModule) (turned : List said.Sent) → AllByRecursion (IsSaidAs setup station) turned → AreTelling setup live before.sent at
      → AreTelling setup live (before.sent ++ map (said.bytes_of setup) turned) at
  said_telling at turned meant telling = record {
    again = telling.again;
    frames = each_behind (TellsIn (IsClearAt setup live at) setup) before.sent (map (said.bytes_of setup) turned) telling.frames (each_said turned meant);
  }
    where
      each_said : (those : List said.Sent) → AllByRecursion (IsSaidAs setup station) those → AllByRecursion (TellsIn (IsClearAt setup live at) setup) (map (said.bytes_of setup) those)
      each_said [] all = tt
      each_said (message ∷ those) all = (
        unanswered setup (IsClearAt setup live at) (heard_by setup.plan.controller (said.bytes_of setup message)) (λ reply e. nothing_answers reply (sym all.0.0 ∙ e)),
        each_said those all.1,
      )

  pub later_telling : (at : List RealModule) → AreTelling setup live before.sent at → AreTelling setup live before.sent (later_at (kept_at setup live) modules at)
  later_telling at telling = telling_on setup live live before.sent at (later_at (kept_at setup live) modules at) refl (clear_later setup live modules at) telling
