-- If what a controller hears of its device is the response to the Connect, it chooses a suitable FrameID for outputs.
use Rattle.std.proofs.Common.{◌≡◌, ◌⊎◌, inl, inr, ◌==◌, ◌&&◌, ℕ, Bool, true, false, cond, List, [], ◌∷◌, refl, sym, ap, subst, ◌∙◌}
use Rattle.std.specs.Prelude.{nat_eq}
use Rattle.std.specs.List.{AllByRecursion}
use Rattle.std.specs.Cmp.Lexicographic.{pointwise}
use Rattle.std.proofs.lemmas.Bool.{eqb-true}
use Rattle.frame_codec.specs.declared.udp.Caller.{Caller}
use Rattle.rpc_core.specs.Response.{Answered as Response, is_done}
use Rattle.device_frames.specs.Sendable.{IsSendable}
use Rattle.device_frames.specs.Sent as sent
use Rattle.device_frames.specs.Sent.{bytes_of}
use Rattle.device_core.specs.State.{Station, Live}
use Rattle.controller_messages.specs.declared.request.Request.TheVariants as asks
use Rattle.controller_messages.specs.declared.setup.Setup.{Setup}
use Rattle.controller_messages.specs.Heard as controller
use Rattle.controller_messages.specs.Heard.{heard_of as heard_by, is_to}
use Rattle.controller_core.specs.start_up.Answers.{is_answer}
use Rattle.end_laws.specs.hearing.Stations.{IsCaller, IsSetup}
use Rattle.end_laws.specs.both.Small as small
use Rattle.end_laws.specs.both.Small.{ToController, reply_of}
use Rattle.end_laws.specs.controller.Small.{said_to}
use Rattle.end_laws.specs.device.Small.{IsHeardAs}
use Rattle.both_ends.specs.startup.View.{rules_of}
use Rattle.both_ends.proofs.ExchangeLists.{holds_if}
use Rattle.both_ends.proofs.ExchangeMessages.{HearsSo}
use Rattle.both_ends.proofs.ExchangeServed.{IsServed}
use Rattle.both_ends.proofs.ExchangeReported.{IsWell, IsWellBy, IsWellSent}

-- ---- at the controller

and_first : (a b : Bool) → (a && b) ≡ true → a ≡ true
and_first true b e = refl
and_first false b e = absurd cc

and_second : (a b : Bool) → (a && b) ≡ true → b ≡ true
and_second true b e = e
and_second false b e = absurd cc

module _ (setup : Setup) where
  -- the number of a response to the Connect
  zero_is : (response : Response) → is_answer setup asks.Connect response.header ≡ true → response.header.sequence ≡ 0
  zero_is response is =
      eqb-true response.header.sequence 0 (and_second (pointwise nat_eq response.header.activity setup.activity) (response.header.sequence == 0) is)

  said_answer : (response : Response) → is_answer setup asks.Connect response.header ≡ true
      → said_to setup (controller.Responds response) ≡ small.Answers 0 (reply_of response)
  said_answer response is =
      ap (λ (b : Bool). cond b (small.Answers response.header.sequence (reply_of response)) small.Nothing)
      (and_first (pointwise nat_eq response.header.activity setup.activity) (response.header.sequence == 0) is)
      ∙ ap (λ (n : ℕ). small.Answers n (reply_of response)) (zero_is response is)

  -- what says nothing, or is not a response of this number, is not a response to the Connect
  unanswered_well : (heard : controller.Heard) (says : ToController) → ((reply : small.Reply) → says ≡ small.Answers 0 reply → ⊥)
      → (said_to setup heard ≡ small.Nothing) ⊎ (said_to setup heard ≡ says) → IsWell setup heard
  unanswered_well (controller.Responds response) says other at_most = λ is done. absurd (by_saying (reply_of response) (said_answer response is) at_most)
    where
      none_of : (reply : small.Reply) → small.Nothing ≡ small.Answers 0 reply → ⊥
      none_of reply e = absurd cc

      by_saying : (reply : small.Reply) → said_to setup (controller.Responds response) ≡ small.Answers 0 reply
          → (said_to setup (controller.Responds response) ≡ small.Nothing) ⊎ (said_to setup (controller.Responds response) ≡ says) → ⊥
      by_saying reply e (inl none) = none_of reply (sym none ∙ e)
      by_saying reply e (inr same) = other reply (sym same ∙ e)
  unanswered_well another says other at_most = tt

  nothing_well : (heard : controller.Heard) → (said_to setup heard ≡ small.Nothing) ⊎ (said_to setup heard ≡ small.Nothing) → IsWell setup heard
  nothing_well heard at_most = unanswered_well heard small.Nothing (λ reply e. absurd cc) at_most

-- ---- what the device sends

module _ (so : HearsSo) (setup : Setup) (station : Station) (good : IsSetup setup) (live : Live) where
  answer_well : (caller : Caller) (address : List ℕ) (answer : Response) → IsSendable station.identity (sent.CallAnswer caller address answer)
      → IsServed setup station live (sent.CallAnswer caller address answer) → IsWellBy setup (bytes_of station.identity (sent.CallAnswer caller address answer))
  answer_well caller address answer can served =
      let calls : IsCaller caller = record { mac = can.0.destination; endpoint = can.0.content.1 } in
      let well : IsWell setup (controller.Responds answer) = λ is done.
      served (λ number numbered. so.chosen setup station.identity live.rest.real number good can.0.source numbered.few) (zero_is setup answer is) done in
      subst (λ (h : controller.Heard). IsWell setup h)
      (sym (so.response_at_controller setup.plan.controller station.identity caller address answer can.0.source calls can.0.content.0.0 can.1))
      (holds_if (IsWell setup) (pointwise nat_eq caller.mac.octets setup.plan.controller.mac.octets) (cond (is_to setup.plan.controller.address caller.endpoint) (controller.Responds answer) controller.Nothing)
      controller.Nothing (holds_if (IsWell setup) (is_to setup.plan.controller.address caller.endpoint) (controller.Responds answer) controller.Nothing well tt) tt)

  message_well : (message : sent.Sent) → IsSendable station.identity message → IsHeardAs (rules_of setup station) station.identity message
      → IsServed setup station live message → IsWellSent setup station.identity message
  message_well (sent.CallAnswer caller address answer) can meant served = answer_well caller address answer can served
  message_well (sent.Again frame) can meant served = tt
  message_well (sent.ReadyCall address ready) can meant served =
      unanswered_well setup (heard_by setup.plan.controller (bytes_of station.identity (sent.ReadyCall address ready))) small.Readies (λ reply e. absurd cc) meant.1
  message_well other can meant served = nothing_well setup _ meant.1

  pub all_well : (messages : List sent.Sent) → AllByRecursion (IsSendable station.identity) messages
      → AllByRecursion (IsHeardAs (rules_of setup station) station.identity) messages → AllByRecursion (IsServed setup station live) messages
      → AllByRecursion (IsWellSent setup station.identity) messages
  all_well [] can meant served = tt
  all_well (message ∷ messages) can meant served = (message_well message can.0 meant.0 served.0, all_well messages can.1 meant.1 served.1)
