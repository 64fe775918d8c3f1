-- What a device sends and stores with a turn: what its positive responses to a Connect choose.
use Rattle.std.proofs.Common.{◌≡◌, ◌⊎◌, inl, inr, ◌<◌, ◌+◌, ◌==◌, ◌&&◌, ◌++◌, ℕ, nat_eq, Bool, true, false, List, [], ◌∷◌}
use Rattle.std.proofs.Common.{Option, Some, None, Result, Ok, Err, refl, sym, ap, subst, ◌∙◌, arith}
use Rattle.std.specs.Prelude.{option_and_then}
use Rattle.std.specs.List.{AllByRecursion}
use Rattle.std.specs.Cmp.Lexicographic.{pointwise, same_text}
use Rattle.std.proofs.lemmas.Bool.Decides.{nat_tests}
use Rattle.std.proofs.lemmas.Option.{same_Some}
use Rattle.pn_values.specs.declared.real.Real.{Real}
use Rattle.wire.specs.blocks.modules.Lists.{Listed}
use Rattle.connect_blocks.specs.declared.control.ControlBlock.{ControlBlock}
use Rattle.connect_blocks.specs.declared.module_diff.DiffModule.{DiffModule}
use Rattle.connect_blocks.specs.declared.module_diff.DiffSubmodule.{DiffSubmodule}
use Rattle.frame_codec.specs.declared.udp.Caller.{Caller}
use Rattle.rpc_core.specs.Cache.{Kept, kept_more, kept_of}
use Rattle.rpc_core.specs.Call.{Asked as Call}
use Rattle.rpc_core.specs.Response.{Answered, answer_to, is_done}
use Rattle.rpc_core.specs.Sendable.{IsHeader, IsUuid}
use Rattle.rpc_core.specs.declared.header.CallHeader.{CallHeader}
use Rattle.records.specs.declared.status.call_fault.CallFault.{CallFault}
use Rattle.records.specs.declared.status.operation.Operation.{Operation}
use Rattle.records.specs.declared.status.operation.Operation.TheVariants.{Release}
use Rattle.records.specs.status.Operation.{operation_of}
use Rattle.records.specs.status.Status.{status_of}
use Rattle.connects.specs.answers.Connect.{Chosen, chosen_of}
use Rattle.connects.specs.declared.answers.connect.Found.{Found}
use Rattle.connects.specs.requests.Handled.{request_of}
use Rattle.connects.specs.requests.Request.{Request as Asked}
use Rattle.module_diff.specs.Diff.{diff_of}
use Rattle.plans.specs.Connect.{connect_of as plan_connect}
use Rattle.relations.specs.Connect.{connect_blocks, differing_of}
use Rattle.relations.specs.Numbers.{endpoint_of}
use Rattle.relations.specs.Phases.{differing_octets}
use Rattle.relations.specs.RelationState.{RelationState}
use Rattle.relations.specs.declared.ready.Ready.{Ready}
use Rattle.device_frames.specs.Heard.{Calls, Heard, Reported}
use Rattle.device_frames.specs.Sent.{Again, CallAnswer, Exchanges, PlugReadyCall, ReadyCall, Sent, bytes_of}
use Rattle.asked_records.specs.Answers.{unanswered_status}
use Rattle.asked_records.specs.Asked.{question_in}
use Rattle.asked_records.specs.declared.status.Unanswered.TheVariants.{Busy}
use Rattle.asked_records.specs.Questions.{call_of, is_implicit}
use Rattle.asked_records.specs.declared.question.Question.{Question}
use Rattle.rpc_core.specs.declared.response.Status.{Status}
use Rattle.device_core.specs.State.{Live, Rest, Station}
use Rattle.device_core.specs.Asking.{kept_reply, reply_to}
use Rattle.device_core.specs.Handled.{answer_from, kept_for, outcome_of}
use Rattle.controller_messages.specs.declared.plug_request.PlugRequest.{PlugRequest}
use Rattle.controller_messages.specs.declared.request.Request.{Request}
use Rattle.controller_messages.specs.declared.request.Request.TheVariants as asks
use Rattle.controller_messages.specs.declared.setup.Setup.{Setup}
use Rattle.controller_messages.specs.Heard.{Responds}
use Rattle.controller_messages.specs.PlugRequests.{plug_call}
use Rattle.controller_messages.specs.Requests.{blocks_of, call_for, write_count}
use Rattle.end_laws.specs.device.Does.{busy_answer, AreReadied, Connected, Declines, Does, Following, IsEffect, IsExchange, IsOther, Plugging, Readying, Replies, Serves}
use Rattle.end_laws.specs.device.Does.{readied_from}
use Rattle.end_laws.specs.device.Owed.{IsOfRelation}
use Rattle.end_laws.specs.hearing.Stations.{IsCalled}
use Rattle.end_laws.specs.turns.Turns.{chosen_in}
use Rattle.both_ends.specs.startup.answer.Answer.{IsAllThere, caller_of, chosen_with}
use Rattle.both_ends.specs.startup.request.Request.{no_rows, request_for}
use Rattle.rounds_law.specs.Anywhere.{AllLast, Lasts}
use Rattle.rounds_law.specs.AnywhereFrames.{IsOfPlug}
use Rattle.rounds_law.specs.AnywhereSame.{Chooses, IsNoneChosen, StoresChosen}
use Rattle.rounds_law.proofs.AnywhereDeviceSays.{IsSizedIfPlug, IsSizedReady}
use Rattle.rounds_law.proofs.AnywhereSameHears.{IsOwnCall, IsOwnHeard, IsPlugCall, which_is, which_of}
use Rattle.rounds_law.proofs.AnywhereSameLink.{none_before, request_is}
use Rattle.rounds_law.proofs.AnywhereSameReleased.{IsUnchosen}
use Rattle.rounds_law.proofs.AnywhereSameSays.{IsSaying}
use Rattle.rounds_law.proofs.AnywhereAsked.{some_more}

-- What the laws of the crates below say of the answers of a device to this controller, and that this holds of each number that it may choose while it
-- has no relation.
pub record AnswersLaws (setup : Setup) (Holds : Chosen → Type 0) (station : Station) (live : Live) : Type 0 where
  pub negative : (operation : Operation) (refusal : CallFault) → is_done (status_of operation refusal) ≡ false
  pub whole : (number : ℕ) → number < 14336
      → IsAllThere (connect_blocks station.identity number (request_for setup.plan setup.ar) []) (0xC000 + number) (endpoint_of number)
  pub plugged : live.rest.real ≡ setup.plan.real
  pub same : diff_of (request_for setup.plan setup.ar).expected setup.plan.real.modules.items ≡ no_rows
  pub read : request_of None (plan_connect setup.plan setup.ar) ≡ Ok (request_for setup.plan setup.ar)
  pub allows : live.rest.link ≡ None → (number : ℕ) → number < 14336 → Holds (chosen_with number)

second_so : (a b : Bool) → (a && b) ≡ true → b ≡ true
second_so true b e = e
second_so false b e = absurd cc

first_so : (a b : Bool) → (a && b) ≡ true → a ≡ true
first_so true b e = refl
first_so false b e = absurd cc

module _ (setup : Setup) (Holds : Chosen → Type 0) (silence : ℕ) (station : Station) (live : Live) (laws : AnswersLaws setup Holds station live) where
  abbrev Says : Answered → Type 0
  Says response = Chooses setup Holds (Responds response)

  refused_says : (response : Answered) → is_done response.status ≡ false → Says response
  refused_says response negative = λ right positive chosen is. absurd cc

  later_says : (response : Answered) → (response.header.sequence == 0) ≡ false → Says response
  later_says response later = λ right.
      let first = second_so (pointwise nat_eq response.header.activity setup.activity) (response.header.sequence == 0) right in absurd cc

  none_says : (response : Answered) → Chooses setup IsNoneChosen (Responds response) → Says response
  none_says response none = λ right positive chosen is. absurd (none right positive chosen is)

  no_difference : differing_of (request_for setup.plan setup.ar) live.rest.real ≡ []
  no_difference =
      ap (λ (real : Real). differing_of (request_for setup.plan setup.ar) real) laws.plugged
      ∙ ap (λ (rows : Listed DiffModule DiffSubmodule). differing_octets rows) laws.same

  -- A Connect is accepted: the response chooses the number of the relation.
  connected_says : (response : Answered) (caller : Caller) (after : Option RelationState)
      → Connected station live.rest.real caller (blocks_of setup asks.Connect) response.blocks live.rest.link after → Says response
  connected_says response caller after it = λ right positive chosen is.
      let none = none_before live.rest.link (blocks_of setup asks.Connect) it.request it.read in
      let same = request_is setup laws.read live.rest.link (blocks_of setup asks.Connect) it.request refl it.read in
      let number = it.starting.number in
      let octets : response.blocks ≡ connect_blocks station.identity number (request_for setup.plan setup.ar) [] =
      it.answer
      ∙ (ap (λ (request : Asked). connect_blocks station.identity number request (differing_of request live.rest.real)) same
      ∙ ap (λ (differing : List ℕ). connect_blocks station.identity number (request_for setup.plan setup.ar) differing) no_difference) in
      subst Holds (same_Some (chosen_with number) chosen (sym (chosen_so number octets (laws.whole number it.numbered.few)) ∙ is))
      (laws.allows none number it.numbered.few)
    where
      chosen_so : (n : ℕ) → response.blocks ≡ connect_blocks station.identity n (request_for setup.plan setup.ar) []
          → IsAllThere (connect_blocks station.identity n (request_for setup.plan setup.ar) []) (0xC000 + n) (endpoint_of n)
          → chosen_in response.blocks ≡ Some (chosen_with n)
      chosen_so n are there = ap (λ (b : List ℕ). chosen_in b) are ∙ ap (λ (o : Option Found). option_and_then (λ (found : Found). chosen_of found) o) there

  not_first : (n : ℕ) → ((n + 1) == 0) ≡ false
  not_first n = grind (arith, nat_tests)

  -- ---- each call

  -- The response to a request with this outcome.
  abbrev answer_with : Request → Result (List ℕ) CallFault → Answered
  answer_with request outcome =
      answer_to (call_for setup request) (outcome_of (which_of request) outcome).0 (outcome_of (which_of request) outcome).1

  request_says : (request : Request) → IsCalled request → (caller : Caller) (after : Option RelationState) (outcome : Result (List ℕ) CallFault)
      → IsEffect station live.rest.real caller (blocks_of setup request) outcome (which_of request) live.rest.link after
      → (which_of request ≡ Release → Chooses setup IsNoneChosen (Responds (answer_with request outcome)))
      → Says (answer_with request outcome)
  request_says asks.Identify called caller after outcome effect release = absurd called
  request_says asks.Address called caller after outcome effect release = absurd called
  request_says request called caller after (Err refusal) effect release =
      refused_says (answer_with request (Err refusal)) (laws.negative (which_of request) refusal)
  request_says asks.Connect called caller after (Ok octets) effect release = connected_says (answer_with asks.Connect (Ok octets)) caller after effect
  request_says (asks.Write number) called caller after (Ok octets) effect release = later_says (answer_with (asks.Write number) (Ok octets)) (not_first number)
  request_says asks.PrmEnd called caller after (Ok octets) effect release =
      later_says (answer_with asks.PrmEnd (Ok octets)) (not_first (write_count setup.plan))
  request_says (asks.WriteAfter number tries) called caller after (Ok octets) effect release =
      later_says (answer_with (asks.WriteAfter number tries) (Ok octets)) (not_first (number + tries))
  request_says (asks.PrmEndAfter tries) called caller after (Ok octets) effect release =
      later_says (answer_with (asks.PrmEndAfter tries) (Ok octets)) (not_first (write_count setup.plan + tries))
  request_says (asks.Release sequence) called caller after (Ok octets) effect release =
      none_says (answer_with (asks.Release sequence) (Ok octets)) (release refl)

  -- ---- what is sent

  abbrev Saying : Sent → Type 0
  Saying message = IsSaying setup Holds message

  exchange_says : (sent : List Sent) → AllByRecursion IsExchange sent → AllByRecursion Saying sent
  exchange_says [] all = tt
  exchange_says (Exchanges route frame ∷ sent) all = (tt, exchange_says sent all.1)
  exchange_says (message ∷ sent) all = absurd all.0

  ready_sized : (ready : Ready) → IsOfRelation live.rest.link ready → AllLast setup silence live.rest.link → IsSizedReady ready
  ready_sized ready of lasts =
      let its : Lasts setup silence of.link = subst (AllLast setup silence) of.is lasts in
      record {
        header = subst IsHeader (sym of.header)
            (record { object = its.object; interface = refl; activity = its.named; sequence = omega arith; operation = omega arith });
        interface = ap (λ (h : CallHeader). h.interface) of.header;
        uuid = subst (λ (b : ControlBlock). IsUuid b.ar_uuid) (sym of.block) its.named;
      }

  other_says : (after : Option RelationState) (message : Sent) → AllLast setup silence live.rest.link → IsOther live after message → IsSizedIfPlug message
      → Saying message
  other_says after (CallAnswer caller address answer) lasts is sized = absurd is
  other_says after (Again frame) lasts is sized = absurd is
  other_says after (ReadyCall address ready) lasts is sized = ready_sized ready is.0 lasts
  other_says after (PlugReadyCall address ready) lasts is sized = sized
  other_says after message lasts is sized = tt

  others_say : (after : Option RelationState) (sent : List Sent) → AllLast setup silence live.rest.link → AllByRecursion (IsOther live after) sent
      → AllByRecursion IsSizedIfPlug sent → AllByRecursion Saying sent
  others_say after [] lasts all sized = tt
  others_say after (message ∷ sent) lasts all sized = (other_says after message lasts all.0 sized.0, others_say after sent lasts all.1 sized.1)

  readied_says : (after : Option RelationState) (address : List ℕ) (ready : Option Following) → AllLast setup silence live.rest.link → AreReadied live after ready
      → AllByRecursion IsSizedIfPlug (readied_from address ready) → AllByRecursion Saying (readied_from address ready)
  readied_says after address None lasts is sized = tt
  readied_says after address (Some (Readying ready)) lasts is sized = (ready_sized ready is.0 lasts, tt)
  readied_says after address (Some (Plugging ready)) lasts is sized = (sized.0, tt)

  -- ---- what is stored

  -- Each stored response to this controller was stored before, or is sent now.
  abbrev pub IsStoredFrom : List Kept → List Sent → Type 0
  IsStoredFrom calls sent = (kept : Kept) → kept_of setup.activity calls ≡ Some kept
      → (kept_of setup.activity live.rest.calls ≡ Some kept)
      ⊎ ((front : List Sent) × (message : Sent) × (others : List Sent) × (sent ≡ front ++ message ∷ others) × (kept.frame ≡ bytes_of station.identity message))

  same_stored : (calls : List Kept) (sent : List Sent) → calls ≡ live.rest.calls → IsStoredFrom calls sent
  same_stored calls sent same = λ kept found. inl (ap (λ (c : List Kept). kept_of setup.activity c) (sym same) ∙ found)

  more_stored : (calls : List Kept) (newest : Kept) (front : List Sent) (message : Sent) (others sent : List Sent) → calls ≡ kept_more 4 newest live.rest.calls
      → newest.frame ≡ bytes_of station.identity message → sent ≡ front ++ message ∷ others → IsStoredFrom calls sent
  more_stored calls newest front message others sent same frame sends = λ kept found.
      by_more kept (some_more setup.activity newest live.rest.calls kept (ap (λ (c : List Kept). kept_of setup.activity c) (sym same) ∙ found))
    where
      by_more : (kept : Kept) → (kept ≡ newest) ⊎ (kept_of setup.activity live.rest.calls ≡ Some kept)
          → (kept_of setup.activity live.rest.calls ≡ Some kept)
          ⊎ ((ahead : List Sent) × (one : Sent) × (later : List Sent) × (sent ≡ ahead ++ one ∷ later) × (kept.frame ≡ bytes_of station.identity one))
      by_more kept (inl is) = inr (front, message, others, sends, ap (λ (k : Kept). k.frame) is ∙ frame)
      by_more kept (inr old) = inl old

  -- ---- a turn

  abbrev Went : Rest → List Sent → Type 0
  Went after sent = AllByRecursion Saying sent × IsStoredFrom after.calls sent

  -- What a device sends with a Release, and with a call after a plug, chooses nothing.
  abbrev Releases : Heard → List Sent → Type 0
  Releases heard sent = (caller : Caller) (address : List ℕ) (sequence : ℕ) → heard ≡ Reported caller address (Calls (call_for setup (asks.Release sequence)))
      → AllByRecursion (IsUnchosen setup) sent

  abbrev Plugs : Heard → List Sent → Type 0
  Plugs heard sent = (caller : Caller) (address : List ℕ) (request : PlugRequest) → caller ≡ caller_of setup.plan.controller → IsOfPlug setup request
      → heard ≡ Reported caller address (Calls (plug_call setup request)) → AllByRecursion (IsUnchosen setup) sent

  served_own : (heard : Heard) (after : Rest) (sent : List Sent) → AllLast setup silence live.rest.link → Releases heard sent
      → AllByRecursion IsSizedIfPlug sent → (it : Serves station live heard after sent) → IsOwnCall setup it.caller it.call → Went after sent
  served_own heard after sent lasts releases sized it own =
      let request = own.request in
      let address = live.values.running.suite.address in
      let which : it.which ≡ which_of request = same_Some it.which (which_of request)
      (sym it.asks ∙ (ap (λ (c : Call). operation_of c.header.operation) own.is ∙ which_is setup request own.called)) in
      let blocks : it.blocks ≡ blocks_of setup request = same_Some it.blocks (blocks_of setup request) (sym it.counted ∙ ap (λ (c : Call). c.blocks) own.is) in
      let effect : IsEffect station live.rest.real it.caller (blocks_of setup request) it.outcome (which_of request) live.rest.link after.link =
      subst (λ (w : Operation). IsEffect station live.rest.real it.caller (blocks_of setup request) it.outcome w live.rest.link after.link) which
      (subst (λ (b : List ℕ). IsEffect station live.rest.real it.caller b it.outcome it.which live.rest.link after.link) blocks it.effect) in
      let first : Sent = CallAnswer it.caller address (answer_with request it.outcome) in
      let is_first : answer_from address it.caller it.call it.which it.outcome ≡ first =
      ap (λ (c : Call). answer_from address it.caller c it.which it.outcome) own.is
      ∙ ap (λ (w : Operation). answer_from address it.caller (call_for setup request) w it.outcome) which in
      let sends : sent ≡ first ∷ readied_from address it.ready = it.sends ∙ ap (λ (m : Sent). m ∷ readied_from address it.ready) is_first in
      let says = request_says request own.called it.caller after.link it.outcome effect
      (λ release. (subst (AllByRecursion (IsUnchosen setup)) sends
      (by_release request own.called release it.caller it.address (it.is ∙ ap (λ (c : Call). Reported it.caller it.address (Calls c)) own.is))).0) in (
        subst (AllByRecursion Saying) (sym sends) (
          says,
          readied_says after.link address it.ready lasts it.readied
              (subst (AllByRecursion IsSizedIfPlug) sends sized).1,
        ),
        more_stored after.calls (kept_for station.identity (call_for setup request) first) [] first (readied_from address it.ready) sent
            (it.keeps ∙ (ap (λ (m : Sent). kept_more 4 (kept_for station.identity it.call m) live.rest.calls) is_first
            ∙ ap (λ (c : Call). kept_more 4 (kept_for station.identity c first) live.rest.calls) own.is)) refl sends,
      )
    where
      by_release : (request : Request) → IsCalled request → which_of request ≡ Release → (caller : Caller) (address : List ℕ)
          → heard ≡ Reported caller address (Calls (call_for setup request)) → AllByRecursion (IsUnchosen setup) sent
      by_release asks.Identify called is caller address e = absurd called
      by_release asks.Address called is caller address e = absurd called
      by_release asks.Connect called is caller address e = absurd cc
      by_release (asks.Write number) called is caller address e = absurd cc
      by_release (asks.WriteAfter number tries) called is caller address e = absurd cc
      by_release asks.PrmEnd called is caller address e = absurd cc
      by_release (asks.PrmEndAfter tries) called is caller address e = absurd cc
      by_release (asks.Release sequence) called is caller address e = releases caller address sequence e

  -- The response to a call after a plug.
  served_plug : (heard : Heard) (after : Rest) (sent : List Sent) → AllLast setup silence live.rest.link → Plugs heard sent
      → AllByRecursion IsSizedIfPlug sent → (it : Serves station live heard after sent) → IsPlugCall setup it.caller it.call → Went after sent
  served_plug heard after sent lasts plugs sized it plug =
      let address = live.values.running.suite.address in
      let answer = answer_to it.call (outcome_of it.which it.outcome).0 (outcome_of it.which it.outcome).1 in
      let first : Sent = CallAnswer it.caller address answer in
      let all = plugs it.caller it.address plug.request plug.by plug.of
      (it.is ∙ ap (λ (c : Call). Reported it.caller it.address (Calls c)) plug.is) in
      let none = (subst (AllByRecursion (IsUnchosen setup)) it.sends all).0 in (
        subst (AllByRecursion Saying) (sym it.sends) (
          none_says answer none,
          readied_says after.link address it.ready lasts it.readied (subst (AllByRecursion IsSizedIfPlug) it.sends sized).1,
        ),
        more_stored after.calls (kept_for station.identity it.call first) [] first (readied_from address it.ready) sent it.keeps refl it.sends,
      )

  served : (heard : Heard) (after : Rest) (sent : List Sent) → AllLast setup silence live.rest.link → IsOwnHeard setup heard → Releases heard sent
      → Plugs heard sent → AllByRecursion IsSizedIfPlug sent → Serves station live heard after sent → Went after sent
  served heard after sent lasts known releases plugs sized it = by_call (subst (IsOwnHeard setup) it.is known)
    where
      by_call : IsOwnCall setup it.caller it.call ⊎ IsPlugCall setup it.caller it.call → Went after sent
      by_call (inl own) = served_own heard after sent lasts releases sized it own
      by_call (inr plug) = served_plug heard after sent lasts plugs sized it plug

  repeats_activity : (heard : Heard) (caller : Caller) (address : List ℕ) (call : Call) → IsOwnHeard setup heard → heard ≡ Reported caller address (Calls call)
      → call.header.activity ≡ setup.activity
  repeats_activity heard caller address call known is = by_call (subst (IsOwnHeard setup) is known)
    where
      by_call : IsOwnCall setup caller call ⊎ IsPlugCall setup caller call → call.header.activity ≡ setup.activity
      by_call (inl own) = ap (λ (c : Call). c.header.activity) own.is
      by_call (inr plug) = ap (λ (c : Call). c.header.activity) plug.is

  -- ---- a call that is asked

  -- A response to it: it is not the Connect of this start.
  reply_says : (question : Question) (status : Status) (blocks : List ℕ)
      → (question.header.activity ≡ setup.activity → (question.header.sequence == 0) ≡ false) → Says (answer_to (call_of question) status blocks)
  reply_says question status blocks other = λ right.
      let same = first_so (pointwise nat_eq question.header.activity setup.activity) (question.header.sequence == 0) right in
      let later = other (same_text question.header.activity setup.activity (sym same)) in
      absurd (clash (sym later ∙ second_so (pointwise nat_eq question.header.activity setup.activity) (question.header.sequence == 0) right))
    where
      clash : false ≡ true → ⊥
      clash e = absurd cc

  all_sized_front : (front others : List Sent) → AllByRecursion IsSizedIfPlug (front ++ others) → AllByRecursion IsSizedIfPlug front
  all_sized_front [] others all = tt
  all_sized_front (one ∷ front) others all = (all.0, all_sized_front front others all.1)

  all_joined : (front others : List Sent) → AllByRecursion Saying front → AllByRecursion Saying others → AllByRecursion Saying (front ++ others)
  all_joined [] others ones all = all
  all_joined (one ∷ front) others ones all = (ones.0, all_joined front others ones.1 all)

  declined : (heard : Heard) (after : Rest) (sent : List Sent) → Declines station live heard after sent → Went after sent
  declined heard after sent it =
      let call = it.new_call.call in
      let message = busy_answer live it.new_call.caller call it.new_call.which in (
        subst (AllByRecursion Saying) (sym it.sends) (refused_says (answer_to call (unanswered_status it.new_call.which Busy) []) it.undone, tt),
        more_stored after.calls (kept_for station.identity call message) [] message [] sent (ap (λ (r : Rest). r.calls) it.becomes) refl it.sends,
      )

  replied : (heard : Heard) (after : Rest) (sent : List Sent) → AllLast setup silence live.rest.link
      → ((question : Question) → question_in live.rest.asked ≡ Some question → question.header.activity ≡ setup.activity
      → (question.header.sequence == 0) ≡ false)
      → AllByRecursion IsSizedIfPlug sent → Replies true station live heard after sent → Went after sent
  replied heard after sent lasts others sized it =
      let reply = reply_to live.values.running.suite.address it.question it.status it.blocks in (
        subst (AllByRecursion Saying) (sym it.sends)
            (all_joined it.first (reply ∷ [])
            (others_say after.link it.first lasts it.others (all_sized_front it.first (reply ∷ []) (subst (AllByRecursion IsSizedIfPlug) it.sends sized)))
            (reply_says it.question it.status it.blocks (others it.question it.asked), tt)),
        more_stored after.calls (kept_reply station.identity it.question reply) it.first reply [] sent it.keeps refl it.sends,
      )

  -- All that is sent, and what is stored afterwards.
  pub turn_says : (heard : Heard) (after : Rest) (sent : List Sent) → AllLast setup silence live.rest.link → IsOwnHeard setup heard → StoresChosen setup Holds live
      → Releases heard sent → Plugs heard sent
      → ((question : Question) → question_in live.rest.asked ≡ Some question → question.header.activity ≡ setup.activity
      → (question.header.sequence == 0) ≡ false)
      → ((question : Question) → question_in live.rest.asked ≡ Some question → is_implicit question.request ≡ true → ⊥)
      → AllByRecursion IsSizedIfPlug sent → Does station live heard after sent → Went after sent
  turn_says heard after sent lasts known stored releases plugs others plain sized (inl it) =
      (subst (AllByRecursion Saying) (sym it.silent) tt, same_stored after.calls sent (ap (λ (r : Rest). r.calls) it.same))
  turn_says heard after sent lasts known stored releases plugs others plain sized (inr (inl it)) =
      (others_say after.link sent lasts it.others sized, same_stored after.calls sent it.calls)
  turn_says heard after sent lasts known stored releases plugs others plain sized (inr (inr (inl it))) =
      (exchange_says sent it.others, same_stored after.calls sent (ap (λ (r : Rest). r.calls) it.becomes))
  turn_says heard after sent lasts known stored releases plugs others plain sized (inr (inr (inr (inl it)))) = (
    subst (AllByRecursion Saying) (sym it.sends) (
      stored it.kept (subst (λ (activity : List ℕ). kept_of activity live.rest.calls ≡ Some it.kept)
          (repeats_activity heard it.caller it.address it.call known it.is) it.there),
      tt,
    ),
    same_stored after.calls sent (ap (λ (r : Rest). r.calls) it.same),
  )
  turn_says heard after sent lasts known stored releases plugs others plain sized (inr (inr (inr (inr (inl it))))) =
      served heard after sent lasts known releases plugs sized it
  turn_says heard after sent lasts known stored releases plugs others plain sized (inr (inr (inr (inr (inr (inl it)))))) =
      (subst (AllByRecursion Saying) (sym it.silent) tt, same_stored after.calls sent (ap (λ (r : Rest). r.calls) it.becomes))
  turn_says heard after sent lasts known stored releases plugs others plain sized (inr (inr (inr (inr (inr (inr (inl it))))))) = declined heard after sent it
  turn_says heard after sent lasts known stored releases plugs others plain sized (inr (inr (inr (inr (inr (inr (inr (inr it)))))))) =
      absurd (plain it.question it.asked it.implicit)
  turn_says heard after sent lasts known stored releases plugs others plain sized (inr (inr (inr (inr (inr (inr (inr (inl it)))))))) =
      replied heard after sent lasts others sized it
