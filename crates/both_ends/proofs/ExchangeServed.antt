-- The response of a device to the first call of its controller: only the Connect may succeed, and then its blocks
-- choose a suitable FrameID for outputs.
use Rattle.std.proofs.Common.{◌≡◌, ◌<◌, ◌&&◌, inl, inr, ℕ, suc, Bool, true, false, List, [], ◌∷◌, Option, Some, None, Result, Ok, Err, sym, ap, subst, ◌∙◌, refl, arith}
use Rattle.std.specs.Prelude.{nat_eq, nat_lt, unwrap_or}
use Rattle.std.specs.Cmp.Lexicographic.{pointwise}
use Rattle.std.specs.List.{AllByRecursion}
use Rattle.std.proofs.lemmas.Bool.{false≢true, ltb-true}
use Rattle.frame_codec.specs.declared.udp.Caller.{Caller}
use Rattle.rpc_core.specs.Cache.{new, looked}
use Rattle.rpc_core.specs.Call.{Asked as Call}
use Rattle.rpc_core.specs.Response.{is_done}
use Rattle.records.specs.declared.status.call_fault.CallFault.{CallFault}
use Rattle.records.specs.declared.status.operation.Operation.{Operation}
use Rattle.records.specs.declared.status.operation.Operation.TheVariants as operation
use Rattle.records.specs.status.Operation.{operation_of}
use Rattle.connects.specs.requests.Request.{Request}
use Rattle.both_ends.specs.startup.request.Request.{request_for}
use Rattle.relations.specs.RelationState.{RelationState}
use Rattle.relations.specs.Connect.{connect_blocks, connect_of, differing_of}
use Rattle.relations.specs.Numbers.{IsNumber}
use Rattle.device_frames.specs.Heard.{Heard, Reported, Calls}
use Rattle.asked_records.specs.Asked.{question_in}
use Rattle.asked_records.specs.Questions.{is_implicit}
use Rattle.asked_records.specs.declared.question.Question.{Question}
use Rattle.device_frames.specs.Sent.{Sent, Exchanges, CallAnswer, Again}
use Rattle.device_core.specs.State.{Station, Live, Rest}
use Rattle.device_core.specs.Handled.{answer_from, outcome_of}
use Rattle.controller_messages.specs.declared.setup.Setup.{Setup}
use Rattle.controller_messages.specs.Requests.{write_count, writing_blocks}
use Rattle.connects.specs.answers.Connect.{found_in, is_whole, nothing}
use Rattle.end_laws.specs.sending.Sized.{Found}
use Rattle.end_laws.specs.device.Does.{Does, Following, Plugging, Readying, IsEffect, IsExchange, IsOther, Serves, readied_from}
use Rattle.end_laws.specs.both.Small as small
use Rattle.end_laws.specs.device.Small.{IsPlanned, IsPlannedAs, IsPlannedCall, asked_by, heard_as, number_in, written_by}
use Rattle.both_ends.specs.startup.View.{is_planned, rules_of}
use Rattle.both_ends.specs.exchange.Sized.{IsChosenWell}
use Rattle.both_ends.proofs.ExchangeLists.{each_behind, none_some, some_is}

ok_is : {A B : Type 0} (x y : A) → ◌≡◌ {A = Result A B} (Ok x) (Ok y) → x ≡ y
ok_is x y e = cc

-- ---- no blocks

none_found : (most : ℕ) → found_in (suc most) [] nothing ≡ Some nothing
unfolding found_in
none_found most = refl

empty_well : IsChosenWell []
empty_well found e whole same frame_id there =
    absurd (false≢true (ap (λ (one : Found). is_whole one) (some_is nothing found (sym (none_found 399) ∙ e)) ∙ whole))

-- ---- responses

module _ (setup : Setup) (station : Station) (live : Live) where
  abbrev asked : Request
  asked = request_for setup.plan setup.ar

  -- the blocks of the response to the Connect of the plan choose a suitable FrameID for outputs, in a relation of any number that
  -- the device may give
  abbrev pub Chooses : Type 0
  Chooses = (number : ℕ) → IsNumber station.options number → IsChosenWell (connect_blocks station.identity number asked (differing_of asked live.rest.real))

  -- a positive response to a call of number 0 chooses a suitable FrameID for outputs
  abbrev pub IsServed : Sent → Type 0
  IsServed (CallAnswer caller address answer) = Chooses → answer.header.sequence ≡ 0 → is_done answer.status ≡ true → IsChosenWell answer.blocks
  IsServed message = Unit {0}

  abbrev pub AreServed : List Sent → Type 0
  AreServed sent = AllByRecursion IsServed sent

  readied_served : (address : List ℕ) (ready : Option Following) → AreServed (readied_from address ready)
  readied_served address None = tt
  readied_served address (Some (Readying ready)) = (tt, tt)
  readied_served address (Some (Plugging ready)) = (tt, tt)

  -- a message that is no response to a call
  others_served : (after : Option RelationState) (messages : List Sent) → AllByRecursion (IsOther live after) messages → AreServed messages
  others_served after [] others = tt
  others_served after (CallAnswer caller address answer ∷ messages) others = absurd others.0
  others_served after (Again frame ∷ messages) others = absurd others.0
  others_served after (message ∷ messages) others = (tt, others_served after messages others.1)

  exchanges_served : (messages : List Sent) → AllByRecursion IsExchange messages → AreServed messages
  exchanges_served [] others = tt
  exchanges_served (Exchanges route frame ∷ messages) others = (tt, exchanges_served messages others.1)
  exchanges_served (message ∷ messages) others = absurd others.0

  -- the blocks of a response, by the outcome and the operation of its call
  -- a Write of number 0 is one of the application
  written_zero : (sequence : ℕ) (blocks : List ℕ) → sequence ≡ 0 → written_by (is_planned setup sequence blocks) sequence (number_in blocks) ≡ small.Call sequence small.Accesses
  written_zero sequence blocks zero_is =
      ap (λ (b : Bool). written_by b sequence (number_in blocks))
      (none_earlier (nat_lt (number_in blocks) (write_count setup.plan)) (pointwise nat_eq blocks (writing_blocks setup (number_in blocks)))
      (nat_lt (number_in blocks) sequence) (λ e. let below = ltb-true (number_in blocks) sequence e in absurd (omega (arith, below, zero_is))))
    where
      none_earlier : (a b c : Bool) → (c ≡ true → ⊥) → (a && (b && c)) ≡ false
      none_earlier true true true never = absurd (never refl)
      none_earlier true true false never = refl
      none_earlier true false c never = refl
      none_earlier false b c never = refl

  outcome_well : (caller : Caller) (sequence : ℕ) (blocks : List ℕ) (outcome : Result (List ℕ) CallFault) (which : Operation) (after : Option RelationState) → sequence ≡ 0 → live.rest.link ≡ None
      → (asked_by (is_planned setup) sequence blocks (Some which) ≡ small.Call sequence small.Accesses → ⊥)
      → IsPlannedAs (rules_of setup station) station.named live.rest.real sequence blocks (Some which) → IsEffect station live.rest.real caller blocks outcome which live.rest.link after → Chooses → IsChosenWell (outcome_of which outcome).1
  outcome_well caller sequence blocks (Err why) which after zero_is none early plan effect chooses = empty_well
  outcome_well caller sequence blocks (Ok octets) operation.Connect after zero_is none early plan effect chooses =
      let is : effect.request ≡ asked = ok_is effect.request asked (sym effect.read ∙ (ap (λ (l : Option RelationState). connect_of l blocks) none ∙ plan)) in
      subst (λ (answer : List ℕ). IsChosenWell answer) (sym effect.answer)
      (subst (λ (request : Request). IsChosenWell (connect_blocks station.identity effect.starting.number request (differing_of request live.rest.real))) (sym is)
      (chooses effect.starting.number effect.numbered))
  outcome_well caller sequence blocks (Ok octets) operation.Read after zero_is none early plan effect chooses = absurd (early refl)
  outcome_well caller sequence blocks (Ok octets) operation.Write after zero_is none early plan effect chooses = absurd (early (written_zero sequence blocks zero_is))
  outcome_well caller sequence blocks (Ok octets) operation.ReadImplicit after zero_is none early plan effect chooses = absurd plan
  outcome_well caller sequence blocks (Ok octets) operation.Control after zero_is none early plan (inl effect) chooses = absurd (none_some effect.link live.rest.link none effect.was)
  outcome_well caller sequence blocks (Ok octets) operation.Control after zero_is none early plan (inr effect) chooses = absurd (none_some effect.link live.rest.link none effect.was)
  outcome_well caller sequence blocks (Ok octets) operation.Release after zero_is none early plan effect chooses = absurd (none_some effect.link live.rest.link none effect.was)

  -- ---- a turn

  module _ (heard : Heard) (after : Rest) (sent : List Sent) (planned : IsPlanned (rules_of setup station) setup.activity station.named live.rest.real heard)
      (none : (caller : Caller) (address : List ℕ) (call : Call) → heard ≡ Reported caller address (Calls call) → call.header.sequence ≡ 0
      → looked call.header.activity call.header.sequence live.rest.calls ≡ new
      → (live.rest.link ≡ None) × (heard_as (is_planned setup) heard ≡ small.Call call.header.sequence small.Accesses → ⊥))
      (later : (question : Question) → question_in live.rest.asked ≡ Some question → question.header.sequence ≡ 0
      → looked question.header.activity question.header.sequence live.rest.calls ≡ new → ⊥)
      (plain : (question : Question) → question_in live.rest.asked ≡ Some question → is_implicit question.request ≡ true → ⊥) where
    silent_served : (messages : List Sent) → sent ≡ messages → AreServed messages → AreServed sent
    silent_served messages is all = subst (λ (those : List Sent). AreServed those) (sym is) all

    call_served : Serves station live heard after sent → AreServed sent
    call_served it = silent_served _ it.sends (well, readied_served live.values.running.suite.address it.ready)
      where
        plan : IsPlannedCall (rules_of setup station) setup.activity station.named live.rest.real it.call
        plan = subst (λ (h : Heard). IsPlanned (rules_of setup station) setup.activity station.named live.rest.real h) it.is planned

        asks : IsPlannedAs (rules_of setup station) station.named live.rest.real it.call.header.sequence it.blocks (Some it.which)
        asks = subst (λ (o : Option Operation). IsPlannedAs (rules_of setup station) station.named live.rest.real it.call.header.sequence it.blocks o) it.asks
            (subst (λ (b : List ℕ). IsPlannedAs (rules_of setup station) station.named live.rest.real it.call.header.sequence b (operation_of it.call.header.operation))
            (some_is plan.blocks it.blocks (sym plan.counted ∙ it.counted)) plan.asks)

        well : IsServed (answer_from live.values.running.suite.address it.caller it.call it.which it.outcome)
        well = λ chooses zero_is done.
            let early = none it.caller it.address it.call it.is zero_is it.fresh in
            outcome_well it.caller it.call.header.sequence it.blocks it.outcome it.which after.link zero_is early.0
            (λ e. early.1 (ap (heard_as (is_planned setup)) it.is ∙ (ap (λ (b : Option (List ℕ)). asked_by (is_planned setup) it.call.header.sequence (unwrap_or b []) (operation_of it.call.header.operation)) it.counted
            ∙ (ap (λ (o : Option Operation). asked_by (is_planned setup) it.call.header.sequence it.blocks o) it.asks ∙ e))))
            asks it.effect chooses

    pub all_served : Does station live heard after sent → AreServed sent
    all_served (inl it) = silent_served [] it.silent tt
    all_served (inr (inl it)) = others_served after.link sent it.others
    all_served (inr (inr (inl it))) = exchanges_served sent it.others
    all_served (inr (inr (inr (inl it)))) = silent_served _ it.sends (tt, tt)
    all_served (inr (inr (inr (inr (inl it))))) = call_served it
    all_served (inr (inr (inr (inr (inr (inl it)))))) = silent_served [] it.silent tt
    all_served (inr (inr (inr (inr (inr (inr (inl it))))))) = silent_served _ it.sends ((λ chooses zero_is done. empty_well), tt)
    all_served (inr (inr (inr (inr (inr (inr (inr (inr it)))))))) = absurd (plain it.question it.asked it.implicit)
    all_served (inr (inr (inr (inr (inr (inr (inr (inl it)))))))) =
        silent_served _ it.sends (each_behind IsServed it.first _ (others_served after.link it.first it.others)
        ((λ chooses zero_is done. absurd (later it.question it.asked zero_is it.fresh)), tt))
