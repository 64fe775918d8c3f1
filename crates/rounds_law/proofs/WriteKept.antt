-- What a Write does to a relation whose data is not exchanged yet: its records are kept, and each is answered with no error.
use Rattle.std.proofs.Common.{◌≡◌, ◌<◌, ◌≤◌, ◌+◌, ◌&&◌, ℕ, Bool, cond, List, [], ◌∷◌, ◌++◌, length, map, Option}
use Rattle.std.proofs.Common.{Some, Result, Ok, Err, refl, sym, ap, subst, ◌∙◌, append_assoc, append-nil, arith}
use Rattle.std.proofs.lemmas.Bool.{lt-ltb}
use Rattle.std.proofs.lemmas.List.{length-append}
use Rattle.pn_values.specs.declared.set_item.SetItem.{SetItem}
use Rattle.settings_journal.specs.settings_store.Machine.{Carried, Outcome, carried}
use Rattle.frame_codec.specs.declared.udp.Caller.{Caller}
use Rattle.rpc_core.specs.declared.response.Status.{Status}
use Rattle.rpc_core.specs.Cache.{kept_more}
use Rattle.rpc_core.specs.Call.{Asked as Call}
use Rattle.rpc_core.specs.Response.{answer_to}
use Rattle.record_blocks.specs.declared.write_record.IodWriteReq.{IodWriteReq}
use Rattle.records.specs.declared.status.call_fault.CallFault.{CallFault}
use Rattle.records.specs.declared.status.call_fault.CallFault.TheVariants as fault
use Rattle.records.specs.declared.status.operation.Operation.TheVariants.{Write as writes}
use Rattle.records.specs.status.Status.{done}
use Rattle.records.specs.declared.writes.taken.TakenRecord.{TakenRecord}
use Rattle.records.specs.declared.writes.write.Effect.TheVariants.{Keeps}
use Rattle.records.specs.declared.writes.writing.Writing.TheVariants.{One}
use Rattle.records.specs.writes.Answer.{answer_of, outcomes_of}
use Rattle.records.specs.writes.Taken.{keep_of}
use Rattle.plans.specs.declared.parts.PlanRecord.{PlanRecord}
use Rattle.relations.specs.declared.phase.Phase.{Phase}
use Rattle.relations.specs.declared.phase.Phase.TheVariants.{Started}
use Rattle.relations.specs.declared.phase.Partner.{Partner}
use Rattle.relations.specs.Passed.{passed_more}
use Rattle.relations.specs.Phases.{Named, Records, answered, kept_in, keeping, restarted, taking, updated, with_records}
use Rattle.relations.specs.RelationState.{RelationState, is_exchanging}
use Rattle.device_frames.specs.Heard.{Heard}
use Rattle.device_frames.specs.Sent.{CallAnswer, Sent, bytes_of}
use Rattle.device_core.specs.State.{Live, Station}
use Rattle.device_core.specs.Handled.{Handled, Moves, WritesEach, answer_from, handled, handled_write, kept_answer, kept_behind, outcome_of, partner_of, served}
use Rattle.device_core.specs.Machine.{Stepped, finished, handled_step, heard_step, link_behind, several_answer, statuses_of}
use Rattle.device_core.specs.Several.{Judged, texts_in}
use Rattle.controller_messages.specs.declared.setup.Setup.{Setup}
use Rattle.controller_messages.specs.Requests.{write_of}
use Rattle.both_ends.specs.startup.View.{taken_for}
use Rattle.rounds_law.proofs.WriteListed.{all_done, header_for, judged_well, list_response}
use Rattle.rounds_law.proofs.Choices.{and_false}

-- ---- records that a relation keeps

-- The relation with more records.
abbrev pub with_more : List TakenRecord → RelationState → RelationState
with_more more link = with_records (record { taken = link.taken ++ more; passed = link.passed }) link

keeping_is : (parameter : TakenRecord) (link : RelationState) → link.phase ≡ Started → length link.taken < 64
    → keeping parameter (Some link) ≡ Ok (record { taken = link.taken ++ parameter ∷ []; passed = link.passed })
unfolding keep_of
keeping_is parameter link started room =
    let passed : Result Records CallFault = Ok (record { taken = link.taken; passed = passed_more parameter link.passed }) in
    ap (λ (phase : Phase). cond (link.options.records_passed_on && is_exchanging phase) passed (kept_in link.passed (keep_of parameter link.taken))) started
    ∙ ap (λ (b : Bool). cond b passed (kept_in link.passed (keep_of parameter link.taken))) (and_false link.options.records_passed_on)
    ∙ ap (λ (b : Bool). let r : Result Records CallFault = kept_in link.passed (cond b (Ok (link.taken ++ parameter ∷ [])) (Err fault.TooManyRecords)) in r)
    (lt-ltb (length link.taken) 64 room)

module _ (setup : Setup) (number : ℕ) where
  no_texts : (entries : List PlanRecord) → texts_in (judged_well setup number entries) ≡ []
  no_texts [] = refl
  no_texts (entry ∷ entries) = no_texts entries

  link_is : (entries : List PlanRecord) (link : RelationState) → link.phase ≡ Started → length link.taken + length entries ≤ 64
      → link_behind (judged_well setup number entries) (Some link) ≡ Some (with_more (map taken_for entries) link)
  link_is [] link started room =
      ap (λ (taken : List TakenRecord). Some (with_records (record { taken = taken; passed = link.passed }) link)) (sym (append-nil link.taken))
  link_is (entry ∷ entries) link started room =
      let next = with_more (taken_for entry ∷ []) link in
      ap (λ (kept : Result Records CallFault). link_behind (judged_well setup number entries) (updated (taking kept) (Some link)))
      (keeping_is (taken_for entry) link started (omega (arith, room)))
      ∙ (link_is entries next started (omega (arith, room, length-append link.taken (taken_for entry ∷ [])))
      ∙ ap (λ (taken : List TakenRecord). Some (with_records (record { taken = taken; passed = link.passed }) link))
      (append_assoc link.taken (taken_for entry ∷ []) (map taken_for entries)))

  statuses_are : (entries : List PlanRecord) (link : RelationState) → link.phase ≡ Started → length link.taken + length entries ≤ 64
      → statuses_of (judged_well setup number entries) [] (Some link) ≡ all_done setup number entries
  statuses_are [] link started room = refl
  statuses_are (entry ∷ entries) link started room =
      let next = with_more (taken_for entry ∷ []) link in
      let asked = write_of setup number entry in
      ap (λ (kept : Result Records CallFault). (asked, (outcome_of writes (kept_answer asked kept)).0)
      ∷ statuses_of (judged_well setup number entries) [] (updated (taking kept) (Some link)))
      (keeping_is (taken_for entry) link started (omega (arith, room)))
      ∙ ap (λ (others : List (IodWriteReq × Status)). (asked, done) ∷ others)
      (statuses_are entries next started (omega (arith, room, length-append link.taken (taken_for entry ∷ []))))

-- ---- a step

-- A Write that was accepted whole: it is answered with no error and these blocks, and this relation kept these records more.
pub record IsTaken (station : Station) (live : Live) (caller : Caller) (call : Call) (link : RelationState) (more : List TakenRecord)
    (blocks : List ℕ) (step : Stepped) : Type 0 where
  pub octets : List ℕ
  pub is : octets ≡ bytes_of station.identity (CallAnswer caller live.values.running.suite.address (answer_to call done blocks))
  pub frames : step.frames ≡ octets ∷ []
  pub values : step.live.values ≡ live.values
  pub becomes : step.live.rest.link ≡ Some (restarted (partner_of caller) (with_more more link))
  pub stored : step.live.rest.calls
      ≡ kept_more 4 (record { activity = call.header.activity; sequence = call.header.sequence; frame = octets }) live.rest.calls
  pub asked : step.live.rest.asked ≡ live.rest.asked

step_is : (outcomes : List Outcome) (station : Station) (live : Live) (heard : Heard) (what : Handled) → handled station live heard ≡ what
    → heard_step outcomes station live heard ≡ handled_step outcomes station live what
unfolding heard_step
step_is outcomes station live heard what e = ap (λ (h : Handled). handled_step outcomes station live h) e

module _ (outcomes : List Outcome) (station : Station) (live : Live) (caller : Caller) (call : Call) (link : RelationState) (there : live.rest.link ≡ Some link)
    (started : link.phase ≡ Started) where
  -- The answer with these blocks.
  abbrev answer_with : List ℕ → Sent
  answer_with blocks = answer_from live.values.running.suite.address caller call writes (Ok blocks)

  abbrev source : Partner
  source = partner_of caller

  -- ---- one record

  one_step : (request : IodWriteReq) (parameter : TakenRecord) →
      IsTaken station live caller call link (parameter ∷ []) (answer_of request)
      (handled_step outcomes station live
      (Moves (kept_behind station.identity live.rest call (answer_with (answer_of request))
      (Some (restarted source (with_more (parameter ∷ []) link)))) (answer_with (answer_of request) ∷ [])))
  unfolding handled_step
  one_step request parameter = record {
    octets = bytes_of station.identity (answer_with (answer_of request));
    is = refl;
    frames = refl;
    values = refl;
    becomes = refl;
    stored = refl;
    asked = refl;
  }

  one_handled : (request : IodWriteReq) (parameter : TakenRecord) → length link.taken < 64
      → handled_write station live caller call (Ok (One (record { request = request; effect = Keeps parameter })))
      ≡ Moves (kept_behind station.identity live.rest call (answer_with (answer_of request))
      (Some (restarted source (with_more (parameter ∷ []) link)))) (answer_with (answer_of request) ∷ [])
  one_handled request parameter room =
      ap (λ (l : Option RelationState). served station live caller call writes (kept_answer request (keeping parameter l))
      (updated (answered (Named source) (keeping parameter l)) (updated (taking (keeping parameter l)) l)) []) there
      ∙ ap (λ (kept : Result Records CallFault). served station live caller call writes (kept_answer request kept)
      (updated (answered (Named source) kept) (updated (taking kept) (Some link))) []) (keeping_is parameter link started room)

  pub one_taken : (heard : Heard) (request : IodWriteReq) (parameter : TakenRecord) → length link.taken < 64
      → handled station live heard ≡ handled_write station live caller call (Ok (One (record { request = request; effect = Keeps parameter })))
      → IsTaken station live caller call link (parameter ∷ []) (answer_of request) (heard_step outcomes station live heard)
  one_taken heard request parameter room what =
      subst (λ (step : Stepped). IsTaken station live caller call link (parameter ∷ []) (answer_of request) step)
      (sym (step_is outcomes station live heard _ (what ∙ one_handled request parameter room))) (one_step request parameter)

  -- ---- a list

  -- What is carried out of the settings, if nothing is asked of them.
  abbrev nothing_carried : Carried
  nothing_carried = record { values = live.values; answers = []; accepted = [] }

  -- The step of a list, if this was carried out.
  abbrev list_step : IodWriteReq → List Judged → Carried → Stepped
  list_step header judged settled =
      let what = WritesEach caller live.values.running.suite.address call header judged in
      let end = finished station.identity live.rest what settled.answers in
      record {
        live = record { values = settled.values; rest = end.rest };
        sent = end.sent;
        frames = map (bytes_of station.identity) end.sent;
        note = end.note;
        accepted = settled.accepted;
      }

  list_carried : (header : IodWriteReq) (judged : List Judged) → texts_in judged ≡ []
      → handled_step outcomes station live (WritesEach caller live.values.running.suite.address call header judged) ≡ list_step header judged nothing_carried
  unfolding handled_step
  list_carried header judged none = ap (λ (items : List SetItem). list_step header judged (carried outcomes live.values items)) none

  module _ (setup : Setup) (number : ℕ) (entries : List PlanRecord) (room : length link.taken + length entries ≤ 64) where
    abbrev judged : List Judged
    judged = judged_well setup number entries

    abbrev header : IodWriteReq
    header = header_for setup number entries

    blocks_are : several_answer header judged [] live.rest.link ≡ list_response setup number entries
    blocks_are =
        ap (λ (l : Option RelationState). several_answer header judged [] l) there
        ∙ ap (λ (statuses : List (IodWriteReq × Status)). answer_of header ++ outcomes_of statuses) (statuses_are setup number entries link started room)

    each_step : IsTaken station live caller call link (map taken_for entries) (list_response setup number entries) (list_step header judged nothing_carried)
    each_step =
        record {
          octets = bytes_of station.identity (answer_with (several_answer header judged [] live.rest.link));
          is = ap (λ (blocks : List ℕ). bytes_of station.identity (answer_with blocks)) blocks_are;
          frames = refl;
          values = refl;
          becomes = ap (λ (l : Option RelationState). updated (Named source) (link_behind judged l)) there
              ∙ ap (λ (l : Option RelationState). updated (Named source) l) (link_is setup number entries link started room);
          stored = refl;
          asked = refl;
        }

    pub list_taken : (heard : Heard)
        → handled station live heard ≡ WritesEach caller live.values.running.suite.address call header judged
        → IsTaken station live caller call link (map taken_for entries) (list_response setup number entries) (heard_step outcomes station live heard)
    list_taken heard what =
        subst (λ (step : Stepped). IsTaken station live caller call link (map taken_for entries) (list_response setup number entries) step)
        (sym (step_is outcomes station live heard _ what ∙ list_carried header judged (no_texts setup number entries))) each_step
