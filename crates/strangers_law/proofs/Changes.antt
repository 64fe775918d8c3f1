-- What changes a relation of a device leaves its numbers and its clocks, or ends it.
use Rattle.std.proofs.Common.{◌≡◌, ℕ, Bool, true, false, List, [], ◌∷◌, Option, Some, None, option_map, Result, Ok, Err, refl, ◌∙◌}
use Rattle.std.proofs.lemmas.Bool.{cond_both}
use Rattle.pn_values.specs.declared.mac.Mac.{Mac}
use Rattle.pn_values.specs.declared.real.RealModule.{RealModule}
use Rattle.rpc_core.specs.Response.{Answered}
use Rattle.connect_blocks.specs.declared.plug_control.PlugControlBlock.{PlugControlBlock}
use Rattle.expected_places.specs.Machine.{next_called}
use Rattle.records.specs.declared.status.call_fault.CallFault.{CallFault}
use Rattle.records.specs.declared.writes.write.Effect.{Effect}
use Rattle.records.specs.declared.writes.write.Effect.TheVariants.{Stores, Keeps}
use Rattle.records.specs.declared.writes.write.Write.{Write}
use Rattle.pn_alarms.specs.declared.device.PduFate.{PduFate}
use Rattle.pn_alarms.specs.declared.device.PduFate.TheVariants as fate
use Rattle.pn_alarms.specs.Device.{heard_as}
use Rattle.pn_alarms.specs.Message.{ToDevice}
use Rattle.diagnosis.specs.declared.diagnosis.Diagnosis.{Diagnosis}
use Rattle.cyclic_data.specs.declared.exchange.received.Received.{Received}
use Rattle.cyclic_data.specs.declared.exchange.received.Received.TheVariants as received
use Rattle.cyclic_data.specs.declared.tail.CyclicTail.{CyclicTail}
use Rattle.cyclic_data.specs.declared.tail.ShortFrame.{ShortFrame}
use Rattle.cyclic_data.specs.Tail.{cyclic_of}
use Rattle.cyclic_data.specs.Timing.{heard, Hearing, is_taken}
use Rattle.cyclic_data.specs.exchange.Cyclic.{Cyclic as CyclicEnd}
use Rattle.cyclic_data.specs.exchange.Received.{behind_frame as cyclic_behind, behind_read, is_new, is_of_partner}
use Rattle.relations.specs.declared.phase.Partner.{Partner}
use Rattle.relations.specs.exchange.Notices.{behind_message}
use Rattle.relations.specs.exchange.Received.{behind_frame, received_as}
use Rattle.relations.specs.Diagnosed.{beginning, hearing_low, reporting}
use Rattle.relations.specs.Exchanged.{hearing, hearing_as, receiving, receiving_as}
use Rattle.relations.specs.Phases.{Confirmed, Handled as Event, Named, Parameterized, Records, answered, keeping, phase_behind}
use Rattle.relations.specs.Phases.{parameterized_from, restarted, taking, updated, with_records}
use Rattle.relations.specs.declared.plugging.PlugAnswer.{PlugAnswer}
use Rattle.relations.specs.declared.plugging.PlugAnswer.TheVariants as to_plug
use Rattle.relations.specs.Plugging.{answered_with, calling_next, ended_by, plug_answer_in, plug_answering, plug_ended}
use Rattle.relations.specs.RelationState.{RelationState}
use Rattle.device_core.specs.Modules.{calling_after}
use Rattle.rpc_core.specs.declared.response.Status.{Status}
use Rattle.device_core.specs.Several.{Judged}
use Rattle.device_core.specs.Machine.{effect_link, link_behind, one_link}
use Rattle.relations.specs.Timers.{is_timed}
use Rattle.strangers_law.specs.Silence.{IsTimed}

-- ---- what moves a relation

-- A relation is known by the same numbers as before, and its clocks are still those of its request.
pub record IsSame (link next : RelationState) : Type 0 where
  pub request : next.request ≡ link.request
  pub route : next.flow.cyclic.route ≡ link.flow.cyclic.route
  pub endpoint : next.flow.endpoint ≡ link.flow.endpoint
  pub timed : IsTimed link → IsTimed next

-- The relation has ended, or is the same.
abbrev pub Stays : Option RelationState → Option RelationState → Type 0
Stays link None = Unit {0}
Stays None (Some next) = ⊥
Stays (Some link) (Some next) = IsSame link next

same_as_is : (link : RelationState) → IsSame link link
same_as_is link = record { request = refl; route = refl; endpoint = refl; timed = λ is. is }

pub stays : (link : Option RelationState) → Stays link link
stays None = tt
stays (Some link) = same_as_is link

pub stays_both : (one two three : Option RelationState) → Stays one two → Stays two three → Stays one three
stays_both one two None a b = tt
stays_both one None (Some next) a b = absurd b
stays_both None (Some l) (Some next) a b = absurd a
stays_both (Some link) (Some l) (Some next) a b =
    record { request = b.request ∙ a.request; route = b.route ∙ a.route; endpoint = b.endpoint ∙ a.endpoint; timed = λ is. b.timed (a.timed is) }

stays_map : (change : RelationState → RelationState) → ((l : RelationState) → IsSame l (change l)) → (link : Option RelationState)
    → Stays link (option_map change link)
stays_map change keeps None = tt
stays_map change keeps (Some l) = keeps l

pub stays_named : (source : Partner) (link : Option RelationState) → Stays link (updated (Named source) link)
stays_named source link =
    stays_map (restarted source) (λ l. record { request = refl; route = refl; endpoint = refl; timed = λ is. record { runs = is.runs; limit = is.limit } }) link

pub stays_answered : {A : Type 0} (what : Event) (result : Result A CallFault) (link : Option RelationState) → Stays link (updated what link)
    → Stays link (updated (answered what result) link)
stays_answered what (Ok answer) link one = one
stays_answered what (Err why) link one = stays link

pub stays_taking : (result : Result Records CallFault) (link : Option RelationState) → Stays link (updated (taking result) link)
stays_taking (Ok records) link =
    stays_map (with_records records)
    (λ l. record { request = refl; route = refl; endpoint = refl; timed = λ is. record { runs = is.runs; limit = is.limit } }) link
stays_taking (Err why) link = stays link

stays_effect : (effect : Effect) (link : Option RelationState) → Stays link (effect_link effect link)
stays_effect (Stores value) link = stays link
stays_effect (Keeps parameter) link = stays_taking (keeping parameter link) link

stays_one : (result : Result Write Status) (link : Option RelationState) → Stays link (one_link result link)
stays_one (Ok write) link = stays_effect write.effect link
stays_one (Err status) link = stays link

pub stays_each : (judged : List Judged) (link : Option RelationState) → Stays link (link_behind judged link)
stays_each [] link = stays link
stays_each (one ∷ others) link = stays_both link (one_link one.1 link) (link_behind others (one_link one.1 link)) (stays_one one.1 link)
    (stays_each others (one_link one.1 link))

pub stays_parameterized : (by_application : Bool) (link : Option RelationState) → Stays link (updated (Parameterized by_application) link)
stays_parameterized by_application link = stays_map (parameterized_from by_application) (λ l. record {
  request = refl;
  route = refl;
  endpoint = refl;
  timed = λ is. record { runs = λ exchanges. absurd (never by_application exchanges); limit = is.limit };
}) link
  where
    never : (b : Bool) → is_timed (phase_behind b) ≡ false → ⊥
    never true e = cc
    never false e = cc

pub stays_confirmed : (real : List RealModule) (diagnoses : List Diagnosis) (link : Option RelationState)
    → Stays link (updated (beginning real diagnoses (updated Confirmed link)) (updated Confirmed link))
stays_confirmed real diagnoses None = tt
stays_confirmed real diagnoses (Some link) =
    record { request = refl; route = refl; endpoint = refl; timed = λ is. record { runs = λ exchanges. refl; limit = is.limit } }

-- ---- the parameters after a plug

pub stays_ended : (by_application : Bool) (result : Result PlugControlBlock CallFault) (link : Option RelationState) → Stays link (ended_by by_application result link)
stays_ended by_application (Ok block) link =
    stays_map (plug_ended by_application block)
    (λ l. record { request = refl; route = refl; endpoint = refl; timed = λ is. record { runs = is.runs; limit = is.limit } }) link
stays_ended by_application (Err why) link = stays link

pub stays_calling : (link : Option RelationState) → Stays link (calling_next link)
stays_calling link =
    stays_map (λ l. record l { plugs = next_called l.plugs })
    (λ l. record { request = refl; route = refl; endpoint = refl; timed = λ is. record { runs = is.runs; limit = is.limit } }) link

pub stays_called : {A : Type 0} (result : Result A CallFault) (link : Option RelationState) → Stays link (calling_after result link)
stays_called (Ok it) link = stays_calling link
stays_called (Err why) link = stays link

same_answered : (heard : PlugAnswer) (link : RelationState) → IsSame link (answered_with heard link)
same_answered to_plug.NotWanted link = record { request = refl; route = refl; endpoint = refl; timed = λ is. record { runs = is.runs; limit = is.limit } }
same_answered to_plug.Garbled link = record { request = refl; route = refl; endpoint = refl; timed = λ is. record { runs = is.runs; limit = is.limit } }
same_answered to_plug.Confirmed link = record { request = refl; route = refl; endpoint = refl; timed = λ is. record { runs = is.runs; limit = is.limit } }
same_answered to_plug.Refused link = record { request = refl; route = refl; endpoint = refl; timed = λ is. record { runs = is.runs; limit = is.limit } }

pub stays_plug_answered : (response : Answered) (link : Option RelationState) → Stays link (plug_answering response link)
stays_plug_answered response link = stays_map (answered_with (plug_answer_in response link)) (same_answered (plug_answer_in response link)) link

-- ---- a cyclic frame

heard_limit : (hearing : Hearing) (counter data_status transfer_status : ℕ) → (heard hearing counter data_status transfer_status).limit ≡ hearing.limit
heard_limit hearing counter data_status transfer_status =
    cond_both (is_taken hearing.last counter data_status transfer_status) _ _ (λ (h : Hearing). h.limit ≡ hearing.limit) (λ _. refl) (λ _. refl)

module _ (cyclic : CyclicEnd) where
  -- The route and the clocks are the same.
  record AreSame (after : CyclicEnd) : Type 0 where
    route : after.route ≡ cyclic.route
    begun : after.begun ≡ cyclic.begun
    limit : after.hearing.limit ≡ cyclic.hearing.limit

  read_same : (read : Result (List ℕ × CyclicTail) ShortFrame) → AreSame (behind_read cyclic read)
  read_same (Ok x) = cond_both (is_new cyclic x.1) _ _ AreSame
      (λ _. record { route = refl; begun = refl; limit = heard_limit cyclic.hearing x.1.counter x.1.data_status.0 x.1.transfer_status })
      (λ _. record { route = refl; begun = refl; limit = refl })
  read_same (Err short) = record { route = refl; begun = refl; limit = refl }

  frame_same : (source : Mac) (frame_id : ℕ) (body : List ℕ) → AreSame (cyclic_behind cyclic source frame_id body)
  frame_same source frame_id body = cond_both (is_of_partner cyclic.route source frame_id) _ _ AreSame
      (λ _. read_same (cyclic_of cyclic.taken.data_length body)) (λ _. record { route = refl; begun = refl; limit = refl })

pub stays_receiving : (source : Mac) (frame_id : ℕ) (body : List ℕ) (link : Option RelationState)
    → Stays link (updated (receiving source frame_id body link) link)
stays_receiving source frame_id body None = tt
stays_receiving source frame_id body (Some link) = by_received (received_as link.flow source frame_id body)
  where
    by_received : (what : Received) → Stays (Some link) (updated (receiving_as what (behind_frame link.flow source frame_id body)) (Some link))
    by_received received.Foreign = same_as_is link
    by_received received.Short = same_as_is link
    by_received received.Stale = same_as_is link
    by_received received.Taken =
        let same = frame_same link.flow.cyclic source frame_id body in
        record {
          request = refl;
          route = same.route;
          endpoint = refl;
          timed = λ is. record { runs = λ exchanges. same.begun ∙ is.runs exchanges; limit = same.limit ∙ is.limit };
        }

-- ---- alarms

pub stays_hearing : (message : ToDevice) (link : Option RelationState) → Stays link (updated (hearing message link) link)
stays_hearing message None = tt
stays_hearing message (Some link) = by_fate (heard_as link.flow.alarms message)
  where
    by_fate : (what : PduFate) → Stays (Some link) (updated (hearing_as what (behind_message link.flow message)) (Some link))
    by_fate (fate.Data taken) = record { request = refl; route = refl; endpoint = refl; timed = λ is. record { runs = is.runs; limit = is.limit } }
    by_fate fate.Done = record { request = refl; route = refl; endpoint = refl; timed = λ is. record { runs = is.runs; limit = is.limit } }
    by_fate fate.Ignored = same_as_is link
    by_fate (fate.Aborted status) = tt

pub stays_low : (message : ToDevice) (link : Option RelationState) → Stays link (updated (hearing_low message link) link)
stays_low message None = tt
stays_low message (Some link) = record { request = refl; route = refl; endpoint = refl; timed = λ is. record { runs = is.runs; limit = is.limit } }

pub stays_reporting : (link : Option RelationState) → Stays link (updated (reporting link) link)
stays_reporting None = tt
stays_reporting (Some link) = record { request = refl; route = refl; endpoint = refl; timed = λ is. record { runs = is.runs; limit = is.limit } }
