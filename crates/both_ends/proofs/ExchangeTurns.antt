-- Each turn of a device, as far as the alarms of its relation are concerned.
use Rattle.std.proofs.Common.{◌≡◌, ◌⊎◌, inl, inr, ◌∙◌, ℕ, Bool, true, false, cond, List, Option, Some, None, option_map, Result, Ok, Err, refl, sym, ap, subst}
use Rattle.pn_values.specs.declared.mac.Mac.{Mac}
use Rattle.pn_values.specs.declared.real.RealModule.{RealModule}
use Rattle.diagnosis.specs.declared.reports.priority.Priority.{Priority}
use Rattle.diagnosis.specs.declared.reports.priority.Priority.TheVariants.{High, Low as low_priority}
use Rattle.diagnosis.specs.declared.diagnosis.Diagnosis.{Diagnosis}
use Rattle.diagnosis.specs.alarms.Alarms.{Low}
use Rattle.rpc_core.specs.Cache.{Kept as Answer}
use Rattle.connects.specs.requests.Request.{Request}
use Rattle.pn_alarms.specs.Ends.{DeviceEnd}
use Rattle.cyclic_data.specs.declared.tail.CyclicTail.{CyclicTail}
use Rattle.cyclic_data.specs.declared.tail.ShortFrame.{ShortFrame}
use Rattle.cyclic_data.specs.Tail.{cyclic_of}
use Rattle.cyclic_data.specs.declared.exchange.route.Route.{Route}
use Rattle.cyclic_data.specs.exchange.Cyclic.{Cyclic}
use Rattle.cyclic_data.specs.exchange.Received.{behind_frame as cyclic_behind, behind_read, is_new, is_of_partner, taken_from}
use Rattle.relations.specs.RelationState.{RelationState, is_exchanging}
use Rattle.device_frames.specs.Heard.{Heard}
use Rattle.device_frames.specs.Sent.{Sent}
use Rattle.end_laws.specs.device.Orderly.{keys_of}
use Rattle.end_laws.specs.device.Turn.{AreCalm, Begins, Changes, Diagnoses, HearsAck, HearsData, HearsLowAck, HearsLowData, IsCalm, Makes, Passes, Raises, Standing, standing_of}
use Rattle.end_laws.specs.device.Turn as device

-- ---- the alarm part of a relation

-- the device's ends of alarms, of either priority, whether data is exchanged, by the exchange and by the phase, the stations
-- between which its frames go, the endpoint of its alarms, the request of the Connect, and the slots and subslots of its places
pub record Way : Type 0 where
  pub alarms : DeviceEnd
  pub low : Low
  pub begun : Bool
  pub exchanges : Bool
  pub route : Route
  pub endpoint : ℕ
  pub request : Request
  pub keys : List (ℕ × ℕ)

abbrev pub way_of : RelationState → Way
way_of link = record {
  alarms = link.flow.alarms;
  low = link.flow.low;
  begun = link.flow.cyclic.begun;
  exchanges = is_exchanging link.phase;
  route = link.flow.cyclic.route;
  endpoint = link.flow.endpoint;
  request = link.request;
  keys = keys_of link.plugs.places;
}

-- the device's end of alarms of a priority
abbrev pub end_in : Priority → Way → DeviceEnd
end_in High way = way.alarms
end_in low_priority way = way.low.alarms

abbrev pub end_at : Priority → RelationState → DeviceEnd
end_at priority link = end_in priority (way_of link)

-- ---- the kinds of turns

-- the alarm part of the relation stays the same, or the relation has ended
abbrev pub IsSameOr : Option RelationState → Option RelationState → Type 0
IsSameOr before after = (option_map way_of after ≡ option_map way_of before) ⊎ (after ≡ None)

pub record Stays (before after : Option RelationState) (sent : List Sent) : Type 0 where
  pub link : IsSameOr before after
  pub calm : AreCalm before sent

abbrev pub IsTurn : List RealModule → List RealModule → List Answer → List Diagnosis → List Diagnosis → Option RelationState → Heard → Option RelationState → List Sent → Type 0
IsTurn real now calls diagnoses later before heard after sent =
    Stays before after sent ⊎ (Makes calls before heard after sent ⊎ (Raises real before heard after sent
    ⊎ (HearsAck before heard after sent ⊎ (HearsData before heard after sent ⊎ (Passes before heard after sent
    ⊎ (HearsLowAck before heard after sent ⊎ (HearsLowData before heard after sent ⊎ (Begins real diagnoses before after sent
    ⊎ (Diagnoses real diagnoses later before heard after sent ⊎ Changes real now diagnoses later before heard after sent)))))))))

-- ---- what stays the same

abbrev way_from : Standing → Way
way_from standing =
    record { alarms = standing.alarms; low = standing.low; begun = standing.begun; exchanges = standing.exchanges; route = standing.route; endpoint = standing.endpoint; request = standing.request; keys = standing.keys }

ways_are : (link : Option RelationState) → option_map way_of link ≡ option_map way_from (option_map standing_of link)
ways_are None = refl
ways_are (Some link) = refl

way_same : (before after : Option RelationState) → device.IsSameOr before after → IsSameOr before after
way_same before after (inl same) = inl (ways_are after ∙ (ap (λ (standing : Option Standing). option_map way_from standing) same ∙ sym (ways_are before)))
way_same before after (inr ends) = inr ends

-- a cyclic frame does not change the stations, nor whether data is exchanged
module _ {A : Type 0} (part : Cyclic → A) (keeps : (cyclic : Cyclic) (octets : List ℕ) (tail : CyclicTail) → part (taken_from cyclic octets tail) ≡ part cyclic) where
  read_same : (cyclic : Cyclic) (read : Result (List ℕ × CyclicTail) ShortFrame) → part (behind_read cyclic read) ≡ part cyclic
  read_same cyclic (Ok x) = by_test (is_new cyclic x.1)
    where
      by_test : (b : Bool) → part (cond b (taken_from cyclic x.0 x.1) cyclic) ≡ part cyclic
      by_test true = keeps cyclic x.0 x.1
      by_test false = refl
  read_same cyclic (Err short) = refl

  frame_same : (cyclic : Cyclic) (source : Mac) (frame_id : ℕ) (body : List ℕ) → part (cyclic_behind cyclic source frame_id body) ≡ part cyclic
  frame_same cyclic source frame_id body = by_test (is_of_partner cyclic.route source frame_id)
    where
      by_test : (b : Bool) → part (cond b (behind_read cyclic (cyclic_of cyclic.taken.data_length body)) cyclic) ≡ part cyclic
      by_test true = read_same cyclic (cyclic_of cyclic.taken.data_length body)
      by_test false = refl

pub frame_route : (cyclic : Cyclic) (source : Mac) (frame_id : ℕ) (body : List ℕ) → (cyclic_behind cyclic source frame_id body).route ≡ cyclic.route
frame_route cyclic source frame_id body = frame_same (λ (c : Cyclic). c.route) (λ c octets tail. refl) cyclic source frame_id body

frame_begun : (cyclic : Cyclic) (source : Mac) (frame_id : ℕ) (body : List ℕ) → (cyclic_behind cyclic source frame_id body).begun ≡ cyclic.begun
frame_begun cyclic source frame_id body = frame_same (λ (c : Cyclic). c.begun) (λ c octets tail. refl) cyclic source frame_id body

-- a turn of the device in which an accepted cyclic frame changes nothing of alarms
pub as_alarms : (real now : List RealModule) (calls : List Answer) (diagnoses later : List Diagnosis) (before : Option RelationState) (heard : Heard) (after : Option RelationState) (sent : List Sent)
    → device.IsTurn real now calls diagnoses later before heard after sent → IsTurn real now calls diagnoses later before heard after sent
as_alarms real now calls diagnoses later before heard after sent (inl stays) = inl (record { link = way_same before after stays.link; calm = stays.calm })
as_alarms real now calls diagnoses later before heard after sent (inr (inl makes)) = inr (inl makes)
as_alarms real now calls diagnoses later before heard after sent (inr (inr (inl raises))) = inr (inr (inl raises))
as_alarms real now calls diagnoses later before heard after sent (inr (inr (inr (inl acked)))) = inr (inr (inr (inl acked)))
as_alarms real now calls diagnoses later before heard after sent (inr (inr (inr (inr (inl came))))) = inr (inr (inr (inr (inl came))))
as_alarms real now calls diagnoses later before heard after sent (inr (inr (inr (inr (inr (inl passes)))))) = inr (inr (inr (inr (inr (inl passes)))))
as_alarms real now calls diagnoses later before heard after sent (inr (inr (inr (inr (inr (inr (inl takes))))))) =
    let cyclic = takes.link.flow.cyclic in
    inl (record {
      link = inl (ap (λ (l : Option RelationState). option_map way_of l) takes.becomes
          ∙ (ap (λ (r : Route). let o : Option Way = Some (record (way_of takes.link) { begun = (cyclic_behind cyclic takes.source takes.frame_id takes.body).begun; route = r }) in o) (frame_route cyclic takes.source takes.frame_id takes.body)
          ∙ (ap (λ (b : Bool). let o : Option Way = Some (record (way_of takes.link) { begun = b }) in o) (frame_begun cyclic takes.source takes.frame_id takes.body)
          ∙ ap (λ (l : Option RelationState). option_map way_of l) (sym takes.was))));
      calm = subst (λ (messages : List Sent). AreCalm before messages) (sym takes.silent) tt;
    })
as_alarms real now calls diagnoses later before heard after sent (inr (inr (inr (inr (inr (inr (inr (inl acked)))))))) = inr (inr (inr (inr (inr (inr (inl acked))))))
as_alarms real now calls diagnoses later before heard after sent (inr (inr (inr (inr (inr (inr (inr (inr (inl came))))))))) = inr (inr (inr (inr (inr (inr (inr (inl came)))))))
as_alarms real now calls diagnoses later before heard after sent (inr (inr (inr (inr (inr (inr (inr (inr (inr (inl begins)))))))))) = inr (inr (inr (inr (inr (inr (inr (inr (inl begins))))))))
as_alarms real now calls diagnoses later before heard after sent (inr (inr (inr (inr (inr (inr (inr (inr (inr (inr changes)))))))))) = inr (inr (inr (inr (inr (inr (inr (inr (inr changes))))))))
