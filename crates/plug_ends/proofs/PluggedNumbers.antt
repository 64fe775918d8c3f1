-- The requests beside the exchange of a controller and their numbers, with each of its turns.
use Rattle.std.proofs.Common.{◌≡◌, ◌⊎◌, inl, inr, ◌+◌, ◌%◌, ℕ, Bool, true, false, [], ◌∷◌, Option, Some, None, refl, sym, ap, subst, ◌∙◌}
use Rattle.std.specs.Prelude.{if◌then◌else◌}
use Rattle.pn_alarms.specs.Receiver.{taken_as}
use Rattle.controller_messages.specs.declared.plug_request.PlugRequest.{PlugRequest}
use Rattle.controller_messages.specs.declared.request.Request.{Request}
use Rattle.controller_messages.specs.declared.record_request.RecordRequest.{RecordRequest}
use Rattle.controller_messages.specs.declared.setup.Setup.{Setup}
use Rattle.controller_messages.specs.Access.{Accessing, call_number, unplugged}
use Rattle.controller_messages.specs.PlugRequests.{plug_answer}
use Rattle.controller_messages.specs.Sent.{Agrees}
use Rattle.controller_core.specs.declared.stored.event.Event.{Event}
use Rattle.controller_core.specs.stored.State.{Live}
use Rattle.controller_core.specs.Machine.{Turn, after_turn, asks_next, behind_ack, behind_data, can_begin, end_of, flow_later, is_end_of, plug_readied, stays, taken, turn_of}
use Rattle.network_world.specs.World.{is_ended}
use Rattle.end_laws.specs.turns.Beside.{IsBegun, MayBegin, MayFollow, flow_begun}
use Rattle.end_laws.specs.turns.Turns as kinds
use Rattle.end_laws.specs.turns.Turns.{Came, IsKind, IsStepped, IsTurn, Kind, came_by, turn_by}
use Rattle.plug_ends.proofs.CallsAlone.{end_access, taken_access}
use Rattle.plug_ends.proofs.CallsTurns.{none_some}

-- What waits is the same, or none.
abbrev pub IsSameOr : {A : Type 0} → Option A → Option A → Type 0
IsSameOr before after = (after ≡ before) ⊎ (after ≡ None)

-- No request is made.
pub record NoneIsMade (before after : Accessing) : Type 0 where
  pub calls : after.calls ≡ before.calls
  pub plug : IsSameOr before.plug after.plug
  pub waiting : IsSameOr before.waiting after.waiting

-- One after a plug is made.
pub record IsPlugMade (setup : Setup) (before after : Accessing) : Type 0 where
  pub request : PlugRequest
  pub sequence : request.sequence ≡ call_number setup.plan before.calls
  pub plug : after.plug ≡ Some request
  pub calls : after.calls ≡ (before.calls + 1) % 4294967296
  pub waiting : IsSameOr before.waiting after.waiting

-- One of the application is made.
pub record IsAccessMade (setup : Setup) (before after : Accessing) : Type 0 where
  pub request : RecordRequest
  pub sequence : request.sequence ≡ call_number setup.plan before.calls
  pub waiting : after.waiting ≡ Some request
  pub calls : after.calls ≡ (before.calls + 1) % 4294967296
  pub plug : IsSameOr before.plug after.plug
  pub none : after.plug ≡ None

abbrev pub Numbers : Setup → Accessing → Accessing → Type 0
Numbers setup before after = NoneIsMade before after ⊎ (IsPlugMade setup before after ⊎ IsAccessMade setup before after)

-- A call of the start-up was refused as busy: its next try, which waits from now on, is counted, and no request beside the exchange is made.
pub record IsTryMade (before after : Live) : Type 0 where
  pub request : Request
  pub asked : after.asked ≡ Some request
  pub calls : after.access.calls ≡ (before.access.calls + 1) % 4294967296
  pub plug : after.access.plug ≡ before.access.plug
  pub waiting : after.access.waiting ≡ before.access.waiting

abbrev pub Counts : Setup → Live → Live → Type 0
Counts setup before after = Numbers setup before.access after.access ⊎ IsTryMade before after

same_none : (before after : Accessing) → after ≡ before → NoneIsMade before after
same_none before after same = record {
  calls = ap (λ (a : Accessing). a.calls) same;
  plug = inl (ap (λ (a : Accessing). a.plug) same);
  waiting = inl (ap (λ (a : Accessing). a.waiting) same);
}

true_false : true ≡ false → ⊥
true_false e = absurd cc

module _ (setup : Setup) (follows : (could : Bool) (turn : Turn) → MayFollow setup turn (after_turn setup could turn))
    (flows : (live : Live) → MayBegin setup (flow_later live) (flow_begun setup live)) where
  -- a turn of a place begins after a turn that made none
  begun_made : (first : Accessing) (before after : Live) → NoneIsMade first before.access → IsBegun setup before after → IsPlugMade setup first after.access
  begun_made first before after none begun = record {
    request = begun.request;
    sequence = begun.numbered ∙ ap (λ (calls : ℕ). call_number setup.plan calls) none.calls;
    plug = ap (λ (a : Accessing). a.plug) begun.access;
    calls = ap (λ (a : Accessing). a.calls) begun.access ∙ ap (λ (calls : ℕ). (calls + 1) % 4294967296) none.calls;
    waiting = subst (λ (a : Accessing). IsSameOr first.waiting a.waiting) (sym begun.access) none.waiting;
  }

  followed_none : (first : Accessing) (could : Bool) (turn : Turn) → NoneIsMade first turn.live.access
      → Numbers setup first (after_turn setup could turn).live.access
  followed_none first could turn none = by_follow (follows could turn)
    where
      by_follow : MayFollow setup turn (after_turn setup could turn) → Numbers setup first (after_turn setup could turn).live.access
      by_follow (inl same) = inl (subst (λ (t : Turn). NoneIsMade first t.live.access) (sym same) none)
      by_follow (inr more) = inr (inl (begun_made first turn.live (after_turn setup could turn).live none more.begun))

  followed_made : (first : Accessing) (could : Bool) (turn : Turn) → IsPlugMade setup first turn.live.access
      → Numbers setup first (after_turn setup could turn).live.access
  followed_made first could turn made = by_follow (follows could turn)
    where
      by_follow : MayFollow setup turn (after_turn setup could turn) → Numbers setup first (after_turn setup could turn).live.access
      by_follow (inl same) = inr (inl (subst (λ (t : Turn). IsPlugMade setup first t.live.access) (sym same) made))
      by_follow (inr more) = absurd (none_some made.request (sym more.begun.plug ∙ made.plug))

  flow_numbers : (live : Live) → Numbers setup live.access (flow_begun setup live).access
  flow_numbers live = by_begin (flows live)
    where
      by_begin : MayBegin setup (flow_later live) (flow_begun setup live) → Numbers setup live.access (flow_begun setup live).access
      by_begin (inl same) = inl (same_none live.access (flow_begun setup live).access (ap (λ (l : Live). l.access) same))
      by_begin (inr begun) =
          inr (inl (begun_made live.access (flow_later live) (flow_begun setup live) (same_none live.access (flow_later live).access refl) begun))

  unplugged_if : (b : Bool) (access : Accessing) → NoneIsMade access (if b then unplugged access else access)
  unplugged_if true access = record { calls = refl; plug = inr refl; waiting = inl refl }
  unplugged_if false access = record { calls = refl; plug = inl refl; waiting = inl refl }

  stepped_numbers : (live : Live) (access : Accessing) (turn : Turn) → turn.live.access ≡ access → IsStepped setup live access
      → Numbers setup live.access (after_turn setup (can_begin live) turn).live.access
  stepped_numbers live access turn is (inl none) =
      followed_none live.access (can_begin live) turn
      (subst (λ (a : Accessing). NoneIsMade live.access a) (sym (is ∙ none)) (record { calls = refl; plug = inr refl; waiting = inl refl }))
  stepped_numbers live access turn is (inr made) =
      followed_made live.access (can_begin live) turn
      (subst (λ (a : Accessing). IsPlugMade setup live.access a) (sym (is ∙ made.2))
      (record { request = made.0; sequence = made.1; plug = refl; calls = refl; waiting = inl refl }))

  abbrev Same : Live → Type 0
  Same live = Numbers setup live.access live.access

  same : (live : Live) → Same live
  same live = inl (record { calls = refl; plug = inl refl; waiting = inl refl })

  -- a call that is refused as busy is the only one of the start-up that is counted
  kind_counts : (live : Live) (came : Came) (kind : Kind) → IsKind setup live came kind → is_ended (turn_by setup live kind).live.phase ≡ false
      → Counts setup live (turn_by setup live kind).live
  kind_counts live came (kinds.Tries next status) holds going =
      inr (record { request = next; asked = refl; calls = refl; plug = refl; waiting = refl })
  kind_counts live came kinds.Rests holds going = inl (same live)
  kind_counts live came (kinds.Connects source) holds going = inl (same live)
  kind_counts live came (kinds.Addresses source) holds going = inl (same live)
  kind_counts live came (kinds.Ends cause refusal refused units) holds going = absurd (true_false going)
  kind_counts live came (kinds.Releases cause refusal refused units) holds going = absurd (true_false going)
  kind_counts live came (kinds.Relates places chosen) holds going = inl (same live)
  kind_counts live came (kinds.Writes number tries) holds going = inl (same live)
  kind_counts live came (kinds.Skips number tries refused status) holds going = inl (same live)
  kind_counts live came (kinds.Waits tries) holds going = inl (same live)
  kind_counts live came kinds.Forgets holds going = inl (same live)
  kind_counts live came (kinds.Begins caller call block) holds going = inl (same live)
  kind_counts live came (kinds.Repeats caller call block) holds going = inl (same live)
  kind_counts live came (kinds.Follows source frame_id body) holds going = inl (same live)
  kind_counts live came (kinds.Takes number report) holds going =
      inl (let turn = taken (behind_data live report.priority number) report (taken_as (end_of live report.priority).seen number) in
      followed_none live.access (can_begin live) turn
      (same_none live.access turn.live.access
      (taken_access (behind_data live report.priority number) report (taken_as (end_of live report.priority).seen number) ∙ end_access live report.priority _)))
  kind_counts live came (kinds.IsAcked priority number) holds going =
      inl (inl (same_none live.access (behind_ack live priority number).access (end_access live priority _)))
  kind_counts live came (kinds.Gives slot subslot value) holds going = inl (same live)
  kind_counts live came (kinds.GivesStatus slot subslot is_good) holds going = inl (same live)
  kind_counts live came (kinds.Asks request octets) holds going =
      inl (inr (inr (record { request = request; sequence = holds.2; waiting = refl; calls = refl; plug = inl refl; none = holds.4 })))
  kind_counts live came (kinds.IsReplied refusal access) holds going =
      inl (followed_none live.access (can_begin live) (stays (record live { refusal = refusal; access = access }))
      (record { calls = holds.2; plug = inr holds.6; waiting = inr holds.1 }))
  kind_counts live came (kinds.IsPlugAnswered refusal refused waited places access) holds going =
      inl (stepped_numbers live access
      (asks_next (record live { refusal = refusal; refused_record = refused; waited = waited; places = places; access = access })) refl holds.3)
  kind_counts live came (kinds.IsPlugReadied caller call block) holds going =
      inl (followed_none live.access (can_begin live)
      (record { live = plug_readied live block.alarm_sequence_number; sent = Agrees caller (plug_answer call block) ∷ [] })
      (unplugged_if (is_end_of block.alarm_sequence_number live.access.plug) live.access))
  kind_counts live came kinds.Flows holds going = inl (flow_numbers live)
  kind_counts live came (kinds.Breaks reason) holds going = absurd (true_false going)
  kind_counts live came kinds.Idles holds going = inl (same live)

  -- with each turn, unless the controller has ended
  pub event_numbers : (live : Live) (one : Event) → IsTurn setup live (came_by setup one) (turn_of setup live one)
      → is_ended (turn_of setup live one).live.phase ≡ false → Counts setup live (turn_of setup live one).live
  event_numbers live one turn going =
      subst (λ (t : Turn). Counts setup live t.live) (sym turn.is)
      (kind_counts live (came_by setup one) turn.kind turn.holds (subst (λ (t : Turn). is_ended t.live.phase ≡ false) turn.is going))
