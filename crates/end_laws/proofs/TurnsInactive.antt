-- A turn that does not concern alarms: it leaves those of a controller unchanged, and sends no AlarmAck.
use Rattle.std.proofs.Common.{◌≡◌, inl, inr, ℕ, Bool, true, false, List, [], ◌∷◌, ◌++◌, Option, Some, None, refl, sym, ap, subst, ◌∙◌}
use Rattle.std.specs.Prelude.{if◌then◌else◌, is_some, slice_get}
use Rattle.std.specs.List.{AllByRecursion}
use Rattle.pn_values.specs.declared.mac.Mac.{Mac}
use Rattle.record_blocks.specs.declared.alarm_ack.AlarmAck.{AlarmAck}
use Rattle.pn_alarms.specs.declared.message.Notice.TheVariants as notice
use Rattle.pn_alarms.specs.declared.pdu.Header.{Header}
use Rattle.diagnosis.specs.declared.reports.priority.Priority.{Priority}
use Rattle.diagnosis.specs.declared.reports.priority.Priority.TheVariants.{High, Low}
use Rattle.controller_messages.specs.declared.plug_request.PlugRequest.{PlugRequest}
use Rattle.controller_messages.specs.declared.record_request.RecordRequest.{RecordRequest}
use Rattle.controller_messages.specs.declared.setup.Setup.{Setup}
use Rattle.controller_messages.specs.declared.request.Request.{Request}
use Rattle.controller_messages.specs.Heard.{Alarms}
use Rattle.controller_messages.specs.PlugRequests.{plug_answer}
use Rattle.controller_messages.specs.Sent.{Sent, Agrees, Confirms, Parametrizes}
use Rattle.controller_core.specs.stored.State.{Live}
use Rattle.controller_core.specs.Machine.{Turn, accesses_by, accesses_of, after_turn, asks_next, can_begin, end_of, outputs_of, pending_by, plug_readied, plugs_by, plugs_of, requests_of, stays, where_due}
use Rattle.end_laws.specs.turns.Alarms.{is_priority, shown_of}
use Rattle.end_laws.specs.turns.Beside.{MayFollow}
use Rattle.end_laws.specs.turns.Turns.{Came, Hears, Passes, IsKind, Kind, Rests, Connects, Addresses, Ends, Releases, Relates, Writes, Skips, Tries, Waits, Forgets, Begins, Repeats, Follows, Takes, IsAcked, Gives, GivesStatus, Asks, IsReplied, IsPlugAnswered, IsPlugReadied, Flows, Breaks, Idles, turn_by, turn_for}
use Rattle.end_laws.proofs.TurnsBeside.{follows}
use Rattle.end_laws.proofs.TurnsOneTurn.{turn_is}

-- ---- whether a message is of what a controller sent

-- An AlarmAck of this priority is among these PDUs. Any other message does not concern the alarms of this priority.
abbrev pub IsOneOf : Bool → List (ℕ × AlarmAck) → Header → AlarmAck → Type 0
IsOneOf true pdus header ack = (k : ℕ) × (slice_get pdus k ≡ Some (header.send_number, ack))
IsOneOf false pdus header ack = Unit {0}

abbrev pub IsThere : Priority → List (ℕ × AlarmAck) → Sent → Type 0
IsThere priority pdus (Confirms route other header ack) = IsOneOf (is_priority priority other) pdus header ack
IsThere priority pdus message = Unit {0}

-- ---- messages without an AlarmAck

abbrev pub IsNoAck : Sent → Type 0
IsNoAck (Confirms route priority header ack) = ⊥
IsNoAck message = Unit {0}

no_ack_there : (priority : Priority) (pdus : List (ℕ × AlarmAck)) (message : Sent) → IsNoAck message → IsThere priority pdus message
no_ack_there priority pdus (Confirms route other header ack) none = absurd none
no_ack_there priority pdus message none = tt

pub no_acks_there : (priority : Priority) (pdus : List (ℕ × AlarmAck)) (messages : List Sent) → AllByRecursion IsNoAck messages → AllByRecursion (IsThere priority pdus) messages
no_acks_there priority pdus [] none = tt
no_acks_there priority pdus (message ∷ messages) none = (no_ack_there priority pdus message none.0, no_acks_there priority pdus messages none.1)

-- ---- a turn

-- The alarms of either priority stay the same.
pub record IsInactive (live : Live) (turn : Turn) : Type 0 where
  pub high : turn.live.alarms ≡ live.alarms
  pub low : turn.live.low_alarms ≡ live.low_alarms
  pub alarm : turn.live.alarm ≡ live.alarm
  pub low_alarm : turn.live.low_alarm ≡ live.low_alarm
  pub sent : AllByRecursion IsNoAck turn.sent

pub inactive_stays : (live : Live) → IsInactive live (stays live)
inactive_stays live = record { high = refl; low = refl; alarm = refl; low_alarm = refl; sent = tt }

-- The turn of a place that begins afterwards does not concern alarms either.
no_acks_more : (one other : List Sent) → AllByRecursion IsNoAck one → AllByRecursion IsNoAck other → AllByRecursion IsNoAck (one ++ other)
no_acks_more [] other none more = more
no_acks_more (message ∷ one) other none more = (none.0, no_acks_more one other none.1 more)

follows_inactive : (setup : Setup) (live : Live) (turn after : Turn) → MayFollow setup turn after → IsInactive live turn → IsInactive live after
follows_inactive setup live turn after (inl e) is = subst (λ (t : Turn). IsInactive live t) (sym e) is
follows_inactive setup live turn after (inr followed) is =
    let beside = followed.begun.beside in
    record {
      high = ap (λ (l : Live). l.alarms) beside ∙ is.high;
      low = ap (λ (l : Live). l.low_alarms) beside ∙ is.low;
      alarm = ap (λ (l : Live). l.alarm) beside ∙ is.alarm;
      low_alarm = ap (λ (l : Live). l.low_alarm) beside ∙ is.low_alarm;
      sent = subst (λ (messages : List Sent). AllByRecursion IsNoAck messages) (sym followed.sent)
          (no_acks_more turn.sent (Parametrizes turn.live.device followed.begun.request ∷ []) is.sent (tt, tt));
    }

after_inactive : (setup : Setup) (live : Live) (turn : Turn) → IsInactive live turn → IsInactive live (after_turn setup (can_begin live) turn)
after_inactive setup live turn is = follows_inactive setup live turn (after_turn setup (can_begin live) turn) (follows setup (can_begin live) turn) is

-- The request after a plug is no AlarmAck.
plugs_no_ack : (device : Mac) (plug : Option PlugRequest) → AllByRecursion IsNoAck (plugs_by device plug)
plugs_no_ack device None = tt
plugs_no_ack device (Some request) = (tt, tt)

-- The alarms of one priority stay the same.
pub record IsInactiveAt (priority : Priority) (live : Live) (turn : Turn) : Type 0 where
  pub end : end_of turn.live priority ≡ end_of live priority
  pub shown : shown_of priority turn.live ≡ shown_of priority live
  pub sent : (pdus : List (ℕ × AlarmAck)) → AllByRecursion (IsThere priority pdus) turn.sent

pub at_priority : (priority : Priority) (live : Live) (turn : Turn) → IsInactive live turn → IsInactiveAt priority live turn
at_priority High live turn is = record { end = is.high; shown = is.alarm; sent = λ pdus. no_acks_there High pdus turn.sent is.sent }
at_priority Low live turn is = record { end = is.low; shown = is.low_alarm; sent = λ pdus. no_acks_there Low pdus turn.sent is.sent }

-- What does not concern the active alarms: neither an alarm, nor an ACK, nor a unit.
abbrev pub IsPlain : Came → Type 0
IsPlain (Hears (Alarms source under header (notice.Data number report))) = ⊥
IsPlain (Hears (Alarms source under header (notice.Ack number))) = ⊥
IsPlain Passes = ⊥
IsPlain _ = Unit {0}

module _ (setup : Setup) (live : Live) (came : Came) (plain : IsPlain came) where
  -- Neither an alarm, nor an ACK, nor a unit came.
  not_so : (other : Came) → (IsPlain other → ⊥) → came ≡ other → ⊥
  not_so other never e = never (subst (λ (c : Came). IsPlain c) e plain)

  inactive_by : (kind : Kind) → IsKind setup live came kind → IsInactive live (turn_by setup live kind)
  inactive_by Rests holds = inactive_stays live
  inactive_by (Connects source) holds = record { high = refl; low = refl; alarm = refl; low_alarm = refl; sent = (tt, tt) }
  inactive_by (Addresses source) holds = record { high = refl; low = refl; alarm = refl; low_alarm = refl; sent = (tt, tt) }
  inactive_by (Ends cause refusal refused units) holds = record { high = refl; low = refl; alarm = refl; low_alarm = refl; sent = tt }
  inactive_by (Releases cause refusal refused units) holds = record { high = refl; low = refl; alarm = refl; low_alarm = refl; sent = (tt, tt) }
  inactive_by (Relates places chosen) holds = record { high = refl; low = refl; alarm = refl; low_alarm = refl; sent = (tt, tt) }
  inactive_by (Tries next status) holds = record { high = refl; low = refl; alarm = refl; low_alarm = refl; sent = tt }
  inactive_by (Writes number tries) holds = record { high = refl; low = refl; alarm = refl; low_alarm = refl; sent = (tt, tt) }
  inactive_by (Skips number tries refused status) holds = record { high = refl; low = refl; alarm = refl; low_alarm = refl; sent = (tt, tt) }
  inactive_by (Waits tries) holds = record { high = refl; low = refl; alarm = refl; low_alarm = refl; sent = tt }
  inactive_by Forgets holds = record { high = refl; low = refl; alarm = refl; low_alarm = refl; sent = tt }
  inactive_by (Begins caller call block) holds = record { high = refl; low = refl; alarm = refl; low_alarm = refl; sent = (tt, tt) }
  inactive_by (Repeats caller call block) holds = record { high = refl; low = refl; alarm = refl; low_alarm = refl; sent = (tt, tt) }
  inactive_by (Follows source frame_id body) holds = record { high = refl; low = refl; alarm = refl; low_alarm = refl; sent = tt }
  inactive_by (Gives slot subslot value) holds = record { high = refl; low = refl; alarm = refl; low_alarm = refl; sent = tt }
  inactive_by (GivesStatus slot subslot is_good) holds = record { high = refl; low = refl; alarm = refl; low_alarm = refl; sent = tt }
  inactive_by (Asks request octets) holds = record { high = refl; low = refl; alarm = refl; low_alarm = refl; sent = (tt, tt) }
  inactive_by (IsReplied refusal access) holds =
      after_inactive setup live (stays (record live { refusal = refusal; access = access })) (record { high = refl; low = refl; alarm = refl; low_alarm = refl; sent = tt })
  inactive_by (IsPlugAnswered refusal refused waited places access) holds =
      after_inactive setup live
      (asks_next (record live { refusal = refusal; refused_record = refused; waited = waited; places = places; access = access }))
      (record { high = refl; low = refl; alarm = refl; low_alarm = refl; sent = plugs_no_ack live.device access.plug })
  inactive_by (IsPlugReadied caller call block) holds =
      after_inactive setup live (record { live = plug_readied live block.alarm_sequence_number; sent = Agrees caller (plug_answer call block) ∷ [] })
      (record { high = refl; low = refl; alarm = refl; low_alarm = refl; sent = (tt, tt) })
  inactive_by (Takes number report) holds = absurd (not_so (Hears (Alarms holds.1 holds.2 holds.3 (notice.Data number report))) (λ none. none) holds.4)
  inactive_by (IsAcked priority number) holds = absurd (not_so (Hears (Alarms holds.1 holds.2 holds.3 (notice.Ack number))) (λ none. none) holds.4)
  inactive_by Flows holds = absurd (not_so Passes (λ none. none) holds.0)
  inactive_by (Breaks reason) holds = absurd (not_so Passes (λ none. none) holds.0)
  inactive_by Idles holds = absurd (not_so Passes (λ none. none) holds.0)

  pub turn_inactive : IsInactive live (turn_for setup live came)
  turn_inactive =
      let turn = turn_is setup live came in
      subst (λ (t : Turn). IsInactive live t) (sym turn.is) (inactive_by turn.kind turn.holds)

-- ---- units

pub requests_no_ack : (device : Mac) (asked : Option Request) (is : Bool) → AllByRecursion IsNoAck (where_due is (requests_of device asked))
requests_no_ack device None true = tt
requests_no_ack device None false = tt
requests_no_ack device (Some request) true = (tt, tt)
requests_no_ack device (Some request) false = tt

accesses_no_ack : (device : Mac) (octets : List ℕ) (waiting : Option RecordRequest) → AllByRecursion IsNoAck (accesses_by device octets waiting)
accesses_no_ack device octets None = tt
accesses_no_ack device octets (Some request) = (tt, tt)

beside_no_ack : (live : Live) (is_plug : Bool) → AllByRecursion IsNoAck (if is_plug then plugs_of live else accesses_of live)
beside_no_ack live true = plugs_no_ack live.device live.access.plug
beside_no_ack live false = accesses_no_ack live.device live.access.octets live.access.waiting

pub pending_no_ack : (live : Live) (asked : Option Request) (is : Bool) → AllByRecursion IsNoAck (where_due is (pending_by live asked))
pending_no_ack live asked false = tt
pending_no_ack live (Some request) true = (tt, tt)
pending_no_ack live None true = beside_no_ack live (is_some live.access.plug)

pub outputs_no_ack : (live : Live) (is : Bool) → AllByRecursion IsNoAck (where_due is (outputs_of live))
outputs_no_ack live true = (tt, tt)
outputs_no_ack live false = tt
