-- The rest after an event that is logged.
use Rattle.std.proofs.Common.{◌≡◌, List, ℕ, Option, Some, None, Result, Ok, Err, refl, sym, ap}
use Rattle.pn_alarms.specs.declared.device.PduFate.{PduFate}
use Rattle.pn_alarms.specs.declared.device.PduFate.TheVariants as fate
use Rattle.pn_alarms.specs.Message.{ToDevice}
use Rattle.relations.specs.declared.hearing.ReadyAnswer.{ReadyAnswer}
use Rattle.relations.specs.declared.hearing.ReadyAnswer.TheVariants as to_ready
use Rattle.relations.specs.Diagnosed.{beginning}
use Rattle.relations.specs.Exchanged.{heard_by, hearing}
use Rattle.relations.specs.Phases.{updated}
use Rattle.relations.specs.Ready.{handled_by}
use Rattle.relations.specs.RelationState.{RelationState, uuid_of}
use Rattle.records.specs.declared.status.call_fault.CallFault.{CallFault}
use Rattle.device_records.specs.declared.log_data.entry.LogEntry.{LogEntry}
use Rattle.device_core.specs.Asking.{left_asked, released_by}
use Rattle.device_core.specs.Handled.{came_with, count_after, handled_answer, handled_message, handled_pdu}
use Rattle.device_core.specs.Log.{answer_log, connect_log, fate_log, release_log}
use Rattle.device_core.specs.Machine.{end_of}
use Rattle.device_core.specs.State.{Live, Station}
use Rattle.device_core.proofs.Exchanged.{stays_ignored}

-- The relation after the answer to ApplicationReady: once it is confirmed, what exists of diagnosis is reported.
abbrev pub link_behind : Station → Live → ReadyAnswer → Option RelationState
link_behind station live to_ready.NotWanted = live.rest.link
link_behind station live to_ready.Garbled = live.rest.link
link_behind station live to_ready.Confirmed =
    let link = updated (handled_by to_ready.Confirmed) live.rest.link in
    updated (beginning live.rest.real.modules.items live.rest.diagnoses link) link
link_behind station live (to_ready.Refused farewell) = updated (handled_by (to_ready.Refused farewell)) live.rest.link

-- The ARUUID of the relation that ended with the answer, if one did.
abbrev pub refused_by : ReadyAnswer → Option (List ℕ)
refused_by to_ready.NotWanted = None
refused_by to_ready.Garbled = None
refused_by to_ready.Confirmed = None
refused_by (to_ready.Refused farewell) = Some farewell.uuid

-- The rest after it.
pub answer_leaves : (station : Station) (live : Live) (answer : ReadyAnswer)
    → (end_of station live (handled_answer station live answer)).rest
    ≡ record live.rest {
      link = link_behind station live answer;
      log = answer_log answer live.rest.units live.rest.log;
      asked = left_asked (refused_by answer) live.rest.asked;
    }
answer_leaves station live to_ready.NotWanted = refl
answer_leaves station live to_ready.Garbled = refl
answer_leaves station live to_ready.Confirmed = refl
answer_leaves station live (to_ready.Refused farewell) = refl

-- The ARUUID of the relation that ended with a PDU of the partner, if one did.
abbrev pub aborted_by : Option (List ℕ) → PduFate → Option (List ℕ)
aborted_by uuid (fate.Data taken) = None
aborted_by uuid fate.Done = None
aborted_by uuid fate.Ignored = None
aborted_by uuid (fate.Aborted status) = uuid

-- A PDU of the partner.
pdu_leaves : (station : Station) (live : Live) (one : PduFate) (link : Option RelationState) → (one ≡ fate.Ignored → link ≡ live.rest.link)
    → (end_of station live (handled_pdu live one link)).rest
    ≡ record live.rest {
      link = link;
      log = fate_log (uuid_of live.rest.link) one live.rest.units live.rest.log;
      asked = left_asked (aborted_by (uuid_of live.rest.link) one) live.rest.asked;
    }
pdu_leaves station live (fate.Data taken) link stays = refl
pdu_leaves station live fate.Done link stays = refl
pdu_leaves station live fate.Ignored link stays = ap (λ (l : Option RelationState). record live.rest { link = l }) (sym (stays refl))
pdu_leaves station live (fate.Aborted status) link stays = refl

pub message_leaves : (station : Station) (live : Live) (message : ToDevice)
    → (end_of station live (handled_message live message)).rest
    ≡ record live.rest {
      link = updated (hearing message live.rest.link) live.rest.link;
      log = fate_log (uuid_of live.rest.link) (heard_by message live.rest.link) live.rest.units live.rest.log;
      asked = left_asked (aborted_by (uuid_of live.rest.link) (heard_by message live.rest.link)) live.rest.asked;
    }
message_leaves station live message =
    pdu_leaves station live (heard_by message live.rest.link) (updated (hearing message live.rest.link) live.rest.link) (stays_ignored message live.rest.link)

pub released_uuid : (came : Result (Unit {0}) CallFault) (blocks : List ℕ) (uuid : Option (List ℕ)) → released_by (came_with came blocks) uuid ≡ released_by came uuid
released_uuid (Ok it) blocks uuid = refl
released_uuid (Err fault) blocks uuid = refl

-- A Release and a Connect, by the outcome without its blocks.
pub released_log : (uuid : Option (List ℕ)) (came : Result (Unit {0}) CallFault) (blocks : List ℕ) (time : ℕ) (log : List LogEntry)
    → release_log uuid (came_with came blocks) time log ≡ release_log uuid came time log
released_log uuid (Ok it) blocks time log = refl
released_log uuid (Err fault) blocks time log = refl

pub connected_log : (asked : List ℕ) (came : Result (Unit {0}) CallFault) (blocks : List ℕ) (time : ℕ) (log : List LogEntry)
    → connect_log asked (came_with came blocks) time log ≡ connect_log asked came time log
connected_log asked (Ok it) blocks time log = refl
connected_log asked (Err fault) blocks time log = refl

pub connected_count : (came : Result (Unit {0}) CallFault) (blocks : List ℕ) (made : ℕ) → count_after (came_with came blocks) made ≡ count_after came made
connected_count (Ok it) blocks made = refl
connected_count (Err fault) blocks made = refl
