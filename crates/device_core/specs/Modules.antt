-- Modules that come and go: what an event of the application does (IEC 61158-6-10, 4.8). Slot 0, the access point, stays.
use Rattle.std.specs.Prelude.{◌++◌, ℕ, nat_lt, List, [], Option, None, Result, Ok, Err, if◌then◌else◌}
use Rattle.pn_values.specs.declared.real.RealModule.{RealModule}
use Rattle.pn_values.specs.declared.real.RealSubmodule.{RealSubmodule}
use Rattle.module_diff.specs.declared.changes.ChangeKind.TheVariants.{Pull, PullModule, Plug}
use Rattle.module_diff.specs.declared.changes.RealChange.{RealChange}
use Rattle.module_diff.specs.Changes.{affected_by}
use Rattle.module_diff.specs.Plugged.{module_ident, submodule_ident}
use Rattle.module_diff.specs.Diff.{ident_or_zero}
use Rattle.records.specs.declared.status.call_fault.CallFault.{CallFault}
use Rattle.diagnosis.specs.Existing.{remaining}
use Rattle.asked_records.specs.Asked.{dropped_at}
use Rattle.relations.specs.exchange.Statuses.{remaining_statuses}
use Rattle.relations.specs.Plugging.{calling_next, is_alarmed_by, is_called_by, is_calling, modules_changing}
use Rattle.relations.specs.RelationState.{RelationState, flow_of}
use Rattle.device_frames.specs.Relation.{low_alarms_of, plug_calls, where_due}
use Rattle.device_frames.specs.Sent.{Sent}
use Rattle.device_core.specs.State.{Live, Rest}

-- What was pulled takes its diagnoses, its status and what is asked of it with it; the relation goes on with these modules.
abbrev pub changed_rest : Rest → RealChange → List RealModule → Rest
changed_rest rest made real =
    let affected = affected_by made in
    let diagnoses = remaining affected rest.diagnoses in
    record rest {
      real = record { modules = record { items = real } };
      diagnoses = diagnoses;
      statuses = remaining_statuses affected rest.statuses;
      link = modules_changing real made diagnoses rest.link;
      asked = dropped_at affected rest.asked;
    }

-- What is sent then: the alarm of low priority that became active, and after it the ApplicationReady of a plug that was called.
abbrev pub sent_after : Live → RealChange → List RealModule → List Sent
sent_after live made real =
    let rest = changed_rest live.rest made real in
    where_due (is_alarmed_by real made rest.diagnoses live.rest.link) (low_alarms_of (flow_of rest.link))
    ++ where_due (is_called_by real made rest.diagnoses live.rest.link) (plug_calls live.values.running.suite.address rest.link)

-- Slot 0, the access point, stays.
abbrev pub outside : ℕ → Option (List RealModule) → Option (List RealModule)
outside slot real = if nat_lt 0 slot then real else None

-- The pull of a submodule, with the ident numbers of what is plugged.
abbrev pub pull_of : List RealModule → ℕ → ℕ → RealChange
pull_of real slot subslot = record {
  kind = Pull;
  slot = slot;
  subslot = subslot;
  module_ident_number = ident_or_zero (module_ident real slot);
  submodule_ident_number = ident_or_zero (submodule_ident real slot subslot);
}

-- The pull of a module.
abbrev pub slot_pull_of : List RealModule → ℕ → RealChange
slot_pull_of real slot =
    record { kind = PullModule; slot = slot; subslot = 0; module_ident_number = ident_or_zero (module_ident real slot); submodule_ident_number = 0 }

-- A plug, with the ident numbers of what is plugged then.
abbrev pub plug_of : ℕ → ℕ → RealSubmodule → RealChange
plug_of slot ident part =
    record { kind = Plug; slot = slot; subslot = part.subslot; module_ident_number = ident; submodule_ident_number = part.ident }

-- The next ApplicationReady of a plug, if one is called in this relation.
abbrev pub next_call_sent : List ℕ → Option RelationState → List Sent
next_call_sent address link = where_due (is_calling link) (plug_calls address (calling_next link))

-- After a PrmEnd of a plug that is accepted the next ApplicationReady of a plug is called, if one may be. One that is refused changes
-- nothing: it may be the call of any station.
abbrev pub calling_after : {A : Type 0} → Result A CallFault → Option RelationState → Option RelationState
calling_after (Ok it) link = calling_next link
calling_after (Err fault) link = link

-- What is sent then.
abbrev pub call_after : {A : Type 0} → Result A CallFault → List ℕ → Option RelationState → List Sent
call_after (Ok it) address link = next_call_sent address link
call_after (Err fault) address link = []
