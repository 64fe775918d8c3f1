-- What an alarm of low priority that is sent, a pull and a plug leave of a relation: laws of the crate below.
use Rattle.std.proofs.Common.{◌≡◌, List, Option}
use Rattle.wire.specs.blocks.modules.Lists.{Listed}
use Rattle.connect_blocks.specs.declared.module_diff.DiffModule.{DiffModule}
use Rattle.connect_blocks.specs.declared.module_diff.DiffSubmodule.{DiffSubmodule}
use Rattle.module_diff.specs.declared.changes.RealChange.{RealChange}
use Rattle.module_diff.specs.Changes.{affected_by}
use Rattle.diagnosis.specs.declared.alarms.alarms.SentAlarm.{SentAlarm}
use Rattle.diagnosis.specs.declared.diagnosis.Diagnosis.{Diagnosis}
use Rattle.diagnosis.specs.declared.queue.QueuedAlarm.{QueuedAlarm}
use Rattle.expected_places.specs.Machine.{PlugState, is_hit}
use Rattle.relations.specs.Plugging.{changed_by, flow_reported, places_then, plugs_after, plugs_changed}
use Rattle.relations.specs.RelationState.{RelationState}
use Rattle.end_laws.specs.device.Orderly.{keys_of}
use Rattle.end_laws.specs.device.Turn.{standing_of}

-- a pull or a plug changes the alarms of low priority, and nothing else of what outputs and alarms depend on
abbrev pub StandingSo : Type 0
StandingSo = (rows : Listed DiffModule DiffSubmodule) (made : RealChange) (later : List Diagnosis) (link : RelationState)
    → standing_of (changed_by rows made later link) ≡ record (standing_of link) {
      low = (flow_reported (is_hit (affected_by made) (places_then rows made link)) link.request rows made later link.flow).low;
    }

-- the places of the relation keep their slots and subslots
pub record KeysSo : Type 0 where
  pub sent : (sent : Option SentAlarm) (waiting : List QueuedAlarm) (plugs : PlugState)
      → keys_of (plugs_after sent waiting plugs).places ≡ keys_of plugs.places
  pub changed : (rows : Listed DiffModule DiffSubmodule) (made : RealChange) (plugs : PlugState)
      → keys_of (plugs_changed rows made plugs).places ≡ keys_of plugs.places
  pub standing : StandingSo
