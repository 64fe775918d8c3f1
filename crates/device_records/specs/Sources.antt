-- What the records of a device are made of.
use Rattle.std.specs.Prelude.{ℕ, List, Option}
use Rattle.std.specs.Option.{option_map}
use Rattle.pn_values.specs.declared.identity.Identity.{Identity}
use Rattle.pn_values.specs.declared.settings.Settings.{Settings}
use Rattle.diagnosis.specs.declared.diagnosis.Diagnosis.{Diagnosis}
use Rattle.lldp.specs.Peer.{Peer}
use Rattle.lldp.specs.Views.{peer_as}
use Rattle.device_records.specs.declared.log_data.entry.LogEntry.{LogEntry}
use Rattle.relations.specs.RelationState.{RelationState}
use Rattle.device_records.specs.declared.sources.Sources.{Sources}

-- The relation, the units since the start of the device, the log, the identity, the running settings, the neighbour, if one is
-- known, and the diagnoses that exist.
pub record Known : Type 0 where
  pub link : Option RelationState
  pub units : ℕ
  pub log : List LogEntry
  pub identity : Identity
  pub settings : Settings
  pub peer : Option Peer
  pub diagnoses : List Diagnosis

-- What the records of a device say of it, from where each value is.
abbrev pub known : Sources → Known
known sources = record {
  link = sources.relation.now;
  units = sources.units;
  log = sources.log.now;
  identity = sources.identity.now;
  settings = sources.settings.now;
  peer = option_map peer_as sources.neighbour.now;
  diagnoses = sources.diagnoses.now;
}
