-- The alarms of low priority of a relation: changes of diagnosis, pulls and plugs (IEC 61158-6-10, 4.8 and 5.2.5). `Queue` has
-- how they wait and are sent.
use Rattle.std.specs.Prelude.{ℕ, Bool, false, nat_le, List, [], length, Option, None}
use Rattle.wire.specs.blocks.modules.Lists.{Listed}
use Rattle.connect_blocks.specs.declared.module_diff.DiffModule.{DiffModule}
use Rattle.connect_blocks.specs.declared.module_diff.DiffSubmodule.{DiffSubmodule}
use Rattle.module_diff.specs.declared.expected.Expected.{Expected}
use Rattle.module_diff.specs.Diff.{wanted_in}
use Rattle.diagnosis.specs.Existing.{is_any_in}
use Rattle.diagnosis.specs.declared.diagnosis.Diagnosis.{Diagnosis}
use Rattle.diagnosis.specs.declared.queue.QueuedAlarm.{QueuedAlarm}
use Rattle.diagnosis.specs.declared.alarms.alarms.SentAlarm.{SentAlarm}
use Rattle.pn_alarms.specs.Device.{end_behind, end_later, idle}
use Rattle.pn_alarms.specs.Ends.{DeviceEnd}
use Rattle.pn_alarms.specs.Message.{ToDevice}
use Rattle.diagnosis.specs.declared.alarms.alarms.Terms.{Terms}
use Rattle.diagnosis.specs.declared.alarms.own.Place.{Place}
use Rattle.diagnosis.specs.alarms.Own.{is_own, places_of}

-- The device's end of the alarms of low priority, the changes that wait, the one whose alarm became active last, the submodules of the
-- relation, whether one of them has a diagnosis, and the tag of the frames.
pub record Low : Type 0 where
  pub alarms : DeviceEnd
  pub waiting : List QueuedAlarm
  pub sent : Option SentAlarm
  pub places : List Place
  pub has_problem : Bool
  pub tag : ℕ

-- Those of no relation.
abbrev pub closed : Low
closed = record { alarms = idle 1 1; waiting = []; sent = None; places = []; has_problem = false; tag = 0 }

-- These diagnoses exist.
abbrev pub noted : List Diagnosis → Low → Low
noted diagnoses low = record low { has_problem = is_any_in (is_own low.places) diagnoses }

-- A relation begins with an answer to its Connect.
abbrev pub opened : Terms → Expected → Listed DiffModule DiffSubmodule → List Diagnosis → Low
opened terms expected rows diagnoses = noted diagnoses (record {
  alarms = idle terms.timeout_factor terms.retries;
  waiting = [];
  sent = None;
  places = places_of rows (wanted_in expected.modules.items expected.submodules.items);
  has_problem = false;
  tag = terms.tag;
})

-- The state after a PDU of low priority.
abbrev pub behind : ToDevice → Low → Low
behind message low = record low { alarms = end_behind low.alarms message }

-- The state after a unit of time.
abbrev pub later : Low → Low
later low = record low { alarms = end_later low.alarms }

-- Whether no further change is accepted, since 32 or more wait.
abbrev pub is_full : Low → Bool
is_full low = nat_le 32 (length low.waiting)
