-- The phases of a relation: what moves it, and where to.
use Rattle.std.specs.Prelude.{◌==◌, ℕ, Bool, List, [], length, Option, Some, None, Result, Ok, Err, option_map, if◌then◌else◌}
use Rattle.pn_values.specs.declared.real.RealModule.{RealModule}
use Rattle.module_diff.specs.Diff.{diff_of}
use Rattle.wire.specs.blocks.modules.Lists.{Listed}
use Rattle.connect_blocks.specs.declared.module_diff.DiffModule.{DiffModule}
use Rattle.connect_blocks.specs.declared.module_diff.DiffSubmodule.{DiffSubmodule}
use Rattle.block_codec.specs.declared.block.Block.TheVariants as is
use Rattle.block_codec.specs.Block.{block_bytes}
use Rattle.connects.specs.requests.Request.{Request}
use Rattle.records.specs.declared.status.call_fault.CallFault.{CallFault}
use Rattle.records.specs.declared.status.call_fault.CallFault.TheVariants as fault
use Rattle.records.specs.declared.writes.taken.TakenRecord.{TakenRecord}
use Rattle.records.specs.writes.Taken.{keep_of}
use Rattle.pn_alarms.specs.declared.abort.Abort.{Abort}
use Rattle.expected_places.specs.Machine.{PlugState, opened as plugs_opened}
use Rattle.relations.specs.exchange.Flow.{Flow}
use Rattle.relations.specs.exchange.Marks.{Starting}
use Rattle.relations.specs.exchange.Opening.{begun_of, opened}
use Rattle.relations.specs.declared.phase.Phase.{Phase}
use Rattle.relations.specs.declared.phase.Phase.TheVariants.{Started, Preparing, Awaiting, Exchanging}
use Rattle.relations.specs.declared.phase.Partner.{Partner}
use Rattle.relations.specs.declared.options.DeviceOptions.{DeviceOptions}
use Rattle.relations.specs.Passed.{PassedOn, none_passed, passed_more}
use Rattle.relations.specs.RelationState.{RelationState, is_alive, is_preparing, passes_on}
use Rattle.relations.specs.Timers.{ending_of, unit_later}

-- The parameter records of a relation: those that it keeps, and those that it passed on.
pub record Records : Type 0 where
  pub taken : List TakenRecord
  pub passed : PassedOn

-- The outcome of an event. A Connect is accepted; PrmEnd is accepted, and the application says when it is ready or not;
-- the application says that it is ready; ApplicationReady was confirmed; a call of this station that names the relation is answered
-- positively; one more parameter record is accepted, after which the records are these; the exchange became this; alarms of low
-- priority wait or were sent, after which the exchange, the records and the places are these; a unit of time is over and ends nothing;
-- the relation ended, by Release, a timeout, a reset, the ERR of the controller, or because
-- ApplicationReady was refused; or none of these.
pub data Handled : Type 0 where
  Made : (request : Request) → (partner : Partner) → (rows : Listed DiffModule DiffSubmodule) → (options : DeviceOptions) → (starting : Starting) → Handled
  Parameterized : (by_application : Bool) → Handled
  Prepared : Handled
  Confirmed : Handled
  Named : (source : Partner) → Handled
  Took : (records : Records) → Handled
  Exchanged : (flow : Flow) → Handled
  Reported : (flow : Flow) → (taken : List TakenRecord) → (plugs : PlugState) → Handled
  Passed : Handled
  Ended : Handled
  Unmoved : Handled

-- The ModuleDiffBlock with these rows, which exists exactly if there is a row.
abbrev pub differing_octets : Listed DiffModule DiffSubmodule → List ℕ
differing_octets rows = if length rows.modules == 0 then [] else block_bytes (is.ModuleDiffBlock (record { api = 0; modules = rows }))

-- The ModuleDiffBlock of a relation with these modules: it is made of what its Connect expects and of what is real now.
abbrev pub differing_now : List RealModule → RelationState → List ℕ
differing_now real link = differing_octets (diff_of link.request.expected real)

-- None without a relation.
abbrev pub differing_in : List RealModule → Option RelationState → List ℕ
differing_in real None = []
differing_in real (Some link) = differing_now real link

-- A relation that is established now, if these modules differ, at a device with these options, and if the application says this
-- of its inputs.
abbrev pub made_of : Request → Partner → Listed DiffModule DiffSubmodule → DeviceOptions → Starting → RelationState
made_of request partner rows options starting = record {
  phase = Started;
  request = request;
  partner = partner;
  options = options;
  began = starting.units;
  inactive = 0;
  waited = 0;
  taken = [];
  passed = none_passed;
  plugs = plugs_opened request.expected rows;
  flow = opened request rows starting;
}

-- All its parameters are written. ApplicationReady is sent, unless the application says when it is ready.
abbrev pub phase_behind : Bool → Phase
phase_behind by_application = if by_application then Preparing else Awaiting

-- The relation after PrmEnd.
abbrev pub parameterized_from : Bool → RelationState → RelationState
parameterized_from by_application link = record link { phase = phase_behind by_application; waited = 0 }

-- If it waited for its application, the application is ready, and ApplicationReady is sent. The activity timer goes on.
abbrev pub prepared_from : RelationState → RelationState
prepared_from link = if is_preparing (Some link.phase) then record link { phase = Awaiting; waited = 0 } else link

-- Data is exchanged.
abbrev pub exchanging_from : RelationState → RelationState
exchanging_from link = record link { phase = Exchanging; flow = begun_of link.flow }

-- The activity timer restarts, if a call of this station shows that the controller is alive.
abbrev pub restarted : Partner → RelationState → RelationState
restarted source link = record link { inactive = if is_alive source link then 0 else link.inactive }

-- It has accepted these parameter records.
abbrev pub with_records : Records → RelationState → RelationState
with_records records link = record link { taken = records.taken; passed = records.passed }

-- Its exchange became this.
abbrev pub with_flow : Flow → RelationState → RelationState
with_flow flow link = record link { flow = flow }

-- Its exchange became this, and these records and places follow from an alarm that was sent.
abbrev pub with_reported : Flow → List TakenRecord → PlugState → RelationState → RelationState
with_reported flow taken plugs link = record link { flow = flow; taken = taken; plugs = plugs }

-- The outcome moves the relation.
abbrev pub updated : Handled → Option RelationState → Option RelationState
updated (Made request partner rows options starting) link = Some (made_of request partner rows options starting)
updated (Parameterized by_application) link = option_map (parameterized_from by_application) link
updated Prepared link = option_map prepared_from link
updated Confirmed link = option_map exchanging_from link
updated (Named source) link = option_map (restarted source) link
updated (Took records) link = option_map (with_records records) link
updated (Exchanged flow) link = option_map (with_flow flow) link
updated (Reported flow taken plugs) link = option_map (with_reported flow taken plugs) link
updated Passed link = option_map unit_later link
updated Ended link = None
updated Unmoved link = link

-- ---- the outcome of a unit of time, of a call that is answered positively or not, and of a parameter record that is
-- written

-- What a unit of time does, by whether the relation ends with it.
abbrev pub passing_by : Option Abort → Handled
passing_by (Some reason) = Ended
passing_by None = Passed

-- What a unit of time does to the relation.
abbrev pub passing : Option RelationState → Handled
passing None = Unmoved
passing (Some link) = passing_by (ending_of link)

-- What a call does to the relation: nothing if it is refused.
abbrev pub answered : {A : Type 0} → Handled → Result A CallFault → Handled
answered handled (Ok answer) = handled
answered handled (Err fault) = Unmoved

-- It is kept, if there is room, or passed on.
abbrev pub kept_in : PassedOn → Result (List TakenRecord) CallFault → Result Records CallFault
kept_in passed (Ok taken) = Ok (record { taken = taken; passed = passed })
kept_in passed (Err fault) = Err fault

-- The records after a Write of a parameter record in this relation, or the fault.
abbrev pub keeping : TakenRecord → Option RelationState → Result Records CallFault
keeping parameter None = Err fault.UnknownRelation
keeping parameter (Some link) =
    if passes_on link
    then Ok (record { taken = link.taken; passed = passed_more parameter link.passed })
    else kept_in link.passed (keep_of parameter link.taken)

-- What such a Write does to the relation.
abbrev pub taking : Result Records CallFault → Handled
taking (Ok records) = Took records
taking (Err fault) = Unmoved
