-- Which inputs a device says are good while modules come and go: none of a place that differs or is touched.
use Rattle.std.specs.Prelude.{◌≡◌, ℕ, Bool, false, List, [], ◌∷◌, Option, Some, None, option_map}
use Rattle.wire.specs.blocks.modules.Lists.{Listed}
use Rattle.connect_blocks.specs.declared.module_diff.DiffModule.{DiffModule}
use Rattle.connect_blocks.specs.declared.module_diff.DiffSubmodule.{DiffSubmodule}
use Rattle.connects.specs.requests.Request.{Request}
use Rattle.module_diff.specs.declared.changes.RealChange.{RealChange}
use Rattle.module_diff.specs.Changes.{affected_by}
use Rattle.cyclic_data.specs.declared.place.PlaceKind.TheVariants.{Data, Iocs}
use Rattle.cyclic_data.specs.Image.{cell_at, good}
use Rattle.diagnosis.specs.alarms.Alarms.{Low}
use Rattle.diagnosis.specs.declared.queue.LowChange.{LowChange}
use Rattle.diagnosis.specs.declared.queue.QueuedAlarm.{QueuedAlarm}
use Rattle.expected_places.specs.declared.place.ExpectedPlace.{ExpectedPlace}
use Rattle.expected_places.specs.Calls.{PlugQueue}
use Rattle.expected_places.specs.Machine.{PlugState, ended, opened as plugs_opened}
use Rattle.expected_places.specs.Places.{opened_places, place_at}
use Rattle.relations.specs.exchange.Diagnosis.{with_low}
use Rattle.relations.specs.exchange.Flow.{Flow}
use Rattle.relations.specs.exchange.Marks.{Starting}
use Rattle.relations.specs.exchange.Modules.{is_shut, renewed, restated_flow}
use Rattle.relations.specs.exchange.Opening.{opened}
use Rattle.relations.specs.exchange.Runs.{Event, behind}
use Rattle.relations.specs.declared.plugging.PlugAnswer.{PlugAnswer}
use Rattle.relations.specs.Plugging.{flow_answered, plugs_answered, plugs_changed, plugs_told}

-- The IOPS of a submodule, if it has a place in the inputs.
abbrev pub iops_at : ℕ → ℕ → Flow → Option ℕ
iops_at slot subslot flow = option_map (λ cell. cell.status) (cell_at Data slot subslot flow.cyclic.shown.cells)

-- The IOCS of a submodule, if it has a place in the inputs.
abbrev pub iocs_at : ℕ → ℕ → Flow → Option ℕ
iocs_at slot subslot flow = option_map (λ cell. cell.status) (cell_at Iocs slot subslot flow.cyclic.shown.cells)

-- What happens to the places and the exchange of a relation: a call of the exchange alone; a module came or went, after which these
-- rows list what differs; an alarm of low priority is first sent; the controller ended the parameters of a plug; the calls of plugs
-- are these; and an answer to the active one came.
pub data Moment : Type 0 where
  Alone : (event : Event) → Moment
  Changes : (rows : Listed DiffModule DiffSubmodule) → (made : RealChange) → (begin_bad : Bool) → (low : Low) → Moment
  Tells : (change : LowChange) → (number : ℕ) → (waiting : List QueuedAlarm) → Moment
  Ends : (number : ℕ) → (is_ready : Bool) → Moment
  Calls : (calls : PlugQueue) → Moment
  Hears : (heard : PlugAnswer) → Moment

-- The places after that.
abbrev pub places_past : Moment → PlugState → PlugState
places_past (Alone event) plugs = plugs
places_past (Changes rows made begin_bad low) plugs = plugs_changed rows made plugs
places_past (Tells change number waiting) plugs = plugs_told change number waiting plugs
places_past (Ends number is_ready) plugs = ended number is_ready plugs
places_past (Calls calls) plugs = record plugs { calls = calls }
places_past (Hears heard) plugs = plugs_answered heard plugs

-- The exchange after that, if these are the places then.
abbrev pub flow_past : Moment → PlugState → Flow → Flow
flow_past (Alone event) plugs flow = behind event flow
flow_past (Changes rows made begin_bad low) plugs flow = restated_flow plugs (renewed (affected_by made) begin_bad (with_low flow low))
flow_past (Tells change number waiting) plugs flow = flow
flow_past (Ends number is_ready) plugs flow = flow
flow_past (Calls calls) plugs flow = flow
flow_past (Hears heard) plugs flow = flow_answered heard plugs flow

-- The places after several of these in order.
abbrev pub all_places : List Moment → PlugState → PlugState
all_places [] plugs = plugs
all_places (moment ∷ moments) plugs = all_places moments (places_past moment plugs)

-- And the exchange.
abbrev pub all_past : List Moment → PlugState → Flow → Flow
all_past [] plugs flow = flow
all_past (moment ∷ moments) plugs flow = all_past moments (places_past moment plugs) (flow_past moment (places_past moment plugs) flow)

-- Each slot and subslot is one place.
abbrev pub AreEachOnce : List ExpectedPlace → Type 0
AreEachOnce [] = Unit {0}
AreEachOnce (place ∷ places) = (place_at place.slot place.subslot places ≡ None) × AreEachOnce places

-- From the answer to the Connect on, if that expects each submodule once, for any of these: the IOPS of a submodule is good only if
-- its place neither differs nor is touched.
abbrev pub AreGoodWhereOpen : Type 0
AreGoodWhereOpen = (request : Request) (rows : Listed DiffModule DiffSubmodule) (starting : Starting) (moments : List Moment) (slot subslot : ℕ)
    → AreEachOnce (opened_places request.expected rows)
    → iops_at slot subslot (all_past moments (plugs_opened request.expected rows) (opened request rows starting)) ≡ Some good
    → is_shut (all_places moments (plugs_opened request.expected rows)) slot subslot ≡ false

-- So is the IOCS.
abbrev pub AreConsumedWhereOpen : Type 0
AreConsumedWhereOpen = (request : Request) (rows : Listed DiffModule DiffSubmodule) (starting : Starting) (moments : List Moment) (slot subslot : ℕ)
    → AreEachOnce (opened_places request.expected rows)
    → iocs_at slot subslot (all_past moments (plugs_opened request.expected rows) (opened request rows starting)) ≡ Some good
    → is_shut (all_places moments (plugs_opened request.expected rows)) slot subslot ≡ false
