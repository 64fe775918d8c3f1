-- A module comes or goes: the parts of a relation change one after another, and its exchange does not begin or end.
use Rattle.std.proofs.Common.{◌≡◌, Bool, true, false, ℕ, List, [], ◌∷◌, Option, Some, None, if◌then◌else◌, refl, ◌∙◌}
use Rattle.pn_values.specs.declared.real.RealModule.{RealModule}
use Rattle.wire.specs.blocks.modules.Lists.{Listed}
use Rattle.connect_blocks.specs.declared.module_diff.DiffModule.{DiffModule}
use Rattle.connect_blocks.specs.declared.module_diff.DiffSubmodule.{DiffSubmodule}
use Rattle.connects.specs.requests.Request.{Request}
use Rattle.module_diff.specs.declared.changes.Affected.{Affected}
use Rattle.module_diff.specs.declared.changes.RealChange.{RealChange}
use Rattle.module_diff.specs.Changes.{affected_by, covers}
use Rattle.cyclic_data.specs.exchange.Cyclic.{Cyclic}
use Rattle.cyclic_data.specs.exchange.Opening.{cleared}
use Rattle.diagnosis.specs.declared.diagnosis.Diagnosis.{Diagnosis}
use Rattle.records.specs.declared.writes.taken.TakenRecord.{TakenRecord}
use Rattle.expected_places.specs.Machine.{PlugState, is_hit, is_next_called, next_called}
use Rattle.relations.specs.declared.exchange.marks.Mark.{Mark}
use Rattle.relations.specs.declared.phase.Phase.{Phase}
use Rattle.relations.specs.exchange.Flow.{Flow}
use Rattle.relations.specs.exchange.Modules.{all_cleared, cleared_at, renewed, renewed_marks, restated_flow}
use Rattle.relations.specs.Plugging.{first_sent, flow_reported, is_called_by, is_flow_sent, modules_changing, plugs_after, plugs_changed, rows_now, taken_after}
use Rattle.relations.specs.RelationState.{HasBegunIn, RelationState}

one_cleared : (b : Bool) (slot subslot : ℕ) (cyclic : Cyclic) → (if b then cleared slot subslot cyclic else cyclic).begun ≡ cyclic.begun
one_cleared true slot subslot cyclic = refl
one_cleared false slot subslot cyclic = refl

begun_cleared : (affected : Affected) (marks : List Mark) (cyclic : Cyclic) → (all_cleared affected marks cyclic).begun ≡ cyclic.begun
begun_cleared affected [] cyclic = refl
begun_cleared affected (mark ∷ marks) cyclic =
    begun_cleared affected marks (cleared_at affected cyclic mark)
    ∙ one_cleared (covers affected mark.place.slot mark.place.subslot) mark.place.slot mark.place.subslot cyclic

pub begun_changed : (phase : Option Phase) (plugs : PlugState) (affected : Affected) (begin_bad is_own : Bool) (request : Request) (rows : Listed DiffModule DiffSubmodule)
    (made : RealChange) (diagnoses : List Diagnosis) (flow : Flow) → HasBegunIn phase flow
    → HasBegunIn phase (restated_flow plugs (renewed affected begin_bad (flow_reported is_own request rows made diagnoses flow)))
begun_changed None plugs affected begin_bad is_own request rows made diagnoses flow begun = tt
begun_changed (Some phase) plugs affected begin_bad is_own request rows made diagnoses flow begun =
    begun_cleared affected (renewed_marks affected begin_bad flow.marks) flow.cyclic ∙ begun

-- ---- the whole event, from what each of its steps gave

pub changed_to : (real : List RealModule) (made : RealChange) (diagnoses : List Diagnosis) (link : RelationState) (rows : Listed DiffModule DiffSubmodule)
    (plugs told called : PlugState) (is_own is_sent : Bool) (flow : Flow) (taken : List TakenRecord)
    → rows ≡ rows_now real link → plugs ≡ plugs_changed rows made link.plugs → is_own ≡ is_hit (affected_by made) plugs
    → is_sent ≡ is_flow_sent is_own link.request rows made diagnoses link.flow
    → flow ≡ restated_flow plugs (renewed (affected_by made) link.options.inputs_begin_bad (flow_reported is_own link.request rows made diagnoses link.flow))
    → taken ≡ taken_after (first_sent is_sent flow.low) plugs.places link.taken
    → told ≡ plugs_after (first_sent is_sent flow.low) flow.low.waiting plugs → called ≡ next_called told
    → Some (record link { taken = taken; plugs = called; flow = flow }) ≡ modules_changing real made diagnoses (Some link)
changed_to real made diagnoses link rows plugs told called is_own is_sent flow taken rows_are plugs_are own sent flow_is taken_is told_is called_is =
    rw (called_is, told_is, taken_is, flow_is, sent, own, plugs_are, rows_are) refl

pub called_to : (real : List RealModule) (made : RealChange) (diagnoses : List Diagnosis) (link : RelationState) (rows : Listed DiffModule DiffSubmodule)
    (plugs told : PlugState) (is_own is_sent is_called : Bool) (flow : Flow)
    → rows ≡ rows_now real link → plugs ≡ plugs_changed rows made link.plugs → is_own ≡ is_hit (affected_by made) plugs
    → is_sent ≡ is_flow_sent is_own link.request rows made diagnoses link.flow
    → flow ≡ restated_flow plugs (renewed (affected_by made) link.options.inputs_begin_bad (flow_reported is_own link.request rows made diagnoses link.flow))
    → told ≡ plugs_after (first_sent is_sent flow.low) flow.low.waiting plugs → is_called ≡ is_next_called told
    → is_called ≡ is_called_by real made diagnoses (Some link)
called_to real made diagnoses link rows plugs told is_own is_sent is_called flow rows_are plugs_are own sent flow_is told_is called_is =
    rw (called_is, told_is, flow_is, sent, own, plugs_are, rows_are) refl
