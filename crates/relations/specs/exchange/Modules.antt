-- What a relation exchanges, if modules come and go.
use Rattle.std.specs.Prelude.{◌&&◌, ◌||◌, ℕ, Bool, false, nat_lt, List, map, if◌then◌else◌}
use Rattle.std.specs.List.{fold}
use Rattle.wire.specs.blocks.modules.Lists.{Listed}
use Rattle.connect_blocks.specs.declared.module_diff.DiffModule.{DiffModule}
use Rattle.connect_blocks.specs.declared.module_diff.DiffSubmodule.{DiffSubmodule}
use Rattle.module_diff.specs.declared.changes.Affected.{Affected}
use Rattle.module_diff.specs.declared.expected.Expected.{Expected}
use Rattle.module_diff.specs.Changes.{covers}
use Rattle.cyclic_data.specs.declared.place.PlaceKind.{PlaceKind}
use Rattle.cyclic_data.specs.declared.place.PlaceKind.TheVariants.{Data, Iocs}
use Rattle.cyclic_data.specs.Image.{good}
use Rattle.cyclic_data.specs.exchange.Cyclic.{Cyclic}
use Rattle.cyclic_data.specs.exchange.Opening.{cleared, restated}
use Rattle.diagnosis.specs.declared.diagnosis.Diagnosis.{Diagnosis}
use Rattle.diagnosis.specs.Queue.{restated as low_restated}
use Rattle.expected_places.specs.Machine.{PlugState, differs_at, is_touched_at}
use Rattle.relations.specs.declared.exchange.marks.Mark.{Mark}
use Rattle.relations.specs.exchange.Diagnosis.{with_low}
use Rattle.relations.specs.exchange.Flow.{Flow}
use Rattle.relations.specs.exchange.Marks.{iops_of, mark_at}

-- The alarms of low priority while these rows list what differs, and these diagnoses exist.
abbrev pub modules_restated : Expected → Listed DiffModule DiffSubmodule → List Diagnosis → Flow → Flow
modules_restated expected rows diagnoses flow = with_low flow (low_restated expected rows diagnoses flow.low)

-- ---- IOPS and IOCS

-- A place whose data is not valid: it differs, or is touched.
abbrev pub is_shut : PlugState → ℕ → ℕ → Bool
is_shut plugs slot subslot = differs_at slot subslot plugs || is_touched_at slot subslot plugs

-- IOPS are those of the marks. IOCS is 0, bad, at a place whose data is not valid, otherwise good.
abbrev pub stated_of : PlugState → List Mark → PlaceKind → ℕ → ℕ → ℕ
stated_of plugs marks Data slot subslot = iops_of (mark_at slot subslot marks)
stated_of plugs marks Iocs slot subslot = if is_shut plugs slot subslot then 0 else good

-- The mark of a place says whether it differs and whether it is touched.
abbrev pub restated_mark : PlugState → Mark → Mark
restated_mark plugs mark = record mark {
  differs = differs_at mark.place.slot mark.place.subslot plugs;
  is_touched = is_touched_at mark.place.slot mark.place.subslot plugs;
}

-- All marks do.
abbrev pub restated_marks : PlugState → List Mark → List Mark
restated_marks plugs marks = map (restated_mark plugs) marks

-- IOPS and IOCS follow the places.
abbrev pub restated_flow : PlugState → Flow → Flow
restated_flow plugs flow =
    let marks = restated_marks plugs flow.marks in
    record flow { marks = marks; cyclic = restated (stated_of plugs marks) flow.cyclic }

-- ---- the inputs of affected places begin again

-- No input was given there, and no status.
abbrev pub renewed_mark : Affected → Bool → Mark → Mark
renewed_mark affected begin_bad mark =
    if covers affected mark.place.slot mark.place.subslot
    then record mark { is_awaited = begin_bad && nat_lt 1 mark.place.size; is_bad = false }
    else mark

-- All marks of affected places begin again.
abbrev pub renewed_marks : Affected → Bool → List Mark → List Mark
renewed_marks affected begin_bad marks = map (renewed_mark affected begin_bad) marks

-- The input of an affected place is zeros.
abbrev pub cleared_at : Affected → Cyclic → Mark → Cyclic
cleared_at affected cyclic mark =
    if covers affected mark.place.slot mark.place.subslot then cleared mark.place.slot mark.place.subslot cyclic else cyclic

-- So is that of each of these places.
abbrev pub all_cleared : Affected → List Mark → Cyclic → Cyclic
all_cleared affected marks cyclic = fold (cleared_at affected) cyclic marks

-- The inputs of affected places are zeros and were not given. Their IOPS is not changed yet.
abbrev pub renewed : Affected → Bool → Flow → Flow
renewed affected begin_bad flow =
    let marks = renewed_marks affected begin_bad flow.marks in
    record flow { marks = marks; cyclic = all_cleared affected marks flow.cyclic }
