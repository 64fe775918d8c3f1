-- What the application of a device gives and gets: inputs, their statuses, and outputs of submodules.
use Rattle.std.specs.Prelude.{ℕ, Bool, List, Option, None, Some, option_map, if◌then◌else◌}
use Rattle.cyclic_data.specs.exchange.Process.{given_at as cyclic_given, stated_at, value_at}
use Rattle.cyclic_data.specs.exchange.Cyclic.{Cyclic}
use Rattle.relations.specs.exchange.Flow.{Flow}
use Rattle.relations.specs.exchange.Marks.{awaits, change_by, iops_of, mark_at, marked}

-- The exchange with other cyclic data.
abbrev pub with_cyclic : Flow → Cyclic → Flow
with_cyclic flow cyclic = record flow { cyclic = cyclic }

-- The marks of the inputs of a submodule change: an input was given, or this status. Its IOPS follows.
abbrev pub remarked : Flow → ℕ → ℕ → Option Bool → Flow
remarked flow slot subslot status =
    let marks = marked slot subslot (change_by status) flow.marks in
    record flow { cyclic = stated_at flow.cyclic slot subslot (iops_of (mark_at slot subslot marks)); marks = marks }

-- The input of a submodule is this from now on, if it has an input of this length. Otherwise nothing changes. If its first
-- input was awaited, it is no longer.
abbrev pub with_input : Flow → ℕ → ℕ → Cyclic → Flow
with_input flow slot subslot cyclic =
    if awaits slot subslot flow.marks then remarked (with_cyclic flow cyclic) slot subslot None else with_cyclic flow cyclic

-- The exchange after the application gave an input, if the submodule has one of that size.
abbrev pub given_at : Flow → ℕ → ℕ → List ℕ → Option Flow
given_at flow slot subslot value = option_map (with_input flow slot subslot) (cyclic_given flow.cyclic slot subslot value)

-- The application says that the inputs of a submodule are good or bad from now on.
abbrev pub rated_at : Flow → ℕ → ℕ → Bool → Flow
rated_at flow slot subslot is_good = remarked flow slot subslot (Some is_good)

-- The application says that it runs or is stopped from now on.
abbrev pub turned : Flow → Bool → Flow
turned flow is_running = record flow { is_running = is_running }

-- The output of a submodule, if it has a place: its data in the last accepted frame. All zeros if no frame was accepted
-- yet, or if the IOPS is not good.
abbrev pub output_at : Flow → ℕ → ℕ → Option (List ℕ)
output_at flow slot subslot = value_at flow.cyclic slot subslot
