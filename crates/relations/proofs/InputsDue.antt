-- An input changes nothing that is due.
use Rattle.std.proofs.Common.{◌≡◌, ℕ, Bool, true, false, List, length, Some, None, option_map, unwrap_or, if◌then◌else◌, refl, ap, subst, sym, ◌∙◌}
use Rattle.cyclic_data.specs.declared.place.PlaceKind.TheVariants.{Data}
use Rattle.cyclic_data.specs.Image.{Shown, cell_at, changed, has_size, with_value}
use Rattle.cyclic_data.specs.exchange.Cyclic.{Cyclic}
use Rattle.relations.specs.declared.steady.Steady.{Steady}
use Rattle.relations.specs.exchange.Flow.{Flow}
use Rattle.relations.specs.exchange.Marks.{awaits}
use Rattle.relations.specs.exchange.Process.{given_at, remarked, with_cyclic, with_input}
use Rattle.relations.specs.Leaps.{due_within}
use Rattle.relations.specs.Phases.{with_flow}
use Rattle.relations.specs.RelationState.{RelationState}
use Rattle.relations.specs.Steady.{IsSteady}
use Rattle.relations.proofs.SteadyKept.{KeepsFlow, stays, still}

abbrev with_shown : Flow → Shown → Cyclic
with_shown flow shown = record flow.cyclic { shown = shown }

settled_kept : (flow : Flow) (slot subslot : ℕ) (shown : Shown) (b : Bool)
    → KeepsFlow flow (if b then remarked (with_cyclic flow (with_shown flow shown)) slot subslot None else with_cyclic flow (with_shown flow shown))
settled_kept flow slot subslot shown true = record { alarms = refl; low = refl; cyclic = record { sending = refl; silent = (still flow.cyclic).silent } }
settled_kept flow slot subslot shown false = record { alarms = refl; low = refl; cyclic = record { sending = refl; silent = (still flow.cyclic).silent } }

sized_kept : (flow : Flow) (slot subslot : ℕ) (shown : Shown) (b : Bool)
    → KeepsFlow flow (unwrap_or (option_map (with_input flow slot subslot) (if b then Some (with_shown flow shown) else None)) flow)
sized_kept flow slot subslot shown true = settled_kept flow slot subslot shown (awaits slot subslot flow.marks)
sized_kept flow slot subslot shown false = record { alarms = refl; low = refl; cyclic = still flow.cyclic }

given_kept : (flow new : Flow) (slot subslot : ℕ) (value : List ℕ) → new ≡ unwrap_or (given_at flow slot subslot value) flow → KeepsFlow flow new
given_kept flow new slot subslot value is =
    subst (KeepsFlow flow) (sym is)
    (sized_kept flow slot subslot (changed Data slot subslot (with_value value) flow.cyclic.shown) (has_size (length value) (cell_at Data slot subslot flow.cyclic.shown.cells)))

pub given_steady : (steady : Steady) (link : RelationState) (slot subslot : ℕ) (value : List ℕ) (new : Flow) → new ≡ unwrap_or (given_at link.flow slot subslot value) link.flow
    → IsSteady steady (Some link) → IsSteady steady (Some (with_flow new link))
given_steady steady link slot subslot value new is old = stays steady link new (given_kept link.flow new slot subslot value is) old

abbrev with_shown_of : RelationState → Shown → Cyclic
with_shown_of link shown = record link.flow.cyclic { shown = shown }

settled_due : (link : RelationState) (slot subslot : ℕ) (shown : Shown) (b : Bool)
    → due_within (Some (with_flow (if b then remarked (with_cyclic link.flow (with_shown_of link shown)) slot subslot None else with_cyclic link.flow (with_shown_of link shown)) link)) ≡ due_within (Some link)
settled_due link slot subslot shown true = refl
settled_due link slot subslot shown false = refl

sized_due : (link : RelationState) (slot subslot : ℕ) (shown : Shown) (b : Bool)
    → due_within (Some (with_flow (unwrap_or (option_map (with_input link.flow slot subslot) (if b then Some (with_shown_of link shown) else None)) link.flow) link)) ≡ due_within (Some link)
sized_due link slot subslot shown true = settled_due link slot subslot shown (awaits slot subslot link.flow.marks)
sized_due link slot subslot shown false = refl

pub given_due : (link : RelationState) (slot subslot : ℕ) (value : List ℕ) (new : Flow) → new ≡ unwrap_or (given_at link.flow slot subslot value) link.flow
    → due_within (Some (with_flow new link)) ≡ due_within (Some link)
given_due link slot subslot value new is =
    ap (λ (flow : Flow). due_within (Some (with_flow flow link))) is
    ∙ sized_due link slot subslot (changed Data slot subslot (with_value value) link.flow.cyclic.shown) (has_size (length value) (cell_at Data slot subslot link.flow.cyclic.shown.cells))
