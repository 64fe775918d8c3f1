-- Whether an exchange runs changes only as the application says.
use Rattle.std.proofs.Common.{◌≡◌, ℕ, Bool, List, [], ◌∷◌, Option, Some, None, option_map, unwrap_or, cond, true, false, refl, ap, ◌∙◌, inl, inr}
use Rattle.std.proofs.lemmas.Bool.{cases_Bool}
use Rattle.module_diff.specs.Plugged.{module_ident, submodule_ident}
use Rattle.cyclic_data.specs.exchange.Cyclic.{Cyclic}
use Rattle.cyclic_data.specs.exchange.Process.{given_at as cyclic_given}
use Rattle.relations.specs.exchange.Flow.{Flow}
use Rattle.relations.specs.exchange.Marks.{awaits}
use Rattle.relations.specs.exchange.Opening.{opened}
use Rattle.relations.specs.exchange.Notices.{may_raise, raised_by}
use Rattle.relations.specs.exchange.Process.{remarked, with_cyclic, with_input}
use Rattle.relations.specs.exchange.Runs.{Event, Begins, Passes, Comes, Gives, Rates, Raises, Says, Lowers, Turns, behind, behind_all, last_turned, turned_with, RunsAsSaid}

raised_runs : (flow : Flow) (slot subslot : ℕ) (octets : List ℕ) (ident part : Option ℕ)
    → (unwrap_or (raised_by flow slot subslot octets ident part) flow).is_running ≡ flow.is_running
raised_runs flow slot subslot octets (Some ident) (Some part) =
    elim (cases_Bool (may_raise flow octets)) [ inl t ↦ rw t refl | inr t ↦ rw t refl ]
raised_runs flow slot subslot octets (Some ident) None = refl
raised_runs flow slot subslot octets None part = refl

settled_runs : (flow : Flow) (slot subslot : ℕ) (cyclic : Cyclic) (b : Bool)
    → (cond b (remarked (with_cyclic flow cyclic) slot subslot None) (with_cyclic flow cyclic)).is_running ≡ flow.is_running
settled_runs flow slot subslot cyclic true = refl
settled_runs flow slot subslot cyclic false = refl

given_runs : (flow : Flow) (slot subslot : ℕ) (given : Option Cyclic)
    → (unwrap_or (option_map (with_input flow slot subslot) given) flow).is_running ≡ flow.is_running
given_runs flow slot subslot (Some cyclic) = settled_runs flow slot subslot cyclic (awaits slot subslot flow.marks)
given_runs flow slot subslot None = refl

one_runs : (event : Event) (flow : Flow) → (behind event flow).is_running ≡ turned_with event flow.is_running
one_runs Begins flow = refl
one_runs Passes flow = refl
one_runs (Comes source frame_id body) flow = refl
one_runs (Gives slot subslot value) flow = given_runs flow slot subslot (cyclic_given flow.cyclic slot subslot value)
one_runs (Rates slot subslot is_good) flow = refl
one_runs (Raises real slot subslot octets) flow = raised_runs flow slot subslot octets (module_ident real slot) (submodule_ident real slot subslot)
one_runs (Says message) flow = refl
one_runs (Lowers low) flow = refl
one_runs (Turns is_running) flow = refl

all_run : (events : List Event) (flow : Flow) → (behind_all events flow).is_running ≡ last_turned events flow.is_running
all_run [] flow = refl
all_run (event ∷ events) flow = all_run events (behind event flow) ∙ ap (last_turned events) (one_runs event flow)

pub runs_as_said : RunsAsSaid
runs_as_said request rows starting events = all_run events (opened request rows starting)
