-- What is reported of a port.
use Rattle.std.proofs.Common.{◌≡◌, ℕ, List, [], ◌∷◌, Option, Some, None, refl, sym, ap, subst, ◌∙◌}
use Rattle.flash_model.specs.Calls.{Call}
use Rattle.std.specs.Prelude.{if◌then◌else◌, IfSome, min, option_map, Ok}
use Rattle.pn_values.specs.declared.real.Real.{Real}
use Rattle.relations.specs.Outputs.{output_of}
use Rattle.device_station.specs.port.State.{IsUnreported, has_some, waiting}
use Rattle.device_station.specs.port.Refusals.{refusal_number}
use Rattle.device_station.specs.declared.port.refusal.Refusal.{Refusal}
use Rattle.c_layout.specs.declared.op.Op.{Op}
use Rattle.device_station.specs.port.Served.{Served, barred_both, due_both, or_own, waiting_both}
use Rattle.device_station.specs.port.ServedSteps.{PassesBoth}
use Rattle.pn_values.specs.declared.settings.Settings.{Settings}
use Rattle.cyclic_data.specs.declared.exchange.exchange.ProviderStatus.{ProviderStatus}
use Rattle.c_layout.specs.Reported.{with_octets}
use Rattle.device_abi.specs.declared.confirmation.Confirmation.TheVariants.{Nothing}
use Rattle.device_abi.specs.Serves.{IsConflicts, IsDue, IsHanded, IsLeft, IsNumber, IsPassedOn, IsReceivedAt, IsSettings, IsTickWith, IsValue, IsValueOf, settings_octets, with_frame, with_nothing}

-- The next piece of work, as it is reported, is what is handed out.
pub handed_nothing : (calls : List Call) (frames : List (List ℕ)) (asked : Op) (octets : List ℕ) (reported : Op) → calls ≡ [] → frames ≡ [] → octets ≡ [] → reported ≡ with_nothing asked
    → IsHanded calls frames asked octets reported
handed_nothing calls frames asked octets reported no_call no_frame none is =
    subst (λ c. IsHanded c frames asked octets reported) (sym no_call) (subst (λ f. IsHanded [] f asked octets reported) (sym no_frame) (none, is))

pub handed_frame : (calls : List Call) (frames : List (List ℕ)) (frame : List ℕ) (rest : List (List ℕ)) (asked : Op) (octets : List ℕ) (reported : Op) → calls ≡ [] → frames ≡ frame ∷ rest
    → octets ≡ frame → reported ≡ with_frame frame asked → IsHanded calls frames asked octets reported
handed_frame calls frames frame rest asked octets reported none next same is =
    subst (λ c. IsHanded c frames asked octets reported) (sym none) (subst (λ f. IsHanded [] f asked octets reported) (sym next) (same, is))

-- An output that is not reported.
pub unreported : (why : Option Refusal) (value : Option (List ℕ)) (refusal : Refusal) (asked : Op) (answer : ℕ) (reported : Op)
    → IsUnreported why value refusal → answer ≡ refusal_number refusal → reported ≡ asked → IsValueOf why value asked answer reported
unreported (Some late) value refusal asked answer reported is at same = (at ∙ ap refusal_number is, same)
unreported None value refusal asked answer reported is at same =
    subst (λ v. IsValue v asked answer reported) (sym is.0) (at ∙ ap refusal_number is.1, same)

-- An output that was found is the one that is reported without what the controller says of it.
pub received_known : {T : Type 0} (status : T → ProviderStatus) (octets : T → List ℕ) (found : Option T) (real : Real) (slot subslot : ℕ) (inside : Option (List ℕ))
    → IfSome found (λ value. inside ≡ Some (octets value)) → (asked : Op) (answer : ℕ) (reported : Op) → IsReceivedAt (option_map status found) (option_map octets found) asked answer reported
    → IsReceivedAt (option_map status found) (output_of real slot subslot inside) asked answer reported
received_known status octets None real slot subslot inside holds asked answer reported is = is
received_known status octets (Some value) real slot subslot inside holds asked answer reported is =
    subst (λ o. IsReceivedAt (Some (status value)) (output_of real slot subslot o) asked answer reported) (sym holds) is

-- Units that all passed, as they are reported.
pub passed_all : (old new : Served) (asked reported : Op) (answer left due work : ℕ) → barred_both old ≡ None → PassesBoth old asked.units left new → due ≡ due_both new → work ≡ waiting_both new
    → answer ≡ 0 → reported ≡ record asked { units = left; due = due; note = 0; work = work; confirmed = 0 } → IsTickWith Nothing old asked answer new reported
passed_all old new asked reported answer left due work free passes is waits done told = (
  Ok (record { left = left; due = due }),
  (free, passes, is),
  done,
  told ∙ (ap (λ (n : ℕ). let op : Op = record asked { units = left; due = n; note = 0; work = work; confirmed = 0 } in op) is
      ∙ ap (λ (n : ℕ). let op : Op = record asked { units = left; due = due_both new; note = 0; work = n; confirmed = 0 } in op) waits),
)

-- Settings that are reported, or not.
pub settings_told : (why : Option Refusal) (known held : Settings) (asked : Op) (answer : ℕ) (reported : Op) → (why ≡ None) × (held ≡ known) → answer ≡ 0
    → reported ≡ with_octets (settings_octets held) asked → IsSettings why known asked answer reported
settings_told why known held asked answer reported is done told = rw is.0 (done, told ∙ ap (λ settings. with_octets (settings_octets settings) asked) is.1)

pub settings_refused : (why : Option Refusal) (known : Settings) (refusal : Refusal) (asked : Op) (answer : ℕ) (reported : Op) → why ≡ Some refusal → answer ≡ refusal_number refusal
    → reported ≡ asked → IsSettings why known asked answer reported
settings_refused why known refusal asked answer reported is at same = rw is (at, same)

-- A number in its place is reported with the whole operation.
pub due_told : (why : Option Refusal) (due : ℕ) (asked : Op) (answer new : ℕ) → IsNumber why due asked.due answer new → IsDue why due asked answer (record asked { due = new })
due_told (Some refusal) due asked answer new is = (is.0, ap (λ (n : ℕ). record asked { due = n }) is.1)
due_told None due asked answer new is = (is.0, ap (λ (n : ℕ). record asked { due = n }) is.1)

pub passed_told : (why : Option Refusal) (count : ℕ) (asked : Op) (answer new : ℕ) → IsNumber why count asked.count answer new → IsPassedOn why count asked answer (record asked { count = new })
passed_told (Some refusal) count asked answer new is = (is.0, ap (λ (n : ℕ). record asked { count = n }) is.1)
passed_told None count asked answer new is = (is.0, ap (λ (n : ℕ). record asked { count = n }) is.1)

pub left_told : (why : Option Refusal) (left : ℕ) (asked : Op) (answer new : ℕ) → IsNumber why left asked.commits answer new → IsLeft why left asked answer (record asked { commits = new })
left_told (Some refusal) left asked answer new is = (is.0, ap (λ (n : ℕ). record asked { commits = n }) is.1)
left_told None left asked answer new is = (is.0, ap (λ (n : ℕ). record asked { commits = n }) is.1)

pub conflicts_told : (why : Option Refusal) (conflicts : ℕ) (asked : Op) (answer new : ℕ) → IsNumber why (min conflicts 4294967295) asked.count answer new
    → IsConflicts why conflicts asked answer (record asked { count = new })
conflicts_told (Some refusal) conflicts asked answer new is = (is.0, ap (λ (n : ℕ). record asked { count = n }) is.1)
conflicts_told None conflicts asked answer new is = (is.0, ap (λ (n : ℕ). record asked { count = n }) is.1)

pub number_told : (why : Option Refusal) (known old answer new : ℕ) → (why ≡ None) × (new ≡ known) → answer ≡ 0 → IsNumber why known old answer new
number_told why known old answer new is done = rw is.0 (done, is.1)

pub number_refused : (why : Option Refusal) (known : ℕ) (refusal : Refusal) (old answer new : ℕ) → why ≡ Some refusal → answer ≡ refusal_number refusal → new ≡ old → IsNumber why known old answer new
number_refused why known refusal old answer new is at same = rw is (at, same)
