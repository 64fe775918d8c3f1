-- An event is handed in as what it is.
use Rattle.std.proofs.Common.{◌≡◌, ◌≤◌, ◌-◌, ◌∙◌, ℕ, zero, suc, List, length, take, Option, Some, None, Result, Ok, Err, sym, ap, subst, inl, inr, arith}
use Rattle.std.specs.Prelude.{◌≢◌}
use Rattle.std.proofs.lemmas.List.{take_all}
use Rattle.arrayvec.specs.ArrayVec.{ArrayVec}
use Rattle.pn_values.specs.declared.real.RealSubmodule.{RealSubmodule}
use Rattle.device_frames.specs.declared.event.Event.{Event}
use Rattle.device_frames.specs.declared.event.Event.TheVariants.{Tick}
use Rattle.device_frames.specs.declared.note.Note.{Note}
use Rattle.device_frames.specs.declared.note.Note.TheVariants.{Done}
use Rattle.device_station.specs.declared.port.device.Passed.{Passed}
use Rattle.device_station.specs.declared.port.refusal.Refusal.{Refusal}
use Rattle.device_station.specs.declared.port.refusal.Refusal.TheVariants.{HasWork}
use Rattle.device_abi.specs.Host.{HandsIn}
use Rattle.device_station.specs.port.Served.{Served, barred_both}
use Rattle.device_station.specs.port.ServedSteps.{AnswersBoth, HearsBoth, PassesBothOrNot, TakesBoth, TicksBoth}

pub answered_in : (old : Served) (event : Event) (result : Result Note Refusal) (new : Served) → AnswersBoth old event result new → HandsIn old event new
answered_in old event (Ok note) new is = inl (is.0, (note, is.1))
answered_in old event (Err refusal) new is = inr ((λ none. let e = sym none ∙ is.0 in cc), is.1)

pub heard_in : (old : Served) (event : Event) (result : Option (Result Note Refusal)) (new : Served) → HearsBoth old event result new → HandsIn old event new
heard_in old event None new is = answered_in old event (Ok Done) new is.0
heard_in old event (Some result) new is = answered_in old event result new is

-- No octet is cut off.
pub whole_in : (make : ArrayVec ℕ → Event) (old new : Served) (bytes : ArrayVec ℕ) (octets : List ℕ) → octets ≡ bytes.items → length octets ≤ 1519
    → HandsIn old (make (record { items = take 1519 octets })) new → HandsIn old (make bytes) new
whole_in make old new bytes octets value fits hands =
    subst (λ (b : List ℕ). HandsIn old (make (record { items = b })) new) (take_all 1519 octets fits ∙ value) hands

-- A copy of a submodule is plugged.
pub copied_in : (make : RealSubmodule → Event) (old new : Served) (copy given : RealSubmodule) → copy ≡ given → HandsIn old (make copy) new → HandsIn old (make given) new
copied_in make old new copy given same hands = subst (λ (part : RealSubmodule). HandsIn old (make part) new) same hands

-- One unit passes, if none is refused.
ticked_by : (left : ℕ) (old new : Served) → barred_both old ≡ None → left ≤ 1 → TicksBoth (1 - left) old new → (left ≢ 0 → barred_both new ≡ Some HasWork) → HandsIn old Tick new
ticked_by zero old new free few ticks stops = inl (free, (ticks.1, subst (λ s. TakesBoth s Tick ticks.1 new) ticks.2 ticks.4))
ticked_by (suc zero) old new free few ticks stops =
    let busy = sym (stops (λ none. absurd (omega (arith, none)))) ∙ ap barred_both ticks ∙ free in cc busy
ticked_by (suc (suc left)) old new free few ticks stops = absurd (omega (arith, few))

pub ticked_in : (old new : Served) (result : Result Passed Refusal) → PassesBothOrNot old 1 result new → HandsIn old Tick new
ticked_in old new (Ok passed) passes = ticked_by passed.left old new passes.0 passes.1.few passes.1.ticks passes.1.stops
ticked_in old new (Err refusal) refused = inr ((λ none. let e = sym none ∙ refused.0 in cc), refused.1)
