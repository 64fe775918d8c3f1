-- Events that send nothing, at a controller and what is beside it.
use Rattle.std.proofs.Common.{◌≡◌, ◌≤◌, ℕ, Bool, true, List, [], Option, ap, ◌∙◌, arith}
use Rattle.std.specs.Prelude.{is_some, min, if◌then◌else◌}
use Rattle.frame_codec.specs.Meaning.{Content}
use Rattle.frame_codec.specs.Frame.{frame_of, real_time_in}
use Rattle.services.specs.State.{frames_in}
use Rattle.controller_core.specs.declared.stored.event.Event.TheVariants.{Frame, Give}
use Rattle.controller_core.specs.Machine.{Stepped}
use Rattle.controller_core.specs.Quiet.{IsRealTime, IsSilentStep}
use Rattle.controller_core.specs.stored.State.{Controlling}
use Rattle.controller_station.specs.Beside.{Beside, is_real_time, met, overheard}
use Rattle.controller_station.specs.Runs.{IsSilent, sent_at}
use Rattle.controller_station.specs.Served.{Frames, Served, after_frame, beside_frame}
use Rattle.controller_station.proofs.RealTime.{real_time_unanswered}
use Rattle.controller_station.proofs.Telling.{cyclic_untold}
use Rattle.controller_station.proofs.Told.{framed, untold_all}

abbrev pub served_with : Controlling → Beside → Served
served_with controller services = record { controller = controller; services = services }

abbrev both_sent : List (List ℕ) → List (List ℕ) → Frames
both_sent controller services = record { controller = controller; services = services }

-- A cyclic frame concerns nothing beside.
pub frame_silent : (old : Served) (octets : List ℕ) (new : Controlling) → IsRealTime octets → IsSilentStep old.controller (Frame (record { items = octets })) new
    → IsSilent old (Frame (record { items = octets })) (served_with new old.services)
frame_silent old octets new real silent =
    let is : is_real_time (frame_of octets) ≡ true = ap is_real_time real.read ∙ ap (λ (content : Content). is_some (real_time_in content)) real.content in (
      ap (λ (step : Stepped). served_with step.controller (after_frame old.services octets step.frames)) silent
          ∙ ap (λ (b : Bool). served_with new (if b then old.services else overheard (met old.services octets) octets)) is,
      untold_all old.controller.setup.plan octets (sent_at old (framed octets)) (cyclic_untold old.controller.setup.plan octets real)
          ∙ ap (λ (step : Stepped). both_sent step.frames (beside_frame old.services octets step.frames)) silent
          ∙ ap (λ (answer : Option (List ℕ)). both_sent [] (frames_in answer)) (real_time_unanswered old.services.ip octets real.meaning real.frame_id real.body real.read real.content),
    )

-- Nor does an output.
pub output_silent : (old : Served) (slot subslot : ℕ) (value : List ℕ) (new : Controlling) → IsSilentStep old.controller (Give slot subslot (record { items = value })) new
    → IsSilent old (Give slot subslot (record { items = value })) (served_with new old.services)
output_silent old slot subslot value new silent = (
  ap (λ (step : Stepped). served_with step.controller old.services) silent,
  ap (λ (step : Stepped). both_sent step.frames []) silent,
)

-- If what is due of one is put off, what is due of both comes no earlier.
pub sooner_later : (due later other : ℕ) → due ≤ later → min due other ≤ min later other
sooner_later due later other puts_off = omega (arith, puts_off)
