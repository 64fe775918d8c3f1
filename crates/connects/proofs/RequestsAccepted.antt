-- The values from a block that is accepted are in their ranges.
use Rattle.std.proofs.Common.{◌≡◌, ◌==◌, ◌||◌, ◌&&◌, ◌*◌, ◌≤◌, ℕ, Bool, true, false, inl, inr, refl, sym, ◌∙◌}
use Rattle.std.specs.Prelude.{nat_le}
use Rattle.std.proofs.lemmas.Bool.{cases_Bool, true≢false}
use Rattle.std.proofs.lemmas.Nat.{mul-le}
use Rattle.connect_blocks.specs.declared.ar_block.ArBlockReq.{ArBlockReq}
use Rattle.connect_blocks.specs.declared.alarm_cr.AlarmCrBlockReq.{AlarmCrBlockReq}
use Rattle.connect_blocks.specs.declared.iocr.IocrType.{IocrType}
use Rattle.connect_blocks.specs.declared.iocr.IocrType.TheVariants.{Input, Output}
use Rattle.connect_blocks.specs.declared.iocr.RtClass.{RtClass}
use Rattle.connect_blocks.specs.declared.iocr.RtClass.TheVariants.{Class1, Class2}
use Rattle.connect_blocks.specs.declared.iocr.IocrBlockReq.{IocrBlockReq}
use Rattle.connect_blocks.specs.ArBlock.{IsArBlockReq}
use Rattle.connect_blocks.specs.AlarmCr.{IsAlarmCrBlockReq}
use Rattle.frame_codec.specs.FrameId.{is_cyclic}
use Rattle.connect_blocks.specs.Iocr.{is_frame_id, IsIocrBlockReq}
use Rattle.cyclic_data.specs.Layout.{Table}
use Rattle.connects.specs.requests.Request.{ar_of, alarm_of, chosen_id, given_id, iocr_of, IsAr, IsAlarmCr, IsIocr}

pub ar_in_range : (block : ArBlockReq) → IsArBlockReq block → IsAr (ar_of block)
ar_in_range block is = record { timeout_least = is.least; timeout_greatest = is.greatest }

pub alarm_in_range : (block : AlarmCrBlockReq) → IsAlarmCrBlockReq block → IsAlarmCr (alarm_of block)
alarm_in_range block is = record { timeout = is.timeout; retries_least = is.retries_least; retries_greatest = is.retries_greatest }

-- If one of two holds and it is not the last, it is the first.
first_of_two : (a b : Bool) → (a || b) ≡ true → b ≡ false → a ≡ true
first_of_two true b some none = refl
first_of_two false b some none = absurd (true≢false (sym some ∙ none))

chosen_cyclic : (class : RtClass) → is_frame_id Input (chosen_id class) ≡ true
chosen_cyclic Class1 = refl
chosen_cyclic Class2 = refl

-- A FrameID that is assigned is one of cyclic frames.
given_cyclic : (kind : IocrType) (class : RtClass) (id : ℕ) → is_frame_id kind id ≡ true → is_frame_id Input (given_id kind class id) ≡ true
given_cyclic Input class id is = is
given_cyclic Output class id is =
    elim (cases_Bool (id == 0xFFFF)) [
      | inl t ↦ rw t (chosen_cyclic class)
      | inr f ↦ rw f (first_of_two (is_cyclic id) (id == 0xFFFF) is f)
    ]

pub iocr_in_range : (block : IocrBlockReq) (layout : Table) → IsIocrBlockReq block → IsIocr (iocr_of block layout)
iocr_in_range block layout is = record {
  id = given_cyclic block.iocr_type block.iocr_properties block.frame_id is.id;
  clock_least = is.clock_least;
  clock_greatest = is.clock_greatest;
  ratio_least = is.ratio_least;
  ratio_greatest = is.ratio_greatest;
  hold_least = is.hold_least;
  hold_greatest = is.hold_greatest;
}

-- The interval, in units of 31.25 microseconds.
pub interval_few : (clock ratio : ℕ) → clock ≤ 128 → ratio ≤ 512 → clock * ratio ≤ 65536
interval_few clock ratio short few = mul-le clock ratio 128 512 short few

-- It fits 32 bits whatever the factors are.
pub interval_fits : (clock ratio : ℕ) → clock ≤ 65535 → ratio ≤ 65535 → clock * ratio ≤ 4294836225
interval_fits clock ratio short few = mul-le clock ratio 65535 65535 short few
