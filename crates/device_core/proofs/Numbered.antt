-- The number of a relation that begins now is one that the device may give.
use Rattle.std.proofs.Common.{◌≡◌, ℕ, Option, Some, None, refl, sym, ◌∙◌, arith}
use Rattle.relations.specs.declared.options.DeviceOptions.{DeviceOptions}
use Rattle.relations.specs.Numbers.{IsNumber, number_of}
use Rattle.device_core.specs.State.{Station, Live}
use Rattle.device_core.specs.Handled.{number_now}

numbered_from : (options : DeviceOptions) (made : ℕ) (from : Option ℕ) → options.numbers_from ≡ from → IsNumber options (number_of from made)
numbered_from options made None is = record { few = omega arith; fixed = λ none. refl }
numbered_from options made (Some first) is = record { few = omega arith; fixed = λ none. absurd (never (sym is ∙ none)) }
  where
    never : Some first ≡ None → ⊥
    never same = cc

pub number_is_one : (station : Station) (live : Live) → IsNumber station.options (number_now station live)
number_is_one station live = numbered_from station.options live.rest.made station.options.numbers_from refl
