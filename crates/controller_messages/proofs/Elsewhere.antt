-- A frame that is not of EtherType 0x8892, or is not addressed to a controller, is not a frame of real-time data to it.
use Rattle.std.proofs.Common.{◌≡◌, false, Result, Ok, Err, subst, sym}
use Rattle.std.specs.Prelude.{nat_eq}
use Rattle.std.specs.Cmp.Lexicographic.{pointwise}
use Rattle.frame_codec.specs.declared.fault.FrameFault.{FrameFault}
use Rattle.frame_codec.specs.Meaning.{IsNoRealTime, Meaning}
use Rattle.plans.specs.declared.parts.Controller.{Controller}
use Rattle.controller_messages.specs.Heard.{IsNoRealTimeTo}

pub other_is_none : (controller : Controller) (read : Result Meaning FrameFault) → IsNoRealTime read → IsNoRealTimeTo controller read
other_is_none controller (Ok meaning) other = λ _. other
other_is_none controller (Err fault) other = tt

pub elsewhere_is_none : (controller : Controller) (read : Result Meaning FrameFault) (meaning : Meaning) → read ≡ Ok meaning
    → pointwise nat_eq meaning.destination.octets controller.mac.octets ≡ false → IsNoRealTimeTo controller read
elsewhere_is_none controller read meaning found other =
    subst (IsNoRealTimeTo controller) (sym found) (λ here. absurd cc)
