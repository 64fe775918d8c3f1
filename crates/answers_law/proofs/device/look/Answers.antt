-- The octets of a frame are below 256.
use Rattle.std.proofs.Common.{◌<◌, ℕ, get_or, sym, subst}
use Rattle.answers_law.specs.Device.{AreOctets}
use Rattle.answers_law.proofs.device.look.Goals as goal

pub returns-in-Frame : goal.returns-in-Frame
returns-in-Frame c =
    subst AreOctets (sym c.in-Frame.is) (subst (λ l. (k : ℕ) → get_or l k 0 < 256) c.as_slice.ensures.value c.are_octets.ensures)
