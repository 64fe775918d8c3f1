-- A Xid has four octets.
use Rattle.std.proofs.Common.{◌<◌, ℕ, get_or, sym, subst}
use Rattle.octets_law.specs.Turns.{IsSmall}
use Rattle.octets_law.proofs.Turned.{small_of}
use Rattle.octets_law.proofs.life.fits.Goals as goal

pub returns-in-Frame : goal.returns-in-Frame
returns-in-Frame c =
    subst IsSmall (sym c.in-Frame.is) (small_of c.in-Frame.frame.items (subst (λ l. (k : ℕ) → get_or l k 0 < 256) c.as_slice.ensures.value c.are_octets.ensures))
