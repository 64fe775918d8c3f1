-- What ticks of the services keep.
use Rattle.std.proofs.Common.{◌≡◌, ℕ, zero, suc, refl}
use Rattle.device_station.specs.Serving.{Serving, serving_ticks}

-- Ticks count no conflict, and keep the address.
pub same_conflicts : (ticks : ℕ) (state : Serving) → (serving_ticks ticks state).ip.conflicts ≡ state.ip.conflicts
same_conflicts zero state = refl
same_conflicts (suc ticks) state = same_conflicts ticks state

pub same_address : (ticks : ℕ) (state : Serving) → (serving_ticks ticks state).ip.address ≡ state.ip.address
same_address zero state = refl
same_address (suc ticks) state = same_address ticks state
