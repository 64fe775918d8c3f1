-- The numbers of refusals.
use Rattle.std.specs.Prelude.{ℕ}
use Rattle.device_station.specs.declared.port.refusal.Refusal.{Refusal}
use Rattle.device_station.specs.declared.port.refusal.Refusal.TheVariants.{NotBooted, IsBooted, HasWork, BadLength, NoSlot, Foreign, PowerLost}

-- The number of each refusal, as C sees it.
abbrev pub refusal_number : Refusal → ℕ
refusal_number NotBooted = 5
refusal_number IsBooted = 6
refusal_number HasWork = 7
refusal_number BadLength = 8
refusal_number NoSlot = 9
refusal_number Foreign = 11
refusal_number PowerLost = 14
