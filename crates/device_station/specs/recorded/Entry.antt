-- The call that is handed out.
use Rattle.flash_model.specs.Calls.{Call, Programs, Erases}
use Rattle.device_station.specs.declared.recorded.entry.Recorded.{Recorded}
use Rattle.device_station.specs.declared.recorded.entry.Recorded.TheVariants.{Program, Erase}

-- the call that this represents
abbrev pub call_of : Recorded → Call
call_of (Program sector place bytes) = Programs sector place bytes.now
call_of (Erase sector) = Erases sector
