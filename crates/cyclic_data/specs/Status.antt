-- What a station says of itself in DataStatus of the cyclic frames that it sends (IEC 61158-6-10, 4.7.2.1.3).
use Rattle.std.specs.Prelude.{◌+◌, ℕ, true, false, if◌then◌else◌}
use Rattle.cyclic_data.specs.declared.status.StationState.{StationState}

-- A station that runs and has no problem.
abbrev pub in_order : StationState
in_order = record { is_running = true; has_problem = false }

-- DataStatus of a primary provider whose data is valid: State (bit 0) and DataValid (bit 2) are set, ProviderState (bit 4) if it
-- runs, and StationProblemIndicator (bit 5) if it has no problem.
abbrev pub data_status_of : StationState → ℕ
data_status_of state = 0x05 + (if state.is_running then 0x10 else 0) + (if state.has_problem then 0 else 0x20)
