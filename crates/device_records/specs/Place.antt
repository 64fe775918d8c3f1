-- The records of the place of a device in its network: its port, its interface, and both.
use Rattle.std.specs.Prelude.{◌==◌, ◌&&◌, ℕ, List, Option, Some, None, if◌then◌else◌}
use Rattle.pn_values.specs.declared.real.Real.{Real}
use Rattle.device_records.specs.topology.Port.{interface_bytes, network_bytes, port_bytes}
use Rattle.records.specs.declared.reads.listing.Listing.{Listing}
use Rattle.records.specs.declared.reads.listing.Listing.TheVariants as listing
use Rattle.device_records.specs.Sources.{Known}

-- The record of this kind at a slot and subslot: the port is in subslot 0x8001 of slot 0, the interface in 0x8000, and both are
-- returned for any slot and subslot. The other kinds are no records of the place.
abbrev pub place_with : Known → Real → ℕ → ℕ → Listing → Option (List ℕ)
place_with known real slot subslot listing.Port = if slot == 0 && subslot == 0x8001 then Some (port_bytes known.peer) else None
place_with known real slot subslot listing.Interface = if slot == 0 && subslot == 0x8000 then Some (interface_bytes known.identity known.settings) else None
place_with known real slot subslot listing.Network = Some (network_bytes known.identity real known.settings known.peer)
place_with known real slot subslot other = None
