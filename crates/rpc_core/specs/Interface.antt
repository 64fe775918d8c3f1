-- The interfaces of PROFINET IO (IEC 61158-6-10, 4.10.3.2.8).
use Rattle.std.specs.Prelude.{ℕ, List, [], ◌∷◌}
use Rattle.rpc_core.specs.declared.interface.Interface.{Interface}
use Rattle.rpc_core.specs.declared.interface.Interface.TheVariants.{Device, Controller}

-- the last octet of the first field, in which the two identifiers differ
abbrev pub interface_digit : Interface → ℕ
interface_digit Device = 1
interface_digit Controller = 2

-- the identifier of an interface
abbrev pub interface_uuid : Interface → List ℕ
interface_uuid interface =
    0xDE ∷ 0xA0 ∷ 0x00 ∷ interface_digit interface ∷ 0x6C ∷ 0x97 ∷ 0x11 ∷ 0xD1 ∷ 0x82 ∷ 0x71 ∷ 0x00 ∷ 0xA0 ∷ 0x24 ∷ 0x42 ∷ 0xDF ∷ 0x7D ∷ []
