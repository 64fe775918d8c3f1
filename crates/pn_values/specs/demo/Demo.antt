-- The demo station: its identity, and the modules that are plugged in it.
use Rattle.std.specs.Prelude.{ℕ, List, [], ◌∷◌, codes, replicate}
use Rattle.pn_values.specs.declared.identity.Identity.{Identity}
use Rattle.pn_values.specs.declared.real.Real.{Real}
use Rattle.pn_values.specs.declared.real.RealModule.{RealModule}
use Rattle.pn_values.specs.declared.real.RealSubmodule.{RealSubmodule}

-- the identity: a station 'pn-demo' of vendor 0x0123, version V0.0.0
unfoldable pub demo : Identity
demo = record {
  mac = record { octets = 2 ∷ 0 ∷ 0 ∷ 0 ∷ 0 ∷ 1 ∷ [] };
  station_type = record { items = codes "pn-demo" };
  vendor_id = 0x0123;
  device_id = 0x0456;
  instance = 1;
  order_id = replicate 20 32;
  serial_number = replicate 16 32;
  hardware_revision = 0;
  software_revision = 86 ∷ 0 ∷ 0 ∷ 0 ∷ [];
  profile_id = 0;
  profile_specific_type = 0;
}

-- a submodule without parameter records
abbrev pub plugged : ℕ → ℕ → ℕ → ℕ → RealSubmodule
plugged subslot ident input output =
    record { subslot = subslot; ident = ident; input = input; output = output; parameters = record { items = [] } }

-- a module in a slot, with these submodules
abbrev pub module_of : ℕ → ℕ → List RealSubmodule → RealModule
module_of slot ident submodules = record { slot = slot; ident = ident; submodules = record { items = submodules } }

-- the modules: the access point, two bytes of input, two bytes of output
unfoldable pub demo_real : Real
demo_real = record {
  modules = record {
    items =
        module_of 0 1 (plugged 1 1 0 0 ∷ plugged 0x8000 2 0 0 ∷ plugged 0x8001 3 0 0 ∷ [])
        ∷ module_of 1 16 (plugged 1 16 2 0 ∷ [])
        ∷ module_of 2 32 (plugged 1 32 0 2 ∷ [])
        ∷ [];
  };
}
