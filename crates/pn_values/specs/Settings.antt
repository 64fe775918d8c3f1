-- Settings as they leave the factory.
use Rattle.std.specs.Prelude.{[], replicate}
use Rattle.pn_values.specs.IpSuite.{zero_suite}
use Rattle.pn_values.specs.declared.settings.Settings.{Settings}

-- no name, no address, texts of spaces, and an I&M4 of zeros
abbrev pub factory_settings : Settings
factory_settings =
    record { name = []; suite = zero_suite; im1 = replicate 54 32; im2 = replicate 16 32; im3 = replicate 54 32; im4 = replicate 54 0 }
