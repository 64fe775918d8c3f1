-- The effect of a command on the settings.
use Rattle.std.specs.Prelude.{[], ◌∷◌, List, replicate, true, false}
use Rattle.pn_values.specs.IpSuite.{zero_suite}
use Rattle.pn_values.specs.declared.settings.Settings.{Settings}
use Rattle.pn_values.specs.declared.im_value.ImValue.{ImValue}
use Rattle.pn_values.specs.declared.im_value.ImValue.TheVariants.{Im1, Im2, Im3, Im4}
use Rattle.pn_values.specs.declared.command.Command.{Command}
use Rattle.pn_values.specs.declared.command.Command.TheVariants.{SetName, SetIp, SetIm, ResetApplication, ResetCommunication, ResetAll}

-- the settings with an I&M text written
abbrev pub written : ImValue → Settings → Settings
written (Im1 text) settings = record settings { im1 = text }
written (Im2 text) settings = record settings { im2 = text }
written (Im3 text) settings = record settings { im3 = text }
written (Im4 text) settings = record settings { im4 = text }

-- the settings with blank I&M texts, and an I&M4 of zeros
abbrev pub without_texts : Settings → Settings
without_texts settings =
    record settings { im1 = replicate 54 32; im2 = replicate 16 32; im3 = replicate 54 32; im4 = replicate 54 0 }

-- the settings with no name and no address
abbrev pub without_address : Settings → Settings
without_address settings = record settings { name = []; suite = zero_suite }

-- what is stored after the command: a value that is not permanent is lost with the power, so the stored value is
-- cleared
abbrev pub apply : Command → Settings → Settings
apply (SetName true name) settings = record settings { name = name }
apply (SetName false name) settings = record settings { name = [] }
apply (SetIp true suite) settings = record settings { suite = suite }
apply (SetIp false suite) settings = record settings { suite = zero_suite }
apply (SetIm value) settings = written value settings
apply ResetApplication settings = without_texts settings
apply ResetCommunication settings = without_address settings
apply ResetAll settings = without_texts (without_address settings)

-- what runs after the command: the value, permanent or not
abbrev pub show : Command → Settings → Settings
show (SetName permanent name) settings = record settings { name = name }
show (SetIp permanent suite) settings = record settings { suite = suite }
show (SetIm value) settings = written value settings
show ResetApplication settings = without_texts settings
show ResetCommunication settings = without_address settings
show ResetAll settings = without_texts (without_address settings)

-- what is stored after several commands, in order
abbrev pub fold_of : List Command → Settings → Settings
fold_of [] settings = settings
fold_of (command ∷ commands) settings = fold_of commands (apply command settings)
