-- The options of a controller.
use Rattle.controller_messages.specs.declared.setup.ControllerOptions.{ControllerOptions}

-- The default: no state has a limit.
abbrev pub default_options : ControllerOptions
default_options = record { patience = 0; waiting_patience = 0 }
