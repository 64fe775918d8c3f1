-- What the response to the Connect means to a controller.
use Rattle.std.specs.Prelude.{◌≡◌, ◌<◌, ◌+◌, ℕ, true, List, Some}
use Rattle.pn_values.specs.declared.identity.Identity.{Identity}
use Rattle.connect_blocks.specs.ArBlock.{is_some_uuid}
use Rattle.relations.specs.declared.options.DeviceOptions.{DeviceOptions}
use Rattle.controller_messages.specs.declared.request.Request.TheVariants.{Connect}
use Rattle.controller_messages.specs.declared.setup.Setup.{Setup}
use Rattle.controller_messages.specs.Requests.{writing_from}
use Rattle.controller_core.specs.declared.stored.event.Event.TheVariants.{Frame}
use Rattle.controller_core.specs.Machine.{placed, standing, turn_of, writing}
use Rattle.controller_core.specs.stored.State.{Live}
use Rattle.relations.specs.Numbers.{endpoint_of}
use Rattle.both_ends.specs.startup.answer.Answer.{AcceptsInterval, IsAllThere, answer_blocks, answer_frame, chosen_with}

-- With the response of a device with any options, from this address, a controller that waits for it goes on: its relation is established
-- with the number that the device gave it, any one below this count.
abbrev pub GoOn : Setup → Identity → List ℕ → ℕ → Type 0
GoOn setup identity address count = (serial : ℕ) → serial < count → is_some_uuid setup.ar ≡ true
    → (options : DeviceOptions) → AcceptsInterval options setup.plan → (live : Live) → live.asked ≡ Some Connect
    → turn_of setup live (Frame (record { items = answer_frame setup identity options serial address }))
    ≡ writing setup (writing_from setup.plan 0) (standing setup (placed setup (answer_blocks setup identity serial) live) (chosen_with serial))

-- The blocks of the response to the Connect, with any number below this count, have everything that a relation needs.
abbrev pub AreWhole : Setup → Identity → ℕ → Type 0
AreWhole setup identity count = (serial : ℕ) → serial < count → IsAllThere (answer_blocks setup identity serial) (0xC000 + serial) (endpoint_of serial)
