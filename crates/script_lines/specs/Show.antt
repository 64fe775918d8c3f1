-- The lines that show the settings, the lamp, and what the controller says.
use Rattle.std.specs.Prelude.{ℕ, List, [], ◌∷◌, ◌++◌, length, ◌==◌, slice_index, codes, decimal, flat_map, if◌then◌else◌, Option, Some, None}
use Rattle.std.specs.Int.RustNames.{bit_and}
use Rattle.hex.specs.Hex.{encode_lower}
use Rattle.pn_values.specs.IpSuite.{Suite}
use Rattle.pn_values.specs.declared.settings.Settings.{Settings}
use Rattle.pn_values.specs.declared.real.Real.{Real}
use Rattle.pn_values.specs.declared.real.RealModule.{RealModule}
use Rattle.pn_values.specs.declared.real.RealSubmodule.{RealSubmodule}
use Rattle.cyclic_data.specs.declared.exchange.exchange.ProviderStatus.{ProviderStatus}
use Rattle.relations.specs.Outputs.{output_of}
use Rattle.relations.specs.Exchanged.{output_in}
use Rattle.relations.specs.RelationState.{RelationState}
use Rattle.relations.specs.declared.phase.Phase.{Phase}
use Rattle.relations.specs.declared.phase.Phase.TheVariants.{Started, Preparing, Awaiting, Exchanging}
use Rattle.controller_core.specs.declared.stored.state.State.{State}
use Rattle.controller_core.specs.declared.stored.state.State.TheVariants.{Looking, Addressing, Connecting, Writing, Ending, Waiting, Ended}
use Rattle.controller_core.specs.declared.stored.state.State.TheVariants as controller
use Rattle.controller_core.specs.stored.State.{Controlling}
use Rattle.controller_core.specs.stored.Cause.{number_of}
use Rattle.diagnosis.specs.declared.diagnosis.Diagnosis.{Diagnosis}
use Rattle.script_lines.specs.Text.{printed}

-- A name, or '-' if there is no name.
unfoldable pub name_line : List ℕ → List ℕ → List ℕ
name_line label name = printed (label ++ (if length name == 0 then codes "-" else name))

-- Four octets as decimal numbers separated by dots.
unfoldable pub dotted : List ℕ → List ℕ
dotted octets =
    decimal (slice_index octets 0) ++ codes "." ++ decimal (slice_index octets 1) ++ codes "." ++ decimal (slice_index octets 2) ++ codes "." ++ decimal (slice_index octets 3)

-- Address, subnet mask and gateway of a suite.
unfoldable pub suite_line : List ℕ → Suite → List ℕ
suite_line label suite = printed (label ++ dotted suite.address ++ codes " " ++ dotted suite.mask ++ codes " " ++ dotted suite.gateway)

-- An I&M text, in hex.
unfoldable pub text_line : List ℕ → List ℕ → List ℕ
text_line label bytes = printed (label ++ encode_lower bytes)

-- The phase of the application relation, if there is one.
abbrev pub phase_word : Option Phase → List ℕ
phase_word None = codes "none"
phase_word (Some Started) = codes "started"
phase_word (Some Preparing) = codes "awaiting"
phase_word (Some Awaiting) = codes "awaiting"
phase_word (Some Exchanging) = codes "exchanging"

-- The line with the phase of the relation.
unfoldable pub phase_line : Option Phase → List ℕ
phase_line phase = printed (codes "phase " ++ phase_word phase)

-- For how many units of time the lamp still flashes.
unfoldable pub lamp_line : ℕ → List ℕ
lamp_line units = printed (codes "lamp " ++ decimal units)

-- The number of units up to and including the next one with which something happens at the device.
unfoldable pub due_line : ℕ → List ℕ
due_line units = printed (codes "due " ++ decimal units)

-- The output of a submodule, in hex.
abbrev pub shown_or : Option (List ℕ) → List ℕ
shown_or (Some value) = value
shown_or None = []

-- The line with an output.
unfoldable pub output_line : ℕ → ℕ → List ℕ → List ℕ
output_line slot subslot value = printed (codes "output " ++ decimal slot ++ codes " " ++ decimal subslot ++ codes " " ++ encode_lower value)

-- The output of a submodule that has one, in hex.
abbrev pub part_shown : Real → Option RelationState → ℕ → RealSubmodule → List ℕ
part_shown real link slot part =
    if part.output == 0 then [] else output_line slot part.subslot (shown_or (output_of real slot part.subslot (output_in slot part.subslot link)))

-- The lines with the outputs of a module.
abbrev pub module_shown : Real → Option RelationState → RealModule → List ℕ
module_shown real link entry = flat_map (part_shown real link entry.slot) entry.submodules.items

-- The outputs of all plugged submodules, in their order.
abbrev pub outputs_shown : Real → Option RelationState → List ℕ
outputs_shown real link = flat_map (module_shown real link) real.modules.items

-- The running settings, the stored name and suite, the relation and the lamp.
abbrev pub shown : Settings → Settings → Option Phase → ℕ → List ℕ
shown running stored phase lamp =
    name_line (codes "name ") running.name
    ++ suite_line (codes "ip ") running.suite
    ++ name_line (codes "stored-name ") stored.name
    ++ suite_line (codes "stored-ip ") stored.suite
    ++ text_line (codes "im1 ") running.im1
    ++ text_line (codes "im2 ") running.im2
    ++ text_line (codes "im3 ") running.im3
    ++ text_line (codes "im4 ") running.im4
    ++ phase_line phase
    ++ lamp_line lamp

-- What the controller says of an output: its IOPS in hex, and whether it runs, by bit 4 of DataStatus, or is stopped; '-'
-- if it said nothing.
abbrev pub provider_word : Option ProviderStatus → List ℕ
provider_word None = codes "-"
provider_word (Some status) =
    encode_lower (status.iops ∷ []) ++ (if bit_and status.data_status.0 16 == 16 then codes " run" else codes " stop")

-- What the controller says of the output of a submodule.
unfoldable pub provider_line : ℕ → ℕ → Option ProviderStatus → List ℕ
provider_line slot subslot status = printed (codes "provider " ++ decimal slot ++ codes " " ++ decimal subslot ++ codes " " ++ provider_word status)

-- The state of the controller.
abbrev pub state_word : State → List ℕ
state_word Looking = codes "looking"
state_word Addressing = codes "addressing"
state_word Connecting = codes "connecting"
state_word Writing = codes "writing"
state_word Ending = codes "ending"
state_word Waiting = codes "waiting"
state_word controller.Exchanging = codes "exchanging"
state_word (Ended cause) = codes "ended " ++ decimal (number_of cause)

-- The line with the state of the controller.
unfoldable pub state_line : State → List ℕ
state_line state = printed (codes "state " ++ state_word state)

-- A diagnosis that the controller knows of: slot, subslot, channel and error.
unfoldable pub stands_line : Diagnosis → List ℕ
stands_line diagnosis =
    printed (codes "stands " ++ decimal diagnosis.slot ++ codes " " ++ decimal diagnosis.subslot ++ codes " " ++ decimal diagnosis.channel ++ codes " " ++ decimal diagnosis.error)

-- All of them; '-' for none.
abbrev pub diagnoses_shown : List Diagnosis → List ℕ
diagnoses_shown diagnoses = if length diagnoses == 0 then printed (codes "stands -") else flat_map stands_line diagnoses

-- The diagnoses that the controller knows of, if there is one.
abbrev pub known_shown : Option Controlling → List ℕ
known_shown None = []
known_shown (Some controller) = diagnoses_shown controller.live.diagnosis.existing

-- The state of the controller, if there is one.
abbrev pub controller_shown : Option Controlling → List ℕ
controller_shown None = []
controller_shown (Some controller) = state_line controller.live.phase
