-- The response of a device to the Connect of a plan.
use Rattle.std.specs.Prelude.{◌≡◌, ◌+◌, ◌≤◌, ◌*◌, ℕ, true, false, List, [], ◌∷◌, Some, None}
use Rattle.pn_values.specs.declared.identity.Identity.{Identity}
use Rattle.pn_values.specs.declared.real.Real.{Real}
use Rattle.frame_codec.specs.declared.udp.Caller.{Caller}
use Rattle.records.specs.declared.status.operation.Operation.TheVariants.{Connect}
use Rattle.plans.specs.declared.parts.Controller.{Controller}
use Rattle.plans.specs.declared.parts.Parts.{Parts}
use Rattle.both_ends.specs.startup.request.Request.{request_for}
use Rattle.relations.specs.declared.options.DeviceOptions.{DeviceOptions}
use Rattle.relations.specs.Connect.{connect_answer, connect_blocks}
use Rattle.relations.specs.Numbers.{endpoint_of}
use Rattle.device_frames.specs.Sent.{Sent, bytes_of}
use Rattle.asked_records.specs.declared.names.RecordName.{RecordName}
use Rattle.device_core.specs.State.{Live, Rest, station_named}
use Rattle.device_core.specs.Handled.{Moves, answer_from, handled_new, number_now}
use Rattle.controller_messages.specs.declared.setup.Setup.{Setup}
use Rattle.controller_messages.specs.declared.request.Request.TheVariants as asks
use Rattle.controller_messages.specs.Requests.{blocks_of, call_for}
use Rattle.controller_messages.specs.Sent.{calls_at}
use Rattle.connects.specs.answers.Connect.{Chosen, found_in, nothing}

-- the controller as the caller
abbrev pub caller_of : Controller → Caller
caller_of controller = record { mac = controller.mac; endpoint = calls_at controller.address }

-- A device with these options accepts the interval of this plan.
abbrev pub AcceptsInterval : DeviceOptions → Parts → Type 0
AcceptsInterval options plan = options.smallest_interval ≤ plan.times.send_clock_factor * plan.times.reduction_ratio

-- The message with which a device that has no relation, in which the modules of the plan are plugged, and these options, answers the
-- Connect of the plan from this address, for a relation of this number.
abbrev pub answer_message : Setup → Identity → DeviceOptions → ℕ → List ℕ → Sent
answer_message setup identity options number address =
    answer_from address (caller_of setup.plan.controller) (call_for setup asks.Connect) Connect
    (connect_answer identity setup.plan.real options number setup.plan.controller.mac None (blocks_of setup asks.Connect))

-- The frame of that message.
abbrev pub answer_frame : Setup → Identity → DeviceOptions → ℕ → List ℕ → List ℕ
answer_frame setup identity options number address = bytes_of identity (answer_message setup identity options number address)

-- A device of this identity, in which the modules of the plan are plugged, with any options and no relation, judges a new call with
-- the plan's Connect and sends this message, from its running address, and no other. It may have been given other modules, and its
-- application may answer any records.
abbrev pub AnswersSo : Setup → Identity → Type 0
AnswersSo setup identity = (given : Real) → (options : DeviceOptions) → (named : List RecordName) → (device : Live) → device.rest.link ≡ None
    → device.rest.real ≡ setup.plan.real → (rest : Rest)
    × (handled_new (station_named identity given options named) device (caller_of setup.plan.controller) (call_for setup asks.Connect)
    (blocks_of setup asks.Connect) Connect
    ≡ Moves rest
    (answer_message setup identity options (number_now (station_named identity given options named) device) device.values.running.suite.address ∷ []))

-- the blocks of the response if the device accepts the plan's request: no module differs
abbrev pub answer_blocks : Setup → Identity → ℕ → List ℕ
answer_blocks setup identity number = connect_blocks identity number (request_for setup.plan setup.ar) []

-- These blocks have everything that a relation needs, with this FrameID for outputs and this alarm endpoint, and no module
-- that differs.
abbrev pub IsAllThere : List ℕ → ℕ → ℕ → Type 0
IsAllThere blocks frame_id endpoint =
    found_in 400 blocks nothing ≡ Some (record nothing { relation = true; input = true; output = Some frame_id; alarm = Some endpoint })

-- What such blocks choose in a relation of this number.
abbrev pub chosen_with : ℕ → Chosen
chosen_with number = record { frame_id = 0xC000 + number; reference = endpoint_of number; deviates = false }
