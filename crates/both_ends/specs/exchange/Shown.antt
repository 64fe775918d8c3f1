-- The outputs of a device, in the worlds of a plan.
use Rattle.std.specs.Prelude.{◌&&◌, ℕ, Bool, false, nat_eq, List, map, Option, Some, None, is_some, Result, Ok, Err, if◌then◌else◌}
use Rattle.std.specs.Cmp.Lexicographic.{pointwise}
use Rattle.pn_values.specs.declared.mac.Mac.{Mac}
use Rattle.pn_values.specs.declared.identity.Identity.{Identity}
use Rattle.connect_blocks.specs.declared.iocr.IocrType.TheVariants.{Output}
use Rattle.cyclic_data.specs.declared.tail.CyclicTail.{CyclicTail}
use Rattle.cyclic_data.specs.declared.tail.ShortFrame.{ShortFrame}
use Rattle.cyclic_data.specs.Image.{Shown as Image, octets_of, with_frame}
use Rattle.cyclic_data.specs.Tail.{cyclic_of}
use Rattle.cyclic_data.specs.declared.exchange.route.Route.{Route}
use Rattle.cyclic_data.specs.exchange.Opening.{first_taken}
use Rattle.relations.specs.declared.options.DeviceOptions.{DeviceOptions}
use Rattle.relations.specs.Numbers.{is_own_id}
use Rattle.relations.specs.exchange.Opening.{route_of}
use Rattle.both_ends.specs.startup.request.Request.{iocr_for, request_for}
use Rattle.relations.specs.RelationState.{RelationState}
use Rattle.device_frames.specs.declared.event.Event.TheVariants.{Frame}
use Rattle.device_frames.specs.Heard.{Heard, Cyclic, heard_of}
use Rattle.controller_messages.specs.declared.setup.Setup.{Setup}
use Rattle.network_world.specs.declared.moves.Move.{Move}
use Rattle.network_world.specs.World.{World}
use Rattle.end_laws.specs.both.Small as small
use Rattle.end_laws.specs.both.Outputs.{Outputs, Shown}
use Rattle.both_ends.specs.startup.View.{move_of}

-- ---- the outputs of a plan

-- what the device of a plan shows before it accepted a frame: zeros, at each place of the plan's outputs
abbrev pub zeros_for : Setup → Image
zeros_for setup = first_taken (iocr_for setup.plan Output).layout

-- the station and the FrameID from which the device of a plan accepts frames in a relation of this number
abbrev pub route_for : ℕ → Setup → Route
route_for number setup = route_of number (request_for setup.plan setup.ar)

-- the octets of outputs of a cyclic frame, if it is long enough
abbrev pub octets_in : Result (List ℕ × CyclicTail) ShortFrame → Option (List ℕ)
octets_in (Ok x) = Some x.0
octets_in (Err short) = None

-- whether a cyclic frame comes from the controller, with a FrameID that a device with these options chooses
abbrev pub is_output : DeviceOptions → Setup → Mac → ℕ → Bool
is_output options setup source frame_id = pointwise nat_eq source.octets setup.plan.controller.mac.octets && is_own_id options frame_id

-- the octets that are brought by what is heard: such a cyclic frame brings some
abbrev pub brought_in : DeviceOptions → Setup → Heard → Option (List ℕ)
brought_in options setup (Cyclic source frame_id body) =
    if is_output options setup source frame_id then octets_in (cyclic_of (zeros_for setup).data_length body) else None
brought_in options setup heard = None

-- the functions for outputs: zeros, what is shown for octets, which octets the controller sends for an image, and which
-- octets a frame brings to a device of this identity with these options
abbrev pub outputs_of : DeviceOptions → Setup → Identity → Outputs Image Image
outputs_of options setup identity = record {
  zeros = zeros_for setup;
  shown_by = λ octets. with_frame octets (zeros_for setup);
  octets_of = octets_of;
  brought_by = λ octets. brought_in options setup (heard_of identity (Frame (record { items = octets })));
}

-- ---- what is shown in a world

-- whether a relation has accepted a cyclic frame: then the counter of the last one is stored
abbrev pub has_accepted : RelationState → Bool
has_accepted link = is_some link.flow.cyclic.hearing.last

-- the image from which the outputs of a relation are read
abbrev pub taken_in : RelationState → Image
taken_in link = link.flow.cyclic.taken

-- whether the relation, if there is one, has accepted a cyclic frame
abbrev pub accepted_in : Option RelationState → Bool
accepted_in None = false
accepted_in (Some link) = has_accepted link

-- the image of the relation; zeros without a relation
abbrev pub image_in : Setup → Option RelationState → Image
image_in setup None = zeros_for setup
image_in setup (Some link) = taken_in link

-- a world, as far as outputs are concerned
abbrev pub shown_of : {F : Type 0} → World F → Shown Image Image
shown_of world = record {
  accepted = accepted_in world.device.live.rest.link;
  outputs = image_in world.controller.setup world.device.live.rest.link;
  given = world.controller.live.cyclic.shown;
  sent = world.sent;
}

-- a run, as far as outputs are concerned
abbrev pub shown_run : {F : Type 0} → List (Move × World F) → List (small.Move × Shown Image Image)
shown_run run = map (λ one. (move_of one.0, shown_of one.1)) run
